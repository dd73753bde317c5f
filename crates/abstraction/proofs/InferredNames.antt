-- The inferred verdict on one record under new names: the same cause, or the same sort renamed.
use Rattle.std.specs.Prelude.{ℕ, suc, ◌+◌, ◌*◌, ◌-◌, ◌≡◌, Bool, true, false, cond, ◌&&◌, ◌||◌, leb}
use Rattle.std.proofs.Math.Path.{refl, sym, ap}
use Rattle.std.proofs.Common.{ap₂, ◌∙◌}
use mathlib.Core.List.{List, [], ◌∷◌, ◌++◌}
use Rattle.std.proofs.Math.Option.{Option, none, some}
use Rattle.std.proofs.Math.Dec.{eqb}
use Rattle.record.specs.Names.{member, all_members}
use Rattle.record.specs.Sort.{Sort, Sorts, var, par, node, end, ◌then◌, function, real, bitvec, number_in, count, same}
use Rattle.record.specs.Cases.{by_test}
use Rattle.sheet.specs.Sheet.{Binding}
use Rattle.substitution.specs.Substitution.{Map, empty, find}
use Rattle.substitution.specs.Matching.{keep}
use Rattle.substitution.specs.MatchWith.{is_param_bit_vec, is_bit_vec, param_eq, meet_with, towards, match_with, match_all_with}
use Rattle.row_rules.specs.declared.Cause.TheVariants.{Panics}
use Rattle.row_rules.specs.Verdict.{Verdict, sort}
use Rattle.row_rules.specs.Lists.{firsts, others, remaining, joined, appended, binding_sorts, all_but_last}
use Rattle.row_rules.specs.Term.{Site}
use Rattle.infer_rules.specs.declared.Family.{Family}
use Rattle.infer_rules.specs.declared.Family.TheVariants.{Truth, Integer, Decimal, Text, Regular, Vector, OneBit, Bits, Constant, Concat, First, Second, Last, Sum, Element, RareList, Singleton, Tuple, UnitTuple, Transpose, Join, Product}
use Rattle.infer_rules.specs.Family.{family_of}
use Rattle.infer_rules.specs.Inferred.{has_width, first_vector, concat_unknown, concat_from, first_of, second_of, final_of, constant_width, some_real, sum_of, element_of, rare_of, columns, relation, backwards, join_of, product_of, over_columns, over_both, transpose_of, selected}
use Rattle.infer_rules.specs.Inferred.{singleton_of, operated_by, substituted, plain_app, parametric_app, head_app, inferred_app, chosen, inferred_lambda, inferred_binder, matched, extracted, resized_of, resized, width_of, indexed, inferred}
use Rattle.abstraction.specs.Names.{Renames, new_names, renamed, renamed_all, renamed_verdict, renamed_sort, renamed_sorts, renamed_bindings}
use Rattle.abstraction.proofs.NameLaws.{renamed_map, renamed_found, need-renamed, cond-renamed, eqb-names, leaf-renamed, node-renamed, same-renamed, same-stays, member-renamed, count-renamed, number-renamed, kind-renamed, firsts-renamed, others-renamed, remaining-renamed, last-renamed, joined-renamed, appended-renamed, bindings-renamed, find-renamed, apply-renamed, then-renamed, set-renamed, tuples-renamed, but_last-renamed}
use Rattle.abstraction.proofs.CheckedNames.{renamed_site}

module _ (ρ : ℕ → ℕ) (N : Renames ρ) where
  ---------------------------------------------------------------- match_with
  is_param-renamed : (s : Sort) → is_param_bit_vec (renamed ρ s) ≡ is_param_bit_vec s
  unfolding renamed
  is_param-renamed (var v) = refl
  is_param-renamed (par ns b) = refl
  is_param-renamed (node k a w ss) = refl

  is_vector-renamed : (s : Sort) → is_bit_vec (renamed ρ s) ≡ is_bit_vec s
  unfolding renamed
  is_vector-renamed (var v) = refl
  is_vector-renamed (par ns b) = refl
  is_vector-renamed (node k a w ss) = refl

  param_eq-renamed : (s t : Sort) → param_eq (renamed ρ s) (renamed ρ t) ≡ param_eq s t
  unfolding param_eq
  param_eq-renamed s t = rw (same-renamed ρ N s t, is_param-renamed s, is_param-renamed t, is_vector-renamed s, is_vector-renamed t) refl

  all_members-renamed : (us ns : List ℕ) → all_members (new_names ρ us) (new_names ρ ns) ≡ all_members us ns
  unfolding all_members new_names
  all_members-renamed [] ns = refl
  all_members-renamed (u ∷ us) ns = rw (member-renamed ρ N u ns, all_members-renamed us ns) refl

  append-renamed : (ns us : List ℕ) → new_names ρ (ns ++ us) ≡ new_names ρ ns ++ new_names ρ us
  unfolding new_names
  append-renamed [] us = refl
  append-renamed (n ∷ ns) us = ap (λ (l : List ℕ). ρ n ∷ l) (append-renamed ns us)

  cond-found : (b d : Bool) (x y z w : Option Map) → d ≡ b → z ≡ renamed_found ρ x → w ≡ renamed_found ρ y → cond d z w ≡ renamed_found ρ (cond b x y)
  cond-found true d x y z w e f g = rw e f
  cond-found false d x y z w e f g = rw e g

  keep-found : (b d : Bool) (x z : Option Map) → d ≡ b → z ≡ renamed_found ρ x → keep d z ≡ renamed_found ρ (keep b x)
  keep-found true d x z e f = rw e f
  keep-found false d x z e f = rw e refl

  meet-found : (o : Option Sort) (v : ℕ) (t : Sort) (m : Map) → meet_with (renamed_sort ρ o) (ρ v) (renamed ρ t) (renamed_map ρ m) ≡ renamed_found ρ (meet_with o v t m)
  unfolding renamed_map
  meet-found none v t m = refl
  meet-found (some s) v t m = keep-found (param_eq s t) _ (some m) _ (param_eq-renamed s t) refl

  towards-renamed : (ns : List ℕ) (p : Sort) (k a w : ℕ) (f g : Sorts → Map → Option Map) → ((ts : Sorts) (m : Map) → g (renamed_all ρ ts) (renamed_map ρ m) ≡ renamed_found ρ (f ts m))
      → (t : Sort) (m : Map) → towards (new_names ρ ns) (renamed ρ p) k (ρ a) w g (renamed ρ t) (renamed_map ρ m) ≡ renamed_found ρ (towards ns p k a w f t m)
  unfolding towards renamed
  towards-renamed ns p k a w f g h (var v) m = refl
  towards-renamed ns p k a w f g h (par us b) m = keep-found (all_members us ns) _ _ _ (all_members-renamed us ns) (towards-renamed ns p k a w f g h b m)
  towards-renamed ns p k a w f g h (node l c x ts) m =
      cond-found (same p (node l c x ts)) _ _ _ _ _ (same-renamed ρ N p (node l c x ts)) refl
      (cond-found (eqb k l) _ _ _ _ _ refl
      (keep-found (eqb a c && eqb w x) _ _ _ (ap (λ (b : Bool). b && eqb w x) (eqb-names ρ N a c)) (h ts m))
      (keep-found (param_eq p (node l c x ts)) _ _ _ (param_eq-renamed p (node l c x ts)) refl))

  mutual
    unfolding match_with renamed

    with-renamed : (ns : List ℕ) (p t : Sort) (m : Map) → match_with (new_names ρ ns) (renamed ρ p) (renamed ρ t) (renamed_map ρ m) ≡ renamed_found ρ (match_with ns p t m)
    with-renamed ns (var v) t m =
        cond-found (same (var v) t) _ _ _ _ _ (same-renamed ρ N (var v) t) refl
        (cond-found (member v ns) _ _ _ _ _ (member-renamed ρ N v ns) (rw (find-renamed ρ N m v) (meet-found (find m v) v t m)) refl)
    with-renamed ns (par us b) t m =
        cond-found (same (par us b) t) _ _ _ _ _ (same-renamed ρ N (par us b) t) refl
        (ap (λ (l : List ℕ). match_with l (renamed ρ b) (renamed ρ t) (renamed_map ρ m)) (sym (append-renamed ns us)) ∙ with-renamed (ns ++ us) b t m)
    with-renamed ns (node k a w ps) t m =
        towards-renamed ns (node k a w ps) k a w (λ ts n. match_all_with ns ps ts n) (λ ts n. match_all_with (new_names ρ ns) (renamed_all ρ ps) ts n) (λ ts n. with_all-renamed ns ps ts n) t m

    with_all-renamed : (ns : List ℕ) (ps ts : Sorts) (m : Map) → match_all_with (new_names ρ ns) (renamed_all ρ ps) (renamed_all ρ ts) (renamed_map ρ m) ≡ renamed_found ρ (match_all_with ns ps ts m)
    with_all-renamed ns end end m = refl
    with_all-renamed ns end (t then ts) m = refl
    with_all-renamed ns (p then ps) end m = refl
    with_all-renamed ns (p then ps) (t then ts) m =
        rw (with-renamed ns p t m)
        (then-renamed ρ N (match_with ns p t m) (λ n. match_all_with ns ps ts n) (λ n. match_all_with (new_names ρ ns) (renamed_all ρ ps) (renamed_all ρ ts) n) (λ n. with_all-renamed ns ps ts n))

  ---------------------------------------------------------------- operators
  leaf-inferred : (k w : ℕ) → sort (node k 0 w end) ≡ renamed_verdict ρ (sort (node k 0 w end))
  leaf-inferred k w = ap sort (sym (leaf-renamed ρ N k w))

  width_is : (i j : ℕ) → j ≡ i → sort (bitvec j) ≡ renamed_verdict ρ (sort (bitvec i))
  width_is i j e = ap sort (ap bitvec e ∙ sym (leaf-renamed ρ N 9 i))

  cond_both : (b d : Bool) (x y z w : Verdict) → d ≡ b → z ≡ renamed_verdict ρ x → w ≡ renamed_verdict ρ y → cond d z w ≡ renamed_verdict ρ (cond b x y)
  cond_both true d x y z w e f g = rw e f
  cond_both false d x y z w e f g = rw e g

  known-width : (s : Sort) → has_width (renamed ρ s) ≡ has_width s
  known-width s = ap (λ (k : ℕ). eqb k 9) (kind-renamed ρ N s)

  first-renamed : (ss : Sorts) → first_vector (renamed_all ρ ss) ≡ renamed_verdict ρ (first_vector ss)
  unfolding first_vector renamed
  first-renamed end = leaf-inferred 10 0
  first-renamed (s then ss) = cond_both (has_width s) _ _ _ _ _ (known-width s) refl (cond_both (is_param_bit_vec s) _ _ _ _ _ (is_param-renamed s) (first-renamed ss) refl)

  unknown-renamed : (ss : Sorts) → concat_unknown (renamed_all ρ ss) ≡ renamed_verdict ρ (concat_unknown ss)
  unfolding concat_unknown renamed
  unknown-renamed end = leaf-inferred 10 0
  unknown-renamed (s then ss) = cond_both (is_bit_vec s) _ _ _ _ _ (is_vector-renamed s) (unknown-renamed ss) refl

  concat-renamed : (w : ℕ) (ss : Sorts) → concat_from w (renamed_all ρ ss) ≡ renamed_verdict ρ (concat_from w ss)
  unfolding concat_from renamed
  concat-renamed w end = leaf-inferred 9 w
  concat-renamed w (s then ss) =
      cond_both (has_width s) _ _ _ _ _ (known-width s) (ap (λ (i : ℕ). concat_from (w + i) (renamed_all ρ ss)) (number-renamed ρ N s) ∙ concat-renamed (w + number_in s) ss)
      (cond_both (is_param_bit_vec s) _ _ _ _ _ (is_param-renamed s) (unknown-renamed ss) refl)

  first_of-renamed : (ss : Sorts) → first_of (renamed_all ρ ss) ≡ renamed_verdict ρ (first_of ss)
  unfolding renamed
  first_of-renamed end = refl
  first_of-renamed (s then ss) = refl

  second_of-renamed : (ss : Sorts) → second_of (renamed_all ρ ss) ≡ renamed_verdict ρ (second_of ss)
  unfolding renamed
  second_of-renamed end = refl
  second_of-renamed (s then end) = refl
  second_of-renamed (s then (t then ss)) = refl

  final_of-renamed : (ss : Sorts) → final_of (renamed_all ρ ss) ≡ renamed_verdict ρ (final_of ss)
  unfolding renamed
  final_of-renamed end = refl
  final_of-renamed (s then ss) = ap sort (last-renamed ρ N s ss)

  constant-renamed : (cs : List (Option ℕ)) → constant_width cs ≡ renamed_verdict ρ (constant_width cs)
  constant-renamed [] = refl
  constant-renamed (c ∷ []) = refl
  constant-renamed (c ∷ (none ∷ cs)) = leaf-inferred 10 0
  constant-renamed (c ∷ (some w ∷ cs)) = leaf-inferred 9 w

  some_real-renamed : (ss : Sorts) → some_real (renamed_all ρ ss) ≡ some_real ss
  unfolding some_real renamed
  some_real-renamed end = refl
  some_real-renamed (s then ss) = rw (same-stays ρ N s real (leaf-renamed ρ N 5 0), some_real-renamed ss) refl

  sum-renamed : (b : Bool) → sum_of b ≡ renamed_verdict ρ (sum_of b)
  sum-renamed true = leaf-inferred 5 0
  sum-renamed false = leaf-inferred 4 0

  element-renamed : (s : Sort) → element_of (renamed ρ s) ≡ renamed_verdict ρ (element_of s)
  unfolding renamed
  element-renamed (var v) = refl
  element-renamed (par ns b) = refl
  element-renamed (node k a w end) = refl
  element-renamed (node k a w (x then end)) = refl
  element-renamed (node k a w (x then (y then ss))) = cond-renamed ρ (eqb k 8) _ _ _ _ refl refl

  rare-renamed : (ss : Sorts) → rare_of (renamed_all ρ ss) ≡ renamed_verdict ρ (rare_of ss)
  unfolding renamed
  rare-renamed end = ap (λ (v : ℕ). sort (var v)) (sym N.zero-stays)
  rare-renamed (s then ss) = refl

  selected-renamed : (ss : Sorts) → selected (renamed_all ρ ss) ≡ renamed_verdict ρ (selected ss)
  unfolding renamed
  selected-renamed end = refl
  selected-renamed (a then ss) = element-renamed a

  singleton-renamed : (ss : Sorts) → singleton_of (renamed_all ρ ss) ≡ renamed_verdict ρ (singleton_of ss)
  unfolding renamed
  singleton-renamed end = refl
  singleton-renamed (a then ss) = ap sort (sym (set-renamed ρ N a))

  -- Relations.
  columns-renamed : (s : Sort) → columns (renamed ρ s) ≡ renamed_sorts ρ (columns s)
  unfolding renamed
  columns-renamed (var v) = refl
  columns-renamed (par ns b) = refl
  columns-renamed (node k a w end) = refl
  columns-renamed (node k a w (var v then ss)) = refl
  columns-renamed (node k a w (par ns b then ss)) = refl
  columns-renamed (node k a w (node l c x cs then ss)) = by_test (eqb k 14 && eqb l 15) (λ q. rw q refl) (λ q. rw q refl)

  relation-renamed : (cs : Sorts) → relation (renamed_all ρ cs) ≡ renamed_verdict ρ (relation cs)
  relation-renamed cs = ap sort (sym (tuples-renamed ρ N cs))

  backwards-renamed : (ss acc : Sorts) → backwards (renamed_all ρ ss) (renamed_all ρ acc) ≡ renamed_all ρ (backwards ss acc)
  unfolding backwards renamed
  backwards-renamed end acc = refl
  backwards-renamed (s then ss) acc = backwards-renamed ss (s then acc)

  join-renamed : (xs ys : Sorts) → join_of (renamed_all ρ xs) (renamed_all ρ ys) ≡ renamed_verdict ρ (join_of xs ys)
  unfolding renamed
  join-renamed xs end = refl
  join-renamed xs (y then ys) =
      ap relation (ap (λ (l : Sorts). appended l (renamed_all ρ ys)) (but_last-renamed ρ N xs) ∙ appended-renamed ρ N (all_but_last xs) ys) ∙ relation-renamed (appended (all_but_last xs) ys)

  product-renamed : (xs ys : Sorts) → product_of (renamed_all ρ xs) (renamed_all ρ ys) ≡ renamed_verdict ρ (product_of xs ys)
  product-renamed xs ys = ap relation (appended-renamed ρ N xs ys) ∙ relation-renamed (appended xs ys)

  over-renamed : (f g : Sorts → Verdict) → ((cs : Sorts) → g (renamed_all ρ cs) ≡ renamed_verdict ρ (f cs)) → (o : Option Sorts) → over_columns g (renamed_sorts ρ o) ≡ renamed_verdict ρ (over_columns f o)
  over-renamed f g h none = refl
  over-renamed f g h (some cs) = h cs

  both-renamed : (f : Sorts → Sorts → Verdict) → ((xs ys : Sorts) → f (renamed_all ρ xs) (renamed_all ρ ys) ≡ renamed_verdict ρ (f xs ys)) → (ss : Sorts) → over_both f (renamed_all ρ ss) ≡ renamed_verdict ρ (over_both f ss)
  unfolding renamed
  both-renamed f h end = refl
  both-renamed f h (a then end) = refl
  both-renamed f h (a then (b then ss)) =
      rw (columns-renamed a, columns-renamed b)
      (over-renamed (λ xs. over_columns (λ ys. f xs ys) (columns b)) (λ xs. over_columns (λ ys. f xs ys) (renamed_sorts ρ (columns b)))
      (λ xs. over-renamed (λ ys. f xs ys) (λ ys. f (renamed_all ρ xs) ys) (λ ys. h xs ys) (columns b)) (columns a))

  transpose-renamed : (ss : Sorts) → transpose_of (renamed_all ρ ss) ≡ renamed_verdict ρ (transpose_of ss)
  unfolding renamed
  transpose-renamed end = refl
  transpose-renamed (a then ss) =
      rw (columns-renamed a)
      (over-renamed (λ xs. relation (backwards xs end)) (λ xs. relation (backwards xs end)) (λ xs. ap relation (backwards-renamed xs end) ∙ relation-renamed (backwards xs end)) (columns a))

  operated-renamed : (f : Family) (ss : Sorts) (cs : List (Option ℕ)) → operated_by f (renamed_all ρ ss) cs ≡ renamed_verdict ρ (operated_by f ss cs)
  unfolding operated_by renamed
  operated-renamed Truth ss cs = leaf-inferred 3 0
  operated-renamed Integer ss cs = leaf-inferred 4 0
  operated-renamed Decimal ss cs = leaf-inferred 5 0
  operated-renamed Text ss cs = leaf-inferred 6 0
  operated-renamed Regular ss cs = leaf-inferred 7 0
  operated-renamed Vector ss cs = first-renamed ss
  operated-renamed OneBit ss cs = leaf-inferred 9 1
  operated-renamed Bits ss cs = width_is (count ss) (count (renamed_all ρ ss)) (count-renamed ρ N ss)
  operated-renamed Constant ss cs = constant-renamed cs
  operated-renamed Concat ss cs = concat-renamed 0 ss
  operated-renamed First ss cs = first_of-renamed ss
  operated-renamed Second ss cs = second_of-renamed ss
  operated-renamed Last ss cs = final_of-renamed ss
  operated-renamed Sum ss cs = ap sum_of (some_real-renamed ss) ∙ sum-renamed (some_real ss)
  operated-renamed Element ss cs = selected-renamed ss
  operated-renamed RareList ss cs = rare-renamed ss
  operated-renamed Singleton ss cs = singleton-renamed ss
  operated-renamed Tuple ss cs = ap sort (sym (node-renamed ρ N 15 0 ss))
  operated-renamed UnitTuple ss cs = leaf-inferred 15 0
  operated-renamed Transpose ss cs = transpose-renamed ss
  operated-renamed Join ss cs = both-renamed join_of join-renamed ss
  operated-renamed Product ss cs = both-renamed product_of product-renamed ss

  ---------------------------------------------------------------- App
  left-renamed : (ss ts : Sorts) → remaining (others (renamed_all ρ ss) (renamed_all ρ ts)) ≡ renamed ρ (remaining (others ss ts))
  left-renamed ss ts = ap remaining (others-renamed ρ N ss ts) ∙ remaining-renamed ρ N (others ss ts)

  enough-renamed : (ss ts : Sorts) → leb (count (renamed_all ρ ts)) (count (renamed_all ρ ss)) ≡ leb (count ts) (count ss)
  enough-renamed ss ts = ap₂ leb (count-renamed ρ N ts) (count-renamed ρ N ss)

  plain-renamed : (ss ts : Sorts) → plain_app (renamed_all ρ ss) (renamed_all ρ ts) ≡ renamed_verdict ρ (plain_app ss ts)
  unfolding plain_app
  plain-renamed ss ts = need-renamed ρ (leb (count ts) (count ss)) _ Panics _ _ (enough-renamed ss ts) (ap sort (left-renamed ss ts))

  substituted-renamed : (r : Sort) (o : Option Map) → substituted (renamed ρ r) (renamed_found ρ o) ≡ renamed_verdict ρ (substituted r o)
  substituted-renamed r none = refl
  substituted-renamed r (some m) = ap sort (apply-renamed ρ N m r)

  parametric-renamed : (ns : List ℕ) (ss ts : Sorts) → parametric_app (new_names ρ ns) (renamed_all ρ ss) (renamed_all ρ ts) ≡ renamed_verdict ρ (parametric_app ns ss ts)
  unfolding parametric_app renamed_map
  parametric-renamed ns ss ts =
      need-renamed ρ (leb (count ts) (count ss)) _ Panics _ _ (enough-renamed ss ts)
      (rw (left-renamed ss ts, firsts-renamed ρ N ss ts, with_all-renamed ns (firsts ss ts) ts empty) (substituted-renamed (remaining (others ss ts)) (match_all_with ns (firsts ss ts) ts empty)))

  app-renamed : (ts : Sorts) → inferred_app (renamed_all ρ ts) ≡ renamed_verdict ρ (inferred_app ts)
  unfolding renamed
  app-renamed end = refl
  app-renamed (h then ts) = head h
    where
      head : (h : Sort) → head_app (renamed ρ h) (renamed_all ρ ts) ≡ renamed_verdict ρ (head_app h ts)
      head (var v) = refl
      head (par ns (var v)) = refl
      head (par ns (par ms b)) = refl
      head (par ns (node k a w ss)) = cond-renamed ρ (eqb k 0) _ _ _ _ (parametric-renamed ns ss ts) refl
      head (node k a w ss) = cond-renamed ρ (eqb k 0) _ _ _ _ (plain-renamed ss ts) refl

  ---------------------------------------------------------------- binders, Match, indices
  chosen-renamed : (bs : List Binding) → chosen (renamed_bindings ρ bs) ≡ renamed_verdict ρ (chosen bs)
  unfolding renamed_bindings
  chosen-renamed [] = refl
  chosen-renamed (b ∷ bs) = refl

  lambda-renamed : (bs : List Binding) (ss : Sorts) → inferred_lambda (renamed_bindings ρ bs) (renamed_all ρ ss) ≡ renamed_verdict ρ (inferred_lambda bs ss)
  unfolding renamed
  lambda-renamed bs end = refl
  lambda-renamed bs (b then ss) =
      ap sort (ap (λ (l : Sorts). function (joined l (renamed ρ b))) (bindings-renamed ρ N bs) ∙ ap function (joined-renamed ρ N (binding_sorts bs) b)
      ∙ sym (node-renamed ρ N 0 0 (joined (binding_sorts bs) b)))

  binder-renamed : (n : ℕ) (bs : List Binding) (ss : Sorts) → inferred_binder n (renamed_bindings ρ bs) (renamed_all ρ ss) ≡ renamed_verdict ρ (inferred_binder n bs ss)
  unfolding inferred_binder
  binder-renamed n bs ss = cond-renamed ρ (eqb n 3) _ _ _ _ (lambda-renamed bs ss) (cond-renamed ρ (eqb n 2) _ _ _ _ (chosen-renamed bs) (leaf-inferred 3 0))

  matched-renamed : (ss : Sorts) → matched (renamed_all ρ ss) ≡ renamed_verdict ρ (matched ss)
  unfolding renamed
  matched-renamed end = refl
  matched-renamed (s then bodies) = final_of-renamed bodies

  extracted-renamed : (is : List (Option ℕ)) → extracted is ≡ renamed_verdict ρ (extracted is)
  extracted-renamed [] = refl
  extracted-renamed (none ∷ is) = leaf-inferred 10 0
  extracted-renamed (some i ∷ []) = refl
  extracted-renamed (some i ∷ (none ∷ is)) = leaf-inferred 10 0
  extracted-renamed (some i ∷ (some j ∷ is)) = need-renamed ρ (leb j i) _ Panics _ _ refl (leaf-inferred 9 (suc (i - j)))

  resized_of-renamed : (f : ℕ → ℕ) (ss : Sorts) → resized_of f (renamed_all ρ ss) ≡ renamed_verdict ρ (resized_of f ss)
  unfolding renamed
  resized_of-renamed f end = refl
  resized_of-renamed f (a then ss) =
      cond_both (has_width a) _ _ _ _ _ (known-width a) (width_is (f (number_in a)) (f (number_in (renamed ρ a))) (ap f (number-renamed ρ N a)))
      (cond_both (is_param_bit_vec a) _ _ _ _ _ (is_param-renamed a) (leaf-inferred 10 0) refl)

  resized-renamed : (f : ℕ → ℕ → ℕ) (is : List (Option ℕ)) (ss : Sorts) → resized f is (renamed_all ρ ss) ≡ renamed_verdict ρ (resized f is ss)
  resized-renamed f [] ss = refl
  resized-renamed f (none ∷ is) ss = leaf-inferred 10 0
  resized-renamed f (some i ∷ is) ss = resized_of-renamed (λ w. f i w) ss

  width_of-renamed : (is : List (Option ℕ)) → width_of is ≡ renamed_verdict ρ (width_of is)
  width_of-renamed [] = refl
  width_of-renamed (none ∷ is) = leaf-inferred 10 0
  width_of-renamed (some w ∷ is) = leaf-inferred 9 w

  indexed-renamed : (n : ℕ) (is : List (Option ℕ)) (ss : Sorts) → indexed n is (renamed_all ρ ss) ≡ renamed_verdict ρ (indexed n is ss)
  unfolding indexed
  indexed-renamed n is ss =
      cond-renamed ρ (eqb n 0) _ _ _ _ (extracted-renamed is)
      (cond-renamed ρ (eqb n 1) _ _ _ _ (leaf-inferred 3 0)
      (cond-renamed ρ (eqb n 2) _ _ _ _ (leaf-inferred 4 0)
      (cond-renamed ρ (eqb n 3 || eqb n 4) _ _ _ _ (resized-renamed (λ i w. i + w) is ss)
      (cond-renamed ρ (eqb n 5 || eqb n 6) _ _ _ _ (first_of-renamed ss)
      (cond-renamed ρ (eqb n 7) _ _ _ _ (resized-renamed (λ i w. i * w) is ss)
      (cond-renamed ρ (eqb n 9) _ _ _ _ (width_of-renamed is)
      (cond-renamed ρ (eqb n 10 || eqb n 11) _ _ _ _ (leaf-inferred 7 0) refl)))))))

  ---------------------------------------------------------------- the verdict
  -- THE INFERRED VERDICT ON A RECORD DOES NOT MIND THE NAMES.
  pub inferred-renamed : (z : Site) → inferred (renamed_site ρ z) ≡ renamed_verdict ρ (inferred z)
  unfolding inferred
  inferred-renamed z =
      cond-renamed ρ (eqb z.kind 0) _ _ _ _ (leaf-inferred 4 0)
      (cond-renamed ρ (eqb z.kind 1) _ _ _ _ (leaf-inferred 5 0)
      (cond-renamed ρ (eqb z.kind 2) _ _ _ _ (leaf-inferred 6 0)
      (cond-renamed ρ (eqb z.kind 3) _ _ _ _ (leaf-inferred 7 0)
      (cond-renamed ρ (eqb z.kind 4) _ _ _ _ (leaf-inferred 9 z.number)
      (cond-renamed ρ (eqb z.kind 5) _ _ _ _ refl
      (cond-renamed ρ (eqb z.kind 6) _ _ _ _ (app-renamed z.args)
      (cond-renamed ρ (eqb z.kind 7) _ _ _ _ (operated-renamed (family_of z.number) z.args z.constants)
      (cond-renamed ρ (eqb z.kind 8) _ _ _ _ (binder-renamed z.number z.bindings z.args)
      (cond-renamed ρ (eqb z.kind 9) _ _ _ _ (final_of-renamed z.args)
      (cond-renamed ρ (eqb z.kind 10) _ _ _ _ (matched-renamed z.args)
      (cond-renamed ρ (eqb z.kind 11) _ _ _ _ (indexed-renamed z.number z.indices z.args) refl)))))))))))
