-- Sorts under new names: whatever is tested of sorts, or made of them, does not mind the names.
use Prim.Native.Nat.{ℕ, suc}
use Rattle.std.specs.Prelude.{◌≡◌, Bool, true, false, cond, ◌&&◌, eqb}
use Rattle.std.proofs.Math.Path.{refl, sym, ap}
use Rattle.std.proofs.Common.{ap₂, ◌∙◌, eqb-true, eq-eqb, ne_eqb}
use mathlib.Core.List.{List, [], ◌∷◌}
use Rattle.std.proofs.Math.Option.{Option, none, some}
use Rattle.std.proofs.lemmas.Bool.{eqb-false}
use Rattle.record.specs.Names.{member}
use Rattle.record.specs.Sort.{Sort, Sorts, var, par, node, end, ◌then◌, number_in, kind_of, count, same_names, same, same_all, parts_of, set, tuple}
use Rattle.record.specs.Cases.{by_test, by_option}
use Rattle.sheet.specs.Sheet.{Binding}
use Rattle.substitution.specs.Substitution.{Map, empty, bind, find, bound, left, under, apply, apply_all}
use Rattle.substitution.specs.Matching.{keep, and_then, meet, matches, matches_all}
use Rattle.substitution.specs.Premises.{proper, proper_all}
use Rattle.row_rules.specs.declared.Cause.{Cause}
use Rattle.row_rules.specs.Verdict.{Verdict, need}
use Rattle.row_rules.specs.Lists.{firsts, others, remaining, last_of, joined, appended, binding_sorts, all_but_last}
use Rattle.check_rules.specs.Forms.{backwards, first_part, element_of, columns}
use Rattle.abstraction.specs.Names.{Renames, new_names, renamed, renamed_all, renamed_verdict, renamed_sort, renamed_bindings}

-- A map with its names and images renamed, and what is found in it.
unfoldable pub renamed_map : (ℕ → ℕ) → Map → Map
unfolding renamed
renamed_map ρ empty = empty
renamed_map ρ (bind v s m) = bind (ρ v) (renamed ρ s) (renamed_map ρ m)

abbrev pub renamed_found : (ℕ → ℕ) → Option Map → Option Map
renamed_found ρ none = none
renamed_found ρ (some m) = some (renamed_map ρ m)

-- Verdicts by cases.
pub need-renamed : (ρ : ℕ → ℕ) (b d : Bool) (c : Cause) (v w : Verdict) → d ≡ b → w ≡ renamed_verdict ρ v → need d c w ≡ renamed_verdict ρ (need b c v)
need-renamed ρ true d c v w e f = rw e f
need-renamed ρ false d c v w e f = rw e refl

pub cond-renamed : (ρ : ℕ → ℕ) (b : Bool) (x y z w : Verdict) → z ≡ renamed_verdict ρ x → w ≡ renamed_verdict ρ y → cond b z w ≡ renamed_verdict ρ (cond b x y)
cond-renamed ρ true x y z w e f = e
cond-renamed ρ false x y z w e f = f

module _ (ρ : ℕ → ℕ) (N : Renames ρ) where
  pub eqb-names : (u v : ℕ) → eqb (ρ u) (ρ v) ≡ eqb u v
  eqb-names u v =
      by_test (eqb u v)
      (λ q. eq-eqb (ρ u) (ρ v) (ap ρ (eqb-true u v q)) ∙ sym q)
      (λ q. ne_eqb (ρ u) (ρ v) (λ e. eqb-false u v q (N.one u v e)) ∙ sym q)

  -- A sort without names stays.
  pub leaf-renamed : (k w : ℕ) → renamed ρ (node k 0 w end) ≡ node k 0 w end
  unfolding renamed
  leaf-renamed k w = ap (λ (a : ℕ). node k a w end) N.zero-stays

  pub node-renamed : (k w : ℕ) (ss : Sorts) → renamed ρ (node k 0 w ss) ≡ node k 0 w (renamed_all ρ ss)
  unfolding renamed
  node-renamed k w ss = ap (λ (a : ℕ). node k a w (renamed_all ρ ss)) N.zero-stays

  ---------------------------------------------------------------- tests
  pub same_names-renamed : (ms ns : List ℕ) → same_names (new_names ρ ms) (new_names ρ ns) ≡ same_names ms ns
  unfolding same_names new_names
  same_names-renamed [] [] = refl
  same_names-renamed [] (n ∷ ns) = refl
  same_names-renamed (m ∷ ms) [] = refl
  same_names-renamed (m ∷ ms) (n ∷ ns) = rw (eqb-names m n, same_names-renamed ms ns) refl

  mutual
    unfolding same renamed

    pub same-renamed : (r s : Sort) → same (renamed ρ r) (renamed ρ s) ≡ same r s
    same-renamed (var u) (var v) = eqb-names u v
    same-renamed (var u) (par ns b) = refl
    same-renamed (var u) (node k a w ss) = refl
    same-renamed (par ms c) (var v) = refl
    same-renamed (par ms c) (par ns b) = rw (same_names-renamed ms ns, same-renamed c b) refl
    same-renamed (par ms c) (node k a w ss) = refl
    same-renamed (node l c x rs) (var v) = refl
    same-renamed (node l c x rs) (par ns b) = refl
    same-renamed (node l c x rs) (node k a w ss) = rw (eqb-names c a, same_all-renamed rs ss) refl

    pub same_all-renamed : (rs ss : Sorts) → same_all (renamed_all ρ rs) (renamed_all ρ ss) ≡ same_all rs ss
    same_all-renamed end end = refl
    same_all-renamed end (s then ss) = refl
    same_all-renamed (r then rs) end = refl
    same_all-renamed (r then rs) (s then ss) = rw (same-renamed r s, same_all-renamed rs ss) refl

  -- A sort against one that stays.
  pub same-stays : (r s : Sort) → renamed ρ s ≡ s → same (renamed ρ r) s ≡ same r s
  same-stays r s e = ap (λ (x : Sort). same (renamed ρ r) x) (sym e) ∙ same-renamed r s

  pub member-renamed : (v : ℕ) (ns : List ℕ) → member (ρ v) (new_names ρ ns) ≡ member v ns
  unfolding member new_names
  member-renamed v [] = refl
  member-renamed v (n ∷ ns) = rw (eqb-names n v, member-renamed v ns) refl

  pub count-renamed : (ss : Sorts) → count (renamed_all ρ ss) ≡ count ss
  unfolding count renamed
  count-renamed end = refl
  count-renamed (s then ss) = ap suc (count-renamed ss)

  pub number-renamed : (s : Sort) → number_in (renamed ρ s) ≡ number_in s
  unfolding renamed
  number-renamed (var v) = refl
  number-renamed (par ns b) = refl
  number-renamed (node k a w ss) = refl

  pub kind-renamed : (s : Sort) → kind_of (renamed ρ s) ≡ kind_of s
  unfolding renamed
  kind-renamed (var v) = refl
  kind-renamed (par ns b) = refl
  kind-renamed (node k a w ss) = refl

  mutual
    unfolding proper renamed

    pub proper-renamed : (s : Sort) → proper (renamed ρ s) ≡ proper s
    proper-renamed (var v) = refl
    proper-renamed (par ns b) = refl
    proper-renamed (node k a w ss) = rw (proper_all-renamed ss) refl

    pub proper_all-renamed : (ss : Sorts) → proper_all (renamed_all ρ ss) ≡ proper_all ss
    proper_all-renamed end = refl
    proper_all-renamed (s then ss) = rw (proper-renamed s, proper_all-renamed ss) refl

  ---------------------------------------------------------------- lists
  pub firsts-renamed : (ss ts : Sorts) → firsts (renamed_all ρ ss) (renamed_all ρ ts) ≡ renamed_all ρ (firsts ss ts)
  unfolding firsts renamed
  firsts-renamed end end = refl
  firsts-renamed (s then ss) end = refl
  firsts-renamed end (t then ts) = refl
  firsts-renamed (s then ss) (t then ts) = ap (λ (rs : Sorts). renamed ρ s then rs) (firsts-renamed ss ts)

  pub others-renamed : (ss ts : Sorts) → others (renamed_all ρ ss) (renamed_all ρ ts) ≡ renamed_all ρ (others ss ts)
  unfolding others renamed
  others-renamed end end = refl
  others-renamed (s then ss) end = refl
  others-renamed end (t then ts) = refl
  others-renamed (s then ss) (t then ts) = others-renamed ss ts

  pub remaining-renamed : (ss : Sorts) → remaining (renamed_all ρ ss) ≡ renamed ρ (remaining ss)
  unfolding renamed
  remaining-renamed end = sym (node-renamed 0 0 end)
  remaining-renamed (s then end) = refl
  remaining-renamed (s then (r then rs)) = sym (node-renamed 0 0 (s then r then rs))

  pub last-renamed : (s : Sort) (ss : Sorts) → last_of (renamed ρ s) (renamed_all ρ ss) ≡ renamed ρ (last_of s ss)
  unfolding last_of renamed
  last-renamed s end = refl
  last-renamed s (r then rs) = last-renamed r rs

  pub joined-renamed : (ss : Sorts) (b : Sort) → joined (renamed_all ρ ss) (renamed ρ b) ≡ renamed_all ρ (joined ss b)
  unfolding joined renamed
  joined-renamed end b = refl
  joined-renamed (s then ss) b = ap (λ (rs : Sorts). renamed ρ s then rs) (joined-renamed ss b)

  pub appended-renamed : (ss ts : Sorts) → appended (renamed_all ρ ss) (renamed_all ρ ts) ≡ renamed_all ρ (appended ss ts)
  unfolding appended renamed
  appended-renamed end ts = refl
  appended-renamed (s then ss) ts = ap (λ (rs : Sorts). renamed ρ s then rs) (appended-renamed ss ts)

  pub but_last-renamed : (ss : Sorts) → all_but_last (renamed_all ρ ss) ≡ renamed_all ρ (all_but_last ss)
  unfolding all_but_last renamed
  but_last-renamed end = refl
  but_last-renamed (s then end) = refl
  but_last-renamed (s then (r then rs)) = ap (λ (xs : Sorts). renamed ρ s then xs) (but_last-renamed (r then rs))

  pub backwards-renamed : (ss : Sorts) → backwards (renamed_all ρ ss) ≡ renamed_all ρ (backwards ss)
  unfolding backwards renamed
  backwards-renamed end = refl
  backwards-renamed (s then ss) = ap (λ (rs : Sorts). joined rs (renamed ρ s)) (backwards-renamed ss) ∙ joined-renamed (backwards ss) s

  pub bindings-renamed : (bs : List Binding) → binding_sorts (renamed_bindings ρ bs) ≡ renamed_all ρ (binding_sorts bs)
  unfolding binding_sorts renamed_bindings renamed
  bindings-renamed [] = refl
  bindings-renamed (b ∷ bs) = ap (λ (rs : Sorts). renamed ρ b.sort then rs) (bindings-renamed bs)

  ---------------------------------------------------------------- sets and relations
  parts-renamed : (s : Sort) → parts_of (renamed ρ s) ≡ renamed_all ρ (parts_of s)
  unfolding renamed
  parts-renamed (var v) = refl
  parts-renamed (par ns b) = refl
  parts-renamed (node k a w ss) = refl

  first-renamed : (ss : Sorts) → first_part (renamed_all ρ ss) ≡ renamed ρ (first_part ss)
  unfolding renamed
  first-renamed end = sym (leaf-renamed 4 0)
  first-renamed (s then ss) = refl

  pub element-renamed : (s : Sort) → element_of (renamed ρ s) ≡ renamed ρ (element_of s)
  element-renamed s = ap first_part (parts-renamed s) ∙ first-renamed (parts_of s)

  pub columns-renamed : (s : Sort) → columns (renamed ρ s) ≡ renamed_all ρ (columns s)
  columns-renamed s = ap parts_of (element-renamed s) ∙ parts-renamed (element_of s)

  pub set-renamed : (s : Sort) → renamed ρ (set s) ≡ set (renamed ρ s)
  unfolding renamed
  set-renamed s = node-renamed 14 0 (s then end)

  pub tuples-renamed : (cs : Sorts) → renamed ρ (set (tuple cs)) ≡ set (tuple (renamed_all ρ cs))
  tuples-renamed cs = set-renamed (tuple cs) ∙ ap set (node-renamed 15 0 cs)

  ---------------------------------------------------------------- substitution and matching
  pub find-renamed : (m : Map) (v : ℕ) → find (renamed_map ρ m) (ρ v) ≡ renamed_sort ρ (find m v)
  unfolding find renamed_map
  find-renamed empty v = refl
  find-renamed (bind u s m) v = rw (eqb-names u v) (by_test (eqb u v) (λ q. rw q refl) (λ q. rw q (find-renamed m v)))

  pub bound-renamed : (m : Map) (v : ℕ) → bound (renamed_map ρ m) (ρ v) ≡ bound m v
  bound-renamed m v = rw (find-renamed m v) (by_option (find m v) (λ q. rw q refl) (λ s q. rw q refl))

  pub left-renamed : (m : Map) (ns : List ℕ) → left (renamed_map ρ m) (new_names ρ ns) ≡ new_names ρ (left m ns)
  unfolding left new_names
  left-renamed m [] = refl
  left-renamed m (n ∷ ns) = rw (bound-renamed m n, left-renamed m ns) (by_test (bound m n) (λ q. rw q refl) (λ q. rw q refl))

  under-renamed : (ns : List ℕ) (b : Sort) → under (new_names ρ ns) (renamed ρ b) ≡ renamed ρ (under ns b)
  unfolding new_names renamed
  under-renamed [] b = refl
  under-renamed (n ∷ ns) b = refl

  mutual
    unfolding apply renamed

    pub apply-renamed : (m : Map) (s : Sort) → apply (renamed_map ρ m) (renamed ρ s) ≡ renamed ρ (apply m s)
    apply-renamed m (var v) = rw (find-renamed m v) (by_option (find m v) (λ q. rw q refl) (λ s q. rw q refl))
    apply-renamed m (par ns b) = rw (left-renamed m ns, apply-renamed m b) (under-renamed (left m ns) (apply m b))
    apply-renamed m (node k a w ss) = ap (node k (ρ a) w) (apply_all-renamed m ss)

    pub apply_all-renamed : (m : Map) (ss : Sorts) → apply_all (renamed_map ρ m) (renamed_all ρ ss) ≡ renamed_all ρ (apply_all m ss)
    apply_all-renamed m end = refl
    apply_all-renamed m (s then ss) = ap₂ (λ (x : Sort) (xs : Sorts). x then xs) (apply-renamed m s) (apply_all-renamed m ss)

  pub keep-renamed : (b : Bool) (o : Option Map) → keep b (renamed_found ρ o) ≡ renamed_found ρ (keep b o)
  keep-renamed true o = refl
  keep-renamed false o = refl

  meet-renamed : (o : Option Sort) (v : ℕ) (t : Sort) (m : Map) → meet (renamed_sort ρ o) (ρ v) (renamed ρ t) (renamed_map ρ m) ≡ renamed_found ρ (meet o v t m)
  unfolding renamed_map
  meet-renamed none v t m = refl
  meet-renamed (some s) v t m = rw (same-renamed s t) (keep-renamed (same s t) (some m))

  pub then-renamed : (o : Option Map) (f g : Map → Option Map) → ((m : Map) → g (renamed_map ρ m) ≡ renamed_found ρ (f m)) → and_then (renamed_found ρ o) g ≡ renamed_found ρ (and_then o f)
  then-renamed none f g h = refl
  then-renamed (some m) f g h = h m

  -- Matching under new names finds the same map under new names.
  module _ (l k : ℕ → Bool) (L : (v : ℕ) → k (ρ v) ≡ l v) where
    mutual
      unfolding matches renamed

      pub matches-renamed : (p t : Sort) (m : Map) → matches k (renamed ρ p) (renamed ρ t) (renamed_map ρ m) ≡ renamed_found ρ (matches l p t m)
      matches-renamed (var v) t m =
          rw (L v)
          (by_test (l v)
          (λ q. rw (q, find-renamed m v) (meet-renamed (find m v) v t m))
          (λ q. rw q (rw (same-renamed (var v) t) (keep-renamed (same (var v) t) (some m)))))
      matches-renamed (par us b) t m = refl
      matches-renamed (node i a w ps) (var v) m = refl
      matches-renamed (node i a w ps) (par us b) m = refl
      matches-renamed (node i a w ps) (node j c x ts) m =
          rw (eqb-names a c, matches_all-renamed ps ts m) (keep-renamed (eqb i j && eqb a c && eqb w x) (matches_all l ps ts m))

      pub matches_all-renamed : (ps ts : Sorts) (m : Map) → matches_all k (renamed_all ρ ps) (renamed_all ρ ts) (renamed_map ρ m) ≡ renamed_found ρ (matches_all l ps ts m)
      matches_all-renamed end end m = refl
      matches_all-renamed end (t then ts) m = refl
      matches_all-renamed (p then ps) end m = refl
      matches_all-renamed (p then ps) (t then ts) m =
          rw (matches-renamed p t m) (then-renamed (matches l p t m) (λ n. matches_all l ps ts n) (λ n. matches_all k (renamed_all ρ ps) (renamed_all ρ ts) n) (λ n. matches_all-renamed ps ts n))
