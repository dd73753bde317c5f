-- The checked verdict on one record under new names: the same cause, or the same sort renamed.
use Prim.Native.Nat.{ℕ, suc, ◌+◌, ◌*◌, ◌-◌}
use Rattle.std.specs.Prelude.{◌≡◌, Bool, true, not, ◌||◌, leb}
use Rattle.std.proofs.Math.Path.{refl, sym, ap}
use Rattle.std.proofs.Common.{ap₂, ◌∙◌}
use Rattle.std.proofs.Math.Bool.{◌&&◌}
use mathlib.Core.List.{List, [], ◌∷◌}
use Rattle.std.proofs.Math.Option.{Option, none, some}
use Rattle.std.proofs.Math.Dec.{eqb, ltb}
use Rattle.record.specs.Sort.{Sort, Sorts, var, par, node, end, ◌then◌, function, bool, int, reglan, array, bitvec, number_in, count, same, set}
use Rattle.record.specs.Cases.{by_test}
use Rattle.substitution.specs.Substitution.{Map, empty, apply}
use Rattle.substitution.specs.Matching.{matches_all}
use Rattle.substitution.specs.Premises.{proper, proper_all}
use Rattle.row_rules.specs.declared.Cause.{Cause}
use Rattle.row_rules.specs.declared.Cause.TheVariants.{NoRank, Count, Misfit, Unassigned, Barred}
use Rattle.row_rules.specs.Verdict.{sort, or_cause}
use Rattle.row_rules.specs.Lists.{firsts, others, remaining, joined, binding_sorts}
use Rattle.row_rules.specs.Term.{Site}
use Rattle.check_rules.specs.Rank.{Rank, vector, first_fit, some_counts}
use Rattle.check_rules.specs.Forms.{element_of}
use Rattle.check_rules.proofs.RankSound.{Sound}
use Rattle.check_rules.specs.Checked.{carried, value, values, parameters, function_list, settled, settled_all, delivered, called, checked_app, nonempty, ranked, operated, only_of, bound_body, binder, inner_of, letting, new_width, indexed₁, indexed₂, indexed_by, indexed_on, indexing, constant_array, whole_set, qualified, checked}
use Rattle.abstraction.specs.Names.{Renames, new_names, renamed, renamed_all, renamed_verdict, renamed_sort, renamed_sorts, renamed_bindings}
use Rattle.abstraction.proofs.NameLaws.{renamed_map, renamed_found, need-renamed, cond-renamed, leaf-renamed, node-renamed, same-renamed, same-stays, member-renamed, count-renamed, number-renamed, proper-renamed, proper_all-renamed, firsts-renamed, others-renamed, remaining-renamed, last-renamed, joined-renamed, bindings-renamed, bound-renamed, apply-renamed, matches_all-renamed, element-renamed, set-renamed}
use Rattle.abstraction.proofs.RankNames.{unnamed_ranks, PlainRanks, vector-renamed, counts-renamed, first_fit-renamed}

-- A record with its sorts renamed; its numbers and constants stay.
abbrev pub renamed_site : (ℕ → ℕ) → Site → Site
renamed_site ρ z =
    record {
      kind = z.kind;
      number = z.number;
      own = renamed ρ z.own;
      args = renamed_all ρ z.args;
      bindings = renamed_bindings ρ z.bindings;
      constants = z.constants;
      indices = z.indices;
    }

module _ (ρ : ℕ → ℕ) (N : Renames ρ) where
  ---------------------------------------------------------------- App
  value-renamed : (s : Sort) → value (renamed ρ s) ≡ value s
  unfolding renamed
  value-renamed (var v) = refl
  value-renamed (par ns b) = refl
  value-renamed (node k a w ss) = refl

  values-renamed : (ss : Sorts) → values (renamed_all ρ ss) ≡ values ss
  unfolding values renamed
  values-renamed end = refl
  values-renamed (s then ss) = rw (value-renamed s, values-renamed ss) refl

  carried-renamed : (s : Sort) → carried (renamed ρ s) ≡ carried s
  unfolding renamed new_names
  carried-renamed (var v) = refl
  carried-renamed (par [] b) = refl
  carried-renamed (par (n ∷ ns) (var v)) = refl
  carried-renamed (par (n ∷ ns) (par ms b)) = refl
  carried-renamed (par (n ∷ ns) (node k a w ss)) = ap (λ (b : Bool). eqb k 0 && b) (proper-renamed ρ N (node k a w ss))
  carried-renamed (node k a w ss) = proper-renamed ρ N (node k a w ss)

  parameters-renamed : (h : Sort) (v : ℕ) → parameters (renamed ρ h) (ρ v) ≡ parameters h v
  unfolding renamed
  parameters-renamed (var u) v = refl
  parameters-renamed (par ns b) v = member-renamed ρ N v ns
  parameters-renamed (node k a w ss) v = refl

  function-renamed : (h : Sort) → function_list (renamed ρ h) ≡ renamed_sorts ρ (function_list h)
  unfolding renamed
  function-renamed (var u) = refl
  function-renamed (par ns (var u)) = refl
  function-renamed (par ns (par ms b)) = refl
  function-renamed (par ns (node k a w ss)) = by_test (eqb k 0) (λ q. rw q refl) (λ q. rw q refl)
  function-renamed (node k a w ss) = by_test (eqb k 0) (λ q. rw q refl) (λ q. rw q refl)

  module _ (l k : ℕ → Bool) (L : (v : ℕ) → k (ρ v) ≡ l v) where
    mutual
      unfolding settled renamed

      settled-renamed : (m : Map) (r : Sort) → settled k (renamed_map ρ m) (renamed ρ r) ≡ settled l m r
      settled-renamed m (var v) = rw (L v, bound-renamed ρ N m v) refl
      settled-renamed m (par ns b) = settled-renamed m b
      settled-renamed m (node i a w ss) = settled_all-renamed m ss

      settled_all-renamed : (m : Map) (rs : Sorts) → settled_all k (renamed_map ρ m) (renamed_all ρ rs) ≡ settled_all l m rs
      settled_all-renamed m end = refl
      settled_all-renamed m (r then rs) = rw (settled-renamed m r, settled_all-renamed m rs) refl

    delivered-renamed : (r : Sort) (o : Option Map) → delivered k (renamed ρ r) (renamed_found ρ o) ≡ renamed_verdict ρ (delivered l r o)
    delivered-renamed r none = refl
    delivered-renamed r (some m) =
        need-renamed ρ (settled l m r) (settled k (renamed_map ρ m) (renamed ρ r)) Unassigned (sort (apply m r)) (sort (apply (renamed_map ρ m) (renamed ρ r)))
        (settled-renamed m r) (ap sort (apply-renamed ρ N m r))

    called-renamed : (o : Option Sorts) (ts : Sorts) → called k (renamed_sorts ρ o) (renamed_all ρ ts) ≡ renamed_verdict ρ (called l o ts)
    unfolding called renamed_map
    called-renamed none ts = refl
    called-renamed (some ss) ts =
        need-renamed ρ (ltb (count ts) (count ss)) _ Count _ _ (ap₂ ltb (count-renamed ρ N ts) (count-renamed ρ N ss))
        (need-renamed ρ (values ts) _ Misfit _ _ (values-renamed ts)
        (rw (others-renamed ρ N ss ts, remaining-renamed ρ N (others ss ts), firsts-renamed ρ N ss ts, matches_all-renamed ρ N l k L (firsts ss ts) ts empty)
        (delivered-renamed (remaining (others ss ts)) (matches_all l (firsts ss ts) ts empty))))

  app-renamed : (ts : Sorts) → checked_app (renamed_all ρ ts) ≡ renamed_verdict ρ (checked_app ts)
  unfolding checked_app renamed
  app-renamed end = refl
  app-renamed (h then end) = refl
  app-renamed (h then (t then ts)) =
      rw (function-renamed h) (called-renamed (λ v. parameters h v) (λ v. parameters (renamed ρ h) v) (λ v. parameters-renamed h v) (function_list h) (t then ts))

  ---------------------------------------------------------------- Op
  bitvec-renamed : (i j : ℕ) → j ≡ i → sort (bitvec j) ≡ renamed_verdict ρ (sort (bitvec i))
  bitvec-renamed i j e = ap sort (ap bitvec e ∙ sym (leaf-renamed ρ N 9 i))

  leaf-sort : (k w : ℕ) → sort (node k 0 w end) ≡ renamed_verdict ρ (sort (node k 0 w end))
  leaf-sort k w = ap sort (sym (leaf-renamed ρ N k w))

  cause-renamed : (o : Option Sort) (c : Cause) → or_cause (renamed_sort ρ o) c ≡ renamed_verdict ρ (or_cause o c)
  cause-renamed none c = refl
  cause-renamed (some s) c = refl

  ranked-renamed : (rs : List Rank) (ts : Sorts) → Sound rs → unnamed_ranks rs ≡ true → ranked rs (renamed_all ρ ts) ≡ renamed_verdict ρ (ranked rs ts)
  unfolding ranked
  ranked-renamed rs ts S u =
      need-renamed ρ (nonempty rs) _ NoRank _ _ refl
      (need-renamed ρ (some_counts rs ts) _ Count _ _ (counts-renamed ρ N rs ts)
      (need-renamed ρ (values ts) _ Misfit _ _ (values-renamed ts)
      (rw (first_fit-renamed ρ N rs ts S u) (cause-renamed (first_fit rs ts) Misfit))))

  operated-renamed : (R : ℕ → List Rank) → PlainRanks R → (n : ℕ) (ts : Sorts) → operated R n (renamed_all ρ ts) ≡ renamed_verdict ρ (operated R n ts)
  unfolding operated
  operated-renamed R P n ts = ranked-renamed (R n) ts (P.sounds n) (P.nameless n)

  ---------------------------------------------------------------- Binder, Let
  only-renamed : (ss : Sorts) → sort (only_of (renamed_all ρ ss)) ≡ renamed_verdict ρ (sort (only_of ss))
  unfolding renamed
  only-renamed end = leaf-sort 3 0
  only-renamed (s then ss) = refl

  body-renamed : (n : ℕ) (bs ts : Sorts) → bound_body n (renamed_all ρ bs) (renamed_all ρ ts) ≡ renamed_verdict ρ (bound_body n bs ts)
  unfolding renamed
  body-renamed n bs end = refl
  body-renamed n bs (b then (c then cs)) = refl
  body-renamed n bs (b then end) =
      let counted = count-renamed ρ N bs in
      let is_bool = same-stays ρ N b bool (leaf-renamed ρ N 3 0) in
      cond-renamed ρ (eqb n 3) _ _ _ _
      (need-renamed ρ (ltb 0 (count bs)) _ Count _ _ (ap (λ (i : ℕ). ltb 0 i) counted)
      (need-renamed ρ (value b) _ Misfit _ _ (value-renamed b)
      (ap sort (ap function (joined-renamed ρ N bs b) ∙ sym (node-renamed ρ N 0 0 (joined bs b))))))
      (cond-renamed ρ (eqb n 2) _ _ _ _
      (need-renamed ρ (eqb (count bs) 1) _ Count _ _ (ap (λ (i : ℕ). eqb i 1) counted) (need-renamed ρ (same b bool) _ Misfit _ _ is_bool (only-renamed bs)))
      (need-renamed ρ (ltb 0 (count bs)) _ Count _ _ (ap (λ (i : ℕ). ltb 0 i) counted) (need-renamed ρ (same b bool) _ Misfit _ _ is_bool (leaf-sort 3 0))))

  binder-renamed : (n : ℕ) (bs ts : Sorts) → binder n (renamed_all ρ bs) (renamed_all ρ ts) ≡ renamed_verdict ρ (binder n bs ts)
  unfolding binder
  binder-renamed n bs ts = need-renamed ρ (proper_all bs) _ Barred _ _ (proper_all-renamed ρ N bs) (body-renamed n bs ts)

  inner-renamed : (ts : Sorts) → inner_of (renamed_all ρ ts) ≡ renamed_verdict ρ (inner_of ts)
  unfolding renamed
  inner-renamed end = refl
  inner-renamed (s then ss) = ap sort (last-renamed ρ N s ss)

  letting-renamed : (ts : Sorts) → letting (renamed_all ρ ts) ≡ renamed_verdict ρ (letting ts)
  unfolding letting
  letting-renamed ts =
      need-renamed ρ (ltb 1 (count ts)) _ Count _ _ (ap (λ (i : ℕ). ltb 1 i) (count-renamed ρ N ts)) (need-renamed ρ (values ts) _ Misfit _ _ (values-renamed ts) (inner-renamed ts))

  ---------------------------------------------------------------- ParamOp, AsOp
  width-renamed : (b d : Bool) (a : Sort) (v w : ℕ) → d ≡ b → w ≡ v → new_width d (renamed ρ a) w ≡ renamed_verdict ρ (new_width b a v)
  width-renamed b d a v w e f = need-renamed ρ b d Count _ _ e (need-renamed ρ (vector a) _ Misfit _ _ (vector-renamed ρ N a) (bitvec-renamed v w f))

  one-renamed : (n i : ℕ) (a : Sort) → indexed₁ n i (renamed ρ a) ≡ renamed_verdict ρ (indexed₁ n i a)
  one-renamed n i a =
      let w = number-renamed ρ N a in
      cond-renamed ρ (eqb n 3 || eqb n 4) _ _ _ _ (width-renamed true true a (number_in a + i) _ refl (ap (λ (x : ℕ). x + i) w))
      (cond-renamed ρ (eqb n 5 || eqb n 6) _ _ _ _ (width-renamed true true a (number_in a) _ refl w)
      (cond-renamed ρ (eqb n 7) _ _ _ _ (width-renamed (ltb 0 i) (ltb 0 i) a (i * number_in a) _ refl (ap (λ (x : ℕ). i * x) w))
      (cond-renamed ρ (eqb n 9) _ _ _ _
      (need-renamed ρ (ltb 0 i) _ Count _ _ refl (need-renamed ρ (same a int) _ Misfit _ _ (same-stays ρ N a int (leaf-renamed ρ N 4 0)) (bitvec-renamed i i refl)))
      (cond-renamed ρ (eqb n 10) _ _ _ _ (need-renamed ρ (same a reglan) _ Misfit _ _ (same-stays ρ N a reglan (leaf-renamed ρ N 7 0)) (leaf-sort 7 0)) refl))))

  two-renamed : (n i j : ℕ) (a : Sort) → indexed₂ n i j (renamed ρ a) ≡ renamed_verdict ρ (indexed₂ n i j a)
  two-renamed n i j a =
      let f : (leb j i && (not (vector (renamed ρ a)) || ltb i (number_in (renamed ρ a)))) ≡ (leb j i && (not (vector a) || ltb i (number_in a))) =
      ap₂ (λ (b : Bool) (w : ℕ). leb j i && (not b || ltb i w)) (vector-renamed ρ N a) (number-renamed ρ N a) in
      cond-renamed ρ (eqb n 0) _ _ _ _ (width-renamed (leb j i && (not (vector a) || ltb i (number_in a))) _ a (suc (i - j)) (suc (i - j)) f refl)
      (cond-renamed ρ (eqb n 11) _ _ _ _ (need-renamed ρ (same a reglan) _ Misfit _ _ (same-stays ρ N a reglan (leaf-renamed ρ N 7 0)) (leaf-sort 7 0)) refl)

  by-renamed : (n : ℕ) (is : List (Option ℕ)) (a : Sort) → indexed_by n is (renamed ρ a) ≡ renamed_verdict ρ (indexed_by n is a)
  by-renamed n [] a = refl
  by-renamed n (none ∷ is) a = refl
  by-renamed n (some i ∷ []) a = one-renamed n i a
  by-renamed n (some i ∷ (none ∷ is)) a = refl
  by-renamed n (some i ∷ (some j ∷ [])) a = two-renamed n i j a
  by-renamed n (some i ∷ (some j ∷ (k ∷ is))) a = refl

  indexing-renamed : (n : ℕ) (is : List (Option ℕ)) (ts : Sorts) → indexing n is (renamed_all ρ ts) ≡ renamed_verdict ρ (indexing n is ts)
  unfolding indexing renamed
  indexing-renamed n is ts = need-renamed ρ (not (eqb n 1 || eqb n 2 || eqb n 8)) _ NoRank _ _ refl (on ts)
    where
      on : (ts : Sorts) → indexed_on n is (renamed_all ρ ts) ≡ renamed_verdict ρ (indexed_on n is ts)
      on end = refl
      on (a then end) = by-renamed n is a
      on (a then (b then bs)) = refl

  array-renamed : (s : Sort) (ts : Sorts) → constant_array (renamed ρ s) (renamed_all ρ ts) ≡ renamed_verdict ρ (constant_array s ts)
  unfolding renamed
  array-renamed s end = refl
  array-renamed s (a then (b then bs)) = refl
  array-renamed (var v) (a then end) = refl
  array-renamed (par ns b) (a then end) = refl
  array-renamed (node k n w end) (a then end) = refl
  array-renamed (node k n w (i then end)) (a then end) = refl
  array-renamed (node k n w (i then (e then end))) (a then end) =
      let z : array (renamed ρ i) (renamed ρ e) ≡ renamed ρ (array i e) = sym (node-renamed ρ N 8 0 (i then e then end)) in
      need-renamed ρ (same (node k n w (i then e then end)) (array i e) && same a e) _ Misfit _ _
      (ap₂ ◌&&◌ (ap (λ (x : Sort). same (renamed ρ (node k n w (i then e then end))) x) z ∙ same-renamed ρ N (node k n w (i then e then end)) (array i e)) (same-renamed ρ N a e))
      (ap sort z)
  array-renamed (node k n w (i then (e then (r then rs)))) (a then end) = refl

  whole_set-renamed : (s : Sort) (ts : Sorts) → whole_set (renamed ρ s) (renamed_all ρ ts) ≡ renamed_verdict ρ (whole_set s ts)
  unfolding renamed
  whole_set-renamed s end =
      let z : set (element_of (renamed ρ s)) ≡ renamed ρ (set (element_of s)) = ap set (element-renamed ρ N s) ∙ sym (set-renamed ρ N (element_of s)) in
      need-renamed ρ (same s (set (element_of s))) _ Misfit _ _ (ap (same (renamed ρ s)) z ∙ same-renamed ρ N s (set (element_of s))) refl
  whole_set-renamed s (a then as') = refl

  qualified-renamed : (n : ℕ) (s : Sort) (ts : Sorts) → qualified n (renamed ρ s) (renamed_all ρ ts) ≡ renamed_verdict ρ (qualified n s ts)
  unfolding qualified
  qualified-renamed n s ts =
      need-renamed ρ (leb n 2) _ NoRank _ _ refl
      (need-renamed ρ (proper s) _ Barred _ _ (proper-renamed ρ N s) (cond-renamed ρ (eqb n 0) _ _ _ _ (array-renamed s ts) (whole_set-renamed s ts)))

  ---------------------------------------------------------------- the verdict
  -- THE CHECKED VERDICT ON A RECORD DOES NOT MIND THE NAMES.
  pub checked-renamed : (R : ℕ → List Rank) → PlainRanks R → (z : Site) → checked R (renamed_site ρ z) ≡ renamed_verdict ρ (checked R z)
  unfolding checked
  checked-renamed R P z =
      cond-renamed ρ (eqb z.kind 0) _ _ _ _ (leaf-sort 4 0)
      (cond-renamed ρ (eqb z.kind 1) _ _ _ _ (leaf-sort 5 0)
      (cond-renamed ρ (eqb z.kind 2) _ _ _ _ (leaf-sort 6 0)
      (cond-renamed ρ (eqb z.kind 3) _ _ _ _ (leaf-sort 7 0)
      (cond-renamed ρ (eqb z.kind 4) _ _ _ _ (need-renamed ρ (not (eqb z.number 0)) _ Barred _ _ refl (bitvec-renamed z.number z.number refl))
      (cond-renamed ρ (eqb z.kind 5) _ _ _ _ (need-renamed ρ (carried z.own) _ Barred _ _ (carried-renamed z.own) refl)
      (cond-renamed ρ (eqb z.kind 6) _ _ _ _ (app-renamed z.args)
      (cond-renamed ρ (eqb z.kind 7) _ _ _ _ (operated-renamed R P z.number z.args)
      (cond-renamed ρ (eqb z.kind 8) _ _ _ _
      (ap (λ (bs : Sorts). binder z.number bs (renamed_all ρ z.args)) (bindings-renamed ρ N z.bindings) ∙ binder-renamed z.number (binding_sorts z.bindings) z.args)
      (cond-renamed ρ (eqb z.kind 9) _ _ _ _ (letting-renamed z.args)
      (cond-renamed ρ (eqb z.kind 11) _ _ _ _ (indexing-renamed z.number z.indices z.args)
      (cond-renamed ρ (eqb z.kind 12) _ _ _ _ (qualified-renamed z.number z.own z.args) refl)))))))))))
