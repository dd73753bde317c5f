-- WHERE ARGUMENTS FIT, match_with finds the same map, on all sorts, but for names bound to their own variable, which it leaves out; and
-- such maps make the same of every sort without Par.
use Prim.Native.Nat.{ℕ}
use mathlib.Core.Path.{◌≡◌, refl, sym, ap, subst, ◌∙◌}
use mathlib.Core.Bool.{Bool, true, false, cond, ◌&&◌}
use mathlib.Core.List.{List}
use mathlib.Core.Option.{Option, none, some}
use lib.Dec.{eqb}
use borrow.Author.Tests.{eqb-true}
use Rattle.record.specs.Names.{member}
use Rattle.record.specs.Sort.{Sort, Sorts, var, par, node, end, ◌then◌, same}
use Rattle.record.specs.SortLaws.{same-sound, same-complete}
use Rattle.record.specs.Cases.{three, by_test, by_option, none-some, some_inj, clash}
use Rattle.substitution.specs.Substitution.{Map, empty, bind, find, apply}
use Rattle.substitution.proofs.SubstitutionLaws.{apply-var, apply-var-free}
use Rattle.substitution.specs.Premises.{parless}
use Rattle.substitution.specs.Matching.{keep, meet, matches, matches_all, listed_in}
use Rattle.substitution.proofs.MatchingLaws.{keep-test, keep-rest, and_then-middle}
use Rattle.substitution.specs.MatchWith.{param_eq, meet_with, match_with, match_all_with}
use Rattle.check_rules.proofs.FitLaws.{apply-like}

-- What a map gives the name v, but for its own variable.
unfoldable unowned : ℕ → Option Sort → Option Sort
unowned v none = none
unowned v (some s) = cond (same s (var v)) none (some s)

-- The map k is m without the names that are bound to their own variable.
abbrev Near : Map → Map → Type 0
Near k m = (v : ℕ) → find k v ≡ unowned v (find m v)

near-empty : Near empty empty
unfolding find unowned
near-empty v = refl

-- A name that is bound to its own variable changes nothing; one that is bound to any other sort is bound in both.
near-own : (v : ℕ) (k m : Map) → find m v ≡ none → Near k m → Near k (bind v (var v) m)
unfolding find unowned
near-own v k m e n u =
    by_test (eqb v u)
    (λ q.
    let z = eqb-true v u q in
    n u ∙ ap (unowned u) (ap (find m) (sym z) ∙ e) ∙ sym (rw (q, same-complete (var v) (var u) (ap var z)) refl))
    (λ q. n u ∙ sym (rw q refl))

near-bound : (v : ℕ) (t : Sort) (k m : Map) → same t (var v) ≡ false → Near k m → Near (bind v t k) (bind v t m)
unfolding find unowned
near-bound v t k m e n u =
    by_test (eqb v u)
    (λ q. rw q (sym (rw (ap (λ (x : ℕ). same t (var x)) (sym (eqb-true v u q)) ∙ e) refl)))
    (λ q. rw q (n u))

---------------------------------------------------------------- a variable
-- Met with its own variable, it is left out.
own-left : (v : ℕ) (k m θ : Map) → meet (find m v) v (var v) m ≡ some θ → Near k m → Near k θ
own-left v k m θ e n =
    by_option (find m v)
    (λ o. let g : some (bind v (var v) m) ≡ some θ = rw o at e in subst (Near k) (some_inj g) (near-own v k m o n))
    (λ s o. let g : keep (same s (var v)) (some m) ≡ some θ = rw o at e in subst (Near k) (some_inj (keep-rest (same s (var v)) (some m) θ g)) n)

-- Met with any other sort, it is bound in both, or was.
meets-near : (v : ℕ) (t : Sort) (k m θ : Map) → (var v ≡ t → ⊥) → meet (find m v) v t m ≡ some θ → Near k m → (κ : Map) × (meet_with (find k v) v t k ≡ some κ) × Near κ θ
unfolding unowned param_eq
meets-near v t k m θ d e n =
    by_option (find m v)
    (λ o.
    let g : some (bind v t m) ≡ some θ = rw o at e in
    let f : find k v ≡ none = n v ∙ ap (unowned v) o in
    (bind v t k, rw f refl, subst (Near (bind v t k)) (some_inj g) (near-bound v t k m (unlike t (λ q. d (sym q))) n)))
    (λ s o.
    let g : keep (same s t) (some m) ≡ some θ = rw o at e in
    let h = keep-test (same s t) (some m) θ g in
    let f : find k v ≡ some s = n v ∙ ap (unowned v) o ∙ rw (unlike s (λ q. d (sym q ∙ same-sound s t h))) refl in
    (k, rw (f, h) refl, subst (Near k) (some_inj (keep-rest (same s t) (some m) θ g)) n))
  where
    unlike : (s : Sort) → (s ≡ var v → ⊥) → same s (var v) ≡ false
    unlike s x = by_test (same s (var v)) (λ q. absurd (x (same-sound s (var v) q))) (λ q. q)

---------------------------------------------------------------- equal sorts
-- Matched with itself, a sort binds names to their own variables alone.
mutual
  unfolding matches

  same-near : (f : ℕ → Bool) (p : Sort) (k m θ : Map) → matches f p p m ≡ some θ → Near k m → Near k θ
  same-near f (var v) k m θ e n =
      by_test (f v)
      (λ q. own-left v k m θ (rw q at e) n)
      (λ q. subst (Near k) (some_inj (keep-rest (same (var v) (var v)) (some m) θ (rw q at e))) n)
  same-near f (par us b) k m θ e n = none-some e
  same-near f (node l a w ps) k m θ e n = sames-near f ps k m θ (keep-rest (eqb l l && eqb a a && eqb w w) (matches_all f ps ps m) θ e) n

  sames-near : (f : ℕ → Bool) (ps : Sorts) (k m θ : Map) → matches_all f ps ps m ≡ some θ → Near k m → Near k θ
  sames-near f end k m θ e n = subst (Near k) (some_inj e) n
  sames-near f (p then ps) k m θ e n =
      let (i, g, h) = and_then-middle (matches f p p m) (λ i. matches_all f ps ps i) θ e in
      sames-near f ps k i θ h (same-near f p k m i g n)

---------------------------------------------------------------- match_with
mutual
  unfolding matches match_with

  with-near : (ns : List ℕ) (p t : Sort) (k m θ : Map) → matches (listed_in ns) p t m ≡ some θ → Near k m → (κ : Map) × (match_with ns p t k ≡ some κ) × Near κ θ
  with-near ns (var v) t k m θ e n =
      by_test (member v ns)
      (λ i.
      let g : meet (find m v) v t m ≡ some θ = rw i at e in
      by_test (same (var v) t)
      (λ r. (k, rw r refl, own-left v k m θ (subst (λ (u : Sort). meet (find m v) v u m ≡ some θ) (sym (same-sound (var v) t r)) g) n))
      (λ r.
      let w : match_with ns (var v) t k ≡ meet_with (find k v) v t k = rw (r, i) refl in
      let (κ, a, c) = meets-near v t k m θ (λ q. clash (same-complete (var v) t q) r) g n in
      (κ, w ∙ a, c)))
      (λ i.
      let g : keep (same (var v) t) (some m) ≡ some θ = rw i at e in
      (k, rw (keep-test (same (var v) t) (some m) θ g) refl, subst (Near k) (some_inj (keep-rest (same (var v) t) (some m) θ g)) n))
  with-near ns (par us b) t k m θ e n = none-some e
  with-near ns (node l a w ps) (var v) k m θ e n = none-some e
  with-near ns (node l a w ps) (par us b) k m θ e n = none-some e
  with-near ns (node l a w ps) (node j c x ts) k m θ e n =
      by_test (same (node l a w ps) (node j c x ts))
      (λ r. (
        k,
        rw r refl,
        same-near (listed_in ns) (node l a w ps) k m θ
            (subst (λ (u : Sort). matches (listed_in ns) (node l a w ps) u m ≡ some θ) (sym (same-sound (node l a w ps) (node j c x ts) r)) e) n,
      ))
      (λ r.
      let (hk, ha, hw) = three (eqb l j) (eqb a c) (eqb w x) (keep-test (eqb l j && eqb a c && eqb w x) (matches_all (listed_in ns) ps ts m) θ e) in
      let i : match_with ns (node l a w ps) (node j c x ts) k ≡ match_all_with ns ps ts k = rw (r, hk, ha, hw) refl in
      let (κ, y, z) = withs-near ns ps ts k m θ (keep-rest (eqb l j && eqb a c && eqb w x) (matches_all (listed_in ns) ps ts m) θ e) n in
      (κ, i ∙ y, z))

  withs-near : (ns : List ℕ) (ps ts : Sorts) (k m θ : Map) → matches_all (listed_in ns) ps ts m ≡ some θ → Near k m → (κ : Map) × (match_all_with ns ps ts k ≡ some κ) × Near κ θ
  withs-near ns end end k m θ e n = (k, refl, subst (Near k) (some_inj e) n)
  withs-near ns end (t then ts) k m θ e n = none-some e
  withs-near ns (p then ps) end k m θ e n = none-some e
  withs-near ns (p then ps) (t then ts) k m θ e n =
      let (i, g, h) = and_then-middle (matches (listed_in ns) p t m) (λ i. matches_all (listed_in ns) ps ts i) θ e in
      let (κ, y, z) = with-near ns p t k m i g n in
      let w : match_all_with ns (p then ps) (t then ts) k ≡ match_all_with ns ps ts κ = rw y refl in
      let (ι, u, q) = withs-near ns ps ts κ i θ h z in
      (ι, w ∙ u, q)

---------------------------------------------------------------- a sort without Par
-- Two such maps make the same of every variable.
near-var : (k m : Map) → Near k m → (v : ℕ) → apply k (var v) ≡ apply m (var v)
unfolding unowned
near-var k m n v =
    by_option (find m v)
    (λ o. apply-var-free k v (n v ∙ ap (unowned v) o) ∙ sym (apply-var-free m v o))
    (λ s o.
    by_test (same s (var v))
    (λ q. apply-var-free k v (n v ∙ ap (unowned v) o ∙ rw q refl) ∙ sym (same-sound s (var v) q) ∙ sym (apply-var m v s o))
    (λ q. apply-var k v s (n v ∙ ap (unowned v) o ∙ rw q refl) ∙ sym (apply-var m v s o)))

-- THE MAP OF match_with MAKES THE SAME of a sort without Par as the one by which the arguments fit.
pub withs-alike : (ns : List ℕ) (ps ts : Sorts) (θ : Map) (s : Sort) → matches_all (listed_in ns) ps ts empty ≡ some θ → parless s ≡ true
    → (κ : Map) × (match_all_with ns ps ts empty ≡ some κ) × (apply κ s ≡ apply θ s)
withs-alike ns ps ts θ s e q =
    let (κ, y, n) = withs-near ns ps ts empty empty θ e near-empty in
    (κ, y, apply-like κ θ s q (λ v o. near-var κ θ n v))
