-- WHERE ARGUMENTS FIT AND NO NAME IS BOUND TO ITS OWN VARIABLE, match_with finds the same map, on all sorts: it stops at two equal
-- sorts, where matching goes on and binds nothing new.
use Prim.Native.Nat.{ℕ}
use mathlib.Core.Path.{◌≡◌, refl, sym, ap, subst, ◌∙◌}
use mathlib.Core.Bool.{Bool, false, ◌&&◌}
use mathlib.Core.List.{List}
use mathlib.Core.Option.{Option, none, some}
use lib.Dec.{eqb}
use borrow.Author.Tests.{eqb-true}
use Rattle.record.specs.Names.{member}
use Rattle.record.specs.Sort.{Sort, Sorts, var, par, node, end, ◌then◌, same}
use Rattle.record.specs.SortLaws.{same-sound, same-complete}
use Rattle.record.specs.Cases.{or_left, or_right, three, eqb-self, by_test, none-some, some_inj, clash}
use Rattle.substitution.specs.Substitution.{Map, empty, bind, find}
use Rattle.substitution.specs.Matching.{keep, meet, matches, matches_all, listed_in}
use Rattle.substitution.proofs.MatchingLaws.{keep-test, keep-rest, and_then-middle, match_all-extends}
use Rattle.substitution.specs.MatchWith.{param_eq, meet_with, match_with, match_all_with}
use Rattle.row_application.specs.Contract.{owned}

-- No name is bound to its own variable.
abbrev NoOwn : Map → Type 0
NoOwn θ = (v : ℕ) → find θ v ≡ some (var v) → ⊥

pub no_own : (θ : Map) → owned θ ≡ false → NoOwn θ
unfolding find owned
no_own empty e v f = none-some f
no_own (bind u s m) e v f =
    by_test (eqb u v)
    (λ q.
    let g : some s ≡ some (var v) = rw q at f in
    clash (same-complete s (var u) (some_inj g ∙ ap var (sym (eqb-true u v q)))) (or_left (same s (var u)) (owned m) e))
    (λ q. no_own m (or_right (same s (var u)) (owned m) e) v (rw q at f))

---------------------------------------------------------------- equal sorts
-- Matched with itself, a sort binds nothing.
meets-own : (o : Option Sort) (v : ℕ) (m θ : Map) → meet o v (var v) m ≡ some θ → NoOwn θ → m ≡ θ
unfolding find
meets-own none v m θ e n = absurd (n v (rw (← some_inj e) (rw (eqb-self v) refl)))
meets-own (some s) v m θ e n = some_inj (keep-rest (same s (var v)) (some m) θ e)

mutual
  unfolding matches

  same-keeps : (f : ℕ → Bool) (p : Sort) (m θ : Map) → matches f p p m ≡ some θ → NoOwn θ → m ≡ θ
  same-keeps f (var v) m θ e n =
      by_test (f v) (λ q. meets-own (find m v) v m θ (rw q at e) n) (λ q. some_inj (keep-rest (same (var v) (var v)) (some m) θ (rw q at e)))
  same-keeps f (par us b) m θ e n = none-some e
  same-keeps f (node k a w ps) m θ e n = sames-keep f ps m θ (keep-rest (eqb k k && eqb a a && eqb w w) (matches_all f ps ps m) θ e) n

  sames-keep : (f : ℕ → Bool) (ps : Sorts) (m θ : Map) → matches_all f ps ps m ≡ some θ → NoOwn θ → m ≡ θ
  sames-keep f end m θ e n = some_inj e
  sames-keep f (p then ps) m θ e n =
      let (k, g, h) = and_then-middle (matches f p p m) (λ k. matches_all f ps ps k) θ e in
      same-keeps f p m k g (λ v q. n v (match_all-extends f ps ps k θ h v (var v) q)) ∙ sames-keep f ps k θ h n

---------------------------------------------------------------- match_with
meets-too : (o : Option Sort) (v : ℕ) (t : Sort) (m θ : Map) → meet o v t m ≡ some θ → meet_with o v t m ≡ some θ
unfolding param_eq
meets-too none v t m θ e = e
meets-too (some s) v t m θ e = rw (keep-test (same s t) (some m) θ e) (keep-rest (same s t) (some m) θ e)

mutual
  unfolding matches match_with

  with-fits : (ns : List ℕ) (p t : Sort) (m θ : Map) → matches (listed_in ns) p t m ≡ some θ → NoOwn θ → match_with ns p t m ≡ some θ
  with-fits ns (var v) t m θ e n =
      by_test (member v ns)
      (λ i.
      let g : meet (find m v) v t m ≡ some θ = rw i at e in
      by_test (same (var v) t)
      (λ r. rw r (ap some (meets-own (find m v) v m θ (subst (λ (u : Sort). meet (find m v) v u m ≡ some θ) (sym (same-sound (var v) t r)) g) n)))
      (λ r. rw (r, i) (meets-too (find m v) v t m θ g)))
      (λ i.
      let g : keep (same (var v) t) (some m) ≡ some θ = rw i at e in
      rw (keep-test (same (var v) t) (some m) θ g) (keep-rest (same (var v) t) (some m) θ g))
  with-fits ns (par us b) t m θ e n = none-some e
  with-fits ns (node k a w ps) (var v) m θ e n = none-some e
  with-fits ns (node k a w ps) (par us b) m θ e n = none-some e
  with-fits ns (node k a w ps) (node l c x ts) m θ e n =
      by_test (same (node k a w ps) (node l c x ts))
      (λ r.
      rw r (ap some (same-keeps (listed_in ns) (node k a w ps) m θ
      (subst (λ (u : Sort). matches (listed_in ns) (node k a w ps) u m ≡ some θ) (sym (same-sound (node k a w ps) (node l c x ts) r)) e) n)))
      (λ r.
      let (hk, ha, hw) = three (eqb k l) (eqb a c) (eqb w x) (keep-test (eqb k l && eqb a c && eqb w x) (matches_all (listed_in ns) ps ts m) θ e) in
      rw (r, hk, ha, hw) (withs-fit ns ps ts m θ (keep-rest (eqb k l && eqb a c && eqb w x) (matches_all (listed_in ns) ps ts m) θ e) n))

  pub withs-fit : (ns : List ℕ) (ps ts : Sorts) (m θ : Map) → matches_all (listed_in ns) ps ts m ≡ some θ → NoOwn θ → match_all_with ns ps ts m ≡ some θ
  withs-fit ns end end m θ e n = e
  withs-fit ns end (t then ts) m θ e n = none-some e
  withs-fit ns (p then ps) end m θ e n = none-some e
  withs-fit ns (p then ps) (t then ts) m θ e n =
      let (k, g, h) = and_then-middle (matches (listed_in ns) p t m) (λ k. matches_all (listed_in ns) ps ts k) θ e in
      rw (with-fits ns p t m k g (λ v q. n v (match_all-extends (listed_in ns) ps ts k θ h v (var v) q))) (withs-fit ns ps ts k θ h n)
