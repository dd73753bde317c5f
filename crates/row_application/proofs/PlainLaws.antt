-- Matching without parameters: exactly a sort without Par fits, and only itself; nothing is bound, no argument that fits is a
-- Par, and every sort is settled.
use Prim.Native.Nat.{ℕ}
use mathlib.Core.Path.{◌≡◌, refl, sym, ◌∙◌}
use mathlib.Core.Bool.{Bool, true, false, ◌&&◌}
use mathlib.Core.Option.{none, some}
use lib.Dec.{eqb}
use Rattle.record.specs.Cases.{and-true, by_option, none-some, clash}
use Rattle.record.specs.Sort.{Sort, Sorts, var, par, node, end, ◌then◌}
use Rattle.substitution.specs.Substitution.{Map, empty, find}
use Rattle.substitution.proofs.SubstitutionLaws.{parless-named, apply-empty}
use Rattle.substitution.specs.Premises.{parless, parless_all}
use Rattle.substitution.specs.Matching.{matches, matches_all, Within}
use Rattle.substitution.proofs.MatchingLaws.{keep-rest, and_then-middle, match-sound, match-within, match-self}
use Rattle.check_rules.specs.Checked.{value, values, settled, settled_all}
use Rattle.row_application.specs.Contract.{NoNames}

-- A pattern that fits has no Par, whatever the parameters are.
mutual
  unfolding matches parless

  match-parless : (f : ℕ → Bool) (p t : Sort) (m m' : Map) → matches f p t m ≡ some m' → parless p ≡ true
  match-parless f (var v) t m m' e = refl
  match-parless f (par us b) t m m' e = none-some e
  match-parless f (node k a w ps) (var v) m m' e = none-some e
  match-parless f (node k a w ps) (par us b) m m' e = none-some e
  match-parless f (node k a w ps) (node l c x ts) m m' e =
      match_all-parless f ps ts m m' (keep-rest (eqb k l && eqb a c && eqb w x) (matches_all f ps ts m) m' e)

  match_all-parless : (f : ℕ → Bool) (ps ts : Sorts) (m m' : Map) → matches_all f ps ts m ≡ some m' → parless_all ps ≡ true
  match_all-parless f end end m m' e = refl
  match_all-parless f end (t then ts) m m' e = none-some e
  match_all-parless f (p then ps) end m m' e = none-some e
  match_all-parless f (p then ps) (t then ts) m m' e =
      let (n, g, h) = and_then-middle (matches f p t m) (λ n. matches_all f ps ts n) m' e in
      and-true (parless p) (parless_all ps) (match-parless f p t m n g) (match_all-parless f ps ts n m' h)

module _ (f : ℕ → Bool) (plain : NoNames f) where
  -- Two sorts that match are one: the map found binds nothing, and the empty one leaves a sort without Par as it is.
  fits-same : (p t : Sort) (m : Map) → matches f p t empty ≡ some m → p ≡ t
  unfolding find
  fits-same p t m e =
      let w : Within f m = match-within f p t empty m e (λ v z. refl) in
      sym (apply-empty p (parless-named p (match-parless f p t empty m e)))
      ∙ match-sound f p t empty m empty e (λ v z. refl) (λ v s g. none-some (sym (w v (plain v)) ∙ g))

  pub fits-itself : (s : Sort) → parless s ≡ true → matches f s s empty ≡ some empty
  fits-itself s e = match-self f s empty e (λ v q. clash q (plain v))

  pub fits-other : (p t : Sort) → (p ≡ t → ⊥) → matches f p t empty ≡ none
  fits-other p t d = by_option (matches f p t empty) (λ q. q) (λ m q. absurd (d (fits-same p t m q)))

  pub fits-par : (p t : Sort) → parless p ≡ false → matches f p t empty ≡ none
  fits-par p t e = by_option (matches f p t empty) (λ q. q) (λ m q. clash (match-parless f p t empty m q) e)

  -- What fits is no Par.
  value-fits : (p t : Sort) (m m' : Map) → matches f p t m ≡ some m' → value t ≡ true
  unfolding matches
  value-fits p (var u) m m' e = refl
  value-fits p (node k a w ss) m m' e = refl
  value-fits (var v) (par us b) m m' e = none-some (rw (plain v) at e)
  value-fits (par ns c) (par us b) m m' e = none-some e
  value-fits (node k a w ps) (par us b) m m' e = none-some e

  pub values-fit : (ps ts : Sorts) (m m' : Map) → matches_all f ps ts m ≡ some m' → values ts ≡ true
  unfolding matches values
  values-fit end end m m' e = refl
  values-fit end (t then ts) m m' e = none-some e
  values-fit (p then ps) end m m' e = none-some e
  values-fit (p then ps) (t then ts) m m' e =
      let (n, g, h) = and_then-middle (matches f p t m) (λ n. matches_all f ps ts n) m' e in
      and-true (value t) (values ts) (value-fits p t m n g) (values-fit ps ts n m' h)

  -- No name is left to be bound.
  mutual
    unfolding settled

    pub settled_plain : (θ : Map) (s : Sort) → settled f θ s ≡ true
    settled_plain θ (var v) = rw (plain v) refl
    settled_plain θ (par ns b) = settled_plain θ b
    settled_plain θ (node k a w ss) = settled_all-plain θ ss

    settled_all-plain : (θ : Map) (ss : Sorts) → settled_all f θ ss ≡ true
    settled_all-plain θ end = refl
    settled_all-plain θ (s then ss) = and-true (settled f θ s) (settled_all f θ ss) (settled_plain θ s) (settled_all-plain θ ss)
