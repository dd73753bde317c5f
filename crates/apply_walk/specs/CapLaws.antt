-- Laws of a capped size: what it tells, and that capping on the way to a sum changes nothing.
use Rattle.std.specs.Prelude.{ℕ, ◌+◌, ◌≤◌, ◌<◌, ◌≡◌, refl, Bool, true, false, leb}
use Rattle.std.proofs.Common.{sym, ap, ap₂, ◌∙◌, arith, leb-true, leb-false, le-leb}
use Rattle.std.proofs.lemmas.Bool.{lt-leb}
use Rattle.apply_walk.specs.Contract.{capped}

pub over : (v : ℕ) → 4096 < v → 4097 ≡ capped v
unfolding capped
over v h = rw (lt-leb v 4096 h)

pub cap-within : (v : ℕ) → v ≤ 4096 → v ≡ capped v
unfolding capped
cap-within v h = rw (le-leb v 4096 h)

-- What a capped size tells.
pub capped-over : (v r : ℕ) → r ≡ capped v → 4096 < r → 4096 < v
capped-over v r e h = go (leb v 4096) refl
  where
    go : (t : Bool) → leb v 4096 ≡ t → 4096 < v
    go true q = absurd (omega (arith, e, cap-within v (leb-true v 4096 q), leb-true v 4096 q))
    go false q = leb-false v 4096 q

pub capped_small : (v r : ℕ) → r ≡ capped v → r ≤ 4096 → v ≤ 4096
capped_small v r e h = go (leb v 4096) refl
  where
    go : (t : Bool) → leb v 4096 ≡ t → v ≤ 4096
    go true q = leb-true v 4096 q
    go false q = absurd (omega (arith, e, over v (leb-false v 4096 q)))

pub capped-most : (v : ℕ) → capped v ≤ 4097
capped-most v = go (leb v 4096) refl
  where
    go : (t : Bool) → leb v 4096 ≡ t → capped v ≤ 4097
    go true q = omega (arith, cap-within v (leb-true v 4096 q), leb-true v 4096 q)
    go false q = omega (arith, over v (leb-false v 4096 q))

pub capped-keeps : (c : ℕ) → c ≤ 4097 → c ≡ capped c
capped-keeps c q = go (leb c 4096) refl
  where
    go : (t : Bool) → leb c 4096 ≡ t → c ≡ capped c
    go true f = cap-within c (leb-true c 4096 f)
    go false f = omega (arith, over c (leb-false c 4096 f), leb-false c 4096 f)

-- CAPPING ON THE WAY changes nothing.
pub capped-add : (v w : ℕ) → capped (capped v + capped w) ≡ capped (v + w)
capped-add v w = go (leb v 4096) (leb w 4096) refl refl
  where
    both : (a c : ℕ) → 4096 < a → 4096 < c → capped a ≡ capped c
    both a c h k = sym (over a h) ∙ over c k

    go : (s t : Bool) → leb v 4096 ≡ s → leb w 4096 ≡ t → capped (capped v + capped w) ≡ capped (v + w)
    go true true p q = ap capped (ap₂ ◌+◌ (sym (cap-within v (leb-true v 4096 p))) (sym (cap-within w (leb-true w 4096 q))))
    go true false p q = both (capped v + capped w) (v + w) (omega (arith, over w (leb-false w 4096 q))) (omega (arith, leb-false w 4096 q))
    go false t p q = both (capped v + capped w) (v + w) (omega (arith, over v (leb-false v 4096 p))) (omega (arith, leb-false v 4096 p))

pub capped-next : (v r : ℕ) → r ≡ capped v → capped (1 + r) ≡ capped (1 + v)
capped-next v r e =
    ap₂ (λ (i j : ℕ). capped (i + j)) (cap-within 1 (omega arith)) e ∙ capped-add 1 v
