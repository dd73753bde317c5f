-- Laws of bytes that stand at a place of a list (`Stands`): parts, joins, and where they stand again.
use Rattle.std.specs.Prelude.{ℕ, suc, ◌+◌, ◌<◌, ◌≤◌, ◌≡◌, refl, List, [], ◌∷◌, ◌++◌, length, get_or, take, drop}
use Rattle.std.proofs.Common.{sym, ap, ap₂, subst, ◌∙◌, arith, add-one, add-zero, zero-add, drop-cons}
use Rattle.record.specs.Decode.{Stands}

pub stands-move : (s b : List ℕ) (x y : ℕ) → x ≡ y → Stands s b x → Stands s b y
stands-move s b x y e h = subst (λ (i : ℕ). Stands s b i) e h

pub stands-left : (s t b : List ℕ) (x : ℕ) → Stands (s ++ t) b x → Stands s b x
unfolding Stands
stands-left [] t b x h = tt
stands-left (a ∷ s) t b x h = (h.0, stands-left s t b (x + 1) h.1)

pub stands-right : (s t b : List ℕ) (x : ℕ) → Stands (s ++ t) b x → Stands t b (x + length s)
unfolding Stands
stands-right [] t b x h = let e : x ≡ x + 0 = omega arith in subst (λ (i : ℕ). Stands t b i) e h
stands-right (a ∷ s) t b x h =
    let e : x + 1 + length s ≡ x + suc (length s) = omega arith in
    subst (λ (i : ℕ). Stands t b i) e (stands-right s t b (x + 1) h.1)

pub stands-append : (s t b : List ℕ) (x : ℕ) → Stands s b x → Stands t b (x + length s) → Stands (s ++ t) b x
unfolding Stands
stands-append [] t b x h k = let e : x + 0 ≡ x = omega arith in subst (λ (i : ℕ). Stands t b i) e k
stands-append (a ∷ s) t b x h k =
    let e : x + suc (length s) ≡ x + 1 + length s = omega arith in
    (h.0, stands-append s t b (x + 1) h.1 (subst (λ (i : ℕ). Stands t b i) e k))

-- They are that part of b.
pub stands-part : (s b : List ℕ) (x : ℕ) → x + length s ≤ length b → Stands s b x → s ≡ take (length s) (drop x b)
unfolding Stands
stands-part [] b x l h = refl
stands-part (a ∷ s) b x l h =
    ap₂ (λ (v : ℕ) (r : List ℕ). v ∷ r) h.0
    (rw add-one at (stands-part s b (x + 1) (omega arith) h.1))
    ∙ sym (ap (take (suc (length s))) (drop-cons b x 0 (omega arith)))

-- What stands in a list stands wherever those bytes are the same.
pub stands_same : (s b c : List ℕ) (x y : ℕ) → ((i : ℕ) → i < length s → get_or b (x + i) 0 ≡ get_or c (y + i) 0) → Stands s b x → Stands s c y
unfolding Stands
stands_same [] b c x y e h = tt
stands_same (a ∷ s) b c x y e h = (
  h.0 ∙ rw (add-zero x, add-zero y) at (e 0 (omega arith)),
  stands_same s b c (x + 1) (y + 1)
      (λ i l.
      let p : x + suc i ≡ x + 1 + i = omega arith in
      let q : y + suc i ≡ y + 1 + i = omega arith in
      sym (ap (λ (k : ℕ). get_or b k 0) p) ∙ e (suc i) (omega arith) ∙ ap (λ (k : ℕ). get_or c k 0) q)
      h.1,
)

-- And wherever its elements are found.
pub stands-each : (s b : List ℕ) (x : ℕ) → ((i : ℕ) → i < length s → get_or s i 0 ≡ get_or b (x + i) 0) → Stands s b x
unfolding Stands
stands-each [] b x e = tt
stands-each (a ∷ s) b x e = (
  rw add-zero at (e 0 (omega arith)),
  stands-each s b (x + 1)
      (λ i l. let p : x + suc i ≡ x + 1 + i = omega arith in e (suc i) (omega arith) ∙ ap (λ (k : ℕ). get_or b k 0) p),
)

pub stands_self : (s : List ℕ) → Stands s s 0
stands_self s = stands-each s s 0 (λ i l. sym (ap (λ (k : ℕ). get_or s k 0) (zero-add i)))
