-- Laws of the hash: it is made over the numbers of the record's bytes, one after the other.
use Rattle.std.specs.Prelude.{ℕ, suc, ◌+◌, ◌-◌, ◌*◌, ◌%◌, ◌/◌, ◌<◌, ◌≡◌, List, [], ◌∷◌, length, get_or, refl, bit_or}
use Rattle.std.proofs.Common.{arith, sym, ap, ◌∙◌, subst}
use Rattle.std.specs.Int.{w32, rotate_left}
use Rattle.std.proofs.Math.Nat.{mod-mod}
use Rattle.std.proofs.lemmas.Nat.{mul-mod, or_shifted}
use Rattle.record.specs.Codec.{Bytes}
use Rattle.record.specs.Numbers.{numbers_of, left-small}
use Rattle.store.specs.Index.{turned, product, hash_from, hash_by}

-- The hash of numbers, from the two halves so far.
unfoldable pub hash_over : ℕ → ℕ → ℕ → ℕ → List ℕ → ℕ
hash_over one two l h [] = l + h * 4294967296
hash_over one two l h (v ∷ vs) = let x = product (l + v) one in hash_over one two (turned x) (turned (product (h + x) two)) vs

pub hash-numbers : (one two l h : ℕ) (r : List ℕ) → hash_over one two l h (numbers_of r) ≡ hash_from one two l h r
unfolding hash_over hash_from
hash-numbers one two l h [] = refl
hash-numbers one two l h (v ∷ []) = refl
hash-numbers one two l h (v ∷ w ∷ r) =
    let e : l + (v + w * 256) ≡ l + v + w * 256 = omega arith in
    let x = product (l + v + w * 256) one in
    rw e (hash-numbers one two (turned x) (turned (product (h + x) two)) r)

-- The code's steps are the definition's: a sum and a product of 32 bits, and a rotation of 17.
mod-product : (a m : ℕ) → a % 4294967296 * m % 4294967296 ≡ product a m
mod-product a m =
    mul-mod (a % 4294967296) m 4294967296 ∙ ap (λ (i : ℕ). i * (m % 4294967296) % 4294967296) (mod-mod a 4294967296) ∙ sym (mul-mod a m 4294967296)

rotated : (x : ℕ) → x < 4294967296 → rotate_left w32 x 17 ≡ turned x
rotated x l =
    let e : x * 131072 % 4294967296 ≡ x % 32768 * 131072 = omega arith in
    let f : x / 32768 < 131072 = omega arith in
    ap (λ (i : ℕ). bit_or i (x / 32768)) e ∙ or_shifted (x % 32768) 17 (x / 32768) f ∙ omega arith

-- The two halves after the numbers of a record of which `left` are left.
pub record HashInv (one two : ℕ) (r : List ℕ) (l h : ℕ) (left : List ℕ) : Type 0 where
  pub small : (j : ℕ) → get_or left j 0 < 65536
  pub goes : hash_over one two l h left ≡ hash_by one two r

pub hash-start : (one two : ℕ) (r : List ℕ) {low : ℕ} → Bytes r → low ≡ get_or r (length r - 1) 0 → HashInv one two r low 0 (numbers_of r)
unfolding hash_by
hash-start one two r {low} h e =
    record { small = left-small r h; goes = hash-numbers one two low 0 r ∙ ap (λ (l : ℕ). hash_from one two l 0 r) e }

module _ {one two : ℕ} {r : List ℕ} {low high v : ℕ} {left rest : List ℕ} (i : HashInv one two r low high left) (e : left ≡ v ∷ rest) where
  pub hash-small : v < 65536
  hash-small = let h : HashInv one two r low high (v ∷ rest) = subst (HashInv one two r low high) e i in h.small 0

  pub hash-step : {x y low' high' : ℕ} → x ≡ (low + v) % 4294967296 * one % 4294967296 → y ≡ (high + x) % 4294967296 * two % 4294967296
      → low' ≡ rotate_left w32 x 17 → high' ≡ rotate_left w32 y 17 → HashInv one two r low' high' rest
  unfolding hash_over
  hash-step {x} {y} {low'} {high'} ex ey el eh =
      let h : HashInv one two r low high (v ∷ rest) = subst (HashInv one two r low high) e i in
      let fx : x ≡ product (low + v) one = ex ∙ mod-product (low + v) one in
      let fy : y ≡ product (high + product (low + v) one) two = ey ∙ mod-product (high + x) two ∙ ap (λ (k : ℕ). product (high + k) two) fx in
      let gl : low' ≡ turned (product (low + v) one) = el ∙ rotated x (omega (arith, ex)) ∙ ap turned fx in
      let gh : high' ≡ turned (product (high + product (low + v) one) two) = eh ∙ rotated y (omega (arith, ey)) ∙ ap turned fy in
      record { small = λ j. h.small (suc j); goes = rw (gl, gh) h.goes }

pub hash-end : {one two : ℕ} {r : List ℕ} {low high : ℕ} {left : List ℕ} → HashInv one two r low high left → left ≡ []
    → low + high * 4294967296 ≡ hash_by one two r
unfolding hash_over
hash-end {one} {two} {r} {low} {high} {left} i e = let h : HashInv one two r low high [] = subst (HashInv one two r low high) e i in h.goes
