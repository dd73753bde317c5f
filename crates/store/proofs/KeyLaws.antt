-- Laws of the key: what a walk has of its bits, step by step.
use Prim.Native.Nat.{ℕ, zero, suc, ◌+◌, ◌/◌, ◌%◌, ◌^◌, ◌≤◌, ◌<◌}
use mathlib.Core.Path.{◌≡◌, refl}
use mathlib.Core.List.{List}
use native.Mathlib.Omega.{arith}
use Rattle.store.specs.Index.{hash_of, second_hash, doubled, hash_last, key_of, Refilled, bucket_of, rest_of}

-- After d steps the walk has the bits x at hand, and z are all that are left of the key of r: 6 steps go by the hash, 64 by the second one,
-- and the others by the rest of the first.
pub data Bits (r : List ℕ) (d x z : ℕ) : Type 0 where
  first : (m : ℕ) → d + suc m ≡ 6 → x < 2 ^ suc m → z ≡ x + doubled (suc m) (second_hash r + doubled 64 (hash_last (hash_of r))) → Bits r d x z
  middle : (m : ℕ) → 6 ≤ d → d + suc m ≡ 70 → x < 2 ^ suc m → z ≡ x + doubled (suc m) (hash_last (hash_of r)) → Bits r d x z
  behind : 70 ≤ d → z ≡ x → Bits r d x z

pub key-bucket : (r : List ℕ) {h : ℕ} → h ≡ hash_of r → h % 1024 ≡ bucket_of (key_of r)
unfolding key_of
key-bucket r {h} e = omega (arith, e)

pub key-start : (r : List ℕ) {h : ℕ} → h ≡ hash_of r → Bits r 0 (h / 1024 % 64) (rest_of (key_of r))
unfolding key_of
key-start r {h} e = first 5 refl (omega arith) (omega (arith, e))

-- One step in a part of the key with v above it, and the last one.
part-bit : (m x z v : ℕ) → z ≡ x + doubled (suc m) v → x % 2 ≡ z % 2
unfolding doubled
part-bit m x z v e = omega (arith, e)

part-next : (m x z v : ℕ) → z ≡ x + doubled (suc (suc m)) v → z / 2 ≡ x / 2 + doubled (suc m) v
unfolding doubled
part-next m x z v e = omega (arith, e)

part_end : (x z v : ℕ) → x < 2 ^ 1 → z ≡ x + doubled 1 v → z / 2 ≡ v
unfolding doubled
part_end x z v l e = omega (arith, e)

module _ (r : List ℕ) where
  pub bit-same : {d x z : ℕ} → Bits r d x z → x % 2 ≡ z % 2
  bit-same {d} {x} {z} (first m o l e) = part-bit m x z (second_hash r + doubled 64 (hash_last (hash_of r))) e
  bit-same {d} {x} {z} (middle m g o l e) = part-bit m x z (hash_last (hash_of r)) e
  bit-same {d} {x} {z} (behind o e) = omega (arith, e)

  pub bits-next : {d x z y : ℕ} → Bits r d x z → Refilled r (d + 1) (x / 2) y → Bits r (d + 1) y (z / 2)
  bits-next {d} {x} {z} {y} (first zero o l e) (Refilled.second q w b) =
      middle 63 (omega arith) (omega arith) b (omega (arith, w, part_end x z (second_hash r + doubled 64 (hash_last (hash_of r))) l e))
  bits-next {d} {x} {z} {y} (first zero o l e) (Refilled.last q w) = absurd (omega arith)
  bits-next {d} {x} {z} {y} (first zero o l e) (Refilled.left p q w) = absurd (p (omega arith))
  bits-next {d} {x} {z} {y} (first (suc m) o l e) (Refilled.second q w b) = absurd (omega arith)
  bits-next {d} {x} {z} {y} (first (suc m) o l e) (Refilled.last q w) = absurd (omega arith)
  bits-next {d} {x} {z} {y} (first (suc m) o l e) (Refilled.left p q w) =
      first m (omega arith) (omega arith) (omega (arith, w, part-next m x z (second_hash r + doubled 64 (hash_last (hash_of r))) e))
  bits-next {d} {x} {z} {y} (middle zero g o l e) (Refilled.second q w b) = absurd (omega arith)
  bits-next {d} {x} {z} {y} (middle zero g o l e) (Refilled.last q w) =
      behind (omega arith) (omega (arith, w, part_end x z (hash_last (hash_of r)) l e))
  bits-next {d} {x} {z} {y} (middle zero g o l e) (Refilled.left p q w) = absurd (q (omega arith))
  bits-next {d} {x} {z} {y} (middle (suc m) g o l e) (Refilled.second q w b) = absurd (omega arith)
  bits-next {d} {x} {z} {y} (middle (suc m) g o l e) (Refilled.last q w) = absurd (omega arith)
  bits-next {d} {x} {z} {y} (middle (suc m) g o l e) (Refilled.left p q w) =
      middle m (omega arith) (omega arith) (omega arith) (omega (arith, w, part-next m x z (hash_last (hash_of r)) e))
  bits-next {d} {x} {z} {y} (behind o e) (Refilled.second q w b) = absurd (omega arith)
  bits-next {d} {x} {z} {y} (behind o e) (Refilled.last q w) = absurd (omega arith)
  bits-next {d} {x} {z} {y} (behind o e) (Refilled.left p q w) = behind (omega arith) (omega (arith, e, w))
