-- Laws of the whole: 22 by the capped size, before anything is added.
use Prim.Native.Nat.{ℕ, ◌≤◌, ◌<◌}
use mathlib.Core.List.{List}
use Rattle.record.specs.Sort.{size}
use Rattle.apply_walk.specs.Contract.{answer_at, SizeIs, SortAsks}
use Rattle.apply_walk.specs.CapLaws.{capped-over, capped_small}
use Rattle.apply.specs.Contract.{ApplyAsks}

module _ {b p ix : List ℕ} {n u k : ℕ} {l : List ℕ} (a : ApplyAsks b p ix n u k l) where
  pub apply-over : (v : ℕ) → SizeIs b p n k l v → 4096 < v → 4096 < size (answer_at b p n l k)
  apply-over v e h = capped-over (size (answer_at b p n l k)) v e h

  pub apply-small : (v : ℕ) → SizeIs b p n k l v → v ≤ 4096 → size (answer_at b p n l k) ≤ 4096
  apply-small v e h = capped_small (size (answer_at b p n l k)) v e h

  pub apply-asks : (v : ℕ) → SizeIs b p n k l v → v ≤ 4096 → SortAsks b p ix n u k l
  apply-asks v e h = record { ready = a.ready; known = a.known; small = apply-small v e h }
