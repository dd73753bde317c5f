-- Where room ran out on the way to an answer, the store before is had back.
use Prim.Native.Nat.{ℕ, ◌≤◌}
use mathlib.Core.Path.{◌≡◌, sym}
use mathlib.Core.Bool.{false}
use lib.ListN.{length}
use Rattle.std.proofs.Common.{Err}
use mathlib.Core.List.{List}
use Rattle.record.specs.Sort.{Sort, size}
use Rattle.record.specs.Store.{intern, room}
use Rattle.record.specs.Decode.{store_of}
use Rattle.store.specs.Good.{Good}
use Rattle.store.specs.Contract.{Untouched, UndoAsks, UndoIs}
use Rattle.apply_walk.specs.Made.{grown-count, grown-take}
use Rattle.apply_walk.specs.Halted.{Halted}
use Rattle.apply.specs.declared.ApplyError.{ApplyError}
use Rattle.apply.specs.declared.ApplyError.TheVariants.{TooLarge, NoRoom}
use Rattle.apply.specs.Contract.{AppliedIs}

-- UNDOING gives back the store that it was grown from, every buffer whole.
module _ {b p ix : List ℕ} {n u : ℕ} (g : Good b p ix n u) {st : List Sort} {c q jx : List ℕ} {m v : ℕ} (h : Halted b p n u st c q jx m v) where
  pub undo-asks : UndoAsks c q jx m v n
  undo-asks = record { good = h.good; order = grown-count b p ix n u g c q jx m v h.good h.starts }

  pub undo-back : {d t kx : List ℕ} {k w : ℕ} → UndoIs c q m d t kx n w × (k ≡ n) → Untouched b p ix d t kx × (k ≡ n) × (w ≡ u)
  undo-back {d} {t} {kx} {k} {w} y =
      let s =
      y.0.same b p ix u g (grown-take b p ix n u g c q jx m v h.good h.starts) (sym h.kept.long) (sym h.kept.wide) in
      ((s.0, s.1, s.2), y.1, s.3)

-- The answer of a full store.
pub without-room : {b p ix : List ℕ} {n u : ℕ} (s : Sort) {d t kx : List ℕ} {m v : ℕ} (e : ApplyError) → e ≡ NoRoom → size s ≤ 4096
    → room (length b) (length p) (intern s (store_of b p n)) ≡ false → Untouched b p ix d t kx × (m ≡ n) × (v ≡ u) → AppliedIs b p ix n u s d t kx m v (Err e)
without-room {b} {p} {ix} {n} {u} s {d} {t} {kx} {m} {v} TooLarge q small full y = cc
without-room {b} {p} {ix} {n} {u} s {d} {t} {kx} {m} {v} NoRoom q small full y = (small, full, y.0, y.1, y.2)
