-- A byte more of the bytes is pasted in at each turn, and all of them at the end.
use Rattle.std.proofs.Common.{arith}
use Prim.Native.Nat.{ℕ, ◌+◌}
use mathlib.Core.Path.{◌≡◌, sym, ap, ◌∙◌}
use mathlib.Core.List.{List}
use native.Mathlib.Numerals.{add-one}
use lib.ListN.{length, get_or, set, length-set}
use lib.Seq.{paste, paste-suc, take-length}
use Rattle.record.specs.Decode.{written}
use Rattle.store.proofs.buffers.copy_at.Goals as goal

pub loop-j-preserved : goal.loop-j-preserved
loop-j-preserved c = let a = c.args in
    let l = c.loop-j in (
      ap (λ (d : List ℕ). set d (a.at + l.j) (get_or a.src.now l.j 0)) l.invariant.0
          ∙ paste-suc a.dst.now a.at a.src.now l.j 0 (omega arith) (omega arith)
          ∙ ap (paste a.dst.now a.at a.src.now) (sym (add-one l.j)),
      omega arith,
      simp length-set (omega arith),
    )

pub returns : goal.returns
unfolding written
returns c = let a = c.args in
    let l = c.loop-j in
    let e : l.j ≡ length a.src.now = omega arith in
    l.invariant.0 ∙ ap (paste a.dst.now a.at a.src.now) e ∙ rw take-length
