-- "A SHEET WITHOUT THE BIT PRINTS AS BEFORE WHEREVER BOTH STORES HAD SPACE" (document 02, A.6), of the printed bytes: from
-- `was-judged` of crate judge_rules; what the judgement was before stands there, in specs/Before.antt.
use Rattle.std.specs.Prelude.{ℕ, ◌≡◌, refl, true, List}
use Rattle.std.proofs.Common.{ap}
use Rattle.record.specs.Codec.{Bytes}
use Rattle.sheet.specs.Sheet.{Lengths}
use Rattle.judge_rules.specs.Judged.{judged}
use Rattle.judge_rules.specs.AnyRoom.{had_space}
use Rattle.judge_rules.specs.Before.{was_judged, Unsized}
use Rattle.judge_rules.proofs.BeforeTheorems.{was-judged, lent, k1, seven}
use Rattle.printout_sort.specs.Text.{ascii}
use Rattle.printout.specs.Printed.{printed}

-- THE THEOREM: bytes whose sort records are without bit 128 print as before, where the store has space now: no 10 and no 23.
pub prints-as-before : (s : List ℕ) (l : Lengths) → Bytes s → Unsized s l → had_space (judged s l) ≡ true
    → printed (was_judged s l) ≡ printed (judged s l)
prints-as-before s l bytes plain space = ap printed (was-judged s l bytes plain space)

-- K1 in four bytes, and the term 7 in three: Int takes four.
pub k1-printed : (printed (was_judged k1 (lent 4)) ≡ ascii "T0 Int Int\nT1 Int Int\nQ0 yes\n")
    × (printed (judged k1 (lent 4)) ≡ ascii "T0 Int Int\nT1 Int Int\nQ0 yes\n")
unfolding printed was_judged judged
k1-printed = (refl, refl)

pub seven-printed : (printed (was_judged seven (lent 3)) ≡ ascii "T0 Int Int\n") × (printed (judged seven (lent 3)) ≡ ascii "T0 !23 !23\n")
unfolding printed was_judged judged
seven-printed = (refl, refl)
