-- Whole sheets from their bytes to their printed bytes, by computation from the definitions.
use Rattle.std.specs.Prelude.{◌≡◌, refl, [], ◌∷◌}
use Rattle.judge_rules.specs.Judged.{judged}
use Rattle.printout_sort.specs.Text.{ascii}
use Rattle.printout.specs.Printed.{printed, program_lengths}

-- K1: one sort, Int; the terms 7 and (+ 7 7); is Int compatible with Int?
pub k1 : printed (judged (1 ∷ 0 ∷ 2 ∷ 0 ∷ 1 ∷ 0 ∷ 1 ∷ 4 ∷ 5 ∷ 0 ∷ 7 ∷ 0 ∷ 0 ∷ 0
    ∷ 21 ∷ 7 ∷ 10 ∷ 0 ∷ 0 ∷ 0 ∷ 2 ∷ 0 ∷ 0 ∷ 0 ∷ 0 ∷ 17 ∷ 0 ∷ 2 ∷ 0 ∷ 0 ∷ 0 ∷ 0 ∷ []) program_lengths)
    ≡ ascii "T0 Int Int\nT1 Int Int\nQ0 yes\n"
unfolding printed judged
k1 = refl

-- K12: vectors of widths 65,535 and 1, joined.
pub k12 : printed (judged (0 ∷ 0 ∷ 3 ∷ 0 ∷ 0 ∷ 0 ∷ 5 ∷ 4 ∷ 255 ∷ 255 ∷ 0 ∷ 0 ∷ 5 ∷ 4 ∷ 1 ∷ 0 ∷ 0 ∷ 0
    ∷ 21 ∷ 7 ∷ 90 ∷ 0 ∷ 0 ∷ 0 ∷ 2 ∷ 0 ∷ 0 ∷ 1 ∷ 0 ∷ []) program_lengths)
    ≡ ascii "T0 (_ BitVec 65535) (_ BitVec 65535)\nT1 (_ BitVec 1) (_ BitVec 1)\nT2 !22 !22\n"
unfolding printed judged
k12 = refl

-- A store with one place keeps Int and has no room for Bool: 1, True, (+ 1 1).
pub full_store : printed (judged (0 ∷ 0 ∷ 3 ∷ 0 ∷ 0 ∷ 0 ∷ 5 ∷ 0 ∷ 1 ∷ 0 ∷ 0 ∷ 0 ∷ 21 ∷ 7 ∷ 0 ∷ 0 ∷ 0 ∷ 0 ∷ 0
    ∷ 21 ∷ 7 ∷ 10 ∷ 0 ∷ 0 ∷ 0 ∷ 2 ∷ 0 ∷ 0 ∷ 0 ∷ 0 ∷ []) (record { records = 65536; places = 1; rows = 8192; answers = 1024 }))
    ≡ ascii "T0 Int Int\nT1 !23 !23\nT2 Int Int\n"
unfolding printed judged
full_store = refl
