-- Examples of the lines of a sheet, computed.
use Rattle.std.specs.Prelude.{◌*◌, ◌≡◌, refl, [], ◌∷◌}
use Rattle.record.specs.Sort.{int, set}
use Rattle.printout_sort.specs.Text.{ascii}
use Rattle.printout.specs.Lines.{lines_of, refusal_line}

-- K1's store, rows and answer.
k1 : lines_of (int ∷ []) (0 ∷ 0 ∷ 0 ∷ 0 ∷ []) (0 ∷ []) (1 ∷ []) ≡ ascii "T0 Int Int\nT1 Int Int\nQ0 yes\n"
unfolding lines_of
k1 = refl

-- Refused rows and answers beside others; a question of kind 0 is answered no, one of another kind by a sort.
answered : lines_of (int ∷ set int ∷ []) (1 ∷ 24 * 65536 ∷ 21 * 65536 ∷ 20 * 65536 ∷ []) (0 ∷ 1 ∷ 2 ∷ []) (0 ∷ 29 * 65536 ∷ 1 ∷ [])
    ≡ ascii "T0 (Set Int) !24\nT1 !21 !20\nQ0 no\nQ1 !29\nQ2 (Set Int)\n"
unfolding lines_of
answered = refl

refused : refusal_line 10 ≡ ascii "!10\n"
unfolding refusal_line
refused = refl

-- An accepted sheet without terms and questions prints nothing.
nothing : lines_of [] [] [] [] ≡ []
unfolding lines_of
nothing = refl
