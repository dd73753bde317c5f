-- What the program prints of a judged sheet, and the lengths that it lends.
use Rattle.std.specs.Prelude.{ℕ, List, [], ◌∷◌, ◌++◌}
use Rattle.reader.specs.Reader.{refusal_number}
use Rattle.sheet.specs.Sheet.{Lengths, QuestionFields}
use Rattle.judge_rules.specs.Judged.{Judgement, sheet_refused, accepted}
use Rattle.printout.specs.Lines.{refusal_line, lines_of}

-- The kinds of a sheet's questions (the latest first), in order.
unfoldable pub kinds_of : List QuestionFields → List ℕ
kinds_of [] = []
kinds_of (q ∷ qs) = kinds_of qs ++ (q.kind ∷ [])

-- THE PRINTOUT: "prints `!n` for a refused sheet; else a line per term `Tk inferred checked`, then `Qk answer`".
unfoldable pub printed : Judgement → List ℕ
unfolding refusal_line lines_of kinds_of
printed (sheet_refused e) = refusal_line (refusal_number e)
printed (accepted h st rows answers) = lines_of st rows (kinds_of h.questions) answers

-- "Program buffers are [0; 65536] bytes, [0; 4096] places, [0; 8192] rows"; the answers are as many as a header may ask for.
abbrev pub program_lengths : Lengths
program_lengths = record { records = 65536; places = 4096; rows = 8192; answers = 1024 }
