-- The lines of the printout (document 01, "The printout").
use Rattle.std.specs.Prelude.{ℕ, suc, ◌/◌, cond, List, [], ◌∷◌, ◌++◌, get_or, eqb, ltb}
use Rattle.record.specs.Sort.{Sort}
use Rattle.record.specs.Record.{leaf}
use Rattle.printout_sort.specs.Text.{ascii, decimal, text}

-- "!n": a refusal's number.
unfoldable pub refusal_text : ℕ → List ℕ
unfolding decimal
refusal_text n = ascii "!" ++ decimal n

-- "prints `!n` for a refused sheet": the whole printout of one, a line as the others.
unfoldable pub refusal_line : ℕ → List ℕ
unfolding refusal_text
refusal_line n = refusal_text n ++ ascii "\n"

-- The text of a row over the store: "as u32: refusal × 65,536 + store number, 0 in a refused row."
unfoldable pub row_text : List Sort → ℕ → List ℕ
unfolding text refusal_text
row_text st code = cond (ltb code 65536) (text (get_or st code leaf)) (refusal_text (code / 65536))

-- The text of an answer to a question of kind k: "`Qk answer` (yes/no for 0)", where "0 compatible [17, two sorts]: 1 or 0";
-- else "Answers are u32s coded as rows."
unfoldable pub answer_text : List Sort → ℕ → ℕ → List ℕ
unfolding row_text
answer_text st k code = cond (eqb k 0) (cond (eqb code 0) (ascii "no") (ascii "yes")) (row_text st code)

-- "a line per term `Tk inferred checked`", for term number t.
unfoldable pub term_line : List Sort → ℕ → ℕ → ℕ → List ℕ
unfolding decimal row_text
term_line st t inferred checked =
    ascii "T" ++ (decimal t ++ (ascii " " ++ (row_text st inferred ++ (ascii " " ++ (row_text st checked ++ ascii "\n")))))

-- "then `Qk answer`", for question number q of kind k.
unfoldable pub question_line : List Sort → ℕ → ℕ → ℕ → List ℕ
unfolding decimal answer_text
question_line st q k code = ascii "Q" ++ (decimal q ++ (ascii " " ++ (answer_text st k code ++ ascii "\n")))

-- The lines of the terms from number t on: "Each term in order gets its inferred row, then its checked row."
unfoldable pub term_lines : List Sort → ℕ → List ℕ → List ℕ
unfolding term_line
term_lines st t [] = []
term_lines st t (inferred ∷ []) = []
term_lines st t (inferred ∷ (checked ∷ rows)) = term_line st t inferred checked ++ term_lines st (suc t) rows

-- The lines of the questions from number q on, by their kinds and coded answers.
unfoldable pub question_lines : List Sort → ℕ → List ℕ → List ℕ → List ℕ
unfolding question_line
question_lines st q [] answers = []
question_lines st q (k ∷ kinds) [] = []
question_lines st q (k ∷ kinds) (code ∷ answers) = question_line st q k code ++ question_lines st (suc q) kinds answers

-- THE PRINTOUT OF AN ACCEPTED SHEET, from its store, its 2T coded rows, and the kinds and coded answers of its questions:
-- "else a line per term `Tk inferred checked`, then `Qk answer`".
unfoldable pub lines_of : List Sort → List ℕ → List ℕ → List ℕ → List ℕ
unfolding term_lines question_lines
lines_of st rows kinds answers = term_lines st 0 rows ++ question_lines st 0 kinds answers

-- HOW MUCH ROOM ANY LINE of a judged sheet needs, in bytes (`line-short` of crate printout_text): the longest is a term's, with its two
-- sorts and 7 bytes more; rounded up to a multiple of 64.
abbrev pub line_room : ℕ
line_room = 1937856
