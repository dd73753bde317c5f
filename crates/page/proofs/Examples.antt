-- Examples of pages, computed.
use Rattle.std.specs.Prelude.{◌*◌, ◌≡◌, refl, [], ◌∷◌, length, replicate}
use Rattle.record.specs.Sort.{Sort, function, bool, int, end, ◌then◌}
use Rattle.judge_rules.specs.Judged.{judged}
use Rattle.printout_sort.specs.Text.{ascii}
use Rattle.printout.specs.Printed.{program_lengths}
use Rattle.page.specs.Page.{blanks, row_lines, table_lines, pages, page_of, paged}

-- A sort whose text is 41 bytes long, the 36th a blank.
abbrev long : Sort
long = function (int then int then int then int then int then int then int then int then bool then end)

-- "broken at exactly 36": a piece may end in a blank of its text; the other column is blank below its end.
broken : table_lines (int ∷ long ∷ []) 9 (1 ∷ 26 * 65536 ∷ 0 ∷ 1 ∷ [])
    ≡ ascii "     9 (-> Int Int Int Int Int Int Int Int  !26                                 "
    ∷ ascii "       Bool)                                                                    "
    ∷ ascii "    10 Int                                  (-> Int Int Int Int Int Int Int Int "
    ∷ ascii "                                            Bool)                               " ∷ []
unfolding table_lines
broken = refl

-- A text of exactly 36 bytes has no second line, one of 37 has; a row is as high as its longer text.
exact : (length (row_lines 4095 (replicate 36 65) (replicate 1 65))
    ∷ length (row_lines 4095 (replicate 37 65) (replicate 72 65))
    ∷ length (row_lines 4095 (replicate 1 65) (replicate 73 65)) ∷ [])
    ≡ 1 ∷ 2 ∷ 3 ∷ []
unfolding row_lines
exact = refl

-- No rows, no page; a line, a page; sixty lines, a page; 61, two.
padded : (length (pages [])
    ∷ length (pages (replicate 1 (blanks 80)))
    ∷ length (pages (replicate 60 (blanks 80)))
    ∷ length (pages (replicate 61 (blanks 80))) ∷ [])
    ≡ 0 ∷ 60 ∷ 60 ∷ 120 ∷ []
unfolding pages
padded = refl

-- K1: its question is not printed.
k1 : paged (judged (1 ∷ 0 ∷ 2 ∷ 0 ∷ 1 ∷ 0 ∷ 1 ∷ 4 ∷ 5 ∷ 0 ∷ 7 ∷ 0 ∷ 0 ∷ 0
    ∷ 21 ∷ 7 ∷ 10 ∷ 0 ∷ 0 ∷ 0 ∷ 2 ∷ 0 ∷ 0 ∷ 0 ∷ 0 ∷ 17 ∷ 0 ∷ 2 ∷ 0 ∷ 0 ∷ 0 ∷ 0 ∷ []) program_lengths)
    ≡ page_of (int ∷ []) (0 ∷ 0 ∷ 0 ∷ 0 ∷ [])
unfolding paged judged
k1 = refl

-- A refused sheet as before; a sheet without terms prints nothing.
refused-sheet : paged (judged [] program_lengths) ≡ ascii "!1\n"
unfolding paged judged
refused-sheet = refl

empty-sheet : paged (judged (0 ∷ 0 ∷ 0 ∷ 0 ∷ 0 ∷ 0 ∷ []) program_lengths) ≡ []
unfolding paged judged
empty-sheet = refl
