-- What a coded row means over a store, and where no limit is met at a term or below it. Definitions only.
use Rattle.std.specs.Prelude.{ℕ, ◌+◌, ◌*◌, ◌<◌, ◌≡◌, Bool, true, not, cond, ◌&&◌, ◌||◌, List, [], ◌∷◌, length, get_or, eqb}
use Rattle.record.specs.Sort.{Sort}
use Rattle.record.specs.Record.{leaf}
use Rattle.sheet.specs.Sheet.{TermFields}
use Rattle.row_rules.specs.declared.Cause.TheVariants.{Limit, Full}
use Rattle.row_rules.specs.Verdict.{Verdict, sort, refused, number_of}

-- THE CODE STANDS FOR THE VERDICT over the store st: it is the number of the verdict's sort, or the code of its cause.
abbrev pub Means : List Sort → ℕ → Verdict → Type 0
Means st code (sort s) = (code < length st) × (get_or st code leaf ≡ s)
Means st code (refused c) = code ≡ number_of c * 65536

-- "A limit is met where .. the checked row of the term, or of one below it, gets 22 or 23": the two codes.
abbrev pub limited : ℕ → Bool
limited code = eqb code (number_of Limit * 65536) || eqb code (number_of Full * 65536)

unfoldable pub all_of : (ℕ → Bool) → List ℕ → Bool
all_of f [] = true
all_of f (i ∷ is) = f i && all_of f is

-- NO ROW AT THE TERM n OR BELOW IT HAS SUCH A CODE, by a test of codes, in a column of the rows (0 inferred, 1 checked): not that of
-- the term, of the terms of its list or its second list, or of those below them (`without-exactly` of FreeLaws).
unfoldable pub without : (ℕ → Bool) → List ℕ → ℕ → List TermFields → ℕ → Bool
unfolding all_of
without test rows column [] n = true
without test rows column (r ∷ rs) n =
    cond (eqb n (length rs))
    (not (test (get_or rows (2 * n + column) 0))
    && (all_of (λ j. without test rows column rs j) r.list && all_of (λ j. without test rows column rs j) r.second))
    (without test rows column rs n)

-- NO LIMIT IS MET at the term n or at one below it: no 22 and no 23.
abbrev pub free : List ℕ → ℕ → List TermFields → ℕ → Bool
free rows column rs n = without (λ c. limited c) rows column rs n

-- The code of a row that is refused for want of room, 23; and NO 23 IS MET at the term n or at one below it.
abbrev pub is_full : ℕ → Bool
is_full code = eqb code (number_of Full * 65536)

abbrev pub roomed : List ℕ → ℕ → List TermFields → ℕ → Bool
roomed rows column rs n = without (λ c. is_full c) rows column rs n
