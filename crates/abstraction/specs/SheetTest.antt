-- THE TEST ON RECORDS, as a program makes it that judges more terms than a sheet holds: each record of a sheet stands for a whole term, by a
-- variable of the sort that this is known to have, or as its record over terms of the sheet that stand for its parts. And what such sheets
-- tell of the whole terms. Definitions only.
use Rattle.std.specs.Prelude.{ℕ, ◌+◌, ◌*◌, ◌<◌, ◌≡◌, Bool, true, false, cond, ◌&&◌, ◌||◌, List, [], ◌∷◌, length, get_or, eqb}
use Rattle.std.proofs.Math.Option.{Option, none, some}
use Rattle.record.specs.Sort.{Sort, same}
use Rattle.record.specs.Record.{leaf}
use Rattle.sheet.specs.Sheet.{Lengths, TermFields, Sheet}
use Rattle.row_rules.specs.declared.Cause.{Cause}
use Rattle.row_rules.specs.declared.Cause.TheVariants.{Below, Full}
use Rattle.row_rules.specs.Verdict.{Verdict, sort, refused, number_of}
use Rattle.row_rules.specs.Term.{constants_at}
use Rattle.row_rules.specs.Meaning.{without, is_full}
use Rattle.row_rules.specs.FreeLaws.{record_at, names_term}
use Rattle.check_rules.specs.Rank.{Rank}
use Rattle.judge_rules.specs.Judged.{accepted, judged_by}
use Rattle.abstraction.specs.Abstraction.{reads_arguments, reads_indices}
use Rattle.abstraction.specs.Names.{Renames, renamed_verdict, renamed_sort, renamed_records}
use Rattle.abstraction.specs.AbstractionTest.{same_fields, keeps_constants, no_bindings, no_numbers}

-- The whole terms are a list of records ws, the latest first, of any length, each over earlier ones; `known` gives for a whole term the sort that
-- it is known to have in a column.
-- The record is a Var of the known sort.
unfoldable pub var_of : Option Sort → TermFields → Bool
unfolding same
var_of none r = false
var_of (some s) r =
    eqb r.kind 5 && (eqb r.number 0 && (same r.own s
    && (no_numbers r.list && (no_bindings r.bindings && (no_numbers r.names && no_numbers r.second)))))

-- The record r of a sheet, behind the records rs, has the fields of the whole record w, and the integer constants that a verdict in the column
-- looks at.
unfoldable pub copy_of : ℕ → List TermFields → List TermFields → TermFields → TermFields → Bool
unfolding same_fields keeps_constants constants_at
copy_of column ws rs w r =
    same_fields w.kind w.name w.number w.own w.bindings w.names r.kind r.name r.number r.own r.bindings r.names
    && (keeps_constants (reads_arguments column w.kind w.number) (constants_at ws w.list) (constants_at rs r.list)
    && keeps_constants (reads_indices w.kind) (constants_at ws w.second) (constants_at rs r.second))

-- A test of two lists, entry by entry.
unfoldable pub pairwise : (ℕ → ℕ → Bool) → List ℕ → List ℕ → Bool
pairwise f [] [] = true
pairwise f [] (j ∷ js) = false
pairwise f (i ∷ is) [] = false
pairwise f (i ∷ is) (j ∷ js) = f i j && pairwise f is js

-- THE TEST: the term t of a sheet stands for the whole term g. It is a variable of the sort that g is known to have; or a copy of g's record over
-- terms that stand for g's parts. A term may stand for several whole ones, as a variable does for all of its sort, and for one in one column
-- and not in the other.
unfoldable pub follows : ℕ → (ℕ → Option Sort) → List TermFields → List TermFields → ℕ → ℕ → Bool
unfolding var_of copy_of record_at pairwise
follows column known ws [] g t = false
follows column known ws (r ∷ rs) g t =
    cond (eqb t (length rs))
    (var_of (known g) r
    || (copy_of column ws rs (record_at ws g) r
    && (pairwise (λ i j. follows column known ws rs i j) (record_at ws g).list r.list
    && pairwise (λ i j. follows column known ws rs i j) (record_at ws g).second r.second)))
    (follows column known ws rs g t)

---------------------------------------------------------------- what sheets tell
-- A ROW SAYS A VERDICT: a sort by its number in the store; a cause by its code, but not 23, and 20 only where no 23 is met at the term or below it.
abbrev pub RowSays : ℕ → Sheet → List Sort → List ℕ → ℕ → Verdict → Type 0
RowSays column h st rows t (sort a) = (get_or rows (2 * t + column) 0 < 65536) × (get_or st (get_or rows (2 * t + column) 0) leaf ≡ a)
RowSays column h st rows t (refused c) =
    (get_or rows (2 * t + column) 0 ≡ number_of c * 65536) × (c ≡ Full → ⊥) × (c ≡ Below → without (λ k. is_full k) rows column h.terms t ≡ true)

-- WHAT SHEETS TELL OF WHOLE TERMS in a column: a row of an accepted sheet says a verdict, of a term that stands for the whole one under the names
-- that the sheet gives, where each sort that the test took for known was told before; and a term over a part that is told to be refused is refused
-- by 20, on no sheet.
pub data Told (R : ℕ → List Rank) (column : ℕ) (ws : List TermFields) : ℕ → Verdict → Type 0 where
  by_row : (s : List ℕ) (l : Lengths) (h : Sheet) (st : List Sort) (rows answers : List ℕ) (ρ : ℕ → ℕ) (known : ℕ → Option Sort) (g t : ℕ) (v : Verdict)
      → judged_by R s l ≡ accepted h st rows answers → t < length h.terms → Renames ρ
      → follows column (λ i. renamed_sort ρ (known i)) (renamed_records ρ ws) h.terms g t ≡ true
      → ((i : ℕ) (a : Sort) → known i ≡ some a → Told R column ws i (sort a))
      → RowSays column h st rows t (renamed_verdict ρ v) → Told R column ws g v
  by_part : (g p : ℕ) (c : Cause) → names_term (record_at ws g) p ≡ true → Told R column ws p (refused c) → Told R column ws g (refused Below)
