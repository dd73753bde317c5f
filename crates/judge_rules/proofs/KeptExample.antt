-- `kept-rows` on a small sheet, computed from its bytes: its premises can be met at once, and it goes one way only, since a term of Int and Real
-- mixed had no checked sort and has one.
use Rattle.std.specs.Prelude.{ℕ, ◌*◌, ◌≡◌, refl, List, [], ◌∷◌}
use Rattle.std.proofs.Common.{arith}
use Rattle.record.specs.Sort.{Sort, int, real, bool}
use Rattle.sheet.specs.Sheet.{Lengths, TermFields, Sheet}
use Rattle.row_rules.specs.declared.Cause.TheVariants.{Below, Misfit}
use Rattle.row_rules.specs.Verdict.{number_of}
use Rattle.row_rules.specs.Meaning.{without}
use Rattle.check_rules.specs.Ranks.{document01}
use Rattle.judge_rules.specs.Judged.{accepted, judged_by, judged}
use Rattle.judge_rules.specs.Given.{Gives}
use Rattle.judge_rules.proofs.KeptRows.{kept-rows}

abbrev pub lent : Lengths
lent = record { records = 64; places = 8; rows = 10; answers = 0 }

-- 7; a decimal; 10 Add of 7 and 7; 10 Add of 7 and the decimal; 17 LessThan of the two sums.
abbrev pub sums : List ℕ
sums =
    0 ∷ 0 ∷ 5 ∷ 0 ∷ 0 ∷ 0
    ∷ 5 ∷ 0 ∷ 7 ∷ 0 ∷ 0 ∷ 0 ∷ 1 ∷ 1
    ∷ 21 ∷ 7 ∷ 10 ∷ 0 ∷ 0 ∷ 0 ∷ 2 ∷ 0 ∷ 0 ∷ 0 ∷ 0
    ∷ 21 ∷ 7 ∷ 10 ∷ 0 ∷ 0 ∷ 0 ∷ 2 ∷ 0 ∷ 0 ∷ 1 ∷ 0
    ∷ 21 ∷ 7 ∷ 17 ∷ 0 ∷ 0 ∷ 0 ∷ 2 ∷ 2 ∷ 0 ∷ 3 ∷ 0 ∷ []

abbrev pub constant : ℕ → ℕ → TermFields
constant k n = record { kind = k; name = 0; number = n; own = bool; list = []; bindings = []; names = []; second = [] }

abbrev pub operator : ℕ → ℕ → ℕ → TermFields
operator n i j = record { kind = 7; name = 0; number = n; own = bool; list = i ∷ j ∷ []; bindings = []; names = []; second = [] }

abbrev pub sums_sheet : Sheet
sums_sheet =
    record { sorts = []; store = []; terms = operator 17 2 3 ∷ operator 10 0 1 ∷ operator 10 0 0 ∷ constant 1 0 ∷ constant 0 7 ∷ []; questions = [] }

-- The store is the same: the inferred rows gave Real and Bool to the last two terms before.
abbrev pub sums_sorts : List Sort
sums_sorts = int ∷ real ∷ bool ∷ []

abbrev pub rows_before : List ℕ
rows_before = 0 ∷ 0 ∷ 1 ∷ 1 ∷ 0 ∷ 0 ∷ 1 ∷ number_of Misfit * 65536 ∷ 2 ∷ number_of Below * 65536 ∷ []

abbrev pub rows_now : List ℕ
rows_now = 0 ∷ 0 ∷ 1 ∷ 1 ∷ 0 ∷ 0 ∷ 1 ∷ 1 ∷ 2 ∷ 2 ∷ []

pub sums-before : judged_by document01 sums lent ≡ accepted sums_sheet sums_sorts rows_before []
unfolding judged_by document01
sums-before = refl

pub sums-now : judged sums lent ≡ accepted sums_sheet sums_sorts rows_now []
unfolding judged
sums-now = refl

-- The sum of 7 and 7 had the checked sort Int, so it has it.
pub example-kept : Gives sums_sorts rows_now 2 int
unfolding without
example-kept =
    (kept-rows sums lent sums_sheet sums_sorts sums_sorts rows_before rows_now [] [] sums-before sums-now 2 (omega arith) refl int (omega arith, refl)).1

-- NOT THE OTHER WAY: the mixed sum has the sort Real and the order over it Bool, where both were refused.
pub one_way : Gives sums_sorts rows_now 3 real × Gives sums_sorts rows_now 4 bool
    × ((a : Sort) → Gives sums_sorts rows_before 3 a → ⊥) × ((a : Sort) → Gives sums_sorts rows_before 4 a → ⊥)
one_way = ((omega arith, refl), (omega arith, refl), λ a g. omega (arith, g.0), λ a g. omega (arith, g.0))
