-- The rows (document 01): "Each term in order gets its inferred row, then its checked row", both over one store.
use Rattle.std.specs.Prelude.{ℕ, List, [], ◌∷◌, ◌++◌}
use Rattle.record.specs.Sort.{Sort}
use Rattle.sheet.specs.Sheet.{Lengths, TermFields}
use Rattle.row_rules.specs.Verdict.{Verdict}
use Rattle.row_rules.specs.Term.{Site, verdict_at}
use Rattle.row_rules.specs.Outcome.{CodedStore, outcome, row_sort}
use Rattle.infer_rules.specs.Inferred.{inferred}
use Rattle.check_rules.specs.Rank.{Rank}
use Rattle.check_rules.specs.Checked.{checked}

-- The store and the coded rows after some terms: inferred and checked row of term 0, then those of term 1, and so on.
pub record RowsSoFar : Type 0 where
  pub store : List Sort
  pub rows : List ℕ

-- The outcome in a column (0 inferred, 1 checked) of the record r behind the records rs, over a store and the rows so far.
unfoldable pub row_of : (Site → Verdict) → ℕ → Lengths → List TermFields → TermFields → List ℕ → List Sort → CodedStore
unfolding outcome verdict_at row_sort
row_of J column l rs r rows st = outcome l st (verdict_at J (λ i. row_sort st rows column i) rs r)

abbrev pub rows_added : List ℕ → CodedStore → CodedStore → RowsSoFar
rows_added rows i c = record { store = c.store; rows = rows ++ (i.code ∷ c.code ∷ []) }

abbrev pub checked_after : (ℕ → List Rank) → Lengths → List TermFields → TermFields → List ℕ → CodedStore → RowsSoFar
checked_after R l rs r rows i = rows_added rows i (row_of (checked R) 1 l rs r rows i.store)

abbrev pub both_rows : (ℕ → List Rank) → Lengths → List TermFields → TermFields → RowsSoFar → RowsSoFar
both_rows R l rs r m = checked_after R l rs r m.rows (row_of inferred 0 l rs r m.rows m.store)

-- THE ROWS OF A SHEET'S TERMS (the latest first), from the store that holds its sorts.
unfoldable pub rows_of : (ℕ → List Rank) → Lengths → List Sort → List TermFields → RowsSoFar
unfolding row_of inferred checked
rows_of R l st [] = record { store = st; rows = [] }
rows_of R l st (r ∷ rs) = both_rows R l rs r (rows_of R l st rs)
