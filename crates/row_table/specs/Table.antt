-- The rows of a sheet's terms: what both rows of one term and the loop over all terms ask and promise. Definitions only.
use Rattle.std.specs.Prelude.{ℕ, ◌+◌, ◌*◌, ◌≤◌, ◌<◌, ◌≡◌, List, ◌++◌, length, get_or, take, drop}
use Rattle.record.specs.Sort.{Sort}
use Rattle.record.specs.Decode.{store_of}
use Rattle.record.specs.SortLists.{Starts}
use Rattle.reader.specs.declared.TermRecord.{TermRecord}
use Rattle.sheet.specs.Sheet.{Lengths, term_fields}
use Rattle.sheet.specs.Trees.{trees_of}
use Rattle.sheet.specs.Contract.{term_read_at, terms_at, TermStands}
use Rattle.sheet.specs.Stands.{Numbered}
use Rattle.store.specs.Good.{Good}
use Rattle.check_rules.specs.Ranks.{smt_lib}
use Rattle.row_answer.specs.Lent.{Lent}
use Rattle.row_parts.specs.Site.{Standing}
use Rattle.judge_rules.specs.Rows.{RowsSoFar, both_rows, rows_of}
use Rattle.questions.specs.Word.{Counts}

-- A store and the coded rows so far.
abbrev pub tabled : List Sort → List ℕ → RowsSoFar
tabled st rows = record { store = st; rows = rows }

-- The rows before those of the term t have numbers of the store of n sorts.
abbrev pub RowsKnown : List ℕ → ℕ → ℕ → Type 0
RowsKnown rows t n = (i : ℕ) → i < 2 * t → get_or rows i 0 < 65536 → get_or rows i 0 < n

-- A good store, tables of names lent over it, and the record r of the term t, with room for its rows.
pub record BothAsk (b p ix : List ℕ) (n u : ℕ) (prm imgs bnd s tbl xs rows : List ℕ) (r : TermRecord) (t : ℕ) : Type 0 where
  pub good : Good b p ix n u
  pub tables : Lent b p n prm imgs bnd
  pub standing : Standing n s tbl xs rows r
  pub here : standing.term ≡ t
  pub room : 2 * t + 2 ≤ length rows
  pub few : t < 4096

-- BOTH ROWS OF THE RECORD r: the store after them and the rows up to them are the definition's; the rows behind them, and the
-- tables of names, are as they were.
pub record BothAre (b p : List ℕ) (n : ℕ) (prm imgs bnd s tbl xs rows : List ℕ) (r : TermRecord) (t : ℕ) (b' p' ix' prm' imgs' bnd' rows' : List ℕ) (c : Counts) : Type 0 where
  pub good : Good b' p' ix' c.count c.used
  pub long : length b' ≡ length b
  pub wide : length p' ≡ length p
  pub lent : length rows' ≡ length rows
  pub is : (h : Standing n s tbl xs rows r) → h.term ≡ t → (l : Lengths) → l.records ≡ length b → l.places ≡ length p
      → both_rows smt_lib l (terms_at s (trees_of (store_of b p n) tbl h.sorts) xs t) (term_fields s (trees_of (store_of b p n) tbl h.sorts) r)
      (tabled (store_of b p n) (take (2 * t) rows))
      ≡ tabled (store_of b' p' c.count) (take (2 * t + 2) rows')
  pub rest : drop (2 * t + 2) rows' ≡ drop (2 * t + 2) rows
  pub known : RowsKnown rows' (t + 1) c.count
  pub starts : Starts (store_of b p n) (store_of b' p' c.count)
  pub tables : Lent b' p' c.count prm' imgs' bnd'
  pub params : prm' ≡ prm
  pub images : imgs' ≡ imgs
  pub bound : bnd' ≡ bnd

-- A good store, tables of names lent over it, m sorts with numbers of the store, and the terms up to t at the places xs.
pub record TurnAsks (b p ix : List ℕ) (n u : ℕ) (prm imgs bnd s tbl : List ℕ) (m : ℕ) (xs rows : List ℕ) (t : ℕ) : Type 0 where
  pub good : Good b p ix n u
  pub tables : Lent b p n prm imgs bnd
  pub numbered : Numbered n s tbl m
  pub stands : (i : ℕ) → i < t + 1 → TermStands s m i (get_or xs i 0)
  pub placed : t < length xs
  pub room : 2 * t + 2 ≤ length rows
  pub few : t < 4096
  pub known : RowsKnown rows t n

-- BOTH ROWS OF THE TERM t.
pub record TermRowsAre (b p : List ℕ) (n : ℕ) (prm imgs bnd s tbl : List ℕ) (m : ℕ) (xs rows : List ℕ) (t : ℕ) (b' p' ix' prm' imgs' bnd' rows' : List ℕ) (c : Counts) : Type 0 where
  pub good : Good b' p' ix' c.count c.used
  pub long : length b' ≡ length b
  pub wide : length p' ≡ length p
  pub lent : length rows' ≡ length rows
  pub is : (l : Lengths) → l.records ≡ length b → l.places ≡ length p
      → both_rows smt_lib l (terms_at s (trees_of (store_of b p n) tbl m) xs t) (term_read_at s (trees_of (store_of b p n) tbl m) t (get_or xs t 0))
      (tabled (store_of b p n) (take (2 * t) rows))
      ≡ tabled (store_of b' p' c.count) (take (2 * t + 2) rows')
  pub rest : drop (2 * t + 2) rows' ≡ drop (2 * t + 2) rows
  pub known : RowsKnown rows' (t + 1) c.count
  pub starts : Starts (store_of b p n) (store_of b' p' c.count)
  pub tables : Lent b' p' c.count prm' imgs' bnd'
  pub params : prm' ≡ prm
  pub images : imgs' ≡ imgs
  pub bound : bnd' ≡ bnd

-- A good store, tables of names lent over it, m sorts with numbers of the store, and c terms at the places xs, with room for their rows.
pub record RowsAsk (b p ix : List ℕ) (n u : ℕ) (prm imgs bnd s tbl : List ℕ) (m : ℕ) (xs : List ℕ) (c : ℕ) (rows : List ℕ) : Type 0 where
  pub good : Good b p ix n u
  pub tables : Lent b p n prm imgs bnd
  pub numbered : Numbered n s tbl m
  pub stands : (i : ℕ) → i < c → TermStands s m i (get_or xs i 0)
  pub placed : c ≤ length xs
  pub room : 2 * c ≤ length rows
  pub few : c ≤ 4096

-- THE ROWS OF c TERMS: the store after them is the definition's, and the lent list holds its rows, then what stood there.
pub record RowsAre (b p : List ℕ) (n : ℕ) (prm imgs bnd s tbl : List ℕ) (m : ℕ) (xs : List ℕ) (c : ℕ) (rows b' p' ix' prm' imgs' bnd' rows' : List ℕ) (r : Counts) : Type 0 where
  pub good : Good b' p' ix' r.count r.used
  pub long : length b' ≡ length b
  pub wide : length p' ≡ length p
  pub after : (l : Lengths) → l.records ≡ length b → l.places ≡ length p
      → store_of b' p' r.count ≡ (rows_of smt_lib l (store_of b p n) (terms_at s (trees_of (store_of b p n) tbl m) xs c)).store
  pub written : (l : Lengths) → l.records ≡ length b → l.places ≡ length p
      → rows' ≡ (rows_of smt_lib l (store_of b p n) (terms_at s (trees_of (store_of b p n) tbl m) xs c)).rows ++ drop (2 * c) rows
  pub starts : Starts (store_of b p n) (store_of b' p' r.count)
  pub params : prm' ≡ prm
  pub images : imgs' ≡ imgs
  pub bound : bnd' ≡ bnd
