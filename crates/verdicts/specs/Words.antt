-- The words of Judge.antt over a store and a sheet as they are lent. Definitions only.
use Rattle.std.specs.Prelude.{ℕ, ◌≡◌, List}
use Rattle.sheet.specs.declared.ReadSheet.{ReadSheet}
use Rattle.sheet.specs.declared.SheetCounts.{SheetCounts}
use Rattle.store.specs.declared.Store.{Store}
use Rattle.verdicts.specs.Judge.{lengths_of, JudgeIs, Accepted, AcceptedAsks}

-- A sheet that was read into the store.
pub record AcceptedAsked (s : Store) (d : ReadSheet) (c : SheetCounts) (ys rw an : List ℕ) : Type 0 where
  pub accepted : AcceptedAsks d.bytes.now s.records.now s.places.now s.index.now d.table.now d.starts.now ys c rw an
  pub sorts : d.sorts ≡ c.sorts
  pub count : s.count ≡ c.count
  pub used : s.used ≡ c.used

-- THE JUDGEMENT of an accepted sheet in the store and the two lists.
abbrev pub JudgedIn : Store → ReadSheet → List ℕ → List ℕ → Store → List ℕ → List ℕ → Type 0
JudgedIn s d rw an t rw' an' = JudgeIs d.bytes.now (lengths_of s.records.now s.places.now rw an) t.records.now t.places.now rw' an' Accepted
