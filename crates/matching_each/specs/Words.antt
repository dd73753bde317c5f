-- The words of the contracts over a store's sorts, names and noted sorts as they are passed.
use Rattle.std.specs.Prelude.{ℕ, Bool, [], List}
use Rattle.record.specs.declared.SortRecord.{SortRecord}
use Rattle.record.specs.declared.span.Span.{Span}
use Rattle.store.specs.declared.entries.Sorts.{Sorts}
use Rattle.matching_tables.specs.declared.names.Names.{Names}
use Rattle.matching_tables.specs.declared.notes.Seen.{Seen}
use Rattle.matching_tables.specs.Contract.{TestAsks}
use Rattle.matching_tables.specs.Notes.{NoteTable}
use Rattle.matching_each.specs.Every.{Test, PassIs, EachAsks, AllEachAsks, EachIs, AllEachIs}
use Rattle.matching_each.specs.Premises.{UnlistedAsks, UnlistedIs, TargetIs, PremiseIs, KnownAt, UnlistedAt}

---------------------------------------------------------------- a node
-- A node without names to look at passes the test t, or not.
abbrev pub NodePasses : Test → SortRecord → Bool → Type 0
NodePasses t a r = (b : List ℕ) → PassIs t [] [] b a r

---------------------------------------------------------------- the walk
abbrev pub EachAsked : Sorts → (SortRecord → Type 0) → ℕ → Type 0
EachAsked s may k = EachAsks s.records.now s.places.now s.count may k

abbrev pub EachAnswered : Sorts → (SortRecord → Bool → Type 0) → Seen → ℕ → Seen → Bool → Type 0
EachAnswered s says o k o' r = EachIs s.records.now s.places.now s.count says o.slots k o'.slots r

abbrev pub AllEachAsked : Sorts → (SortRecord → Type 0) → Span → Type 0
AllEachAsked s may x = AllEachAsks s.records.now s.places.now s.count may x.at x.count

abbrev pub AllEachAnswered : Sorts → (SortRecord → Bool → Type 0) → Seen → Span → Seen → Bool → Type 0
AllEachAnswered s says o x o' r = AllEachIs s.records.now s.places.now s.count says o.slots x.at x.count o'.slots r

---------------------------------------------------------------- what is noted
-- Sorts that are known; sorts without listed names.
abbrev pub KnownSeen : Sorts → Seen → Type 0
KnownSeen s o = NoteTable (KnownAt s.records.now s.places.now s.count) o.slots

abbrev pub UnlistedSeen : Sorts → Names → Seen → Type 0
UnlistedSeen s x o = NoteTable (UnlistedAt s.records.now s.places.now s.count x.params.now) o.slots

---------------------------------------------------------------- premises
abbrev pub UnlistedAsked : Sorts → Names → ℕ → Type 0
UnlistedAsked s x k = UnlistedAsks s.records.now s.places.now s.count x.params.now k

abbrev pub UnlistedAnswered : Sorts → Names → ℕ → Bool → Type 0
UnlistedAnswered s x k r = UnlistedIs s.records.now s.places.now s.count x.params.now k r

-- One sort that may be a target, with the tables of both tests.
pub record TargetAsked (s : Sorts) (x : Names) (o f : Seen) (k : ℕ) : Type 0 where
  pub asked : UnlistedAsked s x k
  pub known : KnownSeen s o
  pub free : UnlistedSeen s x f

pub record TargetAnswered (s : Sorts) (x : Names) (k : ℕ) (o' f' : Seen) (r : Bool) : Type 0 where
  pub answer : TargetIs s.records.now s.places.now s.count x.params.now k r
  pub known : KnownSeen s o'
  pub free : UnlistedSeen s x f'

abbrev pub PremiseAsked : Sorts → Names → ℕ → ℕ → Type 0
PremiseAsked s x k j = TestAsks s.records.now s.places.now s.count x.params.now k j

abbrev pub PremiseAnswered : Sorts → Names → ℕ → ℕ → Bool → Type 0
PremiseAnswered s x k j r = PremiseIs s.records.now s.places.now s.count x.params.now k j r
