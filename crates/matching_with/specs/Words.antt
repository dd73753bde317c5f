-- The words of the contracts over a store's sorts, the tables of names and noted pairs as they are passed; r says whether a pattern
-- fits, and y are the names then.
use Rattle.std.specs.Prelude.{ℕ, Bool}
use Rattle.record.specs.Sort.{Sorts as SortList}
use Rattle.record.specs.Record.{sorts_of}
use Rattle.record.specs.Decode.{store_of}
use Rattle.record.specs.Numbers.{numbers_left}
use Rattle.record.specs.declared.SortRecord.{SortRecord}
use Rattle.record.specs.declared.numbers.Numbers.{Numbers}
use Rattle.store.specs.declared.entries.Sorts.{Sorts}
use Rattle.matching_tables.specs.Contract.{TestAsks}
use Rattle.matching_tables.specs.Matched.{found}
use Rattle.matching_tables.specs.Names.{SameMap}
use Rattle.matching_tables.specs.Notes.{Pairs}
use Rattle.matching_tables.specs.Usable.{ListsAsk}
use Rattle.matching_tables.specs.declared.names.Names.{Names}
use Rattle.matching_tables.specs.declared.notes.Met.{Met}
use Rattle.matching_with.specs.Compared.{CompatibleIs}
use Rattle.matching_with.specs.Contract.{MeetWithAsks, MeetWithIs, NodeAsks, TurnIs, WithAsks, WithListsAsk, WithIs, PairWith, ListsWith}
use Rattle.matching_with.specs.Met.{WithBefore, WithAfter, CompatibleAt}
use Rattle.matching_with.specs.Way.{CloseAsks, CloseIs, MoveIs, WalkIs}
use Rattle.matching_with.specs.declared.Turn.{Turn}
use Rattle.matching_with.specs.declared.Move.{Move}
use Rattle.matching_with.specs.declared.Move.TheVariants.{Ends, Under, Past, Parts}
use Rattle.matching_with.specs.declared.Walked.{Walked}
use Rattle.matching_with.specs.declared.compatible.Compared.{Compared}

---------------------------------------------------------------- a parameter
abbrev pub MeetWithAsked : Sorts → Names → ℕ → ℕ → Type 0
MeetWithAsked s x v j = MeetWithAsks s.records.now s.places.now s.count x.images.now x.bound.now x.many v j

abbrev pub MeetWithAnswered : Sorts → Names → ℕ → ℕ → Names → Bool → Type 0
MeetWithAnswered s x v j y r = MeetWithIs s.records.now s.places.now s.count x.images.now x.bound.now x.many v j y.images.now y.bound.now (found y.many r)

---------------------------------------------------------------- a turn
abbrev pub TurnAsked : Sorts → Names → ℕ → ℕ → Type 0
TurnAsked s x k j = TestAsks s.records.now s.places.now s.count x.params.now k j

abbrev pub NodeAsked : Sorts → Names → SortRecord → ℕ → ℕ → Type 0
NodeAsked s x a k j = NodeAsks s.records.now s.places.now s.count x.params.now a k j

abbrev pub TurnTaken : Sorts → Names → ℕ → ℕ → Turn → Type 0
TurnTaken s x k j z = TurnIs s.records.now s.places.now s.count x.params.now k j z

abbrev pub MoveTaken : Sorts → Names → ℕ → ℕ → Names → Met → Move → Type 0
MoveTaken s x k j y l z =
    MoveIs s.records.now s.places.now s.count x.params.now x.images.now x.bound.now x.many k j y.params.now y.images.now y.bound.now y.many l.slots z

-- A turn that goes on binds no name: the map, with the count of bound names, is as it was.
abbrev pub MoveKeeps : Names → Names → Move → Type 0
MoveKeeps x y (Ends q) = Unit {0}
MoveKeeps x y (Under i) = SameMap x y
MoveKeeps x y (Past i) = SameMap x y
MoveKeeps x y (Parts u w) = SameMap x y

---------------------------------------------------------------- two sorts
abbrev pub WithAsked : Sorts → Names → ℕ → ℕ → Type 0
WithAsked s x k j = WithAsks s.records.now s.places.now s.count x.params.now x.images.now x.bound.now x.many k j

abbrev pub WithAnswered : Sorts → Names → ℕ → ℕ → Names → Bool → Type 0
WithAnswered s x k j y r =
    WithIs s.records.now s.places.now s.count x.params.now y.params.now y.images.now y.bound.now (found y.many r)
    (PairWith s.records.now s.places.now s.count x.images.now x.bound.now x.many k j)

abbrev pub WalkTaken : Sorts → Names → ℕ → ℕ → Names → Met → Walked → Type 0
WalkTaken s x k j y l w =
    WalkIs s.records.now s.places.now s.count x.params.now x.images.now x.bound.now x.many k j y.params.now y.images.now y.bound.now l.slots (found y.many w.fits) w.down

-- The names of the Pars on the way are taken off.
abbrev pub CloseAsked : Sorts → Names → ℕ → ℕ → Type 0
CloseAsked s x k i = CloseAsks s.records.now s.places.now s.count x.params.now k i

abbrev pub Closed : Sorts → Names → ℕ → ℕ → Names → Type 0
Closed s x k i y = CloseIs s.records.now s.places.now s.count x.params.now k i y.params.now

---------------------------------------------------------------- two lists
abbrev pub ListsAsked : Sorts → Names → Numbers → Numbers → Type 0
ListsAsked s x u w = WithListsAsk s.records.now s.places.now s.count x.params.now x.images.now x.bound.now x.many (numbers_left u) (numbers_left w)

abbrev pub ListsAnswered : Sorts → Names → Numbers → Numbers → Names → Bool → Type 0
ListsAnswered s x u w y r =
    WithIs s.records.now s.places.now s.count x.params.now y.params.now y.images.now y.bound.now (found y.many r)
    (ListsWith s.records.now s.places.now s.count x.images.now x.bound.now x.many (numbers_left u) (numbers_left w))

---------------------------------------------------------------- noted pairs
-- The noted pairs fit from the present map; and still do after a match, by the names that were listed before it.
abbrev pub WithRight : Sorts → Names → Met → Type 0
WithRight s x l = WithBefore s.records.now s.places.now s.count x.params.now x.images.now x.bound.now x.many l.slots

abbrev pub WithKept : Sorts → Names → Names → Met → Bool → Type 0
WithKept s x y l r = WithAfter s.records.now s.places.now s.count x.params.now y.images.now y.bound.now l.slots (found y.many r)

---------------------------------------------------------------- compatible sorts
-- The sorts with the numbers that are left.
abbrev pub sorts_in : Sorts → Numbers → SortList
sorts_in s u = sorts_of (store_of s.records.now s.places.now s.count) (numbers_left u)

abbrev pub ListsIn : Sorts → Numbers → Numbers → Type 0
ListsIn s u w = ListsAsk s.records.now s.places.now s.count (numbers_left u) (numbers_left w)

-- The noted pairs are compatible.
abbrev pub CompatibleMet : Sorts → Met → Type 0
CompatibleMet s l = Pairs (CompatibleAt s.records.now s.places.now s.count) l.slots

abbrev pub FitTaken : Sorts → ℕ → ℕ → Compared → Type 0
FitTaken s k j z = CompatibleIs s.records.now s.places.now s.count k j z
