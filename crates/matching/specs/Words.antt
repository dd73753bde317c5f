-- The words of the contracts over a store's sorts, the tables of names and noted pairs as they are passed; r says whether a pattern
-- fits, and y are the names then.
use Rattle.std.specs.Prelude.{ℕ, Bool}
use Rattle.record.specs.Numbers.{numbers_left}
use Rattle.record.specs.declared.numbers.Numbers.{Numbers}
use Rattle.store.specs.declared.entries.Sorts.{Sorts}
use Rattle.matching_tables.specs.Matched.{found}
use Rattle.matching_tables.specs.declared.names.Names.{Names}
use Rattle.matching_tables.specs.declared.notes.Met.{Met}
use Rattle.matching.specs.Contract.{VarAsks, VarIs, MatchAsks, MatchIs, MatchListsAsk, MatchListsIs}
use Rattle.matching.specs.Met.{MetBefore, MetAfter}
use Rattle.matching.specs.Steps.{StepIs}
use Rattle.matching.specs.declared.Step.{Step}

---------------------------------------------------------------- a variable
abbrev pub VarAsked : Names → ℕ → ℕ → Type 0
VarAsked x v j = VarAsks x.params.now x.images.now x.bound.now x.many v j

abbrev pub VarAnswered : Names → ℕ → ℕ → ℕ → Names → Bool → Type 0
VarAnswered x v k j y r = VarIs x.params.now x.images.now x.bound.now x.many v k j y.images.now y.bound.now (found y.many r)

---------------------------------------------------------------- two sorts
abbrev pub MatchAsked : Sorts → Names → ℕ → ℕ → Type 0
MatchAsked s x k j = MatchAsks s.records.now s.places.now s.count x.params.now x.images.now x.bound.now x.many k j

abbrev pub MatchAnswered : Sorts → Names → ℕ → ℕ → Names → Bool → Type 0
MatchAnswered s x k j y r = MatchIs s.records.now s.places.now s.count x.params.now x.images.now x.bound.now x.many k j y.images.now y.bound.now (found y.many r)

---------------------------------------------------------------- two lists
abbrev pub ListsAsked : Sorts → Names → Numbers → Numbers → Type 0
ListsAsked s x u w = MatchListsAsk s.records.now s.places.now s.count x.params.now x.images.now x.bound.now x.many (numbers_left u) (numbers_left w)

abbrev pub ListsAnswered : Sorts → Names → Numbers → Numbers → Names → Bool → Type 0
ListsAnswered s x u w y r =
    MatchListsIs s.records.now s.places.now s.count x.params.now x.images.now x.bound.now x.many (numbers_left u) (numbers_left w) y.images.now y.bound.now (found y.many r)

---------------------------------------------------------------- noted pairs
-- The noted pairs fit from the present map; and still do after a match, by the names that were listed before it.
abbrev pub MetRight : Sorts → Names → Met → Type 0
MetRight s x l = MetBefore s.records.now s.places.now s.count x.params.now x.images.now x.bound.now x.many l.slots

abbrev pub MetKept : Sorts → Names → Names → Met → Bool → Type 0
MetKept s x y l r = MetAfter s.records.now s.places.now s.count x.params.now y.images.now y.bound.now l.slots (found y.many r)

---------------------------------------------------------------- a step
abbrev pub StepTaken : Sorts → Met → ℕ → ℕ → Step → Type 0
StepTaken s l k j z = StepIs s.records.now s.places.now s.count l.slots k j z
