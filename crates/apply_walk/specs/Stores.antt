-- The words of the walks over whole stores: what they ask of a store that is lent, and what becomes of it.
use Rattle.std.specs.Prelude.{ℕ, ◌+◌, ◌*◌, ◌≤◌, ◌<◌, List, length, Result}
use Rattle.record.specs.Number.{u16_at}
use Rattle.record.specs.Sort.{Sort}
use Rattle.record.specs.Record.{Fields, sort_of}
use Rattle.record.specs.Decode.{store_of}
use Rattle.record.specs.declared.span.Span.{Span}
use Rattle.store.specs.declared.Full.{Full}
use Rattle.store.specs.declared.Store.{Store}
use Rattle.apply_walk.specs.declared.replacing.Replacing.{Replacing}
use Rattle.apply_walk.specs.Made.{MadeIs, FieldsMakeAsks}
use Rattle.apply_walk.specs.Contract.{answer_at, RebuildAsks, SortAsks, ReplacedIs, PartsAsk, PartsAre}
use Rattle.apply_walk.specs.Known.{Weighed, WeighIs, WeighAllAre, KnownWalkAsks, KnownIs, KnownAllAsk, KnownAllAre}

-- The sort k of the store s with its names replaced by the table l, and the sort of the fields f over s.
abbrev pub answer_in : Store → List ℕ → ℕ → Sort
answer_in s l k = answer_at s.records.now s.places.now s.count l k

abbrev pub sort_in : Store → Fields → Sort
sort_in s f = sort_of (store_of s.records.now s.places.now s.count) f

-- t is the store s with the sort x made, or s where there is no room for it.
abbrev pub MakeAsks : Store → Fields → Type 0
MakeAsks s f = FieldsMakeAsks s.records.now s.places.now s.index.now s.count s.used f

abbrev pub MadeIn : Store → Sort → Store → Result ℕ Full → Type 0
MadeIn s x t r = MadeIs s.records.now s.places.now s.index.now s.count s.used x t.records.now t.places.now t.index.now t.count t.used r

abbrev pub RebuildAsksOf : Store → ℕ → List ℕ → List ℕ → Type 0
RebuildAsksOf s k parts l = RebuildAsks s.records.now s.places.now s.index.now s.count s.used k parts l

-- A table ws of sizes says the truth of what is replaced.
abbrev pub WeighsTrue : Replacing → List ℕ → Type 0
WeighsTrue r ws = Weighed r.entries.records.now r.entries.places.now r.count r.images.now ws

-- The list lies in the records, and its numbers are of sorts.
abbrev pub ListKnown : Replacing → Span → Type 0
ListKnown r o = (o.at + 2 * o.count ≤ length r.entries.records.now) × ((j : ℕ) → j < o.count → u16_at r.entries.records.now (o.at + 2 * j) < r.count)

-- The capped sizes of answers, and the table ws of sizes afterwards.
abbrev pub WeighedIn : Replacing → ℕ → List ℕ → ℕ → Type 0
WeighedIn r k ws v = WeighIs r.entries.records.now r.entries.places.now r.count k r.images.now ws v

abbrev pub AllWeighedIn : Replacing → Span → List ℕ → ℕ → Type 0
AllWeighedIn r o ws v = WeighAllAre r.entries.records.now r.entries.places.now r.count o.at o.count r.images.now ws v

-- t is the store s with the answer of the sort k, or with what was made of it before room ran out.
abbrev pub SortAsksOf : Store → ℕ → List ℕ → Type 0
SortAsksOf s k l = SortAsks s.records.now s.places.now s.index.now s.count s.used k l

abbrev pub ReplacedIn : Store → Sort → Store → Result ℕ Full → Type 0
ReplacedIn s x t r = ReplacedIs s.records.now s.places.now s.count s.used x t.records.now t.places.now t.index.now t.count t.used r

-- The same of the sorts of a list, whose answers' numbers stand in o.
abbrev pub PartsAskOf : Store → List ℕ → List ℕ → Type 0
PartsAskOf s parts l = PartsAsk s.records.now s.places.now s.index.now s.count s.used parts l

abbrev pub PartsIn : Store → List ℕ → List ℕ → Store → List ℕ → Result (Unit {0}) Full → Type 0
PartsIn s parts l t o r = PartsAre s.records.now s.places.now s.count s.used parts l t.records.now t.places.now t.index.now o t.count t.used r

-- Both by a table of answers, which is ws before and ws' afterwards.
abbrev pub WalkAsks : Store → List ℕ → ℕ → List ℕ → Type 0
WalkAsks s ws k l = KnownWalkAsks s.records.now s.places.now s.index.now ws s.count s.used k l

abbrev pub WalkedIn : Store → ℕ → List ℕ → Store → List ℕ → Result ℕ Full → Type 0
WalkedIn s k l t ws' r = KnownIs s.records.now s.places.now s.count s.used k l t.records.now t.places.now t.index.now ws' t.count t.used r

abbrev pub WalkAllAsk : Store → List ℕ → List ℕ → List ℕ → Type 0
WalkAllAsk s ws parts l = KnownAllAsk s.records.now s.places.now s.index.now ws s.count s.used parts l

abbrev pub AllWalkedIn : Store → List ℕ → List ℕ → Store → List ℕ → List ℕ → Result (Unit {0}) Full → Type 0
AllWalkedIn s parts l t ws' o r = KnownAllAre s.records.now s.places.now s.count s.used parts l t.records.now t.places.now t.index.now ws' o t.count t.used r
