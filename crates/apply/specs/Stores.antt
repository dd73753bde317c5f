-- The words of a substitution over whole stores: what it asks of a store that is lent, and what becomes of it.
use Rattle.std.specs.Prelude.{ℕ, List, Result}
use Rattle.record.specs.Sort.{Sort}
use Rattle.record.specs.declared.span.Span.{Span}
use Rattle.store.specs.declared.Full.{Full}
use Rattle.store.specs.declared.Store.{Store}
use Rattle.apply_walk.specs.declared.replacing.Replacing.{Replacing}
use Rattle.apply_walk.specs.Contract.{SizeIs, SizesAre}
use Rattle.apply.specs.declared.ApplyError.{ApplyError}
use Rattle.apply.specs.Contract.{function_at, ApplyAsks, FunctionAsks, FunctionFits, AppliedIs}
use Rattle.apply.specs.Order.{InOrderAsk, InOrderAre}

-- The Function of the sorts of s replaced whose m numbers stand from x on.
abbrev pub function_in : Store → List ℕ → ℕ → ℕ → Sort
function_in s l x m = function_at s.records.now s.places.now s.count l x m

-- The capped sizes of answers.
abbrev pub SizeIn : Replacing → ℕ → ℕ → Type 0
SizeIn r k v = SizeIs r.entries.records.now r.entries.places.now r.count k r.images.now v

abbrev pub SizesIn : Replacing → Span → ℕ → Type 0
SizesIn r o v = SizesAre r.entries.records.now r.entries.places.now r.count o.at o.count r.images.now v

-- t is the store s with the answers of the list o, and ws' the table of answers afterwards.
abbrev pub ListAsks : Store → List ℕ → List ℕ → List ℕ → Type 0
ListAsks s ws o l = InOrderAsk s.records.now s.places.now s.index.now ws s.count s.used o l

abbrev pub ListedIn : Store → List ℕ → List ℕ → Store → List ℕ → Result (Unit {0}) Full → Type 0
ListedIn s o l t ws' r = InOrderAre s.records.now s.places.now s.count s.used o l t.records.now t.places.now t.index.now ws' t.count t.used r

-- t is the store s with the answer x, or s where there is none.
abbrev pub ApplyAsksOf : Store → ℕ → List ℕ → Type 0
ApplyAsksOf s k l = ApplyAsks s.records.now s.places.now s.index.now s.count s.used k l

abbrev pub FunctionAsksOf : Store → List ℕ → ℕ → ℕ → Type 0
FunctionAsksOf s l x m = FunctionAsks s.records.now s.places.now s.index.now s.count s.used l x m

abbrev pub FunctionFitsIn : Store → List ℕ → ℕ → ℕ → Type 0
FunctionFitsIn s l x m = FunctionFits s.records.now s.places.now s.index.now s.count s.used l x m

abbrev pub AppliedIn : Store → Sort → Store → Result ℕ ApplyError → Type 0
AppliedIn s x t r = AppliedIs s.records.now s.places.now s.index.now s.count s.used x t.records.now t.places.now t.index.now t.count t.used r
