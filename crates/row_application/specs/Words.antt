-- The words of Contract.antt over a store, the tables of names and the arguments of a term as they are lent. Definitions only.
use Rattle.std.specs.Prelude.{ℕ, ◌+◌, ◌-◌, ◌≡◌, ◌<◌, Bool, List, Result, Ok, Err, ⊤}
use Rattle.std.proofs.Math.Option.{some}
use Rattle.record.specs.Sort.{Sorts as SortList}
use Rattle.record.specs.Decode.{store_of}
use Rattle.record.specs.declared.span.Span.{Span}
use Rattle.store.specs.declared.Store.{Store}
use Rattle.store.specs.declared.entries.Sorts.{Sorts}
use Rattle.substitution.specs.Matching.{listed_in}
use Rattle.matching_tables.specs.declared.names.Names.{Names}
use Rattle.matching_tables.specs.Tables.{table_map}
use Rattle.matching_tables.specs.Usable.{sorts_at, ListAsks}
use Rattle.matching_tables.specs.Notes.{NoteTable}
use Rattle.row_rules.specs.declared.Cause.{Cause}
use Rattle.row_rules.specs.Verdict.{Verdict}
use Rattle.check_rules.specs.Checked.{called}
use Rattle.row_answer.specs.declared.arguments.Args.{Args}
use Rattle.row_answer.specs.declared.heads.Callee.{Callee}
use Rattle.row_answer.specs.Answer.{answer}
use Rattle.row_answer.specs.Heads.{callee_names, callee_sorts}
use Rattle.row_application.specs.Contract.{Call, Settled, Fails, AppAsks, AppIs, AppCrowded, SettledAllAsks, SettledAllIs, SettledAt, AppFitAsks, AppFitIs, FittedAsks, FittedIs, CalledAsks, CalledCrowded, CallIs, call_of, rest_at, DeliverAsks, DeliverIs, ParlessAsks, ParlessAt, ExactAsks, ExactIs, PlainAppAsks, PlainAppIs, PatternsAsk, ParametricAsks, substituted_at, owned, own_of, OwnAsks, unmade_of}

-- How a call ended, with m names bound.
abbrev pub call_in : ℕ → Result ⊤ Cause → Call
call_in m (Ok u) = Settled m
call_in m (Err c) = Fails c m

---------------------------------------------------------------- an App
abbrev pub AppAsked : Store → Names → Args → Type 0
AppAsked s x a =
    AppAsks s.records.now s.places.now s.index.now s.count s.used x.params.now x.images.now x.bound.now a.bytes.now a.count

-- The answer r to the verdict v, with the tables of names as they were.
abbrev pub AppAnswered : Verdict → Store → Names → Store → Names → Result ℕ Cause → Type 0
AppAnswered v s x t y r =
    AppIs v s.records.now s.places.now s.count x.params.now x.images.now x.bound.now t.records.now t.places.now t.index.now y.params.now y.images.now y.bound.now (answer t r)

abbrev pub sorts_in : Store → Args → SortList
sorts_in s a = sorts_at s.records.now s.places.now s.count a.bytes.now 3 a.count

abbrev pub AppCrowdedIn : Bool → Store → Args → Type 0
AppCrowdedIn t s a = AppCrowded t s.records.now s.places.now s.count a.bytes.now a.count

---------------------------------------------------------------- arguments at a head
abbrev pub FitAsked : Sorts → Names → Span → Args → Type 0
FitAsked s x l a = AppFitAsks s.records.now s.places.now s.count x.params.now x.images.now x.bound.now l.at l.count a.bytes.now (a.count - 1) × (x.many ≡ 0) × (0 < a.count)

abbrev pub FitFound : Sorts → Names → Span → Args → Names → Result ⊤ Cause → Type 0
FitFound s x l a y r =
    AppFitIs s.records.now s.places.now s.count x.params.now l.at l.count a.bytes.now (a.count - 1) y.images.now y.bound.now (call_in y.many r)
    × (y.params.now ≡ x.params.now)

abbrev pub FittedAsked : Sorts → Names → Callee → Args → Type 0
FittedAsked s x f a = FittedAsks s.records.now s.places.now s.count x.params.now x.images.now x.bound.now f a.bytes.now (a.count - 1) × (0 < a.count)

abbrev pub FittedFound : Sorts → Names → Callee → Args → Names → Result ⊤ Cause → Type 0
FittedFound s x f a y r =
    FittedIs s.records.now s.places.now s.count x.params.now f a.bytes.now (a.count - 1) y.params.now y.images.now y.bound.now (call_in y.many r)

abbrev pub CalledAsked : Store → Names → Callee → Args → Type 0
CalledAsked s x f a =
    CalledAsks s.records.now s.places.now s.index.now s.count s.used x.params.now x.images.now x.bound.now f a.bytes.now (a.count - 1) × (0 < a.count)

abbrev pub CalledCrowdedIn : Bool → Store → Callee → Args → Type 0
CalledCrowdedIn t s f a = CalledCrowded t s.records.now s.places.now s.count f a.bytes.now (a.count - 1)

-- The checked verdict on the head f at its arguments.
abbrev pub called_in : Store → Callee → Args → Verdict
called_in s f a =
    called (listed_in (callee_names s.records.now f)) (some (callee_sorts s.records.now s.places.now s.count f)) (sorts_at s.records.now s.places.now s.count a.bytes.now 5 (a.count - 1))

---------------------------------------------------------------- what remains, delivered
abbrev pub DeliverAsked : Store → Names → Callee → ℕ → Result ⊤ Cause → Type 0
DeliverAsked s x f k c = DeliverAsks s.records.now s.places.now s.index.now s.count s.used x.images.now x.bound.now f k (call_in x.many c)

-- The verdict of a call.
abbrev pub call_verdict : Store → Names → Callee → ℕ → Result ⊤ Cause → Verdict
call_verdict s x f k c =
    call_of (store_of s.records.now s.places.now s.count) x.images.now x.bound.now (rest_at s.records.now s.places.now s.count f.list.at f.list.count k) (call_in x.many c)

abbrev pub Delivered : Store → Names → Callee → ℕ → Result ⊤ Cause → Store → Names → Result ℕ Cause → Type 0
Delivered s x f k c t y r =
    DeliverIs s.records.now s.places.now s.count x.images.now x.bound.now f k (call_in x.many c) t.records.now t.places.now t.index.now y.images.now y.bound.now (answer t r)
    × (y.params.now ≡ x.params.now)
    × (y.many ≡ 0)

---------------------------------------------------------------- a head without parameters
abbrev pub ParlessAsked : Sorts → ℕ → ℕ → Type 0
ParlessAsked s u k = ParlessAsks s.records.now s.places.now s.count u k

abbrev pub ParlessNotes : Sorts → List ℕ → Type 0
ParlessNotes s seen = NoteTable (ParlessAt s.records.now s.places.now s.count) seen

abbrev pub ExactAsked : Sorts → ℕ → Span → Args → Type 0
ExactAsked s u l a = ExactAsks s.records.now s.places.now s.count u l.at a.bytes.now l.count × (a.count ≡ l.count + 1)

abbrev pub ExactFound : Sorts → Span → Args → Bool → Type 0
ExactFound s l a r = ExactIs s.records.now s.places.now s.count l.at a.bytes.now l.count r

abbrev pub PlainAsked : Store → Span → Args → Type 0
PlainAsked s l a = PlainAppAsks s.records.now s.places.now s.index.now s.count s.used l.at l.count a.bytes.now (a.count - 1) × (0 < a.count)

abbrev pub PlainAnswered : Store → Span → Args → Store → Result ℕ Cause → Type 0
PlainAnswered s l a t r = PlainAppIs s.records.now s.places.now s.count l.at l.count a.bytes.now (a.count - 1) t.records.now t.places.now t.index.now (answer t r)

---------------------------------------------------------------- the inferred App
abbrev pub PatternsAsked : Sorts → Names → Callee → Args → Type 0
PatternsAsked s x f a = PatternsAsk s.records.now s.places.now s.count x.params.now x.images.now x.bound.now f a.bytes.now (a.count - 1) × (0 < a.count)

abbrev pub PatternsFound : Sorts → Names → Callee → Args → Names → Result ⊤ Cause → Type 0
PatternsFound s x f a y r =
    CallIs (substituted_at s.records.now s.places.now s.count f a.bytes.now (a.count - 1)) s.records.now s.places.now s.count x.params.now f (a.count - 1) y.params.now y.images.now y.bound.now (call_in y.many r)

abbrev pub ParametricAsked : Store → Names → Callee → Args → Type 0
ParametricAsked s x f a =
    ParametricAsks s.records.now s.places.now s.index.now s.count s.used x.params.now x.images.now x.bound.now f a.bytes.now (a.count - 1) × (0 < a.count)

abbrev pub substituted_in : Store → Callee → Args → Verdict
substituted_in s f a = substituted_at s.records.now s.places.now s.count f a.bytes.now (a.count - 1)

---------------------------------------------------------------- settled
abbrev pub SettledAsked : Sorts → Names → Span → Type 0
SettledAsked s x l = SettledAllAsks s.records.now s.places.now s.count x.params.now x.images.now l.at l.count

abbrev pub SettledNotes : Sorts → Names → List ℕ → Type 0
SettledNotes s x seen = NoteTable (SettledAt s.records.now s.places.now s.count x.params.now x.images.now) seen

abbrev pub SettledFound : Sorts → Names → Span → Bool → Type 0
SettledFound s x l r = SettledAllIs s.records.now s.places.now s.count x.params.now x.images.now l.at l.count r

---------------------------------------------------------------- without room
abbrev pub OwnAsked : Sorts → Names → Type 0
OwnAsked s x = OwnAsks s.records.now s.places.now s.count x.images.now x.bound.now x.many

abbrev pub RestAsked : Sorts → Span → Type 0
RestAsked s l = ListAsks s.records.now s.places.now s.count s.records.now l.at l.count

abbrev pub own_in : Sorts → Names → ℕ → Bool
own_in s x v = own_of s.records.now s.places.now s.count x.images.now v

abbrev pub owned_in : Sorts → Names → Bool
owned_in s x = owned (table_map (store_of s.records.now s.places.now s.count) x.images.now x.bound.now x.many)

abbrev pub rest_sorts : Sorts → Span → SortList
rest_sorts s l = sorts_at s.records.now s.places.now s.count s.records.now l.at l.count

-- The call where the inferred sort has no room, if t says so.
abbrev pub unmade_in : Bool → Sorts → Names → Span → Result ⊤ Cause → Call
unmade_in t s x l c = unmade_of t (store_of s.records.now s.places.now s.count) x.images.now x.bound.now (rest_sorts s l) (call_in x.many c)
