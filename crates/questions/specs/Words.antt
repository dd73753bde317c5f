-- The words of Contract.antt and All.antt over a store, the tables of names and a sheet as they are lent. Definitions only.
use Rattle.std.specs.Prelude.{ℕ, ◌≡◌, Bool, List, length, Result}
use Rattle.record.specs.declared.span.Span.{Span}
use Rattle.reader.specs.declared.QuestionRecord.{QuestionRecord}
use Rattle.sheet.specs.declared.ReadSheet.{ReadSheet}
use Rattle.store.specs.declared.Store.{Store}
use Rattle.store.specs.declared.entries.Sorts.{Sorts}
use Rattle.matching_tables.specs.declared.names.Names.{Names}
use Rattle.row_rules.specs.declared.Cause.{Cause}
use Rattle.row_answer.specs.Answer.{answer}
use Rattle.questions.specs.Word.{Word, Counts}
use Rattle.questions.specs.Given.{GivenTestAsks, GivenTestIs, AllTestAsks, AllTestIs, GiveAsks, GiveIs}
use Rattle.questions.specs.Contract.{AnswerApplyAsks, ApplyIs, MatchListedAsks, ListedIs, AnswerMatchAsks, AnswerMatchIs, QuestionAsks, QuestionIs}
use Rattle.questions.specs.All.{AtAsks, AtIs, AllAsks, AllIs}

---------------------------------------------------------------- question 2
abbrev pub ApplyAsked : Store → Names → ReadSheet → QuestionRecord → Type 0
ApplyAsked s x d q = AnswerApplyAsks s.records.now s.places.now s.index.now s.count s.used x.images.now d.bytes.now d.table.now q

-- The other tables of names are as they were.
abbrev pub ApplyAnswered : Store → Names → ReadSheet → QuestionRecord → Store → Names → Result ℕ Cause → Type 0
ApplyAnswered s x d q t y r =
    ApplyIs s.records.now s.places.now s.count x.images.now d.bytes.now d.table.now q t.records.now t.places.now t.index.now y.images.now (answer t r)
    × (y.params.now ≡ x.params.now)
    × (y.bound.now ≡ x.bound.now)

---------------------------------------------------------------- given pairs
-- The sorts of the pairs g, each as a target.
abbrev pub GivenTestAsked : Sorts → Names → ReadSheet → Span → Type 0
GivenTestAsked s x d g = GivenTestAsks s.records.now s.places.now s.count x.params.now d.bytes.now d.table.now g.at g.count

abbrev pub GivenTestAnswered : Sorts → Names → ReadSheet → Span → Bool → Type 0
GivenTestAnswered s x d g r = GivenTestIs s.records.now s.places.now s.count x.params.now d.bytes.now d.table.now g.at g.count r

-- And the pattern k and the target j.
abbrev pub AllTestAsked : Sorts → Names → ReadSheet → ℕ → ℕ → Span → Type 0
AllTestAsked s x d k j g = AllTestAsks s.records.now s.places.now s.count x.params.now d.bytes.now d.table.now k j g.at g.count

abbrev pub AllTestAnswered : Sorts → Names → ReadSheet → ℕ → ℕ → Span → Bool → Type 0
AllTestAnswered s x d k j g r = AllTestIs s.records.now s.places.now s.count x.params.now d.bytes.now d.table.now k j g.at g.count r

-- Their names, bound.
abbrev pub GiveAsked : Names → ReadSheet → Span → Type 0
GiveAsked x d g = GiveAsks x.images.now x.bound.now x.many d.bytes.now d.table.now g.at g.count

abbrev pub GiveAnswered : ReadSheet → Span → Names → Type 0
GiveAnswered d g y = GiveIs d.bytes.now d.table.now g.at g.count y.images.now y.bound.now y.many

---------------------------------------------------------------- questions 1 and 3
-- The pattern k, the target j, the result i, and the given pairs g.
abbrev pub ListedAsked : Store → Names → ReadSheet → ℕ → ℕ → ℕ → Span → Type 0
ListedAsked s x d k j i g =
    MatchListedAsks s.records.now s.places.now s.index.now s.count s.used x.params.now x.images.now x.bound.now d.bytes.now d.table.now k j i g.at g.count

abbrev pub ListedAnswered : Store → Names → ReadSheet → ℕ → ℕ → ℕ → Span → Store → Names → Result ℕ Cause → Type 0
ListedAnswered s x d k j i g t y r =
    ListedIs s.records.now s.places.now s.count x.params.now x.images.now x.bound.now d.bytes.now d.table.now k j i g.at g.count t.records.now t.places.now t.index.now y.images.now y.bound.now (answer t r)
    × (y.params.now ≡ x.params.now)

abbrev pub MatchAsked : Store → Names → ReadSheet → QuestionRecord → Type 0
MatchAsked s x d q =
    AnswerMatchAsks s.records.now s.places.now s.index.now s.count s.used x.params.now x.images.now x.bound.now d.bytes.now d.table.now q

abbrev pub MatchAnswered : Store → Names → ReadSheet → QuestionRecord → Store → Names → Result ℕ Cause → Type 0
MatchAnswered s x d q t y r =
    AnswerMatchIs s.records.now s.places.now s.count x.params.now x.images.now x.bound.now d.bytes.now d.table.now q t.records.now t.places.now t.index.now y.params.now y.images.now y.bound.now (answer t r)

---------------------------------------------------------------- a question of any kind
-- The code of an answer, and the counts of the store after it.
abbrev pub word : Store → ℕ → Word
word t w = record { code = w; count = t.count; used = t.used }

abbrev pub QuestionAsked : Store → Names → ReadSheet → QuestionRecord → Type 0
QuestionAsked s x d q =
    QuestionAsks s.records.now s.places.now s.index.now s.count s.used x.params.now x.images.now x.bound.now d.bytes.now d.table.now q

abbrev pub QuestionAnswered : Store → Names → ReadSheet → QuestionRecord → Store → Names → ℕ → Type 0
QuestionAnswered s x d q t y w =
    QuestionIs s.records.now s.places.now s.count x.params.now x.images.now x.bound.now d.bytes.now d.table.now q t.records.now t.places.now t.index.now y.params.now y.images.now y.bound.now (word t w)

---------------------------------------------------------------- questions at their places
-- The one whose record stands at i.
abbrev pub AtAsked : Store → Names → ReadSheet → ℕ → Type 0
AtAsked s x d i =
    AtAsks s.records.now s.places.now s.index.now s.count s.used x.params.now x.images.now x.bound.now d.bytes.now d.table.now d.sorts i

abbrev pub AtAnswered : Store → Names → ReadSheet → ℕ → Store → Names → ℕ → Type 0
AtAnswered s x d i t y w =
    AtIs s.records.now s.places.now s.count x.params.now x.images.now x.bound.now d.bytes.now d.table.now d.sorts i t.records.now t.places.now t.index.now y.params.now y.images.now y.bound.now (word t w)

abbrev pub counts_of : Store → Counts
counts_of t = record { count = t.count; used = t.used }

-- Those at the places ys, into the list an.
abbrev pub AllAsked : Store → Names → ReadSheet → List ℕ → List ℕ → Type 0
AllAsked s x d ys an =
    AllAsks s.records.now s.places.now s.index.now s.count s.used x.params.now x.images.now x.bound.now d.bytes.now d.table.now d.sorts ys (length ys) an

abbrev pub AllAnswered : Store → Names → ReadSheet → List ℕ → List ℕ → Store → Names → List ℕ → Type 0
AllAnswered s x d ys an t y an' =
    AllIs s.records.now s.places.now s.count x.params.now x.images.now x.bound.now d.bytes.now d.table.now d.sorts ys (length ys) an t.records.now t.places.now t.index.now y.params.now y.images.now y.bound.now an' (counts_of t)
