-- Ways to an answer over a whole store, for the functions that take one: Panics, an error that was passed on, and a sort that
-- the store has; and what the arguments and the first of them are.
use Prim.Native.Nat.{ℕ, ◌<◌}
use mathlib.Core.Path.{◌≡◌, refl, sym, ap, subst, ◌∙◌}
use mathlib.Core.List.{List, ◌∷◌}
use lib.ListN.{drop}
use Rattle.std.specs.Prelude.{Result, Ok, Err, Option}
use Rattle.record.specs.Number.{numbers_at}
use Rattle.record.specs.declared.span.Span.{Span}
use Rattle.record.specs.Sort.{Sorts, end, ◌then◌}
use Rattle.record.specs.Record.{sorts_of}
use Rattle.record.specs.Decode.{store_of, sort_at}
use Rattle.store.specs.declared.Store.{Store}
use Rattle.row_rules.specs.declared.Cause.{Cause}
use Rattle.row_rules.specs.declared.Cause.TheVariants.{Panics}
use Rattle.row_rules.specs.Verdict.{Verdict, sort, refused}
use Rattle.row_answer.specs.Answer.{Answered}
use Rattle.row_answer.specs.AnswerLaws.{judged-as, made-refused, answer-known}
use Rattle.row_answer.specs.declared.arguments.Args.{Args}
use Rattle.store.specs.declared.entries.Entries.{Entries}
use Rattle.infer_operator.specs.Asks.{Referring, Known, sorts_in, KnownAsk, ArgumentsAsk, arguments, sorts_with, args-refer}
use Rattle.infer_operator.specs.Relations.{BothIs, BothHas}
use Rattle.infer_operator.specs.Single.{argument_of}
use Rattle.infer_operator.proofs.WalkLaws.{sorts-step, sorts-stop, known-first, refer-known, args-known, first-taken, none-taken}

module _ (s : Store) where
  pub answer-panics : {v : Verdict} → v ≡ refused Panics → Answered s v s (Err Panics)
  answer-panics e = judged-as e (made-refused s.records.now s.places.now s.index.now s.count s.used s.good Panics)

  pub answer-sort : {v : Verdict} (k : ℕ) → k < s.count → v ≡ sort (sort_at s.records.now s.places.now s.count k) → Answered s v s (Ok k)
  answer-sort k l e = judged-as e (answer-known s.records.now s.places.now s.index.now s.count s.used s.good k l)

  -- An error that `?` passed on.
  pub answer-passed : {v : Verdict} {x : Cause} {r : Result ℕ Cause} → r ≡ Err x → v ≡ refused x → Answered s v s r
  answer-passed {v} {x} e h =
      subst (Answered s v s) (sym e) (judged-as h (made-refused s.records.now s.places.now s.index.now s.count s.used s.good x))

-- THE ENTRIES THAT `entries` LENDS are the store's: what holds of the ones holds of the others.
module _ (z : Entries) (s : Store) (er : z.records.now ≡ s.records.now) (ep : z.places.now ≡ s.places.now) where
  pub lent : (T : List ℕ → List ℕ → Type 0) → T s.records.now s.places.now → T z.records.now z.places.now
  lent T h = subst (λ (p : List ℕ). T z.records.now p) (sym ep) (subst (λ (b : List ℕ). T b s.places.now) (sym er) h)

  pub back : (T : List ℕ → List ℕ → Type 0) → T z.records.now z.places.now → T s.records.now s.places.now
  back T h = subst (λ (p : List ℕ). T s.records.now p) ep (subst (λ (b : List ℕ). T b z.places.now) er h)

  -- The arguments are of the entries, too.
  module _ (a : Args) (h : ArgumentsAsk s a) where
    pub lent-known : {ks : List ℕ} → ks ≡ numbers_at a.bytes.now 3 a.count → KnownAsk z.records.now z.places.now ks
    lent-known {ks} e = lent (λ (b p : List ℕ). KnownAsk b p ks) (s.count, args-known s a h e)

    -- What holds of the first two, and of the numbers that were taken from them, holds over the store.
    pub both-is : (r : Option (Span × Span)) → BothHas z.records.now z.places.now a.bytes.now a.count r → BothIs s.records.now s.places.now s.count (arguments s a) r
    both-is r has =
        back (λ (b p : List ℕ). BothHas b p a.bytes.now a.count r) has s.count (args-refer s.records.now s.places.now s.index.now s.count s.used a.bytes.now a.count h)

    pub numbers-are : {ks : List ℕ} → ks ≡ numbers_at a.bytes.now 3 a.count → (T : List ℕ → List ℕ → ℕ → Sorts → Type 0)
        → ((n : ℕ) → Known z.records.now z.places.now n ks → T z.records.now z.places.now n (sorts_with z.records.now z.places.now n ks)) → T s.records.now s.places.now s.count (arguments s a)
    numbers-are {ks} e T has =
        subst (λ (is : List ℕ). T s.records.now s.places.now s.count (sorts_with s.records.now s.places.now s.count is)) e
        (back (λ (b p : List ℕ). (n : ℕ) → Known b p n ks → T b p n (sorts_with b p n ks)) has s.count (args-known s a h e))

-- The sorts behind the first argument.
abbrev pub others : List ℕ → List ℕ → ℕ → Args → Sorts
others b p n a = sorts_of (store_of b p n) (drop 1 (numbers_at a.bytes.now 3 a.count))

-- THE FIRST ARGUMENT, which `argument` gave; or none.
module _ (b p : List ℕ) (count : ℕ) (a : Args) {r : Result ℕ Cause} (e : r ≡ argument_of a 0) where
  module _ {k : ℕ} (is : r ≡ Ok k) where
    taken : numbers_at a.bytes.now 3 a.count ≡ k ∷ drop 1 (numbers_at a.bytes.now 3 a.count)
    taken = first-taken (numbers_at a.bytes.now 3 a.count) (sym e ∙ is)

    pub taken-known : Referring b p count a.bytes.now 3 a.count → k < count
    taken-known h = known-first taken (refer-known h refl)

    pub taken-then : {T : Type 0} (f : Sorts → T) → f (sorts_in b p count a.bytes.now 3 a.count) ≡ f (sort_at b p count k then others b p count a)
    taken-then f = sorts-step f b p count taken

  module _ {c : Cause} (none : r ≡ Err c) where
    pub taken-none : {T : Type 0} (f : Sorts → T) → f (sorts_in b p count a.bytes.now 3 a.count) ≡ f end
    taken-none f = sorts-stop f b p count (none-taken (numbers_at a.bytes.now 3 a.count) (sym e ∙ none)).0

    pub taken-panics : c ≡ Panics
    taken-panics = (none-taken (numbers_at a.bytes.now 3 a.count) (sym e ∙ none)).1

-- The same of a whole store.
module _ (s : Store) (a : Args) {r : Result ℕ Cause} (e : r ≡ argument_of a 0) where
  module _ {k : ℕ} (is : r ≡ Ok k) where
    pub first-known : ArgumentsAsk s a → k < s.count
    first-known h = taken-known s.records.now s.places.now s.count a e is (args-refer s.records.now s.places.now s.index.now s.count s.used a.bytes.now a.count h)

    pub first-then : {T : Type 0} (f : Sorts → T) → f (arguments s a) ≡ f (sort_at s.records.now s.places.now s.count k then others s.records.now s.places.now s.count a)
    first-then f = taken-then s.records.now s.places.now s.count a e is f

  module _ {c : Cause} (none : r ≡ Err c) (f : Sorts → Verdict) where
    pub first-missing : f (arguments s a) ≡ f end
    first-missing = taken-none s.records.now s.places.now s.count a e none f

    -- The error that `?` passed on.
    pub first-panics : f end ≡ refused Panics → {q : Result ℕ Cause} → q ≡ Err c → Answered s (f (arguments s a)) s q
    first-panics h o = answer-passed s o (first-missing ∙ h ∙ ap refused (sym (taken-panics s.records.now s.places.now s.count a e none)))
