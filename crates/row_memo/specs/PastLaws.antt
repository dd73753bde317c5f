-- A table without notes says the truth, and one that does says it over a store that has grown.
use Rattle.std.specs.Prelude.{ℕ, suc, ◌*◌, ◌<◌, ◌≡◌, refl, true, List, [], ◌∷◌, length, get_or, replicate}
use Rattle.std.proofs.Common.{ap, ap₂, ◌∙◌, arith}
use Rattle.record.specs.Sort.{Sort, Sorts, ◌then◌}
use Rattle.record.specs.Record.{sorts_of}
use Rattle.record.specs.Store.{room}
use Rattle.record.specs.Decode.{store_of}
use Rattle.record.specs.Entries.{store-ordered}
use Rattle.record.specs.SortLists.{Once, Ordered, Starts, starts-at, starts-count}
use Rattle.sheet.specs.Stands.{zeros-all}
use Rattle.store.specs.Good.{Good, good-room}
use Rattle.row_rules.specs.Verdict.{Verdict}
use Rattle.row_rules.specs.Outcome.{outcome}
use Rattle.row_answer.specs.AnswerLaws.{good-once}
use Rattle.row_slots.specs.Slots.{slot_size, column_of}
use Rattle.row_memo.specs.Past.{judging_app, AppTold, PastOf}
use Rattle.row_memo.specs.Again.{outcome-stays}

pub past-none : (b p : List ℕ) (n m : ℕ) → PastOf b p n (replicate m 0)
past-none b p n m = record { each = λ slot key c s. absurd (s.full (zeros-all m (slot * slot_size) (omega arith))) }

-- The sorts of numbers that a store has are those of one that has grown from it.
pub sorts-grown : (st st' : List Sort) → Starts st st' → (key : List ℕ) → ((j : ℕ) → j < length key → get_or key j 0 < length st) → sorts_of st' key ≡ sorts_of st key
unfolding sorts_of
sorts-grown st st' g [] h = refl
sorts-grown st st' g (k ∷ key) h =
    ap₂ (λ (s : Sort) (ss : Sorts). s then ss) (starts-at st st' g k (h 0 (omega arith))) (sorts-grown st st' g key (λ j o. h (suc j) (omega arith)))

-- THE TRUTH ABOUT AN APP STAYS TRUE over a store that has grown, of distinct sorts, parts before wholes, with room.
told_grown : (f : Sorts → Verdict) (lb lp : ℕ) (st st' : List Sort) (key : List ℕ) (c : ℕ) → Starts st st' → Once st' → Ordered st' → room lb lp st' ≡ true
    → AppTold f lb lp st key c → AppTold f lb lp st' key c
told_grown f lb lp st st' key c g once ordered fits h =
    let more = starts-count st st' g in
    record {
      below = λ j o. omega (arith, h.below j o);
      is = λ l e d.
          ap (λ (ss : Sorts). outcome l st' (f ss)) (sorts-grown st st' g key h.below)
          ∙ outcome-stays l st st' g once ordered (ap₂ (λ (x y : ℕ). room x y st') e d ∙ fits) c (f (sorts_of st key)) (h.is l e d);
    }

-- THE TABLE SAYS THE TRUTH OVER A STORE THAT HAS GROWN, in buffers of the same lengths.
pub past-grown : (b p : List ℕ) (n : ℕ) (b' p' ix' : List ℕ) (n' u' : ℕ) (ws : List ℕ) → Good b' p' ix' n' u' → length b' ≡ length b → length p' ≡ length p
    → Starts (store_of b p n) (store_of b' p' n') → PastOf b p n ws → PastOf b' p' n' ws
past-grown b p n b' p' ix' n' u' ws good long wide g h =
    record {
      each = λ slot key c s.
          told_grown (judging_app (column_of slot)) (length b') (length p') (store_of b p n) (store_of b' p' n') key c g (good-once b' p' ix' n' u' good)
          (store-ordered b' p' n' good.stored) (good-room b' p' ix' n' u' good)
          (let t = h.each slot key c s in record { below = t.below; is = λ l e d. t.is l (e ∙ long) (d ∙ wide) });
    }
