-- What the outcome of a verdict may be, in words that the theorems on outcomes (proofs/OutcomeLaws.antt) and the contracts use.
use Rattle.std.specs.Prelude.{◌*◌, ◌<◌, ◌≡◌, Bool, true, false, not, ◌||◌, List, length, get_or}
use Rattle.record.specs.Sort.{Sort}
use Rattle.record.specs.Record.{leaf}
use Rattle.record.specs.Store.{memb, intern, index_of, room}
use Rattle.record.specs.SortLists.{Once, Ordered, Starts}
use Rattle.record.specs.StoreTheorems.{inside}
use Rattle.sheet.specs.Sheet.{Lengths}
use Rattle.row_rules.specs.declared.Cause.TheVariants.{Limit, Full}
use Rattle.row_rules.specs.Verdict.{Verdict, sort, refused, need, number_of}
use Rattle.row_rules.specs.Outcome.{within, CodedStore, numbered}
use Rattle.row_rules.specs.Meaning.{limited}

-- The outcome of an answer, by the two tests: within its limits, and room for the store after interning it.
abbrev pub answered : Lengths → List Sort → Sort → Bool → Bool → CodedStore
answered l st s w r = numbered st (need w Limit (need r Full (sort s)))

-- AN ACCEPTED OUTCOME: the store after interning the answer, which has room, and the answer's number in it.
pub record Accepted (l : Lengths) (st : List Sort) (s : Sort) (o : CodedStore) : Type 0 where
  pub limits : within s ≡ true
  pub roomy : room l.records l.places o.store ≡ true
  pub grown : o.store ≡ intern s st
  pub number : o.code ≡ index_of s o.store
  pub below : o.code < length o.store
  pub small : o.code < 4096
  pub there : get_or o.store o.code leaf ≡ s
  -- It adds only the sorts inside the answer.
  pub only : (t : Sort) → memb t o.store ≡ memb t st || inside t s

-- The same of any verdict that is no 22 or 23 by itself; those of both columns and of the questions are none.
unfoldable pub no_limit : Verdict → Bool
no_limit (sort s) = true
no_limit (refused c) = not (limited (number_of c * 65536))

-- The verdict is a sort that passes a limit; and one within the limits whose sorts the store cannot hold.
abbrev pub Passes : Verdict → Type 0
Passes v = (s : Sort) × (v ≡ sort s) × (within s ≡ false)

abbrev pub Overflows : Lengths → List Sort → Verdict → Type 0
Overflows l st v = (s : Sort) × (v ≡ sort s) × (within s ≡ true) × (room l.records l.places (intern s st) ≡ false)

-- WHAT MAY BECOME OF A STORE: it only grows, and distinct sorts, parts before wholes and room stay.
pub record Grown (l : Lengths) (st st' : List Sort) : Type 0 where
  pub starts : Starts st st'
  pub once : Once st → Once st'
  pub ordered : Ordered st → Ordered st'
  pub roomy : room l.records l.places st ≡ true → room l.records l.places st' ≡ true
