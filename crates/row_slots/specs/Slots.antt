-- The lent table of Apps that were judged before: what its slots say, and what the functions on it, on the code of a row and on the
-- look-up of a record ask and promise. Definitions only.
use Rattle.std.specs.Prelude.{ℕ, ◌+◌, ◌*◌, ◌/◌, ◌%◌, ◌≤◌, ◌<◌, ◌≡◌, Bool, true, List, ◌⊎◌, length, get_or, Option, Some, None, Result, Ok}
use Rattle.record.specs.Kinds.{term_number}
use Rattle.record.specs.Number.{u16_at, numbers_at}
use Rattle.record.specs.Decode.{Stored}
use Rattle.reader.specs.declared.TermRecord.{TermRecord}
use Rattle.row_rules.specs.declared.Cause.{Cause}
use Rattle.row_rules.specs.declared.Cause.TheVariants.{Full}
use Rattle.row_rules.specs.Verdict.{number_of, code_of}
use Rattle.row_answer.specs.Answer.{Answer}
use Rattle.row_slots.specs.declared.Look.{Look}
use Rattle.row_slots.specs.declared.Look.TheVariants.{Apart, Noted, Open}
use Rattle.row_slots.specs.declared.Past.{Past}

---------------------------------------------------------------- the table
-- The bytes of a slot, how many slots a column has, and how many terms an App has at most.
abbrev pub slot_size : ℕ
slot_size = 132

abbrev pub slot_count : ℕ
slot_count = 128

abbrev pub most_terms : ℕ
most_terms = 64

-- The slots of the first column come first.
abbrev pub table_size : ℕ
table_size = 2 * slot_count * slot_size

abbrev pub column_of : ℕ → ℕ
column_of slot = slot / slot_count

-- The code that the slot at a place notes in three bytes, so below this: a number of the store, and a cause, 0 for a sort.
abbrev pub code_end : ℕ
code_end = 16777216

abbrev pub code_at : List ℕ → ℕ → ℕ
code_at ws at = get_or ws (at + 3) 0 * 65536 + u16_at ws (at + 1)

-- WHAT THE TABLE ws SAYS: a slot that is not empty has noted the code c of an App of the terms whose sorts have the numbers key.
pub record PastSays (ws : List ℕ) (slot : ℕ) (key : List ℕ) (c : ℕ) : Type 0 where
  pub full : get_or ws (slot * slot_size) 0 ≡ 0 → ⊥
  pub few : get_or ws (slot * slot_size) 0 ≤ most_terms
  pub terms : key ≡ numbers_at ws (slot * slot_size + 4) (get_or ws (slot * slot_size) 0)
  pub code : c ≡ code_at ws (slot * slot_size)

-- What ws' says, ws said.
abbrev pub Less : List ℕ → List ℕ → Type 0
Less ws ws' = (slot : ℕ) (key : List ℕ) (c : ℕ) → PastSays ws' slot key c → PastSays ws slot key c

---------------------------------------------------------------- the functions on it
-- The slot of an App in a column, and where it stands.
abbrev pub slot_number : ℕ → List ℕ → ℕ → ℕ
slot_number column a n = column * slot_count + (u16_at a 3 * 31 + u16_at a 5 * 6 + u16_at a (1 + 2 * n)) % slot_count

abbrev pub slot_of : ℕ → List ℕ → ℕ → ℕ
slot_of column a n = slot_number column a n * slot_size

-- The numbers of an App's terms in a from byte 3 on.
pub record KeyAsks (a : List ℕ) (n : ℕ) : Type 0 where
  pub some : 2 ≤ n
  pub few : n ≤ most_terms
  pub within : 3 + 2 * n ≤ length a

-- The same with a column of the rows.
pub record SeekAsks (a : List ℕ) (n column : ℕ) : Type 0 where
  pub key : KeyAsks a n
  pub side : column ≤ 1

-- The place of a slot in ws.
pub record PastSlotAt (ws : List ℕ) (at : ℕ) : Type 0 where
  pub slot : ℕ
  pub place : at ≡ slot * slot_size
  pub room : at + slot_size ≤ length ws

pub record PastSlotAsks (ws : List ℕ) (at : ℕ) (a : List ℕ) (n : ℕ) : Type 0 where
  pub key : KeyAsks a n
  pub here : PastSlotAt ws at

-- What is recalled of the slot at a place is said there.
abbrev pub RecalledIs : List ℕ → ℕ → List ℕ → ℕ → Option ℕ → Type 0
RecalledIs ws at a n (Some c) = (c < code_end) × ((slot : ℕ) → at ≡ slot * slot_size → PastSays ws slot (numbers_at a 3 n) c)
RecalledIs ws at a n None = Unit {0}

-- A slot of ws that has the numbers key of n terms.
pub record OpenAt (ws : List ℕ) (at n : ℕ) (key : List ℕ) : Type 0 where
  pub here : PastSlotAt ws at
  pub some : 2 ≤ n
  pub few : n ≤ most_terms
  pub terms : numbers_at ws (at + 4) n ≡ key

pub record OpenedIs (ws : List ℕ) (at : ℕ) (a : List ℕ) (n : ℕ) (ws' : List ℕ) : Type 0 where
  pub ready : OpenAt ws' at n (numbers_at a 3 n)
  pub less : Less ws ws'

-- A slot of a column that says the code c.
pub record Tells (ws : List ℕ) (column : ℕ) (key : List ℕ) (c : ℕ) : Type 0 where
  pub slot : ℕ
  pub side : column_of slot ≡ column
  pub says : PastSays ws slot key c

-- A slot of a column that has the numbers key of n terms.
pub record OpenIn (ws : List ℕ) (column at n : ℕ) (key : List ℕ) : Type 0 where
  pub ready : OpenAt ws at n key
  pub side : (slot : ℕ) → slot * slot_size ≡ at → column_of slot ≡ column

-- What a look-up in a column of the terms with the numbers key found in ws, and left in ws'.
abbrev pub LookFound : List ℕ → List ℕ → ℕ → List ℕ → ℕ → Look → Type 0
LookFound ws ws' column key n Apart = Unit {0}
LookFound ws ws' column key n (Noted c) = Tells ws column key c
LookFound ws ws' column key n (Open at) = OpenIn ws' column at n key

pub record SeekIs (ws a : List ℕ) (n column : ℕ) (ws' : List ℕ) (q : Look) : Type 0 where
  pub found : LookFound ws ws' column (numbers_at a 3 n) n q
  pub less : Less ws ws'

-- The code of a row without room.
abbrev pub no_room : ℕ
no_room = number_of Full * 65536

-- Whether the inferred sort of the n terms that were looked up is noted to have none: asked where the look-up left a slot.
abbrev pub LackAsks : List ℕ → ℕ → Look → Type 0
LackAsks a n Apart = Unit {0}
LackAsks a n (Noted c) = Unit {0}
LackAsks a n (Open at) = KeyAsks a n

abbrev pub Lacks : List ℕ → List ℕ → ℕ → Look → Type 0
Lacks ws a n Apart = ⊥
Lacks ws a n (Noted c) = ⊥
Lacks ws a n (Open at) = Tells ws 0 (numbers_at a 3 n) no_room

abbrev pub LackIs : List ℕ → List ℕ → ℕ → Look → Bool → Type 0
LackIs ws a n q t = t ≡ true → Lacks ws a n q

-- A slot, how many terms it has the numbers of, and a code for them.
pub record SlotNoteAsks (ws : List ℕ) (at n c : ℕ) : Type 0 where
  pub here : PastSlotAt ws at
  pub some : 2 ≤ n
  pub few : n ≤ most_terms
  pub small : c < code_end

-- ONLY ONE NOTE IS NEW: that code, of the terms whose numbers stand in the slot.
abbrev pub SlotNotedIs : List ℕ → ℕ → ℕ → ℕ → List ℕ → Type 0
SlotNotedIs ws at n c ws' = (slot : ℕ) (key : List ℕ) (d : ℕ) → PastSays ws' slot key d → PastSays ws slot key d ⊎ ((slot * slot_size ≡ at) × (key ≡ numbers_at ws (at + 4) n) × (d ≡ c))

-- The same of a row, which is noted where the look-up left a slot for it.
abbrev pub RowNoteAsks : List ℕ → ℕ → Look → Result ℕ Cause → Type 0
RowNoteAsks ws n Apart v = Unit {0}
RowNoteAsks ws n (Noted c) v = Unit {0}
RowNoteAsks ws n (Open at) v = SlotNoteAsks ws at n (code_of v)

abbrev pub RowNotedIs : List ℕ → ℕ → Look → Result ℕ Cause → List ℕ → Type 0
RowNotedIs ws n Apart v ws' = ws' ≡ ws
RowNotedIs ws n (Noted c) v ws' = ws' ≡ ws
RowNotedIs ws n (Open at) v ws' = SlotNotedIs ws at n (code_of v) ws'

-- A code that is a number of a store or a cause times 65,536, and the row that it is of.
pub record Coded (c : ℕ) : Type 0 where
  pub low : 65536 ≤ c → 20 ≤ c / 65536
  pub high : 65536 ≤ c → c / 65536 ≤ 29
  pub whole : 65536 ≤ c → c / 65536 * 65536 ≡ c

pub record AgainIs (c n u : ℕ) (r : Answer) : Type 0 where
  pub code : code_of r.verdict ≡ c
  pub small : (k : ℕ) → r.verdict ≡ Ok k → k < 65536
  pub count : r.count ≡ n
  pub used : r.used ≡ u

abbrev pub again : Result ℕ Cause → ℕ → ℕ → Answer
again r n u = record { verdict = r; count = n; used = u }

---------------------------------------------------------------- the look-up
-- A column of the rows, and a record with the numbers of its arguments, which are those of a store, in a from byte 3 on.
pub record LookAsks (b p : List ℕ) (r : TermRecord) (a : List ℕ) (column : ℕ) : Type 0 where
  pub side : column ≤ 1
  pub count : ℕ
  pub stored : Stored b p count
  pub below : (j : ℕ) → j < r.list.count → u16_at a (3 + 2 * j) < count
  pub few : r.list.count ≤ most_terms
  pub within : 3 + 2 * r.list.count ≤ length a

-- APART SAYS NOTHING; else the record is an App, and its terms were looked up.
abbrev pub Looked : TermRecord → Look → Type 0
Looked r Apart = Unit {0}
Looked r (Noted c) = term_number r.kind ≡ 6
Looked r (Open at) = term_number r.kind ≡ 6

pub record LookedIs (r : TermRecord) (a : List ℕ) (column : ℕ) (ws ws' : List ℕ) (q : Look) : Type 0 where
  pub looked : Looked r q
  pub found : LookFound ws ws' column (numbers_at a 3 r.list.count) r.list.count q
  pub less : Less ws ws'

-- The table stays in its bytes.
abbrev pub SamePast : Past → Past → Type 0
SamePast s t = (t.bytes.ghost_name ≡ s.bytes.ghost_name) × (length t.bytes.now ≡ length s.bytes.now)
