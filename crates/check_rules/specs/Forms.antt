-- Ranks that are no patterns, since their arguments or their result are none. Of each form there is what it
-- says (`Computes`), the test that answers (`computes`), and the counts of arguments that it takes. Definitions only; that the
-- test is what the form says, and that forms bear replacing, is proved in FormLaws.
use Rattle.std.specs.Prelude.{ℕ, ◌+◌, ◌≡◌, ◌⊎◌, Bool, true, false, cond, ◌&&◌, ◌||◌, eqb, ltb, zero, suc}
use Rattle.std.proofs.Math.Option.{Option, none, some}
use Rattle.record.specs.Sort.{Sort, Sorts, end, ◌then◌, int, real, bitvec, number_in, count, same, set, tuple, parts_of}
use Rattle.row_rules.specs.Lists.{last_of, joined, appended, all_but_last}

pub data Form : Type 0 where
  -- 90 BvConcat: two vectors of known width.
  concat : Form
  -- "Int and Real mixed" (A.1), with this result.
  mixed : (result : Sort) → Form
  -- "Insert takes one or more elements, then their set" (A.2).
  insert : Form
  -- "Tuple takes one or more" (A.2).
  tupling : Form
  -- "Transpose takes a set of tuples" (A.2).
  transpose : Form
  -- "join two whose touching columns agree, both tuples non-empty" (A.2).
  join : Form
  -- "product two sets of tuples" (A.2).
  product : Form

---------------------------------------------------------------- what a form says
-- Each sort of a list is Int or Real.
abbrev pub Numbers : Sorts → Type 0
Numbers end = Unit {0}
Numbers (t then ts) = ((t ≡ int) ⊎ (t ≡ real)) × Numbers ts

-- A sort stands in a list.
abbrev pub Stands : Sort → Sorts → Type 0
Stands s end = ⊥
Stands s (t then ts) = (t ≡ s) ⊎ Stands s ts

-- A sort n times, then another.
unfoldable pub times : ℕ → Sort → Sort → Sorts
times zero x last = last then end
times (suc n) x last = x then times n x last

-- A list from its last entry to its first.
unfoldable pub backwards : Sorts → Sorts
unfolding joined
backwards end = end
backwards (s then ss) = joined (backwards ss) s

-- THE FORM TAKES THE SORTS ts AND GIVES s.
abbrev pub Computes : Form → Sorts → Sort → Type 0
Computes concat ts s = (i : ℕ) × (j : ℕ) × (ts ≡ bitvec i then bitvec j then end) × (s ≡ bitvec (i + j))
Computes (mixed r) ts s = Numbers ts × Stands int ts × Stands real ts × (s ≡ r)
Computes insert ts s = (x : Sort) × (n : ℕ) × (ts ≡ times (suc n) x (set x)) × (s ≡ set x)
Computes tupling ts s = (a : Sort) × (as' : Sorts) × (ts ≡ a then as') × (s ≡ tuple ts)
Computes transpose ts s = (cs : Sorts) × (ts ≡ set (tuple cs) then end) × (s ≡ set (tuple (backwards cs)))
Computes join ts s =
    (as' : Sorts) × (c : Sort) × (bs : Sorts) × (ts ≡ set (tuple (joined as' c)) then set (tuple (c then bs)) then end)
    × (s ≡ set (tuple (appended as' bs)))
Computes product ts s =
    (as' : Sorts) × (bs : Sorts) × (ts ≡ set (tuple as') then set (tuple bs) then end) × (s ≡ set (tuple (appended as' bs)))

---------------------------------------------------------------- the counts
-- A form takes this many arguments.
abbrev pub takes_count : Form → ℕ → Bool
takes_count concat n = eqb n 2
takes_count (mixed r) n = ltb 1 n
takes_count insert n = ltb 1 n
takes_count tupling n = ltb 0 n
takes_count transpose n = eqb n 1
takes_count join n = eqb n 2
takes_count product n = eqb n 2

unfoldable pub takes : Form → Sorts → Bool
unfolding count
takes f ts = takes_count f (count ts)

---------------------------------------------------------------- the test
-- One argument, two arguments.
abbrev pub on_one : (Sort → Option Sort) → Sorts → Option Sort
on_one f end = none
on_one f (a then end) = f a
on_one f (a then (b then ss)) = none

abbrev pub on_two : (Sort → Sort → Option Sort) → Sorts → Option Sort
on_two f end = none
on_two f (a then end) = none
on_two f (a then (b then end)) = f a b
on_two f (a then (b then (c then ss))) = none

abbrev pub when : Bool → Sort → Option Sort
when b s = cond b (some s) none

-- A vector of known width.
abbrev pub vector : Sort → Bool
vector s = same s (bitvec (number_in s))

abbrev pub join_vectors : Sort → Sort → Option Sort
join_vectors a b = when (vector a && vector b) (bitvec (number_in a + number_in b))

-- Every sort of a list is this one.
unfoldable pub all_same : Sort → Sorts → Bool
unfolding same
all_same s end = true
all_same s (t then ts) = same s t && all_same s ts

-- Int and Real, and both of them.
unfoldable pub numbers : Sorts → Bool
unfolding same
numbers end = true
numbers (t then ts) = (same t int || same t real) && numbers ts

unfoldable pub stands : Sort → Sorts → Bool
unfolding same
stands s end = false
stands s (t then ts) = same t s || stands s ts

-- The sort of a sum: Real if one of the arguments is Real, else Int.
abbrev pub sum_of : Sorts → Sort
sum_of ts = cond (stands real ts) real int

-- As many of x as there are, then the set of it.
unfoldable pub elements : Sort → Sorts → Bool
unfolding same
elements x end = false
elements x (t then end) = same t (set x)
elements x (t then (u then us)) = same t x && elements x (u then us)

abbrev pub insertion : Sorts → Option Sort
insertion end = none
insertion (x then ts) = when (elements x ts) (set x)

abbrev pub tupled : Sorts → Option Sort
tupled end = none
tupled (a then ss) = some (tuple (a then ss))

-- The element sort of a set, and the columns of a relation, a set of tuples.
abbrev pub first_part : Sorts → Sort
first_part end = int
first_part (s then ss) = s

abbrev pub element_of : Sort → Sort
element_of s = first_part (parts_of s)

abbrev pub columns : Sort → Sorts
columns s = parts_of (element_of s)

abbrev pub relation : Sort → Bool
relation s = same s (set (tuple (columns s)))

abbrev pub transposed : Sort → Option Sort
transposed a = when (relation a) (set (tuple (backwards (columns a))))

-- Two lists that touch: the last entry of the one is the first of the other. Without these two they are the columns of a join.
unfoldable pub touch : Sorts → Sorts → Bool
unfolding last_of same
touch end bs = false
touch (a then as') end = false
touch (a then as') (b then bs) = same (last_of a as') b

abbrev pub all_but_first : Sorts → Sorts
all_but_first end = end
all_but_first (s then ss) = ss

abbrev pub join_relations : Sort → Sort → Option Sort
join_relations a b =
    when (relation a && relation b && touch (columns a) (columns b)) (set (tuple (appended (all_but_last (columns a)) (all_but_first (columns b)))))

abbrev pub multiplied : Sort → Sort → Option Sort
multiplied a b = when (relation a && relation b) (set (tuple (appended (columns a) (columns b))))

-- What a form gives on the sorts of arguments, if it takes them.
unfoldable pub computes : Form → Sorts → Option Sort
unfolding same numbers stands elements backwards touch all_but_last appended
computes concat ts = on_two join_vectors ts
computes (mixed r) ts = when (numbers ts && stands int ts && stands real ts) r
computes insert ts = insertion ts
computes tupling ts = tupled ts
computes transpose ts = on_one transposed ts
computes join ts = on_two join_relations ts
computes product ts = on_two multiplied ts
