-- The arguments of a term in a lent array: the numbers of their sorts by the rows before it, the numbers of the sorts of
-- bindings, and integer constants; with the laws that tie them to the definitions on trees.
use Prim.Native.Nat.{ℕ, zero, suc, ◌+◌, ◌*◌, ◌/◌, ◌%◌, ◌≤◌, ◌<◌}
use Rattle.std.specs.Prelude.{Option as Found, Some, None, ◌≡◌, Bool, true, false, cond, length, get_or, set, eqb}
use Rattle.std.proofs.Math.Path.{refl, ap, ap₂}
use Rattle.std.proofs.Common.{sym, subst, ◌∙◌, true≢false, arith, add-one, not-suc-le-zero, length-set, get_or-set_same, get_or-set_other, lt-ltb, le-ltb}
use Rattle.std.proofs.lemmas.Bool.{false≢true}
use mathlib.Core.List.{List, [], ◌∷◌}
use Rattle.std.proofs.Math.Option.{Option, none, some}
use Rattle.record.specs.Number.{u16_at, u32_at, numbers_at}
use Rattle.record.specs.Sort.{Sort, Sorts, end, ◌then◌}
use Rattle.record.specs.Record.{leaf, sorts_of}
use Rattle.record.specs.Codec.{u16-read, length-numbers_at, number_at}
use Rattle.record.specs.SortLists.{below_suc}
use Rattle.reader.specs.Reader.{pair_sorts_at}
use Rattle.store.specs.Good.{Good}
use Rattle.row_rules.specs.Lists.{joined}
use Rattle.row_rules.specs.Term.{consed, sorts_given}
use Rattle.row_rules.specs.Outcome.{row_sort}
use Rattle.row_answer.specs.declared.arguments.Column.{Column}
use Rattle.row_answer.specs.declared.arguments.Column.TheVariants.{Inferred, Checked}

---------------------------------------------------------------- numbers in the array
pub record PutNumberAsks (l : List ℕ) (at v : ℕ) : Type 0 where
  pub within : at + 2 ≤ length l
  pub small : v < 65536

-- A number written at a place.
abbrev pub put_at : List ℕ → ℕ → ℕ → List ℕ
put_at l at v = set (set l at (v % 256)) (at + 1) (v / 256)

pub put-long : (l : List ℕ) (at v : ℕ) → length (put_at l at v) ≡ length l
put-long l at v = length-set (set l at (v % 256)) (at + 1) (v / 256) ∙ length-set l at (v % 256)

put-here : (l : List ℕ) (at v : ℕ) → at + 2 ≤ length l → u16_at (put_at l at v) at ≡ v
put-here l at v h =
    u16-read v (put_at l at v) at
    (sym (get_or-set_other (set l at (v % 256)) (at + 1) at (v / 256) 0 (λ e. absurd (omega arith)) ∙ get_or-set_same l at (v % 256) 0 (omega arith)))
    (sym (get_or-set_same (set l at (v % 256)) (at + 1) (v / 256) 0 (omega (arith, length-set l at (v % 256)))))

put_other : (l : List ℕ) (at v y : ℕ) → y + 2 ≤ at → u16_at (put_at l at v) y ≡ u16_at l y
unfolding u16_at
put_other l at v y h = ap₂ (λ (i j : ℕ). i + j * 256) (kept y (omega arith)) (kept (y + 1) (omega arith))
  where
    kept : (i : ℕ) → i < at → get_or (put_at l at v) i 0 ≡ get_or l i 0
    kept i o =
        get_or-set_other (set l at (v % 256)) (at + 1) i (v / 256) 0 (λ e. absurd (omega arith))
        ∙ get_or-set_other l at i (v % 256) 0 (λ e. absurd (omega arith))

-- The first m numbers of the array, from byte 3 on, are those of f.
abbrev pub Filled : List ℕ → (ℕ → ℕ) → ℕ → Type 0
Filled a f m = (j : ℕ) → j < m → u16_at a (3 + 2 * j) ≡ f j

pub filled_more : (a : List ℕ) (f : ℕ → ℕ) (i v : ℕ) → 3 + 2 * i + 2 ≤ length a → v ≡ f i → Filled a f i → Filled (put_at a (3 + 2 * i) v) f (i + 1)
filled_more a f i v long e h =
    let at = 3 + 2 * i in
    subst (λ (m : ℕ). Filled (put_at a at v) f m) (sym (add-one i))
    (below_suc (λ (j : ℕ). u16_at (put_at a at v) (3 + 2 * j) ≡ f j) i
    (λ j l. put_other a at v (3 + 2 * j) (omega arith) ∙ h j l) (put-here a at v long ∙ e))

-- Each number looked up.
unfoldable pub looked : (ℕ → ℕ) → List ℕ → List ℕ
looked f [] = []
looked f (i ∷ is) = f i ∷ looked f is

numbers-looked : (g : ℕ → ℕ) (a : List ℕ) (x : ℕ) (s : List ℕ) (y m : ℕ) → ((j : ℕ) → j < m → u16_at a (x + 2 * j) ≡ g (u16_at s (y + 2 * j))) → numbers_at a x m ≡ looked g (numbers_at s y m)
unfolding numbers_at looked
numbers-looked g a x s y zero h = refl
numbers-looked g a x s y (suc m) h =
    let ex : x + 2 * 0 ≡ x = omega arith in
    let ey : y + 2 * 0 ≡ y = omega arith in
    ap₂ (λ (i : ℕ) (is : List ℕ). i ∷ is) (sym (ap (u16_at a) ex) ∙ h 0 (omega arith) ∙ ap (λ (z : ℕ). g (u16_at s z)) ey)
    (numbers-looked g a (x + 2) s (y + 2) m
    (λ j l.
    let fx : x + 2 + 2 * j ≡ x + 2 * suc j = omega arith in
    let fy : y + 2 * suc j ≡ y + 2 + 2 * j = omega arith in
    ap (u16_at a) fx ∙ h (suc j) (omega arith) ∙ ap (λ (z : ℕ). g (u16_at s z)) fy))

---------------------------------------------------------------- rows
-- The numbers of the columns.
abbrev pub column_number : Column → ℕ
column_number Inferred = 0
column_number Checked = 1

-- The row in a column of the term that the sheet names in the place j from `at` on.

abbrev pub row_at : List ℕ → ℕ → List ℕ → ℕ → ℕ → ℕ
row_at sheet at rows column j = get_or rows (2 * u16_at sheet (at + 2 * j) + column) 0

pub record JudgedAsks (sheet : List ℕ) (at n : ℕ) (rows : List ℕ) (column : ℕ) : Type 0 where
  pub within : at + 2 * n ≤ length sheet
  pub side : column ≤ 1
  pub row : (j : ℕ) → j < n → 2 * u16_at sheet (at + 2 * j) + column < length rows

pub record GatherAsks (sheet : List ℕ) (at n : ℕ) (rows : List ℕ) (column : ℕ) (a : List ℕ) : Type 0 where
  pub judged : JudgedAsks sheet at n rows column
  pub room : 3 + 2 * n ≤ length a

-- The sorts of the terms that the sheet names, by their rows over a store.
abbrev pub arguments_of : List Sort → List ℕ → ℕ → ℕ → List ℕ → ℕ → Option Sorts
arguments_of st sheet at n rows column = sorts_given (λ i. row_sort st rows column i) (numbers_at sheet at n)

-- The codes of the rows of these terms.
abbrev pub codes_of : List ℕ → ℕ → List ℕ → List ℕ
codes_of rows column is = looked (λ i. get_or rows (2 * i + column) 0) is

-- No row is refused, and the array has their numbers; or one is.
pub record GatherIs (sheet : List ℕ) (at n : ℕ) (rows : List ℕ) (column : ℕ) (a : List ℕ) (r : Bool) : Type 0 where
  pub below : r ≡ true → (j : ℕ) → j < n → row_at sheet at rows column j < 65536
  pub each : r ≡ true → Filled a (row_at sheet at rows column) n
  pub sorts : r ≡ true → (st : List Sort) → arguments_of st sheet at n rows column ≡ some (sorts_of st (numbers_at a 3 n))
  pub lacking : r ≡ false → (st : List Sort) → arguments_of st sheet at n rows column ≡ none

pub record JudgedIs (sheet : List ℕ) (at n : ℕ) (rows : List ℕ) (column : ℕ) (r : Bool) : Type 0 where
  pub below : r ≡ true → (j : ℕ) → j < n → row_at sheet at rows column j < 65536
  pub sorts : r ≡ true → (st : List Sort) → arguments_of st sheet at n rows column ≡ some (sorts_of st (codes_of rows column (numbers_at sheet at n)))
  pub lacking : r ≡ false → (st : List Sort) → arguments_of st sheet at n rows column ≡ none

consed-none : (o : Option Sort) → consed o none ≡ none
consed-none none = refl
consed-none (some s) = refl

module _ (st : List Sort) (rows : List ℕ) (column : ℕ) where
  row-clear : (i : ℕ) → get_or rows (2 * i + column) 0 < 65536 → row_sort st rows column i ≡ some (get_or st (get_or rows (2 * i + column) 0) leaf)
  unfolding row_sort
  row-clear i h = simp (lt-ltb (get_or rows (2 * i + column) 0) 65536 h)

  row-hit : (i : ℕ) → 65536 ≤ get_or rows (2 * i + column) 0 → row_sort st rows column i ≡ none
  unfolding row_sort
  row-hit i h = simp (le-ltb (get_or rows (2 * i + column) 0) 65536 h)

  sorts-clear : (is : List ℕ) → ((j : ℕ) → j < length is → get_or rows (2 * get_or is j 0 + column) 0 < 65536)
      → sorts_given (λ i. row_sort st rows column i) is ≡ some (sorts_of st (codes_of rows column is))
  unfolding sorts_given sorts_of looked
  sorts-clear [] h = refl
  sorts-clear (i ∷ is) h = ap₂ consed (row-clear i (h 0 (omega arith))) (sorts-clear is (λ j l. h (suc j) (omega arith)))

  sorts-hit : (is : List ℕ) (j : ℕ) → j < length is → 65536 ≤ get_or rows (2 * get_or is j 0 + column) 0 → sorts_given (λ i. row_sort st rows column i) is ≡ none
  unfolding sorts_given
  sorts-hit [] j l h = absurd (not-suc-le-zero l)
  sorts-hit (i ∷ is) zero l h = ap (λ (o : Option Sort). consed o (sorts_given (λ k. row_sort st rows column k) is)) (row-hit i h)
  sorts-hit (i ∷ is) (suc j) l h = ap (consed (row_sort st rows column i)) (sorts-hit is j (omega arith) h) ∙ consed-none (row_sort st rows column i)

module _ (sheet : List ℕ) (at n : ℕ) (rows : List ℕ) (column : ℕ) where
  -- The row of the term in a place of the list.
  pub number-row : (j : ℕ) → j < n → get_or rows (2 * get_or (numbers_at sheet at n) j 0 + column) 0 ≡ row_at sheet at rows column j
  number-row j l = ap (λ (i : ℕ). get_or rows (2 * i + column) 0) (number_at sheet at n j l)

  all-clear : ((j : ℕ) → j < n → row_at sheet at rows column j < 65536) → (st : List Sort) → arguments_of st sheet at n rows column ≡ some (sorts_of st (codes_of rows column (numbers_at sheet at n)))
  all-clear h st =
      sorts-clear st rows column (numbers_at sheet at n)
      (λ j l. let o : j < n = omega (arith, length-numbers_at sheet at n) in omega (arith, number-row j o, h j o))

  one_hit : (j : ℕ) → j < n → 65536 ≤ row_at sheet at rows column j → (st : List Sort) → arguments_of st sheet at n rows column ≡ none
  one_hit j l h st =
      sorts-hit st rows column (numbers_at sheet at n) j (omega (arith, length-numbers_at sheet at n)) (omega (arith, number-row j l))

  -- All rows seen are no refusals; one that is.
  pub judged-clear : ((j : ℕ) → j < n → row_at sheet at rows column j < 65536) → JudgedIs sheet at n rows column true
  judged-clear h = record { below = λ e. h; sorts = λ e. all-clear h; lacking = λ e. absurd (true≢false e) }

  pub judged-hit : (j : ℕ) → j < n → 65536 ≤ row_at sheet at rows column j → JudgedIs sheet at n rows column false
  judged-hit j l h = record { below = λ e. absurd (false≢true e); sorts = λ e. absurd (false≢true e); lacking = λ e. one_hit j l h }

  pub gathered-clear : (a : List ℕ) → ((j : ℕ) → j < n → row_at sheet at rows column j < 65536) → Filled a (row_at sheet at rows column) n → GatherIs sheet at n rows column a true
  gathered-clear a h f =
      record {
        below = λ e. h;
        each = λ e. f;
        sorts = λ e st.
            all-clear h st
            ∙ ap (λ (is : List ℕ). some (sorts_of st is)) (sym (numbers-looked (λ i. get_or rows (2 * i + column) 0) a 3 sheet at n f));
        lacking = λ e. absurd (true≢false e);
      }

  pub gathered-hit : (a : List ℕ) (j : ℕ) → j < n → 65536 ≤ row_at sheet at rows column j → GatherIs sheet at n rows column a false
  gathered-hit a j l h =
      record { below = λ e. absurd (false≢true e); each = λ e. absurd (false≢true e); sorts = λ e. absurd (false≢true e); lacking = λ e. one_hit j l h }

-- The numbers in the array are of a store of m sorts, where those of the rows before the term t are.
pub gathered-known : (sheet : List ℕ) (at n : ℕ) (rows : List ℕ) (column : ℕ) (a : List ℕ) (r : Bool) → GatherIs sheet at n rows column a r → r ≡ true → column ≤ 1
    → (t m : ℕ) → ((i : ℕ) → i < 2 * t → get_or rows i 0 < 65536 → get_or rows i 0 < m) → ((j : ℕ) → j < n → u16_at sheet (at + 2 * j) < t) → (j : ℕ) → j < n → u16_at a (3 + 2 * j) < m
gathered-known sheet at n rows column a r g e side t m known before j l =
    omega (arith, g.each e j l, known (2 * u16_at sheet (at + 2 * j) + column) (omega (arith, before j l)) (g.below e j l))

---------------------------------------------------------------- bindings
pub record BindingsAsks (sheet : List ℕ) (at n : ℕ) (table a : List ℕ) : Type 0 where
  pub within : at + 4 * n ≤ length sheet
  pub each : (j : ℕ) → j < n → u16_at sheet (at + 4 * j + 2) < length table
  pub room : 3 + 2 * n ≤ length a

-- The store numbers of the sorts of n pairs, through the table of sheet numbers.
abbrev pub bound_numbers : List ℕ → List ℕ → ℕ → ℕ → List ℕ
bound_numbers table sheet at n = looked (λ i. get_or table i 0) (pair_sorts_at sheet at n)

abbrev pub binding_at : List ℕ → ℕ → List ℕ → ℕ → ℕ
binding_at sheet at table j = get_or table (u16_at sheet (at + 4 * j + 2)) 0

pub record BindingsAre (sheet : List ℕ) (at n : ℕ) (table a : List ℕ) : Type 0 where
  pub each : Filled a (binding_at sheet at table) n
  pub numbers : numbers_at a 3 n ≡ bound_numbers table sheet at n

pairs-looked : (g : ℕ → ℕ) (a : List ℕ) (x : ℕ) (s : List ℕ) (y m : ℕ) → ((j : ℕ) → j < m → u16_at a (x + 2 * j) ≡ g (u16_at s (y + 4 * j + 2))) → numbers_at a x m ≡ looked g (pair_sorts_at s y m)
unfolding numbers_at looked pair_sorts_at
pairs-looked g a x s y zero h = refl
pairs-looked g a x s y (suc m) h =
    let ex : x + 2 * 0 ≡ x = omega arith in
    let ey : y + 4 * 0 + 2 ≡ y + 2 = omega arith in
    ap₂ (λ (i : ℕ) (is : List ℕ). i ∷ is) (sym (ap (u16_at a) ex) ∙ h 0 (omega arith) ∙ ap (λ (z : ℕ). g (u16_at s z)) ey)
    (pairs-looked g a (x + 2) s (y + 4) m
    (λ j l.
    let fx : x + 2 + 2 * j ≡ x + 2 * suc j = omega arith in
    let fy : y + 4 * suc j + 2 ≡ y + 4 + 4 * j + 2 = omega arith in
    ap (u16_at a) fx ∙ h (suc j) (omega arith) ∙ ap (λ (z : ℕ). g (u16_at s z)) fy))

pub bindings-are : (sheet : List ℕ) (at n : ℕ) (table a : List ℕ) → Filled a (binding_at sheet at table) n → BindingsAre sheet at n table a
bindings-are sheet at n table a f = record { each = f; numbers = pairs-looked (λ i. get_or table i 0) a 3 sheet at n f }

-- A Lambda's pairs on the sheet and its body, all of whose sorts the store has; a is long enough for a list of 65.
pub record LambdaAsks (b p ix : List ℕ) (n u : ℕ) (sheet : List ℕ) (at m : ℕ) (table a : List ℕ) (body : ℕ) : Type 0 where
  pub good : Good b p ix n u
  pub within : at + 4 * m ≤ length sheet
  pub each : (j : ℕ) → j < m → u16_at sheet (at + 4 * j + 2) < length table
  pub below : (j : ℕ) → j < m → binding_at sheet at table j < n
  pub known : body < n
  pub few : m ≤ 64
  pub room : 133 ≤ length a

-- One number more in the array is one sort more.
pub sorts-joined : (st : List Sort) (a : List ℕ) (x m : ℕ) → sorts_of st (numbers_at a x (suc m)) ≡ joined (sorts_of st (numbers_at a x m)) (get_or st (u16_at a (x + 2 * m)) leaf)
unfolding sorts_of numbers_at joined
sorts-joined st a x zero = let e : x ≡ x + 2 * 0 = omega arith in ap (λ (z : ℕ). get_or st (u16_at a z) leaf then end) e
sorts-joined st a x (suc m) =
    let e : x + 2 + 2 * m ≡ x + 2 * suc m = omega arith in
    ap (λ (ss : Sorts). get_or st (u16_at a x) leaf then ss)
    (sorts-joined st a (x + 2) m ∙ ap (λ (z : ℕ). joined (sorts_of st (numbers_at a (x + 2) m)) (get_or st (u16_at a z) leaf)) e)

---------------------------------------------------------------- constants
pub record ConstantAsks (sheet : List ℕ) (at : ℕ) : Type 0 where
  pub head : at + 2 ≤ length sheet
  pub number : get_or sheet (at + 1) 0 ≡ 0 → at + 6 ≤ length sheet

-- The number that was found.
abbrev pub integer_of : Found ℕ → Option ℕ
integer_of (Some v) = some v
integer_of None = none

-- The number of the term whose record starts at a place: an integer constant has the kind 0, and its number behind it.
abbrev pub integer_at : List ℕ → ℕ → Option ℕ
integer_at sheet at = cond (eqb (get_or sheet (at + 1) 0) 0) (some (u32_at sheet (at + 2))) none

---------------------------------------------------------------- the terms that a sheet names
-- The integer constants among the terms that the sheet names from x on, by the places where terms start.
unfoldable pub constants_from : List ℕ → List ℕ → List ℕ → List (Option ℕ)
constants_from sheet starts [] = []
constants_from sheet starts (i ∷ is) = integer_at sheet (get_or starts i 0) ∷ constants_from sheet starts is

abbrev pub constants_in : List ℕ → List ℕ → ℕ → ℕ → List (Option ℕ)
constants_in sheet starts x m = constants_from sheet starts (numbers_at sheet x m)

-- The sheet names m terms from x on, and the records of all lie in it.
pub record ConstantsAsk (sheet starts : List ℕ) (x m : ℕ) : Type 0 where
  pub within : x + 2 * m ≤ length sheet
  pub term : (j : ℕ) → j < m → u16_at sheet (x + 2 * j) < length starts
  pub start : (j : ℕ) → j < m → ConstantAsks sheet (get_or starts (u16_at sheet (x + 2 * j)) 0)

-- The sheet names a term at x, whose record lies in it.
pub record IndexAsks (sheet starts : List ℕ) (x : ℕ) : Type 0 where
  pub within : x + 2 ≤ length sheet
  pub term : u16_at sheet x < length starts
  pub start : ConstantAsks sheet (get_or starts (u16_at sheet x) 0)

-- The integer constant that it is, a number of four bytes.
abbrev pub index_at : List ℕ → List ℕ → ℕ → Option ℕ
index_at sheet starts x = integer_at sheet (get_or starts (u16_at sheet x) 0)

pub record IndexIs (sheet starts : List ℕ) (x : ℕ) (r : Found ℕ) : Type 0 where
  pub is : integer_of r ≡ index_at sheet starts x
  pub small : (v : ℕ) → r ≡ Some v → v < 4294967296

-- One of several.
pub index-asks : (sheet starts : List ℕ) (x m : ℕ) → ConstantsAsk sheet starts x m → (i : ℕ) → i < m → IndexAsks sheet starts (x + 2 * i)
index-asks sheet starts x m h i l = record { within = omega (arith, h.within); term = h.term i l; start = h.start i l }
