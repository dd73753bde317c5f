-- WHAT DOCUMENT 02 ADDS to the ranks of document 01, in its own words: A.1 and A.2. Definitions only; AddedTheorems proves that it is just
-- this, RelationTheorems that A.2's operators have just the sorts that it says.
use Rattle.std.specs.Prelude.{ℕ, suc, ◌≤◌, ◌<◌, ◌≡◌, ◌⊎◌, Bool, true, not, ◌&&◌, ◌||◌, eqb, leb}
use Rattle.record.specs.Sort.{Sort, Sorts, end, ◌then◌, bool, int, real, set, tuple, count}
use Rattle.row_rules.specs.Lists.{joined, appended}
use Rattle.row_rules.specs.Term.{Term, Terms, term, stop, ◌also◌}
use Rattle.check_rules.specs.Forms.{Numbers, Stands, times, backwards}

---------------------------------------------------------------- A.1
-- THE ARGUMENTS ts THAT A.1 ADDS to the operator n, and the sort s that it then has.
pub data Mixes (n : ℕ) (ts : Sorts) (s : Sort) : Type 0 where
  -- "Add, Sub, Mult .. with Int and Real mixed: Real for the sums"
  sum : (n ≡ 10) ⊎ ((n ≡ 11) ⊎ (n ≡ 12)) → Numbers ts → Stands int ts → Stands real ts → s ≡ real → Mixes n ts s
  -- "the four orders with Int and Real mixed .. Bool for the orders"
  order : 17 ≤ n → n ≤ 20 → Numbers ts → Stands int ts → Stands real ts → s ≡ bool → Mixes n ts s
  -- "RealDiv takes Int and Real in any mixture, all Int too, and gives Real"
  quotient : n ≡ 14 → Numbers ts → Stands int ts → 2 ≤ count ts → s ≡ real → Mixes n ts s

-- The operators that A.1 names.
abbrev pub mixing : ℕ → Bool
mixing n = (eqb n 10 || eqb n 11 || eqb n 12 || eqb n 14) || (leb 17 n && leb n 20)

---------------------------------------------------------------- A.2
-- THE ARGUMENTS ts THAT THE OPERATOR n ON SETS AND RELATIONS TAKES by A.2, and the sort s that it then has.
pub data Relates (n : ℕ) (ts : Sorts) (s : Sort) : Type 0 where
  -- "Union, intersection and difference take two equal sets; complement one." 118 to 120, 128
  two_sets : (a : Sort) → 118 ≤ n → n ≤ 120 → ts ≡ set a then set a then end → s ≡ set a → Relates n ts s
  complement : (a : Sort) → n ≡ 128 → ts ≡ set a then end → s ≡ set a → Relates n ts s
  -- "Member takes an element and its set, subset two equal sets." 121, 122
  member : (a : Sort) → n ≡ 121 → ts ≡ a then set a then end → s ≡ bool → Relates n ts s
  subset : (a : Sort) → n ≡ 122 → ts ≡ set a then set a then end → s ≡ bool → Relates n ts s
  -- "Insert takes one or more elements, then their set." 127
  insertion : (a : Sort) → (m : ℕ) → n ≡ 127 → ts ≡ times (suc m) a (set a) → s ≡ set a → Relates n ts s
  -- "Singleton gives Set; the two tests Bool; cardinality Int." 123, 124 and 125, 126
  singleton : (a : Sort) → n ≡ 123 → ts ≡ a then end → s ≡ set a → Relates n ts s
  test : (a : Sort) → 124 ≤ n → n ≤ 125 → ts ≡ set a then end → s ≡ bool → Relates n ts s
  cardinality : (a : Sort) → n ≡ 126 → ts ≡ set a then end → s ≡ int → Relates n ts s
  -- "Tuple takes one or more, TupleUnit none." 129, 130
  tuples : n ≡ 129 → 0 < count ts → s ≡ tuple ts → Relates n ts s
  no_tuple : n ≡ 130 → ts ≡ end → s ≡ tuple end → Relates n ts s
  -- "Transpose takes a set of tuples; closure a set of pairs of one sort; product two sets of tuples" 131, 132, 134
  transposed : (cs : Sorts) → n ≡ 131 → ts ≡ set (tuple cs) then end → s ≡ set (tuple (backwards cs)) → Relates n ts s
  closure : (a : Sort) → n ≡ 132 → ts ≡ set (tuple (a then a then end)) then end → s ≡ set (tuple (a then a then end)) → Relates n ts s
  multiplied : (as' bs : Sorts) → n ≡ 134 → ts ≡ set (tuple as') then set (tuple bs) then end → s ≡ set (tuple (appended as' bs)) → Relates n ts s
  -- "join two whose touching columns agree, both tuples non-empty." 133; c is the column that touches
  join : (as' : Sorts) → (c : Sort) → (bs : Sorts) → n ≡ 133 → ts ≡ set (tuple (joined as' c)) then set (tuple (c then bs)) then end
      → s ≡ set (tuple (appended as' bs)) → Relates n ts s

-- How many arguments they take.
pub data RelationCounts (n k : ℕ) : Type 0 where
  takes_none : n ≡ 130 → k ≡ 0 → RelationCounts n k
  takes_one : (n ≡ 123) ⊎ ((n ≡ 124) ⊎ ((n ≡ 125) ⊎ ((n ≡ 126) ⊎ ((n ≡ 128) ⊎ ((n ≡ 131) ⊎ (n ≡ 132)))))) → k ≡ 1 → RelationCounts n k
  takes_two : ((118 ≤ n) × (n ≤ 122)) ⊎ ((n ≡ 133) ⊎ (n ≡ 134)) → k ≡ 2 → RelationCounts n k
  takes_some : n ≡ 129 → 1 ≤ k → RelationCounts n k
  takes_more : n ≡ 127 → 2 ≤ k → RelationCounts n k

-- The operators that A.2 names.
abbrev pub relational : ℕ → Bool
relational n = leb 118 n && leb n 134

---------------------------------------------------------------- terms without the operators of both
abbrev pub named : ℕ → Bool
named n = mixing n || relational n

-- The record is one of them, or SetEmpty or SetUniverse, which A.2 names too.
abbrev pub touched : ℕ → ℕ → Bool
touched k n = (eqb k 7 && named n) || (eqb k 12 && not (eqb n 0))

-- None of these stands in a term or its index terms.
unfoldable mutual
  pub spared : Term → Bool
  spared (term k a n o ts bs ns is) = not (touched k n) && (spared_all ts && spared_all is)

  pub spared_all : Terms → Bool
  spared_all stop = true
  spared_all (t also ts) = spared t && spared_all ts
