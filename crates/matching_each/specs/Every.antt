-- Every node of a sort passes a test: what that is on trees, the five tests, and what the walk asks and promises. Definitions only.
use Rattle.std.specs.Prelude.{ℕ, ◌+◌, ◌*◌, ◌≤◌, ◌<◌, ◌≡◌, Bool, true, false, cond, not, ◌&&◌, ◌||◌, List, length, get_or, eqb}
use Rattle.record.specs.Kinds.{sort_number}
use Rattle.record.specs.Number.{numbers_at}
use Rattle.record.specs.Sort.{Sort, Sorts, var, par, node, end, ◌then◌}
use Rattle.record.specs.Decode.{sort_at}
use Rattle.record.specs.declared.SortRecord.{SortRecord}
use Rattle.store.specs.Entry.{EntryHas}
use Rattle.substitution.specs.Premises.{usual}
use Rattle.matching_tables.specs.Tables.{listed}
use Rattle.matching_tables.specs.Usable.{sorts_at, OneAsks, ListAsks}
use Rattle.matching_tables.specs.Contract.{none_of}
use Rattle.matching_tables.specs.Notes.{NoteTable}

-- EVERY NODE of a sort passes the test f, which is asked of the sort at each node.
unfoldable mutual
  pub every : (Sort → Bool) → Sort → Bool
  every f (var v) = f (var v)
  every f (par ns b) = f (par ns b) && every f b
  every f (node k a w ss) = f (node k a w ss) && every_all f ss

  pub every_all : (Sort → Bool) → Sorts → Bool
  every_all f end = true
  every_all f (s then ss) = every f s && every_all f ss

---------------------------------------------------------------- the tests
-- What is asked of a node.
pub data Test : Type 0 where
  -- It is neither a Par nor a ParamBitVec.
  Known : Test
  -- It is no Par, Type, ParamBitVec or BitVec 0.
  Proper : Test
  -- It has no listed name: a Var's own, those of a Par.
  Unlisted : Test
  -- It is no Var whose name is listed and not bound.
  Settled : Test
  -- It is no Par.
  Parless : Test

-- A Var of the name v; l is the table of listed names, d that of images.
abbrev pub on_var : Test → List ℕ → List ℕ → ℕ → Bool
on_var Known l d v = true
on_var Proper l d v = true
on_var Unlisted l d v = eqb (get_or l v 0) 0
on_var Settled l d v = not (listed l v) || listed d v
on_var Parless l d v = true

-- A Par of the names us.
abbrev pub on_par : Test → List ℕ → List ℕ → Bool
on_par Known l us = false
on_par Proper l us = false
on_par Unlisted l us = none_of l us
on_par Settled l us = true
on_par Parless l us = false

-- A node of the kind k with the number w.
abbrev pub on_node : Test → ℕ → ℕ → Bool
on_node Known k w = not (eqb k 10)
on_node Proper k w = usual k w
on_node Unlisted k w = true
on_node Settled k w = true
on_node Parless k w = true

-- THE TEST of the sort at a node.
abbrev pub passing : Test → List ℕ → List ℕ → Sort → Bool
passing t l d (var v) = on_var t l d v
passing t l d (par us b) = on_par t l us
passing t l d (node k a w ss) = on_node t k w

-- THE TEST of a node by the fields of its record r, one of a store or not: a Var by its name, a Par by the names that r points to
-- in the bytes b, any other kind by its number.
abbrev pub on_record : Test → List ℕ → List ℕ → List ℕ → SortRecord → Bool
on_record t l d b r =
    cond (eqb (sort_number r.kind) 2) (on_var t l d r.name)
    (cond (eqb (sort_number r.kind) 12) (on_par t l (numbers_at b r.names.at r.names.count))
    (on_node t (sort_number r.kind) r.number))

---------------------------------------------------------------- one node
-- The tables that a test looks at have all names.
abbrev pub ListedFor : Test → List ℕ → Type 0
ListedFor Known l = Unit {0}
ListedFor Proper l = Unit {0}
ListedFor Unlisted l = length l ≡ 65536
ListedFor Settled l = length l ≡ 65536
ListedFor Parless l = Unit {0}

abbrev pub BoundFor : Test → List ℕ → Type 0
BoundFor Known d = Unit {0}
BoundFor Proper d = Unit {0}
BoundFor Unlisted d = Unit {0}
BoundFor Settled d = length d ≡ 65536
BoundFor Parless d = Unit {0}

pub record TestLent (t : Test) (l d : List ℕ) : Type 0 where
  pub listed : ListedFor t l
  pub bound : BoundFor t d

pub record PassAsks (t : Test) (l d b : List ℕ) (r : SortRecord) : Type 0 where
  pub lent : TestLent t l d
  pub name : r.name < 65536
  pub names : r.names.at + 2 * r.names.count ≤ length b

-- Whichever sort of a store has the entry r.
abbrev pub PassIs : Test → List ℕ → List ℕ → List ℕ → SortRecord → Bool → Type 0
PassIs t l d b r q = (p : List ℕ) (n k : ℕ) → OneAsks b p n k → EntryHas b p k r → q ≡ passing t l d (sort_at b p n k)

---------------------------------------------------------------- the walk
-- What is noted: sorts whose nodes all pass.
abbrev pub Noted : List ℕ → List ℕ → ℕ → (Sort → Bool) → List ℕ → Type 0
Noted b p n f o = NoteTable (λ k. every f (sort_at b p n k) ≡ true) o

-- What the walk is given to test a node with may be asked of the entry of each sort of the store.
abbrev pub AskedOf : List ℕ → List ℕ → ℕ → (SortRecord → Type 0) → Type 0
AskedOf b p n may = (r : SortRecord) (k : ℕ) → OneAsks b p n k → EntryHas b p k r → may r

-- Its answers are those of the test f.
abbrev pub Answers : List ℕ → List ℕ → ℕ → (SortRecord → Bool → Type 0) → (Sort → Bool) → Type 0
Answers b p n says f = (r : SortRecord) (k : ℕ) (q : Bool) → OneAsks b p n k → EntryHas b p k r → says r q → q ≡ f (sort_at b p n k)

pub record EachAsks (b p : List ℕ) (n : ℕ) (may : SortRecord → Type 0) (k : ℕ) : Type 0 where
  pub one : OneAsks b p n k
  pub asked : AskedOf b p n may

pub record AllEachAsks (b p : List ℕ) (n : ℕ) (may : SortRecord → Type 0) (x m : ℕ) : Type 0 where
  pub list : ListAsks b p n b x m
  pub asked : AskedOf b p n may

-- THE ANSWER IS v, and the table is right again.
pub record EveryFound (b p : List ℕ) (n : ℕ) (f : Sort → Bool) (v : Bool) (o : List ℕ) (r : Bool) : Type 0 where
  pub answer : r ≡ v
  pub noted : Noted b p n f o

-- For every test whose answers these are, from a table o that is right for it.
abbrev pub EachIs : List ℕ → List ℕ → ℕ → (SortRecord → Bool → Type 0) → List ℕ → ℕ → List ℕ → Bool → Type 0
EachIs b p n says o k o' r =
    (f : Sort → Bool) → Answers b p n says f → Noted b p n f o → EveryFound b p n f (every f (sort_at b p n k)) o' r

abbrev pub AllEachIs : List ℕ → List ℕ → ℕ → (SortRecord → Bool → Type 0) → List ℕ → ℕ → ℕ → List ℕ → Bool → Type 0
AllEachIs b p n says o x m o' r =
    (f : Sort → Bool) → Answers b p n says f → Noted b p n f o → EveryFound b p n f (every_all f (sorts_at b p n b x m)) o' r
