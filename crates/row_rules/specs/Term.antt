-- One term record with the sorts of its parts, terms as trees, and the verdict of a tree.
use Rattle.std.specs.Prelude.{ℕ, cond, List, [], ◌∷◌, length, eqb}
use Rattle.std.proofs.Math.Option.{Option, none, some}
use Rattle.record.specs.Sort.{Sort, Sorts, end, ◌then◌, bool}
use Rattle.sheet.specs.Sheet.{Binding, TermFields}
use Rattle.row_rules.specs.declared.Cause.TheVariants.{Below}
use Rattle.row_rules.specs.Verdict.{Verdict, sort, refused}

-- What a verdict on one record looks at: the record's own fields, the sorts of the terms in its list, and of the terms
-- in its list and of its index terms whether they are integer constants, with their numbers.
pub record Site : Type 0 where
  pub kind : ℕ
  pub number : ℕ
  pub own : Sort
  pub args : Sorts
  pub bindings : List Binding
  pub constants : List (Option ℕ)
  pub indices : List (Option ℕ)

-- The verdict J on a record with these fields, once its parts have sorts; "a referenced term's same row is refused": 20.
abbrev pub over_parts : (Site → Verdict) → ℕ → ℕ → Sort → List Binding → List (Option ℕ) → List (Option ℕ) → Option Sorts → Option Sorts → Verdict
over_parts J k n o bs cs is none js = refused Below
over_parts J k n o bs cs is (some ts) none = refused Below
over_parts J k n o bs cs is (some ts) (some js) =
    J (record { kind = k; number = n; own = o; args = ts; bindings = bs; constants = cs; indices = is })

---------------------------------------------------------------- trees
-- A term as a tree: a term record with trees for the terms that it names (enum Term of src/ast/term.rs).
infixr 40 ◌also◌
mutual
  pub data Term : Type 0 where
    term : (kind name number : ℕ) → (own : Sort) → (list : Terms) → (bindings : List Binding) → (names : List ℕ) → (second : Terms) → Term

  pub data Terms : Type 0 where
    stop : Terms
    ◌also◌ : Term → Terms → Terms

-- The terms with these numbers.
unfoldable pub terms_of : (ℕ → Term) → List ℕ → Terms
terms_of f [] = stop
terms_of f (i ∷ is) = f i also terms_of f is

-- The tree of a record over the trees of earlier records.
abbrev pub tree_of : (ℕ → Term) → TermFields → Term
tree_of f r = term r.kind r.name r.number r.own (terms_of f r.list) r.bindings r.names (terms_of f r.second)

-- What stands for a term that is not there; no reference of an accepted record needs it.
abbrev pub no_term : Term
no_term = term 10 0 0 bool stop [] [] stop

-- THE TERM WITH THE NUMBER n of a sheet's term records, the latest first.
unfoldable pub term_at : List TermFields → ℕ → Term
unfolding terms_of
term_at [] n = no_term
term_at (r ∷ rs) n = cond (eqb n (length rs)) (tree_of (λ j. term_at rs j) r) (term_at rs n)

-- The number of an integer constant, term kind 0 (Term::as_integer).
abbrev pub constant_of : Term → Option ℕ
constant_of (term k a n o ts bs ns is) = cond (eqb k 0) (some n) none

unfoldable pub constants_of : Terms → List (Option ℕ)
constants_of stop = []
constants_of (t also ts) = constant_of t ∷ constants_of ts

-- A sort before the sorts of the other parts, if all have one.
abbrev pub besides : Verdict → Option Sorts → Option Sorts
besides (refused c) o = none
besides (sort s) none = none
besides (sort s) (some ss) = some (s then ss)

-- THE VERDICT OF A TREE by the verdict J on one record.
unfoldable mutual
  unfolding constants_of

  pub verdict_of : (Site → Verdict) → Term → Verdict
  verdict_of J (term k a n o ts bs ns is) = over_parts J k n o bs (constants_of ts) (constants_of is) (verdicts_of J ts) (verdicts_of J is)

  pub verdicts_of : (Site → Verdict) → Terms → Option Sorts
  verdicts_of J stop = some end
  verdicts_of J (t also ts) = besides (verdict_of J t) (verdicts_of J ts)

---------------------------------------------------------------- records
-- The number of the integer constant that the term i is, by its record.
abbrev pub constant_in : TermFields → Option ℕ
constant_in r = cond (eqb r.kind 0) (some r.number) none

unfoldable pub constant_at : List TermFields → ℕ → Option ℕ
constant_at [] i = none
constant_at (r ∷ rs) i = cond (eqb i (length rs)) (constant_in r) (constant_at rs i)

unfoldable pub constants_at : List TermFields → List ℕ → List (Option ℕ)
unfolding constant_at
constants_at rs [] = []
constants_at rs (i ∷ is) = constant_at rs i ∷ constants_at rs is

-- The sorts of the terms i by their rows, if none is refused.
abbrev pub consed : Option Sort → Option Sorts → Option Sorts
consed none o = none
consed (some s) none = none
consed (some s) (some ss) = some (s then ss)

unfoldable pub sorts_given : (ℕ → Option Sort) → List ℕ → Option Sorts
sorts_given row [] = some end
sorts_given row (i ∷ is) = consed (row i) (sorts_given row is)

-- THE VERDICT ON ONE RECORD r behind the records rs, from the rows of earlier terms: what the program computes.
unfoldable pub verdict_at : (Site → Verdict) → (ℕ → Option Sort) → List TermFields → TermFields → Verdict
unfolding constants_at sorts_given
verdict_at J row rs r =
    over_parts J r.kind r.number r.own r.bindings (constants_at rs r.list) (constants_at rs r.second)
    (sorts_given row r.list) (sorts_given row r.second)
