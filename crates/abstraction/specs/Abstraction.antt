-- Variable abstraction: a term with some of its parts replaced by variables of the parts' sorts, as a proof with more terms than a
-- sheet holds is put on several sheets. One relation for both columns of the rows (0 the inferred, else the checked one), over the verdict J of a
-- record. Definitions only.
use Rattle.std.specs.Prelude.{ℕ, zero, suc, ◌≡◌, Bool, true, false, ◌&&◌, List, [], eqb}
use Rattle.record.specs.Sort.{Sort}
use Rattle.sheet.specs.Sheet.{Binding}
use Rattle.row_rules.specs.Verdict.{Verdict, sort}
use Rattle.row_rules.specs.Term.{Site, Term, Terms, term, stop, ◌also◌, constants_of, verdict_of}

-- The Var (5) with the name a and the sort s that stands for a part.
abbrev pub stand_in : ℕ → Sort → Term
stand_in a s = term 5 a 0 s stop [] [] stop

-- THE LISTS WHOSE INTEGER CONSTANTS A VERDICT LOOKS AT, by the column and the record's kind and number: among the arguments those of BvConst
-- (kind 7, operator 112), in the inferred column alone; the indices of a ParamOp (kind 11) in both. A variable is no integer constant.
abbrev pub reads_arguments : ℕ → ℕ → ℕ → Bool
reads_arguments zero k n = eqb k 7 && eqb n 112
reads_arguments (suc column) k n = false

abbrev pub reads_indices : ℕ → Bool
reads_indices k = eqb k 11

-- THE VARIABLE a OF THE SORT s STANDS FOR THE PART t: t has the sort s by the verdict J. Any name will do, since a verdict looks at no scope
-- and no name is declared. Once bound names are looked at, two fields are added here: the part's free variables have the sorts that the
-- bindings above give their names, and so has a; the relation below then carries these bindings down.
pub record StandsFor (J : Site → Verdict) (t : Term) (a : ℕ) (s : Sort) : Type 0 where
  pub has : verdict_of J t ≡ sort s

-- THE TERM u IS t WITH PARTS REPLACED BY VARIABLES, in a column: t is such a part itself, or both are the same record over such parts, and the
-- integer constants that the verdict looks at are the same in both.
mutual
  pub data Abstracts (J : Site → Verdict) (column : ℕ) : Term → Term → Type 0 where
    part : {t : Term} (a : ℕ) (s : Sort) → StandsFor J t a s → Abstracts J column t (stand_in a s)
    inside : {k a n : ℕ} {o : Sort} {ts us is js : Terms} {bs : List Binding} {ns : List ℕ}
        → AbstractsEach J column ts us → AbstractsEach J column is js
        → (reads_arguments column k n ≡ true → constants_of ts ≡ constants_of us) → (reads_indices k ≡ true → constants_of is ≡ constants_of js)
        → Abstracts J column (term k a n o ts bs ns is) (term k a n o us bs ns js)

  -- Each term of a list, in order.
  pub data AbstractsEach (J : Site → Verdict) (column : ℕ) : Terms → Terms → Type 0 where
    none_left : AbstractsEach J column stop stop
    one_more : {t u : Term} {ts us : Terms} → Abstracts J column t u → AbstractsEach J column ts us → AbstractsEach J column (t also ts) (u also us)
