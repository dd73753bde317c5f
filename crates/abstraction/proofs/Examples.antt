-- Examples of variable abstraction, by computation: a term beside what it becomes, and their verdicts. First terms that the law covers and a
-- stricter one would not; then each condition dropped.
use Rattle.std.specs.Prelude.{ℕ, suc, ◌≡◌, refl, Bool, true, false, List, [], ◌∷◌}
use Rattle.record.specs.Sort.{Sort, var, par, node, end, ◌then◌, function, bool, int, real, bitvec, param_bit_vec, type}
use Rattle.row_rules.specs.declared.Cause.TheVariants.{Below, Panics, NoRank, Count, Misfit, Barred}
use Rattle.row_rules.specs.Verdict.{Verdict, sort, refused}
use Rattle.row_rules.specs.Term.{Term, term, stop, ◌also◌}
use Rattle.infer_rules.specs.Inferred.{inferred, infer}
use Rattle.check_rules.specs.Rank.{Rank, rank}
use Rattle.check_rules.specs.Ranks.{smt_lib}
use Rattle.check_rules.specs.Checked.{checked, check}
use Rattle.judge_rules.proofs.RowLaws.{judging}
use Rattle.abstraction.specs.Abstraction.{stand_in}
use Rattle.abstraction.specs.Names.{renamed, renamed_verdict, renamed_term}
use Rattle.abstraction.specs.AbstractionTest.{abstracted}

-- Constants 5 and 5.0, an application, an equation, an Ite, a quantifier, a Let, a vector constant of width 8, its extension by an index.
abbrev pub five : Term
five = term 0 0 5 bool stop [] [] stop

abbrev pub half : Term
half = term 1 0 0 bool stop [] [] stop

abbrev pub app : Term → Term → Term
app f x = term 6 0 0 bool (f also x also stop) [] [] stop

abbrev pub equal : Term → Term → Term
equal x y = term 7 0 7 bool (x also y also stop) [] [] stop

abbrev pub ite : Term → Term → Term → Term
ite c x y = term 7 0 9 bool (c also x also y also stop) [] [] stop

abbrev pub forall : ℕ → Sort → Term → Term
forall a s t = term 8 0 0 bool (t also stop) (record { name = a; sort = s } ∷ []) [] stop

abbrev pub letting : ℕ → Term → Term → Term
letting a v t = term 9 0 0 bool (v also t also stop) [] (a ∷ []) stop

abbrev pub bits : Term
bits = term 4 0 8 bool stop [] [] stop

abbrev pub extended : Term → Term → Term
extended i t = term 11 0 3 bool (t also stop) [] [] (i also stop)

-- BvConst (112) of a value and a width.
abbrev pub constant : Term → Term → Term
constant x y = term 7 0 112 bool (x also y also stop) [] [] stop

-- (par (n1) (-> 'n1 Bool)), the sort of a head.
abbrev pub predicate : Sort
predicate = par (1 ∷ []) (function (var 1 then bool then end))

-- A term, its abstraction, and whether the test in a column takes it.
pub record Pair : Type 0 where
  pub of : Term
  pub to : Term

unfoldable pub taken : ℕ → List Pair → List Bool
unfolding abstracted inferred checked smt_lib
taken column [] = []
taken column (p ∷ ps) = abstracted (judging smt_lib column) column p.of p.to ∷ taken column ps

unfoldable pub checks : List Term → List Verdict
unfolding check smt_lib
checks [] = []
checks (t ∷ ts) = check smt_lib t ∷ checks ts

unfoldable pub inferences : List Term → List Verdict
unfolding infer
inferences [] = []
inferences (t ∷ ts) = infer t ∷ inferences ts

---------------------------------------------------------------- what the law covers
-- An integer constant as an argument; two parts by one name; a name that stands elsewhere with another sort; a name that is bound above, to the
-- same sort or to another; a value of a Let; a head of a Par sort, which is a Var's only.
covered : taken 1 (
    record { of = equal five five; to = equal (stand_in 9 int) five }
    ∷ record { of = equal five five; to = equal (stand_in 9 int) (stand_in 9 int) }
    ∷ record { of = equal (equal half (stand_in 9 real)) (equal five five); to = equal (equal half (stand_in 9 real)) (equal (stand_in 9 int) five) }
    ∷ record { of = forall 1 bool (equal five five); to = forall 1 bool (equal (stand_in 1 int) five) }
    ∷ record { of = letting 1 (equal five five) (stand_in 1 bool); to = letting 1 (stand_in 9 bool) (stand_in 1 bool) }
    ∷ record { of = app (stand_in 8 predicate) five; to = app (stand_in 9 predicate) five }
    ∷ record { of = app (stand_in 8 predicate) five; to = stand_in 9 bool }
    ∷ record { of = extended five bits; to = extended five (stand_in 9 (bitvec 8)) } ∷ [])
    ≡ true ∷ true ∷ true ∷ true ∷ true ∷ true ∷ true ∷ true ∷ []
unfolding taken
covered = refl

-- A refusal elsewhere stays what it was, with its cause: 26 in the record, 20 over it.
refusals-stay :
    checks (
    equal (equal five five) half ∷ equal (stand_in 9 bool) half
    ∷ equal (equal (equal five five) half) five ∷ equal (equal (stand_in 9 bool) half) (stand_in 9 int) ∷ [])
    ≡ refused Misfit ∷ refused Misfit ∷ refused Below ∷ refused Below ∷ []
unfolding checks
refusals-stay = refl

---------------------------------------------------------------- each condition dropped
-- The part has no sort: the term is refused, its abstraction is not. The variable has another sort than the part: 26.
without-sort :
    checks (
    equal five half ∷ equal (equal five half) (equal five five) ∷ equal (stand_in 9 bool) (equal five five)
    ∷ equal five five ∷ equal (stand_in 9 real) five ∷ [])
    ≡ refused Misfit ∷ refused Below ∷ sort bool ∷ sort bool ∷ refused Misfit ∷ []
unfolding checks
without-sort = refl

without-sort-refused : taken 1 (
    record { of = equal (equal five half) (equal five five); to = equal (stand_in 9 bool) (equal five five) }
    ∷ record { of = equal five five; to = equal (stand_in 9 real) five } ∷ [])
    ≡ false ∷ false ∷ []
unfolding taken
without-sort-refused = refl

-- The variable has the part's inferred sort, and the part has no checked one: an IntDiv of an Int and a Real is inferred Int and checked 26, so
-- what stands over it is 20, and its abstraction Bool.
abbrev pub divided : Term
divided = term 7 0 13 bool (five also half also stop) [] [] stop

inferred-sort : (infer divided ≡ sort int) × (checks (divided ∷ equal divided five ∷ equal (stand_in 9 int) five ∷ []) ≡ refused Misfit ∷ refused Below ∷ sort bool ∷ [])
unfolding infer checks
inferred-sort = (refl, refl)

-- An index that is an integer constant: 25. Its own sort is Int, and so is the variable's.
lost-index :
    checks (extended five bits ∷ extended (stand_in 9 int) bits ∷ extended five (stand_in 9 (bitvec 8)) ∷ [])
    ≡ sort (bitvec 13) ∷ refused Count ∷ sort (bitvec 13) ∷ []
unfolding checks
lost-index = refl

lost-index-refused : taken 1 (record { of = extended five bits; to = extended (stand_in 9 int) bits } ∷ []) ≡ false ∷ []
unfolding taken
lost-index-refused = refl

-- Ranks that are not sound, here one whose result is Type, give a part a sort that no Var may carry: 28.
abbrev pub unsound : ℕ → List Rank
unsound n = rank true false (var 1 then end) type ∷ []

barred-sort : (check unsound (equal five five) ≡ sort type) × (check unsound (stand_in 9 type) ≡ refused Barred)
unfolding check
barred-sort = (refl, refl)

---------------------------------------------------------------- the inferred sort
-- BvConst: its second argument, if it is an integer constant, writes the width, so none of its integer constants is replaced; an index of a
-- ParamOp; a part without a sort. A sort that no checked Var may carry will do.
inferred-constants :
    inferences (
    constant five five ∷ constant five (stand_in 9 int) ∷ extended five bits ∷ extended (stand_in 9 int) bits
    ∷ extended five (app five five) ∷ app five five ∷ extended five (stand_in 9 (bitvec 8))
    ∷ extended five (constant five (stand_in 9 int)) ∷ extended five (stand_in 9 param_bit_vec) ∷ [])
    ≡ sort (bitvec 5) ∷ sort param_bit_vec ∷ sort (bitvec 13) ∷ sort param_bit_vec
    ∷ refused Below ∷ refused Panics ∷ sort (bitvec 13)
    ∷ sort param_bit_vec ∷ sort param_bit_vec ∷ []
unfolding inferences
inferred-constants = refl

inferred-refused : taken 0 (
    record { of = constant five five; to = constant five (stand_in 9 int) }
    ∷ record { of = extended five bits; to = extended (stand_in 9 int) bits }
    ∷ record { of = extended five (app five five); to = extended five (stand_in 9 (bitvec 8)) }
    ∷ record { of = extended five (constant five (stand_in 9 int)); to = extended five (stand_in 9 param_bit_vec) } ∷ [])
    ≡ false ∷ false ∷ false ∷ true ∷ []
unfolding taken
inferred-refused = refl

-- The checked column does not look at BvConst's arguments: it has no rank, whatever they are.
checked-constants : checks (constant five five ∷ constant five (stand_in 9 int) ∷ []) ≡ refused NoRank ∷ refused NoRank ∷ []
unfolding checks
checked-constants = refl

---------------------------------------------------------------- names
-- New names that make two sorts one: 26 goes. New names that 0 does not keep: '?, the sort of a RareList of none, is not renamed.
abbrev pub apart : Term
apart = equal (stand_in 8 (node 1 1 0 end)) (stand_in 9 (node 1 2 0 end))

merged-names : (check smt_lib apart ≡ refused Misfit) × (check smt_lib (renamed_term (λ n. 0) apart) ≡ sort bool)
unfolding check smt_lib renamed_term
merged-names = (refl, refl)

abbrev pub empty-list : Term
empty-list = term 7 0 115 bool stop [] [] stop

moved-zero : (infer (renamed_term suc empty-list) ≡ sort (var 0)) × (renamed_verdict suc (infer empty-list) ≡ sort (var 1))
unfolding infer renamed_term renamed
moved-zero = (refl, refl)
