-- Laws of the numbers of the kinds: no two kinds of sorts and no two operators with indices have the same, and a kind that is found by a
-- number has it.
use Rattle.std.specs.Prelude.{◌≡◌, ℕ, zero, suc, ◌+◌, refl, Bool, true, false, ◌&&◌, T, eqb, List, [], ◌∷◌, Some, slice_get}
use Rattle.std.proofs.Common.{sym, ap, ◌∙◌, arith, eqb-true}
use Rattle.record.specs.Kinds.{sort_number, sort_kinds, sort_kind, term_number, term_kinds, term_kind, param_number, param_kind, question_number, question_kinds, question_kind}
use Rattle.record.specs.declared.kinds.SortKind.{SortKind}
use Rattle.record.specs.declared.kinds.SortKind.TheVariants.{Function as SortFunction, Atom as SortAtom, Var as SortVar, Bool as SortBool, Int as SortInt, Real as SortReal, String as SortString, RegLan as SortRegLan, Array as SortArray, BitVec as SortBitVec, ParamBitVec as SortParamBitVec, Datatype as SortDatatype, Par as SortPar, «Type» as SortType, Set as SortSet, Tuple as SortTuple}
use Rattle.record.specs.declared.kinds.TermKind.{TermKind}
use Rattle.record.specs.declared.kinds.ParamOp.{ParamOp}
use Rattle.record.specs.declared.kinds.ParamOp.TheVariants.{Extract as ParamExtract, BitOf as ParamBitOf, IntOf as ParamIntOf, ZeroExtend as ParamZeroExtend, SignExtend as ParamSignExtend, RotateLeft as ParamRotateLeft, RotateRight as ParamRotateRight, Repeat as ParamRepeat, BvConst as ParamBvConst, IntToBv as ParamIntToBv, RePower as ParamRePower, ReLoop as ParamReLoop}
use Rattle.record.specs.declared.kinds.QuestionKind.{QuestionKind}

some-same : {A : Type 0} {a b : A} → Some a ≡ Some b → a ≡ b
some-same e = cc

-- Whether the elements of a list have the numbers from i on, and that the one at a place then has it.
abbrev counts : {A : Type 0} → (A → ℕ) → ℕ → List A → Bool
counts f i [] = true
counts f i (x ∷ xs) = eqb (f x) i && counts f (suc i) xs

first-true : (a b : Bool) → T (a && b) → a ≡ true
first-true true b t = refl
first-true false b t = absurd t

rest-true : (a b : Bool) → T (a && b) → T b
rest-true true b t = t
rest-true false b t = absurd t

get-counted : {A : Type 0} (f : A → ℕ) (i : ℕ) (xs : List A) (n : ℕ) (k : A) → T (counts f i xs) → slice_get xs n ≡ Some k → i + n ≡ f k
get-counted f i [] n k t e = let z : ◌≡◌ {A = ℕ} 0 1 = cc in absurd (omega arith)
get-counted f i (x ∷ xs) zero k t e = omega (arith, ap f (some-same e), eqb-true (f x) i (first-true (eqb (f x) i) (counts f (suc i) xs) t))
get-counted f i (x ∷ xs) (suc n) k t e = omega (arith, get-counted f (suc i) xs n k (rest-true (eqb (f x) i) (counts f (suc i) xs) t) e)

pub sort_kind-number : (k : SortKind) → sort_kind (sort_number k) ≡ Some k
sort_kind-number SortFunction = refl
sort_kind-number SortAtom = refl
sort_kind-number SortVar = refl
sort_kind-number SortBool = refl
sort_kind-number SortInt = refl
sort_kind-number SortReal = refl
sort_kind-number SortString = refl
sort_kind-number SortRegLan = refl
sort_kind-number SortArray = refl
sort_kind-number SortBitVec = refl
sort_kind-number SortParamBitVec = refl
sort_kind-number SortDatatype = refl
sort_kind-number SortPar = refl
sort_kind-number SortType = refl
sort_kind-number SortSet = refl
sort_kind-number SortTuple = refl

pub sort_number-same : (j k : SortKind) → sort_number j ≡ sort_number k → j ≡ k
sort_number-same j k e = some-same (sym (sort_kind-number j) ∙ ap sort_kind e ∙ sort_kind-number k)

pub sort_kind-found : (n : ℕ) (k : SortKind) → sort_kind n ≡ Some k → n ≡ sort_number k
sort_kind-found n k e = omega (arith, get-counted sort_number 0 sort_kinds n k tt e)

pub term_kind-found : (n : ℕ) (k : TermKind) → term_kind n ≡ Some k → n ≡ term_number k
term_kind-found n k e = omega (arith, get-counted term_number 0 term_kinds n k tt e)

pub param_kind-number : (k : ParamOp) → param_kind (param_number k) ≡ Some k
param_kind-number ParamExtract = refl
param_kind-number ParamBitOf = refl
param_kind-number ParamIntOf = refl
param_kind-number ParamZeroExtend = refl
param_kind-number ParamSignExtend = refl
param_kind-number ParamRotateLeft = refl
param_kind-number ParamRotateRight = refl
param_kind-number ParamRepeat = refl
param_kind-number ParamBvConst = refl
param_kind-number ParamIntToBv = refl
param_kind-number ParamRePower = refl
param_kind-number ParamReLoop = refl

pub param_number-same : (j k : ParamOp) → param_number j ≡ param_number k → j ≡ k
param_number-same j k e = some-same (sym (param_kind-number j) ∙ ap param_kind e ∙ param_kind-number k)

pub question_kind-found : (n : ℕ) (k : QuestionKind) → question_kind n ≡ Some k → n ≡ question_number k
question_kind-found n k e = omega (arith, get-counted question_number 0 question_kinds n k tt e)
