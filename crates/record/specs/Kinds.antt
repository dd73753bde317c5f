-- The numbers of the kinds, as they stand in a record: `K_number` is `kind as usize`, and `KDecodes n r` says that r is the kind with the
-- number n, or the error where n is none's. Where definitions ask for it, `K_kind` is the kind with a number, if any.
use Rattle.std.specs.Prelude.{◌≡◌, ℕ, ◌≤◌, List, [], ◌∷◌, Option, Result, MatchResult, slice_get}
use Rattle.record.specs.declared.kinds.UnknownKind.{UnknownKind}
use Rattle.record.specs.declared.kinds.SortKind.{SortKind}
use Rattle.record.specs.declared.kinds.SortKind.TheVariants.{Function as SortFunction, Atom as SortAtom, Var as SortVar, Bool as SortBool, Int as SortInt, Real as SortReal, String as SortString, RegLan as SortRegLan, Array as SortArray, BitVec as SortBitVec, ParamBitVec as SortParamBitVec, Datatype as SortDatatype, Par as SortPar, «Type» as SortType, Set as SortSet, Tuple as SortTuple}
use Rattle.record.specs.declared.kinds.TermKind.{TermKind}
use Rattle.record.specs.declared.kinds.TermKind.TheVariants.{Integer as TermInteger, Real as TermReal, String as TermString, RegLan as TermRegLan, BitVector as TermBitVector, Var as TermVar, App as TermApp, Op as TermOp, Binder as TermBinder, Let as TermLet, Match as TermMatch, ParamOp as TermParamOp, AsOp as TermAsOp}
use Rattle.record.specs.declared.kinds.Binder.{Binder}
use Rattle.record.specs.declared.kinds.Binder.TheVariants.{Forall as BinderForall, Exists as BinderExists, Choice as BinderChoice, Lambda as BinderLambda}
use Rattle.record.specs.declared.kinds.AsOp.{AsOp}
use Rattle.record.specs.declared.kinds.AsOp.TheVariants.{Const as AsConst, SetEmpty as AsSetEmpty, SetUniverse as AsSetUniverse}
use Rattle.record.specs.declared.kinds.ParamOp.{ParamOp}
use Rattle.record.specs.declared.kinds.ParamOp.TheVariants.{Extract as ParamExtract, BitOf as ParamBitOf, IntOf as ParamIntOf, ZeroExtend as ParamZeroExtend, SignExtend as ParamSignExtend, RotateLeft as ParamRotateLeft, RotateRight as ParamRotateRight, Repeat as ParamRepeat, BvConst as ParamBvConst, IntToBv as ParamIntToBv, RePower as ParamRePower, ReLoop as ParamReLoop}
use Rattle.record.specs.declared.kinds.QuestionKind.{QuestionKind}
use Rattle.record.specs.declared.kinds.QuestionKind.TheVariants.{Compatible as QuestionCompatible, Match as QuestionMatch, Apply as QuestionApply, Continue as QuestionContinue}

abbrev pub sort_number : SortKind → ℕ
sort_number SortFunction = 0
sort_number SortAtom = 1
sort_number SortVar = 2
sort_number SortBool = 3
sort_number SortInt = 4
sort_number SortReal = 5
sort_number SortString = 6
sort_number SortRegLan = 7
sort_number SortArray = 8
sort_number SortBitVec = 9
sort_number SortParamBitVec = 10
sort_number SortDatatype = 11
sort_number SortPar = 12
sort_number SortType = 13
sort_number SortSet = 14
sort_number SortTuple = 15

abbrev pub sort_kinds : List SortKind
sort_kinds = SortFunction ∷ SortAtom ∷ SortVar ∷ SortBool ∷ SortInt ∷ SortReal ∷ SortString ∷ SortRegLan ∷ SortArray ∷ SortBitVec ∷ SortParamBitVec ∷ SortDatatype ∷ SortPar ∷ SortType ∷ SortSet ∷ SortTuple ∷ []

abbrev pub sort_kind : ℕ → Option SortKind
sort_kind n = slice_get sort_kinds n

abbrev pub SortDecodes : ℕ → Result SortKind UnknownKind → Type 0
SortDecodes n r = MatchResult r (λ k. sort_number k ≡ n) (λ e. (e.0 ≡ n) × (16 ≤ n))

abbrev pub term_number : TermKind → ℕ
term_number TermInteger = 0
term_number TermReal = 1
term_number TermString = 2
term_number TermRegLan = 3
term_number TermBitVector = 4
term_number TermVar = 5
term_number TermApp = 6
term_number TermOp = 7
term_number TermBinder = 8
term_number TermLet = 9
term_number TermMatch = 10
term_number TermParamOp = 11
term_number TermAsOp = 12

abbrev pub term_kinds : List TermKind
term_kinds = TermInteger ∷ TermReal ∷ TermString ∷ TermRegLan ∷ TermBitVector ∷ TermVar ∷ TermApp ∷ TermOp ∷ TermBinder ∷ TermLet ∷ TermMatch ∷ TermParamOp ∷ TermAsOp ∷ []

abbrev pub term_kind : ℕ → Option TermKind
term_kind n = slice_get term_kinds n

abbrev pub TermDecodes : ℕ → Result TermKind UnknownKind → Type 0
TermDecodes n r = MatchResult r (λ k. term_number k ≡ n) (λ e. (e.0 ≡ n) × (13 ≤ n))

abbrev pub binder_number : Binder → ℕ
binder_number BinderForall = 0
binder_number BinderExists = 1
binder_number BinderChoice = 2
binder_number BinderLambda = 3

abbrev pub BinderDecodes : ℕ → Result Binder UnknownKind → Type 0
BinderDecodes n r = MatchResult r (λ k. binder_number k ≡ n) (λ e. (e.0 ≡ n) × (4 ≤ n))

abbrev pub as_number : AsOp → ℕ
as_number AsConst = 0
as_number AsSetEmpty = 1
as_number AsSetUniverse = 2

abbrev pub AsDecodes : ℕ → Result AsOp UnknownKind → Type 0
AsDecodes n r = MatchResult r (λ k. as_number k ≡ n) (λ e. (e.0 ≡ n) × (3 ≤ n))

abbrev pub param_number : ParamOp → ℕ
param_number ParamExtract = 0
param_number ParamBitOf = 1
param_number ParamIntOf = 2
param_number ParamZeroExtend = 3
param_number ParamSignExtend = 4
param_number ParamRotateLeft = 5
param_number ParamRotateRight = 6
param_number ParamRepeat = 7
param_number ParamBvConst = 8
param_number ParamIntToBv = 9
param_number ParamRePower = 10
param_number ParamReLoop = 11

abbrev pub param_kinds : List ParamOp
param_kinds = ParamExtract ∷ ParamBitOf ∷ ParamIntOf ∷ ParamZeroExtend ∷ ParamSignExtend ∷ ParamRotateLeft ∷ ParamRotateRight ∷ ParamRepeat ∷ ParamBvConst ∷ ParamIntToBv ∷ ParamRePower ∷ ParamReLoop ∷ []

abbrev pub param_kind : ℕ → Option ParamOp
param_kind n = slice_get param_kinds n

abbrev pub ParamDecodes : ℕ → Result ParamOp UnknownKind → Type 0
ParamDecodes n r = MatchResult r (λ k. param_number k ≡ n) (λ e. (e.0 ≡ n) × (12 ≤ n))

abbrev pub question_number : QuestionKind → ℕ
question_number QuestionCompatible = 0
question_number QuestionMatch = 1
question_number QuestionApply = 2
question_number QuestionContinue = 3

abbrev pub question_kinds : List QuestionKind
question_kinds = QuestionCompatible ∷ QuestionMatch ∷ QuestionApply ∷ QuestionContinue ∷ []

abbrev pub question_kind : ℕ → Option QuestionKind
question_kind n = slice_get question_kinds n

abbrev pub QuestionDecodes : ℕ → Result QuestionKind UnknownKind → Type 0
QuestionDecodes n r = MatchResult r (λ k. question_number k ≡ n) (λ e. (e.0 ≡ n) × (4 ≤ n))
