-- The inferred sort of one record (Pool::compute_sort and compute_indexed_op_sort of pool/mod.rs, with overflow
-- checks), 21 where the Rust panics.
use Rattle.std.specs.Prelude.{ℕ, suc, ◌+◌, ◌*◌, ◌-◌, Bool, true, false, cond, ◌&&◌, ◌||◌, List, [], ◌∷◌, eqb, leb}
use Rattle.std.proofs.Math.Option.{Option, none, some}
use Rattle.record.specs.Sort.{Sort, Sorts, var, par, node, end, ◌then◌, function, bool, int, real, string, reglan, bitvec, param_bit_vec, set, tuple, kind_of, number_in, count, same}
use Rattle.sheet.specs.Sheet.{Binding}
use Rattle.substitution.specs.Substitution.{Map, empty, apply}
use Rattle.substitution.specs.MatchWith.{is_param_bit_vec, is_bit_vec, match_all_with}
use Rattle.row_rules.specs.declared.Cause.TheVariants.{Panics}
use Rattle.row_rules.specs.Verdict.{Verdict, sort, refused, need}
use Rattle.row_rules.specs.Lists.{firsts, others, remaining, last_of, joined, appended, binding_sorts, all_but_last}
use Rattle.row_rules.specs.Term.{Site, Term, verdict_of}
use Rattle.infer_rules.specs.declared.Family.{Family}
use Rattle.infer_rules.specs.declared.Family.TheVariants.{Truth, Integer, Decimal, Text, Regular, Vector, OneBit, Bits, Constant, Concat, First, Second, Last, Sum, Element, RareList, Singleton, Tuple, UnitTuple, Transpose, Join, Product}
use Rattle.infer_rules.specs.Family.{family_of}

---------------------------------------------------------------- operators
-- Sort::BitVec(_), a vector of known width.
abbrev pub has_width : Sort → Bool
has_width s = eqb (kind_of s) 9

-- "takes the first BitVec argument and looks no further, ParamBitVec if it meets none, and refuses another sort met before"
unfoldable pub first_vector : Sorts → Verdict
first_vector end = sort param_bit_vec
first_vector (s then ss) = cond (has_width s) (sort s) (cond (is_param_bit_vec s) (first_vector ss) (refused Panics))

-- BvConcat: all widths added up; ParamBitVec as soon as one is unknown; every argument is looked at.
unfoldable pub concat_unknown : Sorts → Verdict
concat_unknown end = sort param_bit_vec
concat_unknown (s then ss) = cond (is_bit_vec s) (concat_unknown ss) (refused Panics)

unfoldable pub concat_from : ℕ → Sorts → Verdict
unfolding concat_unknown
concat_from w end = sort (bitvec w)
concat_from w (s then ss) =
    cond (has_width s) (concat_from (w + number_in s) ss) (cond (is_param_bit_vec s) (concat_unknown ss) (refused Panics))

-- args[0], args[1], args.last(): a panic where there is none.
abbrev pub first_of : Sorts → Verdict
first_of end = refused Panics
first_of (s then ss) = sort s

abbrev pub second_of : Sorts → Verdict
second_of end = refused Panics
second_of (s then end) = refused Panics
second_of (s then (t then ss)) = sort t

abbrev pub final_of : Sorts → Verdict
final_of end = refused Panics
final_of (s then ss) = sort (last_of s ss)

-- BvConst: the width that the second argument writes, ParamBitVec if it is no integer constant.
abbrev pub constant_width : List (Option ℕ) → Verdict
constant_width [] = refused Panics
constant_width (c ∷ []) = refused Panics
constant_width (c ∷ (none ∷ cs)) = sort param_bit_vec
constant_width (c ∷ (some w ∷ cs)) = sort (bitvec w)

-- Add, Sub, Mult: Real if some argument is Real, else Int.
unfoldable pub some_real : Sorts → Bool
unfolding same
some_real end = false
some_real (s then ss) = same s real || some_real ss

abbrev pub sum_of : Bool → Verdict
sum_of true = sort real
sum_of false = sort int

-- Select: the second part of an Array.
abbrev pub element_of : Sort → Verdict
element_of (var v) = refused Panics
element_of (par ns b) = refused Panics
element_of (node k a w end) = refused Panics
element_of (node k a w (x then end)) = refused Panics
element_of (node k a w (x then (y then ss))) = cond (eqb k 8) (sort y) (refused Panics)

-- RareList: "For empty lists, we can't know the element sort, so we use a placeholder variable sort `?`".
abbrev pub rare_of : Sorts → Verdict
rare_of end = sort (var 0)
rare_of (s then ss) = sort s

-- The columns of a relation, a Set of a Tuple.
abbrev pub columns : Sort → Option Sorts
columns (var v) = none
columns (par ns b) = none
columns (node k a w end) = none
columns (node k a w (var v then ss)) = none
columns (node k a w (par ns b then ss)) = none
columns (node k a w (node l c x cs then ss)) = cond (eqb k 14 && eqb l 15) (some cs) none

abbrev pub relation : Sorts → Verdict
relation cs = sort (set (tuple cs))

unfoldable pub backwards : Sorts → Sorts → Sorts
backwards end acc = acc
backwards (s then ss) acc = backwards ss (s then acc)

-- left.pop() drops the last column of the left side, if there is one; right[1..] the first of the right side, a panic
-- if there is none.
abbrev pub join_of : Sorts → Sorts → Verdict
join_of xs end = refused Panics
join_of xs (y then ys) = relation (appended (all_but_last xs) ys)

abbrev pub product_of : Sorts → Sorts → Verdict
product_of xs ys = relation (appended xs ys)

abbrev pub over_columns : (Sorts → Verdict) → Option Sorts → Verdict
over_columns f none = refused Panics
over_columns f (some cs) = f cs

abbrev pub over_both : (Sorts → Sorts → Verdict) → Sorts → Verdict
over_both f end = refused Panics
over_both f (a then end) = refused Panics
over_both f (a then (b then ss)) = over_columns (λ xs. over_columns (λ ys. f xs ys) (columns b)) (columns a)

abbrev pub transpose_of : Sorts → Verdict
transpose_of end = refused Panics
transpose_of (a then ss) = over_columns (λ xs. relation (backwards xs end)) (columns a)

abbrev pub selected : Sorts → Verdict
selected end = refused Panics
selected (a then ss) = element_of a

abbrev pub singleton_of : Sorts → Verdict
singleton_of end = refused Panics
singleton_of (a then ss) = sort (set a)

-- WHAT EACH FAMILY OF OPERATORS ANSWERS, from the sorts of its arguments and the integer constants among them.
unfoldable pub operated_by : Family → Sorts → List (Option ℕ) → Verdict
unfolding first_vector concat_from some_real last_of appended backwards all_but_last count
operated_by Truth ss cs = sort bool
operated_by Integer ss cs = sort int
operated_by Decimal ss cs = sort real
operated_by Text ss cs = sort string
operated_by Regular ss cs = sort reglan
operated_by Vector ss cs = first_vector ss
operated_by OneBit ss cs = sort (bitvec 1)
operated_by Bits ss cs = sort (bitvec (count ss))
operated_by Constant ss cs = constant_width cs
operated_by Concat ss cs = concat_from 0 ss
operated_by First ss cs = first_of ss
operated_by Second ss cs = second_of ss
operated_by Last ss cs = final_of ss
operated_by Sum ss cs = sum_of (some_real ss)
operated_by Element ss cs = selected ss
operated_by RareList ss cs = rare_of ss
operated_by Singleton ss cs = singleton_of ss
operated_by Tuple ss cs = sort (tuple ss)
operated_by UnitTuple ss cs = sort (tuple end)
operated_by Transpose ss cs = transpose_of ss
operated_by Join ss cs = over_both join_of ss
operated_by Product ss cs = over_both product_of ss

---------------------------------------------------------------- App
abbrev pub substituted : Sort → Option Map → Verdict
substituted r none = refused Panics
substituted r (some m) = sort (apply m r)

-- A Function's list at arguments: "sorts[args.len()..]" panics past the end; the arguments of a plain head are not compared.
unfoldable pub plain_app : Sorts → Sorts → Verdict
unfolding count others
plain_app ss ts = need (leb (count ts) (count ss)) Panics (sort (remaining (others ss ts)))

-- Under a Par each argument is matched by match_with, from an empty map, and the map applied to what remains.
unfoldable pub parametric_app : List ℕ → Sorts → Sorts → Verdict
unfolding count firsts others match_all_with apply
parametric_app ns ss ts =
    need (leb (count ts) (count ss)) Panics (substituted (remaining (others ss ts)) (match_all_with ns (firsts ss ts) ts empty))

-- The head is a Function, or a Par directly over one.
abbrev pub head_app : Sort → Sorts → Verdict
head_app (var v) ts = refused Panics
head_app (par ns (var v)) ts = refused Panics
head_app (par ns (par ms b)) ts = refused Panics
head_app (par ns (node k a w ss)) ts = cond (eqb k 0) (parametric_app ns ss ts) (refused Panics)
head_app (node k a w ss) ts = cond (eqb k 0) (plain_app ss ts) (refused Panics)

abbrev pub inferred_app : Sorts → Verdict
inferred_app end = refused Panics
inferred_app (h then ts) = head_app h ts

---------------------------------------------------------------- binders, Match
-- 0 Forall and 1 Exists give Bool, 2 Choice its first binding's sort, 3 Lambda the Function of its bindings' sorts and its body's.
abbrev pub chosen : List Binding → Verdict
chosen [] = refused Panics
chosen (b ∷ bs) = sort b.sort

abbrev pub inferred_lambda : List Binding → Sorts → Verdict
inferred_lambda bs end = refused Panics
inferred_lambda bs (b then ss) = sort (function (joined (binding_sorts bs) b))

unfoldable pub inferred_binder : ℕ → List Binding → Sorts → Verdict
unfolding joined binding_sorts
inferred_binder n bs ss = cond (eqb n 3) (inferred_lambda bs ss) (cond (eqb n 2) (chosen bs) (sort bool))

-- The last body: the subject alone has none.
abbrev pub matched : Sorts → Verdict
matched end = refused Panics
matched (s then bodies) = final_of bodies

---------------------------------------------------------------- indexed operators
-- BvExtract: the first index, then the second; ParamBitVec as soon as one is no integer; "i - j + 1" with overflow checks.
abbrev pub extracted : List (Option ℕ) → Verdict
extracted [] = refused Panics
extracted (none ∷ is) = sort param_bit_vec
extracted (some i ∷ []) = refused Panics
extracted (some i ∷ (none ∷ is)) = sort param_bit_vec
extracted (some i ∷ (some j ∷ is)) = need (leb j i) Panics (sort (bitvec (suc (i - j))))

-- A new width from the first index and the width of the first argument.
abbrev pub resized_of : (ℕ → ℕ) → Sorts → Verdict
resized_of f end = refused Panics
resized_of f (a then ss) = cond (has_width a) (sort (bitvec (f (number_in a)))) (cond (is_param_bit_vec a) (sort param_bit_vec) (refused Panics))

abbrev pub resized : (ℕ → ℕ → ℕ) → List (Option ℕ) → Sorts → Verdict
resized f [] ss = refused Panics
resized f (none ∷ is) ss = sort param_bit_vec
resized f (some i ∷ is) ss = resized_of (λ w. f i w) ss

-- IntToBv: the index is the width.
abbrev pub width_of : List (Option ℕ) → Verdict
width_of [] = refused Panics
width_of (none ∷ is) = sort param_bit_vec
width_of (some w ∷ is) = sort (bitvec w)

-- 0 BvExtract, 1 BvBitOf, 2 BvIntOf, 3 ZeroExtend, 4 SignExtend, 5 RotateLeft, 6 RotateRight, 7 Repeat, 8 BvConst (always a
-- panic), 9 IntToBv, 10 RePower, 11 ReLoop.
unfoldable pub indexed : ℕ → List (Option ℕ) → Sorts → Verdict
indexed n is ss =
    cond (eqb n 0) (extracted is)
    (cond (eqb n 1) (sort bool)
    (cond (eqb n 2) (sort int)
    (cond (eqb n 3 || eqb n 4) (resized (λ i w. i + w) is ss)
    (cond (eqb n 5 || eqb n 6) (first_of ss)
    (cond (eqb n 7) (resized (λ i w. i * w) is ss)
    (cond (eqb n 9) (width_of is)
    (cond (eqb n 10 || eqb n 11) (sort reglan)
    (refused Panics))))))))

---------------------------------------------------------------- the verdict
-- THE INFERRED VERDICT ON ONE RECORD, by its kind: 0 integer, 1 real, 2 string, 3 RegLan constant, 4 bit-vector constant, 5 Var,
-- 6 App, 7 Op, 8 Binder, 9 Let, 10 Match, 11 ParamOp, 12 AsOp.
unfoldable pub inferred : Site → Verdict
unfolding operated_by family_of plain_app parametric_app inferred_binder indexed last_of
inferred z =
    cond (eqb z.kind 0) (sort int)
    (cond (eqb z.kind 1) (sort real)
    (cond (eqb z.kind 2) (sort string)
    (cond (eqb z.kind 3) (sort reglan)
    (cond (eqb z.kind 4) (sort (bitvec z.number))
    (cond (eqb z.kind 5) (sort z.own)
    (cond (eqb z.kind 6) (inferred_app z.args)
    (cond (eqb z.kind 7) (operated_by (family_of z.number) z.args z.constants)
    (cond (eqb z.kind 8) (inferred_binder z.number z.bindings z.args)
    (cond (eqb z.kind 9) (final_of z.args)
    (cond (eqb z.kind 10) (matched z.args)
    (cond (eqb z.kind 11) (indexed z.number z.indices z.args)
    (sort z.own))))))))))))

-- The inferred sort of a tree.
unfoldable pub infer : Term → Verdict
unfolding verdict_of inferred
infer t = verdict_of inferred t
