-- The checked sort of one record (document 01, "Checked", and what A.2 says of SetEmpty and SetUniverse), with its causes in the order 20, 24, 28, 25, 26, 27. The ranks are a
-- parameter R; those of the table are `smt_lib`.
use Rattle.std.specs.Prelude.{ℕ, suc, ◌+◌, ◌*◌, ◌-◌, Bool, true, false, not, cond, ◌&&◌, ◌||◌, List, [], ◌∷◌, eqb, leb, ltb}
use Rattle.std.proofs.Math.Option.{Option, none, some}
use Rattle.record.specs.Names.{member}
use Rattle.record.specs.Sort.{Sort, Sorts, var, par, node, end, ◌then◌, function, bool, int, real, string, reglan, array, bitvec, number_in, count, same, set}
use Rattle.substitution.specs.Substitution.{Map, empty, find, bound, apply}
use Rattle.substitution.specs.Matching.{matches_all}
use Rattle.substitution.specs.Premises.{proper, proper_all}
use Rattle.row_rules.specs.declared.Cause.TheVariants.{NoRank, Count, Misfit, Unassigned, Barred}
use Rattle.row_rules.specs.Verdict.{Verdict, sort, refused, need, or_cause}
use Rattle.row_rules.specs.Lists.{firsts, others, remaining, last_of, joined, binding_sorts}
use Rattle.row_rules.specs.Term.{Site, Term, verdict_of}
use Rattle.check_rules.specs.Rank.{Rank, vector, first_fit, some_counts}
use Rattle.check_rules.specs.Forms.{element_of}

---------------------------------------------------------------- Par-sorted variables
-- The sort that a Var may carry: "A Par sort may stand only outermost in a Var's sort, over a Function"; no Type, ParamBitVec or
-- BitVec 0 inside.
abbrev pub carried : Sort → Bool
carried (var v) = true
carried (par [] b) = false
carried (par (n ∷ ns) (var v)) = false
carried (par (n ∷ ns) (par ms b)) = false
carried (par (n ∷ ns) (node k a w ss)) = eqb k 0 && proper (node k a w ss)
carried (node k a w ss) = proper (node k a w ss)

-- "such a Var as a value, a body or an argument other than an App's head gets 26"
abbrev pub value : Sort → Bool
value (var v) = true
value (par ns b) = false
value (node k a w ss) = true

unfoldable pub values : Sorts → Bool
values end = true
values (s then ss) = value s && values ss

---------------------------------------------------------------- App
-- The parameters of a head, and the list of its Function.
abbrev pub parameters : Sort → ℕ → Bool
parameters (var u) v = false
parameters (par ns b) v = member v ns
parameters (node k a w ss) v = false

abbrev pub function_list : Sort → Option Sorts
function_list (var u) = none
function_list (par ns (var u)) = none
function_list (par ns (par ms b)) = none
function_list (par ns (node k a w ss)) = cond (eqb k 0) (some ss) none
function_list (node k a w ss) = cond (eqb k 0) (some ss) none

-- Every parameter left in the result is assigned. It is judged on the parameters, before images are put in: "A variable in an
-- argument's sort is never the head's parameter."
unfoldable mutual
  unfolding find

  pub settled : (ℕ → Bool) → Map → Sort → Bool
  settled listed m (var v) = not (listed v) || bound m v
  settled listed m (par ns b) = settled listed m b
  settled listed m (node k a w ss) = settled_all listed m ss

  pub settled_all : (ℕ → Bool) → Map → Sorts → Bool
  settled_all listed m end = true
  settled_all listed m (s then ss) = settled listed m s && settled_all listed m ss

-- 26 without an assignment, 27 where the result keeps an unassigned parameter.
abbrev pub delivered : (ℕ → Bool) → Sort → Option Map → Verdict
delivered listed r none = refused Misfit
delivered listed r (some m) = need (settled listed m r) Unassigned (sort (apply m r))

-- "App takes 1 to (length − 1) arguments; fewer than all give the remaining Function."
unfoldable pub called : (ℕ → Bool) → Option Sorts → Sorts → Verdict
unfolding count values firsts others matches_all settled apply
called listed none ts = refused Misfit
called listed (some ss) ts =
    need (ltb (count ts) (count ss)) Count
    (need (values ts) Misfit
    (delivered listed (remaining (others ss ts)) (matches_all listed (firsts ss ts) ts empty)))

-- "With no argument it gets 25 for any head."
unfoldable pub checked_app : Sorts → Verdict
unfolding called member
checked_app end = refused Count
checked_app (h then end) = refused Count
checked_app (h then (t then ts)) = called (λ v. parameters h v) (function_list h) (t then ts)

---------------------------------------------------------------- Op
abbrev pub nonempty : List Rank → Bool
nonempty [] = false
nonempty (r ∷ rs) = true

-- 24 without a rank, 25 where none has this count, 26 where none fits.
unfoldable pub ranked : List Rank → Sorts → Verdict
unfolding some_counts first_fit values
ranked rs ts = need (nonempty rs) NoRank (need (some_counts rs ts) Count (need (values ts) Misfit (or_cause (first_fit rs ts) Misfit)))

unfoldable pub operated : (ℕ → List Rank) → ℕ → Sorts → Verdict
unfolding ranked
operated R n ts = ranked (R n) ts

---------------------------------------------------------------- Binder, Let
-- "Quantifiers and Choice have a Bool body, Choice one binding, quantifiers, Lambda and Let one or more"; "Lambda gives its
-- bindings' sorts, then its body's sort as one entry." 0 Forall, 1 Exists, 2 Choice, 3 Lambda.
abbrev pub only_of : Sorts → Sort
only_of end = bool
only_of (s then ss) = s

abbrev pub bound_body : ℕ → Sorts → Sorts → Verdict
bound_body n bs end = refused Count
bound_body n bs (b then (c then cs)) = refused Count
bound_body n bs (b then end) =
    cond (eqb n 3) (need (ltb 0 (count bs)) Count (need (value b) Misfit (sort (function (joined bs b)))))
    (cond (eqb n 2) (need (eqb (count bs) 1) Count (need (same b bool) Misfit (sort (only_of bs))))
    (need (ltb 0 (count bs)) Count (need (same b bool) Misfit (sort bool))))

unfoldable pub binder : ℕ → Sorts → Sorts → Verdict
unfolding proper count joined same
binder n bs ts = need (proper_all bs) Barred (bound_body n bs ts)

-- Let: its values, then its inner term, whose sort it has.
abbrev pub inner_of : Sorts → Verdict
inner_of end = refused Count
inner_of (s then ss) = sort (last_of s ss)

unfoldable pub letting : Sorts → Verdict
unfolding count values last_of
letting ts = need (ltb 1 (count ts)) Count (need (values ts) Misfit (inner_of ts))

---------------------------------------------------------------- ParamOp
-- A vector of a new width: 25 where an index is out of range, 26 where the argument is no vector.
abbrev pub new_width : Bool → Sort → ℕ → Verdict
new_width fits a w = need fits Count (need (vector a) Misfit (sort (bitvec w)))

-- One index: 3 ZeroExtend, 4 SignExtend, 5 RotateLeft, 6 RotateRight, 7 Repeat, 9 IntToBv ("index at least 1"), 10 RePower.
abbrev pub indexed₁ : ℕ → ℕ → Sort → Verdict
indexed₁ n i a =
    cond (eqb n 3 || eqb n 4) (new_width true a (number_in a + i))
    (cond (eqb n 5 || eqb n 6) (new_width true a (number_in a))
    (cond (eqb n 7) (new_width (ltb 0 i) a (i * number_in a))
    (cond (eqb n 9) (need (ltb 0 i) Count (need (same a int) Misfit (sort (bitvec i))))
    (cond (eqb n 10) (need (same a reglan) Misfit (sort reglan))
    (refused Count)))))

-- Two indices: 0 Extract i, j, "j ≤ i < width; the width is judged only of a vector"; 11 ReLoop.
abbrev pub indexed₂ : ℕ → ℕ → ℕ → Sort → Verdict
indexed₂ n i j a =
    cond (eqb n 0) (new_width (leb j i && (not (vector a) || ltb i (number_in a))) a (suc (i - j)))
    (cond (eqb n 11) (need (same a reglan) Misfit (sort reglan))
    (refused Count))

-- Each index an integer constant, and as many as the operator takes, else 25.
abbrev pub indexed_by : ℕ → List (Option ℕ) → Sort → Verdict
indexed_by n [] a = refused Count
indexed_by n (none ∷ is) a = refused Count
indexed_by n (some i ∷ []) a = indexed₁ n i a
indexed_by n (some i ∷ (none ∷ is)) a = refused Count
indexed_by n (some i ∷ (some j ∷ [])) a = indexed₂ n i j a
indexed_by n (some i ∷ (some j ∷ (k ∷ is))) a = refused Count

-- One argument each.
abbrev pub indexed_on : ℕ → List (Option ℕ) → Sorts → Verdict
indexed_on n is end = refused Count
indexed_on n is (a then end) = indexed_by n is a
indexed_on n is (a then (b then bs)) = refused Count

-- "Unranked: .. ParamOp 1, 2 and 8": BvBitOf, BvIntOf, BvConst.
unfoldable pub indexing : ℕ → List (Option ℕ) → Sorts → Verdict
unfolding same
indexing n is ts = need (not (eqb n 1 || eqb n 2 || eqb n 8)) NoRank (indexed_on n is ts)

---------------------------------------------------------------- AsOp
-- "(as const): sort Array, one argument of its element sort."
abbrev pub constant_array : Sort → Sorts → Verdict
constant_array s end = refused Count
constant_array s (a then (b then bs)) = refused Count
constant_array (var v) (a then end) = refused Misfit
constant_array (par ns b) (a then end) = refused Misfit
constant_array (node k n w end) (a then end) = refused Misfit
constant_array (node k n w (i then end)) (a then end) = refused Misfit
constant_array (node k n w (i then (e then end))) (a then end) =
    need (same (node k n w (i then e then end)) (array i e) && same a e) Misfit (sort (array i e))
constant_array (node k n w (i then (e then (r then rs)))) (a then end) = refused Misfit

-- "SetEmpty and SetUniverse take no argument and a Set sort; another sort is 26."
abbrev pub whole_set : Sort → Sorts → Verdict
whole_set s (a then as') = refused Count
whole_set s end = need (same s (set (element_of s))) Misfit (sort s)

-- 0 Const, 1 SetEmpty, 2 SetUniverse; no sheet has another.
unfoldable pub qualified : ℕ → Sort → Sorts → Verdict
unfolding proper same
qualified n s ts = need (leb n 2) NoRank (need (proper s) Barred (cond (eqb n 0) (constant_array s ts) (whole_set s ts)))

---------------------------------------------------------------- the verdict
-- THE CHECKED VERDICT ON ONE RECORD, by its kind: 0 integer, 1 real, 2 string, 3 RegLan constant, 4 bit-vector constant, 5 Var,
-- 6 App, 7 Op, 8 Binder, 9 Let, 10 Match (unranked), 11 ParamOp, 12 AsOp.
unfoldable pub checked : (ℕ → List Rank) → Site → Verdict
unfolding checked_app operated binder letting indexing qualified proper binding_sorts
checked R z =
    cond (eqb z.kind 0) (sort int)
    (cond (eqb z.kind 1) (sort real)
    (cond (eqb z.kind 2) (sort string)
    (cond (eqb z.kind 3) (sort reglan)
    (cond (eqb z.kind 4) (need (not (eqb z.number 0)) Barred (sort (bitvec z.number)))
    (cond (eqb z.kind 5) (need (carried z.own) Barred (sort z.own))
    (cond (eqb z.kind 6) (checked_app z.args)
    (cond (eqb z.kind 7) (operated R z.number z.args)
    (cond (eqb z.kind 8) (binder z.number (binding_sorts z.bindings) z.args)
    (cond (eqb z.kind 9) (letting z.args)
    (cond (eqb z.kind 11) (indexing z.number z.indices z.args)
    (cond (eqb z.kind 12) (qualified z.number z.own z.args)
    (refused NoRank))))))))))))

-- The checked sort of a tree.
unfoldable pub check : (ℕ → List Rank) → Term → Verdict
unfolding verdict_of checked
check R t = verdict_of (checked R) t
