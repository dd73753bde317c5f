-- Examples of the checked verdict that tell readings of document 01 apart, as tables: the terms beside their verdicts, each table
-- proved by computation.
use Rattle.std.specs.Prelude.{ℕ, ◌≡◌, refl, List, [], ◌∷◌}
use Rattle.record.specs.Sort.{tuple, Sort, Sorts, var, par, end, ◌then◌, function, bool, int, real, reglan, array, bitvec, type, set}
use Rattle.sheet.specs.Sheet.{Binding}
use Rattle.row_rules.specs.declared.Cause.TheVariants.{NoRank, Count, Misfit, Barred}
use Rattle.row_rules.specs.Verdict.{Verdict, sort, refused}
use Rattle.row_rules.specs.Term.{Term, Terms, term, stop, ◌also◌}
use Rattle.check_rules.specs.Ranks.{smt_lib}
use Rattle.check_rules.specs.Checked.{check}

---------------------------------------------------------------- terms, as document 01 names them
-- A Var of a sort, and one Var each of a list of sorts.
abbrev pub of : Sort → Term
of s = term 5 0 0 s stop [] [] stop

unfoldable pub each : Sorts → Terms
each end = stop
each (s then ss) = of s also each ss

-- App, the head's sort first; Op; ParamOp with integer constants as indices; AsOp.
abbrev pub app : Sorts → Term
app ss = term 6 0 0 bool (each ss) [] [] stop

abbrev pub op : ℕ → Sorts → Term
op n ss = term 7 0 n bool (each ss) [] [] stop

unfoldable pub constants : List ℕ → Terms
constants [] = stop
constants (n ∷ ns) = term 0 0 n bool stop [] [] stop also constants ns

abbrev pub param_op : ℕ → List ℕ → Sorts → Term
param_op n is ss = term 11 0 n bool (each ss) [] [] (constants is)

abbrev pub as_op : ℕ → Sort → Sorts → Term
as_op n s ss = term 12 0 n s (each ss) [] [] stop

-- Binder over names n1, n1, .. of these sorts, and Let.
unfoldable pub bindings : Sorts → List Binding
bindings end = []
bindings (s then ss) = record { name = 1; sort = s } ∷ bindings ss

abbrev pub bind₁ : ℕ → Sorts → Sort → Term
bind₁ n bs b = term 8 0 n bool (each (b then end)) (bindings bs) [] stop

abbrev pub let_in : Sorts → Term
let_in ss = term 9 0 0 bool (each ss) [] [] stop

unfoldable pub verdicts : List Term → List Verdict
unfolding check smt_lib each constants bindings
verdicts [] = []
verdicts (t ∷ ts) = check smt_lib t ∷ verdicts ts

-- (par (n1) (-> 'n1 Bool)), a sort that only a Var may have.
abbrev pub test : Sort
test = par (1 ∷ []) (function (var 1 then bool then end))

---------------------------------------------------------------- the tables
-- 28: what a Var, a binding, an AsOp may not carry.
pub barred :
    verdicts (
    of (array int (bitvec 0)) ∷ of (par (1 ∷ []) (function (type then int then end))) ∷ of (par (1 ∷ []) int)
    ∷ of (par (1 ∷ []) (par (2 ∷ []) (function end))) ∷ of (set test) ∷ of (par (1 ∷ []) (function end))
    ∷ bind₁ 2 (real then type then end) bool ∷ as_op 2 type end ∷ as_op 0 type end ∷ [])
    ≡ refused Barred ∷ refused Barred ∷ refused Barred
    ∷ refused Barred ∷ refused Barred ∷ sort (par (1 ∷ []) (function end))
    ∷ refused Barred ∷ refused Barred ∷ refused Barred ∷ []
unfolding verdicts
barred = refl

-- App: 25 without an argument for any head and for a count that the list does not take, 26 for a head that is no function; a
-- Function that ends in a Function is not flattened; fewer arguments than all give the remaining Function (K6, K7).
pub applied :
    verdicts (
    app (int then end) ∷ app (int then int then end) ∷ app (function end then int then end) ∷ app (function (int then end) then int then end)
    ∷ app (function (int then function (real then bool then end) then end) then int then real then end)
    ∷ app (function (int then real then bool then end) then int then end)
    ∷ app (function (int then real then bool then end) then int then int then int then end) ∷ app (test then test then end) ∷ [])
    ≡ refused Count ∷ refused Misfit ∷ refused Count ∷ refused Count
    ∷ refused Count
    ∷ sort (function (real then bool then end))
    ∷ refused Count ∷ refused Misfit ∷ []
unfolding verdicts
applied = refl

-- Op: counts, equality of sorts, Int and Real mixed only where document 02 says so; a Par as an argument gets 26 (K2, K3, K4, K5, K10).
pub operators :
    verdicts (
    op 83 end ∷ op 90 end ∷ op 83 (bitvec 8 then int then end) ∷ op 115 end ∷ op 133 (set (tuple end) then set (tuple (int then real then end)) then end)
    ∷ op 7 (var 1 then int then end) ∷ op 7 (var 1 then var 1 then end) ∷ op 7 (reglan then reglan then end) ∷ op 7 (test then test then end)
    ∷ op 74 (reglan then reglan then reglan then end) ∷ op 13 (int then int then int then end) ∷ op 15 (int then int then int then end)
    ∷ op 93 (bitvec 8 then bitvec 8 then bitvec 8 then end) ∷ op 83 (bitvec 8 then bitvec 8 then bitvec 9 then end)
    ∷ op 10 (int then real then end) ∷ op 13 (real then real then end) ∷ op 14 (int then int then end) ∷ op 16 (real then end) ∷ op 11 (real then end) ∷ [])
    ≡ refused Count ∷ refused Count ∷ refused Misfit ∷ refused NoRank ∷ refused Misfit
    ∷ refused Misfit ∷ sort bool ∷ sort bool ∷ refused Misfit
    ∷ sort reglan ∷ sort int ∷ refused Count
    ∷ refused Count ∷ refused Misfit
    ∷ sort real ∷ refused Misfit ∷ sort real ∷ refused Misfit ∷ sort real ∷ []
unfolding verdicts
operators = refl

-- ParamOp: the range of an index is judged before the argument's sort, the width only of a vector.
pub indices :
    verdicts (
    param_op 0 (0 ∷ 1 ∷ []) (int then end) ∷ param_op 0 (100 ∷ 0 ∷ []) (int then end) ∷ param_op 0 (8 ∷ 0 ∷ []) (bitvec 8 then end)
    ∷ param_op 0 (7 ∷ 0 ∷ []) (bitvec 8 then end) ∷ param_op 7 (0 ∷ []) (int then end) ∷ param_op 9 (65536 ∷ []) (real then end)
    ∷ param_op 11 (4 ∷ 1 ∷ []) (reglan then end) ∷ param_op 5 (100 ∷ []) (bitvec 8 then end) ∷ param_op 3 (1 ∷ 1 ∷ []) (bitvec 8 then end)
    ∷ param_op 8 (1 ∷ []) (int then end) ∷ term 11 0 3 bool (each (bitvec 8 then end)) [] [] (each (test then end)) ∷ [])
    ≡ refused Count ∷ refused Misfit ∷ refused Count
    ∷ sort (bitvec 8) ∷ refused Count ∷ refused Misfit
    ∷ sort reglan ∷ sort (bitvec 8) ∷ refused Count
    ∷ refused NoRank ∷ refused Count ∷ []
unfolding verdicts
indices = refl

-- Binders, Let and (as const): counts first, then sorts; a Par as a body or a value gets 26.
pub others :
    verdicts (
    bind₁ 0 end bool ∷ bind₁ 0 (int then int then end) bool ∷ bind₁ 1 (int then end) int ∷ bind₁ 2 (int then int then end) bool ∷ bind₁ 2 (real then end) bool
    ∷ bind₁ 3 (int then real then end) (function (int then bool then end)) ∷ bind₁ 3 (int then end) test
    ∷ let_in (int then end) ∷ let_in (int then real then end) ∷ let_in (int then test then end) ∷ let_in (test then int then end)
    ∷ as_op 0 int end ∷ as_op 0 int (int then end) ∷ as_op 0 (array int bool) (bool then end) ∷ as_op 0 (array int bool) (int then end) ∷ [])
    ≡ refused Count ∷ sort bool ∷ refused Misfit ∷ refused Count ∷ sort real
    ∷ sort (function (int then real then function (int then bool then end) then end)) ∷ refused Misfit
    ∷ refused Count ∷ sort real ∷ refused Misfit ∷ refused Misfit
    ∷ refused Count ∷ refused Misfit ∷ sort (array int bool) ∷ refused Misfit ∷ []
unfolding verdicts
others = refl
