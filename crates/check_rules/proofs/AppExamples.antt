-- Examples of App that tell readings of document 01 apart, by computation: whose parameter a variable is, what 27 looks at, and that the
-- arguments may be matched in another order.
use Rattle.std.specs.Prelude.{◌≡◌, refl, [], ◌∷◌}
use Rattle.record.specs.Sort.{Sort, var, par, end, ◌then◌, function, bool, int, real, array, set}
use Rattle.row_rules.specs.declared.Cause.TheVariants.{Misfit, Unassigned}
use Rattle.row_rules.specs.Verdict.{sort, refused}
use Rattle.check_rules.specs.Checked.{checked_app}
use Rattle.check_rules.specs.Fits.{one_of}
use Rattle.check_rules.specs.Orders.{called_in}

---------------------------------------------------------------- "A variable in an argument's sort is never the head's parameter."
-- The head (par (n1) (-> 'n1 'n1 (Set 'n1))). At 'n1, 'n1 the parameter is assigned the argument's variable; at 'n1, Int and at
-- Int, 'n1 it would have to be two sorts; so at Int, Real (K8).
abbrev pub twice : Sort
twice = par (1 ∷ []) (function (var 1 then var 1 then set (var 1) then end))

pub twice_same : checked_app (twice then var 1 then var 1 then end) ≡ sort (set (var 1))
unfolding checked_app
twice_same = refl

pub twice-first : checked_app (twice then var 1 then int then end) ≡ refused Misfit
unfolding checked_app
twice-first = refl

pub twice-second : checked_app (twice then int then var 1 then end) ≡ refused Misfit
unfolding checked_app
twice-second = refl

pub twice-other : checked_app (twice then int then real then end) ≡ refused Misfit
unfolding checked_app
twice-other = refl

---------------------------------------------------------------- 27
-- Judged on the parameters, before images are put in: (par (n1 n2) (-> 'n1 'n1)) at 'n2 gives 'n2, the argument's variable.
pub image-no-parameter : checked_app (par (1 ∷ 2 ∷ []) (function (var 1 then var 1 then end)) then var 2 then end) ≡ sort (var 2)
unfolding checked_app
image-no-parameter = refl

-- (par (n1 n2) (-> 'n1 'n2)) at Int is refused with 27 (K9), and so is (par (n1 n2) (-> 'n1 'n2 'n1)) at Int, whose remaining
-- Function keeps n2; (par (n1 n2) (-> 'n1 Bool)) at Int keeps no parameter.
pub parameter-left : checked_app (par (1 ∷ 2 ∷ []) (function (var 1 then var 2 then end)) then int then end) ≡ refused Unassigned
unfolding checked_app
parameter-left = refl

pub parameter-later : checked_app (par (1 ∷ 2 ∷ []) (function (var 1 then var 2 then var 1 then end)) then int then end) ≡ refused Unassigned
unfolding checked_app
parameter-later = refl

pub parameter-gone : checked_app (par (1 ∷ 2 ∷ []) (function (var 1 then bool then end)) then int then end) ≡ sort bool
unfolding checked_app
parameter-gone = refl

---------------------------------------------------------------- another order
-- (par (n1 n2) (-> 'n1 'n2 (Array 'n1 'n2))) at Int, Real, the second argument matched before the first; and at Int, Real where both
-- declared sorts are 'n1.
pub second-before : (checked_app (par (1 ∷ 2 ∷ []) (function (var 1 then var 2 then array (var 1) (var 2) then end)) then int then real then end) ≡ sort (array int real))
    × (called_in (one_of (1 ∷ 2 ∷ [])) (var 1 then var 2 then array (var 1) (var 2) then end) (int then real then end)
    (record { pattern = var 2; target = real } ∷ record { pattern = var 1; target = int } ∷ []) ≡ sort (array int real))
    × (called_in (one_of (1 ∷ [])) (var 1 then var 1 then set (var 1) then end) (int then real then end)
    (record { pattern = var 1; target = real } ∷ record { pattern = var 1; target = int } ∷ []) ≡ refused Misfit)
unfolding checked_app called_in
second-before = (refl, refl, refl)
