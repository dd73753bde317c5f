-- Why each premise of the two routes on trees is there: terms that the premise rules out, and for which the routes differ.
use Rattle.std.specs.Prelude.{◌≡◌, refl, false, [], ◌∷◌}
use Rattle.record.specs.Sort.{Sort, var, par, end, ◌then◌, function, bool, int, bitvec, param_bit_vec, type}
use Rattle.substitution.specs.Substitution.{empty, bind}
use Rattle.substitution.specs.Premises.{proper_map}
use Rattle.row_rules.specs.declared.Cause.TheVariants.{Below, Misfit}
use Rattle.row_rules.specs.Verdict.{sort, refused}
use Rattle.row_rules.specs.Term.{Term, term, stop, ◌also◌}
use Rattle.check_rules.specs.Ranks.{smt_lib}
use Rattle.check_rules.specs.Checked.{check}
use Rattle.check_rules.specs.Routes.{replace, clear_term}

-- A Var of a sort, and an application of a head to arguments.
abbrev pub variable : Sort → Term
variable s = term 5 0 0 s stop [] [] stop

-- Without "replaced names must be no parametric sort's parameters": (par (n1) (-> 'n1 'n1)) at Int is Int; n1 to Bool makes the head
-- (-> Bool Bool), which Int does not fit.
abbrev pub identity : Term
identity = term 6 0 0 bool (variable (par (1 ∷ []) (function (var 1 then var 1 then end))) also variable int also stop) [] [] stop

pub parameter-checked : check smt_lib identity ≡ sort int
unfolding check
parameter-checked = refl

pub parameter-counts : clear_term (bind 1 bool empty) identity ≡ false
unfolding clear_term
parameter-counts = refl

pub parameter-replaced : check smt_lib (replace (bind 1 bool empty) identity) ≡ refused Misfit
unfolding check replace
parameter-replaced = refl

-- Without "names inside replacements must be no parameters": (par (n1) (-> 'n1 'n2 'n1)) at Int, 'n2 is Int; n2 to 'n1 makes the
-- head (par (n1) (-> 'n1 'n1 'n1)), and n1 cannot be Int and 'n1.
abbrev pub captured : Term
captured = term 6 0 0 bool (variable (par (1 ∷ []) (function (var 1 then var 2 then var 1 then end))) also variable int also variable (var 2) also stop) [] [] stop

pub captured-checked : check smt_lib captured ≡ sort int
unfolding check
captured-checked = refl

pub captured-counts : clear_term (bind 2 (var 1) empty) captured ≡ false
unfolding clear_term
captured-counts = refl

pub captured-replaced : check smt_lib (replace (bind 2 (var 1) empty) captured) ≡ refused Misfit
unfolding check replace
captured-replaced = refl

-- Without "replacements hold no parametric, unknown-width, zero-width or Type sort": Equals of two 'n1 is Bool; n1 to Type, to a vector
-- of width 0 or of unknown width is refused with 28 at the variables, so with 20 here; n1 to (par (n2) (-> 'n2 'n2)), which a variable
-- may have, is refused with 26, since an argument is then a Par.
abbrev pub equality : Term
equality = term 7 0 7 bool (variable (var 1) also variable (var 1) also stop) [] [] stop

abbrev pub parametric : Sort
parametric = par (2 ∷ []) (function (var 2 then var 2 then end))

pub equality-checked : check smt_lib equality ≡ sort bool
unfolding check smt_lib
equality-checked = refl

pub type-counts : proper_map (bind 1 type empty) ≡ false
unfolding proper_map
type-counts = refl

pub empty-counts : proper_map (bind 1 (bitvec 0) empty) ≡ false
unfolding proper_map
empty-counts = refl

pub unknown-counts : proper_map (bind 1 param_bit_vec empty) ≡ false
unfolding proper_map
unknown-counts = refl

pub parametric-counts : proper_map (bind 1 parametric empty) ≡ false
unfolding proper_map
parametric-counts = refl

pub equality-type : check smt_lib (replace (bind 1 type empty) equality) ≡ refused Below
unfolding check replace
equality-type = refl

pub equality-empty : check smt_lib (replace (bind 1 (bitvec 0) empty) equality) ≡ refused Below
unfolding check replace
equality-empty = refl

pub equality-unknown : check smt_lib (replace (bind 1 param_bit_vec empty) equality) ≡ refused Below
unfolding check replace
equality-unknown = refl

pub equality-parametric : check smt_lib (replace (bind 1 parametric empty) equality) ≡ refused Misfit
unfolding check replace smt_lib
equality-parametric = refl
