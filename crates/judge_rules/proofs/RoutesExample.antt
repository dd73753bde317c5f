-- The two routes on two small sheets, computed from their bytes: every premise of `two-routes` can be met at once.
use Rattle.std.specs.Prelude.{ℕ, ◌≡◌, refl, List, [], ◌∷◌}
use Rattle.std.proofs.Common.{arith}
use Rattle.record.specs.Sort.{Sort, var, par, function, int, bool, end, ◌then◌}
use Rattle.sheet.specs.Sheet.{Lengths, TermFields, Sheet}
use Rattle.substitution.specs.Substitution.{empty, bind, apply}
use Rattle.substitution.specs.Premises.{proper_map}
use Rattle.row_rules.specs.Term.{term_at}
use Rattle.row_rules.specs.Meaning.{without}
use Rattle.check_rules.specs.Routes.{replace, clear_term}
use Rattle.judge_rules.specs.Judged.{accepted, judged}
use Rattle.judge_rules.specs.Given.{Gives}
use Rattle.judge_rules.proofs.TwoRoutes.{two-routes}

abbrev pub lent : Lengths
lent = record { records = 64; places = 8; rows = 6; answers = 0 }

abbrev pub callee : Sort
callee = par (2 ∷ []) (function (var 2 then var 2 then end))

abbrev pub variable : ℕ → Sort → TermFields
variable a s = record { kind = 5; name = a; number = 0; own = s; list = []; bindings = []; names = []; second = [] }

abbrev pub call : ℕ → ℕ → TermFields
call f x = record { kind = 6; name = 0; number = 0; own = bool; list = f ∷ x ∷ []; bindings = []; names = []; second = [] }

-- n5 of the sort (par (n2) (-> 'n2 'n2)), n6 of the sort 'n1, and n5 at n6.
abbrev pub first : List ℕ
first =
    4 ∷ 0 ∷ 3 ∷ 0 ∷ 0 ∷ 0
    ∷ 3 ∷ 2 ∷ 1 ∷ 0 ∷ 3 ∷ 2 ∷ 2 ∷ 0 ∷ 17 ∷ 0 ∷ 2 ∷ 1 ∷ 0 ∷ 1 ∷ 0 ∷ 81 ∷ 12 ∷ 1 ∷ 2 ∷ 0 ∷ 1 ∷ 2 ∷ 0
    ∷ 11 ∷ 5 ∷ 5 ∷ 0 ∷ 3 ∷ 0 ∷ 11 ∷ 5 ∷ 6 ∷ 0 ∷ 0 ∷ 0 ∷ 17 ∷ 6 ∷ 2 ∷ 0 ∷ 0 ∷ 1 ∷ 0 ∷ []

abbrev pub first_sorts : List Sort
first_sorts = var 1 ∷ var 2 ∷ function (var 2 then var 2 then end) ∷ callee ∷ []

abbrev pub first_sheet : Sheet
first_sheet =
    record { sorts = first_sorts; store = first_sorts; terms = call 0 1 ∷ variable 6 (var 1) ∷ variable 5 callee ∷ []; questions = [] }

pub first-judged : judged first lent ≡ accepted first_sheet first_sorts (3 ∷ 3 ∷ 0 ∷ 0 ∷ 0 ∷ 0 ∷ []) []
unfolding judged
first-judged = refl

-- The same with Int for 'n1, and other numbers for its sorts and terms.
abbrev pub replaced : List ℕ
replaced =
    4 ∷ 0 ∷ 3 ∷ 0 ∷ 0 ∷ 0
    ∷ 3 ∷ 2 ∷ 2 ∷ 0 ∷ 17 ∷ 0 ∷ 2 ∷ 0 ∷ 0 ∷ 0 ∷ 0 ∷ 81 ∷ 12 ∷ 1 ∷ 1 ∷ 0 ∷ 1 ∷ 2 ∷ 0 ∷ 1 ∷ 4
    ∷ 11 ∷ 5 ∷ 6 ∷ 0 ∷ 3 ∷ 0 ∷ 11 ∷ 5 ∷ 5 ∷ 0 ∷ 2 ∷ 0 ∷ 17 ∷ 6 ∷ 2 ∷ 1 ∷ 0 ∷ 0 ∷ 0 ∷ []

abbrev pub replaced_sorts : List Sort
replaced_sorts = var 2 ∷ function (var 2 then var 2 then end) ∷ callee ∷ int ∷ []

abbrev pub replaced_sheet : Sheet
replaced_sheet =
    record { sorts = replaced_sorts; store = replaced_sorts; terms = call 1 0 ∷ variable 5 callee ∷ variable 6 int ∷ []; questions = [] }

pub replaced-judged : judged replaced lent ≡ accepted replaced_sheet replaced_sorts (3 ∷ 3 ∷ 2 ∷ 2 ∷ 3 ∷ 3 ∷ []) []
unfolding judged
replaced-judged = refl

-- The checked row of the first call gives 'n1, so that of the second gives Int.
pub example-routes : Gives replaced_sorts (3 ∷ 3 ∷ 2 ∷ 2 ∷ 3 ∷ 3 ∷ []) 2 int
unfolding term_at replace clear_term proper_map without apply
example-routes =
    (two-routes first replaced lent lent first_sheet replaced_sheet first_sorts replaced_sorts (3 ∷ 3 ∷ 0 ∷ 0 ∷ 0 ∷ 0 ∷ []) (3 ∷ 3 ∷ 2 ∷ 2 ∷ 3 ∷ 3 ∷ []) [] []
    first-judged replaced-judged 2 2 (omega arith) (omega arith) (bind 1 int empty) refl refl refl refl (var 1) (omega arith, refl)).1
