-- Two small sheets, computed from their bytes, with names of their own: what the first tells serves on the second, so every premise of
-- `told-right` can be met at once.
-- And the second sheet with its index replaced, which the test refuses, and which says another verdict.
use Rattle.std.specs.Prelude.{ℕ, ◌*◌, ◌≡◌, refl, false, cond, ◌||◌, List, [], ◌∷◌, eqb}
use Rattle.std.proofs.Common.{sym, ap, subst, ◌∙◌, arith, eqb-true}
use Rattle.std.proofs.Math.Option.{Option, none, some}
use Rattle.record.specs.Sort.{Sort, bool, int, bitvec, param_bit_vec}
use Rattle.record.specs.Cases.{by_test, none-some, some_inj}
use Rattle.sheet.specs.Sheet.{Lengths, TermFields, Sheet}
use Rattle.sheet.specs.SheetLaws.{referring}
use Rattle.row_rules.specs.declared.Cause.TheVariants.{Count}
use Rattle.row_rules.specs.Verdict.{sort, number_of}
use Rattle.row_rules.specs.Term.{term_at}
use Rattle.check_rules.specs.Ranks.{smt_lib}
use Rattle.check_rules.specs.Checked.{check}
use Rattle.judge_rules.specs.Judged.{accepted, judged_by}
use Rattle.abstraction.specs.Names.{Renames, renamed_records}
use Rattle.abstraction.specs.SheetTest.{follows, Told, by_row}
use Rattle.abstraction.proofs.BatchTheorems.{told-checked}

abbrev pub lent : Lengths
lent = record { records = 64; places = 8; rows = 6; answers = 0 }

abbrev pub variable : ℕ → TermFields
variable a = record { kind = 5; name = a; number = 0; own = int; list = []; bindings = []; names = []; second = [] }

-- Add (10) of a term and itself; the constant 5; IntToBv (9) of a term by an index.
abbrev pub twice : ℕ → TermFields
twice x = record { kind = 7; name = 0; number = 10; own = bool; list = x ∷ x ∷ []; bindings = []; names = []; second = [] }

abbrev pub five : TermFields
five = record { kind = 0; name = 0; number = 5; own = bool; list = []; bindings = []; names = []; second = [] }

abbrev pub vector : ℕ → ℕ → TermFields
vector i x = record { kind = 11; name = 0; number = 9; own = bool; list = x ∷ []; bindings = []; names = []; second = i ∷ [] }

-- THE WHOLE TERMS: 0 n5 of the sort Int, 1 their sum, 2 the constant 5, 3 the vector of width 5 from the sum.
abbrev pub wholes : List TermFields
wholes = vector 2 1 ∷ five ∷ twice 0 ∷ variable 5 ∷ []

-- The first sheet holds 0 and 1, and calls n5 n1.
abbrev pub first : List ℕ
first = 1 ∷ 0 ∷ 2 ∷ 0 ∷ 0 ∷ 0 ∷ 1 ∷ 4 ∷ 11 ∷ 5 ∷ 1 ∷ 0 ∷ 0 ∷ 0 ∷ 21 ∷ 7 ∷ 10 ∷ 0 ∷ 0 ∷ 0 ∷ 2 ∷ 0 ∷ 0 ∷ 0 ∷ 0 ∷ []

abbrev pub first_sheet : Sheet
first_sheet = record { sorts = int ∷ []; store = int ∷ []; terms = twice 0 ∷ variable 1 ∷ []; questions = [] }

pub first-judged : judged_by smt_lib first lent ≡ accepted first_sheet (int ∷ []) (0 ∷ 0 ∷ 0 ∷ 0 ∷ []) []
unfolding judged_by smt_lib
first-judged = refl

abbrev pub swap : ℕ → ℕ
swap n = cond (eqb n 1) 5 (cond (eqb n 5) 1 n)

swap-back : (n : ℕ) → swap (swap n) ≡ n
swap-back n =
    by_test (eqb n 1)
    (λ q. rw (eqb-true n 1 q) refl)
    (λ q. by_test (eqb n 5) (λ p. rw (eqb-true n 5 p) refl) (λ p. rw (q, p) (rw (q, p) refl)))

pub swap-renames : Renames swap
swap-renames = record { zero-stays = refl; one = λ u v e. sym (swap-back u) ∙ ap swap e ∙ swap-back v }

-- The second holds n9 of the sort Int for 1, then 2 and 3.
abbrev pub second : List ℕ
second =
    1 ∷ 0 ∷ 3 ∷ 0 ∷ 0 ∷ 0 ∷ 1 ∷ 4
    ∷ 11 ∷ 5 ∷ 9 ∷ 0 ∷ 0 ∷ 0 ∷ 5 ∷ 0 ∷ 5 ∷ 0 ∷ 0 ∷ 0 ∷ 85 ∷ 11 ∷ 9 ∷ 0 ∷ 0 ∷ 0 ∷ 1 ∷ 0 ∷ 0 ∷ 1 ∷ 1 ∷ 0 ∷ []

abbrev pub second_sheet : Sheet
second_sheet = record { sorts = int ∷ []; store = int ∷ []; terms = vector 1 0 ∷ five ∷ variable 9 ∷ []; questions = [] }

pub second-judged : judged_by smt_lib second lent ≡ accepted second_sheet (int ∷ bitvec 5 ∷ []) (0 ∷ 0 ∷ 0 ∷ 0 ∷ 1 ∷ 1 ∷ []) []
unfolding judged_by smt_lib
second-judged = refl

-- After the first sheet the sort of 1 is known.
abbrev pub sum-known : ℕ → Option Sort
sum-known g = cond (eqb g 1) (some int) none

pub sum_told : Told smt_lib 1 wholes 1 (sort int)
unfolding follows renamed_records smt_lib
sum_told = by_row first lent first_sheet (int ∷ []) (0 ∷ 0 ∷ 0 ∷ 0 ∷ []) [] swap (λ g. none) 1 1 (sort int) first-judged (omega arith) swap-renames refl (λ g a q. none-some q) (omega arith, refl)

known-told : (g : ℕ) (a : Sort) → sum-known g ≡ some a → Told smt_lib 1 wholes g (sort a)
known-told g a q =
    by_test (eqb g 1)
    (λ e. let z : some int ≡ some a = rw e at q in
    subst (λ (x : ℕ). Told smt_lib 1 wholes x (sort a)) (sym (eqb-true g 1 e)) (subst (λ (r : Sort). Told smt_lib 1 wholes 1 (sort r)) (some_inj z) sum_told))
    (λ e. none-some (rw e at q))

pub vector-told : Told smt_lib 1 wholes 3 (sort (bitvec 5))
unfolding follows renamed_records smt_lib
vector-told =
    by_row second lent second_sheet (int ∷ bitvec 5 ∷ []) (0 ∷ 0 ∷ 0 ∷ 0 ∷ 1 ∷ 1 ∷ []) [] (λ n. n) sum-known 3 2 (sort (bitvec 5))
    second-judged (omega arith) (record { zero-stays = refl; one = λ u v e. e }) refl known-told (omega arith, refl)

-- So the whole term 3, which stands on neither sheet, is checked to this sort.
pub example-told : check smt_lib (term_at wholes 3) ≡ sort (bitvec 5)
unfolding referring
example-told = told-checked wholes refl 3 (bitvec 5) vector-told

-- With n8 of the sort Int for the index 2, whose sort that is, the row is 25; the test refuses it.
abbrev pub lost_index : List ℕ
lost_index =
    1 ∷ 0 ∷ 3 ∷ 0 ∷ 0 ∷ 0 ∷ 1 ∷ 4
    ∷ 11 ∷ 5 ∷ 9 ∷ 0 ∷ 0 ∷ 0 ∷ 11 ∷ 5 ∷ 8 ∷ 0 ∷ 0 ∷ 0 ∷ 85 ∷ 11 ∷ 9 ∷ 0 ∷ 0 ∷ 0 ∷ 1 ∷ 0 ∷ 0 ∷ 1 ∷ 1 ∷ 0 ∷ []

abbrev pub lost_sheet : Sheet
lost_sheet = record { sorts = int ∷ []; store = int ∷ []; terms = vector 1 0 ∷ variable 8 ∷ variable 9 ∷ []; questions = [] }

pub lost-judged : judged_by smt_lib lost_index lent ≡ accepted lost_sheet (int ∷ param_bit_vec ∷ []) (0 ∷ 0 ∷ 0 ∷ 0 ∷ 1 ∷ number_of Count * 65536 ∷ []) []
unfolding judged_by smt_lib
lost-judged = refl

pub lost-refused : follows 1 (λ g. cond (eqb g 1 || eqb g 2) (some int) none) wholes lost_sheet.terms 3 2 ≡ false
unfolding follows
lost-refused = refl
