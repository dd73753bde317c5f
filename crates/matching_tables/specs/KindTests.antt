-- What a test of a kind says of its number.
use Rattle.std.specs.Prelude.{◌≡◌, Bool, true, false, not, eqb}
use Rattle.std.proofs.Common.{rules, sym, ap, ◌∙◌, eq-eqb, ne_eqb}
use Rattle.record.specs.Cases.{by_test}
use denote.Enum.Bare.{sameb, same_true, same_false, differs_true, differs_false}
use Rattle.record.specs.Kinds.{sort_number}
use Rattle.record.specs.KindLaws.{sort_number-same}
use Rattle.record.specs.declared.kinds.SortKind.{SortKind}
use Rattle.record.specs.contracts.kinds.SortKind.{the_type}

-- Two kinds are equal where their numbers are.
pub same-kinds : (k l : SortKind) → sameb the_type k l ≡ eqb (sort_number k) (sort_number l)
same-kinds k l =
    by_test (sameb the_type k l)
    (λ q. q ∙ sym (eq-eqb (sort_number k) (sort_number l) (ap sort_number (same_true the_type (search rules) k l q))))
    (λ q. q ∙ sym (ne_eqb (sort_number k) (sort_number l) (λ e. same_false the_type k l q (sort_number-same k l e))))

module _ (k l : SortKind) {r : Bool} where
  pub kind-is : r ≡ sameb the_type k l → r ≡ true → sort_number k ≡ sort_number l
  kind-is e z = ap sort_number (same_true the_type (search rules) k l (sym e ∙ z))

  pub kind-not : r ≡ sameb the_type k l → r ≡ false → sort_number k ≡ sort_number l → ⊥
  kind-not e z w = same_false the_type k l (sym e ∙ z) (sort_number-same k l w)

  pub kinds-differ : r ≡ not (sameb the_type k l) → r ≡ true → sort_number k ≡ sort_number l → ⊥
  kinds-differ e z w = differs_true the_type k l (sym e ∙ z) (sort_number-same k l w)

  pub kinds-same : r ≡ not (sameb the_type k l) → r ≡ false → sort_number k ≡ sort_number l
  kinds-same e z = ap sort_number (differs_false the_type (search rules) k l (sym e ∙ z))

pub kind-other : (k l : SortKind) → (k ≡ l → ⊥) → sort_number k ≡ sort_number l → ⊥
kind-other k l h w = h (sort_number-same k l w)
