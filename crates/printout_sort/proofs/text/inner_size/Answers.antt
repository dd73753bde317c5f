-- The form says which field stands between the word and the parts.
-- Each case is the law of its value.
use Rattle.std.proofs.Common.{arith, sym, ap, length, ◌∙◌}
use Rattle.printout_sort.specs.PieceLaws.{inner_name, inner-number, inner-names, inner-nothing}
use Rattle.printout_sort.specs.NameLaws.{names-bracket}
use Rattle.printout_sort.proofs.text.inner_size.Goals as goal

pub returns-in-Nothing : goal.returns-in-Nothing
returns-in-Nothing c = record { is = sym (ap length (inner-nothing _ _ _ _ (sym c.in-Nothing.ensures))); most = omega arith; low = λ h. omega arith }

pub returns-in-Name : goal.returns-in-Name
returns-in-Name c =
    let n = c.name_size.ensures in
    record { is = n.0 ∙ sym (ap length (inner_name _ _ _ _ (sym c.in-Name.ensures))); most = omega (arith, n.1); low = λ h. n.1 }

pub returns-in-Number : goal.returns-in-Number
returns-in-Number c =
    let d = c.digits.ensures in
    record { is = d.0 ∙ sym (ap length (inner-number _ _ _ _ (sym c.in-Number.ensures))); most = omega (arith, d.1); low = λ h. omega (arith, d.1) }

pub returns-in-Names : goal.returns-in-Names
returns-in-Names c =
    let e = sym c.in-Names.ensures in
    record {
      is = c.names_size.ensures.0 ∙ sym (names-bracket _ _ _ (c.requires.some e)) ∙ sym (ap length (inner-names _ _ _ _ e));
      most = c.names_size.ensures.1;
      low = λ h. absurd (h e);
    }
