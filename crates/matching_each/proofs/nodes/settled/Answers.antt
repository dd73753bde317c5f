-- A Var by its entry.
use Rattle.std.proofs.Common.{refl, ap, sym, ◌∙◌}
use Rattle.record.specs.Kinds.{sort_number}
use Rattle.matching_tables.specs.Entered.{entry-var}
use Rattle.matching_each.specs.Every.{Settled, passing}
use Rattle.matching_each.proofs.nodes.settled.Goals as goal

pub returns-else-not-is_listed-clause-node : goal.returns-else-not-is_listed-clause-node
returns-else-not-is_listed-clause-node c p n k o e =
    let a = c.args in
    let z = entry-var a.records.now p n k o.usable o.known a.a e (ap sort_number c.in-Var.is) in
    let h = sym c.is_listed.ensures ∙ c.if-not-is_listed.false in
    c.is_bound.ensures ∙ sym (ap (passing Settled a.names.now.params.now a.names.now.images.now) z ∙ rw h refl)
