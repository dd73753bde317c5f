-- A Var by its entry.
use Rattle.std.proofs.Common.{[], ap, sym, ◌∙◌, not}
use mathlib.Core.Bool.{not-not}
use Rattle.record.specs.Kinds.{sort_number}
use Rattle.matching_tables.specs.Entered.{entry-var}
use Rattle.matching_each.specs.Every.{Unlisted, passing}
use Rattle.matching_each.proofs.nodes.unlisted.Goals as goal

pub returns-in-Var-clause-node : goal.returns-in-Var-clause-node
returns-in-Var-clause-node c p n k o e =
    let a = c.args in
    let z = entry-var a.records.now p n k o.usable o.known a.a e (ap sort_number c.in-Var.is) in
    ap not c.is_listed.ensures ∙ not-not _ ∙ sym (ap (passing Unlisted a.names.now.params.now []) z)
