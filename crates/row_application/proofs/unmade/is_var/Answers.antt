-- A Var by its kind and its name; any other sort is no variable.
use Rattle.std.proofs.Common.{◌≡◌, ◌∙◌, rules}
use Rattle.record.specs.Kinds.{sort_number}
use Rattle.matching_tables.specs.Words.{one-in}
use Rattle.row_application.proofs.UnmadeLaws.{var-named, var-other}
use Rattle.row_application.proofs.unmade.is_var.Goals as goal

pub returns-then-eq : goal.returns-then-eq
returns-then-eq c =
    let k : sort_number c.entry-entry.result.kind ≡ 2 = search rules in
    var-named (one-in c.args.sorts.now c.requires) c.args.name c.entry-entry.ensures k

pub returns-else-eq : goal.returns-else-eq
returns-else-eq c =
    let k : sort_number c.entry-entry.result.kind ≡ 2 → ⊥ = λ e. search rules in
    c.if-eq.false ∙ var-other (one-in c.args.sorts.now c.requires) c.args.name c.entry-entry.ensures k
