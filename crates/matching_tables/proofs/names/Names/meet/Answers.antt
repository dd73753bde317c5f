-- An unbound name is bound; a bound one is compared by number.
use Rattle.std.proofs.Common.{sym, ap, ◌∙◌}
use Rattle.matching_tables.specs.Names.{entry_of}
use Rattle.matching_tables.specs.MapLaws.{meet-free, meet-bound}
use Rattle.matching_tables.proofs.names.Names.meet.Goals as goal

pub returns-in-None-clause-answer : goal.returns-in-None-clause-answer
returns-in-None-clause-answer c =
    meet-free c.requires.name (sym c.look_up.ensures.entry ∙ ap entry_of c.in-None.is) c.bind.ensures.bound

pub returns-in-Some-clause-answer : goal.returns-in-Some-clause-answer
returns-in-Some-clause-answer c =
    let s = c.args.self.now in
    meet-bound s.images.now s.bound.now s.many c.args.name c.args.target (sym c.look_up.ensures.entry ∙ ap entry_of c.in-Some.is)
