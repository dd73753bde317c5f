-- An unbound name is bound, with room for it by the pigeonhole; a bound one is compared by param_eq.
use Rattle.std.proofs.Common.{arith, sym, ap, ◌∙◌}
use Rattle.matching_tables.specs.Names.{entry_of}
use Rattle.matching_tables.specs.TableLaws.{bind-room}
use Rattle.matching_with.proofs.ParamLaws.{with-free, with-pair, with-image}
use Rattle.matching_with.proofs.meet_with.Goals as goal

pub bind-requires : goal.bind-requires
bind-requires c =
    let s = c.args.sorts.now in
    let i = c.args.names.now in
    let pre = c.requires in
    let e = sym c.look_up.ensures.entry ∙ ap entry_of c.in-None.is in
    let few = pre.usable.count in
    record {
      name = omega (arith, pre.name, pre.mapped.tabled.names);
      place = omega (arith, bind-room s.records.now s.places.now s.count i.images.now i.bound.now i.many pre.mapped c.args.name e (λ w. pre.own) few, pre.mapped.tabled.order);
      small = pre.name;
      image = omega (arith, pre.target, few);
    }

pub returns-in-None-clause-answer : goal.returns-in-None-clause-answer
returns-in-None-clause-answer c = with-free c.requires (sym c.look_up.ensures.entry ∙ ap entry_of c.in-None.is) c.bind.ensures.bound

pub param_eq-requires : goal.param_eq-requires
param_eq-requires c = let a = with-pair c.requires (sym c.look_up.ensures.entry ∙ ap entry_of c.in-Some.is) in (a.left, a.right)

pub returns-in-Some-clause-answer : goal.returns-in-Some-clause-answer
returns-in-Some-clause-answer c = with-image c.requires (sym c.look_up.ensures.entry ∙ ap entry_of c.in-Some.is) c.param_eq.ensures
