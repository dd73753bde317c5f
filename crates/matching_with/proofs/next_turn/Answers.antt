-- Equality by number, then the arms of match_with by the kind of the pattern.
use Rattle.std.proofs.Common.{arith, ap}
use Rattle.record.specs.Kinds.{sort_number}
use Rattle.matching_tables.specs.Entered.{entry-name, entry-one, entry-refs}
use Rattle.matching_tables.specs.TableLaws.{look-some, look-none}
use Rattle.matching_with.proofs.CompatibleLaws.{at-start}
use Rattle.matching_with.proofs.TurnLaws.{turn-equal, turn-unlisted, turn-meets, turn-under}
use Rattle.matching_with.proofs.next_turn.Goals as goal

pub returns-then-p-t : goal.returns-then-p-t
returns-then-p-t c = turn-equal c.args.names.now.params.now c.requires.pair c.if-p-t.true

pub is_listed-requires : goal.is_listed-requires
is_listed-requires c =
    let s = c.args.sorts.now in
    let u = c.requires.pair in
    omega (arith, entry-name s.records.now s.places.now s.count c.args.p u.usable u.left c.entry-a.result c.entry-a.ensures, c.requires.table)

pub returns-then-is_listed : goal.returns-then-is_listed
returns-then-is_listed c =
    let prm = c.args.names.now.params.now in
    turn-meets prm c.requires.pair c.if-p-t.false c.entry-a.ensures (ap sort_number c.in-Var.is) (look-some prm c.entry-a.result.name c.is_listed.ensures c.if-is_listed.true)

pub returns-else-is_listed : goal.returns-else-is_listed
returns-else-is_listed c =
    let prm = c.args.names.now.params.now in
    turn-unlisted prm c.requires.pair c.if-p-t.false c.entry-a.ensures (ap sort_number c.in-Var.is) (look-none prm c.entry-a.result.name c.is_listed.ensures c.if-is_listed.false)

pub get-requires : goal.get-requires
get-requires c =
    let s = c.args.sorts.now in
    let u = c.requires.pair in
    let r = c.entry-a.result in
    omega (arith, (entry-refs s.records.now s.places.now s.count c.args.p u.usable u.left r c.entry-a.ensures).within, entry-one s.records.now s.places.now s.count c.args.p u.usable u.left r c.entry-a.ensures (ap sort_number c.in-Par.is))

pub returns-in-Par : goal.returns-in-Par
returns-in-Par c =
    let r = c.entry-a.result in
    turn-under c.args.names.now.params.now c.requires.pair c.if-p-t.false c.entry-a.ensures (ap sort_number c.in-Par.is) (at-start c.args.sorts.now.records.now r.parts.at c.get.ensures.value)
