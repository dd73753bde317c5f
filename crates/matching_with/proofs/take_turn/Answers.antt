-- What is to be done is done as far as it can be without another pair; each answer is a law of a turn.
use Rattle.matching_with.proofs.GeneralLaws.{names-added}
use Rattle.matching_with.proofs.WayLaws.{move-meets, move-under, move-past, move-empty, move-parts}
use Rattle.matching_with.proofs.take_turn.Goals as goal

pub list-requires : goal.list-requires
list-requires c = names-added c.requires.0 c.next_turn.result c.next_turn.ensures c.in-Under.body c.in-Under.listed c.in-Under.is

pub returns-then-list-eq0-clause-done : goal.returns-then-list-eq0-clause-done
returns-then-list-eq0-clause-done c =
    move-empty c.requires.0 c.requires.1 c.in-Parts.is c.next_turn.ensures c.if-list-eq0.true

pub returns-in-Meets-clause-done : goal.returns-in-Meets-clause-done
returns-in-Meets-clause-done c =
    let w = c.meet_with.new.names in
    rw c.meet_with.ensures.params (move-meets c.requires.0 c.requires.1 c.in-Meets.is c.next_turn.ensures w.images.now w.bound.now w.many c.meet_with.result c.meet_with.ensures.answer)

pub returns-in-Under-clause-done : goal.returns-in-Under-clause-done
returns-in-Under-clause-done c =
    let m = c.list.ensures.map in
    rw (m.0, m.1, m.2) (move-under c.requires.0 c.requires.1 c.in-Under.is c.next_turn.ensures c.list.ensures.listed c.forget.ensures)

pub returns-in-Past-clause-done : goal.returns-in-Past-clause-done
returns-in-Past-clause-done c = move-past c.requires.0 c.requires.1 c.in-Past.is c.next_turn.ensures

pub returns-else-list-eq0-clause-done : goal.returns-else-list-eq0-clause-done
returns-else-list-eq0-clause-done c =
    move-parts c.requires.0 c.requires.1 c.in-Parts.is c.next_turn.ensures c.if-list-eq0.false
