-- What is listed so far and the names that are left make the whole.
use Rattle.record.specs.Number.{numbers_at}
use Rattle.record.specs.Numbers.{numbers_left}
use Rattle.matching_tables.proofs.NamesLaws.{Adding}
use Rattle.matching_tables.proofs.names.Names.list.Given as goal

abbrev pub invariant-loop-v : goal.invariant-loop-v
invariant-loop-v l =
    (goal.iterator-loop-v).can_next l.v-iterator × (goal.iterator-loop-v).is_finite l.v-iterator
    × Adding l.initial.params (numbers_at l.fn.bytes l.fn.span.at l.fn.span.count) l.params (numbers_left l.v-iterator)
