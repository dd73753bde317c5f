-- The fields of the record that was read.
-- Each field stands behind the one before it, and all lie before the end of the record.
use Rattle.std.proofs.Common.{arith}
use Rattle.reader.proofs.AgainLaws.{term-lies, before-lies, head-room, kind-known, name-room, number-room, sort-room, list-room, pairs-room, last-room, same-record}
use Rattle.reader.proofs.Cursor.term_again.Goals as goal

pub bounds-s-self : goal.bounds-s-self
bounds-s-self c = omega (arith, head-room (before-lies c.requires))

pub overflow_add-self : goal.overflow_add-self
overflow_add-self c = omega (arith, head-room (before-lies c.requires))

pub kind_again-kind-requires-clause-within : goal.kind_again-kind-requires-clause-within
kind_again-kind-requires-clause-within c = omega (arith, head-room (before-lies c.requires))

pub kind_again-kind-requires-clause-known : goal.kind_again-kind-requires-clause-known
kind_again-kind-requires-clause-known c = kind-known (before-lies c.requires)

pub overflow_add-start : goal.overflow_add-start
overflow_add-start c = omega (arith, head-room (before-lies c.requires))

pub u16_again-name-requires-clause-within : goal.u16_again-name-requires-clause-within
u16_again-name-requires-clause-within c = name-room (before-lies c.requires)

pub number_again-number-requires : goal.number_again-number-requires
number_again-number-requires c = number-room (before-lies c.requires) c.u16_again-name.ensures.next

pub u16_again-sort-requires-clause-within : goal.u16_again-sort-requires-clause-within
u16_again-sort-requires-clause-within c = sort-room (before-lies c.requires) c.u16_again-name.ensures.next c.number_again-number.ensures.next

pub span_again-list-requires-clause-within : goal.span_again-list-requires-clause-within
span_again-list-requires-clause-within c =
    list-room (before-lies c.requires) c.u16_again-name.ensures.next c.number_again-number.ensures.next c.u16_again-sort.ensures.next

pub span_again-pairs-requires-clause-within : goal.span_again-pairs-requires-clause-within
span_again-pairs-requires-clause-within c =
    pairs-room (before-lies c.requires) c.u16_again-name.ensures.next c.number_again-number.ensures.next c.u16_again-sort.ensures.next
    c.span_again-list.ensures.at c.span_again-list.ensures.count

pub span_again-second-requires-clause-within : goal.span_again-second-requires-clause-within
span_again-second-requires-clause-within c =
    last-room (before-lies c.requires) c.u16_again-name.ensures.next c.number_again-number.ensures.next c.u16_again-sort.ensures.next
    c.span_again-list.ensures.at c.span_again-list.ensures.count c.span_again-pairs.ensures.at c.span_again-pairs.ensures.count

pub returns : goal.returns
returns c sorts t r next read =
    same-record (term-lies c.args.s.now sorts t c.args.self.at r next read) c.u16_again-name.ensures.next c.number_again-number.ensures.next c.u16_again-sort.ensures.next
    c.span_again-list.ensures.at c.span_again-list.ensures.count c.span_again-pairs.ensures.at c.span_again-pairs.ensures.count
    c.kind_again-kind.ensures c.u16_again-name.ensures.value c.number_again-number.ensures.value c.u16_again-sort.ensures.value
    c.span_again-second.ensures.at c.span_again-second.ensures.count
