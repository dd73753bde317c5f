-- True exactly when the record k has the fields of this one.
-- As many bytes as it has behind its map are compared; decoding shows that no record begins another.
use Rattle.std.proofs.Common.{arith}
use Rattle.store.proofs.FindLaws.{rec-whole, place-within, starts-is, is-starts}
use Rattle.store.proofs.entries.Entries.record_is.Goals as goal

pub slice_bounds-starts_with-count : goal.slice_bounds-starts_with-count
slice_bounds-starts_with-count c = omega (arith, place-within c.requires)

pub slice_bounds-starts_with-start : goal.slice_bounds-starts_with-start
slice_bounds-starts_with-start c = omega (arith, place-within c.requires)

pub slice_bounds-starts_with-count-2 : goal.slice_bounds-starts_with-count-2
slice_bounds-starts_with-count-2 c = omega (arith, rec-whole c.requires)

pub slice_bounds-starts_with-start-2 : goal.slice_bounds-starts_with-start-2
slice_bounds-starts_with-start-2 c = omega (arith, rec-whole c.requires)

pub returns-clause-only : goal.returns-clause-only
returns-clause-only c = starts-is c.requires c.starts_with.result c.starts_with.ensures.value

pub returns-clause-all : goal.returns-clause-all
returns-clause-all c = is-starts c.requires c.starts_with.result c.starts_with.ensures.value
