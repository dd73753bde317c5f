-- The pattern's test, then the target's, from what the pattern's has noted.
use Rattle.std.proofs.Common.{sym, subst}
use Rattle.matching_tables.specs.Notes.{NoteTable}
use Rattle.matching_tables.specs.NoteLaws.{table_none}
use Rattle.matching_each.specs.Premises.{KnownAt, UnlistedAt}
use Rattle.matching_each.proofs.PremiseLaws.{premise-left, premise-right}
use Rattle.matching_each.proofs.premises.in_premise.Goals as goal

pub is_known-requires : goal.is_known-requires
is_known-requires c =
    let s = c.args.sorts.now in
    (c.requires.pair.left, subst (NoteTable (KnownAt s.records.now s.places.now s.count)) (sym c.new-seen.ensures) (table_none (KnownAt s.records.now s.places.now s.count)))

pub is_target-requires : goal.is_target-requires
is_target-requires c =
    let s = c.args.sorts.now in
    let P = UnlistedAt s.records.now s.places.now s.count c.args.names.now.params.now in
    record {
      asked = record { one = record { usable = c.requires.pair.usable; known = c.requires.pair.right }; table = c.requires.table };
      known = c.is_known.ensures.1;
      free = subst (NoteTable P) (sym c.new-free.ensures) (table_none P);
    }

pub returns-then-is_known : goal.returns-then-is_known
returns-then-is_known c =
    let a = c.args in
    let s = a.sorts.now in
    premise-right s.records.now s.places.now s.count a.names.now.params.now a.p a.t c.is_known.ensures.0 c.if-is_known.true c.is_target.result c.is_target.ensures.answer

pub returns-else-is_known : goal.returns-else-is_known
returns-else-is_known c =
    let a = c.args in
    let s = a.sorts.now in
    premise-left s.records.now s.places.now s.count a.names.now.params.now a.p a.t c.is_known.ensures.0 c.if-is_known.false
