-- A turn tests the next given sort, from what the tables note; without pairs, or behind the last one, nothing decides any more.
use Rattle.std.proofs.Common.{sym, subst, arith}
use Rattle.matching_tables.specs.Notes.{NoteTable}
use Rattle.matching_tables.specs.NoteLaws.{table_none}
use Rattle.matching_each.specs.Premises.{KnownAt, UnlistedAt}
use Rattle.questions.proofs.GivenLaws.{testing-none, testing-start, testing-step, testing-fails, testing-end}
use Rattle.questions.proofs.given.given_in_premise.Goals as goal

pub returns-then-given-eq0 : goal.returns-then-given-eq0
returns-then-given-eq0 c =
    let a = c.args in
    let s = a.sorts.now in
    testing-none s.records.now s.places.now s.count a.names.now.params.now a.sheet.now.bytes.now a.sheet.now.table.now a.given.at a.given.count c.if-given-eq0.true

pub loop-i-init : goal.loop-i-init
loop-i-init c =
    let a = c.args in
    let s = a.sorts.now in
    let prm = a.names.now.params.now in
    let K = KnownAt s.records.now s.places.now s.count in
    let U = UnlistedAt s.records.now s.places.now s.count prm in (
      subst (NoteTable K) (sym c.new-seen.ensures) (table_none K),
      subst (NoteTable U) (sym c.new-free.ensures) (table_none U),
      testing-start s.records.now s.places.now s.count prm a.sheet.now.bytes.now a.sheet.now.table.now a.given.at a.given.count,
    )

pub returns-then-not-is_target : goal.returns-then-not-is_target
returns-then-not-is_target c =
    let a = c.args in
    let s = a.sorts.now in
    testing-fails s.records.now s.places.now s.count a.names.now.params.now a.sheet.now.bytes.now a.sheet.now.table.now a.given.at a.given.count
    c.loop-i.invariant.2 c.loop-i-test.true c.sort_at-k.ensures c.is_target.ensures.answer c.if-not-is_target.true

pub loop-i-preserved : goal.loop-i-preserved
loop-i-preserved c =
    let a = c.args in
    let s = a.sorts.now in
    let e = c.is_target.ensures in (
      e.known,
      e.free,
      testing-step s.records.now s.places.now s.count a.names.now.params.now a.sheet.now.bytes.now a.sheet.now.table.now a.given.at a.given.count
          c.loop-i.invariant.2 c.loop-i-test.true c.sort_at-k.ensures e.answer c.if-not-is_target.false,
    )

pub returns : goal.returns
returns c =
    let a = c.args in
    let s = a.sorts.now in
    testing-end s.records.now s.places.now s.count a.names.now.params.now a.sheet.now.bytes.now a.sheet.now.table.now a.given.at a.given.count
    c.loop-i.invariant.2 (omega (arith, c.loop-i-test.false))
