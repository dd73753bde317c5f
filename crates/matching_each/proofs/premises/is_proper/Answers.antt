-- A sort without parts by its entry; any other by the walk from an empty table, by the law of its test.
use Rattle.std.proofs.Common.{rules, [], ℕ, ◌≡◌, ◌∙◌, sym, subst, true}
use Rattle.matching_tables.specs.Notes.{NoteTable}
use Rattle.matching_tables.specs.Words.{one-in}
use Rattle.record.specs.Decode.{sort_at}
use Rattle.substitution.specs.Premises.{proper}
use Rattle.matching_tables.specs.NoteLaws.{table_none}
use Rattle.matching_each.specs.Every.{Proper, passing}
use Rattle.matching_each.specs.EveryLaws.{proper-tests, every-is, found-by}
use Rattle.matching_each.proofs.EachLaws.{node-only}
use Rattle.matching_each.proofs.premises.is_proper.Goals as goal

pub returns-then-a-eq0 : goal.returns-then-a-eq0
returns-then-a-eq0 c =
    let s = c.args.sorts.now in
    let one = one-in s c.requires in
    let h = c.proper.ensures.node s.records.now s.places.now s.count c.args.k one c.entry-a.ensures in
    node-only one c.entry-a.ensures (passing Proper [] []) h c.if-a-eq0.true ∙ every-is (proper-tests [] []) (sort_at s.records.now s.places.now s.count c.args.k)

pub each-requires : goal.each-requires
each-requires c = record { one = one-in c.args.sorts.now c.requires; asked = λ r k one h. search rules }

pub returns : goal.returns
returns c =
    let s = c.args.sorts.now in
    let P : ℕ → Type 0 = λ i. proper (sort_at s.records.now s.places.now s.count i) ≡ true in
    (found-by (proper-tests [] []) (λ r k q one h s. search rules) (subst (NoteTable P) (sym c.new-seen.ensures) (table_none P)) c.args.k c.each.ensures).0
