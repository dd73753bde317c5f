-- Whether a Var may carry the sort: a Par is taken off once, over a Function.
use Rattle.std.proofs.Common.{◌≡◌, eqb, true, false, rules, arith, ◌∙◌}
use Rattle.record.specs.Kinds.{sort_number}
use Rattle.matching_tables.specs.Words.{one-in}
use Rattle.check_row.proofs.SingleLaws.{kind-read, carried-plain, body-place, body-known, body-asks, carried-no, carried-par}
use Rattle.check_row.proofs.single.is_carried.Goals as goal

pub returns-then-ne : goal.returns-then-ne
returns-then-ne c =
    let one = one-in c.args.sorts.now c.requires in
    let no : eqb (sort_number c.kind.result) 12 ≡ false = search rules in
    carried-plain one (kind-read one 12 c.kind.ensures) no c.is_proper.ensures

pub get-body-requires : goal.get-body-requires
get-body-requires c =
    let one = one-in c.args.sorts.now c.requires in
    let par : eqb (sort_number c.kind.result) 12 ≡ true = search rules in
    omega (arith, body-place one (kind-read one 12 c.kind.ensures) par c.entry.result c.entry.ensures)

pub kind-requires-2 : goal.kind-requires-2
kind-requires-2 c =
    let one = one-in c.args.sorts.now c.requires in
    let par : eqb (sort_number c.kind.result) 12 ≡ true = search rules in
    body-known one (kind-read one 12 c.kind.ensures) par c.entry.result c.entry.ensures c.get-body.ensures.value

pub is_proper-requires-then-eq : goal.is_proper-requires-then-eq
is_proper-requires-then-eq c =
    let one = one-in c.args.sorts.now c.requires in
    let par : eqb (sort_number c.kind.result) 12 ≡ true = search rules in
    body-known one (kind-read one 12 c.kind.ensures) par c.entry.result c.entry.ensures c.get-body.ensures.value

pub returns-then-eq : goal.returns-then-eq
returns-then-eq c =
    let one = one-in c.args.sorts.now c.requires in
    let par : eqb (sort_number c.kind.result) 12 ≡ true = search rules in
    let body = body-asks one (kind-read one 12 c.kind.ensures) par c.entry.result c.entry.ensures c.get-body.ensures.value in
    let function : eqb (sort_number c.kind-2.result) 0 ≡ true = search rules in
    carried-par one (kind-read one 12 c.kind.ensures) par c.entry.result c.entry.ensures c.get-body.ensures.value (kind-read body 0 c.kind-2.ensures) function
    c.is_proper-then-eq.ensures

pub returns-else-eq : goal.returns-else-eq
returns-else-eq c =
    let one = one-in c.args.sorts.now c.requires in
    let par : eqb (sort_number c.kind.result) 12 ≡ true = search rules in
    let body = body-asks one (kind-read one 12 c.kind.ensures) par c.entry.result c.entry.ensures c.get-body.ensures.value in
    let other : eqb (sort_number c.kind-2.result) 0 ≡ false = search rules in
    c.if-eq.false
    ∙ carried-no one (kind-read one 12 c.kind.ensures) par c.entry.result c.entry.ensures c.get-body.ensures.value (kind-read body 0 c.kind-2.ensures) other
