-- The head of the sort k, for every count of the store.
-- The kinds of the entry, and of the one under a Par, decide.
use Rattle.std.proofs.Common.{◌≡◌, arith, rules}
use Rattle.record.specs.Kinds.{sort_number}
use Rattle.store.specs.Walk.{entry-asks}
use Rattle.row_answer.specs.Heads.{head_plain, body-place, body_below, body_entry, head-under, head-none}
use Rattle.row_answer.proofs.heads.head_of.Goals as goal

pub returns-then-eq : goal.returns-then-eq
returns-then-eq c =
    let e = c.args.entries in
    let it : sort_number c.entry-a.result.kind ≡ 0 = search rules in
    λ m o l. head_plain e.records.now e.places.now m c.args.k o l c.entry-a.result (c.entry-a.ensures m o l) it

pub number-requires : goal.number-requires
number-requires c =
    let e = c.args.entries in
    let n = c.requires.0 in
    let h = c.requires.1 in
    let it : sort_number c.entry-a.result.kind ≡ 12 = search rules in
    body-place e.records.now e.places.now n c.args.k h.stored h.known c.entry-a.result (c.entry-a.ensures n h.stored h.known) it

pub entry-b-requires : goal.entry-b-requires
entry-b-requires c =
    let e = c.args.entries in
    let n = c.requires.0 in
    let h = c.requires.1 in
    let it : sort_number c.entry-a.result.kind ≡ 12 = search rules in
    let q = body_below e.records.now e.places.now n c.args.k h.stored h.known c.entry-a.result (c.entry-a.ensures n h.stored h.known) it in
    entry-asks e.records.now e.places.now n c.number.result h.stored (omega (arith, q, h.known, c.number.ensures.value))

pub returns-then-ne-2 : goal.returns-then-ne-2
returns-then-ne-2 c =
    let e = c.args.entries in
    let r = c.entry-a.result in
    let par : sort_number r.kind ≡ 12 = search rules in
    let other : sort_number c.entry-b.result.kind ≡ 0 → ⊥ = search rules in
    λ m o l. head-none e.records.now e.places.now m c.args.k o l r (c.entry-a.ensures m o l) par c.entry-b.result
    (body_entry e.records.now e.places.now m c.args.k o l r (c.entry-a.ensures m o l) par c.number.result c.number.ensures.value c.entry-b.result c.entry-b.ensures) other

pub returns : goal.returns
returns c =
    let e = c.args.entries in
    let r = c.entry-a.result in
    let par : sort_number r.kind ≡ 12 = search rules in
    let it : sort_number c.entry-b.result.kind ≡ 0 = search rules in
    λ m o l. head-under e.records.now e.places.now m c.args.k o l r (c.entry-a.ensures m o l) par c.entry-b.result
    (body_entry e.records.now e.places.now m c.args.k o l r (c.entry-a.ensures m o l) par c.number.result c.number.ensures.value c.entry-b.result c.entry-b.ensures) it
