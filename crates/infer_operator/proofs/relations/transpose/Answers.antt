-- The columns of the first argument, the last first; Panics where it has none.
use Rattle.std.proofs.Common.{◌≡◌, List, ℕ, length, Some, Err, rules, refl, sym, ap, ◌∙◌, arith}
use Rattle.record.specs.Sort.{Sorts, end, set, tuple}
use Rattle.record.specs.Decode.{sort_at}
use Rattle.row_rules.specs.Verdict.{sort}
use Rattle.row_rules.specs.declared.Cause.TheVariants.{Panics}
use Rattle.row_answer.specs.Asks.{StoredListAsks}
use Rattle.row_answer.specs.AnswerLaws.{judged-as}
use Rattle.infer_rules.specs.Inferred.{transpose_of, over_columns, relation, backwards}
use Rattle.infer_operator.specs.Asks.{sorts_in}
use Rattle.infer_operator.specs.Relations.{ColumnsIs}
use Rattle.infer_operator.proofs.AnswerWays.{answer-passed, first-then, first-panics}
use Rattle.infer_operator.proofs.RelationLaws.{back-put, columns-missing, columns-read, head-asks, head-columns}
use Rattle.infer_operator.proofs.relations.transpose.Goals as goal
use Rattle.infer_operator.proofs.relations.transpose.Goals.{After-columns_of, In_ok-columns, After-put_backwards}

-- What was read of the first argument; its columns; and the list that they were put into.
read : (c : After-columns_of) → let s = c.args.store.now in ColumnsIs s.records.now s.places.now s.count (sort_at s.records.now s.places.now s.count c.in_ok-k.k) c.columns_of.result
read c =
    let z = c.entries-entries in
    head-columns z.result c.args.store.now z.ensures.records z.ensures.places c.args.args.now c.argument.ensures.value c.in_ok-k.was c.requires c.columns_of.result c.columns_of.ensures

found : (c : In_ok-columns) → let s = c.args.store.now in ColumnsIs s.records.now s.places.now s.count (sort_at s.records.now s.places.now s.count c.in_ok-k.k) (Some c.in_ok-columns.columns)
found c =
    let s = c.args.store.now in
    columns-read s.records.now s.places.now s.count c.in_ok-k.k c.columns_of.result (read (goal.at.In_ok-columns c).After-columns_of) (sym c.ok_or.ensures.value ∙ c.in_ok-columns.was)

put : (c : After-put_backwards)
    → let s = c.args.store.now in
    let a = c.put_backwards.new.args in
    let x = c.in_ok-columns.columns in
    StoredListAsks s.records.now s.places.now s.index.now s.count s.used a.bytes.now a.count
    × (sorts_in s.records.now s.places.now s.count a.bytes.now 3 a.count ≡ backwards (sorts_in s.records.now s.places.now s.count s.records.now x.at x.count) end)
put c =
    let w = c.put_backwards.ensures in
    back-put c.args.store.now.good (found (goal.at.After-put_backwards c).In_ok-columns).1 _ _ c.entries-entries.ensures.records w.put w.count (omega (arith, c.requires.room, w.same.1))

pub returns-in_err-k-clause-answer : goal.returns-in_err-k-clause-answer
returns-in_err-k-clause-answer c = first-panics c.args.store.now c.args.args.now c.argument.ensures.value c.in_err-k.was transpose_of refl (search rules)

pub columns_of-requires : goal.columns_of-requires
columns_of-requires c =
    let z = c.entries-entries in
    head-asks z.result c.args.store.now z.ensures.records z.ensures.places c.args.args.now c.argument.ensures.value c.in_ok-k.was c.requires

pub returns-in_err-columns-clause-answer : goal.returns-in_err-columns-clause-answer
returns-in_err-columns-clause-answer c =
    let s = c.args.store.now in
    let e : c.from_residual-in_err-columns.result ≡ Err Panics = search rules in
    let is = read (goal.at.returns-in_err-columns-clause-answer c).After-columns_of in
    answer-passed s e
    (first-then s c.args.args.now c.argument.ensures.value c.in_ok-k.was transpose_of
    ∙ ap (over_columns (λ xs. relation (backwards xs end))) (columns-missing s.records.now s.places.now s.count c.in_ok-k.k c.columns_of.result is (sym c.ok_or.ensures.value ∙ c.in_err-columns.was)))

pub put_backwards-requires : goal.put_backwards-requires
put_backwards-requires c =
    let stand = (found (goal.at.put_backwards-requires c).In_ok-columns).1 in
    record {
      within = omega (arith, stand.within, ap (λ (b : List ℕ). length b) c.entries-entries.ensures.records);
      room = omega (arith, c.requires.room, stand.few);
      low = omega arith;
      few = stand.few;
    }

pub relation-requires : goal.relation-requires
relation-requires c = (put (goal.at.relation-requires c).After-put_backwards).0

pub returns-clause-answer : goal.returns-clause-answer
returns-clause-answer c =
    let here = goal.at.returns-clause-answer c in
    judged-as
    (first-then c.args.store.now c.args.args.now c.argument.ensures.value c.in_ok-k.was transpose_of
    ∙ ap (over_columns (λ xs. relation (backwards xs end))) (found here.In_ok-columns).0
    ∙ ap (λ (ss : Sorts). sort (set (tuple ss))) (sym (put here.After-put_backwards).1))
    c.relation.ensures.answer
