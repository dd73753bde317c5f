-- The arguments matched with the names listed, and what remains looked through, with nothing noted at first.
-- Each way out is a case of the definition, for every test that the table stands for.
use Rattle.std.proofs.Common.{arith, subst, sym}
use Prim.Native.Nat.{ℕ, ◌-◌}
use mathlib.Core.List.{List}
use Rattle.matching_tables.specs.Notes.{NoteTable}
use Rattle.matching_tables.specs.NoteLaws.{table_none}
use Rattle.row_application.specs.Contract.{SettledAt}
use Rattle.row_application.proofs.CalledLaws.{FitMatched, match-asked, fit-misfits, fit-matched, settled-asked, fit-open, fit-done}
use Rattle.row_application.proofs.called.fit_listed.Goals as goal
use Rattle.row_application.proofs.called.fit_listed.Goals.{After-skip}

matched : (c : After-skip) → let s = c.args.sorts.now in let x = c.args.names.now in let u = c.args.list in let a = c.args.args.now in let y = c.matches_all.new.names in
    FitMatched s.records.now s.places.now s.count x.params.now x.images.now x.bound.now u.at u.count a.bytes.now (a.count - 1) y.params.now y.images.now y.bound.now y.many c.skip.result.at c.skip.result.count
matched c =
    let h = c.requires in
    let r = c.rest-arguments.ensures in
    fit-matched h.0 h.1 r.at r.count c.numbers-patterns.ensures c.numbers-targets.ensures _ _ c.matches_all.ensures.answer c.if-not-matches_all.false c.matches_all.ensures.params
    (omega (arith, c.skip.ensures.at, r.count)) (omega (arith, c.skip.ensures.count, r.count))

pub matches_all-requires : goal.matches_all-requires
matches_all-requires c =
    let h = c.requires in
    let r = c.rest-arguments.ensures in
    match-asked h.0 h.1 r.at r.count c.numbers-patterns.ensures c.numbers-targets.ensures

pub returns-then-not-matches_all-clause-fit : goal.returns-then-not-matches_all-clause-fit
returns-then-not-matches_all-clause-fit c =
    let h = c.requires in
    let r = c.rest-arguments.ensures in (
      fit-misfits h.0 h.1 r.at r.count c.numbers-patterns.ensures c.numbers-targets.ensures _ _ c.matches_all.ensures.answer c.if-not-matches_all.true,
      c.matches_all.ensures.params,
    )

pub all_settled-requires-clause-asked : goal.all_settled-requires-clause-asked
all_settled-requires-clause-asked c = settled-asked (matched (goal.at.all_settled-requires-clause-asked c).After-skip)

pub all_settled-requires-clause-noted : goal.all_settled-requires-clause-noted
all_settled-requires-clause-noted c =
    let s = c.args.sorts.now in
    let y = c.matches_all.new.names in
    let P : ℕ → Type 0 = SettledAt s.records.now s.places.now s.count y.params.now y.images.now in
    subst (λ (l : List ℕ). NoteTable P l) (sym c.new.ensures) (table_none P)

pub returns-then-not-all_settled-clause-fit : goal.returns-then-not-all_settled-clause-fit
returns-then-not-all_settled-clause-fit c =
    let f = matched (goal.at.returns-then-not-all_settled-clause-fit c).After-skip in
    (fit-open f c.all_settled.ensures.found c.if-not-all_settled.true, c.matches_all.ensures.params)

pub returns-clause-fit : goal.returns-clause-fit
returns-clause-fit c =
    let f = matched (goal.at.returns-clause-fit c).After-skip in
    (fit-done f c.all_settled.ensures.found c.if-not-all_settled.false, c.matches_all.ensures.params)
