-- Whether every pair's sort is proper.
use Rattle.std.proofs.Common.{rules, tests, ◌≡◌, ◌<◌, true, false, length, get_or}
use Rattle.std.proofs.lemmas.Iterator.{cases_from_all}
use Rattle.std.proofs.lemmas.Iterator.Adapters.{serves_from_places}
use Rattle.record.specs.Numbers.{pairs-yield}
use Rattle.matching_tables.specs.Usable.{OneAsks}
use Rattle.check_row.proofs.BinderLaws.{pair_proper, pair_in, pair_asks, proper_by}
use Rattle.check_row.proofs.binder.all_proper.Goals as goal

pub all-requires-clause-callable : goal.all-requires-clause-callable
all-requires-clause-callable c =
    let s = c.args.sorts.now in
    let tbl = c.args.sheet.now.table.now in
    serves_from_places (pairs-yield _ c.pairs.ensures) (λ x q k. search rules)
    (λ x k l e.
    let h : x.1 < length tbl = pair_in c.requires x k l e in
    let o : OneAsks s.records.now s.places.now s.count (get_or tbl x.1 0) = pair_asks c.requires x k l e in search rules)

pub returns : goal.returns
returns c =
    let s = c.args.sorts.now in
    let b = s.records.now in
    let p = s.places.now in
    let tbl = c.args.sheet.now.table.now in
    proper_by c.requires c.all.result
    (cases_from_all c.all.new.self _ _ (λ v. pair_proper b p s.count tbl v ≡ true) (λ v. pair_proper b p s.count tbl v ≡ false)
    c.all.ensures.ran (pairs-yield _ c.pairs.ensures) (λ x q k. search (rules, tests)) (λ x q k. search (rules, tests)))
