-- No such name, or the walk over what remains decides, with nothing noted at first.
use Rattle.std.proofs.Common.{rules}
use Prim.Native.Nat.{ℕ}
use mathlib.Core.List.{[]}
use mathlib.Core.Path.{◌≡◌}
use mathlib.Core.Bool.{true}
use Rattle.record.specs.Decode.{sort_at}
use Rattle.substitution.specs.Premises.{parless}
use Rattle.matching_tables.specs.NoteLaws.{table_none}
use Rattle.matching_each.specs.EveryLaws.{parless-tests, all-found-by}
use Rattle.row_application.proofs.UnmadeLaws.{counts_some}
use Rattle.row_application.proofs.unmade.own_counts.Goals as goal

pub returns-then-any_own : goal.returns-then-any_own
returns-then-any_own c =
    let s = c.args.sorts.now in
    let x = c.args.names.now in
    let r = c.args.rest in
    let P : ℕ → Type 0 = λ k. parless (sort_at s.records.now s.places.now s.count k) ≡ true in
    counts_some s.records.now s.places.now s.count x.images.now x.bound.now x.many r.at r.count c.any_own.ensures c.if-any_own.true
    (all-found-by (parless-tests [] []) (λ e k q one has says. search rules) (rw c.new.ensures (table_none P)) r.at r.count c.all_each.ensures).0
