-- The walk, by the law of its test, for every list of names that the table lists; there is one.
use Rattle.std.proofs.Common.{rules, [], ◌∙◌}
use Prim.Native.Nat.{ℕ}
use mathlib.Core.Path.{sym}
use Rattle.record.specs.Sort.{Sort}
use Rattle.record.specs.Decode.{sort_at}
use Rattle.matching_tables.specs.TableLaws.{lists-some}
use Rattle.matching_tables.specs.NoteLaws.{table-as}
use Rattle.matching_each.specs.Every.{Unlisted, passing}
use Rattle.matching_each.specs.EveryLaws.{unlisted-tests, every-is, entry-asked}
use Rattle.matching_each.proofs.premises.is_unlisted.Goals as goal

pub each-requires : goal.each-requires
each-requires c =
    record { one = c.requires.0.one; asked = λ r k one h. let q = entry-asked {t = Unlisted} {d = []} (record { listed = c.requires.0.table; bound = tt }) r k one h in search rules }

pub returns : goal.returns
returns c =
    let s = c.args.sorts.now in
    let prm = c.args.names.now.params.now in
    let at : ℕ → Sort = sort_at s.records.now s.places.now s.count in
    let (ns, h) = lists-some prm c.requires.0.table in
    let old = table-as (λ i q. every-is (unlisted-tests h []) (at i) ∙ q ns h) c.requires.1 in
    let e = c.each.ensures (passing Unlisted prm []) (λ r k q one h s. search rules) old in
    (λ ns h. e.answer ∙ every-is (unlisted-tests h []) (at c.args.k), table-as (λ i q ns h. sym (every-is (unlisted-tests h []) (at i)) ∙ q) e.noted)
