-- The store after is the store before with the sort added once, or there is no room for that.
-- Found: nothing changes. Absent: the record stands for a new sort, appended or refused by `push`.
use Rattle.std.proofs.Common.{refl}
use Rattle.std.proofs.lemmas.Result.{err_from_is_err_and}
use Rattle.store.specs.Good.{good-short}
use Rattle.store.proofs.InternLaws.{intern-searched, rec-plain, slot-low, found-holds, made_holds, full-means}
use Rattle.store.proofs.Store.intern.Goals as goal

pub push-requires : goal.push-requires
push-requires c = let s = c.args.self.now in
    let none = c.in-Err.ensures s.count (intern-searched c.requires) in
    record {
      used = c.requires.good.packed.used;
      short = good-short s.records.now s.places.now s.index.now s.count s.used c.requires.good;
      table = c.requires.good.indexed.table;
      count = c.requires.good.indexed.count;
      some = (rec-plain c.requires).0;
      plain = (rec-plain c.requires).1;
      weight = c.requires.small;
      slot = slot-low c.requires none;
    }

pub returns-in-Ok-clause-interned : goal.returns-in-Ok-clause-interned
returns-in-Ok-clause-interned c = found-holds c.requires c.in-Ok.k (c.in-Ok.ensures c.args.self.now.count (intern-searched c.requires))

pub invariant_of-self-in-Err : goal.invariant_of-self-in-Err
invariant_of-self-in-Err c = let s = c.args.self.now in
    let none = c.in-Err.ensures s.count (intern-searched c.requires) in
    let d = c.push.new in
    record { good = (made_holds c.requires none d.records d.places d.index c.in_ok-push-in-Err.ensures).good }

pub returns-in_ok-push-in-Err-clause-interned : goal.returns-in_ok-push-in-Err-clause-interned
returns-in_ok-push-in-Err-clause-interned c = let s = c.args.self.now in
    let none = c.in-Err.ensures s.count (intern-searched c.requires) in
    let d = c.push.new in
    made_holds c.requires none d.records d.places d.index c.in_ok-push-in-Err.ensures

pub returns-in_err-push-in-Err-clause-interned : goal.returns-in_err-push-in-Err-clause-interned
returns-in_err-push-in-Err-clause-interned c = let s = c.args.self.now in
    let none = c.in-Err.ensures s.count (intern-searched c.requires) in
    let d = c.push.new in
    let p = err_from_is_err_and c.from_residual.result c.from_residual.ensures.1 in
    let f = full-means c.requires none d.records d.places d.index c.in_err-push-in-Err.ensures in
    rw p.1 (f.0, f.1, refl, refl)
