use Rattle.std.specs.Prelude.{ℕ, ◌<◌}
use Rattle.std.proofs.Common.{arith, rules, refl, sym, ap, subst, ◌∙◌}
use Rattle.record.specs.Number.{numbers_at}
use Rattle.record.specs.Numbers.{numbers_left}
use Rattle.record.specs.Kinds.{sort_number}
use Rattle.record.specs.Sort.{size, sizes}
use Rattle.apply_walk.specs.CapLaws.{capped-most}
use Rattle.apply_walk.specs.Contract.{SizeAsks, goes, answer_at, answers_at}
use Rattle.apply_walk.specs.declared.replacing.Replacing.{Replacing}
use Rattle.apply_walk.specs.Known.{Weighed}
use Rattle.apply_walk.specs.KnownLaws.{weighed-is, weighed-set}
use Rattle.apply_walk.proofs.SizeLaws.{sum-start, sum-asks, sum_more, sum-end, size-image, size-leaf, sizes-asks, size-falls, size-whole}
use Rattle.apply_walk.proofs.replacing.Replacing.+applied_size_applied_sizes.Goals as goal

asked : (r : Replacing) {k : ℕ} → k < r.count → SizeAsks r.entries.records.now r.entries.places.now r.count r.used k r.images.now
asked r h = record { reading = r.reading; known = h }

pub applied_size-returns-in-Some : goal.applied_size-returns-in-Some
applied_size-returns-in-Some t c =
    let v = c.in-Some in
    record { is = weighed-is c.args.k c.requires.weighed v.ensures.0 v.ensures.1; weighed = c.requires.weighed }

pub applied_size-returns-then-eq : goal.applied_size-returns-then-eq
applied_size-returns-then-eq t c =
    record { is = size-image (asked c.args.self.now c.requires.known) c.entry-e.result c.entry-e.ensures (search rules) c.image_of-i.ensures c.size.ensures; weighed = c.requires.weighed }

pub applied_size-returns-then-e-eq0 : goal.applied_size-returns-then-e-eq0
applied_size-returns-then-e-eq0 t c =
    record { is = size-leaf (asked c.args.self.now c.requires.known) c.entry-e.result c.entry-e.ensures (search rules) c.if-e-eq0.true; weighed = c.requires.weighed }

pub applied_size-applied_sizes-sum-requires : goal.applied_size-applied_sizes-sum-requires
applied_size-applied_sizes-sum-requires t c =
    let e = c.entry-e.result in
    let l = sizes-asks (asked c.args.self.now c.requires.known) e c.entry-e.ensures in
    (omega (arith, c.decreases, size-falls (asked c.args.self.now c.requires.known) e c.entry-e.ensures), ((l.within, l.below), c.requires.weighed))

pub applied_size-whole_size-size-requires : goal.applied_size-whole_size-size-requires
applied_size-whole_size-size-requires t c =
    let s = c.args.self.now in
    let e = c.entry-e.result in
    omega (arith, c.applied_sizes-sum.ensures.are, capped-most (sizes (answers_at s.entries.records.now s.entries.places.now s.count s.images.now (numbers_at s.entries.records.now e.parts.at e.parts.count))))

pub applied_size-remember-requires : goal.applied_size-remember-requires
applied_size-remember-requires t c =
    let s = c.args.self.now in
    let e = c.entry-e.result in
    let is = size-whole (asked c.args.self.now c.requires.known) e c.entry-e.ensures (search rules) c.names_kept-kept.ensures c.applied_sizes-sum.result c.applied_sizes-sum.ensures.are (goes (sort_number e.kind) c.names_kept-kept.result) refl c.whole_size-size.ensures in
    omega (arith, is, capped-most (size (answer_at s.entries.records.now s.entries.places.now s.count s.images.now c.args.k)))

pub applied_size-returns : goal.applied_size-returns
applied_size-returns t c =
    let a = c.args in
    let s = a.self.now in
    let e = c.entry-e.result in
    let is = size-whole (asked c.args.self.now c.requires.known) e c.entry-e.ensures (search rules) c.names_kept-kept.ensures c.applied_sizes-sum.result c.applied_sizes-sum.ensures.are (goes (sort_number e.kind) c.names_kept-kept.result) refl c.whole_size-size.ensures in
    record { is = is; weighed = subst (Weighed s.entries.records.now s.entries.places.now s.count s.images.now) (sym c.remember.ensures) (weighed-set a.k c.applied_sizes-sum.ensures.weighed is) }

pub applied_sizes-loop-k-init : goal.applied_sizes-loop-k-init
applied_sizes-loop-k-init t c =
    record { sums = sum-start (record { reading = c.args.self.now.reading; within = c.requires.list.0; below = c.requires.list.1 }) (numbers_left c.into_iter-k-iterator.result) (ap numbers_left c.into_iter-k-iterator.ensures.into_iter_gives ∙ c.numbers-k-items.ensures); weighed = c.requires.weighed }

pub applied_sizes-applied_size-one-requires : goal.applied_sizes-applied_size-one-requires
applied_sizes-applied_size-one-requires t c =
    let i = c.loop-k in
    let q = sum-asks i.invariant.sums c.in-Some.ensures.steps in
    (omega (arith, c.decreases, q.0), (q.1.known, i.invariant.weighed))

pub applied_sizes-overflow_add-sum : goal.applied_sizes-overflow_add-sum
applied_sizes-overflow_add-sum t c =
    let s = c.args.self.now in
    omega (arith, c.loop-k.invariant.sums.most, c.applied_size-one.ensures.is, capped-most (size (answer_at s.entries.records.now s.entries.places.now s.count s.images.now c.in-Some.k)))

pub applied_sizes-loop-k-preserved : goal.applied_sizes-loop-k-preserved
applied_sizes-loop-k-preserved t c =
    let i = c.loop-k in
    record { sums = sum_more i.invariant.sums c.in-Some.ensures.steps c.applied_size-one.result c.applied_size-one.ensures.is c.capped_at-sum.ensures; weighed = c.applied_size-one.ensures.weighed }

pub applied_sizes-returns : goal.applied_sizes-returns
applied_sizes-returns t c =
    let i = c.loop-k in
    record { are = sum-end c.args.parts.at c.args.parts.count i.invariant.sums c.in-None.ensures.steps.0; weighed = i.invariant.weighed }
