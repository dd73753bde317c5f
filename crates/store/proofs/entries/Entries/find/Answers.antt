use Rattle.std.proofs.Common.{arith, sym, ◌∙◌, true≢false}
use Rattle.store.proofs.FindLaws.{record-asks, find-start, find-low, find-known, find-step, find-less, find-end, find-slot}
use Rattle.store.proofs.entries.Entries.find.Goals as goal

pub loop-k-init : goal.loop-k-init
loop-k-init c = λ m o. find-start o c.hash-h.ensures

pub offset_bounds-index-slot : goal.offset_bounds-index-slot
offset_bounds-index-slot c = omega (arith, (c.loop-k.invariant c.requires.0 c.requires.1).low)

pub bounds-index-slot : goal.bounds-index-slot
bounds-index-slot c = omega (arith, (c.loop-k.invariant c.requires.0 c.requires.1).low, c.requires.1.indexed.table)

pub record_is-requires : goal.record_is-requires
record_is-requires c = let l = c.loop-k in
    let asks = c.requires.1 in
    record-asks asks c.in-Some.k (find-known asks l.rest l.deep c.in-Some.k (omega (arith, c.in-Some.ensures)) (l.invariant c.requires.0 asks))

pub returns-then-record_is : goal.returns-then-record_is
returns-then-record_is c = let l = c.loop-k in
    λ m o. (find-known o l.rest l.deep c.in-Some.k (omega (arith, c.in-Some.ensures)) (l.invariant m o), c.record_is.ensures.only c.if-record_is.true)

pub overflow_mul-slot : goal.overflow_mul-slot
overflow_mul-slot c = let l = c.loop-k in
    let asks = c.requires.1 in
    omega (arith, find-low asks l.rest l.deep (l.invariant c.requires.0 asks), c.in-Some.ensures, asks.indexed.count)

pub overflow_add-slot : goal.overflow_add-slot
overflow_add-slot c = let l = c.loop-k in
    let asks = c.requires.1 in
    omega (arith, find-low asks l.rest l.deep (l.invariant c.requires.0 asks), c.in-Some.ensures, asks.indexed.count)

pub overflow_add-slot-in-Some : goal.overflow_add-slot-in-Some
overflow_add-slot-in-Some c = let l = c.loop-k in
    let asks = c.requires.1 in
    omega (arith, find-low asks l.rest l.deep (l.invariant c.requires.0 asks), c.in-Some.ensures, asks.indexed.count)

pub overflow_add-deep : goal.overflow_add-deep
overflow_add-deep c = let f = c.loop-k.invariant c.requires.0 c.requires.1 in
    omega (arith, f.steps, f.low)

pub loop-k-smaller : goal.loop-k-smaller
loop-k-smaller c = let l = c.loop-k in
    let asks = c.requires.1 in
    find-less asks l.rest l.deep c.in-Some.k (omega (arith, c.in-Some.ensures)) (l.invariant c.requires.0 asks)

pub loop-k-preserved : goal.loop-k-preserved
loop-k-preserved c = let l = c.loop-k in
    λ m o.
    find-step o l.rest l.deep c.in-Some.k (omega (arith, c.in-Some.ensures)) (l.invariant m o)
    (λ e. true≢false (sym (c.record_is.ensures.all e) ∙ c.if-record_is.false)) c.refilled-rest.result c.refilled-rest.ensures

pub returns : goal.returns
returns c = let l = c.loop-k in
    λ m o.
    (find-end o l.rest l.deep (omega (arith, c.in_default.ensures)) (l.invariant m o), find-slot o l.rest l.deep (omega (arith, c.in_default.ensures)) (l.invariant m o))
