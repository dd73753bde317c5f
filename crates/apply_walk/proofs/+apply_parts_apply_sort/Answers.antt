use Rattle.std.proofs.Common.{◌≡◌, ◌+◌, ℕ, List, set, arith, rules, sym, subst}
use Rattle.store.specs.declared.Store.{Store}
use Rattle.store.specs.Changes.{Same}
use Rattle.apply_walk.specs.Made.{made-known}
use Rattle.apply_walk.specs.Contract.{answer_at}
use Rattle.apply_walk.specs.Known.{Known}
use Rattle.apply_walk.specs.KnownLaws.{known-made, known-added, known-halted, known-parts-halted}
use Rattle.apply_walk.specs.PartLaws.{KnownInv, parts-asks, parts-number, parts-halted, parts-inv-more, parts-done}
use Rattle.apply_walk.proofs.SortLaws.{sort-image, sort-leaf, sort-falls, sort-parts-ask, sort-stuck, sort-rebuild, sort-made, sort-known, sort-full}
use Rattle.apply_walk.proofs.+apply_parts_apply_sort.Goals as goal
use Rattle.apply_walk.proofs.+apply_parts_apply_sort.Goals.{apply_parts-in-Some, apply_parts-in-None+in_ok-i-in-None}

pub apply_parts-apply_sort-requires : goal.apply_parts-apply_sort-requires
apply_parts-apply_sort-requires t c =
    let p = c.loop-part in
    let q = parts-asks c.requires.asks p.invariant.along.inv c.loop-part-test.true c.from-k.ensures in
    (omega (arith, c.decreases, q.0), record { asks = q.1; known = p.invariant.along.known })

pub apply_parts-returns-in_err-i-in-None-clause-made : goal.apply_parts-returns-in_err-i-in-None-clause-made
apply_parts-returns-in_err-i-in-None-clause-made t c =
    let p = c.loop-part in
    known-parts-halted c.args.parts.now c.args.images.now c.apply_sort.new.known _ c.from_residual.result c.from_residual.ensures.0
    (parts-halted c.requires.asks p.invariant.along.inv c.loop-part-test.true c.from-k.ensures c.in_err-i-in-None.ensures.made)

pub apply_parts-overflow_cast-part : goal.apply_parts-overflow_cast-part
apply_parts-overflow_cast-part t c =
    let p = c.loop-part in
    let i = p.invariant.along in
    elim c.match-recall.branch [
      | apply_parts-in-Some w ↦
          omega (arith, w.i-is, parts-number c.requires.asks i.inv c.loop-part-test.true c.from-k.ensures (known-made i.inv.good c.from-k.result i.known w.in-Some.ensures.0 w.in-Some.ensures.1))
      | apply_parts-in-None+in_ok-i-in-None w ↦
          let v = w.in_ok-i-in-None in
          omega (arith, w.i-is, parts-number c.requires.asks i.inv c.loop-part-test.true c.from-k.ensures v.ensures.made.made)
    ]

-- What holds of a store, a table and a number holds of those that equal them.
moved : (Q : Store → List ℕ → ℕ → Type 0) {x y : Store} {ws vs : List ℕ} {i j : ℕ} → x ≡ y → ws ≡ vs → i ≡ j → Q y vs j → Q x ws i
moved Q {x} {y} {ws} {vs} {i} {j} e f g h = subst (λ (s : Store). Q s ws i) (sym e) (subst (λ (l : List ℕ). Q y l i) (sym f) (subst (Q y vs) (sym g) h))

pub apply_parts-loop-part-preserved : goal.apply_parts-loop-part-preserved
apply_parts-loop-part-preserved t c =
    let s = c.args.store.now in
    let p = c.loop-part in
    let i = p.invariant.along in
    let kept : Store → List ℕ → ℕ → Type 0 = λ (x : Store) (ws : List ℕ) (k : ℕ). Same s x × KnownInv s.records.now s.places.now s.count s.used c.args.parts.now c.args.images.now x.records.now x.places.now x.index.now ws (set p.parts p.part-index k) x.count x.used (p.part-index + 1) in
    elim c.match-recall.branch [
      | apply_parts-in-Some w ↦
          let h = moved kept w.store-is w.known-is w.i-is
          (p.invariant.same, record { inv = parts-inv-more c.requires.asks i.inv c.loop-part-test.true c.from-k.ensures (known-made i.inv.good c.from-k.result i.known w.in-Some.ensures.0 w.in-Some.ensures.1); known = i.known }) in
          record { same = h.0; along = h.1 }
      | apply_parts-in-None+in_ok-i-in-None w ↦
          let v = w.in_ok-i-in-None in
          let h = moved kept w.store-is w.known-is w.i-is
          (search rules, record { inv = parts-inv-more c.requires.asks i.inv c.loop-part-test.true c.from-k.ensures v.ensures.made.made; known = v.ensures.made.known }) in
          record { same = h.0; along = h.1 }
    ]

pub apply_parts-returns-clause-made : goal.apply_parts-returns-clause-made
apply_parts-returns-clause-made t c =
    let p = c.loop-part in
    record { made = parts-done c.requires.asks p.invariant.along.inv c.loop-part-test.false; known = p.invariant.along.known }

pub apply_sort-returns-in-Some-clause-made : goal.apply_sort-returns-in-Some-clause-made
apply_sort-returns-in-Some-clause-made t c =
    record { made = known-made c.requires.asks.ready.good c.args.k c.requires.known c.in-Some.ensures.0 c.in-Some.ensures.1; known = c.requires.known }

pub apply_sort-returns-then-eq-clause-made : goal.apply_sort-returns-then-eq-clause-made
apply_sort-returns-then-eq-clause-made t c =
    let a = c.args in
    let s = a.store.now in
    let w = sort-image c.requires.asks c.entry-e.ensures (search rules) c.image_of-image.ensures in
    record { made = w; known = subst (Known s.records.now s.places.now s.count a.images.now) (sym c.remember.ensures) (known-added w c.requires.asks.ready.table c.requires.asks.known c.requires.known) }

pub apply_sort-returns-then-e-eq0-clause-made : goal.apply_sort-returns-then-e-eq0-clause-made
apply_sort-returns-then-e-eq0-clause-made t c =
    let a = c.args in
    let s = a.store.now in
    let w = sort-leaf c.requires.asks c.entry-e.ensures (search rules) c.if-e-eq0.true in
    record { made = w; known = subst (Known s.records.now s.places.now s.count a.images.now) (sym c.remember-then-e-eq0.ensures) (known-added w c.requires.asks.ready.table c.requires.asks.known c.requires.known) }

pub apply_sort-apply_parts-requires : goal.apply_sort-apply_parts-requires
apply_sort-apply_parts-requires t c =
    (omega (arith, c.decreases, sort-falls c.requires.asks c.entry-e.ensures (search rules) c.read_numbers.ensures c.entries.ensures.records), record { asks = sort-parts-ask c.requires.asks c.entry-e.ensures (search rules) c.read_numbers.ensures c.entries.ensures.records; known = c.requires.known })

pub apply_sort-returns-in_err-apply_parts-clause-made : goal.apply_sort-returns-in_err-apply_parts-clause-made
apply_sort-returns-in_err-apply_parts-clause-made t c =
    known-halted c.args.k c.args.images.now c.apply_parts.new.known c.from_residual.result c.from_residual.ensures.0
    (sort-stuck c.requires.asks c.entry-e.ensures (search rules) c.read_numbers.ensures c.entries.ensures.records c.in_err-apply_parts.ensures.made)

pub apply_sort-rebuild-requires : goal.apply_sort-rebuild-requires
apply_sort-rebuild-requires t c =
    sort-rebuild c.requires.asks c.entry-e.ensures (search rules) c.read_numbers.ensures c.entries.ensures.records c.in_ok-apply_parts.ensures.made.made

pub apply_sort-returns-in_err-i-clause-made : goal.apply_sort-returns-in_err-i-clause-made
apply_sort-returns-in_err-i-clause-made t c =
    known-halted c.args.k c.args.images.now c.apply_parts.new.known c.from_residual-in_err-i.result c.from_residual-in_err-i.ensures.0
    (sort-full c.requires.asks c.entry-e.ensures (search rules) c.read_numbers.ensures c.entries.ensures.records c.in_ok-apply_parts.ensures.made.made c.in_err-i.ensures.made)

pub apply_sort-overflow_add-i : goal.apply_sort-overflow_add-i
apply_sort-overflow_add-i t c =
    let f = c.apply_parts.new.store in
    let d = c.rebuild.new.store in
    omega (arith, made-known f.records.now f.places.now f.count f.used (answer_at f.records.now f.places.now f.count c.args.images.now c.args.k) d.records.now d.places.now d.index.now c.in_ok-i.i d.count d.used c.in_ok-i.ensures.made, c.in_ok-i.ensures.made.good.indexed.count)

pub apply_sort-remember-requires-2 : goal.apply_sort-remember-requires-2
apply_sort-remember-requires-2 t c =
    let f = c.apply_parts.new.store in
    let d = c.rebuild.new.store in
    omega (arith, made-known f.records.now f.places.now f.count f.used (answer_at f.records.now f.places.now f.count c.args.images.now c.args.k) d.records.now d.places.now d.index.now c.in_ok-i.i d.count d.used c.in_ok-i.ensures.made, c.in_ok-i.ensures.made.good.indexed.count)

pub apply_sort-returns-clause-made : goal.apply_sort-returns-clause-made
apply_sort-returns-clause-made t c =
    let d = c.rebuild.new.store in
    let w = c.in_ok-apply_parts.ensures.made in
    let v = c.in_ok-i in
    record { made = sort-made c.requires.asks c.entry-e.ensures (search rules) c.read_numbers.ensures c.entries.ensures.records w.made v.ensures.made; known = subst (Known d.records.now d.places.now d.count c.args.images.now) (sym c.remember-2.ensures) (sort-known c.requires.asks c.entry-e.ensures (search rules) c.read_numbers.ensures c.entries.ensures.records w.made v.ensures.made w.known) }
