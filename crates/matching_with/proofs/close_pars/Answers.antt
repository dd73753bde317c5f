use Rattle.std.proofs.Common.{ℕ, ◌<◌, arith, refl, sym, subst, ◌∙◌, add-one}
use Rattle.matching_with.proofs.WayLaws.{Closing, closing-start, closing-some, closing-last, closing-asks, closing-step, closing_end}
use Rattle.matching_with.proofs.close_pars.Goals as goal

pub loop-i-init : goal.loop-i-init
loop-i-init c = (closing-start c.requires, (refl, refl, refl), (refl, refl, refl))

pub entry-e-requires : goal.entry-e-requires
entry-e-requires c = c.loop-i.invariant.0.known

pub unlist-requires : goal.unlist-requires
unlist-requires c =
    let l : c.loop-i._i < c.args.steps = omega arith in
    closing-asks c.requires c.loop-i.invariant.0 l c.entry-e.result c.entry-e.ensures

pub last-k-requires : goal.last-k-requires
last-k-requires c =
    let l : c.loop-i._i < c.args.steps = omega arith in
    let v = c.loop-i.invariant.0 in
    let some = closing-some c.requires v l c.entry-e.result c.entry-e.ensures in
    record { some = some; within = omega (arith, some, closing-last c.requires v l c.entry-e.result c.entry-e.ensures) }

pub loop-i-preserved : goal.loop-i-preserved
loop-i-preserved c =
    let s = c.args.sorts.now in
    let i = c.loop-i in
    let l : i._i < c.args.steps = omega arith in
    let m = c.unlist.ensures.map in
    let n = c.unlist.ensures.same in
    let v = i.invariant in (
      subst (λ (z : ℕ). Closing s.records.now s.places.now s.count c.args.names.now.params.now c.args.p c.args.steps c.unlist.new.self.params.now c.last-k.result z) (sym (add-one i._i))
          (closing-step c.requires v.0 l c.entry-e.result c.entry-e.ensures c.unlist.ensures.unlisted c.last-k.ensures),
      (m.0 ∙ v.1.0, m.1 ∙ v.1.1, m.2 ∙ v.1.2),
      (n.0 ∙ v.2.0, n.1 ∙ v.2.1, n.2 ∙ v.2.2),
    )

pub returns-clause-closed : goal.returns-clause-closed
returns-clause-closed c = closing_end c.loop-i.invariant.0 (omega arith)
