use Rattle.std.proofs.Common.{arith, sym, subst, ◌∙◌, ◌*◌, ◌<◌, ◌≡◌, ℕ, take, get_or-take, length-take}
use Rattle.std.specs.Prelude.{get_or}
use Rattle.page_text.specs.PageText.{KnownIs, RaisedIs}
use Rattle.page_text.specs.PageLeftLaws.{known_more, raised-sort, raised-same}
use Rattle.page_text.proofs.known_sorts.Goals.{in-Ok, in_default}
use Rattle.page_text.proofs.known_sorts.Goals as goal

pub loop-code-preserved : goal.loop-code-preserved
loop-code-preserved c =
    let i = c.loop-code.code-index in
    let m = 2 * c.args.terms in
    let code = get_or (take m c.args.rows.now) i 0 in
    let e : RaisedIs c.loop-code.most code c.match-row_of.most = elim c.match-row_of.branch [
      | in-Ok w ↦ subst (RaisedIs c.loop-code.most code) (sym (w.most-is ∙ w.max-most.ensures)) (raised-sort _ _ _ w.in-Ok.ensures.sort.0 w.in-Ok.ensures.sort.1)
      | in_default w ↦ subst (RaisedIs c.loop-code.most code) (sym w.most-is) (raised-same _ _ (λ u. absurd (omega (arith, w.in_default.ensures.refusal.1))))
    ] in
    let l : i < m = omega (arith, c.loop-code-test.true, length-take m c.args.rows.now) in
    known_more c.loop-code.invariant (subst (λ (v : ℕ). RaisedIs c.loop-code.most v c.match-row_of.most) (get_or-take m c.args.rows.now i 0 l) e)

pub returns : goal.returns
returns c =
    let m = 2 * c.args.terms in
    let e : c.loop-code.code-index ≡ m = omega (arith, c.loop-code.auto.code-index-end, c.loop-code-test.false, c.requires.terms, length-take m c.args.rows.now) in
    subst (λ (i : ℕ). KnownIs c.args.rows.now i c.loop-code.most) e c.loop-code.invariant
