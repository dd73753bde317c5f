use Rattle.std.proofs.Common.{arith, refl, ◌∙◌}
use Rattle.page_lines.specs.RowLaws.{height-most}
use Rattle.page_lines.specs.GoingLaws.{going_start, going-number, going_more, going-below}
use Rattle.page_lines.proofs.rows.put_rows.Goals as goal

pub loop-at-init : goal.loop-at-init
loop-at-init c = (refl, rw c.requires.empty (going_start _ _ _ _ _ _ _ _ c.requires.asks.spot))

pub row_lines-requires : goal.row_lines-requires
row_lines-requires c =
    let s = c.args.page.now in
    let l = c.loop-at in
    let g = l.invariant.1 in
    let f = c.stretch-n.ensures in
    record {
      count = s.terms;
      page = c.requires.asks.page;
      row = c.loop-at-test.true;
      low =
          omega (arith, f.most, height-most s.sizes.now s.rows.now l.at.row s.sizes32 s.rows32, c.row_height-high.ensures, g.spot.inside c.loop-at-test.true);
      few = f.few;
      fits = omega (arith, f.fits, g.long, g.within);
    }

pub loop-at-smaller : goal.loop-at-smaller
loop-at-smaller c =
    let s = c.args.page.now in
    let l = c.loop-at in
    let g = l.invariant.1 in
    let h = c.loop-at-test.true in
    let m = going-number g h c.requires.asks.page c.row_height-high.ensures c.stretch-n.ensures.most c.gone_on-at.ensures in
    omega (arith, m, going-below s.sizes.now s.rows.now s.terms l.at.row l.at.line g.spot h, c.if-n-eq0.false)

pub loop-at-preserved : goal.loop-at-preserved
loop-at-preserved c =
    let l = c.loop-at in
    let r = c.row_lines.ensures in (
      r.same ∙ l.invariant.0,
      going_more l.invariant.1 c.loop-at-test.true c.requires.asks.page c.row_height-high.ensures c.stretch-n.ensures.most c.gone_on-at.ensures r.put,
    )
