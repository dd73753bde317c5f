-- Once its parts are gathered, what the table has noted of the record is its row; else what is judged is.
-- That is noted then.
use Rattle.std.proofs.Common.{◌≡◌, ◌∙◌, ap, arith, rules, true, false, Err}
use Rattle.row_rules.specs.declared.Cause.TheVariants.{Below}
use Rattle.row_answer.specs.Answer.{answer}
use Rattle.row_memo.proofs.RowLaws.{column-few, parts-in, looked-in, asks-in, row_below, look-asks, row-coded, row-recalled, site-asks, lack-asks, row-crowded, note-asks, row_made}
use Rattle.row_memo.proofs.row.Goals as goal

pub returns-in_err-parts_judged-clause-row : goal.returns-in_err-parts_judged-clause-row
returns-in_err-parts_judged-clause-row g c =
    let below : c.from_residual.result ≡ Err Below = search rules in
    row_below c.requires (parts-in c.column-column.ensures {t = false} c.in_err-parts_judged.ensures.parts) (ap (answer c.args.store.now) below)

pub looked_up-look-requires-clause-asks : goal.looked_up-look-requires-clause-asks
looked_up-look-requires-clause-asks g c =
    let k = c.column-column.ensures in
    let e = c.entries.ensures in
    let d = parts-in k {t = true} c.in_ok-parts_judged.ensures.parts in
    rw (e.records, e.places) (asks-in k (look-asks c.requires c.in_ok-parts_judged.ensures.same.1 d (omega (arith, k, column-few c.column-column.result))))

pub row_again-requires : goal.row_again-requires
row_again-requires g c =
    let k = c.column-column.ensures in
    let d = parts-in k {t = true} c.in_ok-parts_judged.ensures.parts in
    row-coded c.requires c.in_ok-parts_judged.ensures.same.1 d (looked-in k c.looked_up-look.ensures.looked) c.in-Noted.code c.in-Noted.is

pub returns-in-Noted-clause-row : goal.returns-in-Noted-clause-row
returns-in-Noted-clause-row g c =
    let k = c.column-column.ensures in
    let d = parts-in k {t = true} c.in_ok-parts_judged.ensures.parts in
    let s = c.args.store.now in
    row-recalled c.requires c.in_ok-parts_judged.ensures.same.1 d (looked-in k c.looked_up-look.ensures.looked) c.in-Noted.code c.in-Noted.is (c.row_again.ensures s.count s.used)

pub judge-made-requires : goal.judge-made-requires
judge-made-requires g c =
    let k = c.column-column.ensures in
    let p = c.in_ok-parts_judged.ensures in
    let d = parts-in k {t = true} p.parts in
    let l = looked-in k c.looked_up-look.ensures.looked in
    record {
      site = site-asks c.requires p.same.1 d;
      count = p.count;
      lack = rw (p.count) (lack-asks c.requires p.same.1 d l);
      crowded = rw (p.count) (λ t i. row-crowded c.requires p.same.1 d l i);
    }

pub row_noted-requires : goal.row_noted-requires
row_noted-requires g c =
    let k = c.column-column.ensures in
    let p = c.in_ok-parts_judged.ensures in
    let d = parts-in k {t = true} p.parts in
    note-asks c.requires p.same.1 d (looked-in k c.looked_up-look.ensures.looked) c.judge-made.ensures.row

pub returns : goal.returns
returns g c =
    let k = c.column-column.ensures in
    let p = c.in_ok-parts_judged.ensures in
    let m = c.judge-made.ensures in
    let l = c.looked_up-look.ensures in
    let n = c.row_noted.ensures in
    let d = parts-in k {t = true} p.parts in
    record {
      same = m.same;
      names = m.names;
      args = (m.args.0 ∙ p.same.0, m.args.1 ∙ p.same.1);
      past = (n.same.0 ∙ l.same.0, n.same.1 ∙ l.same.1);
      row = row_made c.requires p.same.1 d (looked-in k l.looked) m.row n.noted;
    }
