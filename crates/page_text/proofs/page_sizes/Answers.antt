-- What judging left has the rows that are known; the table gets the sizes of the sorts that they name.
-- These are sorts of the store, so their records are well formed.
use Rattle.std.proofs.Common.{arith}
use Rattle.std.specs.Prelude.{replicate}
use Rattle.page_text.specs.PageText.{PageStore}
use Rattle.page_text.specs.PageLeftLaws.{page-store, fewer-judged, sizes-ask}
use Rattle.page_text.proofs.page_sizes.Goals as goal
use Rattle.page_text.proofs.page_sizes.Goals.{After-question_kinds-terms}

left : (c : After-question_kinds-terms) → PageStore c.args.sheet.now.bytes.now c.args.sheet.now.entries.records.now c.args.sheet.now.entries.places.now c.args.sheet.now.rows.now c.question_kinds-terms.result.terms
left c = page-store _ _ _ _ _ c.requires.buffers.left (replicate 1024 0) _ _ c.question_kinds-terms.ensures

pub known_sorts-many-requires : goal.known_sorts-many-requires
known_sorts-many-requires c =
    let good = (left (goal.at.known_sorts-many-requires c).After-question_kinds-terms).good in
    record { terms = good.terms; few = good.few }

pub sort_sizes-requires : goal.sort_sizes-requires
sort_sizes-requires c =
    let st = left (goal.at.sort_sizes-requires c).After-question_kinds-terms in
    let k = c.known_sorts-many.ensures in
    sizes-ask _ (fewer-judged st.good k) (omega (arith, k.least st.many st.good.row, st.few, c.requires.room))

pub returns : goal.returns
returns c =
    let st = left (goal.at.returns c).After-question_kinds-terms in
    let k = c.known_sorts-many.ensures in
    record { known = c.known_sorts-many.result; judged = fewer-judged st.good k; table = c.sort_sizes.ensures; short = c.requires.buffers.short; store = st }
