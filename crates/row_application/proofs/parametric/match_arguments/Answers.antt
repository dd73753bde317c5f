-- The head's names are listed in a table of zeros, and taken off again.
-- The map found is that of the names as a list.
use Rattle.row_application.proofs.CalledLaws.{fitted-add}
use Rattle.row_application.proofs.ParametricLaws.{with-asked, pattern-fits, pattern-fails}
use Rattle.row_application.proofs.parametric.match_arguments.Goals as goal

pub list-requires : goal.list-requires
list-requires c = rw c.start.ensures (fitted-add c.requires.0.fitted)

pub match_all_with-fits-requires : goal.match_all_with-fits-requires
match_all_with-fits-requires c =
    let l = rw c.start.ensures at c.list.ensures in
    let r = c.rest-arguments.ensures in
    with-asked c.requires.0 l.listed l.map.0 l.map.1 l.map.2 r.at r.count c.numbers-patterns.ensures c.numbers-targets.ensures

pub returns-then-fits-clause-call : goal.returns-then-fits-clause-call
returns-then-fits-clause-call c =
    let l = rw c.start.ensures at c.list.ensures in
    let r = c.rest-arguments.ensures in
    let u = c.unlist.ensures in
    pattern-fits c.requires.0 l.listed l.map.0 l.map.1 l.map.2 r.at r.count c.numbers-patterns.ensures c.numbers-targets.ensures _ _ c.match_all_with-fits.ensures.answer u.unlisted u.map.0 u.map.1 u.map.2 c.if-fits.true

pub returns-else-fits-clause-call : goal.returns-else-fits-clause-call
returns-else-fits-clause-call c =
    let l = rw c.start.ensures at c.list.ensures in
    let r = c.rest-arguments.ensures in
    let u = c.unlist.ensures in
    pattern-fails c.requires.0 l.listed l.map.0 l.map.1 l.map.2 r.at r.count c.numbers-patterns.ensures c.numbers-targets.ensures _ _ c.match_all_with-fits.ensures.answer u.unlisted u.map.0 u.map.1 u.map.2 c.if-fits.false
