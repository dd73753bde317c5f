-- The sorts, then the rest: the result is that of `read_records`.
-- The table gives as many trees as there are sorts, so the rest's promise fits them.
use Rattle.std.proofs.lemmas.Result.{err_from_is_err_and}
use Rattle.sheet.proofs.HeaderLaws.{records-stop, records-refused, records-read}
use Rattle.sheet.proofs.read_records.Goals as goal

pub returns-in_err-start-clause-read : goal.returns-in_err-start-clause-read
returns-in_err-start-clause-read c = let h = c.args.header in
    let p = err_from_is_err_and c.from_residual.result c.from_residual.ensures.1 in
    rw (p.1, p.2) (λ l k. records-stop c.args.s.now l h.sorts h.terms h.questions c.in_err-start.field-0.0 (c.in_err-start.ensures.read l k))

pub returns-in_err-read_rest-clause-read : goal.returns-in_err-read_rest-clause-read
returns-in_err-read_rest-clause-read c = let h = c.args.header in
    let p = err_from_is_err_and c.from_residual-in_err-read_rest.result c.from_residual-in_err-read_rest.ensures.1 in
    rw (p.1, p.2) (records-refused c.in_ok-start.ensures.read h.terms h.questions c.in_err-read_rest.field-0.0 c.in_err-read_rest.ensures)

pub returns-clause-read : goal.returns-clause-read
returns-clause-read c = let h = c.args.header in
    records-read c.in_ok-start.ensures.read h.terms h.questions c.in_ok-read_rest.ensures
