-- The result is that of `read_rest`, the last part of `read_sheet`.
-- Terms, then questions, then the end: the first refusal is the definition's. Each table is filled as far as its counts go.
use Rattle.std.specs.Prelude.{ℕ, ◌≡◌, List, length}
use Rattle.std.proofs.Common.{arith, subst}
use Rattle.std.proofs.lemmas.Result.{err_from_is_err_and}
use lib.Seq.{length-take-le}
use Rattle.record.specs.Sort.{Sort}
use Rattle.sheet.specs.Sheet.{read_refused, read_terms, read_questions}
use Rattle.sheet.proofs.PassLaws.{terms-part, questions-part, rest-terms, rest-questions, rest-trails, rest-is}
use Rattle.sheet.proofs.terms.read_rest.Goals as goal

pub returns-in_err-asked : goal.returns-in_err-asked
returns-in_err-asked c = let s = c.args.s.now in
    let h = c.args.header in
    let x = c.args.start.at in
    let e = c.in_err-asked.field-0.0 in
    let p = err_from_is_err_and c.from_residual.result c.from_residual.ensures.1 in
    let many = length-take-le h.terms c.args.terms.now c.requires.terms in
    rw (p.1, p.2)
    (rest-terms s h.sorts x h.terms h.questions e
    (subst (λ (j : ℕ). (ts : List Sort) → length ts ≡ h.sorts → read_terms s ts x j ≡ read_refused e) many c.in_err-asked.ensures))

pub returns-in_err-end : goal.returns-in_err-end
returns-in_err-end c = let s = c.args.s.now in
    let h = c.args.header in
    let e = c.in_err-end.field-0.0 in
    let p = err_from_is_err_and c.from_residual-in_err-end.result c.from_residual-in_err-end.ensures.1 in
    let many = length-take-le h.terms c.args.terms.now c.requires.terms in
    let asked = length-take-le h.questions c.args.questions.now c.requires.questions in
    rw (p.1, p.2)
    (rest-questions h.questions (terms-part c.args.terms.now c.in_ok-asked.ensures (omega arith) many) e
    (subst (λ (j : ℕ). (ts : List Sort) → length ts ≡ h.sorts → read_questions s ts c.in_ok-asked.asked.at j ≡ read_refused e) asked c.in_err-end.ensures))

pub returns-then-end-s : goal.returns-then-end-s
returns-then-end-s c = let h = c.args.header in
    let many = length-take-le h.terms c.args.terms.now c.requires.terms in
    let asked = length-take-le h.questions c.args.questions.now c.requires.questions in
    rest-is h.questions (terms-part c.args.terms.now c.in_ok-asked.ensures (omega arith) many)
    (questions-part c.args.questions.now c.in_ok-end.ensures (omega arith) asked) c.if-end-s.true

pub returns : goal.returns
returns c = let h = c.args.header in
    let many = length-take-le h.terms c.args.terms.now c.requires.terms in
    let asked = length-take-le h.questions c.args.questions.now c.requires.questions in
    rest-trails h.questions (terms-part c.args.terms.now c.in_ok-asked.ensures (omega arith) many)
    (questions-part c.args.questions.now c.in_ok-end.ensures (omega arith) asked) c.if-end-s.false
