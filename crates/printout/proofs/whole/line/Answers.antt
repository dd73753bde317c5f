-- A line of a term or of a question, by its number: what the line asks is what a judged sheet has.
-- The line written is that of the number.
use Rattle.printout.specs.LineAsks.{shown}
use Rattle.printout.specs.WholeLaws.{term-line-asks, question-line-asks, term-line-has, question-line-has}
use Rattle.printout.proofs.whole.line.Goals as goal

pub term_line-requires : goal.term_line-requires
term_line-requires c = term-line-asks _ _ _ _ _ _ _ _ c.requires c.if-k-terms.true

pub returns-then-k-terms-clause-line : goal.returns-then-k-terms-clause-line
returns-then-k-terms-clause-line c =
    let o = c.args.out.now in
    let w = c.term_line.new.out in
    term-line-has _ _ _ _ _ _ _ c.args.k o.bytes.now o.end w.bytes.now (shown w.end c.term_line.result) c.if-k-terms.true c.term_line.ensures.line

pub question_line-requires : goal.question_line-requires
question_line-requires c = rw c.from-kind.ensures (question-line-asks _ _ _ _ _ _ _ _ c.requires c.if-k-terms.false)

pub returns-clause-line : goal.returns-clause-line
returns-clause-line c =
    let o = c.args.out.now in
    let w = c.question_line.new.out in
    let h = rw c.from-kind.ensures at c.question_line.ensures.line in
    question-line-has _ _ _ _ _ _ _ c.args.k o.bytes.now o.end w.bytes.now (shown w.end c.question_line.result) c.if-k-terms.false c.requires.number h
