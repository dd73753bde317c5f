-- Each kind is one case of the definition.
-- The tables of names are those that were lent.
use Rattle.std.proofs.Common.{◌+◌, ◌*◌, ◌≡◌, arith, ap, refl}
use Rattle.record.specs.Kinds.{question_number}
use Rattle.row_answer.specs.Answer.{answer}
use Rattle.row_answer.specs.AnswerLaws.{answer-code}
use Rattle.questions.proofs.WordLaws.{pair-asked, answered-0, answered-matched, answered-2}
use Rattle.questions.proofs.answer_question.Goals as goal

pub sort_at-p-requires : goal.sort_at-p-requires
sort_at-p-requires c =
    let q = c.args.question in
    let h = c.requires.asked in
    let two = c.requires.two (ap question_number c.in-Compatible.is) in
    let first : q.list.at + 2 * 0 ≡ q.list.at = omega arith in
    record { within = omega (arith, h.within, two); inside = rw first at (h.inside 0 (omega (arith, two))) }

pub answer_compatible-requires : goal.answer_compatible-requires
answer_compatible-requires c =
    let a = pair-asked c.requires (ap question_number c.in-Compatible.is) c.sort_at-p.ensures c.sort_at-t.ensures in
    rw c.sorts.ensures.count (a.left, a.right)

pub returns-in-Compatible-clause-answer : goal.returns-in-Compatible-clause-answer
returns-in-Compatible-clause-answer c =
    let e = c.sorts.ensures in
    answered-0 c.requires (ap question_number c.in-Compatible.is) c.sort_at-p.ensures c.sort_at-t.ensures (rw (e.records, e.places, e.count) at c.answer_compatible.ensures)

pub code-requires : goal.code-requires
code-requires c = answer-code _ _ _ _ _ _ _ (answer c.answer_match.new.store c.answer_match.result) c.answer_match.ensures.answer.answer

pub returns-in-Match-clause-answer : goal.returns-in-Match-clause-answer
returns-in-Match-clause-answer c =
    let t = c.answer_match.new.store in
    let y = c.answer_match.new.names in
    answered-matched c.requires t.records.now t.places.now t.index.now y.params.now y.images.now y.bound.now (record { code = c.code.ensures; count = refl; used = refl }) c.in-Match.is c.answer_match.ensures.answer

pub code-requires-in-Apply : goal.code-requires-in-Apply
code-requires-in-Apply c = answer-code _ _ _ _ _ _ _ (answer c.answer_apply.new.store c.answer_apply.result) c.answer_apply.ensures.answer.0.answer

pub returns-in-Apply-clause-answer : goal.returns-in-Apply-clause-answer
returns-in-Apply-clause-answer c =
    let t = c.answer_apply.new.store in
    let y = c.answer_apply.new.names in
    let a = c.answer_apply.ensures.answer in
    answered-2 c.requires t.records.now t.places.now t.index.now y.params.now y.images.now y.bound.now (record { code = c.code-in-Apply.ensures; count = refl; used = refl }) (ap question_number c.in-Apply.is) a.0 a.1 a.2
