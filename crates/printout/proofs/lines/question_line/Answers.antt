-- The line is measured first, and written only where it fits, piece by piece.
-- What is written leaves room for the pieces behind it.
use Rattle.printout_sort.specs.Wrote.{wrote-more, room-now, room-then}
use Rattle.printout.specs.LineLaws.{question-full, question-room, question-wrote}
use Rattle.printout.proofs.lines.question_line.Goals as goal

pub returns-then-room-digits-clause-line : goal.returns-then-room-digits-clause-line
returns-then-room-digits-clause-line c = question-full _ _ _ _ _ c.args.out.now.fits c.digits.ensures.0 c.answer_text_size-size.ensures.0 c.room.ensures c.if-room-digits.true

pub put_label-requires : goal.put_label-requires
put_label-requires c = room-now (question-room _ _ _ _ _ c.args.out.now.fits c.digits.ensures.0 c.answer_text_size-size.ensures.0 c.room.ensures c.if-room-digits.false)

pub put_answer-requires-clause-room : goal.put_answer-requires-clause-room
put_answer-requires-clause-room c = room-now (room-then (question-room _ _ _ _ _ c.args.out.now.fits c.digits.ensures.0 c.answer_text_size-size.ensures.0 c.room.ensures c.if-room-digits.false) c.put_label.ensures.put)

pub put_byte-requires : goal.put_byte-requires
put_byte-requires c =
    room-now (room-then (room-then (question-room _ _ _ _ _ c.args.out.now.fits c.digits.ensures.0 c.answer_text_size-size.ensures.0 c.room.ensures c.if-room-digits.false) c.put_label.ensures.put) c.put_answer.ensures.put)

pub returns-clause-line : goal.returns-clause-line
returns-clause-line c = question-wrote _ _ _ _ _ (wrote-more c.put_label.ensures.put (wrote-more c.put_answer.ensures.put c.put_byte.ensures.put))
