-- Each test is the definition's, in its order.
-- Where all pass, only the records are left.
use Rattle.std.proofs.Common.{arith}
use mathlib.Core.Path.{◌∙◌}
use Rattle.sheet.proofs.HeaderLaws.{CountsFew, length-under, length_over, sorts-over, terms-over, questions-over, rows_few, answers-few, records-left, records-counts}
use Rattle.sheet.proofs.read_header.Goals as goal
use Rattle.sheet.proofs.read_header.Goals.{Else-questions-gt-MOST_QUESTIONS}

-- The three counts passed their tests.
few : (c : Else-questions-gt-MOST_QUESTIONS) → CountsFew c.args.s.now
few c =
    record {
      sorts = omega (arith, c.if-sorts-gt-MOST_SORT_RECORDS.false, c.u16_at-sorts.ensures.value);
      terms = omega (arith, c.if-terms-gt-MOST_TERMS.false, c.u16_at-terms.ensures.value);
      questions = omega (arith, c.if-questions-gt-MOST_QUESTIONS.false, c.u16_at-questions.ensures.value);
    }

pub returns-then-s-lt-HEADER_LENGTH : goal.returns-then-s-lt-HEADER_LENGTH
returns-then-s-lt-HEADER_LENGTH c = let s = c.args.s.now in
    λ l er ea. length-under s l c.if-s-lt-HEADER_LENGTH.true

pub returns-then-s-gt-LONGEST_SHEET : goal.returns-then-s-gt-LONGEST_SHEET
returns-then-s-gt-LONGEST_SHEET c = let s = c.args.s.now in
    λ l er ea. length_over s l c.if-s-gt-LONGEST_SHEET.true

pub returns-then-sorts-gt-MOST_SORT_RECORDS : goal.returns-then-sorts-gt-MOST_SORT_RECORDS
returns-then-sorts-gt-MOST_SORT_RECORDS c = let s = c.args.s.now in
    λ l er ea. sorts-over s l c.if-s-lt-HEADER_LENGTH.false c.if-s-gt-LONGEST_SHEET.false (omega (arith, c.if-sorts-gt-MOST_SORT_RECORDS.true, c.u16_at-sorts.ensures.value))

pub returns-then-terms-gt-MOST_TERMS : goal.returns-then-terms-gt-MOST_TERMS
returns-then-terms-gt-MOST_TERMS c = let s = c.args.s.now in
    λ l er ea. terms-over s l c.if-s-lt-HEADER_LENGTH.false c.if-s-gt-LONGEST_SHEET.false (omega (arith, c.if-terms-gt-MOST_TERMS.true, c.u16_at-terms.ensures.value))

pub returns-then-questions-gt-MOST_QUESTIONS : goal.returns-then-questions-gt-MOST_QUESTIONS
returns-then-questions-gt-MOST_QUESTIONS c = let s = c.args.s.now in
    λ l er ea. questions-over s l c.if-s-lt-HEADER_LENGTH.false c.if-s-gt-LONGEST_SHEET.false (omega (arith, c.if-questions-gt-MOST_QUESTIONS.true, c.u16_at-questions.ensures.value))

pub returns-then-rows-terms : goal.returns-then-rows-terms
returns-then-rows-terms c = let s = c.args.s.now in
    λ l er ea. rows_few s l c.if-s-lt-HEADER_LENGTH.false c.if-s-gt-LONGEST_SHEET.false (few (goal.at.returns-then-rows-terms c).Else-questions-gt-MOST_QUESTIONS) (omega (arith, c.if-rows-terms.true, c.u16_at-terms.ensures.value, er))

pub returns-then-answers-questions : goal.returns-then-answers-questions
returns-then-answers-questions c = let s = c.args.s.now in
    λ l er ea. answers-few s l c.if-s-lt-HEADER_LENGTH.false c.if-s-gt-LONGEST_SHEET.false (few (goal.at.returns-then-answers-questions c).Else-questions-gt-MOST_QUESTIONS) (omega (arith, c.if-answers-questions.true, c.u16_at-questions.ensures.value, ea))

pub returns : goal.returns
returns c = let s = c.args.s.now in
    record {
      sorts = c.u16_at-sorts.ensures.value;
      terms = c.u16_at-terms.ensures.value;
      questions = c.u16_at-questions.ensures.value;
      least = c.if-s-lt-HEADER_LENGTH.false;
      most = c.if-s-gt-LONGEST_SHEET.false;
      few_sorts = c.if-sorts-gt-MOST_SORT_RECORDS.false;
      few_terms = c.if-terms-gt-MOST_TERMS.false;
      few_questions = c.if-questions-gt-MOST_QUESTIONS.false;
      lent_rows = c.if-rows-terms.false;
      lent_answers = c.if-answers-questions.false;
      result = λ l er ea.
          records-left s l c.if-s-lt-HEADER_LENGTH.false c.if-s-gt-LONGEST_SHEET.false (few (goal.at.returns c).Else-questions-gt-MOST_QUESTIONS) (omega (arith, c.if-rows-terms.false, c.u16_at-terms.ensures.value, er))
          (omega (arith, c.if-answers-questions.false, c.u16_at-questions.ensures.value, ea))
          ∙ records-counts s l c.u16_at-sorts.ensures.value c.u16_at-terms.ensures.value c.u16_at-questions.ensures.value;
    }
