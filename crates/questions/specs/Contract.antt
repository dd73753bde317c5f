-- What the answers to questions ask and promise: the answer, the store after it and its code are those of the definition,
-- over the store numbers of the sheet's sorts; and every table of names is as it was, whole.
use Rattle.std.specs.Prelude.{ℕ, ◌+◌, ◌*◌, ◌≤◌, ◌<◌, ◌≡◌, List, length, get_or}
use Rattle.record.specs.Number.{u16_at, numbers_at}
use Rattle.record.specs.Kinds.{question_number}
use Rattle.record.specs.Sort.{Sort}
use Rattle.record.specs.Record.{sorts_of}
use Rattle.record.specs.Decode.{store_of, sort_at, Zeros}
use Rattle.record.specs.SortLists.{Starts}
use Rattle.reader.specs.declared.QuestionRecord.{QuestionRecord}
use Rattle.sheet.specs.Sheet.{Lengths, QuestionFields}
use Rattle.sheet.specs.Trees.{mapped}
use Rattle.store.specs.Good.{Good}
use Rattle.matching_tables.specs.Tables.{Lists, Cleared}
use Rattle.row_rules.specs.Verdict.{code_of}
use Rattle.row_answer.specs.Answer.{Answer, AnswerIs}
use Rattle.row_parts.specs.Site.{pairs_over}
use Rattle.judge_rules.specs.Questions.{first_sort, rest_sorts, match_answer, apply_answer, answer_of}
use Rattle.questions.specs.Word.{Word}
use Rattle.questions.specs.Given.{GivenStand}

-- THE QUESTION over the store st: the sheet's sorts by their store numbers, tbl.
unfoldable pub question_over : List Sort → List ℕ → List ℕ → QuestionRecord → QuestionFields
question_over st tbl s r =
    record {
      kind = question_number r.kind;
      sorts = sorts_of st (mapped tbl (numbers_at s r.list.at r.list.count));
      pairs = pairs_over st tbl s r.pairs.at r.pairs.count;
      names = numbers_at s r.names.at r.names.count;
    }

-- Its lists and pairs lie in the sheet, their sorts have numbers of the store.
pub record Asked (n : ℕ) (s tbl : List ℕ) (r : QuestionRecord) : Type 0 where
  pub within : r.list.at + 2 * r.list.count ≤ length s
  pub inside : (j : ℕ) → j < r.list.count → u16_at s (r.list.at + 2 * j) < length tbl
  pub known : (j : ℕ) → j < r.list.count → get_or tbl (u16_at s (r.list.at + 2 * j)) 0 < n
  pub names : r.names.at + 2 * r.names.count ≤ length s
  pub few : r.names.count ≤ 64
  pub given : GivenStand n s tbl r.pairs.at r.pairs.count
  pub short : length s ≤ 65536

---------------------------------------------------------------- question 2
pub record AnswerApplyAsks (b p ix : List ℕ) (n u : ℕ) (imgs s tbl : List ℕ) (r : QuestionRecord) : Type 0 where
  pub good : Good b p ix n u
  pub table : length imgs ≡ 65536
  pub zeros : Zeros imgs 0
  pub asked : Asked n s tbl r
  pub count : r.list.count ≡ r.names.count + 1

pub record ApplyIs (b p : List ℕ) (n : ℕ) (imgs s tbl : List ℕ) (q : QuestionRecord) (b' p' ix' imgs' : List ℕ) (r : Answer) : Type 0 where
  pub answer : AnswerIs b p n
      (apply_answer (numbers_at s q.names.at q.names.count) (first_sort (sorts_of (store_of b p n) (mapped tbl (numbers_at s q.list.at q.list.count))))
      (rest_sorts (sorts_of (store_of b p n) (mapped tbl (numbers_at s q.list.at q.list.count)))))
      b' p' ix' r
  pub images : imgs' ≡ imgs

---------------------------------------------------------------- questions 1 and 3
-- The pattern k, the target j, the result i, and m given pairs at x.
pub record MatchListedAsks (b p ix : List ℕ) (n u : ℕ) (prm imgs bnd s tbl : List ℕ) (k j i x m : ℕ) : Type 0 where
  pub good : Good b p ix n u
  pub table : length prm ≡ 65536
  pub cleared : Cleared imgs bnd
  pub pattern : k < n
  pub target : j < n
  pub result : i < n
  pub given : GivenStand n s tbl x m

pub record ListedIs (b p : List ℕ) (n : ℕ) (prm imgs bnd s tbl : List ℕ) (k j i x m : ℕ) (b' p' ix' imgs' bnd' : List ℕ) (r : Answer) : Type 0 where
  pub answer : (vs : List ℕ) → Lists prm vs
      → AnswerIs b p n (match_answer vs (pairs_over (store_of b p n) tbl s x m) (sort_at b p n k) (sort_at b p n j) (sort_at b p n i)) b' p' ix' r
  pub images : imgs' ≡ imgs
  pub bound : bnd' ≡ bnd

pub record AnswerMatchAsks (b p ix : List ℕ) (n u : ℕ) (prm imgs bnd s tbl : List ℕ) (r : QuestionRecord) : Type 0 where
  pub good : Good b p ix n u
  pub table : length prm ≡ 65536
  pub zeros : Zeros prm 0
  pub cleared : Cleared imgs bnd
  pub asked : Asked n s tbl r
  pub count : r.list.count ≡ 3

pub record AnswerMatchIs (b p : List ℕ) (n : ℕ) (prm imgs bnd s tbl : List ℕ) (q : QuestionRecord) (b' p' ix' prm' imgs' bnd' : List ℕ) (r : Answer) : Type 0 where
  pub answer : AnswerIs b p n
      (match_answer (numbers_at s q.names.at q.names.count) (pairs_over (store_of b p n) tbl s q.pairs.at q.pairs.count)
      (first_sort (sorts_of (store_of b p n) (mapped tbl (numbers_at s q.list.at q.list.count))))
      (first_sort (rest_sorts (sorts_of (store_of b p n) (mapped tbl (numbers_at s q.list.at q.list.count)))))
      (first_sort (rest_sorts (rest_sorts (sorts_of (store_of b p n) (mapped tbl (numbers_at s q.list.at q.list.count)))))))
      b' p' ix' r
  pub params : prm' ≡ prm
  pub images : imgs' ≡ imgs
  pub bound : bnd' ≡ bnd

---------------------------------------------------------------- the word
pub record WordIs (a : Answer) (r : Word) : Type 0 where
  pub code : r.code ≡ code_of a.verdict
  pub count : r.count ≡ a.count
  pub used : r.used ≡ a.used

---------------------------------------------------------------- a question of any kind
pub record QuestionAsks (b p ix : List ℕ) (n u : ℕ) (prm imgs bnd s tbl : List ℕ) (r : QuestionRecord) : Type 0 where
  pub good : Good b p ix n u
  pub table : length prm ≡ 65536
  pub zeros : Zeros prm 0
  pub cleared : Cleared imgs bnd
  pub asked : Asked n s tbl r
  pub two : question_number r.kind ≡ 0 → r.list.count ≡ 2
  pub three : question_number r.kind ≡ 1 → r.list.count ≡ 3
  pub images : question_number r.kind ≡ 2 → r.list.count ≡ r.names.count + 1
  pub continued : question_number r.kind ≡ 3 → r.list.count ≡ 3
  pub none_given : (question_number r.kind ≡ 3 → ⊥) → r.pairs.count ≡ 0

-- THE ANSWER TO A QUESTION: the store after it and its code are the definition's, whatever other lengths were lent.
pub record QuestionIs (b p : List ℕ) (n : ℕ) (prm imgs bnd s tbl : List ℕ) (q : QuestionRecord) (b' p' ix' prm' imgs' bnd' : List ℕ) (r : Word) : Type 0 where
  pub good : Good b' p' ix' r.count r.used
  pub long : length b' ≡ length b
  pub wide : length p' ≡ length p
  pub is : (l : Lengths) → l.records ≡ length b → l.places ≡ length p → answer_of l (question_over (store_of b p n) tbl s q) (store_of b p n)
      ≡ record { store = store_of b' p' r.count; code = r.code }
  pub starts : Starts (store_of b p n) (store_of b' p' r.count)
  pub params : prm' ≡ prm
  pub images : imgs' ≡ imgs
  pub bound : bnd' ≡ bnd
