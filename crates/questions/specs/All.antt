-- All questions of a sheet: what a question record at a place and the loop over all of them ask and promise, and that one
-- answer more is the definition's.
use Rattle.std.specs.Prelude.{ℕ, suc, Ok, ◌+◌, ◌*◌, ◌≤◌, ◌<◌, ◌≡◌, refl, true, length, get_or, set, take, drop}
use Rattle.std.proofs.Math.Path.{sym, ap, ap₂}
use Rattle.std.proofs.Common.{subst, ◌∙◌, arith, length-set, take-append-drop, take-suc-set, drop-set-lt, drop-drop}
use mathlib.Core.List.{List, ◌++◌}
use Rattle.record.specs.Number.{u16_at, numbers_at}
use Rattle.record.specs.Kinds.{question_number}
use Rattle.record.specs.Codec.{length-numbers_at, number_at}
use Rattle.record.specs.Cases.{and_right}
use Rattle.record.specs.Names.{all_members, distinct}
use Rattle.record.specs.Sort.{Sort, Sorts}
use Rattle.record.specs.Decode.{store_of}
use Rattle.record.specs.StoreLaws.{store_of-length}
use Rattle.record.specs.SortLists.{Starts, starts-self, starts-trans, starts-at, starts-count}
use Rattle.reader.specs.Reader.{pair_names_at, rightly_given, read_question}
use Rattle.reader.specs.QuestionWas.{QuestionWas}
use Rattle.reader.specs.declared.Cursor.{Cursor}
use Rattle.reader.specs.declared.QuestionRecord.{QuestionRecord}
use Rattle.sheet.specs.declared.SheetCounts.{SheetCounts}
use Rattle.sheet.specs.Sheet.{Lengths, Binding, QuestionFields, question_fields}
use Rattle.sheet.specs.Trees.{trees_of, trees-length, trees-same, mapped-sorts}
use Rattle.sheet.specs.Contract.{each_at, question_read_at, questions_at, QuestionStands, SheetStands}
use Rattle.sheet.specs.Stands.{Numbered, question-again, question-is}
use Rattle.store.specs.Good.{Good}
use Rattle.matching_tables.specs.Tables.{Blank}
use Rattle.row_rules.specs.Outcome.{CodedStore}
use Rattle.row_parts.specs.SiteLaws.{bindings-by}
use Rattle.judge_rules.specs.Questions.{answer_of, AnswersSoFar, answer_added, answers_of}
use Rattle.questions.specs.Word.{Word, Counts}
use Rattle.questions.specs.Contract.{question_over, QuestionAsks, QuestionIs}

pub record AtAsks (b p ix : List ℕ) (n u : ℕ) (prm imgs bnd s tbl : List ℕ) (m x : ℕ) : Type 0 where
  pub good : Good b p ix n u
  pub blank : Blank prm imgs bnd
  pub numbered : Numbered n s tbl m
  pub stands : QuestionStands s m x

-- THE ANSWER TO THE QUESTION AT x, whatever its number.
pub record AtIs (b p : List ℕ) (n : ℕ) (prm imgs bnd s tbl : List ℕ) (m x : ℕ) (b' p' ix' prm' imgs' bnd' : List ℕ) (r : Word) : Type 0 where
  pub good : Good b' p' ix' r.count r.used
  pub long : length b' ≡ length b
  pub wide : length p' ≡ length p
  pub is : (i : ℕ) (l : Lengths) → l.records ≡ length b → l.places ≡ length p
      → answer_of l (question_read_at s (trees_of (store_of b p n) tbl m) i x) (store_of b p n) ≡ record { store = store_of b' p' r.count; code = r.code }
  pub starts : Starts (store_of b p n) (store_of b' p' r.count)
  pub params : prm' ≡ prm
  pub images : imgs' ≡ imgs
  pub bound : bnd' ≡ bnd

pub record AllAsks (b p ix : List ℕ) (n u : ℕ) (prm imgs bnd s tbl : List ℕ) (m : ℕ) (ys : List ℕ) (c : ℕ) (an : List ℕ) : Type 0 where
  pub good : Good b p ix n u
  pub blank : Blank prm imgs bnd
  pub numbered : Numbered n s tbl m
  pub stands : (i : ℕ) → i < c → QuestionStands s m (get_or ys i 0)
  pub asked : c ≤ length ys
  pub room : c ≤ length an
  pub few : c ≤ 1024

-- THE ANSWERS TO c QUESTIONS: the store after them is the definition's, and the lent list holds its answers, then what stood
-- there.
pub record AllIs (b p : List ℕ) (n : ℕ) (prm imgs bnd s tbl : List ℕ) (m : ℕ) (ys : List ℕ) (c : ℕ) (an b' p' ix' prm' imgs' bnd' an' : List ℕ) (r : Counts) : Type 0 where
  pub good : Good b' p' ix' r.count r.used
  pub long : length b' ≡ length b
  pub wide : length p' ≡ length p
  pub after : (l : Lengths) → l.records ≡ length b → l.places ≡ length p
      → store_of b' p' r.count ≡ (answers_of l (store_of b p n) (questions_at s (trees_of (store_of b p n) tbl m) ys c)).store
  pub written : (l : Lengths) → l.records ≡ length b → l.places ≡ length p
      → an' ≡ (answers_of l (store_of b p n) (questions_at s (trees_of (store_of b p n) tbl m) ys c)).answers ++ drop c an
  pub starts : Starts (store_of b p n) (store_of b' p' r.count)
  pub params : prm' ≡ prm
  pub images : imgs' ≡ imgs
  pub bound : bnd' ≡ bnd

---------------------------------------------------------------- from the reader of the sheet
-- A store that has grown has the sheet's sorts as they were.
pub trees-starts : (st st' : List Sort) (tbl : List ℕ) (m : ℕ) → Starts st st' → ((j : ℕ) → j < m → get_or tbl j 0 < length st) → trees_of st' tbl m ≡ trees_of st tbl m
trees-starts st st' tbl m g h = trees-same st' st tbl tbl m (λ j o. starts-at st st' g (get_or tbl j 0) (h j o))

-- WHAT THE READER PROMISES is what all questions ask, over any good store that has grown from the sheet's.
pub stands-asks : (s b p ix tbl xs ys : List ℕ) (c : SheetCounts) → SheetStands s b p ix tbl xs ys c → (b' p' ix' : List ℕ) (n u : ℕ)
    → Good b' p' ix' n u → Starts (store_of b p c.count) (store_of b' p' n) → (prm imgs bnd an : List ℕ) → Blank prm imgs bnd
    → c.sorts ≤ length tbl → c.questions ≤ length ys → c.questions ≤ length an → c.questions ≤ 1024 → length s ≤ 65536
    → AllAsks b' p' ix' n u prm imgs bnd s tbl c.sorts ys c.questions an
stands-asks s b p ix tbl xs ys c h b' p' ix' n u g st prm imgs bnd an blank inside asked room few short =
    record {
      good = g;
      blank = blank;
      numbered =
          record {
            inside = inside;
            known = λ j o.
                omega (arith, h.known j o, starts-count (store_of b p c.count) (store_of b' p' n) st, store_of-length b p c.count, store_of-length b' p' n);
            short = short;
          };
      stands = h.questions;
      asked = asked;
      room = room;
      few = few;
    }

---------------------------------------------------------------- a record at its place
module _ (b p ix : List ℕ) (n u : ℕ) (prm imgs bnd s tbl : List ℕ) (m x : ℕ) (h : AtAsks b p ix n u prm imgs bnd s tbl m x)
    (r : QuestionRecord) (c : Cursor) (e : read_question s m x ≡ Ok (r, c)) where
  was : QuestionWas s m x r c
  was = question-again s m x h.stands r c e

  -- No name is given twice.
  given-once : distinct (pair_names_at s r.pairs.at r.pairs.count) ≡ true
  unfolding rightly_given
  given-once =
      let vs = pair_names_at s r.pairs.at r.pairs.count in
      and_right (all_members vs (numbers_at s r.names.at r.names.count)) (distinct vs) was.given

  pub question-asks : QuestionAsks b p ix n u prm imgs bnd s tbl r
  question-asks =
      record {
        good = h.good;
        table = h.blank.table;
        zeros = h.blank.zeros;
        cleared = h.blank.cleared;
        asked =
            record {
              within = was.list;
              inside = λ j o. omega (arith, was.references j o, h.numbered.inside);
              known = λ j o. h.numbered.known (u16_at s (r.list.at + 2 * j)) (was.references j o);
              names = was.names;
              few = was.named;
              given =
                  record {
                    within = was.pairs;
                    few = was.paired;
                    inside = λ j o. omega (arith, was.bindings j o, h.numbered.inside);
                    known = λ j o. h.numbered.known (u16_at s (r.pairs.at + 4 * j + 2)) (was.bindings j o);
                    once = given-once;
                  };
              short = h.numbered.short;
            };
        two = was.two;
        three = was.three;
        images = was.images;
        continued = was.continued;
        none_given = was.none_given;
      }

  -- The question over the store is the sheet's.
  over-same : (i : ℕ) → question_read_at s (trees_of (store_of b p n) tbl m) i x ≡ question_over (store_of b p n) tbl s r
  unfolding question_fields question_over
  over-same i =
      let st = store_of b p n in
      let rs = numbers_at s r.list.at r.list.count in
      question-is s m x h.stands r c e i (trees_of st tbl m) (trees-length st tbl m)
      ∙ ap₂ (λ (ss : Sorts) (gs : List Binding). record { kind = question_number r.kind; sorts = ss; pairs = gs; names = numbers_at s r.names.at r.names.count })
      (sym
      (mapped-sorts st tbl m rs
      (λ j o.
      let y : j < r.list.count = omega (arith, length-numbers_at s r.list.at r.list.count) in
      omega (arith, number_at s r.list.at r.list.count j y, was.references j y))))
      (sym (bindings-by st tbl s m r.pairs.at r.pairs.count was.bindings))

  pub at-is : (b' p' ix' prm' imgs' bnd' : List ℕ) (w : Word) → QuestionIs b p n prm imgs bnd s tbl r b' p' ix' prm' imgs' bnd' w
      → AtIs b p n prm imgs bnd s tbl m x b' p' ix' prm' imgs' bnd' w
  at-is b' p' ix' prm' imgs' bnd' w a =
      record {
        good = a.good;
        long = a.long;
        wide = a.wide;
        is = λ i l f g. ap (λ (q : QuestionFields). answer_of l q (store_of b p n)) (over-same i) ∙ a.is l f g;
        starts = a.starts;
        params = a.params;
        images = a.images;
        bound = a.bound;
      }

---------------------------------------------------------------- the loop
-- The first i questions are answered.
pub record Answering (b p : List ℕ) (n : ℕ) (prm imgs bnd s tbl : List ℕ) (m : ℕ) (ys an b' p' ix' prm' imgs' bnd' an' : List ℕ) (n' u' i : ℕ) : Type 0 where
  pub good : Good b' p' ix' n' u'
  pub long : length b' ≡ length b
  pub wide : length p' ≡ length p
  pub starts : Starts (store_of b p n) (store_of b' p' n')
  pub params : prm' ≡ prm
  pub images : imgs' ≡ imgs
  pub bound : bnd' ≡ bnd
  pub room : length an' ≡ length an
  pub is : (l : Lengths) → l.records ≡ length b → l.places ≡ length p
      → answers_of l (store_of b p n) (questions_at s (trees_of (store_of b p n) tbl m) ys i) ≡ record { store = store_of b' p' n'; answers = take i an' }
  pub rest : drop i an' ≡ drop i an

module _ {b p ix : List ℕ} {n u : ℕ} {prm imgs bnd s tbl : List ℕ} {m : ℕ} {ys : List ℕ} {c : ℕ} {an : List ℕ}
    (h : AllAsks b p ix n u prm imgs bnd s tbl m ys c an) where
  pub answering-start : Answering b p n prm imgs bnd s tbl m ys an b p ix prm imgs bnd an n u 0
  unfolding answers_of each_at
  answering-start =
      record {
        good = h.good;
        long = refl;
        wide = refl;
        starts = starts-self (store_of b p n);
        params = refl;
        images = refl;
        bound = refl;
        room = refl;
        is = λ l e f. refl;
        rest = refl;
      }

  module _ {b' p' ix' prm' imgs' bnd' an' : List ℕ} {n' u' i : ℕ} (a : Answering b p n prm imgs bnd s tbl m ys an b' p' ix' prm' imgs' bnd' an' n' u' i) where
    grown : n ≤ n'
    grown = omega (arith, starts-count (store_of b p n) (store_of b' p' n') a.starts, store_of-length b p n, store_of-length b' p' n')

    pub next-asks : {x : ℕ} → i < c → x ≡ get_or ys i 0 → AtAsks b' p' ix' n' u' prm' imgs' bnd' s tbl m x
    next-asks o e =
        record {
          good = a.good;
          blank =
              subst (λ (t : List ℕ). Blank t imgs' bnd') (sym a.params)
              (subst (λ (t : List ℕ). Blank prm t bnd') (sym a.images) (subst (λ (t : List ℕ). Blank prm imgs t) (sym a.bound) h.blank));
          numbered = record { inside = h.numbered.inside; known = λ j y. omega (arith, h.numbered.known j y, grown); short = h.numbered.short };
          stands = subst (QuestionStands s m) (sym e) (h.stands i o);
        }

    trees-kept : trees_of (store_of b p n) tbl m ≡ trees_of (store_of b' p' n') tbl m
    trees-kept =
        sym
        (trees-starts (store_of b p n) (store_of b' p' n') tbl m a.starts
        (λ j o. omega (arith, h.numbered.known j o, store_of-length b p n)))

    module _ {x : ℕ} (o : i < c) (e : x ≡ get_or ys i 0) {d q jx' prm'' imgs'' bnd'' : List ℕ} {w : Word}
        (t : AtIs b' p' n' prm' imgs' bnd' s tbl m x d q jx' prm'' imgs'' bnd'' w) where
      one_more : (l : Lengths) → l.records ≡ length b → l.places ≡ length p
          → answers_of l (store_of b p n) (questions_at s (trees_of (store_of b p n) tbl m) ys (suc i))
          ≡ record { store = store_of d q w.count; answers = take (suc i) (set an' i w.code) }
      unfolding answers_of each_at
      one_more l f g =
          let st = store_of b' p' n' in
          let same : question_read_at s (trees_of (store_of b p n) tbl m) i (get_or ys i 0) ≡ question_read_at s (trees_of st tbl m) i x =
          ap₂ (λ (ts : List Sort) (y : ℕ). question_read_at s ts i y) trees-kept (sym e) in
          ap (λ (r : AnswersSoFar). answer_added r.answers (answer_of l (question_read_at s (trees_of (store_of b p n) tbl m) i (get_or ys i 0)) r.store)) (a.is l f g)
          ∙ ap (λ (r : CodedStore). answer_added (take i an') r)
          (ap (λ (z : QuestionFields). answer_of l z st) same ∙ t.is i l (f ∙ sym a.long) (g ∙ sym a.wide))
          ∙ ap (λ (r : List ℕ). record { store = store_of d q w.count; answers = r }) (sym (take-suc-set an' i w.code (omega (arith, a.room, h.room))))

      rest_more : drop (suc i) (set an' i w.code) ≡ drop (suc i) an
      rest_more =
          let z : i + 1 ≡ suc i = omega arith in
          drop-set-lt (suc i) an' i w.code (omega arith)
          ∙ ap (λ (k : ℕ). drop k an') (sym z) ∙ sym (drop-drop 1 i an') ∙ ap (drop 1) a.rest ∙ drop-drop 1 i an ∙ ap (λ (k : ℕ). drop k an) z

      -- ONE ANSWER MORE.
      pub answering-step : Answering b p n prm imgs bnd s tbl m ys an d q jx' prm'' imgs'' bnd'' (set an' i w.code) w.count w.used (i + 1)
      answering-step =
          let z : suc i ≡ i + 1 = omega arith in
          subst (λ (k : ℕ). Answering b p n prm imgs bnd s tbl m ys an d q jx' prm'' imgs'' bnd'' (set an' i w.code) w.count w.used k) z
          (record {
            good = t.good;
            long = t.long ∙ a.long;
            wide = t.wide ∙ a.wide;
            starts = starts-trans (store_of b p n) (store_of b' p' n') (store_of d q w.count) a.starts t.starts;
            params = t.params ∙ a.params;
            images = t.images ∙ a.images;
            bound = t.bound ∙ a.bound;
            room = length-set an' i w.code ∙ a.room;
            is = one_more;
            rest = rest_more;
          })

    -- The definition at the last question.
    module _ (e : i ≡ c) (l : Lengths) (f : l.records ≡ length b) (g : l.places ≡ length p) where
      whole : answers_of l (store_of b p n) (questions_at s (trees_of (store_of b p n) tbl m) ys c) ≡ record { store = store_of b' p' n'; answers = take c an' }
      whole =
          subst
          (λ (k : ℕ). answers_of l (store_of b p n) (questions_at s (trees_of (store_of b p n) tbl m) ys k) ≡ record { store = store_of b' p' n'; answers = take k an' })
          e (a.is l f g)

      rest-whole : drop c an' ≡ drop c an
      rest-whole = subst (λ (k : ℕ). drop k an' ≡ drop k an) e a.rest

    pub answering-end : i ≡ c → AllIs b p n prm imgs bnd s tbl m ys c an b' p' ix' prm' imgs' bnd' an' (record { count = n'; used = u' })
    answering-end e =
        record {
          good = a.good;
          long = a.long;
          wide = a.wide;
          after = λ l f g. sym (ap (λ (r : AnswersSoFar). r.store) (whole e l f g));
          written = λ l f g.
              sym (take-append-drop c an')
              ∙ ap₂ (λ (x y : List ℕ). x ++ y) (sym (ap (λ (r : AnswersSoFar). r.answers) (whole e l f g))) (rest-whole e l f g);
          starts = a.starts;
          params = a.params;
          images = a.images;
          bound = a.bound;
        }
