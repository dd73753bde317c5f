-- A question of any kind: what each kind asks, and that its answer is the definition's.
use Prim.Native.Nat.{ℕ, ◌+◌, ◌<◌}
use mathlib.Core.Path.{◌≡◌, refl, sym, ap, ap₂, subst, ◌∙◌}
use Rattle.std.proofs.Common.{◌⊎◌, ⊎_elim}
use mathlib.Core.List.{List}
use native.Mathlib.Omega.{arith}
use lib.ListN.{length, get_or}
use borrow.Author.Tests.{eq-eqb, ne_eqb}
use Rattle.record.specs.Number.{u16_at, numbers_at}
use Rattle.record.specs.Kinds.{question_number}
use Rattle.record.specs.declared.kinds.QuestionKind.TheVariants.{Match, Continue}
use Rattle.record.specs.Sort.{Sort}
use Rattle.record.specs.Record.{leaf}
use Rattle.record.specs.Decode.{store_of, sort_at}
use Rattle.record.specs.SortLists.{Starts, starts-self}
use Rattle.reader.specs.declared.QuestionRecord.{QuestionRecord}
use Rattle.sheet.specs.Sheet.{Lengths}
use Rattle.store.specs.Good.{Good}
use Rattle.substitution.specs.Compatible.{compatible}
use Rattle.matching_tables.specs.Usable.{PairAsks}
use Rattle.matching_tables.specs.Entered.{good-usable}
use Rattle.row_rules.specs.Verdict.{Verdict}
use Rattle.row_rules.specs.Outcome.{outcome}
use Rattle.row_answer.specs.Answer.{Answer, AnswerIs}
use Rattle.row_parts.specs.Site.{pairs_over}
use Rattle.row_parts.specs.SiteLaws.{pairs-none}
use Rattle.judge_rules.specs.Questions.{first_sort, rest_sorts, yes_no, match_verdict, apply_answer, answer_verdict, answer_of}
use Rattle.judge_rules.specs.QuestionLaws.{answer-compatible, answer-is}
use Rattle.questions.specs.Word.{Word}
use Rattle.questions.specs.Contract.{question_over, ApplyIs, AnswerMatchIs, WordIs, QuestionAsks, QuestionIs}
use Rattle.questions.specs.Asked.{sorts_by, sorts-by-first, sorts-second, sort-known}

-- The verdict of a question by its kind: 1 and 3 are one match, over the pairs of the record, of which question 1 has none.
verdict-matched : (st : List Sort) (tbl s : List ℕ) (q : QuestionRecord) → question_number q.kind ≡ 1 → q.pairs.count ≡ 0
    → answer_verdict (question_over st tbl s q) ≡ match_verdict (question_over st tbl s q) (pairs_over st tbl s q.pairs.at q.pairs.count)
unfolding answer_verdict question_over
verdict-matched st tbl s q e none =
    rw (eq-eqb (question_number q.kind) 1 e) (ap (match_verdict (question_over st tbl s q)) (sym (pairs-none st tbl s q.pairs.at q.pairs.count none)))

verdict-continued : (st : List Sort) (tbl s : List ℕ) (q : QuestionRecord) → question_number q.kind ≡ 3
    → answer_verdict (question_over st tbl s q) ≡ match_verdict (question_over st tbl s q) (pairs_over st tbl s q.pairs.at q.pairs.count)
unfolding answer_verdict question_over
verdict-continued st tbl s q e = rw (ne_eqb (question_number q.kind) 1 (λ z. omega arith), eq-eqb (question_number q.kind) 3 e) refl

verdict-applied : (st : List Sort) (tbl s : List ℕ) (q : QuestionRecord) → question_number q.kind ≡ 2
    → answer_verdict (question_over st tbl s q)
    ≡ apply_answer (numbers_at s q.names.at q.names.count) (first_sort (sorts_by st tbl s q.list.at q.list.count)) (rest_sorts (sorts_by st tbl s q.list.at q.list.count))
unfolding answer_verdict question_over
verdict-applied st tbl s q e = rw (ne_eqb (question_number q.kind) 1 (λ z. omega arith), ne_eqb (question_number q.kind) 3 (λ z. omega arith)) refl

-- The store is good by the counts of the word.
worded : {c q ix : List ℕ} {r : Answer} {w : Word} → WordIs r w → Good c q ix r.count r.used → Good c q ix w.count w.used
worded {c} {q} {ix} {r} {w} e g =
    subst (λ (i : ℕ). Good c q ix i w.used) (sym e.count) (subst (λ (i : ℕ). Good c q ix r.count i) (sym e.used) g)

module _ {b p ix : List ℕ} {n u : ℕ} {prm imgs bnd s tbl : List ℕ} {q : QuestionRecord} (h : QuestionAsks b p ix n u prm imgs bnd s tbl q) where
  pub pair-part : (k j : ℕ) → k < n → j < n → PairAsks b p n k j
  pair-part k j x y = record { usable = good-usable b p ix n u h.good; left = x; right = y }

  pub pair-asked : question_number q.kind ≡ 0 → {k j : ℕ} → k ≡ get_or tbl (u16_at s q.list.at) 0 → j ≡ get_or tbl (u16_at s (q.list.at + 2)) 0 → PairAsks b p n k j
  pair-asked e {k} {j} ek ej =
      pair-part k j (sort-known n s tbl q h.asked 0 q.list.at (omega (arith, h.two e)) (omega arith) k ek)
      (sort-known n s tbl q h.asked 1 (q.list.at + 2) (omega (arith, h.two e)) (omega arith) j ej)

  pub answered-0 : question_number q.kind ≡ 0 → {k j v : ℕ} → k ≡ get_or tbl (u16_at s q.list.at) 0 → j ≡ get_or tbl (u16_at s (q.list.at + 2)) 0
      → v ≡ yes_no (compatible (sort_at b p n k) (sort_at b p n j)) → QuestionIs b p n prm imgs bnd s tbl q b p ix prm imgs bnd (record { code = v; count = n; used = u })
  unfolding question_over sort_at
  answered-0 e {k} {j} {v} ek ej ev =
      let st = store_of b p n in
      let e1 : first_sort (sorts_by st tbl s q.list.at q.list.count) ≡ get_or st k leaf =
      sorts-by-first st tbl s q.list.at q.list.count (omega (arith, h.two e)) ∙ ap (λ (x : ℕ). get_or st x leaf) (sym ek) in
      let e2 : first_sort (rest_sorts (sorts_by st tbl s q.list.at q.list.count)) ≡ get_or st j leaf =
      sorts-second st tbl s q.list.at q.list.count (omega (arith, h.two e)) ∙ ap (λ (x : ℕ). get_or st x leaf) (sym ej) in
      record {
        good = h.good;
        long = refl;
        wide = refl;
        is = λ l x y.
            answer-compatible l (question_over st tbl s q) st (eq-eqb (question_number q.kind) 0 e)
            ∙ ap (λ (i : ℕ). record { store = st; code = i }) (ap₂ (λ (x y : Sort). yes_no (compatible x y)) e1 e2 ∙ sym ev);
        starts = starts-self st;
        params = refl;
        images = refl;
        bound = refl;
      }

  -- By a verdict that is the question's.
  worded-is : {v : Verdict} {b' p' ix' : List ℕ} {r : Answer} {w : Word} → WordIs r w → (question_number q.kind ≡ 0 → ⊥)
      → answer_verdict (question_over (store_of b p n) tbl s q) ≡ v → AnswerIs b p n v b' p' ix' r → (l : Lengths) → l.records ≡ length b → l.places ≡ length p
      → answer_of l (question_over (store_of b p n) tbl s q) (store_of b p n) ≡ record { store = store_of b' p' w.count; code = w.code }
  unfolding question_over
  worded-is {v} {b'} {p'} {ix'} {r} {w} e d f a l x y =
      let st = store_of b p n in
      answer-is l (question_over st tbl s q) st (ne_eqb (question_number q.kind) 0 d) ∙ ap (outcome l st) f ∙ a.is l x y
      ∙ ap₂ (λ (c i : ℕ). record { store = store_of b' p' c; code = i }) (sym e.count) (sym e.code)

  -- Questions 1 and 3.
  matched-verdict : (q.kind ≡ Match) ⊎ (q.kind ≡ Continue)
      → answer_verdict (question_over (store_of b p n) tbl s q)
      ≡ match_verdict (question_over (store_of b p n) tbl s q) (pairs_over (store_of b p n) tbl s q.pairs.at q.pairs.count)
  matched-verdict =
      ⊎_elim
      (λ e. let k : question_number q.kind ≡ 1 = ap question_number e in verdict-matched (store_of b p n) tbl s q k (h.none_given (λ z. omega arith)))
      (λ e. verdict-continued (store_of b p n) tbl s q (ap question_number e))

  -- Neither is a question 0.
  matched-other : (q.kind ≡ Match) ⊎ (q.kind ≡ Continue) → question_number q.kind ≡ 0 → ⊥
  matched-other =
      ⊎_elim
      (λ e z. let k : question_number q.kind ≡ 1 = ap question_number e in omega arith)
      (λ e z. let k : question_number q.kind ≡ 3 = ap question_number e in omega arith)

  module _ (b' p' ix' prm' imgs' bnd' : List ℕ) {r : Answer} {w : Word} (e : WordIs r w) where
    pub answered-matched : (q.kind ≡ Match) ⊎ (q.kind ≡ Continue) → AnswerMatchIs b p n prm imgs bnd s tbl q b' p' ix' prm' imgs' bnd' r
        → QuestionIs b p n prm imgs bnd s tbl q b' p' ix' prm' imgs' bnd' w
    unfolding match_verdict question_over
    answered-matched k a =
        record {
          good = worded e a.answer.good;
          long = a.answer.long;
          wide = a.answer.wide;
          is = worded-is e (matched-other k) (matched-verdict k) a.answer;
          starts = subst (λ (c : ℕ). Starts (store_of b p n) (store_of b' p' c)) (sym e.count) a.answer.starts;
          params = a.params;
          images = a.images;
          bound = a.bound;
        }

    pub answered-2 : question_number q.kind ≡ 2 → ApplyIs b p n imgs s tbl q b' p' ix' imgs' r → prm' ≡ prm → bnd' ≡ bnd
        → QuestionIs b p n prm imgs bnd s tbl q b' p' ix' prm' imgs' bnd' w
    answered-2 k a ep eb =
        record {
          good = worded e a.answer.good;
          long = a.answer.long;
          wide = a.answer.wide;
          is = worded-is e (λ z. omega arith) (verdict-applied (store_of b p n) tbl s q k) a.answer;
          starts = subst (λ (c : ℕ). Starts (store_of b p n) (store_of b' p' c)) (sym e.count) a.answer.starts;
          params = ep;
          images = a.images;
          bound = eb;
        }
