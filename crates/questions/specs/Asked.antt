-- What a question's record tells over the store numbers of the sheet's sorts: each is a number of the store, and which sort
-- of the definition's question it is.
use Rattle.std.specs.Prelude.{ℕ, zero, suc, ◌+◌, ◌*◌, ◌-◌, ◌<◌, ◌≡◌, List, [], ◌∷◌, length, get_or}
use Rattle.std.proofs.Common.{sym, ap, subst, ◌∙◌, arith, not-suc-le-zero}
use Rattle.record.specs.Number.{u16_at, numbers_at}
use Rattle.record.specs.Sort.{Sort, Sorts}
use Rattle.record.specs.Record.{leaf, sorts_of}
use Rattle.record.specs.Codec.{numbers_more}
use Rattle.reader.specs.declared.QuestionRecord.{QuestionRecord}
use Rattle.sheet.specs.Trees.{mapped}
use Rattle.judge_rules.specs.Questions.{first_sort, rest_sorts}
use Rattle.questions.specs.Fill.{SortAtAsks}
use Rattle.questions.specs.Contract.{Asked}

-- The sorts of m numbers at x.
abbrev pub sorts_by : List Sort → List ℕ → List ℕ → ℕ → ℕ → Sorts
sorts_by st tbl s x m = sorts_of st (mapped tbl (numbers_at s x m))

pub sorts-by-first : (st : List Sort) (tbl s : List ℕ) (x m : ℕ) → 0 < m → first_sort (sorts_by st tbl s x m) ≡ get_or st (get_or tbl (u16_at s x) 0) leaf
unfolding mapped sorts_of
sorts-by-first st tbl s x m h = ap (λ (rs : List ℕ). first_sort (sorts_of st (mapped tbl rs))) (numbers_more s x m h)

pub sorts-rest : (st : List Sort) (tbl s : List ℕ) (x m : ℕ) → 0 < m → rest_sorts (sorts_by st tbl s x m) ≡ sorts_by st tbl s (x + 2) (m - 1)
unfolding mapped sorts_of
sorts-rest st tbl s x m h = ap (λ (rs : List ℕ). rest_sorts (sorts_of st (mapped tbl rs))) (numbers_more s x m h)

pub sorts-second : (st : List Sort) (tbl s : List ℕ) (x m : ℕ) → 1 < m → first_sort (rest_sorts (sorts_by st tbl s x m)) ≡ get_or st (get_or tbl (u16_at s (x + 2)) 0) leaf
sorts-second st tbl s x m h = ap first_sort (sorts-rest st tbl s x m (omega arith)) ∙ sorts-by-first st tbl s (x + 2) (m - 1) (omega arith)

pub sorts-third : (st : List Sort) (tbl s : List ℕ) (x m : ℕ) → 2 < m
    → first_sort (rest_sorts (rest_sorts (sorts_by st tbl s x m))) ≡ get_or st (get_or tbl (u16_at s (x + 4)) 0) leaf
sorts-third st tbl s x m h =
    let e : x + 2 + 2 ≡ x + 4 = omega arith in
    ap (λ (ss : Sorts). first_sort (rest_sorts ss)) (sorts-rest st tbl s x m (omega arith)) ∙ sorts-second st tbl s (x + 2) (m - 1) (omega arith)
    ∙ ap (λ (y : ℕ). get_or st (get_or tbl (u16_at s y) 0) leaf) e

-- A sort of the question at x.
module _ (n : ℕ) (s tbl : List ℕ) (q : QuestionRecord) (h : Asked n s tbl q) (j x : ℕ) (o : j < q.list.count) (e : x ≡ q.list.at + 2 * j) where
  pub sort-asks : SortAtAsks s x tbl
  sort-asks =
      record {
        within = omega (arith, h.within);
        inside = subst (λ (y : ℕ). u16_at s y < length tbl) (sym e) (h.inside j o);
      }

  pub sort-known : (k : ℕ) → k ≡ get_or tbl (u16_at s x) 0 → k < n
  sort-known k f = omega (arith, f, ap (λ (y : ℕ). get_or tbl (u16_at s y) 0) e, h.known j o)

-- The numbers of sorts that are known one by one.
pub mapped-known : (tbl : List ℕ) (n : ℕ) (rs : List ℕ) → ((j : ℕ) → j < length rs → get_or tbl (get_or rs j 0) 0 < n)
    → (j : ℕ) → j < length (mapped tbl rs) → get_or (mapped tbl rs) j 0 < n
unfolding mapped
mapped-known tbl n [] h j l = absurd (not-suc-le-zero l)
mapped-known tbl n (r ∷ rs) h zero l = h 0 (omega arith)
mapped-known tbl n (r ∷ rs) h (suc j) l = mapped-known tbl n rs (λ i o. h (suc i) (omega arith)) j (omega arith)
