-- Question 2: what filling, replacing and emptying ask, and that together they give the definition's answer.
use Prim.Native.Nat.{ℕ, ◌+◌, ◌*◌, ◌-◌, ◌<◌}
use mathlib.Core.Path.{◌≡◌, sym, ap, ap₂, subst, ◌∙◌}
use mathlib.Core.List.{List}
use native.Mathlib.Omega.{arith}
use lib.ListN.{length, get_or}
use Rattle.record.specs.Number.{u16_at, numbers_at}
use Rattle.record.specs.Codec.{length-numbers_at, number_at}
use Rattle.record.specs.Sort.{Sort, Sorts}
use Rattle.record.specs.Record.{leaf, sorts_of}
use Rattle.record.specs.Decode.{store_of, sort_at}
use Rattle.record.specs.StoreLaws.{store_of-length}
use Rattle.reader.specs.declared.QuestionRecord.{QuestionRecord}
use Rattle.sheet.specs.Trees.{mapped}
use Rattle.substitution.specs.Substitution.{apply}
use Rattle.apply_walk.specs.Images.{Images}
use Rattle.apply.specs.Contract.{ApplyAsks as ReplaceAsks}
use Rattle.row_rules.specs.Verdict.{sort}
use Rattle.row_answer.specs.Answer.{Answer}
use Rattle.row_answer.specs.AnswerLaws.{judged-as}
use Rattle.row_instance.specs.Instance.{InstanceIs}
use Rattle.judge_rules.specs.Questions.{first_sort, rest_sorts, images_given, apply_answer}
use Rattle.questions.specs.Fill.{FillAsks, FilledIs, emptied, filled-images, emptied-back}
use Rattle.questions.specs.Contract.{AnswerApplyAsks, ApplyIs}
use Rattle.questions.specs.Asked.{sorts_by, sorts-by-first, sorts-rest, mapped-known}

module _ {b p ix : List ℕ} {n u : ℕ} {imgs s tbl : List ℕ} {q : QuestionRecord} (h : AnswerApplyAsks b p ix n u imgs s tbl q) where
  later : (j : ℕ) → j < q.names.count → get_or tbl (u16_at s (q.list.at + 2 + 2 * j)) 0 < n
  later j o =
      let e : q.list.at + 2 * (j + 1) ≡ q.list.at + 2 + 2 * j = omega arith in
      subst (λ (x : ℕ). get_or tbl (u16_at s x) 0 < n) e (h.asked.known (j + 1) (omega (arith, h.count)))

  pub fill-asks : FillAsks imgs s tbl q.names.at (q.list.at + 2) q.names.count
  fill-asks =
      record {
        table = h.table;
        names = h.asked.names;
        sorts = omega (arith, h.asked.within, h.count);
        inside = λ j o.
            let e : q.list.at + 2 * (j + 1) ≡ q.list.at + 2 + 2 * j = omega arith in
            subst (λ (x : ℕ). u16_at s x < length tbl) e (h.asked.inside (j + 1) (omega (arith, h.count)));
        small = λ j o. omega (arith, later j o, h.good.indexed.count);
      }

  module _ {l : List ℕ} (f : FilledIs imgs s tbl q.names.at (q.list.at + 2) q.names.count l) where
    pub filled-map : Images (store_of b p n) l (images_given (numbers_at s q.names.at q.names.count) (sorts_by (store_of b p n) tbl s (q.list.at + 2) q.names.count))
    filled-map =
        let vs = numbers_at s q.names.at q.names.count in
        let rs = numbers_at s (q.list.at + 2) q.names.count in
        let m = length-numbers_at s (q.list.at + 2) q.names.count in
        subst (λ (t : List ℕ). Images (store_of b p n) t (images_given vs (sorts_of (store_of b p n) (mapped tbl rs)))) (sym f.whole)
        (filled-images (store_of b p n) imgs vs (mapped tbl rs) h.zeros h.table
        (λ j o. f.below j (omega (arith, length-numbers_at s q.names.at q.names.count)))
        (λ j o.
        omega (
          arith,
          store_of-length b p n,
          mapped-known tbl n rs
              (λ i w.
              let y : i < q.names.count = omega arith in
              omega (arith, ap (λ (x : ℕ). get_or tbl x 0) (number_at s (q.list.at + 2) q.names.count i y), later i y))
              j o,
        )))

    pub replace-asks : (k : ℕ) → k < n → ReplaceAsks b p ix n u k l
    replace-asks k o =
        record {
          ready = record { good = h.good; table = record { long = filled-map.table.long; below = λ v. omega (arith, filled-map.table.below v, store_of-length b p n) } };
          known = o;
        }

    pub apply-is : {k : ℕ} → k ≡ get_or tbl (u16_at s q.list.at) 0 → (b' p' ix' : List ℕ) (r : Answer) → InstanceIs b p n l k b' p' ix' r
        → {l' : List ℕ} → l' ≡ emptied l (numbers_at s q.names.at q.names.count) → ApplyIs b p n imgs s tbl q b' p' ix' l' r
    unfolding apply_answer sort_at
    apply-is {k} e b' p' ix' r a {l'} d =
        let st = store_of b p n in
        let vs = numbers_at s q.names.at q.names.count in
        let c : q.list.count - 1 ≡ q.names.count = omega (arith, h.count) in
        let first : first_sort (sorts_by st tbl s q.list.at q.list.count) ≡ get_or st k leaf =
        sorts-by-first st tbl s q.list.at q.list.count (omega (arith, h.count)) ∙ ap (λ (i : ℕ). get_or st i leaf) (sym e) in
        let rest : rest_sorts (sorts_by st tbl s q.list.at q.list.count) ≡ sorts_by st tbl s (q.list.at + 2) q.names.count =
        sorts-rest st tbl s q.list.at q.list.count (omega (arith, h.count)) ∙ ap (sorts_by st tbl s (q.list.at + 2)) c in
        record {
          answer =
              judged-as (ap₂ (λ (x : Sort) (y : Sorts). sort (apply (images_given vs y) x)) first rest)
              (a (images_given vs (sorts_by st tbl s (q.list.at + 2) q.names.count)) filled-map);
          images =
              d ∙ ap (λ (t : List ℕ). emptied t vs) f.whole
              ∙ emptied-back imgs vs (mapped tbl (numbers_at s (q.list.at + 2) q.names.count)) h.zeros;
        }
