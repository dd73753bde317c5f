-- Questions 1 and 3: what their steps ask, and that each way through them gives the definition's answer with the tables as they were.
use Prim.Native.Nat.{ℕ, ◌+◌}
use mathlib.Core.Path.{◌≡◌, refl, sym, ap, ap₂, subst, ◌∙◌}
use mathlib.Core.Bool.{Bool, true, false, not, ◌&&◌}
use mathlib.Core.List.{List, []}
use mathlib.Core.Option.{Option, none, some}
use native.Mathlib.Omega.{arith}
use lib.ListN.{get_or}
use Rattle.record.specs.Number.{u16_at, numbers_at}
use Rattle.record.specs.Codec.{length-numbers_at}
use Rattle.record.specs.Sort.{Sort}
use Rattle.record.specs.Record.{leaf}
use Rattle.record.specs.Decode.{store_of, sort_at}
use Rattle.record.specs.Cases.{not-true, not-false}
use Rattle.reader.specs.declared.QuestionRecord.{QuestionRecord}
use Rattle.sheet.specs.Sheet.{Binding}
use Rattle.substitution.specs.Substitution.{Map}
use Rattle.substitution.specs.Matching.{matches, listed_in, premise}
use Rattle.matching_tables.specs.Matched.{Matched, Fits, Misfits}
use Rattle.matching_tables.specs.Tables.{Lists, listed, Added, table_map, Mapped, Cleared}
use Rattle.matching_tables.specs.TableLaws.{times-few, listed-is, lists-none, lists-added, added-back, cleared-images, cleared-bound}
use Rattle.matching_tables.specs.Contract.{AddAsks, count_of, Answered}
use Rattle.matching.specs.Contract.{MatchIs as PlainIs}
use Rattle.matching_tables.specs.Entered.{good-usable}
use Rattle.apply.specs.Contract.{ApplyAsks as ReplaceAsks}
use Rattle.row_rules.specs.declared.Cause.TheVariants.{Barred, NoAssignment}
use Rattle.row_rules.specs.Verdict.{refused, need}
use Rattle.row_answer.specs.Answer.{Answer}
use Rattle.row_answer.specs.Answer.{refusing}
use Rattle.row_answer.specs.AnswerLaws.{judged-as, answered-as, made-refused}
use Rattle.row_instance.specs.Instance.{InstanceIs}
use Rattle.row_instance.specs.Mapped.{mapped-images}
use Rattle.row_parts.specs.Site.{pairs_over}
use Rattle.judge_rules.specs.Questions.{first_sort, rest_sorts, given_map, given_premise, assigned, match_answer}
use Rattle.questions.specs.Given.{AllTestIs, GivenMapped, GiveIs}
use Rattle.questions.specs.Contract.{MatchListedAsks, ListedIs, AnswerMatchAsks, AnswerMatchIs}
use Rattle.questions.specs.Asked.{sorts_by, sorts-by-first, sorts-second, sorts-third}

---------------------------------------------------------------- the definition by its three cases
pub match_by : (vs : List ℕ) (gs : List Binding) (p t r : Sort) (a : Bool) (o : Option Map) → a ≡ (premise vs p t && given_premise vs gs)
    → o ≡ matches (listed_in vs) p t (given_map gs) → match_answer vs gs p t r ≡ need a Barred (assigned r o)
unfolding match_answer
match_by vs gs p t r a o e f = sym (ap₂ (λ (x : Bool) (y : Option Map). need x Barred (assigned r y)) e f)

pub match-barred : (vs : List ℕ) (gs : List Binding) (p t r : Sort) → false ≡ (premise vs p t && given_premise vs gs) → match_answer vs gs p t r ≡ refused Barred
match-barred vs gs p t r e = match_by vs gs p t r false (matches (listed_in vs) p t (given_map gs)) e refl

---------------------------------------------------------------- with the names listed
module _ {b p ix : List ℕ} {n u : ℕ} {prm imgs bnd s tbl : List ℕ} {k j i x m : ℕ} (h : MatchListedAsks b p ix n u prm imgs bnd s tbl k j i x m) where
  -- The given pairs over the store.
  abbrev gs : List Binding
  gs = pairs_over (store_of b p n) tbl s x m

  -- 28, outside matching's premise or a given sort's.
  pub listed-barred : {t : Bool} → AllTestIs b p n prm s tbl k j x m t → not t ≡ true → {r : Answer} → r ≡ refusing Barred n u
      → ListedIs b p n prm imgs bnd s tbl k j i x m b p ix imgs bnd r
  listed-barred {t} q e {r} d =
      record {
        answer = λ vs ls.
            judged-as (match-barred vs gs (sort_at b p n k) (sort_at b p n j) (sort_at b p n i) (sym (not-true t e) ∙ q vs ls))
            (answered-as d (made-refused b p ix n u h.good Barred));
        images = refl;
        bound = refl;
      }

  -- With the given names bound.
  module _ {gi gb : List ℕ} {gc : ℕ} (g : GiveIs s tbl x m gi gb gc) where
    given-here : GivenMapped b p n gi gb gc gs
    given-here = g b p n (good-usable b p ix n u h.good) h.given.known

    -- After matching from the given pairs, whatever it found.
    module _ {l d : List ℕ} {y : Matched} (w : PlainIs b p n prm gi gb gc k j l d y) where
      found-by : {vs : List ℕ} → Lists prm vs → Answered b p n l d y (matches (listed_in vs) (sort_at b p n k) (sort_at b p n j) (given_map gs))
      found-by {vs} ls =
          subst (λ (θ : Map). Answered b p n l d y (matches (listed_in vs) (sort_at b p n k) (sort_at b p n j) θ)) given-here.map
          (w (listed_in vs) (listed-is prm vs ls))

      pub mapped-by : {z : Matched} → y ≡ z → Mapped b p n l d (count_of z)
      mapped-by e = subst (λ (z : Matched). Mapped b p n l d (count_of z)) e (w (listed prm) (λ v. refl)).mapped

      pub result-asks : {c : ℕ} → y ≡ Fits c → ReplaceAsks b p ix n u i l
      result-asks e =
          let f = mapped-by e in
          record { ready = record { good = h.good; table = record { long = f.tabled.names; below = f.below } }; known = h.result }

      module _ {t : Bool} (q : AllTestIs b p n prm s tbl k j x m t) (o : not t ≡ false) {l' d' : List ℕ} (z : Cleared l' d') where
        pub listed-fits : {c : ℕ} → y ≡ Fits c → (b' p' ix' : List ℕ) (r : Answer) → InstanceIs b p n l i b' p' ix' r
            → ListedIs b p n prm imgs bnd s tbl k j i x m b' p' ix' l' d' r
        listed-fits {c} e b' p' ix' r made =
            let θ = table_map (store_of b p n) l d c in
            record {
              answer = λ vs ls.
                  judged-as
                  (match_by vs gs (sort_at b p n k) (sort_at b p n j) (sort_at b p n i) true (some θ) (sym (not-false t o) ∙ q vs ls)
                  (subst (λ (y : Matched). Answered b p n l d y (matches (listed_in vs) (sort_at b p n k) (sort_at b p n j) (given_map gs))) e (found-by ls)).result)
                  (made θ (mapped-images b p n l d c (mapped-by e)));
              images = cleared-images imgs bnd l' d' h.cleared z;
              bound = cleared-bound imgs bnd l' d' h.cleared z;
            }

        pub listed-misfits : {c : ℕ} → y ≡ Misfits c → {r : Answer} → r ≡ refusing NoAssignment n u → ListedIs b p n prm imgs bnd s tbl k j i x m b p ix l' d' r
        listed-misfits e {r} none_is =
            record {
              answer = λ vs ls.
                  judged-as
                  (match_by vs gs (sort_at b p n k) (sort_at b p n j) (sort_at b p n i) true none (sym (not-false t o) ∙ q vs ls)
                  (subst (λ (y : Matched). Answered b p n l d y (matches (listed_in vs) (sort_at b p n k) (sort_at b p n j) (given_map gs))) e (found-by ls)).result)
                  (answered-as none_is (made-refused b p ix n u h.good NoAssignment));
              images = cleared-images imgs bnd l' d' h.cleared z;
              bound = cleared-bound imgs bnd l' d' h.cleared z;
            }

---------------------------------------------------------------- listing the names and taking them off
module _ {b p ix : List ℕ} {n u : ℕ} {prm imgs bnd s tbl : List ℕ} {q : QuestionRecord} (h : AnswerMatchAsks b p ix n u prm imgs bnd s tbl q) where
  pub add-asks : AddAsks prm s q.names.at q.names.count
  add-asks =
      record {
        names = record { table = h.table; within = h.asked.names };
        room = λ v.
            omega (arith, h.zeros v (omega arith), times-few v (numbers_at s q.names.at q.names.count), length-numbers_at s q.names.at q.names.count, h.asked.few);
      }

  module _ {m : List ℕ} (a : Added prm (numbers_at s q.names.at q.names.count) m) where
    pub match_is : {k j i : ℕ} → k ≡ get_or tbl (u16_at s q.list.at) 0 → j ≡ get_or tbl (u16_at s (q.list.at + 2)) 0 → i ≡ get_or tbl (u16_at s (q.list.at + 4)) 0
        → {b' p' ix' l' m' prm' : List ℕ} {r : Answer} → ListedIs b p n m imgs bnd s tbl k j i q.pairs.at q.pairs.count b' p' ix' l' m' r
        → Added prm' (numbers_at s q.names.at q.names.count) m → AnswerMatchIs b p n prm imgs bnd s tbl q b' p' ix' prm' l' m' r
    unfolding sort_at
    match_is {k} {j} {i} ek ej ei {b'} {p'} {ix'} {l'} {m'} {prm'} {r} w d =
        let st = store_of b p n in
        let vs = numbers_at s q.names.at q.names.count in
        let gs = pairs_over st tbl s q.pairs.at q.pairs.count in
        let S = sorts_by st tbl s q.list.at q.list.count in
        let e1 : first_sort S ≡ get_or st k leaf = sorts-by-first st tbl s q.list.at q.list.count (omega (arith, h.count)) ∙ ap (λ (x : ℕ). get_or st x leaf) (sym ek) in
        let e2 : first_sort (rest_sorts S) ≡ get_or st j leaf = sorts-second st tbl s q.list.at q.list.count (omega (arith, h.count)) ∙ ap (λ (x : ℕ). get_or st x leaf) (sym ej) in
        let e3 : first_sort (rest_sorts (rest_sorts S)) ≡ get_or st i leaf = sorts-third st tbl s q.list.at q.list.count (omega (arith, h.count)) ∙ ap (λ (x : ℕ). get_or st x leaf) (sym ei) in
        record {
          answer =
              judged-as
              (ap₂ (λ (x y : Sort). match_answer vs gs x y (first_sort (rest_sorts (rest_sorts S)))) e1 e2 ∙ ap (match_answer vs gs (get_or st k leaf) (get_or st j leaf)) e3)
              (w.answer vs (lists-added prm [] vs m (lists-none prm h.table h.zeros) a));
          params = added-back prm vs m prm' a d;
          images = w.images;
          bound = w.bound;
        }
