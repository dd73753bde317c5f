-- Laws of substitution that grows the store it reads from, along the parts: each in the store that the ones before it left.
use Rattle.std.specs.Prelude.{ℕ, zero, suc, ◌+◌, ◌*◌, ◌≤◌, ◌<◌, ◌≡◌, refl, true, List, [], ◌∷◌, length, set, drop}
use Rattle.std.proofs.Math.Path.{sym, ap}
use Rattle.std.proofs.Common.{ap₂, subst, ◌∙◌, length-set, get_or-set_same, get_or-set_other}
use native.Mathlib.Omega.{arith}
use Rattle.std.proofs.Math.ListN.{get_or}
use Rattle.record.specs.Sort.{Sort, size, sizes}
use Rattle.record.specs.Record.{leaf, sorts_of}
use Rattle.record.specs.Store.{memb, intern, intern_all, index_of, indices_of}
use Rattle.record.specs.Decode.{store_of, sort_at}
use Rattle.record.specs.SortLists.{below_suc, memb-starts, index-starts, Starts, starts-self}
use Rattle.record.specs.Whole.{store-once}
use Rattle.store.specs.Good.{Good, Kept}
use Rattle.substitution.specs.Substitution.{Map, apply, apply_all}
use Rattle.apply_walk.specs.Images.{images_of}
use Rattle.apply_walk.specs.Made.{Made, made-starts, made-there, made-known, kept_self}
use Rattle.apply_walk.specs.Halted.{Halted}
use Rattle.apply_walk.specs.Contract.{answer_at, answers_at, SortAsks, PartsAsk, PartsMade}
use Rattle.apply_walk.specs.Known.{Known}
use Rattle.apply_walk.specs.KnownLaws.{sort-same, answer-same}
use Rattle.apply_walk.specs.AlongLaws.{Along, along-asks, along-halted, along-more, along-done}

-- One of several sorts is no larger than all, and its answer no larger than all answers.
size-one-of : (st : List Sort) (vs : List ℕ) (j : ℕ) → j < length vs → size (get_or st (get_or vs j 0) leaf) ≤ sizes (sorts_of st vs)
unfolding size sorts_of
size-one-of st [] j h = absurd (omega arith)
size-one-of st (v ∷ vs) zero h = omega arith
size-one-of st (v ∷ vs) (suc j) h = omega (arith, size-one-of st vs j (omega arith))

answer-one-of : (θ : Map) (st : List Sort) (vs : List ℕ) (j : ℕ) → j < length vs → size (apply θ (get_or st (get_or vs j 0) leaf)) ≤ sizes (apply_all θ (sorts_of st vs))
unfolding size sorts_of apply_all
answer-one-of θ st [] j h = absurd (omega arith)
answer-one-of θ st (v ∷ vs) zero h = omega arith
answer-one-of θ st (v ∷ vs) (suc j) h = omega (arith, answer-one-of θ st vs j (omega arith))

-- A number for each answer.
indices-each : (θ : Map) (st ts : List Sort) (vs l : List ℕ) → length l ≡ length vs
    → ((i : ℕ) → i < length vs → get_or l i 0 ≡ index_of (apply θ (get_or st (get_or vs i 0) leaf)) ts)
    → l ≡ indices_of (apply_all θ (sorts_of st vs)) ts
unfolding sorts_of apply_all indices_of
indices-each θ st ts [] [] h e = refl
indices-each θ st ts [] (x ∷ l) h e = absurd (omega arith)
indices-each θ st ts (v ∷ vs) [] h e = absurd (omega arith)
indices-each θ st ts (v ∷ vs) (x ∷ l) h e =
    ap₂ (λ (i : ℕ) (is : List ℕ). i ∷ is) (e 0 (omega arith)) (indices-each θ st ts vs l (omega arith) (λ i k. e (suc i) (omega arith)))

-- ALONG THE PARTS: the first j have their answers' numbers, the others their own, and what is left makes the whole.
pub record PartsInv (b p : List ℕ) (n u : ℕ) (parts l c q ix list : List ℕ) (m v j : ℕ) : Type 0 where
  pub low : j ≤ length parts
  pub good : Good c q ix m v
  pub starts : Starts (store_of b p n) (store_of c q m)
  pub kept : Kept b p n u c q
  pub long : length list ≡ length parts
  pub rest : (i : ℕ) → j ≤ i → get_or list i 0 ≡ get_or parts i 0
  pub there : (i : ℕ) → i < j → memb (answer_at b p n l (get_or parts i 0)) (store_of c q m) ≡ true
  pub number : (i : ℕ) → i < j → get_or list i 0 ≡ index_of (answer_at b p n l (get_or parts i 0)) (store_of c q m)
  pub total : intern_all (answers_at b p n l (drop j parts)) (store_of c q m) ≡ intern_all (answers_at b p n l parts) (store_of b p n)

-- With the table of answers, which stays true.
pub record KnownInv (b p : List ℕ) (n u : ℕ) (parts l c q ix ws list : List ℕ) (m v j : ℕ) : Type 0 where
  pub inv : PartsInv b p n u parts l c q ix list m v j
  pub known : Known c q m l ws

pub parts-start : {b p ix : List ℕ} {n u : ℕ} {parts l : List ℕ} → PartsAsk b p ix n u parts l → PartsInv b p n u parts l b p ix parts n u 0
parts-start {b} {p} {n = n} {u} a =
    record {
      low = omega arith;
      good = a.ready.good;
      starts = starts-self (store_of b p n);
      kept = kept_self b p n u;
      long = refl;
      rest = λ i h. refl;
      there = λ i h. absurd (omega arith);
      number = λ i h. absurd (omega arith);
      total = refl;
    }

module _ {b p ix : List ℕ} {n u : ℕ} {parts l : List ℕ} (a : PartsAsk b p ix n u parts l)
    {c q jx list : List ℕ} {m v j : ℕ} (i : PartsInv b p n u parts l c q jx list m v j) where
  along : Along b p n u parts l c q jx m v j
  along = record { good = i.good; starts = i.starts; kept = i.kept; total = i.total }

  module _ (h : j < length parts) {k : ℕ} (first : k ≡ get_or list j 0) where
    here : k ≡ get_or parts j 0
    here = first ∙ i.rest j (omega arith)

    known : k < n
    known = omega (arith, here, a.below j h)

    answer-here : answer_at c q m l k ≡ answer_at b p n l (get_or parts j 0)
    answer-here = answer-same b p c q n m l i.starts a.ready.table k known ∙ ap (answer_at b p n l) here

    sort-here : sort_at c q m k ≡ get_or (store_of b p n) (get_or parts j 0) leaf
    unfolding sort_at
    sort-here =
        sort-same b p c q n m l i.starts a.ready.table k known
        ∙ ap (λ (y : ℕ). get_or (store_of b p n) y leaf) here

    pub parts-asks : (2 * size (sort_at c q m k) < 2 * sizes (sorts_of (store_of b p n) parts) + 1)
        × SortAsks c q jx m v k l
    unfolding sort_at
    parts-asks = (
      omega (arith, ap size sort-here, size-one-of (store_of b p n) parts j h),
      along-asks b p ix n u l a.ready parts c q jx m v j along k known h (sym here)
          (omega (
            arith,
            ap (λ (y : ℕ). size (apply (images_of (store_of b p n) l) (get_or (store_of b p n) y leaf))) here,
            answer-one-of (images_of (store_of b p n) l) (store_of b p n) parts j h,
            a.small,
          )),
    )

    pub parts-halted : {d r kx : List ℕ} {m' v' : ℕ}
        → Halted c q m v (intern (answer_at c q m l k) (store_of c q m)) d r kx m' v'
        → Halted b p n u (intern_all (answers_at b p n l parts) (store_of b p n)) d r kx m' v'
    parts-halted {d} {r} {kx} {m'} {v'} =
        along-halted b p ix n u l a.ready parts c q jx m v j along k known h (sym here) d r kx m' v'

    module _ {d r kx : List ℕ} {y m' v' : ℕ} (w : Made c q m v (answer_at c q m l k) d r kx y m' v') where
      grows : Starts (store_of c q m) (store_of d r m')
      grows = made-starts c q m v (answer_at c q m l k) d r kx y m' v' w

      pub parts-number : y < 65536
      parts-number = omega (arith, made-known c q m v (answer_at c q m l k) d r kx y m' v' w, w.good.indexed.count)

      now-there : (x : ℕ) → x < suc j → memb (answer_at b p n l (get_or parts x 0)) (store_of d r m') ≡ true
      now-there =
          below_suc (λ (x : ℕ). memb (answer_at b p n l (get_or parts x 0)) (store_of d r m') ≡ true) j
          (λ x o. memb-starts (store_of c q m) (store_of d r m') (answer_at b p n l (get_or parts x 0)) grows (i.there x o))
          (subst (λ (s : Sort). memb s (store_of d r m') ≡ true) answer-here (made-there c q m v (answer_at c q m l k) d r kx y m' v' w))

      now-number : (x : ℕ) → x < suc j → get_or (set list j y) x 0 ≡ index_of (answer_at b p n l (get_or parts x 0)) (store_of d r m')
      now-number =
          below_suc (λ (x : ℕ). get_or (set list j y) x 0 ≡ index_of (answer_at b p n l (get_or parts x 0)) (store_of d r m')) j
          (λ x o.
          get_or-set_other list j x y 0 (λ z. omega arith) ∙ i.number x o
          ∙ sym (index-starts (store_of c q m) (store_of d r m') (answer_at b p n l (get_or parts x 0))
          (store-once d r m' w.good.stored w.good.distinct) grows (i.there x o)))
          (get_or-set_same list j y 0 (omega (arith, i.long)) ∙ w.number ∙ ap (λ (s : Sort). index_of s (store_of d r m')) answer-here)

      onward : Along b p n u parts l d r kx m' v' (j + 1)
      onward =
          along-more b p ix n u l a.ready parts c q jx m v j along k known h (sym here)
          d r kx y m' v' w

      pub parts-inv-more : PartsInv b p n u parts l d r kx (set list j y) m' v' (j + 1)
      parts-inv-more =
          record {
            low = omega arith;
            good = w.good;
            starts = onward.starts;
            kept = onward.kept;
            long = length-set list j y ∙ i.long;
            rest = λ x o. get_or-set_other list j x y 0 (λ z. omega arith) ∙ i.rest x (omega arith);
            there = λ x o. now-there x (omega arith);
            number = λ x o. now-number x (omega arith);
            total = onward.total;
          }

  pub parts-done : length parts ≤ j → PartsMade b p n u (answers_at b p n l parts) c q jx list m v
  unfolding sorts_of apply_all intern_all sort_at
  parts-done h =
      record {
        good = i.good;
        added = along-done b p ix n u l a.ready parts c q jx m v j along h;
        has =
            indices-each (images_of (store_of b p n) l) (store_of b p n) (store_of c q m) parts list i.long
            (λ x o. i.number x (omega arith));
        kept = i.kept;
      }
