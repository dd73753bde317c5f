-- The answers of several sorts made one after the other, each in the store that the ones before it left: what is left makes the
-- whole, and where room runs out there is none for the whole.
use Rattle.std.specs.Prelude.{ℕ, suc, ◌+◌, ◌≤◌, ◌<◌, ◌≡◌, refl, false, length, get_or, drop}
use Rattle.std.proofs.Math.Path.{sym, ap}
use Rattle.std.proofs.Common.{ap₂, subst, ◌∙◌, arith, add-one, drop_of_length-le, drop-cons}
use mathlib.Core.List.{List}
use Rattle.record.specs.Sort.{Sort, size}
use Rattle.record.specs.Record.{leaf, sorts_of}
use Rattle.record.specs.Store.{intern, intern_all, room}
use Rattle.record.specs.Decode.{store_of, sort_at}
use Rattle.record.specs.SortLists.{Starts, starts-self, starts-trans, starts-intern-all, room-starts}
use Rattle.store.specs.Good.{Good, Kept}
use Rattle.substitution.specs.Substitution.{apply, apply_all}
use Rattle.apply_walk.specs.Images.{images_of}
use Rattle.apply_walk.specs.Made.{Made, made-starts, kept_self, kept_trans, grown-count, grown-used}
use Rattle.apply_walk.specs.Halted.{Halted}
use Rattle.apply_walk.specs.Contract.{answer_at, answers_at, Ready, SortAsks}
use Rattle.apply_walk.specs.KnownLaws.{answer-same, table_same}

-- The store c q has grown from b p by the answers of the first j numbers of vs.
pub record Along (b p : List ℕ) (n u : ℕ) (vs l c q ix : List ℕ) (m v j : ℕ) : Type 0 where
  pub good : Good c q ix m v
  pub starts : Starts (store_of b p n) (store_of c q m)
  pub kept : Kept b p n u c q
  pub total : intern_all (answers_at b p n l (drop j vs)) (store_of c q m) ≡ intern_all (answers_at b p n l vs) (store_of b p n)

pub along-start : (b p ix : List ℕ) (n u : ℕ) (vs l : List ℕ) → Good b p ix n u → Along b p n u vs l b p ix n u 0
along-start b p ix n u vs l g =
    record { good = g; starts = starts-self (store_of b p n); kept = kept_self b p n u; total = refl }

module _ (b p ix : List ℕ) (n u : ℕ) (l : List ℕ) (ready : Ready b p ix n u l) (vs c q jx : List ℕ) (m v j : ℕ)
    (i : Along b p n u vs l c q jx m v j) where
  more : n ≤ m
  more = grown-count b p ix n u ready.good c q jx m v i.good i.starts

  kept_on : (d r : List ℕ) → Kept c q m v d r → Kept b p n u d r
  kept_on d r w =
      kept_trans b p n u c q m v d r more (grown-used b p ix n u ready.good c q jx m v i.good i.starts) i.kept w

  pub along-done : length vs ≤ j → store_of c q m ≡ intern_all (answers_at b p n l vs) (store_of b p n)
  unfolding sorts_of apply_all intern_all
  along-done h =
      sym (ap (λ (x : List ℕ). intern_all (answers_at b p n l x) (store_of c q m)) (drop_of_length-le vs {i = j} h)) ∙ i.total

  module _ (k : ℕ) (known : k < n) (h : j < length vs) (here : get_or vs j 0 ≡ k) where
    pub along-same : answer_at c q m l k ≡ answer_at b p n l k
    along-same = answer-same b p c q n m l i.starts ready.table k known

    pub along-asks : size (answer_at b p n l k) ≤ 4096 → SortAsks c q jx m v k l
    along-asks z =
        record {
          ready = record { good = i.good; table = table_same b p c q n m l i.starts ready.table };
          known = omega (arith, known, more);
          small = omega (arith, ap size along-same, z);
        }

    -- what is left is this answer, then the others
    step : intern_all (answers_at b p n l (drop j vs)) (store_of c q m)
        ≡ intern_all (answers_at b p n l (drop (suc j) vs)) (intern (answer_at b p n l k) (store_of c q m))
    unfolding sorts_of apply_all intern_all sort_at
    step =
        ap (λ (x : List ℕ). intern_all (answers_at b p n l x) (store_of c q m)) (drop-cons vs j 0 h)
        ∙ ap (λ (x : ℕ). intern_all (answers_at b p n l (drop (suc j) vs)) (intern (apply (images_of (store_of b p n) l) (get_or (store_of b p n) x leaf)) (store_of c q m))) here

    pub along-halted : (d r kx : List ℕ) (m' v' : ℕ) → Halted c q m v (intern (answer_at c q m l k) (store_of c q m)) d r kx m' v'
        → Halted b p n u (intern_all (answers_at b p n l vs) (store_of b p n)) d r kx m' v'
    along-halted d r kx m' v' w =
        record {
          good = w.good;
          starts = starts-trans (store_of b p n) (store_of c q m) (store_of d r m') i.starts w.starts;
          full =
              let s = answer_at b p n l k in
              let f : room (length b) (length p) (intern s (store_of c q m)) ≡ false =
              sym (ap₂ (λ (x y : ℕ). room x y (intern s (store_of c q m))) i.kept.long i.kept.wide)
              ∙ ap (λ (t : Sort). room (length c) (length q) (intern t (store_of c q m))) (sym along-same) ∙ w.full in
              subst (λ (x : List Sort). room (length b) (length p) x ≡ false) (sym step ∙ i.total)
              (room-starts (length b) (length p) (intern s (store_of c q m))
              (intern_all (answers_at b p n l (drop (suc j) vs)) (intern s (store_of c q m)))
              (starts-intern-all (answers_at b p n l (drop (suc j) vs)) (intern s (store_of c q m))) f);
          kept = kept_on d r w.kept;
        }

    pub along-more : (d r kx : List ℕ) (x m' v' : ℕ) → Made c q m v (answer_at c q m l k) d r kx x m' v'
        → Along b p n u vs l d r kx m' v' (j + 1)
    along-more d r kx x m' v' w =
        record {
          good = w.good;
          starts =
              starts-trans (store_of b p n) (store_of c q m) (store_of d r m') i.starts
              (made-starts c q m v (answer_at c q m l k) d r kx x m' v' w);
          kept = kept_on d r w.kept;
          total =
              ap (λ (y : ℕ). intern_all (answers_at b p n l (drop y vs)) (store_of d r m')) (add-one j)
              ∙ ap (intern_all (answers_at b p n l (drop (suc j) vs))) (w.added ∙ ap (λ (s : Sort). intern s (store_of c q m)) along-same)
              ∙ sym step ∙ i.total;
        }
