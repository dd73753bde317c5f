-- Laws of the order of a deep sort: making the answers of the sorts that it lists makes the answer of the sort; and the walk in
-- that order is as the walk from the sort.
use Prim.Native.Nat.{ℕ, zero, suc, ◌+◌, ◌-◌, ◌≤◌, ◌<◌}
use mathlib.Core.Path.{◌≡◌, refl, sym, ap, subst, ◌∙◌}
use mathlib.Core.Bool.{Bool, true, false, cond}
use mathlib.Core.List.{List, [], ◌∷◌, ◌++◌}
use native.Mathlib.Omega.{arith}
use lib.ListN.{length, get_or, set, replicate, length-set, length-replicate, length-append}
use lib.Seq.{get_or-set_other}
use Rattle.std.proofs.Common.{Result, Ok, Err, IsErr}
use Rattle.std.proofs.lemmas.List.{get_or_append_left, get_or-append_right}
use Rattle.record.specs.Number.{numbers_at}
use Rattle.record.specs.Sort.{Sort, Sorts, var, par, node, end, size, sizes, parts_of}
use Rattle.record.specs.Record.{leaf, sorts_of}
use Rattle.record.specs.Store.{memb, intern, intern_all}
use Rattle.record.specs.Decode.{store_of, sort_at, Stored}
use Rattle.record.specs.Codec.{length-numbers_at, number_at}
use Rattle.record.specs.Entries.{store-ordered}
use Rattle.record.specs.Cases.{clash}
use Rattle.record.specs.StoreLaws.{store_of-length}
use Rattle.record.specs.SortLists.{below_suc, Ordered, Starts, memb-at, memb-starts, memb-intern, starts-intern, starts-intern-all, ordered-intern-all, intern-known}
use Rattle.record.specs.declared.SortRecord.{SortRecord}
use Rattle.store.specs.Entry.{EntryIs}
use Rattle.substitution.specs.Substitution.{Map, left, under, apply, apply_all}
use Rattle.substitution.proofs.SubstitutionLaws.{apply-var, apply-var-free}
use Rattle.store.specs.declared.Full.{Full}
use Rattle.apply_walk.specs.Images.{image_at, images_of, ImageTable, find-images}
use Rattle.apply_walk.specs.Made.{Made, intern-first}
use Rattle.apply_walk.specs.Halted.{Halted, made-over}
use Rattle.apply_walk.specs.Contract.{answer_at, answers_at, SortAsks}
use Rattle.apply_walk.specs.Known.{Known, KnownWalkAsks, KnownIs}
use Rattle.apply_walk.specs.InternLaws.{intern-under}
use Rattle.apply_walk.specs.AlongLaws.{Along, along-start, along-same, along-asks, along-halted, along-more, along-done}
use Rattle.apply.specs.Order.{sort_answer, answers_listed, Base, Covers, SizesWithin, unnoted, OrderAsks, OrderIs, InOrderAsk, InOrderMade, InOrderAre}

-- INTERNING AN ANSWER AFTER THOSE OF THE PARTS is interning it.
intern-after : (θ : Map) (s : Sort) (st : List Sort) → Ordered st → intern (apply θ s) (intern_all (apply_all θ (parts_of s)) st) ≡ intern (apply θ s) st
unfolding apply intern_all
intern-after θ (var v) st o = refl
intern-after θ (par ns b) st o = intern-under (left θ ns) (apply θ b) st o
intern-after θ (node k a w ss) st o = intern-first (node k a w (apply_all θ ss)) st o

-- The answers of the parts are no larger together.
size-under : (ns : List ℕ) (b : Sort) → size b ≤ size (under ns b)
unfolding size
size-under [] b = omega arith
size-under (n ∷ ns) b = omega arith

sizes-after : (θ : Map) (s : Sort) → sizes (apply_all θ (parts_of s)) ≤ size (apply θ s)
unfolding apply size
sizes-after θ (var v) = omega arith
sizes-after θ (par ns b) = omega (arith, size-under (left θ ns) (apply θ b))
sizes-after θ (node k a w ss) = omega arith

-- One number more.
listed_more : (θ : Map) (S : List Sort) (vs : List ℕ) (k : ℕ) (st : List Sort)
    → intern_all (apply_all θ (sorts_of S (vs ++ (k ∷ [])))) st ≡ intern (sort_answer θ S k) (intern_all (apply_all θ (sorts_of S vs)) st)
unfolding sorts_of apply_all intern_all
listed_more θ S [] k st = refl
listed_more θ S (v ∷ vs) k st = listed_more θ S vs k (intern (sort_answer θ S v) st)

-- A sort that is noted now.
unnoted_by : (t : Bool) (x y : ℕ) → suc x ≡ y → suc (cond t x (suc x)) ≡ cond t y (suc y)
unnoted_by true x y e = e
unnoted_by false x y e = ap suc e

unnoted-set : (l : List Bool) (k : ℕ) → k < length l → get_or l k false ≡ false → suc (unnoted (set l k true)) ≡ unnoted l
unfolding unnoted
unnoted-set [] k h e = absurd (omega arith)
unnoted-set (a ∷ l) zero h e = sym (ap (λ (t : Bool). cond t (unnoted l) (suc (unnoted l))) e)
unnoted-set (a ∷ l) (suc k) h e = unnoted_by a (unnoted (set l k true)) (unnoted l) (unnoted-set l k (omega arith) e)

unnoted-all : (m : ℕ) → unnoted (replicate m false) ≡ m
unfolding unnoted
unnoted-all zero = refl
unnoted-all (suc m) = ap suc (unnoted-all m)

none-noted : (m j : ℕ) → get_or (replicate m false) j false ≡ false
none-noted zero j = refl
none-noted (suc m) zero = refl
none-noted (suc m) (suc j) = none-noted m j

-- What holds of each sort noted before, and of k, holds of each noted with k.
noted-set : (Q : ℕ → Type 0) (l : List Bool) (k : ℕ) → ((j : ℕ) → get_or l j false ≡ true → Q j) → Q k → (j : ℕ) → get_or (set l k true) j false ≡ true → Q j
noted-set Q [] k all one j e = all j e
noted-set Q (a ∷ l) zero all one zero e = one
noted-set Q (a ∷ l) zero all one (suc j) e = all (suc j) e
noted-set Q (a ∷ l) (suc k) all one zero e = all zero e
noted-set Q (a ∷ l) (suc k) all one (suc j) e = noted-set (λ (i : ℕ). Q (suc i)) l k (λ i. all (suc i)) one j e

-- ALONG THE PARTS OF k: those left are to be listed behind o, which lists the others behind o₀.
pub record OrderInv (b p : List ℕ) (seen₀ : List Bool) (o₀ : List ℕ) (n k : ℕ) (seen : List Bool) (o left : List ℕ) : Type 0 where
  pub below : (j : ℕ) → j < length left → get_or left j 0 < k
  pub above : (j : ℕ) → k ≤ j → get_or seen j false ≡ get_or seen₀ j false
  pub long : length seen ≡ length seen₀
  pub room : length o + unnoted seen ≤ 4096
  pub covers : Covers (store_of b p n) seen o
  pub total : (θ : Map) (st : List Sort) → Base θ (store_of b p n) st
      → intern_all (apply_all θ (sorts_of (store_of b p n) left)) (answers_listed θ (store_of b p n) o st)
      ≡ intern_all (apply_all θ (parts_of (get_or (store_of b p n) k leaf))) (answers_listed θ (store_of b p n) o₀ st)
  pub fits : (θ : Map) → sizes (apply_all θ (sorts_of (store_of b p n) left)) ≤ size (sort_answer θ (store_of b p n) k)
  pub within : (θ : Map) (z : ℕ) → size (sort_answer θ (store_of b p n) k) ≤ z → SizesWithin θ (store_of b p n) z o₀ → SizesWithin θ (store_of b p n) z o

module _ {b p : List ℕ} {seen : List Bool} {o : List ℕ} {n k : ℕ} (a : OrderAsks b p seen o n k) where
  abbrev S : List Sort
  S = store_of b p n

  many : k < length S
  many = omega (arith, a.known, store_of-length b p n)

  -- Nothing is listed where the answer is there.
  there : ((θ : Map) (st : List Sort) → Base θ S st → memb (sort_answer θ S k) (answers_listed θ S o st) ≡ true) → OrderIs b p seen o n k seen o
  there h =
      record {
        table = refl;
        above = λ j l. refl;
        room = a.room;
        covers = a.covers;
        adds = λ θ st w.
            sym (intern-known (sort_answer θ S k) (answers_listed θ S o st) (ordered-intern-all (apply_all θ (sorts_of S o)) st w.ordered) (h θ st w));
        within = λ θ z l w. w;
      }

  pub order-noted : get_or seen k false ≡ true → OrderIs b p seen o n k seen o
  order-noted d = there (λ θ st w. a.covers θ st w k d)

  module _ {e : SortRecord} (is : EntryIs b p n k e) where
    parts_are : sorts_of S (numbers_at b e.parts.at e.parts.count) ≡ parts_of (get_or S k leaf)
    unfolding sort_at
    parts_are = is.parts

    pub order-leaf : e.parts.count ≡ 0 → OrderIs b p seen o n k seen o
    unfolding numbers_at sorts_of
    order-leaf z =
        let bare : parts_of (get_or S k leaf) ≡ end = sym parts_are ∙ ap (λ (x : ℕ). sorts_of S (numbers_at b e.parts.at x)) z in
        there (λ θ st w.
        memb-starts st (answers_listed θ S o st) (sort_answer θ S k) (starts-intern-all (apply_all θ (sorts_of S o)) st) (w.leaves k many bare))

    pub order-start : (left : List ℕ) → left ≡ numbers_at b e.parts.at e.parts.count → OrderInv b p seen o n k seen o left
    order-start left q =
        let all = ap (sorts_of S) q ∙ parts_are in
        record {
          below = λ j h.
              let l : j < e.parts.count = omega (arith, h, ap length q, length-numbers_at b e.parts.at e.parts.count) in
              omega (arith, ap (λ (vs : List ℕ). get_or vs j 0) q, number_at b e.parts.at e.parts.count j l, is.below j l);
          above = λ j h. refl;
          long = refl;
          room = a.room;
          covers = a.covers;
          total = λ θ st w. ap (λ (ss : Sorts). intern_all (apply_all θ ss) (answers_listed θ S o st)) all;
          fits = λ θ. omega (arith, ap (λ (ss : Sorts). sizes (apply_all θ ss)) all, sizes-after θ (get_or S k leaf));
          within = λ θ z h w. w;
        }

  module _ {seen' : List Bool} {o' left : List ℕ} (i : OrderInv b p seen o n k seen' o' left) where
    module _ {part : ℕ} {rest : List ℕ} (e : left ≡ part ∷ rest) where
      less : part < k
      less = omega (arith, i.below 0 (omega (arith, ap length e)), ap (λ (vs : List ℕ). get_or vs 0 0) e)

      pub order-asks : (part < k) × OrderAsks b p seen' o' n part
      order-asks = (
        less,
        record {
          stored = a.stored;
          few = a.few;
          known = omega (arith, less, a.known);
          table = i.long ∙ a.table;
          room = i.room;
          covers = i.covers;
        },
      )

      size-part : (θ : Map) → size (sort_answer θ S part) + sizes (apply_all θ (sorts_of S rest)) ≤ size (sort_answer θ S k)
      unfolding sorts_of apply_all size
      size-part θ = omega (arith, i.fits θ, ap (λ (vs : List ℕ). sizes (apply_all θ (sorts_of S vs))) e)

      pub order-more : {seen'' : List Bool} {o'' : List ℕ} → OrderIs b p seen' o' n part seen'' o'' → OrderInv b p seen o n k seen'' o'' rest
      unfolding sorts_of apply_all intern_all
      order-more {seen''} {o''} w =
          record {
            below = λ j l.
                omega (arith, i.below (suc j) (omega (arith, l, ap length e)), ap (λ (vs : List ℕ). get_or vs (suc j) 0) e);
            above = λ j l. w.above j (omega (arith, less)) ∙ i.above j l;
            long = w.table ∙ i.long;
            room = w.room;
            covers = w.covers;
            total = λ θ st y.
                ap (intern_all (apply_all θ (sorts_of S rest))) (w.adds θ st y)
                ∙ sym (ap (λ (vs : List ℕ). intern_all (apply_all θ (sorts_of S vs)) (answers_listed θ S o' st)) e)
                ∙ i.total θ st y;
            fits = λ θ. omega (arith, size-part θ);
            within = λ θ z l y. w.within θ z (omega (arith, size-part θ)) (i.within θ z l y);
          }

    module _ (z : get_or seen k false ≡ false) where
      gone : suc (unnoted (set seen' k true)) ≡ unnoted seen'
      gone = unnoted-set seen' k (omega (arith, i.long, a.table, a.few, a.known)) (i.above k (omega arith) ∙ z)

      pub order-free : length o' < 4096
      order-free = omega (arith, i.room, gone)

      module _ (h : left ≡ []) where
        abbrev last : List ℕ
        last = o' ++ (k ∷ [])

        last-adds : (θ : Map) (st : List Sort) → answers_listed θ S last st ≡ intern (sort_answer θ S k) (answers_listed θ S o' st)
        last-adds θ st = listed_more θ S o' k st

        parts-made : {θ : Map} {st : List Sort} → Base θ S st → answers_listed θ S o' st ≡ intern_all (apply_all θ (parts_of (get_or S k leaf))) (answers_listed θ S o st)
        unfolding sorts_of apply_all intern_all
        parts-made {θ} {st} w =
            sym (ap (λ (y : List ℕ). intern_all (apply_all θ (sorts_of S y)) (answers_listed θ S o' st)) h) ∙ i.total θ st w

        last-covers : Covers S (set seen' k true) last
        last-covers θ st w =
            let g : Starts (answers_listed θ S o' st) (answers_listed θ S last st) =
            subst (Starts (answers_listed θ S o' st)) (sym (last-adds θ st)) (starts-intern (sort_answer θ S k) (answers_listed θ S o' st)) in
            noted-set (λ (j : ℕ). memb (sort_answer θ S j) (answers_listed θ S last st) ≡ true) seen' k
            (λ j d. memb-starts (answers_listed θ S o' st) (answers_listed θ S last st) (sort_answer θ S j) g (i.covers θ st w j d))
            (ap (memb (sort_answer θ S k)) (last-adds θ st) ∙ memb-intern (sort_answer θ S k) (answers_listed θ S o' st))

        last_within : (θ : Map) (y : ℕ) → size (sort_answer θ S k) ≤ y → SizesWithin θ S y o' → SizesWithin θ S y last
        last_within θ y l w j q =
            below_suc (λ (j : ℕ). Fits (get_or last j 0)) (length o')
            (λ j r. subst Fits (sym (get_or_append_left o' (k ∷ []) 0 j r)) (w j r))
            (subst Fits (sym (last-k)) (many, l))
            j (omega (arith, q, length-append o' (k ∷ [])))
          where
            Fits : ℕ → Type 0
            Fits v = (v < length S) × (size (sort_answer θ S v) ≤ y)

            last-k : get_or last (length o') 0 ≡ k
            last-k =
                let d : length o' - length o' ≡ 0 = omega arith in
                get_or-append_right o' (k ∷ []) (length o') (length o') 0 refl (omega arith) ∙ ap (λ (j : ℕ). get_or (k ∷ []) j 0) d

        pub order-last : {o'' : List ℕ} → o'' ≡ last → OrderIs b p seen o n k (set seen' k true) o''
        order-last eo =
            subst (OrderIs b p seen o n k (set seen' k true)) (sym eo)
            (record {
              table = length-set seen' k true ∙ i.long;
              above = λ j l. get_or-set_other seen' k j true false (λ e. omega arith) ∙ i.above j (omega arith);
              room = omega (arith, i.room, gone, length-append o' (k ∷ []));
              covers = last-covers;
              adds = λ θ st w.
                  last-adds θ st
                  ∙ ap (intern (sort_answer θ S k)) (parts-made w)
                  ∙ intern-after θ (get_or S k leaf) (answers_listed θ S o st) (ordered-intern-all (apply_all θ (sorts_of S o)) st w.ordered);
              within = λ θ y l w. last_within θ y l (i.within θ y l w);
            })

-- The same store, read through other slices, and the same list.
pub order-asks-through : {b p b' p' : List ℕ} {seen : List Bool} {o o' : List ℕ} {n k : ℕ} → b' ≡ b → p' ≡ p → o' ≡ o
    → OrderAsks b p seen o n k → OrderAsks b' p' seen o' n k
order-asks-through {b} {p} {p' = p'} {seen} {o} {o'} {n} {k} e f g h =
    subst (λ (x : List ℕ). OrderAsks x p' seen o' n k) (sym e) (subst (λ (x : List ℕ). OrderAsks b x seen o' n k) (sym f)
    (subst (λ (x : List ℕ). OrderAsks b p seen x n k) (sym g) h))

pub order-is-through : {b p b' p' : List ℕ} {seen : List Bool} {o o' : List ℕ} {n k : ℕ} {seen' : List Bool} {q q' : List ℕ} → b' ≡ b → p' ≡ p → o' ≡ o → q ≡ q'
    → OrderIs b' p' seen o' n k seen' q' → OrderIs b p seen o n k seen' q
order-is-through {p = p} {b'} {p'} {seen} {o} {o'} {n} {k} {seen'} {q} {q'} e f g i h =
    subst (λ (x : List ℕ). OrderIs x p seen o n k seen' q) e (subst (λ (x : List ℕ). OrderIs b' x seen o n k seen' q) f
    (subst (λ (x : List ℕ). OrderIs b' p' seen x n k seen' q) g (subst (OrderIs b' p' seen o' n k seen') (sym i) h)))

-- THE STORE ITSELF has the answers of its sorts without parts.
image-there : (st : List Sort) (l : List ℕ) (v : ℕ) → memb (var v) st ≡ true → (x : ℕ) → get_or l v 0 ≡ x → x ≤ length st
    → memb (apply (images_of st l) (var v)) st ≡ true
image-there st l v m zero e h =
    ap (λ (s : Sort). memb s st) (apply-var-free (images_of st l) v (find-images st l v ∙ ap (image_at st) e)) ∙ m
image-there st l v m (suc j) e h =
    ap (λ (s : Sort). memb s st) (apply-var (images_of st l) v (get_or st j leaf) (find-images st l v ∙ ap (image_at st) e)) ∙ memb-at st leaf j h

leaf-there : (st : List Sort) {l : List ℕ} → ImageTable l (length st) → (s : Sort) → memb s st ≡ true → parts_of s ≡ end → memb (apply (images_of st l) s) st ≡ true
unfolding apply
leaf-there st {l} t (var v) m e = image-there st l v m (get_or l v 0) refl (t.below v)
leaf-there st {l} t (par ns b) m e = let z : ◌≡◌ {A = ℕ} 0 1 = cc in absurd (omega arith)
leaf-there st {l} t (node k a w ss) m e =
    ap (λ (x : Sort). memb x st) (ap (λ (x : Sorts). node k a w (apply_all (images_of st l) x)) e ∙ sym (ap (node k a w) e)) ∙ m

base-self : {b p : List ℕ} {n : ℕ} {l : List ℕ} → Stored b p n → ImageTable l n → Base (images_of (store_of b p n) l) (store_of b p n) (store_of b p n)
base-self {b} {p} {n} {l} s t =
    record {
      ordered = store-ordered b p n s;
      leaves = λ k h e.
          leaf-there (store_of b p n) (subst (ImageTable l) (sym (store_of-length b p n)) t) (get_or (store_of b p n) k leaf) (memb-at (store_of b p n) leaf k h) e;
    }

-- IN ORDER: the answers of the first j are made, and the table of answers stays true.
pub record InOrderInv (b p : List ℕ) (n u : ℕ) (o l c q ix ws : List ℕ) (m v j : ℕ) : Type 0 where
  pub along : Along b p n u o l c q ix m v j
  pub known : Known c q m l ws

module _ {b p ix ws : List ℕ} {n u : ℕ} {o l : List ℕ} (a : InOrderAsk b p ix ws n u o l) where
  pub in-order-start : InOrderInv b p n u o l b p ix ws n u 0
  in-order-start = record { along = along-start b p ix n u o l a.ready.good; known = a.known }

  module _ {c q jx vs : List ℕ} {m v j : ℕ} (i : InOrderInv b p n u o l c q jx vs m v j) where
    pub in-order-done : length o ≤ j → InOrderMade b p n u o l c q jx vs m v
    in-order-done h =
        record {
          good = i.along.good;
          added = along-done b p ix n u l a.ready o c q jx m v j i.along h;
          kept = i.along.kept;
          known = i.known;
        }

    module _ (h : j < length o) {k : ℕ} (e : k ≡ get_or o j 0) where
      fit : (k < n) × (size (answer_at b p n l k) ≤ 4096)
      unfolding sort_at
      fit =
          let w = a.within j h in
          (omega (arith, e, w.0, store_of-length b p n), omega (arith, w.1, ap (λ (y : ℕ). size (answer_at b p n l y)) e))

      pub in-order-asks : KnownWalkAsks c q jx vs m v k l
      in-order-asks =
          record {
            asks =
                along-asks b p ix n u l a.ready o c q jx m v j i.along k fit.0 h (sym e) fit.1;
            known = i.known;
          }

      pub in-order-halted : {d r kx : List ℕ} {m' v' : ℕ} → Halted c q m v (intern (answer_at c q m l k) (store_of c q m)) d r kx m' v'
          → Halted b p n u (intern_all (answers_at b p n l o) (store_of b p n)) d r kx m' v'
      in-order-halted {d} {r} {kx} {m'} {v'} w =
          along-halted b p ix n u l a.ready o c q jx m v j i.along k fit.0 h (sym e)
          d r kx m' v' w

      pub in-order-more : {d r kx : List ℕ} (ys' : List ℕ) {x m' v' : ℕ} → Made c q m v (answer_at c q m l k) d r kx x m' v'
          → Known d r m' l ys' → InOrderInv b p n u o l d r kx ys' m' v' (j + 1)
      in-order-more {d} {r} {kx} ys' {x} {m'} {v'} w t =
          record {
            along =
                along-more b p ix n u l a.ready o c q jx m v j i.along k fit.0 h (sym e)
                d r kx x m' v' w;
            known = t;
          }

-- Where there was no room.
pub in-order-stopped : (b p : List ℕ) (n u : ℕ) (o l c q ix' ws' : List ℕ) (m v : ℕ) (r : Result (Unit {0}) Full) → IsErr r
    → Halted b p n u (intern_all (answers_at b p n l o) (store_of b p n)) c q ix' m v → InOrderAre b p n u o l c q ix' ws' m v r
in-order-stopped b p n u o l c q ix' ws' m v (Ok w) e h = cc
in-order-stopped b p n u o l c q ix' ws' m v (Err f) e h = h

-- A DEEP SORT.
module _ {b p ix : List ℕ} {n u k : ℕ} {l : List ℕ} (a : SortAsks b p ix n u k l) where
  pub deep-order : OrderAsks b p (replicate 4096 false) [] n k
  deep-order =
      record {
        stored = a.ready.good.stored;
        few = a.ready.good.indexed.count;
        known = a.known;
        table = length-replicate {A = Bool} 4096 false;
        room = omega (arith, unnoted-all 4096);
        covers = λ θ st w j d. absurd (clash d (none-noted 4096 j));
      }

  module _ {seen' : List Bool} {o : List ℕ} (w : OrderIs b p (replicate 4096 false) [] n k seen' o) where
    pub deep-asks : (ws : List ℕ) → Known b p n l ws → InOrderAsk b p ix ws n u o l
    unfolding sort_at
    deep-asks ws t =
        record {
          ready = a.ready;
          known = t;
          within = w.within (images_of (store_of b p n) l) 4096 a.small (λ j h. absurd (omega arith));
        }

    whole : intern_all (answers_at b p n l o) (store_of b p n) ≡ intern (answer_at b p n l k) (store_of b p n)
    unfolding sort_at sorts_of apply_all intern_all
    whole = w.adds (images_of (store_of b p n) l) (store_of b p n) (base-self a.ready.good.stored a.ready.table)

    pub deep-stuck : {c q jx : List ℕ} {m v : ℕ} → Halted b p n u (intern_all (answers_at b p n l o) (store_of b p n)) c q jx m v
        → Halted b p n u (intern (answer_at b p n l k) (store_of b p n)) c q jx m v
    deep-stuck {c} {q} {jx} {m} {v} h = subst (λ (st : List Sort). Halted b p n u st c q jx m v) whole h

    module _ {c q jx ws : List ℕ} {m v : ℕ} (y : InOrderMade b p n u o l c q jx ws m v) where
      made : store_of c q m ≡ intern (answer_at b p n l k) (store_of b p n)
      made = y.added ∙ whole

      again : intern (answer_at b p n l k) (store_of c q m) ≡ intern (answer_at b p n l k) (store_of b p n)
      again =
          intern-known (answer_at b p n l k) (store_of c q m) (store-ordered c q m y.good.stored)
          (ap (memb (answer_at b p n l k)) made ∙ memb-intern (answer_at b p n l k) (store_of b p n))
          ∙ made

      grows : Starts (store_of b p n) (store_of c q m)
      grows = subst (Starts (store_of b p n)) (sym made) (starts-intern (answer_at b p n l k) (store_of b p n))

      along : Along b p n u (k ∷ []) l c q jx m v 0
      unfolding sort_at sorts_of apply_all intern_all
      along = record { good = y.good; starts = grows; kept = y.kept; total = again }

      pub deep-last : KnownWalkAsks c q jx ws m v k l
      deep-last =
          record {
            asks = along-asks b p ix n u l a.ready (k ∷ []) c q jx m v 0 along k a.known (omega arith) refl a.small;
            known = y.known;
          }

      pub deep_is : (d r kx vs : List ℕ) (m' v' : ℕ) (t : Result ℕ Full) → KnownIs c q m v k l d r kx vs m' v' t → KnownIs b p n u k l d r kx vs m' v' t
      unfolding sort_at sorts_of apply_all intern_all
      deep_is d r kx vs m' v' (Ok i) z =
          record {
            made =
                made-over b p ix n u a.ready.good c q jx m v y.good grows y.kept (answer_at b p n l k) again d r kx i m' v'
                (subst (λ (s : Sort). Made c q m v s d r kx i m' v')
                (along-same b p ix n u l a.ready (k ∷ []) c q jx m v 0 along k a.known (omega arith) refl) z.made);
            known = z.known;
          }
      deep_is d r kx vs m' v' (Err f) z =
          along-halted b p ix n u l a.ready (k ∷ []) c q jx m v 0 along k a.known (omega arith) refl d r kx m' v' z
