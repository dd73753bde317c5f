-- A sort made in the store: the store after it, or that there is no room for it. What every answer that adds sorts
-- promises, and how answers of several new sorts are put together.
use Rattle.std.specs.Prelude.{ℕ, ◌≤◌, ◌<◌, ◌≡◌, refl, true, false, List, length, take, Result, Ok, Err}
use Rattle.std.proofs.Common.{sym, subst, ◌∙◌, arith, take_at}
use Rattle.std.proofs.Math.Path.{ap}
use Rattle.std.proofs.Math.ListN.{get_or}
use Rattle.record.specs.Sort.{Sort, var, par, node, size, parts_of}
use Rattle.record.specs.Record.{Fields, leaf, sort_of}
use Rattle.record.specs.Store.{memb, add_once, intern, intern_all, index_of, room}
use Rattle.record.specs.Decode.{Shape, Below, store_of, sort_at}
use Rattle.record.specs.SortLists.{index-found, Starts, starts-count, starts-bytes, starts-intern, memb-intern, intern-known, memb-at, index_at, Ordered, ordered-intern, ordered-intern-all, memb-intern-all, intern-all-known}
use Rattle.record.specs.StoreLaws.{store_of-length}
use Rattle.record.specs.Entries.{store-ordered}
use Rattle.record.specs.Whole.{store-once}
use Rattle.store.specs.Good.{Good, Kept}
use Rattle.store.specs.Contract.{Untouched}
use Rattle.store.specs.declared.Full.{Full}

-- THE STORE AFTER MAKING THE SORT s: its parts and itself are interned, i is its number, and the old records stay.
pub record Made (b p : List ℕ) (n u : ℕ) (s : Sort) (b' p' ix' : List ℕ) (i n' u' : ℕ) : Type 0 where
  pub good : Good b' p' ix' n' u'
  pub added : store_of b' p' n' ≡ intern s (store_of b p n)
  pub number : i ≡ index_of s (store_of b' p' n')
  pub kept : Kept b p n u b' p'

-- Or there is no room for that store, and nothing has changed.
abbrev pub MadeIs : List ℕ → List ℕ → List ℕ → ℕ → ℕ → Sort → List ℕ → List ℕ → List ℕ → ℕ → ℕ → Result ℕ Full → Type 0
MadeIs b p ix n u s b' p' ix' n' u' (Ok i) = Made b p n u s b' p' ix' i n' u'
MadeIs b p ix n u s b' p' ix' n' u' (Err e) =
    (room (length b) (length p) (intern s (store_of b p n)) ≡ false) × Untouched b p ix b' p' ix' × (n' ≡ n) × (u' ≡ u)

-- A good store, and the fields of a sort over it.
pub record FieldsMakeAsks (b p ix : List ℕ) (n u : ℕ) (f : Fields) : Type 0 where
  pub good : Good b p ix n u
  pub shape : Shape f
  pub below : Below f n
  pub small : size (sort_of (store_of b p n) f) ≤ 4096

-- What a made sort's store tells: it starts with the store before, has room, and has the sort under its number.
module _ (b p : List ℕ) (n u : ℕ) (s : Sort) (b' p' ix' : List ℕ) (i n' u' : ℕ) (m : Made b p n u s b' p' ix' i n' u') where
  pub made-starts : Starts (store_of b p n) (store_of b' p' n')
  made-starts = subst (Starts (store_of b p n)) (sym m.added) (starts-intern s (store_of b p n))

  pub made_more : n ≤ n'
  made_more = omega (arith, starts-count (store_of b p n) (store_of b' p' n') made-starts, store_of-length b p n, store_of-length b' p' n')

  pub made-there : memb s (store_of b' p' n') ≡ true
  made-there = ap (memb s) m.added ∙ memb-intern s (store_of b p n)

  pub made-known : i < n'
  made-known = omega (arith, m.number, (index-found (store_of b' p' n') s made-there).0, store_of-length b' p' n')

  pub made-here : sort_at b' p' n' i ≡ s
  unfolding sort_at
  made-here = ap (λ (k : ℕ). get_or (store_of b' p' n') k leaf) m.number ∙ (index-found (store_of b' p' n') s made-there).1

pub kept_self : (b p : List ℕ) (n u : ℕ) → Kept b p n u b p
kept_self b p n u = record { bytes = λ i h. refl; places = λ k h. refl; long = refl; wide = refl }

pub kept_trans : (b p : List ℕ) (n u : ℕ) (c q : List ℕ) (m v : ℕ) (d r : List ℕ) → n ≤ m → u ≤ v → Kept b p n u c q → Kept c q m v d r → Kept b p n u d r
kept_trans b p n u c q m v d r h l k e =
    record {
      bytes = λ i o. k.bytes i o ∙ e.bytes i (omega arith);
      places = λ i o. k.places i o ∙ e.places i (omega arith);
      long = e.long ∙ k.long;
      wide = e.wide ∙ k.wide;
    }

-- A store that starts with another has as many sorts and bytes in use.
module _ (b p ix : List ℕ) (n u : ℕ) (g : Good b p ix n u) (c q jx : List ℕ) (m v : ℕ) (h : Good c q jx m v)
    (st : Starts (store_of b p n) (store_of c q m)) where
  pub grown-count : n ≤ m
  grown-count = omega (arith, starts-count (store_of b p n) (store_of c q m) st, store_of-length b p n, store_of-length c q m)

  pub grown-used : u ≤ v
  grown-used = omega (arith, starts-bytes (store_of b p n) (store_of c q m) st, g.total, h.total)

  pub grown-take : store_of b p n ≡ take n (store_of c q m)
  grown-take = sym (ap (take n) st.1 ∙ take_at (store_of b p n) st.0 n (store_of-length b p n))

-- INTERNING A SORT AFTER ITS PARTS is interning it.
pub intern-first : (s : Sort) (st : List Sort) → Ordered st → intern s (intern_all (parts_of s) st) ≡ intern s st
unfolding intern
intern-first (var v) st o = refl
intern-first (par ns b) st o =
    ap (λ (x : List Sort). add_once x (par ns b)) (intern-known b (intern b st) (ordered-intern b st o) (memb-intern b st))
intern-first (node k a w ss) st o =
    ap (λ (x : List Sort). add_once x (node k a w ss))
    (intern-all-known ss (intern_all ss st) (ordered-intern-all ss st o) (memb-intern-all ss st))

-- A SORT THAT THE STORE HAS is made by its number.
pub made-known-sort : (b p ix : List ℕ) (n u : ℕ) → Good b p ix n u → (k : ℕ) → k < n → Made b p n u (sort_at b p n k) b p ix k n u
unfolding sort_at
made-known-sort b p ix n u g k h =
    let l : k < length (store_of b p n) = omega (arith, store_of-length b p n) in
    record {
      good = g;
      added = sym (intern-known (sort_at b p n k) (store_of b p n) (store-ordered b p n g.stored) (memb-at (store_of b p n) leaf k l));
      number = sym (index_at (store_of b p n) (store-once b p n g.stored g.distinct) k l);
      kept = kept_self b p n u;
    }
