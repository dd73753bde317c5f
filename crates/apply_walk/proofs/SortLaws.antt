-- Laws of substitution that grows the store it reads from: a whole sort after its parts.
use Prim.Native.Nat.{ℕ, ◌+◌, ◌*◌, ◌<◌}
use mathlib.Core.Path.{◌≡◌, sym, ap, ap₂, subst, ◌∙◌}
use mathlib.Core.Bool.{true, false}
use mathlib.Core.List.{List}
use native.Mathlib.Omega.{arith}
use lib.ListN.{length, get_or, set}
use Rattle.record.specs.Number.{numbers_at}
use Rattle.record.specs.Sort.{Sort, Sorts, count, size, sizes, kind_of, parts_of}
use Rattle.record.specs.Record.{Fields, sorts_of}
use Rattle.record.specs.Store.{intern, intern_all, indices_of, room}
use Rattle.record.specs.Decode.{Below, store_of, sort_at}
use Rattle.record.specs.SortLists.{memb_all, memb-intern-all, Starts, starts-intern-all, room-starts}
use Rattle.record.specs.Entries.{store-ordered}
use Rattle.record.specs.Kinds.{sort_number}
use Rattle.record.specs.declared.SortRecord.{SortRecord}
use Rattle.store.specs.Contract.{Untouched}
use Rattle.store.specs.Entry.{EntryIs, EntryHas}
use Rattle.substitution.specs.Substitution.{Map, apply_all}
use Rattle.apply_walk.specs.Lists.{unbound}
use Rattle.apply_walk.specs.Images.{image_number, images_of}
use Rattle.apply_walk.specs.Made.{Made, made-known-sort, grown-count}
use Rattle.apply_walk.specs.Halted.{Halted, made-over, halted-over}
use Rattle.apply_walk.specs.Contract.{answer_at, answers_at, SortAsks, PartsAsk, PartsMade, RebuildAsks}
use Rattle.apply_walk.specs.Known.{Known}
use Rattle.apply_walk.specs.KnownLaws.{image-map-same, sort-same, answer-same, table_same, known-added}
use Rattle.apply_walk.proofs.SortForms.{rebuilt, image-is, image-known, answer-rebuilt, answer-leaf, parts-one, intern-rebuilt, starts-rebuilt, sizes-within, size-refs}

-- A WHOLE SORT.
module _ {b p ix : List ℕ} {n u k : ℕ} {l : List ℕ} (a : SortAsks b p ix n u k l) {e : SortRecord} (entry : EntryHas b p k e) where
  abbrev is : EntryIs b p n k e
  is = entry n a.ready.good.stored a.known

  pub sort-image : sort_number e.kind ≡ 2 → {i : ℕ} → i ≡ image_number (get_or l e.name 0) k → Made b p n u (answer_at b p n l k) b p ix i n u
  sort-image h {i} q =
      subst (λ (s : Sort). Made b p n u s b p ix i n u)
      (ap (sort_at b p n) q ∙ image-is a.ready.good.stored a.ready.table a.known is h)
      (made-known-sort b p ix n u a.ready.good i
      (omega (arith, q, image-known a.ready.good.stored a.ready.table a.known is)))

  pub sort-leaf : (sort_number e.kind ≡ 2 → ⊥) → e.parts.count ≡ 0 → Made b p n u (answer_at b p n l k) b p ix k n u
  sort-leaf d z =
      subst (λ (s : Sort). Made b p n u s b p ix k n u)
      (answer-leaf a.ready.good.stored a.ready.table a.known is d z)
      (made-known-sort b p ix n u a.ready.good k a.known)

  module _ (other : sort_number e.kind ≡ 2 → ⊥) {o bytes : List ℕ} (read : o ≡ numbers_at bytes e.parts.at e.parts.count) (same : bytes ≡ b) where
    ho : o ≡ numbers_at b e.parts.at e.parts.count
    ho = read ∙ ap (λ (s : List ℕ). numbers_at s e.parts.at e.parts.count) same

    abbrev ps : Sorts
    ps = apply_all (images_of (store_of b p n) l) (parts_of (sort_at b p n k))

    abbrev names : List ℕ
    names = unbound l (numbers_at b e.names.at e.names.count)

    answer-is : answer_at b p n l k ≡ rebuilt (sort_number e.kind) e.name e.number names ps
    answer-is = answer-rebuilt a.ready.good.stored a.ready.table a.known is other

    one : sort_number e.kind ≡ 12 → count ps ≡ 1
    one = parts-one a.ready.good.stored a.ready.table a.known is

    refs-are : sorts_of (store_of b p n) o ≡ parts_of (sort_at b p n k)
    refs-are = ap (sorts_of (store_of b p n)) ho ∙ is.parts

    answers-are : answers_at b p n l o ≡ ps
    answers-are = ap (apply_all (images_of (store_of b p n) l)) refs-are

    refs-below : (j : ℕ) → j < length (numbers_at b e.parts.at e.parts.count) → get_or (numbers_at b e.parts.at e.parts.count) j 0 < k
    refs-below = subst (λ (f : Fields). Below f k) is.place.same (a.ready.good.stored.each k a.known).below

    pub sort-falls : 2 * sizes (sorts_of (store_of b p n) o) + 1 < 2 * size (sort_at b p n k)
    sort-falls =
        omega (arith, size-refs is, ap (λ (vs : List ℕ). sizes (sorts_of (store_of b p n) vs)) ho)

    pub sort-parts-ask : PartsAsk b p ix n u o l
    sort-parts-ask =
        record {
          ready = a.ready;
          below = λ j h.
              omega (arith, ap (λ (vs : List ℕ). get_or vs j 0) ho, refs-below j (omega (arith, h, ap length ho)), a.known);
          small =
              omega (arith, ap sizes answers-are, ap size answer-is, a.small, sizes-within (sort_number e.kind) e.name e.number names ps other one);
        }

    pub sort-stuck : {c q kx : List ℕ} {m v : ℕ} → Halted b p n u (intern_all (answers_at b p n l o) (store_of b p n)) c q kx m v
        → Halted b p n u (intern (answer_at b p n l k) (store_of b p n)) c q kx m v
    sort-stuck {c} {q} {kx} {m} {v} w =
        record {
          good = w.good;
          starts = w.starts;
          full =
              room-starts (length b) (length p) (intern_all ps (store_of b p n)) (intern (answer_at b p n l k) (store_of b p n))
              (subst (λ (s : Sort). Starts (intern_all ps (store_of b p n)) (intern s (store_of b p n))) (sym answer-is)
              (starts-rebuilt (sort_number e.kind) e.name e.number names ps (store_of b p n) (store-ordered b p n a.ready.good.stored) other one))
              (subst (λ (ss : Sorts). room (length b) (length p) (intern_all ss (store_of b p n)) ≡ false) answers-are w.full);
          kept = w.kept;
        }

    module _ {c q kx r : List ℕ} {m v : ℕ} (w : PartsMade b p n u (answers_at b p n l o) c q kx r m v) where
      added : store_of c q m ≡ intern_all ps (store_of b p n)
      added = w.added ∙ ap (λ (ss : Sorts). intern_all ss (store_of b p n)) answers-are

      starts : Starts (store_of b p n) (store_of c q m)
      starts = subst (Starts (store_of b p n)) (sym added) (starts-intern-all ps (store_of b p n))

      ps-same : apply_all (images_of (store_of c q m) l) (parts_of (sort_at c q m k)) ≡ ps
      ps-same =
          ap₂ (λ (θ : Map) (s : Sort). apply_all θ (parts_of s)) (image-map-same b p c q n m l starts a.ready.table)
          (sort-same b p c q n m l starts a.ready.table k a.known)

      ans-same : answer_at c q m l k ≡ answer_at b p n l k
      ans-same = answer-same b p c q n m l starts a.ready.table k a.known

      pub sort-rebuild : RebuildAsks c q kx m v k r l
      sort-rebuild =
          record {
            ready = record { good = w.good; table = table_same b p c q n m l starts a.ready.table };
            known = omega (arith, a.known, grown-count b p ix n u a.ready.good c q kx m v w.good starts);
            other = λ z.
                other (is.kind ∙ sym (ap kind_of (sort-same b p c q n m l starts a.ready.table k a.known)) ∙ z);
            there =
                subst (λ (ss : Sorts). memb_all ss (store_of c q m) ≡ true) (sym ps-same)
                (subst (λ (st : List Sort). memb_all ps st ≡ true) (sym added) (memb-intern-all ps (store_of b p n)));
            has =
                subst (λ (ss : Sorts). r ≡ indices_of ss (store_of c q m)) (answers-are ∙ sym ps-same) w.has;
            small = omega (arith, ap size ans-same, a.small);
          }

      interned : intern (answer_at b p n l k) (store_of c q m) ≡ intern (answer_at b p n l k) (store_of b p n)
      interned =
          ap₂ intern answer-is added
          ∙ intern-rebuilt (sort_number e.kind) e.name e.number names ps (store_of b p n) (store-ordered b p n a.ready.good.stored) other one
          ∙ sym (ap (λ (s : Sort). intern s (store_of b p n)) answer-is)

      pub sort-made : {d t jx' : List ℕ} {i m' v' : ℕ} → Made c q m v (answer_at c q m l k) d t jx' i m' v'
          → Made b p n u (answer_at b p n l k) d t jx' i m' v'
      sort-made {d} {t} {jx'} {i} {m'} {v'} y =
          made-over b p ix n u a.ready.good c q kx m v w.good starts w.kept (answer_at b p n l k) interned
          d t jx' i m' v' (subst (λ (s : Sort). Made c q m v s d t jx' i m' v') ans-same y)

      -- The table has it too.
      pub sort-known : {d t jx' : List ℕ} {i m' v' : ℕ} → Made c q m v (answer_at c q m l k) d t jx' i m' v'
          → {ws : List ℕ} → Known c q m l ws → Known d t m' l (set ws k (i + 1))
      sort-known y h = known-added y sort-rebuild.ready.table sort-rebuild.known h

      pub sort-full : {d t jx' : List ℕ} {m' v' : ℕ}
          → (room (length c) (length q) (intern (answer_at c q m l k) (store_of c q m)) ≡ false) × Untouched c q kx d t jx' × (m' ≡ m) × (v' ≡ v)
          → Halted b p n u (intern (answer_at b p n l k) (store_of b p n)) d t jx' m' v'
      sort-full {d} {t} {jx'} {m'} {v'} y =
          subst (λ (i : ℕ). Halted b p n u (intern (answer_at b p n l k) (store_of b p n)) d t jx' i v') (sym y.2)
          (subst (Halted b p n u (intern (answer_at b p n l k) (store_of b p n)) d t jx' m) (sym y.3)
          (halted-over b p ix n u a.ready.good c q kx m v w.good starts w.kept (answer_at b p n l k) interned
          d t jx'
          (sym (ap (λ (s : Sort). room (length c) (length q) (intern s (store_of c q m))) ans-same) ∙ y.0, y.1)))
