-- The sorts of a store by their numbers, for walks: an entry's three forms, its parts and their sizes, equality by number,
-- and lists of numbers taken apart.
use Rattle.std.specs.Prelude.{ℕ, suc, ◌+◌, ◌*◌, ◌-◌, ◌≤◌, ◌<◌, ◌≡◌, true, false, ◌&&◌, List, length, get_or}
use Rattle.std.proofs.Common.{sym, subst, ◌∙◌, arith}
use Rattle.std.proofs.Math.Path.{ap}
use Rattle.std.proofs.Math.Dec.{eqb}
use borrow.Author.Tests.{eqb-true}
use Rattle.record.specs.Kinds.{sort_number}
use Rattle.record.specs.Cases.{and_left, and_right}
use Rattle.record.specs.Names.{distinct}
use Rattle.record.specs.Number.{u16_at, numbers_at}
use Rattle.record.specs.Sort.{Sort, var, par, node, end, ◌then◌, size, sizes, same}
use Rattle.record.specs.SortLaws.{same-complete, same-other}
use Rattle.record.specs.Record.{Fields, leaf}
use Rattle.record.specs.Store.{memb}
use Rattle.record.specs.Decode.{fields, fields_at, store_of, sort_at}
use Rattle.record.specs.SortLists.{memb-at}
use Rattle.record.specs.StoreLaws.{store_of-length, parts-end, parts_more, sorts-one}
use Rattle.record.specs.declared.SortRecord.{SortRecord}
use Rattle.store.specs.Good.{Good}
use Rattle.store.specs.Entry.{EntryIs, EntryHas}
use Rattle.store.specs.Walk.{walk-var, walk-one, walk-par, walk-node, walk-size}
use Rattle.matching_tables.specs.Tables.{VarIn}
use Rattle.matching_tables.specs.Usable.{Usable, Refs, sorts_at, same_head}

-- A good store is usable.
pub good-usable : (b p ix : List ℕ) (n u : ℕ) → Good b p ix n u → Usable b p n
good-usable b p ix n u g = record { stored = g.stored; distinct = g.distinct; count = g.indexed.count }

---------------------------------------------------------------- equality by number
module _ (b p : List ℕ) (n : ℕ) (u : Usable b p n) (k j : ℕ) (lk : k < n) (lj : j < n) where
  pub same_number : k ≡ j → same (sort_at b p n k) (sort_at b p n j) ≡ true
  same_number e = same-complete (sort_at b p n k) (sort_at b p n j) (ap (sort_at b p n) e)

  pub other-number : (k ≡ j → ⊥) → same (sort_at b p n k) (sort_at b p n j) ≡ false
  other-number d = same-other (sort_at b p n k) (sort_at b p n j) (λ e. d (sorts-one b p n u.stored u.distinct k j lk lj e))

---------------------------------------------------------------- lists of numbers
module _ (s : List ℕ) (x m n : ℕ) (some : 0 < m) (r : Refs s x m n) where
  pub refs-first : u16_at s x < n
  refs-first = let e : x + 2 * 0 ≡ x = omega arith in subst (λ (i : ℕ). u16_at s i < n) e (r.below 0 some)

  pub refs-rest : Refs s (x + 2) (m - 1) n
  refs-rest =
      record {
        within = omega (arith, r.within);
        below = λ j l. let e : x + 2 * suc j ≡ x + 2 + 2 * j = omega arith in subst (λ (i : ℕ). u16_at s i < n) e (r.below (suc j) (omega arith));
      }

pub sorts-end : (b p : List ℕ) (n : ℕ) (s : List ℕ) (x m : ℕ) → m ≡ 0 → sorts_at b p n s x m ≡ end
sorts-end b p n s x m e = parts-end (store_of b p n) s x m e

pub sorts-more : (b p : List ℕ) (n : ℕ) (s : List ℕ) (x m : ℕ) → 0 < m → sorts_at b p n s x m ≡ sort_at b p n (u16_at s x) then sorts_at b p n s (x + 2) (m - 1)
unfolding sort_at
sorts-more b p n s x m h = parts_more (store_of b p n) s x m h

pub sizes-more : (b p : List ℕ) (n : ℕ) (s : List ℕ) (x m : ℕ) → 0 < m
    → sizes (sorts_at b p n s x m) ≡ size (sort_at b p n (u16_at s x)) + sizes (sorts_at b p n s (x + 2) (m - 1))
unfolding size
sizes-more b p n s x m h = ap sizes (sorts-more b p n s x m h)

---------------------------------------------------------------- an entry
-- The name of a Var of the store.
pub var-own : (b p : List ℕ) (n k v : ℕ) → k < n → sort_at b p n k ≡ var v → VarIn b p n v
unfolding sort_at
var-own b p n k v l e =
    subst (λ (s : Sort). memb s (store_of b p n) ≡ true) e (memb-at (store_of b p n) leaf k (omega (arith, store_of-length b p n)))

module _ (b p : List ℕ) (n k : ℕ) (u : Usable b p n) (l : k < n) (r : SortRecord) (e : EntryHas b p k r) where
  is : EntryIs b p n k r
  is = e n u.stored l

  here : Fields
  here = fields_at b (get_or p k 0)

  there : Fields
  there = fields (sort_number r.kind) r.name r.number (numbers_at b r.parts.at r.parts.count) (numbers_at b r.names.at r.names.count)

  held : here ≡ there
  unfolding here there
  held = is.place.same

  pub entry-var : sort_number r.kind ≡ 2 → sort_at b p n k ≡ var r.name
  entry-var h = walk-var b p n k u.stored l r is h

  pub entry-one : sort_number r.kind ≡ 12 → r.parts.count ≡ 1
  entry-one h = walk-one b p n k u.stored l r is h

  pub entry-par : sort_number r.kind ≡ 12 → sort_at b p n k ≡ par (numbers_at b r.names.at r.names.count) (sort_at b p n (u16_at b r.parts.at))
  entry-par h = walk-par b p n k u.stored l r is h

  pub entry-node : (sort_number r.kind ≡ 2 → ⊥) → (sort_number r.kind ≡ 12 → ⊥) → sort_at b p n k ≡ node (sort_number r.kind) r.name r.number (sorts_at b p n b r.parts.at r.parts.count)
  entry-node h q = walk-node b p n k u.stored l r is h q

  -- Its name is one, its names are distinct and in the bytes, its parts are below it.
  pub entry-name : r.name < 65536
  unfolding here there
  entry-name = omega (arith, (u.stored.each k l).shape.name, ap (λ (f : Fields). f.name) held)

  pub entry-once : distinct (numbers_at b r.names.at r.names.count) ≡ true
  unfolding here there
  entry-once = ap (λ (f : Fields). distinct f.names) (sym held) ∙ (u.stored.each k l).shape.once

  pub entry-names : r.names.at + 2 * r.names.count ≤ length b
  entry-names = is.place.names

  pub entry-refs : Refs b r.parts.at r.parts.count n
  entry-refs = record { within = is.place.list; below = λ j h. omega (arith, is.below j h) }

  pub entry-own : sort_number r.kind ≡ 2 → VarIn b p n r.name
  entry-own h = var-own b p n k r.name l (entry-var h)

  -- THE SIZE FALLS from an entry to its parts.
  pub entry-size : size (sort_at b p n k) ≡ 1 + sizes (sorts_at b p n b r.parts.at r.parts.count)
  entry-size = walk-size b p n k u.stored l r is

  -- The body of a Par.
  pub entry-body : sort_number r.kind ≡ 12 → (u16_at b r.parts.at < n) × (size (sort_at b p n k) ≡ 1 + size (sort_at b p n (u16_at b r.parts.at)))
  unfolding size
  entry-body h =
      let some : 0 < r.parts.count = omega (arith, entry-one h) in
      (refs-first b r.parts.at r.parts.count n some entry-refs, ap size (entry-par h))

---------------------------------------------------------------- two heads
module _ (r q : SortRecord) where
  pub head-same : same_head r q ≡ true → (sort_number r.kind ≡ sort_number q.kind) × (r.name ≡ q.name) × (r.number ≡ q.number) × (r.parts.count ≡ q.parts.count)
  unfolding same_head
  head-same e =
      let t = and_left (eqb (sort_number r.kind) (sort_number q.kind) && eqb r.name q.name && eqb r.number q.number) (eqb r.parts.count q.parts.count) e in
      let h = and_left (eqb (sort_number r.kind) (sort_number q.kind) && eqb r.name q.name) (eqb r.number q.number) t in (
        eqb-true (sort_number r.kind) (sort_number q.kind) (and_left (eqb (sort_number r.kind) (sort_number q.kind)) (eqb r.name q.name) h),
        eqb-true r.name q.name (and_right (eqb (sort_number r.kind) (sort_number q.kind)) (eqb r.name q.name) h),
        eqb-true r.number q.number (and_right (eqb (sort_number r.kind) (sort_number q.kind) && eqb r.name q.name) (eqb r.number q.number) t),
        eqb-true r.parts.count q.parts.count (and_right (eqb (sort_number r.kind) (sort_number q.kind) && eqb r.name q.name && eqb r.number q.number) (eqb r.parts.count q.parts.count) e),
      )
