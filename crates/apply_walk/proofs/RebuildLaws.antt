-- Laws of a sort rebuilt from its parts, which the store has: a Par without names left is its body, any other is made.
use Prim.Native.Nat.{ℕ, ◌<◌}
use mathlib.Core.Path.{◌≡◌, sym, ap, ap₂, subst, ◌∙◌}
use mathlib.Core.Bool.{Bool, true, false}
use mathlib.Core.List.{List, [], ◌∷◌, ◌++◌}
use Rattle.std.proofs.Common.{Result}
use native.Mathlib.Omega.{arith}
use lib.ListN.{length, get_or}
use Rattle.record.specs.Number.{numbers_at}
use Rattle.record.specs.Sort.{Sort, Sorts, end, ◌then◌, count, size, parts_of}
use Rattle.record.specs.Record.{sort_of}
use Rattle.record.specs.Store.{memb, index_of, indices_of}
use Rattle.record.specs.Codec.{length-numbers_at}
use Rattle.record.specs.Decode.{fields, store_of, sort_at}
use Rattle.record.specs.Cases.{and_left}
use Rattle.record.specs.SortLists.{memb_all, intern-known}
use Rattle.record.specs.StoreLaws.{store_of-length}
use Rattle.record.specs.Sizes.{count-sorts, length-indices}
use Rattle.record.specs.Entries.{store-ordered}
use Rattle.record.specs.Kinds.{sort_number}
use Rattle.record.specs.declared.SortRecord.{SortRecord}
use Rattle.store.specs.Entry.{EntryIs, EntryHas}
use Rattle.store.specs.declared.Full.{Full}
use Rattle.substitution.specs.Substitution.{apply_all}
use Rattle.substitution.proofs.SubstitutionLaws.{count-applied}
use Rattle.apply_walk.specs.Lists.{unbound, NamesKeptAsk, SameAsks}
use Rattle.apply_walk.specs.Images.{images_of, unbound-left}
use Rattle.apply_walk.specs.Made.{Made, MadeIs, FieldsMakeAsks, kept_self, made-known-sort}
use Rattle.apply_walk.specs.Contract.{goes, answer_at, RebuildAsks}
use Rattle.apply_walk.proofs.ListLaws.{unbound-all}
use Rattle.apply_walk.proofs.SortForms.{head_of, rebuilt, rebuilt-gone, rebuilt-sort, one-part, goes-par, goes_some, shape-left, entry-shape, entry-sort, answer-rebuilt, parts-one}
use Rattle.apply_walk.specs.InternLaws.{sorts-back, indices-below}

-- The one part's number, where the list of numbers is that of one sort.
head-there : {ps : Sorts} (st : List Sort) → ps ≡ head_of ps then end → memb_all ps st ≡ true → memb (head_of ps) st ≡ true
unfolding memb_all
head-there {ps} st e m = and_left (memb (head_of ps) st) true (sym (ap (λ (x : Sorts). memb_all x st) e) ∙ m)

head-index : {ps : Sorts} (st : List Sort) → ps ≡ head_of ps then end → indices_of ps st ≡ index_of (head_of ps) st ∷ []
unfolding indices_of
head-index {ps} st e = ap (λ (x : Sorts). indices_of x st) e

module _ {b p ix : List ℕ} {n u k : ℕ} {parts l : List ℕ} (a : RebuildAsks b p ix n u k parts l) {r : SortRecord} (has : EntryHas b p k r) where
  abbrev e : EntryIs b p n k r
  e = has n a.ready.good.stored a.known

  abbrev ps : Sorts
  ps = apply_all (images_of (store_of b p n) l) (parts_of (sort_at b p n k))

  abbrev names : List ℕ
  names = unbound l (numbers_at b r.names.at r.names.count)

  other : sort_number r.kind ≡ 2 → ⊥
  other q = a.other (sym e.kind ∙ q)

  answer-is : answer_at b p n l k ≡ rebuilt (sort_number r.kind) r.name r.number names ps
  answer-is = answer-rebuilt a.ready.good.stored a.ready.table a.known e other

  one : sort_number r.kind ≡ 12 → count ps ≡ 1
  one = parts-one a.ready.good.stored a.ready.table a.known e

  as_many : length parts ≡ length (numbers_at b r.parts.at r.parts.count)
  as_many =
      ap length a.has ∙ length-indices ps (store_of b p n) ∙ count-applied (images_of (store_of b p n) l) (parts_of (sort_at b p n k))
      ∙ ap count (sym e.parts) ∙ count-sorts (store_of b p n) (numbers_at b r.parts.at r.parts.count)

  pub rebuild-names-ask : NamesKeptAsk b r.names.at r.names.count l
  rebuild-names-ask = record { read = record { within = e.place.names; few = e.named }; table = a.ready.table.long }

  pub rebuild-same-asks : SameAsks b r.parts.at r.parts.count parts
  rebuild-same-asks = record { within = e.place.list; long = as_many ∙ length-numbers_at b r.parts.at r.parts.count }

  -- The names o that are left: read from the store's bytes, put behind none, and lent.
  module _ {bytes first out o : List ℕ} (same : bytes ≡ b) (none : first ≡ []) (left : out ≡ first ++ unbound l (numbers_at bytes r.names.at r.names.count)) (lent : o ≡ out) where
    ho : o ≡ names
    ho =
        lent ∙ left ∙ ap (λ (vs : List ℕ). vs ++ unbound l (numbers_at bytes r.names.at r.names.count)) none
        ∙ ap (λ (bs : List ℕ). unbound l (numbers_at bs r.names.at r.names.count)) same

    goes_at : (t : Bool) → goes (sort_number r.kind) (length o) ≡ t → goes (sort_number r.kind) (length names) ≡ t
    goes_at t g = ap (λ (vs : List ℕ). goes (sort_number r.kind) (length vs)) (sym ho) ∙ g

    pub rebuild-some : goes (sort_number r.kind) (length o) ≡ true → 0 < length parts
    rebuild-some g =
        omega (arith, ap length a.has, ap length (head-index (store_of b p n) (one-part ps (one (goes-par (sort_number r.kind) (length o) g).0))))

    pub rebuild-gone : goes (sort_number r.kind) (length o) ≡ true → {i : ℕ} → i ≡ get_or parts 0 0 → Made b p n u (answer_at b p n l k) b p ix i n u
    rebuild-gone g {i} q =
        let single = one-part ps (one (goes-par (sort_number r.kind) (length o) g).0) in
        let there = head-there (store_of b p n) single a.there in
        let index = head-index (store_of b p n) single in
        subst (λ (s : Sort). Made b p n u s b p ix i n u)
        (sym (answer-is ∙ rebuilt-gone (sort_number r.kind) r.name r.number names ps (goes_at true g)))
        (record {
          good = a.ready.good;
          added = sym (intern-known (head_of ps) (store_of b p n) (store-ordered b p n a.ready.good.stored) there);
          number = q ∙ ap (λ (x : List ℕ). get_or x 0 0) (a.has ∙ index);
          kept = kept_self b p n u;
        })

    module _ (g : goes (sort_number r.kind) (length o) ≡ false) where
      pub rebuild-is : sort_of (store_of b p n) (fields (sort_number r.kind) r.name r.number parts o) ≡ answer_at b p n l k
      rebuild-is =
          ap₂ (λ (x y : List ℕ). sort_of (store_of b p n) (fields (sort_number r.kind) r.name r.number x y)) a.has ho
          ∙ rebuilt-sort (store_of b p n) (sort_number r.kind) r.name r.number (indices_of ps (store_of b p n)) names other
          (λ q. length-indices ps (store_of b p n) ∙ one q) (goes_at false g)
          ∙ ap (rebuilt (sort_number r.kind) r.name r.number names) (sorts-back ps (store_of b p n) a.there)
          ∙ sym answer-is

      -- Parts and names as they were: the sort stays as it is.
      pub rebuild-same : length o ≡ r.names.count → parts ≡ numbers_at b r.parts.at r.parts.count
          → Made b p n u (answer_at b p n l k) b p ix k n u
      rebuild-same en ep =
          let own = numbers_at b r.names.at r.names.count in
          let ns-same : o ≡ own =
          ho ∙ unbound-all l own (sym (ap length ho) ∙ en ∙ sym (length-numbers_at b r.names.at r.names.count)) in
          subst (λ (s : Sort). Made b p n u s b p ix k n u)
          (entry-sort a.ready.good.stored a.ready.table a.known e
          ∙ sym (ap₂ (λ (x y : List ℕ). sort_of (store_of b p n) (fields (sort_number r.kind) r.name r.number x y))
          ep ns-same)
          ∙ rebuild-is)
          (made-known-sort b p ix n u a.ready.good k a.known)

      pub rebuild-asks : FieldsMakeAsks b p ix n u (fields (sort_number r.kind) r.name r.number parts o)
      rebuild-asks =
          record {
            good = a.ready.good;
            shape =
                shape-left
                (entry-shape a.ready.good.stored a.ready.table a.known e) (images_of (store_of b p n) l) parts
                as_many (ho ∙ unbound-left (store_of b p n) l (numbers_at b r.names.at r.names.count))
                (λ q z. goes_some g q z);
            below =
                subst (λ (vs : List ℕ). (j : ℕ) → j < length vs → get_or vs j 0 < n) (sym a.has)
                (λ j h. omega (arith, indices-below ps (store_of b p n) a.there j h, store_of-length b p n));
            small = omega (arith, ap size rebuild-is, a.small);
          }

      pub rebuild-made : (b' p' ix' : List ℕ) (m v : ℕ) (i : Result ℕ Full)
          → MadeIs b p ix n u (sort_of (store_of b p n) (fields (sort_number r.kind) r.name r.number parts o)) b' p' ix' m v i
          → MadeIs b p ix n u (answer_at b p n l k) b' p' ix' m v i
      rebuild-made b' p' ix' m v i h = subst (λ (s : Sort). MadeIs b p ix n u s b' p' ix' m v i) rebuild-is h
