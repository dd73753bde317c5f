-- Laws of the capped tree size of an answer.
use Prim.Native.Nat.{ℕ, suc, ◌+◌, ◌*◌, ◌≤◌, ◌<◌}
use mathlib.Core.Path.{◌≡◌, sym, ap, ap₂, ◌∙◌}
use mathlib.Core.Bool.{Bool, true, false, cond}
use mathlib.Core.List.{List, [], ◌∷◌}
use native.Mathlib.Omega.{arith}
use lib.ListN.{length, get_or}
use Rattle.record.specs.Number.{numbers_at}
use Rattle.record.specs.Codec.{length-numbers_at, number_at}
use Rattle.record.specs.Sort.{Sorts, size, sizes, parts_of}
use Rattle.record.specs.Record.{sorts_of}
use Rattle.record.specs.Decode.{store_of, sort_at}
use Rattle.record.specs.Kinds.{sort_number}
use Rattle.record.specs.declared.SortRecord.{SortRecord}
use Rattle.store.specs.Entry.{EntryIs, EntryHas}
use Rattle.substitution.specs.Substitution.{apply_all}
use Rattle.apply_walk.specs.Lists.{unbound}
use Rattle.apply_walk.specs.Images.{image_number, images_of}
use Rattle.apply_walk.specs.Contract.{capped, goes, answer_at, answers_at, ReadStore, SizeAsks, SizesAsk, SizeIs, SizesAre}
use Rattle.apply_walk.specs.Known.{Weighed}
use Rattle.apply_walk.specs.CapLaws.{cap-within, capped-most, capped-keeps, capped-add, capped-next}
use Rattle.apply_walk.proofs.SortForms.{rebuilt, image-is, image-known, answer-rebuilt, answer-leaf, parts-one, size-gone, size-stays, size-refs}

-- A sort.
module _ {b p : List ℕ} {n u k : ℕ} {l : List ℕ} (a : SizeAsks b p n u k l) (r : SortRecord) (has : EntryHas b p k r) where
  abbrev is : EntryIs b p n k r
  is = has n a.reading.whole.stored a.known

  image-here : {i : ℕ} → i ≡ image_number (get_or l r.name 0) k → i < n
  image-here e = omega (arith, e, image-known a.reading.whole.stored a.reading.table a.known is)

  pub size-image : sort_number r.kind ≡ 2 → {i : ℕ} → i ≡ image_number (get_or l r.name 0) k → {v : ℕ} → v ≡ size (sort_at b p n i) → SizeIs b p n k l v
  size-image h {i} e {v} z =
      let known : i < n = image-here e in
      let same : v ≡ size (answer_at b p n l k) =
      z ∙ ap (λ (j : ℕ). size (sort_at b p n j)) e
      ∙ ap size (image-is a.reading.whole.stored a.reading.table a.known is h) in
      same
      ∙ cap-within (size (answer_at b p n l k)) (omega (arith, same, z, a.reading.whole.sized.small i known))

  pub size-leaf : (sort_number r.kind ≡ 2 → ⊥) → r.parts.count ≡ 0 → SizeIs b p n k l 1
  unfolding numbers_at sorts_of size
  size-leaf d z =
      let none : numbers_at b r.parts.at r.parts.count ≡ [] = ap (numbers_at b r.parts.at) z in
      cap-within 1 (omega arith)
      ∙ ap capped (sym (sym (ap size (answer-leaf a.reading.whole.stored a.reading.table a.known is d z)) ∙ size-refs is
      ∙ ap (λ (vs : List ℕ). 1 + sizes (sorts_of (store_of b p n) vs)) none))

  pub sizes-asks : SizesAsk b p n u r.parts.at r.parts.count l
  sizes-asks =
      record { reading = a.reading; within = is.place.list; below = λ j h. omega (arith, is.below j h, a.known) }

  pub size-falls : 2 * sizes (sorts_of (store_of b p n) (numbers_at b r.parts.at r.parts.count)) + 1 < 2 * size (sort_at b p n k)
  size-falls = omega (arith, size-refs is)

  module _ (other : sort_number r.kind ≡ 2 → ⊥) {kept : ℕ} (hk : kept ≡ length (unbound l (numbers_at b r.names.at r.names.count))) (sum : ℕ) (es : SizesAre b p n r.parts.at r.parts.count l sum) where
    abbrev parts : Sorts
    parts = apply_all (images_of (store_of b p n) l) (parts_of (sort_at b p n k))

    answer-is : answer_at b p n l k ≡ rebuilt (sort_number r.kind) r.name r.number (unbound l (numbers_at b r.names.at r.names.count)) parts
    answer-is = answer-rebuilt a.reading.whole.stored a.reading.table a.known is other

    sum_is : sum ≡ capped (sizes parts)
    sum_is = es ∙ ap (λ (ss : Sorts). capped (sizes (apply_all (images_of (store_of b p n) l) ss))) is.parts

    goes_at : (t : Bool) → goes (sort_number r.kind) kept ≡ t → goes (sort_number r.kind) (length (unbound l (numbers_at b r.names.at r.names.count))) ≡ t
    goes_at t g = ap (goes (sort_number r.kind)) (sym hk) ∙ g

    size-of-gone : goes (sort_number r.kind) kept ≡ true → SizeIs b p n k l sum
    size-of-gone g =
        sum_is
        ∙ ap capped (sym (ap size answer-is ∙ size-gone (sort_number r.kind) r.name r.number (unbound l (numbers_at b r.names.at r.names.count)) parts
        (parts-one a.reading.whole.stored a.reading.table a.known is) (goes_at true g)))

    size-of-rest : goes (sort_number r.kind) kept ≡ false → {v : ℕ} → v ≡ capped (1 + sum) → SizeIs b p n k l v
    size-of-rest g {v} e =
        e ∙ capped-next (sizes parts) sum sum_is
        ∙ ap capped (sym (ap size answer-is ∙ size-stays (sort_number r.kind) r.name r.number (unbound l (numbers_at b r.names.at r.names.count)) parts other
        (parts-one a.reading.whole.stored a.reading.table a.known is) (goes_at false g)))

    -- By the test of the code.
    pub size-whole : (t : Bool) → goes (sort_number r.kind) kept ≡ t → {v : ℕ} → v ≡ cond t sum (capped (1 + sum)) → SizeIs b p n k l v
    size-whole true g {v} e = e ∙ size-of-gone g
    size-whole false g {v} e = size-of-rest g e

-- Along the references: what is summed and what is left make the whole.
pub record SumInv (b p : List ℕ) (n u : ℕ) (l all left : List ℕ) (sum : ℕ) : Type 0 where
  pub reading : ReadStore b p n u l
  pub below : (j : ℕ) → j < length left → get_or left j 0 < n
  pub low : sizes (sorts_of (store_of b p n) left) ≤ sizes (sorts_of (store_of b p n) all)
  pub most : sum ≤ 4097
  pub total : capped (sum + sizes (answers_at b p n l left)) ≡ capped (sizes (answers_at b p n l all))

-- With the table of sizes, which stays true.
pub record WeighInv (b p : List ℕ) (n u : ℕ) (l all left ws : List ℕ) (sum : ℕ) : Type 0 where
  pub sums : SumInv b p n u l all left sum
  pub weighed : Weighed b p n l ws

pub sum-start : {b p : List ℕ} {n u x m : ℕ} {l : List ℕ} → SizesAsk b p n u x m l → (left : List ℕ) → left ≡ numbers_at b x m
    → SumInv b p n u l (numbers_at b x m) left 0
sum-start {b} {p} {n} {u} {x} {m} {l} a left e =
    let all = numbers_at b x m in
    let z : 0 + sizes (answers_at b p n l left) ≡ sizes (answers_at b p n l left) = omega arith in
    record {
      reading = a.reading;
      below = λ j h.
          let o : j < m = omega (arith, h, ap length e, length-numbers_at b x m) in
          omega (arith, ap (λ (vs : List ℕ). get_or vs j 0) e, number_at b x m j o, a.below j o);
      low = omega (arith, ap (λ (vs : List ℕ). sizes (sorts_of (store_of b p n) vs)) e);
      most = omega arith;
      total = ap capped (z ∙ ap (λ (vs : List ℕ). sizes (answers_at b p n l vs)) e);
    }

module _ {b p : List ℕ} {n u : ℕ} {l all left : List ℕ} {sum : ℕ} (i : SumInv b p n u l all left sum) {k : ℕ} {ks : List ℕ} (e : left ≡ k ∷ ks) where
  first-known : k < n
  first-known = omega (arith, i.below 0 (omega (arith, ap length e)), ap (λ (vs : List ℕ). get_or vs 0 0) e)

  first_more : sizes (sorts_of (store_of b p n) left) ≡ size (sort_at b p n k) + sizes (sorts_of (store_of b p n) ks)
  unfolding size sort_at sorts_of
  first_more = ap (λ (vs : List ℕ). sizes (sorts_of (store_of b p n) vs)) e

  answers-more : sizes (answers_at b p n l left) ≡ size (answer_at b p n l k) + sizes (answers_at b p n l ks)
  unfolding size apply_all sort_at sorts_of
  answers-more = ap (λ (vs : List ℕ). sizes (answers_at b p n l vs)) e

  pub sum-asks : (2 * size (sort_at b p n k) < 2 * sizes (sorts_of (store_of b p n) all) + 1) × SizeAsks b p n u k l
  sum-asks = (omega (arith, first_more, i.low), record { reading = i.reading; known = first-known })

  pub sum_more : (v : ℕ) → SizeIs b p n k l v → {w : ℕ} → w ≡ capped (sum + v) → SumInv b p n u l all ks w
  sum_more v is {w} ew =
      let rest = sizes (answers_at b p n l ks) in
      let one = size (answer_at b p n l k) in
      let ss : sum ≡ capped sum = capped-keeps sum i.most in
      let ws : w ≡ capped (sum + one) = ew ∙ ap₂ (λ (c d : ℕ). capped (c + d)) ss is ∙ capped-add sum one in
      record {
        reading = i.reading;
        below = λ j h.
            omega (arith, i.below (suc j) (omega (arith, h, ap length e)), ap (λ (vs : List ℕ). get_or vs (suc j) 0) e);
        low = omega (arith, first_more, i.low);
        most = omega (arith, ws, capped-most (sum + one));
        total =
            sym (capped-add w rest)
            ∙ ap (λ (c : ℕ). capped (capped c + capped rest)) ws
            ∙ ap (λ (c : ℕ). capped (c + capped rest)) (twice (sum + one))
            ∙ capped-add (sum + one) rest
            ∙ ap capped (again answers-more)
            ∙ i.total;
      }
    where
      twice : (c : ℕ) → capped (capped c) ≡ capped c
      twice c = sym (capped-keeps (capped c) (capped-most c))

      again : sizes (answers_at b p n l left) ≡ size (answer_at b p n l k) + sizes (answers_at b p n l ks)
          → sum + size (answer_at b p n l k) + sizes (answers_at b p n l ks) ≡ sum + sizes (answers_at b p n l left)
      again q = omega (arith, q)

pub sum-end : {b p : List ℕ} {n u : ℕ} (x m : ℕ) {l left : List ℕ} {sum : ℕ} → SumInv b p n u l (numbers_at b x m) left sum → left ≡ [] → SizesAre b p n x m l sum
unfolding apply_all size sorts_of
sum-end {b} {p} {n} {u} x m {l} {left} {sum} i e =
    let z : sizes (answers_at b p n l left) ≡ 0 = ap (λ (vs : List ℕ). sizes (answers_at b p n l vs)) e in
    let s : sum + sizes (answers_at b p n l left) ≡ sum = omega (arith, z) in
    capped-keeps sum i.most ∙ ap capped (sym s) ∙ i.total
