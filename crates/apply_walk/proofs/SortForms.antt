-- A sort of the store replaced, by the three forms of its record: a variable is its image; a Par and every other kind
-- are rebuilt from their parts replaced, where a Par without names left is its body.
use Prim.Native.Nat.{ℕ, zero, suc, ◌+◌, ◌≤◌, ◌<◌}
use mathlib.Core.Path.{◌≡◌, refl, sym, ap, ap₂, subst, ◌∙◌}
use mathlib.Core.Bool.{Bool, true, false, cond, not, ◌&&◌}
use mathlib.Core.List.{List, [], ◌∷◌}
use mathlib.Core.Option.{none, some}
use native.Mathlib.Omega.{arith}
use lib.ListN.{length, get_or}
use lib.Dec.{eqb}
use borrow.Author.Tests.{eqb-true, eq-eqb, ne_eqb}
use Rattle.std.proofs.lemmas.List.{nil_from_length}
use Rattle.record.specs.Names.{member, distinct}
use Rattle.record.specs.Number.{numbers_at}
use Rattle.record.specs.Sort.{Sort, Sorts, var, par, node, end, ◌then◌, count, size, sizes, parts_of}
use Rattle.record.specs.Record.{Fields, leaf, sorts_of, sort_of}
use Rattle.record.specs.Store.{intern, intern_all}
use Rattle.record.specs.Decode.{fields, Shape, store_of, sort_at, Stored}
use Rattle.record.specs.Cases.{and_left, and_right, clash, not-true, positive}
use Rattle.record.specs.Forms.{Which, is_var, is_par, is_node, which, sort-var, sort-par, sort-other, par-one, one-element}
use Rattle.record.specs.SortLists.{Ordered, Starts, starts-intern}
use Rattle.record.specs.StoreLaws.{sort-node}
use Rattle.record.specs.Sizes.{count-sorts}
use Rattle.record.specs.Kinds.{sort_number}
use Rattle.record.specs.declared.SortRecord.{SortRecord}
use Rattle.store.specs.Entry.{EntryIs}
use Rattle.substitution.specs.Substitution.{Map, find, bound, left, under, apply, apply_all}
use Rattle.substitution.proofs.SubstitutionLaws.{apply-var, apply-var-free, left-member, count-applied, left-few}
use Rattle.apply_walk.specs.Lists.{unbound}
use Rattle.apply_walk.specs.Images.{image_at, image_number, images_of, ImageTable, find-images, unbound-left}
use Rattle.apply_walk.specs.Made.{intern-first}
use Rattle.apply_walk.specs.Contract.{goes, answer_at}
use Rattle.apply_walk.specs.InternLaws.{intern-under}

unfoldable pub head_of : Sorts → Sort
head_of end = leaf
head_of (s then ss) = s

-- A sort that is no variable, from the names left and the parts replaced.
unfoldable pub rebuilt : ℕ → ℕ → ℕ → List ℕ → Sorts → Sort
rebuilt k a w ns ps = cond (eqb k 12) (under ns (head_of ps)) (node k a w ps)

-- The three laws of `goes`.
pub goes-par : (k m : ℕ) → goes k m ≡ true → (k ≡ 12) × (m ≡ 0)
unfolding goes
goes-par k m e = (eqb-true k 12 (and_left (eqb k 12) (eqb m 0) e), eqb-true m 0 (and_right (eqb k 12) (eqb m 0) e))

pub goes_some : {k m : ℕ} → goes k m ≡ false → k ≡ 12 → m ≡ 0 → ⊥
unfolding goes
goes_some {k} {m} e p z = clash (ap₂ ◌&&◌ (eq-eqb k 12 p) (eq-eqb m 0 z)) e

rebuilt-par : {k : ℕ} (a w : ℕ) (ns : List ℕ) (ps : Sorts) → k ≡ 12 → rebuilt k a w ns ps ≡ under ns (head_of ps)
unfolding rebuilt
rebuilt-par {k} a w ns ps e = rw (eq-eqb k 12 e)

rebuilt-node : (k a w : ℕ) (ns : List ℕ) (ps : Sorts) → (k ≡ 12 → ⊥) → rebuilt k a w ns ps ≡ node k a w ps
unfolding rebuilt
rebuilt-node k a w ns ps e = rw (ne_eqb k 12 e)

none_left : (ns : List ℕ) (b : Sort) → length ns ≡ 0 → under ns b ≡ b
none_left [] b e = refl
none_left (n ∷ ns) b e = absurd (omega arith)

some_left : (ns : List ℕ) (b : Sort) → (length ns ≡ 0 → ⊥) → under ns b ≡ par ns b
some_left [] b e = absurd (e refl)
some_left (n ∷ ns) b e = refl

pub one-part : (ps : Sorts) → count ps ≡ 1 → ps ≡ head_of ps then end
unfolding count head_of
one-part end e = absurd (omega arith)
one-part (s then end) e = refl
one-part (s then (t then ss)) e = absurd (omega arith)

-- Where the wrapper goes it is the one part, else a sort over the parts.
pub rebuilt-gone : (k a w : ℕ) (ns : List ℕ) (ps : Sorts) → goes k (length ns) ≡ true → rebuilt k a w ns ps ≡ head_of ps
rebuilt-gone k a w ns ps g =
    let q = goes-par k (length ns) g in rebuilt-par a w ns ps q.0 ∙ none_left ns (head_of ps) q.1

size-one : (ps : Sorts) → count ps ≡ 1 → size (head_of ps) ≡ sizes ps
unfolding size count head_of
size-one end e = absurd (omega arith)
size-one (s then end) e = omega arith
size-one (s then (t then ss)) e = absurd (omega arith)

pub size-gone : (k a w : ℕ) (ns : List ℕ) (ps : Sorts) → (k ≡ 12 → count ps ≡ 1) → goes k (length ns) ≡ true → size (rebuilt k a w ns ps) ≡ sizes ps
size-gone k a w ns ps one g = ap size (rebuilt-gone k a w ns ps g) ∙ size-one ps (one (goes-par k (length ns) g).0)

pub size-stays : (k a w : ℕ) (ns : List ℕ) (ps : Sorts) → (k ≡ 2 → ⊥) → (k ≡ 12 → count ps ≡ 1) → goes k (length ns) ≡ false → size (rebuilt k a w ns ps) ≡ 1 + sizes ps
unfolding size
size-stays k a w ns ps d one g = go (which k)
  where
    go : Which k → size (rebuilt k a w ns ps) ≡ 1 + sizes ps
    go (is_var e) = absurd (d e)
    go (is_par e) =
        ap size (rebuilt-par a w ns ps e ∙ some_left ns (head_of ps) (λ z. goes_some g e z))
        ∙ ap (λ (i : ℕ). 1 + i) (size-one ps (one e))
    go (is_node q o) = ap size (rebuilt-node k a w ns ps o)

pub sizes-within : (k a w : ℕ) (ns : List ℕ) (ps : Sorts) → (k ≡ 2 → ⊥) → (k ≡ 12 → count ps ≡ 1) → sizes ps ≤ size (rebuilt k a w ns ps)
sizes-within k a w ns ps d one = go (goes k (length ns)) refl
  where
    go : (t : Bool) → goes k (length ns) ≡ t → sizes ps ≤ size (rebuilt k a w ns ps)
    go true g = omega (arith, size-gone k a w ns ps one g)
    go false g = omega (arith, size-stays k a w ns ps d one g)

-- The sort of a record whose references are those of the parts.
pub rebuilt-sort : (st : List Sort) (k a w : ℕ) (rs ns : List ℕ) → (k ≡ 2 → ⊥) → (k ≡ 12 → length rs ≡ 1) → goes k (length ns) ≡ false
    → sort_of st (fields k a w rs ns) ≡ rebuilt k a w ns (sorts_of st rs)
unfolding sorts_of head_of
rebuilt-sort st k a w rs ns d one g = go (which k)
  where
    go : Which k → sort_of st (fields k a w rs ns) ≡ rebuilt k a w ns (sorts_of st rs)
    go (is_var e) = absurd (d e)
    go (is_par e) =
        sort-par st (fields k a w rs ns) e
        ∙ ap (par ns) (sym (ap (λ (x : List ℕ). head_of (sorts_of st x)) (one-element rs (one e))))
        ∙ sym (some_left ns (head_of (sorts_of st rs)) (λ z. goes_some g e z))
        ∙ sym (rebuilt-par a w ns (sorts_of st rs) e)
    go (is_node q o) = sort-other st (fields k a w rs ns) q o ∙ sym (rebuilt-node k a w ns (sorts_of st rs) o)

-- INTERNING IT AFTER ITS PARTS is interning it.
pub intern-rebuilt : (k a w : ℕ) (ns : List ℕ) (ps : Sorts) (st : List Sort) → Ordered st → (k ≡ 2 → ⊥) → (k ≡ 12 → count ps ≡ 1)
    → intern (rebuilt k a w ns ps) (intern_all ps st) ≡ intern (rebuilt k a w ns ps) st
unfolding intern
intern-rebuilt k a w ns ps st o d one = go (which k)
  where
    go : Which k → intern (rebuilt k a w ns ps) (intern_all ps st) ≡ intern (rebuilt k a w ns ps) st
    go (is_var e) = absurd (d e)
    go (is_par e) =
        let h = head_of ps in
        let q : intern_all ps st ≡ intern h st = ap (λ (x : Sorts). intern_all x st) (one-part ps (one e)) in
        let z = rebuilt-par a w ns ps e in
        ap₂ intern z q ∙ intern-under ns h st o ∙ sym (ap (λ (x : Sort). intern x st) z)
    go (is_node q r) =
        let z = rebuilt-node k a w ns ps r in
        ap (λ (x : Sort). intern x (intern_all ps st)) z
        ∙ intern-first (node k a w ps) st o
        ∙ sym (ap (λ (x : Sort). intern x st) z)

pub starts-rebuilt : (k a w : ℕ) (ns : List ℕ) (ps : Sorts) (st : List Sort) → Ordered st → (k ≡ 2 → ⊥) → (k ≡ 12 → count ps ≡ 1)
    → Starts (intern_all ps st) (intern (rebuilt k a w ns ps) st)
starts-rebuilt k a w ns ps st o d one =
    subst (Starts (intern_all ps st)) (intern-rebuilt k a w ns ps st o d one) (starts-intern (rebuilt k a w ns ps) (intern_all ps st))

-- The names left are distinct.
distinct-by : (t : Bool) (n : ℕ) (r : List ℕ) → member n r ≡ false → distinct r ≡ true → distinct (cond t r (n ∷ r)) ≡ true
unfolding distinct
distinct-by true n r a d = d
distinct-by false n r a d = ap₂ ◌&&◌ (ap not a) d

left-distinct : (m : Map) (ns : List ℕ) → distinct ns ≡ true → distinct (left m ns) ≡ true
unfolding left distinct
left-distinct m [] e = refl
left-distinct m (n ∷ ns) e =
    let absent : member n ns ≡ false = not-true (member n ns) (and_left (not (member n ns)) (distinct ns) e) in
    distinct-by (bound m n) n (left m ns)
    (left-member m n ns ∙ ap (λ (t : Bool). t && not (bound m n)) absent)
    (left-distinct m ns (and_right (not (member n ns)) (distinct ns) e))

-- The shape of a record with other references as many, and the names that are left.
pub shape-left : {f : Fields} → Shape f → (m : Map) (rs : List ℕ) {ns : List ℕ} → length rs ≡ length f.list → ns ≡ left m f.names → (f.kind ≡ 12 → length ns ≡ 0 → ⊥)
    → Shape (fields f.kind f.name f.number rs ns)
unfolding left
shape-left {f} s m rs {ns} e q filled =
    record {
      known = s.known;
      proper =
          record {
            no_name = s.proper.no_name;
            no_number = s.proper.no_number;
            no_list = λ h. nil_from_length rs (e ∙ ap length (s.proper.no_list h));
            no_names = λ h. q ∙ ap (left m) (s.proper.no_names h);
          };
      name = s.name;
      number = s.number;
      least = omega (arith, s.least, e);
      most = omega (arith, s.most, e);
      some = λ k. positive (length ns) (filled k);
      few = omega (arith, ap length q, left-few m f.names, s.few);
      once = ap distinct q ∙ left-distinct m f.names s.once;
    }

head-one : (x : Sort) → head_of (x then end) ≡ x
unfolding head_of
head-one x = refl

-- A SORT OF THE STORE by its record.
module _ {b p : List ℕ} {n : ℕ} {l : List ℕ} (stored : Stored b p n) (t : ImageTable l n) {k : ℕ} (known : k < n) {r : SortRecord} (e : EntryIs b p n k r) where
  abbrev refs_in : List ℕ
  refs_in = numbers_at b r.parts.at r.parts.count

  abbrev names_in : List ℕ
  names_in = numbers_at b r.names.at r.names.count

  pub entry-shape : Shape (fields (sort_number r.kind) r.name r.number refs_in names_in)
  entry-shape = subst Shape e.place.same (stored.each k known).shape

  pub entry-sort : sort_at b p n k ≡ sort_of (store_of b p n) (fields (sort_number r.kind) r.name r.number refs_in names_in)
  entry-sort = sort-node b p n k stored known ∙ ap (sort_of (store_of b p n)) e.place.same

  image-by : (v : ℕ) → get_or l r.name 0 ≡ v → sort_number r.kind ≡ 2 → sort_at b p n (image_number v k) ≡ answer_at b p n l k
  unfolding sort_at
  image-by zero q h =
      let s : sort_at b p n k ≡ var r.name = entry-sort ∙ sort-var (store_of b p n) (fields (sort_number r.kind) r.name r.number refs_in names_in) h in
      let f : find (images_of (store_of b p n) l) r.name ≡ none = find-images (store_of b p n) l r.name ∙ ap (image_at (store_of b p n)) q in
      s ∙ sym (ap (apply (images_of (store_of b p n) l)) s ∙ apply-var-free (images_of (store_of b p n) l) r.name f)
  image-by (suc j) q h =
      let s : sort_at b p n k ≡ var r.name = entry-sort ∙ sort-var (store_of b p n) (fields (sort_number r.kind) r.name r.number refs_in names_in) h in
      let f : find (images_of (store_of b p n) l) r.name ≡ some (get_or (store_of b p n) j leaf) = find-images (store_of b p n) l r.name ∙ ap (image_at (store_of b p n)) q in
      sym (ap (apply (images_of (store_of b p n) l)) s ∙ apply-var (images_of (store_of b p n) l) r.name (get_or (store_of b p n) j leaf) f)

  -- A VARIABLE is the sort of its image's number, or of its own.
  pub image-is : sort_number r.kind ≡ 2 → sort_at b p n (image_number (get_or l r.name 0) k) ≡ answer_at b p n l k
  image-is h = image-by (get_or l r.name 0) refl h

  number-below : (v : ℕ) → v ≤ n → image_number v k < n
  number-below zero h = known
  number-below (suc j) h = h

  pub image-known : image_number (get_or l r.name 0) k < n
  image-known = number-below (get_or l r.name 0) (t.below r.name)

  pub refs-one : sort_number r.kind ≡ 12 → length refs_in ≡ 1
  refs-one h = par-one (fields (sort_number r.kind) r.name r.number refs_in names_in) entry-shape h

  -- ANY OTHER SORT is rebuilt from its parts replaced.
  pub answer-rebuilt : (sort_number r.kind ≡ 2 → ⊥)
      → answer_at b p n l k ≡ rebuilt (sort_number r.kind) r.name r.number (unbound l names_in) (apply_all (images_of (store_of b p n) l) (parts_of (sort_at b p n k)))
  unfolding apply
  answer-rebuilt d = go (which (sort_number r.kind))
    where
      go : Which (sort_number r.kind) → answer_at b p n l k ≡ rebuilt (sort_number r.kind) r.name r.number (unbound l names_in) (apply_all (images_of (store_of b p n) l) (parts_of (sort_at b p n k)))
      go (is_var h) = absurd (d h)
      go (is_par h) =
          let body = get_or (store_of b p n) (get_or refs_in 0 0) leaf in
          let s : sort_at b p n k ≡ par names_in body = entry-sort ∙ sort-par (store_of b p n) (fields (sort_number r.kind) r.name r.number refs_in names_in) h in
          let θ = images_of (store_of b p n) l in
          ap (apply θ) s
          ∙ ap (λ (ns : List ℕ). under ns (apply θ body)) (sym (unbound-left (store_of b p n) l names_in))
          ∙ sym (rebuilt-par r.name r.number (unbound l names_in) (apply_all θ (parts_of (sort_at b p n k))) h
          ∙ ap (λ (x : Sort). under (unbound l names_in) (head_of (apply_all θ (parts_of x)))) s
          ∙ ap (under (unbound l names_in)) (head-one (apply θ body)))
      go (is_node q o) =
          let s : sort_at b p n k ≡ node (sort_number r.kind) r.name r.number (sorts_of (store_of b p n) refs_in) =
          entry-sort ∙ sort-other (store_of b p n) (fields (sort_number r.kind) r.name r.number refs_in names_in) q o in
          let θ = images_of (store_of b p n) l in
          ap (apply θ) s
          ∙ sym (rebuilt-node (sort_number r.kind) r.name r.number (unbound l names_in) (apply_all θ (parts_of (sort_at b p n k))) o
          ∙ ap (λ (x : Sort). node (sort_number r.kind) r.name r.number (apply_all θ (parts_of x))) s)

  pub parts-one : sort_number r.kind ≡ 12 → count (apply_all (images_of (store_of b p n) l) (parts_of (sort_at b p n k))) ≡ 1
  parts-one h =
      count-applied (images_of (store_of b p n) l) (parts_of (sort_at b p n k))
      ∙ ap count (sym e.parts) ∙ count-sorts (store_of b p n) refs_in ∙ refs-one h

  -- A SORT WITHOUT PARTS that is no variable stays as it is.
  pub answer-leaf : (sort_number r.kind ≡ 2 → ⊥) → r.parts.count ≡ 0 → sort_at b p n k ≡ answer_at b p n l k
  unfolding numbers_at sorts_of apply_all
  answer-leaf d z =
      let θ = images_of (store_of b p n) l in
      let none : refs_in ≡ [] = ap (numbers_at b r.parts.at) z in
      let parts : parts_of (sort_at b p n k) ≡ end = sym e.parts ∙ ap (sorts_of (store_of b p n)) none in
      let o : sort_number r.kind ≡ 12 → ⊥ = λ h. absurd (omega (arith, refs-one h, ap length none)) in
      entry-sort ∙ sort-other (store_of b p n) (fields (sort_number r.kind) r.name r.number refs_in names_in) d o
      ∙ ap (λ (vs : List ℕ). node (sort_number r.kind) r.name r.number (sorts_of (store_of b p n) vs)) none
      ∙ sym (answer-rebuilt d ∙ rebuilt-node (sort_number r.kind) r.name r.number (unbound l names_in) (apply_all θ (parts_of (sort_at b p n k))) o
      ∙ ap (λ (ss : Sorts). node (sort_number r.kind) r.name r.number (apply_all θ ss)) parts)

size-parts : (s : Sort) → size s ≡ 1 + sizes (parts_of s)
unfolding size
size-parts (var v) = refl
size-parts (par ns b) = omega arith
size-parts (node k a w ss) = refl

-- The size of a sort of the store by its references.
pub size-refs : {b p : List ℕ} {n k : ℕ} {r : SortRecord} → EntryIs b p n k r
    → size (sort_at b p n k) ≡ 1 + sizes (sorts_of (store_of b p n) (numbers_at b r.parts.at r.parts.count))
size-refs {b} {p} {n} {k} {r} e = size-parts (sort_at b p n k) ∙ ap (λ (ss : Sorts). 1 + sizes ss) (sym e.parts)
