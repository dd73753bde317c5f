-- Sets, tuples and relations among the sorts of a store, by their kinds and by the columns that were read.
use Rattle.std.specs.Prelude.{ℕ, ◌+◌, ◌*◌, ◌≤◌, ◌<◌, ◌≡◌, refl, false, ◌&&◌, List, [], ◌∷◌, length, get_or, eqb, Some, None}
use Rattle.std.proofs.Common.{eq-eqb, sym, ap, subst, ◌∙◌, arith, eqb-true}
use Rattle.std.proofs.Math.Option.{none, some}
use Rattle.record.specs.Number.{u16_at, numbers_at}
use Rattle.record.specs.Kinds.{sort_number}
use Rattle.record.specs.Sort.{Sort, Sorts, var, par, node, end, ◌then◌, set, tuple, kind_of, parts_of}
use Rattle.record.specs.SortLaws.{same-sound, same-other, same_refl}
use Rattle.record.specs.Record.{maps, map_of, leasts, least_of, mosts, most_of, sorts_of, leaf}
use Rattle.record.specs.Decode.{fields_at, store_of, sort_at, Stored}
use Rattle.record.specs.StoreLaws.{sort-node}
use Rattle.record.specs.Cases.{and_left, and_right, both_ways, by_test, none-some, some_inj}
use Rattle.record.specs.declared.SortRecord.{SortRecord}
use Rattle.record.specs.declared.span.Span.{Span}
use Rattle.store.specs.Entry.{EntryHas}
use Rattle.infer_rules.specs.Inferred.{columns}
use Rattle.infer_operator.specs.Asks.{sorts_in}
use Rattle.infer_operator.specs.Relations.{ColumnsStand, ColumnsHas}
use Rattle.check_rules.specs.Forms.{relation, element_of, columns as columns_of}
use Rattle.check_operator.specs.SetRule.{is_set}
use Rattle.check_operator.specs.SetContract.{ElementHas}
use Rattle.row_answer.specs.SetParts.{one-part}
use Rattle.row_answer.specs.StoredKinds.{kind-read, parts-fields, kind-parts}

---------------------------------------------------------------- kinds with parts and nothing else
one-number : (ks : List ℕ) → 1 ≤ length ks → length ks ≤ 1 → ks ≡ get_or ks 0 0 ∷ []
one-number [] l h = absurd (omega arith)
one-number (k ∷ []) l h = refl
one-number (k ∷ j ∷ ks) l h = absurd (omega arith)

module _ (b p : List ℕ) (n k : ℕ) (s : Stored b p n) (l : k < n) where
  -- A Set has one part, a sort before it; a Tuple is that of its parts.
  pub kind-set : kind_of (sort_at b p n k) ≡ 14 → (j : ℕ) × (j < n) × (sort_at b p n k ≡ set (sort_at b p n j))
  unfolding map_of maps least_of leasts most_of mosts sorts_of sort_at
  kind-set h =
      let f = fields_at b (get_or p k 0) in
      let e : f.kind ≡ 14 = sym (kind-read b p n k s l) ∙ h in
      let o = s.each k l in
      let x : 1 ≤ length f.list = subst (λ (c : ℕ). least_of c ≤ length f.list) e o.shape.least in
      let y : length f.list ≤ 1 = subst (λ (c : ℕ). length f.list ≤ most_of c) e o.shape.most in
      let j = get_or f.list 0 0 in
      let z = o.below 0 x in (
        j,
        omega (arith, z, l),
        sort-node b p n k s l ∙ parts-fields (store_of b p n) f 14 o.shape refl e
            ∙ ap (λ (ks : List ℕ). node 14 0 0 (sorts_of (store_of b p n) ks)) (one-number f.list x y),
      )

  pub kind-tuple : kind_of (sort_at b p n k) ≡ 15 → sort_at b p n k ≡ tuple (parts_of (sort_at b p n k))
  unfolding map_of maps
  kind-tuple h = kind-parts b p n k s l 15 refl h

---------------------------------------------------------------- the element of a Set
pub set-not : (s : Sort) → (kind_of s ≡ 14 → ⊥) → is_set s ≡ false
set-not s h = same-other s (set (element_of s)) (λ e. h (ap kind_of e))

-- A sort of a store is a Set just where it is of that kind.
pub kind-is-set : (b p : List ℕ) (n k : ℕ) → Stored b p n → k < n → is_set (sort_at b p n k) ≡ eqb (kind_of (sort_at b p n k)) 14
kind-is-set b p n k s l =
    let v = sort_at b p n k in
    both_ways (is_set v) (eqb (kind_of v) 14)
    (λ e. eq-eqb (kind_of v) 14 (ap kind_of (same-sound v (set (element_of v)) e)))
    (λ e. let (j, o, z) = kind-set b p n k s l (eqb-true (kind_of v) 14 e) in rw z (same_refl (set (sort_at b p n j))))

module _ {b p : List ℕ} {k : ℕ} (r : SortRecord) (q : EntryHas b p k r) where
  pub element-none : (sort_number r.kind ≡ 14 → ⊥) → ElementHas b p k None
  element-none h n s l = set-not (sort_at b p n k) (λ e. h ((q n s l).kind ∙ e))

  module _ (i : sort_number r.kind ≡ 14) where
    pub element-some : {v : ℕ} → v ≡ u16_at b (r.parts.at + 0) → ElementHas b p k (Some v)
    unfolding sorts_of numbers_at sort_at
    element-some {v} e n s l =
        let c = one-part r q i s l in
        let (j, o, z) = kind-set b p n k s l (sym (q n s l).kind ∙ i) in
        let w : r.parts.at + 0 ≡ r.parts.at = omega arith in
        let y : r.parts.at + 2 * 0 ≡ r.parts.at = omega arith in
        let d = (q n s l).below 0 (omega (arith, c)) in
        let x : v ≡ u16_at b r.parts.at = e ∙ ap (u16_at b) w in
        let parts : parts_of (sort_at b p n k) ≡ sort_at b p n v then end =
        sym (q n s l).parts ∙ ap (λ (m : ℕ). sorts_of (store_of b p n) (numbers_at b r.parts.at m)) c ∙ ap (λ (i : ℕ). get_or (store_of b p n) i leaf then end) (sym x) in
        (omega (arith, d, l, x, ap (u16_at b) y), z ∙ ap (λ (ss : Sorts). node 14 0 0 ss) (sym (ap parts_of z) ∙ parts))

---------------------------------------------------------------- the columns of a relation
-- What infer's reading of the columns says of a sort's kinds.
columns-kinds : (s : Sort) (cs : Sorts) → columns s ≡ some cs
    → (kind_of s ≡ 14) × ((e : Sort) → s ≡ set e → (kind_of e ≡ 15) × (parts_of e ≡ cs))
columns-kinds (var v) cs h = none-some h
columns-kinds (par ns b) cs h = none-some h
columns-kinds (node k a w end) cs h = none-some h
columns-kinds (node k a w (var v then ss)) cs h = none-some h
columns-kinds (node k a w (par ns b then ss)) cs h = none-some h
columns-kinds (node k a w (node l c x ds then ss)) cs h =
    by_test (eqb k 14 && eqb l 15)
    (λ t.
    let d : ds ≡ cs = some_inj (rw t at h) in
    let y = eqb-true l 15 (and_right (eqb k 14) (eqb l 15) t) in
    (eqb-true k 14 (and_left (eqb k 14) (eqb l 15) t), λ e q. let z : node l c x ds ≡ e = cc in (sym (ap kind_of z) ∙ y, sym (ap parts_of z) ∙ d)))
    (λ t. none-some (rw t at h))

pub relation-not : (s : Sort) → columns s ≡ none → relation s ≡ false
relation-not s h =
    by_test (relation s)
    (λ t. let z = same-sound s (set (tuple (columns_of s))) t in none-some (sym h ∙ ap columns z))
    (λ f. f)

module _ (b p : List ℕ) (n k : ℕ) (s : Stored b p n) (l : k < n) where
  relation-of : (cs : Sorts) → columns (sort_at b p n k) ≡ some cs → sort_at b p n k ≡ set (tuple cs)
  relation-of cs h =
      let (a, g) = columns-kinds (sort_at b p n k) cs h in
      let (j, o, z) = kind-set b p n k s l a in
      let (y, x) = g (sort_at b p n j) z in
      z ∙ ap (λ (t : Sort). set t) (kind-tuple b p n j s o y ∙ ap (λ (ss : Sorts). tuple ss) x)

  -- The sort k by the columns that were read of it.
  pub relation-read : {c : Span} → ColumnsHas b p k (Some c) → (sort_at b p n k ≡ set (tuple (sorts_in b p n b c.at c.count))) × ColumnsStand b n c.at c.count
  relation-read {c} h = let (e, st) = h n s l in (relation-of (sorts_in b p n b c.at c.count) e, st)

  pub relation-none : ColumnsHas b p k None → relation (sort_at b p n k) ≡ false
  relation-none h = relation-not (sort_at b p n k) (h n s l)
