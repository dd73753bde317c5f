-- A record of kind Set has one part, which stands within the bytes; its sort is the Set of that part's sort.
use Rattle.std.specs.Prelude.{ℕ, ◌+◌, ◌≤◌, ◌<◌, ◌≡◌, List, length, get_or}
use Rattle.std.proofs.Common.{refl, sym, ap, subst, ◌∙◌, arith}
use Rattle.record.specs.Kinds.{sort_number}
use Rattle.record.specs.Number.{u16_at, numbers_at}
use Rattle.record.specs.Sort.{set, node}
use Rattle.record.specs.Record.{Fields, maps, map_of, leasts, least_of, mosts, most_of, sorts_of}
use Rattle.record.specs.Decode.{fields_at, store_of, sort_at, Stored}
use Rattle.record.specs.Codec.{length-numbers_at}
use Rattle.record.specs.declared.SortRecord.{SortRecord}
use Rattle.store.specs.Entry.{EntryHas}
use Rattle.row_answer.specs.StoredKinds.{kind-parts}

module _ {b p : List ℕ} {k : ℕ} (r : SortRecord) (q : EntryHas b p k r) (i : sort_number r.kind ≡ 14) {n : ℕ} (s : Stored b p n) (l : k < n) where
  pub one-part : r.parts.count ≡ 1
  unfolding least_of leasts most_of mosts
  one-part =
      let f = fields_at b (get_or p k 0) in
      let e = (q n s l).place.same in
      let c : f.kind ≡ 14 = ap (λ (g : Fields). g.kind) e ∙ i in
      let x : 1 ≤ length f.list = subst (λ (c : ℕ). least_of c ≤ length f.list) c (s.each k l).shape.least in
      let y : length f.list ≤ 1 = subst (λ (c : ℕ). length f.list ≤ most_of c) c (s.each k l).shape.most in
      omega (arith, x, y, ap (λ (g : Fields). length g.list) e, length-numbers_at b r.parts.at r.parts.count)

  pub part-place : r.parts.at + 2 ≤ length b
  part-place = omega (arith, one-part, (q n s l).place.list)

  pub part-sort : sort_at b p n k ≡ set (sort_at b p n (u16_at b r.parts.at))
  unfolding map_of maps sort_at sorts_of numbers_at
  part-sort =
      let o = q n s l in
      kind-parts b p n k s l 14 refl (sym o.kind ∙ i)
      ∙ ap (node 14 0 0) (sym o.parts ∙ ap (λ (c : ℕ). sorts_of (store_of b p n) (numbers_at b r.parts.at c)) one-part)
