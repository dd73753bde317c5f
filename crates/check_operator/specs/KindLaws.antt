-- The sorts of a store by their kinds: whether one is that of a kind without parts, and vectors.
use Rattle.std.specs.Prelude.{ℕ, ◌<◌, ◌≡◌, true, false, List, get_or, eqb}
use Rattle.std.proofs.Common.{sym, ap, ◌∙◌, arith, eq-eqb, eqb-true}
use Rattle.record.specs.Sort.{Sort, node, bitvec, kind_of, number_in, same}
use Rattle.record.specs.SortLaws.{same-sound, same-complete, same-other}
use Rattle.record.specs.Record.{Fields, bit, maps, map_of, sorts_of, sort_of}
use Rattle.record.specs.Decode.{fields_at, Shape, store_of, sort_at, Stored}
use Rattle.record.specs.Forms.{sort-other}
use Rattle.record.specs.StoreLaws.{sort-node}
use Rattle.record.specs.Cases.{both_ways}
use Rattle.record.specs.declared.SortRecord.{SortRecord}
use Rattle.store.specs.Entry.{EntryIs}
use Rattle.check_rules.specs.Rank.{vector}
use Rattle.check_rules.proofs.FitLaws.{vector-when}
use Rattle.row_answer.specs.StoredKinds.{kind-read, kind-plain}
use Rattle.check_operator.specs.Rule.{plain_sort}

module _ (b p : List ℕ) (n i : ℕ) (s : Stored b p n) (l : i < n) where
  pub kind-same : (k : ℕ) → map_of k ≡ 1 → same (plain_sort k) (sort_at b p n i) ≡ eqb (kind_of (sort_at b p n i)) k
  kind-same k m =
      both_ways (same (plain_sort k) (sort_at b p n i)) (eqb (kind_of (sort_at b p n i)) k)
      (λ e. eq-eqb (kind_of (sort_at b p n i)) k (sym (ap kind_of (same-sound (plain_sort k) (sort_at b p n i) e))))
      (λ e. same-complete (plain_sort k) (sort_at b p n i) (sym (kind-plain b p n i s l k m (eqb-true (kind_of (sort_at b p n i)) k e))))

---------------------------------------------------------------- vectors
-- What a record of this kind stands for.
vector-fields : (st : List Sort) (f : Fields) → Shape f → f.kind ≡ 9 → sort_of st f ≡ bitvec f.number
unfolding bit map_of maps sorts_of
vector-fields st f s h =
    let t : map_of f.kind ≡ 5 = ap map_of h in
    sort-other st f (λ q. absurd (omega arith)) (λ q. absurd (omega arith))
    ∙ ap (λ (i : ℕ). node i f.name f.number (sorts_of st f.list)) h
    ∙ ap (λ (i : ℕ). node 9 i f.number (sorts_of st f.list)) (s.proper.no_name (ap (bit 2) t))
    ∙ ap (λ (l : List ℕ). node 9 0 f.number (sorts_of st l)) (s.proper.no_list (ap (bit 16) t))

pub vector-not : (s : Sort) → (kind_of s ≡ 9 → ⊥) → vector s ≡ false
vector-not s h = same-other s (bitvec (number_in s)) (λ e. h (ap kind_of e))

pub kind-vector : (b p : List ℕ) (n k : ℕ) → Stored b p n → k < n → kind_of (sort_at b p n k) ≡ 9 → vector (sort_at b p n k) ≡ true
kind-vector b p n k s l h =
    vector-when (sort_at b p n k) (fields_at b (get_or p k 0)).number
    (sort-node b p n k s l ∙ vector-fields (store_of b p n) (fields_at b (get_or p k 0)) (s.each k l).shape (sym (kind-read b p n k s l) ∙ h))

pub vector-small : (b p : List ℕ) (n k : ℕ) → Stored b p n → k < n → (r : SortRecord) → EntryIs b p n k r → r.number < 65536
vector-small b p n k s l r e = omega (arith, (s.each k l).shape.number, ap (λ (f : Fields). f.number) e.place.same)
