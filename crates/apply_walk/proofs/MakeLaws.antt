-- Laws of making a sort from its fields: the drafted record is fresh, and interning it interns the sort.
use Prim.Native.Nat.{ℕ}
use mathlib.Core.Path.{◌≡◌, sym, ap, subst, ◌∙◌}
use mathlib.Core.List.{List}
use Rattle.std.proofs.Common.{Result, Ok, Err}
use native.Mathlib.Omega.{arith}
use lib.ListN.{length}
use Rattle.record.specs.Sort.{Sort, size}
use Rattle.record.specs.Record.{Fields, record_bytes, sort_of}
use Rattle.record.specs.Store.{add_once, intern, index_of, room}
use Rattle.record.specs.Decode.{fields_at, Fresh, store_of}
use Rattle.record.specs.Append.{fresh-fields, fresh-of}
use Rattle.record.specs.SortLists.{intern-parts}
use Rattle.record.specs.StoreLaws.{store_of-length}
use Rattle.record.specs.Sizes.{most-few}
use Rattle.record.specs.Entries.{store-ordered, sort-parts}
use Rattle.store.specs.Contract.{InternAsks, InternedIs}
use Rattle.store.specs.declared.Full.{Full}
use Rattle.apply_walk.specs.Draft.{FieldsFit}
use Rattle.apply_walk.specs.Made.{FieldsMakeAsks, MadeIs}

-- What its fields are when they are written down.
pub make-fit : {b p ix : List ℕ} {n u : ℕ} {f : Fields} → FieldsMakeAsks b p ix n u f → FieldsFit f
make-fit {b} {p} {ix} {n} {u} {f} a =
    record {
      known = a.shape.known;
      name = a.shape.name;
      number = a.shape.number;
      parts = omega (arith, a.shape.most, most-few f.kind a.shape.known);
      names = a.shape.few;
    }

module _ {b p ix : List ℕ} {n u : ℕ} {f : Fields} (a : FieldsMakeAsks b p ix n u f) {r : List ℕ} (e : r ≡ record_bytes f) where
  pub rec-fresh : Fresh r n
  rec-fresh = subst (λ (s : List ℕ). Fresh s n) (sym e) (fresh-of f n a.shape a.below)

  sort-is : sort_of (store_of b p n) (fields_at r 0) ≡ sort_of (store_of b p n) f
  sort-is = ap (sort_of (store_of b p n)) (ap (λ (s : List ℕ). fields_at s 0) e ∙ fresh-fields f a.shape)

  pub make-intern : (w : ℕ) → w ≡ size (sort_of (store_of b p n) (fields_at r 0)) → InternAsks b p ix n u r w
  make-intern w h = record { good = a.good; fresh = rec-fresh; weight = h; small = omega (arith, h, ap size sort-is, a.small) }

  added_is : add_once (store_of b p n) (sort_of (store_of b p n) (fields_at r 0)) ≡ intern (sort_of (store_of b p n) f) (store_of b p n)
  added_is =
      ap (add_once (store_of b p n)) sort-is
      ∙ sym (intern-parts (sort_of (store_of b p n) f) (store_of b p n) (store-ordered b p n a.good.stored)
      (sort-parts (store_of b p n) f a.shape (λ j h. omega (arith, a.below j h, store_of-length b p n))))

  pub make-made : (b' p' ix' : List ℕ) (m v : ℕ) (i : Result ℕ Full) → InternedIs b p ix n u r b' p' ix' m v i
      → MadeIs b p ix n u (sort_of (store_of b p n) f) b' p' ix' m v i
  make-made b' p' ix' m v (Ok k) h =
      record {
        good = h.good;
        added = h.added ∙ added_is;
        number = h.number ∙ ap (λ (s : Sort). index_of s (store_of b' p' m)) sort-is;
        kept = h.kept;
      }
  make-made b' p' ix' m v (Err e) h = (sym (ap (room (length b) (length p)) added_is) ∙ h.0, h.1, h.2, h.3)
