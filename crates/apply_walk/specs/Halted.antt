-- Where room ran out on the way to a store. Answers of several new sorts: a sort made over a store that was grown for its parts is
-- made over the store before, or refused there.
use Rattle.std.specs.Prelude.{ℕ, ◌≡◌, false, List, length}
use Rattle.std.proofs.Common.{sym, ap, ap₂, subst, ◌∙◌}
use Rattle.record.specs.Sort.{Sort}
use Rattle.record.specs.Store.{intern, room}
use Rattle.record.specs.Decode.{store_of}
use Rattle.record.specs.SortLists.{Starts}
use Rattle.store.specs.Good.{Good, Kept}
use Rattle.store.specs.Contract.{Untouched}
use Rattle.apply_walk.specs.Made.{Made, kept_trans, grown-count, grown-used}

-- THE STORE c q WHERE ROOM RAN OUT on the way to the store st: it is good and grown from b p, and st has no room.
pub record Halted (b p : List ℕ) (n u : ℕ) (st : List Sort) (c q ix' : List ℕ) (m v : ℕ) : Type 0 where
  pub good : Good c q ix' m v
  pub starts : Starts (store_of b p n) (store_of c q m)
  pub full : room (length b) (length p) st ≡ false
  pub kept : Kept b p n u c q

-- A store as good in buffers that are as they were.
halted-same : (b p : List ℕ) (n u : ℕ) (st : List Sort) (c q ix d r jx : List ℕ) (m v : ℕ) → Untouched c q ix d r jx
    → Halted b p n u st c q ix m v → Halted b p n u st d r jx m v
halted-same b p n u st c q ix d r jx m v e h =
    subst (λ (x : List ℕ). Halted b p n u st x r jx m v) (sym e.0)
    (subst (λ (x : List ℕ). Halted b p n u st c x jx m v) (sym e.1)
    (subst (λ (x : List ℕ). Halted b p n u st c q x m v) (sym e.2) h))

-- A SORT s OVER A STORE c q GROWN FROM b p, on the way to interning it over b p (as by `intern-first`).
module _ (b p ix : List ℕ) (n u : ℕ) (g : Good b p ix n u) (c q jx : List ℕ) (m v : ℕ) (h : Good c q jx m v)
    (starts : Starts (store_of b p n) (store_of c q m)) (kept : Kept b p n u c q) (s : Sort) (e : intern s (store_of c q m) ≡ intern s (store_of b p n)) where
  pub made-over : (d r kx : List ℕ) (i m' v' : ℕ) → Made c q m v s d r kx i m' v' → Made b p n u s d r kx i m' v'
  made-over d r kx i m' v' y =
      record {
        good = y.good;
        added = y.added ∙ e;
        number = y.number;
        kept =
            kept_trans b p n u c q m v d r (grown-count b p ix n u g c q jx m v h starts)
            (grown-used b p ix n u g c q jx m v h starts) kept y.kept;
      }

  pub halted-over : (d r kx : List ℕ) → (room (length c) (length q) (intern s (store_of c q m)) ≡ false) × Untouched c q jx d r kx
      → Halted b p n u (intern s (store_of b p n)) d r kx m v
  halted-over d r kx y =
      halted-same b p n u (intern s (store_of b p n)) c q jx d r kx m v y.1
      (record {
        good = h;
        starts = starts;
        full =
            sym (ap₂ (λ (x z : ℕ). room x z (intern s (store_of b p n))) kept.long kept.wide)
            ∙ ap (room (length c) (length q)) (sym e) ∙ y.0;
        kept = kept;
      })
