-- Laws of a Function of sorts replaced: 22 by the capped sizes of its list; and the Function after its list, in the store
-- that the list left.
use Prim.Native.Nat.{ℕ, ◌+◌, ◌≤◌, ◌<◌}
use mathlib.Core.Path.{◌≡◌, refl, sym, ap, subst, ◌∙◌}
use mathlib.Core.Bool.{Bool, true, false, true≢false}
use mathlib.Core.List.{List, []}
use native.Mathlib.Omega.{arith}
use lib.ListN.{length, get_or}
use lib.Dec.{leb}
use borrow.Author.Tests.{leb-true, leb-false}
use Rattle.std.proofs.Common.{Result, Ok, Err, IsErr}
use Rattle.record.specs.Number.{numbers_at}
use Rattle.record.specs.Sort.{Sort, Sorts, function, size, sizes}
use Rattle.record.specs.Record.{sorts_of, sort_of, bit, maps, map_of, leasts, least_of, mosts, most_of}
use Rattle.record.specs.Store.{intern, intern_all, indices_of, room}
use Rattle.record.specs.Decode.{fields, Shape, store_of}
use Rattle.record.specs.Codec.{length-numbers_at, number_at}
use Rattle.record.specs.Forms.{sort-other}
use Rattle.record.specs.Names.{distinct}
use Rattle.record.specs.Sizes.{count-sorts, length-indices}
use Rattle.record.specs.SortLists.{memb_all, memb-intern-all, Starts, starts-intern, starts-intern-all, room-starts}
use Rattle.record.specs.StoreLaws.{store_of-length}
use Rattle.record.specs.Entries.{store-ordered}
use Rattle.store.specs.Contract.{Untouched}
use Rattle.store.specs.declared.Full.{Full}
use Rattle.substitution.proofs.SubstitutionLaws.{count-applied}
use Rattle.apply_walk.specs.Images.{images_of}
use Rattle.apply_walk.specs.Made.{Made, MadeIs, FieldsMakeAsks, intern-first}
use Rattle.apply_walk.specs.Halted.{Halted, made-over, halted-over}
use Rattle.apply_walk.specs.Contract.{answers_at, SizesAre, ReplacedIs, PartsAsk, PartsMade}
use Rattle.apply_walk.specs.CapLaws.{capped_small, cap-within}
use Rattle.apply_walk.specs.InternLaws.{sorts-back, indices-below}
use Rattle.apply.specs.Contract.{function_at, FunctionAsks, FunctionFits}

-- The Function itself counts as one.
size-function : (ss : Sorts) → size (function ss) ≡ 1 + sizes ss
unfolding size
size-function ss = refl

-- The record of a Function: its list, and no other field.
shape-function : (vs : List ℕ) → length vs ≤ 64 → Shape (fields 0 0 0 vs [])
unfolding map_of maps bit least_of leasts most_of mosts distinct
shape-function vs h =
    record {
      known = omega arith;
      proper = record { no_name = λ e. refl; no_number = λ e. refl; no_list = λ e. absurd (true≢false e); no_names = λ e. refl };
      name = omega arith;
      number = omega arith;
      least = omega arith;
      most = h;
      some = λ e. absurd (omega arith);
      few = omega arith;
      once = refl;
    }

module _ {b p ix : List ℕ} {n u : ℕ} {l : List ℕ} {x m : ℕ} (a : FunctionAsks b p ix n u l x m) where
  abbrev answers : Sorts
  answers = answers_at b p n l (numbers_at b x m)

  pub function-over : (v : ℕ) → SizesAre b p n x m l v → 4095 < v → 4096 < size (function_at b p n l x m)
  function-over v e h = go (leb (sizes answers) 4096) refl
    where
      go : (t : Bool) → leb (sizes answers) 4096 ≡ t → 4096 < size (function_at b p n l x m)
      go true q = omega (arith, e, cap-within (sizes answers) (leb-true (sizes answers) 4096 q), size-function answers)
      go false q = omega (arith, leb-false (sizes answers) 4096 q, size-function answers)

  pub function-fits : (v : ℕ) → SizesAre b p n x m l v → v ≤ 4095 → FunctionFits b p ix n u l x m
  function-fits v e h =
      let s = capped_small (sizes answers) v e (omega arith) in
      record { asks = a; small = omega (arith, e, cap-within (sizes answers) s, size-function answers) }

-- THE FUNCTION AFTER ITS LIST.
module _ {b p ix : List ℕ} {n u : ℕ} {l : List ℕ} {x m : ℕ} (f : FunctionFits b p ix n u l x m) {o bytes : List ℕ} (read : o ≡ numbers_at bytes x m) (same : bytes ≡ b) where
  ho : o ≡ numbers_at b x m
  ho = read ∙ ap (λ (s : List ℕ). numbers_at s x m) same

  abbrev a : FunctionAsks b p ix n u l x m
  a = f.asks

  abbrev ps : Sorts
  ps = answers_at b p n l (numbers_at b x m)

  answers-are : answers_at b p n l o ≡ ps
  answers-are = ap (answers_at b p n l) ho

  pub function-parts : PartsAsk b p ix n u o l
  function-parts =
      record {
        ready = a.ready;
        below = λ j h.
            let i : j < m = omega (arith, h, ap length ho, length-numbers_at b x m) in
            omega (arith, ap (λ (vs : List ℕ). get_or vs j 0) ho, number_at b x m j i, a.below j i);
        small = omega (arith, ap sizes answers-are, f.small, size-function ps);
      }

  -- It interns its list first.
  starts-function : Starts (intern_all ps (store_of b p n)) (intern (function ps) (store_of b p n))
  starts-function =
      subst (Starts (intern_all ps (store_of b p n))) (intern-first (function ps) (store_of b p n) (store-ordered b p n a.ready.good.stored))
      (starts-intern (function ps) (intern_all ps (store_of b p n)))

  pub function-stuck : {c q kx : List ℕ} {m' v : ℕ} → Halted b p n u (intern_all (answers_at b p n l o) (store_of b p n)) c q kx m' v
      → Halted b p n u (intern (function_at b p n l x m) (store_of b p n)) c q kx m' v
  function-stuck {c} {q} {kx} {m'} {v} w =
      record {
        good = w.good;
        starts = w.starts;
        full =
            room-starts (length b) (length p) (intern_all ps (store_of b p n)) (intern (function ps) (store_of b p n)) starts-function
            (subst (λ (ss : Sorts). room (length b) (length p) (intern_all ss (store_of b p n)) ≡ false) answers-are w.full);
        kept = w.kept;
      }

  module _ {c q kx r : List ℕ} {m' v : ℕ} (w : PartsMade b p n u (answers_at b p n l o) c q kx r m' v) where
    abbrev st : List Sort
    st = store_of c q m'

    added : st ≡ intern_all ps (store_of b p n)
    added = w.added ∙ ap (λ (ss : Sorts). intern_all ss (store_of b p n)) answers-are

    starts : Starts (store_of b p n) st
    starts = subst (Starts (store_of b p n)) (sym added) (starts-intern-all ps (store_of b p n))

    there : memb_all ps st ≡ true
    there = ap (memb_all ps) added ∙ memb-intern-all ps (store_of b p n)

    has : r ≡ indices_of ps st
    has = subst (λ (ss : Sorts). r ≡ indices_of ss st) answers-are w.has

    function-is : sort_of st (fields 0 0 0 r []) ≡ function_at b p n l x m
    function-is =
        sort-other st (fields 0 0 0 r []) (λ e. absurd (omega arith)) (λ e. absurd (omega arith))
        ∙ ap function (ap (sorts_of st) has ∙ sorts-back ps st there)

    as_many : length r ≡ m
    as_many =
        ap length has ∙ length-indices ps st ∙ count-applied (images_of (store_of b p n) l) (sorts_of (store_of b p n) (numbers_at b x m))
        ∙ count-sorts (store_of b p n) (numbers_at b x m) ∙ length-numbers_at b x m

    pub function-make : FieldsMakeAsks c q kx m' v (fields 0 0 0 r [])
    function-make =
        record {
          good = w.good;
          shape = shape-function r (omega (arith, as_many, a.few));
          below =
              subst (λ (vs : List ℕ). (j : ℕ) → j < length vs → get_or vs j 0 < m') (sym has)
              (λ j h. omega (arith, indices-below ps st there j h, store_of-length c q m'));
          small = omega (arith, ap size function-is, f.small);
        }

    interned : intern (function_at b p n l x m) st ≡ intern (function_at b p n l x m) (store_of b p n)
    interned =
        ap (intern (function ps)) added ∙ intern-first (function ps) (store_of b p n) (store-ordered b p n a.ready.good.stored)

    pub function-made : {d t jx : List ℕ} {i k v' : ℕ}
        → Made c q m' v (sort_of st (fields 0 0 0 r [])) d t jx i k v'
        → Made b p n u (function_at b p n l x m) d t jx i k v'
    function-made {d} {t} {jx} {i} {k} {v'} y =
        made-over b p ix n u a.ready.good c q kx m' v w.good starts w.kept (function_at b p n l x m) interned
        d t jx i k v' (subst (λ (s : Sort). Made c q m' v s d t jx i k v') function-is y)

    pub function-full : (d t jx : List ℕ) (i j : ℕ)
        → (room (length c) (length q) (intern (sort_of st (fields 0 0 0 r [])) st) ≡ false) × Untouched c q kx d t jx × (i ≡ m') × (j ≡ v)
        → Halted b p n u (intern (function_at b p n l x m) (store_of b p n)) d t jx i j
    function-full d t jx i j y =
        subst (λ (z : ℕ). Halted b p n u (intern (function_at b p n l x m) (store_of b p n)) d t jx z j) (sym y.2)
        (subst (Halted b p n u (intern (function_at b p n l x m) (store_of b p n)) d t jx m') (sym y.3)
        (halted-over b p ix n u a.ready.good c q kx m' v w.good starts w.kept (function_at b p n l x m) interned
        d t jx (sym (ap (λ (s : Sort). room (length c) (length q) (intern s st)) function-is) ∙ y.0, y.1)))

    -- What making it gives.
    pub function-is-made : (d t jx : List ℕ) (i j : ℕ) (k : Result ℕ Full) → MadeIs c q kx m' v (sort_of st (fields 0 0 0 r [])) d t jx i j k
        → ReplacedIs b p n u (function_at b p n l x m) d t jx i j k
    function-is-made d t jx i j (Ok k) y = function-made y
    function-is-made d t jx i j (Err e) y = function-full d t jx i j y

-- Where there was no room.
pub function-stopped : {b p : List ℕ} {n u : ℕ} (s : Sort) (c q jx : List ℕ) (m v : ℕ) (r : Result ℕ Full) → IsErr r
    → Halted b p n u (intern s (store_of b p n)) c q jx m v → ReplacedIs b p n u s c q jx m v r
function-stopped {b} {p} {n} {u} s c q jx m v (Ok i) e h = cc
function-stopped {b} {p} {n} {u} s c q jx m v (Err f) e h = h
