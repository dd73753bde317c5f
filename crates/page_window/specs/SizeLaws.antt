-- The table of text sizes is made from the first sort on: each size is the sort's own pieces and, from the table, those of its parts.
use Rattle.std.specs.Prelude.{ℕ, zero, suc, ◌+◌, ◌*◌, ◌-◌, ◌≤◌, ◌<◌, ◌≡◌, refl, List, [], ◌∷◌, length, get_or, set}
use Rattle.std.proofs.Common.{sym, ap, subst, ⊎_elim, arith, eq-or-lt_of_le, length-set, get_or-set_same, get_or-set_other}
use Rattle.record.specs.Codec.{length-numbers_at, numbers_more}
use Rattle.record.specs.Number.{u16_at, numbers_at}
use Rattle.record.specs.Sort.{size, sizes}
use Rattle.record.specs.Entries.{stored-first}
use Rattle.record.specs.declared.SortRecord.{SortRecord}
use Rattle.store.specs.Entry.{EntryIs}
use Rattle.printout_sort.specs.Text.{text, texts}
use Rattle.printout_sort.specs.Trees.{tree_at, trees_at, TextSizeIs, TextsAre}
use Rattle.printout_sort.specs.TreeLaws.{list_length}
use Rattle.page_window.specs.Window.{SizesAsk, SizesAre}
use Rattle.page_window.specs.Sizes.{parts_total, PartsAsk, Measured, SortSizeAsks}

-- One more than the numbers of 32 bits.
abbrev wide : ℕ
wide = 4294967296

total-more : (z b : List ℕ) (x m : ℕ) → 0 < m
    → parts_total z (numbers_at b x m) ≡ 1 + get_or z (u16_at b x) 0 + parts_total z (numbers_at b (x + 2) (m - 1))
unfolding parts_total
total-more z b x m h = ap (parts_total z) (numbers_more b x m h)

-- Numbers that are all of the table.
abbrev pub AllKnown : List ℕ → List ℕ → Type 0
AllKnown z [] = Unit {0}
AllKnown z (k ∷ ks) = (k < length z) × AllKnown z ks

all-known : (b z : List ℕ) (x m : ℕ) → ((j : ℕ) → j < m → u16_at b (x + 2 * j) < length z) → AllKnown z (numbers_at b x m)
unfolding numbers_at
all-known b z x zero h = tt
all-known b z x (suc m) h =
    let e : x + 2 * 0 ≡ x = omega arith in (
      subst (λ (i : ℕ). u16_at b i < length z) e (h 0 (omega arith)),
      all-known b z (x + 2) m (λ j l.
          let d : x + 2 * (j + 1) ≡ x + 2 + 2 * j = omega arith in
          subst (λ (i : ℕ). u16_at b i < length z) d (h (j + 1) (omega arith))),
    )

-- THE LOOP OVER THE PARTS: what is summed and what is left are the whole.
pub record PartsInv (z all : List ℕ) (sum : ℕ) (ks : List ℕ) : Type 0 where
  pub few : sum + wide * length ks ≤ wide * 64
  pub known : AllKnown z ks
  pub whole : sum + parts_total z ks ≡ parts_total z all

pub parts-start : {b z : List ℕ} {at count : ℕ} → PartsAsk b z at count → PartsInv z (numbers_at b at count) 0 (numbers_at b at count)
parts-start {b} {z} {at} {count} a = record { few = omega (arith, a.few, length-numbers_at b at count); known = all-known b z at count a.known; whole = omega arith }

pub parts-step : {z all : List ℕ} {sum : ℕ} {ks : List ℕ} {k : ℕ} {rest : List ℕ} → PartsInv z all sum ks → ks ≡ k ∷ rest → get_or z k 0 < wide
    → PartsInv z all (sum + (1 + get_or z k 0)) rest × (k < length z)
unfolding parts_total
parts-step i q small = let h = rw q at i in (record { few = omega (arith, h.few); known = h.known.1; whole = omega (arith, h.whole) }, h.known.0)

pub parts-end : {z all : List ℕ} {sum : ℕ} {ks : List ℕ} → PartsInv z all sum ks → ks ≡ [] → sum ≡ parts_total z all
unfolding parts_total
parts-end i q = let h = rw q at i in omega (arith, h.whole)

-- THE PARTS of a sort by the table are their texts' length.
parts_none : (b p z : List ℕ) (x : ℕ) → TextsAre (texts (trees_at b p (numbers_at b x 0))) (sizes (trees_at b p (numbers_at b x 0))) (parts_total z (numbers_at b x 0))
unfolding numbers_at trees_at text size parts_total
parts_none b p z x = record { is = refl; most = omega arith }

parts_are : (b p z : List ℕ) (x m : ℕ)
    → ((j : ℕ) → j < m → TextSizeIs (text (tree_at b p (u16_at b (x + 2 * j)))) (size (tree_at b p (u16_at b (x + 2 * j)))) (get_or z (u16_at b (x + 2 * j)) 0))
    → TextsAre (texts (trees_at b p (numbers_at b x m))) (sizes (trees_at b p (numbers_at b x m))) (parts_total z (numbers_at b x m))
parts_are b p z x zero h = parts_none b p z x
parts_are b p z x (suc m) h =
    let e : x + 2 * 0 ≡ x = omega arith in
    let i : m ≡ suc m - 1 = omega arith in
    let first = subst (λ (y : ℕ). TextSizeIs (text (tree_at b p (u16_at b y))) (size (tree_at b p (u16_at b y))) (get_or z (u16_at b y) 0)) e (h 0 (omega arith)) in
    let others = subst (λ (n : ℕ). TextsAre (texts (trees_at b p (numbers_at b (x + 2) n))) (sizes (trees_at b p (numbers_at b (x + 2) n))) (parts_total z (numbers_at b (x + 2) n))) i
    (parts_are b p z (x + 2) m
    (λ j l.
    let q : x + 2 * (j + 1) ≡ x + 2 + 2 * j = omega arith in
    subst (λ (y : ℕ). TextSizeIs (text (tree_at b p (u16_at b y))) (size (tree_at b p (u16_at b y))) (get_or z (u16_at b y) 0)) q (h (j + 1) (omega arith)))) in
    subst (TextsAre (texts (trees_at b p (numbers_at b x (suc m)))) (sizes (trees_at b p (numbers_at b x (suc m))))) (sym (total-more z b x (suc m) (omega arith)))
    (list_length b p x (suc m) (u16_at b x) (λ q. omega arith) refl first others)

-- A sort whose entry was read, with the sizes of the sorts before it.
module _ {b p : List ℕ} {k : ℕ} {z : List ℕ} (a : SortSizeAsks b p k z) {r : SortRecord} (e : EntryIs b p (suc k) k r) where
  pub parts-asks : PartsAsk b z r.parts.at r.parts.count
  parts-asks =
      record { within = e.place.list; few = e.few; known = λ j l. omega (arith, e.below j l, a.table.room) }

  pub parts-texts : {t : ℕ} → t ≡ parts_total z (numbers_at b r.parts.at r.parts.count)
      → TextsAre (texts (trees_at b p (numbers_at b r.parts.at r.parts.count))) (sizes (trees_at b p (numbers_at b r.parts.at r.parts.count))) t
  parts-texts q =
      subst (TextsAre (texts (trees_at b p (numbers_at b r.parts.at r.parts.count))) (sizes (trees_at b p (numbers_at b r.parts.at r.parts.count)))) (sym q)
      (parts_are b p z r.parts.at r.parts.count (λ j l. a.table.each (u16_at b (r.parts.at + 2 * j)) (e.below j l)))

-- THE LOOP OVER THE SORTS: the table grows by one.
pub size-asks : {b p : List ℕ} {n : ℕ} {z : List ℕ} → SizesAsk b p n z → {k : ℕ} {z' : List ℕ} → k < n → Measured b p k z' → SortSizeAsks b p k z'
size-asks {b} {p} {n} a {k} l t =
    record {
      asks = record { stored = stored-first b p (suc k) n (omega arith) a.stored; small = a.small k l };
      table = t;
    }

pub measured-none : (b p z : List ℕ) → Measured b p 0 z
measured-none b p z = record { room = omega arith; each = λ k l. absurd (omega arith) }

pub measured-more : {b p : List ℕ} {k : ℕ} {z : List ℕ} {v : ℕ} → Measured b p k z → k < length z → TextSizeIs (text (tree_at b p k)) (size (tree_at b p k)) v
    → Measured b p (k + 1) (set z k v)
measured-more {b} {p} {k} {z} {v} t room s =
    record {
      room = omega (arith, length-set z k v);
      each = λ i l.
          ⊎_elim
          (λ (e : i ≡ k).
          subst (λ (j : ℕ). TextSizeIs (text (tree_at b p j)) (size (tree_at b p j)) (get_or (set z k v) j 0)) (sym e)
          (subst (TextSizeIs (text (tree_at b p k)) (size (tree_at b p k))) (sym (get_or-set_same z k v 0 room)) s))
          (λ (m : i < k).
          subst (TextSizeIs (text (tree_at b p i)) (size (tree_at b p i))) (sym (get_or-set_other z k i v 0 (λ e. omega arith))) (t.each i m))
          (eq-or-lt_of_le {n = i} {m = k} (omega arith));
    }

pub measured-all : {b p : List ℕ} {k n : ℕ} {z : List ℕ} → Measured b p k z → n ≤ k → SizesAre b p n z
measured-all t h = record { room = omega (arith, t.room); each = λ i l. (t.each i (omega arith)).is }
