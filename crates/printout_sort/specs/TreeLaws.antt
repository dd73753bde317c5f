-- Walks over the store by numbers alone: which sort a number is, what an entry says of its text, and how sizes fall.
use Rattle.std.specs.Prelude.{ℕ, zero, suc, ◌+◌, ◌*◌, ◌-◌, ◌≤◌, ◌<◌, ◌≡◌, refl, get_or}
use Rattle.std.proofs.Math.Path.{sym, ap, ap₂, subst}
use Rattle.std.proofs.Common.{◌∙◌}
use mathlib.Core.List.{List, [], ◌∷◌, ◌++◌}
use native.Mathlib.Omega.{arith}
use Rattle.std.proofs.Math.ListN.{length, length-append}
use Rattle.record.specs.Number.{u16_at, numbers_at}
use Rattle.record.specs.Sort.{Sorts, end, ◌then◌, count, size, sizes, name_in, number_in, parts_of, names_of}
use Rattle.record.specs.Record.{sorts_of}
use Rattle.record.specs.Decode.{fields_at, fields, Shape, store_of, sort_at, Stored}
use Rattle.record.specs.Codec.{length-numbers_at, number_at}
use Rattle.record.specs.StoreLaws.{sort-made, sort-node}
use Rattle.record.specs.Sizes.{Formed, sort-formed, count-sorts}
use Rattle.record.specs.Entries.{stored-first}
use Rattle.record.specs.Kinds.{sort_number}
use Rattle.record.specs.declared.SortRecord.{SortRecord}
use Rattle.store.specs.Entry.{EntryIs}
use Rattle.store.specs.Walk.{walk-size}
use Rattle.printout_sort.specs.Text.{ascii, text, texts}
use Rattle.printout_sort.specs.Pieces.{form_of, word_text, close_text, frames, pieces_text}
use Rattle.printout_sort.specs.PieceLaws.{pieces-text, pieces-length, form-below, form-par, names-form, own-short, after}
use Rattle.printout_sort.specs.Wrote.{Wrote, wrote_as, total, TextRoom, TextLeft, left-done}
use Rattle.printout_sort.specs.Trees.{tree_at, trees_at, inner_text_of, TextAsks, TextsAsk, InnerAsks, InnerIs, TextSizeIs, TextsAre}

-- THE SORT k, whatever the count of the store's sorts is.
pub tree-at : (b p : List ℕ) (k n : ℕ) → k < n → tree_at b p k ≡ sort_at b p n k
unfolding tree_at
tree-at b p k n l = sort-made b p k (suc k) (omega arith) ∙ sym (sort-made b p k n l)

pub trees-known : (b p : List ℕ) (n : ℕ) (l : List ℕ) → ((j : ℕ) → j < length l → get_or l j 0 < n) → sorts_of (store_of b p n) l ≡ trees_at b p l
unfolding trees_at sorts_of sort_at
trees-known b p n [] h = refl
trees-known b p n (r ∷ l) h =
    ap₂ ◌then◌ (sym (tree-at b p r n (h 0 (omega arith)))) (trees-known b p n l (λ j q. h (suc j) (omega arith)))

-- The law of a list of numbers.
pub trees-none : (b p : List ℕ) (x m : ℕ) → m ≡ 0 → trees_at b p (numbers_at b x m) ≡ end
unfolding trees_at numbers_at
trees-none b p x m e = ap (λ (i : ℕ). trees_at b p (numbers_at b x i)) e

pub trees-more : (b p : List ℕ) (x m : ℕ) → (m ≡ 0 → ⊥) → trees_at b p (numbers_at b x m) ≡ tree_at b p (u16_at b x) then trees_at b p (numbers_at b (x + 2) (m - 1))
unfolding trees_at numbers_at
trees-more b p x zero h = absurd (h refl)
trees-more b p x (suc m) h =
    let e : m ≡ suc m - 1 = omega arith in
    ap (λ (i : ℕ). tree_at b p (u16_at b x) then trees_at b p (numbers_at b (x + 2) i)) e

pub texts-none : (b p : List ℕ) (x m : ℕ) → m ≡ 0 → texts (trees_at b p (numbers_at b x m)) ≡ []
unfolding text
texts-none b p x m e = ap texts (trees-none b p x m e)

pub texts-more : (b p : List ℕ) (x m : ℕ) → (m ≡ 0 → ⊥)
    → texts (trees_at b p (numbers_at b x m)) ≡ ascii " " ++ (text (tree_at b p (u16_at b x)) ++ texts (trees_at b p (numbers_at b (x + 2) (m - 1))))
unfolding text
texts-more b p x m h = ap texts (trees-more b p x m h)

pub trees-size : (b p : List ℕ) (x m : ℕ) → (m ≡ 0 → ⊥)
    → sizes (trees_at b p (numbers_at b x m)) ≡ size (tree_at b p (u16_at b x)) + sizes (trees_at b p (numbers_at b (x + 2) (m - 1)))
unfolding size
trees-size b p x m h = ap sizes (trees-more b p x m h)

-- The same text, of the same number.
pub text-as : (b p : List ℕ) {k j : ℕ} {o : List ℕ} {to : ℕ} {o' : List ℕ} {e : ℕ} → k ≡ j → Wrote o to (text (tree_at b p k)) o' e → Wrote o to (text (tree_at b p j)) o' e
text-as b p q w = wrote_as (ap (λ (i : ℕ). text (tree_at b p i)) q) w

-- Room for a list is room for a blank, its first sort and the rest.
pub texts-room : (b p : List ℕ) (x m : ℕ) (o : List ℕ) (to : ℕ) → (m ≡ 0 → ⊥) → to + length (texts (trees_at b p (numbers_at b x m))) ≤ length o
    → TextRoom o to (ascii " " ∷ text (tree_at b p (u16_at b x)) ∷ texts (trees_at b p (numbers_at b (x + 2) (m - 1))) ∷ [])
unfolding total
texts-room b p x m o to h r =
    let first = text (tree_at b p (u16_at b x)) in
    record { fits = omega (arith, ap length (texts-more b p x m h), length-append first (texts (trees_at b p (numbers_at b (x + 2) (m - 1))))) }

-- A sort of a well-formed store within document 01's limit meets what printing it asks.
pub text-asks : (b p : List ℕ) (n k : ℕ) → Stored b p n → k < n → size (sort_at b p n k) ≤ 4096 → TextAsks b p k
text-asks b p n k stored l small =
    record {
      stored = stored-first b p (suc k) n (omega arith) stored;
      small = omega (arith, ap size (tree-at b p k n l));
    }

-- What a walk asks goes down to the first of a list, and to the rest.
module _ {b p : List ℕ} {x m : ℕ} (a : TextsAsk b p x m) (h : m ≡ 0 → ⊥) where
  pub first-asks : TextAsks b p (u16_at b x)
  first-asks =
      let some : 0 < m = after m 0 h (omega arith) in
      let e : x + 2 * 0 ≡ x = omega arith in
      record {
        stored = subst (λ (i : ℕ). Stored b p (suc (u16_at b i))) e (a.stored 0 some);
        small = omega (arith, trees-size b p x m h, a.small);
      }

  pub rest-ask : TextsAsk b p (x + 2) (m - 1)
  rest-ask =
      let some : 0 < m = after m 0 h (omega arith) in
      record {
        within = omega (arith, a.within);
        stored = λ j l.
            let e : x + 2 * (j + 1) ≡ x + 2 + 2 * j = omega arith in
            subst (λ (i : ℕ). Stored b p (suc (u16_at b i))) e (a.stored (j + 1) (omega arith));
        small = omega (arith, trees-size b p x m h, a.small);
      }

-- AN ENTRY that was read: its text in pieces, its size, and what its pieces ask.
module _ {b p : List ℕ} {k : ℕ} (a : TextAsks b p k) {r : SortRecord} (e : EntryIs b p (suc k) k r) {form : ℕ}
    (is : form ≡ form_of (sort_number r.kind) r.parts.count) where
  abbrev numbers : List ℕ
  numbers = numbers_at b r.parts.at r.parts.count

  shape : Shape (fields (sort_number r.kind) r.name r.number numbers (numbers_at b r.names.at r.names.count))
  shape = subst Shape e.place.same (a.stored.each k (omega arith)).shape

  formed : Formed (tree_at b p k)
  unfolding tree_at
  formed =
      subst Formed (sym (sort-node b p (suc k) k a.stored (omega arith)))
      (sort-formed (store_of b p (suc k)) (fields_at b (get_or p k 0)) (a.stored.each k (omega arith)).shape)

  below : (j : ℕ) → j < length numbers → get_or numbers j 0 < suc k
  below j l =
      let q : j < r.parts.count = omega (arith, length-numbers_at b r.parts.at r.parts.count) in
      omega (arith, number_at b r.parts.at r.parts.count j q, e.below j q)

  trees : sorts_of (store_of b p (suc k)) numbers ≡ trees_at b p numbers
  trees = trees-known b p (suc k) numbers below

  parts : parts_of (tree_at b p k) ≡ trees_at b p numbers
  unfolding tree_at
  parts = sym e.parts ∙ trees

  counted : count (parts_of (tree_at b p k)) ≡ r.parts.count
  unfolding tree_at
  counted =
      ap count (sym e.parts) ∙ count-sorts (store_of b p (suc k)) numbers ∙ length-numbers_at b r.parts.at r.parts.count

  pub entry-text : text (tree_at b p k) ≡ pieces_text form r.name r.number (numbers_at b r.names.at r.names.count) (texts (trees_at b p numbers))
  unfolding tree_at
  entry-text =
      pieces-text (tree_at b p k) formed
      ∙ ap₂ (λ (i : ℕ) (j : ℕ). pieces_text (form_of i j) (name_in (tree_at b p k)) (number_in (tree_at b p k)) (names_of (tree_at b p k)) (texts (parts_of (tree_at b p k)))) (sym e.kind) counted
      ∙ ap₂ (λ (i : ℕ) (j : ℕ). pieces_text (form_of (sort_number r.kind) r.parts.count) i j (names_of (tree_at b p k)) (texts (parts_of (tree_at b p k)))) (sym e.name) (sym e.number)
      ∙ ap₂ (λ (ns : List ℕ) (ss : Sorts). pieces_text (form_of (sort_number r.kind) r.parts.count) r.name r.number ns (texts ss)) (sym e.names) parts
      ∙ ap (λ (f : ℕ). pieces_text f r.name r.number (numbers_at b r.names.at r.names.count) (texts (trees_at b p numbers))) (sym is)

  -- room for the text is room for its pieces
  pub entry-room : (o : List ℕ) (to : ℕ) → to + length (text (tree_at b p k)) ≤ length o
      → TextRoom o to (word_text form ∷ inner_text_of b form r ∷ texts (trees_at b p numbers) ∷ close_text form ∷ [])
  unfolding pieces_text total
  entry-room o to h =
      let ts = texts (trees_at b p numbers) in
      record {
        fits =
            omega (
              arith,
              ap length entry-text,
              length-append (word_text form) (inner_text_of b form r ++ (ts ++ close_text form)),
              length-append (inner_text_of b form r) (ts ++ close_text form),
              length-append ts (close_text form),
            );
      }

  pub entry-wrote : {o : List ℕ} {to : ℕ} {o' : List ℕ} {d : ℕ}
      → Wrote o to (word_text form ++ (inner_text_of b form r ++ (texts (trees_at b p numbers) ++ close_text form))) o' d → Wrote o to (text (tree_at b p k)) o' d
  unfolding pieces_text
  entry-wrote w = wrote_as (sym entry-text) w

  pub entry-form : form < 17
  entry-form = subst (λ (f : ℕ). f < 17) (sym is) (form-below (sort_number r.kind) r.parts.count shape.known)

  pub entry-text-size : size (tree_at b p k) ≡ 1 + sizes (trees_at b p numbers)
  unfolding tree_at
  entry-text-size =
      walk-size b p (suc k) k a.stored (omega arith) r e ∙ ap (λ (ss : Sorts). 1 + sizes ss) trees

  pub entry-falls : (t : ℕ) → 2 * size (tree_at b p k) ≡ t → 2 * sizes (trees_at b p numbers) + 1 < t
  entry-falls t q = omega (arith, entry-text-size)

  pub inner-asks : InnerAsks b form r
  inner-asks =
      record {
        name = shape.name;
        number = shape.number;
        within = e.place.names;
        few = e.named;
        form = entry-form;
        some = λ q.
            omega (
              arith,
              shape.some (form-par (sort_number r.kind) r.parts.count (sym is ∙ names-form form entry-form q)),
              length-numbers_at b r.names.at r.names.count,
            );
      }

  pub list-asks : TextsAsk b p r.parts.at r.parts.count
  list-asks =
      record {
        within = e.place.list;
        stored = λ j l. stored-first b p (suc (u16_at b (r.parts.at + 2 * j))) (suc k) (omega (arith, e.below j l)) a.stored;
        small = omega (arith, entry-text-size, a.small);
      }

  pub entry_length : {z i t : ℕ} → z ≡ get_or frames form 0 → InnerIs b form r i → TextsAre (texts (trees_at b p numbers)) (sizes (trees_at b p numbers)) t
      → TextSizeIs (text (tree_at b p k)) (size (tree_at b p k)) (z + i + t)
  entry_length {z} {i} {t} ez ei et =
      record {
        is =
            omega (
              arith,
              ez,
              ei.is,
              et.is,
              ap length entry-text,
              pieces-length form r.name r.number (numbers_at b r.names.at r.names.count) (texts (trees_at b p numbers)) entry-form,
            );
        most = omega (arith, ez, et.most, own-short form i entry-form ei.most ei.low, entry-text-size);
      }

-- THE PARTS THAT ARE LEFT of a list: their records are well formed, and their trees are no larger than those of all together.
abbrev pub AllStored : List ℕ → List ℕ → List ℕ → Type 0
AllStored b p [] = Unit {0}
AllStored b p (k ∷ ks) = Stored b p (suc k) × AllStored b p ks

pub record PartsLeft (b p all ks : List ℕ) : Type 0 where
  pub stored : AllStored b p ks
  pub within : sizes (trees_at b p ks) ≤ sizes (trees_at b p all)
  pub small : sizes (trees_at b p all) ≤ 4096

all-stored : (b p : List ℕ) (x m : ℕ) → ((j : ℕ) → j < m → Stored b p (suc (u16_at b (x + 2 * j)))) → AllStored b p (numbers_at b x m)
unfolding numbers_at
all-stored b p x zero h = tt
all-stored b p x (suc m) h =
    let e : x + 2 * 0 ≡ x = omega arith in (
      subst (λ (i : ℕ). Stored b p (suc (u16_at b i))) e (h 0 (omega arith)),
      all-stored b p (x + 2) m (λ j l.
          let d : x + 2 * (j + 1) ≡ x + 2 + 2 * j = omega arith in
          subst (λ (i : ℕ). Stored b p (suc (u16_at b i))) d (h (j + 1) (omega arith))),
    )

pub parts-left : {b p : List ℕ} {x m : ℕ} → TextsAsk b p x m → PartsLeft b p (numbers_at b x m) (numbers_at b x m)
parts-left {b} {p} {x} {m} a = record { stored = all-stored b p x m a.stored; within = omega arith; small = a.small }

-- The next part is a sort that can be printed, smaller than the whole.
pub parts-next : {b p all ks : List ℕ} {k : ℕ} {rest : List ℕ} → PartsLeft b p all ks → ks ≡ k ∷ rest
    → TextAsks b p k × PartsLeft b p all rest × (size (tree_at b p k) ≤ sizes (trees_at b p all))
unfolding trees_at size
parts-next l q =
    let i = rw q at l in (
      record { stored = i.stored.0; small = omega (arith, i.within, i.small) },
      record { stored = i.stored.1; within = omega (arith, i.within); small = i.small },
      omega (arith, i.within),
    )

-- Counting: what is counted and what is left make the whole, within the bound that the sizes give.
pub record PartsSizeInv (b p all : List ℕ) (start sum : ℕ) (ks : List ℕ) : Type 0 where
  pub left : PartsLeft b p all ks
  pub whole : sum + length (texts (trees_at b p ks)) ≡ start + length (texts (trees_at b p all))
  pub most : sum + 456 * sizes (trees_at b p ks) ≤ start + 456 * sizes (trees_at b p all)

pub parts-start : {b p all : List ℕ} (start : ℕ) → PartsLeft b p all all → PartsSizeInv b p all start start all
parts-start start l = record { left = l; whole = refl; most = omega arith }

pub parts-step : {b p all : List ℕ} {start sum : ℕ} {ks : List ℕ} {k : ℕ} {rest : List ℕ} {f : ℕ} → PartsSizeInv b p all start sum ks → ks ≡ k ∷ rest
    → TextSizeIs (text (tree_at b p k)) (size (tree_at b p k)) f → PartsSizeInv b p all start (sum + (1 + f)) rest
unfolding trees_at text size
parts-step {b} {p} {all} {start} {sum} {ks} {k} {rest} {f} i q w =
    let j = rw q at i in
    record {
      left = (parts-next i.left q).1;
      whole = omega (arith, j.whole, w.is, length-append (text (tree_at b p k)) (texts (trees_at b p rest)));
      most = omega (arith, j.most, w.most);
    }

pub parts-end : {b p all : List ℕ} {start sum : ℕ} {ks : List ℕ} → PartsSizeInv b p all start sum ks → ks ≡ []
    → (sum ≡ start + length (texts (trees_at b p all))) × (sum ≤ start + 456 * sizes (trees_at b p all))
unfolding trees_at text size
parts-end i q = let j = rw q at i in (omega (arith, j.whole), omega (arith, j.most))

-- Writing: the next part behind its blank, with what is left.
pub text-next : (b p : List ℕ) {o : List ℕ} {to : ℕ} {whole o' : List ℕ} {e : ℕ} {ks : List ℕ} {k : ℕ} {rest : List ℕ}
    → TextLeft o to whole o' e (texts (trees_at b p ks)) → ks ≡ k ∷ rest
    → TextLeft o to whole o' e ((ascii " " ++ text (tree_at b p k)) ++ texts (trees_at b p rest))
unfolding trees_at text
text-next b p l q = rw q at l

pub text-next-room : {o : List ℕ} {to : ℕ} {whole o' : List ℕ} {e : ℕ} (t rest : List ℕ)
    → TextLeft o to whole o' e ((ascii " " ++ t) ++ rest) → e + 1 + length t ≤ length o'
text-next-room t rest l = omega (arith, l.next, l.long, l.fits, length-append (ascii " " ++ t) rest)

pub text-end : (b p : List ℕ) {o : List ℕ} {to : ℕ} {whole o' : List ℕ} {e : ℕ} {ks : List ℕ} → TextLeft o to whole o' e (texts (trees_at b p ks)) → ks ≡ []
    → Wrote o to whole o' e
unfolding trees_at text
text-end b p l q = left-done (rw q at l)

-- The length of a list: a blank, its first, and the rest.
pub list_length : (b p : List ℕ) (x m k : ℕ) {f t : ℕ} → (m ≡ 0 → ⊥) → k ≡ u16_at b x → TextSizeIs (text (tree_at b p k)) (size (tree_at b p k)) f
    → TextsAre (texts (trees_at b p (numbers_at b (x + 2) (m - 1)))) (sizes (trees_at b p (numbers_at b (x + 2) (m - 1)))) t
    → TextsAre (texts (trees_at b p (numbers_at b x m))) (sizes (trees_at b p (numbers_at b x m))) (1 + f + t)
list_length b p x m k {f} {t} h q eq et =
    let ef : TextSizeIs (text (tree_at b p (u16_at b x))) (size (tree_at b p (u16_at b x))) f = rw q at eq in
    record {
      is =
          omega (
            arith,
            ef.is,
            et.is,
            ap length (texts-more b p x m h),
            length-append (text (tree_at b p (u16_at b x))) (texts (trees_at b p (numbers_at b (x + 2) (m - 1)))),
          );
      most = omega (arith, ef.most, et.most, trees-size b p x m h);
    }
