-- Frames taken apart and moved on by one part, and the frame of a sort that was opened.
use Rattle.std.specs.Prelude.{ℕ, suc, ◌+◌, ◌*◌, ◌-◌, ◌≤◌, ◌<◌, ◌≡◌, refl, Bool, true, false, List, ◌++◌, length, get_or, eqb}
use Rattle.std.proofs.Common.{sym, ap, subst, ◌∙◌, append_assoc, eqb-true, length-append}
use native.Mathlib.Omega.{arith}
use Rattle.std.proofs.lemmas.Bool.{eqb-false}
use Rattle.record.specs.Number.{u16_at, numbers_at}
use Rattle.record.specs.Sort.{size, sizes}
use Rattle.record.specs.Codec.{Bytes, length-numbers_at}
use Rattle.record.specs.Kinds.{sort_number}
use Rattle.record.specs.declared.SortRecord.{SortRecord}
use Rattle.store.specs.Entry.{EntryIs}
use Rattle.printout_sort.specs.Text.{ascii, names_text, text, texts}
use Rattle.printout_sort.specs.TextLaws.{own-names, inner-by, numbers-small}
use Rattle.printout_sort.specs.Pieces.{form_of, inners, frames, word_text, close_text, inner_text, pieces_text}
use Rattle.printout_sort.specs.PieceLaws.{inner_mosts, frame_is, frame-most, own-short, inner-names, after}
use Rattle.printout_sort.specs.Trees.{tree_at, trees_at, inner_text_of, InnerAsks, TextAsks}
use Rattle.printout_sort.specs.TreeLaws.{texts-more, trees-size, rest-ask, entry-text, entry-text-size, entry-form, inner-asks, list-asks}
use Rattle.printout_sort.specs.Wrote.{Wrote, wrote-more, wrote-long}
use Rattle.page_window.specs.Window.{SizesAre}
use Rattle.page_window.specs.Frames.{frame_of, place_of, left_of, form_in, next_part, piece_room, parts_in, FrameAsks, OpenAsks, OpenIs, Opened}

-- A frame that was made, taken apart again.
module _ (x l f : ℕ) (hl : l ≤ 64) (hf : f < 17) where
  frame-place : place_of (frame_of x l f) ≡ x
  unfolding place_of frame_of
  frame-place = omega arith

  frame-left : left_of (frame_of x l f) ≡ l
  unfolding left_of frame_of
  frame-left = omega arith

  frame-form : form_in (frame_of x l f) ≡ f
  unfolding form_in frame_of
  frame-form = omega arith

-- A frame whose first part is done.
module _ (v : ℕ) (some : left_of v ≡ 0 → ⊥) where
  next_place : place_of (v + next_part) ≡ place_of v + 2
  unfolding place_of left_of
  next_place = let h = after (left_of v) 0 some (omega arith) in omega arith

  next-left : left_of (v + next_part) ≡ left_of v - 1
  unfolding left_of
  next-left = let h = after (left_of v) 0 some (omega arith) in omega arith

  pub next-form : form_in (v + next_part) ≡ form_in v
  unfolding form_in
  next-form = omega arith

  pub next-texts : (b p : List ℕ) → texts (parts_in b p v) ≡ ascii " " ++ (text (tree_at b p (u16_at b (place_of v))) ++ texts (parts_in b p (v + next_part)))
  next-texts b p = rw (next_place, next-left) (texts-more b p (place_of v) (left_of v) some)

  pub next-sizes : (b p : List ℕ) → sizes (parts_in b p v) ≡ size (tree_at b p (u16_at b (place_of v))) + sizes (parts_in b p (v + next_part))
  next-sizes b p = rw (next_place, next-left) (trees-size b p (place_of v) (left_of v) some)

  pub next-asks : {b p z : List ℕ} → FrameAsks b p z v → FrameAsks b p z (v + next_part)
  next-asks {b} {p} {z} a =
      let h = after (left_of v) 0 some (omega arith) in
      record {
        asks = rw (next_place, next-left) (rest-ask a.asks some);
        known = λ j l.
            let e : place_of v + 2 * (j + 1) ≡ place_of (v + next_part) + 2 * j = omega (arith, next_place) in
            subst (λ (i : ℕ). SizesAre b p (suc (u16_at b i)) z) e (a.known (j + 1) (omega (arith, next-left)));
        form = subst (λ (i : ℕ). i < 17) (sym next-form) a.form;
      }

-- What the text of a sort has before its parts is short.
inner-other : (b : List ℕ) (f : ℕ) (r : SortRecord) → InnerAsks b f r → (get_or inners f 0 ≡ 3 → ⊥)
    → length (inner_text_of b f r) ≤ get_or inner_mosts (get_or inners f 0) 0
unfolding inner_text
inner-other b f r a h =
    inner-by (get_or inners f 0) r.name r.number (numbers_at b r.names.at r.names.count) a.name a.number h

inner-short : (b : List ℕ) (f : ℕ) (r : SortRecord) → Bytes b → InnerAsks b f r → get_or frames f 0 + length (inner_text_of b f r) + 1 ≤ piece_room
inner-short b f r bytes a = go (eqb (get_or inners f 0) 3) refl
  where
    names : List ℕ
    names = numbers_at b r.names.at r.names.count

    go : (t : Bool) → eqb (get_or inners f 0) 3 ≡ t → get_or frames f 0 + length (inner_text_of b f r) + 1 ≤ piece_room
    go true e =
        let q = eqb-true (get_or inners f 0) 3 e in
        let n = length-numbers_at b r.names.at r.names.count in
        let most = own-names names (numbers-small b bytes r.names.at r.names.count) (omega (arith, n, a.some q)) in
        own-short f (length (inner_text_of b f r)) a.form
        (omega (arith, n, most, a.few, ap length (inner-names f r.name r.number names q), length-append (names_text names) (ascii ")")))
        (λ h. absurd (h q))
    go false e = omega (arith, frame-most f a.form, inner-other b f r a (eqb-false (get_or inners f 0) 3 e))

pieces_are : (f a w : ℕ) (ns ts : List ℕ) → pieces_text f a w ns ts ≡ word_text f ++ (inner_text f a w ns ++ (ts ++ close_text f))
unfolding pieces_text
pieces_are f a w ns ts = refl

-- A SORT THAT WAS OPENED: its entry was read, its word and what stands behind it were written, its frame was made.
module _ {b p : List ℕ} {k : ℕ} (a : TextAsks b p k) {r : SortRecord} (e : EntryIs b p (suc k) k r) {form : ℕ}
    (is : form ≡ form_of (sort_number r.kind) r.parts.count) (bytes : Bytes b) where
  head-short : length (word_text form) + length (inner_text_of b form r) ≤ 455
  head-short =
      omega (arith, inner-short b form r bytes (inner-asks a e is), frame_is form (entry-form a e is))

  pub word_fits : (o : List ℕ) (to : ℕ) → OpenAsks b p k o to → to + length (word_text form) ≤ length o
  word_fits o to h = omega (arith, h.room, head-short)

  pub inner-fits : {o : List ℕ} {to : ℕ} {o₁ : List ℕ} {d : ℕ} → OpenAsks b p k o to → Wrote o to (word_text form) o₁ d
      → d + length (inner_text_of b form r) ≤ length o₁
  inner-fits h w = omega (arith, h.room, head-short, w.next, wrote-long w)

  pub frame-asks : length b ≤ 65536 → (r.parts.at ≤ 65536) × (r.parts.count ≤ 64) × (form < 17)
  frame-asks short = (omega (arith, e.place.list), e.few, entry-form a e is)

  pub open_is : {o : List ℕ} {to : ℕ} {o₁ : List ℕ} {d : ℕ} {o₂ : List ℕ} (v : Opened) → Wrote o to (word_text form) o₁ d
      → Wrote o₁ d (inner_text_of b form r) o₂ v.end → v.frame ≡ frame_of r.parts.at r.parts.count form → OpenIs b p k o to o₂ v
  open_is v w x q =
      let place : place_of v.frame ≡ r.parts.at = ap place_of q ∙ frame-place r.parts.at r.parts.count form e.few (entry-form a e is) in
      let left : left_of v.frame ≡ r.parts.count = ap left_of q ∙ frame-left r.parts.at r.parts.count form e.few (entry-form a e is) in
      let bracket : form_in v.frame ≡ form = ap form_in q ∙ frame-form r.parts.at r.parts.count form e.few (entry-form a e is) in
      record {
        head = word_text form ++ inner_text_of b form r;
        wrote = wrote-more w x;
        most = omega (arith, head-short, length-append (word_text form) (inner_text_of b form r));
        is =
            rw (place, left, bracket, append_assoc)
            (entry-text a e is ∙ pieces_are form r.name r.number (numbers_at b r.names.at r.names.count) (texts (trees_at b p (numbers_at b r.parts.at r.parts.count))));
        weighs = rw (place, left) (entry-text-size a e is);
        list = rw (place, left) (list-asks a e is);
        below = λ j l.
            let m : j < r.parts.count = omega (arith, left) in
            let at : r.parts.at + 2 * j ≡ place_of v.frame + 2 * j = omega (arith, place) in
            subst (λ (i : ℕ). u16_at b i < k) at (e.below j m);
        form = subst (λ (i : ℕ). i < 17) (sym bracket) (entry-form a e is);
      }

-- The text sizes of fewer sorts.
pub sizes-first : {b p : List ℕ} {n : ℕ} {z : List ℕ} (m : ℕ) → m ≤ n → SizesAre b p n z → SizesAre b p m z
sizes-first m h t = record { room = omega (arith, t.room); each = λ k l. t.each k (omega arith) }

-- The frame of a sort that was opened is as the walk asks.
pub open-frame : {b p : List ℕ} {k : ℕ} {o : List ℕ} {to : ℕ} {o' : List ℕ} {v : Opened} {z : List ℕ} → OpenIs b p k o to o' v → SizesAre b p (suc k) z
    → FrameAsks b p z v.frame
open-frame {b} {p} {k} {v = v} i t =
    record {
      asks = i.list;
      known = λ j l. sizes-first (suc (u16_at b (place_of v.frame + 2 * j))) (omega (arith, i.below j l)) t;
      form = i.form;
    }
