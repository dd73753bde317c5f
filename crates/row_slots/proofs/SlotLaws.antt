-- The slots of the table: what is recalled there is said, an opened slot says nothing, and a note leaves the other slots as they were.
use Prim.Native.Nat.{ℕ, ◌+◌, ◌*◌, ◌-◌, ◌/◌, ◌%◌, ◌≤◌, ◌<◌}
use mathlib.Core.Path.{◌≡◌, sym, ap, ap₂, subst, ◌∙◌}
use mathlib.Core.Bool.{Bool, true, false}
use mathlib.Core.List.{List, [], ◌∷◌}
use mathlib.Core.Logic.{inl, inr}
use native.Mathlib.Omega.{arith}
use lib.ListN.{length, get_or, set, take, drop, length-set, length-drop}
use lib.Seq.{get_or-take, get_or-drop, get_or-set_same, get_or-set_other, length-take-le}
use lib.Dec.{eqb, ltb}
use borrow.Author.Tests.{eqb-true, eqb-false, ltb-true, ltb-false}
use Rattle.std.specs.List.{starts_with}
use Rattle.std.specs.Cmp.Lexicographic.{same_text}
use Rattle.std.proofs.lemmas.List.{take_rest}
use Rattle.record.specs.Number.{u16_at, numbers_at}
use Rattle.record.specs.Decode.{written}
use Rattle.record.specs.Append.{written-before, written_in, written_after, length-written}
use Rattle.record.specs.Cases.{by_test}
use Rattle.std.specs.Prelude.{Option, None, Some, MatchOption}
use Rattle.std.proofs.lemmas.Bool.{false≢true}
use Rattle.row_answer.proofs.ListLaws.{numbers-same}
use Rattle.row_slots.specs.Slots.{code_end, slot_size, column_of, slot_number, code_at, PastSays, PastSlotAt, PastSlotAsks, RecalledIs, OpenedIs, SlotNoteAsks, SlotNotedIs}

-- Numbers whose bytes agree.
u16-same : (l m : List ℕ) (x y : ℕ) → get_or l x 0 ≡ get_or m y 0 → get_or l (x + 1) 0 ≡ get_or m (y + 1) 0 → u16_at l x ≡ u16_at m y
unfolding u16_at
u16-same l m x y e f = ap₂ (λ (i j : ℕ). i + j * 256) e f

-- The bytes of a part of a list.
part_at : (l : List ℕ) (x k i : ℕ) → i < k → get_or (take k (drop x l)) i 0 ≡ get_or l (x + i) 0
part_at l x k i o = get_or-take k (drop x l) i 0 o ∙ get_or-drop x l i 0

part-long : (l : List ℕ) (x k : ℕ) → x + k ≤ length l → length (take k (drop x l)) ≡ k
part-long l x k o = length-take-le k (drop x l) (omega (arith, length-drop x l))

-- WHAT IS RECALLED: a slot with as many terms and their numbers.
pub recalled-is : {ws a : List ℕ} {n at v : ℕ} → PastSlotAsks ws at a n → get_or ws at 0 ≡ n → take (2 * n) (drop (at + 4) ws) ≡ take (2 * n) (drop 3 a) → v ≡ code_at ws at → v < code_end
    → RecalledIs ws at a n (Some v)
recalled-is {ws} {a} {n} {at} {v} h en key ev small =
    let same : (y : ℕ) → y < 2 * n → get_or a (3 + y) 0 ≡ get_or ws (at + 4 + y) 0 =
    λ y o. sym (part_at a 3 (2 * n) y o) ∙ ap (λ (l : List ℕ). get_or l y 0) (sym key) ∙ part_at ws (at + 4) (2 * n) y o in (
      small,
      λ slot ei.
          let count : get_or ws (slot * slot_size) 0 ≡ n = subst (λ (x : ℕ). get_or ws x 0 ≡ n) ei en in
          record {
            full = λ z. absurd (omega (arith, count, z, h.key.some));
            few = omega (arith, count, h.key.few);
            terms = numbers-same a 3 ws (at + 4) n same ∙ ap₂ (λ (x m : ℕ). numbers_at ws (x + 4) m) ei (sym count);
            code = ev ∙ ap (code_at ws) ei;
          },
    )

-- The bytes behind the slot's head begin with those of the key.
pub begins : {ws a : List ℕ} {n at : ℕ} → PastSlotAsks ws at a n → {key : List ℕ} {t : Bool} → key ≡ take (2 * n) (drop 3 a) → t ≡ true
    → t ≡ starts_with eqb (take (length ws - (at + 4)) (drop (at + 4) ws)) key → take (2 * n) (drop (at + 4) ws) ≡ take (2 * n) (drop 3 a)
begins {ws} {a} {n} {at} h {key} ek et e =
    let long : length key ≡ 2 * n = ap length ek ∙ part-long a 3 (2 * n) (omega (arith, h.key.within)) in
    let same : key ≡ take (length key) (take (length ws - (at + 4)) (drop (at + 4) ws)) = same_text _ _ (sym et ∙ e) in
    sym (sym ek ∙ same ∙ ap (take (length key)) (take_rest ws (at + 4)) ∙ ap (λ (k : ℕ). take k (drop (at + 4) ws)) long)

pub recalled-said : (ws a : List ℕ) (at n : ℕ) {c : ℕ} (q : Option ℕ) → RecalledIs ws at a n q → q ≡ Some c → (slot : ℕ) → at ≡ slot * slot_size → PastSays ws slot (numbers_at a 3 n) c
recalled-said ws a at n q i e = (subst (RecalledIs ws at a n) e i).1

-- What is recalled where it has met a test that only k meets.
pub recalled_as : {P : ℕ → Type 0} (q : Option ℕ) (t : Bool) (k : ℕ) → MatchOption q (t ≡ false) P → t ≡ true → ((c : ℕ) → P c → c ≡ k) → q ≡ Some k
recalled_as None t k h e f = absurd (false≢true (sym h ∙ e))
recalled_as (Some c) t k h e f = ap Some (f c h)

-- The slots of a column.
pub slot-column : (column : ℕ) (a : List ℕ) (n : ℕ) → column_of (slot_number column a n) ≡ column
slot-column column a n = omega arith

-- A slot says what it said, where its bytes are as they were.
says-kept : (ws ws' : List ℕ) (slot : ℕ) (key : List ℕ) (c : ℕ) → PastSays ws' slot key c → ((y : ℕ) → y < slot_size → get_or ws' (slot * slot_size + y) 0 ≡ get_or ws (slot * slot_size + y) 0)
    → PastSays ws slot key c
says-kept ws ws' slot key c s h =
    let at = slot * slot_size in
    let byte : (x y : ℕ) → y < slot_size → x ≡ at + y → get_or ws' x 0 ≡ get_or ws x 0 =
    λ x y o e. subst (λ (z : ℕ). get_or ws' z 0 ≡ get_or ws z 0) (sym e) (h y o) in
    let en : get_or ws' at 0 ≡ get_or ws at 0 = byte at 0 (omega arith) (omega arith) in
    record {
      full = λ z. s.full (en ∙ z);
      few = omega (arith, en, s.few);
      terms =
          s.terms
          ∙ numbers-same ws' (at + 4) ws (at + 4) (get_or ws' at 0) (λ i o. byte (at + 4 + i) (4 + i) (omega (arith, s.few)) (omega arith))
          ∙ ap (numbers_at ws (at + 4)) en;
      code =
          s.code
          ∙ ap₂ (λ (x y : ℕ). x * 65536 + y) (byte (at + 3) 3 (omega arith) (omega arith))
          (u16-same ws' ws (at + 1) (at + 1) (byte (at + 1) 1 (omega arith) (omega arith)) (byte (at + 1 + 1) 2 (omega arith) (omega arith)));
    }

-- THE OTHER SLOTS say what they said, where the bytes before and behind one slot are as they were.
module _ {ws : List ℕ} (ws' : List ℕ) {at : ℕ} (h : PastSlotAt ws at) (early : (y : ℕ) → y < at → get_or ws' y 0 ≡ get_or ws y 0) (late : (y : ℕ) → at + slot_size ≤ y → get_or ws' y 0 ≡ get_or ws y 0) where
  other-said : (slot : ℕ) (key : List ℕ) (c : ℕ) → PastSays ws' slot key c → (slot ≡ h.slot → ⊥) → PastSays ws slot key c
  other-said slot key c s ne =
      says-kept ws ws' slot key c s (λ y o.
      by_test (ltb slot h.slot) (λ q. early (slot * slot_size + y) (omega (arith, h.place, ltb-true slot h.slot q)))
      (λ q. late (slot * slot_size + y) (omega (arith, h.place, ltb-false slot h.slot q, ne))))

---------------------------------------------------------------- a slot opened
module _ {ws : List ℕ} {at : ℕ} {a : List ℕ} {n : ℕ} (h : PastSlotAsks ws at a n) where
  abbrev terms : List ℕ
  terms = take (2 * n) (drop 3 a)

  abbrev emptied : List ℕ
  emptied = set ws at 0

  abbrev filled : List ℕ
  filled = written emptied (at + 4) terms

  terms-long : length terms ≡ 2 * n
  terms-long = part-long a 3 (2 * n) (omega (arith, h.key.within))

  emptied-long : length emptied ≡ length ws
  emptied-long = length-set ws at 0

  terms-fit : at + 4 + length terms ≤ length emptied
  terms-fit = omega (arith, terms-long, emptied-long, h.here.room, h.key.few)

  filled-long : length filled ≡ length ws
  filled-long = length-written emptied (at + 4) terms terms-fit ∙ emptied-long

  filled-empty : get_or filled at 0 ≡ 0
  filled-empty =
      sym (written-before emptied (at + 4) terms at (omega (arith, emptied-long, h.here.room)) (omega arith))
      ∙ get_or-set_same ws at 0 0 (omega (arith, h.here.room))

  filled-terms : (y : ℕ) → y < 2 * n → get_or filled (at + 4 + y) 0 ≡ get_or a (3 + y) 0
  filled-terms y o =
      sym (written_in emptied (at + 4) terms y (omega (arith, emptied-long, h.here.room)) (omega (arith, terms-long))) ∙ part_at a 3 (2 * n) y o

  filled-early : (y : ℕ) → y < at → get_or filled y 0 ≡ get_or ws y 0
  filled-early y o =
      sym (written-before emptied (at + 4) terms y (omega (arith, emptied-long, h.here.room)) (omega arith))
      ∙ get_or-set_other ws at y 0 0 (λ e. absurd (omega (arith, e)))

  filled-late : (y : ℕ) → at + slot_size ≤ y → get_or filled y 0 ≡ get_or ws y 0
  filled-late y o =
      sym (written_after emptied (at + 4) terms y terms-fit (omega (arith, terms-long, h.key.few)))
      ∙ get_or-set_other ws at y 0 0 (λ e. absurd (omega (arith, e)))

  filled_is : OpenedIs ws at a n filled
  filled_is =
      record {
        ready =
            record {
              here = record { slot = h.here.slot; place = h.here.place; room = omega (arith, filled-long, h.here.room) };
              some = h.key.some;
              few = h.key.few;
              terms = numbers-same filled (at + 4) a 3 n filled-terms;
            };
        less = λ slot key c s.
            by_test (eqb slot h.here.slot)
            (λ q.
            let e : slot * slot_size ≡ at = omega (arith, h.here.place, eqb-true slot h.here.slot q) in
            absurd (s.full (ap (λ (x : ℕ). get_or filled x 0) e ∙ filled-empty)))
            (λ q. other-said filled h.here filled-early filled-late slot key c s (eqb-false slot h.here.slot q));
      }

  -- The same over what the calls leave: the bytes to copy, and the table with them.
  pub open_is : {t y : List ℕ} → t ≡ terms → y ≡ written (set ws at 0) (at + 4) t → OpenedIs ws at a n y
  open_is e ey = subst (OpenedIs ws at a n) (sym (ey ∙ ap (written emptied (at + 4)) e)) filled_is

---------------------------------------------------------------- a code noted
-- The count and the first three bytes of the code are written at the place.
module _ {ws : List ℕ} {at n c : ℕ} (h : SlotNoteAsks ws at n c) (bytes : List ℕ) (e : bytes ≡ c % 256 ∷ c / 256 % 256 ∷ c / 65536 % 256 ∷ c / 16777216 % 256 ∷ []) where
  abbrev head : List ℕ
  head = n ∷ get_or bytes 0 0 ∷ get_or bytes 1 0 ∷ get_or bytes 2 0 ∷ []

  abbrev coded : List ℕ
  coded = written ws at head

  coded-early : (y : ℕ) → y < at → get_or coded y 0 ≡ get_or ws y 0
  coded-early y o = sym (written-before ws at head y (omega (arith, h.here.room)) o)

  coded-far : (y : ℕ) → at + 4 ≤ y → get_or coded y 0 ≡ get_or ws y 0
  coded-far y o = sym (written_after ws at head y (omega (arith, h.here.room)) o)

  coded_at : (i y : ℕ) → i < 4 → y ≡ at + i → get_or coded y 0 ≡ get_or head i 0
  coded_at i y o d = ap (λ (x : ℕ). get_or coded x 0) d ∙ sym (written_in ws at head i (omega (arith, h.here.room)) o)

  coded-count : get_or coded at 0 ≡ n
  coded-count = coded_at 0 at (omega arith) (omega arith)

  coded-is : code_at coded at ≡ c
  unfolding u16_at
  coded-is =
      let byte = λ (i : ℕ). ap (λ (l : List ℕ). get_or l i 0) e in
      omega (
        arith,
        coded_at 1 (at + 1) (omega arith) (omega arith),
        coded_at 2 (at + 1 + 1) (omega arith) (omega arith),
        coded_at 3 (at + 3) (omega arith) (omega arith),
        byte 0,
        byte 1,
        byte 2,
        h.small,
      )

  noted-is : SlotNotedIs ws at n c coded
  noted-is slot key d s =
      by_test (eqb slot h.here.slot)
      (λ q.
      let z : slot * slot_size ≡ at = omega (arith, h.here.place, eqb-true slot h.here.slot q) in
      inr (
        z,
        s.terms ∙ ap (λ (x : ℕ). numbers_at coded (x + 4) (get_or coded x 0)) z ∙ ap (numbers_at coded (at + 4)) coded-count
            ∙ numbers-same coded (at + 4) ws (at + 4) n (λ y o. coded-far (at + 4 + y) (omega arith)),
        s.code ∙ ap (code_at coded) z ∙ coded-is,
      ))
      (λ q. inl (other-said coded h.here coded-early (λ y o. coded-far y (omega arith)) slot key d s (eqb-false slot h.here.slot q)))

  pub note-is : {y : List ℕ} → y ≡ coded → SlotNotedIs ws at n c y
  note-is d = subst (SlotNotedIs ws at n c) (sym d) noted-is
