-- A walk by its steps: each leaves the text that is left as it is, and less of the walk.
use Prim.Native.Nat.{ℕ, zero, suc, ◌+◌, ◌*◌, ◌-◌, ◌≤◌, ◌<◌}
use Rattle.std.specs.Prelude.{◌≡◌, length, get_or, take, drop, set}
use Rattle.std.proofs.Math.Path.{refl, ap, ap₂}
use Rattle.std.proofs.Common.{sym, subst, subst₂, ◌∙◌, inl, inr, ⊎_elim, arith, eq-or-lt_of_le, add-one, length-append, length-set, take_at, drop_at, drop-drop, get_or-set_same, get_or-set_other, length-take-le}
use mathlib.Core.List.{List, ◌++◌, append_assoc}
use Rattle.std.proofs.Math.Seq.{drop-append-add}
use Rattle.record.specs.Number.{u16_at}
use Rattle.record.specs.Sort.{size, sizes}
use Rattle.record.specs.Decode.{written}
use Rattle.store.specs.Walk.{size-pos}
use Rattle.printout_sort.specs.Text.{ascii, text, texts}
use Rattle.printout_sort.specs.Pieces.{bracket, closes, close_text}
use Rattle.printout_sort.specs.PieceLaws.{after}
use Rattle.printout_sort.specs.Trees.{tree_at, TextAsks}
use Rattle.printout_sort.specs.TreeLaws.{texts-none, first-asks}
use Rattle.printout_sort.specs.Wrote.{Wrote, wrote-more, wrote-long}
use Rattle.page_window.specs.Window.{SizesAre}
use Rattle.page_window.specs.Frames.{place_of, left_of, form_in, next_part, piece_room, parts_in, FrameAsks, OpenIs, Opened}
use Rattle.page_window.specs.FrameLaws.{next-form, next-texts, next-sizes, next-asks, open-frame}
use Rattle.page_window.specs.Walk.{rest, weight, Valid, Near, Settled, EnterAsks, EnterIs, StepAsks, StepIs}
use Rattle.page_window.specs.declared.walk.Walk.{Walk}

-- A frame that is set above the first d changes nothing of them.
module _ (b p st : List ℕ) (i v : ℕ) where
  set_other : (d : ℕ) → suc d ≤ i → get_or (set st i v) d 0 ≡ get_or st d 0
  set_other d h = get_or-set_other st i d v 0 (λ e. omega arith)

  rest-set : (d : ℕ) → d ≤ i → rest b p (set st i v) d ≡ rest b p st d
  unfolding rest
  rest-set zero h = refl
  rest-set (suc d) h =
      ap₂ (λ (x : ℕ) (y : List ℕ). texts (parts_in b p x) ++ (close_text (form_in x) ++ y)) (set_other d h) (rest-set d (omega arith))

  weight-set : (d : ℕ) → d ≤ i → weight b p (set st i v) d ≡ weight b p st d
  unfolding weight
  weight-set zero h = refl
  weight-set (suc d) h =
      ap₂ (λ (x : ℕ) (y : ℕ). 1 + sizes (parts_in b p x) + y) (set_other d h) (weight-set d (omega arith))

-- One that is set on top of them.
module _ (b p st : List ℕ) (d v : ℕ) (room : d < length st) where
  pub rest-top : rest b p (set st d v) (suc d) ≡ texts (parts_in b p v) ++ (close_text (form_in v) ++ rest b p st d)
  unfolding rest
  rest-top =
      ap₂ (λ (x : ℕ) (y : List ℕ). texts (parts_in b p x) ++ (close_text (form_in x) ++ y)) (get_or-set_same st d v 0 room) (rest-set b p st d v d (omega arith))

  pub weight-top : weight b p (set st d v) (suc d) ≡ 1 + sizes (parts_in b p v) + weight b p st d
  unfolding weight
  weight-top =
      ap₂ (λ (x : ℕ) (y : ℕ). 1 + sizes (parts_in b p x) + y) (get_or-set_same st d v 0 room) (weight-set b p st d v d (omega arith))

  pub valid-top : {z : List ℕ} → Valid b p z st d → FrameAsks b p z v → Valid b p z (set st d v) (suc d)
  valid-top {z} h a i l =
      ⊎_elim
      (λ (e : i ≡ d). subst (FrameAsks b p z) (sym (ap (λ (j : ℕ). get_or (set st d v) j 0) e ∙ get_or-set_same st d v 0 room)) a)
      (λ (m : i < d). subst (FrameAsks b p z) (sym (set_other b p st d v i (omega arith))) (h i m))
      (eq-or-lt_of_le {n = i} {m = d} (omega arith))

-- There are no more frames than nodes.
pub weight-deep : (b p st : List ℕ) (d : ℕ) → d ≤ weight b p st d
unfolding weight
weight-deep b p st zero = omega arith
weight-deep b p st (suc d) = omega (arith, weight-deep b p st d)

-- What was written stands behind what was there.
pub wrote-take : {o : List ℕ} {to : ℕ} {x o' : List ℕ} {e : ℕ} → Wrote o to x o' e → take e o' ≡ take to o ++ x
unfolding written
wrote-take {o} {to} {x} {o'} {e} w =
    ap (take e) w.is
    ∙ take_at (take to o ++ x) (drop (to + length x) o) e
    (omega (arith, w.next, w.fits, length-append (take to o) x, length-take-le to o (omega (arith, w.fits))))

pub wrote-within : {o : List ℕ} {to : ℕ} {x o' : List ℕ} {e : ℕ} → Wrote o to x o' e → e ≤ length o'
wrote-within w = omega (arith, w.next, w.fits, wrote-long w)

-- A WALK THAT SETTLED has the same left, and is near.
module _ {d lead end : ℕ} {r : Walk} (s : Settled d lead end r) where
  pub settled_same : (o t : List ℕ) → end ≤ length o → drop lead (take end o ++ t) ≡ drop r.lead (take r.end o ++ t)
  settled_same o t h =
      ⊎_elim
      (λ (u : (end ≤ lead) × (r.lead ≡ lead - end) × (r.end ≡ 0)).
      let e : end + (lead - end) ≡ lead = omega (arith, u.0) in
      ap (λ (n : ℕ). drop n (take end o ++ t)) (sym e) ∙ sym (drop-drop (lead - end) end (take end o ++ t))
      ∙ ap (drop (lead - end)) (drop_at (take end o) t end (length-take-le end o h))
      ∙ ap₂ (λ (n m : ℕ). drop n (take m o ++ t)) (sym u.1) (sym u.2))
      (λ (u : (lead < end) × (r.lead ≡ lead) × (r.end ≡ end)).
      ap₂ (λ (n m : ℕ). drop n (take m o ++ t)) (sym u.1) (sym u.2))
      s.1

  pub settled-near : (lead < end → lead ≤ piece_room) → Near r
  settled-near h =
      ⊎_elim
      (λ (u : (end ≤ lead) × (r.lead ≡ lead - end) × (r.end ≡ 0)). inl u.2)
      (λ (u : (lead < end) × (r.lead ≡ lead) × (r.end ≡ end)). inr (omega (arith, u), omega (arith, h u.0, u)))
      s.1

  pub settled-fits : {n : ℕ} → end ≤ n → r.end ≤ n
  settled-fits h =
      ⊎_elim
      (λ (u : (end ≤ lead) × (r.lead ≡ lead - end) × (r.end ≡ 0)). omega (arith, u))
      (λ (u : (lead < end) × (r.lead ≡ lead) × (r.end ≡ end)). omega (arith, u))
      s.1

-- A piece behind what was near keeps it near.
near-more : (w : Walk) (n : ℕ) → Near w → n ≤ w.end + piece_room → w.lead < n → w.lead ≤ piece_room
near-more w n h m l = ⊎_elim (λ (e : w.end ≡ 0). omega arith) (λ (u : (w.lead < w.end) × (w.lead ≤ piece_room)). u.1) h

-- A bracket is a byte, or none.
close-short : (f : ℕ) → length (close_text f) ≤ 1
unfolding close_text
close-short f = go (get_or closes f 0)
  where
    go : (c : ℕ) → length (bracket c) ≤ 1
    go zero = omega arith
    go (suc c) = omega arith

-- THE SORT k WAS ENTERED: a blank and its head were written, its frame was put on the stack.
pub enter-is : {b p : List ℕ} {k : ℕ} {st o : List ℕ} {w : Walk} {o₁ : List ℕ} {e : ℕ} {o₂ : List ℕ} {v : Opened} {r : Walk} → EnterAsks b p k st o w
    → Wrote o w.end (ascii " ") o₁ e → OpenIs b p k o₁ e o₂ v → Settled (w.depth + 1) w.lead v.end r
    → EnterIs b p k st o w (set st w.depth v.frame) o₂ r
enter-is {b} {p} {k} {st} {o} {w} {o₁} {e} {o₂} {v} {r} a x i s =
    let d = w.depth in
    let f = v.frame in
    let whole : Wrote o w.end (ascii " " ++ i.head) o₂ v.end = wrote-more x i.wrote in
    let long : length (ascii " " ++ i.head) ≡ 1 + length i.head = length-append (ascii " ") i.head in
    let deep : r.depth ≡ suc d = s.0 ∙ add-one d in
    let below = rest b p st d in
    let above = texts (parts_in b p f) ++ (close_text (form_in f) ++ below) in
    let top : rest b p (set st d f) r.depth ≡ above = ap (rest b p (set st d f)) deep ∙ rest-top b p st d f a.deep in
    let split : ascii " " ++ (text (tree_at b p k) ++ below) ≡ (ascii " " ++ i.head) ++ above =
    ap (λ (t : List ℕ). ascii " " ++ (t ++ below)) i.is ∙ regroup (ascii " ") i.head (texts (parts_in b p f)) (close_text (form_in f)) below in
    record {
      frame = f;
      stack = refl;
      depth = deep;
      valid = λ z t. open-frame i t;
      weighs = ap (weight b p (set st d f)) deep ∙ weight-top b p st d f a.deep ∙ ap (λ (n : ℕ). n + weight b p st d) (sym i.weighs);
      same =
          ap (λ (t : List ℕ). drop w.lead (take w.end o ++ t)) split
          ∙ ap (drop w.lead) (sym (append_assoc (take w.end o) (ascii " " ++ i.head) above))
          ∙ ap (λ (t : List ℕ). drop w.lead (t ++ above)) (sym (wrote-take whole))
          ∙ settled_same s o₂ above (wrote-within whole)
          ∙ ap (λ (t : List ℕ). drop r.lead (take r.end o₂ ++ t)) (sym top);
      fits = settled-fits s (wrote-within whole);
      near = settled-near s (near-more w v.end a.near (omega (arith, whole.next, long, i.most)));
    }
  where
    regroup : (x h t c y : List ℕ) → x ++ ((h ++ (t ++ c)) ++ y) ≡ (x ++ h) ++ (t ++ (c ++ y))
    regroup x h t c y = simp append_assoc

-- ONE STEP from a walk whose top frame v is the frame `top`.
module _ {b p z st o : List ℕ} {w : Walk} (a : StepAsks b p z st o w) where
  abbrev top : ℕ
  top = w.depth - 1

  is : w.depth ≡ suc top
  is = omega (arith, a.some)

  abbrev v : ℕ
  v = get_or st top 0

  pub top-deep : top < length st
  top-deep = omega (arith, is, weight-deep b p st w.depth, a.light, a.deep)

  pub top-asks : FrameAsks b p z v
  top-asks = a.valid top (omega (arith, is))

  below-valid : Valid b p z st top
  below-valid i l = a.valid i (omega (arith, is))

  now-rest : rest b p st w.depth ≡ texts (parts_in b p v) ++ (close_text (form_in v) ++ rest b p st top)
  unfolding rest
  now-rest = ap (rest b p st) is

  now-weight : weight b p st w.depth ≡ 1 + sizes (parts_in b p v) + weight b p st top
  unfolding weight
  now-weight = ap (weight b p st) is

  -- where it has no parts left: its bracket
  pub close-fits : w.end + length (close_text (form_in v)) ≤ length o
  close-fits = omega (arith, a.room, close-short (form_in v))

  pub close-is : {o' : List ℕ} {e : ℕ} {r : Walk} → left_of v ≡ 0 → Wrote o w.end (close_text (form_in v)) o' e → Settled top w.lead e r
      → StepIs b p z st o w st o' r
  close-is {o'} {e} {r} none x s =
      let below = rest b p st top in
      let left : rest b p st w.depth ≡ close_text (form_in v) ++ below =
      now-rest ∙ ap (λ (t : List ℕ). t ++ (close_text (form_in v) ++ below)) (texts-none b p (place_of v) (left_of v) none) in
      record {
        valid = λ i l. below-valid i (omega (arith, s.0));
        light = rw s.0 (omega (arith, now-weight));
        less = rw s.0 (omega (arith, now-weight));
        same =
            ap (λ (t : List ℕ). drop w.lead (take w.end o ++ t)) left
            ∙ ap (drop w.lead) (sym (append_assoc (take w.end o) (close_text (form_in v)) below))
            ∙ ap (λ (t : List ℕ). drop w.lead (t ++ below)) (sym (wrote-take x))
            ∙ settled_same s o' below (wrote-within x)
            ∙ ap (λ (d : ℕ). drop r.lead (take r.end o' ++ rest b p st d)) (sym s.0);
        fits = settled-fits s (wrote-within x);
        near = settled-near s (near-more w e a.near (omega (arith, x.next, close-short (form_in v))));
      }

  -- else some parts are left, from the place q on
  module _ {l q : ℕ} (left : l ≡ left_of v) (any : l ≡ 0 → ⊥) (place : q ≡ place_of v) where
    some : left_of v ≡ 0 → ⊥
    some e = any (left ∙ e)

    pub part-within : q + 2 ≤ length b
    part-within =
        let h = after (left_of v) 0 some (omega arith) in
        omega (arith, top-asks.asks.within, place)

    pub next_fits : v + next_part < 4294967296
    unfolding place_of
    next_fits = omega (arith, part-within, place, a.short)

  -- of which the next is k
  module _ {l q k : ℕ} (left : l ≡ left_of v) (any : l ≡ 0 → ⊥) (place : q ≡ place_of v) (number : k ≡ u16_at b q) where
    abbrev on : List ℕ
    on = set st top (v + next_part)

    here : left_of v ≡ 0 → ⊥
    here = some left any place

    part : k ≡ u16_at b (place_of v)
    part = number ∙ ap (u16_at b) place

    pub part-asks : TextAsks b p k
    part-asks = rw part (first-asks top-asks.asks here)

    pub part-known : SizesAre b p (suc k) z
    part-known =
        let e : place_of v + 2 * 0 ≡ place_of v = omega arith in
        let h = after (left_of v) 0 here (omega arith) in
        rw part (subst (λ (i : ℕ). SizesAre b p (suc (u16_at b i)) z) e (top-asks.known 0 h))

    on-valid : Valid b p z on w.depth
    on-valid =
        subst (Valid b p z on) (sym is) (valid-top b p st top (v + next_part) top-deep below-valid (next-asks v here top-asks))

    on-rest : rest b p st w.depth ≡ ascii " " ++ (text (tree_at b p k) ++ rest b p on w.depth)
    on-rest =
        let below = rest b p st top in
        let cl = close_text (form_in v) in
        let more = texts (parts_in b p (v + next_part)) in
        let e : rest b p on w.depth ≡ more ++ (cl ++ below) =
        ap (rest b p on) is ∙ rest-top b p st top (v + next_part) top-deep ∙ ap (λ (f : ℕ). more ++ (close_text f ++ below)) (next-form v here) in
        now-rest ∙ ap (λ (t : List ℕ). t ++ (cl ++ below)) (next-texts v here b p)
        ∙ regroup (ascii " ") (text (tree_at b p (u16_at b (place_of v)))) more (cl ++ below)
        ∙ ap₂ (λ (i : ℕ) (t : List ℕ). ascii " " ++ (text (tree_at b p i) ++ t)) (sym part) (sym e)
      where
        regroup : (x h t y : List ℕ) → (x ++ (h ++ t)) ++ y ≡ x ++ (h ++ (t ++ y))
        regroup x h t y = simp append_assoc

    on-weight : weight b p st w.depth ≡ size (tree_at b p k) + weight b p on w.depth
    on-weight =
        let e : weight b p on w.depth ≡ 1 + sizes (parts_in b p (v + next_part)) + weight b p st top =
        ap (weight b p on) is ∙ weight-top b p st top (v + next_part) top-deep in
        omega (arith, e, now-weight, next-sizes v here b p, ap (λ (i : ℕ). size (tree_at b p i)) part)

    -- passed over
    pub skip_is : (n : ℕ) → n ≡ length (text (tree_at b p k)) → w.end ≡ 0 → n < w.lead
        → StepIs b p z st o w on o (record { depth = w.depth; lead = w.lead - 1 - n; end = 0 })
    skip_is n long none l =
        let whole = ascii " " ++ text (tree_at b p k) in
        let after = rest b p on w.depth in
        let m = w.lead - 1 - n in
        let size : length whole ≡ 1 + n = omega (arith, long, length-append (ascii " ") (text (tree_at b p k))) in
        let lead : w.lead ≡ length whole + m = omega (arith, size) in
        record {
          valid = on-valid;
          light = omega (arith, on-weight);
          less = omega (arith, on-weight, size-pos (tree_at b p k));
          same =
              ap₂ (λ (e : ℕ) (t : List ℕ). drop w.lead (take e o ++ t)) none
              (on-rest ∙ sym (append_assoc (ascii " ") (text (tree_at b p k)) after))
              ∙ ap (λ (i : ℕ). drop i (whole ++ after)) lead ∙ drop-append-add whole after m;
          fits = omega arith;
          near = inl refl;
        }

    -- entered
    pub part-enters : EnterAsks b p k on o w
    part-enters =
        record {
          asks = part-asks;
          short = a.short;
          deep =
              omega (arith, weight-deep b p on w.depth, on-weight, size-pos (tree_at b p k), a.light, a.deep, length-set st top (v + next_part));
          room = a.room;
          near = a.near;
        }

    pub part-is : {st' o' : List ℕ} {r : Walk} → EnterIs b p k on o w st' o' r → StepIs b p z st o w st' o' r
    part-is {st'} {o'} {r} i =
        record {
          valid =
              subst₂ (Valid b p z) (sym i.stack) (sym i.depth)
              (valid-top b p on w.depth i.frame part-enters.deep on-valid (i.valid z part-known));
          light = omega (arith, i.weighs, on-weight);
          less = omega (arith, i.weighs, on-weight, i.depth);
          same = ap (λ (t : List ℕ). drop w.lead (take w.end o ++ t)) on-rest ∙ i.same;
          fits = i.fits;
          near = i.near;
        }
