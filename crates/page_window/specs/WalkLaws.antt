-- The walk as a whole: where it starts, that each step keeps what it says of the text, and what is there at its end.
use Rattle.std.specs.Prelude.{ℕ, suc, ◌+◌, ◌*◌, ◌-◌, ◌≤◌, ◌<◌, ◌≡◌, refl, Bool, true, false, List, [], ◌++◌, length, take, drop, set, ltb}
use Rattle.std.proofs.Common.{sym, ap, subst, ◌∙◌, inr, ⊎_elim, append-nil, arith, ltb-true, ltb-false, length-set, length-take-le}
use Rattle.std.proofs.lemmas.List.{drop-append-le}
use Rattle.record.specs.Sort.{sizes}
use Rattle.printout_sort.specs.Text.{text, texts}
use Rattle.printout_sort.specs.Pieces.{close_text}
use Rattle.printout_sort.specs.PieceLaws.{after}
use Rattle.printout_sort.specs.Trees.{tree_at}
use Rattle.printout_sort.specs.Wrote.{wrote-long}
use Rattle.page_window.specs.Window.{window_slack, WindowAsks, WindowIs}
use Rattle.page_window.specs.Frames.{form_in, piece_room, parts_in, OpenAsks, OpenIs, Opened}
use Rattle.page_window.specs.FrameLaws.{sizes-first, open-frame}
use Rattle.page_window.specs.Walk.{rest, weight, Valid, left_by, Near, Settled, Going, StepAsks, StepIs, StartIs}
use Rattle.page_window.specs.StepLaws.{rest-top, weight-top, valid-top, weight-deep, wrote-take, wrote-within, settled_same, settled-near, settled-fits}
use Rattle.page_window.specs.declared.walk.Walk.{Walk}

-- The last test of `going`.
pub going-last : (w : Walk) (want : ℕ) → (w.depth ≡ 0 → ⊥) → w.lead < w.end → Going w want (ltb (w.end - w.lead) want)
going-last w want some l = go (ltb (w.end - w.lead) want) refl
  where
    go : (t : Bool) → ltb (w.end - w.lead) want ≡ t → Going w want t
    go true e =
        let h : w.end - w.lead < want = ltb-true (w.end - w.lead) want e in
        (after w.depth 0 some (omega arith), inr (omega arith))
    go false e = inr (l, ltb-false (w.end - w.lead) want e)

-- A WALK ON ITS WAY through the text t, from the byte `skip` on.
pub record Walking (b p z t : List ℕ) (skip want : ℕ) (st o : List ℕ) (w : Walk) : Type 0 where
  pub deep : 4096 ≤ length st
  pub room : want + window_slack ≤ length o
  pub valid : Valid b p z st w.depth
  pub light : weight b p st w.depth ≤ 4096
  pub is : drop skip t ≡ left_by b p st o w
  pub fits : w.end ≤ length o
  pub near : Near w

-- No frames have nothing to print, and no weight.
rest-none : (b p st : List ℕ) {d : ℕ} → d ≡ 0 → rest b p st d ≡ []
unfolding rest
rest-none b p st e = ap (rest b p st) e

weight-none : (b p st : List ℕ) → weight b p st 0 ≡ 0
unfolding weight
weight-none b p st = refl

-- It starts with the sort's own frame.
module _ {b p z : List ℕ} {k want : ℕ} {st o : List ℕ} (a : WindowAsks b p z k want st o) where
  pub start-asks : OpenAsks b p k o 0
  start-asks = record { asks = a.asks; short = a.short; room = omega (arith, a.fits) }

  pub start_is : {o₁ : List ℕ} {v : Opened} (skip : ℕ) {w : Walk} → OpenIs b p k o 0 o₁ v → Settled 1 skip v.end w
      → Walking b p z (text (tree_at b p k)) skip want (set st 0 v.frame) o₁ w
  start_is {o₁} {v} skip {w} i s =
      let f = v.frame in
      let some : 0 < length st = omega (arith, a.deep) in
      let own = texts (parts_in b p f) ++ close_text (form_in f) in
      let all : rest b p (set st 0 f) w.depth ≡ own =
      ap (rest b p (set st 0 f)) s.0 ∙ rest-top b p st 0 f some
      ∙ ap (λ (x : List ℕ). texts (parts_in b p f) ++ (close_text (form_in f) ++ x)) (rest-none b p st refl)
      ∙ ap (λ (x : List ℕ). texts (parts_in b p f) ++ x) (append-nil (close_text (form_in f))) in
      let size : weight b p (set st 0 f) w.depth ≡ 1 + sizes (parts_in b p f) =
      ap (weight b p (set st 0 f)) s.0 ∙ weight-top b p st 0 f some
      ∙ (omega (arith, weight-none b p st)) in
      record {
        deep = omega (arith, a.deep, length-set st 0 f);
        room = omega (arith, a.fits, wrote-long i.wrote);
        valid =
            subst (Valid b p z (set st 0 f)) (sym s.0)
            (valid-top b p st 0 f some (λ j l. absurd (omega arith)) (open-frame i (sizes-first (suc k) (omega (arith, a.known)) a.table)));
        light = omega (arith, size, i.weighs, a.asks.small);
        is =
            ap (drop skip) i.is ∙ ap (λ (x : List ℕ). drop skip (x ++ own)) (sym (wrote-take i.wrote))
            ∙ settled_same s o₁ own (wrote-within i.wrote)
            ∙ ap (λ (x : List ℕ). drop w.lead (take w.end o₁ ++ x)) (sym all);
        fits = settled-fits s (wrote-within i.wrote);
        near = settled-near s (λ l. omega (arith, i.wrote.next, i.most));
      }

  pub start_was : {st' o₁ : List ℕ} (skip : ℕ) {w : Walk} → StartIs b p k skip st o st' o₁ w → Walking b p z (text (tree_at b p k)) skip want st' o₁ w
  start_was {st'} {o₁} skip {w} s =
      subst (λ (x : List ℕ). Walking b p z (text (tree_at b p k)) skip want x o₁ w) (sym s.stack) (start_is skip s.is s.settled)

-- Its steps, and its end.
module _ {b p z t : List ℕ} {skip want : ℕ} {st o : List ℕ} {w : Walk} (h : Walking b p z t skip want st o w) where
  pub step-asks : length b ≤ 65536 → Going w want true → StepAsks b p z st o w
  step-asks short g =
      record {
        short = short;
        deep = h.deep;
        some = g.0;
        valid = h.valid;
        light = h.light;
        room =
            ⊎_elim (λ (e : w.end ≡ 0). omega (arith, h.room))
            (λ (u : (w.lead < w.end) × (w.lead ≤ piece_room)).
            ⊎_elim (λ (l : w.end ≤ w.lead). omega arith) (λ (l : w.end < w.lead + want). omega (arith, h.room)) g.1)
            h.near;
        near = h.near;
      }

  module _ {st' o' : List ℕ} {r : Walk} (s : StepIs b p z st o w st' o' r) where
    pub step_less : 2 * weight b p st' r.depth - r.depth < 2 * weight b p st w.depth - w.depth
    step_less = omega (arith, s.less, weight-deep b p st' r.depth, weight-deep b p st w.depth)

    pub step-again : length st' ≡ length st → length o' ≡ length o → Walking b p z t skip want st' o' r
    step-again ls lo =
        record {
          deep = omega (arith, h.deep);
          room = omega (arith, h.room);
          valid = s.valid;
          light = omega (arith, s.light, h.light);
          is = h.is ∙ s.same;
          fits = s.fits;
          near = s.near;
        }

  pub walk_ends : Going w want false → WindowIs t skip want o (record { lead = w.lead; end = w.end })
  walk_ends g =
      ⊎_elim
      (λ (e : w.depth ≡ 0).
      record {
        more = [];
        is = h.is ∙ ap (λ (x : List ℕ). drop w.lead (take w.end o ++ x)) (rest-none b p st e) ∙ ap (drop w.lead) (append-nil (take w.end o)) ∙ sym (append-nil (drop w.lead (take w.end o)));
        within = h.fits;
        enough = λ l. refl;
      })
      (λ (u : (w.lead < w.end) × (want ≤ w.end - w.lead)).
      record {
        more = rest b p st w.depth;
        is = h.is ∙ drop-append-le w.lead (take w.end o) (rest b p st w.depth) (omega (arith, u, length-take-le w.end o h.fits));
        within = h.fits;
        enough = λ l. absurd (omega (arith, u));
      })
      g
