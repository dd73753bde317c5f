-- Laws of the rows: sizes and heights by the table are those of the texts; windows and their pieces; lines of a row in the pages.
use Prim.Native.Nat.{ℕ, zero, suc, ◌+◌, ◌*◌, ◌-◌, ◌/◌, ◌≤◌, ◌<◌}
use Rattle.std.specs.Prelude.{◌≡◌, length, get_or, take, drop, leb, ltb, Option, Some, None, unwrap_or}
use Rattle.std.specs.Borrow.{Bor}
use Rattle.std.specs.Slice.{IsGetRangeResult}
use Rattle.std.proofs.lemmas.List.{drop-take}
use Rattle.std.proofs.Math.Path.{refl, ap₂}
use Rattle.std.proofs.Common.{sym, ap, subst, ◌∙◌, arith, add-one, length-append, drop_of_length-le, get_or-take, drop-drop, length-drop, length-take-le, take_all, ltb-true, ltb-false}
use mathlib.Core.List.{List, [], ◌++◌, append-nil}
use native.Mathlib.Decide.{dec_lt}
use Rattle.record.specs.Sort.{Sort}
use Rattle.record.specs.Cases.{by_test}
use Rattle.record.specs.Decode.{store_of}
use Rattle.printout_sort.specs.Text.{ascii}
use Rattle.printout_sort.specs.Wrote.{Wrote, wrote_as, wrote-more, wrote_none, wrote-long}
use Rattle.printout.specs.Lines.{row_text, refusal_text}
use Rattle.printout.specs.LineAsks.{row_text_at, RowKnown}
use Rattle.printout.specs.LineLaws.{row-sort, row-text-refused, row_at, refusal-length}
use Rattle.printout.specs.Whole.{lines_from}
use Rattle.printout.specs.WholeLaws.{lines_more}
use Rattle.printout_text.specs.NewlineLaws.{wrote-first}
use Rattle.page.specs.Page.{line_of}
use Rattle.page.specs.Numbered.{number_on, piece_on, row_line, inferred_of, checked_of, height_at, above, page_line}
use Rattle.page.proofs.LineLaws.{take_short, line-length, number-length}
use Rattle.page.proofs.NumberedLaws.{page-row}
use Rattle.page_window.specs.declared.Window.{Window}
use Rattle.page_lines.specs.Heights.{length_by, height_by, height_in}
use Rattle.page_lines.specs.HeightLaws.{length-sort, length-refused}
use Rattle.page_lines.specs.LineRoomLaws.{decimal-few}
use Rattle.page_lines.specs.LinesLaws.{lines-shift, lines_long}
use Rattle.page_window.specs.Window.{SizesAre, WindowIs}
use Rattle.page_window.specs.WindowLaws.{window-piece}
use Rattle.page_lines.specs.Rows.{RowsJudged, inferred_in, checked_in, seen, window_line, number_of}

---------------------------------------------------------------- how large heights are
-- Entries of a table of u32s.
abbrev pub Words : List ℕ → Type 0
Words l = (i : ℕ) → get_or l i 0 < 4294967296

length_most : (z : List ℕ) (code : ℕ) → Words z → code < 4294967296 → length_by z code < 4294967296
length_most z code words h =
    by_test (ltb code 65536)
    (λ q. omega (arith, length-sort z code (ltb-true code 65536 q), words code))
    (λ q. omega (arith, length-refused z code (ltb-false code 65536 q), decimal-few (code / 65536) (omega arith)))

height-by : (m n : ℕ) → m < 4294967296 → n < 4294967296 → height_by m n ≤ 119304648
height-by m n f g = by_test (leb ((m - 1) / 36) ((n - 1) / 36)) (λ q. rw q (omega arith)) (λ q. rw q (omega arith))

pub height-most : (z rows : List ℕ) (t : ℕ) → Words z → Words rows → height_in z rows t ≤ 119304648
unfolding height_in
height-most z rows t f g =
    height-by (length_by z (get_or rows (2 * t) 0)) (length_by z (get_or rows (2 * t + 1) 0)) (length_most z _ f (g (2 * t))) (length_most z _ f (g (2 * t + 1)))

above-by : (h : ℕ → ℕ) (t : ℕ) → ((i : ℕ) → h i ≤ 119304648) → above h t ≤ 119304648 * t
unfolding above
above-by h zero f = omega arith
above-by h (suc t) f = omega (arith, above-by h t f, f t)

pub above_most : (z rows : List ℕ) (t : ℕ) → Words z → Words rows → above (height_in z rows) t ≤ 119304648 * t
above_most z rows t f g = above-by (height_in z rows) t (λ i. height-most z rows i f g)

---------------------------------------------------------------- heights are those of the texts
length-is : {b p : List ℕ} {m : ℕ} {z : List ℕ} (code : ℕ) → SizesAre b p m z → RowKnown m code → length_by z code ≡ length (row_text_at b p code)
length-is {b} {p} {m} {z} code s k =
    by_test (ltb code 65536)
    (λ q.
    let h = ltb-true code 65536 q in
    sym (length-sort z code h) ∙ s.each code (k h) ∙ ap length (sym (row-sort b p code h)))
    (λ q.
    let h = ltb-false code 65536 q in
    sym (length-refused z code h) ∙ sym (refusal-length (code / 65536)) ∙ ap length (sym (row-text-refused b p code h)))

module _ {b p z rows : List ℕ} {t m : ℕ} (j : RowsJudged b p rows t m) (s : SizesAre b p m z) {n : ℕ} (k : RowsJudged b p rows t n) where
  abbrev store : List Sort
  store = store_of b p n

  abbrev first : List ℕ
  first = take (2 * t) rows

  code_is : (i : ℕ) → i < 2 * t → row_text_at b p (get_or rows i 0) ≡ row_text store (get_or first i 0)
  code_is i h = row_at b p n (get_or rows i 0) (k.row i h) ∙ ap (row_text store) (sym (get_or-take (2 * t) rows i 0 h))

  pub texts-are : (r : ℕ) → r < t → (inferred_in b p rows r ≡ inferred_of store first r) × (checked_in b p rows r ≡ checked_of store first r)
  texts-are r h = (code_is (2 * r) (omega arith), code_is (2 * r + 1) (omega arith))

  pub height-is : (r : ℕ) → r < t → height_in z rows r ≡ height_at store first r
  unfolding height_in
  height-is r h =
      ap₂ height_by (length-is (get_or rows (2 * r) 0) s (j.row (2 * r) (omega arith))) (length-is (get_or rows (2 * r + 1) 0) s (j.row (2 * r + 1) (omega arith)))
      ∙ ap₂ (λ (x y : List ℕ). height_by (length x) (length y)) (texts-are r h).0 (texts-are r h).1

  pub above-is : (r : ℕ) → r ≤ t → above (height_in z rows) r ≡ above (height_at store first) r
  unfolding above
  above-is zero h = refl
  above-is (suc r) h = ap₂ ◌+◌ (above-is r (omega arith)) (height-is r (omega arith))

  -- THE LINE i OF THE ROW r is a line of the pages.
  pub row-line-is : (r i : ℕ) → r < t → i < height_in z rows r
      → row_line r (inferred_in b p rows r) (checked_in b p rows r) i ≡ page_line store first (number_of z rows r i)
  row-line-is r i h u =
      ap₂ (λ (x y : List ℕ). row_line r x y i) (texts-are r h).0 (texts-are r h).1
      ∙ sym (page-row store first t (length-take-le (2 * t) rows j.terms) r i h (omega (arith, height-is r h)))
      ∙ ap (λ (a : ℕ). page_line store first (a + i)) (sym (above-is r (omega arith)))

---------------------------------------------------------------- windows
-- A window of a text is one of the same text.
pub window-as : {s t : List ℕ} {skip want : ℕ} {o' : List ℕ} {w : Window} → s ≡ t → WindowIs s skip want o' w → WindowIs t skip want o' w
window-as {skip = skip} {want} {o'} {w} e is = subst (λ (x : List ℕ). WindowIs x skip want o' w) e is

-- A refusal's text is written whole.
pub refused-window : (b p : List ℕ) (code skip want : ℕ) {o o' : List ℕ} {e : ℕ} → 65536 ≤ code → Wrote o 0 (refusal_text (code / 65536)) o' e
    → WindowIs (row_text_at b p code) skip want o' (record { lead = skip; end = e })
refused-window b p code skip want {o} {o'} {e} h w =
    let f = wrote-first o (refusal_text (code / 65536)) o' e w in
    record {
      more = [];
      is = ap (drop skip) (row-text-refused b p code h ∙ sym f) ∙ sym (append-nil (drop skip (take e o')));
      within = omega (arith, w.next, w.fits, wrote-long w);
      enough = λ u. refl;
    }

pub refused-short : (code : ℕ) → code < 4294967296 → length (refusal_text (code / 65536)) ≤ 6
refused-short code h = omega (arith, refusal-length (code / 65536), decimal-few (code / 65536) (omega arith))

-- What a buffer has from a window's lead up to its end is what stands in the window; nothing does where it ends before its lead.
pub part_seen : (o : List ℕ) (w : Window) → w.end ≤ length o → (r : Option (Bor (List ℕ))) (none : Bor (List ℕ)) → none.now ≡ []
    → IsGetRangeResult o w.lead w.end r → (unwrap_or r none).now ≡ seen o w
part_seen o w within (Some x) none e g =
    let q : w.lead + (w.end - w.lead) ≡ w.end = omega (arith, g.0.0) in
    g.0.2 ∙ sym (drop-take w.lead (w.end - w.lead) o) ∙ ap (λ (n : ℕ). drop w.lead (take n o)) q
part_seen o w within None none e g =
    e ∙ sym (drop_of_length-le (take w.end o) {i = w.lead} (omega (arith, g.0, length-take-le w.end o within)))

-- A piece further, in a text of which k pieces are behind: at most as much of it as a column holds is left out.
pub pieces-on : (a : List ℕ) (k : ℕ) {s : List ℕ} {n : ℕ} → s ≡ drop (36 * k) a → n ≤ 36 → n ≤ length s → (n < 36 → length s ≤ n)
    → take (length s - n) (drop n s) ≡ drop (36 * (k + 1)) a
pieces-on a k {s} {n} e few within whole =
    let z : 36 * k + 36 ≡ 36 * (k + 1) = omega arith in
    take_all (length s - n) (drop n s) (omega (arith, length-drop n s))
    ∙ go (dec_lt n 36) ∙ ap (drop 36) e ∙ drop-drop 36 (36 * k) a ∙ ap (λ (i : ℕ). drop i a) z
  where
    go : Dec (n < 36) → drop n s ≡ drop 36 s
    go (yes h) = drop_of_length-le s {i = n} (whole h) ∙ sym (drop_of_length-le s {i = 36} (omega (arith, whole h)))
    go (no h) = let q : n ≡ 36 = omega arith in ap (λ (i : ℕ). drop i s) q

pub pieces-start : (a : List ℕ) → a ≡ drop (36 * 0) a
pieces-start a = refl

---------------------------------------------------------------- lines of a row
pub window-lines-none : (f : ℕ → List ℕ) (o : List ℕ) (to : ℕ) → to ≤ length o → Wrote o to (lines_from f 0 0) o to
unfolding lines_from
window-lines-none f o to h = wrote_none o to h

pub window-lines-more : (t i : ℕ) (a b : List ℕ) (k : ℕ) {one two o : List ℕ} {to : ℕ} {o₁ : List ℕ} {e : ℕ} {o₂ : List ℕ} {d : ℕ}
    → one ≡ drop (36 * k) a → two ≡ drop (36 * k) b → Wrote o to (lines_from (window_line t i a b) 0 k) o₁ e
    → Wrote o₁ e (line_of (number_on t (i + k)) (take 36 one) (take 36 two) ++ ascii "\n") o₂ d
    → Wrote o to (lines_from (window_line t i a b) 0 (k + 1)) o₂ d
unfolding window_line
window-lines-more t i a b k f g v w =
    let line = window_line t i a b in
    let z : k ≡ 0 + k = omega arith in
    let s = ap₂ (λ (u r : List ℕ). line_of (number_on t (i + k)) (take 36 u) (take 36 r) ++ ascii "\n") f g ∙ ap line z in
    wrote_as (sym (lines_more line 0 k) ∙ ap (lines_from line 0) (sym (add-one k))) (wrote-more v (wrote_as s w))

line-long : (t i : ℕ) (a b : List ℕ) (k : ℕ) → t < 100000 → length (window_line t i a b k) ≡ 81
unfolding window_line row_line
line-long t i a b k h =
    let l = line_of (number_on t (i + k)) (piece_on k a) (piece_on k b) in
    omega (
      arith,
      length-append l (ascii "\n"),
      line-length (number_on t (i + k)) (piece_on k a) (piece_on k b) (number-length t (i + k) (omega arith)) (take_short 36 (drop (36 * k) a)) (take_short 36 (drop (36 * k) b)),
    )

pub window-lines-long : (t i : ℕ) (a b : List ℕ) (k : ℕ) → t < 100000 → length (lines_from (window_line t i a b) 0 k) ≡ 81 * k
window-lines-long t i a b k h = lines_long (window_line t i a b) (λ j. line-long t i a b j h) 0 k

-- The lines of a row from its line i on, from two windows that start there.
pub window-rows : (t i n : ℕ) {a b one two : List ℕ} {v w : Window} → WindowIs a (36 * i) (36 * n) one v → WindowIs b (36 * i) (36 * n) two w
    → lines_from (window_line t i (seen one v) (seen two w)) 0 n ≡ lines_from (row_line t a b) i n
unfolding window_line row_line
window-rows t i n {a} {b} {one} {two} {v} {w} f g =
    lines-shift (window_line t i (seen one v) (seen two w)) (row_line t a b) 0 i n
    (λ k h.
    let z : 0 + k ≡ k = omega arith in
    ap (window_line t i (seen one v) (seen two w)) z
    ∙ ap₂ (λ (x y : List ℕ). line_of (number_on t (i + k)) x y ++ ascii "\n") (piece_is k f h) (piece_is k g h))
  where
    piece_is : (k : ℕ) {s o : List ℕ} {u : Window} → WindowIs s (36 * i) (36 * n) o u → k < n → piece_on k (seen o u) ≡ piece_on (i + k) s
    piece_is k {s} {o} {u} q h =
        let z : 36 * i + 36 * k ≡ 36 * (i + k) = omega arith in
        ap (take 36) (drop-drop (36 * k) u.lead (take u.end o))
        ∙ sym (window-piece k n q h)
        ∙ ap (take 36) (drop-drop (36 * k) (36 * i) s ∙ ap (λ (m : ℕ). drop m s) z)
