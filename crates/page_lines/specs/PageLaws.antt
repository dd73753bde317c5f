-- The lines of the pages are those of the rows and of blanks behind them: what a piece of them is, once the rows' lines are written as
-- far as they fit.
use Prim.Native.Nat.{ℕ, zero, suc, ◌+◌, ◌*◌, ◌-◌, ◌/◌, ◌%◌, ◌≤◌, ◌<◌}
use Rattle.std.specs.Prelude.{◌≡◌, List, ◌++◌, take, ltb}
use Rattle.std.proofs.Math.Path.{refl, ap}
use Rattle.std.proofs.Common.{sym, ◌∙◌, length-take-le}
use native.Mathlib.Omega.{arith}
use Rattle.std.proofs.Math.ListN.{length, length-append}
use borrow.Author.Tests.{ltb-true, ltb-false}
use Rattle.record.specs.Sort.{Sort}
use Rattle.record.specs.Cases.{by_test}
use Rattle.record.specs.Decode.{store_of}
use Rattle.printout_sort.specs.Wrote.{Wrote, wrote_as, wrote-more}
use Rattle.printout.specs.Whole.{lines_from}
use Rattle.printout.specs.WholeLaws.{lines_split}
use Rattle.printout_text.specs.Text.{LinesBy}
use Rattle.page.specs.Page.{padding, pages, table_lines}
use Rattle.page.specs.Numbered.{blank_line, height_at, above, page_line}
use Rattle.page.proofs.NumberedLaws.{page-count, page-blank, page-line-length}
use Rattle.page_lines.specs.declared.heights.Spot.{Spot}
use Rattle.page_lines.specs.Heights.{height_in, SpotIs}
use Rattle.page_lines.specs.LineRoomLaws.{blank-lines-long}
use Rattle.page_lines.specs.LinesLaws.{lines-shift}
use Rattle.page_lines.specs.Rows.{RowsJudged, PageAsks, number_of, Within, Reached, ReachedIs}
use Rattle.page_lines.specs.RowLaws.{Words, above-is, above_most}
use Rattle.page_lines.specs.GoingLaws.{going-below}
use Rattle.page_lines.specs.Pages.{padding_of, BlanksIs, PageHas}

---------------------------------------------------------------- blanks
pub padding-is : (n : ℕ) → (60 - n % 60) % 60 ≡ padding_of n
unfolding padding_of
padding-is n = refl

---------------------------------------------------------------- a piece
pub spot-within : {z rows : List ℕ} {t n : ℕ} {s : Spot} → SpotIs z rows t n s → Within z rows t s.row s.line
spot-within a = record { last = a.last; inside = a.inside }

module _ {b p z rows : List ℕ} {t : ℕ} (a : PageAsks b p z rows t) {from : ℕ} {s : Spot} (at : SpotIs z rows t from s)
    {o o₁ : List ℕ} {r : Reached} (g : ReachedIs b p z rows t s o o₁ r) where
  -- The number of the line that is reached, and of the end of all rows.
  abbrev next : ℕ
  next = number_of z rows r.row r.line

  abbrev all : ℕ
  all = above (height_in z rows) t

  on : from ≤ next
  on = omega (arith, at.is, g.going.on)

  -- Where lines are written they are of rows.
  next_low : from < next → next ≤ all
  next_low h =
      by_test (ltb r.row t)
      (λ x. omega (arith, going-below z rows t r.row r.line g.going.spot (ltb-true r.row t x)))
      (λ x.
      let u = ltb-false r.row t x in
      let e : r.row ≡ t = omega (arith, g.going.spot.last) in
      omega (arith, g.going.behind u (omega (arith, at.is)), ap (above (height_in z rows)) e))

  next_last : t ≤ r.row → next ≡ all + r.line
  next_last u = let e : r.row ≡ t = omega (arith, g.going.spot.last) in ap (λ (k : ℕ). above (height_in z rows) k + r.line) e

  module _ {n : ℕ} (j : RowsJudged b p rows t n) where
    abbrev store : List Sort
    store = store_of b p n

    abbrev first : List ℕ
    first = take (2 * t) rows

    abbrev count : ℕ
    count = length (pages (table_lines store 0 first))

    two-each : length first ≡ 2 * t
    two-each = length-take-le (2 * t) rows j.terms

    all-is : all ≡ above (height_at store first) t
    all-is = above-is a.judged a.table j t (omega arith)

    counted : count ≡ all + padding all
    counted = page-count store first t two-each ∙ ap (λ (k : ℕ). k + padding k) (sym all-is)

    wide : (k : ℕ) → k < count → length (page_line store first k) ≡ 81
    wide k h = page-line-length store first t two-each (omega (arith, j.few)) k h

    -- m lines from the number k on.
    wide-lines : (k m : ℕ) → k + m ≤ count → length (lines_from (page_line store first) k m) ≡ 81 * m
    unfolding lines_from
    wide-lines k zero h = refl
    wide-lines k (suc m) h =
        omega (arith, length-append (page_line store first k) (lines_from (page_line store first) (suc k) m), wide k (omega arith), wide-lines (suc k) m (omega arith))

    lines_of : Wrote o 0 (lines_from (page_line store first) from (next - from)) o₁ r.end
    lines_of = wrote_as (ap (λ (k : ℕ). lines_from (page_line store first) k (next - k)) (sym at.is)) (g.going.lines n j)

    -- HOW MANY LINES WERE WRITTEN is told by the bytes.
    end_is : r.end ≡ 81 * (next - from)
    unfolding lines_from
    end_is =
        by_test (ltb from next)
        (λ x.
        let h = next_low (ltb-true from next x) in
        omega (arith, lines_of.next, wide-lines from (next - from) (omega (arith, counted, on))))
        (λ x.
        let u = ltb-false from next x in
        let e : next - from ≡ 0 = omega arith in
        omega (arith, lines_of.next, ap (λ (m : ℕ). length (lines_from (page_line store first) from m)) e))

    -- Rows are left: no line more fits.
    piece-rows : r.row < t → LinesBy count (page_line store first) 81 from o o₁ (record { next = next; end = r.end })
    piece-rows h =
        let below = going-below z rows t r.row r.line g.going.spot h in
        let inside : next < count = omega (arith, counted) in
        let full = g.full h in
        record {
          lines = on;
          last = λ u. omega arith;
          text = lines_of;
          full = λ u. omega (arith, wide next inside);
          goes = λ long u. by_test (ltb from next) (λ x. ltb-true from next x) (λ x. absurd (let v = ltb-false from next x in omega (arith, end_is, on)));
        }

    -- All rows are written: lines of blanks behind them.
    module _ (u : t ≤ r.row) {m : ℕ} (f : BlanksIs all r.line (length o₁ - r.end) m) {o₂ : List ℕ} {d : ℕ}
        (w : Wrote o₁ r.end (lines_from (λ k. blank_line) 0 m) o₂ d) where
      most : m ≤ padding all - r.line
      unfolding padding_of
      most = f.most

      blanks-are : lines_from (λ k. blank_line) 0 m ≡ lines_from (page_line store first) next m
      blanks-are =
          lines-shift (λ k. blank_line) (page_line store first) 0 next m
          (λ k h.
          sym (page-blank store first t two-each (next + k) (omega (arith, all-is, next_last u)) (omega (arith, counted, most, next_last u))))

      text-is : Wrote o 0 (lines_from (page_line store first) from (next + m - from)) o₂ d
      text-is =
          let l = page_line store first in
          let e : from + (next - from) ≡ next = omega (arith, on) in
          let q : next - from + m ≡ next + m - from = omega (arith, on) in
          wrote_as
          (ap (λ (y : List ℕ). lines_from l from (next - from) ++ y) (blanks-are ∙ sym (ap (λ (k : ℕ). lines_from l k m) e)) ∙ sym (lines_split l from (next - from) m) ∙ ap (lines_from l from) q)
          (wrote-more lines_of w)

      full_is : next + m < count → length o < d + 81
      unfolding padding_of
      full_is h =
          omega (arith, f.full (omega (arith, counted, next_last u)), w.next, blank-lines-long 0 m, g.going.long, g.going.within)

      piece-all : LinesBy count (page_line store first) 81 from o o₂ (record { next = next + m; end = d })
      piece-all =
          record {
            lines = omega (arith, on);
            last = λ x. last-is x;
            text = text-is;
            full = λ x. omega (arith, full_is x, wide (next + m) x);
            goes = λ long x.
                by_test (ltb from (next + m)) (λ y. ltb-true from (next + m) y)
                (λ y. absurd (let v = ltb-false from (next + m) y in omega (arith, full_is (omega (arith, on)), w.next, blank-lines-long 0 m, end_is, on)));
          }
        where
          last-is : from < next + m → next + m ≤ count
          last-is x =
              by_test (ltb 0 m)
              (λ y. let v = ltb-true 0 m y in omega (arith, counted, most, next_last u))
              (λ y. let v = ltb-false 0 m y in omega (arith, counted, next_low (omega arith)))

  -- The number of the next line, by the bytes written; it is no more than a usize holds.
  pub next-is : from + r.end / 81 ≡ next
  next-is = omega (arith, end_is a.judged, on)

  all_small : Words z → Words rows → all ≤ 488671838208
  all_small f h = omega (arith, above_most z rows t f h, a.judged.few)

  pub next_fits : Words z → Words rows → from < 18446744073709551616 → from + r.end / 81 < 18446744073709551616
  next_fits f h small =
      by_test (ltb from next)
      (λ x. omega (arith, next-is, next_low (ltb-true from next x), all_small f h))
      (λ x. omega (arith, next-is, ltb-false from next x))

  pub rows_left : r.row < t → PageHas b p rows t from o o₁ (record { next = from + r.end / 81; end = r.end })
  rows_left h n j = rw next-is (piece-rows j h)

  -- Behind the rows.
  module _ (u : t ≤ r.row) where
    pub line_low : r.line ≤ from + r.end / 81
    line_low = omega (arith, next-is, next_last u)

    rows_are : from + r.end / 81 - r.line ≡ all
    rows_are = omega (arith, next-is, next_last u)

    module _ {k : ℕ} (f : BlanksIs (from + r.end / 81 - r.line) r.line (length o₁ - r.end) k) where
      pub last_fits : Words z → Words rows → from < 18446744073709551616 → from + r.end / 81 + k < 18446744073709551616
      unfolding padding_of
      last_fits x y small =
          by_test (ltb 0 k)
          (λ v. omega (arith, next-is, next_last u, ltb-true 0 k v, f.most, all_small x y))
          (λ v. omega (arith, ltb-false 0 k v, next_fits x y small))

      pub blanks-fit : r.end + 81 * k ≤ length o₁
      blanks-fit = omega (arith, f.fits, g.going.within, g.going.long)

      pub rows-done : {o₂ : List ℕ} {d : ℕ} → Wrote o₁ r.end (lines_from (λ i. blank_line) 0 k) o₂ d
          → PageHas b p rows t from o o₂ (record { next = from + r.end / 81 + k; end = d })
      rows-done w n j = rw next-is (piece-all j u (rw rows_are at f) w)
