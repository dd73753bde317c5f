-- The lines of the rows, some more at each step: what a step asks of a judged sheet's rows, and how far it comes.
use Rattle.std.specs.Prelude.{ℕ, ◌+◌, ◌*◌, ◌-◌, ◌≤◌, ◌<◌, ◌≡◌, refl, List, ◌++◌, length, get_or, take, ltb}
use Rattle.std.proofs.Common.{sym, ap, ◌∙◌, arith, add-one, ltb-true, ltb-false}
use Rattle.record.specs.Cases.{by_test}
use Rattle.record.specs.Decode.{store_of}
use Rattle.printout_sort.specs.Wrote.{Wrote, wrote_as, wrote-more, wrote_none, wrote-long}
use Rattle.printout_sort.specs.TreeLaws.{text-asks}
use Rattle.printout.specs.Whole.{lines_from}
use Rattle.printout.specs.WholeLaws.{lines_split}
use Rattle.page.specs.Numbered.{row_line, above, page_line}
use Rattle.page.proofs.NumberedLaws.{above_low}
use Rattle.page_lines.specs.declared.heights.Spot.{Spot}
use Rattle.page_lines.specs.Heights.{height_in, HeightsAsk}
use Rattle.page_lines.specs.LinesLaws.{lines-shift}
use Rattle.page_lines.specs.Rows.{inferred_in, checked_in, window_room, PageAsks, RowWindowAsks, GoneOn, number_of, Within, Going}
use Rattle.page_lines.specs.RowLaws.{row-line-is}

---------------------------------------------------------------- what is asked
-- The rows have their sizes in the table.
pub heights-ask : {b p z rows : List ℕ} {t : ℕ} → PageAsks b p z rows t → HeightsAsk z rows t
heights-ask a =
    record {
      terms = a.judged.terms;
      few = a.judged.few;
      row = λ i h u. omega (arith, a.judged.row i h u, a.table.room);
    }

-- A row's text can be had in windows.
pub window-asks : {b p z rows : List ℕ} {t : ℕ} (i n : ℕ) (d o : List ℕ) → PageAsks b p z rows t → i < 2 * t → n ≤ 1024
    → 4096 ≤ length d → window_room ≤ length o → RowWindowAsks b p z (get_or rows i 0) (36 * n) d o
window-asks {b} {p} {rows = rows} i n d o a h few e r =
    let j = a.judged in
    record {
      sort = λ u.
          record {
            many = a.many;
            table = a.table;
            known = j.row i h u;
            asks = text-asks b p a.many (get_or rows i 0) j.stored (j.row i h u) (j.small (get_or rows i 0) (j.row i h u));
            short = a.short;
            deep = e;
            fits = omega arith;
          };
      fits = omega arith;
    }

---------------------------------------------------------------- the steps
pub going_start : (b p z rows : List ℕ) (t row line : ℕ) (o : List ℕ) → Within z rows t row line → Going b p z rows t row line o row line o 0
unfolding lines_from
going_start b p z rows t row line o w =
    let m = number_of z rows row line in
    let e : 0 ≡ m - m = omega arith in
    record {
      spot = w;
      on = omega arith;
      lines = λ n j. wrote_as (ap (lines_from (page_line (store_of b p n) (take (2 * t) rows)) m) e) (wrote_none o 0 (omega arith));
      behind = λ u v. absurd (omega arith);
      long = refl;
      within = omega arith;
    }

-- Some lines of a row further, in numbers,
number-on : (z rows : List ℕ) (row line n high : ℕ) (s : Spot) → high ≡ height_in z rows row → line + n ≤ high → GoneOn row (line + n) high s
    → number_of z rows s.row s.line ≡ number_of z rows row line + n
unfolding above
number-on z rows row line n high s e h g =
    by_test (ltb (line + n) high)
    (λ q. rw (g.same (ltb-true (line + n) high q)) (omega arith))
    (λ q. let u = ltb-false (line + n) high q in rw (g.next u, add-one row) (omega arith))

spot_on : (z rows : List ℕ) (t row line high : ℕ) (s : Spot) → high ≡ height_in z rows row → row < t → GoneOn row line high s → Within z rows t s.row s.line
unfolding height_in
spot_on z rows t row line high s e h g =
    by_test (ltb line high)
    (λ q. let u = ltb-true line high q in rw (g.same u) (record { last = omega arith; inside = λ x. omega arith }))
    (λ q. rw (g.next (ltb-false line high q)) (record { last = omega arith; inside = λ x. omega arith }))

behind-on : (t row line high : ℕ) (s : Spot) → row < t → GoneOn row line high s → t ≤ s.row → s.line ≡ 0
behind-on t row line high s h g u =
    by_test (ltb line high)
    (λ q. absurd (omega (arith, ap (λ (x : Spot). x.row) (g.same (ltb-true line high q)))))
    (λ q. ap (λ (x : Spot). x.line) (g.next (ltb-false line high q)))

module _ {b p z rows : List ℕ} {t row₀ line₀ : ℕ} {o : List ℕ} {row line : ℕ} {o₁ : List ℕ} {e : ℕ} (g : Going b p z rows t row₀ line₀ o row line o₁ e) (h : row < t)
    (a : PageAsks b p z rows t) {high n : ℕ} (is : high ≡ height_in z rows row) (most : n ≤ high - line) {s : Spot}
    (on : GoneOn row (line + n) high s) where
  inside : line < high
  inside = omega (arith, g.spot.inside h)

  pub going-number : number_of z rows s.row s.line ≡ number_of z rows row line + n
  going-number = number-on z rows row line n high s is (omega (arith, inside)) on

  -- and in what is written.
  pub going_more : {o₂ : List ℕ} {d : ℕ} → Wrote o₁ e (lines_from (row_line row (inferred_in b p rows row) (checked_in b p rows row)) line n) o₂ d
      → Going b p z rows t row₀ line₀ o s.row s.line o₂ d
  going_more {o₂} {d} w =
      let from = number_of z rows row₀ line₀ in
      let m = number_of z rows row line in
      record {
        spot = spot_on z rows t row (line + n) high s is h on;
        on = omega (arith, g.on, going-number);
        lines = λ k j.
            let f = page_line (store_of b p k) (take (2 * t) rows) in
            let x = lines_from f from (m - from) in
            let same : lines_from (row_line row (inferred_in b p rows row) (checked_in b p rows row)) line n ≡ lines_from f m n =
            lines-shift (row_line row (inferred_in b p rows row) (checked_in b p rows row)) f line m n
            (λ i l.
            let q : above (height_in z rows) row + (line + i) ≡ m + i = omega arith in
            row-line-is a.judged a.table j row (line + i) h (omega (arith, inside)) ∙ ap f q) in
            let q : from + (m - from) ≡ m = omega (arith, g.on) in
            let r : m - from + n ≡ number_of z rows s.row s.line - from = omega (arith, g.on, going-number) in
            wrote_as
            (ap (λ (y : List ℕ). x ++ y) (same ∙ sym (ap (λ (i : ℕ). lines_from f i n) q)) ∙ sym (lines_split f from (m - from) n) ∙ ap (lines_from f from) r)
            (wrote-more (g.lines k j) w);
        behind = λ u v. behind-on t row (line + n) high s h on u;
        long = wrote-long w ∙ g.long;
        within = omega (arith, w.next, w.fits, g.long);
      }

-- A line of a row has a number below that of the end of all rows.
pub going-below : (z rows : List ℕ) (t row line : ℕ) → Within z rows t row line → row < t → number_of z rows row line < above (height_in z rows) t
going-below z rows t row line w h = omega (arith, above_low (height_in z rows) row t h, w.inside h)
