-- What `judge` leaves of an accepted sheet has pages, whose lines are those of the judgement; and what follows for a caller of `pages`.
use Rattle.std.specs.Prelude.{ℕ, ◌+◌, ◌*◌, ◌-◌, ◌≤◌, ◌<◌, ◌≡◌, List, [], length, get_or, take, ltb}
use Rattle.std.proofs.Common.{sym, ap, ap₂, ◌∙◌, arith, rules, length-append, ltb-true, ltb-false}
use Rattle.std.specs.Ordering.{ord_max, nat_cmp}
use Rattle.record.specs.Sort.{Sort, size}
use Rattle.record.specs.Cases.{by_test}
use Rattle.record.specs.Decode.{store_of}
use Rattle.record.specs.Entries.{stored-first}
use Rattle.judge_rules.specs.Judged.{Judgement, sheet_refused, accepted, judged}
use Rattle.row_rules.proofs.OutcomeLaws.{room-few}
use Rattle.judge_rules.proofs.JudgedLaws.{judged-store}
use Rattle.judge_rules.proofs.KnownLaws.{judged-rows-known}
use Rattle.check_rules.specs.Ranks.{smt_lib}
use Rattle.verdicts.specs.Judge.{Accepted}
use Rattle.verdicts.specs.Judge.{JudgeIs}
use Rattle.printout_sort.specs.Text.{ascii}
use Rattle.printout_sort.specs.TreeLaws.{tree-at}
use Rattle.printout_sort.specs.Wrote.{Wrote, wrote_as}
use Rattle.printout.specs.declared.kinds.Totals.{Totals}
use Rattle.printout.specs.declared.whole.Piece.{Piece}
use Rattle.printout.specs.Lines.{refusal_line, refusal_text}
use Rattle.printout.specs.Printed.{program_lengths}
use Rattle.printout.specs.Kinds.{KindsAre}
use Rattle.printout.specs.Whole.{lines_from}
use Rattle.printout.specs.WholeLaws.{lines_same}
use Rattle.printout_text.specs.Text.{LinesBy}
use Rattle.printout_text.specs.LeftLaws.{found}
use Rattle.printout_text.specs.TextLaws.{done_none, done_end, whole-written}
use Rattle.page.specs.Page.{pages, table_lines, paged}
use Rattle.page.specs.Numbered.{page_line, page_count, page_line_of}
use Rattle.page.proofs.NumberedLaws.{lines-paged}
use Rattle.page_window.specs.Window.{SizesAsk}
use Rattle.page_lines.specs.Rows.{RowsJudged, PageAsks}
use Rattle.page_text.specs.PageText.{PageTextIs, KnownIs, RaisedIs, PageStore, PageSizesAre}

---------------------------------------------------------------- what judging leaves
pub page-store : (s b p w g : List ℕ) → JudgeIs s program_lengths b p w g Accepted → (k k' : List ℕ) (r : Totals) → KindsAre s k k' r → PageStore s b p w r.terms
unfolding judged
page-store s b p w g a k k' r kinds =
    let f = found s b p w g a k k' r kinds in
    let j = f.taken in
    let n = length j.store in
    let same : (x : List Sort) (y : List ℕ) → store_of b p n ≡ x → take (2 * r.terms) w ≡ y → pages (table_lines (store_of b p n) 0 (take (2 * r.terms) w)) ≡ pages (table_lines x 0 y) =
    λ x y d e. ap₂ (λ (u : List Sort) (v : List ℕ). pages (table_lines u 0 v)) d e in
    record {
      many = n;
      few =
          room-few program_lengths.records program_lengths.places j.store (judged-store smt_lib s program_lengths j.sheet j.store j.rows j.answers j.is).3;
      good =
          record {
            stored = f.reads.stored;
            small = f.reads.small;
            terms = omega (arith, f.lent_rows, f.lent);
            few = omega (arith, f.lent);
            row = λ i o z.
                omega (
                  arith,
                  f.row i o,
                  judged-rows-known smt_lib s program_lengths j.sheet j.store j.rows j.answers j.is i (omega (arith, f.terms)) (omega (arith, f.row i o)),
                );
          };
      count = ap length (same j.store j.rows f.reads.back f.whole) ∙ sym (ap page_count j.is);
      line = λ i.
          ap₂ (λ (u : List Sort) (v : List ℕ). page_line u v i) f.reads.back f.whole ∙ sym (ap (λ (x : Judgement). page_line_of x i) j.is);
    }

---------------------------------------------------------------- the sorts that rows name
-- A row of a sort raises it as far as that sort needs; another leaves it.
pub raised-sort : (most code k : ℕ) → k ≡ code → code < 65536 → RaisedIs most code (ord_max nat_cmp most (k + 1))
raised-sort most code k e h = record { known = λ u. search rules; low = search rules; least = λ n l f. search rules }

pub raised-same : (most code : ℕ) → (code < 65536 → code < most) → RaisedIs most code most
raised-same most code h = record { known = h; low = omega arith; least = λ n l k. l }

pub known-none : (rows : List ℕ) → KnownIs rows 0 0
known-none rows = record { each = λ i h. absurd (omega arith); least = λ n f. omega arith }

pub known_more : {rows : List ℕ} {i most r : ℕ} → KnownIs rows i most → RaisedIs most (get_or rows i 0) r → KnownIs rows (i + 1) r
known_more {rows} {i} {most} {r} a e =
    record {
      each = λ j h u.
          by_test (ltb j i)
          (λ x. omega (arith, a.each j (ltb-true j i x) u, e.low))
          (λ x.
          let q : j ≡ i = omega (arith, ltb-false j i x) in
          let v : get_or rows i 0 < 65536 = omega (arith, ap (λ (k : ℕ). get_or rows k 0) q) in
          omega (arith, ap (λ (k : ℕ). get_or rows k 0) q, e.known v));
      least = λ n f. e.least n (a.least n (λ j h. f j (omega arith))) (f i (omega arith));
    }

-- Fewer sorts do, if the rows name no other.
pub fewer-judged : {b p w : List ℕ} {t n m : ℕ} → RowsJudged b p w t n → KnownIs w (2 * t) m → RowsJudged b p w t m
fewer-judged {b} {p} {w} {t} {n} {m} j k =
    let low = k.least n j.row in
    record {
      stored = stored-first b p m n low j.stored;
      small = λ i h.
          omega (arith, j.small i (omega arith), ap size (sym (tree-at b p i m h) ∙ tree-at b p i n (omega arith)));
      terms = j.terms;
      few = j.few;
      row = k.each;
    }

pub sizes-ask : {b p w : List ℕ} {t m : ℕ} (z : List ℕ) → RowsJudged b p w t m → m ≤ length z → SizesAsk b p m z
sizes-ask {b} {p} {m = m} z j r =
    record {
      stored = j.stored;
      small = λ k l. omega (arith, j.small k l, ap size (tree-at b p k m l));
      room = r;
    }

pub page-asks-of : {s b p w z : List ℕ} {t : ℕ} → PageSizesAre s b p w z t → PageAsks b p z w t
page-asks-of a = record { many = a.known; judged = a.judged; table = a.table; short = a.short }

---------------------------------------------------------------- the lines
-- The same lines.
pub lines-as : {count count' : ℕ} {line line' : ℕ → List ℕ} {room from : ℕ} {o o' : List ℕ} {r : Piece} → count ≡ count' → ((k : ℕ) → line k ≡ line' k)
    → LinesBy count line room from o o' r → LinesBy count' line' room from o o' r
lines-as {line = line} {line'} {from = from} {r = r} e f a =
    record {
      lines = a.lines;
      last = λ u. omega (arith, a.last u);
      text = wrote_as (lines_same line line' from (r.next - from) (λ j x y. f j)) a.text;
      full = λ u. omega (arith, a.full (omega arith), ap length (f r.next));
      goes = λ long u. a.goes long (omega arith);
    }

-- A piece over what `judge` left is one of the judgement.
pub page-piece : {s b p w : List ℕ} {t : ℕ} (st : PageStore s b p w t) {from : ℕ} {o o' : List ℕ} {r : Piece}
    → LinesBy (length (pages (table_lines (store_of b p st.many) 0 (take (2 * t) w)))) (page_line (store_of b p st.many) (take (2 * t) w)) 81 from o o' r
    → PageTextIs s from o o' r
page-piece st a = lines-as st.count st.line a

-- No line is empty.
pub page-some : (j : Judgement) (k : ℕ) → 0 < length (page_line_of j k)
unfolding refusal_line refusal_text page_line
page-some (sheet_refused e) k = omega arith
page-some (accepted h st rows answers) k = omega (arith, length-append (get_or (pages (table_lines st 0 rows)) k []) (ascii "\n"))

---------------------------------------------------------------- what follows
-- IN A BUFFER OF 81 BYTES nothing is written exactly where no line is left.
pub pages-done : (s : List ℕ) (from : ℕ) (o o' : List ℕ) (r : Piece) → PageTextIs s from o o' r → 81 ≤ length o
    → (r.end ≡ 0 → page_count (judged s program_lengths) ≤ from) × (page_count (judged s program_lengths) ≤ from → r.end ≡ 0)
pages-done s from o o' r a long =
    let j = judged s program_lengths in (λ e. done_none a (page-some j) long e, λ h. done_end a (page-some j) h)

-- A BUFFER THAT HOLDS ALL PAGES gets all of them, from its start on, when the first line is asked for.
pub pages-whole : (s o o' : List ℕ) (r : Piece) → PageTextIs s 0 o o' r → length (paged (judged s program_lengths)) ≤ length o
    → Wrote o 0 (paged (judged s program_lengths)) o' r.end
pages-whole s o o' r a long =
    let j = judged s program_lengths in
    let z : page_count j - 0 ≡ page_count j = omega arith in
    let e = ap (lines_from (page_line_of j) 0) z ∙ sym (lines-paged j) in
    wrote_as e (whole-written a (page-some j) (omega arith) (omega (arith, ap length e)))
