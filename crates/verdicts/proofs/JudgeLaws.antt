-- The judgement of a sheet that was read: its rows and answers are those that were written, with the zeros that stood behind
-- them, and its store is the one that is left. A refused sheet leaves zeros.
use Prim.Native.Nat.{ℕ, zero, suc, ◌+◌, ◌*◌, ◌-◌, ◌≤◌, ◌<◌}
use mathlib.Core.Path.{◌≡◌, refl, sym, ap, ap₂, subst, ◌∙◌}
use mathlib.Core.List.{List, ◌∷◌, ◌++◌}
use native.Mathlib.Omega.{arith}
use lib.ListN.{length, get_or, take, drop, replicate, length-drop, length-replicate}
use lib.Seq.{ext_get_or, get_or-drop, get_or-take, length-take-le}
use Rattle.record.specs.Sort.{Sort, size}
use Rattle.record.specs.Record.{leaf}
use Rattle.record.specs.Codec.{size-read}
use Rattle.record.specs.Store.{padded, store_bytes, store_places}
use Rattle.record.specs.Decode.{fields_at, store_of, sort_at, Stored, Zeros}
use Rattle.record.specs.StoreLaws.{store_of-length}
use Rattle.reader.specs.declared.Refusal.{Refusal}
use Rattle.sheet.specs.Sheet.{Lengths, Sheet, Reading, TermFields, QuestionFields, read_sheet}
use Rattle.sheet.specs.Sheet.Reading.{read_refused as unread, got}
use Rattle.sheet.specs.Trees.{trees_of}
use Rattle.sheet.specs.Contract.{term_read_at, terms_at, question_read_at, questions_at, sheet_in, each_at, QuestionStands, SheetStands, SheetAccepted}
use Rattle.sheet.specs.Stands.{each-length, zeros-all}
use Rattle.sheet.specs.declared.SheetCounts.{SheetCounts}
use Rattle.store.specs.Good.{Good, good-bytes, good-places}
use Rattle.matching_tables.specs.Tables.{Blank}
use Rattle.check_rules.specs.Ranks.{smt_lib}
use Rattle.row_answer.specs.Lent.{Lent}
use Rattle.judge_rules.specs.Rows.{RowsSoFar, rows_of}
use Rattle.judge_rules.proofs.RowLaws.{rows-count}
use Rattle.judge_rules.specs.Questions.{AnswersSoFar, answers_of}
use Rattle.judge_rules.specs.QuestionLaws.{answers-count}
use Rattle.judge_rules.specs.Judged.{Judgement, sheet_refused, accepted, judged_sheet, judged_by, judged, records_after, places_after, rows_after, answers_after}
use Rattle.questions.specs.All.{AllAsks, AllIs, stands-asks, trees-starts, answering-start, answering-end}
use Rattle.questions.specs.Word.{Counts}
use Rattle.row_table.specs.Table.{RowsAsk, RowsAre}
use Rattle.verdicts.specs.Judge.{Outcome, Accepted, Refused, lengths_of, outcome_of, number_of_outcome, Reads, ReadsBack, JudgeIs, NumberIs, ClearedAsks, AcceptedAsks, judge-number}

---------------------------------------------------------------- zeros
-- Zeros with their first entries taken off.
drop-zeros : (k : ℕ) (w : List ℕ) → Zeros w 0 → drop k w ≡ replicate (length w - k) 0
drop-zeros k w z =
    ext_get_or 0 (drop k w) (replicate (length w - k) 0) (length-drop k w ∙ sym (length-replicate {A = ℕ} (length w - k) 0))
    (λ i h. get_or-drop k w i 0 ∙ z (k + i) (omega arith) ∙ sym (zeros-all (length w - k) i (omega arith)))

-- Values written over zeros are those values, padded.
over_zeros : (vs : List ℕ) {w w' : List ℕ} (k : ℕ) → w ≡ replicate (length w) 0 → length vs ≡ k → w' ≡ vs ++ drop k w → w' ≡ padded (length w) vs
unfolding padded
over_zeros vs {w} {w'} k z e h =
    h ∙ ap (λ (r : List ℕ). vs ++ r) (drop-zeros k w (subst (λ (r : List ℕ). Zeros r 0) (sym z) (zeros-all (length w))))
    ∙ ap (λ (j : ℕ). vs ++ replicate (length w - j) 0) (sym e)

-- THE LIBRARY'S OWN TABLES, all zeros: those of names, and those that a sheet is read with.
pub blank-tables : Blank (replicate 65536 0) (replicate 65536 0) (replicate 4160 0)
blank-tables =
    record {
      table = length-replicate {A = ℕ} 65536 0;
      zeros = zeros-all 65536;
      cleared =
          record {
            names = length-replicate {A = ℕ} 65536 0;
            order = length-replicate {A = ℕ} 4160 0;
            images = zeros-all 65536;
            bound = zeros-all 4160;
          };
    }

---------------------------------------------------------------- the judgement by what was read
judged-by : (s : List ℕ) (l : Lengths) (r : Reading Sheet) → read_sheet s l ≡ r → judged s l ≡ judged_sheet smt_lib l r
unfolding judged judged_by
judged-by s l r e = ap (judged_sheet smt_lib l) e

-- A good store is read back.
reads-good : {b p ix : List ℕ} {n u : ℕ} → Good b p ix n u → (st : List Sort) → store_of b p n ≡ st → Reads b p st
unfolding sort_at
reads-good {b} {p} {ix} {n} {u} g st e =
    let c : n ≡ length st = sym (store_of-length b p n) ∙ ap length e in
    record {
      stored = subst (λ (m : ℕ). Stored b p m) c g.stored;
      back = subst (λ (m : ℕ). store_of b p m ≡ st) c e;
      small = subst (λ (m : ℕ). (k : ℕ) → k < m → size (sort_at b p m k) ≤ 4096) c g.sized.small;
      sizes = λ k l.
          size-read (size (sort_at b p n k)) (fields_at b (get_or p k 0)) b (get_or p k 0) (g.sized.each k (omega (arith, c))).stands
          ∙ ap (λ (x : List Sort). size (get_or x k leaf)) e;
    }

-- The promise for a judgement that is known.
judge-as : (s : List ℕ) (l : Lengths) (j : Judgement) {b p rw an : List ℕ} → judged s l ≡ j → b ≡ records_after l j → p ≡ places_after l j → rw ≡ rows_after l j
    → an ≡ answers_after l j → ReadsBack j b p → JudgeIs s l b p rw an (outcome_of j)
judge-as s l j {b} {p} {rw} {an} e eb ep er ea back =
    let f = sym e in
    record {
      outcome = ap outcome_of f;
      buffers =
          record {
            records = eb ∙ ap (records_after l) f;
            places = ep ∙ ap (places_after l) f;
            rows = er ∙ ap (rows_after l) f;
            answers = ea ∙ ap (answers_after l) f;
            reads = subst (λ (x : Judgement). ReadsBack x b p) f back;
          };
    }

---------------------------------------------------------------- the places of the questions alone
each-taken : {A : Type 0} (f : ℕ → ℕ → A) (ys : List ℕ) (c i : ℕ) → i ≤ c → each_at f (take c ys) i ≡ each_at f ys i
unfolding each_at
each-taken f ys c zero o = refl
each-taken {A} f ys c (suc i) o = ap₂ (λ (k : ℕ) (r : List A). f i k ∷ r) (get_or-take c ys i 0 (omega arith)) (each-taken f ys c i (omega arith))

same-questions : (s : List ℕ) (ts : List Sort) (ys : List ℕ) (c : ℕ) → c ≤ length ys → questions_at s ts (take c ys) (length (take c ys)) ≡ questions_at s ts ys c
same-questions s ts ys c inside = ap (questions_at s ts (take c ys)) (length-take-le c ys inside) ∙ each-taken (question_read_at s ts) ys c c (omega arith)

module _ {b p : List ℕ} {n : ℕ} {prm imgs bnd s tbl : List ℕ} {m : ℕ} {ys : List ℕ} {c : ℕ} {an : List ℕ} (inside : c ≤ length ys) where
  pub asks-taken : {ix : List ℕ} {u : ℕ} → AllAsks b p ix n u prm imgs bnd s tbl m ys c an → AllAsks b p ix n u prm imgs bnd s tbl m (take c ys) (length (take c ys)) an
  asks-taken h =
      let e : length (take c ys) ≡ c = length-take-le c ys inside in
      record {
        good = h.good;
        blank = h.blank;
        numbered = h.numbered;
        stands = λ i o. subst (QuestionStands s m) (sym (get_or-take c ys i 0 (omega arith))) (h.stands i (omega arith));
        asked = omega arith;
        room = omega (arith, h.room);
        few = omega (arith, h.few);
      }

  pub answers-taken : {b' p' ix' prm' imgs' bnd' an' : List ℕ} {r : Counts} → AllIs b p n prm imgs bnd s tbl m (take c ys) (length (take c ys)) an b' p' ix' prm' imgs' bnd' an' r
      → AllIs b p n prm imgs bnd s tbl m ys c an b' p' ix' prm' imgs' bnd' an' r
  answers-taken o =
      let q = same-questions s (trees_of (store_of b p n) tbl m) ys c inside in
      record {
        good = o.good;
        long = o.long;
        wide = o.wide;
        after = λ l f g. o.after l f g ∙ ap (λ (z : List QuestionFields). (answers_of l (store_of b p n) z).store) q;
        written = λ l f g.
            o.written l f g
            ∙ ap₂ (λ (z : List QuestionFields) (k : ℕ). (answers_of l (store_of b p n) z).answers ++ drop k an) q (length-take-le c ys inside);
        starts = o.starts;
        params = o.params;
        images = o.images;
        bound = o.bound;
      }

---------------------------------------------------------------- the rows and answers of a sheet that was read
module _ {s b p ix tbl xs ys : List ℕ} {c : SheetCounts} {rw an : List ℕ} (a : AcceptedAsks s b p ix tbl xs ys c rw an) where
  abbrev lengths : Lengths
  lengths = lengths_of b p rw an

  abbrev stands : SheetStands s b p ix tbl xs ys c
  stands = a.accepted.stands

  -- The sheet's sorts, terms and questions.
  abbrev sorts : List Sort
  sorts = trees_of (store_of b p c.count) tbl c.sorts

  abbrev terms : List TermFields
  terms = terms_at s sorts xs c.terms

  abbrev questions : List QuestionFields
  questions = questions_at s sorts ys c.questions

  pub rows-ask : {prm imgs bnd : List ℕ} → Lent b p c.count prm imgs bnd
      → RowsAsk b p ix c.count c.used prm imgs bnd s tbl c.sorts xs c.terms rw
  rows-ask {prm} {imgs} {bnd} tables =
      record {
        good = stands.good;
        tables = tables;
        numbered =
            record { inside = omega (arith, a.table, a.accepted.few_sorts); known = stands.known; short = a.accepted.short };
        stands = stands.terms;
        placed = omega (arith, a.terms, a.accepted.few_terms);
        room = a.accepted.lent_rows;
        few = a.accepted.few_terms;
      }

  -- After the rows.
  module _ {prm imgs bnd b₁ p₁ ix₁ prm₁ imgs₁ bnd₁ rw₁ : List ℕ} {r : Counts} (t : RowsAre b p c.count prm imgs bnd s tbl c.sorts xs c.terms rw b₁ p₁ ix₁ prm₁ imgs₁ bnd₁ rw₁ r) where
    -- Over any tables of all names.
    asks-over : {g l d : List ℕ} → Blank g l d → AllAsks b₁ p₁ ix₁ r.count r.used g l d s tbl c.sorts ys c.questions an
    asks-over {g} {l} {d} blank =
        stands-asks s b p ix tbl xs ys c stands b₁ p₁ ix₁ r.count r.used t.good t.starts g l d an blank
        (omega (arith, a.table, a.accepted.few_sorts)) (omega (arith, a.questions, a.accepted.few_questions)) a.accepted.lent_answers
        a.accepted.few_questions a.accepted.short

    pub answers-ask : Blank prm imgs bnd → AllAsks b₁ p₁ ix₁ r.count r.used prm₁ imgs₁ bnd₁ s tbl c.sorts ys c.questions an
    answers-ask blank =
        asks-over
        (subst (λ (z : List ℕ). Blank z imgs₁ bnd₁) (sym t.params)
        (subst (λ (z : List ℕ). Blank prm z bnd₁) (sym t.images) (subst (λ (z : List ℕ). Blank prm imgs z) (sym t.bound) blank)))

    -- The store after the rows, and the questions over it.
    abbrev tabled : RowsSoFar
    tabled = rows_of smt_lib lengths (store_of b p c.count) terms

    ruled : store_of b₁ p₁ r.count ≡ tabled.store
    ruled = t.after lengths refl refl

    asked : questions_at s (trees_of (store_of b₁ p₁ r.count) tbl c.sorts) ys c.questions ≡ questions
    asked =
        ap (λ (ts : List Sort). questions_at s ts ys c.questions)
        (trees-starts (store_of b p c.count) (store_of b₁ p₁ r.count) tbl c.sorts t.starts
        (λ j o. omega (arith, stands.known j o, store_of-length b p c.count)))

    -- After the answers: THE JUDGEMENT.
    module _ {g l d b₂ p₂ ix₂ prm₂ imgs₂ bnd₂ an₂ : List ℕ} {q : Counts} (o : AllIs b₁ p₁ r.count g l d s tbl c.sorts ys c.questions an b₂ p₂ ix₂ prm₂ imgs₂ bnd₂ an₂ q) where
      abbrev answered : AnswersSoFar
      answered = answers_of lengths tabled.store questions

      same-answers : answers_of lengths (store_of b₁ p₁ r.count) (questions_at s (trees_of (store_of b₁ p₁ r.count) tbl c.sorts) ys c.questions) ≡ answered
      same-answers = ap₂ (λ (st : List Sort) (qs : List QuestionFields). answers_of lengths st qs) ruled asked

      left-store : store_of b₂ p₂ q.count ≡ answered.store
      left-store = o.after lengths (sym t.long) (sym t.wide) ∙ ap (λ (z : AnswersSoFar). z.store) same-answers

      left-answers : an₂ ≡ answered.answers ++ drop c.questions an
      left-answers =
          o.written lengths (sym t.long) (sym t.wide)
          ∙ ap (λ (z : AnswersSoFar). z.answers ++ drop c.questions an) same-answers

      judgement : judged s lengths ≡ accepted (sheet_in s b p tbl xs ys c) answered.store tabled.rows answered.answers
      judgement = judged-by s lengths (got (sheet_in s b p tbl xs ys c) (length s)) a.accepted.result

      pub judge-written : JudgeIs s lengths b₂ p₂ rw₁ an₂ Accepted
      unfolding records_after places_after rows_after answers_after
      judge-written =
          judge-as s lengths (accepted (sheet_in s b p tbl xs ys c) answered.store tabled.rows answered.answers) judgement
          (good-bytes b₂ p₂ ix₂ q.count q.used o.good
          ∙ ap₂ store_bytes (o.long ∙ t.long) left-store)
          (good-places b₂ p₂ ix₂ q.count q.used o.good
          ∙ ap₂ store_places (o.wide ∙ t.wide) left-store)
          (over_zeros tabled.rows (2 * c.terms) a.cleared.rows
          (rows-count smt_lib lengths (store_of b p c.count) terms ∙ ap (λ (k : ℕ). 2 * k) (each-length (term_read_at s sorts) xs c.terms))
          (t.written lengths refl refl))
          (over_zeros answered.answers c.questions a.cleared.answers
          (answers-count lengths tabled.store questions ∙ each-length (question_read_at s sorts) ys c.questions)
          left-answers)
          (reads-good o.good answered.store left-store)

    -- Without questions the rows are all there is to write.
    pub judge-unasked : c.questions ≡ 0 → JudgeIs s lengths b₁ p₁ rw₁ an Accepted
    judge-unasked e =
        let h = asks-over blank-tables in
        judge-written (answering-end h (answering-start h) (sym e))

---------------------------------------------------------------- reading first
-- Buffers as long as those have their lengths.
lengths-same : (b p rw an b₁ p₁ rw₁ an₁ : List ℕ) → length b₁ ≡ length b → length p₁ ≡ length p → length rw₁ ≡ length rw → length an₁ ≡ length an
    → lengths_of b₁ p₁ rw₁ an₁ ≡ lengths_of b p rw an
lengths-same b p rw an b₁ p₁ rw₁ an₁ eb ep er ea =
    ap₂ (λ (i j : ℕ). record { records = i; places = j; rows = length rw₁; answers = length an₁ }) eb ep
    ∙ ap₂ (λ (i j : ℕ). record { records = length b; places = length p; rows = i; answers = j }) er ea

-- WHAT THE READER PROMISES of an accepted sheet is what its judgement asks.
pub accepted-ask : {s : List ℕ} (b p : List ℕ) {rw an : List ℕ} → ClearedAsks rw an → {b₁ p₁ ix tbl xs ys : List ℕ} {c : SheetCounts}
    → SheetAccepted s (lengths_of b p rw an) b₁ p₁ ix tbl xs ys c
    → length tbl ≡ 2048 → length xs ≡ 4096 → length ys ≡ 1024
    → AcceptedAsks s b₁ p₁ ix tbl xs ys c rw an
accepted-ask {s} b p {rw} {an} z {b₁} {p₁} {ix} {tbl} {xs} {ys} {c} a et ex ey =
    record {
      accepted =
          subst (λ (l : Lengths). SheetAccepted s l b₁ p₁ ix tbl xs ys c)
          (lengths-same b₁ p₁ rw an b p rw an (sym a.long) (sym a.wide) refl refl) a;
      table = et;
      terms = ex;
      questions = ey;
      cleared = z;
    }

-- The same of tables that hold the same numbers.
pub accepted-moved : {s b p ix tbl xs ys tbl' xs' ys' rw an : List ℕ} {c : SheetCounts} → AcceptedAsks s b p ix tbl xs ys c rw an → tbl' ≡ tbl → xs' ≡ xs → ys' ≡ ys
    → AcceptedAsks s b p ix tbl' xs' ys' c rw an
accepted-moved h e f g = rw (e, f, g) h

-- A REFUSED SHEET, whose two buffers of the store are zeroed again.
pub refused-is : (s b p : List ℕ) {rw an : List ℕ} → ClearedAsks rw an → (e : Refusal) (b₁ p₁ : List ℕ) {b₂ p₂ : List ℕ}
    → (read_sheet s (lengths_of b p rw an) ≡ unread e) × (length b₁ ≡ length b) × (length p₁ ≡ length p)
    → b₂ ≡ replicate (length b₁) 0 → p₂ ≡ replicate (length p₁) 0 → JudgeIs s (lengths_of b p rw an) b₂ p₂ rw an (Refused e)
unfolding records_after places_after rows_after answers_after
refused-is s b p {rw} {an} z e b₁ p₁ {b₂} {p₂} h eb ep =
    let l = lengths_of b p rw an in
    judge-as s l (sheet_refused e) (judged-by s l (unread e) h.0) (eb ∙ ap (λ (n : ℕ). replicate n 0) h.1)
    (ep ∙ ap (λ (n : ℕ). replicate n 0) h.2) z.rows z.answers tt

-- THE PROMISE is over lengths alone: those at entry, where buffers were written on the way.
pub judge-over : {s : List ℕ} (b p rw an b₁ p₁ rw₁ an₁ : List ℕ) {b₂ p₂ rw₂ an₂ : List ℕ} {o : Outcome} → length b₁ ≡ length b → length p₁ ≡ length p
    → length rw₁ ≡ length rw → length an₁ ≡ length an
    → JudgeIs s (lengths_of b₁ p₁ rw₁ an₁) b₂ p₂ rw₂ an₂ o → JudgeIs s (lengths_of b p rw an) b₂ p₂ rw₂ an₂ o
judge-over {s} b p rw an b₁ p₁ rw₁ an₁ {b₂} {p₂} {rw₂} {an₂} {o} eb ep er ea j =
    subst (λ (l : Lengths). JudgeIs s l b₂ p₂ rw₂ an₂ o) (lengths-same b p rw an b₁ p₁ rw₁ an₁ eb ep er ea) j

-- The same bytes and places.
pub judge-moved : {s : List ℕ} {l : Lengths} {b p rw an : List ℕ} {o : Outcome} → JudgeIs s l b p rw an o → {b' p' : List ℕ} → b ≡ b' → p ≡ p' → JudgeIs s l b' p' rw an o
judge-moved {s} {l} {b} {p} {rw} {an} {o} j {b'} {p'} eb ep =
    subst (λ (x : List ℕ). JudgeIs s l b' x rw an o) ep (subst (λ (x : List ℕ). JudgeIs s l x p rw an o) eb j)

---------------------------------------------------------------- the number
pub number_is : {s : List ℕ} {l : Lengths} {b p rw an : List ℕ} {o : Outcome} {r : ℕ} → JudgeIs s l b p rw an o → r ≡ number_of_outcome o → NumberIs s l b p rw an r
number_is {s} {l} {b} {p} {rw} {an} {o} {r} j e = record { number = e ∙ judge-number j; buffers = j.buffers }
