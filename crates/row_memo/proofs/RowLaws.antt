-- The row of a record in a column, looked up or judged: the verdict on an App is one on the sorts of its head and its arguments, so
-- what is noted of these is its row.
use Prim.Native.Nat.{ℕ, zero, suc, ◌*◌, ◌/◌, ◌≤◌, ◌<◌}
use mathlib.Core.Path.{◌≡◌, refl, sym, ap, ap₂, subst, ◌∙◌}
use mathlib.Core.Bool.{Bool, true, false}
use mathlib.Core.List.{List}
use mathlib.Core.Logic.{⊎_elim}
use native.Mathlib.Omega.{arith}
use native.Mathlib.Nat.{mul-div_cancel}
use lib.ListN.{length, get_or}
use Rattle.record.specs.Kinds.{term_number}
use Rattle.record.specs.Number.{numbers_at}
use Rattle.record.specs.Codec.{length-numbers_at, number_at}
use Rattle.record.specs.Sort.{Sort, Sorts}
use Rattle.record.specs.Record.{sorts_of}
use Rattle.record.specs.Store.{intern, room}
use Rattle.record.specs.Decode.{store_of}
use Rattle.record.specs.StoreLaws.{store_of-length}
use Rattle.record.specs.SortLists.{starts-self, starts-count}
use Rattle.record.specs.Entries.{store-ordered}
use Rattle.reader.specs.declared.TermRecord.{TermRecord}
use Rattle.sheet.specs.Sheet.{Lengths}
use Rattle.store.specs.Good.{Good}
use Rattle.row_rules.specs.declared.Cause.{Cause}
use Rattle.row_rules.specs.declared.Cause.TheVariants.{Below}
use Rattle.std.specs.Prelude.{Result, Ok, Err}
use Rattle.row_rules.specs.Verdict.{Verdict, sort, refused, number_of, code_of}
use Rattle.row_rules.specs.Term.{Site}
use Rattle.row_rules.specs.Outcome.{within, CodedStore, outcome}
use Rattle.row_rules.specs.Outcomes.{answered}
use Rattle.row_rules.proofs.OutcomeLaws.{any-accepted, interned-at, room-few}
use Rattle.infer_rules.specs.Inferred.{inferred, inferred_app}
use Rattle.check_rules.specs.Ranks.{smt_lib}
use Rattle.check_rules.specs.Checked.{checked, checked_app}
use Rattle.row_answer.specs.Answer.{Answer}
use Rattle.row_answer.specs.Answer.{AnswerIs, AnswerLeft, refusing}
use Rattle.row_answer.specs.declared.arguments.Column.{Column}
use Rattle.row_answer.specs.Arguments.{column_number}
use Rattle.row_answer.specs.AnswerLaws.{judged-as, answered-as, answer-number}
use Rattle.row_application.specs.Contract.{AppAsks, AppIs, Crowded, AppCrowded}
use Rattle.row_parts.specs.Site.{site_over, term_verdict, TermIs, SiteAsks, SiteIs, PartsJudgedIs}
use Rattle.row_parts.specs.SiteLaws.{parts-site, site-row, below_row, count-few}
use Rattle.row_slots.specs.declared.Look.{Look}
use Rattle.row_slots.specs.declared.Look.TheVariants.{Apart, Noted, Open}
use Rattle.row_slots.specs.Slots.{code_end, no_room, PastSays, Tells, LackAsks, Lacks, LackIs, LookFound, RowNoteAsks, RowNotedIs, Coded, AgainIs, LookAsks, Looked, LookedIs}
use Rattle.row_memo.specs.Past.{column_verdict, judging_app, AppTold, PastOf, PastAsks, PastIs}
use Rattle.row_memo.specs.Again.{outcome-settled}
use Rattle.row_memo.specs.PastLaws.{past-grown, sorts-grown}

---------------------------------------------------------------- the verdict
-- THE VERDICT ON AN APP is one on the sorts of its head and its arguments.
inferred-app : (z : Site) → z.kind ≡ 6 → inferred z ≡ inferred_app z.args
unfolding inferred
inferred-app z e = rw e refl

checked-app : (z : Site) → z.kind ≡ 6 → checked smt_lib z ≡ checked_app z.args
unfolding checked
checked-app z e = rw e refl

app-verdict : (column : ℕ) (z : Site) → z.kind ≡ 6 → column_verdict column z ≡ judging_app column z.args
unfolding column_verdict judging_app
app-verdict zero z e = inferred-app z e
app-verdict (suc c) z e = checked-app z e

-- The rules of the two columns.
module _ {b p : List ℕ} {n : ℕ} {prm imgs bnd s tbl xs : List ℕ} {r : TermRecord} {a b' p' ix' prm' imgs' bnd' : List ℕ} {w : Answer} where
  pub by-inferred : SiteIs inferred b p n prm imgs bnd s tbl xs r a b' p' ix' prm' imgs' bnd' w → SiteIs (column_verdict 0) b p n prm imgs bnd s tbl xs r a b' p' ix' prm' imgs' bnd' w
  unfolding column_verdict
  by-inferred i = i

  pub by-checked : SiteIs (checked smt_lib) b p n prm imgs bnd s tbl xs r a b' p' ix' prm' imgs' bnd' w → SiteIs (column_verdict 1) b p n prm imgs bnd s tbl xs r a b' p' ix' prm' imgs' bnd' w
  unfolding column_verdict
  by-checked i = i

-- An App in the place of the checked row: what it asks, and that it is the row.
module _ {b p ix : List ℕ} {n u : ℕ} {prm imgs bnd s tbl xs : List ℕ} {r : TermRecord} {a : List ℕ} (h : SiteAsks b p ix n u prm imgs bnd s tbl xs r a) where
  pub app-asks : AppAsks b p ix n u prm imgs bnd a r.list.count
  app-asks = record { good = h.asks.good; tables = h.asks.tables; few = count-few h.asks.standing; room = h.asks.room; below = h.below }

  pub app-row : term_number r.kind ≡ 6 → {b' p' ix' prm' imgs' bnd' : List ℕ} {w : Answer}
      → AppIs (checked_app (sorts_of (store_of b p n) (numbers_at a 3 r.list.count))) b p n prm imgs bnd b' p' ix' prm' imgs' bnd' w
      → SiteIs (checked smt_lib) b p n prm imgs bnd s tbl xs r a b' p' ix' prm' imgs' bnd' w
  app-row k e =
      record { answer = judged-as (checked-app (site_over (store_of b p n) s tbl xs a r) k) e.answer; params = e.params; images = e.images; bound = e.bound }

---------------------------------------------------------------- the columns
pub column-few : (c : Column) → column_number c ≤ 1
column-few Column.Inferred = omega arith
column-few Column.Checked = omega arith

-- A column by its number.
module _ {i j : ℕ} (e : i ≡ j) where
  pub parts-in : {s rows : List ℕ} {r : TermRecord} {key : List ℕ} {t : Bool} → PartsJudgedIs s rows i r key t → PartsJudgedIs s rows j r key t
  parts-in {s} {rows} {r} {key} {t} d = subst (λ (k : ℕ). PartsJudgedIs s rows k r key t) e d

  pub looked-in : {r : TermRecord} {key ws ws' : List ℕ} {q : Look} → LookedIs r key i ws ws' q → LookedIs r key j ws ws' q
  looked-in {r} {key} {ws} {ws'} {q} l = subst (λ (k : ℕ). LookedIs r key k ws ws' q) e l

  pub asks-in : {b p : List ℕ} {r : TermRecord} {key : List ℕ} → LookAsks b p r key j → LookAsks b p r key i
  asks-in {b} {p} {r} {key} h = subst (LookAsks b p r key) (sym e) h

---------------------------------------------------------------- codes
-- The numbers of the causes.
cause-range : (c : Cause) → (20 ≤ number_of c) × (number_of c ≤ 29)
cause-range Cause.Below = (omega arith, omega arith)
cause-range Cause.Panics = (omega arith, omega arith)
cause-range Cause.Limit = (omega arith, omega arith)
cause-range Cause.Full = (omega arith, omega arith)
cause-range Cause.NoRank = (omega arith, omega arith)
cause-range Cause.Count = (omega arith, omega arith)
cause-range Cause.Misfit = (omega arith, omega arith)
cause-range Cause.Unassigned = (omega arith, omega arith)
cause-range Cause.Barred = (omega arith, omega arith)
cause-range Cause.NoAssignment = (omega arith, omega arith)

-- The code of an outcome: a number, or a cause times 65,536. It has three bytes.
cause-coded : (c : Cause) → Coded (number_of c * 65536)
cause-coded c =
    let r = cause-range c in
    let d : number_of c * 65536 / 65536 ≡ number_of c = mul-div_cancel (number_of c) (omega arith) in
    record { low = λ h. omega (arith, d, r.0); high = λ h. omega (arith, d, r.1); whole = λ h. ap (λ (k : ℕ). k * 65536) d }

cause-small : (c : Cause) → number_of c * 65536 < code_end
cause-small c = omega (arith, (cause-range c).1)

small-coded : (c : ℕ) → c < 65536 → Coded c
small-coded c l = record { low = λ h. absurd (omega arith); high = λ h. absurd (omega arith); whole = λ h. absurd (omega arith) }

coded_by : (l : Lengths) (st : List Sort) (s : Sort) (w r : Bool) → room l.records l.places (intern s st) ≡ r → Coded (answered l st s w r).code
coded_by l st s true true e =
    small-coded (answered l st s true true).code (omega (arith, (interned-at s st).0, room-few l.records l.places (intern s st) e))
coded_by l st s true false e = cause-coded Cause.Full
coded_by l st s false r e = cause-coded Cause.Limit

outcome-coded : (l : Lengths) (st : List Sort) (v : Verdict) → Coded (outcome l st v).code
unfolding outcome
outcome-coded l st (sort s) = coded_by l st s (within s) (room l.records l.places (intern s st)) refl
outcome-coded l st (refused c) = cause-coded c

---------------------------------------------------------------- an answer that adds nothing
-- Lengths of the two lent buffers that a store is in.
abbrev lent : List ℕ → List ℕ → Lengths
lent b p = record { records = length b; places = length p; rows = 0; answers = 0 }

module _ {b p ix : List ℕ} {n u : ℕ} (g : Good b p ix n u) (v : Verdict) where
  abbrev here : List Sort
  here = store_of b p n

  again-left : (w : Result ℕ Cause) → ((k : ℕ) → w ≡ Ok k → k < 65536) → outcome (lent b p) here v ≡ record { store = here; code = code_of w } → AnswerLeft here here w
  again-left (Ok k) small e =
      let o : (outcome (lent b p) here v).code ≡ k = ap (λ (x : CodedStore). x.code) e in
      let (s, ev, at) = any-accepted (lent b p) here v (omega (arith, o, small k refl)) in
      omega (arith, o, at.below, ap (λ (x : CodedStore). length x.store) e)
  again-left (Err c) small e = refl

  -- AN OUTCOME THAT ADDS NOTHING is the answer, over the store as it was.
  pub answer-again : {c : ℕ} {w : Answer} → AgainIs c n u w
      → ((l : Lengths) → l.records ≡ length b → l.places ≡ length p → outcome l here v ≡ record { store = here; code = c }) → AnswerIs b p n v b p ix w
  answer-again {c} {w} i e =
      let is : (l : Lengths) → l.records ≡ length b → l.places ≡ length p → outcome l here v ≡ record { store = here; code = code_of w.verdict } =
      λ l x y. e l x y ∙ ap (λ (k : ℕ). record { store = here; code = k }) (sym i.code) in
      let same : w ≡ record { verdict = w.verdict; count = n; used = u } =
      ap₂ (λ (m k : ℕ). record { verdict = w.verdict; count = m; used = k }) i.count i.used in
      answered-as same
      (record {
        good = g;
        long = refl;
        wide = refl;
        is = is;
        starts = starts-self here;
        left = again-left w.verdict i.small (is (lent b p) refl refl);
      })

---------------------------------------------------------------- the row
module _ {column : ℕ} {b p ix : List ℕ} {n u : ℕ} {prm imgs bnd s tbl xs rows : List ℕ} {r : TermRecord} {a ws : List ℕ}
    (h : PastAsks column b p ix n u prm imgs bnd s tbl xs rows r a ws) where
  abbrev st : List Sort
  st = store_of b p n

  -- A part has no row.
  pub row_below : {key : List ℕ} {w : Answer} → PartsJudgedIs s rows column r key false → w ≡ refusing Below n u
      → PastIs column b p n prm imgs bnd s tbl xs rows r b p ix prm imgs bnd w ws
  row_below d e = record { row = below_row refl d h.asks.good e; past = subst (λ (x : Answer). PastOf b p x.count ws) (sym e) h.past }

  -- The parts are gathered: their numbers stand in key.
  module _ {key : List ℕ} (long : length key ≡ length a) (d : PartsJudgedIs s rows column r key true) where
    abbrev numbers : List ℕ
    numbers = numbers_at key 3 r.list.count

    pub site-asks : SiteAsks b p ix n u prm imgs bnd s tbl xs r key
    site-asks = parts-site h.asks long refl d

    pub look-asks : column ≤ 1 → LookAsks b p r key column
    look-asks side =
        let few = count-few h.asks.standing in
        record { side = side; count = n; stored = h.asks.good.stored; below = d.below refl n tbl xs h.asks.standing; few = few; within = omega (arith, long, h.asks.room, few) }

    verdict-is : term_number r.kind ≡ 6 → term_verdict (column_verdict column) st s tbl xs rows column r ≡ judging_app column (sorts_of st numbers)
    verdict-is k = d.judged refl (column_verdict column) st tbl xs ∙ app-verdict column (site_over st s tbl xs key r) k

    module _ {ws' : List ℕ} {q : Look} (l : LookedIs r key column ws ws' q) where
      past-less : PastOf b p n ws'
      past-less = record { each = λ slot k c x. h.past.each slot k c (l.less slot k c x) }

      -- No room for the inferred sort of an App: what is asked for the note, and what it says.
      lack-by : (v : Look) → LookFound ws ws' column numbers r.list.count v → LackAsks key r.list.count v
      lack-by Apart f = tt
      lack-by (Noted c) f = tt
      lack-by (Open at) f = record { some = f.ready.some; few = f.ready.few; within = omega (arith, long, h.asks.room, f.ready.few) }

      pub lack-asks : LackAsks key r.list.count q
      lack-asks = lack-by q l.found

      crowded-by : (v : Look) → Lacks ws' key r.list.count v → Crowded b p n (inferred_app (sorts_of st numbers))
      unfolding judging_app
      crowded-by Apart x = absurd x
      crowded-by (Noted c) x = absurd x
      crowded-by (Open at) x =
          (subst (λ (i : ℕ). AppTold (judging_app i) (length b) (length p) st numbers no_room) x.side (past-less.each x.slot numbers no_room x.says)).is

      pub row-crowded : {t : Bool} → LackIs ws' key r.list.count q t → AppCrowded t b p n key r.list.count
      row-crowded i e = crowded-by q (i e)

      -- A noted row: its code, and the row of that code.
      module _ (c : ℕ) (e : q ≡ Noted c) where
        told_here : AppTold (judging_app column) (length b) (length p) st numbers c
        told_here =
            let f : Tells ws column numbers c = subst (LookFound ws ws' column numbers r.list.count) e l.found in
            subst (λ (k : ℕ). AppTold (judging_app k) (length b) (length p) st numbers c) f.side (h.past.each f.slot numbers c f.says)

        pub row-coded : Coded c
        row-coded =
            subst (λ (x : CodedStore). Coded x.code) (told_here.is (lent b p) refl refl) (outcome-coded (lent b p) st (judging_app column (sorts_of st numbers)))

        pub row-recalled : {w : Answer} → AgainIs c n u w → PastIs column b p n prm imgs bnd s tbl xs rows r b p ix prm imgs bnd w ws'
        row-recalled {w} i =
            record {
              row =
                  record {
                    answer =
                        judged-as (verdict-is (subst (Looked r) e l.looked))
                        (answer-again h.asks.good (judging_app column (sorts_of st numbers)) i told_here.is);
                    params = refl;
                    images = refl;
                    bound = refl;
                  };
              past = subst (λ (m : ℕ). PastOf b p m ws') (sym i.count) past-less;
            }

      -- A new answer is the row, and may be noted.
      module _ {b' p' ix' prm' imgs' bnd' : List ℕ} {w : Answer}
          (i : SiteIs (column_verdict column) b p n prm imgs bnd s tbl xs r key b' p' ix' prm' imgs' bnd' w) where
        abbrev st' : List Sort
        st' = store_of b' p' w.count

        abbrev verdict : Verdict
        verdict = term_verdict (column_verdict column) st s tbl xs rows column r

        row_is : TermIs (column_verdict column) column b p n prm imgs bnd s tbl xs rows r b' p' ix' prm' imgs' bnd' w
        row_is = site-row refl d i

        code-small : (v : Result ℕ Cause) → w.verdict ≡ v → code_of v < code_end
        code-small (Ok k) e = omega (arith, (answer-number b p n verdict b' p' ix' w row_is.answer k e).1)
        code-small (Err c) e = cause-small c

        numbers-below : (j : ℕ) → j < length numbers → get_or numbers j 0 < length st
        numbers-below j o =
            let m : j < r.list.count = omega (arith, length-numbers_at key 3 r.list.count) in
            omega (arith, number_at key 3 r.list.count j m, d.below refl n tbl xs h.asks.standing j m, store_of-length b p n)

        new_told : term_number r.kind ≡ 6 → AppTold (judging_app column) (length b') (length p') st' numbers (code_of w.verdict)
        new_told k =
            let z = row_is.answer in
            record {
              below = λ j o. omega (arith, numbers-below j o, starts-count st st' z.starts);
              is = λ m x y.
                  ap (λ (ss : Sorts). outcome m st' (judging_app column ss)) (sorts-grown st st' z.starts numbers numbers-below)
                  ∙ ap (outcome m st') (sym (verdict-is k))
                  ∙ outcome-settled m st verdict (store-ordered b p n h.asks.good.stored) (record { store = st'; code = code_of w.verdict })
                  (z.is m (x ∙ z.long) (y ∙ z.wide));
            }

        grown-past : PastOf b' p' w.count ws'
        grown-past =
            let z = row_is.answer in
            past-grown b p n b' p' ix' w.count w.used ws' z.good z.long z.wide z.starts past-less

        note-by : (v : Look) → LookFound ws ws' column numbers r.list.count v → RowNoteAsks ws' r.list.count v w.verdict
        note-by Apart f = tt
        note-by (Noted c) f = tt
        note-by (Open at) f = record { here = f.ready.here; some = f.ready.some; few = f.ready.few; small = code-small w.verdict refl }

        pub note-asks : RowNoteAsks ws' r.list.count q w.verdict
        note-asks = note-by q l.found

        noted-past : {ws'' : List ℕ} (v : Look) → Looked r v → LookFound ws ws' column numbers r.list.count v → RowNotedIs ws' r.list.count v w.verdict ws'' → PastOf b' p' w.count ws''
        noted-past Apart k f e = subst (PastOf b' p' w.count) (sym e) grown-past
        noted-past (Noted c) k f e = subst (PastOf b' p' w.count) (sym e) grown-past
        noted-past (Open at) k f e =
            record {
              each = λ slot m c x.
                  ⊎_elim (λ (y : PastSays ws' slot m c). grown-past.each slot m c y)
                  (λ y.
                  subst (λ (j : ℕ). AppTold (judging_app j) (length b') (length p') st' m c) (sym (f.side slot y.0))
                  (subst (λ (z : List ℕ). AppTold (judging_app column) (length b') (length p') st' z c) (sym (y.1 ∙ f.ready.terms))
                  (subst (AppTold (judging_app column) (length b') (length p') st' numbers) (sym y.2) (new_told k))))
                  (e slot m c x);
            }

        pub row_made : {ws'' : List ℕ} → RowNotedIs ws' r.list.count q w.verdict ws'' → PastIs column b p n prm imgs bnd s tbl xs rows r b' p' ix' prm' imgs' bnd' w ws''
        row_made e = record { row = row_is; past = noted-past q l.looked l.found e }
