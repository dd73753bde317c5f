-- The three ways through the parts of a record: an argument's row is refused, there are no index terms, or their rows decide.
use Prim.Native.Nat.{ℕ, ◌+◌, ◌*◌, ◌≤◌, ◌<◌}
use mathlib.Core.Path.{◌≡◌, refl, ap, ap₂, ◌∙◌}
use mathlib.Core.Bool.{Bool, true, false, cond, true≢false, false≢true}
use mathlib.Core.List.{List}
use mathlib.Core.Option.{Option, none, some}
use lib.Dec.{eqb}
use borrow.Author.Tests.{ne_eqb}
use Rattle.record.specs.Kinds.{term_number}
use Rattle.record.specs.Number.{u16_at, numbers_at}
use Rattle.record.specs.Sort.{Sort, Sorts, end}
use Rattle.record.specs.Record.{sorts_of}
use Rattle.reader.specs.declared.TermRecord.{TermRecord}
use Rattle.row_rules.specs.declared.Cause.TheVariants.{Below}
use Rattle.row_rules.specs.Verdict.{Verdict, refused}
use Rattle.row_rules.specs.Term.{Site, over_parts, sorts_given}
use Rattle.row_answer.specs.Arguments.{GatherIs, JudgedIs, arguments_of, codes_of, gathered-known}
use Rattle.row_parts.specs.Site.{own_over, bindings_over, constants_over, indices_over, site_over, index_sorts, term_verdict, Standing, PartsJudgedIs}

over_none : (J : Site → Verdict) (st : List Sort) (s tbl xs : List ℕ) (r : TermRecord) (o : Option Sorts)
    → over_parts J (term_number r.kind) r.number (own_over st tbl r) (bindings_over st tbl s r) (constants_over s xs r) (indices_over s xs r) o none ≡ refused Below
over_none J st s tbl xs r none = refl
over_none J st s tbl xs r (some ts) = refl

module _ (s rows : List ℕ) (column : ℕ) (r : TermRecord) (a : List ℕ) where
  abbrev over : (Site → Verdict) → List Sort → List ℕ → List ℕ → Option Sorts → Option Sorts → Verdict
  over J st tbl xs o i = over_parts J (term_number r.kind) r.number (own_over st tbl r) (bindings_over st tbl s r) (constants_over s xs r) (indices_over s xs r) o i

  -- A row of the list is refused.
  pub parts-lacking : GatherIs s r.list.at r.list.count rows column a false → PartsJudgedIs s rows column r a false
  unfolding term_verdict
  parts-lacking g =
      record {
        judged = λ e. absurd (false≢true e);
        below = λ e. absurd (false≢true e);
        lacking = λ e J st tbl xs. ap (λ (o : Option Sorts). over J st tbl xs o (index_sorts st s r rows column)) (g.lacking refl st);
      }

  -- None is.
  module _ (g : GatherIs s r.list.at r.list.count rows column a true) (side : column ≤ 1) where
    known : (n : ℕ) (tbl xs : List ℕ) → Standing n s tbl xs rows r → (j : ℕ) → j < r.list.count → u16_at a (3 + 2 * j) < n
    known n tbl xs h = gathered-known s r.list.at r.list.count rows column a true g refl side h.term n h.known h.was.references

    -- The list has its numbers, and the index terms some sorts js.
    both : (J : Site → Verdict) (st : List Sort) (tbl xs : List ℕ) (js : Sorts) → index_sorts st s r rows column ≡ some js
        → term_verdict J st s tbl xs rows column r ≡ J (site_over st s tbl xs a r)
    unfolding term_verdict
    both J st tbl xs js e = ap₂ (over J st tbl xs) (g.sorts refl st) e

    -- No index terms are asked.
    pub parts-plain : (term_number r.kind ≡ 11 → ⊥) → PartsJudgedIs s rows column r a true
    unfolding numbers_at sorts_given
    parts-plain d =
        record {
          judged = λ e J st tbl xs. both J st tbl xs end (ap (λ (b : Bool). arguments_of st s r.second.at (cond b r.second.count 0) rows column) (ne_eqb (term_number r.kind) 11 d));
          below = λ e. known;
          lacking = λ e. absurd (true≢false e);
        }

    -- The index terms decide.
    pub parts-indexed : term_number r.kind ≡ 11 → (q : Bool) → JudgedIs s r.second.at r.second.count rows column q → PartsJudgedIs s rows column r a q
    unfolding term_verdict
    parts-indexed k q i =
        let on11 : (st : List Sort) → index_sorts st s r rows column ≡ arguments_of st s r.second.at r.second.count rows column =
        λ st. ap (λ (j : ℕ). arguments_of st s r.second.at (cond (eqb j 11) r.second.count 0) rows column) k in
        record {
          judged = λ e J st tbl xs. both J st tbl xs (sorts_of st (codes_of rows column (numbers_at s r.second.at r.second.count))) (on11 st ∙ i.sorts e st);
          below = λ e. known;
          lacking = λ e J st tbl xs.
              ap (over J st tbl xs (arguments_of st s r.list.at r.list.count rows column)) (on11 st ∙ i.lacking e st)
              ∙ over_none J st s tbl xs r (arguments_of st s r.list.at r.list.count rows column);
        }
