-- No verdict on a record is 22 or 23 by itself: those come only from the limits of its answer. So a row has 22 exactly when its
-- answer passes a limit, and 23 exactly when it passes none and the store cannot hold its sorts. By the causes that are given at all.
use Rattle.std.specs.Prelude.{ℕ, ◌*◌, ◌≤◌, ◌≡◌, refl, true, List, ◌↔◌}
use Rattle.std.proofs.Math.Option.{Option, none, some}
use Rattle.std.proofs.Common.{arith, ne_eqb}
use Rattle.record.specs.Sort.{Sort, Sorts}
use Rattle.sheet.specs.Sheet.{Lengths, TermFields, Binding}
use Rattle.row_rules.specs.declared.Cause.{Cause}
use Rattle.row_rules.specs.declared.Cause.TheVariants.{Limit, Full}
use Rattle.row_rules.specs.Verdict.{Verdict, sort, refused, number_of}
use Rattle.row_rules.specs.Term.{Site, over_parts, constants_at, sorts_given, verdict_at}
use Rattle.row_rules.specs.Outcome.{row_sort}
use Rattle.row_rules.specs.Outcomes.{no_limit, Passes, Overflows}
use Rattle.row_rules.proofs.OutcomeLaws.{plain-limit, plain-full}
use Rattle.infer_rules.specs.Inferred.{inferred}
use Rattle.infer_rules.proofs.PanicTheorems.{inferred-causes}
use Rattle.check_rules.specs.Rank.{Rank}
use Rattle.check_rules.specs.Checked.{checked}
use Rattle.check_rules.proofs.CheckedCauses.{checked-causes}
use Rattle.judge_rules.specs.Rows.{row_of}

-- A verdict is no limit if no cause that it gives is one.
causes-plain : (v : Verdict) → ((c : Cause) → v ≡ refused c → no_limit (refused c) ≡ true) → no_limit v ≡ true
unfolding no_limit
causes-plain (sort s) h = refl
causes-plain (refused c) h = h c refl

five-plain : (c : Cause) → 24 ≤ number_of c → no_limit (refused c) ≡ true
unfolding no_limit
five-plain c h = rw (ne_eqb (number_of c * 65536) (number_of Limit * 65536) (λ e. omega arith), ne_eqb (number_of c * 65536) (number_of Full * 65536) (λ e. omega arith)) refl

pub checked-plain : (R : ℕ → List Rank) (z : Site) → no_limit (checked R z) ≡ true
checked-plain R z = causes-plain (checked R z) (λ c h. five-plain c (checked-causes R z c h).0)

pub inferred-plain : (z : Site) → no_limit (inferred z) ≡ true
unfolding no_limit
inferred-plain z = causes-plain (inferred z) (λ c h. rw (inferred-causes z c h) refl)

---------------------------------------------------------------- rows
-- 20 is no limit either.
parts-plain : (J : Site → Verdict) → ((z : Site) → no_limit (J z) ≡ true) → (k n : ℕ) (o : Sort) (bs : List Binding) (cs is : List (Option ℕ)) (a b : Option Sorts)
    → no_limit (over_parts J k n o bs cs is a b) ≡ true
unfolding no_limit
parts-plain J h k n o bs cs is none b = refl
parts-plain J h k n o bs cs is (some ts) none = refl
parts-plain J h k n o bs cs is (some ts) (some js) =
    h (record { kind = k; number = n; own = o; args = ts; bindings = bs; constants = cs; indices = is })

pub verdict-plain : (J : Site → Verdict) → ((z : Site) → no_limit (J z) ≡ true) → (row : ℕ → Option Sort) (rs : List TermFields) (r : TermFields)
    → no_limit (verdict_at J row rs r) ≡ true
unfolding verdict_at
verdict-plain J h row rs r =
    parts-plain J h r.kind r.number r.own r.bindings (constants_at rs r.list) (constants_at rs r.second)
    (sorts_given row r.list) (sorts_given row r.second)

-- 22 AND 23 OF A ROW, exactly, in either column (`inferred-plain` and `checked-plain` are the premise): 22 where the answer passes
-- a limit, 23 where it passes none and the store has no room for the sorts inside it.
module _ (J : Site → Verdict) (h : (z : Site) → no_limit (J z) ≡ true) (column : ℕ) (l : Lengths) (rs : List TermFields) (r : TermFields)
    (rows : List ℕ) (now : List Sort) where
  pub row-limit : ((row_of J column l rs r rows now).code ≡ number_of Limit * 65536) ↔ Passes (verdict_at J (λ i. row_sort now rows column i) rs r)
  unfolding row_of
  row-limit =
      plain-limit l now (verdict_at J (λ i. row_sort now rows column i) rs r) (verdict-plain J h (λ i. row_sort now rows column i) rs r)

  pub row-full : ((row_of J column l rs r rows now).code ≡ number_of Full * 65536) ↔ Overflows l now (verdict_at J (λ i. row_sort now rows column i) rs r)
  unfolding row_of
  row-full =
      plain-full l now (verdict_at J (λ i. row_sort now rows column i) rs r) (verdict-plain J h (λ i. row_sort now rows column i) rs r)
