-- An input that is longer than any sheet is refused for its length, and what is printed of it is the line of that refusal. And an output
-- that was not touched holds what it held.
use Rattle.std.specs.Prelude.{ℕ, ◌≡◌, ◌<◌, refl, List, length, Option, Some, None, Result, Ok, Err, IfSome, IfErr, leb}
use Rattle.std.specs.Io.KnownBytes.{Keeps}
use Rattle.std.proofs.KnownBytes.{Keeps-refl}
use Rattle.std.proofs.Common.{ap, subst, arith, leb-true}
use Rattle.record.specs.Cases.{by_test}
use Rattle.reader.specs.declared.Refusal.TheVariants.{Length}
use Rattle.reader.specs.Reader.{refusal_number}
use Rattle.judge_rules.specs.Judged.{Judgement, sheet_refused, judged, judged_by}
use Rattle.sheet.specs.Sheet.{read_sheet}
use Rattle.verdicts.specs.Judge.{outcome_of}
use Rattle.printout.specs.Lines.{refusal_line}
use Rattle.printout.specs.Printed.{program_lengths}
use Rattle.written.specs.declared.Written.{Written}
use Rattle.written.specs.Written.{Layout, in_lines, on_pages, TextAdded, WrittenAll, WrittenIn}
use Rattle.written.specs.WrittenLaws.{text-refused}
use Rattle.program.specs.Input.{PrintedOf}

pub judged-long : (s : List ℕ) → 65536 < length s → sheet_refused Length ≡ judged s program_lengths
unfolding judged judged_by read_sheet
judged-long s h =
    by_test (leb (length s) 65536) (λ e. absurd (omega (arith, leb-true (length s) 65536 e)))
    (λ e. by_test (leb 6 (length s)) (λ f. rw (f, e) refl) (λ f. rw f refl))

pub printed-long : (t : Layout) (s : List ℕ) {before after : Option (List ℕ)} {w : Written} → 65536 < length s → WrittenAll 1 w
    → TextAdded before after (refusal_line (refusal_number Length)) w → PrintedOf t s before after w
printed-long t s {before} {after} {w} h a b =
    let e = judged-long s h in
    record {
      lines = go t e;
      bytes = subst (λ (x : List ℕ). TextAdded before after x w) (text-refused t Length (judged s program_lengths) (ap outcome_of e)) b;
    }
  where
    go : (t : Layout) → sheet_refused Length ≡ judged s program_lengths → WrittenIn t (judged s program_lengths) w
    go in_lines e = subst (λ (j : Judgement). WrittenIn in_lines j w) e a
    go on_pages e = subst (λ (j : Judgement). WrittenIn on_pages j w) e a

-- The same of an input whose bytes may not be known.
pub printed-longer : (t : Layout) (input before after : Option (List ℕ)) {w : Written} → IfSome input (λ s. 65536 < length s) → WrittenAll 1 w
    → TextAdded before after (refusal_line (refusal_number Length)) w → IfSome input (λ s. PrintedOf t s before after w)
printed-longer t None before after h a b = tt
printed-longer t (Some s) before after h a b = printed-long t s h a b

-- Where a read failed, the output is as it was.
pub kept-failed : {T E : Type 0} (r : Result T E) (a : Option (List ℕ)) → IfErr r (λ e. Keeps a a)
kept-failed (Ok x) a = tt
kept-failed (Err e) a = Keeps-refl a
