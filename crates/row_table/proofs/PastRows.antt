-- Both rows of a term over a table that notes what Apps were found to be: what each row asks, and what they write.
use Prim.Native.Nat.{ℕ, ◌+◌, ◌*◌, ◌≤◌}
use mathlib.Core.List.{List}
use lib.ListN.{length, set}
use mathlib.Core.Path.{◌≡◌}
use Rattle.reader.specs.declared.TermRecord.{TermRecord}
use Rattle.row_rules.specs.Verdict.{code_of}
use Rattle.infer_rules.specs.Inferred.{inferred}
use Rattle.check_rules.specs.Ranks.{smt_lib}
use Rattle.check_rules.specs.Checked.{checked}
use Rattle.row_answer.specs.Answer.{Answer}
use Rattle.row_parts.specs.Site.{TermIs}
use Rattle.row_memo.specs.Past.{column_verdict, PastAsks, PastIs}
use Rattle.questions.specs.Word.{Counts}
use Rattle.row_table.specs.Table.{BothAsk, BothAre}
use Rattle.row_table.proofs.TableLaws.{second-asks, both-are}

module _ {b p ix : List ℕ} {n u : ℕ} {prm imgs bnd s tbl xs rows : List ℕ} {r : TermRecord} {t : ℕ} (h : BothAsk b p ix n u prm imgs bnd s tbl xs rows r t) where
  module _ {c q jx prm₁ imgs₁ bnd₁ : List ℕ} {v : Answer} {ws' : List ℕ} (f : PastIs 0 b p n prm imgs bnd s tbl xs rows r c q jx prm₁ imgs₁ bnd₁ v ws') where
    first-row : TermIs inferred 0 b p n prm imgs bnd s tbl xs rows r c q jx prm₁ imgs₁ bnd₁ v
    unfolding column_verdict
    first-row = f.row

    pub checked-asks : (a : List ℕ) → 259 ≤ length a → PastAsks 1 c q jx v.count v.used prm₁ imgs₁ bnd₁ s tbl xs rows r a ws'
    checked-asks a o = record { asks = second-asks h first-row a o; past = f.past }

    module _ {b' p' ix' prm' imgs' bnd' : List ℕ} {w : Answer} {ws'' : List ℕ} (g : PastIs 1 c q v.count prm₁ imgs₁ bnd₁ s tbl xs rows r b' p' ix' prm' imgs' bnd' w ws'') {x y : ℕ} (ex : x ≡ code_of v.verdict) (ey : y ≡ code_of w.verdict) where
      second-row : TermIs (checked smt_lib) 1 c q v.count prm₁ imgs₁ bnd₁ s tbl xs rows r b' p' ix' prm' imgs' bnd' w
      unfolding column_verdict
      second-row = g.row

      abbrev after : Counts
      after = record { count = w.count; used = w.used }

      pub rows_written : BothAre b p n prm imgs bnd s tbl xs rows r t b' p' ix' prm' imgs' bnd' (set (set rows (2 * t) x) (2 * t + 1) y) after
      rows_written = both-are h first-row second-row ex ey
