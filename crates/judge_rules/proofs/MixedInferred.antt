-- THE SORT THAT A.1 OF DOCUMENT 02 GIVES TO A MIXTURE is its inferred sort: at the same arguments the inferred row of the operator answers the same.
use Rattle.std.specs.Prelude.{◌≡◌}
use Rattle.std.proofs.Common.{inl, inr}
use Rattle.record.specs.Sort.{Sort}
use Rattle.row_rules.specs.Verdict.{sort}
use Rattle.row_rules.specs.Term.{Site}
use Rattle.infer_rules.specs.Inferred.{inferred}
use Rattle.check_rules.specs.Added.{Mixes}
use Rattle.check_rules.proofs.RankTheorems.{accepted-smt_lib}
use Rattle.check_rules.proofs.AddedTheorems.{added-exactly}
use Rattle.judge_rules.proofs.FamilyRanks.{ranks-inferred}

pub mixes-inferred : (z : Site) (s : Sort) → z.kind ≡ 7 → Mixes z.number z.args s → inferred z ≡ sort s
unfolding inferred
mixes-inferred z s k m =
    rw k (ranks-inferred z.number z.args s z.constants ((accepted-smt_lib z.number z.args s).0 ((added-exactly z.args z.number s).1 (inr (inl m)))).1)
