-- THE VERDICT WITH THE LIMITS OF THE ANSWER, 22 (`bounded`, BoundedLaws of judge_rules): what a sheet without a bound on its length, over a store
-- without one, would say of a term, beside the verdict without limits. So 22 of a row, and 20 over it, are told of whole terms too.
use Prim.Native.Nat.{ℕ}
use Rattle.std.specs.Prelude.{◌≡◌, refl, true, false}
use Rattle.std.proofs.Common.{sym, ◌∙◌, arith}
use Rattle.std.proofs.Math.Path.{ap}
use Rattle.std.proofs.lemmas.Bool.{false≢true}
use mathlib.Core.List.{List}
use Rattle.std.proofs.Math.Option.{some}
use Rattle.record.specs.Sort.{Sort, Sorts}
use Rattle.record.specs.Cases.{by_test}
use Rattle.row_rules.specs.declared.Cause.{Cause}
use Rattle.row_rules.specs.declared.Cause.TheVariants.{Below, Limit}
use Rattle.row_rules.specs.Verdict.{Verdict, sort, refused, number_of}
use Rattle.row_rules.specs.Term.{Site, Term, Terms, term, stop, ◌also◌, constants_of, verdict_of, verdicts_of}
use Rattle.row_rules.specs.Outcome.{within}
use Rattle.row_rules.specs.Outcomes.{no_limit}
use Rattle.row_rules.proofs.OutcomeLaws.{refused-sort}
use Rattle.infer_rules.specs.Inferred.{inferred}
use Rattle.check_rules.specs.Rank.{Rank}
use Rattle.check_rules.specs.Checked.{checked}
use Rattle.check_rules.proofs.RouteLaws.{parts, besides-parts}
use Rattle.check_rules.proofs.RefusalLaws.{parts-cause}
use Rattle.judge_rules.proofs.BoundedLaws.{limits_kept, bounded, limits-given}
use Rattle.judge_rules.proofs.PlainLaws.{checked-plain, inferred-plain}
use Rattle.abstraction.proofs.AbstractionTheorems.{Abstractable}

-- A sort that is given with limits is within them, and given without.
mutual
  unfolding verdict_of bounded

  pub bounded-given : (J : Site → Verdict) (t : Term) (s : Sort) → verdict_of (bounded J) t ≡ sort s → (verdict_of J t ≡ sort s) × (within s ≡ true)
  bounded-given J (term k a n o ts bs ns is) s e =
      let (ss, js, p, q, z) = parts (bounded J) k n o bs (constants_of ts) (constants_of is) (verdicts_of (bounded J) ts) (verdicts_of (bounded J) is) s e in
      let (v, w) = limits-given (J (record { kind = k; number = n; own = o; args = ss; bindings = bs; constants = constants_of ts; indices = constants_of is })) s z in
      (rw (bounded-givens J ts ss p, bounded-givens J is js q) v, w)

  bounded-givens : (J : Site → Verdict) (ts : Terms) (ss : Sorts) → verdicts_of (bounded J) ts ≡ some ss → verdicts_of J ts ≡ some ss
  bounded-givens J stop ss e = e
  bounded-givens J (t also ts) ss e =
      let (r, rs, p, q, z) = besides-parts (verdict_of (bounded J) t) (verdicts_of (bounded J) ts) ss e in
      rw ((bounded-given J t r p).0, bounded-givens J ts rs q) (ap some z)

-- A cause other than 20 and 22 that is given with limits is given without.
need-cause : (v : Verdict) (c : Cause) → (c ≡ Limit → ⊥) → limits_kept v ≡ refused c → v ≡ refused c
need-cause (refused d) c p e = e
need-cause (sort r) c p e =
    by_test (within r)
    (λ q. let z : sort r ≡ refused c = rw q at e in refused-sort (sym z))
    (λ q. let z : refused Limit ≡ refused c = rw q at e in absurd (p (sym (cause-inj z))))
  where
    cause-inj : {c d : Cause} → refused c ≡ refused d → c ≡ d
    cause-inj {c} {d} e = cc

pub bounded-cause : (J : Site → Verdict) (t : Term) (c : Cause) → (c ≡ Below → ⊥) → (c ≡ Limit → ⊥) → verdict_of (bounded J) t ≡ refused c → verdict_of J t ≡ refused c
unfolding verdict_of bounded
bounded-cause J (term k a n o ts bs ns is) c p q e =
    let (ss, js, x, y, z) = (parts-cause (bounded J) k n o bs (constants_of ts) (constants_of is) (verdicts_of (bounded J) ts) (verdicts_of (bounded J) is) c p).0 e in
    rw (bounded-givens J ts ss x, bounded-givens J is js y)
    (need-cause (J (record { kind = k; number = n; own = o; args = ss; bindings = bs; constants = constants_of ts; indices = constants_of is })) c q z)

-- And 22 says that the sort without limits passes one, where no verdict on a record is 22 by itself.
need-limit : (v : Verdict) → (v ≡ refused Limit → ⊥) → limits_kept v ≡ refused Limit → (s : Sort) × (v ≡ sort s) × (within s ≡ false)
need-limit (refused d) p e = absurd (p e)
need-limit (sort r) p e = by_test (within r) (λ q. let z : sort r ≡ refused Limit = rw q at e in refused-sort (sym z)) (λ q. (r, refl, q))

pub bounded-limit : (J : Site → Verdict) → ((z : Site) → J z ≡ refused Limit → ⊥) → (t : Term) → verdict_of (bounded J) t ≡ refused Limit
    → (s : Sort) × (verdict_of J t ≡ sort s) × (within s ≡ false)
unfolding verdict_of bounded
bounded-limit J never (term k a n o ts bs ns is) e =
    let (ss, js, x, y, z) = (parts-cause (bounded J) k n o bs (constants_of ts) (constants_of is) (verdicts_of (bounded J) ts) (verdicts_of (bounded J) is) Limit (λ w. let n = ap number_of w in omega arith)).0 e in
    let site : Site = record { kind = k; number = n; own = o; args = ss; bindings = bs; constants = constants_of ts; indices = constants_of is } in
    let (s, v, w) = need-limit (J site) (never site) z in
    (s, rw (bounded-givens J ts ss x, bounded-givens J is js y) v, w)

pub checked-never-limit : (R : ℕ → List Rank) (z : Site) → checked R z ≡ refused Limit → ⊥
unfolding no_limit
checked-never-limit R z e = false≢true (sym (ap no_limit e) ∙ checked-plain R z)

pub inferred-never-limit : (z : Site) → inferred z ≡ refused Limit → ⊥
unfolding no_limit
inferred-never-limit z e = false≢true (sym (ap no_limit e) ∙ inferred-plain z)

-- The law serves such a verdict where it serves the verdict without limits.
pub bounded-able : (J : Site → Verdict) (column : ℕ) → Abstractable J column → Abstractable (bounded J) column
unfolding verdict_of bounded
bounded-able J column A = record {
  carry = λ t s h a.
      let (v, w) = bounded-given J t s h in
      let z = A.carry t s v a in rw z (rw w refl);
  reads = λ k n o bs ss cs ds is js h i. ap (λ (v : Verdict). limits_kept v) (A.reads k n o bs ss cs ds is js h i);
}
