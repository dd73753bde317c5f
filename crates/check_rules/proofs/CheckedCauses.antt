-- No checked verdict on a record is refused for another cause than 24 to 28: by the theorems on each kind, and for App and operators also without
-- what these ask. So a term is refused by 20 exactly where its parts do not all have sorts.
use Prim.Native.Nat.{ℕ, ◌≤◌, ◌<◌}
use Rattle.std.specs.Prelude.{◌≡◌, refl, ◌↔◌, Bool, true, false, List, eqb, leb, ltb}
use Rattle.std.proofs.Common.{sym, ◌∙◌, arith, ne_eqb, leb-true, leb-false}
use Rattle.std.proofs.Math.Option.{Option, none, some}
use Rattle.record.specs.Sort.{Sort, Sorts, end, ◌then◌, count}
use Rattle.record.specs.Cases.{by_test, by_option}
use Rattle.sheet.specs.Sheet.{Binding}
use Rattle.substitution.specs.Substitution.{Map, empty, apply}
use Rattle.substitution.specs.Matching.{matches_all}
use Rattle.row_rules.specs.declared.Cause.{Cause}
use Rattle.row_rules.specs.declared.Cause.TheVariants.{Below, NoRank, Count, Misfit, Unassigned}
use Rattle.row_rules.specs.Verdict.{Verdict, sort, refused, need, number_of}
use Rattle.row_rules.specs.Lists.{firsts, others, remaining}
use Rattle.row_rules.specs.Term.{Site, Terms, term, constants_of, verdict_of, verdicts_of}
use Rattle.check_rules.specs.Rank.{Rank}
use Rattle.check_rules.proofs.RankSound.{Sound}
use Rattle.check_rules.specs.Checked.{values, parameters, function_list, settled, delivered, called, checked_app, operated, checked, check}
use Rattle.check_rules.proofs.FitLaws.{operated-ranked, by_ranked, sort-refused}
use Rattle.check_rules.specs.Rules.{HaveSorts}
use Rattle.check_rules.proofs.RuleTheorems.{have-only, have-when}
use Rattle.check_rules.proofs.RefusalLaws.{refused-inj, by_equal}
use Rattle.check_rules.proofs.RefusalTheorems.{constant-refusals, vector-refusals, var-refusals, binder-refusals, let-refusals, as-refusals}
use Rattle.check_rules.proofs.IndexRefusals.{index-refusals}

-- What holds of 24 to 27 holds of every cause of an App and of an operator.
module _ (O : Cause → Type 0) (unranked : O NoRank) (miscounted : O Count) (misfit : O Misfit) (unassigned : O Unassigned) (c : Cause) where
  told : {d : Cause} → refused d ≡ refused c → O d → O c
  told h f = rw (refused-inj h) at f

  need-told : (b : Bool) (d : Cause) (v : Verdict) → O d → (v ≡ refused c → O c) → need b d v ≡ refused c → O c
  need-told true d v f g h = g h
  need-told false d v f g h = told h f

  called-told : (l : ℕ → Bool) (o : Option Sorts) (ts : Sorts) → called l o ts ≡ refused c → O c
  unfolding called
  called-told l none ts h = told h misfit
  called-told l (some ss) ts h =
      let o = matches_all l (firsts ss ts) ts empty in
      let r = remaining (others ss ts) in
      need-told (ltb (count ts) (count ss)) Count (need (values ts) Misfit (delivered l r o)) miscounted
      (need-told (values ts) Misfit (delivered l r o) misfit (given l r o)) h
    where
      given : (l : ℕ → Bool) (r : Sort) (o : Option Map) → delivered l r o ≡ refused c → O c
      given l r none h = told h misfit
      given l r (some m) h = need-told (settled l m r) Unassigned (sort (apply m r)) unassigned (λ e. sort-refused e) h

  application-told : (ts : Sorts) → checked_app ts ≡ refused c → O c
  unfolding checked_app
  application-told end h = told h miscounted
  application-told (g then end) h = told h miscounted
  application-told (g then (t then ts)) h = called-told (λ v. parameters g v) (function_list g) (t then ts) h

  operated-told : (R : ℕ → List Rank) (n : ℕ) (ts : Sorts) → operated R n ts ≡ refused c → O c
  operated-told R n ts h =
      let o = operated-ranked R n ts in
      by_ranked (R n) ts
      (λ a e. told (sym (o ∙ e) ∙ h) unranked)
      (λ a b e. told (sym (o ∙ e) ∙ h) miscounted)
      (λ a b e. told (sym (o ∙ e) ∙ h) misfit)
      (λ a b f e. told (sym (o ∙ e) ∙ h) misfit)
      (λ s b f e. sort-refused (sym (o ∙ e) ∙ h))

-- NO CHECKED VERDICT ON A RECORD is refused for another cause than 24 to 28, whatever the sorts of its parts.
pub checked-causes : (R : ℕ → List Rank) (z : Site) (c : Cause) → checked R z ≡ refused c → (24 ≤ number_of c) × (number_of c ≤ 28)
unfolding checked
checked-causes R z c h =
    by_test (leb z.kind 3) (λ q. (constant-refusals R z (leb-true z.kind 3 q)).nothing-else c h)
    (λ q. let l = leb-false z.kind 3 q in
    by_equal z.kind 4 (λ q e. (vector-refusals R z e).nothing-else c h)
    (λ q4 d4. by_equal z.kind 5 (λ q e. (var-refusals R z e).nothing-else c h)
    (λ q5 d5. by_equal z.kind 6 (λ q e. application-told (λ x. (24 ≤ number_of x) × (number_of x ≤ 28)) (omega arith, omega arith) (omega arith, omega arith) (omega arith, omega arith) (omega arith, omega arith) c z.args (rw e at h))
    (λ q6 d6. by_equal z.kind 7
    (λ q e. operated-told (λ x. (24 ≤ number_of x) × (number_of x ≤ 28)) (omega arith, omega arith) (omega arith, omega arith) (omega arith, omega arith) (omega arith, omega arith) c R z.number z.args (rw e at h))
    (λ q7 d7. by_equal z.kind 8 (λ q e. (binder-refusals R z e).nothing-else c h)
    (λ q8 d8. by_equal z.kind 9 (λ q e. (let-refusals R z e).nothing-else c h)
    (λ q9 d9. by_equal z.kind 11 (λ q e. (index-refusals R z e).nothing-else c h)
    (λ q11 d11. by_equal z.kind 12 (λ q e. (as-refusals R z e).nothing-else c h)
    (λ q12 d12.
    let g : refused NoRank ≡ refused c =
    rw (beyond 0 l (omega arith), beyond 1 l (omega arith), beyond 2 l (omega arith), beyond 3 l (omega arith), q4, q5, q6, q7, q8, q9, q11, q12) at h in
    let e : NoRank ≡ c = refused-inj g in rw (← e) (omega arith, omega arith))))))))))
  where
    beyond : (k : ℕ) → 3 < z.kind → k ≤ 3 → eqb z.kind k ≡ false
    beyond k l m = ne_eqb z.kind k (λ e. omega arith)

-- A TERM IS REFUSED BY 20 exactly where its terms, or its index terms, do not all have sorts by the rules.
pub term-below : (R : ℕ → List Rank) → ((n : ℕ) → Sound (R n)) → (k a n : ℕ) (o : Sort) (ts : Terms) (bs : List Binding) (ns : List ℕ) (is : Terms)
    → check R (term k a n o ts bs ns is) ≡ refused Below ↔ ((ss js : Sorts) → HaveSorts R ts ss → HaveSorts R is js → ⊥)
unfolding check verdict_of
term-below R S k a n o ts bs ns is = (
  λ h ss js H J. let site : Site = record { kind = k; number = n; own = o; args = ss; bindings = bs; constants = constants_of ts; indices = constants_of is } in
      let z = checked-causes R site Below (rw (have-when R S ts ss H, have-when R S is js J) at h) in omega arith,
  λ none-there. by_option (verdicts_of (checked R) ts)
      (λ p. rw p refl)
      (λ ss p. by_option (verdicts_of (checked R) is)
      (λ q. rw (p, q) refl)
      (λ js q. absurd (none-there ss js (have-only R S ts ss p) (have-only R S is js q)))),
)
