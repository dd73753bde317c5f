-- A CHECKED SORT IS THE INFERRED ONE. With the ranks of the table every sort that the checked verdict gives a record
-- or a term is the sort that the inferred verdict gives it. The other way round it is not so: see SameExample.
use Rattle.std.specs.Prelude.{ℕ, suc, ◌+◌, ◌-◌, ◌≡◌, refl, true, List, [], ◌∷◌}
use Rattle.std.proofs.Common.{sym, ap, ◌∙◌, inl, inr, arith, add_comm, ne_eqb, le-leb}
use Rattle.std.proofs.Math.Option.{Option, some}
use Rattle.record.specs.Sort.{Sort, Sorts, par, node, end, ◌then◌, count, bitvec}
use Rattle.record.specs.Cases.{and_left}
use Rattle.sheet.specs.Sheet.{Binding}
use Rattle.row_rules.specs.Verdict.{sort}
use Rattle.row_rules.specs.Lists.{binding_sorts}
use Rattle.row_rules.specs.Term.{Site, Term, Terms, term, stop, ◌also◌, constants_of, verdict_of, verdicts_of}
use Rattle.infer_rules.specs.Inferred.{inferred_app, inferred_binder, indexed, inferred, infer}
use Rattle.check_rules.specs.Ranks.{smt_lib}
use Rattle.check_rules.specs.Checked.{carried, checked, check}
use Rattle.check_rules.specs.Fits.{rest, one_of}
use Rattle.check_rules.specs.Rules.{Applied, parametric, plain, by_rank, Binds, quantifier, choice, lambda, Indexes, extract, extend, rotate, repeat, int_to_bv, power, loop, Rule, integer_constant, real_constant, string_constant, reglan_constant, vector_constant, variable, by_app, by_op, by_binder, by_let, by_index, by_const, by_set}
use Rattle.check_rules.proofs.DisjointLaws.{then-end}
use Rattle.check_rules.proofs.RankSound.{smt_lib-sound}
use Rattle.check_rules.proofs.Kept.{carried_all}
use Rattle.check_rules.proofs.RouteLaws.{parts, besides-parts}
use Rattle.check_rules.proofs.AppTheorems.{parless_rest, matching_firsts, one-rest}
use Rattle.check_rules.proofs.RuleTheorems.{par-list, rule-only, sorts-carried}
use Rattle.check_rules.proofs.NearLaws.{withs-alike}
use Rattle.judge_rules.proofs.FamilyRanks.{ranks-inferred}

---------------------------------------------------------------- App
-- A function takes the arguments in both rows alike: match_with finds a map that makes the same of what the arguments leave.
applied-inferred : (ts : Sorts) (s : Sort) → carried_all ts ≡ true → Applied ts s → inferred_app ts ≡ sort s
unfolding inferred carried_all
applied-inferred ts s c (parametric ns a w ss rs e A) =
    let d : carried_all (par ns (node 0 a w ss) then rs) ≡ true = rw e at c in
    let p = par-list ns a w ss (and_left (carried (par ns (node 0 a w ss))) (carried_all rs) d) in
    let θ = A.assigned.assignment in
    let (m, g, h) = (matching_firsts (one_of ns) ss rs p).found θ A.assigned.within A.assigned.turns in
    let (κ, y, z) = withs-alike ns _ rs m (rest ss rs) g (parless_rest (one_of ns) ss rs p) in
    rw (e, le-leb (count rs) (count ss) (omega (arith, A.few)), y)
    (ap sort (z ∙ sym (one-rest (one_of ns) ss rs p m g A.fixed A.assigned) ∙ A.result))
applied-inferred ts s c (plain a w ss rs e any few given turns result) =
    rw (e, le-leb (count rs) (count ss) (omega (arith, few))) (ap sort result)

---------------------------------------------------------------- Binder
-- One binding's sort.
chosen-is : (bs : List Binding) (b : Sort) → binding_sorts bs ≡ b then end → (d : Binding) × (ds : List Binding) × (bs ≡ d ∷ ds) × (d.sort ≡ b)
unfolding binding_sorts
chosen-is [] b e = then-end (sym e)
chosen-is (d ∷ ds) b e = (d, ds, refl, cc)

binds-inferred : (n : ℕ) (bs : List Binding) (ts : Sorts) (s : Sort) → Binds n (binding_sorts bs) ts s → inferred_binder n bs ts ≡ sort s
unfolding inferred_binder
binds-inferred n bs ts s (quantifier d e p x t r) = rw (r, ne_eqb n 3 e, ne_eqb n 2 d) refl
binds-inferred n bs ts s (choice b e f p t r) = let (d, ds, q, z) = chosen-is bs b f in rw (e, q, r) (ap sort z)
binds-inferred n bs ts s (lambda b e p x t v r) = rw (e, t, r) refl

---------------------------------------------------------------- ParamOp
indexes-inferred : (n : ℕ) (is : List (Option ℕ)) (ts : Sorts) (s : Sort) → Indexes n is ts s → indexed n is ts ≡ sort s
unfolding indexed
indexes-inferred n is ts s (extract w i j e f g a b r) =
    let z : suc (i - j) ≡ i - j + 1 = omega arith in rw (e, f, r, le-leb j i a) (ap (λ (k : ℕ). sort (bitvec k)) z)
indexes-inferred n is ts s (extend w i (inl q) f g r) = rw (q, f, g, r) (ap (λ (k : ℕ). sort (bitvec k)) (add_comm i w))
indexes-inferred n is ts s (extend w i (inr q) f g r) = rw (q, f, g, r) (ap (λ (k : ℕ). sort (bitvec k)) (add_comm i w))
indexes-inferred n is ts s (rotate w i (inl q) f g r) = rw (q, g, r) refl
indexes-inferred n is ts s (rotate w i (inr q) f g r) = rw (q, g, r) refl
indexes-inferred n is ts s (repeat w i e f a g r) = rw (e, f, g, r) refl
indexes-inferred n is ts s (int_to_bv i e f a g r) = rw (e, f, r) refl
indexes-inferred n is ts s (power i e f g r) = rw (e, r) refl
indexes-inferred n is ts s (loop i j e f g r) = rw (e, r) refl

---------------------------------------------------------------- one record
-- A RECORD THAT HAS A SORT BY THE RULES of the checked row has it as its inferred sort. The sorts of its parts are such as a Var may carry, as all
-- checked sorts are.
pub rule-inferred : (z : Site) (s : Sort) → carried_all z.args ≡ true → Rule smt_lib z s → inferred z ≡ sort s
unfolding inferred
rule-inferred z s c (integer_constant k r) = rw (k, r) refl
rule-inferred z s c (real_constant k r) = rw (k, r) refl
rule-inferred z s c (string_constant k r) = rw (k, r) refl
rule-inferred z s c (reglan_constant k r) = rw (k, r) refl
rule-inferred z s c (vector_constant k x r) = rw (k, r) refl
rule-inferred z s c (variable k x r) = rw (k, r) refl
rule-inferred z s c (by_app k a) = rw k (applied-inferred z.args s c a)
rule-inferred z s c (by_op k (by_rank v F)) = rw k (ranks-inferred z.number z.args s z.constants F)
rule-inferred z s c (by_binder k a) = rw k (binds-inferred z.number z.bindings z.args s a)
rule-inferred z s c (by_let t ts k e x y r) = rw (k, e, r) refl
rule-inferred z s c (by_index k a) = rw k (indexes-inferred z.number z.indices z.args s a)
rule-inferred z s c (by_const i e k n o p a r) = rw (k, r) refl
rule-inferred z s c (by_set e k n o p a r) = rw (k, r) refl

-- So one whose checked verdict is a sort.
pub checked-inferred : (z : Site) (s : Sort) → carried_all z.args ≡ true → checked smt_lib z ≡ sort s → inferred z ≡ sort s
checked-inferred z s c h = rule-inferred z s c (rule-only smt_lib smt_lib-sound z s c h)

---------------------------------------------------------------- terms
mutual
  unfolding verdict_of

  verdict-inferred : (t : Term) (s : Sort) → verdict_of (checked smt_lib) t ≡ sort s → verdict_of inferred t ≡ sort s
  verdict-inferred (term k a n o ts bs ns is) s h =
      let (ss, js, p, q, r) = parts (checked smt_lib) k n o bs (constants_of ts) (constants_of is) (verdicts_of (checked smt_lib) ts) (verdicts_of (checked smt_lib) is) s h in
      rw (verdicts-inferred ts ss p, verdicts-inferred is js q)
      (checked-inferred (record { kind = k; number = n; own = o; args = ss; bindings = bs; constants = constants_of ts; indices = constants_of is }) s
      (sorts-carried smt_lib smt_lib-sound ts ss p) r)

  verdicts-inferred : (ts : Terms) (ss : Sorts) → verdicts_of (checked smt_lib) ts ≡ some ss → verdicts_of inferred ts ≡ some ss
  verdicts-inferred stop ss h = h
  verdicts-inferred (t also ts) ss h =
      let (r, rs, p, q, z) = besides-parts (verdict_of (checked smt_lib) t) (verdicts_of (checked smt_lib) ts) ss h in
      rw (verdict-inferred t r p, verdicts-inferred ts rs q, z) refl

-- A TERM WITH A CHECKED SORT has that sort as its inferred one, whatever is in it.
pub check-infer : (t : Term) (s : Sort) → check smt_lib t ≡ sort s → infer t ≡ sort s
unfolding check infer
check-infer t s h = verdict-inferred t s h
