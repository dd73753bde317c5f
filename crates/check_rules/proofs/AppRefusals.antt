-- EVERY CAUSE 24 TO 28 OF THE CHECKED ROW OF AN APP, exactly when it is given: one theorem for every head, parametric or not or no function.
use Rattle.std.specs.Prelude.{ℕ, ◌<◌, ◌≡◌, refl, ◌↔◌, Bool, true, false, List, [], ◌∷◌}
use Rattle.std.proofs.lemmas.Bool.{false≢true}
use Rattle.std.proofs.Common.{true≢false, arith}
use Rattle.std.proofs.Math.Option.{some}
use Rattle.record.specs.Sort.{Sort, Sorts, var, par, node, end, ◌then◌, count}
use Rattle.record.specs.Names.{member}
use Rattle.record.specs.Cases.{and_left, and_right, conj, clash}
use Rattle.substitution.specs.Substitution.{apply}
use Rattle.substitution.specs.Premises.{proper, proper_all}
use Rattle.row_rules.specs.Verdict.{Verdict}
use Rattle.row_rules.specs.Term.{Site, Terms}
use Rattle.check_rules.specs.Rank.{Rank}
use Rattle.check_rules.proofs.RankSound.{Sound}
use Rattle.check_rules.specs.Fits.{Assigned, rest, Fixed, one_of}
use Rattle.check_rules.specs.Checked.{carried, called, checked_app, checked}
use Rattle.check_rules.proofs.Kept.{carried_all}
use Rattle.check_rules.proofs.AppTheorems.{by_called, matching_firsts, found-assigned, settled-fixed, unsettled-unfixed}
use Rattle.check_rules.specs.Parts.{In, first, later, Carried, EachValue}
use Rattle.check_rules.proofs.PartTheorems.{carried-exactly, each_value-exactly}
use Rattle.check_rules.specs.Refusals.{Exactly}
use Rattle.check_rules.specs.Rules.{HaveSorts}
use Rattle.check_rules.proofs.RuleTheorems.{sorts-carried, have-when}
use Rattle.check_rules.proofs.RefusalLaws.{as-miscounted, as-misfit, as-unassigned, as-accepted, by_equal}

---------------------------------------------------------------- App
-- A head is a Function with the list ss: under a Par with the parameters ns, or by itself without any.
pub data Head (h : Sort) (ns : List ℕ) (ss : Sorts) : Type 0 where
  under : (a w : ℕ) → h ≡ par ns (node 0 a w ss) → Head h ns ss
  bare : (a w : ℕ) → ns ≡ [] → h ≡ node 0 a w ss → Head h ns ss

called-way : (l : ℕ → Bool) (ss ts : Sorts) → proper_all ss ≡ true → 0 < count ts
    → Exactly (called l (some ss) ts) Unit Unit ((0 < count ts) × (count ts < count ss)) (EachValue ts × Assigned l ss ts) (Fixed l ss ts)
called-way l ss ts p any =
    by_called l ss ts p
    (λ a e. as-miscounted e _ _ (λ h. a h.1))
    (λ a b e. as-misfit e _ _ (any, a) (λ h. clash ((each_value-exactly ts).1 h.0) b))
    (λ a b f e. as-misfit e _ _ (any, a) (λ h. let A = h.1 in (matching_firsts l ss ts p).refusal f A.assignment A.within A.turns))
    (λ m a b f c e. as-unassigned e _ _ (any, a) ((each_value-exactly ts).0 b, found-assigned l ss ts p m f)
    (λ h. let (v, i, o, q) = unsettled-unfixed l ss ts p m f c in clash (h v i o) q))
    (λ m a b f c e. as-accepted (apply m (rest ss ts)) e _ _ (any, a) ((each_value-exactly ts).0 b, found-assigned l ss ts p m f) (settled-fixed l ss ts p m f c))

-- The conditions, said otherwise.
said : {v : Verdict} {C D F G X Y : Type 0} → Exactly v Unit Unit C F X → (C ↔ D) → (F ↔ G) → (X ↔ Y) → Exactly v Unit Unit D G Y
said E c f x = record {
  unranked = E.unranked;
  barred = E.barred;
  miscounted = (λ h. let (a, p, d) = E.miscounted.0 h in (a, p, λ y. d (c.1 y)), λ h. E.miscounted.1 (_, _, λ y. h.2 (c.0 y)));
  misfit = (λ h. let (a, p, d, g) = E.misfit.0 h in (a, p, c.0 d, λ y. g (f.1 y)), λ h. E.misfit.1 (_, _, c.1 h.2, λ y. h.3 (f.0 y)));
  unassigned = (
    λ h. let (a, p, d, g, z) = E.unassigned.0 h in (a, p, c.0 d, f.0 g, λ y. z (x.1 y)),
    λ h. E.unassigned.1 (_, _, c.1 h.2, f.1 h.3, λ y. h.4 (x.0 y)),
  );
  accepted = (
    λ h. let (a, p, d, g, z) = E.accepted.0 h in (a, p, c.0 d, f.0 g, x.0 z),
    λ h. E.accepted.1 (_, _, c.1 h.2, f.1 h.3, x.1 h.4),
  );
  nothing-else = E.nothing-else;
}

-- What holds of the one head holds of every head.
every-head : {h : Sort} {ns : List ℕ} {ss : Sorts} (Q : List ℕ → Sorts → Type 0) → Head h ns ss → ((ms : List ℕ) (rs : Sorts) → Head h ms rs → (ms ≡ ns) × (rs ≡ ss))
    → Q ns ss ↔ ((ms : List ℕ) (rs : Sorts) → Head h ms rs → Q ms rs)
every-head {h} {ns} {ss} Q H only = (λ q ms rs G. let (e, g) = only ms rs G in rw (e, g) q, λ f. f ns ss H)

-- What stands under a head's Par, and a head without one.
under-list : {us : List ℕ} {b : Sort} {ns : List ℕ} {ss : Sorts} → Head (par us b) ns ss → (ns ≡ us) × ((a : ℕ) × (w : ℕ) × (b ≡ node 0 a w ss))
under-list (under a w e) = (cc, (a, w, cc))
under-list (bare a w n e) = let z : true ≡ false = cc in absurd (true≢false z)

bare-list : {k a w : ℕ} {rs : Sorts} {ns : List ℕ} {ss : Sorts} → Head (node k a w rs) ns ss → (ns ≡ []) × (ss ≡ rs) × (k ≡ 0)
bare-list (under a w e) = let z : true ≡ false = cc in absurd (true≢false z)
bare-list (bare a w n e) = (n, cc, cc)

-- A function's verdict, said of the head that has its list.
headed : {h : Sort} (ns : List ℕ) (ss ts : Sorts) → Head h ns ss → ((ms : List ℕ) (rs : Sorts) → Head h ms rs → (ms ≡ ns) × (rs ≡ ss)) → proper_all ss ≡ true → 0 < count ts
    → Exactly (called (one_of ns) (some ss) ts) Unit Unit
    ((0 < count ts) × ((ms : List ℕ) (rs : Sorts) → Head h ms rs → count ts < count rs))
    ((ms : List ℕ) × (rs : Sorts) × Head h ms rs × EachValue ts × Assigned (one_of ms) rs ts)
    ((ms : List ℕ) (rs : Sorts) → Head h ms rs → Fixed (one_of ms) rs ts)
headed ns ss ts H only p any =
    let few = every-head (λ ms rs. count ts < count rs) H only in
    said (called-way (one_of ns) ss ts p any) (λ c. (any, few.0 c.1), λ c. (any, few.1 c.1))
    (λ f. (ns, ss, H, f.0, f.1), λ f. let (ms, rs, G, v, A) = f in let (e, g) = only ms rs G in (v, rw (e, g) at A)) (every-head (λ ms rs. Fixed (one_of ms) rs ts) H only)

not-var : {v : ℕ} {ns : List ℕ} {ss : Sorts} → Head (var v) ns ss → ⊥
not-var (under a w e) = let z : true ≡ false = cc in true≢false z
not-var (bare a w n e) = let z : true ≡ false = cc in true≢false z

-- AN APP of a head that carries its sort: 25 exactly where it has no argument, or not fewer than the entries of the head's list; else 26
-- exactly where the head is no function, an argument is a Par, or no assignment of the parameters makes the declared sorts the
-- actual ones; else 27 exactly where the arguments do not fix every parameter of the result. Never 24 or 28.
pub app-refusals : (R : ℕ → List Rank) (z : Site) (h : Sort) (ts : Sorts) → z.kind ≡ 6 → z.args ≡ h then ts → Carried h
    → Exactly (checked R z) Unit Unit
    ((0 < count ts) × ((ns : List ℕ) (ss : Sorts) → Head h ns ss → count ts < count ss))
    ((ns : List ℕ) × (ss : Sorts) × Head h ns ss × EachValue ts × Assigned (one_of ns) ss ts)
    ((ns : List ℕ) (ss : Sorts) → Head h ns ss → Fixed (one_of ns) ss ts)
unfolding checked checked_app called count proper member
app-refusals R z h ts k e c = rw (k, e) (way h ts ((carried-exactly h).1 c))
  where
    way : (h : Sort) (ts : Sorts) → carried h ≡ true
        → Exactly (checked_app (h then ts)) Unit Unit
        ((0 < count ts) × ((ns : List ℕ) (ss : Sorts) → Head h ns ss → count ts < count ss))
        ((ns : List ℕ) × (ss : Sorts) × Head h ns ss × EachValue ts × Assigned (one_of ns) ss ts)
        ((ns : List ℕ) (ss : Sorts) → Head h ns ss → Fixed (one_of ns) ss ts)
    way h end c = as-miscounted refl _ _ (λ f. let z = f.0 in omega arith)
    way (var v) (t then ts) c = as-misfit refl _ _ (omega arith, λ ns ss H. absurd (not-var H)) (λ f. not-var f.2)
    way (par [] b) (t then ts) c = absurd (false≢true c)
    way (par (n ∷ ns) (var v)) (t then ts) c = absurd (false≢true c)
    way (par (n ∷ ns) (par ms b)) (t then ts) c = absurd (false≢true c)
    way (par (n ∷ ns) (node k a w ss)) (t then ts) c =
        by_equal k 0
        (λ q e. rw q (headed (n ∷ ns) ss (t then ts) (under a w (rw e refl))
        (λ ms rs H. let (f, g) = under-list H in let (x, y, z) = g in (f, cc)) (search conj) (omega arith)))
        (λ q d. as-misfit (rw q refl) _ _ (omega arith, λ ms rs H. let (f, (x, y, z)) = under-list H in absurd (d (cc)))
        (λ f. let (g, (x, y, z)) = under-list f.2 in d (cc)))
    way (node k a w ss) (t then ts) c =
        by_equal k 0
        (λ q e. rw q (headed [] ss (t then ts) (bare a w refl (rw e refl))
        (λ ms rs H. let (f, g, z) = bare-list H in (f, g)) (search conj) (omega arith)))
        (λ q d. as-misfit (rw q refl) _ _ (omega arith, λ ms rs H. absurd (d (bare-list H).2)) (λ f. d (bare-list f.2).2))

-- WHAT IS ASKED OF A HEAD, every part that has a sort by the rules meets: each such sort is one that a Var may carry.
pub have-carried : (R : ℕ → List Rank) → ((n : ℕ) → Sound (R n)) → (ts : Terms) (ss : Sorts) → HaveSorts R ts ss → (s : Sort) → In s ss → Carried s
unfolding carried_all
have-carried R S ts ss H s i = (carried-exactly s).0 (each i (sorts-carried R S ts ss (have-when R S ts ss H)))
  where
    each : {ss : Sorts} → In s ss → carried_all ss ≡ true → carried s ≡ true
    each (first {ss}) e = and_left (carried s) (carried_all ss) e
    each (later {r} {ss} i) e = each i (and_right (carried r) (carried_all ss) e)
