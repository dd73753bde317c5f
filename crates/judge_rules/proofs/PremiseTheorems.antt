-- MATCHING'S PREMISE, said of the parts of pattern, target and given sorts, is the test of the definitions.
use Rattle.std.specs.Prelude.{ℕ, ◌≡◌, refl, true, false, not, ◌&&◌, List, [], ◌∷◌, ◌↔◌, eqb}
use Rattle.std.specs.List.{AllByRecursion}
use Rattle.std.proofs.Common.{true≢false, arith, eqb-true}
use Rattle.std.proofs.lemmas.Bool.{false≢true}
use Rattle.record.specs.Names.{member}
use Rattle.record.specs.Sort.{Sort, Sorts, var, par, node, end, ◌then◌, kind_of}
use Rattle.record.specs.Cases.{and_left, and_right, and-true, three, or-first, or-second, eqb-self, by_test, clash, not-true-false}
use Rattle.sheet.specs.Sheet.{Binding}
use Rattle.substitution.specs.Substitution.{occurs, occurs_any}
use Rattle.substitution.specs.Premises.{parless, parless_all}
use Rattle.substitution.specs.Matching.{known, known_all, unlisted, premise}
use Rattle.substitution.proofs.PremiseLaws.{known-parless, unlisted-free, free-unlisted}
use Rattle.check_rules.specs.Parts.{In, first, later, PartOf, whole, in_body, in_list, Value}
use Rattle.judge_rules.specs.Questions.{given_premise}
use Rattle.judge_rules.specs.QuestionRules.{KnownSort, TargetSort, Premise}

---------------------------------------------------------------- a known sort
in-known : {s : Sort} {ss : Sorts} → In s ss → known_all ss ≡ true → known s ≡ true
unfolding known
in-known {s} (first {ss}) e = and_left (known s) (known_all ss) e
in-known (later {r} {ss} i) e = in-known i (and_right (known r) (known_all ss) e)

part-known : {r s : Sort} → PartOf r s → known s ≡ true → known r ≡ true
unfolding known
part-known whole e = e
part-known (in_body p) e = absurd (false≢true e)
part-known (in_list {k} {a} {w} {s} {ss} i p) e = part-known p (in-known i (and_right (not (eqb k 10)) (known_all ss) e))

known-not : (r : Sort) → known r ≡ true → Value r × (kind_of r ≡ 10 → ⊥)
unfolding known
known-not (var v) e = (λ ns b q. let z : true ≡ false = cc in true≢false z, λ k. omega arith)
known-not (par ns b) e = absurd (false≢true e)
known-not (node k a w ss) e = (λ ns b q. let z : true ≡ false = cc in true≢false z, λ q. let z : false ≡ true = rw q at e in false≢true z)

mutual
  unfolding known

  known-when : (s : Sort) → KnownSort s → known s ≡ true
  known-when (var v) h = refl
  known-when (par ns b) h = absurd ((h (par ns b) whole).0 ns b refl)
  known-when (node k a w ss) h =
      by_test (eqb k 10)
      (λ q. absurd ((h (node k a w ss) whole).1 (eqb-true k 10 q)))
      (λ q. rw q (all_known ss (λ s i r p. h r (in_list i p))))

  all_known : (ss : Sorts) → ((s : Sort) → In s ss → KnownSort s) → known_all ss ≡ true
  all_known end h = refl
  all_known (s then ss) h = and-true (known s) (known_all ss) (known-when s (h s first)) (all_known ss (λ r i. h r (later i)))

-- `known` HOLDS exactly where no part of the sort is a Par or ParamBitVec.
pub known-exactly : (s : Sort) → known s ≡ true ↔ KnownSort s
known-exactly s = (λ e r p. known-not r (part-known p e), known-when s)

-- A name occurs in a sort without Par exactly where its variable is a part.
in-occurs : (v : ℕ) {s : Sort} {ss : Sorts} → In s ss → occurs v s ≡ true → occurs_any v ss ≡ true
unfolding occurs
in-occurs v {s} (first {ss}) e = or-first (occurs v s) (occurs_any v ss) e
in-occurs v (later {r} {ss} i) e = or-second (occurs v r) (occurs_any v ss) (in-occurs v i e)

pub part-occurs : (v : ℕ) {s : Sort} → PartOf (var v) s → occurs v s ≡ true
unfolding occurs
part-occurs v whole = eqb-self v
part-occurs v (in_body {ns} {b} p) = or-second (member v ns) (occurs v b) (part-occurs v p)
part-occurs v (in_list i p) = in-occurs v i (part-occurs v p)

mutual
  unfolding occurs parless

  pub occurs-part : (s : Sort) (v : ℕ) → parless s ≡ true → occurs v s ≡ true → PartOf (var v) s
  occurs-part (var u) v e o = rw (eqb-true u v o) whole
  occurs-part (par ns b) v e o = absurd (false≢true e)
  occurs-part (node k a w ss) v e o = let (s, i, p) = occurs_any-part ss v e o in in_list i p

  occurs_any-part : (ss : Sorts) (v : ℕ) → parless_all ss ≡ true → occurs_any v ss ≡ true → (s : Sort) × In s ss × PartOf (var v) s
  occurs_any-part end v e o = absurd (false≢true o)
  occurs_any-part (s then ss) v e o =
      by_test (occurs v s)
      (λ q. (s, first, occurs-part s v (and_left (parless s) (parless_all ss) e) q))
      (λ q. let (r, i, p) = occurs_any-part ss v (and_right (parless s) (parless_all ss) e) (rw q at o) in (r, later i, p))

---------------------------------------------------------------- a target
-- `known` and `unlisted` HOLD exactly of a sort that a target may be.
pub target-exactly : (ns : List ℕ) (t : Sort) → (known t && unlisted ns t) ≡ true ↔ TargetSort ns t
target-exactly ns t = (
  λ h. record {
    known = (known-exactly t).0 (and_left (known t) (unlisted ns t) h);
    free = λ v l q. clash (part-occurs v q) (unlisted-free ns t v (and_right (known t) (unlisted ns t) h) l);
  },
  λ T. let b = (known-exactly t).1 T.known in
      and-true (known t) (unlisted ns t) b
      (free-unlisted ns t (λ v l. not-true-false (occurs v t) (λ o. T.free v l (occurs-part t v (known-parless t b) o)))),
)

-- And of all given sorts.
pub given-exactly : (ns : List ℕ) (gs : List Binding) → given_premise ns gs ≡ true ↔ AllByRecursion (λ (g : Binding). TargetSort ns g.sort) gs
unfolding given_premise
given-exactly ns [] = (λ h. tt, λ h. refl)
given-exactly ns (g ∷ gs) =
    let a = known g.sort && unlisted ns g.sort in
    let b = given_premise ns gs in (
      λ h. ((target-exactly ns g.sort).0 (and_left a b h), (given-exactly ns gs).0 (and_right a b h)),
      λ h. and-true a b ((target-exactly ns g.sort).1 h.0) ((given-exactly ns gs).1 h.1),
    )

-- MATCHING'S PREMISE HOLDS exactly where neither pattern, target nor a given sort has a part that is a Par or ParamBitVec, and no part of the
-- target or of a given sort is a listed variable.
pub premise-exactly : (ns : List ℕ) (gs : List Binding) (p t : Sort) → (premise ns p t && given_premise ns gs) ≡ true ↔ Premise ns gs p t
unfolding premise
premise-exactly ns gs p t = (
  λ h. let (a, b, c) = three (known p) (known t) (unlisted ns t) (and_left (premise ns p t) (given_premise ns gs) h) in
      record {
        pattern = (known-exactly p).0 a;
        target = (target-exactly ns t).0 (and-true (known t) (unlisted ns t) b c);
        given = (given-exactly ns gs).0 (and_right (premise ns p t) (given_premise ns gs) h);
      },
  λ P. let a = (target-exactly ns t).1 P.target in
      and-true (premise ns p t) (given_premise ns gs)
      (and-true (known p && known t) (unlisted ns t)
      (and-true (known p) (known t) ((known-exactly p).1 P.pattern) (and_left (known t) (unlisted ns t) a))
      (and_right (known t) (unlisted ns t) a))
      ((given-exactly ns gs).1 P.given),
)
