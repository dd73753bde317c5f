-- EVERY CAUSE 24 TO 28 OF THE CHECKED ROW of a constant, a Var, a Match, a binder, a Let, an AsOp and an operator, exactly when it is given:
-- one theorem a kind, over the record with the sorts of its parts. IndexRefusals has ParamOp, AppRefusals App.
use Rattle.std.specs.Prelude.{ℕ, suc, ◌+◌, ◌≤◌, ◌<◌, ◌≡◌, refl, ◌↔◌, Bool, true, false, ◌&&◌, List, [], ◌∷◌, eqb, leb, ltb}
use Rattle.std.proofs.Common.{sym, ap, ◌∙◌, true≢false, arith, eqb-true, eq-eqb, leb-true, ltb-true, lt-ltb, leb-false}
use Rattle.std.proofs.lemmas.Bool.{false≢true}
use Rattle.std.proofs.Math.Option.{some}
use Rattle.record.specs.Sort.{Sort, Sorts, var, par, node, end, ◌then◌, function, bool, int, real, string, reglan, array, bitvec, set, count, same}
use Rattle.record.specs.SortLaws.{same-sound, same-complete, same_refl}
use Rattle.record.specs.Cases.{and_left, and_right, and-true, or_cases, by_test, none-some, clash, positive}
use Rattle.sheet.specs.Sheet.{Binding}
use Rattle.substitution.specs.Premises.{proper, proper_all}
use Rattle.row_rules.specs.declared.Cause.{Cause}
use Rattle.row_rules.specs.declared.Cause.TheVariants.{Below}
use Rattle.row_rules.specs.Verdict.{sort, refused}
use Rattle.row_rules.specs.Lists.{last_of, joined, binding_sorts}
use Rattle.row_rules.specs.Term.{Site, Terms, term, constants_of, verdict_of, verdicts_of}
use Rattle.check_rules.specs.Forms.{Form, concat, mixed, takes, element_of, insert, tupling, transpose, join, product}
use Rattle.check_rules.specs.Rank.{Rank, rank, computed, stretched, counts, some_counts}
use Rattle.check_rules.specs.Ranks.{smt_lib}
use Rattle.check_rules.proofs.RankSound.{Sound, smt_lib-sound}
use Rattle.check_rules.specs.Fits.{rank_at, SomeFits}
use Rattle.check_rules.specs.Checked.{carried, value, values, only_of, binder, letting, constant_array, whole_set, qualified, nonempty, operated, checked, check}
use Rattle.check_rules.proofs.FitLaws.{some_counts-nonempty, first_fit-some, some-first_fit, some_counts-when, fit-counts, some_fit, operated-ranked, by_ranked}
use Rattle.check_rules.specs.Parts.{first, Proper, Carried, EachProper, EachValue}
use Rattle.check_rules.proofs.PartTheorems.{proper-exactly, carried-exactly, value-exactly, each_proper-exactly, each_value-exactly}
use Rattle.check_rules.specs.Refusals.{Exactly}
use Rattle.check_rules.specs.Rules.{HaveSorts}
use Rattle.check_rules.proofs.RankTheorems.{accepted-smt_lib, no_ranks, same_count-number, counts-more, alone-fits}
use Rattle.check_rules.proofs.RuleTheorems.{have-only, have-when}
use Rattle.check_rules.proofs.RefusalLaws.{as-unranked, as-barred, as-miscounted, as-misfit, as-accepted, exactly-same, tests, cleaned, by_equal, parts-cause}

---------------------------------------------------------------- constants, Var, Match
-- An INTEGER, REAL, STRING OR REGLAN CONSTANT is never refused.
pub constant-refusals : (R : ℕ → List Rank) (z : Site) → z.kind ≤ 3 → Exactly (checked R z) Unit Unit Unit Unit Unit
unfolding checked
constant-refusals R z k =
    by_equal z.kind 0 (λ q e. as-accepted int (rw q refl) _ _ _ _ _)
    (λ q0 d0. by_equal z.kind 1 (λ q e. as-accepted real (rw (q0, q) refl) _ _ _ _ _)
    (λ q1 d1. by_equal z.kind 2 (λ q e. as-accepted string (rw (q0, q1, q) refl) _ _ _ _ _)
    (λ q2 d2. by_equal z.kind 3 (λ q e. as-accepted reglan (rw (q0, q1, q2, q) refl) _ _ _ _ _)
    (λ q3 d3. absurd (omega arith)))))

-- A BIT-VECTOR CONSTANT gets 28 exactly where its width is 0, and is refused for nothing else.
pub vector-refusals : (R : ℕ → List Rank) (z : Site) → z.kind ≡ 4 → Exactly (checked R z) Unit (0 < z.number) Unit Unit Unit
unfolding checked
vector-refusals R z k =
    by_equal z.number 0
    (λ q e. as-barred (rw (k, q) refl) _ (λ h. omega arith))
    (λ q d. as-accepted (bitvec z.number) (rw (k, q) refl) _ (positive z.number d) _ _ _)

-- A VAR gets 28 exactly where its sort is not one that it may carry, and is refused for nothing else.
pub var-refusals : (R : ℕ → List Rank) (z : Site) → z.kind ≡ 5 → Exactly (checked R z) Unit (Carried z.own) Unit Unit Unit
unfolding checked
var-refusals R z k =
    by_test (carried z.own)
    (λ q. as-accepted z.own (rw (k, q) refl) _ ((carried-exactly z.own).0 q) _ _ _)
    (λ q. as-barred (rw (k, q) refl) _ (λ h. clash ((carried-exactly z.own).1 h) q))

-- A MATCH gets 24.
pub match-refusals : (R : ℕ → List Rank) (z : Site) → z.kind ≡ 10 → Exactly (checked R z) ⊥ Unit Unit Unit Unit
unfolding checked
match-refusals R z k = as-unranked (rw k refl) (λ h. h)

---------------------------------------------------------------- Binder
body-value : (n : ℕ) (b : Sort) → n ≡ 3 → value b ≡ true ↔ (n ≡ 3 → EachValue (b then end)) × ((n ≡ 3 → ⊥) → b then end ≡ bool then end)
unfolding values
body-value n b e = (
  λ v. (λ h. (each_value-exactly (b then end)).0 (and-true (value b) true v refl), λ d. absurd (d e)),
  λ h. (value-exactly b).1 (h.0 e b first),
)

body-bool : (n : ℕ) (b : Sort) → (n ≡ 3 → ⊥) → same b bool ≡ true ↔ (n ≡ 3 → EachValue (b then end)) × ((n ≡ 3 → ⊥) → b then end ≡ bool then end)
body-bool n b d = (
  λ v. (λ e. absurd (d e), λ h. ap (◌then end) (same-sound b bool v)),
  λ h. let e = h.1 d in let f : b ≡ bool = cc in same-complete b bool f,
)

binder-way : (n : ℕ) (bs ts : Sorts)
    → Exactly (binder n bs ts) Unit (EachProper bs)
    ((0 < count bs) × (n ≡ 2 → count bs ≡ 1) × (count ts ≡ 1))
    ((n ≡ 3 → EachValue ts) × ((n ≡ 3 → ⊥) → ts ≡ bool then end)) Unit
unfolding binder count
binder-way n bs end =
    cleaned (proper_all bs) (each_proper-exactly bs) (λ p P. as-miscounted (rw p refl) _ P (λ h. let z = h.2 in omega arith)) (λ p. rw p refl)
binder-way n bs (b then (c then cs)) =
    cleaned (proper_all bs) (each_proper-exactly bs) (λ p P. as-miscounted (rw p refl) _ P (λ h. let z = h.2 in omega arith)) (λ p. rw p refl)
binder-way n bs (b then end) =
    cleaned (proper_all bs) (each_proper-exactly bs)
    (λ p P. by_equal n 3
    (λ q e. tests (ltb 0 (count bs)) (value b) (function (joined bs b)) (rw (p, q) refl) _ P
    (λ h. (ltb-true 0 (count bs) h, λ f. omega arith, refl), λ h. lt-ltb 0 (count bs) h.0)
    (body-value n b e))
    (λ q d. by_equal n 2
    (λ r e. tests (eqb (count bs) 1) (same b bool) (only_of bs) (rw (p, q, r) refl) _ P
    (λ h. let g = eqb-true (count bs) 1 h in (omega arith, λ f. g, refl), λ h. eq-eqb (count bs) 1 (h.1 e))
    (body-bool n b d))
    (λ r f. tests (ltb 0 (count bs)) (same b bool) bool (rw (p, q, r) refl) _ P
    (λ h. (ltb-true 0 (count bs) h, λ e. absurd (f e), refl), λ h. lt-ltb 0 (count bs) h.0)
    (body-bool n b d))))
    (λ p. rw p refl)

-- A BINDER: 28 exactly where a part of a binding's sort is Type, ParamBitVec, BitVec 0 or a Par; else 25 exactly where there is no
-- binding, more than one for Choice, or not one body; else 26 exactly where the body of a Lambda is a Par or that of another is
-- not Bool. Never 24 or 27.
pub binder-refusals : (R : ℕ → List Rank) (z : Site) → z.kind ≡ 8
    → Exactly (checked R z) Unit (EachProper (binding_sorts z.bindings))
    ((0 < count (binding_sorts z.bindings)) × (z.number ≡ 2 → count (binding_sorts z.bindings) ≡ 1) × (count z.args ≡ 1))
    ((z.number ≡ 3 → EachValue z.args) × ((z.number ≡ 3 → ⊥) → z.args ≡ bool then end)) Unit
unfolding checked
binder-refusals R z k = rw k (binder-way z.number (binding_sorts z.bindings) z.args)

---------------------------------------------------------------- Let
let-way : (ts : Sorts) → Exactly (letting ts) Unit Unit (1 < count ts) (EachValue ts) Unit
unfolding letting count
let-way end = as-miscounted refl _ _ (λ h. omega arith)
let-way (t then ts) =
    tests (ltb 1 (suc (count ts))) (values (t then ts)) (last_of t ts) refl _ _
    (ltb-true 1 (suc (count ts)), lt-ltb 1 (suc (count ts))) (each_value-exactly (t then ts))

-- A LET: 25 exactly where it has no value before its inner term; else 26 exactly where a value or the inner term is a Par.
pub let-refusals : (R : ℕ → List Rank) (z : Site) → z.kind ≡ 9 → Exactly (checked R z) Unit Unit (1 < count z.args) (EachValue z.args) Unit
unfolding checked
let-refusals R z k = rw k (let-way z.args)

---------------------------------------------------------------- AsOp
const-way : {A : Type 0} → A → (s : Sort) (ts : Sorts) → Proper s → Exactly (constant_array s ts) A (Proper s) (count ts ≡ 1)
    ((i : Sort) × (e : Sort) × (s ≡ array i e) × (ts ≡ e then end)) Unit
unfolding count
const-way r s end p = as-miscounted refl r p (λ h. omega arith)
const-way r s (a then (b then bs)) p = as-miscounted refl r p (λ h. omega arith)
const-way r (var v) (a then end) p = as-misfit refl r p refl (λ h. let (i, e, q, f) = h in let z : true ≡ false = cc in true≢false z)
const-way r (par ns b) (a then end) p = as-misfit refl r p refl (λ h. let (i, e, q, f) = h in let z : true ≡ false = cc in true≢false z)
const-way r (node k n w end) (a then end) p = as-misfit refl r p refl (λ h. let (i, e, q, f) = h in let z : true ≡ false = cc in true≢false z)
const-way r (node k n w (x then end)) (a then end) p = as-misfit refl r p refl (λ h. let (i, e, q, f) = h in let z : true ≡ false = cc in true≢false z)
const-way r (node k n w (x then (y then end))) (a then end) p =
    let o = node k n w (x then y then end) in
    tests true (same o (array x y) && same a y) (array x y) refl r p (λ h. refl, λ h. refl) (
      λ h. (x, y, same-sound o (array x y) (and_left (same o (array x y)) (same a y) h), ap (◌then end) (same-sound a y (and_right (same o (array x y)) (same a y) h))),
      λ h. let (i, e, q, f) = h in
          let u : x ≡ i = cc in
          let v : y ≡ e = cc in
          let g : o ≡ array x y = cc in
          let j : a ≡ y = cc in
          and-true (same o (array x y)) (same a y) (same-complete o (array x y) g) (same-complete a y j),
    )
const-way r (node k n w (x then (y then (t then ts)))) (a then end) p = as-misfit refl r p refl (λ h. let (i, e, q, f) = h in let z : true ≡ false = cc in true≢false z)

whole-way : {A : Type 0} → A → (s : Sort) (ts : Sorts) → Proper s → Exactly (whole_set s ts) A (Proper s) (count ts ≡ 0) ((e : Sort) × (s ≡ set e)) Unit
unfolding count
whole-way r s (a then ss) p = as-miscounted refl r p (λ h. omega arith)
whole-way r s end p =
    tests true (same s (set (element_of s))) s refl r p (λ h. refl, λ h. refl)
    (λ h. (element_of s, same-sound s (set (element_of s)) h), λ h. let (e, q) = h in rw q (same_refl (set e)))

-- AN ASOP: 24 exactly for a number that is none of 0 Const, 1 SetEmpty, 2 SetUniverse, which no sheet has; else 28 exactly where a part of its sort is Type,
-- ParamBitVec, BitVec 0 or a Par; else 25 exactly where Const has not one argument, or another an argument; else 26 exactly where Const's
-- sort is no Array or the argument not of its element sort, or another's sort is no Set. Never 27.
pub as-refusals : (R : ℕ → List Rank) (z : Site) → z.kind ≡ 12
    → Exactly (checked R z) (z.number ≤ 2) (Proper z.own)
    ((z.number ≡ 0 → count z.args ≡ 1) × ((z.number ≡ 0 → ⊥) → count z.args ≡ 0))
    ((z.number ≡ 0 → (i : Sort) × (e : Sort) × (z.own ≡ array i e) × (z.args ≡ e then end)) × ((z.number ≡ 0 → ⊥) → (e : Sort) × (z.own ≡ set e))) Unit
unfolding checked qualified
as-refusals R z k = rw k (
    by_test (leb z.number 2)
    (λ l. let low = leb-true z.number 2 l in
    by_test (proper z.own)
    (λ p. let P = (proper-exactly z.own).0 p in
    by_equal z.number 0
    (λ q e. rw (l, p, q)
    (exactly-same (const-way low z.own z.args P) (λ h. h, λ h. h) ((λ h. (λ x. h, λ x. absurd (x e))), λ h. h.0 e) (λ c. ((λ h. (λ x. h, λ x. absurd (x e))), λ h. h.0 e))))
    (λ q d. rw (l, p, q)
    (exactly-same (whole-way low z.own z.args P) (λ h. h, λ h. h) ((λ h. (λ x. absurd (d x), λ x. h)), λ h. h.1 d) (λ c. ((λ h. (λ x. absurd (d x), λ x. h)), λ h. h.1 d)))))
    (λ p. as-barred (rw (l, p) refl) low (λ P. clash ((proper-exactly z.own).1 P) p)))
    (λ l. let high = leb-false z.number 2 l in as-unranked (rw l refl) (λ a. omega arith))
    )

---------------------------------------------------------------- Op
-- A RANK TAKES k ARGUMENTS: as many as it prints, or more where it has a last one that repeats; a form says its own counts. And some
-- rank of a list does.
abbrev pub FormTakes : Form → ℕ → Type 0
FormTakes concat k = k ≡ 2
FormTakes (mixed r) k = 2 ≤ k
FormTakes insert k = 2 ≤ k
FormTakes tupling k = 1 ≤ k
FormTakes transpose k = k ≡ 1
FormTakes join k = k ≡ 2
FormTakes product k = k ≡ 2

pub data Takes (k : ℕ) : Rank → Type 0 where
  exact : {rep vs : Bool} {ps : Sorts} {r : Sort} → count ps ≡ k → Takes k (rank rep vs ps r)
  more : {vs : Bool} {p : Sort} {ps : Sorts} {r : Sort} → count (p then ps) ≤ k → Takes k (rank true vs (p then ps) r)
  form : {f : Form} → FormTakes f k → Takes k (computed f)

abbrev pub SomeTakes : List Rank → ℕ → Type 0
SomeTakes rs k = (place : ℕ) × (r : Rank) × (rank_at rs place ≡ some r) × Takes k r

counts-takes : (r : Rank) (ts : Sorts) → counts r ts ≡ true → Takes (count ts) r
unfolding counts stretched
counts-takes (rank false vs ps r) ts e = exact ((same_count-number ps ts).0 e)
counts-takes (rank true vs end r) ts e = exact ((same_count-number end ts).0 e)
counts-takes (rank true vs (p then ps) r) ts e = more ((counts-more vs p ps r ts).0 e)
counts-takes (computed concat) ts e = form (eqb-true (count ts) 2 (unfold takes in e))
counts-takes (computed (mixed r)) ts e = form (ltb-true 1 (count ts) (unfold takes in e))
counts-takes (computed insert) ts e = form (ltb-true 1 (count ts) (unfold takes in e))
counts-takes (computed tupling) ts e = form (ltb-true 0 (count ts) (unfold takes in e))
counts-takes (computed transpose) ts e = form (eqb-true (count ts) 1 (unfold takes in e))
counts-takes (computed join) ts e = form (eqb-true (count ts) 2 (unfold takes in e))
counts-takes (computed product) ts e = form (eqb-true (count ts) 2 (unfold takes in e))

takes-counts : {r : Rank} (ts : Sorts) → Takes (count ts) r → counts r ts ≡ true
unfolding counts stretched count
takes-counts ts (more {vs} {p} {ps} {r} l) = (counts-more vs p ps r ts).1 l
takes-counts ts (form {f = concat} e) = unfold takes in eq-eqb (count ts) 2 e
takes-counts ts (form {f = mixed r} l) = unfold takes in lt-ltb 1 (count ts) l
takes-counts ts (form {f = insert} l) = unfold takes in lt-ltb 1 (count ts) l
takes-counts ts (form {f = tupling} l) = unfold takes in lt-ltb 0 (count ts) l
takes-counts ts (form {f = transpose} e) = unfold takes in eq-eqb (count ts) 1 e
takes-counts ts (form {f = join} e) = unfold takes in eq-eqb (count ts) 2 e
takes-counts ts (form {f = product} e) = unfold takes in eq-eqb (count ts) 2 e
takes-counts ts (exact {rep} {vs} {ps} {r} e) = alike rep ps e
  where
    alike : (rep : Bool) (ps : Sorts) → count ps ≡ count ts → counts (rank rep vs ps r) ts ≡ true
    alike false ps e = (same_count-number ps ts).1 e
    alike true end e = (same_count-number end ts).1 e
    alike true (p then ps) e = (counts-more vs p ps r ts).1 (omega arith)

-- The test of counts says this.
pub some_takes-exactly : (rs : List Rank) (ts : Sorts) → some_counts rs ts ≡ true ↔ SomeTakes rs (count ts)
unfolding some_counts rank_at
some_takes-exactly rs ts = (there rs, λ T. let (i, r, l, t) = T in some_counts-when rs i r ts l (takes-counts ts t))
  where
    there : (rs : List Rank) → some_counts rs ts ≡ true → SomeTakes rs (count ts)
    there [] e = absurd (false≢true e)
    there (r ∷ rs) e =
        by_test (counts r ts)
        (λ q. (0, r, refl, counts-takes r ts q))
        (λ q. let (i, o, l, t) = there rs (rw q at e) in (suc i, o, l, t))

op-way : (R : ℕ → List Rank) (n : ℕ) (ts : Sorts) → Sound (R n)
    → Exactly (operated R n ts) (R n ≡ [] → ⊥) Unit (SomeTakes (R n) (count ts)) (EachValue ts × ((s : Sort) × SomeFits (R n) ts s)) Unit
op-way R n ts S =
    let o = operated-ranked R n ts in
    let any : nonempty (R n) ≡ true → R n ≡ [] → ⊥ = λ a e. true≢false (sym a ∙ ap nonempty e) in
    by_ranked (R n) ts
    (λ a e. as-unranked (o ∙ e) (λ h. h (no_ranks (R n) a)))
    (λ a b e. as-miscounted (o ∙ e) (any a) _ (λ h. clash ((some_takes-exactly (R n) ts).1 h) b))
    (λ b c e. as-misfit (o ∙ e) (any (some_counts-nonempty (R n) ts b)) _ ((some_takes-exactly (R n) ts).0 b) (λ h. clash ((each_value-exactly ts).1 h.0) c))
    (λ b c f e. as-misfit (o ∙ e) (any (some_counts-nonempty (R n) ts b)) _ ((some_takes-exactly (R n) ts).0 b) (λ h. let (s, F) = h.1 in none-some (sym f ∙ some-first_fit (R n) ts s S F)))
    (λ s c f e.
    let F = first_fit-some (R n) ts s S f in
    let b = some_counts-when (R n) F.place F.chosen ts F.listed (fit-counts F.chosen ts s (some_fit (R n) ts s S F)) in
    as-accepted s (o ∙ e) (any (some_counts-nonempty (R n) ts b)) _ ((some_takes-exactly (R n) ts).0 b) ((each_value-exactly ts).0 c, (s, F)) _)

-- AN OP: 24 exactly where the operator has no rank; else 25 exactly where none takes this count of arguments;
-- else 26 exactly where an argument is a Par or no rank fits. Never 28 or 27.
pub op-refusals : (R : ℕ → List Rank) (z : Site) → Sound (R z.number) → z.kind ≡ 7
    → Exactly (checked R z) (R z.number ≡ [] → ⊥) Unit (SomeTakes (R z.number) (count z.args))
    (EachValue z.args × ((s : Sort) × SomeFits (R z.number) z.args s)) Unit
unfolding checked
op-refusals R z S k = rw k (op-way R z.number z.args S)

-- AN OPERATOR OF THE TABLE, in its own words C for the counts that its ranks take and F for the arguments of such a count that are
-- accepted: 25 exactly where C fails, else 26 exactly where F fails. Never 24, 28 or 27.
pub table-refusals : (z : Site) {C F : Type 0} → z.kind ≡ 7 → nonempty (smt_lib z.number) ≡ true
    → some_counts (smt_lib z.number) z.args ≡ true ↔ C
    → (C → ((s : Sort) × (operated smt_lib z.number z.args ≡ sort s)) ↔ F)
    → Exactly (checked smt_lib z) Unit Unit C F Unit
table-refusals z e any c a =
    let S = some_takes-exactly (smt_lib z.number) z.args in
    exactly-same (op-refusals smt_lib z (smt_lib-sound z.number) e)
    (λ h. tt, λ h q. true≢false (sym any ∙ ap nonempty q))
    (λ T. c.0 (S.1 T), λ h. S.0 (c.1 h))
    (λ T. let A = a (c.0 (S.1 T)) in (
      λ h. A.0 (h.1.0, (accepted-smt_lib z.number z.args h.1.0).1 ((each_value-exactly z.args).1 h.0, h.1.1)),
      λ f. let (s, g) = A.1 f in
          let (v, F) = (accepted-smt_lib z.number z.args s).0 g in ((each_value-exactly z.args).0 v, (s, F)),
    ))

-- 90 BvConcat: 25 exactly where it has not two arguments; else 26 exactly where they are not two vectors of known width.
pub concat-refusals : (z : Site) → z.kind ≡ 7 → z.number ≡ 90
    → Exactly (checked smt_lib z) Unit Unit (count z.args ≡ 2) ((i : ℕ) × (j : ℕ) × (z.args ≡ bitvec i then bitvec j then end)) Unit
unfolding smt_lib some_counts counts takes values
concat-refusals z k n =
    exactly-same (op-refusals smt_lib z (smt_lib-sound z.number) k)
    (λ h. tt, λ h. rw n (λ e. true≢false (ap nonempty e)))
    (rw n (one-takes z.args))
    (λ c. rw n (two-vectors z.args))
  where
    one-takes : (ts : Sorts) → SomeTakes (computed concat ∷ []) (count ts) ↔ (count ts ≡ 2)
    one-takes ts =
        let S = some_takes-exactly (computed concat ∷ []) ts in (
          λ T. eqb-true (count ts) 2 (or_cases (eqb (count ts) 2) false (S.1 T) (λ q. q) (λ q. absurd (false≢true q))),
          λ e. S.0 (rw (eq-eqb (count ts) 2 e) refl),
        )

    two-vectors : (ts : Sorts) → (EachValue ts × ((s : Sort) × SomeFits (computed concat ∷ []) ts s)) ↔ ((i : ℕ) × (j : ℕ) × (ts ≡ bitvec i then bitvec j then end))
    two-vectors ts = (
      λ h. let (i, j, e, r) = (alone-fits (computed concat) ts h.1.0).0 h.1.1 in (i, j, e),
      λ h. let (i, j, e) = h in
          ((each_value-exactly ts).0 (rw e refl), (bitvec (i + j), (alone-fits (computed concat) ts (bitvec (i + j))).1 (i, j, e, refl))),
    )

---------------------------------------------------------------- terms
-- A TERM IS REFUSED for a cause other than 20 exactly where its parts have sorts by the rules and the record with these is refused for it.
pub term-cause : (R : ℕ → List Rank) → ((n : ℕ) → Sound (R n)) → (k a n : ℕ) (o : Sort) (ts : Terms) (bs : List Binding) (ns : List ℕ) (is : Terms) (c : Cause) → (c ≡ Below → ⊥)
    → check R (term k a n o ts bs ns is) ≡ refused c
    ↔ ((ss : Sorts) × (js : Sorts) × HaveSorts R ts ss × HaveSorts R is js
    × (checked R (record { kind = k; number = n; own = o; args = ss; bindings = bs; constants = constants_of ts; indices = constants_of is }) ≡ refused c))
unfolding check verdict_of
term-cause R S k a n o ts bs ns is c d =
    let (f, g) = parts-cause (checked R) k n o bs (constants_of ts) (constants_of is) (verdicts_of (checked R) ts) (verdicts_of (checked R) is) c d in (
      λ h. let (ss, js, p, q, e) = f h in (ss, js, have-only R S ts ss p, have-only R S is js q, e),
      λ h. let (ss, js, p, q, e) = h in g (ss, js, have-when R S ts ss p, have-when R S is js q, e),
    )
