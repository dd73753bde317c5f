-- THE LAW OF VARIABLE ABSTRACTION: a term and its abstraction have the same verdict, sort or refusal with its cause, in the column that it was
-- made for. And abstraction is transitive, so a part that was abstracted itself may be abstracted again.
use Rattle.std.specs.Prelude.{ℕ, zero, suc, ◌≡◌, refl, Bool, true, false, cond, ◌&&◌, List, eqb, leb}
use Rattle.std.proofs.Common.{sym, ap, ap₂, ◌∙◌, leb-true, eq-eqb, arith}
use Rattle.std.proofs.lemmas.Bool.{false≢true}
use Rattle.std.proofs.Math.Option.{Option, none, some}
use Rattle.record.specs.Sort.{Sort, Sorts}
use Rattle.record.specs.Cases.{and_left, and_right, and-true, by_test}
use Rattle.sheet.specs.Sheet.{Binding}
use Rattle.substitution.specs.Substitution.{empty}
use Rattle.substitution.specs.Premises.{touches, proper_map}
use Rattle.row_rules.specs.declared.Cause.{Cause}
use Rattle.row_rules.specs.declared.Cause.TheVariants.{Barred}
use Rattle.row_rules.specs.Verdict.{Verdict, sort, need}
use Rattle.row_rules.proofs.OutcomeLaws.{refused-sort, sort-inj}
use Rattle.row_rules.specs.Term.{Site, over_parts, Term, Terms, term, stop, ◌also◌, constants_of, besides, verdict_of, verdicts_of}
use Rattle.infer_rules.specs.declared.Family.{Family}
use Rattle.infer_rules.specs.declared.Family.TheVariants.{Truth, Integer, Decimal, Text, Regular, Vector, OneBit, Bits, Constant, Concat, First, Second, Last, Sum, Element, RareList, Singleton, Tuple, UnitTuple, Transpose, Join, Product}
use Rattle.infer_rules.specs.Family.{Families, done, range, family_in, families, family_of}
use Rattle.infer_rules.specs.Inferred.{operated_by, constant_width, indexed, inferred, infer}
use Rattle.check_rules.specs.Rank.{Rank}
use Rattle.check_rules.proofs.RankSound.{Sound}
use Rattle.check_rules.specs.Checked.{carried, indexing, checked, check}
use Rattle.check_rules.proofs.RouteLaws.{verdict-kept}
use Rattle.check_rules.proofs.RouteTheorems.{parameters-term}
use Rattle.judge_rules.proofs.RowLaws.{judging}
use Rattle.abstraction.specs.Abstraction.{stand_in, reads_arguments, reads_indices, StandsFor, Abstracts, part, inside, AbstractsEach, none_left, one_more}

---------------------------------------------------------------- the sort of a Var
-- EVERY CHECKED SORT OF A TERM IS ONE THAT A VAR MAY CARRY, over sound ranks: no condition on the sort of a part is needed.
pub checked-carried : (R : ℕ → List Rank) → ((n : ℕ) → Sound (R n)) → (t : Term) (s : Sort) → check R t ≡ sort s → carried s ≡ true
unfolding check touches proper_map
checked-carried R S t s h = (verdict-kept R S empty t s refl (parameters-term empty t (λ n i. refl)) h).carries

-- What the law asks of a verdict J on records: a Var of the sort of any term has that sort,
abbrev pub VarsCarry : (Site → Verdict) → Type 0
VarsCarry J = (t : Term) (s : Sort) → verdict_of J t ≡ sort s → (a : ℕ) → verdict_of J (stand_in a s) ≡ sort s

---------------------------------------------------------------- one record
cond_same : (b : Bool) (x y z w : Verdict) → (b ≡ true → x ≡ z) → (b ≡ false → y ≡ w) → cond b x y ≡ cond b z w
cond_same true x y z w f g = f refl
cond_same false x y z w f g = g refl

-- No family but BvConst's looks at the integer constants among the arguments.
operated-alike : (f : Family) (ss : Sorts) (cs ds : List (Option ℕ)) → (f ≡ Constant → cs ≡ ds) → operated_by f ss cs ≡ operated_by f ss ds
unfolding operated_by
operated-alike Truth ss cs ds h = refl
operated-alike Integer ss cs ds h = refl
operated-alike Decimal ss cs ds h = refl
operated-alike Text ss cs ds h = refl
operated-alike Regular ss cs ds h = refl
operated-alike Vector ss cs ds h = refl
operated-alike OneBit ss cs ds h = refl
operated-alike Bits ss cs ds h = refl
operated-alike Constant ss cs ds h = ap (λ (l : List (Option ℕ)). constant_width l) (h refl)
operated-alike Concat ss cs ds h = refl
operated-alike First ss cs ds h = refl
operated-alike Second ss cs ds h = refl
operated-alike Last ss cs ds h = refl
operated-alike Sum ss cs ds h = refl
operated-alike Element ss cs ds h = refl
operated-alike RareList ss cs ds h = refl
operated-alike Singleton ss cs ds h = refl
operated-alike Tuple ss cs ds h = refl
operated-alike UnitTuple ss cs ds h = refl
operated-alike Transpose ss cs ds h = refl
operated-alike Join ss cs ds h = refl
operated-alike Product ss cs ds h = refl

-- Only the operator 112 is of that family: by a test of the table's ranges.
abbrev is_constant : Family → Bool
is_constant Truth = false
is_constant Integer = false
is_constant Decimal = false
is_constant Text = false
is_constant Regular = false
is_constant Vector = false
is_constant OneBit = false
is_constant Bits = false
is_constant Constant = true
is_constant Concat = false
is_constant First = false
is_constant Second = false
is_constant Last = false
is_constant Sum = false
is_constant Element = false
is_constant RareList = false
is_constant Singleton = false
is_constant Tuple = false
is_constant UnitTuple = false
is_constant Transpose = false
is_constant Join = false
is_constant Product = false

unfoldable only_const : Families → Bool
only_const done = true
only_const (range a b f fs) = cond (is_constant f) (leb 112 a && leb b 112) true && only_const fs

range-const : (n a b : ℕ) (f g : Family) → cond (is_constant f) (leb 112 a && leb b 112) true ≡ true → (is_constant g ≡ true → n ≡ 112)
    → is_constant (cond (leb a n && leb n b) f g) ≡ true → n ≡ 112
range-const n a b f g only rest e =
    by_test (leb a n && leb n b)
    (λ q.
    let c : is_constant f ≡ true = rw q at e in
    let o : (leb 112 a && leb b 112) ≡ true = rw c at only in
    let x = leb-true 112 a (and_left (leb 112 a) (leb b 112) o) in
    let y = leb-true b 112 (and_right (leb 112 a) (leb b 112) o) in
    let z = leb-true a n (and_left (leb a n) (leb n b) q) in
    let w = leb-true n b (and_right (leb a n) (leb n b) q) in omega arith)
    (λ q. rest (rw q at e))

family-const : (fs : Families) (n : ℕ) → only_const fs ≡ true → is_constant (family_in fs n) ≡ true → n ≡ 112
unfolding family_in only_const
family-const done n only e = absurd (false≢true e)
family-const (range a b f fs) n only e =
    range-const n a b f (family_in fs n) (and_left (cond (is_constant f) (leb 112 a && leb b 112) true) (only_const fs) only)
    (family-const fs n (and_right (cond (is_constant f) (leb 112 a && leb b 112) true) (only_const fs) only)) e

-- BvConst is the operator 112 and no other.
pub only-112 : (n : ℕ) → family_of n ≡ Constant → n ≡ 112
unfolding family_of families only_const
only-112 n e = family-const families n refl (ap (λ (f : Family). is_constant f) e)

-- THE VERDICTS ON TWO RECORDS that differ in the integer constants among their parts alone, which are the same where a verdict looks at them.
abbrev pub site : ℕ → ℕ → Sort → List Binding → Sorts → List (Option ℕ) → List (Option ℕ) → Site
site k n o bs ss cs is = record { kind = k; number = n; own = o; args = ss; bindings = bs; constants = cs; indices = is }

record-inferred : (k n : ℕ) (o : Sort) (bs : List Binding) (ss : Sorts) (cs ds is js : List (Option ℕ))
    → ((eqb k 7 && eqb n 112) ≡ true → cs ≡ ds) → (eqb k 11 ≡ true → is ≡ js) → inferred (site k n o bs ss cs is) ≡ inferred (site k n o bs ss ds js)
unfolding inferred
record-inferred k n o bs ss cs ds is js h i =
    cond_same (eqb k 0) _ _ _ _ (λ q. refl)
    (λ q0. cond_same (eqb k 1) _ _ _ _ (λ q. refl)
    (λ q1. cond_same (eqb k 2) _ _ _ _ (λ q. refl)
    (λ q2. cond_same (eqb k 3) _ _ _ _ (λ q. refl)
    (λ q3. cond_same (eqb k 4) _ _ _ _ (λ q. refl)
    (λ q4. cond_same (eqb k 5) _ _ _ _ (λ q. refl)
    (λ q5. cond_same (eqb k 6) _ _ _ _ (λ q. refl)
    (λ q6. cond_same (eqb k 7) _ _ _ _
    (λ q. operated-alike (family_of n) ss cs ds (λ f. h (and-true (eqb k 7) (eqb n 112) q (eq-eqb n 112 (only-112 n f)))))
    (λ q7. cond_same (eqb k 8) _ _ _ _ (λ q. refl)
    (λ q8. cond_same (eqb k 9) _ _ _ _ (λ q. refl)
    (λ q9. cond_same (eqb k 10) _ _ _ _ (λ q. refl)
    (λ q10. cond_same (eqb k 11) _ _ _ _ (λ q. ap (λ (l : List (Option ℕ)). indexed n l ss) (i q)) (λ q11. refl))))))))))))

record-checked : (R : ℕ → List Rank) (k n : ℕ) (o : Sort) (bs : List Binding) (ss : Sorts) (cs ds is js : List (Option ℕ))
    → (eqb k 11 ≡ true → is ≡ js) → checked R (site k n o bs ss cs is) ≡ checked R (site k n o bs ss ds js)
unfolding checked
record-checked R k n o bs ss cs ds is js i =
    cond_same (eqb k 0) _ _ _ _ (λ q. refl)
    (λ q0. cond_same (eqb k 1) _ _ _ _ (λ q. refl)
    (λ q1. cond_same (eqb k 2) _ _ _ _ (λ q. refl)
    (λ q2. cond_same (eqb k 3) _ _ _ _ (λ q. refl)
    (λ q3. cond_same (eqb k 4) _ _ _ _ (λ q. refl)
    (λ q4. cond_same (eqb k 5) _ _ _ _ (λ q. refl)
    (λ q5. cond_same (eqb k 6) _ _ _ _ (λ q. refl)
    (λ q6. cond_same (eqb k 7) _ _ _ _ (λ q. refl)
    (λ q7. cond_same (eqb k 8) _ _ _ _ (λ q. refl)
    (λ q8. cond_same (eqb k 9) _ _ _ _ (λ q. refl)
    (λ q9. cond_same (eqb k 11) _ _ _ _ (λ q. ap (λ (l : List (Option ℕ)). indexing n l ss) (i q)) (λ q11. refl)))))))))))

vars-checked : (R : ℕ → List Rank) → ((n : ℕ) → Sound (R n)) → VarsCarry (checked R)
unfolding verdict_of checked check
vars-checked R S t s h a = rw (checked-carried R S t s h) refl

-- and the integer constants of the lists that are named for its column are all that it looks at.
abbrev pub OnlyReads : (Site → Verdict) → ℕ → Type 0
OnlyReads J column = (k n : ℕ) (o : Sort) (bs : List Binding) (ss : Sorts) (cs ds is js : List (Option ℕ))
    → (reads_arguments column k n ≡ true → cs ≡ ds) → (reads_indices k ≡ true → is ≡ js) → J (site k n o bs ss cs is) ≡ J (site k n o bs ss ds js)

pub record Abstractable (J : Site → Verdict) (column : ℕ) : Type 0 where
  pub carry : VarsCarry J
  pub reads : OnlyReads J column

-- So does the inferred verdict, whatever the ranks are, and the checked one over sound ranks.
pub inferred-able : Abstractable inferred 0
unfolding verdict_of inferred
inferred-able = record { carry = λ t s h a. refl; reads = record-inferred }

pub checked-able : (R : ℕ → List Rank) → ((n : ℕ) → Sound (R n)) → Abstractable (checked R) 1
checked-able R S = record { carry = vars-checked R S; reads = λ k n o bs ss cs ds is js h i. record-checked R k n o bs ss cs ds is js i }

over-alike : (J : Site → Verdict) (column : ℕ) → OnlyReads J column → (k n : ℕ) (o : Sort) (bs : List Binding) (cs ds is js : List (Option ℕ)) (a b : Option Sorts)
    → (reads_arguments column k n ≡ true → cs ≡ ds) → (reads_indices k ≡ true → is ≡ js) → over_parts J k n o bs cs is a b ≡ over_parts J k n o bs ds js a b
over-alike J column A k n o bs cs ds is js none b h i = refl
over-alike J column A k n o bs cs ds is js (some ss) none h i = refl
over-alike J column A k n o bs cs ds is js (some ss) (some rs) h i = A k n o bs ss cs ds is js h i

---------------------------------------------------------------- terms
module _ (J : Site → Verdict) (column : ℕ) (A : Abstractable J column) where
  mutual
    unfolding verdict_of

    -- THE LAW: replacing parts by variables of their sorts leaves the verdict what it was, sort or refusal with its cause.
    pub abstraction : {t u : Term} → Abstracts J column t u → verdict_of J u ≡ verdict_of J t
    abstraction {t} (part a s h) = A.carry t s h.has a ∙ sym h.has
    abstraction (inside {k = k} {n = n} {o = o} {ts = ts} {us = us} {is = is} {js = js} {bs = bs} f g h i) =
        sym (over-alike J column A.reads k n o bs (constants_of ts) (constants_of us) (constants_of is) (constants_of js) (verdicts_of J us) (verdicts_of J js) h i)
        ∙ ap₂ (λ (x y : Option Sorts). over_parts J k n o bs (constants_of ts) (constants_of is) x y) (abstraction-each f) (abstraction-each g)

    pub abstraction-each : {ts us : Terms} → AbstractsEach J column ts us → verdicts_of J us ≡ verdicts_of J ts
    abstraction-each none_left = refl
    abstraction-each (one_more f g) = ap₂ (λ (v : Verdict) (o : Option Sorts). besides v o) (abstraction f) (abstraction-each g)

  -- What stands for a part, put through again.
  from-variable : {t v : Term} (a : ℕ) (s : Sort) → StandsFor J t a s → Abstracts J column (stand_in a s) v → Abstracts J column t v
  from-variable a s h (part b r k) = part b r (record { has = sym (abstraction (part a s h)) ∙ k.has })
  from-variable a s h (inside none_left none_left x y) = part a s h

  -- TRANSITIVE: what is made of an abstraction is one of the whole term, so a part that was abstracted itself may be abstracted again.
  mutual
    pub abstracts-trans : {t u v : Term} → Abstracts J column t u → Abstracts J column u v → Abstracts J column t v
    abstracts-trans (part a s h) g = from-variable a s h g
    abstracts-trans (inside f g h i) (part a s k) = part a s (record { has = sym (abstraction (inside f g h i)) ∙ k.has })
    abstracts-trans (inside f g h i) (inside x y z w) = inside (each-trans f x) (each-trans g y) (λ q. h q ∙ z q) (λ q. i q ∙ w q)

    pub each-trans : {ts us vs : Terms} → AbstractsEach J column ts us → AbstractsEach J column us vs → AbstractsEach J column ts vs
    each-trans none_left none_left = none_left
    each-trans (one_more f g) (one_more x y) = one_more (abstracts-trans f x) (each-trans g y)

-- Nothing replaced.
mutual
  pub abstracts-self : (J : Site → Verdict) (column : ℕ) (t : Term) → Abstracts J column t t
  abstracts-self J column (term k a n o ts bs ns is) = inside (each-self J column ts) (each-self J column is) (λ q. refl) (λ q. refl)

  pub each-self : (J : Site → Verdict) (column : ℕ) (ts : Terms) → AbstractsEach J column ts ts
  each-self J column stop = none_left
  each-self J column (t also ts) = one_more (abstracts-self J column t) (each-self J column ts)

---------------------------------------------------------------- the condition is needed
sort-only : (b : Bool) (c : Cause) (s r : Sort) → need b c (sort s) ≡ sort r → s ≡ r
sort-only true c s r e = sort-inj e
sort-only false c s r e = refused-sort e

var-only : (R : ℕ → List Rank) (column a : ℕ) (s r : Sort) → verdict_of (judging R column) (stand_in a s) ≡ sort r → s ≡ r
unfolding verdict_of inferred checked
var-only R zero a s r e = sort-inj e
var-only R (suc column) a s r e = sort-only (carried s) Barred s r e

-- NO OTHER VARIABLE WILL DO, in either column: where a part has a sort, and a variable the same verdict as the part, the variable stands for the part.
pub stands-needed : (R : ℕ → List Rank) (column : ℕ) (t : Term) (a : ℕ) (s r : Sort) → verdict_of (judging R column) t ≡ sort r
    → verdict_of (judging R column) (stand_in a s) ≡ verdict_of (judging R column) t → StandsFor (judging R column) t a s
stands-needed R column t a s r h e = record { has = h ∙ ap sort (sym (var-only R column a s r (e ∙ h))) }

---------------------------------------------------------------- the two columns
-- THE LAW FOR THE CHECKED SORT, over all sound ranks.
pub abstraction-checked : (R : ℕ → List Rank) → ((n : ℕ) → Sound (R n)) → (t u : Term) → Abstracts (checked R) 1 t u → check R u ≡ check R t
unfolding check
abstraction-checked R S t u h = abstraction (checked R) 1 (checked-able R S) h

-- THE LAW FOR THE INFERRED SORT. A variable serves both columns where the part has the same sort in both.
pub abstraction-inferred : (t u : Term) → Abstracts inferred 0 t u → infer u ≡ infer t
unfolding infer
abstraction-inferred t u h = abstraction inferred 0 inferred-able h
