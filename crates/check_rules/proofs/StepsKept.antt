-- The two routes, one rule of the checked verdict after the other: where a rule gives a sort, it gives the replaced sort on
-- replaced arguments. Each law follows the `need`s of its definition.
use Rattle.std.specs.Prelude.{ℕ, suc, ◌+◌, ◌-◌, ◌*◌, ◌<◌, ◌≡◌, refl, Bool, true, false, not, cond, ◌&&◌, ◌||◌, List, [], ◌∷◌, eqb, leb, ltb}
use Rattle.std.proofs.Common.{sym, ap, ◌∙◌, true≢false, arith, mul-pos, eqb-true, ltb-true}
use Rattle.std.proofs.lemmas.Bool.{false≢true}
use Rattle.std.proofs.Math.Option.{Option, none, some}
use Rattle.record.specs.Names.{member}
use Rattle.record.specs.Sort.{Sort, Sorts, var, par, node, end, ◌then◌, function, bool, int, reglan, array, bitvec, number_in, count, same, set}
use Rattle.record.specs.SortLaws.{same-sound, same-complete}
use Rattle.record.specs.Cases.{and_left, conj, and-true, or_left, or_right, not-true, eqb-self, by_test, by_option, none-some}
use Rattle.substitution.specs.Substitution.{Map, empty, find, bound, apply, apply_all, through, occurs, occurs_any}
use Rattle.substitution.proofs.SubstitutionLaws.{image-untouched, image-proper, apply-proper, apply_all-proper, find-through, apply-apply, left-untouched, count-applied}
use Rattle.substitution.specs.Premises.{touches, untouched, clear, clear_all, proper, proper_all, proper_map}
use Rattle.substitution.specs.Matching.{matches_all}
use Rattle.substitution.proofs.MatchingLaws.{match_all-within, match_all-moved, match_all-proper}
use Rattle.row_rules.specs.declared.Cause.{Cause}
use Rattle.row_rules.specs.declared.Cause.TheVariants.{NoRank, Count, Misfit, Unassigned, Barred}
use Rattle.row_rules.specs.Verdict.{Verdict, sort, need}
use Rattle.row_rules.specs.Lists.{firsts, others, remaining, last_of, joined}
use Rattle.row_rules.proofs.OutcomeLaws.{refused-sort}
use Rattle.check_rules.specs.Rank.{Rank, vector, first_fit, some_counts}
use Rattle.check_rules.specs.RankLaws.{some_counts-moved, vector-is, vector-still}
use Rattle.check_rules.proofs.RankSound.{Sound, first_fit-moved, first_fit-proper}
use Rattle.check_rules.specs.Checked.{carried, value, values, settled, settled_all, called, checked_app, nonempty, ranked, operated, only_of, bound_body, binder, inner_of, letting, new_width, indexed₁, indexed₂, indexed_by, indexed_on, indexing, constant_array, qualified, whole_set}
use Rattle.check_rules.proofs.Kept.{StepKept, need-kept, cond-kept, kept, carried_all, carried-value, carried-values, proper-value, values_moved, last_of-moved, last_of-proper}
use Rattle.check_rules.specs.FormLaws.{width-proper, proper-positive}
use Rattle.check_rules.specs.Forms.{element_of}

---------------------------------------------------------------- operators
-- Ranks: the counts stay, values stay values, and the rank that fits is the one that fits.
pub ranked-kept : (σ : Map) (rs : List Rank) (ts : Sorts) (s : Sort) → proper_map σ ≡ true → carried_all ts ≡ true → Sound rs
    → ranked rs ts ≡ sort s → StepKept σ s (ranked rs (apply_all σ ts))
unfolding ranked
ranked-kept σ rs ts s e c w =
    need-kept σ s (nonempty rs) (nonempty rs) NoRank _ _ (λ b. b) (λ b.
    need-kept σ s (some_counts rs ts) (some_counts rs (apply_all σ ts)) Count _ _ (λ q. some_counts-moved σ rs ts ∙ q) (λ q.
    need-kept σ s (values ts) (values (apply_all σ ts)) Misfit _ _ (values_moved σ ts e c) (λ v h.
    by_option (first_fit rs ts)
    (λ f. refused-sort (rw f at h))
    (λ r f. kept σ r s _ (first_fit-proper rs ts r w (carried-values ts c v) f) (rw (first_fit-moved σ rs ts r w f) refl) (rw f at h)))))

-- A proper vector has positive width.
pub proper-width : (s : Sort) → vector s ≡ true → proper s ≡ true → 0 < number_in s
proper-width s v e = proper-positive (number_in s) (ap proper (sym (vector-is s v)) ∙ e)

-- An argument that is a vector is proper, and stays a vector.
pub vector-proper : (s : Sort) → carried s ≡ true → vector s ≡ true → proper s ≡ true
vector-proper s c v = carried-value s c (ap value (vector-is s v))

pub vector-moved : (σ : Map) (s : Sort) → vector s ≡ true → vector (apply σ s) ≡ true
vector-moved σ s v = rw (vector-still σ s v) v

-- Every operator, by its number.
pub operated-kept : (R : ℕ → List Rank) → ((n : ℕ) → Sound (R n)) → (σ : Map) (n : ℕ) (ts : Sorts) (s : Sort) → proper_map σ ≡ true → carried_all ts ≡ true
    → operated R n ts ≡ sort s → StepKept σ s (operated R n (apply_all σ ts))
unfolding operated
operated-kept R S σ n ts s e c = ranked-kept σ (R n) ts s e c (S n)

---------------------------------------------------------------- application
-- The lists that App takes apart, replaced: parts of the replaced list; and parts of a proper list are proper.
pub firsts-moved : (σ : Map) (ss ts : Sorts) → firsts (apply_all σ ss) (apply_all σ ts) ≡ apply_all σ (firsts ss ts)
unfolding firsts apply
firsts-moved σ ss end = refl
firsts-moved σ end (t then ts) = refl
firsts-moved σ (s then ss) (t then ts) = ap (apply σ s then◌) (firsts-moved σ ss ts)

pub others-moved : (σ : Map) (ss ts : Sorts) → others (apply_all σ ss) (apply_all σ ts) ≡ apply_all σ (others ss ts)
unfolding others apply
others-moved σ ss end = refl
others-moved σ end (t then ts) = refl
others-moved σ (s then ss) (t then ts) = others-moved σ ss ts

pub remaining-moved : (σ : Map) (ss : Sorts) → remaining (apply_all σ ss) ≡ apply σ (remaining ss)
unfolding apply
remaining-moved σ end = refl
remaining-moved σ (s then end) = refl
remaining-moved σ (s then (r then rs)) = refl

pub others-proper : (ss ts : Sorts) → proper_all ss ≡ true → proper_all (others ss ts) ≡ true
unfolding others proper
others-proper ss end e = e
others-proper end (t then ts) e = refl
others-proper (s then ss) (t then ts) e = others-proper ss ts (search conj)

pub remaining-proper : (ss : Sorts) → proper_all ss ≡ true → proper (remaining ss) ≡ true
unfolding proper
remaining-proper end e = refl
remaining-proper (s then end) e = and_left (proper s) true e
remaining-proper (s then (r then rs)) e = e

-- What the arguments settle, they settle on the other route.
pub bound-through : (σ m : Map) (v : ℕ) → bound m v ≡ true → bound (through σ m) v ≡ true
bound-through σ m v b =
    by_option (find m v) (λ q. let z : false ≡ true = rw q at b in absurd (false≢true z)) (λ s q. rw (find-through σ m v s q) refl)

mutual
  unfolding settled proper occurs

  pub settled-free : (listed : ℕ → Bool) (m : Map) (s : Sort) → proper s ≡ true → ((v : ℕ) → listed v ≡ true → occurs v s ≡ false) → settled listed m s ≡ true
  settled-free listed m (var v) e h =
      by_test (listed v)
      (λ q. let z : true ≡ false = sym (eqb-self v) ∙ h v q in absurd (true≢false z))
      (λ q. rw q refl)
  settled-free listed m (par ns b) e h = absurd (false≢true e)
  settled-free listed m (node k a w ss) e h = settled_all-free listed m ss (search conj) h

  pub settled_all-free : (listed : ℕ → Bool) (m : Map) (ss : Sorts) → proper_all ss ≡ true → ((v : ℕ) → listed v ≡ true → occurs_any v ss ≡ false) → settled_all listed m ss ≡ true
  settled_all-free listed m end e h = refl
  settled_all-free listed m (s then ss) e h =
      and-true (settled listed m s) (settled_all listed m ss)
      (settled-free listed m s (search conj) (λ v q. or_left (occurs v s) (occurs_any v ss) (h v q)))
      (settled_all-free listed m ss (search conj) (λ v q. or_right (occurs v s) (occurs_any v ss) (h v q)))

mutual
  unfolding settled proper apply

  pub settled-moved : (σ : Map) (listed : ℕ → Bool) (m : Map) (s : Sort) → proper_map σ ≡ true → ((v : ℕ) → listed v ≡ true → touches σ v ≡ false)
      → proper s ≡ true → settled listed m s ≡ true → settled listed (through σ m) (apply σ s) ≡ true
  settled-moved σ listed m (var v) e d p h =
      by_option (find σ v)
      (λ f. rw f (by_test (listed v)
      (λ q. rw q (bound-through σ m v (rw q at h)))
      (λ q. rw q refl)))
      (λ i f. rw f (settled-free listed (through σ m) i (image-proper σ v i e f) (λ u q. image-untouched σ u v i (d u q) f)))
  settled-moved σ listed m (par ns b) e d p h = absurd (false≢true p)
  settled-moved σ listed m (node k a w ss) e d p h = settled_all-moved σ listed m ss e d (search conj) h

  pub settled_all-moved : (σ : Map) (listed : ℕ → Bool) (m : Map) (ss : Sorts) → proper_map σ ≡ true → ((v : ℕ) → listed v ≡ true → touches σ v ≡ false)
      → proper_all ss ≡ true → settled_all listed m ss ≡ true → settled_all listed (through σ m) (apply_all σ ss) ≡ true
  settled_all-moved σ listed m end e d p h = refl
  settled_all-moved σ listed m (s then ss) e d p h =
      and-true (settled listed (through σ m) (apply σ s)) (settled_all listed (through σ m) (apply_all σ ss))
      (settled-moved σ listed m s e d (search conj) (search conj))
      (settled_all-moved σ listed m ss e d (search conj) (search conj))

-- App: a match of the declared sorts with the actual ones stays one when both are replaced, since no parameter is touched; what it
-- settles stays settled, and the result is the replaced result (`apply-apply`).
pub called-kept : (σ : Map) (listed : ℕ → Bool) (ss ts : Sorts) (s : Sort) → proper_map σ ≡ true → ((v : ℕ) → listed v ≡ true → touches σ v ≡ false)
    → proper_all ss ≡ true → carried_all ts ≡ true
    → called listed (some ss) ts ≡ sort s → StepKept σ s (called listed (some (apply_all σ ss)) (apply_all σ ts))
unfolding called through proper_map
called-kept σ listed ss ts s e d p c =
    need-kept σ s (ltb (count ts) (count ss)) (ltb (count (apply_all σ ts)) (count (apply_all σ ss))) Count _ _
    (λ q. rw (count-applied σ ts, count-applied σ ss) q)
    (λ q. need-kept σ s (values ts) (values (apply_all σ ts)) Misfit _ _ (values_moved σ ts e c) (λ v h.
    let r = remaining (others ss ts) in
    let pr = remaining-proper (others ss ts) (others-proper ss ts p) in
    rw (firsts-moved σ ss ts, others-moved σ ss ts, remaining-moved σ (others ss ts))
    (by_option (matches_all listed (firsts ss ts) ts empty)
    (λ f. refused-sort (rw f at h))
    (λ m f. rw (match_all-moved σ listed (firsts ss ts) ts empty m e d f)
    (need-kept σ s (settled listed m r) (settled listed (through σ m) (apply σ r)) Unassigned _ _
    (settled-moved σ listed m r e d pr)
    (λ q. kept σ (apply m r) s _
    (apply-proper m r (match_all-proper listed (firsts ss ts) ts empty m (carried-values ts c v) refl f) pr)
    (ap sort (sym (apply-apply σ m r e pr (λ u i g. by_test (listed u) (d u)
    (λ o. none-some (sym (match_all-within listed (firsts ss ts) ts empty m f (λ _ _. refl) u o) ∙ g)))))))
    (rw f at h))))))

-- A parameter of an untouched Par is not touched.
pub untouched-member : (σ : Map) (ns : List ℕ) (v : ℕ) → untouched σ ns ≡ true → member v ns ≡ true → touches σ v ≡ false
unfolding untouched member
untouched-member σ [] v u h = absurd (false≢true h)
untouched-member σ (n ∷ ns) v u h =
    by_test (eqb n v)
    (λ q. rw (← eqb-true n v q) (not-true (touches σ n) (search conj)))
    (λ q. untouched-member σ ns v (search conj) (rw q at h))

-- A head with a list, or none.
pub listed_kept : (σ : Map) (k : ℕ) (listed : ℕ → Bool) (ss ts : Sorts) (s : Sort) → proper_map σ ≡ true → ((v : ℕ) → listed v ≡ true → touches σ v ≡ false)
    → proper_all ss ≡ true → carried_all ts ≡ true
    → called listed (cond (eqb k 0) (some ss) none) ts ≡ sort s → StepKept σ s (called listed (cond (eqb k 0) (some (apply_all σ ss)) none) (apply_all σ ts))
unfolding called
listed_kept σ k listed ss ts s e d p c h =
    by_test (eqb k 0)
    (λ q. rw q (called-kept σ listed ss ts s e d p c (rw q at h)))
    (λ q. refused-sort (rw q at h))

-- App, by the head: a Par keeps its names, since none is touched.
pub application-kept : (σ : Map) (ts : Sorts) (s : Sort) → proper_map σ ≡ true → carried_all ts ≡ true → clear_all σ ts ≡ true
    → checked_app ts ≡ sort s → StepKept σ s (checked_app (apply_all σ ts))
unfolding checked_app apply carried_all clear proper
application-kept σ end s e c u h = refused-sort h
application-kept σ (g then end) s e c u h = refused-sort h
application-kept σ (var v then (t then ts)) s e c u h = refused-sort h
application-kept σ (par [] b then (t then ts)) s e c u h = absurd (false≢true c)
application-kept σ (par (n ∷ ns) (var v) then (t then ts)) s e c u h = absurd (false≢true c)
application-kept σ (par (n ∷ ns) (par ms b) then (t then ts)) s e c u h = absurd (false≢true c)
application-kept σ (par (n ∷ ns) (node k a w ss) then (t then ts)) s e c u h =
    let z = and_left (untouched σ (n ∷ ns)) (clear σ (node k a w ss)) (search conj) in
    let b = and_left (carried (par (n ∷ ns) (node k a w ss))) (carried_all (t then ts)) c in
    rw (left-untouched σ (n ∷ ns) z)
    (listed_kept σ k (λ v. member v (n ∷ ns)) ss (t then ts) s e (λ v. untouched-member σ (n ∷ ns) v z)
    (search conj)
    (search conj) h)
application-kept σ (node k a w ss then (t then ts)) s e c u h =
    listed_kept σ k (λ v. false) ss (t then ts) s e (λ v q. absurd (false≢true q)) (search conj) (search conj) h

---------------------------------------------------------------- binders
-- A Lambda's list, replaced, and proper.
pub joined-moved : (σ : Map) (bs : Sorts) (b : Sort) → joined (apply_all σ bs) (apply σ b) ≡ apply_all σ (joined bs b)
unfolding joined apply
joined-moved σ end b = refl
joined-moved σ (s then ss) b = ap (apply σ s then◌) (joined-moved σ ss b)

pub joined-proper : (bs : Sorts) (b : Sort) → proper_all bs ≡ true → proper b ≡ true → proper_all (joined bs b) ≡ true
unfolding joined proper
joined-proper end b p q = and-true (proper b) true q refl
joined-proper (s then ss) b p q = and-true (proper s) (proper_all (joined ss b)) (search conj) (joined-proper ss b (search conj) q)

-- The one binding of a Choice; without any, Bool stands for it on both routes.
pub only-moved : (σ : Map) (bs : Sorts) → only_of (apply_all σ bs) ≡ apply σ (only_of bs)
unfolding apply
only-moved σ end = refl
only-moved σ (s then ss) = refl

pub only-proper : (bs : Sorts) → proper_all bs ≡ true → proper (only_of bs) ≡ true
unfolding proper
only-proper end p = refl
only-proper (s then ss) p = search conj

-- A sort tested against one without variables stays.
pub same-moved : (σ : Map) (a g : Sort) → apply σ g ≡ g → same a g ≡ true → same (apply σ a) g ≡ true
same-moved σ a g q h = same-complete (apply σ a) g (ap (apply σ) (same-sound a g h) ∙ q)

-- Quantifiers, Choice and Lambda: the count of bindings stays, a Bool body stays Bool, and the result is made of the bindings'
-- sorts and the body's.
pub bound_body-kept : (σ : Map) (n : ℕ) (bs ts : Sorts) (s : Sort) → proper_map σ ≡ true → proper_all bs ≡ true → carried_all ts ≡ true
    → bound_body n bs ts ≡ sort s → StepKept σ s (bound_body n (apply_all σ bs) (apply_all σ ts))
unfolding apply carried_all proper
bound_body-kept σ n bs end s e p c h = refused-sort h
bound_body-kept σ n bs (b then (d then ds)) s e p c h = refused-sort h
bound_body-kept σ n bs (b then end) s e p c h =
    let cb = and_left (carried b) true c in
    cond-kept σ s (eqb n 3) _ _ _ _
    (need-kept σ s (ltb 0 (count bs)) (ltb 0 (count (apply_all σ bs))) Count _ _ (λ q. rw (count-applied σ bs) q) (λ q.
    need-kept σ s (value b) (value (apply σ b)) Misfit _ _ (λ v. proper-value (apply σ b) (apply-proper σ b e (carried-value b cb v)))
    (λ v. kept σ (function (joined bs b)) s _ (joined-proper bs b p (carried-value b cb v)) (ap sort (ap function (joined-moved σ bs b))))))
    (cond-kept σ s (eqb n 2) _ _ _ _
    (need-kept σ s (eqb (count bs) 1) (eqb (count (apply_all σ bs)) 1) Count _ _ (λ q. rw (count-applied σ bs) q) (λ q.
    need-kept σ s (same b bool) (same (apply σ b) bool) Misfit _ _ (same-moved σ b bool refl)
    (λ v. kept σ (only_of bs) s _ (only-proper bs p) (ap sort (only-moved σ bs)))))
    (need-kept σ s (ltb 0 (count bs)) (ltb 0 (count (apply_all σ bs))) Count _ _ (λ q. rw (count-applied σ bs) q) (λ q.
    need-kept σ s (same b bool) (same (apply σ b) bool) Misfit _ _ (same-moved σ b bool refl)
    (λ v. kept σ bool s _ refl refl))))
    h

pub binder-kept : (σ : Map) (n : ℕ) (bs ts : Sorts) (s : Sort) → proper_map σ ≡ true → carried_all ts ≡ true
    → binder n bs ts ≡ sort s → StepKept σ s (binder n (apply_all σ bs) (apply_all σ ts))
unfolding binder
binder-kept σ n bs ts s e c =
    need-kept σ s (proper_all bs) (proper_all (apply_all σ bs)) Barred _ _ (apply_all-proper σ bs e) (λ q. bound_body-kept σ n bs ts s e q c)

-- Let: the sort of its inner term, the last of its list.
pub inner-kept : (σ : Map) (ts : Sorts) (s : Sort) → proper_all ts ≡ true → inner_of ts ≡ sort s → StepKept σ s (inner_of (apply_all σ ts))
unfolding apply proper
inner-kept σ end s p h = refused-sort h
inner-kept σ (r then rs) s p h =
    kept σ (last_of r rs) s _ (last_of-proper r rs (search conj) (search conj)) (ap sort (last_of-moved σ r rs)) h

pub letting-kept : (σ : Map) (ts : Sorts) (s : Sort) → proper_map σ ≡ true → carried_all ts ≡ true
    → letting ts ≡ sort s → StepKept σ s (letting (apply_all σ ts))
unfolding letting
letting-kept σ ts s e c =
    need-kept σ s (ltb 1 (count ts)) (ltb 1 (count (apply_all σ ts))) Count _ _ (λ q. rw (count-applied σ ts) q) (λ q.
    need-kept σ s (values ts) (values (apply_all σ ts)) Misfit _ _ (values_moved σ ts e c)
    (λ v. inner-kept σ ts s (carried-values ts c v)))

---------------------------------------------------------------- indexed operators
-- What follows a test that held.
pub need-rest : (b : Bool) (n : Cause) (v : Verdict) (s : Sort) → need b n v ≡ sort s → v ≡ sort s
need-rest true n v s e = e
need-rest false n v s e = refused-sort e

-- An indexed operator on a vector: the vector stays as it is, so test and new width do.
pub resized-kept : (σ : Map) (f f' : Bool) (a : Sort) (w w' : ℕ) (s : Sort) → carried a ≡ true → (f ≡ true → apply σ a ≡ a → f' ≡ true) → (apply σ a ≡ a → w' ≡ w)
    → (f ≡ true → 0 < number_in a → 0 < w)
    → new_width f a w ≡ sort s → StepKept σ s (new_width f' (apply σ a) w')
unfolding apply
resized-kept σ f f' a w w' s c ff fw pw h =
    by_test (vector a)
    (λ v. let q = vector-still σ a v in
    need-kept σ s f f' Count _ _ (λ t. ff t q) (λ t.
    need-kept σ s (vector a) (vector (apply σ a)) Misfit _ _ (vector-moved σ a) (λ _.
    kept σ (bitvec w) s _ (width-proper w (pw t (proper-width a v (vector-proper a c v)))) (rw (fw q) refl))) h)
    (λ v. refused-sort (rw v at (need-rest f Count (need (vector a) Misfit (sort (bitvec w))) s h)))

-- One index, two indices, as many as there are.
pub indexed₁-kept : (σ : Map) (n i : ℕ) (a s : Sort) → carried a ≡ true → indexed₁ n i a ≡ sort s → StepKept σ s (indexed₁ n i (apply σ a))
unfolding apply proper
indexed₁-kept σ n i a s c =
    cond-kept σ s (eqb n 3 || eqb n 4) _ _ _ _
    (resized-kept σ true true a (number_in a + i) (number_in (apply σ a) + i) s c (λ t q. refl) (λ q. rw q refl) (λ t h. omega arith))
    (cond-kept σ s (eqb n 5 || eqb n 6) _ _ _ _
    (resized-kept σ true true a (number_in a) (number_in (apply σ a)) s c (λ t q. refl) (λ q. rw q refl) (λ t h. h))
    (cond-kept σ s (eqb n 7) _ _ _ _
    (resized-kept σ (ltb 0 i) (ltb 0 i) a (i * number_in a) (i * number_in (apply σ a)) s c (λ t q. t) (λ q. rw q refl) (λ t h. mul-pos (ltb-true 0 i t) h))
    (cond-kept σ s (eqb n 9) _ _ _ _
    (need-kept σ s (ltb 0 i) (ltb 0 i) Count _ _ (λ q. q) (λ q.
    need-kept σ s (same a int) (same (apply σ a) int) Misfit _ _ (same-moved σ a int refl) (λ v.
    kept σ (bitvec i) s _ (width-proper i (ltb-true 0 i q)) refl)))
    (cond-kept σ s (eqb n 10) _ _ _ _
    (need-kept σ s (same a reglan) (same (apply σ a) reglan) Misfit _ _ (same-moved σ a reglan refl) (λ v. kept σ reglan s _ refl refl))
    refused-sort))))

pub indexed₂-kept : (σ : Map) (n i j : ℕ) (a s : Sort) → carried a ≡ true → indexed₂ n i j a ≡ sort s → StepKept σ s (indexed₂ n i j (apply σ a))
unfolding apply proper
indexed₂-kept σ n i j a s c =
    cond-kept σ s (eqb n 0) _ _ _ _
    (resized-kept σ (leb j i && (not (vector a) || ltb i (number_in a))) (leb j i && (not (vector (apply σ a)) || ltb i (number_in (apply σ a)))) a (suc (i - j)) (suc (i - j)) s c
    (λ t q. rw q t) (λ q. refl) (λ t h. omega arith))
    (cond-kept σ s (eqb n 11) _ _ _ _
    (need-kept σ s (same a reglan) (same (apply σ a) reglan) Misfit _ _ (same-moved σ a reglan refl) (λ v. kept σ reglan s _ refl refl))
    refused-sort)

pub indexed_by-kept : (σ : Map) (n : ℕ) (is : List (Option ℕ)) (a s : Sort) → carried a ≡ true → indexed_by n is a ≡ sort s → StepKept σ s (indexed_by n is (apply σ a))
indexed_by-kept σ n [] a s c h = refused-sort h
indexed_by-kept σ n (none ∷ is) a s c h = refused-sort h
indexed_by-kept σ n (some i ∷ []) a s c h = indexed₁-kept σ n i a s c h
indexed_by-kept σ n (some i ∷ (none ∷ is)) a s c h = refused-sort h
indexed_by-kept σ n (some i ∷ (some j ∷ [])) a s c h = indexed₂-kept σ n i j a s c h
indexed_by-kept σ n (some i ∷ (some j ∷ (k ∷ is))) a s c h = refused-sort h

pub indexed_on-kept : (σ : Map) (n : ℕ) (is : List (Option ℕ)) (ts : Sorts) (s : Sort) → carried_all ts ≡ true → indexed_on n is ts ≡ sort s → StepKept σ s (indexed_on n is (apply_all σ ts))
unfolding apply carried_all
indexed_on-kept σ n is end s c h = refused-sort h
indexed_on-kept σ n is (a then end) s c h = indexed_by-kept σ n is a s (search conj) h
indexed_on-kept σ n is (a then (b then bs)) s c h = refused-sort h

-- (as const): an Array stays an Array, and its element sort the argument's.
pub constant_array-kept : (σ : Map) (o : Sort) (ts : Sorts) (s : Sort) → proper_map σ ≡ true → proper o ≡ true → constant_array o ts ≡ sort s → StepKept σ s (constant_array (apply σ o) (apply_all σ ts))
unfolding apply
constant_array-kept σ o end s e p h = refused-sort h
constant_array-kept σ o (a then (b then bs)) s e p h = refused-sort h
constant_array-kept σ (var v) (a then end) s e p h = refused-sort h
constant_array-kept σ (par ns b) (a then end) s e p h = refused-sort h
constant_array-kept σ (node k n w end) (a then end) s e p h = refused-sort h
constant_array-kept σ (node k n w (i then end)) (a then end) s e p h = refused-sort h
constant_array-kept σ (node k n w (i then (t then end))) (a then end) s e p h =
    let o = node k n w (i then t then end) in
    need-kept σ s (same o (array i t) && same a t) (same (apply σ o) (array (apply σ i) (apply σ t)) && same (apply σ a) (apply σ t)) Misfit _ _
    (λ q. and-true (same (apply σ o) (array (apply σ i) (apply σ t))) (same (apply σ a) (apply σ t))
    (same-complete (apply σ o) (array (apply σ i) (apply σ t)) (ap (apply σ) (same-sound o (array i t) (search conj))))
    (same-complete (apply σ a) (apply σ t) (ap (apply σ) (same-sound a t (search conj)))))
    (λ q. kept σ (array i t) s _ (rw (← same-sound o (array i t) (search conj)) p) refl)
    h
constant_array-kept σ (node k n w (i then (t then (r then rs)))) (a then end) s e p h = refused-sort h

pub indexing-kept : (σ : Map) (n : ℕ) (is : List (Option ℕ)) (ts : Sorts) (s : Sort) → carried_all ts ≡ true
    → indexing n is ts ≡ sort s → StepKept σ s (indexing n is (apply_all σ ts))
unfolding indexing
indexing-kept σ n is ts s c =
    need-kept σ s (not (eqb n 1 || eqb n 2 || eqb n 8)) (not (eqb n 1 || eqb n 2 || eqb n 8)) NoRank _ _ (λ q. q) (λ q. indexed_on-kept σ n is ts s c)

-- A set stays a set.
pub whole_set-kept : (σ : Map) (o : Sort) (ts : Sorts) (s : Sort) → proper o ≡ true → whole_set o ts ≡ sort s → StepKept σ s (whole_set (apply σ o) (apply_all σ ts))
unfolding apply
whole_set-kept σ o (a then as') s p h = refused-sort h
whole_set-kept σ o end s p h =
    need-kept σ s (same o (set (element_of o))) (same (apply σ o) (set (element_of (apply σ o)))) Misfit _ _
    (λ q. let z : apply σ o ≡ set (apply σ (element_of o)) = ap (apply σ) (same-sound o (set (element_of o)) q) in
    same-complete (apply σ o) (set (element_of (apply σ o))) (z ∙ sym (ap (λ (r : Sort). set (element_of r)) z)))
    (λ q. kept σ o s (sort (apply σ o)) p refl)
    h

pub qualified-kept : (σ : Map) (n : ℕ) (o : Sort) (ts : Sorts) (s : Sort) → proper_map σ ≡ true
    → qualified n o ts ≡ sort s → StepKept σ s (qualified n (apply σ o) (apply_all σ ts))
unfolding qualified
qualified-kept σ n o ts s e =
    need-kept σ s (leb n 2) (leb n 2) NoRank _ _ (λ q. q) (λ q.
    need-kept σ s (proper o) (proper (apply σ o)) Barred _ _ (apply-proper σ o e) (λ p.
    cond-kept σ s (eqb n 0) _ _ _ _ (constant_array-kept σ o ts s e p) (whole_set-kept σ o ts s p)))
