-- THE CHECKED SORT OF A RECORD HAS NO PAR where no sort that the record names has one: what a match binds is a part of an
-- argument, and what is delivered is a sort without a Par with such parts put in.
use Rattle.std.specs.Prelude.{ℕ, suc, ◌+◌, ◌*◌, ◌-◌, ◌≡◌, refl, Bool, true, false, not, ◌&&◌, ◌||◌, List, [], ◌∷◌, leb, ltb}
use Rattle.std.proofs.lemmas.Bool.{false≢true}
use Rattle.std.proofs.Math.Option.{Option, none, some}
use Rattle.std.proofs.Math.Dec.{eqb}
use Rattle.record.specs.Sort.{Sort, Sorts, var, par, node, end, ◌then◌, bool, int, reglan, array, set, number_in, count, same}
use Rattle.record.specs.Cases.{and_left, and_right, conj, and-true, by_test, by_option, none-some, some_inj}
use Rattle.substitution.specs.Substitution.{Map, empty, bind, find, apply, apply_all}
use Rattle.substitution.proofs.SubstitutionLaws.{proper-parless}
use Rattle.substitution.specs.Matching.{matches, matches_all}
use Rattle.substitution.proofs.MatchingLaws.{keep-rest, and_then-middle}
use Rattle.substitution.specs.Premises.{proper, proper_all, parless, parless_all, ground}
use Rattle.row_rules.specs.declared.Cause.TheVariants.{NoRank, Count, Misfit, Unassigned, Barred}
use Rattle.row_rules.specs.Verdict.{sort, or_cause}
use Rattle.row_rules.specs.Lists.{firsts, others, remaining, binding_sorts}
use Rattle.row_rules.specs.Term.{Site}
use Rattle.row_rules.specs.Parless.{ParlessVerdict, ParlessSite}
use Rattle.row_rules.proofs.ParlessLaws.{parless-cond, parless-need, parless-others, parless-remaining, parless-last, parless-joined}
use Rattle.check_rules.specs.Forms.{Form, concat, mixed, insert, tupling, transpose, join, product, Computes, vector, element_of}
use Rattle.check_rules.specs.FormParts.{ByParts, parts-hold}
use Rattle.check_rules.specs.FormLaws.{well_form, computes-only}
use Rattle.check_rules.specs.Rank.{Rank, rank, computed, vectors_in, patterns, every_name, rank_answer, fit, first_fit, some_counts}
use Rattle.check_rules.specs.RankLaws.{well_rank}
use Rattle.check_rules.proofs.RankSound.{Sound}
use Rattle.check_rules.specs.Checked.{carried, value, values, settled, called, checked_app, nonempty, ranked, operated, only_of, bound_body, binder, inner_of, letting, new_width, indexed₁, indexed₂, indexed_by, indexed_on, indexing, constant_array, whole_set, qualified, checked}

---------------------------------------------------------------- maps
-- No image of a map has a Par.
unfoldable pub parless_map : Map → Bool
unfolding parless
parless_map empty = true
parless_map (bind v s m) = parless s && parless_map m

image-parless : (m : Map) (v : ℕ) (s : Sort) → parless_map m ≡ true → find m v ≡ some s → parless s ≡ true
unfolding find parless_map
image-parless empty v s h f = none-some f
image-parless (bind u r m) v s h f =
    by_test (eqb u v)
    (λ q. let g : some r ≡ some s = rw q at f in rw (← some_inj g) (search conj))
    (λ q. image-parless m v s (search conj) (rw q at f))

mutual
  unfolding apply parless

  apply-parless : (m : Map) (s : Sort) → parless_map m ≡ true → parless s ≡ true → parless (apply m s) ≡ true
  apply-parless m (var v) h k = by_option (find m v) (λ q. rw q refl) (λ s q. rw q (image-parless m v s h q))
  apply-parless m (par ns b) h k = absurd (false≢true k)
  apply-parless m (node i a w ss) h k = apply_all-parless m ss h k

  apply_all-parless : (m : Map) (ss : Sorts) → parless_map m ≡ true → parless_all ss ≡ true → parless_all (apply_all m ss) ≡ true
  apply_all-parless m end h k = refl
  apply_all-parless m (s then ss) h k = rw (apply-parless m s h (search conj)) (apply_all-parless m ss h (search conj))

-- What a match binds is a part of its target.
mutual
  unfolding matches parless parless_map

  match-parless : (l : ℕ → Bool) (p t : Sort) (m m' : Map) → parless t ≡ true → parless_map m ≡ true → matches l p t m ≡ some m' → parless_map m' ≡ true
  match-parless l (var v) t m m' e d h =
      by_test (l v)
      (λ q. by_option (find m v)
      (λ f. rw (← some_inj (rw (q, f) at h)) (and-true (parless t) (parless_map m) e d))
      (λ s f. rw (← some_inj (keep-rest (same s t) (some m) m' (rw (q, f) at h))) d))
      (λ q. rw (← some_inj (keep-rest (same (var v) t) (some m) m' (rw q at h))) d)
  match-parless l (par us b) t m m' e d h = none-some h
  match-parless l (node k a w ps) (var v) m m' e d h = none-some h
  match-parless l (node k a w ps) (par us b) m m' e d h = none-some h
  match-parless l (node k a w ps) (node j c x ts) m m' e d h =
      match_all-parless l ps ts m m' e d (keep-rest (eqb k j && eqb a c && eqb w x) (matches_all l ps ts m) m' h)

  match_all-parless : (l : ℕ → Bool) (ps ts : Sorts) (m m' : Map) → parless_all ts ≡ true → parless_map m ≡ true → matches_all l ps ts m ≡ some m' → parless_map m' ≡ true
  match_all-parless l end end m m' e d h = rw (← some_inj h) d
  match_all-parless l end (t then ts) m m' e d h = none-some h
  match_all-parless l (p then ps) end m m' e d h = none-some h
  match_all-parless l (p then ps) (t then ts) m m' e d h =
      let (k, g, r) = and_then-middle (matches l p t m) (λ k. matches_all l ps ts k) m' h in
      match_all-parless l ps ts k m' (search conj) (match-parless l p t m k (search conj) d g) r

---------------------------------------------------------------- operators
parless-parts : ByParts parless parless_all
unfolding parless
parless-parts = record { entries = record { none = refl; each = λ s ss. refl }; of_set = λ s. refl; of_tuple = λ ss. refl }

-- What a form gives holds no Par.
form-parless : (f : Form) (ts : Sorts) (s : Sort) → well_form f ≡ true → parless_all ts ≡ true → Computes f ts s → parless s ≡ true
unfolding well_form parless
form-parless concat ts s w p h = let (i, j, e, r) = h in rw r refl
form-parless (mixed t) ts s w p h = let (a, b, c, e) = h in rw e (proper-parless t (and_right (ground t) (proper t) w))
form-parless insert ts s w p h = parts-hold parless parless_all parless-parts insert ts s tt p h
form-parless tupling ts s w p h = parts-hold parless parless_all parless-parts tupling ts s tt p h
form-parless transpose ts s w p h = parts-hold parless parless_all parless-parts transpose ts s tt p h
form-parless join ts s w p h = parts-hold parless parless_all parless-parts join ts s tt p h
form-parless product ts s w p h = parts-hold parless parless_all parless-parts product ts s tt p h

fit-parless : (r : Rank) (ts : Sorts) (s : Sort) → well_rank r ≡ true → parless_all ts ≡ true → fit r ts ≡ some s → parless s ≡ true
unfolding fit well_rank parless_map
fit-parless (rank rep vs ps r) ts s e p h =
    by_option (matches_all every_name (patterns rep ps ts) ts empty)
    (λ q. let z : rank_answer vs r none ≡ some s = rw q at h in none-some z)
    (λ m q. go vs m (rw q at h) (apply-parless m r (match_all-parless every_name (patterns rep ps ts) ts empty m p refl q) (proper-parless r (search conj))))
  where
    go : (b : Bool) (m : Map) → rank_answer b r (some m) ≡ some s → parless (apply m r) ≡ true → parless s ≡ true
    go true m k d =
        by_test (vectors_in m)
        (λ w. let z : some (apply m r) ≡ some s = rw w at k in rw (← some_inj z) d)
        (λ w. let z : none ≡ some s = rw w at k in none-some z)
    go false m k d = rw (← some_inj k) d
fit-parless (computed f) ts s e p h = form-parless f ts s e p (computes-only f ts s h)

first-parless : (rs : List Rank) (ts : Sorts) → Sound rs → parless_all ts ≡ true → ParlessVerdict (or_cause (first_fit rs ts) Misfit)
unfolding first_fit
first-parless [] ts w h = tt
first-parless (r ∷ rs) ts w h =
    by_option (fit r ts) (λ q. rw q (first-parless rs ts w.2 h)) (λ s q. rw q (fit-parless r ts s w.0 h q))

ranked-parless : (rs : List Rank) (ts : Sorts) → Sound rs → parless_all ts ≡ true → ParlessVerdict (ranked rs ts)
unfolding ranked
ranked-parless rs ts w h =
    parless-need (nonempty rs) NoRank _ (parless-need (some_counts rs ts) Count _ (parless-need (values ts) Misfit _ (first-parless rs ts w h)))

---------------------------------------------------------------- App
called-parless : (l : ℕ → Bool) (ss ts : Sorts) → parless_all ss ≡ true → parless_all ts ≡ true → ParlessVerdict (called l (some ss) ts)
unfolding called parless_map
called-parless l ss ts h k =
    let r = remaining (others ss ts) in
    parless-need (ltb (count ts) (count ss)) Count _
    (parless-need (values ts) Misfit _
    (by_option (matches_all l (firsts ss ts) ts empty) (λ q. rw q tt)
    (λ m q.
    rw q
    (parless-need (settled l m r) Unassigned (sort (apply m r))
    (apply-parless m r (match_all-parless l (firsts ss ts) ts empty m k refl q) (parless-remaining (others ss ts) (parless-others ss ts h)))))))

-- A head without a Par is plain.
application-parless : (ts : Sorts) → parless_all ts ≡ true → ParlessVerdict (checked_app ts)
unfolding checked_app parless
application-parless end h = tt
application-parless (g then end) h = tt
application-parless (var v then (t then ts)) h = tt
application-parless (par ns b then (t then ts)) h = absurd (false≢true h)
application-parless (node k a w ss then (t then ts)) h =
    by_test (eqb k 0)
    (λ q. rw q (called-parless (λ v. false) ss (t then ts) (and_left (parless_all ss) (parless_all (t then ts)) h) (search conj)))
    (λ q. rw q tt)

---------------------------------------------------------------- binders and Let
only-parless : (bs : Sorts) → parless_all bs ≡ true → parless (only_of bs) ≡ true
unfolding parless
only-parless end h = refl
only-parless (s then ss) h = and_left (parless s) (parless_all ss) h

body-parless : (n : ℕ) (bs ts : Sorts) → parless_all bs ≡ true → parless_all ts ≡ true → ParlessVerdict (bound_body n bs ts)
unfolding parless
body-parless n bs end h k = tt
body-parless n bs (b then (c then cs)) h k = tt
body-parless n bs (b then end) h k =
    parless-cond (eqb n 3) _ _
    (parless-need (ltb 0 (count bs)) Count _ (parless-need (value b) Misfit _ (parless-joined bs b h (and_left (parless b) true k))))
    (parless-cond (eqb n 2) _ _ (parless-need (eqb (count bs) 1) Count _ (parless-need (same b bool) Misfit _ (only-parless bs h)))
    (parless-need (ltb 0 (count bs)) Count _ (parless-need (same b bool) Misfit _ refl)))

inner-parless : (ts : Sorts) → parless_all ts ≡ true → ParlessVerdict (inner_of ts)
inner-parless end h = tt
inner-parless (s then ss) h = parless-last s ss h

---------------------------------------------------------------- ParamOp and AsOp
resized-parless : (f : Bool) (a : Sort) (w : ℕ) → ParlessVerdict (new_width f a w)
unfolding parless
resized-parless f a w = parless-need f Count _ (parless-need (vector a) Misfit _ refl)

one-parless : (n i : ℕ) (a : Sort) → ParlessVerdict (indexed₁ n i a)
unfolding parless
one-parless n i a =
    parless-cond (eqb n 3 || eqb n 4) _ _ (resized-parless true a (number_in a + i))
    (parless-cond (eqb n 5 || eqb n 6) _ _ (resized-parless true a (number_in a))
    (parless-cond (eqb n 7) _ _ (resized-parless (ltb 0 i) a (i * number_in a))
    (parless-cond (eqb n 9) _ _ (parless-need (ltb 0 i) Count _ (parless-need (same a int) Misfit _ refl))
    (parless-cond (eqb n 10) _ _ (parless-need (same a reglan) Misfit _ refl)
    tt))))

two-parless : (n i j : ℕ) (a : Sort) → ParlessVerdict (indexed₂ n i j a)
unfolding parless
two-parless n i j a =
    parless-cond (eqb n 0) _ _ (resized-parless (leb j i && (not (vector a) || ltb i (number_in a))) a (suc (i - j)))
    (parless-cond (eqb n 11) _ _ (parless-need (same a reglan) Misfit _ refl) tt)

by-parless : (n : ℕ) (is : List (Option ℕ)) (a : Sort) → ParlessVerdict (indexed_by n is a)
by-parless n [] a = tt
by-parless n (none ∷ is) a = tt
by-parless n (some i ∷ []) a = one-parless n i a
by-parless n (some i ∷ (none ∷ is)) a = tt
by-parless n (some i ∷ (some j ∷ [])) a = two-parless n i j a
by-parless n (some i ∷ (some j ∷ (k ∷ is))) a = tt

on-parless : (n : ℕ) (is : List (Option ℕ)) (ts : Sorts) → ParlessVerdict (indexed_on n is ts)
on-parless n is end = tt
on-parless n is (a then end) = by-parless n is a
on-parless n is (a then (b then bs)) = tt

array-parless : (s : Sort) (ts : Sorts) → parless s ≡ true → ParlessVerdict (constant_array s ts)
unfolding parless
array-parless s end h = tt
array-parless s (a then (b then bs)) h = tt
array-parless (var v) (a then end) h = tt
array-parless (par ns b) (a then end) h = tt
array-parless (node k n w end) (a then end) h = tt
array-parless (node k n w (i then end)) (a then end) h = tt
array-parless (node k n w (i then (e then end))) (a then end) h =
    parless-need (same (node k n w (i then e then end)) (array i e) && same a e) Misfit _ h
array-parless (node k n w (i then (e then (r then rs)))) (a then end) h = tt

whole-parless : (s : Sort) (ts : Sorts) → parless s ≡ true → ParlessVerdict (whole_set s ts)
whole-parless s end h = parless-need (same s (set (element_of s))) Misfit _ h
whole-parless s (a then ss) h = tt

---------------------------------------------------------------- every record
-- For all sound ranks, those of the table among them (`smt_lib-sound`).
pub checked-parless : (R : ℕ → List Rank) → ((n : ℕ) → Sound (R n)) → (z : Site) → ParlessSite z → ParlessVerdict (checked R z)
unfolding checked parless
checked-parless R S z h =
    parless-cond (eqb z.kind 0) _ _ refl
    (parless-cond (eqb z.kind 1) _ _ refl
    (parless-cond (eqb z.kind 2) _ _ refl
    (parless-cond (eqb z.kind 3) _ _ refl
    (parless-cond (eqb z.kind 4) _ _ (parless-need (not (eqb z.number 0)) Barred _ refl)
    (parless-cond (eqb z.kind 5) _ _ (parless-need (carried z.own) Barred _ h.own)
    (parless-cond (eqb z.kind 6) _ _ (application-parless z.args h.args)
    (parless-cond (eqb z.kind 7) _ _
    (unfold operated in ranked-parless (R z.number) z.args (S z.number) h.args)
    (parless-cond (eqb z.kind 8) _ _
    (unfold binder in parless-need (proper_all (binding_sorts z.bindings)) Barred _ (body-parless z.number (binding_sorts z.bindings) z.args h.bindings h.args))
    (parless-cond (eqb z.kind 9) _ _
    (unfold letting in parless-need (ltb 1 (count z.args)) Count _ (parless-need (values z.args) Misfit _ (inner-parless z.args h.args)))
    (parless-cond (eqb z.kind 11) _ _
    (unfold indexing in parless-need (not (eqb z.number 1 || eqb z.number 2 || eqb z.number 8)) NoRank _ (on-parless z.number z.indices z.args))
    (parless-cond (eqb z.kind 12) _ _
    (unfold qualified in parless-need (leb z.number 2) NoRank _ (parless-need (proper z.own) Barred _
    (parless-cond (eqb z.number 0) _ _ (array-parless z.own z.args h.own) (whole-parless z.own z.args h.own))))
    tt)))))))))))
