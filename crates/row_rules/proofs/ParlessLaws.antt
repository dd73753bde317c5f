-- NO PAR: verdicts, records and stores in which none stands, what keeps it so in lists of sorts, and that a row leaves a store
-- without a Par as it found it in this.
use Rattle.std.specs.Prelude.{ℕ, zero, suc, ◌+◌, ◌*◌, ◌≡◌, refl, Bool, true, false, cond, List, [], ◌∷◌, ◌++◌, get_or, ltb}
use Rattle.std.proofs.lemmas.Bool.{false≢true}
use Rattle.std.proofs.Math.Option.{Option, none, some}
use Rattle.record.specs.Sort.{Sort, Sorts, var, par, node, end, ◌then◌}
use Rattle.record.specs.Record.{leaf, sorts_of}
use Rattle.record.specs.Store.{memb, add_once, intern, intern_all}
use Rattle.record.specs.Cases.{and_left, and_right, conj, and-true, by_test, by_option, none-some, some_inj}
use Rattle.sheet.specs.Sheet.{Lengths, Binding, bindings_of}
use Rattle.substitution.specs.Premises.{parless, parless_all}
use Rattle.row_rules.specs.declared.Cause.{Cause}
use Rattle.row_rules.specs.declared.Cause.TheVariants.{Limit, Full}
use Rattle.row_rules.specs.Parless.{ParlessVerdict, ParlessSite, parless_each}
use Rattle.row_rules.specs.Verdict.{Verdict, sort, refused, need}
use Rattle.row_rules.specs.Lists.{others, remaining, last_of, joined, appended, binding_sorts}
use Rattle.row_rules.specs.Term.{Site, over_parts, sorts_given}
use Rattle.row_rules.specs.Outcome.{outcome, numbered, in_limits, has_room, row_sort}

---------------------------------------------------------------- verdicts
pub parless-cond : (t : Bool) (v w : Verdict) → ParlessVerdict v → ParlessVerdict w → ParlessVerdict (cond t v w)
parless-cond true v w h k = h
parless-cond false v w h k = k

pub parless-need : (t : Bool) (c : Cause) (v : Verdict) → ParlessVerdict v → ParlessVerdict (need t c v)
parless-need true c v h = h
parless-need false c v h = tt

---------------------------------------------------------------- lists
pub parless-others : (ss ts : Sorts) → parless_all ss ≡ true → parless_all (others ss ts) ≡ true
unfolding others parless
parless-others ss end h = h
parless-others end (t then ts) h = refl
parless-others (s then ss) (t then ts) h = parless-others ss ts (search conj)

pub parless-remaining : (ss : Sorts) → parless_all ss ≡ true → parless (remaining ss) ≡ true
unfolding parless
parless-remaining end h = refl
parless-remaining (s then end) h = and_left (parless s) true h
parless-remaining (s then (r then rs)) h = h

pub parless-last : (s : Sort) (ss : Sorts) → parless_all (s then ss) ≡ true → parless (last_of s ss) ≡ true
unfolding last_of parless
parless-last s end h = and_left (parless s) true h
parless-last s (r then rs) h = parless-last r rs (and_right (parless s) (parless_all (r then rs)) h)

pub parless-joined : (ss : Sorts) (b : Sort) → parless_all ss ≡ true → parless b ≡ true → parless_all (joined ss b) ≡ true
unfolding joined parless
parless-joined end b h k = and-true (parless b) true k refl
parless-joined (s then ss) b h k = and-true (parless s) (parless_all (joined ss b)) (search conj) (parless-joined ss b (search conj) k)

pub parless-appended : (ss ts : Sorts) → parless_all ss ≡ true → parless_all ts ≡ true → parless_all (appended ss ts) ≡ true
unfolding appended parless
parless-appended end ts h k = k
parless-appended (s then ss) ts h k =
    and-true (parless s) (parless_all (appended ss ts)) (search conj) (parless-appended ss ts (search conj) k)

---------------------------------------------------------------- a store
-- A sort of such a store, also where there is none.
pub parless-at : (st : List Sort) (k : ℕ) → parless_each st ≡ true → parless (get_or st k leaf) ≡ true
unfolding parless_each
parless-at [] k h = refl
parless-at (s ∷ st) zero h = search conj
parless-at (s ∷ st) (suc k) h = parless-at st k (search conj)

pub parless-sorts : (st : List Sort) (ks : List ℕ) → parless_each st ≡ true → parless_all (sorts_of st ks) ≡ true
unfolding sorts_of parless
parless-sorts st [] h = refl
parless-sorts st (k ∷ ks) h = and-true (parless (get_or st k leaf)) (parless_all (sorts_of st ks)) (parless-at st k h) (parless-sorts st ks h)

pub parless-bindings : (st : List Sort) (ns ks : List ℕ) → parless_each st ≡ true → parless_all (binding_sorts (bindings_of st ns ks)) ≡ true
unfolding binding_sorts bindings_of parless
parless-bindings st [] ks h = refl
parless-bindings st (n ∷ ns) [] h = refl
parless-bindings st (n ∷ ns) (k ∷ ks) h =
    and-true (parless (get_or st k leaf)) (parless_all (binding_sorts (bindings_of st ns ks))) (parless-at st k h) (parless-bindings st ns ks h)

-- The sorts of terms by their rows.
pub parless-rows : (st : List Sort) (rows : List ℕ) (column : ℕ) (is : List ℕ) → parless_each st ≡ true → (ss : Sorts)
    → sorts_given (λ i. row_sort st rows column i) is ≡ some ss → parless_all ss ≡ true
unfolding sorts_given row_sort parless
parless-rows st rows column [] h ss e = rw (← some_inj e) refl
parless-rows st rows column (i ∷ is) h ss e =
    let code = get_or rows (2 * i + column) 0 in
    by_test (ltb code 65536)
    (λ q.
    by_option (sorts_given (λ i. row_sort st rows column i) is)
    (λ f. none-some (rw (q, f) at e))
    (λ rs f.
    let z = some_inj (rw (q, f) at e) in
    rw (← z) (and-true (parless (get_or st code leaf)) (parless_all rs) (parless-at st code h) (parless-rows st rows column is h rs f))))
    (λ q. none-some (rw q at e))

-- One sort more.
pub parless-append : (st : List Sort) (s : Sort) → parless_each st ≡ true → parless s ≡ true → parless_each (st ++ (s ∷ [])) ≡ true
unfolding parless_each
parless-append [] s h k = and-true (parless s) true k refl
parless-append (t ∷ st) s h k = and-true (parless t) (parless_each (st ++ (s ∷ []))) (search conj) (parless-append st s (search conj) k)

parless-once : (st : List Sort) (s : Sort) → parless_each st ≡ true → parless s ≡ true → parless_each (add_once st s) ≡ true
unfolding add_once
parless-once st s h k = by_test (memb s st) (λ q. rw q h) (λ q. rw q (parless-append st s h k))

-- A SORT WITHOUT A PAR ADDS NONE.
mutual
  unfolding intern parless

  pub parless-intern : (s : Sort) (st : List Sort) → parless s ≡ true → parless_each st ≡ true → parless_each (intern s st) ≡ true
  parless-intern (var v) st h k = parless-once st (var v) k refl
  parless-intern (par ns b) st h k = absurd (false≢true h)
  parless-intern (node i a w ss) st h k = parless-once (intern_all ss st) (node i a w ss) (parless-interns ss st h k) h

  parless-interns : (ss : Sorts) (st : List Sort) → parless_all ss ≡ true → parless_each st ≡ true → parless_each (intern_all ss st) ≡ true
  parless-interns end st h k = k
  parless-interns (s then ss) st h k = parless-interns ss (intern s st) (search conj) (parless-intern s st (search conj) k)

parless-numbered : (st : List Sort) (v : Verdict) → parless_each st ≡ true → ParlessVerdict v → parless_each (numbered st v).store ≡ true
parless-numbered st (sort s) h k = parless-intern s st k h
parless-numbered st (refused c) h k = h

-- THE STORE AFTER A VERDICT has no Par, where neither the store before it nor the verdict has.
pub parless-outcome : (l : Lengths) (st : List Sort) (v : Verdict) → parless_each st ≡ true → ParlessVerdict v → parless_each (outcome l st v).store ≡ true
unfolding outcome
parless-outcome l st v h k =
    parless-numbered st (need (in_limits v) Limit (need (has_room l st v) Full v)) h
    (parless-need (in_limits v) Limit (need (has_room l st v) Full v) (parless-need (has_room l st v) Full v k))

---------------------------------------------------------------- a record over its parts
-- A verdict that is such on every such record is such on one whose parts have sorts, and on one whose parts have none.
pub parless-over : (J : Site → Verdict) → ((z : Site) → ParlessSite z → ParlessVerdict (J z)) → (k n : ℕ) (o : Sort) (bs : List Binding) (cs is : List (Option ℕ)) (a b : Option Sorts)
    → parless o ≡ true → parless_all (binding_sorts bs) ≡ true → ((ts : Sorts) → a ≡ some ts → parless_all ts ≡ true)
    → ParlessVerdict (over_parts J k n o bs cs is a b)
parless-over J f k n o bs cs is none b own bound args = tt
parless-over J f k n o bs cs is (some ts) none own bound args = tt
parless-over J f k n o bs cs is (some ts) (some js) own bound args = f _ (record { own = own; args = args ts refl; bindings = bound })
