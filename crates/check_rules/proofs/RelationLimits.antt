-- WHEN AN OPERATOR ON SETS AND RELATIONS GIVES 22 (document 02, A.2: 118 to 134): exactly where A.2 gives a sort that has more than 64 columns or
-- a tree over 4,096. Its arguments keep these limits themselves, as every sort of a store does.
use Rattle.std.specs.Prelude.{ℕ, zero, suc, ◌+◌, ◌*◌, ◌≤◌, ◌<◌, ◌≡◌, refl, ◌↔◌, ◌⊎◌, true, false, ◌&&◌, List, [], eqb, leb}
use Rattle.std.proofs.Common.{sym, ◌∙◌, inl, inr, ⊎_elim, arith, leb-true, leb-false, le-leb}
use Rattle.std.proofs.lemmas.Bool.{lt-leb}
use Rattle.record.specs.Sort.{Sort, Sorts, var, par, node, end, ◌then◌, bool, int, set, tuple, count, size, sizes}
use Rattle.record.specs.Cases.{and_left, and_right, and-true, by_test, false-first, false-second, clash}
use Rattle.sheet.specs.Sheet.{Lengths}
use Rattle.row_rules.specs.Lists.{joined, appended}
use Rattle.row_rules.specs.declared.Cause.{Cause}
use Rattle.row_rules.specs.declared.Cause.TheVariants.{Limit}
use Rattle.row_rules.specs.Verdict.{Verdict, sort, refused, number_of}
use Rattle.row_rules.specs.Outcome.{shallow, shallow_all, within, outcome}
use Rattle.row_rules.proofs.OutcomeLaws.{outcome-limit}
use Rattle.check_rules.specs.Ranks.{smt_lib}
use Rattle.check_rules.specs.Checked.{value, values, operated, checked}
use Rattle.check_rules.specs.Parts.{In, first as first_of, later, Value, EachValue}
use Rattle.check_rules.proofs.PartTheorems.{value-exactly, each_value-exactly}
use Rattle.check_rules.proofs.CheckedCauses.{checked-causes}
use Rattle.check_rules.proofs.RelationTheorems.{relates-sort, relates-exactly, tuple-accepted}
use Rattle.check_rules.proofs.RelationColumns.{count-appended, sizes-appended, count-backwards, sizes-backwards}
use Rattle.check_rules.specs.Forms.{times, backwards}
use Rattle.check_rules.specs.FormParts.{ByEntries, put-holds, first-holds, behind-holds, before-holds, appended-holds, backwards-holds}
use Rattle.check_rules.specs.Columns.{entries, columns_of}
use Rattle.check_rules.specs.Added.{Relates, two_sets, complement, member, subset, insertion, singleton, test, cardinality, tuples, no_tuple, transposed, closure, multiplied, join}

---------------------------------------------------------------- lists whose sorts keep the limits
by-entries : ByEntries shallow shallow_all
unfolding shallow
by-entries = record { none = refl; each = λ s ss. refl }

behind : (s : Sort) (ss : Sorts) → shallow_all (s then ss) ≡ true → shallow_all ss ≡ true
behind s ss h = behind-holds shallow shallow_all by-entries s ss h

first : (s : Sort) (ss : Sorts) → shallow_all (s then ss) ≡ true → shallow s ≡ true
first s ss h = first-holds shallow shallow_all by-entries s ss h

---------------------------------------------------------------- columns
-- A sort that keeps its limits has 64 parts or fewer, which keep theirs; and 64 columns or fewer.
list-shallow : (k a w : ℕ) (ss : Sorts) → shallow (node k a w ss) ≡ true → (count ss ≤ 64) × (shallow_all ss ≡ true)
unfolding shallow
list-shallow k a w ss h =
    let g = and_right (leb w 65535) (leb (count ss) 64 && shallow_all ss) h in
    (leb-true (count ss) 64 (and_left (leb (count ss) 64) (shallow_all ss) g), and_right (leb (count ss) 64) (shallow_all ss) g)

entries-few : (s : Sort) → shallow s ≡ true → count (entries s) ≤ 64
unfolding count
entries-few (var v) h = omega arith
entries-few (par ns b) h = omega arith
entries-few (node k a w ss) h = let (l, g) = list-shallow k a w ss h in by_test (eqb k 15) (λ q. rw q l) (λ q. rw q (omega arith))

columns-few : (s : Sort) → shallow s ≡ true → columns_of s ≤ 64
unfolding count
columns-few (var v) h = omega arith
columns-few (par ns b) h = omega arith
columns-few (node k a w end) h = by_test (eqb k 14) (λ q. rw q (omega arith)) (λ q. rw q (entries-few (node k a w end) h))
columns-few (node k a w (s then ss)) h =
    let (l, g) = list-shallow k a w (s then ss) h in
    by_test (eqb k 14) (λ q. rw q (entries-few s (first s ss g))) (λ q. rw q (entries-few (node k a w (s then ss)) h))

-- THE WIDTHS AND LISTS OF A SORT ARE WITHIN THEIR LIMITS exactly where it has 64 columns or fewer: so of a sort that keeps its limits, of a tuple of
-- such sorts and of a relation with such columns.
abbrev ByColumns : Sort → Type 0
ByColumns s = shallow s ≡ leb (columns_of s) 64

kept : (s : Sort) → shallow s ≡ true → ByColumns s
kept s h = h ∙ sym (le-leb (columns_of s) 64 (columns-few s h))

set-shallow : (a : Sort) → shallow a ≡ true → shallow (set a) ≡ true
unfolding shallow count
set-shallow a h = rw h refl

tuple-columns : (ss : Sorts) → shallow_all ss ≡ true → ByColumns (tuple ss)
unfolding shallow
tuple-columns ss h = rw h (by_test (leb (count ss) 64) (λ q. rw q refl) (λ q. rw q refl))

relation-columns : (ss : Sorts) → shallow_all ss ≡ true → ByColumns (set (tuple ss))
unfolding shallow count
relation-columns ss h = rw h (by_test (leb (count ss) 64) (λ q. rw q refl) (λ q. rw q refl))

-- The columns of a relation whose limits are kept.
columns-shallow : (cs : Sorts) → shallow (set (tuple cs)) ≡ true → shallow_all cs ≡ true
unfolding shallow count
columns-shallow cs h = and_right (leb (count cs) 64) (shallow_all cs) (and_left (leb (count cs) 64 && shallow_all cs) true h)

-- What A.2 gives of arguments that keep their limits.
module _ (n : ℕ) (ts : Sorts) (s : Sort) where
  relates-columns : Relates n ts s → shallow_all ts ≡ true → ByColumns s
  unfolding shallow times
  relates-columns (two_sets a lo hi e r) h = rw r (kept (set a) (first (set a) (set a then end) (rw e at h)))
  relates-columns (complement a q e r) h = rw r (kept (set a) (first (set a) end (rw e at h)))
  relates-columns (member a q e r) h = rw r (kept bool refl)
  relates-columns (subset a q e r) h = rw r (kept bool refl)
  relates-columns (insertion a m q e r) h = rw r (kept (set a) (set-shallow a (first a (times m a (set a)) (rw e at h))))
  relates-columns (singleton a q e r) h = rw r (kept (set a) (set-shallow a (first a end (rw e at h))))
  relates-columns (test a lo hi e r) h = rw r (kept bool refl)
  relates-columns (cardinality a q e r) h = rw r (kept int refl)
  relates-columns (tuples q c r) h = rw r (tuple-columns ts h)
  relates-columns (no_tuple q e r) h = rw r (kept (tuple end) refl)
  relates-columns (transposed cs q e r) h =
      rw r (relation-columns (backwards cs) (backwards-holds shallow shallow_all by-entries cs (columns-shallow cs (first (set (tuple cs)) end (rw e at h)))))
  relates-columns (closure a q e r) h =
      rw r (kept (set (tuple (a then a then end))) (first (set (tuple (a then a then end))) end (rw e at h)))
  relates-columns (multiplied as' bs q e r) h =
      let g = rw e at h in
      rw r (relation-columns (appended as' bs) (appended-holds shallow shallow_all by-entries as' bs
      (columns-shallow as' (first (set (tuple as')) (set (tuple bs) then end) g))
      (columns-shallow bs (first (set (tuple bs)) end (behind (set (tuple as')) (set (tuple bs) then end) g)))))
  relates-columns (join as' c bs q e r) h =
      let g = rw e at h in
      let left = set (tuple (joined as' c)) in let right = set (tuple (c then bs)) in
      rw r (relation-columns (appended as' bs) (appended-holds shallow shallow_all by-entries as' bs
      (before-holds shallow shallow_all by-entries as' c (columns-shallow (joined as' c) (first left (right then end) g)))
      (behind c bs (columns-shallow (c then bs) (first right end (behind left (right then end) g))))))

---------------------------------------------------------------- 22
-- A SORT PASSES THE LIMITS OF A.2: more than 64 columns, or a tree over 4,096.
abbrev pub Over : Sort → Type 0
Over s = (64 < columns_of s) ⊎ (4096 < size s)

over-limits : (s : Sort) → ByColumns s → (within s ≡ false) ↔ Over s
unfolding within
over-limits s b = (
  λ h. by_test (leb (columns_of s) 64)
      (λ q. inr (leb-false (size s) 4096 (rw (b ∙ q) at h)))
      (λ q. inl (leb-false (columns_of s) 64 q)),
  ⊎_elim (λ l. false-first (shallow s) (leb (size s) 4096) (b ∙ lt-leb (columns_of s) 64 l))
      (λ l. false-second (shallow s) (leb (size s) 4096) (lt-leb (size s) 4096 l)),
)

-- An operator is refused for no cause below 24, so 22 is said of a sort.
operated-causes : (n : ℕ) (ts : Sorts) (c : Cause) → operated smt_lib n ts ≡ refused c → 24 ≤ number_of c
unfolding checked
operated-causes n ts c h =
    (checked-causes smt_lib (record { kind = 7; number = n; own = bool; args = ts; bindings = []; constants = []; indices = [] }) c h).0

limit-sort : (l : Lengths) (st : List Sort) (v : Verdict) → ((c : Cause) → v ≡ refused c → 24 ≤ number_of c)
    → (outcome l st v).code ≡ number_of Limit * 65536 → (s : Sort) × (v ≡ sort s)
unfolding outcome
limit-sort l st (sort s) f h = (s, refl)
limit-sort l st (refused c) f h = let z = f c refl in absurd (omega (arith, h))

-- A list with so much in it is not empty.
large-some : (ts : Sorts) → (64 < count ts) ⊎ (4096 < 1 + sizes ts) → 0 < count ts
unfolding size count
large-some end (inl h) = omega (arith, h)
large-some end (inr h) = absurd (omega (arith, h))
large-some (t then ts) h = omega arith

one-value : (t : Sort) → Value t → EachValue (t then end)
unfolding values
one-value t v = (each_value-exactly (t then end)).0 (and-true (value t) true ((value-exactly t).1 v) refl)

module _ (l : Lengths) (st : List Sort) where
  -- The row of the operator n at the arguments ts is 22.
  abbrev pub Limited : ℕ → Sorts → Type 0
  Limited n ts = (outcome l st (operated smt_lib n ts)).code ≡ number_of Limit * 65536

  answer-limit : (n : ℕ) (ts : Sorts) (s : Sort) → shallow_all ts ≡ true → EachValue ts → Relates n ts s → Limited n ts ↔ Over s
  answer-limit n ts s h v R =
      let O = outcome-limit l st s in
      let M = over-limits s (relates-columns n ts s R h) in
      rw (relates-sort ts s n v R) (λ e. M.0 (O.0 e), λ g. O.1 (M.1 g))

  -- AN OPERATOR ON SETS AND RELATIONS GIVES 22 exactly where A.2 gives a sort of more than 64 columns or of a tree over 4,096.
  pub relation-limit : (n : ℕ) → 118 ≤ n → n ≤ 134 → (ts : Sorts) → shallow_all ts ≡ true
      → Limited n ts ↔ EachValue ts × ((s : Sort) × Relates n ts s × ((64 < columns_of s) ⊎ (4096 < size s)))
  relation-limit n lo hi ts h = (
    λ e. let (s, q) = limit-sort l st (operated smt_lib n ts) (operated-causes n ts) e in
        let (v, R) = (relates-exactly ts s n lo hi).0 q in (v, (s, R, (answer-limit n ts s h v R).0 e)),
    λ g. let (v, w) = g in let (s, R, P) = w in (answer-limit n ts s h v R).1 P,
  )

  ---------------------------------------------------------------- in words of the columns
  -- The columns of one relation behind those of another.
  appended-limit : (n : ℕ) (ts as' bs : Sorts) → shallow_all ts ≡ true → values ts ≡ true → Relates n ts (set (tuple (appended as' bs)))
      → Limited n ts ↔ (64 < count as' + count bs) ⊎ (4096 < 2 + sizes as' + sizes bs)
  unfolding size
  appended-limit n ts as' bs h v R =
      let A = answer-limit n ts (set (tuple (appended as' bs))) h ((each_value-exactly ts).0 v) R in
      let p = count-appended as' bs in let q = sizes-appended as' bs in (
        λ e. ⊎_elim (λ x. inl (omega (arith, p, x))) (λ x. inr (omega (arith, q, x))) (A.0 e),
        λ g. A.1 (⊎_elim (λ x. inl (omega (arith, p, x))) (λ x. inr (omega (arith, q, x))) g),
      )

  -- THE PRODUCT: where the columns of both are more than 64 together, or the tree is over 4,096.
  pub product-limit : (as' bs : Sorts) → let ts = set (tuple as') then set (tuple bs) then end in shallow_all ts ≡ true
      → Limited 134 ts ↔ (64 < count as' + count bs) ⊎ (4096 < 2 + sizes as' + sizes bs)
  unfolding values
  product-limit as' bs h = appended-limit 134 (set (tuple as') then set (tuple bs) then end) as' bs h refl (multiplied as' bs refl refl refl)

  -- THE JOIN of relations of count as' + 1 and count bs + 1 columns: where those that it leaves are more than 64 together, or the tree is over
  -- 4,096.
  pub join-limit : (as' : Sorts) (c : Sort) (bs : Sorts) → let ts = set (tuple (joined as' c)) then set (tuple (c then bs)) then end in shallow_all ts ≡ true
      → Limited 133 ts ↔ (64 < count as' + count bs) ⊎ (4096 < 2 + sizes as' + sizes bs)
  unfolding values
  join-limit as' c bs h =
      appended-limit 133 (set (tuple (joined as' c)) then set (tuple (c then bs)) then end) as' bs h refl (join as' c bs refl refl refl)

  -- A TUPLE: where its arguments are values, and more than 64 or of a tree over 4,096 with it.
  pub tuple-limit : (ts : Sorts) → shallow_all ts ≡ true → Limited 129 ts ↔ EachValue ts × ((64 < count ts) ⊎ (4096 < 1 + sizes ts))
  unfolding size
  tuple-limit ts h = (
    λ e. let (v, w) = (relation-limit 129 (omega arith) (omega arith) ts h).0 e in let (s, R, P) = w in
        let (u, z) = (tuple-accepted ts s).0 (relates-sort ts s 129 v R) in
        let (a, as', q, r) = z in (v, rw r at P),
    λ g. (answer-limit 129 ts (tuple ts) h g.0 (tuples refl (large-some ts g.1) refl)).1 g.1,
  )

  -- A SINGLETON: where its argument is a value, and the tree over 4,096 with it.
  pub singleton-limit : (t : Sort) → shallow t ≡ true → Limited 123 (t then end) ↔ Value t × (4096 < 1 + size t)
  unfolding shallow size
  singleton-limit t h =
      let g = put-holds shallow shallow_all by-entries t end h refl in
      let few = columns-few (set t) (set-shallow t h) in
      let A = λ (v : Value t). answer-limit 123 (t then end) (set t) g (one-value t v) (singleton t refl refl refl) in (
        λ e. let (v, w) = (relation-limit 123 (omega arith) (omega arith) (t then end) g).0 e in
            let u = v t first_of in (u, ⊎_elim (λ x. absurd (omega (arith, few, x))) (λ x. omega (arith, x)) ((A u).0 e)),
        λ p. (A p.0).1 (inr (omega (arith, p.1))),
      )

---------------------------------------------------------------- which operators
-- Each sort of a list keeps all limits, the tree too.
abbrev pub EachWithin : Sorts → Type 0
EachWithin ts = (t : Sort) → In t ts → within t ≡ true

each-shallow : (ts : Sorts) → EachWithin ts → shallow_all ts ≡ true
unfolding shallow within
each-shallow end w = refl
each-shallow (t then ts) w = put-holds shallow shallow_all by-entries t ts (and_left (shallow t) (leb (size t) 4096) (w t first_of)) (each-shallow ts (λ r i. w r (later i)))

times-last : (m : ℕ) (a r : Sort) → In r (times m a r)
unfolding times
times-last zero a r = first_of
times-last (suc m) a r = later (times-last m a r)

transposed-within : (cs : Sorts) → within (set (tuple cs)) ≡ true → within (set (tuple (backwards cs))) ≡ true
unfolding within size
transposed-within cs w =
    let h = and_left (shallow (set (tuple cs))) (leb (size (set (tuple cs))) 4096) w in
    let l = leb-true (size (set (tuple cs))) 4096 (and_right (shallow (set (tuple cs))) (leb (size (set (tuple cs))) 4096) w) in
    let c = columns-few (set (tuple cs)) h in let p = count-backwards cs in let q = sizes-backwards cs in
    and-true (shallow (set (tuple (backwards cs)))) (leb (size (set (tuple (backwards cs)))) 4096)
    (relation-columns (backwards cs) (backwards-holds shallow shallow_all by-entries cs (columns-shallow cs h)) ∙ le-leb (count (backwards cs)) 64 (omega (arith, c, p)))
    (le-leb (size (set (tuple (backwards cs)))) 4096 (omega (arith, l, q)))

-- Those whose answer may be larger than their arguments: 123 Singleton, 129 Tuple, 133 RelJoin, 134 RelProduct.
abbrev pub Larger : ℕ → Type 0
Larger n = (n ≡ 123) ⊎ ((n ≡ 129) ⊎ ((n ≡ 133) ⊎ (n ≡ 134)))

module _ (n : ℕ) (ts : Sorts) (s : Sort) (w : EachWithin ts) where
  relates-within : Relates n ts s → Larger n ⊎ (within s ≡ true)
  unfolding within shallow size count times
  relates-within (two_sets a lo hi e r) = inr (rw r ((rw e at w) (set a) first_of))
  relates-within (complement a q e r) = inr (rw r ((rw e at w) (set a) first_of))
  relates-within (member a q e r) = inr (rw r refl)
  relates-within (subset a q e r) = inr (rw r refl)
  relates-within (insertion a m q e r) = inr (rw r ((rw e at w) (set a) (later (times-last m a (set a)))))
  relates-within (singleton a q e r) = inl (inl q)
  relates-within (test a lo hi e r) = inr (rw r refl)
  relates-within (cardinality a q e r) = inr (rw r refl)
  relates-within (tuples q c r) = inl (inr (inl q))
  relates-within (no_tuple q e r) = inr (rw r refl)
  relates-within (transposed cs q e r) = inr (rw r (transposed-within cs ((rw e at w) (set (tuple cs)) first_of)))
  relates-within (closure a q e r) = inr (rw r ((rw e at w) (set (tuple (a then a then end))) first_of))
  relates-within (multiplied as' bs q e r) = inl (inr (inr (inr q)))
  relates-within (join as' c bs q e r) = inl (inr (inr (inl q)))

-- NO OTHER OPERATOR ON SETS AND RELATIONS GIVES 22 at arguments that keep all limits.
pub limit-only : (l : Lengths) (st : List Sort) (n : ℕ) → 118 ≤ n → n ≤ 134 → (ts : Sorts) → EachWithin ts → Limited l st n ts → Larger n
limit-only l st n lo hi ts w h =
    let ok = each-shallow ts w in
    let (v, g) = (relation-limit l st n lo hi ts ok).0 h in
    let (s, R, P) = g in
    ⊎_elim (λ x. x) (λ q. clash q ((over-limits s (relates-columns n ts s R ok)).1 P)) (relates-within n ts s w R)
