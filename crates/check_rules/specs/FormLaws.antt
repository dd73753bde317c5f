-- The laws of forms: the test answers exactly what the form says; only its count of arguments is taken; and what it says of
-- arguments it says of replaced ones, and gives a proper sort on proper ones.
use Rattle.std.specs.Prelude.{ℕ, ◌+◌, ◌<◌, ◌≡◌, refl, Bool, true, false, not, ◌&&◌, ◌||◌, eqb, zero, suc}
use Rattle.std.proofs.Common.{sym, ap, ap₂, ◌∙◌, inl, inr, ⊎_elim, arith, ne_eqb, lt-ltb}
use Rattle.std.proofs.lemmas.Bool.{false≢true, eqb-false}
use Rattle.std.proofs.Math.Bool.{or_comm}
use Rattle.std.proofs.Math.Option.{Option, some}
use Rattle.record.specs.Sort.{Sort, Sorts, var, par, node, end, ◌then◌, int, real, bitvec, number_in, count, same, set, tuple}
use Rattle.record.specs.SortLaws.{same-sound, same_refl, same-complete, same-swap}
use Rattle.record.specs.Cases.{and_left, and_right, conj, and-true, or-first, or-second, or_cases, three, by_test, none-some, some_inj}
use Rattle.substitution.specs.Substitution.{Map, apply, apply_all}
use Rattle.substitution.proofs.SubstitutionLaws.{count-applied}
use Rattle.substitution.specs.Premises.{proper, proper_all, ground, ground_all}
use Rattle.check_rules.specs.Forms.{Form, concat, mixed, Numbers, Stands, Computes, takes_count, takes, on_two, when, vector, join_vectors, all_same, numbers, stands, computes, insert, tupling, transpose, join, product, times, backwards, on_one, elements, columns, relation, transposed, touch, all_but_first, join_relations, multiplied}
use Rattle.row_rules.specs.Lists.{last_of, joined, appended, all_but_last}
use Rattle.row_rules.proofs.ListLaws.{last-dropped}
use Rattle.check_rules.specs.FormParts.{ByParts, parts-hold}

---------------------------------------------------------------- taking tests apart
pub when-some : (b : Bool) (s u : Sort) → when b s ≡ some u → (b ≡ true) × (s ≡ u)
when-some true s u h = (refl, some_inj h)
when-some false s u h = none-some h

pub one-only : (f : Sort → Option Sort) (ts : Sorts) (s : Sort) → on_one f ts ≡ some s → (a : Sort) × (ts ≡ a then end) × (f a ≡ some s)
one-only f end s h = none-some h
one-only f (a then end) s h = (a, refl, h)
one-only f (a then (b then ss)) s h = none-some h

pub two-only : (f : Sort → Sort → Option Sort) (ts : Sorts) (s : Sort) → on_two f ts ≡ some s
    → (a : Sort) × (b : Sort) × (ts ≡ a then b then end) × (f a b ≡ some s)
two-only f end s h = none-some h
two-only f (a then end) s h = none-some h
two-only f (a then (b then end)) s h = (a, b, refl, h)
two-only f (a then (b then (c then ss))) s h = none-some h

-- A vector is the vector of its width, a relation the set of tuples of its columns.
pub vector-is : (s : Sort) → vector s ≡ true → s ≡ bitvec (number_in s)
vector-is s e = same-sound s (bitvec (number_in s)) e

pub relation-is : (s : Sort) → relation s ≡ true → s ≡ set (tuple (columns s))
relation-is s e = same-sound s (set (tuple (columns s))) e

pub vector-of : (w : ℕ) → vector (bitvec w) ≡ true
vector-of w = same_refl (bitvec w)

pub relation-of : (cs : Sorts) → relation (set (tuple cs)) ≡ true
relation-of cs = same_refl (set (tuple cs))

---------------------------------------------------------------- Int and Real mixed
pub numbers-only : (ts : Sorts) → numbers ts ≡ true → Numbers ts
unfolding numbers
numbers-only end e = tt
numbers-only (t then ts) e = (
  or_cases (same t int) (same t real) (and_left (same t int || same t real) (numbers ts) e) (λ q. inl (same-sound t int q)) (λ q. inr (same-sound t real q)),
  numbers-only ts (and_right (same t int || same t real) (numbers ts) e),
)

pub numbers-when : (ts : Sorts) → Numbers ts → numbers ts ≡ true
unfolding numbers
numbers-when end h = refl
numbers-when (t then ts) h =
    and-true (same t int || same t real) (numbers ts)
    (⊎_elim (λ q. or-first (same t int) (same t real) (same-complete t int q)) (λ q. or-second (same t int) (same t real) (same-complete t real q)) h.0)
    (numbers-when ts h.1)

pub stands-only : (s : Sort) (ts : Sorts) → stands s ts ≡ true → Stands s ts
unfolding stands
stands-only s end e = absurd (false≢true e)
stands-only s (t then ts) e = or_cases (same t s) (stands s ts) e (λ q. inl (same-sound t s q)) (λ q. inr (stands-only s ts q))

pub stands-when : (s : Sort) (ts : Sorts) → Stands s ts → stands s ts ≡ true
unfolding stands
stands-when s end h = absurd h
stands-when s (t then ts) (inl q) = or-first (same t s) (stands s ts) (same-complete t s q)
stands-when s (t then ts) (inr q) = or-second (same t s) (stands s ts) (stands-when s ts q)

-- Two sorts that differ and both stand in a list make two arguments or more.
pub stands-some : (s : Sort) (ts : Sorts) → Stands s ts → 0 < count ts
unfolding count
stands-some s end h = absurd h
stands-some s (t then ts) h = omega arith

pub stands-two : (a b : Sort) (ts : Sorts) → (a ≡ b → ⊥) → Stands a ts → Stands b ts → 1 < count ts
unfolding count
stands-two a b end d p q = absurd p
stands-two a b (t then ts) d (inl p) (inl q) = absurd (d (sym p ∙ q))
stands-two a b (t then ts) d (inl p) (inr q) = let z = stands-some b ts q in omega arith
stands-two a b (t then ts) d (inr p) q = let z = stands-some a ts p in omega arith

pub int-real : int ≡ real → ⊥
unfolding same
int-real e = let z : false ≡ true = same-complete int real e in absurd (false≢true z)

-- All Int is Int or Real without a Real, all Real without an Int.
one_of_two : (a b n s : Bool) → (a ≡ true → b ≡ true → ⊥) → (a && (n && not s)) ≡ ((a || b) && n && not (b || s))
one_of_two true true n s h = absurd (h refl refl)
one_of_two true false n s h = refl
one_of_two false true true s h = refl
one_of_two false true false s h = refl
one_of_two false false n s h = refl

not-both : (t : Sort) → same t int ≡ true → same t real ≡ true → ⊥
not-both t p q = int-real (sym (same-sound t int p) ∙ same-sound t real q)

pub ints-are : (ts : Sorts) → all_same int ts ≡ (numbers ts && not (stands real ts))
unfolding all_same numbers stands
ints-are end = refl
ints-are (t then ts) = ap₂ ◌&&◌ (same-swap int t) (ints-are ts) ∙ one_of_two (same t int) (same t real) (numbers ts) (stands real ts) (not-both t)

pub reals-are : (ts : Sorts) → all_same real ts ≡ (numbers ts && not (stands int ts))
unfolding all_same numbers stands
reals-are end = refl
reals-are (t then ts) =
    ap₂ ◌&&◌ (same-swap real t) (reals-are ts)
    ∙ one_of_two (same t real) (same t int) (numbers ts) (stands int ts) (λ p q. not-both t q p)
    ∙ ap (λ (c : Bool). c && numbers ts && not (same t int || stands int ts)) (or_comm (same t real) (same t int))

---------------------------------------------------------------- elements, then their set
pub elements-only : (x : Sort) (ts : Sorts) → elements x ts ≡ true → (n : ℕ) × (ts ≡ times n x (set x))
unfolding elements times
elements-only x end e = absurd (false≢true e)
elements-only x (t then end) e = (0, ap (◌then end) (same-sound t (set x) e))
elements-only x (t then (u then us)) e =
    let (n, h) = elements-only x (u then us) (and_right (same t x) (elements x (u then us)) e) in
    let z = same-sound t x (and_left (same t x) (elements x (u then us)) e) in (suc n, cc)

pub elements-when : (n : ℕ) (x : Sort) → elements x (times n x (set x)) ≡ true
unfolding elements times
elements-when zero x = same_refl (set x)
elements-when (suc zero) x = and-true (same x x) (same (set x) (set x)) (same_refl x) (same_refl (set x))
elements-when (suc (suc n)) x = and-true (same x x) (elements x (times (suc n) x (set x))) (same_refl x) (elements-when (suc n) x)

---------------------------------------------------------------- columns that touch
pub touch-only : (as' bs : Sorts) → touch as' bs ≡ true → (c : Sort) × (as' ≡ joined (all_but_last as') c) × (bs ≡ c then all_but_first bs)
unfolding touch all_but_last joined last_of
touch-only end bs e = absurd (false≢true e)
touch-only (a then as') end e = absurd (false≢true e)
touch-only (a then as') (b then bs) e = (b, last a as' ∙ ap (joined (all_but_last (a then as'))) (same-sound (last_of a as') b e), refl)
  where
    last : (a : Sort) (as' : Sorts) → a then as' ≡ joined (all_but_last (a then as')) (last_of a as')
    last a end = refl
    last a (d then ds) = ap (a then◌) (last d ds)

pub touch-when : (as' : Sorts) (c : Sort) (bs : Sorts) → touch (joined as' c) (c then bs) ≡ true
unfolding touch joined last_of
touch-when end c bs = same_refl c
touch-when (a then end) c bs = same_refl c
touch-when (a then (d then ds)) c bs = touch-when (d then ds) c bs

---------------------------------------------------------------- the test is what the form says
pub computes-only : (f : Form) (ts : Sorts) (s : Sort) → computes f ts ≡ some s → Computes f ts s
unfolding computes times
computes-only concat ts s h =
    let (a, b, e, g) = two-only join_vectors ts s h in
    let (t, r) = when-some (vector a && vector b) (bitvec (number_in a + number_in b)) s g in
    let p = vector-is a (and_left (vector a) (vector b) t) in let q = vector-is b (and_right (vector a) (vector b) t) in
    let z : ts ≡ bitvec (number_in a) then bitvec (number_in b) then end = cc in
    (number_in a, number_in b, z, sym r)
computes-only (mixed r) ts s h =
    let (t, e) = when-some (numbers ts && stands int ts && stands real ts) r s h in
    let (a, b, c) = three (numbers ts) (stands int ts) (stands real ts) t in
    (numbers-only ts a, stands-only int ts b, stands-only real ts c, sym e)
computes-only insert end s h = none-some h
computes-only insert (x then ts) s h =
    let (t, r) = when-some (elements x ts) (set x) s h in
    let (n, e) = elements-only x ts t in (x, n, ap (x then◌) e, sym r)
computes-only tupling end s h = none-some h
computes-only tupling (a then as') s h = (a, as', refl, sym (some_inj h))
computes-only transpose ts s h =
    let (a, e, g) = one-only transposed ts s h in
    let (t, r) = when-some (relation a) (set (tuple (backwards (columns a)))) s g in
    let p = relation-is a t in
    let z : ts ≡ set (tuple (columns a)) then end = cc in (columns a, z, sym r)
computes-only join ts s h =
    let (a, b, e, g) = two-only join_relations ts s h in
    let (t, r) = when-some (relation a && relation b && touch (columns a) (columns b)) (set (tuple (appended (all_but_last (columns a)) (all_but_first (columns b))))) s g in
    let (ra, rb, w) = three (relation a) (relation b) (touch (columns a) (columns b)) t in
    let (c, ea, eb) = touch-only (columns a) (columns b) w in
    let p = relation-is a ra in let q = relation-is b rb in
    let z : ts ≡ set (tuple (joined (all_but_last (columns a)) c)) then set (tuple (c then all_but_first (columns b))) then end = cc in
    (all_but_last (columns a), c, all_but_first (columns b), z, sym r)
computes-only product ts s h =
    let (a, b, e, g) = two-only multiplied ts s h in
    let (t, r) = when-some (relation a && relation b) (set (tuple (appended (columns a) (columns b)))) s g in
    let p = relation-is a (and_left (relation a) (relation b) t) in let q = relation-is b (and_right (relation a) (relation b) t) in
    let z : ts ≡ set (tuple (columns a)) then set (tuple (columns b)) then end = cc in
    (columns a, columns b, z, sym r)

pub computes-when : (f : Form) (ts : Sorts) (s : Sort) → Computes f ts s → computes f ts ≡ some s
unfolding computes times
computes-when concat ts s h = let (i, j, e, r) = h in rw (e, r) (ap (λ (b : Bool). when b (bitvec (i + j))) (and-true (vector (bitvec i)) (vector (bitvec j)) (vector-of i) (vector-of j)))
computes-when (mixed r) ts s h = let (a, b, c, e) = h in rw (numbers-when ts a, stands-when int ts b, stands-when real ts c, e) refl
computes-when insert ts s h = let (x, n, e, r) = h in rw (e, r) (ap (λ (b : Bool). when b (set x)) (elements-when n x))
computes-when tupling ts s h = let (a, as', e, r) = h in rw (r, e) refl
computes-when transpose ts s h =
    let (cs, e, r) = h in rw (e, r) (ap (λ (b : Bool). when b (set (tuple (backwards cs)))) (relation-of cs))
computes-when join ts s h =
    let (as', c, bs, e, r) = h in
    let t : (relation (set (tuple (joined as' c))) && relation (set (tuple (c then bs))) && touch (joined as' c) (c then bs)) ≡ true =
    and-true (relation (set (tuple (joined as' c))) && relation (set (tuple (c then bs)))) (touch (joined as' c) (c then bs))
    (and-true (relation (set (tuple (joined as' c)))) (relation (set (tuple (c then bs)))) (relation-of (joined as' c)) (relation-of (c then bs)))
    (touch-when as' c bs) in
    rw (e, r) (ap (λ (b : Bool). when b (set (tuple (appended (all_but_last (joined as' c)) bs)))) t
    ∙ ap (λ (ds : Sorts). some (set (tuple (appended ds bs)))) (last-dropped as' c))
computes-when product ts s h =
    let (as', bs, e, r) = h in
    rw (e, r) (ap (λ (b : Bool). when b (set (tuple (appended as' bs))))
    (and-true (relation (set (tuple as'))) (relation (set (tuple bs))) (relation-of as') (relation-of bs)))

---------------------------------------------------------------- counts
pub takes_moved : (σ : Map) (f : Form) (ts : Sorts) → takes f (apply_all σ ts) ≡ takes f ts
unfolding takes
takes_moved σ f ts = ap (takes_count f) (count-applied σ ts)

pub times-count : (n : ℕ) (x l : Sort) → 0 < count (times n x l)
unfolding times count
times-count zero x l = omega arith
times-count (suc n) x l = omega arith

-- A form takes the count of what it computes from.
pub computes-count : (f : Form) (ts : Sorts) (s : Sort) → Computes f ts s → takes f ts ≡ true
unfolding takes count times
computes-count concat ts s h = let (i, j, e, r) = h in rw e refl
computes-count (mixed r) ts s h = let (a, b, c, e) = h in lt-ltb 1 (count ts) (stands-two int real ts int-real b c)
computes-count insert ts s h = let (x, n, e, r) = h in rw e (lt-ltb 1 (suc (count (times n x (set x)))) (let z = times-count n x (set x) in omega arith))
computes-count tupling ts s h = let (a, as', e, r) = h in rw e (lt-ltb 0 (suc (count as')) (omega arith))
computes-count transpose ts s h = let (cs, e, r) = h in rw e refl
computes-count join ts s h = let (as', c, bs, e, r) = h in rw e refl
computes-count product ts s h = let (as', bs, e, r) = h in rw e refl

---------------------------------------------------------------- replacing
pub joined-moved : (σ : Map) (ss : Sorts) (c : Sort) → apply_all σ (joined ss c) ≡ joined (apply_all σ ss) (apply σ c)
unfolding joined apply
joined-moved σ end c = refl
joined-moved σ (s then ss) c = ap (apply σ s then◌) (joined-moved σ ss c)

pub appended-moved : (σ : Map) (ss ts : Sorts) → apply_all σ (appended ss ts) ≡ appended (apply_all σ ss) (apply_all σ ts)
unfolding appended apply
appended-moved σ end ts = refl
appended-moved σ (s then ss) ts = ap (apply σ s then◌) (appended-moved σ ss ts)

pub backwards-moved : (σ : Map) (ss : Sorts) → apply_all σ (backwards ss) ≡ backwards (apply_all σ ss)
unfolding backwards apply
backwards-moved σ end = refl
backwards-moved σ (s then ss) = joined-moved σ (backwards ss) s ∙ ap (λ (rs : Sorts). joined rs (apply σ s)) (backwards-moved σ ss)

pub times-moved : (σ : Map) (n : ℕ) (x l : Sort) → apply_all σ (times n x l) ≡ times n (apply σ x) (apply σ l)
unfolding times apply
times-moved σ zero x l = refl
times-moved σ (suc n) x l = ap (apply σ x then◌) (times-moved σ n x l)

-- Int and Real stay, and what stands in a list stands replaced in the replaced list.
pub numbers-moved : (σ : Map) (ts : Sorts) → Numbers ts → Numbers (apply_all σ ts)
unfolding apply
numbers-moved σ end h = tt
numbers-moved σ (t then ts) h = (⊎_elim (λ q. inl (ap (apply σ) q)) (λ q. inr (ap (apply σ) q)) h.0, numbers-moved σ ts h.1)

pub stands-moved : (σ : Map) (s : Sort) (ts : Sorts) → Stands s ts → Stands (apply σ s) (apply_all σ ts)
unfolding apply
stands-moved σ s end h = absurd h
stands-moved σ s (t then ts) (inl q) = inl (ap (apply σ) q)
stands-moved σ s (t then ts) (inr q) = inr (stands-moved σ s ts q)

-- A form with a result of its own has a proper one without a variable.
unfoldable pub well_form : Form → Bool
unfolding ground proper
well_form concat = true
well_form (mixed r) = ground r && proper r
well_form insert = true
well_form tupling = true
well_form transpose = true
well_form join = true
well_form product = true

-- A sort without a variable stays.
mutual
  unfolding ground apply

  pub ground-still : (σ : Map) (s : Sort) → ground s ≡ true → apply σ s ≡ s
  ground-still σ (var v) e = absurd (false≢true e)
  ground-still σ (par ns b) e = absurd (false≢true e)
  ground-still σ (node k a w ss) e = ap (node k a w) (ground_all-still σ ss (search conj))

  pub ground_all-still : (σ : Map) (ss : Sorts) → ground_all ss ≡ true → apply_all σ ss ≡ ss
  ground_all-still σ end e = refl
  ground_all-still σ (s then ss) e =
      let p = ground-still σ s (search conj) in let q = ground_all-still σ ss (search conj) in cc

-- WHAT A FORM SAYS OF ARGUMENTS IT SAYS OF REPLACED ONES, whatever is replaced.
pub computes-moved : (σ : Map) (f : Form) (ts : Sorts) (s : Sort) → well_form f ≡ true → Computes f ts s → Computes f (apply_all σ ts) (apply σ s)
unfolding well_form apply
computes-moved σ concat ts s w h = let (i, j, e, r) = h in (i, j, ap (apply_all σ) e, ap (apply σ) r)
computes-moved σ (mixed t) ts s w h =
    let (a, b, c, e) = h in
    (numbers-moved σ ts a, stands-moved σ int ts b, stands-moved σ real ts c, ap (apply σ) e ∙ ground-still σ t (and_left (ground t) (proper t) w))
computes-moved σ insert ts s w h =
    let (x, n, e, r) = h in (apply σ x, n, ap (apply_all σ) e ∙ times-moved σ (suc n) x (set x), ap (apply σ) r)
computes-moved σ tupling ts s w h =
    let (a, as', e, r) = h in (apply σ a, apply_all σ as', ap (apply_all σ) e, ap (apply σ) r)
computes-moved σ transpose ts s w h =
    let (cs, e, r) = h in
    (apply_all σ cs, ap (apply_all σ) e, ap (apply σ) r ∙ ap (λ (ds : Sorts). set (tuple ds)) (backwards-moved σ cs))
computes-moved σ join ts s w h =
    let (as', c, bs, e, r) = h in (
      apply_all σ as',
      apply σ c,
      apply_all σ bs,
      ap (apply_all σ) e ∙ ap (λ (ds : Sorts). set (tuple ds) then set (tuple (apply σ c then apply_all σ bs)) then end) (joined-moved σ as' c),
      ap (apply σ) r ∙ ap (λ (ds : Sorts). set (tuple ds)) (appended-moved σ as' bs),
    )
computes-moved σ product ts s w h =
    let (as', bs, e, r) = h in
    (apply_all σ as', apply_all σ bs, ap (apply_all σ) e, ap (apply σ) r ∙ ap (λ (ds : Sorts). set (tuple ds)) (appended-moved σ as' bs))

---------------------------------------------------------------- proper results
-- A vector of positive width is proper, and a proper vector has positive width.
pub width-proper : (w : ℕ) → 0 < w → proper (bitvec w) ≡ true
unfolding proper
width-proper w h = rw (ne_eqb w 0 (λ q. omega arith)) refl

pub proper-positive : (w : ℕ) → proper (bitvec w) ≡ true → 0 < w
unfolding proper
proper-positive w h =
    by_test (eqb w 0)
    (λ q. let z : false ≡ true = rw q at h in absurd (false≢true z))
    (λ q. let n : w ≡ 0 → ⊥ = eqb-false w 0 q in omega (arith, n))

pub first-proper : (s : Sort) (ss : Sorts) → proper_all (s then ss) ≡ true → proper s ≡ true
unfolding proper
first-proper s ss p = and_left (proper s) (proper_all ss) p

proper-parts : ByParts proper proper_all
unfolding proper
proper-parts = record { entries = record { none = refl; each = λ s ss. refl }; of_set = λ s. refl; of_tuple = λ ss. refl }

-- WHAT A FORM GIVES ON PROPER ARGUMENTS IS PROPER.
pub computes-proper : (f : Form) (ts : Sorts) (s : Sort) → well_form f ≡ true → proper_all ts ≡ true → Computes f ts s → proper s ≡ true
unfolding well_form
computes-proper concat ts s w p h =
    let (i, j, e, r) = h in
    let z = proper-positive i (first-proper (bitvec i) (bitvec j then end) (rw e at p)) in
    rw r (width-proper (i + j) (omega arith))
computes-proper (mixed t) ts s w p h = let (a, b, c, e) = h in rw e (and_right (ground t) (proper t) w)
computes-proper insert ts s w p h = parts-hold proper proper_all proper-parts insert ts s tt p h
computes-proper tupling ts s w p h = parts-hold proper proper_all proper-parts tupling ts s tt p h
computes-proper transpose ts s w p h = parts-hold proper proper_all proper-parts transpose ts s tt p h
computes-proper join ts s w p h = parts-hold proper proper_all proper-parts join ts s tt p h
computes-proper product ts s w p h = parts-hold proper proper_all proper-parts product ts s tt p h
