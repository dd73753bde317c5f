-- THE STORE AS A LIST OF DISTINCT SORTS, in document 01's words: it "keeps each distinct sort once, in first-made order, parts
-- first"; "Two sorts are equal exactly when their store numbers are"; "An answer adds only the sorts inside it."
use Rattle.std.specs.Prelude.{ℕ, ◌≤◌, ◌<◌, ◌≡◌, refl, Bool, true, false, cond, ◌||◌, List, [], ◌∷◌, ◌++◌, ◌↔◌, length, get_or}
use Rattle.std.proofs.Common.{sym, ap, subst, ◌∙◌, arith}
use Rattle.record.specs.Sort.{Sort, Sorts, var, par, node, end, ◌then◌, same}
use Rattle.record.specs.Record.{leaf}
use Rattle.record.specs.Store.{memb, add_once, intern, intern_all, index_of}
use Rattle.record.specs.Cases.{or_cases}
use Rattle.record.specs.SortLaws.{same-sound}
use Rattle.record.specs.SortLists.{Once, Ordered, Starts, memb-at, index-found, once-intern, ordered-intern, starts-intern, starts-at, starts-count, intern-known}

-- THE SORTS INSIDE A SORT: t is the sort itself, or inside one of its parts.
unfoldable mutual
  unfolding same

  pub inside : Sort → Sort → Bool
  inside t (var v) = same (var v) t
  inside t (par ns b) = inside t b || same (par ns b) t
  inside t (node k a w ss) = inside_any t ss || same (node k a w ss) t

  pub inside_any : Sort → Sorts → Bool
  inside_any t end = false
  inside_any t (s then ss) = inside t s || inside_any t ss

-- Disjunctions, regrouped.
or_assoc : (a b c : Bool) → a || b || c ≡ a || (b || c)
or_assoc true b c = refl
or_assoc false b c = refl

or-none : (a : Bool) → a || false ≡ a
or-none true = refl
or-none false = refl

or-absorb : (a b : Bool) → (b ≡ true → a ≡ true) → a ≡ a || b
or-absorb true b h = refl
or-absorb false true h = h refl
or-absorb false false h = refl

-- A sort behind the others: those that were there, and that one.
memb-last : (t s : Sort) (st : List Sort) → memb t (st ++ (s ∷ [])) ≡ memb t st || same s t
unfolding memb
memb-last t s [] = or-none (same s t)
memb-last t s (r ∷ st) = ap (λ (x : Bool). same r t || x) (memb-last t s st) ∙ sym (or_assoc (same r t) (memb t st) (same s t))

added-by : (c : Bool) (t s : Sort) (st : List Sort) → memb s st ≡ c → memb t (cond c st (st ++ (s ∷ []))) ≡ memb t st || same s t
added-by true t s st e = or-absorb (memb t st) (same s t) (λ q. subst (λ (x : Sort). memb x st ≡ true) (same-sound s t q) e)
added-by false t s st e = memb-last t s st

pub added-holds : (t s : Sort) (st : List Sort) → memb t (add_once st s) ≡ memb t st || same s t
unfolding add_once
added-holds t s st = added-by (memb s st) t s st refl

-- AFTER INTERNING A SORT THE STORE HOLDS WHAT IT HELD AND THE SORTS INSIDE THAT SORT, AND NOTHING ELSE. By induction over the sort.
mutual
  unfolding intern inside

  pub intern-holds : (t s : Sort) (st : List Sort) → memb t (intern s st) ≡ memb t st || inside t s
  intern-holds t (var v) st = added-holds t (var v) st
  intern-holds t (par ns b) st =
      added-holds t (par ns b) (intern b st) ∙ ap (λ (x : Bool). x || same (par ns b) t) (intern-holds t b st)
      ∙ or_assoc (memb t st) (inside t b) (same (par ns b) t)
  intern-holds t (node k a w ss) st =
      added-holds t (node k a w ss) (intern_all ss st) ∙ ap (λ (x : Bool). x || same (node k a w ss) t) (intern-all-holds t ss st)
      ∙ or_assoc (memb t st) (inside_any t ss) (same (node k a w ss) t)

  pub intern-all-holds : (t : Sort) (ss : Sorts) (st : List Sort) → memb t (intern_all ss st) ≡ memb t st || inside_any t ss
  intern-all-holds t end st = sym (or-none (memb t st))
  intern-all-holds t (s then ss) st =
      intern-all-holds t ss (intern s st) ∙ ap (λ (x : Bool). x || inside_any t ss) (intern-holds t s st)
      ∙ or_assoc (memb t st) (inside t s) (inside_any t ss)

-- A number past the old ones is no number of an old sort, since none stands twice.
pub new-inside : (s : Sort) (st : List Sort) → Once st → (k : ℕ) → length st ≤ k → k < length (intern s st)
    → inside (get_or (intern s st) k leaf) s ≡ true
unfolding Once
new-inside s st o k low high =
    let t = get_or (intern s st) k leaf in
    or_cases (memb t st) (inside t s) (sym (intern-holds t s st) ∙ memb-at (intern s st) leaf k high)
    (λ old.
    let f = index-found st t old in
    let m = starts-count st (intern s st) (starts-intern s st) in
    let e : index_of t st ≡ k =
    once-intern s st o (index_of t st) k (omega (arith, f.0)) high
    (starts-at st (intern s st) (starts-intern s st) (index_of t st) f.0 ∙ f.1) in
    absurd (omega (arith, f.0)))
    (λ here. here)

-- WHAT INTERNING A SORT DOES to a store of distinct sorts, parts before wholes.
pub record Interned (s : Sort) (st : List Sort) : Type 0 where
  -- No sort stands twice, and parts stand before wholes.
  pub once : Once (intern s st)
  pub ordered : Ordered (intern s st)
  -- What was there keeps its number.
  pub appends : Starts st (intern s st)
  -- It holds what it held and the sorts inside s, and nothing else; each new entry is inside s.
  pub holds : (t : Sort) → memb t (intern s st) ≡ memb t st || inside t s
  pub new : (k : ℕ) → length st ≤ k → k < length (intern s st) → inside (get_or (intern s st) k leaf) s ≡ true
  -- Interning a sort that is there changes nothing.
  pub known : memb s st ≡ true → intern s st ≡ st

pub interned : (s : Sort) (st : List Sort) → Once st → Ordered st → Interned s st
interned s st o p =
    record {
      once = once-intern s st o;
      ordered = ordered-intern s st p;
      appends = starts-intern s st;
      holds = λ t. intern-holds t s st;
      new = new-inside s st o;
      known = intern-known s st p;
    }

-- TWO ENTRIES ARE EQUAL EXACTLY WHEN THEIR NUMBERS ARE, and two sorts of the store exactly when they have one number.
pub entries-one : (st : List Sort) → Once st → (i j : ℕ) → i < length st → j < length st → (get_or st i leaf ≡ get_or st j leaf) ↔ (i ≡ j)
unfolding Once
entries-one st o i j li lj = (λ e. o i j li lj e, λ e. ap (λ (k : ℕ). get_or st k leaf) e)

pub numbers-one : (st : List Sort) (s t : Sort) → memb s st ≡ true → memb t st ≡ true → (index_of s st ≡ index_of t st) ↔ (s ≡ t)
numbers-one st s t m n = (
  λ e. sym (index-found st s m).1 ∙ ap (λ (k : ℕ). get_or st k leaf) e ∙ (index-found st t n).1,
  λ e. ap (λ (x : Sort). index_of x st) e,
)
