-- THE RANKS OF AN OPERATOR GIVE WHAT ITS FAMILY ANSWERS: a test of a family and a rank, which is sound, and which every row of the table passes
-- for each of its operators, by computation. So where a rank fits, its result is the inferred sort.
use Rattle.std.specs.Prelude.{ℕ, zero, suc, ◌-◌, ◌≡◌, refl, Bool, true, false, not, ◌&&◌, ◌||◌, List, [], ◌∷◌, eqb, leb, ◌++◌, get_or}
use Rattle.std.proofs.Common.{sym, ap, ◌∙◌, subst, arith, eqb-true, leb-true}
use Rattle.std.proofs.lemmas.Bool.{false≢true}
use Rattle.std.proofs.Math.Option.{Option, some}
use Rattle.record.specs.Sort.{Sort, Sorts, var, par, node, end, ◌then◌, bool, int, real, string, reglan, array, bitvec, set, tuple, parts_of, same}
use Rattle.record.specs.SortLaws.{same-sound}
use Rattle.record.specs.Cases.{and_left, and_right, conj, or_cases, not-true, by_test, none-some, some_inj, eqb-self}
use Rattle.substitution.specs.Substitution.{Map, apply, apply_all, occurs}
use Rattle.substitution.specs.Premises.{ground}
use Rattle.row_rules.specs.Verdict.{sort}
use Rattle.infer_rules.specs.declared.Family.{Family}
use Rattle.infer_rules.specs.declared.Family.TheVariants.{Truth, Integer, Decimal, Text, Regular, Vector, OneBit, Bits, Constant, Concat, First, Second, Last, Sum, Element, RareList, Singleton, Tuple, UnitTuple, Transpose, Join, Product}
use Rattle.infer_rules.specs.Family.{family_of}
use Rattle.infer_rules.specs.Inferred.{some_real, sum_of, operated_by}
use Rattle.check_rules.specs.Forms.{stands, Form, concat, mixed, insert, tupling, transpose, join, product, Stands, Computes, all_same, first_part}
use Rattle.check_rules.specs.FormLaws.{ground-still, stands-when}
use Rattle.check_rules.specs.Rank.{Rank, rank, computed, repeated, stretched, patterns}
use Rattle.check_rules.specs.Ranks.{RankTable, done, row, enlarged, ranks_in, standard, smt_lib}
use Rattle.check_rules.specs.Fits.{Assigns, Fits, rank_at, SomeFits}
use Rattle.check_rules.proofs.DisjointLaws.{patterns-are}
use Rattle.check_rules.proofs.NumberTheorems.{are-turned, ints-only}
use Rattle.check_rules.proofs.Runs.{run, run-at}
use Rattle.judge_rules.proofs.FormsInferred.{concat-inferred, insert-inferred, tuple-inferred, transpose-inferred, join-inferred, product-inferred}

-- Whether a Real is among the arguments, as either row tests it.
some-stands : (ts : Sorts) → some_real ts ≡ stands real ts
unfolding some_real stands
some-stands end = refl
some-stands (t then ts) = ap (λ (b : Bool). same t real || b) (some-stands ts)

---------------------------------------------------------------- the test
-- What a test says of the first pattern.
abbrev pub starts : (Sort → Bool) → Sorts → Bool
starts f end = false
starts f (p then ps) = f p

-- What it says of the second one.
abbrev pub seconds : (Sort → Bool) → Sorts → Bool
seconds f end = false
seconds f (p then ps) = starts f ps

abbrev pub is_var : Sort → Bool
is_var (var v) = true
is_var (par ns b) = false
is_var (node k a w ss) = false

-- Patterns ps with the result r, the last repeated or not, over vectors or not, give what the family answers.
unfoldable pub patterns_agree : Family → Bool → Bool → Sorts → Sort → Bool
unfolding same all_same
patterns_agree Truth rep vs ps r = same r bool
patterns_agree Integer rep vs ps r = same r int
patterns_agree Decimal rep vs ps r = same r real
patterns_agree Text rep vs ps r = same r string
patterns_agree Regular rep vs ps r = same r reglan
patterns_agree Vector rep vs ps r = vs && starts (λ p. is_var p && same p r) ps
patterns_agree OneBit rep vs ps r = same r (bitvec 1)
patterns_agree Bits rep vs ps r = false
patterns_agree Constant rep vs ps r = false
patterns_agree Concat rep vs ps r = false
patterns_agree First rep vs ps r = starts (λ p. same p r) ps
patterns_agree Second rep vs ps r = not rep && seconds (λ p. same p r) ps
patterns_agree Last rep vs ps r = false
patterns_agree Sum rep vs ps r = (all_same int ps && same r int) || (starts (λ p. same p real) ps && same r real)
patterns_agree Element rep vs ps r = starts (λ p. same p (array (first_part (parts_of p)) r)) ps
patterns_agree RareList rep vs ps r = false
patterns_agree Singleton rep vs ps r = starts (λ p. same (set p) r) ps
patterns_agree Tuple rep vs ps r = false
patterns_agree UnitTuple rep vs ps r = same r (tuple end)
patterns_agree Transpose rep vs ps r = false
patterns_agree Join rep vs ps r = false
patterns_agree Product rep vs ps r = false

-- The forms by numbers, and a form of mixed numbers by its result.
abbrev pub form_number : Form → ℕ
form_number concat = 0
form_number (mixed r) = 1
form_number insert = 2
form_number tupling = 3
form_number transpose = 4
form_number join = 5
form_number product = 6

abbrev pub mixes : Sort → Form → Bool
mixes a concat = false
mixes a (mixed r) = same r a
mixes a insert = false
mixes a tupling = false
mixes a transpose = false
mixes a join = false
mixes a product = false

-- A form gives what the family answers.
unfoldable pub form_agrees : Family → Form → Bool
unfolding same
form_agrees Truth g = mixes bool g
form_agrees Integer g = false
form_agrees Decimal g = mixes real g
form_agrees Text g = false
form_agrees Regular g = false
form_agrees Vector g = false
form_agrees OneBit g = false
form_agrees Bits g = false
form_agrees Constant g = false
form_agrees Concat g = eqb (form_number g) 0
form_agrees First g = false
form_agrees Second g = false
form_agrees Last g = eqb (form_number g) 2
form_agrees Sum g = mixes real g
form_agrees Element g = false
form_agrees RareList g = false
form_agrees Singleton g = false
form_agrees Tuple g = eqb (form_number g) 3
form_agrees UnitTuple g = false
form_agrees Transpose g = eqb (form_number g) 4
form_agrees Join g = eqb (form_number g) 5
form_agrees Product g = eqb (form_number g) 6

-- A RANK GIVES WHAT THE FAMILY ANSWERS.
abbrev pub agrees : Family → Rank → Bool
agrees f (rank rep vs ps r) = patterns_agree f rep vs ps r
agrees f (computed g) = form_agrees f g

unfoldable pub agree_all : Family → List Rank → Bool
unfolding patterns_agree form_agrees
agree_all f [] = true
agree_all f (r ∷ rs) = agrees f r && agree_all f rs

---------------------------------------------------------------- the test of patterns is sound
-- The first pattern stays the first one, however often the last one is repeated.
patterns-first : (rep : Bool) (p : Sort) (ps ts : Sorts) → (qs : Sorts) × (patterns rep (p then ps) ts ≡ p then qs)
unfolding stretched
patterns-first false p ps ts = (ps, refl)
patterns-first true p end end = (end, refl)
patterns-first true p end (t then ts) = (repeated p ts, refl)
patterns-first true p (q then ps) end = (q then ps, refl)
patterns-first true p (q then ps) (t then ts) = (stretched (q then ps) ts, refl)

-- So the first argument is what the first pattern is turned into.
first-turned : (f : Sort → Bool) (rep : Bool) (ps ts : Sorts) (m : Map) → starts f ps ≡ true → apply_all m (patterns rep ps ts) ≡ ts
    → (p : Sort) × (qs : Sorts) × (us : Sorts) × (ps ≡ p then qs) × (f p ≡ true) × (ts ≡ apply m p then us)
unfolding apply
first-turned f rep end ts m e h = absurd (false≢true e)
first-turned f rep (p then ps) ts m e h =
    let (qs, g) = patterns-first rep p ps ts in (p, ps, apply_all m qs, refl, e, sym h ∙ ap (apply_all m) g)

module _ (rep vs : Bool) (ps : Sorts) (r : Sort) (ts : Sorts) (s : Sort) (A : Assigns rep vs ps r ts s) where
  -- A result without a variable is the sort.
  ground-given : (a : Sort) → ground a ≡ true → same r a ≡ true → a ≡ s
  ground-given a g e = sym (ground-still A.assignment a g) ∙ ap (apply A.assignment) (sym (same-sound r a e)) ∙ A.result

  begun : (f : Sort → Bool) → starts f ps ≡ true
      → (p : Sort) × (qs : Sorts) × (us : Sorts) × (ps ≡ p then qs) × (f p ≡ true) × (ts ≡ apply A.assignment p then us)
  begun f e = first-turned f rep ps ts A.assignment e A.turns

  -- What it makes of the pattern that is the result.
  result-given : (p : Sort) → same p r ≡ true → apply A.assignment p ≡ s
  result-given p e = ap (apply A.assignment) (same-sound p r e) ∙ A.result

  first-given : (cs : List (Option ℕ)) → starts (λ p. same p r) ps ≡ true → operated_by First ts cs ≡ sort s
  unfolding operated_by
  first-given cs e =
      let (p, qs, us, a, b, t) = begun (λ p. same p r) e in rw t (ap sort (result-given p b))

  second-given : (cs : List (Option ℕ)) → rep ≡ false → (qs : Sorts) → ps ≡ qs → seconds (λ p. same p r) qs ≡ true → operated_by Second ts cs ≡ sort s
  unfolding operated_by apply
  second-given cs n end q e = absurd (false≢true e)
  second-given cs n (a then end) q e = absurd (false≢true e)
  second-given cs n (a then (b then qs)) q e =
      let h : apply_all A.assignment (patterns rep ps ts) ≡ ts = A.turns in
      let t : apply_all A.assignment (a then b then qs) ≡ ts = rw (n, q) at h in
      rw (← t) (ap sort (result-given b e))

  vector-given : (cs : List (Option ℕ)) → vs ≡ true → starts (λ p. is_var p && same p r) ps ≡ true → operated_by Vector ts cs ≡ sort s
  unfolding operated_by occurs
  vector-given cs v e =
      let (p, qs, us, a, b, t) = begun (λ p. is_var p && same p r) e in
      let g = result-given p (and_right (is_var p) (same p r) b) in
      let (w, x) = wide p qs a (and_left (is_var p) (same p r) b) in
      rw (t, x) (ap sort (sym x ∙ g))
    where
      wide : (p : Sort) (qs : Sorts) → ps ≡ p then qs → is_var p ≡ true → (w : ℕ) × (apply A.assignment p ≡ bitvec w)
      wide (var u) qs a i = A.widths v u (rw a (rw (eqb-self u) refl))
      wide (par ns b) qs a i = absurd (false≢true i)
      wide (node k c w ss) qs a i = absurd (false≢true i)

  sum-given : (cs : List (Option ℕ)) → ((all_same int ps && same r int) || (starts (λ p. same p real) ps && same r real)) ≡ true → operated_by Sum ts cs ≡ sort s
  unfolding operated_by ground apply
  sum-given cs e =
      or_cases (all_same int ps && same r int) (starts (λ p. same p real) ps && same r real) e
      (λ q.
      let i = are-turned A.assignment int (patterns rep ps ts) ts refl (patterns-are rep int ps ts (and_left (all_same int ps) (same r int) q)) A.turns in
      rw (some-stands ts, ((ints-only ts).0 i).1) (ap sort (ground-given int refl (and_right (all_same int ps) (same r int) q))))
      (λ q.
      let (p, qs, us, a, b, t) = begun (λ p. same p real) (and_left (starts (λ p. same p real) ps) (same r real) q) in
      let g : apply A.assignment p ≡ real = ap (apply A.assignment) (same-sound p real b) ∙ ground-still A.assignment real refl in
      rw (t, g) (ap sort (ground-given real refl (and_right (starts (λ p. same p real) ps) (same r real) q))))

  element-given : (cs : List (Option ℕ)) → starts (λ p. same p (array (first_part (parts_of p)) r)) ps ≡ true → operated_by Element ts cs ≡ sort s
  unfolding operated_by apply
  element-given cs e =
      let (p, qs, us, a, b, t) = begun (λ p. same p (array (first_part (parts_of p)) r)) e in
      let g = ap (apply A.assignment) (same-sound p (array (first_part (parts_of p)) r) b) in
      rw (t, g) (ap sort A.result)

  singleton-given : (cs : List (Option ℕ)) → starts (λ p. same (set p) r) ps ≡ true → operated_by Singleton ts cs ≡ sort s
  unfolding operated_by apply
  singleton-given cs e =
      let (p, qs, us, a, b, t) = begun (λ p. same (set p) r) e in
      rw t (ap sort (result-given (set p) b))

  patterns-agree : (f : Family) (cs : List (Option ℕ)) → patterns_agree f rep vs ps r ≡ true → operated_by f ts cs ≡ sort s
  unfolding patterns_agree operated_by ground
  patterns-agree Truth cs e = ap sort (ground-given bool refl e)
  patterns-agree Integer cs e = ap sort (ground-given int refl e)
  patterns-agree Decimal cs e = ap sort (ground-given real refl e)
  patterns-agree Text cs e = ap sort (ground-given string refl e)
  patterns-agree Regular cs e = ap sort (ground-given reglan refl e)
  patterns-agree Vector cs e = vector-given cs (and_left vs (starts (λ p. is_var p && same p r) ps) e) (and_right vs (starts (λ p. is_var p && same p r) ps) e)
  patterns-agree OneBit cs e = ap sort (ground-given (bitvec 1) refl e)
  patterns-agree Bits cs e = absurd (false≢true e)
  patterns-agree Constant cs e = absurd (false≢true e)
  patterns-agree Concat cs e = absurd (false≢true e)
  patterns-agree First cs e = first-given cs e
  patterns-agree Second cs e =
      second-given cs (not-true rep (and_left (not rep) (seconds (λ p. same p r) ps) e)) ps refl (and_right (not rep) (seconds (λ p. same p r) ps) e)
  patterns-agree Last cs e = absurd (false≢true e)
  patterns-agree Sum cs e = sum-given cs e
  patterns-agree Element cs e = element-given cs e
  patterns-agree RareList cs e = absurd (false≢true e)
  patterns-agree Singleton cs e = singleton-given cs e
  patterns-agree Tuple cs e = absurd (false≢true e)
  patterns-agree UnitTuple cs e = ap sort (ground-given (tuple end) refl e)
  patterns-agree Transpose cs e = absurd (false≢true e)
  patterns-agree Join cs e = absurd (false≢true e)
  patterns-agree Product cs e = absurd (false≢true e)

---------------------------------------------------------------- the test of forms is sound
abbrev form_at : ℕ → Form
form_at n = get_or (concat ∷ mixed bool ∷ insert ∷ tupling ∷ transpose ∷ join ∷ product ∷ []) n concat

-- A form that is not of mixed numbers is told by its number.
form-told : (g : Form) → eqb (form_number g) 1 ≡ false → g ≡ form_at (form_number g)
form-told concat e = refl
form-told (mixed r) e = absurd (false≢true (sym e))
form-told insert e = refl
form-told tupling e = refl
form-told transpose e = refl
form-told join e = refl
form-told product e = refl

form-is : (g : Form) (k : ℕ) → eqb k 1 ≡ false → eqb (form_number g) k ≡ true → g ≡ form_at k
form-is g k d e = let z = eqb-true (form_number g) k e in form-told g (rw z d) ∙ ap form_at z

mixture-given : (a : Sort) (g : Form) (ts : Sorts) (s : Sort) → mixes a g ≡ true → Computes g ts s → Stands real ts × (a ≡ s)
mixture-given a concat ts s e h = absurd (false≢true e)
mixture-given a (mixed r) ts s e h = let (n, i, d, q) = h in (d, sym (same-sound r a e) ∙ sym q)
mixture-given a insert ts s e h = absurd (false≢true e)
mixture-given a tupling ts s e h = absurd (false≢true e)
mixture-given a transpose ts s e h = absurd (false≢true e)
mixture-given a join ts s e h = absurd (false≢true e)
mixture-given a product ts s e h = absurd (false≢true e)

module _ (g : Form) (ts : Sorts) (s : Sort) (h : Computes g ts s) (cs : List (Option ℕ)) where
  form-given : (k : ℕ) → eqb k 1 ≡ false → eqb (form_number g) k ≡ true → Computes (form_at k) ts s
  form-given k d e = subst (λ (q : Form). Computes q ts s) (form-is g k d e) h

  form-agree : (f : Family) → form_agrees f g ≡ true → operated_by f ts cs ≡ sort s
  unfolding form_agrees operated_by
  form-agree Truth e = ap sort (mixture-given bool g ts s e h).1
  form-agree Integer e = absurd (false≢true e)
  form-agree Decimal e = ap sort (mixture-given real g ts s e h).1
  form-agree Text e = absurd (false≢true e)
  form-agree Regular e = absurd (false≢true e)
  form-agree Vector e = absurd (false≢true e)
  form-agree OneBit e = absurd (false≢true e)
  form-agree Bits e = absurd (false≢true e)
  form-agree Constant e = absurd (false≢true e)
  form-agree Concat e = concat-inferred ts s cs (form-given 0 refl e)
  form-agree First e = absurd (false≢true e)
  form-agree Second e = absurd (false≢true e)
  form-agree Last e = insert-inferred ts s cs (form-given 2 refl e)
  form-agree Sum e =
      let (d, a) = mixture-given real g ts s e h in ap sum_of (some-stands ts ∙ stands-when real ts d) ∙ ap sort a
  form-agree Element e = absurd (false≢true e)
  form-agree RareList e = absurd (false≢true e)
  form-agree Singleton e = absurd (false≢true e)
  form-agree Tuple e = tuple-inferred ts s cs (form-given 3 refl e)
  form-agree UnitTuple e = absurd (false≢true e)
  form-agree Transpose e = transpose-inferred ts s cs (form-given 4 refl e)
  form-agree Join e = join-inferred ts s cs (form-given 5 refl e)
  form-agree Product e = product-inferred ts s cs (form-given 6 refl e)

---------------------------------------------------------------- ranks
-- WHERE A RANK THAT AGREES WITH A FAMILY FITS, the family answers its result.
pub fits-agree : (f : Family) (r : Rank) (ts : Sorts) (s : Sort) (cs : List (Option ℕ)) → agrees f r ≡ true → Fits r ts s → operated_by f ts cs ≡ sort s
fits-agree f (rank rep vs ps r) ts s cs e h = patterns-agree rep vs ps r ts s h f cs e
fits-agree f (computed g) ts s cs e h = form-agree g ts s h cs f e

agree-at : (f : Family) (rs : List Rank) (i : ℕ) (r : Rank) → agree_all f rs ≡ true → rank_at rs i ≡ some r → agrees f r ≡ true
unfolding agree_all rank_at
agree-at f [] i r e h = none-some h
agree-at f (q ∷ rs) zero r e h = subst (λ (z : Rank). agrees f z ≡ true) (some_inj h) (and_left (agrees f q) (agree_all f rs) e)
agree-at f (q ∷ rs) (suc i) r e h = agree-at f rs i r (and_right (agrees f q) (agree_all f rs) e) h

---------------------------------------------------------------- the table
-- The ranks of a row agree with the family of each of its operators.
unfoldable pub row_agrees : ℕ → ℕ → List Rank → Bool
unfolding agree_all run family_of
row_agrees a b rs = run (λ n. agree_all (family_of n) rs) a (suc b - a)

unfoldable pub table_agrees : RankTable → Bool
unfolding row_agrees
table_agrees done = true
table_agrees (row a b rs t) = row_agrees a b rs && table_agrees t
table_agrees (enlarged a b rs qs t) = row_agrees a b (rs ++ qs) && table_agrees t

row-at : (a b n : ℕ) (rs : List Rank) → row_agrees a b rs ≡ true → (leb a n && leb n b) ≡ true → agree_all (family_of n) rs ≡ true
unfolding row_agrees
row-at a b n rs e q =
    let lo = leb-true a n (and_left (leb a n) (leb n b) q) in
    let hi = leb-true n b (and_right (leb a n) (leb n b) q) in
    run-at (λ m. agree_all (family_of m) rs) a (suc b - a) n e lo (omega (arith, lo, hi))

pub table-agree : (t : RankTable) (n : ℕ) → table_agrees t ≡ true → agree_all (family_of n) (ranks_in t n) ≡ true
unfolding table_agrees ranks_in agree_all
table-agree done n e = refl
table-agree (row a b rs t) n e =
    by_test (leb a n && leb n b)
    (λ q. rw q (row-at a b n rs (search conj) q))
    (λ q. rw q (table-agree t n (search conj)))
table-agree (enlarged a b rs qs t) n e =
    by_test (leb a n && leb n b)
    (λ q. rw q (row-at a b n (rs ++ qs) (search conj) q))
    (λ q. rw q (table-agree t n (search conj)))

-- The table passes.
pub standard-agrees : table_agrees standard ≡ true
unfolding table_agrees standard
standard-agrees = refl

-- WHERE SOME RANK OF AN OPERATOR FITS, its result is what the operator's family answers.
pub ranks-inferred : (n : ℕ) (ts : Sorts) (s : Sort) (cs : List (Option ℕ)) → SomeFits (smt_lib n) ts s → operated_by (family_of n) ts cs ≡ sort s
unfolding smt_lib
ranks-inferred n ts s cs F =
    fits-agree (family_of n) F.chosen ts s cs
    (agree-at (family_of n) (smt_lib n) F.place F.chosen (table-agree standard n standard-agrees) F.listed) F.fits
