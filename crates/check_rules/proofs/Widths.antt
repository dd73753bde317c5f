-- FACTS ABOUT WIDTHS, stated over the width: what the vector operators of document 01 give on vectors of widths w and v. The
-- operators of one family are told by their numbers; that they share a rank is a computed test of the table.
use Rattle.std.specs.Prelude.{ℕ, zero, suc, ◌+◌, ◌*◌, ◌-◌, ◌≤◌, ◌<◌, ◌≡◌, refl, ◌↔◌, ◌⊎◌, Bool, true, false, not, ◌&&◌, List, [], ◌∷◌, eqb, leb, ltb}
use Rattle.std.proofs.Common.{sym, ap, ◌∙◌, inl, inr, ⊎_elim, arith, add-one, ne_eqb, leb-true, leb-false, ltb-true, lt-ltb, le-leb}
use Rattle.std.proofs.lemmas.Bool.{false≢true}
use Rattle.std.proofs.Math.Option.{some}
use Rattle.record.specs.Sort.{Sort, Sorts, end, ◌then◌, bool, int, bitvec, same, same_all}
use Rattle.record.specs.SortLaws.{same-sound, same_all-sound}
use Rattle.record.specs.Cases.{and_left, and_right, eqb-self, by_test}
use Rattle.substitution.specs.Substitution.{empty, bind, apply, apply_all, occurs}
use Rattle.row_rules.specs.declared.Cause.TheVariants.{Count, Misfit}
use Rattle.row_rules.specs.Verdict.{sort, refused, need}
use Rattle.row_rules.proofs.OutcomeLaws.{refused-sort, sort-inj}
use Rattle.check_rules.specs.Rank.{Rank, rank, repeated, stretched, computed}
use Rattle.check_rules.specs.Ranks.{x, one, two, smt_lib}
use Rattle.check_rules.specs.Fits.{rank_at}
use Rattle.check_rules.specs.Checked.{values, ranked, operated, indexing}
use Rattle.check_rules.proofs.FitLaws.{sort-refused, operated-ranked}
use Rattle.check_rules.proofs.Runs.{run, run-at}
use Rattle.check_rules.proofs.RankTheorems.{accepted-smt_lib, concat-accepted}

---------------------------------------------------------------- the operators that share a rank
-- An operator has this one rank, by computation.
abbrev pub same_bool : Bool → Bool → Bool
same_bool true b = b
same_bool false b = not b

abbrev pub is_rank : Rank → Rank → Bool
is_rank (rank a b ps p) (rank c d qs q) = same_bool a c && (same_bool b d && (same_all ps qs && same p q))
is_rank (rank a b ps p) (computed f) = false
is_rank (computed f) q = false

unfoldable pub only : Rank → List Rank → Bool
unfolding same
only r [] = false
only r (q ∷ []) = is_rank r q
only r (q ∷ (p ∷ ps)) = false

-- The operators from n on, k of them, have this one rank.
unfoldable pub share : Rank → ℕ → ℕ → Bool
unfolding only smt_lib run
share r n k = run (λ m. only r (smt_lib m)) n k

pub same_bool-sound : (a b : Bool) → same_bool a b ≡ true → a ≡ b
same_bool-sound true true e = refl
same_bool-sound true false e = absurd (false≢true e)
same_bool-sound false true e = absurd (false≢true e)
same_bool-sound false false e = refl

pub is_rank-sound : (r q : Rank) → is_rank r q ≡ true → r ≡ q
is_rank-sound (rank a b ps p) (rank c d qs q) e =
    let e1 = and_right (same_bool a c) (same_bool b d && (same_all ps qs && same p q)) e in
    let e2 = and_right (same_bool b d) (same_all ps qs && same p q) e1 in
    let za = same_bool-sound a c (and_left (same_bool a c) (same_bool b d && (same_all ps qs && same p q)) e) in
    let zb = same_bool-sound b d (and_left (same_bool b d) (same_all ps qs && same p q) e1) in
    let zp = same_all-sound ps qs (and_left (same_all ps qs) (same p q) e2) in
    let zr = same-sound p q (and_right (same_all ps qs) (same p q) e2) in cc
is_rank-sound (rank a b ps p) (computed f) e = absurd (false≢true e)
is_rank-sound (computed f) q e = absurd (false≢true e)

pub only-sound : (r : Rank) (rs : List Rank) → only r rs ≡ true → rs ≡ r ∷ []
unfolding only
only-sound r [] e = absurd (false≢true e)
only-sound r (q ∷ []) e = let z = is_rank-sound r q e in cc
only-sound r (q ∷ (p ∷ ps)) e = absurd (false≢true e)

pub shared : (r : Rank) (lo k n : ℕ) → share r lo k ≡ true → lo ≤ n → n < lo + k → smt_lib n ≡ r ∷ []
unfolding share
shared r lo k n e a b = only-sound r (smt_lib n) (run-at (λ m. only r (smt_lib m)) lo k n e a b)

-- Two-place operators over vectors of one width: 81 BvAnd, 82 BvOr, 83 BvAdd, 84 BvMul (these take more, too).
abbrev pub many : Rank
many = rank true true (two x) x

-- 85 to 88 BvUDiv, BvURem, BvShl, BvLShr; 91 to 94 BvNAnd, BvNOr, BvXor, BvXNor; 96 to 100 BvSub, BvSDiv, BvSRem, BvSMod, BvAShr.
abbrev pub pair : Rank
pair = rank false true (two x) x

abbrev pub TwoPlace : ℕ → Type 0
TwoPlace n = ((81 ≤ n) × (n ≤ 88)) ⊎ (((91 ≤ n) × (n ≤ 94)) ⊎ ((96 ≤ n) × (n ≤ 100)))

pub two-place : (n : ℕ) → TwoPlace n → (smt_lib n ≡ many ∷ []) ⊎ (smt_lib n ≡ pair ∷ [])
unfolding share
two-place n (inl a) =
    by_test (leb n 84)
    (λ q. let z = leb-true n 84 q in inl (shared many 81 4 n refl a.0 (omega arith)))
    (λ q. let z = leb-false n 84 q in inr (shared pair 85 4 n refl (omega arith) (omega arith)))
two-place n (inr (inl a)) = inr (shared pair 91 4 n refl a.0 (omega arith))
two-place n (inr (inr a)) = inr (shared pair 96 5 n refl a.0 (omega arith))

---------------------------------------------------------------- two vectors
-- Two vectors at a rank over two vectors of one width, whatever its result: accepted where the widths are equal, else 26.
pub pair-widths : (rep : Bool) (r : Sort) (w v : ℕ)
    → ranked (rank rep true (two x) r ∷ []) (bitvec w then bitvec v then end) ≡ need (eqb w v) Misfit (sort (apply (bind 0 (bitvec w) empty) r))
unfolding ranked
pair-widths true r w v = by_test (eqb w v) (λ q. rw (q, eqb-self w) refl) (λ q. rw q refl)
pair-widths false r w v = by_test (eqb w v) (λ q. rw (q, eqb-self w) refl) (λ q. rw q refl)

pub two-widths : (n w v : ℕ) → TwoPlace n → operated smt_lib n (bitvec w then bitvec v then end) ≡ need (eqb w v) Misfit (sort (bitvec w))
unfolding apply
two-widths n w v a =
    operated-ranked smt_lib n (bitvec w then bitvec v then end)
    ∙ ⊎_elim (λ e. rw e (pair-widths true x w v)) (λ e. rw e (pair-widths false x w v)) (two-place n a)

-- THE SAME-WIDTH OPERATORS give a vector of width w on two vectors of width w,
pub equal-widths : (n w : ℕ) → TwoPlace n → operated smt_lib n (bitvec w then bitvec w then end) ≡ sort (bitvec w)
equal-widths n w a = two-widths n w w a ∙ rw (eqb-self w) refl

-- and refuse vectors of unequal widths with 26.
pub unequal-widths : (n w v : ℕ) → TwoPlace n → (w ≡ v → ⊥) → operated smt_lib n (bitvec w then bitvec v then end) ≡ refused Misfit
unequal-widths n w v a d = two-widths n w v a ∙ rw (ne_eqb w v d) refl

-- 81 BvAnd, 82 BvOr, 83 BvAdd and 84 BvMul take two or more: the same width for all, and for the result.
unfoldable pub copies : ℕ → Sort → Sorts
copies zero s = end
copies (suc k) s = s then copies k s

pub copies-values : (k : ℕ) (w : ℕ) → values (copies k (bitvec w)) ≡ true
unfolding copies values
copies-values zero w = refl
copies-values (suc k) w = copies-values k w

pub copies-turned : (k w : ℕ) → apply_all (bind 0 (bitvec w) empty) (repeated x (copies k (bitvec w))) ≡ copies k (bitvec w)
unfolding copies repeated apply
copies-turned zero w = refl
copies-turned (suc k) w = ap (bitvec w then◌) (copies-turned k w)

pub many-widths : (n k w : ℕ) → 81 ≤ n → n ≤ 84 → operated smt_lib n (copies (2 + k) (bitvec w)) ≡ sort (bitvec w)
unfolding share copies stretched apply occurs rank_at
many-widths n k w a b =
    let θ = bind 0 (bitvec w) empty in
    let e : smt_lib n ≡ many ∷ [] = shared many 81 4 n refl a (omega arith) in
    let c : 2 + k ≡ suc (suc k) = omega arith in
    rw c ((accepted-smt_lib n (bitvec w then bitvec w then copies k (bitvec w)) (bitvec w)).1 (
      copies-values (suc (suc k)) w,
      record {
        place = 0;
        chosen = many;
        listed = rw e refl;
        fits = record {
          assignment = θ;
          turns = ap (λ (ts : Sorts). bitvec w then bitvec w then ts) (copies-turned k w);
          widths = λ q v o. (w, by_test (eqb 0 v) (λ z. rw z refl) (λ z. let y : false ≡ true = rw z at o in absurd (false≢true y)));
          result = refl;
        };
      },
    ))

-- 79 BvNot and 80 BvNeg give a vector of the width of their argument.
pub one_width : (n w : ℕ) → 79 ≤ n → n ≤ 80 → operated smt_lib n (bitvec w then end) ≡ sort (bitvec w)
unfolding share ranked apply
one_width n w a b =
    operated-ranked smt_lib n (bitvec w then end)
    ∙ rw (shared (rank false true (one x) x) 79 2 n refl a (omega arith), eqb-self w) refl

-- The comparisons 89 and 101 to 107 give Bool on equal widths, else 26.
pub compared : (n w v : ℕ) → ((n ≡ 89) ⊎ ((101 ≤ n) × (n ≤ 107))) → operated smt_lib n (bitvec w then bitvec v then end) ≡ need (eqb w v) Misfit (sort bool)
unfolding share apply
compared n w v a =
    let r = rank false true (two x) bool in
    let e : smt_lib n ≡ r ∷ [] =
    ⊎_elim (λ q. shared r 89 1 n refl (omega arith) (omega arith)) (λ q. shared r 101 7 n refl q.0 (omega arith)) a in
    operated-ranked smt_lib n (bitvec w then bitvec v then end)
    ∙ rw e (pair-widths false bool w v)

---------------------------------------------------------------- BvConcat and the indexed operators
-- BvConcat gives the sum of the widths.
pub concat-width : (w v : ℕ) → operated smt_lib 90 (bitvec w then bitvec v then end) ≡ sort (bitvec (w + v))
concat-width w v = (concat-accepted (bitvec w then bitvec v then end) (bitvec (w + v))).1 (w, v, refl, refl)

-- ZeroExtend (3) and SignExtend (4) by i give w + i.
pub checked-extend-width : (n w i : ℕ) → ((n ≡ 3) ⊎ (n ≡ 4)) → indexing n (some i ∷ []) (bitvec w then end) ≡ sort (bitvec (w + i))
unfolding indexing
checked-extend-width n w i (inl e) = rw (e, eqb-self w) refl
checked-extend-width n w i (inr e) = rw (e, eqb-self w) refl

-- The rotations (5, 6) keep the width, whatever the index.
pub rotate-width : (n w i : ℕ) → ((n ≡ 5) ⊎ (n ≡ 6)) → indexing n (some i ∷ []) (bitvec w then end) ≡ sort (bitvec w)
unfolding indexing
rotate-width n w i (inl e) = rw (e, eqb-self w) refl
rotate-width n w i (inr e) = rw (e, eqb-self w) refl

-- Repeat (7) gives i * w for i at least 1, and 25 for 0 whatever the argument.
pub checked-repeat-width : (w i : ℕ) → 1 ≤ i → indexing 7 (some i ∷ []) (bitvec w then end) ≡ sort (bitvec (i * w))
unfolding indexing
checked-repeat-width w i h = rw (lt-ltb 0 i (omega arith), eqb-self w) refl

pub repeat-none : (a : Sort) → indexing 7 (some 0 ∷ []) (a then end) ≡ refused Count
unfolding indexing
repeat-none a = refl

-- Extract i, j gives i - j + 1 exactly where j ≤ i < w, else 25.
pub extract-widths : (w i j : ℕ) → indexing 0 (some i ∷ some j ∷ []) (bitvec w then end) ≡ need (leb j i && ltb i w) Count (sort (bitvec (i - j + 1)))
unfolding indexing
extract-widths w i j = rw (eqb-self w, add-one (i - j)) refl

pub extract-accepted : (w i j : ℕ) (s : Sort) → indexing 0 (some i ∷ some j ∷ []) (bitvec w then end) ≡ sort s ↔ (j ≤ i) × (i < w) × (s ≡ bitvec (i - j + 1))
extract-accepted w i j s = (
  λ h. by_test (leb j i && ltb i w)
      (λ q. let z : sort (bitvec (i - j + 1)) ≡ sort s = sym (extract-widths w i j ∙ rw q refl) ∙ h in
      (leb-true j i (and_left (leb j i) (ltb i w) q), ltb-true i w (and_right (leb j i) (ltb i w) q), sym (sort-inj z)))
      (λ q. let z : refused Count ≡ sort s = sym (extract-widths w i j ∙ rw q refl) ∙ h in refused-sort z),
  λ g. let (a, b, e) = g in extract-widths w i j ∙ rw (le-leb j i a, lt-ltb i w b, e) refl,
)

pub extract-refused : (w i j : ℕ) → indexing 0 (some i ∷ some j ∷ []) (bitvec w then end) ≡ refused Count ↔ ((j ≤ i) × (i < w) → ⊥)
extract-refused w i j = (
  λ h g. let z : indexing 0 (some i ∷ some j ∷ []) (bitvec w then end) ≡ sort (bitvec (i - j + 1)) = extract-widths w i j ∙ rw (le-leb j i g.0, lt-ltb i w g.1) refl in sort-refused (sym z ∙ h),
  λ n. by_test (leb j i && ltb i w)
      (λ q. absurd (n (leb-true j i (and_left (leb j i) (ltb i w) q), ltb-true i w (and_right (leb j i) (ltb i w) q))))
      (λ q. extract-widths w i j ∙ rw q refl),
)

-- IntToBv (9) with an index n at least 1 gives n, and 25 for 0 whatever the argument.
pub int-width : (n : ℕ) → 1 ≤ n → indexing 9 (some n ∷ []) (int then end) ≡ sort (bitvec n)
unfolding indexing
int-width n h = rw (lt-ltb 0 n (omega arith)) refl

pub int-none : (a : Sort) → indexing 9 (some 0 ∷ []) (a then end) ≡ refused Count
unfolding indexing
int-none a = refl
