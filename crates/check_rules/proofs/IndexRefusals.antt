-- EVERY CAUSE 24 TO 28 OF THE CHECKED ROW OF A PARAMOP, exactly when it is given: one theorem for all twelve, over the number.
use Rattle.std.specs.Prelude.{ℕ, suc, ◌+◌, ◌*◌, ◌-◌, ◌≤◌, ◌<◌, ◌≡◌, ◌↔◌, ◌⊎◌, Bool, not, ◌&&◌, ◌||◌, leb, ltb}
use Rattle.std.proofs.Math.Path.{refl}
use Rattle.std.proofs.Common.{ap, inl, inr, ⊎_elim, arith, leb-true, le-leb, ltb-true, lt-ltb}
use Rattle.std.proofs.Math.Bool.{true, false, true≢false}
use mathlib.Core.List.{List, [], ◌∷◌}
use Rattle.std.proofs.Math.Option.{Option, none, some}
use Rattle.record.specs.Sort.{Sort, Sorts, end, ◌then◌, int, reglan, bitvec, number_in, count, same}
use Rattle.record.specs.SortLaws.{same-sound, same-complete, same_refl}
use Rattle.record.specs.Cases.{and_left, and_right, and-true, by_test}
use Rattle.row_rules.specs.Term.{Site}
use Rattle.check_rules.specs.Rank.{Rank, vector as is_vector}
use Rattle.check_rules.specs.RankLaws.{vector-is}
use Rattle.check_rules.specs.Checked.{indexed₁, indexed₂, indexed_on, indexing, checked}
use Rattle.check_rules.specs.Refusals.{Exactly, Indices, one, two, extract, Argument, integer, language, vector}
use Rattle.check_rules.proofs.RefusalLaws.{as-unranked, as-miscounted, tests, by_equal}

---------------------------------------------------------------- ParamOp
-- Indices are one or two integer constants.
no_index : {n : ℕ} {ts : Sorts} (is : List (Option ℕ)) → ((i : ℕ) → is ≡ some i ∷ [] → ⊥) → ((i j : ℕ) → is ≡ some i ∷ some j ∷ [] → ⊥) → Indices n is ts × (count ts ≡ 1) → ⊥
no_index is f g (one i a b e p, c) = f i e
no_index is f g (two i j a e, c) = g i j e
no_index is f g (extract i j a e p q, c) = g i j e

-- One index, of any size, or of 1 at least; for no other operator.
any-index : (n i : ℕ) (ts : Sorts) → 3 ≤ n → n ≤ 10 → ((n ≡ 7) ⊎ (n ≡ 9) → ⊥) → true ≡ true ↔ Indices n (some i ∷ []) ts
any-index n i ts a b d = (λ h. one i a b refl (λ p. absurd (d p)), λ h. refl)

some-index : (n i : ℕ) (ts : Sorts) → ((n ≡ 7) ⊎ (n ≡ 9)) → ltb 0 i ≡ true ↔ Indices n (some i ∷ []) ts
some-index n i ts c = (
  λ h. one i (⊎_elim (λ e. omega arith) (λ e. omega arith) c) (⊎_elim (λ e. omega arith) (λ e. omega arith) c) refl (λ p. ltb-true 0 i h),
  at_least,
)
  where
    at_least : Indices n (some i ∷ []) ts → ltb 0 i ≡ true
    at_least (one j a b e p) = let q : i ≡ j = cc in let r = p c in lt-ltb 0 i (omega arith)
    at_least (two j k a e) = let z : true ≡ false = cc in absurd (true≢false z)
    at_least (extract j k a e p q) = let z : true ≡ false = cc in absurd (true≢false z)

other-index : (n i : ℕ) (ts : Sorts) → (3 ≤ n → n ≤ 10 → ⊥) → Indices n (some i ∷ []) ts → ⊥
other-index n i ts d (one j a b e p) = d a b
other-index n i ts d (two j k a e) = let z : true ≡ false = cc in true≢false z
other-index n i ts d (extract j k a e p q) = let z : true ≡ false = cc in true≢false z

-- The argument.
a-vector : (n : ℕ) (a : Sort) → n < 9 → is_vector a ≡ true ↔ Argument n (a then end)
a-vector n a c = (λ h. vector (number_in a) c (ap (◌then end) (vector-is a h)), back)
  where
    back : Argument n (a then end) → is_vector a ≡ true
    back (integer e f) = absurd (omega arith)
    back (language l f) = absurd (omega arith)
    back (vector w l f) = let z : a ≡ bitvec w = cc in rw z (same_refl (bitvec w))

an_int : (n : ℕ) (a : Sort) → n ≡ 9 → same a int ≡ true ↔ Argument n (a then end)
an_int n a c = (λ h. integer c (ap (◌then end) (same-sound a int h)), back)
  where
    back : Argument n (a then end) → same a int ≡ true
    back (integer e f) = let z : a ≡ int = cc in same-complete a int z
    back (language l f) = absurd (omega arith)
    back (vector w l f) = absurd (omega arith)

a-language : (n : ℕ) (a : Sort) → 10 ≤ n → same a reglan ≡ true ↔ Argument n (a then end)
a-language n a c = (λ h. language c (ap (◌then end) (same-sound a reglan h)), back)
  where
    back : Argument n (a then end) → same a reglan ≡ true
    back (integer e f) = absurd (omega arith)
    back (language l f) = let z : a ≡ reglan = cc in same-complete a reglan z
    back (vector w l f) = absurd (omega arith)

-- Two indices: in range for 0 Extract, any for 11 ReLoop, for no other operator.
in-range : (n i j : ℕ) (a : Sort) → n ≡ 0 → (leb j i && (not (is_vector a) || ltb i (number_in a))) ≡ true ↔ Indices n (some i ∷ some j ∷ []) (a then end)
in-range n i j a c = (there, back)
  where
    there : (leb j i && (not (is_vector a) || ltb i (number_in a))) ≡ true → Indices n (some i ∷ some j ∷ []) (a then end)
    there h =
        let g : (not (is_vector a) || ltb i (number_in a)) ≡ true = and_right (leb j i) (not (is_vector a) || ltb i (number_in a)) h in
        extract i j c refl (leb-true j i (and_left (leb j i) (not (is_vector a) || ltb i (number_in a)) h))
        (λ w e. let z : a ≡ bitvec w = cc in
        let v : is_vector a ≡ true = rw z (same_refl (bitvec w)) in
        let l : ltb i (number_in a) ≡ true = rw v at g in
        let m : number_in a ≡ w = ap number_in z in
        let o = ltb-true i (number_in a) l in omega arith)

    back : Indices n (some i ∷ some j ∷ []) (a then end) → (leb j i && (not (is_vector a) || ltb i (number_in a))) ≡ true
    back (one k x y e p) = let z : true ≡ false = cc in absurd (true≢false z)
    back (two k l x e) = absurd (omega arith)
    back (extract k l x e p q) =
        let u : i ≡ k = cc in
        let v : j ≡ l = cc in
        and-true (leb j i) (not (is_vector a) || ltb i (number_in a)) (le-leb j i (omega arith))
        (by_test (is_vector a)
        (λ t. let m = q (number_in a) (ap (◌then end) (vector-is a t)) in rw t (lt-ltb i (number_in a) (omega arith)))
        (λ t. rw t refl))

other-indices : (n i j : ℕ) (ts : Sorts) → (n ≡ 0 → ⊥) → (n ≡ 11 → ⊥) → Indices n (some i ∷ some j ∷ []) ts → ⊥
other-indices n i j ts c d (one k x y e p) = let z : true ≡ false = cc in true≢false z
other-indices n i j ts c d (two k l x e) = d x
other-indices n i j ts c d (extract k l x e p q) = c x

-- Past a number that it is not; and none is left between two such numbers.
past : (n k : ℕ) → k ≤ n → (n ≡ k → ⊥) → k + 1 ≤ n
past n k a d = omega arith

none_left : (n k : ℕ) → k ≤ n → n ≤ k + 1 → (n ≡ k → ⊥) → (n ≡ k + 1 → ⊥) → ⊥
none_left n k a b c d = omega arith

-- With one argument.
alone : {q : Bool} {I : Type 0} (a : Sort) → (q ≡ true ↔ I) → q ≡ true ↔ I × (count (a then end) ≡ 1)
unfolding count
alone a h = (λ e. (h.0 e, refl), λ p. h.1 p.0)

module _ (n : ℕ) {A : Type 0} (ranked : A) (other : n ≡ 8 → ⊥) where
  one_way : (i : ℕ) (a : Sort)
      → Exactly (indexed₁ n i a) A Unit (Indices n (some i ∷ []) (a then end) × (count (a then end) ≡ 1)) (Argument n (a then end)) Unit
  one_way i a =
      let ts = a then end in
      let apart : (n ≡ 7 → ⊥) → (n ≡ 9 → ⊥) → (n ≡ 7) ⊎ (n ≡ 9) → ⊥ = λ d7 d9 c. ⊎_elim d7 d9 c in
      by_equal n 3
      (λ q e. tests true (is_vector a) (bitvec (number_in a + i)) (rw q refl) ranked _
      (alone a (any-index n i ts (omega arith) (omega arith) (apart (λ z. omega arith) (λ z. omega arith)))) (a-vector n a (omega arith)))
      (λ q3 d3. by_equal n 4
      (λ q e. tests true (is_vector a) (bitvec (number_in a + i)) (rw (q3, q) refl) ranked _
      (alone a (any-index n i ts (omega arith) (omega arith) (apart (λ z. omega arith) (λ z. omega arith)))) (a-vector n a (omega arith)))
      (λ q4 d4. by_equal n 5
      (λ q e. tests true (is_vector a) (bitvec (number_in a)) (rw (q3, q4, q) refl) ranked _
      (alone a (any-index n i ts (omega arith) (omega arith) (apart (λ z. omega arith) (λ z. omega arith)))) (a-vector n a (omega arith)))
      (λ q5 d5. by_equal n 6
      (λ q e. tests true (is_vector a) (bitvec (number_in a)) (rw (q3, q4, q5, q) refl) ranked _
      (alone a (any-index n i ts (omega arith) (omega arith) (apart (λ z. omega arith) (λ z. omega arith)))) (a-vector n a (omega arith)))
      (λ q6 d6. by_equal n 7
      (λ q e. tests (ltb 0 i) (is_vector a) (bitvec (i * number_in a)) (rw (q3, q4, q5, q6, q) refl) ranked _
      (alone a (some-index n i ts (inl e))) (a-vector n a (omega arith)))
      (λ q7 d7. by_equal n 9
      (λ q e. tests (ltb 0 i) (same a int) (bitvec i) (rw (q3, q4, q5, q6, q7, q) refl) ranked _
      (alone a (some-index n i ts (inr e))) (an_int n a e))
      (λ q9 d9. by_equal n 10
      (λ q e. tests true (same a reglan) reglan (rw (q3, q4, q5, q6, q7, q9, q) refl) ranked _
      (alone a (any-index n i ts (omega arith) (omega arith) (apart d7 d9))) (a-language n a (omega arith)))
      (λ q10 d10. as-miscounted (rw (q3, q4, q5, q6, q7, q9, q10) refl) ranked _
      (λ h. other-index n i ts
      (λ x y. none_left n 9 (past n 8 (past n 7 (past n 6 (past n 5 (past n 4 (past n 3 x d3) d4) d5) d6) d7) other) y d9 d10) h.0))))))))

  two-way : (i j : ℕ) (a : Sort)
      → Exactly (indexed₂ n i j a) A Unit (Indices n (some i ∷ some j ∷ []) (a then end) × (count (a then end) ≡ 1)) (Argument n (a then end)) Unit
  two-way i j a =
      let ts = a then end in
      by_equal n 0
      (λ q e. tests (leb j i && (not (is_vector a) || ltb i (number_in a))) (is_vector a) (bitvec (suc (i - j))) (rw q refl) ranked _
      (alone a (in-range n i j a e)) (a-vector n a (omega arith)))
      (λ q0 d0. by_equal n 11
      (λ q e. tests true (same a reglan) reglan (rw (q0, q) refl) ranked _ (alone a (λ h. two i j e refl, λ h. refl)) (a-language n a (omega arith)))
      (λ q11 d11. as-miscounted (rw (q0, q11) refl) ranked _ (λ h. other-indices n i j ts d0 d11 h.0)))

  index-way : (is : List (Option ℕ)) (ts : Sorts) → Exactly (indexed_on n is ts) A Unit (Indices n is ts × (count ts ≡ 1)) (Argument n ts) Unit
  unfolding count
  index-way is end = as-miscounted refl ranked _ (λ h. let z = h.1 in omega arith)
  index-way [] (a then end) = as-miscounted refl ranked _ (no_index [] (λ i e. let z : true ≡ false = cc in true≢false z) (λ i j e. let z : true ≡ false = cc in true≢false z))
  index-way (none ∷ is) (a then end) = as-miscounted refl ranked _ (no_index (none ∷ is) (λ i e. let z : true ≡ false = cc in true≢false z) (λ i j e. let z : true ≡ false = cc in true≢false z))
  index-way (some i ∷ []) (a then end) = one_way i a
  index-way (some i ∷ (none ∷ is)) (a then end) = as-miscounted refl ranked _ (no_index (some i ∷ (none ∷ is)) (λ i e. let z : true ≡ false = cc in true≢false z) (λ i j e. let z : true ≡ false = cc in true≢false z))
  index-way (some i ∷ (some j ∷ [])) (a then end) = two-way i j a
  index-way (some i ∷ (some j ∷ (k ∷ is))) (a then end) = as-miscounted refl ranked _ (no_index (some i ∷ (some j ∷ (k ∷ is))) (λ i e. let z : true ≡ false = cc in true≢false z) (λ i j e. let z : true ≡ false = cc in true≢false z))
  index-way is (a then (b then bs)) = as-miscounted refl ranked _ (λ h. let z = h.1 in omega arith)

-- A PARAMOP: 24 exactly for 1 BvBitOf, 2 BvIntOf and 8 BvConst; else 25 exactly where it has not one argument, or not its indices, each
-- an integer constant and in range; else 26 exactly where the argument is not of its sort. Never 28 or 27.
pub index-refusals : (R : ℕ → List Rank) (z : Site) → z.kind ≡ 11
    → Exactly (checked R z) ((z.number ≡ 1 → ⊥) × (z.number ≡ 2 → ⊥) × (z.number ≡ 8 → ⊥)) Unit
    (Indices z.number z.indices z.args × (count z.args ≡ 1)) (Argument z.number z.args) Unit
unfolding checked indexing
index-refusals R z k = rw k (
    by_equal z.number 1 (λ q e. as-unranked (rw q refl) (λ h. h.0 e))
    (λ q1 d1. by_equal z.number 2 (λ q e. as-unranked (rw (q1, q) refl) (λ h. h.1 e))
    (λ q2 d2. by_equal z.number 8 (λ q e. as-unranked (rw (q1, q2, q) refl) (λ h. h.2 e))
    (λ q8 d8. rw (q1, q2, q8) (index-way z.number (d1, d2, d8) d8 z.indices z.args))))
    )
