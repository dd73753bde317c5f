-- INFERRED WIDTHS for every list of arguments and indices, with the cases of an unknown width and of a panic: the nineteen, BvConcat,
-- BvBbTerm, BvConst, the extensions, Repeat, IntToBv and Extract.
use Rattle.std.specs.Prelude.{ℕ, suc, ◌+◌, ◌*◌, ◌-◌, ◌≤◌, ◌<◌, ◌≡◌, refl, ◌⊎◌, true, cond, List, [], ◌∷◌, length, get_or, eqb, leb}
use Rattle.std.proofs.Common.{sym, inl, inr, ⊎_elim, zero-add, add-zero}
use Rattle.std.proofs.Math.Option.{Option, none, some}
use native.Mathlib.Omega.{arith}
use borrow.Author.Tests.{eqb-true, eqb-false, leb-true, leb-false}
use Rattle.record.specs.Sort.{Sort, Sorts, end, ◌then◌, bitvec, kind_of, number_in, count}
use Rattle.record.specs.Cases.{by_test, none-some, some_inj}
use Rattle.substitution.specs.MatchWith.{is_bit_vec}
use Rattle.row_rules.specs.Verdict.{sort}
use Rattle.infer_rules.specs.declared.Family.TheVariants.{Vector}
use Rattle.infer_rules.specs.Family.{family_of}
use Rattle.infer_rules.specs.Inferred.{has_width, first_vector, concat_unknown, concat_from, constant_width, operated_by, resized, width_of, extracted, indexed}
use Rattle.infer_rules.proofs.PanicLaws.{WidthWhen, Behind, Some, KnownWidth, Unknown, Other, bad-width, unclear, wide, width-said, by_width, known-bitvec}

---------------------------------------------------------------- the nineteen
-- The first vector of known width; where there is none, any.
unfoldable pub first_known : Sorts → Sort
first_known end = bitvec 0
first_known (s then ss) = cond (has_width s) s (first_known ss)

first_known-kind : (ss : Sorts) → kind_of (first_known ss) ≡ 9
unfolding first_known
first_known-kind end = refl
first_known-kind (s then ss) = by_test (has_width s) (λ q. rw q (eqb-true (kind_of s) 9 q)) (λ q. rw q (first_known-kind ss))

pub nineteen-way : (ss : Sorts) → WidthWhen (first_vector ss) (Behind Unknown Other ss) (Some KnownWidth ss → ⊥) (first_known ss)
unfolding first_vector first_known
nineteen-way end = unclear refl refl (λ h. h) (λ h. h)
nineteen-way (s then ss) =
    by_width s
    (λ q k. rw q (wide (eqb-true (kind_of s) 9 q) refl (⊎_elim (λ o. o.0 k) (λ o. let z = o.0 in omega arith)) (λ n. n (inl k))))
    (λ q u b k. rw (q, u) (
    width-said (first_known-kind ss) (nineteen-way ss) (λ p. inr (k, p)) (⊎_elim (λ o. absurd (o.1 k)) (λ o. o.1))
    (λ n. ⊎_elim (λ z. omega arith) (λ o. n o.1)) (λ n x. n (inr (_, x)))
    ))
    (λ q u b o. bad-width (rw (q, u) refl) (inl o))

-- THE NINETEEN panic exactly where another sort is met before a vector of known width; else their width is unknown exactly where there is
-- no vector of known width, and elsewhere their sort is the first of these.
pub nineteen-exactly : (n : ℕ) (ss : Sorts) (cs : List (Option ℕ)) → family_of n ≡ Vector
    → WidthWhen (operated_by (family_of n) ss cs) (Behind Unknown Other ss) (Some KnownWidth ss → ⊥) (first_known ss)
unfolding operated_by
nineteen-exactly n ss cs f = rw f (nineteen-way ss)

---------------------------------------------------------------- BvConcat
-- The sum of the widths.
unfoldable pub width_sum : Sorts → ℕ
width_sum end = 0
width_sum (s then ss) = number_in s + width_sum ss

unknown-way : (w : ℕ) (ss : Sorts) → WidthWhen (concat_unknown ss) (Some Other ss) Unit (bitvec w)
unfolding concat_unknown
unknown-way w end = unclear refl refl (λ h. h) _
unknown-way w (s then ss) =
    by_width s
    (λ q k. step (known-bitvec s k) (λ o. o.0 k) (unknown-way w ss))
    (λ q u b k. step b (λ o. o.1 k) (unknown-way w ss))
    (λ q u b o. bad-width (rw b refl) (inl o))
  where
    step : is_bit_vec s ≡ true → (Other s → ⊥) → WidthWhen (concat_unknown ss) (Some Other ss) Unit (bitvec w)
        → WidthWhen (concat_unknown (s then ss)) (Some Other (s then ss)) Unit (bitvec w)
    step b d W = rw b (width-said refl W (λ p. inr (_, p)) (⊎_elim (λ o. absurd (d o)) (λ o. o.1)) (λ u. u) (λ u. u))

pub concat-way : (w : ℕ) (ss : Sorts) → WidthWhen (concat_from w ss) (Some Other ss) (Some Unknown ss) (bitvec (w + width_sum ss))
unfolding concat_from width_sum
concat-way w end = wide refl (rw add-zero refl) (λ h. h) (λ h. h)
concat-way w (s then ss) =
    by_width s
    (λ q k. let z : w + (number_in s + width_sum ss) ≡ w + number_in s + width_sum ss = omega arith in
    rw (q, z) (width-said refl (concat-way (w + number_in s) ss) (λ p. inr (_, p)) (⊎_elim (λ o. absurd (o.0 k)) (λ o. o.1)) (λ u. inr (_, u)) (⊎_elim (λ y. absurd (omega (arith, k, y))) (λ o. o.1))))
    (λ q u b k. rw (q, u) (width-said refl (unknown-way (w + width_sum (s then ss)) ss) (λ p. inr (_, p)) (⊎_elim (λ o. absurd (o.1 k)) (λ o. o.1)) (λ x. inl k) (λ x. _)))
    (λ q u b o. bad-width (rw (q, u) refl) (inl o))

-- BVCONCAT (90) panics exactly where some argument is no vector; else its width is unknown exactly where that of some argument is, and
-- elsewhere the sum of all.
pub concat-exactly : (ss : Sorts) (cs : List (Option ℕ)) → WidthWhen (operated_by (family_of 90) ss cs) (Some Other ss) (Some Unknown ss) (bitvec (width_sum ss))
unfolding operated_by family_of
concat-exactly ss cs = rw (zero-add (width_sum ss)) at (concat-way 0 ss)

---------------------------------------------------------------- BvBbTerm and BvConst
-- BVPBBTERM AND BVBBTERM (110, 111) never panic: a vector of as many bits as there are arguments.
pub bits-exactly : (n : ℕ) (ss : Sorts) (cs : List (Option ℕ)) → 110 ≤ n → n ≤ 111 → operated_by (family_of n) ss cs ≡ sort (bitvec (count ss))
unfolding operated_by
bits-exactly n ss cs a b = by_test (eqb n 110) (λ q. rw (eqb-true n 110 q) (unfold family_of in refl)) (λ q. let d = eqb-false n 110 q in let e : n ≡ 111 = omega arith in rw e (unfold family_of in refl))

-- The number of an integer constant; 0 where it is none.
abbrev pub or_zero : Option ℕ → ℕ
or_zero none = 0
or_zero (some w) = w

pub const-way : (cs : List (Option ℕ)) → WidthWhen (constant_width cs) (length cs < 2) (get_or cs 1 none ≡ none) (bitvec (or_zero (get_or cs 1 none)))
const-way [] = bad-width refl (omega arith)
const-way (c ∷ []) = bad-width refl (omega arith)
const-way (c ∷ (none ∷ cs)) = unclear refl refl (λ h. omega arith) refl
const-way (c ∷ (some w ∷ cs)) = wide refl refl (λ h. omega arith) (λ e. none-some (sym e))

-- BVCONST (112) panics exactly with fewer than two arguments; else its width is unknown exactly where the second is no integer constant,
-- and elsewhere that number.
pub const-exactly : (ss : Sorts) (cs : List (Option ℕ))
    → WidthWhen (operated_by (family_of 112) ss cs) (length cs < 2) (get_or cs 1 none ≡ none) (bitvec (or_zero (get_or cs 1 none)))
unfolding operated_by family_of
const-exactly ss cs = const-way cs

---------------------------------------------------------------- indexed operators
-- The first argument.
abbrev pub first_in : Sorts → Sort
first_in end = bitvec 0
first_in (s then ss) = s

-- No index; or the first is an integer constant, and there is no argument or the first is no vector.
abbrev pub Unsized : List (Option ℕ) → Sorts → Type 0
Unsized is ss = (length is ≡ 0) ⊎ (((i : ℕ) × (get_or is 0 none ≡ some i)) × ((count ss ≡ 0) ⊎ Other (first_in ss)))

resized-way : (f : ℕ → ℕ → ℕ) (is : List (Option ℕ)) (ss : Sorts)
    → WidthWhen (resized f is ss) (Unsized is ss) ((get_or is 0 none ≡ none) ⊎ Unknown (first_in ss)) (bitvec (f (or_zero (get_or is 0 none)) (number_in (first_in ss))))
unfolding count
resized-way f [] ss = bad-width refl (inl refl)
resized-way f (none ∷ is) ss = unclear refl refl (⊎_elim (λ h. omega arith) (λ h. let (i, e) = h.0 in none-some e)) (inl refl)
resized-way f (some i ∷ is) end = bad-width refl (inr ((i, refl), inl refl))
resized-way f (some i ∷ is) (s then ss) =
    by_width s
    (λ q k. wide refl (rw q refl) (⊎_elim (λ h. omega arith) (λ h. ⊎_elim (λ z. omega arith) (λ o. o.0 k) h.1))
    (⊎_elim (λ e. none-some (sym e)) (λ z. omega arith)))
    (λ q u b k. unclear refl (rw (q, u) refl) (⊎_elim (λ h. omega arith) (λ h. ⊎_elim (λ z. omega arith) (λ o. o.1 k) h.1)) (inr k))
    (λ q u b o. bad-width (rw (q, u) refl) (inr ((i, refl), inr o)))

-- ZEROEXTEND AND SIGNEXTEND (3, 4) panic exactly without an index, or with an integer constant for index and no vector as first argument;
-- else the width is unknown exactly where the index is no integer constant or the vector's width is unknown, and elsewhere the sum.
pub extend-exactly : (n : ℕ) (is : List (Option ℕ)) (ss : Sorts) → ((n ≡ 3) ⊎ (n ≡ 4))
    → WidthWhen (indexed n is ss) (Unsized is ss) ((get_or is 0 none ≡ none) ⊎ Unknown (first_in ss)) (bitvec (or_zero (get_or is 0 none) + number_in (first_in ss)))
unfolding indexed
extend-exactly n is ss (inl e) = rw e (resized-way (λ i w. i + w) is ss)
extend-exactly n is ss (inr e) = rw e (resized-way (λ i w. i + w) is ss)

-- REPEAT (7) the same, with the product.
pub repeat-exactly : (is : List (Option ℕ)) (ss : Sorts)
    → WidthWhen (indexed 7 is ss) (Unsized is ss) ((get_or is 0 none ≡ none) ⊎ Unknown (first_in ss)) (bitvec (or_zero (get_or is 0 none) * number_in (first_in ss)))
unfolding indexed
repeat-exactly is ss = resized-way (λ i w. i * w) is ss

-- INTTOBV (9) panics exactly without an index; else its width is unknown exactly where the index is no integer constant, and elsewhere
-- that number.
pub convert-exactly : (is : List (Option ℕ)) (ss : Sorts) → WidthWhen (indexed 9 is ss) (length is ≡ 0) (get_or is 0 none ≡ none) (bitvec (or_zero (get_or is 0 none)))
unfolding indexed
convert-exactly is ss = way is
  where
    way : (is : List (Option ℕ)) → WidthWhen (width_of is) (length is ≡ 0) (get_or is 0 none ≡ none) (bitvec (or_zero (get_or is 0 none)))
    way [] = bad-width refl refl
    way (none ∷ is) = unclear refl refl (λ h. omega arith) refl
    way (some w ∷ is) = wide refl refl (λ h. omega arith) (λ e. none-some (sym e))

extract-way : (is : List (Option ℕ))
    → WidthWhen (extracted is)
    ((length is ≡ 0) ⊎ ((i : ℕ) × (get_or is 0 none ≡ some i) × ((length is ≡ 1) ⊎ ((j : ℕ) × (get_or is 1 none ≡ some j) × (i < j)))))
    ((get_or is 0 none ≡ none) ⊎ (get_or is 1 none ≡ none)) (bitvec (suc (or_zero (get_or is 0 none) - or_zero (get_or is 1 none))))
extract-way [] = bad-width refl (inl refl)
extract-way (none ∷ is) = unclear refl refl (⊎_elim (λ h. omega arith) (λ h. let (i, e, x) = h in none-some e)) (inl refl)
extract-way (some i ∷ []) = bad-width refl (inr (i, refl, inl refl))
extract-way (some i ∷ (none ∷ is)) =
    unclear refl refl (⊎_elim (λ h. omega arith) (λ h. let (k, e, x) = h in ⊎_elim (λ z. omega arith) (λ y. let (j, f, l) = y in none-some f) x)) (inr refl)
extract-way (some i ∷ (some j ∷ is)) =
    by_test (leb j i)
    (λ q. let a = leb-true j i q in
    wide refl (rw q refl)
    (⊎_elim (λ h. omega arith) (λ h. let (k, e, x) = h in ⊎_elim (λ z. omega arith)
    (λ y. let (m, f, l) = y in let u = some_inj e in let v = some_inj f in omega arith) x))
    (⊎_elim (λ e. none-some (sym e)) (λ e. none-some (sym e))))
    (λ q. let a = leb-false j i q in bad-width (rw q refl) (inr (i, refl, inr (j, refl, omega arith))))

-- EXTRACT i, j (0) panics exactly without an index, without a second one behind an integer constant, or where j is larger than i; else its
-- width is unknown exactly where one of the two is no integer constant, and elsewhere i - j + 1. The argument is not looked at.
pub extract-exactly : (is : List (Option ℕ)) (ss : Sorts)
    → WidthWhen (indexed 0 is ss)
    ((length is ≡ 0) ⊎ ((i : ℕ) × (get_or is 0 none ≡ some i) × ((length is ≡ 1) ⊎ ((j : ℕ) × (get_or is 1 none ≡ some j) × (i < j)))))
    ((get_or is 0 none ≡ none) ⊎ (get_or is 1 none ≡ none)) (bitvec (suc (or_zero (get_or is 0 none) - or_zero (get_or is 1 none))))
unfolding indexed
extract-exactly is ss = extract-way is
