-- What the inferred sort is, stated over the width and over the columns: the group of nineteen, BvConcat, the indexed operators,
-- and the join of relations.
use Rattle.std.specs.Prelude.{ℕ, zero, suc, ◌+◌, ◌*◌, ◌-◌, ◌≤◌, ◌<◌, ◌≡◌, refl, Bool, true, false, cond, List, [], ◌∷◌}
use Rattle.std.proofs.Common.{ap, ◌∙◌, arith, zero-add, add-zero, le-leb}
use Rattle.std.proofs.Math.Option.{Option, some}
use Rattle.std.proofs.lemmas.Bool.{lt-leb}
use Rattle.record.specs.Sort.{Sort, Sorts, end, ◌then◌, bitvec, param_bit_vec, set, tuple}
use Rattle.row_rules.specs.declared.Cause.TheVariants.{Panics}
use Rattle.row_rules.specs.Verdict.{sort, refused}
use Rattle.row_rules.specs.Lists.{joined, appended}
use Rattle.infer_rules.specs.declared.Family.{Family}
use Rattle.infer_rules.specs.declared.Family.TheVariants.{Truth, Integer, Decimal, Text, Regular, Vector, OneBit, Bits, Constant, Concat, First, Second, Last, Sum, Element, RareList, Singleton, Tuple, UnitTuple, Transpose, Join, Product}
use Rattle.infer_rules.specs.Family.{family_of}
use Rattle.infer_rules.specs.Inferred.{concat_from, operated_by, indexed}
use Rattle.row_rules.proofs.ListLaws.{last-dropped}
use Rattle.infer_rules.proofs.WidthTheorems.{width_sum}

---------------------------------------------------------------- the group of nineteen
abbrev is_vector : Family → Bool
is_vector Truth = false
is_vector Integer = false
is_vector Decimal = false
is_vector Text = false
is_vector Regular = false
is_vector Vector = true
is_vector OneBit = false
is_vector Bits = false
is_vector Constant = false
is_vector Concat = false
is_vector First = false
is_vector Second = false
is_vector Last = false
is_vector Sum = false
is_vector Element = false
is_vector RareList = false
is_vector Singleton = false
is_vector Tuple = false
is_vector UnitTuple = false
is_vector Transpose = false
is_vector Join = false
is_vector Product = false

unfoldable vectors_from : ℕ → ℕ → List ℕ
unfolding family_of
vectors_from n zero = []
vectors_from n (suc k) = cond (is_vector (family_of n)) (n ∷ vectors_from (suc n) k) (vectors_from (suc n) k)

-- "The group of 19 that compute_sort lists from BvAdd to BvAShr", among all operators 0 to 134.
nineteen : vectors_from 0 135
    ≡ 79 ∷ 80 ∷ 81 ∷ 82 ∷ 83 ∷ 84 ∷ 85 ∷ 86 ∷ 87 ∷ 88 ∷ 91 ∷ 92 ∷ 93 ∷ 94 ∷ 96 ∷ 97 ∷ 98 ∷ 99 ∷ 100 ∷ []
unfolding vectors_from
nineteen = refl

-- Each takes the first vector of known width, whatever follows, and passes over those of unknown width.
pub first-known : (w : ℕ) (ss : Sorts) (cs : List (Option ℕ)) → operated_by Vector (bitvec w then ss) cs ≡ sort (bitvec w)
unfolding operated_by
first-known w ss cs = refl

pub first-unknown : (ss : Sorts) (cs : List (Option ℕ)) → operated_by Vector (param_bit_vec then ss) cs ≡ operated_by Vector ss cs
unfolding operated_by
first-unknown ss cs = refl

---------------------------------------------------------------- BvConcat
-- Vectors of these widths.
unfoldable pub vectors_of : List ℕ → Sorts
vectors_of [] = end
vectors_of (w ∷ ws) = bitvec w then vectors_of ws

concat-from : (u : ℕ) (ws : List ℕ) → concat_from u (vectors_of ws) ≡ sort (bitvec (u + width_sum (vectors_of ws)))
unfolding concat_from vectors_of width_sum
concat-from u [] = rw add-zero refl
concat-from u (w ∷ ws) =
    let z : u + w + width_sum (vectors_of ws) ≡ u + (w + width_sum (vectors_of ws)) = omega arith in
    concat-from (u + w) ws ∙ ap (λ (x : ℕ). sort (bitvec x)) z

-- BvConcat of any number of vectors has the sum of their widths.
pub concat-widths : (ws : List ℕ) (cs : List (Option ℕ)) → operated_by Concat (vectors_of ws) cs ≡ sort (bitvec (width_sum (vectors_of ws)))
unfolding operated_by
concat-widths ws cs = rw zero-add at (concat-from 0 ws)

---------------------------------------------------------------- indexed operators
-- Extract i, j: i - j + 1 where j is at most i, whatever the argument; else the Rust panics.
pub extract-width : (i j : ℕ) (is : List (Option ℕ)) (ss : Sorts) → j ≤ i → indexed 0 (some i ∷ some j ∷ is) ss ≡ sort (bitvec (suc (i - j)))
unfolding indexed
extract-width i j is ss h = rw (le-leb j i h) refl

pub extract-panics : (i j : ℕ) (is : List (Option ℕ)) (ss : Sorts) → i < j → indexed 0 (some i ∷ some j ∷ is) ss ≡ refused Panics
unfolding indexed
extract-panics i j is ss h = rw (lt-leb j i h) refl

-- ZeroExtend (3) and SignExtend (4) by i; Repeat (7) i times; IntToBv (9) to i bits.
pub extend-width : (i w : ℕ) (is : List (Option ℕ)) (ss : Sorts)
    → (indexed 3 (some i ∷ is) (bitvec w then ss) ≡ sort (bitvec (i + w))) × (indexed 4 (some i ∷ is) (bitvec w then ss) ≡ sort (bitvec (i + w)))
unfolding indexed
extend-width i w is ss = (refl, refl)

pub repeat-width : (i w : ℕ) (is : List (Option ℕ)) (ss : Sorts) → indexed 7 (some i ∷ is) (bitvec w then ss) ≡ sort (bitvec (i * w))
unfolding indexed
repeat-width i w is ss = refl

pub convert-width : (i : ℕ) (is : List (Option ℕ)) (ss : Sorts) → indexed 9 (some i ∷ is) ss ≡ sort (bitvec i)
unfolding indexed
convert-width i is ss = refl

---------------------------------------------------------------- RelJoin
-- The join of two relations drops the shared column from both: the last of the left side, the first of the right side.
pub join-columns : (xs ys : Sorts) (x y : Sort) (ss : Sorts) (cs : List (Option ℕ))
    → operated_by Join (set (tuple (joined xs x)) then set (tuple (y then ys)) then ss) cs ≡ sort (set (tuple (appended xs ys)))
unfolding operated_by
join-columns xs ys x y ss cs = rw (last-dropped xs x) refl
