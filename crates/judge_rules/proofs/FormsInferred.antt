-- WHAT A FORM GIVES, THE INFERRED SORT IS: where a form of the checked row computes a sort, the family of the inferred row answers the same,
-- so the program may build the answer as it does for the inferred row, and the store already holds it.
use Rattle.std.specs.Prelude.{ℕ, zero, suc, ◌+◌, ◌≡◌, refl, List}
use Rattle.std.proofs.Common.{sym, ap, ◌∙◌, arith}
use Rattle.std.proofs.Math.Option.{Option}
use Rattle.record.specs.Sort.{Sort, Sorts, end, ◌then◌, bitvec, set, tuple}
use Rattle.row_rules.specs.Lists.{last_of, joined, appended}
use Rattle.row_rules.specs.Verdict.{sort}
use Rattle.infer_rules.specs.declared.Family.TheVariants.{Concat, Last, Tuple, Transpose, Join, Product}
use Rattle.infer_rules.specs.Inferred.{operated_by, backwards}
use Rattle.infer_rules.proofs.Facts.{join-columns}
use Rattle.check_rules.specs.Forms.{concat, insert, tupling, transpose, join, product, times, Computes, backwards as reversed}

-- 90 BvConcat: the sum of the widths.
pub concat-inferred : (ts : Sorts) (s : Sort) (cs : List (Option ℕ)) → Computes concat ts s → operated_by Concat ts cs ≡ sort s
unfolding operated_by
concat-inferred ts s cs h =
    let (i, j, e, r) = h in let z : 0 + i + j ≡ i + j = omega arith in rw (e, r) (ap (λ (w : ℕ). sort (bitvec w)) z)

-- The last of elements and their set is the set.
pub times-last : (n : ℕ) (y x l : Sort) → last_of y (times n x l) ≡ l
unfolding times last_of
times-last zero y x l = refl
times-last (suc n) y x l = times-last n x x l

-- 127 SetInsert: the set, which stands last.
pub insert-inferred : (ts : Sorts) (s : Sort) (cs : List (Option ℕ)) → Computes insert ts s → operated_by Last ts cs ≡ sort s
unfolding operated_by times
insert-inferred ts s cs h = let (x, n, e, r) = h in rw (e, r) (ap sort (times-last n x x (set x)))

-- 129 Tuple: the tuple of the arguments.
pub tuple-inferred : (ts : Sorts) (s : Sort) (cs : List (Option ℕ)) → Computes tupling ts s → operated_by Tuple ts cs ≡ sort s
unfolding operated_by
tuple-inferred ts s cs h = let (a, as', e, r) = h in ap sort (sym r)

-- Turning a list round, entry by entry or onto another list.
pub joined-appended : (ss : Sorts) (c : Sort) (ts : Sorts) → appended (joined ss c) ts ≡ appended ss (c then ts)
unfolding joined appended
joined-appended end c ts = refl
joined-appended (s then ss) c ts = ap (s then◌) (joined-appended ss c ts)

pub appended-end : (ss : Sorts) → appended ss end ≡ ss
unfolding appended
appended-end end = refl
appended-end (s then ss) = ap (s then◌) (appended-end ss)

pub backwards-onto : (ss ts : Sorts) → backwards ss ts ≡ appended (reversed ss) ts
unfolding backwards reversed appended
backwards-onto end ts = refl
backwards-onto (s then ss) ts = backwards-onto ss (s then ts) ∙ sym (joined-appended (reversed ss) s ts)

-- 131 RelTranspose: the columns backwards.
pub transpose-inferred : (ts : Sorts) (s : Sort) (cs : List (Option ℕ)) → Computes transpose ts s → operated_by Transpose ts cs ≡ sort s
unfolding operated_by
transpose-inferred ts s cs h =
    let (ds, e, r) = h in
    rw (e, r) (ap (λ (us : Sorts). sort (set (tuple us))) (backwards-onto ds end ∙ appended-end (reversed ds)))

-- 133 RelJoin: the column that touches is in neither list, as the join of the inferred row has it.
pub join-inferred : (ts : Sorts) (s : Sort) (cs : List (Option ℕ)) → Computes join ts s → operated_by Join ts cs ≡ sort s
join-inferred ts s cs h = let (as', c, bs, e, r) = h in rw (e, r) (join-columns as' bs c c end cs)

-- 134 RelProduct: the columns of both.
pub product-inferred : (ts : Sorts) (s : Sort) (cs : List (Option ℕ)) → Computes product ts s → operated_by Product ts cs ≡ sort s
unfolding operated_by
product-inferred ts s cs h = let (as', bs, e, r) = h in rw (e, r) refl
