-- THE INFERRED SORT OF A RECORD HAS NO PAR where no sort that the record names has one: what each rule answers is a part of an
-- argument, made of such parts, or without any.
use Rattle.std.specs.Prelude.{ℕ, ◌+◌, ◌*◌, ◌≡◌, refl, true, ◌&&◌, ◌||◌, List, [], ◌∷◌, eqb, leb}
use Rattle.std.proofs.lemmas.Bool.{false≢true}
use Rattle.std.proofs.Math.Option.{Option, none, some}
use Rattle.record.specs.Sort.{Sorts, Sort, var, par, node, end, ◌then◌, number_in, count}
use Rattle.record.specs.Cases.{and_left, conj, and-true, by_test}
use Rattle.sheet.specs.Sheet.{Binding}
use Rattle.substitution.specs.Premises.{parless, parless_all}
use Rattle.substitution.specs.MatchWith.{is_param_bit_vec, is_bit_vec}
use Rattle.row_rules.specs.declared.Cause.TheVariants.{Panics}
use Rattle.row_rules.specs.Verdict.{Verdict, sort}
use Rattle.row_rules.specs.Lists.{others, remaining, appended, binding_sorts, all_but_last}
use Rattle.row_rules.specs.Term.{Site}
use Rattle.row_rules.specs.Parless.{ParlessVerdict, ParlessSite}
use Rattle.row_rules.proofs.ParlessLaws.{parless-cond, parless-need, parless-others, parless-remaining, parless-last, parless-joined, parless-appended}
use Rattle.infer_rules.specs.declared.Family.{Family}
use Rattle.infer_rules.specs.declared.Family.TheVariants.{Truth, Integer, Decimal, Text, Regular, Vector, OneBit, Bits, Constant, Concat, First, Second, Last, Sum, Element, RareList, Singleton, Tuple, UnitTuple, Transpose, Join, Product}
use Rattle.infer_rules.specs.Family.{family_of}
use Rattle.infer_rules.specs.Inferred.{has_width, first_vector, concat_unknown, concat_from, first_of, second_of, final_of, constant_width, some_real, sum_of, rare_of, columns, over_columns, over_both, relation, backwards}
use Rattle.infer_rules.specs.Inferred.{join_of, product_of, transpose_of, selected, singleton_of, operated_by, plain_app, inferred_app, chosen, inferred_lambda, inferred_binder, matched, extracted, resized, width_of, indexed, inferred}

---------------------------------------------------------------- operators
vector-parless : (ss : Sorts) → parless_all ss ≡ true → ParlessVerdict (first_vector ss)
unfolding first_vector parless
vector-parless end h = refl
vector-parless (s then ss) h =
    parless-cond (has_width s) _ _ (and_left (parless s) (parless_all ss) h) (parless-cond (is_param_bit_vec s) _ _ (vector-parless ss (search conj)) tt)

unknown-parless : (ss : Sorts) → ParlessVerdict (concat_unknown ss)
unfolding concat_unknown parless
unknown-parless end = refl
unknown-parless (s then ss) = parless-cond (is_bit_vec s) _ _ (unknown-parless ss) tt

concat-parless : (w : ℕ) (ss : Sorts) → ParlessVerdict (concat_from w ss)
unfolding concat_from parless
concat-parless w end = refl
concat-parless w (s then ss) =
    parless-cond (has_width s) _ _ (concat-parless (w + number_in s) ss) (parless-cond (is_param_bit_vec s) _ _ (unknown-parless ss) tt)

final-parless : (ss : Sorts) → parless_all ss ≡ true → ParlessVerdict (final_of ss)
final-parless end h = tt
final-parless (s then ss) h = parless-last s ss h

first-parless : (ss : Sorts) → parless_all ss ≡ true → ParlessVerdict (first_of ss)
unfolding parless
first-parless end h = tt
first-parless (s then ss) h = and_left (parless s) (parless_all ss) h

second-parless : (ss : Sorts) → parless_all ss ≡ true → ParlessVerdict (second_of ss)
unfolding parless
second-parless end h = tt
second-parless (s then end) h = tt
second-parless (s then (t then ss)) h = and_left (parless t) (parless_all ss) (search conj)

constant-parless : (cs : List (Option ℕ)) → ParlessVerdict (constant_width cs)
unfolding parless
constant-parless [] = tt
constant-parless (c ∷ []) = tt
constant-parless (c ∷ (none ∷ cs)) = refl
constant-parless (c ∷ (some w ∷ cs)) = refl

sum-parless : (ss : Sorts) → ParlessVerdict (sum_of (some_real ss))
unfolding parless
sum-parless ss = by_test (some_real ss) (λ q. rw q refl) (λ q. rw q refl)

element-parless : (ss : Sorts) → parless_all ss ≡ true → ParlessVerdict (selected ss)
unfolding parless
element-parless end h = tt
element-parless (var v then ss) h = tt
element-parless (par ns b then ss) h = tt
element-parless (node k a w end then ss) h = tt
element-parless (node k a w (x then end) then ss) h = tt
element-parless (node k a w (x then (y then ys)) then ss) h = parless-cond (eqb k 8) _ _ (and_left (parless y) (parless_all ys) (search conj)) tt

rare-parless : (ss : Sorts) → parless_all ss ≡ true → ParlessVerdict (rare_of ss)
unfolding parless
rare-parless end h = refl
rare-parless (s then ss) h = and_left (parless s) (parless_all ss) h

singleton-parless : (ss : Sorts) → parless_all ss ≡ true → ParlessVerdict (singleton_of ss)
unfolding parless
singleton-parless end h = tt
singleton-parless (s then ss) h = and-true (parless s) true (search conj) refl

---------------------------------------------------------------- relations
backwards-parless : (ss ts : Sorts) → parless_all ss ≡ true → parless_all ts ≡ true → parless_all (backwards ss ts) ≡ true
unfolding backwards parless
backwards-parless end ts h k = k
backwards-parless (s then ss) ts h k = backwards-parless ss (s then ts) (search conj) (and-true (parless s) (parless_all ts) (search conj) k)

most-parless : (ss : Sorts) → parless_all ss ≡ true → parless_all (all_but_last ss) ≡ true
unfolding all_but_last parless
most-parless end h = refl
most-parless (s then end) h = refl
most-parless (s then (r then rs)) h =
    and-true (parless s) (parless_all (all_but_last (r then rs))) (search conj) (most-parless (r then rs) (search conj))

-- A verdict that is such on such columns is such over the columns of a sort.
over-parless : (f : Sorts → Verdict) → ((cs : Sorts) → parless_all cs ≡ true → ParlessVerdict (f cs)) → (s : Sort) → parless s ≡ true
    → ParlessVerdict (over_columns f (columns s))
unfolding parless
over-parless f g (var v) h = tt
over-parless f g (par ns b) h = tt
over-parless f g (node k a w end) h = tt
over-parless f g (node k a w (var v then ss)) h = tt
over-parless f g (node k a w (par ns b then ss)) h = tt
over-parless f g (node k a w (node l c x cs then ss)) h =
    by_test (eqb k 14 && eqb l 15) (λ q. rw q (g cs (and_left (parless_all cs) (parless_all ss) h))) (λ q. rw q tt)

both-parless : (f : Sorts → Sorts → Verdict) → ((xs ys : Sorts) → parless_all xs ≡ true → parless_all ys ≡ true → ParlessVerdict (f xs ys)) → (ss : Sorts) → parless_all ss ≡ true
    → ParlessVerdict (over_both f ss)
unfolding parless
both-parless f g end h = tt
both-parless f g (a then end) h = tt
both-parless f g (a then (b then ss)) h =
    over-parless (λ xs. over_columns (λ ys. f xs ys) (columns b)) (λ xs k. over-parless (λ ys. f xs ys) (λ ys l. g xs ys k l) b (and_left (parless b) (parless_all ss) (search conj))) a (search conj)

relation-parless : (cs : Sorts) → parless_all cs ≡ true → ParlessVerdict (relation cs)
unfolding parless
relation-parless cs h = and-true (parless_all cs) true h refl

join-parless : (xs ys : Sorts) → parless_all xs ≡ true → parless_all ys ≡ true → ParlessVerdict (join_of xs ys)
unfolding parless
join-parless xs end h k = tt
join-parless xs (y then ys) h k = relation-parless (appended (all_but_last xs) ys) (parless-appended (all_but_last xs) ys (most-parless xs h) (search conj))

product-parless : (xs ys : Sorts) → parless_all xs ≡ true → parless_all ys ≡ true → ParlessVerdict (product_of xs ys)
product-parless xs ys h k = relation-parless (appended xs ys) (parless-appended xs ys h k)

transpose-parless : (ss : Sorts) → parless_all ss ≡ true → ParlessVerdict (transpose_of ss)
unfolding parless
transpose-parless end h = tt
transpose-parless (a then ss) h =
    over-parless (λ xs. relation (backwards xs end)) (λ xs k. relation-parless (backwards xs end) (backwards-parless xs end k refl)) a (search conj)

operated-parless : (f : Family) (ss : Sorts) (cs : List (Option ℕ)) → parless_all ss ≡ true → ParlessVerdict (operated_by f ss cs)
unfolding operated_by parless
operated-parless Truth ss cs h = refl
operated-parless Integer ss cs h = refl
operated-parless Decimal ss cs h = refl
operated-parless Text ss cs h = refl
operated-parless Regular ss cs h = refl
operated-parless Vector ss cs h = vector-parless ss h
operated-parless OneBit ss cs h = refl
operated-parless Bits ss cs h = refl
operated-parless Constant ss cs h = constant-parless cs
operated-parless Concat ss cs h = concat-parless 0 ss
operated-parless First ss cs h = first-parless ss h
operated-parless Second ss cs h = second-parless ss h
operated-parless Last ss cs h = final-parless ss h
operated-parless Sum ss cs h = sum-parless ss
operated-parless Element ss cs h = element-parless ss h
operated-parless RareList ss cs h = rare-parless ss h
operated-parless Singleton ss cs h = singleton-parless ss h
operated-parless Tuple ss cs h = h
operated-parless UnitTuple ss cs h = refl
operated-parless Transpose ss cs h = transpose-parless ss h
operated-parless Join ss cs h = both-parless join_of join-parless ss h
operated-parless Product ss cs h = both-parless product_of product-parless ss h

---------------------------------------------------------------- App, binders, Match, indexed operators
-- A head without a Par is plain, and its answer a part of its list.
applied-parless : (ss : Sorts) → parless_all ss ≡ true → ParlessVerdict (inferred_app ss)
unfolding parless plain_app
applied-parless end h = tt
applied-parless (var v then ts) h = tt
applied-parless (par ns b then ts) h = absurd (false≢true h)
applied-parless (node k a w ss then ts) h =
    parless-cond (eqb k 0) _ _
    (parless-need (leb (count ts) (count ss)) Panics (sort (remaining (others ss ts)))
    (parless-remaining (others ss ts) (parless-others ss ts (and_left (parless_all ss) (parless_all ts) h))))
    tt

chosen-parless : (bs : List Binding) → parless_all (binding_sorts bs) ≡ true → ParlessVerdict (chosen bs)
unfolding binding_sorts parless
chosen-parless [] h = tt
chosen-parless (b ∷ bs) h = and_left (parless b.sort) (parless_all (binding_sorts bs)) h

lambda-parless : (bs : List Binding) (ss : Sorts) → parless_all (binding_sorts bs) ≡ true → parless_all ss ≡ true → ParlessVerdict (inferred_lambda bs ss)
unfolding parless
lambda-parless bs end h k = tt
lambda-parless bs (b then ss) h k = parless-joined (binding_sorts bs) b h (and_left (parless b) (parless_all ss) k)

bound-parless : (n : ℕ) (bs : List Binding) (ss : Sorts) → parless_all (binding_sorts bs) ≡ true → parless_all ss ≡ true → ParlessVerdict (inferred_binder n bs ss)
unfolding inferred_binder parless
bound-parless n bs ss h k =
    parless-cond (eqb n 3) _ _ (lambda-parless bs ss h k) (parless-cond (eqb n 2) _ _ (chosen-parless bs h) refl)

matched-parless : (ss : Sorts) → parless_all ss ≡ true → ParlessVerdict (matched ss)
unfolding parless
matched-parless end h = tt
matched-parless (s then ss) h = final-parless ss (search conj)

extracted-parless : (is : List (Option ℕ)) → ParlessVerdict (extracted is)
unfolding parless
extracted-parless [] = tt
extracted-parless (none ∷ is) = refl
extracted-parless (some i ∷ []) = tt
extracted-parless (some i ∷ (none ∷ is)) = refl
extracted-parless (some i ∷ (some j ∷ is)) = parless-need (leb j i) Panics _ refl

resized-parless : (f : ℕ → ℕ → ℕ) (is : List (Option ℕ)) (ss : Sorts) → ParlessVerdict (resized f is ss)
unfolding parless
resized-parless f [] ss = tt
resized-parless f (none ∷ is) ss = refl
resized-parless f (some i ∷ is) end = tt
resized-parless f (some i ∷ is) (a then ss) = parless-cond (has_width a) _ _ refl (parless-cond (is_param_bit_vec a) _ _ refl tt)

width-parless : (is : List (Option ℕ)) → ParlessVerdict (width_of is)
unfolding parless
width-parless [] = tt
width-parless (none ∷ is) = refl
width-parless (some w ∷ is) = refl

indexed-parless : (n : ℕ) (is : List (Option ℕ)) (ss : Sorts) → parless_all ss ≡ true → ParlessVerdict (indexed n is ss)
unfolding indexed parless
indexed-parless n is ss h =
    parless-cond (eqb n 0) _ _ (extracted-parless is)
    (parless-cond (eqb n 1) _ _ refl
    (parless-cond (eqb n 2) _ _ refl
    (parless-cond (eqb n 3 || eqb n 4) _ _ (resized-parless (λ i w. i + w) is ss)
    (parless-cond (eqb n 5 || eqb n 6) _ _ (first-parless ss h)
    (parless-cond (eqb n 7) _ _ (resized-parless (λ i w. i * w) is ss)
    (parless-cond (eqb n 9) _ _ (width-parless is)
    (parless-cond (eqb n 10 || eqb n 11) _ _ refl
    tt)))))))

---------------------------------------------------------------- every record
pub inferred-parless : (z : Site) → ParlessSite z → ParlessVerdict (inferred z)
unfolding inferred parless
inferred-parless z h =
    parless-cond (eqb z.kind 0) _ _ refl
    (parless-cond (eqb z.kind 1) _ _ refl
    (parless-cond (eqb z.kind 2) _ _ refl
    (parless-cond (eqb z.kind 3) _ _ refl
    (parless-cond (eqb z.kind 4) _ _ refl
    (parless-cond (eqb z.kind 5) _ _ h.own
    (parless-cond (eqb z.kind 6) _ _ (applied-parless z.args h.args)
    (parless-cond (eqb z.kind 7) _ _ (operated-parless (family_of z.number) z.args z.constants h.args)
    (parless-cond (eqb z.kind 8) _ _ (bound-parless z.number z.bindings z.args h.bindings h.args)
    (parless-cond (eqb z.kind 9) _ _ (final-parless z.args h.args)
    (parless-cond (eqb z.kind 10) _ _ (matched-parless z.args h.args)
    (parless-cond (eqb z.kind 11) _ _ (indexed-parless z.number z.indices z.args h.args)
    h.own)))))))))))
