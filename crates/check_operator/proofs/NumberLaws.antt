-- Numbers in one pass: what the loop over the arguments keeps of those that are left, and what it ends with.
use Rattle.std.specs.Prelude.{ℕ, suc, ◌<◌, ◌≡◌, Bool, true, false, cond, ◌||◌, refl, List, [], ◌∷◌, length, get_or, Option, Some, None, eqb}
use Rattle.std.proofs.Common.{sym, ap, subst, ◌∙◌, arith}
use Rattle.std.specs.Option.{unwrap_or}
use Rattle.record.specs.Kinds.{sort_number}
use Rattle.record.specs.Number.{numbers_at}
use Rattle.record.specs.declared.kinds.SortKind.{SortKind}
use Rattle.record.specs.declared.kinds.SortKind.TheVariants.{Int as SortInt, Real as SortReal}
use Rattle.record.specs.Sort.{Sort, Sorts, ◌then◌, int, real, kind_of, same}
use Rattle.record.specs.SortLaws.{same-other}
use Rattle.record.specs.Cases.{and_right}
use Rattle.record.specs.Record.{map_of, maps, sorts_of}
use Rattle.record.specs.Decode.{store_of, sort_at}
use Rattle.store.specs.Entry.{EntryAsks, KindHas}
use Rattle.store.specs.Walk.{entry-asks}
use Rattle.row_rules.specs.declared.Cause.TheVariants.{Misfit}
use Rattle.row_rules.specs.Verdict.{Verdict, sort, refused, need}
use Rattle.check_rules.specs.Forms.{numbers, stands}
use Rattle.check_operator.specs.declared.op.Fit.TheVariants.{Plain}
use Rattle.check_operator.specs.Rule.{Numbers, plain_sort, numbers_result, fitted, well_rule, plain_kind, one_or_two}
use Rattle.check_operator.specs.Numbered.{result_number}
use Rattle.check_operator.specs.Contract.{Over, args_of, FitAsks, FitHas}
use Rattle.row_answer.specs.StoredKinds.{kind-plain}
use Rattle.check_operator.proofs.ArgumentLaws.{within-list, get-number}
use Rattle.check_operator.proofs.FitLaws.{result-is}

---------------------------------------------------------------- one number more
-- What the sorts that are left give where those before them have the sum s.
abbrev pub summed : ℕ → Sort → Sorts → Verdict
summed r s ts = need (numbers ts) Misfit (sort (numbers_result r (cond (stands real ts) real s)))

summed-int : (r : ℕ) (s t : Sort) (ts : Sorts) → t ≡ int → summed r s (t then ts) ≡ summed r s ts
unfolding numbers stands same
summed-int r s t ts e = rw e refl

summed-real : (r : ℕ) (s t : Sort) (ts : Sorts) → t ≡ real → summed r s (t then ts) ≡ summed r real ts
unfolding numbers stands same
summed-real r s t ts e = rw e (go (stands real ts))
  where
    go : (b : Bool) → need (numbers ts) Misfit (sort (numbers_result r real)) ≡ need (numbers ts) Misfit (sort (numbers_result r (cond b real real)))
    go true = refl
    go false = refl

summed-other : (r : ℕ) (s t : Sort) (ts : Sorts) → (kind_of t ≡ 4 → ⊥) → (kind_of t ≡ 5 → ⊥) → summed r s (t then ts) ≡ refused Misfit
unfolding numbers
summed-other r s t ts i j = rw (same-other t int (λ e. i (ap kind_of e)), same-other t real (λ e. j (ap kind_of e))) refl

---------------------------------------------------------------- the loop
-- The numbers xs of the arguments are left, and the sum of those before them is of the kind `sum`.
pub record Summing (b p a : List ℕ) (m r : ℕ) (sum : SortKind) (xs : List ℕ) : Type 0 where
  pub plain : map_of (sort_number sum) ≡ 1
  pub below : (n : ℕ) → Over b p n a m → (j : ℕ) → j < length xs → get_or xs j 0 < n
  pub left : (n : ℕ) → Over b p n a m → summed r int (args_of b p n a m) ≡ summed r (plain_sort (sort_number sum)) (sorts_of (store_of b p n) xs)

module _ {b p a : List ℕ} {m r : ℕ} where
  -- All of them.
  pub sum-start : {xs : List ℕ} → xs ≡ numbers_at a 3 m → Summing b p a m r SortInt xs
  unfolding map_of maps
  sum-start {xs} e =
      subst (Summing b p a m r SortInt) (sym e)
      (record {
        plain = refl;
        below = λ n o j l. let h = within-list a m j l in omega (arith, get-number a m j 0 h, o.below j h);
        left = λ n o. refl;
      })

  module _ {sum : SortKind} {xs ys : List ℕ} {k : ℕ} (S : Summing b p a m r sum xs) (e : xs ≡ k ∷ ys) where
    next-below : (n : ℕ) → Over b p n a m → k < n
    next-below n o = subst (λ (zs : List ℕ). get_or zs 0 0 < n) e (S.below n o 0 (omega (arith, ap length e)))

    rest-below : (n : ℕ) → Over b p n a m → (j : ℕ) → j < length ys → get_or ys j 0 < n
    rest-below n o j l = subst (λ (zs : List ℕ). get_or zs (suc j) 0 < n) e (S.below n o (suc j) (omega (arith, l, ap length e)))

    next-left : (n : ℕ) → Over b p n a m
        → summed r int (args_of b p n a m) ≡ summed r (plain_sort (sort_number sum)) (sort_at b p n k then sorts_of (store_of b p n) ys)
    unfolding sorts_of sort_at
    next-left n o = S.left n o ∙ ap (λ (zs : List ℕ). summed r (plain_sort (sort_number sum)) (sorts_of (store_of b p n) zs)) e

    next-is : (i : ℕ) → map_of i ≡ 1 → KindHas b p k i → (n : ℕ) → Over b p n a m → sort_at b p n k ≡ plain_sort i
    next-is i plain h n o = let l = next-below n o in kind-plain b p n k o.stored l i plain (sym (h n o.stored l))

    -- The next one can be read.
    pub sum-asks : (n : ℕ) → Over b p n a m → EntryAsks b p k
    sum-asks n o = entry-asks b p n k o.stored (next-below n o)

    -- It is Int, Real, or another sort.
    pub sum-int : KindHas b p k 4 → Summing b p a m r sum ys
    unfolding map_of maps
    sum-int h =
        record {
          plain = S.plain;
          below = rest-below;
          left = λ n o.
              next-left n o ∙ summed-int r (plain_sort (sort_number sum)) (sort_at b p n k) (sorts_of (store_of b p n) ys) (next-is 4 refl h n o);
        }

    pub sum-real : KindHas b p k 5 → Summing b p a m r SortReal ys
    unfolding map_of maps
    sum-real h =
        record {
          plain = refl;
          below = rest-below;
          left = λ n o.
              next-left n o ∙ summed-real r (plain_sort (sort_number sum)) (sort_at b p n k) (sorts_of (store_of b p n) ys) (next-is 5 refl h n o);
        }

    pub sum-other : {i : ℕ} → KindHas b p k i → (i ≡ 4 → ⊥) → (i ≡ 5 → ⊥) → FitHas b p a m (Numbers 1 r) None
    unfolding fitted
    sum-other h x y n o =
        let q = h n o.stored (next-below n o) in
        record {
          is = sym (next-left n o ∙
              summed-other r (plain_sort (sort_number sum)) (sort_at b p n k) (sorts_of (store_of b p n) ys) (λ e. x (q ∙ e)) (λ e. y (q ∙ e)));
          ok = tt;
        }

-- None is left: the result is the rule's, or the sum.
pub sum-end : {b p a : List ℕ} {m : ℕ} (res : Option SortKind) {sum k : SortKind} {xs : List ℕ} → FitAsks b p a m (Numbers 1 (result_number res))
    → Summing b p a m (result_number res) sum xs → xs ≡ [] → k ≡ unwrap_or res sum → FitHas b p a m (Numbers 1 (result_number res)) (Some (Plain k))
unfolding fitted well_rule sorts_of numbers stands
sum-end {b} {p} {a} {m} res {sum} {k} {xs} f S e q n o =
    let r = result_number res in
    let g = result-is res sum S.plain (and_right (one_or_two 1) (eqb r 0 || plain_kind r) f.well) in
    record {
      is = ap (λ (i : SortKind). sort (plain_sort (sort_number i))) q ∙ ap sort g.1
          ∙ sym (S.left n o ∙ ap (λ (zs : List ℕ). summed r (plain_sort (sort_number sum)) (sorts_of (store_of b p n) zs)) e);
      ok = subst (λ (i : SortKind). map_of (sort_number i) ≡ 1) (sym q) g.0;
    }
