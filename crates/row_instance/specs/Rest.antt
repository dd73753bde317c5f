-- What remains of the list of a Function, with its names replaced, as an answer: what is asked and promised, that what
-- remains is one sort or a Function, and that the tree size alone decides whether that is over a limit.
use Prim.Native.Nat.{ℕ, zero, suc, ◌+◌, ◌*◌, ◌≤◌, ◌<◌}
use Rattle.std.specs.Prelude.{◌≡◌, true, List, Result}
use Rattle.std.proofs.Math.Path.{refl, ap, ap₂}
use Rattle.std.proofs.Common.{sym, subst, ◌∙◌, le-leb}
use Rattle.std.proofs.Math.Bool.{◌&&◌}
use native.Mathlib.Omega.{arith}
use Rattle.record.specs.Number.{u16_at, numbers_at}
use Rattle.record.specs.Sort.{Sort, Sorts, function, count, size}
use Rattle.record.specs.Record.{sorts_of}
use Rattle.record.specs.Decode.{store_of, sort_at}
use Rattle.record.specs.Codec.{length-numbers_at}
use Rattle.record.specs.Sizes.{count-sorts}
use Rattle.store.specs.Good.{Good}
use Rattle.substitution.specs.Substitution.{Map, apply, apply_all}
use Rattle.substitution.proofs.SubstitutionLaws.{count-applied}
use Rattle.apply_walk.specs.Images.{Images, images-apply_all}
use Rattle.apply.specs.declared.ApplyError.{ApplyError}
use Rattle.apply.specs.Contract.{function_at, ApplyAsks, FunctionAsks, AppliedIs}
use Rattle.row_rules.specs.Verdict.{sort}
use Rattle.row_rules.specs.Outcome.{shallow, shallow_all, within}
use Rattle.row_rules.specs.Lists.{remaining}
use Rattle.row_answer.specs.Answer.{Answer, AnswerIs}
use Rattle.row_answer.specs.AnswerLaws.{judged-as}
use Rattle.row_answer.specs.Within.{shallow-at}
use Rattle.row_answer.specs.Records.{remaining-many, remaining-one}
use Rattle.row_instance.specs.Instance.{InstanceIs, instance_answer, shallow-all-apply, each-image, applied-answer}

-- At most 64 numbers of sorts, two bytes each from x on, as for a Function of them.
abbrev pub RestAsks : List ℕ → List ℕ → List ℕ → ℕ → ℕ → List ℕ → ℕ → ℕ → Type 0
RestAsks b p ix n u l x m = FunctionAsks b p ix n u l x m

-- THE ANSWER r TO WHAT REMAINS, the m sorts whose numbers stand from x on, with its names replaced, for every map that
-- the table l stands for.
abbrev pub RestIs : List ℕ → List ℕ → ℕ → List ℕ → ℕ → ℕ → List ℕ → List ℕ → List ℕ → Answer → Type 0
RestIs b p n l x m b' p' ix' r =
    (θ : Map) → Images (store_of b p n) l θ
    → AnswerIs b p n (sort (apply θ (remaining (sorts_of (store_of b p n) (numbers_at b x m))))) b' p' ix' r

apply-function : (θ : Map) (ss : Sorts) → apply θ (function ss) ≡ function (apply_all θ ss)
unfolding apply
apply-function θ ss = refl

-- A Function of at most 64 sorts that keep the limits of widths and lists keeps them.
shallow-function : (ss : Sorts) → count ss ≤ 64 → shallow_all ss ≡ true → shallow (function ss) ≡ true
unfolding shallow
shallow-function ss h e = ap₂ ◌&&◌ (le-leb (count ss) 64 h) e

-- ONE LEFT: the answer to that sort.
module _ (b p ix : List ℕ) (n u : ℕ) (l : List ℕ) (x m : ℕ) (a : RestAsks b p ix n u l x m) where
  pub one-asks : m ≡ 1 → (k : ℕ) → k ≡ u16_at b x → ApplyAsks b p ix n u k l
  one-asks e k q =
      let z : x + 2 * 0 ≡ x = omega arith in record { ready = a.ready; known = omega (arith, q, ap (u16_at b) z, a.below 0 (omega arith)) }

  pub one-is : m ≡ 1 → (k : ℕ) → k ≡ u16_at b x → (b' p' ix' : List ℕ) (r : Answer) → InstanceIs b p n l k b' p' ix' r
      → RestIs b p n l x m b' p' ix' r
  unfolding sort_at
  one-is e k q b' p' ix' r h θ t =
      judged-as (ap (λ (s : Sort). sort (apply θ s)) (remaining-one (store_of b p n) b x m e ∙ ap (sort_at b p n) (sym q))) (h θ t)

-- OVER A GOOD STORE each sort of the list keeps the limits of widths and lists.
module _ (b p ix : List ℕ) (n u : ℕ) (g : Good b p ix n u) (l : List ℕ) (θ : Map) (t : Images (store_of b p n) l θ) where
  list-shallow : (x m : ℕ) → ((j : ℕ) → j < m → u16_at b (x + 2 * j) < n) → shallow_all (sorts_of (store_of b p n) (numbers_at b x m)) ≡ true
  unfolding shallow sorts_of numbers_at sort_at
  list-shallow x zero h = refl
  list-shallow x (suc m) h =
      let z : x + 2 * 0 ≡ x = omega arith in
      ap₂ ◌&&◌ (shallow-at b p n g.stored (u16_at b x) (omega (arith, ap (u16_at b) z, h 0 (omega arith))))
      (list-shallow (x + 2) m
      (λ j o.
      let e : x + 2 * suc j ≡ x + 2 + 2 * j = omega arith in omega (arith, ap (u16_at b) e, h (suc j) (omega arith))))

  rest-within : (x m : ℕ) → ((j : ℕ) → j < m → u16_at b (x + 2 * j) < n) → m ≤ 64
      → size (function (apply_all θ (sorts_of (store_of b p n) (numbers_at b x m)))) ≤ 4096
      → within (function (apply_all θ (sorts_of (store_of b p n) (numbers_at b x m)))) ≡ true
  unfolding within
  rest-within x m h few o =
      let ss = sorts_of (store_of b p n) (numbers_at b x m) in
      ap₂ ◌&&◌
      (shallow-function (apply_all θ ss)
      (omega (arith, count-applied θ ss, count-sorts (store_of b p n) (numbers_at b x m), length-numbers_at b x m))
      (shallow-all-apply θ (each-image b p ix n u g l θ t) ss (list-shallow x m h)))
      (le-leb (size (function (apply_all θ ss))) 4096 o)

-- ANY OTHER NUMBER LEFT: what substitution gives is the answer, for every map of the table.
pub rest_of : (b p ix : List ℕ) (n u : ℕ) (l : List ℕ) (x m : ℕ) → RestAsks b p ix n u l x m → (m ≡ 1 → ⊥)
    → (b' p' ix' : List ℕ) (n' u' : ℕ) (r : Result ℕ ApplyError) → AppliedIs b p ix n u (function_at b p n l x m) b' p' ix' n' u' r
    → RestIs b p n l x m b' p' ix' (instance_answer n' u' r)
rest_of b p ix n u l x m a other b' p' ix' n' u' r w θ t =
    let ss = sorts_of (store_of b p n) (numbers_at b x m) in
    judged-as (ap sort (ap (apply θ) (remaining-many (store_of b p n) b x m other) ∙ apply-function θ ss))
    (applied-answer b p ix n u a.ready.good (function (apply_all θ ss))
    (rest-within b p ix n u a.ready.good l θ t x m a.below a.few) b' p' ix' n' u' r
    (subst (λ (qs : Sorts). AppliedIs b p ix n u (function qs) b' p' ix' n' u' r) (images-apply_all (store_of b p n) l θ t ss) w))
