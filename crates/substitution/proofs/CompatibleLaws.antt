-- Laws of is_compatible on all sorts: a Var fits everything, it is reflexive and symmetric, a Par fits what its body fits, and it is not transitive.
use Rattle.std.specs.Prelude.{ℕ, ◌≡◌, refl, Bool, true, false, not, ◌&&◌, ◌||◌, List, eqb}
use Rattle.std.proofs.Common.{sym, ◌∙◌}
use Rattle.std.proofs.lemmas.Bool.{false≢true}
use Rattle.record.specs.Sort.{Sort, Sorts, var, par, node, end, ◌then◌, same, same_all, bool, int}
use Rattle.record.specs.SortLaws.{same-sound, same_refl, same-swap}
use Rattle.record.specs.Cases.{and_left, and_right, not-true, last-two, said-twice, or-second, eqb_swap, by_test}
use Rattle.substitution.specs.Premises.{ground, ground_all}
use Rattle.substitution.specs.MatchWith.{is_param_bit_vec, is_bit_vec, param_eq}
use Rattle.substitution.specs.Compatible.{compatible, compatible_all}

---------------------------------------------------------------- param_eq
pub param_eq-refl : (s : Sort) → param_eq s s ≡ true
unfolding param_eq
param_eq-refl s = rw (same_refl s) refl

pub param_eq-symmetric : (s t : Sort) → param_eq s t ≡ param_eq t s
unfolding param_eq
param_eq-symmetric s t = rw (same-swap s t) (last-two (same t s) (is_param_bit_vec s && is_bit_vec t) (is_param_bit_vec t && is_bit_vec s))

-- A Par is no vector, so it is equal to nothing else.
pub par-param_eq : (us : List ℕ) (b t : Sort) → param_eq (par us b) t ≡ true → par us b ≡ t
unfolding param_eq
par-param_eq us b t e =
    by_test (same (par us b) t)
    (λ q. same-sound (par us b) t q)
    (λ q. by_test (is_param_bit_vec t)
    (λ r. let z : false ≡ true = rw (q, r) at e in absurd (false≢true z))
    (λ r. let z : false ≡ true = rw (q, r) at e in absurd (false≢true z)))

---------------------------------------------------------------- is_compatible
-- "Var fits everything", on the left and on the right.
pub compatible-var : (v : ℕ) (t : Sort) → compatible (var v) t ≡ true
unfolding compatible
compatible-var v t = refl

pub compatible-to-var : (s : Sort) (v : ℕ) → compatible s (var v) ≡ true
unfolding compatible
compatible-to-var (var u) v = refl
compatible-to-var (par us b) v = or-second (param_eq (par us b) (var v)) (compatible b (var v)) (compatible-to-var b v)
compatible-to-var (node k a w ss) v = refl

-- Reflexive: the first test is of equality.
pub compatible-refl : (s : Sort) → compatible s s ≡ true
unfolding compatible
compatible-refl (var v) = refl
compatible-refl (par us b) = rw (param_eq-refl (par us b)) refl
compatible-refl (node k a w ss) = rw (param_eq-refl (node k a w ss)) refl

-- A Par fits exactly what its body fits, on either side: the one equality that is tested before it is opened is met below it too.
pub opened : (us : List ℕ) (b t : Sort) → compatible b (par us b) ≡ true → compatible (par us b) t ≡ compatible b t
unfolding compatible
opened us b t h =
    by_test (param_eq (par us b) t)
    (λ q. let z = par-param_eq us b t q in rw (q, ← z, h) refl)
    (λ q. rw q refl)

pub compatible-to-par : (s : Sort) (us : List ℕ) (b : Sort) → compatible s (par us b) ≡ compatible s b
unfolding compatible
compatible-to-par (var v) us b = refl
compatible-to-par (par ws c) us b =
    let h = compatible-to-par c ws c ∙ compatible-refl c in
    opened ws c (par us b) h ∙ compatible-to-par c us b ∙ sym (opened ws c b h)
compatible-to-par (node k a w ss) us b = refl

pub compatible-par : (us : List ℕ) (b t : Sort) → compatible (par us b) t ≡ compatible b t
compatible-par us b t = opened us b t (compatible-to-par b us b ∙ compatible-refl b)

-- Symmetric. A node against any sort, by recursion on that sort, given that its parts are; then all sorts.
pub node-symmetric : (k a w : ℕ) (ss : Sorts) → ((ts : Sorts) → compatible_all ss ts ≡ compatible_all ts ss)
    → (t : Sort) → compatible (node k a w ss) t ≡ compatible t (node k a w ss)
unfolding compatible
node-symmetric k a w ss h (var v) = refl
node-symmetric k a w ss h (par us b) = node-symmetric k a w ss h b ∙ sym (compatible-par us b (node k a w ss))
node-symmetric k a w ss h (node l c x ts) =
    rw (param_eq-symmetric (node k a w ss) (node l c x ts), eqb_swap k l, eqb_swap a c, eqb_swap w x, h ts) refl

mutual
  unfolding compatible

  pub compatible-symmetric : (s t : Sort) → compatible s t ≡ compatible t s
  compatible-symmetric (var v) t = sym (compatible-to-var t v)
  compatible-symmetric (par us b) t = compatible-par us b t ∙ compatible-symmetric b t ∙ sym (compatible-to-par t us b)
  compatible-symmetric (node k a w ss) t = node-symmetric k a w ss (λ ts. compatible_all-symmetric ss ts) t

  pub compatible_all-symmetric : (ss ts : Sorts) → compatible_all ss ts ≡ compatible_all ts ss
  compatible_all-symmetric end end = refl
  compatible_all-symmetric end (t then ts) = refl
  compatible_all-symmetric (s then ss) end = refl
  compatible_all-symmetric (s then ss) (t then ts) = rw (compatible-symmetric s t, compatible_all-symmetric ss ts) refl

-- "Compatible is not transitive": Int fits a Var, that fits Bool, and Int does not fit Bool.
pub compatible-not-transitive : ((r s t : Sort) → compatible r s ≡ true → compatible s t ≡ true → compatible r t ≡ true) → ⊥
unfolding compatible
compatible-not-transitive h = false≢true (h int (var 1) bool refl refl)

-- Without Var, Par and ParamBitVec it is equality.
mutual
  unfolding compatible ground same

  pub compatible-ground : (s t : Sort) → ground s ≡ true → ground t ≡ true → compatible s t ≡ same s t
  compatible-ground (var v) t p q = absurd (false≢true p)
  compatible-ground (par us b) t p q = absurd (false≢true p)
  compatible-ground (node k a w ss) (var v) p q = absurd (false≢true q)
  compatible-ground (node k a w ss) (par us b) p q = absurd (false≢true q)
  compatible-ground (node k a w ss) (node l c x ts) p q =
      rw (
        not-true (eqb k 10) (and_left (not (eqb k 10)) (ground_all ss) p),
        not-true (eqb l 10) (and_left (not (eqb l 10)) (ground_all ts) q),
        compatible_all-ground ss ts (and_right (not (eqb k 10)) (ground_all ss) p) (and_right (not (eqb l 10)) (ground_all ts) q),
      )
      (said-twice (eqb k l && eqb a c && eqb w x && same_all ss ts))

  pub compatible_all-ground : (ss ts : Sorts) → ground_all ss ≡ true → ground_all ts ≡ true → compatible_all ss ts ≡ same_all ss ts
  compatible_all-ground end end p q = refl
  compatible_all-ground end (t then ts) p q = refl
  compatible_all-ground (s then ss) end p q = refl
  compatible_all-ground (s then ss) (t then ts) p q =
      rw (
        compatible-ground s t (and_left (ground s) (ground_all ss) p) (and_left (ground t) (ground_all ts) q),
        compatible_all-ground ss ts (and_right (ground s) (ground_all ss) p) (and_right (ground t) (ground_all ts) q),
      ) refl

---------------------------------------------------------------- is_compatible line by line
-- What is_compatible says of two sorts that param_eq does not make equal, arm by arm as the Rust matches on the pair.
abbrev pub compatible_arms : Sort → Sort → Bool
compatible_arms (var v) t = true
compatible_arms (par us b) (var v) = true
compatible_arms (par us b) (par ws c) = compatible b (par ws c)
compatible_arms (par us b) (node l c x ts) = compatible b (node l c x ts)
compatible_arms (node k a w ss) (var v) = true
compatible_arms (node k a w ss) (par us b) = compatible (node k a w ss) b
compatible_arms (node k a w ss) (node l c x ts) = eqb k l && eqb a c && eqb w x && compatible_all ss ts

pub node-par-param_eq : (k a w : ℕ) (ss : Sorts) (us : List ℕ) (b : Sort) → param_eq (node k a w ss) (par us b) ≡ false
unfolding param_eq
node-par-param_eq k a w ss us b = by_test (eqb k 10) (λ q. rw q refl) (λ q. rw q refl)

-- param_eq first, then the arms: the definition above it says the same, in an order that goes down one side at a time.
pub compatible-is : (s t : Sort) → compatible s t ≡ (param_eq s t || compatible_arms s t)
unfolding compatible
compatible-is (var v) t = sym (or-second (param_eq (var v) t) true refl)
compatible-is (par us b) (var v) = rw (compatible-to-var b v) refl
compatible-is (par us b) (par ws c) = refl
compatible-is (par us b) (node l c x ts) = refl
compatible-is (node k a w ss) (var v) = sym (or-second (param_eq (node k a w ss) (var v)) true refl)
compatible-is (node k a w ss) (par us b) = rw (node-par-param_eq k a w ss us b) refl
compatible-is (node k a w ss) (node l c x ts) = refl
