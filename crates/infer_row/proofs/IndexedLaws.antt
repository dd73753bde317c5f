-- The indices of an operator, by the terms that the sheet names; its first argument; and which operator answers what.
use Prim.Native.Nat.{ℕ, zero, suc, ◌+◌, ◌*◌, ◌-◌, ◌≤◌, ◌<◌}
use mathlib.Core.Path.{◌≡◌, refl, sym, ap, ◌∙◌}
use mathlib.Core.Bool.{false}
use mathlib.Core.List.{List, [], ◌∷◌}
use mathlib.Core.Option.{Option, none, some}
use mathlib.Core.Logic.{◌⊎◌, ⊎_elim}
use native.Mathlib.Omega.{arith}
use native.Mathlib.Nat.{not-suc-le-zero}
use lib.Dec.{eqb, leb}
use borrow.Author.Tests.{eq-eqb, ne_eqb, le-leb, lt-leb}
use Rattle.std.specs.Prelude.{Result, Ok, Err, Option as Found}
use Rattle.record.specs.Number.{numbers_at}
use Rattle.record.specs.Kinds.{param_number, ParamDecodes}
use Rattle.record.specs.declared.kinds.UnknownKind.{UnknownKind}
use Rattle.record.specs.declared.kinds.ParamOp.{ParamOp}
use Rattle.record.specs.declared.kinds.ParamOp.TheVariants.{ZeroExtend, SignExtend, RotateLeft, RotateRight, Repeat}
use Rattle.record.specs.Sort.{Sort, Sorts, ◌then◌, bitvec, param_bit_vec, kind_of, number_in}
use Rattle.substitution.proofs.MatchWithLaws.{param-kind}
use Rattle.row_rules.specs.declared.Cause.{Cause}
use Rattle.row_rules.specs.declared.Cause.TheVariants.{Panics}
use Rattle.row_rules.specs.Verdict.{Verdict, sort, refused, need}
use Rattle.infer_rules.specs.Inferred.{extracted, resized_of, first_of, indexed}
use Rattle.row_answer.specs.Arguments.{integer_of, constants_from, constants_in, index_at, IndexIs}
use Rattle.infer_row.specs.Indexed.{Indexing, extracts, zeroes, signs, repeats, converts}

---------------------------------------------------------------- the list of indices
module _ (s xs : List ℕ) (x q : ℕ) where
  pub constants-none : q ≡ 0 → constants_in s xs x q ≡ []
  unfolding constants_from numbers_at
  constants-none z = ap (λ (i : ℕ). constants_in s xs x i) z

pub constants-first : (s xs : List ℕ) (x q : ℕ) → 0 < q → constants_in s xs x q ≡ index_at s xs x ∷ constants_in s xs (x + 2) (q - 1)
unfolding constants_from numbers_at
constants-first s xs x zero l = absurd (not-suc-le-zero l)
constants-first s xs x (suc q) l = let e : q ≡ suc q - 1 = omega arith in ap (λ (i : ℕ). index_at s xs x ∷ constants_in s xs (x + 2) i) e

---------------------------------------------------------------- BvExtract
-- From the first index and what the second is.
abbrev pub extract_by : ℕ → Option ℕ → Verdict
extract_by i none = sort param_bit_vec
extract_by i (some j) = need (leb j i) Panics (sort (bitvec (suc (i - j))))

extract-by : (i : ℕ) (o : Option ℕ) (is : List (Option ℕ)) → extracted (some i ∷ (o ∷ is)) ≡ extract_by i o
extract-by i none is = refl
extract-by i (some j) is = refl

pub extract-over : (i j : ℕ) → i < j → extract_by i (some j) ≡ refused Panics
extract-over i j h = rw (lt-leb j i h) refl

pub extract-fits : (i j : ℕ) → j ≤ i → extract_by i (some j) ≡ sort (bitvec (i - j + 1))
extract-fits i j h = let e : suc (i - j) ≡ i - j + 1 = omega arith in rw (le-leb j i h) (ap (λ (w : ℕ). sort (bitvec w)) e)

module _ (s xs : List ℕ) (x q i : ℕ) where
  pub extract-none : q < 2 → extracted (some i ∷ constants_in s xs (x + 2) (q - 1)) ≡ refused Panics
  extract-none l =
      let e : q - 1 ≡ 0 = omega arith in
      ap (λ (is : List (Option ℕ)). extracted (some i ∷ is)) (constants-none s xs (x + 2) (q - 1) e)

  pub extract-second : 2 ≤ q → {o : Found ℕ} → IndexIs s xs (x + 2) o → extracted (some i ∷ constants_in s xs (x + 2) (q - 1)) ≡ extract_by i (integer_of o)
  extract-second l {o} h =
      ap (λ (is : List (Option ℕ)). extracted (some i ∷ is)) (constants-first s xs (x + 2) (q - 1) (omega arith))
      ∙ extract-by i (index_at s xs (x + 2)) (constants_in s xs (x + 2 + 2) (q - 1 - 1))
      ∙ ap (extract_by i) (sym h.is)

---------------------------------------------------------------- a width by the first argument
module _ (f : ℕ → ℕ) {ss : Sorts} {t : Sort} {more : Sorts} (first : ss ≡ t then more) where
  pub resize-known : kind_of t ≡ 9 → {w : ℕ} → w ≡ number_in t → resized_of f ss ≡ sort (bitvec (f w))
  resize-known h e = rw (first, e, eq-eqb (kind_of t) 9 h) refl

  pub resize-unknown : kind_of t ≡ 10 → resized_of f ss ≡ sort param_bit_vec
  resize-unknown h = rw (first, ne_eqb (kind_of t) 9 (λ (e : kind_of t ≡ 9). absurd (omega arith)), param-kind t, eq-eqb (kind_of t) 10 h) refl

  pub resize-other : (kind_of t ≡ 9 → ⊥) → (kind_of t ≡ 10 → ⊥) → resized_of f ss ≡ refused Panics
  resize-other h d = rw (first, ne_eqb (kind_of t) 9 h, param-kind t, ne_eqb (kind_of t) 10 d) refl

---------------------------------------------------------------- which operator
-- Another number, another operator.
at_op : {op : ℕ} (is : List (Option ℕ)) (ss : Sorts) (k : ℕ) → op ≡ k → indexed op is ss ≡ indexed k is ss
at_op {op} is ss k e = ap (λ (o : ℕ). indexed o is ss) e

module _ (is : List (Option ℕ)) (ss : Sorts) where
  other : (op k : ℕ) → 12 ≤ op → k < 12 → eqb op k ≡ false
  other op k l h = ne_eqb op k (λ (e : op ≡ k). absurd (omega arith))

  pub no-operator : (op : ℕ) → 12 ≤ op → indexed op is ss ≡ refused Panics
  unfolding indexed
  no-operator op l =
      rw (
        other op 0 l (omega arith),
        other op 1 l (omega arith),
        other op 2 l (omega arith),
        other op 3 l (omega arith),
        other op 4 l (omega arith),
        other op 5 l (omega arith),
        other op 6 l (omega arith),
        other op 7 l (omega arith),
        other op 9 l (omega arith),
        other op 10 l (omega arith),
        other op 11 l (omega arith),
      )
      refl

-- The operators that look at their first index: none is there, it is no integer, and it is i.
pub looks-none : {op : ℕ} (ss : Sorts) → Indexing op → indexed op [] ss ≡ refused Panics
unfolding indexed
looks-none {op} ss (extracts e) = at_op [] ss 0 e
looks-none {op} ss (zeroes e) = at_op [] ss 3 e
looks-none {op} ss (signs e) = at_op [] ss 4 e
looks-none {op} ss (repeats e) = at_op [] ss 7 e
looks-none {op} ss (converts e) = at_op [] ss 9 e

pub looks-unknown : {op : ℕ} (is : List (Option ℕ)) (ss : Sorts) → Indexing op → indexed op (none ∷ is) ss ≡ sort param_bit_vec
unfolding indexed
looks-unknown {op} is ss (extracts e) = at_op (none ∷ is) ss 0 e
looks-unknown {op} is ss (zeroes e) = at_op (none ∷ is) ss 3 e
looks-unknown {op} is ss (signs e) = at_op (none ∷ is) ss 4 e
looks-unknown {op} is ss (repeats e) = at_op (none ∷ is) ss 7 e
looks-unknown {op} is ss (converts e) = at_op (none ∷ is) ss 9 e

-- With the first index that was found.
module _ {s xs : List ℕ} (x q : ℕ) (some : 0 < q) {o : Found ℕ} (h : IndexIs s xs (x + 2 * 0) o) (op : ℕ) (ss : Sorts) where
  pub looks-first : indexed op (constants_in s xs x q) ss ≡ indexed op (integer_of o ∷ constants_in s xs (x + 2) (q - 1)) ss
  looks-first =
      let e : x ≡ x + 2 * 0 = omega arith in
      ap (λ (is : List (Option ℕ)). indexed op is ss)
      (constants-first s xs x q some ∙ ap (λ (c : Option ℕ). c ∷ constants_in s xs (x + 2) (q - 1)) (ap (index_at s xs) e ∙ sym h.is))

---------------------------------------------------------------- by name
-- The operator with the number n, or Panics where there is none.
abbrev pub op_of : Result ParamOp UnknownKind → Result ParamOp Cause
op_of (Ok k) = Ok k
op_of (Err x) = Err Panics

pub op-found : (n : ℕ) (o : Result ParamOp UnknownKind) → ParamDecodes n o → {r : Result ParamOp Cause} → r ≡ op_of o → {k : ParamOp} → r ≡ Ok k → param_number k ≡ n
op-found n (Ok j) h {r} e {k} q = let z : k ≡ j = cc in ap param_number z ∙ h
op-found n (Err x) h {r} e {k} q = cc

pub op-missing : (n : ℕ) (o : Result ParamOp UnknownKind) → ParamDecodes n o → {r : Result ParamOp Cause} → r ≡ op_of o → {c : Cause} → r ≡ Err c → 12 ≤ n
op-missing n (Ok j) h e q = cc
op-missing n (Err x) h e q = h.1

module _ {n : ℕ} {k : ParamOp} (number : param_number k ≡ n) (is : List (Option ℕ)) (ss : Sorts) where
  pub named : (q : ParamOp) → k ≡ q → indexed n is ss ≡ indexed (param_number q) is ss
  named q e = ap (λ (o : ℕ). indexed o is ss) (sym number ∙ ap param_number e)

  pub rotates : (k ≡ RotateLeft) ⊎ (k ≡ RotateRight) → indexed n is ss ≡ first_of ss
  unfolding indexed
  rotates h = ⊎_elim (λ (e : k ≡ RotateLeft). named RotateLeft e) (λ (e : k ≡ RotateRight). named RotateRight e) h

-- With the first index, i.
module _ (k : ParamOp) (i : ℕ) (is : List (Option ℕ)) (ss : Sorts) where
  pub given-extend : (k ≡ ZeroExtend) ⊎ (k ≡ SignExtend) → indexed (param_number k) (some i ∷ is) ss ≡ resized_of (λ w. i + w) ss
  unfolding indexed
  given-extend h = ⊎_elim (λ (e : k ≡ ZeroExtend). named refl (some i ∷ is) ss ZeroExtend e) (λ (e : k ≡ SignExtend). named refl (some i ∷ is) ss SignExtend e) h

  pub given-repeat : k ≡ Repeat → indexed (param_number k) (some i ∷ is) ss ≡ resized_of (λ w. i * w) ss
  unfolding indexed
  given-repeat e = named refl (some i ∷ is) ss Repeat e
