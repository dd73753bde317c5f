-- The tables of names that are lent where a row or an answer is made: they have all names, or no name is looked up in them.
use Rattle.std.specs.Prelude.{ℕ, ◌≡◌, refl, Bool, true, false, cond, List, length, eqb}
use Rattle.std.proofs.Common.{ap, subst, true≢false}
use Rattle.std.proofs.lemmas.Bool.{false≢true}
use Rattle.record.specs.Sort.{Sort, Sorts, var, par, node}
use Rattle.record.specs.Decode.{store_of, sort_at}
use Rattle.sheet.specs.Sheet.{Lengths}
use Rattle.substitution.specs.Premises.{parless}
use Rattle.matching_tables.specs.Tables.{Blank}
use Rattle.row_rules.specs.Verdict.{Verdict}
use Rattle.row_rules.specs.Outcome.{CodedStore}
use Rattle.row_rules.specs.Parless.{ParlessVerdict, parless_each}
use Rattle.row_rules.proofs.ParlessLaws.{parless-at, parless-outcome}
use Rattle.row_answer.specs.Answer.{Answer, AnswerIs}
use Rattle.row_answer.specs.Heads.{plain_head, par_head, other, head_in}

-- TABLES LENT OVER THE STORE of n sorts in b p: of all names and blank; or, as no sort of it has a Par, of any length and unused.
pub data Lent (b p : List ℕ) (n : ℕ) (prm imgs bnd : List ℕ) : Type 0 where
  whole : Blank prm imgs bnd → Lent b p n prm imgs bnd
  unused : parless_each (store_of b p n) ≡ true → Lent b p n prm imgs bnd

-- A head with parameters is a Par.
plain-head : {C : Type 0} (t : Bool) (ss ts : Sorts) (ns : List ℕ) → cond t (plain_head ss) other ≡ par_head ns ts → C
plain-head {C} true ss ts ns e = let z : true ≡ false = cc in absurd (true≢false z)
plain-head {C} false ss ts ns e = let z : true ≡ false = cc in absurd (true≢false z)

parless-head : {C : Type 0} (s : Sort) (ns : List ℕ) (ts : Sorts) → parless s ≡ true → head_in s ≡ par_head ns ts → C
unfolding parless
parless-head (var v) ns ts h e = let z : true ≡ false = cc in absurd (true≢false z)
parless-head (par us b) ns ts h e = absurd (false≢true h)
parless-head (node k a w ss) ns ts h e = plain-head (eqb k 0) ss ts ns e

-- So with such a head the tables have all names.
pub lent-under : {b p : List ℕ} {n : ℕ} {prm imgs bnd : List ℕ} → Lent b p n prm imgs bnd → (k : ℕ) (ns : List ℕ) (ts : Sorts) → head_in (sort_at b p n k) ≡ par_head ns ts → Blank prm imgs bnd
unfolding sort_at
lent-under (whole h) k ns ts e = h
lent-under {b} {p} {n} (unused h) k ns ts e = parless-head (sort_at b p n k) ns ts (parless-at (store_of b p n) k h) e

-- TABLES THAT ARE AS THEY WERE ARE LENT OVER THE STORE AFTER AN ANSWER, whose verdict has no Par where the store has none.
pub lent-after : {b p : List ℕ} {n : ℕ} {prm imgs bnd b' p' ix' prm' imgs' bnd' : List ℕ} {v : Verdict} {r : Answer} → Lent b p n prm imgs bnd → (parless_each (store_of b p n) ≡ true → ParlessVerdict v)
    → AnswerIs b p n v b' p' ix' r → prm' ≡ prm → imgs' ≡ imgs → bnd' ≡ bnd → Lent b' p' r.count prm' imgs' bnd'
lent-after {prm' = prm'} {imgs' = imgs'} {bnd' = bnd'} (whole h) f a ep ei eb = whole (rw (ep, ei, eb) h)
lent-after {b} {p} {n} {v = v} (unused h) f a ep ei eb =
    let l : Lengths = record { records = length b; places = length p; rows = 0; answers = 0 } in
    unused (subst (λ (z : List Sort). parless_each z ≡ true) (ap (λ (o : CodedStore). o.store) (a.is l refl refl)) (parless-outcome l (store_of b p n) v h (f h)))
