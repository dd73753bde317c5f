-- WHAT A LABORATORY MAY RELY ON OF ARGUMENTS IN ANOTHER ORDER: "one parametric application's arguments, matched in every order, give the
-- same assignment, or none in every order"; so its verdict does not depend on the order either.
use Rattle.std.specs.Prelude.{ℕ, suc, ◌≤◌, ◌<◌, ◌≡◌, refl, Bool, List, IsPermutation, ltb}
use Rattle.std.proofs.Common.{ap, arith, not-suc-le-zero, ltb-true}
use Rattle.std.proofs.Math.Option.{Option, none, some}
use Rattle.record.specs.Sort.{Sort, Sorts, var, par, node, end, ◌then◌, function, count}
use Rattle.record.specs.Cases.{by_test}
use Rattle.substitution.specs.Substitution.{Map, empty, find}
use Rattle.substitution.specs.Matching.{matches_all, Alike}
use Rattle.substitution.specs.Orders.{Pair, matches_pairs}
use Rattle.substitution.proofs.SubstitutionLaws.{apply-agree}
use Rattle.substitution.proofs.MatchingOrders.{lists-order}
use Rattle.row_rules.specs.Lists.{firsts, others, remaining}
use Rattle.check_rules.specs.Fits.{one_of}
use Rattle.row_rules.specs.Term.{Site}
use Rattle.check_rules.specs.Rank.{Rank}
use Rattle.check_rules.specs.Checked.{settled, settled_all, delivered, called, checked_app, checked}
use Rattle.check_rules.specs.Orders.{argument_pairs, called_in}

---------------------------------------------------------------- laws
-- There are as many declared sorts as arguments.
firsts-count : (ss ts : Sorts) → count ts ≤ count ss → count (firsts ss ts) ≡ count ts
unfolding firsts count
firsts-count ss end h = refl
firsts-count end (t then ts) h = absurd (not-suc-le-zero h)
firsts-count (s then ss) (t then ts) h = ap suc (firsts-count ss ts (omega (arith, h)))

-- What is delivered depends on the map name by name only.
mutual
  unfolding settled

  settled-alike : (l : ℕ → Bool) (m n : Map) (s : Sort) → ((v : ℕ) → find m v ≡ find n v) → settled l m s ≡ settled l n s
  settled-alike l m n (var v) h = rw (h v) refl
  settled-alike l m n (par us b) h = settled-alike l m n b h
  settled-alike l m n (node k a w ss) h = settled_all-alike l m n ss h

  settled_all-alike : (l : ℕ → Bool) (m n : Map) (ss : Sorts) → ((v : ℕ) → find m v ≡ find n v) → settled_all l m ss ≡ settled_all l n ss
  settled_all-alike l m n end h = refl
  settled_all-alike l m n (s then ss) h = rw (settled-alike l m n s h, settled_all-alike l m n ss h) refl

delivered-alike : (l : ℕ → Bool) (r : Sort) (o u : Option Map) → Alike o u → delivered l r o ≡ delivered l r u
delivered-alike l r none none h = refl
delivered-alike l r none (some n) h = absurd h
delivered-alike l r (some m) none h = absurd h
delivered-alike l r (some m) (some n) h = rw (settled-alike l m n r h, apply-agree m n r (λ v o. h v)) refl

---------------------------------------------------------------- the theorems
-- THE SAME ASSIGNMENT, OR NONE, IN EVERY ORDER of the arguments: the map that the verdict uses, and the one of the order xs. With more
-- arguments than declared sorts the verdict is 25 before any are matched.
pub assignment-order : (l : ℕ → Bool) (ss ts : Sorts) (xs : List Pair) → count ts < count ss → IsPermutation (argument_pairs ss ts) xs
    → Alike (matches_all l (firsts ss ts) ts empty) (matches_pairs l xs empty)
assignment-order l ss ts xs few d = lists-order l (firsts ss ts) ts xs empty (firsts-count ss ts (omega (arith, few))) d

-- THE SAME VERDICT IN EVERY ORDER: of every head with a list, whatever names are its parameters.
pub called-order : (l : ℕ → Bool) (ss ts : Sorts) (xs : List Pair) → IsPermutation (argument_pairs ss ts) xs
    → called l (some ss) ts ≡ called_in l ss ts xs
unfolding called called_in
called-order l ss ts xs d =
    by_test (ltb (count ts) (count ss))
    (λ a. rw (delivered-alike l (remaining (others ss ts)) (matches_all l (firsts ss ts) ts empty) (matches_pairs l xs empty)
    (assignment-order l ss ts xs (ltb-true (count ts) (count ss) a) d)) refl)
    (λ a. rw a refl)

-- A PARAMETRIC APPLICATION has one verdict, in whatever order its arguments are matched.
pub parametric-order : (ns : List ℕ) (ss : Sorts) (t : Sort) (ts : Sorts) (xs : List Pair) → IsPermutation (argument_pairs ss (t then ts)) xs
    → checked_app (par ns (function ss) then t then ts) ≡ called_in (one_of ns) ss (t then ts) xs
unfolding checked_app
parametric-order ns ss t ts xs d = called-order (one_of ns) ss (t then ts) xs d

-- THE CHECKED VERDICT ON A RECORD of kind App (6) whose head is parametric.
pub app-order : (R : ℕ → List Rank) (z : Site) (ns : List ℕ) (ss : Sorts) (t : Sort) (ts : Sorts) (xs : List Pair) → z.kind ≡ 6
    → z.args ≡ (par ns (function ss) then t then ts) → IsPermutation (argument_pairs ss (t then ts)) xs → checked R z ≡ called_in (one_of ns) ss (t then ts) xs
unfolding checked
app-order R z ns ss t ts xs k a d = rw (k, a) (parametric-order ns ss t ts xs d)
