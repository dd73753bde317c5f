-- Sound ranks: no variable of a result is free, results are proper, and no arguments fit two ranks of one operator. The
-- ranks of the table are such, by a test of it that is computed.
use Rattle.std.specs.Prelude.{ℕ, ◌≡◌, refl, Bool, true, ◌&&◌, List, [], ◌∷◌, leb, ◌++◌}
use Rattle.std.proofs.Math.Option.{some}
use Rattle.record.specs.Sort.{Sort, Sorts}
use Rattle.record.specs.Cases.{conj, three, by_test, by_option, none-some, some_inj}
use Rattle.substitution.specs.Substitution.{Map, apply, apply_all}
use Rattle.substitution.specs.Premises.{proper, proper_all}
use Rattle.check_rules.specs.Rank.{Rank, fit, first_fit}
use Rattle.check_rules.specs.Ranks.{RankTable, done, row, ranks_in, standard, smt_lib, enlarged}
use Rattle.check_rules.specs.RankLaws.{well_rank, fit-moved, fit-proper}
use Rattle.check_rules.proofs.Disjoint.{Disjoint, disjoint}
use Rattle.check_rules.proofs.DisjointLaws.{disjoint-sound}

---------------------------------------------------------------- no list fits two ranks of an operator
-- SOUND RANKS OF AN OPERATOR: no Par in them, results proper and without a variable of their own, and no list of arguments
-- fits two of them.
abbrev pub Sound : List Rank → Type 0
Sound [] = Unit {0}
Sound (r ∷ rs) = (well_rank r ≡ true) × ((ts : Sorts) (s u : Sort) → fit r ts ≡ some s → first_fit rs ts ≡ some u → ⊥) × Sound rs

-- A test that tells ranks apart: those of which it holds fit no list together.
abbrev pub TellsApart : (Rank → Rank → Bool) → Type 0
TellsApart d = (q r : Rank) → well_rank q ≡ true → well_rank r ≡ true → d q r ≡ true → Disjoint q r

-- A rank is told apart from each rank of a list; each rank of a list is well, and told apart from each later one.
unfoldable pub apart_from : (Rank → Rank → Bool) → Rank → List Rank → Bool
apart_from d q [] = true
apart_from d q (r ∷ rs) = d q r && apart_from d q rs

unfoldable pub well_by : (Rank → Rank → Bool) → List Rank → Bool
unfolding well_rank apart_from
well_by d [] = true
well_by d (r ∷ rs) = well_rank r && apart_from d r rs && well_by d rs

-- The test of a list of ranks, by the test `disjoint` of two.
abbrev pub well_ranks : List Rank → Bool
well_ranks rs = well_by disjoint rs

pub first_fit-apart : (d : Rank → Rank → Bool) → TellsApart d → (q : Rank) (rs : List Rank) (ts : Sorts) (s u : Sort) → well_rank q ≡ true
    → well_by d rs ≡ true → apart_from d q rs ≡ true → fit q ts ≡ some s → first_fit rs ts ≡ some u → ⊥
unfolding first_fit apart_from well_by
first_fit-apart d T q [] ts s u w v e g h = none-some h
first_fit-apart d T q (r ∷ rs) ts s u w v e g h =
    let t = three (well_rank r) (apart_from d r rs) (well_by d rs) v in
    by_option (fit r ts)
    (λ n. first_fit-apart d T q rs ts s u w t.2 (search conj) g (rw n at h))
    (λ x n. T q r w t.0 (search conj) ts s x g n)

-- A list that passes the test is sound, whatever test tells its ranks apart.
pub apart-sound : (d : Rank → Rank → Bool) → TellsApart d → (rs : List Rank) → well_by d rs ≡ true → Sound rs
unfolding well_by
apart-sound d T [] e = tt
apart-sound d T (r ∷ rs) e =
    let t = three (well_rank r) (apart_from d r rs) (well_by d rs) e in
    (t.0, (λ ts s u g h. first_fit-apart d T r rs ts s u t.0 t.2 t.1 g h), apart-sound d T rs t.2)

pub well-sound : (rs : List Rank) → well_ranks rs ≡ true → Sound rs
well-sound rs e = apart-sound disjoint disjoint-sound rs e

-- One rank by itself.
pub alone-sound : (r : Rank) → well_rank r ≡ true → Sound (r ∷ [])
unfolding first_fit
alone-sound r e = (e, (λ ts s u g h. none-some h), tt)

-- The rank that is found stays the one that is found: were an earlier one to fit the replaced arguments, two would.
pub first_fit-moved : (σ : Map) (rs : List Rank) (ts : Sorts) (s : Sort) → Sound rs → first_fit rs ts ≡ some s → first_fit rs (apply_all σ ts) ≡ some (apply σ s)
unfolding first_fit
first_fit-moved σ [] ts s w h = none-some h
first_fit-moved σ (r ∷ rs) ts s w h =
    by_option (fit r ts)
    (λ n. let i = first_fit-moved σ rs ts s w.2 (rw n at h) in
    by_option (fit r (apply_all σ ts))
    (λ g. rw g i)
    (λ u g. absurd (w.1 (apply_all σ ts) u (apply σ s) g i)))
    (λ u n. let z : some u ≡ some s = rw n at h in rw (fit-moved σ r ts u w.0 n, some_inj z) refl)

-- The result that is found over proper arguments is proper.
pub first_fit-proper : (rs : List Rank) (ts : Sorts) (s : Sort) → Sound rs → proper_all ts ≡ true → first_fit rs ts ≡ some s → proper s ≡ true
unfolding first_fit
first_fit-proper [] ts s w p h = none-some h
first_fit-proper (r ∷ rs) ts s w p h =
    by_option (fit r ts)
    (λ n. first_fit-proper rs ts s w.2 p (rw n at h))
    (λ u n. let z : some u ≡ some s = rw n at h in rw (← some_inj z) (fit-proper r ts u w.0 p n))

---------------------------------------------------------------- the table
unfoldable pub well_table : RankTable → Bool
unfolding well_by disjoint
well_table done = true
well_table (row a b rs t) = well_ranks rs && well_table t
well_table (enlarged a b rs qs t) = well_ranks (rs ++ qs) && well_table t

-- The test of every row of a table, and that ours passes it.
pub table-well : (t : RankTable) (n : ℕ) → well_table t ≡ true → well_ranks (ranks_in t n) ≡ true
unfolding well_table ranks_in
table-well done n e = refl
table-well (row a b rs t) n e =
    by_test (leb a n && leb n b) (λ q. rw q (search conj)) (λ q. rw q (table-well t n (search conj)))
table-well (enlarged a b rs qs t) n e =
    by_test (leb a n && leb n b) (λ q. rw q (search conj)) (λ q. rw q (table-well t n (search conj)))

pub standard-well : well_table standard ≡ true
unfolding well_table standard
standard-well = refl

pub standard-sound : (n : ℕ) → Sound (ranks_in standard n)
standard-sound n = well-sound (ranks_in standard n) (table-well standard n standard-well)

-- The ranks of the table are sound.
pub smt_lib-sound : (n : ℕ) → Sound (smt_lib n)
unfolding smt_lib
smt_lib-sound n = standard-sound n
