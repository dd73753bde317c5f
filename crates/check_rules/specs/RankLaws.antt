-- Ranks under replacing: only the count of the arguments chooses a rank's patterns, and a rank that fits the arguments fits
-- them when they are put through a map, with its result put through it.
use Rattle.std.specs.Prelude.{ℕ, ◌≡◌, refl, Bool, ◌&&◌, List, [], ◌∷◌}
use Rattle.std.proofs.Common.{sym, ap, ◌∙◌}
use Rattle.std.proofs.Math.Bool.{true, false}
use Rattle.std.proofs.lemmas.Bool.{false≢true}
use Rattle.std.proofs.Math.Option.{none, some}
use Rattle.record.specs.Sort.{Sort, Sorts, var, par, node, end, ◌then◌}
use Rattle.record.specs.Cases.{and_left, conj, and-true, by_test, by_option, none-some, some_inj, and_right}
use Rattle.substitution.specs.Substitution.{Map, empty, bind, find, bound, apply, apply_all, through, occurs, occurs_any}
use Rattle.substitution.proofs.SubstitutionLaws.{apply-proper, find-through}
use Rattle.substitution.specs.Premises.{proper, proper_all, proper_map, parless, parless_all}
use Rattle.substitution.specs.Matching.{matches_all}
use Rattle.substitution.proofs.MatchingLaws.{match_all-binds, match_all-proper, match_all-target-moved}
use Rattle.check_rules.specs.Rank.{Rank, rank, repeated, stretched, patterns, same_count, counts, vector, vectors_in, every_name, rank_answer, fit, some_counts, computed}
use Rattle.check_rules.specs.FormLaws.{takes_moved, well_form, computes-only, computes-when, computes-moved, computes-proper}
pub use Rattle.check_rules.specs.FormLaws.{vector-is}

---------------------------------------------------------------- only the count of the arguments chooses the patterns
-- Only the count of the arguments chooses a rank's patterns.
pub repeated-same : (p : Sort) (ts us : Sorts) → same_count ts us ≡ true → repeated p ts ≡ repeated p us
unfolding repeated same_count
repeated-same p end end e = refl
repeated-same p end (u then us) e = absurd (false≢true e)
repeated-same p (t then ts) end e = absurd (false≢true e)
repeated-same p (t then ts) (u then us) e = ap (p then◌) (repeated-same p ts us e)

pub stretched-same : (ps ts us : Sorts) → same_count ts us ≡ true → stretched ps ts ≡ stretched ps us
unfolding stretched same_count
stretched-same end ts us e = refl
stretched-same (p then end) end end e = refl
stretched-same (p then end) end (u then us) e = absurd (false≢true e)
stretched-same (p then end) (t then ts) end e = absurd (false≢true e)
stretched-same (p then end) (t then ts) (u then us) e = ap (p then◌) (repeated-same p ts us e)
stretched-same (p then (q then ps)) end end e = refl
stretched-same (p then (q then ps)) end (u then us) e = absurd (false≢true e)
stretched-same (p then (q then ps)) (t then ts) end e = absurd (false≢true e)
stretched-same (p then (q then ps)) (t then ts) (u then us) e = ap (p then◌) (stretched-same (q then ps) ts us e)

-- Replacing changes no count, so a rank has the same patterns for replaced arguments.
pub count-stays : (σ : Map) (ts : Sorts) → same_count (apply_all σ ts) ts ≡ true
unfolding same_count apply
count-stays σ end = refl
count-stays σ (t then ts) = count-stays σ ts

pub stretched-moved : (σ : Map) (ps ts : Sorts) → stretched ps (apply_all σ ts) ≡ stretched ps ts
stretched-moved σ ps ts = stretched-same ps (apply_all σ ts) ts (count-stays σ ts)

pub patterns-moved : (σ : Map) (rep : Bool) (ps ts : Sorts) → patterns rep ps (apply_all σ ts) ≡ patterns rep ps ts
patterns-moved σ true ps ts = stretched-moved σ ps ts
patterns-moved σ false ps ts = refl

pub same_count-moved : (σ : Map) (ps ts : Sorts) → same_count ps (apply_all σ ts) ≡ same_count ps ts
unfolding same_count apply
same_count-moved σ end end = refl
same_count-moved σ end (t then ts) = refl
same_count-moved σ (p then ps) end = refl
same_count-moved σ (p then ps) (t then ts) = same_count-moved σ ps ts

-- So a rank has the count of replaced arguments exactly when it has that of the arguments.
pub counts-moved : (σ : Map) (r : Rank) (ts : Sorts) → counts r (apply_all σ ts) ≡ counts r ts
unfolding counts
counts-moved σ (rank rep vs ps r) ts = rw (patterns-moved σ rep ps ts) (same_count-moved σ (patterns rep ps ts) ts)
counts-moved σ (computed f) ts = takes_moved σ f ts

pub some_counts-moved : (σ : Map) (rs : List Rank) (ts : Sorts) → some_counts rs (apply_all σ ts) ≡ some_counts rs ts
unfolding some_counts
some_counts-moved σ [] ts = refl
some_counts-moved σ (r ∷ rs) ts = rw (counts-moved σ r ts, some_counts-moved σ rs ts) refl

---------------------------------------------------------------- results
-- Every variable of a rank's result stands in its arguments.
unfoldable mutual
  unfolding occurs

  pub closed : Sorts → Sort → Bool
  closed ps (var v) = occurs_any v ps
  closed ps (par ns b) = false
  closed ps (node k a w ss) = closed_all ps ss

  pub closed_all : Sorts → Sorts → Bool
  closed_all ps end = true
  closed_all ps (s then ss) = closed ps s && closed_all ps ss

-- Such a result, replaced by the assignment put through σ, is the result replaced by the assignment and then by σ.
mutual
  unfolding closed apply

  pub closed-apply : (σ m : Map) (ps : Sorts) (r : Sort) → ((v : ℕ) → occurs_any v ps ≡ true → bound m v ≡ true) → closed ps r ≡ true
      → apply (through σ m) r ≡ apply σ (apply m r)
  closed-apply σ m ps (var v) b c =
      by_option (find m v)
      (λ f. let z : false ≡ true = rw f at (b v c) in absurd (false≢true z))
      (λ s f. rw (f, find-through σ m v s f) refl)
  closed-apply σ m ps (par ns r) b c = absurd (false≢true c)
  closed-apply σ m ps (node k a w ss) b c = ap (node k a w) (closed_all-apply σ m ps ss b c)

  pub closed_all-apply : (σ m : Map) (ps rs : Sorts) → ((v : ℕ) → occurs_any v ps ≡ true → bound m v ≡ true) → closed_all ps rs ≡ true
      → apply_all (through σ m) rs ≡ apply_all σ (apply_all m rs)
  closed_all-apply σ m ps end b c = refl
  closed_all-apply σ m ps (r then rs) b c =
      let p = closed-apply σ m ps r b (search conj) in
      let q = closed_all-apply σ m ps rs b (search conj) in cc

-- A repeated pattern loses no variable.
pub stretched-occurs : (v : ℕ) (ps ts : Sorts) → occurs_any v ps ≡ true → occurs_any v (stretched ps ts) ≡ true
unfolding stretched occurs
stretched-occurs v end ts o = o
stretched-occurs v (p then end) end o = o
stretched-occurs v (p then end) (t then ts) o = by_test (occurs v p) (λ q. rw q refl) (λ q. let z : false ≡ true = rw q at o in absurd (false≢true z))
stretched-occurs v (p then (q then ps)) end o = o
stretched-occurs v (p then (q then ps)) (t then ts) o =
    by_test (occurs v p) (λ e. rw e refl) (λ e. rw e (stretched-occurs v (q then ps) ts (rw e at o)))

pub patterns-occurs : (rep : Bool) (v : ℕ) (ps ts : Sorts) → occurs_any v ps ≡ true → occurs_any v (patterns rep ps ts) ≡ true
patterns-occurs true v ps ts o = stretched-occurs v ps ts o
patterns-occurs false v ps ts o = o

-- A repeated pattern brings no Par.
pub repeated-parless : (p : Sort) (ts : Sorts) → parless p ≡ true → parless_all (repeated p ts) ≡ true
unfolding repeated parless
repeated-parless p end e = refl
repeated-parless p (t then ts) e = and-true (parless p) (parless_all (repeated p ts)) e (repeated-parless p ts e)

pub stretched-parless : (ps ts : Sorts) → parless_all ps ≡ true → parless_all (stretched ps ts) ≡ true
unfolding stretched parless
stretched-parless end ts e = refl
stretched-parless (p then end) end e = e
stretched-parless (p then end) (t then ts) e =
    let z = and_left (parless p) true e in and-true (parless p) (parless_all (repeated p ts)) z (repeated-parless p ts z)
stretched-parless (p then (q then ps)) end e = e
stretched-parless (p then (q then ps)) (t then ts) e =
    and-true (parless p) (parless_all (stretched (q then ps) ts)) (and_left (parless p) (parless_all (q then ps)) e)
    (stretched-parless (q then ps) ts (and_right (parless p) (parless_all (q then ps)) e))

pub patterns-parless : (rep : Bool) (ps ts : Sorts) → parless_all ps ≡ true → parless_all (patterns rep ps ts) ≡ true
patterns-parless true ps ts e = stretched-parless ps ts e
patterns-parless false ps ts e = e

-- A vector stays as it is.
pub vector-still : (σ : Map) (s : Sort) → vector s ≡ true → apply σ s ≡ s
unfolding apply
vector-still σ s e = let q = vector-is s e in ap (apply σ) q ∙ sym q

pub vectors_in-moved : (σ m : Map) → vectors_in m ≡ true → vectors_in (through σ m) ≡ true
unfolding vectors_in through
vectors_in-moved σ empty e = refl
vectors_in-moved σ (bind v s m) e =
    let h = and_left (vector s) (vectors_in m) e in
    and-true (vector (apply σ s)) (vectors_in (through σ m)) (rw (vector-still σ s h) h) (vectors_in-moved σ m (search conj))

-- A rank without Par, whose result is proper and has no variable of its own.
unfoldable pub well_rank : Rank → Bool
unfolding closed proper parless well_form
well_rank (rank rep vs ps r) = closed ps r && proper r && parless_all ps
well_rank (computed f) = well_form f

-- A rank that fits still fits, with the replaced result: its patterns match the replaced arguments with the replaced map.
pub fit-moved : (σ : Map) (r : Rank) (ts : Sorts) (s : Sort) → well_rank r ≡ true → fit r ts ≡ some s → fit r (apply_all σ ts) ≡ some (apply σ s)
unfolding fit well_rank through
fit-moved σ (rank rep vs ps r) ts s e h =
    by_option (matches_all every_name (patterns rep ps ts) ts empty)
    (λ q. let z : rank_answer vs r none ≡ some s = rw q at h in none-some z)
    (λ m q. rw (patterns-moved σ rep ps ts, match_all-target-moved σ every_name (patterns rep ps ts) ts empty m (λ v o. refl) q) (go vs m q (rw q at h)))
  where
    c : (m : Map) → matches_all every_name (patterns rep ps ts) ts empty ≡ some m → apply (through σ m) r ≡ apply σ (apply m r)
    c m q = closed-apply σ m ps r (λ v o. match_all-binds every_name (patterns rep ps ts) ts empty m v q refl (patterns-occurs rep v ps ts o)) (search conj)

    go : (b : Bool) (m : Map) → matches_all every_name (patterns rep ps ts) ts empty ≡ some m → rank_answer b r (some m) ≡ some s → rank_answer b r (some (through σ m)) ≡ some (apply σ s)
    go true m q k =
        by_test (vectors_in m)
        (λ w. let z : some (apply m r) ≡ some s = rw w at k in rw (vectors_in-moved σ m w, c m q, some_inj z) refl)
        (λ w. let z : none ≡ some s = rw w at k in none-some z)
    go false m q k = rw (c m q, some_inj k) refl
fit-moved σ (computed f) ts s e h =
    computes-when f (apply_all σ ts) (apply σ s) (computes-moved σ f ts s e (computes-only f ts s h))

-- A result over proper arguments is proper.
pub fit-proper : (r : Rank) (ts : Sorts) (s : Sort) → well_rank r ≡ true → proper_all ts ≡ true → fit r ts ≡ some s → proper s ≡ true
unfolding fit well_rank
fit-proper (rank rep vs ps r) ts s e p h =
    by_option (matches_all every_name (patterns rep ps ts) ts empty)
    (λ q. let z : rank_answer vs r none ≡ some s = rw q at h in none-some z)
    (λ m q. go vs m (rw q at h) (apply-proper m r (match_all-proper every_name (patterns rep ps ts) ts empty m p (unfold proper_map in refl) q) (search conj)))
  where
    go : (b : Bool) (m : Map) → rank_answer b r (some m) ≡ some s → proper (apply m r) ≡ true → proper s ≡ true
    go true m k d =
        by_test (vectors_in m)
        (λ w. let z : some (apply m r) ≡ some s = rw w at k in rw (← some_inj z) d)
        (λ w. let z : none ≡ some s = rw w at k in none-some z)
    go false m k d = rw (← some_inj k) d
fit-proper (computed f) ts s e p h = computes-proper f ts s e p (computes-only f ts s h)
