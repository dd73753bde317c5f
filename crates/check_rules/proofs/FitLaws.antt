-- When a rank fits, in terms of assignments: the map that matching finds is an assignment of the rank's variables, and every
-- assignment that turns its argument sorts into the actual ones is found.
use Rattle.std.specs.Prelude.{ℕ, zero, suc, ◌≡◌, Bool, true, false, ◌&&◌, List, [], ◌∷◌, eqb}
use Rattle.std.proofs.Common.{sym, ap, ◌∙◌, true≢false, eqb-true}
use Rattle.std.proofs.Math.Path.{refl}
use Rattle.std.proofs.lemmas.Bool.{false≢true, eqb-false}
use Rattle.std.proofs.Math.Option.{none, some}
use Rattle.record.specs.Sort.{Sort, Sorts, var, par, node, end, ◌then◌, bitvec, number_in, same}
use Rattle.record.specs.SortLaws.{same-complete}
use Rattle.record.specs.Cases.{and_left, and_right, conj, and-true, or-second, three, eqb-self, by_test, by_option, none-some, some_inj}
use Rattle.substitution.specs.Substitution.{Map, empty, bind, find, apply, apply_all, occurs, occurs_any}
use Rattle.substitution.proofs.SubstitutionLaws.{proper-parless}
use Rattle.substitution.specs.Premises.{proper, parless, parless_all}
use Rattle.substitution.specs.Matching.{matches, matches_all}
use Rattle.substitution.proofs.MatchingLaws.{keep-rest, and_then-middle}
use Rattle.substitution.proofs.MatchingTheorems.{matching_all}
use Rattle.row_rules.specs.declared.Cause.{Cause}
use Rattle.row_rules.specs.declared.Cause.TheVariants.{NoRank, Count, Misfit}
use Rattle.row_rules.specs.Verdict.{sort, refused, or_cause, number_of}
use Rattle.check_rules.specs.Rank.{Rank, rank, repeated, stretched, patterns, same_count, counts, vector, vectors_in, every_name, rank_answer, fit, first_fit, some_counts, computed}
use Rattle.check_rules.specs.RankLaws.{closed, closed_all, patterns-occurs, vector-is, well_rank, patterns-parless}
use Rattle.check_rules.proofs.RankSound.{Sound}
use Rattle.check_rules.specs.FormLaws.{computes-only, computes-when, computes-count}
use Rattle.check_rules.specs.Fits.{Fits, rank_at, SomeFits}
use Rattle.check_rules.specs.Checked.{values, nonempty, ranked, operated}

---------------------------------------------------------------- two assignments that agree
-- Two maps that make the same of every variable in a sort without Par make the same of the sort.
mutual
  unfolding apply occurs parless

  pub apply-like : (m n : Map) (s : Sort) → parless s ≡ true → ((v : ℕ) → occurs v s ≡ true → apply m (var v) ≡ apply n (var v)) → apply m s ≡ apply n s
  apply-like m n (var v) e h = h v (eqb-self v)
  apply-like m n (par ns b) e h = absurd (false≢true e)
  apply-like m n (node k a w ss) e h = ap (node k a w) (apply_all-like m n ss e h)

  pub apply_all-like : (m n : Map) (ss : Sorts) → parless_all ss ≡ true → ((v : ℕ) → occurs_any v ss ≡ true → apply m (var v) ≡ apply n (var v)) → apply_all m ss ≡ apply_all n ss
  apply_all-like m n end e h = refl
  apply_all-like m n (s then ss) e h =
      let p = apply-like m n s (search conj) (λ v o. h v (rw o refl)) in
      let q = apply_all-like m n ss (search conj) (λ v o. h v (or-second (occurs v s) (occurs_any v ss) o)) in cc

-- A variable of a result stands in the arguments.
mutual
  unfolding closed occurs

  pub closed-occurs : (ps : Sorts) (r : Sort) (v : ℕ) → closed ps r ≡ true → occurs v r ≡ true → occurs_any v ps ≡ true
  closed-occurs ps (var u) v c o = rw (eqb-true u v o) at c
  closed-occurs ps (par ns b) v c o = absurd (false≢true c)
  closed-occurs ps (node k a w ss) v c o = closed_all-occurs ps ss v c o

  pub closed_all-occurs : (ps ss : Sorts) (v : ℕ) → closed_all ps ss ≡ true → occurs_any v ss ≡ true → occurs_any v ps ≡ true
  closed_all-occurs ps end v c o = absurd (false≢true o)
  closed_all-occurs ps (s then ss) v c o =
      by_test (occurs v s)
      (λ q. closed-occurs ps s v (search conj) q)
      (λ q. closed_all-occurs ps ss v (search conj) (rw q at o))

---------------------------------------------------------------- repeated patterns
pub repeated-occurs : (v : ℕ) (p : Sort) (ts : Sorts) → occurs_any v (repeated p ts) ≡ true → occurs v p ≡ true
unfolding repeated occurs
repeated-occurs v p end o = absurd (false≢true o)
repeated-occurs v p (t then ts) o = by_test (occurs v p) (λ q. q) (λ q. repeated-occurs v p ts (rw q at o))

-- A repeated pattern adds no variable.
pub stretched-only : (v : ℕ) (ps ts : Sorts) → occurs_any v (stretched ps ts) ≡ true → occurs_any v ps ≡ true
unfolding stretched occurs
stretched-only v end ts o = o
stretched-only v (p then end) end o = o
stretched-only v (p then end) (t then ts) o =
    by_test (occurs v p) (λ q. rw q refl) (λ q. let z : false ≡ true = sym q ∙ repeated-occurs v p ts (rw q at o) in absurd (false≢true z))
stretched-only v (p then (q then ps)) end o = o
stretched-only v (p then (q then ps)) (t then ts) o =
    by_test (occurs v p) (λ e. rw e refl) (λ e. rw e (stretched-only v (q then ps) ts (rw e at o)))

pub patterns-only : (rep : Bool) (v : ℕ) (ps ts : Sorts) → occurs_any v (patterns rep ps ts) ≡ true → occurs_any v ps ≡ true
patterns-only true v ps ts o = stretched-only v ps ts o
patterns-only false v ps ts o = o

-- Patterns that match are as many as the arguments.
pub match-count : (l : ℕ → Bool) (ps ts : Sorts) (m m' : Map) → matches_all l ps ts m ≡ some m' → same_count ps ts ≡ true
unfolding matches same_count
match-count l end end m m' h = refl
match-count l end (t then ts) m m' h = none-some h
match-count l (p then ps) end m m' h = none-some h
match-count l (p then ps) (t then ts) m m' h =
    let (k, g, r) = and_then-middle (matches l p t m) (λ k. matches_all l ps ts k) m' h in match-count l ps ts k m' r

---------------------------------------------------------------- vectors
-- What a map of vectors binds is a vector.
pub vectors-find : (m : Map) (v : ℕ) (s : Sort) → vectors_in m ≡ true → find m v ≡ some s → vector s ≡ true
unfolding vectors_in find
vectors-find empty v s e f = none-some f
vectors-find (bind u r m) v s e f =
    by_test (eqb u v)
    (λ q. let g : some r ≡ some s = rw q at f in rw (← some_inj g) (and_left (vector r) (vectors_in m) e))
    (λ q. vectors-find m v s (and_right (vector r) (vectors_in m) e) (rw q at f))

pub vector-when : (s : Sort) (w : ℕ) → s ≡ bitvec w → vector s ≡ true
vector-when s w e = same-complete s (bitvec (number_in s)) (rw e refl)

-- Where an assignment gives vectors for the variables of the patterns, the map found holds vectors only.
mutual
  unfolding matches apply occurs vectors_in

  pub match-vectors : (p t : Sort) (m m' θ : Map) → matches every_name p t m ≡ some m' → apply θ p ≡ t
      → ((v : ℕ) → occurs v p ≡ true → vector (apply θ (var v)) ≡ true) → vectors_in m ≡ true → vectors_in m' ≡ true
  match-vectors (var v) t m m' θ h a d e =
      by_option (find m v)
      (λ f. rw (← some_inj (rw f at h)) (and-true (vector t) (vectors_in m) (rw a at (d v (eqb-self v))) e))
      (λ s f. rw (← some_inj (keep-rest (same s t) (some m) m' (rw f at h))) e)
  match-vectors (par us b) t m m' θ h a d e = none-some h
  match-vectors (node k a w ps) (var v) m m' θ h q d e = none-some h
  match-vectors (node k a w ps) (par us b) m m' θ h q d e = none-some h
  match-vectors (node k a w ps) (node l c x ts) m m' θ h q d e =
      let z : apply_all θ ps ≡ ts = cc in
      match_all-vectors ps ts m m' θ (keep-rest (eqb k l && eqb a c && eqb w x) (matches_all every_name ps ts m) m' h) z d e

  pub match_all-vectors : (ps ts : Sorts) (m m' θ : Map) → matches_all every_name ps ts m ≡ some m' → apply_all θ ps ≡ ts
      → ((v : ℕ) → occurs_any v ps ≡ true → vector (apply θ (var v)) ≡ true) → vectors_in m ≡ true → vectors_in m' ≡ true
  match_all-vectors end end m m' θ h a d e = rw (← some_inj h) e
  match_all-vectors end (t then ts) m m' θ h a d e = none-some h
  match_all-vectors (p then ps) end m m' θ h a d e = none-some h
  match_all-vectors (p then ps) (t then ts) m m' θ h a d e =
      let (k, g, r) = and_then-middle (matches every_name p t m) (λ k. matches_all every_name ps ts k) m' h in
      let y : apply θ p ≡ t = cc in
      let z : apply_all θ ps ≡ ts = cc in
      match_all-vectors ps ts k m' θ r z (λ v o. d v (or-second (occurs v p) (occurs_any v ps) o))
      (match-vectors p t m k θ g y (λ v o. d v (rw o refl)) e)

---------------------------------------------------------------- the test `fit` is that
pub answer-parts : (vs : Bool) (r : Sort) (m : Map) (s : Sort) → rank_answer vs r (some m) ≡ some s → (vs ≡ true → vectors_in m ≡ true) × (apply m r ≡ s)
answer-parts true r m s h =
    by_test (vectors_in m)
    (λ w. let z : some (apply m r) ≡ some s = rw w at h in (λ _. w, some_inj z))
    (λ w. let z : none ≡ some s = rw w at h in none-some z)
answer-parts false r m s h = (λ q. absurd (false≢true q), some_inj h)

pub answer-when : (vs : Bool) (r : Sort) (m : Map) (s : Sort) → (vs ≡ true → vectors_in m ≡ true) → apply m r ≡ s → rank_answer vs r (some m) ≡ some s
answer-when true r m s w h = rw (w refl, h) refl
answer-when false r m s w h = rw h refl

-- A success of the test is an assignment: matching's.
pub fit-fits : (r : Rank) (ts : Sorts) (s : Sort) → well_rank r ≡ true → fit r ts ≡ some s → Fits r ts s
unfolding fit well_rank
fit-fits (rank rep vs ps r) ts s e h =
    let (c, p, l) = three (closed ps r) (proper r) (parless_all ps) e in
    let M = matching_all every_name (patterns rep ps ts) ts (patterns-parless rep ps ts l) in
    by_option (matches_all every_name (patterns rep ps ts) ts empty)
    (λ q. let z : rank_answer vs r none ≡ some s = rw q at h in none-some z)
    (λ m q. let (vm, am) = answer-parts vs r m s (rw q at h) in record {
      assignment = m;
      turns = (M.success m q).1;
      widths = λ b v o.
          by_option (find m v)
          (λ f. let z : false ≡ true = rw f at (M.binds m q v refl (patterns-occurs rep v ps ts o)) in absurd (false≢true z))
          (λ t f. (number_in t, unfold apply in rw f (vector-is t (vectors-find m v t (vm b) f))));
      result = am;
    })
fit-fits (computed f) ts s e h = computes-only f ts s h

-- And an assignment makes the test succeed: matching finds it, on the variables of the arguments, and the result has no other.
pub fits-fit : (r : Rank) (ts : Sorts) (s : Sort) → well_rank r ≡ true → Fits r ts s → fit r ts ≡ some s
unfolding fit well_rank vectors_in
fits-fit (rank rep vs ps r) ts s e F =
    let (c, p, l) = three (closed ps r) (proper r) (parless_all ps) e in
    let θ = F.assignment in
    let (m, f, g) = (matching_all every_name (patterns rep ps ts) ts (patterns-parless rep ps ts l)).found θ (λ v q. absurd (true≢false q)) F.turns in
    let a : apply m r ≡ s =
    apply-like m θ r (proper-parless r p)
    (λ v o. unfold apply in rw (g v refl (patterns-occurs rep v ps ts (closed-occurs ps r v c o))) refl) ∙ F.result in
    rw f (answer-when vs r m s
    (λ b. match_all-vectors (patterns rep ps ts) ts empty m θ f F.turns
    (λ v o. let (w, q) = F.widths b v (patterns-only rep v ps ts o) in vector-when (apply θ (var v)) w q) refl) a)
fits-fit (computed f) ts s e F = computes-when f ts s F

-- A rank that fits has this count of arguments.
pub fit-counts : (r : Rank) (ts : Sorts) (s : Sort) → fit r ts ≡ some s → counts r ts ≡ true
unfolding fit counts
fit-counts (rank rep vs ps r) ts s h =
    by_option (matches_all every_name (patterns rep ps ts) ts empty)
    (λ q. let z : rank_answer vs r none ≡ some s = rw q at h in none-some z)
    (λ m q. match-count every_name (patterns rep ps ts) ts empty m q)
fit-counts (computed f) ts s h = computes-count f ts s (computes-only f ts s h)

---------------------------------------------------------------- lists of ranks
pub sound-well : (rs : List Rank) (i : ℕ) (r : Rank) → Sound rs → rank_at rs i ≡ some r → well_rank r ≡ true
unfolding rank_at
sound-well [] i r S h = none-some h
sound-well (q ∷ qs) zero r S h = rw (← some_inj h) S.0
sound-well (q ∷ qs) (suc i) r S h = sound-well qs i r S.2 h

pub first_fit-find : (rs : List Rank) (ts : Sorts) (s : Sort) → first_fit rs ts ≡ some s
    → (i : ℕ) × (r : Rank) × (rank_at rs i ≡ some r) × (fit r ts ≡ some s)
unfolding first_fit rank_at
first_fit-find [] ts s h = none-some h
first_fit-find (q ∷ qs) ts s h =
    by_option (fit q ts)
    (λ n. let (i, r, l, f) = first_fit-find qs ts s (rw n at h) in (suc i, r, l, f))
    (λ u n. let z : some u ≡ some s = rw n at h in (zero, q, refl, n ∙ z))

pub first_fit-when : (rs : List Rank) (i : ℕ) (r : Rank) (ts : Sorts) (s : Sort) → Sound rs → rank_at rs i ≡ some r → fit r ts ≡ some s → first_fit rs ts ≡ some s
unfolding first_fit rank_at
first_fit-when [] i r ts s S l h = none-some l
first_fit-when (q ∷ qs) zero r ts s S l h = let z : fit q ts ≡ some s = rw (some_inj l) h in rw z refl
first_fit-when (q ∷ qs) (suc i) r ts s S l h =
    let z = first_fit-when qs i r ts s S.2 l h in
    by_option (fit q ts) (λ n. rw n z) (λ u n. absurd (S.1 ts u s n z))

pub some_counts-when : (rs : List Rank) (i : ℕ) (r : Rank) (ts : Sorts) → rank_at rs i ≡ some r → counts r ts ≡ true → some_counts rs ts ≡ true
unfolding some_counts rank_at
some_counts-when [] i r ts l h = none-some l
some_counts-when (q ∷ qs) zero r ts l h = let z : counts q ts ≡ true = rw (some_inj l) h in rw z refl
some_counts-when (q ∷ qs) (suc i) r ts l h = or-second (counts q ts) (some_counts qs ts) (some_counts-when qs i r ts l h)

pub some_counts-nonempty : (rs : List Rank) (ts : Sorts) → some_counts rs ts ≡ true → nonempty rs ≡ true
unfolding some_counts
some_counts-nonempty [] ts h = absurd (false≢true h)
some_counts-nonempty (r ∷ rs) ts h = refl

pub first_fit-some : (rs : List Rank) (ts : Sorts) (s : Sort) → Sound rs → first_fit rs ts ≡ some s → SomeFits rs ts s
first_fit-some rs ts s S h =
    let (i, r, l, f) = first_fit-find rs ts s h in
    record { place = i; chosen = r; listed = l; fits = fit-fits r ts s (sound-well rs i r S l) f }

pub some_fit : (rs : List Rank) (ts : Sorts) (s : Sort) → Sound rs → (F : SomeFits rs ts s) → fit F.chosen ts ≡ some s
some_fit rs ts s S F = fits-fit F.chosen ts s (sound-well rs F.place F.chosen S F.listed) F.fits

pub some-first_fit : (rs : List Rank) (ts : Sorts) (s : Sort) → Sound rs → SomeFits rs ts s → first_fit rs ts ≡ some s
some-first_fit rs ts s S F = first_fit-when rs F.place F.chosen ts s S F.listed (some_fit rs ts s S F)

---------------------------------------------------------------- verdicts apart
pub sort-refused : {C : Type 0} {s : Sort} {c : Cause} → sort s ≡ refused c → C
sort-refused {C} {s} {c} e = let z : true ≡ false = cc in absurd (true≢false z)

pub other-cause : {C : Type 0} {c d : Cause} → eqb (number_of c) (number_of d) ≡ false → refused c ≡ refused d → C
other-cause {C} {c} {d} e h = let q : c ≡ d = cc in absurd (eqb-false (number_of c) (number_of d) e (ap number_of q))

-- The order of `ranked`: 24, 25, 26 for a Par, 26 for a misfit.
pub ranked-unranked : (rs : List Rank) (ts : Sorts) → nonempty rs ≡ false → ranked rs ts ≡ refused NoRank
unfolding ranked
ranked-unranked rs ts a = rw a refl

pub ranked-miscounted : (rs : List Rank) (ts : Sorts) → nonempty rs ≡ true → some_counts rs ts ≡ false → ranked rs ts ≡ refused Count
unfolding ranked
ranked-miscounted rs ts a b = rw (a, b) refl

pub ranked-par : (rs : List Rank) (ts : Sorts) → some_counts rs ts ≡ true → values ts ≡ false → ranked rs ts ≡ refused Misfit
unfolding ranked
ranked-par rs ts b c = rw (some_counts-nonempty rs ts b, b, c) refl

pub ranked-values : (rs : List Rank) (ts : Sorts) → some_counts rs ts ≡ true → values ts ≡ true → ranked rs ts ≡ or_cause (first_fit rs ts) Misfit
unfolding ranked
ranked-values rs ts b c = rw (some_counts-nonempty rs ts b, b, c) refl

-- Which of these it is.
pub by_ranked : {C : Type 0} (rs : List Rank) (ts : Sorts) → (nonempty rs ≡ false → ranked rs ts ≡ refused NoRank → C)
    → (nonempty rs ≡ true → some_counts rs ts ≡ false → ranked rs ts ≡ refused Count → C)
    → (some_counts rs ts ≡ true → values ts ≡ false → ranked rs ts ≡ refused Misfit → C)
    → (some_counts rs ts ≡ true → values ts ≡ true → first_fit rs ts ≡ none → ranked rs ts ≡ refused Misfit → C)
    → ((s : Sort) → values ts ≡ true → first_fit rs ts ≡ some s → ranked rs ts ≡ sort s → C) → C
by_ranked rs ts unranked miscounted parametric misfit good =
    by_test (nonempty rs)
    (λ a. by_test (some_counts rs ts)
    (λ b. by_test (values ts)
    (λ c. by_option (first_fit rs ts)
    (λ f. misfit b c f (ranked-values rs ts b c ∙ rw f refl))
    (λ s f. good s c f (ranked-values rs ts b c ∙ rw f refl)))
    (λ c. parametric b c (ranked-par rs ts b c)))
    (λ b. miscounted a b (ranked-miscounted rs ts a b)))
    (λ a. unranked a (ranked-unranked rs ts a))

pub operated-ranked : (R : ℕ → List Rank) (n : ℕ) (ts : Sorts) → operated R n ts ≡ ranked (R n) ts
unfolding operated
operated-ranked R n ts = refl
