-- RANKS THAT ACCEPT MORE KEEP EVERY CHECKED SORT (document 02, A.1: "Terms that had a checked sort keep it"). First for any two
-- verdicts on records of which one gives the sorts of the other, then for ranks, then for the ranks of document 01 and those that
-- the requests of document 02 add.
use Rattle.std.specs.Prelude.{ℕ, ◌≡◌, refl, Bool, true, false, cond, ◌&&◌, List, [], ◌∷◌, ◌++◌, eqb, leb}
use Rattle.std.proofs.Common.{ap}
use Rattle.std.proofs.lemmas.Bool.{false≢true}
use Rattle.std.proofs.Math.Option.{Option, none, some}
use Rattle.record.specs.Sort.{Sort, Sorts}
use Rattle.record.specs.Cases.{or-first, or-second, or_cases, by_test, by_option, none-some}
use Rattle.row_rules.specs.declared.Cause.{Cause}
use Rattle.row_rules.specs.declared.Cause.TheVariants.{NoRank, Count, Misfit}
use Rattle.row_rules.specs.Verdict.{Verdict, sort, need, or_cause}
use Rattle.row_rules.specs.Term.{Site, Term, Terms, term, stop, ◌also◌, constants_of, verdict_of, verdicts_of}
use Rattle.row_rules.proofs.OutcomeLaws.{refused-sort}
use Rattle.check_rules.specs.Rank.{Rank, fit, first_fit, counts, some_counts}
use Rattle.check_rules.specs.Ranks.{RankTable, done, row, enlarged, ranks_in, first_in, standard, smt_lib, document01}
use Rattle.check_rules.specs.Checked.{values, nonempty, ranked, operated, checked, check}
use Rattle.check_rules.proofs.RouteLaws.{parts, besides-parts}

---------------------------------------------------------------- verdicts
-- A verdict on records that gives every sort that another gives.
abbrev pub GivesMore : (Site → Verdict) → (Site → Verdict) → Type 0
GivesMore J K = (z : Site) (s : Sort) → J z ≡ sort s → K z ≡ sort s

-- It does so for trees.
mutual
  unfolding verdict_of

  pub verdict-more : (J K : Site → Verdict) → GivesMore J K → (t : Term) (s : Sort) → verdict_of J t ≡ sort s → verdict_of K t ≡ sort s
  verdict-more J K m (term k a n o ts bs ns is) s h =
      let (ss, js, p, q, r) = parts J k n o bs (constants_of ts) (constants_of is) (verdicts_of J ts) (verdicts_of J is) s h in
      rw (verdicts-more J K m ts ss p, verdicts-more J K m is js q)
      (m (record { kind = k; number = n; own = o; args = ss; bindings = bs; constants = constants_of ts; indices = constants_of is }) s r)

  pub verdicts-more : (J K : Site → Verdict) → GivesMore J K → (ts : Terms) (ss : Sorts) → verdicts_of J ts ≡ some ss → verdicts_of K ts ≡ some ss
  verdicts-more J K m stop ss h = h
  verdicts-more J K m (t also ts) ss h =
      let (r, rs, p, q, z) = besides-parts (verdict_of J t) (verdicts_of J ts) ss h in
      rw (verdict-more J K m t r p, verdicts-more J K m ts rs q) (ap some z)

---------------------------------------------------------------- ranks
-- RANKS THAT ACCEPT MORE: every sort that the ranks R give to an operator's arguments, the ranks R' give.
abbrev pub More : (ℕ → List Rank) → (ℕ → List Rank) → Type 0
More R R' = (n : ℕ) (ts : Sorts) (s : Sort) → operated R n ts ≡ sort s → operated R' n ts ≡ sort s

-- Only operators look at the ranks.
pub cond_more : (b : Bool) (u v w : Verdict) (s : Sort) → (u ≡ sort s → v ≡ sort s) → cond b u w ≡ sort s → cond b v w ≡ sort s
cond_more true u v w s f e = f e
cond_more false u v w s f e = e

pub else-more : (b : Bool) (u v w : Verdict) (s : Sort) → (v ≡ sort s → w ≡ sort s) → cond b u v ≡ sort s → cond b u w ≡ sort s
else-more true u v w s f e = e
else-more false u v w s f e = f e

pub checked-more : (R R' : ℕ → List Rank) → More R R' → GivesMore (checked R) (checked R')
unfolding checked
checked-more R R' m z s =
    else-more (eqb z.kind 0) _ _ _ s (else-more (eqb z.kind 1) _ _ _ s (else-more (eqb z.kind 2) _ _ _ s
    (else-more (eqb z.kind 3) _ _ _ s (else-more (eqb z.kind 4) _ _ _ s (else-more (eqb z.kind 5) _ _ _ s
    (else-more (eqb z.kind 6) _ _ _ s (cond_more (eqb z.kind 7) _ _ _ s (m z.number z.args s))))))))

-- RANKS THAT ACCEPT MORE KEEP EVERY CHECKED SORT.
pub check-more : (R R' : ℕ → List Rank) → More R R' → (t : Term) (s : Sort) → check R t ≡ sort s → check R' t ≡ sort s
unfolding check
check-more R R' m t s h = verdict-more (checked R) (checked R') (checked-more R R' m) t s h

---------------------------------------------------------------- ranks behind others
-- Ranks put behind others change nothing where these fit.
pub first_fit-more : (rs qs : List Rank) (ts : Sorts) (s : Sort) → first_fit rs ts ≡ some s → first_fit (rs ++ qs) ts ≡ some s
unfolding first_fit
first_fit-more [] qs ts s h = none-some h
first_fit-more (r ∷ rs) qs ts s h =
    by_option (fit r ts)
    (λ n. rw n (first_fit-more rs qs ts s (rw n at h)))
    (λ u n. rw n (rw n at h))

pub some_counts-more : (rs qs : List Rank) (ts : Sorts) → some_counts rs ts ≡ true → some_counts (rs ++ qs) ts ≡ true
unfolding some_counts
some_counts-more [] qs ts h = absurd (false≢true h)
some_counts-more (r ∷ rs) qs ts h =
    or_cases (counts r ts) (some_counts rs ts) h
    (λ q. or-first (counts r ts) (some_counts (rs ++ qs) ts) q)
    (λ q. or-second (counts r ts) (some_counts (rs ++ qs) ts) (some_counts-more rs qs ts q))

pub nonempty-more : (rs qs : List Rank) → nonempty rs ≡ true → nonempty (rs ++ qs) ≡ true
nonempty-more [] qs h = absurd (false≢true h)
nonempty-more (r ∷ rs) qs h = refl

pub need-more : (a b : Bool) (c : Cause) (v w : Verdict) (s : Sort) → (a ≡ true → b ≡ true) → (v ≡ sort s → w ≡ sort s) → need a c v ≡ sort s → need b c w ≡ sort s
need-more true b c v w s f g e = rw (f refl) (g e)
need-more false b c v w s f g e = refused-sort e

pub or_else-more : (o p : Option Sort) (c : Cause) (s : Sort) → ((u : Sort) → o ≡ some u → p ≡ some u) → or_cause o c ≡ sort s → or_cause p c ≡ sort s
or_else-more none p c s f e = refused-sort e
or_else-more (some u) p c s f e = rw (f u refl) e

pub ranked-more : (rs qs : List Rank) (ts : Sorts) (s : Sort) → ranked rs ts ≡ sort s → ranked (rs ++ qs) ts ≡ sort s
unfolding ranked
ranked-more rs qs ts s =
    need-more (nonempty rs) (nonempty (rs ++ qs)) NoRank _ _ s (nonempty-more rs qs)
    (need-more (some_counts rs ts) (some_counts (rs ++ qs) ts) Count _ _ s (some_counts-more rs qs ts)
    (need-more (values ts) (values ts) Misfit _ _ s (λ q. q)
    (or_else-more (first_fit rs ts) (first_fit (rs ++ qs) ts) Misfit s (λ u. first_fit-more rs qs ts u))))

---------------------------------------------------------------- tables
-- The enlarged rows of a table accept more.
pub table_more : (t : RankTable) (n : ℕ) (ts : Sorts) (s : Sort) → ranked (first_in t n) ts ≡ sort s → ranked (ranks_in t n) ts ≡ sort s
unfolding first_in ranks_in
table_more done n ts s h = h
table_more (row a b rs t) n ts s h =
    by_test (leb a n && leb n b)
    (λ q. rw q (rw q at h))
    (λ q. rw q (table_more t n ts s (rw q at h)))
table_more (enlarged a b rs qs t) n ts s h =
    by_test (leb a n && leb n b)
    (λ q. rw q (ranked-more rs qs ts s (rw q at h)))
    (λ q. rw q (table_more t n ts s (rw q at h)))

pub smt_lib-more : More document01 smt_lib
unfolding operated document01 smt_lib
smt_lib-more n ts s h = table_more standard n ts s h

-- "TERMS THAT HAD A CHECKED SORT KEEP IT": a sort over the ranks of document 01 is the sort over all ranks. 23 belongs to sheets.
pub keeps-sort : (t : Term) (s : Sort) → check document01 t ≡ sort s → check smt_lib t ≡ sort s
keeps-sort = check-more document01 smt_lib smt_lib-more
