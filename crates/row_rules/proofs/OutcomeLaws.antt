-- What the outcome of a verdict leaves: a refusal the store as it was, an answer the store with the sorts inside it and its
-- number there; and when a limit is met, 22 or 23. A coded row keeps its meaning while the store grows.
use Rattle.std.specs.Prelude.{ℕ, ◌*◌, ◌≤◌, ◌<◌, ◌≡◌, refl, Bool, true, false, ◌&&◌, List, ◌↔◌, length, get_or, eqb, leb}
use Rattle.std.proofs.Common.{sym, ap, subst, ◌∙◌, true≢false, arith, leb-true, eq-eqb, ne_eqb}
use Rattle.std.proofs.lemmas.Bool.{false≢true}
use Rattle.record.specs.Sort.{Sort}
use Rattle.record.specs.Record.{leaf}
use Rattle.record.specs.Store.{intern, index_of, bytes_of, room}
use Rattle.record.specs.Cases.{and_right, or-first, or-second, not-true, by_test, clash}
use Rattle.record.specs.SortLists.{Starts, starts-self, starts-trans, starts-intern, starts-at, starts-count, once-intern, ordered-intern, index-found, memb-intern}
use Rattle.record.specs.StoreTheorems.{intern-holds}
use Rattle.sheet.specs.Sheet.{Lengths}
use Rattle.row_rules.specs.declared.Cause.{Cause}
use Rattle.row_rules.specs.declared.Cause.TheVariants.{Below, Panics, Limit, Full, NoRank, Count, Misfit, Unassigned, Barred, NoAssignment}
use Rattle.row_rules.specs.Verdict.{Verdict, sort, refused, number_of}
use Rattle.row_rules.specs.Outcome.{within, outcome}
use Rattle.row_rules.specs.Outcomes.{answered, Accepted, no_limit, Passes, Overflows, Grown}
use Rattle.row_rules.specs.Meaning.{Means, limited}

-- Every refusal is coded by 65,536 or more, every number of a store with room by less than 4,096.
pub refusal-large : (c : Cause) → 65536 ≤ number_of c * 65536
refusal-large Below = omega arith
refusal-large Panics = omega arith
refusal-large Limit = omega arith
refusal-large Full = omega arith
refusal-large NoRank = omega arith
refusal-large Count = omega arith
refusal-large Misfit = omega arith
refusal-large Unassigned = omega arith
refusal-large Barred = omega arith
refusal-large NoAssignment = omega arith

pub room-few : (b p : ℕ) (st : List Sort) → room b p st ≡ true → length st ≤ 4096
unfolding room
room-few b p st e =
    leb-true (length st) 4096
    (and_right (leb (length st) p) (leb (length st) 4096) (and_right (leb (bytes_of st) b) (leb (length st) p && leb (length st) 4096) e))

-- The number of an interned sort.
pub interned-at : (s : Sort) (st : List Sort) → (index_of s (intern s st) < length (intern s st)) × (get_or (intern s st) (index_of s (intern s st)) leaf ≡ s)
interned-at s st = index-found (intern s st) s (memb-intern s st)

-- A REFUSED OUTCOME LEAVES THE STORE AS IT WAS. An answer that is within its limits and has room is no refusal.
pub outcome-refused : (l : Lengths) (st : List Sort) (v : Verdict) → 65536 ≤ (outcome l st v).code → (outcome l st v).store ≡ st
unfolding outcome
outcome-refused l st (refused c) h = refl
outcome-refused l st (sort s) h =
    by_test (within s)
    (λ w. by_test (room l.records l.places (intern s st))
    (λ r.
    let code : 65536 ≤ index_of s (intern s st) = rw (w, r) at h in
    absurd (omega (arith, (interned-at s st).0, room-few l.records l.places (intern s st) r)))
    (λ r. rw (w, r) refl))
    (λ w. rw w refl)

---------------------------------------------------------------- the three ways

pub outcome-is : (l : Lengths) (st : List Sort) (s : Sort) → outcome l st (sort s) ≡ answered l st s (within s) (room l.records l.places (intern s st))
unfolding outcome
outcome-is l st s = refl

accepted-by : (l : Lengths) (st : List Sort) (s : Sort) (w r : Bool) → within s ≡ w → room l.records l.places (intern s st) ≡ r
    → (answered l st s w r).code < 65536 → Accepted l st s (answered l st s w r)
accepted-by l st s true true ew er h =
    record {
      limits = ew;
      roomy = er;
      grown = refl;
      number = refl;
      below = (interned-at s st).0;
      small = omega (arith, (interned-at s st).0, room-few l.records l.places (intern s st) er);
      there = (interned-at s st).1;
      only = λ t. intern-holds t s st;
    }
accepted-by l st s true false ew er h = absurd (omega arith)
accepted-by l st s false r ew er h = absurd (omega arith)

pub outcome-accepted : (l : Lengths) (st : List Sort) (s : Sort) → (outcome l st (sort s)).code < 65536 → Accepted l st s (outcome l st (sort s))
unfolding outcome
outcome-accepted l st s h = accepted-by l st s (within s) (room l.records l.places (intern s st)) refl refl h

-- Only a sort is accepted.
pub accepted-sort : (l : Lengths) (st : List Sort) (v : Verdict) → (outcome l st v).code < 65536 → (s : Sort) × (v ≡ sort s)
unfolding outcome
accepted-sort l st (sort s) h = (s, refl)
accepted-sort l st (refused c) h = absurd (omega (arith, refusal-large c))

pub any-accepted : (l : Lengths) (st : List Sort) (v : Verdict) → (outcome l st v).code < 65536 → (s : Sort) × (v ≡ sort s) × Accepted l st s (outcome l st v)
any-accepted l st v h =
    let (s, e) = accepted-sort l st v h in (
      s,
      e,
      subst (λ (w : Verdict). Accepted l st s (outcome l st w)) (sym e)
          (outcome-accepted l st s (subst (λ (w : Verdict). (outcome l st w).code < 65536) e h)),
    )

-- 22 EXACTLY WHEN THE ANSWER PASSES A LIMIT, 23 EXACTLY WHEN IT PASSES NONE AND THE STORE HAS NO ROOM FOR THE SORTS INSIDE IT.
limit-by : (l : Lengths) (st : List Sort) (s : Sort) (w r : Bool) → room l.records l.places (intern s st) ≡ r
    → ((answered l st s w r).code ≡ number_of Limit * 65536) ↔ (w ≡ false)
limit-by l st s true true er = (
  λ e. absurd (omega (arith, (interned-at s st).0, room-few l.records l.places (intern s st) er)),
  λ e. absurd (true≢false e),
)
limit-by l st s true false er = (λ e. absurd (omega arith), λ e. absurd (true≢false e))
limit-by l st s false r er = (λ e. refl, λ e. refl)

pub outcome-limit : (l : Lengths) (st : List Sort) (s : Sort) → ((outcome l st (sort s)).code ≡ number_of Limit * 65536) ↔ (within s ≡ false)
unfolding outcome
outcome-limit l st s = limit-by l st s (within s) (room l.records l.places (intern s st)) refl

full_by : (l : Lengths) (st : List Sort) (s : Sort) (w r : Bool) → room l.records l.places (intern s st) ≡ r
    → ((answered l st s w r).code ≡ number_of Full * 65536) ↔ ((w ≡ true) × (r ≡ false))
full_by l st s true true er = (
  λ e. absurd (omega (arith, (interned-at s st).0, room-few l.records l.places (intern s st) er)),
  λ e. absurd (true≢false e.1),
)
full_by l st s true false er = (λ e. (refl, refl), λ e. refl)
full_by l st s false r er = (λ e. absurd (omega arith), λ e. absurd (false≢true e.0))

pub outcome-full : (l : Lengths) (st : List Sort) (s : Sort)
    → ((outcome l st (sort s)).code ≡ number_of Full * 65536) ↔ ((within s ≡ true) × (room l.records l.places (intern s st) ≡ false))
unfolding outcome
outcome-full l st s = full_by l st s (within s) (room l.records l.places (intern s st)) refl

-- A refusal is no sort, and two sorts of one verdict are one.
pub refused-sort : {C : Type 0} {c : Cause} {s : Sort} → refused c ≡ sort s → C
refused-sort {C} {c} {s} e = let z : true ≡ false = cc in absurd (true≢false z)

pub sort-inj : {r s : Sort} → sort r ≡ sort s → r ≡ s
sort-inj {r} {s} e = cc

pub plain-limit : (l : Lengths) (st : List Sort) (v : Verdict) → no_limit v ≡ true → ((outcome l st v).code ≡ number_of Limit * 65536) ↔ Passes v
unfolding outcome no_limit
plain-limit l st (sort s) p = (
  λ e. (s, refl, (outcome-limit l st s).0 e),
  λ h. (outcome-limit l st s).1 (subst (λ (r : Sort). within r ≡ false) (sym (sort-inj h.1)) h.2),
)
plain-limit l st (refused c) p = (
  λ e. absurd (clash (or-first (eqb (number_of c * 65536) (number_of Limit * 65536)) (eqb (number_of c * 65536) (number_of Full * 65536)) (eq-eqb (number_of c * 65536) (number_of Limit * 65536) e)) (not-true (limited (number_of c * 65536)) p)),
  λ h. refused-sort h.1,
)

pub plain-full : (l : Lengths) (st : List Sort) (v : Verdict) → no_limit v ≡ true → ((outcome l st v).code ≡ number_of Full * 65536) ↔ Overflows l st v
unfolding outcome no_limit
plain-full l st (sort s) p = (
  λ e. let f = (outcome-full l st s).0 e in (s, refl, f.0, f.1),
  λ h. (outcome-full l st s).1 (
    subst (λ (r : Sort). within r ≡ true) (sym (sort-inj h.1)) h.2,
    subst (λ (r : Sort). room l.records l.places (intern r st) ≡ false) (sym (sort-inj h.1)) h.3,
  ),
)
plain-full l st (refused c) p = (
  λ e. absurd (clash (or-second (eqb (number_of c * 65536) (number_of Limit * 65536)) (eqb (number_of c * 65536) (number_of Full * 65536)) (eq-eqb (number_of c * 65536) (number_of Full * 65536) e)) (not-true (limited (number_of c * 65536)) p)),
  λ h. refused-sort h.1,
)

---------------------------------------------------------------- growth

pub grown-self : (l : Lengths) (st : List Sort) → Grown l st st
grown-self l st = record { starts = starts-self st; once = λ o. o; ordered = λ o. o; roomy = λ o. o }

pub grown-trans : (l : Lengths) (a b c : List Sort) → Grown l a b → Grown l b c → Grown l a c
grown-trans l a b c g h =
    record {
      starts = starts-trans a b c g.starts h.starts;
      once = λ o. h.once (g.once o);
      ordered = λ o. h.ordered (g.ordered o);
      roomy = λ o. h.roomy (g.roomy o);
    }

grown-by : (l : Lengths) (st : List Sort) (s : Sort) (w r : Bool) → room l.records l.places (intern s st) ≡ r
    → Grown l st (answered l st s w r).store
grown-by l st s true true er =
    record { starts = starts-intern s st; once = once-intern s st; ordered = ordered-intern s st; roomy = λ o. er }
grown-by l st s true false er = grown-self l st
grown-by l st s false r er = grown-self l st

-- A row or an answer only adds to the store, and keeps it a store.
pub outcome-grown : (l : Lengths) (st : List Sort) (v : Verdict) → Grown l st (outcome l st v).store
unfolding outcome
outcome-grown l st (refused c) = grown-self l st
outcome-grown l st (sort s) = grown-by l st s (within s) (room l.records l.places (intern s st)) refl

---------------------------------------------------------------- meaning
-- A CODED ROW KEEPS ITS MEANING WHILE THE STORE GROWS.
pub means-stays : (st st' : List Sort) (code : ℕ) (v : Verdict) → Starts st st' → Means st code v → Means st' code v
means-stays st st' code (sort s) g h = (omega (arith, h.0, starts-count st st' g), starts-at st st' g code h.0 ∙ h.1)
means-stays st st' code (refused c) g h = h

-- A code below 65,536 means a sort, and that is the entry of this number.
pub means-sort : (st : List Sort) (code : ℕ) (v : Verdict) → Means st code v → code < 65536 → v ≡ sort (get_or st code leaf)
means-sort st code (sort s) h l = ap sort (sym h.1)
means-sort st code (refused c) h l = absurd (omega (arith, refusal-large c))

means-by : (l : Lengths) (st : List Sort) (s : Sort) (w r : Bool) → limited (answered l st s w r).code ≡ false
    → Means (answered l st s w r).store (answered l st s w r).code (sort s)
means-by l st s true true f = interned-at s st
means-by l st s true false f = absurd (true≢false f)
means-by l st s false r f = absurd (true≢false f)

-- An outcome that meets no limit means its verdict.
pub outcome-means : (l : Lengths) (st : List Sort) (v : Verdict) → limited (outcome l st v).code ≡ false
    → Means (outcome l st v).store (outcome l st v).code v
unfolding outcome
outcome-means l st (refused c) f = refl
outcome-means l st (sort s) f = means-by l st s (within s) (room l.records l.places (intern s st)) f

-- A code that names a sort is no limit.
pub not-limited : (code : ℕ) → code < 65536 → limited code ≡ false
not-limited code h = rw (ne_eqb code (number_of Limit * 65536) (λ e. absurd (omega arith)), ne_eqb code (number_of Full * 65536) (λ e. absurd (omega arith))) refl
