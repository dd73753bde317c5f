-- "A VARIABLE IN AN ARGUMENT'S SORT IS NEVER THE HEAD'S PARAMETER", as a law: the verdict on an application does not depend on how
-- the head's parameters are called, whatever names the arguments' sorts hold. Matching under new names finds the same map under
-- those names, so counts, causes and the result stay.
use Rattle.std.specs.Prelude.{ℕ, suc, ◌≡◌, Bool, false, cond, ◌&&◌, List, [], ◌∷◌, eqb, ltb}
use Rattle.std.proofs.Math.Path.{refl}
use Rattle.std.proofs.Common.{sym, ap, ◌∙◌}
use Rattle.std.proofs.Math.Bool.{true}
use Rattle.std.proofs.lemmas.Bool.{false≢true}
use Rattle.std.proofs.Math.Option.{Option, none, some}
use borrow.Author.Tests.{eqb-true, eqb-false, eq-eqb, ne_eqb}
use Rattle.record.specs.Names.{member}
use Rattle.record.specs.Sort.{Sort, Sorts, var, par, node, end, ◌then◌, function, count, same}
use Rattle.record.specs.Cases.{and_left, and_right, conj, and-true, or-second, eqb-self, by_test, by_option, none-some, some_inj, clash}
use Rattle.substitution.specs.Substitution.{Map, empty, bind, find, apply, apply_all, occurs, occurs_any}
use Rattle.substitution.proofs.SubstitutionLaws.{proper-parless}
use Rattle.substitution.specs.Premises.{proper_all, parless, parless_all}
use Rattle.substitution.specs.Matching.{keep, matches, matches_all}
use Rattle.substitution.proofs.MatchingLaws.{keep-rest, and_then-middle}
use Rattle.row_rules.specs.declared.Cause.TheVariants.{Count, Misfit}
use Rattle.row_rules.specs.Verdict.{Verdict, need}
use Rattle.row_rules.specs.Lists.{firsts, others, remaining}
use Rattle.check_rules.specs.Checked.{values, settled, settled_all, called, checked_app}
use Rattle.check_rules.proofs.StepsKept.{others-proper, remaining-proper}
use Rattle.check_rules.specs.Fits.{rest, one_of}

---------------------------------------------------------------- new names for the listed variables
-- The variables of a sort under new names, where they are listed.
unfoldable mutual
  pub rename : (ℕ → Bool) → (ℕ → ℕ) → Sort → Sort
  rename l f (var v) = cond (l v) (var (f v)) (var v)
  rename l f (par ns b) = par ns (rename l f b)
  rename l f (node k a w ss) = node k a w (rename_all l f ss)

  pub rename_all : (ℕ → Bool) → (ℕ → ℕ) → Sorts → Sorts
  rename_all l f end = end
  rename_all l f (s then ss) = rename l f s then rename_all l f ss

unfoldable pub names : (ℕ → ℕ) → List ℕ → List ℕ
names f [] = []
names f (n ∷ ns) = f n ∷ names f ns

-- A map under new names, and that each of its names is listed.
unfoldable pub rekey : (ℕ → ℕ) → Map → Map
rekey f empty = empty
rekey f (bind v s m) = bind (f v) s (rekey f m)

unfoldable pub keys : (ℕ → Bool) → Map → Bool
keys l empty = true
keys l (bind v s m) = l v && keys l m

abbrev pub rekeyed : (ℕ → ℕ) → Option Map → Option Map
rekeyed f none = none
rekeyed f (some m) = some (rekey f m)

pub rekeyed-keep : (f : ℕ → ℕ) (b : Bool) (o : Option Map) → rekeyed f (keep b o) ≡ keep b (rekeyed f o)
rekeyed-keep f true o = refl
rekeyed-keep f false o = refl

-- l lists the names of one head, k those of the other: f takes no two of l's to one, gives names of k, and what l leaves out in
-- the head's sorts k leaves out.
module _ (l k : ℕ → Bool) (f : ℕ → ℕ) (one : (u v : ℕ) → l u ≡ true → l v ≡ true → f u ≡ f v → u ≡ v) (into : (v : ℕ) → l v ≡ true → k (f v) ≡ true) where
  pub eqb-renamed : (u v : ℕ) → l u ≡ true → l v ≡ true → eqb (f u) (f v) ≡ eqb u v
  eqb-renamed u v a b =
      by_test (eqb u v)
      (λ q. eq-eqb (f u) (f v) (ap f (eqb-true u v q)) ∙ sym q)
      (λ q. ne_eqb (f u) (f v) (λ e. eqb-false u v q (one u v a b e)) ∙ sym q)

  pub find-renamed : (m : Map) (v : ℕ) → keys l m ≡ true → l v ≡ true → find (rekey f m) (f v) ≡ find m v
  unfolding find rekey keys
  find-renamed empty v e a = refl
  find-renamed (bind u s m) v e a =
      rw (eqb-renamed u v (and_left (l u) (keys l m) e) a, find-renamed m v (and_right (l u) (keys l m) e) a) refl

  pub find-left : (m : Map) (v : ℕ) → keys l m ≡ true → k v ≡ false → find (rekey f m) v ≡ none
  unfolding find rekey keys
  find-left empty v e b = refl
  find-left (bind u s m) v e b =
      by_test (eqb (f u) v)
      (λ q. let z : k v ≡ true = rw (← eqb-true (f u) v q) (into u (and_left (l u) (keys l m) e)) in clash z b)
      (λ q. rw q (find-left m v (and_right (l u) (keys l m) e) b))

  pub find-unlisted : (m : Map) (v : ℕ) → keys l m ≡ true → l v ≡ false → find m v ≡ none
  unfolding find keys
  find-unlisted empty v e b = refl
  find-unlisted (bind u s m) v e b =
      by_test (eqb u v)
      (λ q. let z : l v ≡ true = rw (← eqb-true u v q) (and_left (l u) (keys l m) e) in clash z b)
      (λ q. rw q (find-unlisted m v (and_right (l u) (keys l m) e) b))

  -- Matching finds listed names only.
  mutual
    unfolding matches keys

    pub match-keys : (p t : Sort) (m m' : Map) → matches l p t m ≡ some m' → keys l m ≡ true → keys l m' ≡ true
    match-keys (var v) t m m' h e =
        by_test (l v)
        (λ q. by_option (find m v)
        (λ g. rw (← some_inj (rw (q, g) at h)) (and-true (l v) (keys l m) q e))
        (λ s g. rw (← some_inj (keep-rest (same s t) (some m) m' (rw (q, g) at h))) e))
        (λ q. rw (← some_inj (keep-rest (same (var v) t) (some m) m' (rw q at h))) e)
    match-keys (par us b) t m m' h e = none-some h
    match-keys (node i a w ps) (var v) m m' h e = none-some h
    match-keys (node i a w ps) (par us b) m m' h e = none-some h
    match-keys (node i a w ps) (node j c x ts) m m' h e =
        match_all-keys ps ts m m' (keep-rest (eqb i j && eqb a c && eqb w x) (matches_all l ps ts m) m' h) e

    pub match_all-keys : (ps ts : Sorts) (m m' : Map) → matches_all l ps ts m ≡ some m' → keys l m ≡ true → keys l m' ≡ true
    match_all-keys end end m m' h e = rw (← some_inj h) e
    match_all-keys end (t then ts) m m' h e = none-some h
    match_all-keys (p then ps) end m m' h e = none-some h
    match_all-keys (p then ps) (t then ts) m m' h e =
        let (n, g, r) = and_then-middle (matches l p t m) (λ n. matches_all l ps ts n) m' h in
        match_all-keys ps ts n m' r (match-keys p t m n g e)

  -- A pattern under new names against the same target: the same map under new names, or none again.
  mutual
    unfolding matches rename rekey occurs

    pub match-renamed : (p t : Sort) (m : Map) → keys l m ≡ true → ((v : ℕ) → l v ≡ false → occurs v p ≡ true → k v ≡ false)
        → matches k (rename l f p) t (rekey f m) ≡ rekeyed f (matches l p t m)
    match-renamed (var v) t m e d =
        by_test (l v)
        (λ q. rw (q, into v q, find-renamed m v e q) (by_option (find m v)
        (λ g. rw g refl)
        (λ s g. rw g (sym (rekeyed-keep f (same s t) (some m))))))
        (λ q. rw (q, d v q (eqb-self v)) (sym (rekeyed-keep f (same (var v) t) (some m))))
    match-renamed (par us b) t m e d = refl
    match-renamed (node i a w ps) (var v) m e d = refl
    match-renamed (node i a w ps) (par us b) m e d = refl
    match-renamed (node i a w ps) (node j c x ts) m e d =
        rw (match_all-renamed ps ts m e d) (sym (rekeyed-keep f (eqb i j && eqb a c && eqb w x) (matches_all l ps ts m)))

    pub match_all-renamed : (ps ts : Sorts) (m : Map) → keys l m ≡ true → ((v : ℕ) → l v ≡ false → occurs_any v ps ≡ true → k v ≡ false)
        → matches_all k (rename_all l f ps) ts (rekey f m) ≡ rekeyed f (matches_all l ps ts m)
    match_all-renamed end end m e d = refl
    match_all-renamed end (t then ts) m e d = refl
    match_all-renamed (p then ps) end m e d = refl
    match_all-renamed (p then ps) (t then ts) m e d =
        rw (match-renamed p t m e (λ v a o. d v a (rw o refl)))
        (by_option (matches l p t m)
        (λ g. rw g refl)
        (λ n g. rw g (match_all-renamed ps ts n (match-keys p t m n g e) (λ v a o. d v a (or-second (occurs v p) (occurs_any v ps) o)))))

  -- The same parameters are assigned in the result,
  mutual
    unfolding settled rename occurs parless

    pub settled-renamed : (s : Sort) (m : Map) → keys l m ≡ true → parless s ≡ true → ((v : ℕ) → l v ≡ false → occurs v s ≡ true → k v ≡ false)
        → settled k (rekey f m) (rename l f s) ≡ settled l m s
    settled-renamed (var v) m e p d =
        by_test (l v)
        (λ q. rw (q, into v q, find-renamed m v e q) refl)
        (λ q. rw (q, d v q (eqb-self v)) refl)
    settled-renamed (par ns b) m e p d = absurd (false≢true p)
    settled-renamed (node i a w ss) m e p d = settled_all-renamed ss m e p d

    pub settled_all-renamed : (ss : Sorts) (m : Map) → keys l m ≡ true → parless_all ss ≡ true → ((v : ℕ) → l v ≡ false → occurs_any v ss ≡ true → k v ≡ false)
        → settled_all k (rekey f m) (rename_all l f ss) ≡ settled_all l m ss
    settled_all-renamed end m e p d = refl
    settled_all-renamed (s then ss) m e p d =
        rw (settled-renamed s m e (search conj) (λ v a o. d v a (rw o refl)), settled_all-renamed ss m e (search conj) (λ v a o. d v a (or-second (occurs v s) (occurs_any v ss) o))) refl

  -- and the result is the same sort.
  mutual
    unfolding settled rename occurs parless apply

    pub apply-renamed : (s : Sort) (m : Map) → keys l m ≡ true → parless s ≡ true → ((v : ℕ) → l v ≡ false → occurs v s ≡ true → k v ≡ false)
        → settled l m s ≡ true → apply (rekey f m) (rename l f s) ≡ apply m s
    apply-renamed (var v) m e p d h =
        by_test (l v)
        (λ q. rw (q, find-renamed m v e q) (by_option (find m v)
        (λ g. let z : false ≡ true = rw (q, g) at h in absurd (false≢true z))
        (λ s g. rw g refl)))
        (λ q. rw (q, find-left m v e (d v q (eqb-self v)), find-unlisted m v e q) refl)
    apply-renamed (par ns b) m e p d h = absurd (false≢true p)
    apply-renamed (node i a w ss) m e p d h = ap (node i a w) (apply_all-renamed ss m e p d h)

    pub apply_all-renamed : (ss : Sorts) (m : Map) → keys l m ≡ true → parless_all ss ≡ true → ((v : ℕ) → l v ≡ false → occurs_any v ss ≡ true → k v ≡ false)
        → settled_all l m ss ≡ true → apply_all (rekey f m) (rename_all l f ss) ≡ apply_all m ss
    apply_all-renamed end m e p d h = refl
    apply_all-renamed (s then ss) m e p d h =
        let x = apply-renamed s m e (search conj) (λ v a o. d v a (rw o refl)) (search conj) in
        let y = apply_all-renamed ss m e (search conj) (λ v a o. d v a (or-second (occurs v s) (occurs_any v ss) o)) (search conj) in cc

---------------------------------------------------------------- lists
pub count-renamed : (l : ℕ → Bool) (f : ℕ → ℕ) (ss : Sorts) → count (rename_all l f ss) ≡ count ss
unfolding count rename
count-renamed l f end = refl
count-renamed l f (s then ss) = ap suc (count-renamed l f ss)

pub firsts-renamed : (l : ℕ → Bool) (f : ℕ → ℕ) (ss ts : Sorts) → firsts (rename_all l f ss) ts ≡ rename_all l f (firsts ss ts)
unfolding firsts rename
firsts-renamed l f ss end = refl
firsts-renamed l f end (t then ts) = refl
firsts-renamed l f (s then ss) (t then ts) = ap (rename l f s then◌) (firsts-renamed l f ss ts)

pub others-renamed : (l : ℕ → Bool) (f : ℕ → ℕ) (ss ts : Sorts) → others (rename_all l f ss) ts ≡ rename_all l f (others ss ts)
unfolding others rename
others-renamed l f ss end = refl
others-renamed l f end (t then ts) = refl
others-renamed l f (s then ss) (t then ts) = others-renamed l f ss ts

pub remaining-renamed : (l : ℕ → Bool) (f : ℕ → ℕ) (ss : Sorts) → remaining (rename_all l f ss) ≡ rename l f (remaining ss)
unfolding rename
remaining-renamed l f end = refl
remaining-renamed l f (s then end) = refl
remaining-renamed l f (s then (r then rs)) = refl

pub firsts-occurs : (v : ℕ) (ss ts : Sorts) → occurs_any v (firsts ss ts) ≡ true → occurs_any v ss ≡ true
unfolding firsts occurs
firsts-occurs v ss end o = absurd (false≢true o)
firsts-occurs v end (t then ts) o = o
firsts-occurs v (s then ss) (t then ts) o = by_test (occurs v s) (λ q. rw q refl) (λ q. rw q (firsts-occurs v ss ts (rw q at o)))

pub others-occurs : (v : ℕ) (ss ts : Sorts) → occurs_any v (others ss ts) ≡ true → occurs_any v ss ≡ true
unfolding others occurs
others-occurs v ss end o = o
others-occurs v end (t then ts) o = o
others-occurs v (s then ss) (t then ts) o = or-second (occurs v s) (occurs_any v ss) (others-occurs v ss ts o)

pub remaining-occurs : (v : ℕ) (ss : Sorts) → occurs v (remaining ss) ≡ true → occurs_any v ss ≡ true
unfolding occurs
remaining-occurs v end o = o
remaining-occurs v (s then end) o = rw o refl
remaining-occurs v (s then (r then rs)) o = o

pub names-member : (f : ℕ → ℕ) (ns : List ℕ) (v : ℕ) → member v ns ≡ true → member (f v) (names f ns) ≡ true
unfolding names member
names-member f [] v e = absurd (false≢true e)
names-member f (n ∷ ns) v e =
    by_test (eqb n v)
    (λ q. rw (eq-eqb (f n) (f v) (ap f (eqb-true n v q))) refl)
    (λ q. or-second (eqb (f n) (f v)) (member (f v) (names f ns)) (names-member f ns v (rw q at e)))

---------------------------------------------------------------- the law
-- THE VERDICT DOES NOT DEPEND ON THE NAMES OF THE PARAMETERS: new names f n for the parameters n of a head, no two alike and none
-- of them a variable of the head's that is no parameter, give the same verdict, sort or cause, on all arguments ts; also on
-- arguments whose sorts hold variables called as the old or the new parameters.
pub parameters-renamed : (f : ℕ → ℕ) (ns : List ℕ) (ss ts : Sorts) → proper_all ss ≡ true
    → ((u v : ℕ) → member u ns ≡ true → member v ns ≡ true → f u ≡ f v → u ≡ v)
    → ((v : ℕ) → member v ns ≡ false → occurs_any v ss ≡ true → member v (names f ns) ≡ false)
    → checked_app (par (names f ns) (function (rename_all (one_of ns) f ss)) then ts) ≡ checked_app (par ns (function ss) then ts)
unfolding checked_app called rekey keys
parameters-renamed f ns ss end p one fresh = refl
parameters-renamed f ns ss (t then ts) p one fresh =
    let l = one_of ns in
    let k = one_of (names f ns) in
    let us = t then ts in
    let into : (v : ℕ) → l v ≡ true → k (f v) ≡ true = names-member f ns in
    let q = proper-parless (rest ss us) (remaining-proper (others ss us) (others-proper ss us p)) in
    let d : (v : ℕ) → l v ≡ false → occurs v (rest ss us) ≡ true → k v ≡ false = λ v a o. fresh v a (others-occurs v ss us (remaining-occurs v (others ss us) o)) in
    rw (
      count-renamed l f ss,
      firsts-renamed l f ss us,
      others-renamed l f ss us,
      remaining-renamed l f (others ss us),
      match_all-renamed l k f one into (firsts ss us) us empty refl (λ v a o. fresh v a (firsts-occurs v ss us o)),
    )
    (ap (λ (v : Verdict). need (ltb (count us) (count ss)) Count (need (values us) Misfit v))
    (by_option (matches_all l (firsts ss us) us empty)
    (λ g. rw g refl)
    (λ m g. let e = match_all-keys l k f one into (firsts ss us) us empty m g refl in
    rw (g, settled-renamed l k f one into (rest ss us) m e q d)
    (by_test (settled l m (rest ss us))
    (λ h. rw (h, apply-renamed l k f one into (rest ss us) m e q d h) refl)
    (λ h. rw h refl)))))
