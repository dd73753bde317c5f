-- DEMAND 3 WITH ITS PREMISES IN DOCUMENT 01'S WORDS: over what a map finds for a name, and over the parameters of a term. A map may
-- name a name twice; the newer pair counts, and only it is asked about. Proved by `routes` for the map without the older pairs,
-- which does the same to every sort and term.
use Rattle.std.specs.Prelude.{ℕ, ◌≡◌, Bool, true, false, not, cond, ◌&&◌, ◌||◌, List, [], ◌∷◌, eqb}
use Rattle.std.proofs.Math.Path.{refl}
use Rattle.std.proofs.Common.{sym, ap, ◌∙◌, eqb-true}
use Rattle.std.proofs.Math.Option.{none, some}
use Rattle.record.specs.Names.{member}
use Rattle.record.specs.Sort.{Sort, Sorts, var, par, node, end, ◌then◌}
use Rattle.record.specs.Cases.{and_left, and_right, and-true, or-second, not-true, eqb-self, eqb_swap, by_test, none-some, clash}
use Rattle.sheet.specs.Sheet.{Binding}
use Rattle.substitution.specs.Substitution.{Map, empty, bind, find, bound, apply, occurs}
use Rattle.substitution.proofs.SubstitutionLaws.{apply-agree}
use Rattle.substitution.specs.Premises.{touches, untouched, clear, clear_all, proper, proper_map}
use Rattle.row_rules.specs.Verdict.{sort}
use Rattle.row_rules.specs.Term.{Term, Terms, term, stop, ◌also◌}
use Rattle.check_rules.specs.Rank.{Rank}
use Rattle.check_rules.specs.Ranks.{smt_lib}
use Rattle.check_rules.proofs.RankSound.{Sound, smt_lib-sound}
use Rattle.check_rules.specs.Checked.{check}
use Rattle.check_rules.specs.Routes.{replace_bindings, replace, replace_all, clear_bindings, clear_term, clear_terms}
use Rattle.check_rules.proofs.RouteLaws.{routes}
use Rattle.check_rules.specs.Parts.{Proper}
use Rattle.check_rules.proofs.PartTheorems.{proper-exactly}

---------------------------------------------------------------- the parameters that count
-- A name is a parameter of a Par in a sort,
unfoldable mutual
  unfolding member

  pub parameter_in : ℕ → Sort → Bool
  parameter_in n (var v) = false
  parameter_in n (par ns b) = member n ns || parameter_in n b
  parameter_in n (node k a w ss) = parameter_in_any n ss

  pub parameter_in_any : ℕ → Sorts → Bool
  parameter_in_any n end = false
  parameter_in_any n (s then ss) = parameter_in n s || parameter_in_any n ss

-- in a binding's sort,
unfoldable pub parameter_bound : ℕ → List Binding → Bool
unfolding parameter_in
parameter_bound n [] = false
parameter_bound n (b ∷ bs) = parameter_in n b.sort || parameter_bound n bs

-- in "the sorts that the term's record, or one below it, holds".
unfoldable mutual
  unfolding parameter_in parameter_bound

  pub parameter_of : ℕ → Term → Bool
  parameter_of n (term k a i o ts bs ns is) = parameter_in n o || (parameter_bound n bs || (parameter_of_any n ts || parameter_of_any n is))

  pub parameter_of_any : ℕ → Terms → Bool
  parameter_of_any n stop = false
  parameter_of_any n (t also ts) = parameter_of n t || parameter_of_any n ts

-- THE PREMISES: "Replaced names, and names inside replacements, must be no parametric sort's parameters; replacements hold no
-- parametric, unknown-width, zero-width or Type sort".
pub record Allowed (σ : Map) (t : Term) : Type 0 where
  pub replacements : (v : ℕ) (r : Sort) → find σ v ≡ some r → Proper r
  pub replaced : (n : ℕ) → parameter_of n t ≡ true → find σ n ≡ none
  pub inside : (n : ℕ) → parameter_of n t ≡ true → (v : ℕ) (r : Sort) → find σ v ≡ some r → occurs n r ≡ false

---------------------------------------------------------------- a map without its older pairs
unfoldable pub without_older : ℕ → Map → Map
without_older v empty = empty
without_older v (bind u s m) = cond (eqb u v) (without_older v m) (bind u s (without_older v m))

unfoldable pub newest : Map → Map
unfolding without_older
newest empty = empty
newest (bind v s m) = bind v s (without_older v (newest m))

-- No name stands twice.
unfoldable pub once : Map → Bool
unfolding find
once empty = true
once (bind v s m) = not (bound m v) && once m

pub without_other : (v u : ℕ) (m : Map) → eqb v u ≡ false → find (without_older v m) u ≡ find m u
unfolding without_older find
without_other v u empty q = refl
without_other v u (bind n s m) q =
    by_test (eqb n v)
    (λ e. let z : eqb n u ≡ false = rw (eqb-true n v e) q in rw (e, z) (without_other v u m q))
    (λ e. rw e (by_test (eqb n u) (λ f. rw f refl) (λ f. rw f (without_other v u m q))))

pub without-self : (v : ℕ) (m : Map) → find (without_older v m) v ≡ none
unfolding without_older find
without-self v empty = refl
without-self v (bind n s m) = by_test (eqb n v) (λ e. rw e (without-self v m)) (λ e. rw (e, e) (without-self v m))

pub newest-find : (m : Map) (u : ℕ) → find (newest m) u ≡ find m u
unfolding newest find
newest-find empty u = refl
newest-find (bind v s m) u =
    by_test (eqb v u) (λ e. rw e refl) (λ e. rw e (without_other v u (newest m) e ∙ newest-find m u))

pub without-once : (v : ℕ) (m : Map) → once m ≡ true → once (without_older v m) ≡ true
unfolding without_older once
without-once v empty h = refl
without-once v (bind u s m) h =
    let t = without-once v m (and_right (not (bound m u)) (once m) h) in
    by_test (eqb u v)
    (λ e. rw e t)
    (λ e. let z : eqb v u ≡ false = eqb_swap v u ∙ e in
    rw (e, without_other v u m z) (and-true (not (bound m u)) (once (without_older v m)) (and_left (not (bound m u)) (once m) h) t))

pub newest-once : (m : Map) → once (newest m) ≡ true
unfolding newest once
newest-once empty = refl
newest-once (bind v s m) = rw (without-self v (newest m)) (without-once v (newest m) (newest-once m))

-- In such a map every pair is found, so what holds of what is found holds of every pair.
pub found-later : (v : ℕ) (s : Sort) (m : Map) (u : ℕ) (r : Sort) → once (bind v s m) ≡ true → find m u ≡ some r → find (bind v s m) u ≡ some r
unfolding once find
found-later v s m u r h f =
    by_test (eqb v u)
    (λ q. let z : find m v ≡ some r = rw (eqb-true v u q) f in
    let b : bound m v ≡ false = not-true (bound m v) (and_left (not (bound m v)) (once m) h) in
    let y : bound m v ≡ true = rw z refl in clash y b)
    (λ q. rw q f)

pub found_first : (v : ℕ) (s : Sort) (m : Map) → find (bind v s m) v ≡ some s
unfolding find
found_first v s m = rw (eqb-self v) refl

pub once-proper : (m : Map) → once m ≡ true → ((v : ℕ) (r : Sort) → find m v ≡ some r → proper r ≡ true) → proper_map m ≡ true
unfolding once proper_map
once-proper empty h p = refl
once-proper (bind v s m) h p =
    and-true (proper s) (proper_map m) (p v s (found_first v s m))
    (once-proper m (and_right (not (bound m v)) (once m) h) (λ u r f. p u r (found-later v s m u r h f)))

pub once-touches : (n : ℕ) (m : Map) → once m ≡ true → find m n ≡ none → ((v : ℕ) (r : Sort) → find m v ≡ some r → occurs n r ≡ false) → touches m n ≡ false
unfolding once touches
once-touches n empty h f p = refl
once-touches n (bind v s m) h f p =
    by_test (eqb v n)
    (λ q. let z : find (bind v s m) n ≡ some s = unfold find in rw q refl in none-some (sym f ∙ z))
    (λ q. rw (q, p v s (found_first v s m))
    (once-touches n m (and_right (not (bound m v)) (once m) h) (unfold find in (rw q at f)) (λ u r g. p u r (found-later v s m u r h g))))

---------------------------------------------------------------- what is untouched at every parameter is clear
pub parameters-untouched : (σ : Map) (ns : List ℕ) → ((n : ℕ) → member n ns ≡ true → touches σ n ≡ false) → untouched σ ns ≡ true
unfolding untouched member
parameters-untouched σ [] h = refl
parameters-untouched σ (n ∷ ns) h =
    rw (h n (rw (eqb-self n) refl)) (parameters-untouched σ ns (λ m i. h m (or-second (eqb n m) (member m ns) i)))

mutual
  unfolding clear parameter_in

  pub parameters-clear : (σ : Map) (s : Sort) → ((n : ℕ) → parameter_in n s ≡ true → touches σ n ≡ false) → clear σ s ≡ true
  parameters-clear σ (var v) h = refl
  parameters-clear σ (par ns b) h =
      and-true (untouched σ ns) (clear σ b) (parameters-untouched σ ns (λ n i. h n (rw i refl)))
      (parameters-clear σ b (λ n i. h n (or-second (member n ns) (parameter_in n b) i)))
  parameters-clear σ (node k a w ss) h = parameters-clear_all σ ss h

  pub parameters-clear_all : (σ : Map) (ss : Sorts) → ((n : ℕ) → parameter_in_any n ss ≡ true → touches σ n ≡ false) → clear_all σ ss ≡ true
  parameters-clear_all σ end h = refl
  parameters-clear_all σ (s then ss) h =
      and-true (clear σ s) (clear_all σ ss) (parameters-clear σ s (λ n i. h n (rw i refl)))
      (parameters-clear_all σ ss (λ n i. h n (or-second (parameter_in n s) (parameter_in_any n ss) i)))

pub parameters-bound : (σ : Map) (bs : List Binding) → ((n : ℕ) → parameter_bound n bs ≡ true → touches σ n ≡ false) → clear_bindings σ bs ≡ true
unfolding clear_bindings parameter_bound
parameters-bound σ [] h = refl
parameters-bound σ (b ∷ bs) h =
    and-true (clear σ b.sort) (clear_bindings σ bs) (parameters-clear σ b.sort (λ n i. h n (rw i refl)))
    (parameters-bound σ bs (λ n i. h n (or-second (parameter_in n b.sort) (parameter_bound n bs) i)))

mutual
  unfolding clear_term parameter_of

  pub parameters-term : (σ : Map) (t : Term) → ((n : ℕ) → parameter_of n t ≡ true → touches σ n ≡ false) → clear_term σ t ≡ true
  parameters-term σ (term k a i o ts bs ns is) h =
      let second : (n : ℕ) → (parameter_bound n bs || (parameter_of_any n ts || parameter_of_any n is)) ≡ true → touches σ n ≡ false =
      λ n e. h n (or-second (parameter_in n o) (parameter_bound n bs || (parameter_of_any n ts || parameter_of_any n is)) e) in
      let third : (n : ℕ) → (parameter_of_any n ts || parameter_of_any n is) ≡ true → touches σ n ≡ false =
      λ n e. second n (or-second (parameter_bound n bs) (parameter_of_any n ts || parameter_of_any n is) e) in
      and-true (clear σ o) (clear_bindings σ bs && (clear_terms σ ts && clear_terms σ is)) (parameters-clear σ o (λ n e. h n (rw e refl)))
      (and-true (clear_bindings σ bs) (clear_terms σ ts && clear_terms σ is) (parameters-bound σ bs (λ n e. second n (rw e refl)))
      (and-true (clear_terms σ ts) (clear_terms σ is) (parameters-terms σ ts (λ n e. third n (rw e refl)))
      (parameters-terms σ is (λ n e. third n (or-second (parameter_of_any n ts) (parameter_of_any n is) e)))))

  pub parameters-terms : (σ : Map) (ts : Terms) → ((n : ℕ) → parameter_of_any n ts ≡ true → touches σ n ≡ false) → clear_terms σ ts ≡ true
  parameters-terms σ stop h = refl
  parameters-terms σ (t also ts) h =
      and-true (clear_term σ t) (clear_terms σ ts) (parameters-term σ t (λ n i. h n (rw i refl)))
      (parameters-terms σ ts (λ n i. h n (or-second (parameter_of n t) (parameter_of_any n ts) i)))

---------------------------------------------------------------- maps that find the same replace the same
pub bindings-agree : (σ τ : Map) (bs : List Binding) → ((v : ℕ) → find σ v ≡ find τ v) → replace_bindings σ bs ≡ replace_bindings τ bs
unfolding replace_bindings
bindings-agree σ τ [] h = refl
bindings-agree σ τ (b ∷ bs) h = rw (apply-agree σ τ b.sort (λ v o. h v), bindings-agree σ τ bs h) refl

mutual
  unfolding replace

  pub replace-agree : (σ τ : Map) (t : Term) → ((v : ℕ) → find σ v ≡ find τ v) → replace σ t ≡ replace τ t
  replace-agree σ τ (term k a n o ts bs ns is) h =
      let x = apply-agree σ τ o (λ v p. h v) in
      let y = replace_all-agree σ τ ts h in
      let z = replace_all-agree σ τ is h in
      let w = bindings-agree σ τ bs h in cc

  pub replace_all-agree : (σ τ : Map) (ts : Terms) → ((v : ℕ) → find σ v ≡ find τ v) → replace_all σ ts ≡ replace_all τ ts
  replace_all-agree σ τ stop h = refl
  replace_all-agree σ τ (t also ts) h = let x = replace-agree σ τ t h in let y = replace_all-agree σ τ ts h in cc

---------------------------------------------------------------- the two routes
-- DEMAND 3, ENTIRE, ON TREES: "For every term, whichever of its variables are replaced, and whatever sorts replace them: if the first
-- gives a sort, so does the second, and it is the same one."
pub routes-allowed : (R : ℕ → List Rank) → ((n : ℕ) → Sound (R n)) → (σ : Map) (t : Term) (s : Sort) → Allowed σ t
    → check R t ≡ sort s → check R (replace σ t) ≡ sort (apply σ s)
routes-allowed R S σ t s A h =
    let τ = newest σ in
    let o = newest-once σ in
    let same : (v : ℕ) → find τ v ≡ find σ v = newest-find σ in
    let p = once-proper τ o (λ v r f. (proper-exactly r).1 (A.replacements v r (sym (same v) ∙ f))) in
    let c = parameters-term τ t (λ n e. once-touches n τ o (same n ∙ A.replaced n e) (λ v r f. A.inside n e v r (sym (same v) ∙ f))) in
    ap (check R) (sym (replace-agree τ σ t same)) ∙ routes R S τ t s p c h ∙ ap sort (apply-agree τ σ s (λ v e. same v))

-- And so for the ranks of the table.
pub routes-allowed-smt_lib : (σ : Map) (t : Term) (s : Sort) → Allowed σ t → check smt_lib t ≡ sort s → check smt_lib (replace σ t) ≡ sort (apply σ s)
routes-allowed-smt_lib = routes-allowed smt_lib smt_lib-sound
