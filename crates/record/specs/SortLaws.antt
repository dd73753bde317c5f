-- The test of equality on sorts is equality: `same r s` holds exactly when r and s are one tree.
use Rattle.std.specs.Prelude.{ℕ, ◌≡◌, refl, true, false, ◌&&◌, List, [], ◌∷◌, eqb}
use Rattle.std.proofs.Common.{sym, ap, eqb-true}
use Rattle.std.proofs.lemmas.Bool.{false≢true}
use Rattle.record.specs.Sort.{Sort, Sorts, var, par, node, end, ◌then◌, same_names, same, same_all}
use Rattle.record.specs.Cases.{and_left, and_right, both_ways, eqb-self, not-true-false}

-- Lists of names: by induction, name by name.
pub same_names-sound : (ms ns : List ℕ) → same_names ms ns ≡ true → ms ≡ ns
unfolding same_names
same_names-sound [] [] e = refl
same_names-sound [] (b ∷ bs) e = absurd (false≢true e)
same_names-sound (a ∷ ms) [] e = absurd (false≢true e)
same_names-sound (a ∷ ms) (b ∷ ns) e =
    let h = eqb-true a b (and_left (eqb a b) (same_names ms ns) e) in
    let t = same_names-sound ms ns (and_right (eqb a b) (same_names ms ns) e) in cc

pub same_names-refl : (ms : List ℕ) → same_names ms ms ≡ true
unfolding same_names
same_names-refl [] = refl
same_names-refl (a ∷ ms) = simp (eqb-self, same_names-refl ms)

-- Equal by the test, so equal: fields first, then the parts by the induction.
mutual
  unfolding same

  pub same-sound : (r s : Sort) → same r s ≡ true → r ≡ s
  same-sound (var v) (var u) e = ap var (eqb-true v u e)
  same-sound (var v) (par ns b) e = absurd (false≢true e)
  same-sound (var v) (node k a w ss) e = absurd (false≢true e)
  same-sound (par ms c) (var u) e = absurd (false≢true e)
  same-sound (par ms c) (par ns b) e =
      let h = same_names-sound ms ns (and_left (same_names ms ns) (same c b) e) in
      let t = same-sound c b (and_right (same_names ms ns) (same c b) e) in cc
  same-sound (par ms c) (node k a w ss) e = absurd (false≢true e)
  same-sound (node l c x rs) (var u) e = absurd (false≢true e)
  same-sound (node l c x rs) (par ns b) e = absurd (false≢true e)
  same-sound (node l c x rs) (node k a w ss) e =
      let t = and_left (eqb l k && eqb c a && eqb x w) (same_all rs ss) e in
      let r = same_all-sound rs ss (and_right (eqb l k && eqb c a && eqb x w) (same_all rs ss) e) in
      let h = and_left (eqb l k && eqb c a) (eqb x w) t in
      let hx = eqb-true x w (and_right (eqb l k && eqb c a) (eqb x w) t) in
      let hl = eqb-true l k (and_left (eqb l k) (eqb c a) h) in
      let hc = eqb-true c a (and_right (eqb l k) (eqb c a) h) in cc

  pub same_all-sound : (rs ss : Sorts) → same_all rs ss ≡ true → rs ≡ ss
  same_all-sound end end e = refl
  same_all-sound end (s then ss) e = absurd (false≢true e)
  same_all-sound (r then rs) end e = absurd (false≢true e)
  same_all-sound (r then rs) (s then ss) e =
      let h = same-sound r s (and_left (same r s) (same_all rs ss) e) in
      let t = same_all-sound rs ss (and_right (same r s) (same_all rs ss) e) in cc

-- Equal, so equal by the test.
mutual
  unfolding same

  pub same_refl : (s : Sort) → same s s ≡ true
  same_refl (var v) = eqb-self v
  same_refl (par ns b) = simp (same_names-refl ns, same_refl b)
  same_refl (node k a w ss) = simp (eqb-self, same_all-refl ss)

  pub same_all-refl : (ss : Sorts) → same_all ss ss ≡ true
  same_all-refl end = refl
  same_all-refl (s then ss) = simp (same_refl s, same_all-refl ss)

pub same-complete : (r s : Sort) → r ≡ s → same r s ≡ true
same-complete r s e = rw (← e) (same_refl r)

-- The order of the two does not matter.
pub same-swap : (r s : Sort) → same r s ≡ same s r
same-swap r s =
    both_ways (same r s) (same s r) (λ e. same-complete s r (sym (same-sound r s e))) (λ e. same-complete r s (sym (same-sound s r e)))

-- Different sorts are told apart.
pub same-other : (r s : Sort) → (r ≡ s → ⊥) → same r s ≡ false
same-other r s h = not-true-false (same r s) (λ e. h (same-sound r s e))
