-- A pair that match_with matched matches again: from every map that binds what was bound then, and it binds nothing
-- (`with-again`). So a table of such pairs stays right while the map grows.
use Prim.Native.Nat.{ℕ, ◌%◌, ◌<◌}
use mathlib.Core.Path.{◌≡◌, refl, sym, ap, subst, ◌∙◌}
use mathlib.Core.Bool.{Bool, true, false, cond, ◌&&◌}
use mathlib.Core.List.{List, ◌++◌}
use mathlib.Core.Option.{Option, none, some}
use lib.ListN.{get_or}
use lib.Dec.{eqb}
use borrow.Author.Tests.{eqb-true}
use Rattle.record.specs.Cases.{by_test, by_option, none-some, some_inj, eqb-self}
use Rattle.record.specs.Names.{member, all_members}
use Rattle.record.specs.Sort.{Sort, Sorts, var, par, node, end, ◌then◌, same}
use Rattle.record.specs.Decode.{store_of, sort_at}
use Rattle.substitution.specs.Substitution.{Map, bind, find}
use Rattle.substitution.specs.Matching.{keep, Keeps}
use Rattle.substitution.proofs.CompatibleLaws.{param_eq-refl}
use Rattle.substitution.proofs.MatchingLaws.{keep-test, keep-rest, and_then-middle}
use Rattle.substitution.specs.MatchWith.{param_eq, meet_with, towards, match_with, match_all_with}
use Rattle.matching_tables.specs.Matched.{Matched, Fits, Misfits}
use Rattle.matching_tables.specs.Tables.{table_map}
use Rattle.matching_with.specs.Contract.{WithAsks, WithIs, PairWith}
use Rattle.matching_tables.specs.Notes.{pair_of, PairIs}
use Rattle.matching_with.specs.Met.{MatchedWith, WithBefore, WithAfter}
use Rattle.matching_tables.specs.NoteLaws.{pairs-more, pairs-put}

---------------------------------------------------------------- the map found holds what was held before
meet-extends : (o : Option Sort) (v : ℕ) (t : Sort) (m m' : Map) → find m v ≡ o → meet_with o v t m ≡ some m' → Keeps m m'
unfolding find
meet-extends none v t m m' q e u s f =
    rw (← some_inj e) (by_test (eqb v u)
    (λ p. let z = eqb-true v u p in let y : none ≡ some s = sym q ∙ rw (← z) at f in none-some y)
    (λ p. rw p f))
meet-extends (some r) v t m m' q e u s f = rw (← some_inj (keep-rest (param_eq r t) (some m) m' e)) f

-- Two nodes by the tests of match_with: equality, kinds, fields, param_eq.
arms-extends : (c d t u : Bool) (o : Option Map) (m m' : Map) → (o ≡ some m' → Keeps m m') → cond c (some m) (cond d (keep t o) (keep u (some m))) ≡ some m' → Keeps m m'
arms-extends true d t u o m m' h e v s g = rw (← some_inj e) g
arms-extends false true t u o m m' h e v s g = h (keep-rest t o m' e) v s g
arms-extends false false t u o m m' h e v s g = rw (← some_inj (keep-rest u (some m) m' e)) g

towards-extends : (ns : List ℕ) (p : Sort) (k a w : ℕ) (f : Sorts → Map → Option Map) → ((ts : Sorts) (m m' : Map) → f ts m ≡ some m' → Keeps m m')
    → (t : Sort) (m m' : Map) → towards ns p k a w f t m ≡ some m' → Keeps m m'
unfolding towards
towards-extends ns p k a w f h (var v) m m' e = none-some e
towards-extends ns p k a w f h (par us b) m m' e =
    towards-extends ns p k a w f h b m m' (keep-rest (all_members us ns) (towards ns p k a w f b m) m' e)
towards-extends ns p k a w f h (node l c x ts) m m' e =
    arms-extends (same p (node l c x ts)) (eqb k l) (eqb a c && eqb w x) (param_eq p (node l c x ts)) (f ts m) m m' (h ts m m') e

mutual
  unfolding match_with

  with-extends : (ns : List ℕ) (p t : Sort) (m m' : Map) → match_with ns p t m ≡ some m' → Keeps m m'
  with-extends ns (var v) t m m' e u s f =
      by_test (same (var v) t)
      (λ q. let y : some m ≡ some m' = rw q at e in rw (← some_inj y) f)
      (λ q. by_test (member v ns)
      (λ r. meet-extends (find m v) v t m m' refl (rw (q, r) at e) u s f)
      (λ r. none-some (rw (q, r) at e)))
  with-extends ns (par us b) t m m' e u s f =
      by_test (same (par us b) t)
      (λ q. let y : some m ≡ some m' = rw q at e in rw (← some_inj y) f)
      (λ q. with-extends (ns ++ us) b t m m' (rw q at e) u s f)
  with-extends ns (node k a w ps) t m m' e u s f =
      towards-extends ns (node k a w ps) k a w (λ ts n. match_all_with ns ps ts n) (λ ts n n' q v r g. with_all-extends ns ps ts n n' q v r g) t m m' e u s f

  with_all-extends : (ns : List ℕ) (ps ts : Sorts) (m m' : Map) → match_all_with ns ps ts m ≡ some m' → Keeps m m'
  with_all-extends ns end end m m' e u s f = rw (← some_inj e) f
  with_all-extends ns end (t then ts) m m' e u s f = none-some e
  with_all-extends ns (p then ps) end m m' e u s f = none-some e
  with_all-extends ns (p then ps) (t then ts) m m' e u s f =
      let (n, g, h) = and_then-middle (match_with ns p t m) (λ n. match_all_with ns ps ts n) m' e in
      with_all-extends ns ps ts n m' h u s (with-extends ns p t m n g u s f)

---------------------------------------------------------------- matching again
arms-again : (c d t u : Bool) (o o' : Option Map) (m m' θ : Map) → (o ≡ some m' → o' ≡ some θ)
    → cond c (some m) (cond d (keep t o) (keep u (some m))) ≡ some m' → cond c (some θ) (cond d (keep t o') (keep u (some θ))) ≡ some θ
arms-again true d t u o o' m m' θ h e = refl
arms-again false true t u o o' m m' θ h e = rw (keep-test t o m' e) (h (keep-rest t o m' e))
arms-again false false t u o o' m m' θ h e = rw (keep-test u (some m) m' e) refl

towards-again : (ns : List ℕ) (p : Sort) (k a w : ℕ) (f : Sorts → Map → Option Map)
    → ((ts : Sorts) (m m' θ : Map) → f ts m ≡ some m' → Keeps m' θ → f ts θ ≡ some θ)
    → (t : Sort) (m m' θ : Map) → towards ns p k a w f t m ≡ some m' → Keeps m' θ → towards ns p k a w f t θ ≡ some θ
unfolding towards
towards-again ns p k a w f h (var v) m m' θ e g = none-some e
towards-again ns p k a w f h (par us b) m m' θ e g =
    rw (keep-test (all_members us ns) (towards ns p k a w f b m) m' e)
    (towards-again ns p k a w f h b m m' θ (keep-rest (all_members us ns) (towards ns p k a w f b m) m' e) g)
towards-again ns p k a w f h (node l c x ts) m m' θ e g =
    arms-again (same p (node l c x ts)) (eqb k l) (eqb a c && eqb w x) (param_eq p (node l c x ts)) (f ts m) (f ts θ) m m' θ (λ y. h ts m m' θ y g) e

mutual
  unfolding match_with find

  with-again : (ns : List ℕ) (p t : Sort) (m m' θ : Map) → match_with ns p t m ≡ some m' → Keeps m' θ → match_with ns p t θ ≡ some θ
  with-again ns (var v) t m m' θ e g =
      by_test (same (var v) t)
      (λ q. rw q refl)
      (λ q. by_test (member v ns)
      (λ r. by_option (find m v)
      (λ f. let y : some (bind v t m) ≡ some m' = rw (q, r, f) at e in
      let z : find m' v ≡ some t = ap (λ (k : Map). find k v) (sym (some_inj y)) ∙ rw (eqb-self v) refl in
      rw (q, r, g v t z, param_eq-refl t) refl)
      (λ s f. let y : keep (param_eq s t) (some m) ≡ some m' = rw (q, r, f) at e in
      let z : find m' v ≡ some s = ap (λ (k : Map). find k v) (sym (some_inj (keep-rest (param_eq s t) (some m) m' y))) ∙ f in
      rw (q, r, g v s z, keep-test (param_eq s t) (some m) m' y) refl))
      (λ r. none-some (rw (q, r) at e)))
  with-again ns (par us b) t m m' θ e g =
      by_test (same (par us b) t)
      (λ q. rw q refl)
      (λ q. rw q (with-again (ns ++ us) b t m m' θ (rw q at e) g))
  with-again ns (node k a w ps) t m m' θ e g =
      towards-again ns (node k a w ps) k a w (λ ts n. match_all_with ns ps ts n) (λ ts n n' η q h. with_all-again ns ps ts n n' η q h) t m m' θ e g

  with_all-again : (ns : List ℕ) (ps ts : Sorts) (m m' θ : Map) → match_all_with ns ps ts m ≡ some m' → Keeps m' θ → match_all_with ns ps ts θ ≡ some θ
  with_all-again ns end end m m' θ e g = refl
  with_all-again ns end (t then ts) m m' θ e g = none-some e
  with_all-again ns (p then ps) end m m' θ e g = none-some e
  with_all-again ns (p then ps) (t then ts) m m' θ e g =
      let (k, f, h) = and_then-middle (match_with ns p t m) (λ k. match_all_with ns ps ts k) m' e in
      rw (with-again ns p t m k θ f (λ u s q. g u s (with_all-extends ns ps ts k m' h u s q)))
      (with_all-again ns ps ts k m' θ h g)

---------------------------------------------------------------- the tables after a match
module _ (b p : List ℕ) (n : ℕ) (prm imgs bnd : List ℕ) (m k j : ℕ) (prm' imgs' bnd' : List ℕ) where
  -- A table that was left as it was.
  pub with-same : (l : List ℕ) (z : Matched) → WithBefore b p n prm imgs bnd m l → WithIs b p n prm prm' imgs' bnd' z (PairWith b p n imgs bnd m k j)
      → WithAfter b p n prm imgs' bnd' l z
  with-same l (Fits i) t h =
      pairs-more (MatchedWith b p n prm (table_map (store_of b p n) imgs bnd m)) (MatchedWith b p n prm (table_map (store_of b p n) imgs' bnd' i)) l
      (λ x y q ns w. with-again ns (sort_at b p n x) (sort_at b p n y) (table_map (store_of b p n) imgs bnd m) (table_map (store_of b p n) imgs bnd m) (table_map (store_of b p n) imgs' bnd' i) (q ns w)
      (with-extends ns (sort_at b p n k) (sort_at b p n j) (table_map (store_of b p n) imgs bnd m) (table_map (store_of b p n) imgs' bnd' i) (sym (h.result ns w))))
      t
  with-same l (Misfits i) t h = tt

  -- A table right for the map found, with the pair noted.
  pub with-put : (l l' : List ℕ) (z : Matched) → j < 65536 → WithAfter b p n prm imgs' bnd' l z → WithIs b p n prm prm' imgs' bnd' z (PairWith b p n imgs bnd m k j)
      → PairIs l k j l' → WithAfter b p n prm imgs' bnd' l' z
  with-put l l' (Fits i) small t h q =
      pairs-put (MatchedWith b p n prm (table_map (store_of b p n) imgs' bnd' i)) l k j l' small t
      (λ ns w. with-again ns (sort_at b p n k) (sort_at b p n j) (table_map (store_of b p n) imgs bnd m) (table_map (store_of b p n) imgs' bnd' i) (table_map (store_of b p n) imgs' bnd' i)
      (sym (h.result ns w)) (λ u s e. e))
      q
  with-put l l' (Misfits i) small t h q = tt

-- A pair that is noted fits, and the tables of the map are as they were.
pub with-fits : {b p : List ℕ} {n : ℕ} {prm imgs bnd : List ℕ} {m k j : ℕ} (l : List ℕ) → WithAsks b p n prm imgs bnd m k j → j < 65536
    → WithBefore b p n prm imgs bnd m l → get_or l (k % 32) 0 ≡ pair_of k j → WithIs b p n prm prm imgs bnd (Fits m) (PairWith b p n imgs bnd m k j)
with-fits {b} {p} {n} {prm} {imgs} {bnd} {m} {k} {j} l a small t e =
    record { params = refl; mapped = a.mapped; result = λ ns w. sym (t.each (k % 32) k j small e ns w) }

-- The parameters after a match are those before it, so what the tables stand for is the same.
pub with-next : (b p : List ℕ) (n : ℕ) (prm : List ℕ) {prm' : List ℕ} (imgs bnd l : List ℕ) {z : Matched} (i : ℕ) → prm' ≡ prm → z ≡ Fits i → WithAfter b p n prm imgs bnd l z
    → WithBefore b p n prm' imgs bnd i l
with-next b p n prm {prm'} imgs bnd l {z} i e f t =
    subst (λ (q : List ℕ). WithBefore b p n q imgs bnd i l) (sym e) (subst (WithAfter b p n prm imgs bnd l) f t)

pub with-back : (b p : List ℕ) (n : ℕ) (prm : List ℕ) {prm' : List ℕ} (imgs bnd l : List ℕ) (z : Matched) → prm' ≡ prm → WithAfter b p n prm' imgs bnd l z → WithAfter b p n prm imgs bnd l z
with-back b p n prm {prm'} imgs bnd l z e t = subst (λ (q : List ℕ). WithAfter b p n q imgs bnd l z) e t
