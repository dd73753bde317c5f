-- THE CHECKED VERDICT IS A SORT EXACTLY BY THE RULES of Rules: for every record, and by induction for every term. The tests of
-- Checked are taken apart one after the other, each giving a premise of a rule; and the premises make the tests pass.
use Rattle.std.specs.Prelude.{ℕ, suc, ◌+◌, ◌*◌, ◌-◌, ◌<◌, ◌≡◌, ◌↔◌, Bool, true, false, not, ◌&&◌, ◌||◌, List, [], ◌∷◌, eqb, leb, ltb, ◌⊎◌, cond}
use Rattle.std.proofs.Common.{sym, ap, ◌∙◌, inl, inr, arith, add-one, eqb-true, ne_eqb, leb-true, ltb-true, lt-ltb}
use Rattle.std.proofs.Math.Path.{refl}
use Rattle.std.proofs.lemmas.Bool.{false≢true, eqb-false}
use Rattle.std.proofs.Math.Option.{Option, none, some}
use Rattle.record.specs.Sort.{Sort, Sorts, var, par, node, end, ◌then◌, function, bool, int, reglan, array, bitvec, number_in, count, same, set}
use Rattle.record.specs.SortLaws.{same-sound, same-complete, same_refl}
use Rattle.record.specs.Cases.{and_left, and_right, conj, and-true, not-true, by_test, some_inj, positive}
use Rattle.substitution.specs.Substitution.{empty}
use Rattle.substitution.specs.Premises.{untouched, clear, clear_all, proper, proper_all, proper_map}
use Rattle.sheet.specs.Sheet.{Binding}
use Rattle.row_rules.specs.declared.Cause.{Cause}
use Rattle.row_rules.specs.declared.Cause.TheVariants.{NoRank, Count, Misfit, Barred}
use Rattle.row_rules.specs.Verdict.{Verdict, sort, need}
use Rattle.row_rules.specs.Lists.{last_of, joined, binding_sorts}
use Rattle.row_rules.specs.Term.{Site, Term, Terms, term, stop, ◌also◌, constants_of, verdict_of, verdicts_of}
use Rattle.row_rules.proofs.OutcomeLaws.{refused-sort, sort-inj}
use Rattle.check_rules.specs.Rank.{Rank, vector}
use Rattle.check_rules.specs.RankLaws.{vector-is}
use Rattle.check_rules.proofs.RankSound.{Sound, smt_lib-sound}
use Rattle.check_rules.specs.Ranks.{smt_lib}
use Rattle.check_rules.specs.Checked.{carried, value, values, called, checked_app, operated, only_of, bound_body, binder, letting, new_width, indexed₁, indexed₂, indexed_on, indexing, constant_array, qualified, checked, check, whole_set}
use Rattle.check_rules.specs.Routes.{clear_bindings, clear_term, clear_terms}
use Rattle.check_rules.proofs.Kept.{carried_all}
use Rattle.check_rules.proofs.RouteLaws.{verdicts-kept, parts, besides-parts}
use Rattle.check_rules.proofs.PartTheorems.{proper-exactly, each_proper-exactly, carried-exactly, value-exactly, each_value-exactly}
use Rattle.check_rules.specs.Fits.{one_of}
use Rattle.check_rules.proofs.RankTheorems.{rank-accepted}
use Rattle.check_rules.proofs.AppTheorems.{called-accepted, called-plain}
use Rattle.check_rules.proofs.Widths.{checked-extend-width, rotate-width, checked-repeat-width, extract-accepted, int-width}
use Rattle.check_rules.specs.Rules.{Applied, parametric, plain, Operated, by_rank, Binds, quantifier, choice, lambda, Indexes, extract, extend, rotate, repeat, int_to_bv, power, loop, Rule, integer_constant, real_constant, string_constant, reglan_constant, vector_constant, variable, by_app, by_op, by_binder, by_let, by_index, by_const, HasSort, HaveSorts, by_set}
use Rattle.check_rules.specs.Forms.{element_of}

---------------------------------------------------------------- tests taken apart
pub need-sort : (b : Bool) (c : Cause) (v : Verdict) (s : Sort) → need b c v ≡ sort s → (b ≡ true) × (v ≡ sort s)
need-sort true c v s e = (refl, e)
need-sort false c v s e = refused-sort e

---------------------------------------------------------------- App
-- The list of a head that takes arguments is proper, since the head is one that a Var may carry.
pub applied-only : (ts : Sorts) (s : Sort) → carried_all ts ≡ true → checked_app ts ≡ sort s → Applied ts s
unfolding checked_app carried_all count called proper
applied-only end s c h = refused-sort h
applied-only (g then end) s c h = refused-sort h
applied-only (var v then (t then ts)) s c h = refused-sort h
applied-only (par [] b then (t then ts)) s c h = absurd (false≢true c)
applied-only (par (n ∷ ns) (var v) then (t then ts)) s c h = absurd (false≢true c)
applied-only (par (n ∷ ns) (par ms b) then (t then ts)) s c h = absurd (false≢true c)
applied-only (par (n ∷ ns) (node k a w ss) then (t then ts)) s c h =
    by_test (eqb k 0)
    (λ q. let p : proper_all ss ≡ true = search conj in
    parametric (n ∷ ns) a w ss (t then ts) (rw (eqb-true k 0 q) refl) ((called-accepted (one_of (n ∷ ns)) ss (t then ts) p s (omega arith)).0 (rw q at h)))
    (λ q. refused-sort (rw q at h))
applied-only (node k a w ss then (t then ts)) s c h =
    by_test (eqb k 0)
    (λ q. let p : proper_all ss ≡ true = search conj in
    let (any, few, given, turns, result) = (called-plain ss (t then ts) s p (omega arith)).0 (rw q at h) in
    plain a w ss (t then ts) (rw (eqb-true k 0 q) refl) any few ((each_value-exactly (t then ts)).0 given) turns result)
    (λ q. refused-sort (rw q at h))

pub par-list : (ns : List ℕ) (a w : ℕ) (ss : Sorts) → carried (par ns (node 0 a w ss)) ≡ true → proper_all ss ≡ true
unfolding proper
par-list [] a w ss c = absurd (false≢true c)
par-list (n ∷ ns) a w ss c = c

pub applied-when : (ts : Sorts) (s : Sort) → carried_all ts ≡ true → Applied ts s → checked_app ts ≡ sort s
unfolding checked_app carried_all count proper
applied-when ts s c (parametric ns a w ss end e A) = let z = A.any in absurd (omega arith)
applied-when ts s c (parametric ns a w ss (t then rs) e A) =
    let d : carried_all (par ns (node 0 a w ss) then t then rs) ≡ true = rw e at c in
    let p = par-list ns a w ss (and_left (carried (par ns (node 0 a w ss))) (carried_all (t then rs)) d) in
    rw e ((called-accepted (one_of ns) ss (t then rs) p s (omega arith)).1 A)
applied-when ts s c (plain a w ss end e any few given turns result) = absurd (omega arith)
applied-when ts s c (plain a w ss (t then rs) e any few given turns result) =
    let d : carried_all (node 0 a w ss then t then rs) ≡ true = rw e at c in
    let p : proper_all ss ≡ true = and_left (carried (node 0 a w ss)) (carried_all (t then rs)) d in
    rw e ((called-plain ss (t then rs) s p (omega arith)).1 (any, few, (each_value-exactly (t then rs)).1 given, turns, result))

---------------------------------------------------------------- Op
pub operated-only : (R : ℕ → List Rank) (n : ℕ) (ts : Sorts) (s : Sort) → Sound (R n) → operated R n ts ≡ sort s → Operated R n ts s
operated-only R n ts s S h = let (v, F) = (rank-accepted R n S ts s).0 h in by_rank ((each_value-exactly ts).0 v) F

pub operated-when : (R : ℕ → List Rank) (n : ℕ) (ts : Sorts) (s : Sort) → Sound (R n) → Operated R n ts s → operated R n ts ≡ sort s
operated-when R n ts s S (by_rank v F) = (rank-accepted R n S ts s).1 ((each_value-exactly ts).1 v, F)

---------------------------------------------------------------- Binder
-- One binding is the whole list.
pub only_one : (bs : Sorts) → eqb (count bs) 1 ≡ true → bs ≡ only_of bs then end
unfolding count
only_one end e = absurd (false≢true e)
only_one (b then end) e = refl
only_one (b then (d then ds)) e = let z = eqb-true (count (b then d then ds)) 1 e in absurd (omega arith)

pub body-only : (n : ℕ) (bs ts : Sorts) (s : Sort) → proper_all bs ≡ true → bound_body n bs ts ≡ sort s → Binds n bs ts s
unfolding proper
body-only n bs end s p h = refused-sort h
body-only n bs (b then (c then cs)) s p h = refused-sort h
body-only n bs (b then end) s p h =
    by_test (eqb n 3)
    (λ q. let g : need (ltb 0 (count bs)) Count (need (value b) Misfit (sort (function (joined bs b)))) ≡ sort s = rw q at h in
    let (x, g1) = need-sort (ltb 0 (count bs)) Count (need (value b) Misfit (sort (function (joined bs b)))) s g in
    let (y, g2) = need-sort (value b) Misfit (sort (function (joined bs b))) s g1 in
    lambda b (eqb-true n 3 q) ((each_proper-exactly bs).0 p) (ltb-true 0 (count bs) x) refl ((value-exactly b).0 y) (sym (sort-inj g2)))
    (λ q. by_test (eqb n 2)
    (λ r. let g : need (eqb (count bs) 1) Count (need (same b bool) Misfit (sort (only_of bs))) ≡ sort s = rw (q, r) at h in
    let (x, g1) = need-sort (eqb (count bs) 1) Count (need (same b bool) Misfit (sort (only_of bs))) s g in
    let (y, g2) = need-sort (same b bool) Misfit (sort (only_of bs)) s g1 in
    let e = only_one bs x in
    let pb : proper_all (only_of bs then end) ≡ true = rw e at p in
    choice (only_of bs) (eqb-true n 2 r) e ((proper-exactly (only_of bs)).0 (and_left (proper (only_of bs)) true pb)) (rw (same-sound b bool y) refl) (sym (sort-inj g2)))
    (λ r. let g : need (ltb 0 (count bs)) Count (need (same b bool) Misfit (sort bool)) ≡ sort s = rw (q, r) at h in
    let (x, g1) = need-sort (ltb 0 (count bs)) Count (need (same b bool) Misfit (sort bool)) s g in
    let (y, g2) = need-sort (same b bool) Misfit (sort bool) s g1 in
    quantifier (eqb-false n 2 r) (eqb-false n 3 q) ((each_proper-exactly bs).0 p) (ltb-true 0 (count bs) x) (rw (same-sound b bool y) refl) (sym (sort-inj g2))))

pub binder-only : (n : ℕ) (bs ts : Sorts) (s : Sort) → binder n bs ts ≡ sort s → Binds n bs ts s
unfolding binder
binder-only n bs ts s h = let (p, g) = need-sort (proper_all bs) Barred (bound_body n bs ts) s h in body-only n bs ts s p g

pub binder-when : (n : ℕ) (bs ts : Sorts) (s : Sort) → Binds n bs ts s → binder n bs ts ≡ sort s
unfolding binder count proper
binder-when n bs ts s (quantifier d e p x t r) = rw (t, r, (each_proper-exactly bs).1 p, ne_eqb n 3 e, ne_eqb n 2 d, lt-ltb 0 (count bs) x) refl
binder-when n bs ts s (choice b e f p t r) = rw (e, f, t, r, (proper-exactly b).1 p) refl
binder-when n bs ts s (lambda b e p x t v r) = rw (e, t, r, (each_proper-exactly bs).1 p, lt-ltb 0 (count bs) x, (value-exactly b).1 v) refl

---------------------------------------------------------------- Let
pub letting-only : (ts : Sorts) (s : Sort) → letting ts ≡ sort s → (r : Sort) × (rs : Sorts) × (ts ≡ r then rs) × (0 < count rs) × (values (r then rs) ≡ true) × (s ≡ last_of r rs)
unfolding letting count
letting-only end s h = refused-sort h
letting-only (r then rs) s h =
    let (x, g) = need-sort (ltb 1 (suc (count rs))) Count (need (values (r then rs)) Misfit (sort (last_of r rs))) s h in
    let (y, k) = need-sort (values (r then rs)) Misfit (sort (last_of r rs)) s g in
    let z = ltb-true 1 (suc (count rs)) x in (r, rs, refl, omega arith, y, sym (sort-inj k))

pub letting-when : (r : Sort) (rs : Sorts) (s : Sort) → 0 < count rs → values (r then rs) ≡ true → s ≡ last_of r rs → letting (r then rs) ≡ sort s
unfolding letting count
letting-when r rs s x y e = rw (lt-ltb 1 (suc (count rs)) (omega arith), y, e) refl

---------------------------------------------------------------- ParamOp
pub resized-sort : (f : Bool) (a : Sort) (w : ℕ) (s : Sort) → new_width f a w ≡ sort s → (f ≡ true) × (a then end ≡ bitvec (number_in a) then end) × (s ≡ bitvec w)
resized-sort f a w s h =
    let (x, g) = need-sort f Count (need (vector a) Misfit (sort (bitvec w))) s h in
    let (y, k) = need-sort (vector a) Misfit (sort (bitvec w)) s g in (x, ap (◌then end) (vector-is a y), sym (sort-inj k))

pub tested-sort : (a b r : Sort) (s : Sort) → need (same a b) Misfit (sort r) ≡ sort s → (a then end ≡ b then end) × (s ≡ r)
tested-sort a b r s h =
    let (y, k) = need-sort (same a b) Misfit (sort r) s h in (ap (◌then end) (same-sound a b y), sym (sort-inj k))

pub one_index : (n i : ℕ) (a s : Sort) → indexed₁ n i a ≡ sort s → Indexes n (some i ∷ []) (a then end) s
one_index n i a s h =
    by_test (eqb n 3)
    (λ q. let (f, e, r) = resized-sort true a (number_in a + i) s (rw q at h) in extend (number_in a) i (inl (eqb-true n 3 q)) refl e r)
    (λ q3. by_test (eqb n 4)
    (λ q. let (f, e, r) = resized-sort true a (number_in a + i) s (rw (q3, q) at h) in extend (number_in a) i (inr (eqb-true n 4 q)) refl e r)
    (λ q4. by_test (eqb n 5)
    (λ q. let (f, e, r) = resized-sort true a (number_in a) s (rw (q3, q4, q) at h) in rotate (number_in a) i (inl (eqb-true n 5 q)) refl e r)
    (λ q5. by_test (eqb n 6)
    (λ q. let (f, e, r) = resized-sort true a (number_in a) s (rw (q3, q4, q5, q) at h) in rotate (number_in a) i (inr (eqb-true n 6 q)) refl e r)
    (λ q6. by_test (eqb n 7)
    (λ q. let (f, e, r) = resized-sort (ltb 0 i) a (i * number_in a) s (rw (q3, q4, q5, q6, q) at h) in
    repeat (number_in a) i (eqb-true n 7 q) refl (ltb-true 0 i f) e r)
    (λ q7. by_test (eqb n 9)
    (λ q. let g : need (ltb 0 i) Count (need (same a int) Misfit (sort (bitvec i))) ≡ sort s = rw (q3, q4, q5, q6, q7, q) at h in
    let (x, k) = need-sort (ltb 0 i) Count (need (same a int) Misfit (sort (bitvec i))) s g in
    let (e, r) = tested-sort a int (bitvec i) s k in
    int_to_bv i (eqb-true n 9 q) refl (ltb-true 0 i x) e r)
    (λ q9. by_test (eqb n 10)
    (λ q. let (e, r) = tested-sort a reglan reglan s (rw (q3, q4, q5, q6, q7, q9, q) at h) in power i (eqb-true n 10 q) refl e r)
    (λ q10. refused-sort (rw (q3, q4, q5, q6, q7, q9, q10) at h))))))))

pub two-indices : (n i j : ℕ) (a s : Sort) → indexed₂ n i j a ≡ sort s → Indexes n (some i ∷ some j ∷ []) (a then end) s
two-indices n i j a s h =
    by_test (eqb n 0)
    (λ q. let (f, e, r) = resized-sort (leb j i && (not (vector a) || ltb i (number_in a))) a (suc (i - j)) s (rw q at h) in
    let v = vector-then a e in
    let l : (not (vector a) || ltb i (number_in a)) ≡ true = and_right (leb j i) (not (vector a) || ltb i (number_in a)) f in
    extract (number_in a) i j (eqb-true n 0 q) refl e (leb-true j i (and_left (leb j i) (not (vector a) || ltb i (number_in a)) f))
    (ltb-true i (number_in a) (rw v at l)) (rw (add-one (i - j)) r))
    (λ q0. by_test (eqb n 11)
    (λ q. let (e, r) = tested-sort a reglan reglan s (rw (q0, q) at h) in loop i j (eqb-true n 11 q) refl e r)
    (λ q11. refused-sort (rw (q0, q11) at h)))
  where
    vector-then : (a : Sort) → a then end ≡ bitvec (number_in a) then end → vector a ≡ true
    vector-then a e = let z : a ≡ bitvec (number_in a) = cc in same-complete a (bitvec (number_in a)) z

pub indexing-only : (n : ℕ) (is : List (Option ℕ)) (ts : Sorts) (s : Sort) → indexing n is ts ≡ sort s → Indexes n is ts s
unfolding indexing
indexing-only n is ts s h =
    on is ts (need-sort (not (eqb n 1 || eqb n 2 || eqb n 8)) NoRank (indexed_on n is ts) s h).1
  where
    on : (is : List (Option ℕ)) (ts : Sorts) → indexed_on n is ts ≡ sort s → Indexes n is ts s
    on is end g = refused-sort g
    on [] (a then end) g = refused-sort g
    on (none ∷ is) (a then end) g = refused-sort g
    on (some i ∷ []) (a then end) g = one_index n i a s g
    on (some i ∷ (none ∷ is)) (a then end) g = refused-sort g
    on (some i ∷ (some j ∷ [])) (a then end) g = two-indices n i j a s g
    on (some i ∷ (some j ∷ (k ∷ is))) (a then end) g = refused-sort g
    on is (a then (b then bs)) g = refused-sort g

pub indexing-when : (n : ℕ) (is : List (Option ℕ)) (ts : Sorts) (s : Sort) → Indexes n is ts s → indexing n is ts ≡ sort s
indexing-when n is ts s (extract w i j e f g a b r) = rw (e, f, g) ((extract-accepted w i j s).1 (a, b, r))
indexing-when n is ts s (extend w i e f g r) = rw (f, g, r) (checked-extend-width n w i e)
indexing-when n is ts s (rotate w i e f g r) = rw (f, g, r) (rotate-width n w i e)
indexing-when n is ts s (repeat w i e f a g r) = rw (e, f, g, r) (checked-repeat-width w i a)
indexing-when n is ts s (int_to_bv i e f a g r) = rw (e, f, g, r) (int-width i a)
indexing-when n is ts s (power i e f g r) = unfold indexing in rw (e, f, g, r) refl
indexing-when n is ts s (loop i j e f g r) = unfold indexing in rw (e, f, g, r) refl

---------------------------------------------------------------- AsOp
pub const-only : (o : Sort) (ts : Sorts) (s : Sort) → constant_array o ts ≡ sort s → (i : Sort) × (e : Sort) × (o ≡ array i e) × (ts ≡ e then end) × (s ≡ o)
const-only o end s h = refused-sort h
const-only o (a then (b then bs)) s h = refused-sort h
const-only (var v) (a then end) s h = refused-sort h
const-only (par ns b) (a then end) s h = refused-sort h
const-only (node k n w end) (a then end) s h = refused-sort h
const-only (node k n w (i then end)) (a then end) s h = refused-sort h
const-only (node k n w (i then (e then end))) (a then end) s h =
    let o = node k n w (i then e then end) in
    let (y, g) = need-sort (same o (array i e) && same a e) Misfit (sort (array i e)) s h in
    let z = same-sound o (array i e) (and_left (same o (array i e)) (same a e) y) in
    (i, e, z, ap (◌then end) (same-sound a e (and_right (same o (array i e)) (same a e) y)), sym (sort-inj g) ∙ sym z)
const-only (node k n w (i then (e then (r then rs)))) (a then end) s h = refused-sort h

pub set-only : (o : Sort) (ts : Sorts) (s : Sort) → whole_set o ts ≡ sort s → (e : Sort) × (o ≡ set e) × (ts ≡ end) × (s ≡ o)
set-only o (a then as') s h = refused-sort h
set-only o end s h =
    let (y, g) = need-sort (same o (set (element_of o))) Misfit (sort o) s h in
    (element_of o, same-sound o (set (element_of o)) y, refl, sym (sort-inj g))

pub one-or-two : (n : ℕ) → leb n 2 ≡ true → eqb n 0 ≡ false → (n ≡ 1) ⊎ (n ≡ 2)
one-or-two n a b =
    by_test (eqb n 1) (λ q. inl (eqb-true n 1 q))
    (λ q. inr (let x = leb-true n 2 a in let y = eqb-false n 0 b in let z = eqb-false n 1 q in omega (arith, x, y, z)))

---------------------------------------------------------------- one record
-- ONE RECORD: the checked verdict is the sort s exactly when a rule gives s. The sorts of the record's parts are such as a Var may
-- carry, as all checked sorts are.
pub rule-only : (R : ℕ → List Rank) → ((n : ℕ) → Sound (R n)) → (z : Site) (s : Sort) → carried_all z.args ≡ true → checked R z ≡ sort s → Rule R z s
unfolding checked qualified
rule-only R S z s c h =
    by_test (eqb z.kind 0) (λ q. integer_constant (eqb-true z.kind 0 q) (sym (sort-inj (rw q at h))))
    (λ q0. by_test (eqb z.kind 1) (λ q. real_constant (eqb-true z.kind 1 q) (sym (sort-inj (rw (q0, q) at h))))
    (λ q1. by_test (eqb z.kind 2) (λ q. string_constant (eqb-true z.kind 2 q) (sym (sort-inj (rw (q0, q1, q) at h))))
    (λ q2. by_test (eqb z.kind 3) (λ q. reglan_constant (eqb-true z.kind 3 q) (sym (sort-inj (rw (q0, q1, q2, q) at h))))
    (λ q3. by_test (eqb z.kind 4)
    (λ q. let (x, g) = need-sort (not (eqb z.number 0)) Barred (sort (bitvec z.number)) s (rw (q0, q1, q2, q3, q) at h) in
    let d = eqb-false z.number 0 (not-true (eqb z.number 0) x) in
    vector_constant (eqb-true z.kind 4 q) (positive z.number d) (sym (sort-inj g)))
    (λ q4. by_test (eqb z.kind 5)
    (λ q. let (x, g) = need-sort (carried z.own) Barred (sort z.own) s (rw (q0, q1, q2, q3, q4, q) at h) in
    variable (eqb-true z.kind 5 q) ((carried-exactly z.own).0 x) (sym (sort-inj g)))
    (λ q5. by_test (eqb z.kind 6)
    (λ q. by_app (eqb-true z.kind 6 q) (applied-only z.args s c (rw (q0, q1, q2, q3, q4, q5, q) at h)))
    (λ q6. by_test (eqb z.kind 7)
    (λ q. by_op (eqb-true z.kind 7 q) (operated-only R z.number z.args s (S z.number) (rw (q0, q1, q2, q3, q4, q5, q6, q) at h)))
    (λ q7. by_test (eqb z.kind 8)
    (λ q. by_binder (eqb-true z.kind 8 q) (binder-only z.number (binding_sorts z.bindings) z.args s (rw (q0, q1, q2, q3, q4, q5, q6, q7, q) at h)))
    (λ q8. by_test (eqb z.kind 9)
    (λ q. let (r, rs, e, x, y, g) = letting-only z.args s (rw (q0, q1, q2, q3, q4, q5, q6, q7, q8, q) at h) in by_let r rs (eqb-true z.kind 9 q) e x ((each_value-exactly (r then rs)).0 y) g)
    (λ q9. by_test (eqb z.kind 11)
    (λ q. by_index (eqb-true z.kind 11 q) (indexing-only z.number z.indices z.args s (rw (q0, q1, q2, q3, q4, q5, q6, q7, q8, q9, q) at h)))
    (λ q11. by_test (eqb z.kind 12)
    (λ q.
    let v : Verdict = cond (eqb z.number 0) (constant_array z.own z.args) (whole_set z.own z.args) in
    let (x, g) = need-sort (leb z.number 2) NoRank (need (proper z.own) Barred v) s (rw (q0, q1, q2, q3, q4, q5, q6, q7, q8, q9, q11, q) at h) in
    let (y, k) = need-sort (proper z.own) Barred v s g in
    by_test (eqb z.number 0)
    (λ w. let (i, e, a, b, d) = const-only z.own z.args s (rw w at k) in
    by_const i e (eqb-true z.kind 12 q) (eqb-true z.number 0 w) a ((proper-exactly z.own).0 y) b d)
    (λ w. let (e, a, b, d) = set-only z.own z.args s (rw w at k) in
    by_set e (eqb-true z.kind 12 q) (one-or-two z.number x w) a ((proper-exactly z.own).0 y) b d))
    (λ q12. refused-sort (rw (q0, q1, q2, q3, q4, q5, q6, q7, q8, q9, q11, q12) at h)))))))))))))

pub rule-when : (R : ℕ → List Rank) → ((n : ℕ) → Sound (R n)) → (z : Site) (s : Sort) → carried_all z.args ≡ true → Rule R z s → checked R z ≡ sort s
unfolding checked qualified
rule-when R S z s c (integer_constant k r) = rw (k, r) refl
rule-when R S z s c (real_constant k r) = rw (k, r) refl
rule-when R S z s c (string_constant k r) = rw (k, r) refl
rule-when R S z s c (reglan_constant k r) = rw (k, r) refl
rule-when R S z s c (vector_constant k x r) = rw (k, r, ne_eqb z.number 0 (λ q. omega arith)) refl
rule-when R S z s c (variable k x r) = rw (k, r, (carried-exactly z.own).1 x) refl
rule-when R S z s c (by_app k a) = rw k (applied-when z.args s c a)
rule-when R S z s c (by_op k a) = rw k (operated-when R z.number z.args s (S z.number) a)
rule-when R S z s c (by_binder k a) = rw k (binder-when z.number (binding_sorts z.bindings) z.args s a)
rule-when R S z s c (by_let t ts k e x y r) = rw (k, e) (letting-when t ts s x ((each_value-exactly (t then ts)).1 y) r)
rule-when R S z s c (by_index k a) = rw k (indexing-when z.number z.indices z.args s a)
rule-when R S z s c (by_const i e k n o p a r) = rw (k, n, (proper-exactly z.own).1 p, r, o, a, same_refl (array i e), same_refl e) refl
rule-when R S z s c (by_set e k (inl n) o p a r) = rw (k, n, (proper-exactly z.own).1 p, r, o, a, same_refl (set e)) refl
rule-when R S z s c (by_set e k (inr n) o p a r) = rw (k, n, (proper-exactly z.own).1 p, r, o, a, same_refl (set e)) refl

---------------------------------------------------------------- terms
-- The empty map touches nothing.
pub untouched-empty : (ns : List ℕ) → untouched empty ns ≡ true
unfolding untouched
untouched-empty [] = refl
untouched-empty (n ∷ ns) = untouched-empty ns

mutual
  unfolding clear

  pub clear-empty : (s : Sort) → clear empty s ≡ true
  clear-empty (var v) = refl
  clear-empty (par ns b) = and-true (untouched empty ns) (clear empty b) (untouched-empty ns) (clear-empty b)
  clear-empty (node k a w ss) = clear_all-empty ss

  pub clear_all-empty : (ss : Sorts) → clear_all empty ss ≡ true
  clear_all-empty end = refl
  clear_all-empty (s then ss) = and-true (clear empty s) (clear_all empty ss) (clear-empty s) (clear_all-empty ss)

pub clear_bindings-empty : (bs : List Binding) → clear_bindings empty bs ≡ true
unfolding clear_bindings
clear_bindings-empty [] = refl
clear_bindings-empty (b ∷ bs) = and-true (clear empty b.sort) (clear_bindings empty bs) (clear-empty b.sort) (clear_bindings-empty bs)

mutual
  unfolding clear_term

  pub clear_term-empty : (t : Term) → clear_term empty t ≡ true
  clear_term-empty (term k a n o ts bs ns is) =
      and-true (clear empty o) (clear_bindings empty bs && (clear_terms empty ts && clear_terms empty is)) (clear-empty o)
      (and-true (clear_bindings empty bs) (clear_terms empty ts && clear_terms empty is) (clear_bindings-empty bs)
      (and-true (clear_terms empty ts) (clear_terms empty is) (clear_terms-empty ts) (clear_terms-empty is)))

  pub clear_terms-empty : (ts : Terms) → clear_terms empty ts ≡ true
  clear_terms-empty stop = refl
  clear_terms-empty (t also ts) = and-true (clear_term empty t) (clear_terms empty ts) (clear_term-empty t) (clear_terms-empty ts)

-- Every checked sort is one that a Var may carry: the two routes with the empty map say so on the way.
pub sorts-carried : (R : ℕ → List Rank) → ((n : ℕ) → Sound (R n)) → (ts : Terms) (ss : Sorts) → verdicts_of (checked R) ts ≡ some ss → carried_all ss ≡ true
unfolding proper_map
sorts-carried R S ts ss h = (verdicts-kept R S empty ts ss refl (clear_terms-empty ts) h).carries

mutual
  unfolding verdict_of HasSort

  pub has-only : (R : ℕ → List Rank) → ((n : ℕ) → Sound (R n)) → (t : Term) (s : Sort) → verdict_of (checked R) t ≡ sort s → HasSort R t s
  has-only R S (term k a n o ts bs ns is) s h =
      let (ss, js, p, q, r) = parts (checked R) k n o bs (constants_of ts) (constants_of is) (verdicts_of (checked R) ts) (verdicts_of (checked R) is) s h in (
        ss,
        js,
        have-only R S ts ss p,
        have-only R S is js q,
        rule-only R S (record { kind = k; number = n; own = o; args = ss; bindings = bs; constants = constants_of ts; indices = constants_of is }) s (sorts-carried R S ts ss p) r,
      )

  pub have-only : (R : ℕ → List Rank) → ((n : ℕ) → Sound (R n)) → (ts : Terms) (ss : Sorts) → verdicts_of (checked R) ts ≡ some ss → HaveSorts R ts ss
  have-only R S stop ss h = sym (some_inj h)
  have-only R S (t also ts) ss h =
      let (r, rs, p, q, z) = besides-parts (verdict_of (checked R) t) (verdicts_of (checked R) ts) ss h in
      (r, rs, has-only R S t r p, have-only R S ts rs q, sym z)

mutual
  unfolding verdict_of HasSort

  pub has-when : (R : ℕ → List Rank) → ((n : ℕ) → Sound (R n)) → (t : Term) (s : Sort) → HasSort R t s → verdict_of (checked R) t ≡ sort s
  has-when R S (term k a n o ts bs ns is) s h =
      let (ss, js, p, q, r) = h in
      let x = have-when R S ts ss p in
      let y = have-when R S is js q in
      rw (x, y)
      (rule-when R S (record { kind = k; number = n; own = o; args = ss; bindings = bs; constants = constants_of ts; indices = constants_of is }) s (sorts-carried R S ts ss x) r)

  pub have-when : (R : ℕ → List Rank) → ((n : ℕ) → Sound (R n)) → (ts : Terms) (ss : Sorts) → HaveSorts R ts ss → verdicts_of (checked R) ts ≡ some ss
  have-when R S stop ss h = ap some (sym h)
  have-when R S (t also ts) ss h =
      let (r, rs, p, q, z) = h in
      rw (has-when R S t r p, have-when R S ts rs q, z) refl

-- DEMAND 2, THE CHECKED SORT, over trees: a term is accepted with the sort s exactly when it has s by the rules; that is, when
-- every operator in it has a rank that fits and every parametric function some assignment that makes its declared argument sorts
-- the actual ones and fixes its result, and so for the other kinds.
pub checked-exactly : (R : ℕ → List Rank) → ((n : ℕ) → Sound (R n)) → (t : Term) (s : Sort) → check R t ≡ sort s ↔ HasSort R t s
unfolding check
checked-exactly R S t s = (λ h. has-only R S t s h, λ h. has-when R S t s h)

pub checked-exactly-smt_lib : (t : Term) (s : Sort) → check smt_lib t ≡ sort s ↔ HasSort smt_lib t s
checked-exactly-smt_lib = checked-exactly smt_lib smt_lib-sound

-- The rules give a term one sort at most.
pub one-sort : (R : ℕ → List Rank) → ((n : ℕ) → Sound (R n)) → (t : Term) (s u : Sort) → HasSort R t s → HasSort R t u → s ≡ u
one-sort R S t s u a b = sort-inj (sym ((checked-exactly R S t s).1 a) ∙ (checked-exactly R S t u).1 b)
