-- THE TESTS `proper`, `carried` AND `value` SAY WHAT THEY SHOULD: each holds exactly of the sorts that Parts describes by their
-- parts, and fails exactly where such a part can be shown.
use Rattle.std.specs.Prelude.{ℕ, ◌≤◌, ◌≡◌, refl, ◌↔◌, true, false, eqb}
use Rattle.std.proofs.Common.{sym, ap, ◌∙◌, true≢false, arith, eqb-true, eq-eqb}
use Rattle.std.proofs.lemmas.Bool.{false≢true}
use mathlib.Core.List.{List, [], ◌∷◌}
use Rattle.record.specs.Sort.{Sort, Sorts, var, par, node, end, ◌then◌, kind_of, size, sizes}
use Rattle.record.specs.Cases.{and_left, and_right, and-true, by_test, clash, not-true-false}
use Rattle.substitution.specs.Premises.{usual, proper, proper_all}
use Rattle.check_rules.specs.Checked.{carried, value, values}
use Rattle.check_rules.specs.Parts.{In, first, later, PartOf, whole, in_body, in_list, Bars, a_type, unknown_width, zero_width, a_par, Proper, OutermostPar, outermost, Carried, Value, EachProper, EachValue}

---------------------------------------------------------------- proper
pub in-proper : {s : Sort} {ss : Sorts} → In s ss → proper_all ss ≡ true → proper s ≡ true
unfolding proper
in-proper {s} (first {ss}) e = and_left (proper s) (proper_all ss) e
in-proper (later {r} {ss} i) e = in-proper i (and_right (proper r) (proper_all ss) e)

-- A part of a proper sort is proper, and a proper sort is not itself one of those that bar.
part-proper : {r s : Sort} → PartOf r s → proper s ≡ true → proper r ≡ true
unfolding proper
part-proper whole e = e
part-proper (in_body p) e = absurd (false≢true e)
part-proper (in_list {k} {a} {w} {s} {ss} i p) e = part-proper p (in-proper i (and_right (usual k w) (proper_all ss) e))

proper-bars : (r : Sort) → proper r ≡ true → Bars r → ⊥
unfolding proper
proper-bars (var v) e (a_type k) = omega arith
proper-bars (var v) e (unknown_width k) = omega arith
proper-bars (var v) e (zero_width k n) = omega arith
proper-bars (var v) e (a_par ns b q) = let z : true ≡ false = cc in true≢false z
proper-bars (par ms c) e h = false≢true e
proper-bars (node k a w ss) e (a_type q) = let z : false ≡ true = rw q at e in false≢true z
proper-bars (node k a w ss) e (unknown_width q) = let z : false ≡ true = rw q at e in false≢true z
proper-bars (node k a w ss) e (zero_width q n) = let z : false ≡ true = rw (q, n) at e in false≢true z
proper-bars (node k a w ss) e (a_par ns b q) = let z : true ≡ false = cc in true≢false z

-- A node that is not usual bars.
unusual : (k a w : ℕ) (ss : Sorts) → usual k w ≡ false → Bars (node k a w ss)
unusual k a w ss e =
    by_test (eqb k 10) (λ q. unknown_width (eqb-true k 10 q))
    (λ q10. by_test (eqb k 13) (λ q. a_type (eqb-true k 13 q))
    (λ q13. by_test (eqb k 9)
    (λ q. by_test (eqb w 0) (λ z. zero_width (eqb-true k 9 q) (eqb-true w 0 z)) (λ z. clash refl (rw (q10, q13, q, z) at e)))
    (λ q. clash refl (rw (q10, q13, q) at e))))

-- Where the test fails, such a part is found.
mutual
  unfolding proper

  find-improper : (s : Sort) → proper s ≡ false → (r : Sort) × PartOf r s × Bars r
  find-improper (var v) e = clash refl e
  find-improper (par ns b) e = (par ns b, whole, a_par ns b refl)
  find-improper (node k a w ss) e =
      by_test (usual k w)
      (λ q. let (s, i, (r, p, h)) = find-some_improper ss (rw q at e) in (r, in_list i p, h))
      (λ q. (node k a w ss, whole, unusual k a w ss q))

  find-some_improper : (ss : Sorts) → proper_all ss ≡ false → (s : Sort) × In s ss × ((r : Sort) × PartOf r s × Bars r)
  find-some_improper end e = clash refl e
  find-some_improper (s then ss) e =
      by_test (proper s)
      (λ q. let (r, i, h) = find-some_improper ss (rw q at e) in (r, later i, h))
      (λ q. (s, first, find-improper s q))

-- `proper` HOLDS exactly where no part of the sort is Type, ParamBitVec, BitVec 0 or a Par,
pub proper-exactly : (s : Sort) → proper s ≡ true ↔ Proper s
proper-exactly s = (
  λ e r p h. proper-bars r (part-proper p e) h,
  λ h. by_test (proper s) (λ q. q) (λ q. let (r, p, b) = find-improper s q in absurd (h r p b)),
)

-- and fails exactly where some part is.
pub improper-exactly : (s : Sort) → proper s ≡ false ↔ ((r : Sort) × PartOf r s × Bars r)
improper-exactly s = (
  find-improper s,
  λ h. let (r, p, b) = h in not-true-false (proper s) (λ e. proper-bars r (part-proper p e) b),
)

-- The same of every sort of a list, and of some sort of it.
pub each_proper-exactly : (ss : Sorts) → proper_all ss ≡ true ↔ EachProper ss
each_proper-exactly ss = (
  λ e s i. (proper-exactly s).0 (in-proper i e),
  λ h. by_test (proper_all ss) (λ q. q) (λ q. let (s, i, (r, p, b)) = find-some_improper ss q in absurd (h s i r p b)),
)

pub some_improper-exactly : (ss : Sorts) → proper_all ss ≡ false ↔ ((s : Sort) × In s ss × ((r : Sort) × PartOf r s × Bars r))
some_improper-exactly ss = (
  find-some_improper ss,
  λ h. let (s, i, (r, p, b)) = h in not-true-false (proper_all ss) (λ e. (each_proper-exactly ss).0 e s i r p b),
)

---------------------------------------------------------------- carried
-- A part is not larger than the whole: so a part of a Par's body is not that Par.
in_size : {s : Sort} {ss : Sorts} → In s ss → size s ≤ sizes ss
unfolding size
in_size {s} (first {ss}) = omega arith
in_size (later {r} {ss} i) = let h = in_size i in omega arith

part-size : {r s : Sort} → PartOf r s → size r ≤ size s
unfolding size
part-size whole = omega arith
part-size (in_body p) = let h = part-size p in omega arith
part-size (in_list i p) = let h = part-size p in let j = in_size i in omega arith

not-inside : (ns : List ℕ) (b r : Sort) → PartOf r b → r ≡ par ns b → ⊥
unfolding size
not-inside ns b r p e = let h = part-size p in let z : size r ≡ size (par ns b) = ap size e in omega arith

-- An allowed part is the whole, a Par with a name and a Function under it.
allowed : {r s : Sort} → OutermostPar r s → (r ≡ s) × ((n : ℕ) × (ns : List ℕ) × (b : Sort) × (s ≡ par (n ∷ ns) b) × (kind_of b ≡ 0))
allowed (outermost {n} {ns} {b} f) = (refl, (n, ns, b, refl, f))

-- `carried` HOLDS exactly where no part of the sort is one of these, but for a Par outermost over a Function.
pub carried-exactly : (s : Sort) → carried s ≡ true ↔ Carried s
carried-exactly s = (only s, when s)
  where
    over : (n : ℕ) (ns : List ℕ) (b : Sort) → kind_of b ≡ 0 → proper b ≡ true → {r : Sort} → PartOf r (par (n ∷ ns) b) → Bars r → OutermostPar r (par (n ∷ ns) b)
    over n ns b f e whole h = outermost f
    over n ns b f e {r} (in_body p) h = absurd ((proper-exactly b).0 e r p h)

    only : (s : Sort) → carried s ≡ true → Carried s
    only (var v) e r p h = absurd ((proper-exactly (var v)).0 (unfold proper in refl) r p h)
    only (par [] b) e r p h = absurd (false≢true e)
    only (par (n ∷ ns) (var v)) e r p h = absurd (false≢true e)
    only (par (n ∷ ns) (par ms b)) e r p h = absurd (false≢true e)
    only (par (n ∷ ns) (node k a w ss)) e r p h =
        let o = node k a w ss in over n ns o (eqb-true k 0 (and_left (eqb k 0) (proper o) e)) (and_right (eqb k 0) (proper o) e) p h
    only (node k a w ss) e r p h = absurd ((proper-exactly (node k a w ss)).0 e r p h)

    -- A Par that a Var may carry has a name, and a Function under it.
    named : (ns : List ℕ) (b : Sort) → Carried (par ns b) → (ns ≡ [] → ⊥) × (kind_of b ≡ 0)
    named ns b h =
        let (m, ms, c, e, g) = (allowed (h (par ns b) whole (a_par ns b refl))).1 in
        let f : b ≡ c = cc in
        (λ q. let z : true ≡ false = cc in true≢false z, ap kind_of f ∙ g)

    when : (s : Sort) → Carried s → carried s ≡ true
    when (var v) h = refl
    when (par [] b) h = absurd ((named [] b h).0 refl)
    when (par (n ∷ ns) (var v)) h = let z = (named (n ∷ ns) (var v) h).1 in absurd (omega arith)
    when (par (n ∷ ns) (par ms b)) h = let z = (named (n ∷ ns) (par ms b) h).1 in absurd (omega arith)
    when (par (n ∷ ns) (node k a w ss)) h =
        let o = node k a w ss in
        and-true (eqb k 0) (proper o) (eq-eqb k 0 (named (n ∷ ns) o h).1)
        ((proper-exactly o).1 (λ r p b. not-inside (n ∷ ns) o r p (allowed (h r (in_body p) b)).0))
    when (node k a w ss) h =
        (proper-exactly (node k a w ss)).1
        (λ r p b. let (m, ms, c, e, g) = (allowed (h r p b)).1 in cc)

-- It fails exactly where that is not so.
pub uncarried-exactly : (s : Sort) → carried s ≡ false ↔ (Carried s → ⊥)
uncarried-exactly s = (
  λ e h. true≢false (sym ((carried-exactly s).1 h) ∙ e),
  λ n. not-true-false (carried s) (λ e. n ((carried-exactly s).0 e)),
)

---------------------------------------------------------------- value
each : {s : Sort} {ss : Sorts} → In s ss → values ss ≡ true → value s ≡ true
unfolding values
each {s} (first {ss}) e = and_left (value s) (values ss) e
each (later {r} {ss} i) e = each i (and_right (value r) (values ss) e)

find-par : (ss : Sorts) → values ss ≡ false → (ns : List ℕ) × (b : Sort) × In (par ns b) ss
unfolding values
find-par end e = clash refl e
find-par (var v then ss) e = let (ns, b, i) = find-par ss e in (ns, b, later i)
find-par (par ns b then ss) e = (ns, b, first)
find-par (node k a w rs then ss) e = let (ns, b, i) = find-par ss e in (ns, b, later i)

-- `value` HOLDS exactly where the sort is no Par,
pub value-exactly : (s : Sort) → value s ≡ true ↔ Value s
value-exactly (var v) = (λ e ns b q. let z : true ≡ false = cc in true≢false z, λ h. refl)
value-exactly (par ns b) = (λ e ms c q. false≢true e, λ h. absurd (h ns b refl))
value-exactly (node k a w ss) = (λ e ns b q. let z : true ≡ false = cc in true≢false z, λ h. refl)

-- and `values` where no sort of the list is one;
pub each_value-exactly : (ss : Sorts) → values ss ≡ true ↔ EachValue ss
each_value-exactly ss = (
  λ e s i. (value-exactly s).0 (each i e),
  λ h. by_test (values ss) (λ q. q) (λ q. let (ns, b, i) = find-par ss q in absurd (h (par ns b) i ns b refl)),
)

-- it fails exactly where some sort is.
pub some_par-exactly : (ss : Sorts) → values ss ≡ false ↔ ((ns : List ℕ) × (b : Sort) × In (par ns b) ss)
some_par-exactly ss = (
  find-par ss,
  λ h. let (ns, b, i) = h in not-true-false (values ss) (λ e. false≢true (each i e)),
)
