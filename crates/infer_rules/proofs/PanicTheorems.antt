-- 21 OF THE INFERRED ROW EXACTLY WHERE THE RUST PANICS, for every family of operators and every other kind of term; WidthTheorems says it of
-- the indexed operators that make a width.
use Rattle.std.specs.Prelude.{ℕ, ◌≤◌, ◌<◌, ◌≡◌, refl, ◌⊎◌, Bool, true, false, List, [], ◌∷◌, length, eqb, leb}
use Rattle.std.proofs.Common.{sym, ap, ◌∙◌, inl, inr, ⊎_elim, true≢false, arith, eqb-true, ne_eqb, leb-true, leb-false}
use Rattle.std.proofs.Math.Option.{Option, none, some}
use Rattle.std.proofs.lemmas.Bool.{eqb-false}
use Rattle.record.specs.Sort.{Sort, Sorts, var, par, node, end, ◌then◌, bool, int, real, string, reglan, bitvec, set, tuple, function, count}
use Rattle.record.specs.Cases.{by_test, by_option, none-some, some_inj}
use Rattle.substitution.specs.Substitution.{Map, empty, apply}
use Rattle.sheet.specs.Sheet.{Binding}
use Rattle.substitution.specs.MatchWith.{match_all_with}
use Rattle.row_rules.specs.declared.Cause.{Cause}
use Rattle.row_rules.specs.declared.Cause.TheVariants.{Panics}
use Rattle.row_rules.specs.Verdict.{Verdict, sort, refused}
use Rattle.row_rules.specs.Lists.{firsts, others, remaining, last_of, joined, appended, binding_sorts, all_but_last}
use Rattle.row_rules.specs.Term.{Site}
use Rattle.row_rules.proofs.OutcomeLaws.{refused-sort}
use Rattle.infer_rules.specs.declared.Family.{Family}
use Rattle.infer_rules.specs.declared.Family.TheVariants.{Truth, Integer, Decimal, Text, Regular, Vector, OneBit, Bits, Constant, Concat, First, Second, Last, Sum, Element, RareList, Singleton, Tuple, UnitTuple, Transpose, Join, Product}
use Rattle.infer_rules.specs.Family.{family_of}
use Rattle.infer_rules.specs.Inferred.{first_of, second_of, final_of, some_real, sum_of, selected, rare_of, singleton_of, columns, backwards, join_of, product_of, over_both, transpose_of, operated_by, indexed, plain_app, parametric_app, head_app, chosen, inferred_lambda, inferred_binder, matched, inferred}
use Rattle.infer_rules.proofs.PanicLaws.{PanicsWhen, Behind, Some, Unknown, Other, bad, good, panics-said, width-panics}
use Rattle.infer_rules.proofs.WidthTheorems.{nineteen-way, concat-way, const-way, extract-exactly, extend-exactly, repeat-exactly, convert-exactly}

---------------------------------------------------------------- indexed operators
first_way : (ss : Sorts) → PanicsWhen (first_of ss) (count ss ≡ 0)
unfolding count
first_way end = bad refl refl
first_way (s then ss) = good s refl (λ h. omega arith)

-- THE ROTATIONS (5, 6) panic exactly without an argument, BVCONST as a ParamOp (8) always, and 1 BvBitOf, 2 BvIntOf, 10 RePower and
-- 11 ReLoop never.
pub rotate-panics : (n : ℕ) (is : List (Option ℕ)) (ss : Sorts) → ((n ≡ 5) ⊎ (n ≡ 6)) → PanicsWhen (indexed n is ss) (count ss ≡ 0)
unfolding indexed
rotate-panics n is ss (inl e) = rw e (first_way ss)
rotate-panics n is ss (inr e) = rw e (first_way ss)

pub always-panics : (is : List (Option ℕ)) (ss : Sorts) → indexed 8 is ss ≡ refused Panics
unfolding indexed
always-panics is ss = refl

pub never-panics : (n : ℕ) (is : List (Option ℕ)) (ss : Sorts) → ((n ≡ 1) ⊎ ((n ≡ 2) ⊎ ((n ≡ 10) ⊎ (n ≡ 11)))) → PanicsWhen (indexed n is ss) ⊥
unfolding indexed
never-panics n is ss (inl e) = rw e ((good bool refl (λ h. h)))
never-panics n is ss (inr (inl e)) = rw e ((good int refl (λ h. h)))
never-panics n is ss (inr (inr (inl e))) = rw e ((good reglan refl (λ h. h)))
never-panics n is ss (inr (inr (inr e))) = rw e ((good reglan refl (λ h. h)))

---------------------------------------------------------------- families of operators
-- A relation with the columns cs: a Set of a Tuple.
abbrev pub Relation : Sort → Sorts → Type 0
Relation s cs = (a : ℕ) × (w : ℕ) × (b : ℕ) × (x : ℕ) × (rs : Sorts) × (s ≡ node 14 a w (node 15 b x cs then rs))

-- Two arguments or more, of which the first two are relations with these columns.
abbrev pub Relations : Sorts → Sorts → Sorts → Type 0
Relations ss xs ys = (l : Sort) × (r : Sort) × (ts : Sorts) × (ss ≡ l then r then ts) × Relation l xs × Relation r ys

-- WHERE EACH FAMILY PANICS, from the sorts of its arguments and the integer constants among them: a line for each that does; the others never.
pub data Panicking (ss : Sorts) (cs : List (Option ℕ)) : Family → Type 0 where
  vector : Behind Unknown Other ss → Panicking ss cs Vector
  constant : length cs < 2 → Panicking ss cs Constant
  concat : Some Other ss → Panicking ss cs Concat
  first : count ss ≡ 0 → Panicking ss cs First
  second : count ss < 2 → Panicking ss cs Second
  last : count ss ≡ 0 → Panicking ss cs Last
  element : ((a w : ℕ) (x y : Sort) (rs ts : Sorts) → ss ≡ node 8 a w (x then y then rs) then ts → ⊥) → Panicking ss cs Element
  singleton : count ss ≡ 0 → Panicking ss cs Singleton
  transpose : ((s : Sort) (ts xs : Sorts) → ss ≡ s then ts → Relation s xs → ⊥) → Panicking ss cs Transpose
  join : ((xs ys : Sorts) (y : Sort) → Relations ss xs (y then ys) → ⊥) → Panicking ss cs Join
  product : ((xs ys : Sorts) → Relations ss xs ys → ⊥) → Panicking ss cs Product

second_way : (ss : Sorts) → PanicsWhen (second_of ss) (count ss < 2)
unfolding count
second_way end = bad refl (omega arith)
second_way (s then end) = bad refl (omega arith)
second_way (s then (t then ss)) = good t refl (λ h. omega arith)

last-way : (ss : Sorts) → PanicsWhen (final_of ss) (count ss ≡ 0)
unfolding count
last-way end = bad refl refl
last-way (s then ss) = good (last_of s ss) refl (λ h. omega arith)

singleton-way : (ss : Sorts) → PanicsWhen (singleton_of ss) (count ss ≡ 0)
unfolding count
singleton-way end = bad refl refl
singleton-way (s then ss) = good (set s) refl (λ h. omega arith)

sum-way : (b : Bool) → PanicsWhen (sum_of b) ⊥
sum-way true = good real refl (λ h. h)
sum-way false = good int refl (λ h. h)

rare-way : (ss : Sorts) → PanicsWhen (rare_of ss) ⊥
rare-way end = good (var 0) refl (λ h. h)
rare-way (s then ss) = good s refl (λ h. h)

-- Select has an Array, with its two parts, as first argument, or none.
selected-way : (ss : Sorts) → PanicsWhen (selected ss) ((a w : ℕ) (x y : Sort) (rs ts : Sorts) → ss ≡ node 8 a w (x then y then rs) then ts → ⊥)
selected-way end = bad refl (λ a w x y rs ts e. let z : true ≡ false = cc in true≢false z)
selected-way (var v then ss) = bad refl (λ a w x y rs ts e. let z : true ≡ false = cc in true≢false z)
selected-way (par ns b then ss) = bad refl (λ a w x y rs ts e. let z : true ≡ false = cc in true≢false z)
selected-way (node k b v end then ss) = bad refl (λ a w x y rs ts e. let z : true ≡ false = cc in true≢false z)
selected-way (node k b v (r then end) then ss) = bad refl (λ a w x y rs ts e. let z : true ≡ false = cc in true≢false z)
selected-way (node k b v (r then (t then ts)) then ss) =
    by_test (eqb k 8)
    (λ q. good t (rw q refl) (λ n. n b v r t ts ss (rw (eqb-true k 8 q) refl)))
    (λ q. bad (rw q refl) (λ a w x y rs us e. let z : k ≡ 8 = cc in eqb-false k 8 q z))

-- A relation, with its columns, or none.
columns_of : (s : Sort) → ((cs : Sorts) × (columns s ≡ some cs) × Relation s cs) ⊎ ((columns s ≡ none) × ((cs : Sorts) → Relation s cs → ⊥))
columns_of (var v) = inr (refl, λ cs h. let (a, w, b, x, rs, e) = h in let z : true ≡ false = cc in true≢false z)
columns_of (par ns t) = inr (refl, λ cs h. let (a, w, b, x, rs, e) = h in let z : true ≡ false = cc in true≢false z)
columns_of (node k i j end) = inr (refl, λ cs h. let (a, w, b, x, rs, e) = h in let z : true ≡ false = cc in true≢false z)
columns_of (node k i j (var v then ss)) = inr (refl, λ cs h. let (a, w, b, x, rs, e) = h in let z : true ≡ false = cc in true≢false z)
columns_of (node k i j (par ns t then ss)) = inr (refl, λ cs h. let (a, w, b, x, rs, e) = h in let z : true ≡ false = cc in true≢false z)
columns_of (node k i j (node l c m ts then ss)) =
    by_test (eqb k 14)
    (λ q. by_test (eqb l 15)
    (λ r. inl (ts, rw (q, r) refl, (i, j, c, m, ss, rw (eqb-true k 14 q, eqb-true l 15 r) refl)))
    (λ r. inr (rw (q, r) refl, λ cs h. let (a, w, b, x, rs, e) = h in let z : l ≡ 15 = cc in eqb-false l 15 r z)))
    (λ q. inr (rw q refl, λ cs h. let (a, w, b, x, rs, e) = h in let z : k ≡ 14 = cc in eqb-false k 14 q z))

relation-columns : {s : Sort} {cs : Sorts} → Relation s cs → columns s ≡ some cs
relation-columns h = let (a, w, b, x, rs, e) = h in rw e refl

transpose-way : (ss : Sorts) → PanicsWhen (transpose_of ss) ((s : Sort) (ts xs : Sorts) → ss ≡ s then ts → Relation s xs → ⊥)
transpose-way end = bad refl (λ s ts xs e h. let z : true ≡ false = cc in true≢false z)
transpose-way (a then ss) =
    ⊎_elim
    (λ c. let (xs, e, R) = c in good (set (tuple (backwards xs end))) (rw e refl) (λ n. n a ss xs refl R))
    (λ c. bad (rw c.0 refl) (λ s ts xs e h. let z : s ≡ a = cc in c.1 xs (rw z at h)))
    (columns_of a)

few : {C : Type 0} {ss xs ys : Sorts} → count ss < 2 → Relations ss xs ys → C
unfolding count
few {C} {ss} h R = let (l, r, ts, e, p, q) = R in let z = ap count e in absurd (omega arith)

-- The columns that two relations have are those that are looked at.
looked : {a b : Sort} {ts xs ys : Sorts} → Relations (a then b then ts) xs ys → (columns a ≡ some xs) × (columns b ≡ some ys)
looked {a} {b} R =
    let (l, r, us, e, p, q) = R in
    let x : a ≡ l = cc in
    let y : b ≡ r = cc in
    (ap columns x ∙ relation-columns p, ap columns y ∙ relation-columns q)

product-way : (ss : Sorts) → PanicsWhen (over_both product_of ss) ((xs ys : Sorts) → Relations ss xs ys → ⊥)
unfolding count
product-way end = bad refl (λ xs ys R. few (omega arith) R)
product-way (a then end) = bad refl (λ xs ys R. few (omega arith) R)
product-way (a then (b then ts)) =
    ⊎_elim
    (λ c. let (xs, e, R) = c in
    ⊎_elim
    (λ d. let (ys, f, S) = d in good (set (tuple (appended xs ys))) (rw (e, f) refl) (λ n. n xs ys (a, b, ts, refl, R, S)))
    (λ d. bad (rw (e, d.0) refl) (λ us ys T. none-some (sym d.0 ∙ (looked T).1))) (columns_of b))
    (λ c. bad (rw c.0 refl) (λ us ys T. none-some (sym c.0 ∙ (looked T).0))) (columns_of a)

join-way : (ss : Sorts) → PanicsWhen (over_both join_of ss) ((xs ys : Sorts) (y : Sort) → Relations ss xs (y then ys) → ⊥)
unfolding count
join-way end = bad refl (λ xs ys y R. few (omega arith) R)
join-way (a then end) = bad refl (λ xs ys y R. few (omega arith) R)
join-way (a then (b then ts)) =
    ⊎_elim
    (λ c. let (xs, e, R) = c in
    ⊎_elim
    (λ d. let (ys, f, S) = d in right xs ys e f R S)
    (λ d. bad (rw (e, d.0) refl) (λ us ys y T. none-some (sym d.0 ∙ (looked T).1))) (columns_of b))
    (λ c. bad (rw c.0 refl) (λ us ys y T. none-some (sym c.0 ∙ (looked T).0))) (columns_of a)
  where
    right : (xs ys : Sorts) → columns a ≡ some xs → columns b ≡ some ys → Relation a xs → Relation b ys
        → PanicsWhen (over_both join_of (a then b then ts)) ((us vs : Sorts) (y : Sort) → Relations (a then b then ts) us (y then vs) → ⊥)
    right xs end e f R S = bad (rw (e, f) refl) (λ us vs y T. let g = some_inj (sym f ∙ (looked T).1) in let z : true ≡ false = cc in true≢false z)
    right xs (y then ys) e f R S = good (set (tuple (appended (all_but_last xs) ys))) (rw (e, f) refl) (λ n. n xs ys y (a, b, ts, refl, R, S))

-- 21 OF AN OPERATOR, exactly where its family panics; elsewhere it has a sort.
family-way : (f : Family) (ss : Sorts) (cs : List (Option ℕ)) → PanicsWhen (operated_by f ss cs) (Panicking ss cs f)
unfolding operated_by
family-way Truth ss cs = good bool refl (λ h. elim h [ ])
family-way Integer ss cs = good int refl (λ h. elim h [ ])
family-way Decimal ss cs = good real refl (λ h. elim h [ ])
family-way Text ss cs = good string refl (λ h. elim h [ ])
family-way Regular ss cs = good reglan refl (λ h. elim h [ ])
family-way Vector ss cs = panics-said (width-panics (nineteen-way ss)) vector (λ h. elim h [ vector p ↦ p ])
family-way OneBit ss cs = good (bitvec 1) refl (λ h. elim h [ ])
family-way Bits ss cs = good (bitvec (count ss)) refl (λ h. elim h [ ])
family-way Constant ss cs = panics-said (width-panics (const-way cs)) constant (λ h. elim h [ constant p ↦ p ])
family-way Concat ss cs = panics-said (width-panics (concat-way 0 ss)) concat (λ h. elim h [ concat p ↦ p ])
family-way First ss cs = panics-said (first_way ss) first (λ h. elim h [ first p ↦ p ])
family-way Second ss cs = panics-said (second_way ss) second (λ h. elim h [ second p ↦ p ])
family-way Last ss cs = panics-said (last-way ss) last (λ h. elim h [ last p ↦ p ])
family-way Sum ss cs = panics-said (sum-way (some_real ss)) (λ h. absurd h) (λ h. elim h [ ])
family-way Element ss cs = panics-said (selected-way ss) element (λ h. elim h [ element p ↦ p ])
family-way RareList ss cs = panics-said (rare-way ss) (λ h. absurd h) (λ h. elim h [ ])
family-way Singleton ss cs = panics-said (singleton-way ss) singleton (λ h. elim h [ singleton p ↦ p ])
family-way Tuple ss cs = good (tuple ss) refl (λ h. elim h [ ])
family-way UnitTuple ss cs = good (tuple end) refl (λ h. elim h [ ])
family-way Transpose ss cs = panics-said (transpose-way ss) transpose (λ h. elim h [ transpose p ↦ p ])
family-way Join ss cs = panics-said (join-way ss) join (λ h. elim h [ join p ↦ p ])
family-way Product ss cs = panics-said (product-way ss) product (λ h. elim h [ product p ↦ p ])

-- An operator is judged by its family, its arguments and the integer constants among them: so the laws on widths are those of its row.
pub operator-inferred : (z : Site) → z.kind ≡ 7 → inferred z ≡ operated_by (family_of z.number) z.args z.constants
unfolding inferred
operator-inferred z k = rw k refl

pub operator-panics : (z : Site) → z.kind ≡ 7 → PanicsWhen (inferred z) (Panicking z.args z.constants (family_of z.number))
unfolding inferred
operator-panics z k = rw k (family-way (family_of z.number) z.args z.constants)

---------------------------------------------------------------- the other kinds
-- A CONSTANT, A VAR AND AN ASOP never panic.
pub own-panics : (z : Site) → ((z.kind ≤ 5) ⊎ (z.kind ≡ 12)) → PanicsWhen (inferred z) ⊥
unfolding inferred
own-panics z k =
    by_test (eqb z.kind 0) (λ q. (good int (rw q refl) (λ h. h)))
    (λ q0. by_test (eqb z.kind 1) (λ q. (good real (rw (q0, q) refl) (λ h. h)))
    (λ q1. by_test (eqb z.kind 2) (λ q. (good string (rw (q0, q1, q) refl) (λ h. h)))
    (λ q2. by_test (eqb z.kind 3) (λ q. (good reglan (rw (q0, q1, q2, q) refl) (λ h. h)))
    (λ q3. by_test (eqb z.kind 4) (λ q. (good (bitvec z.number) (rw (q0, q1, q2, q3, q) refl) (λ h. h)))
    (λ q4. by_test (eqb z.kind 5) (λ q. (good z.own (rw (q0, q1, q2, q3, q4, q) refl) (λ h. h)))
    (λ q5. let e : z.kind ≡ 12 = last z.kind k q0 q1 q2 q3 q4 q5 in (good z.own (rw e refl) (λ h. h))))))))
  where
    last : (k : ℕ) → ((k ≤ 5) ⊎ (k ≡ 12)) → eqb k 0 ≡ false → eqb k 1 ≡ false → eqb k 2 ≡ false → eqb k 3 ≡ false → eqb k 4 ≡ false → eqb k 5 ≡ false → k ≡ 12
    last k (inr e) a b c d f g = e
    last k (inl e) a b c d f g =
        let u = eqb-false k 0 a in
        let v = eqb-false k 1 b in
        let w = eqb-false k 2 c in
        let x = eqb-false k 3 d in
        let y = eqb-false k 4 f in
        let o = eqb-false k 5 g in absurd (omega arith)

-- A BINDER panics exactly where a Choice (2) has no binding or a Lambda (3) no body.
pub binder-panics : (z : Site) → z.kind ≡ 8
    → PanicsWhen (inferred z) (((z.number ≡ 2) × (length z.bindings ≡ 0)) ⊎ ((z.number ≡ 3) × (count z.args ≡ 0)))
unfolding inferred inferred_binder
binder-panics z k = rw k ((
    by_test (eqb z.number 3)
    (λ q. let e = eqb-true z.number 3 q in rw q (body z.args e))
    (λ q. let d = eqb-false z.number 3 q in
    by_test (eqb z.number 2)
    (λ r. let e = eqb-true z.number 2 r in rw (q, r) (binding z.bindings e d))
    (λ r. let f = eqb-false z.number 2 r in good bool (rw (q, r) refl) (⊎_elim (λ h. f h.0) (λ h. d h.0))))
    ))
  where
    body : (ss : Sorts) → z.number ≡ 3 → PanicsWhen (inferred_lambda z.bindings ss) (((z.number ≡ 2) × (length z.bindings ≡ 0)) ⊎ ((z.number ≡ 3) × (count ss ≡ 0)))
    body end e = bad refl (inr (e, refl))
    body (s then ss) e = good (function (joined (binding_sorts z.bindings) s)) refl (⊎_elim (λ h. let y = h.0 in omega arith) (λ h. let y = h.1 in omega arith))

    binding : (bs : List Binding) → z.number ≡ 2 → (z.number ≡ 3 → ⊥) → PanicsWhen (chosen bs) (((z.number ≡ 2) × (length bs ≡ 0)) ⊎ ((z.number ≡ 3) × (count z.args ≡ 0)))
    binding [] e d = bad refl (inl (e, refl))
    binding (b ∷ bs) e d = good b.sort refl (⊎_elim (λ h. let y = h.1 in omega arith) (λ h. d h.0))

-- A LET panics exactly where it has no inner term,
pub let-panics : (z : Site) → z.kind ≡ 9 → PanicsWhen (inferred z) (count z.args ≡ 0)
unfolding inferred
let-panics z k = rw k (last-way z.args)

-- and a MATCH where it has no body.
pub match-panics : (z : Site) → z.kind ≡ 10 → PanicsWhen (inferred z) (count z.args < 2)
unfolding inferred count
match-panics z k = rw k (way z.args)
  where
    way : (ss : Sorts) → PanicsWhen (matched ss) (count ss < 2)
    way end = bad refl (omega arith)
    way (s then end) = bad refl (omega arith)
    way (s then (t then ts)) = good (last_of t ts) refl (λ h. omega arith)

-- A PARAMOP is judged by its number, indices and arguments: so the laws of the indexed operators above are those of its row.
pub index-inferred : (z : Site) → z.kind ≡ 11 → inferred z ≡ indexed z.number z.indices z.args
unfolding inferred
index-inferred z k = rw k refl

---------------------------------------------------------------- App
-- The head is a Function with the list ss, by itself or under a Par with the names ns.
abbrev pub Function : Sort → List ℕ → Sorts → Type 0
Function h ns ss = (a : ℕ) × (w : ℕ) × ((h ≡ node 0 a w ss) ⊎ (h ≡ par ns (node 0 a w ss)))

-- It is none; or it has fewer entries than there are arguments; or match_with finds no map under its Par.
pub data Misapplied (h : Sort) (ts : Sorts) : Type 0 where
  no_function : ((ns : List ℕ) (ss : Sorts) → Function h ns ss → ⊥) → Misapplied h ts
  too_many : (ns : List ℕ) (ss : Sorts) → Function h ns ss → count ss < count ts → Misapplied h ts
  unmatched : (ns : List ℕ) (a w : ℕ) (ss : Sorts) → h ≡ par ns (node 0 a w ss) → match_all_with ns (firsts ss ts) ts empty ≡ none → Misapplied h ts

not-var : (v : ℕ) (ns : List ℕ) (ss : Sorts) → Function (var v) ns ss → ⊥
not-var v ns ss F = let (a, w, e) = F in ⊎_elim (λ q. let z : true ≡ false = cc in true≢false z) (λ q. let z : true ≡ false = cc in true≢false z) e

bare-list : {k a w : ℕ} {rs ss : Sorts} {ns : List ℕ} → Function (node k a w rs) ns ss → (k ≡ 0) × (rs ≡ ss)
bare-list F = let (a, w, e) = F in ⊎_elim (λ q. (cc, cc)) (λ q. let z : true ≡ false = cc in absurd (true≢false z)) e

under-list : {us : List ℕ} {b : Sort} {ss : Sorts} {ns : List ℕ} → Function (par us b) ns ss → (us ≡ ns) × ((a : ℕ) × (w : ℕ) × (b ≡ node 0 a w ss))
under-list F = let (a, w, e) = F in ⊎_elim (λ q. let z : true ≡ false = cc in absurd (true≢false z)) (λ q. (cc, (a, w, cc))) e

app-way : (h : Sort) (ts : Sorts) → PanicsWhen (head_app h ts) (Misapplied h ts)
unfolding plain_app parametric_app
app-way (var v) ts = bad refl (no_function (not-var v))
app-way (par ns (var v)) ts = bad refl (no_function (λ ms ss F. let (e, (a, w, q)) = under-list F in let z : true ≡ false = cc in true≢false z))
app-way (par ns (par ms b)) ts = bad refl (no_function (λ us ss F. let (e, (a, w, q)) = under-list F in let z : true ≡ false = cc in true≢false z))
app-way (par ns (node k a w ss)) ts =
    by_test (eqb k 0)
    (λ q. let e = eqb-true k 0 q in
    by_test (leb (count ts) (count ss))
    (λ l. let c = leb-true (count ts) (count ss) l in
    by_option (match_all_with ns (firsts ss ts) ts empty)
    (λ f. bad (rw (q, l, f) refl) (unmatched ns a w ss (rw e refl) f))
    (λ m f. good (apply m (remaining (others ss ts))) (rw (q, l, f) refl) (fits e c m f)))
    (λ l. let c = leb-false (count ts) (count ss) l in bad (rw (q, l) refl) (too_many ns ss (a, w, inr (rw e refl)) (omega arith))))
    (λ q. bad (rw q refl) (no_function (λ ms rs F. let (e, (b, x, g)) = under-list F in let z : k ≡ 0 = cc in eqb-false k 0 q z)))
  where
    fits : k ≡ 0 → count ts ≤ count ss → (m : Map) → match_all_with ns (firsts ss ts) ts empty ≡ some m → Misapplied (par ns (node k a w ss)) ts → ⊥
    fits e c m f (no_function n) = n ns ss (a, w, inr (rw e refl))
    fits e c m f (too_many ms rs F l) = let (d, (b, x, g)) = under-list F in let z : rs ≡ ss = cc in let y = ap count z in omega arith
    fits e c m f (unmatched ms b x rs g n) =
        let y : ms ≡ ns = cc in
        let z : rs ≡ ss = cc in none-some (sym (rw (y, z) at n) ∙ f)
app-way (node k a w ss) ts =
    by_test (eqb k 0)
    (λ q. let e = eqb-true k 0 q in
    by_test (leb (count ts) (count ss))
    (λ l. let c = leb-true (count ts) (count ss) l in good (remaining (others ss ts)) (rw (q, l) refl) (fits e c))
    (λ l. let c = leb-false (count ts) (count ss) l in bad (rw (q, l) refl) (too_many [] ss (a, w, inl (rw e refl)) (omega arith))))
    (λ q. bad (rw q refl) (no_function (λ ms rs F. eqb-false k 0 q (bare-list F).0)))
  where
    fits : k ≡ 0 → count ts ≤ count ss → Misapplied (node k a w ss) ts → ⊥
    fits e c (no_function n) = n [] ss (a, w, inl (rw e refl))
    fits e c (too_many ms rs F l) = let z = (bare-list F).1 in let y = ap count z in omega arith
    fits e c (unmatched ms b x rs g n) = let z : true ≡ false = cc in true≢false z

-- AN APP panics exactly where the head is no Function, has fewer entries than there are arguments, or match_with finds no map.
pub app-panics : (z : Site) (h : Sort) (ts : Sorts) → z.kind ≡ 6 → z.args ≡ h then ts → PanicsWhen (inferred z) (Misapplied h ts)
unfolding inferred
app-panics z h ts k e = rw (k, e) (app-way h ts)

---------------------------------------------------------------- every kind
-- A verdict that is 21 or a sort is refused for nothing else.
panics-only : {v : Verdict} {c : Cause} → (v ≡ refused Panics) ⊎ ((s : Sort) × (v ≡ sort s)) → v ≡ refused c → c ≡ Panics
panics-only (inl e) h = cc
panics-only (inr x) h = refused-sort (sym h ∙ x.1)

by_number : {C : Type 0} (n k : ℕ) → (n ≡ k → C) → (eqb n k ≡ false → C) → C
by_number n k f g = by_test (eqb n k) (λ q. f (eqb-true n k q)) g

index-only : (n : ℕ) (is : List (Option ℕ)) (ss : Sorts) (c : Cause) → indexed n is ss ≡ refused c → c ≡ Panics
unfolding indexed
index-only n is ss c h =
    by_number n 0 (λ e. panics-only (width-panics (extract-exactly is ss)).nothing-else (rw e at h))
    (λ q0. by_number n 1 (λ e. panics-only (never-panics n is ss (inl e)).nothing-else h)
    (λ q1. by_number n 2 (λ e. panics-only (never-panics n is ss (inr (inl e))).nothing-else h)
    (λ q2. by_number n 3 (λ e. panics-only (width-panics (extend-exactly n is ss (inl e))).nothing-else h)
    (λ q3. by_number n 4 (λ e. panics-only (width-panics (extend-exactly n is ss (inr e))).nothing-else h)
    (λ q4. by_number n 5 (λ e. panics-only (rotate-panics n is ss (inl e)).nothing-else h)
    (λ q5. by_number n 6 (λ e. panics-only (rotate-panics n is ss (inr e)).nothing-else h)
    (λ q6. by_number n 7 (λ e. panics-only (width-panics (repeat-exactly is ss)).nothing-else (rw e at h))
    (λ q7. by_number n 9 (λ e. panics-only (width-panics (convert-exactly is ss)).nothing-else (rw e at h))
    (λ q9. by_number n 10 (λ e. panics-only (never-panics n is ss (inr (inr (inl e)))).nothing-else h)
    (λ q10. by_number n 11 (λ e. panics-only (never-panics n is ss (inr (inr (inr e)))).nothing-else h)
    (λ q11. panics-only (inl (rw (q0, q1, q2, q3, q4, q5, q6, q7, q9, q10, q11) refl)) h)))))))))))

-- NO INFERRED VERDICT ON A RECORD is refused for another cause than 21.
pub inferred-causes : (z : Site) (c : Cause) → inferred z ≡ refused c → c ≡ Panics
unfolding inferred
inferred-causes z c h =
    by_test (leb z.kind 5) (λ q. panics-only (own-panics z (inl (leb-true z.kind 5 q))).nothing-else h)
    (λ q. let l = leb-false z.kind 5 q in
    by_number z.kind 6 (λ e. app z.args refl e)
    (λ q6. by_number z.kind 7 (λ e. panics-only (operator-panics z e).nothing-else h)
    (λ q7. by_number z.kind 8 (λ e. panics-only (binder-panics z e).nothing-else h)
    (λ q8. by_number z.kind 9 (λ e. panics-only (let-panics z e).nothing-else h)
    (λ q9. by_number z.kind 10 (λ e. panics-only (match-panics z e).nothing-else h)
    (λ q10. by_number z.kind 11 (λ e. index-only z.number z.indices z.args c (rw e at h))
    (λ q11. panics-only (inr (z.own, rw (beyond 0 l (omega arith), beyond 1 l (omega arith), beyond 2 l (omega arith), beyond 3 l (omega arith), beyond 4 l (omega arith), beyond 5 l (omega arith), q6, q7, q8, q9, q10, q11) refl)) h)))))))
  where
    beyond : (k : ℕ) → 5 < z.kind → k ≤ 5 → eqb z.kind k ≡ false
    beyond k l m = ne_eqb z.kind k (λ e. omega arith)

    app : (ts : Sorts) → z.args ≡ ts → z.kind ≡ 6 → c ≡ Panics
    app end a e = panics-only (inl (rw (e, a) refl)) h
    app (g then ts) a e = panics-only (app-panics z g ts e a).nothing-else h
