-- The test of disjointness is sound: ranks that it tells apart fit no list of arguments together.
use Rattle.std.specs.Prelude.{ℕ, ◌≡◌, refl, Bool, true, false, not, ◌&&◌, eqb}
use Rattle.std.proofs.Common.{sym, ap, ◌∙◌, inl, inr, true≢false}
use Rattle.std.proofs.lemmas.Bool.{false≢true}
use Rattle.std.proofs.Math.Option.{none, some}
use Rattle.record.specs.Sort.{Sort, Sorts, var, par, node, end, ◌then◌, int, real, same}
use Rattle.record.specs.SortLaws.{same-sound}
use Rattle.record.specs.Cases.{and_left, and_right, and-true, or_cases, not-true, clash, three, eqb-self, by_option, none-some}
use Rattle.substitution.specs.Substitution.{Map, empty, apply, apply_all}
use Rattle.substitution.specs.Premises.{proper, parless_all}
use Rattle.substitution.specs.Matching.{matches_all}
use Rattle.substitution.proofs.MatchingTheorems.{matching_all}
use Rattle.check_rules.specs.Forms.{Form, concat, mixed, Stands, Computes, all_same, insert, tupling, transpose, join, product}
use Rattle.check_rules.specs.FormLaws.{computes-only, int-real}
use Rattle.check_rules.specs.Rank.{Rank, rank, computed, repeated, stretched, patterns, same_count, every_name, rank_answer, fit}
use Rattle.check_rules.specs.RankLaws.{closed, patterns-parless, well_rank, stretched-same}
use Rattle.check_rules.proofs.Disjoint.{Disjoint, differ, differ_any, unlike, disjoint}

---------------------------------------------------------------- the shortest common length
-- Drawn out to no length, a list stays as it is.
pub stretched-end : (ps : Sorts) → stretched ps end ≡ ps
unfolding stretched
stretched-end end = refl
stretched-end (p then end) = refl
stretched-end (p then (q then ps)) = refl

pub then-end : {C : Type 0} {s : Sort} {ss : Sorts} → (s then ss) ≡ end → C
then-end {C} {s} {ss} e = let z : true ≡ false = cc in absurd (true≢false z)

-- One argument that repeats beside arguments of which the last repeats: a list that both fit makes them equal in the other's length.
pub repeated-common : (θ η : Map) (p : Sort) (qs ts : Sorts) → apply_all θ (repeated p ts) ≡ ts → apply_all η (stretched qs ts) ≡ ts
    → apply_all θ (repeated p qs) ≡ apply_all η qs
unfolding stretched repeated apply
repeated-common θ η p end ts h i = refl
repeated-common θ η p (q then end) end h i = then-end i
repeated-common θ η p (q then end) (t then ts) h i = let z : apply θ p ≡ apply η q = cc in cc
repeated-common θ η p (q then (r then qs)) end h i = then-end i
repeated-common θ η p (q then (r then qs)) (t then ts) h i =
    let z : apply θ p ≡ apply η q = cc in
    let x : apply_all θ (repeated p ts) ≡ ts = cc in let y : apply_all η (stretched (r then qs) ts) ≡ ts = cc in
    let u = repeated-common θ η p (r then qs) ts x y in cc

-- Two lists whose last arguments repeat: a list that both fit makes them equal in their shortest common length.
pub stretched-common : (θ η : Map) (ps qs ts : Sorts) → apply_all θ (stretched ps ts) ≡ ts → apply_all η (stretched qs ts) ≡ ts
    → apply_all θ (stretched ps qs) ≡ apply_all η (stretched qs ps)
unfolding stretched repeated apply
stretched-common θ η end end ts h i = refl
stretched-common θ η end (q then end) end h i = then-end i
stretched-common θ η end (q then end) (t then ts) h i = then-end (sym h)
stretched-common θ η end (q then (r then qs)) end h i = then-end i
stretched-common θ η end (q then (r then qs)) (t then ts) h i = then-end (sym h)
stretched-common θ η (p then end) end end h i = then-end h
stretched-common θ η (p then end) end (t then ts) h i = then-end (sym i)
stretched-common θ η (p then (s then ps)) end end h i = then-end h
stretched-common θ η (p then (s then ps)) end (t then ts) h i = then-end (sym i)
stretched-common θ η (p then end) (q then end) end h i = then-end h
stretched-common θ η (p then end) (q then end) (t then ts) h i = let z : apply θ p ≡ apply η q = cc in cc
stretched-common θ η (p then end) (q then (r then qs)) end h i = then-end h
stretched-common θ η (p then end) (q then (r then qs)) (t then ts) h i =
    let z : apply θ p ≡ apply η q = cc in
    let x : apply_all θ (repeated p ts) ≡ ts = cc in let y : apply_all η (stretched (r then qs) ts) ≡ ts = cc in
    let u = repeated-common θ η p (r then qs) ts x y in let w = stretched-end (r then qs) in cc
stretched-common θ η (p then (s then ps)) (q then end) end h i = then-end h
stretched-common θ η (p then (s then ps)) (q then end) (t then ts) h i =
    let z : apply θ p ≡ apply η q = cc in
    let x : apply_all η (repeated q ts) ≡ ts = cc in let y : apply_all θ (stretched (s then ps) ts) ≡ ts = cc in
    let u = repeated-common η θ q (s then ps) ts x y in let w = stretched-end (s then ps) in cc
stretched-common θ η (p then (s then ps)) (q then (r then qs)) end h i = then-end h
stretched-common θ η (p then (s then ps)) (q then (r then qs)) (t then ts) h i =
    let z : apply θ p ≡ apply η q = cc in
    let x : apply_all θ (stretched (s then ps) ts) ≡ ts = cc in let y : apply_all η (stretched (r then qs) ts) ≡ ts = cc in
    let u = stretched-common θ η (s then ps) (r then qs) ts x y in cc

-- A list that patterns are turned into is of their count.
pub turned-count : (θ : Map) (ps ts : Sorts) → apply_all θ ps ≡ ts → same_count ps ts ≡ true
unfolding same_count apply
turned-count θ end end e = refl
turned-count θ end (t then ts) e = then-end (sym e)
turned-count θ (p then ps) end e = then-end e
turned-count θ (p then ps) (t then ts) e = let y : apply_all θ ps ≡ ts = cc in turned-count θ ps ts y

-- In all four cases: a list that both fit, of any length, makes the patterns of the shortest common length equal.
pub patterns-equal : (b c : Bool) (θ η : Map) (ps qs ts : Sorts) → apply_all θ (patterns b ps ts) ≡ ts → apply_all η (patterns c qs ts) ≡ ts
    → apply_all θ (patterns b ps qs) ≡ apply_all η (patterns c qs ps)
patterns-equal false false θ η ps qs ts h i = h ∙ sym i
patterns-equal true false θ η ps qs ts h i = ap (apply_all θ) (stretched-same ps qs ts (turned-count η qs ts i)) ∙ h ∙ sym i
patterns-equal false true θ η ps qs ts h i = h ∙ sym (ap (apply_all η) (stretched-same qs ps ts (turned-count θ ps ts h)) ∙ i)
patterns-equal true true θ η ps qs ts h i = stretched-common θ η ps qs ts h i

---------------------------------------------------------------- patterns that differ
mutual
  unfolding differ apply

  pub differ-sound : (θ η : Map) (p q : Sort) → differ p q ≡ true → apply θ p ≡ apply η q → ⊥
  differ-sound θ η (var v) q d e = false≢true d
  differ-sound θ η (par ns b) q d e = false≢true d
  differ-sound θ η (node k a w ps) (var v) d e = false≢true d
  differ-sound θ η (node k a w ps) (par ns b) d e = false≢true d
  differ-sound θ η (node k a w ps) (node l b x qs) d e =
      or_cases (not (eqb k l && eqb a b && eqb w x)) (differ_any ps qs) d
      (λ t. let ek : k ≡ l = cc in let ea : a ≡ b = cc in let ew : w ≡ x = cc in
      clash (heads k l a b w x ek ea ew) (not-true (eqb k l && eqb a b && eqb w x) t))
      (λ t. let y : apply_all θ ps ≡ apply_all η qs = cc in differ_any-sound θ η ps qs t y)
    where
      heads : (k l a b w x : ℕ) → k ≡ l → a ≡ b → w ≡ x → (eqb k l && eqb a b && eqb w x) ≡ true
      heads k l a b w x p q r = rw (p, q, r, eqb-self l, eqb-self b, eqb-self x) refl

  pub differ_any-sound : (θ η : Map) (ps qs : Sorts) → differ_any ps qs ≡ true → apply_all θ ps ≡ apply_all η qs → ⊥
  differ_any-sound θ η end end d e = false≢true d
  differ_any-sound θ η end (q then qs) d e = then-end (sym e)
  differ_any-sound θ η (p then ps) end d e = then-end e
  differ_any-sound θ η (p then ps) (q then qs) d e =
      or_cases (differ p q) (differ_any ps qs) d
      (λ t. let y : apply θ p ≡ apply η q = cc in differ-sound θ η p q t y)
      (λ t. let y : apply_all θ ps ≡ apply_all η qs = cc in differ_any-sound θ η ps qs t y)

-- A rank of patterns without Par that fits turns its patterns into the arguments.
pub fit-turns : (b v : Bool) (ps : Sorts) (r : Sort) (ts : Sorts) (s : Sort) → parless_all ps ≡ true → fit (rank b v ps r) ts ≡ some s
    → (θ : Map) × (apply_all θ (patterns b ps ts) ≡ ts)
unfolding fit
fit-turns b v ps r ts s l h =
    by_option (matches_all every_name (patterns b ps ts) ts empty)
    (λ q. let z : rank_answer v r none ≡ some s = rw q at h in none-some z)
    (λ m q. (m, ((matching_all every_name (patterns b ps ts) ts (patterns-parless b ps ts l)).success m q).1))

-- So two whose patterns differ in the shortest common length fit no list together.
pub differ-disjoint : (b v c w : Bool) (ps qs : Sorts) (p q : Sort) → parless_all ps ≡ true → parless_all qs ≡ true
    → differ_any (patterns b ps qs) (patterns c qs ps) ≡ true → Disjoint (rank b v ps p) (rank c w qs q)
differ-disjoint b v c w ps qs p q lp lq d ts s u f g =
    let (θ, x) = fit-turns b v ps p ts s lp f in let (η, y) = fit-turns c w qs q ts u lq g in
    differ_any-sound θ η (patterns b ps qs) (patterns c qs ps) d (patterns-equal b c θ η ps qs ts x y)

pub well-parless : (b v : Bool) (ps : Sorts) (r : Sort) → well_rank (rank b v ps r) ≡ true → parless_all ps ≡ true
unfolding well_rank
well-parless b v ps r e = (three (closed ps r) (proper r) (parless_all ps) e).2

---------------------------------------------------------------- patterns that are all Int or all Real
pub repeated-are : (s p : Sort) (ts : Sorts) → same s p ≡ true → all_same s (repeated p ts) ≡ true
unfolding repeated all_same
repeated-are s p end e = refl
repeated-are s p (t then ts) e = and-true (same s p) (all_same s (repeated p ts)) e (repeated-are s p ts e)

pub stretched-are : (s : Sort) (ps ts : Sorts) → all_same s ps ≡ true → all_same s (stretched ps ts) ≡ true
unfolding stretched all_same
stretched-are s end ts e = refl
stretched-are s (p then end) end e = e
stretched-are s (p then end) (t then ts) e =
    let z = and_left (same s p) true e in and-true (same s p) (all_same s (repeated p ts)) z (repeated-are s p ts z)
stretched-are s (p then (q then ps)) end e = e
stretched-are s (p then (q then ps)) (t then ts) e =
    and-true (same s p) (all_same s (stretched (q then ps) ts)) (and_left (same s p) (all_same s (q then ps)) e)
    (stretched-are s (q then ps) ts (and_right (same s p) (all_same s (q then ps)) e))

pub patterns-are : (b : Bool) (s : Sort) (ps ts : Sorts) → all_same s ps ≡ true → all_same s (patterns b ps ts) ≡ true
patterns-are true s ps ts e = stretched-are s ps ts e
patterns-are false s ps ts e = e

-- What stands among arguments that such patterns are turned into is that sort.
pub are-stands : (θ : Map) (s u : Sort) (ps ts : Sorts) → apply θ s ≡ s → all_same s ps ≡ true → apply_all θ ps ≡ ts → Stands u ts → s ≡ u
unfolding all_same apply
are-stands θ s u ps end a e h z = absurd z
are-stands θ s u end (t then ts) a e h z = then-end (sym h)
are-stands θ s u (p then ps) (t then ts) a e h (inl z) =
    let y = same-sound s p (and_left (same s p) (all_same s ps) e) in cc
are-stands θ s u (p then ps) (t then ts) a e h (inr z) =
    let y : apply_all θ ps ≡ ts = cc in are-stands θ s u ps ts a (and_right (same s p) (all_same s ps) e) y z

pub unlike-sound : (θ : Map) (b : Bool) (ps ts : Sorts) (u : Sort) (f : Form) → unlike ps f ≡ true → apply_all θ (patterns b ps ts) ≡ ts
    → Computes f ts u → ⊥
unfolding apply
unlike-sound θ b ps ts u concat d h c = false≢true d
unlike-sound θ b ps ts u (mixed r) d h c =
    or_cases (all_same int ps) (all_same real ps) d
    (λ t. int-real (are-stands θ int real (patterns b ps ts) ts refl (patterns-are b int ps ts t) h c.2))
    (λ t. int-real (sym (are-stands θ real int (patterns b ps ts) ts refl (patterns-are b real ps ts t) h c.1)))
unlike-sound θ b ps ts u insert d h c = false≢true d
unlike-sound θ b ps ts u tupling d h c = false≢true d
unlike-sound θ b ps ts u transpose d h c = false≢true d
unlike-sound θ b ps ts u join d h c = false≢true d
unlike-sound θ b ps ts u product d h c = false≢true d

---------------------------------------------------------------- the test
-- RANKS THAT THE TEST TELLS APART fit no list together.
pub disjoint-sound : (q r : Rank) → well_rank q ≡ true → well_rank r ≡ true → disjoint q r ≡ true → Disjoint q r
unfolding disjoint
disjoint-sound (rank b v ps p) (rank c w qs q) wq wr d ts s u f g =
    differ-disjoint b v c w ps qs p q (well-parless b v ps p wq) (well-parless c w qs q wr) d ts s u f g
disjoint-sound (rank b v ps p) (computed h) wq wr d ts s u f g =
    let (θ, x) = fit-turns b v ps p ts s (well-parless b v ps p wq) f in unlike-sound θ b ps ts u h d x (unfold fit in computes-only h ts u g)
disjoint-sound (computed h) (rank c w qs q) wq wr d ts s u f g =
    let (θ, x) = fit-turns c w qs q ts u (well-parless c w qs q wr) g in unlike-sound θ c qs ts s h d x (unfold fit in computes-only h ts s f)
disjoint-sound (computed h) (computed i) wq wr d ts s u f g = false≢true d
