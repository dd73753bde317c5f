-- What a form gives of sets, tuples and relations is made of the parts of its arguments: a test of sorts that goes by parts holds of
-- the answer where it holds of the arguments. That an answer is proper, and that it has no Par, is this.
use Rattle.std.specs.Prelude.{◌≡◌, Bool, true, ◌&&◌}
use Rattle.std.proofs.Common.{sym, ◌∙◌}
use Rattle.record.specs.Sort.{Sort, Sorts, end, ◌then◌, set, tuple}
use Rattle.record.specs.Cases.{and_left, and_right, and-true}
use Rattle.row_rules.specs.Lists.{joined, appended}
use Rattle.check_rules.specs.Forms.{Form, concat, mixed, insert, tupling, transpose, join, product, times, backwards, Computes}

-- A test P of sorts and Ps of lists: of a list it is that of each entry; and of a set and of a tuple that of the parts.
pub record ByEntries (P : Sort → Bool) (Ps : Sorts → Bool) : Type 0 where
  pub none : Ps end ≡ true
  pub each : (s : Sort) (ss : Sorts) → Ps (s then ss) ≡ (P s && Ps ss)

pub record ByParts (P : Sort → Bool) (Ps : Sorts → Bool) : Type 0 where
  pub entries : ByEntries P Ps
  pub of_set : (s : Sort) → P (set s) ≡ Ps (s then end)
  pub of_tuple : (ss : Sorts) → P (tuple ss) ≡ Ps ss

---------------------------------------------------------------- lists
module _ (P : Sort → Bool) (Ps : Sorts → Bool) (E : ByEntries P Ps) where
  pub put-holds : (s : Sort) (ss : Sorts) → P s ≡ true → Ps ss ≡ true → Ps (s then ss) ≡ true
  put-holds s ss p q = E.each s ss ∙ and-true (P s) (Ps ss) p q

  pub first-holds : (s : Sort) (ss : Sorts) → Ps (s then ss) ≡ true → P s ≡ true
  first-holds s ss h = and_left (P s) (Ps ss) (sym (E.each s ss) ∙ h)

  pub behind-holds : (s : Sort) (ss : Sorts) → Ps (s then ss) ≡ true → Ps ss ≡ true
  behind-holds s ss h = and_right (P s) (Ps ss) (sym (E.each s ss) ∙ h)

  pub joined-holds : (ss : Sorts) (c : Sort) → Ps ss ≡ true → P c ≡ true → Ps (joined ss c) ≡ true
  unfolding joined
  joined-holds end c p q = put-holds c end q E.none
  joined-holds (s then ss) c p q = put-holds s (joined ss c) (first-holds s ss p) (joined-holds ss c (behind-holds s ss p) q)

  -- Without the last.
  pub before-holds : (ss : Sorts) (c : Sort) → Ps (joined ss c) ≡ true → Ps ss ≡ true
  unfolding joined
  before-holds end c p = E.none
  before-holds (s then ss) c p = put-holds s ss (first-holds s (joined ss c) p) (before-holds ss c (behind-holds s (joined ss c) p))

  pub appended-holds : (ss ts : Sorts) → Ps ss ≡ true → Ps ts ≡ true → Ps (appended ss ts) ≡ true
  unfolding appended
  appended-holds end ts p q = q
  appended-holds (s then ss) ts p q = put-holds s (appended ss ts) (first-holds s ss p) (appended-holds ss ts (behind-holds s ss p) q)

  pub backwards-holds : (ss : Sorts) → Ps ss ≡ true → Ps (backwards ss) ≡ true
  unfolding backwards
  backwards-holds end p = E.none
  backwards-holds (s then ss) p = joined-holds (backwards ss) s (backwards-holds ss (behind-holds s ss p)) (first-holds s ss p)

---------------------------------------------------------------- forms
-- The forms of sets, tuples and relations.
abbrev pub of_parts : Form → Type 0
of_parts concat = ⊥
of_parts (mixed r) = ⊥
of_parts insert = Unit
of_parts tupling = Unit
of_parts transpose = Unit
of_parts join = Unit
of_parts product = Unit

module _ (P : Sort → Bool) (Ps : Sorts → Bool) (B : ByParts P Ps) where
  abbrev E : ByEntries P Ps
  E = B.entries

  relation-holds : (cs : Sorts) → Ps cs ≡ true → P (set (tuple cs)) ≡ true
  relation-holds cs p = B.of_set (tuple cs) ∙ put-holds P Ps E (tuple cs) end (B.of_tuple cs ∙ p) E.none

  columns-hold : (cs ss : Sorts) → Ps (set (tuple cs) then ss) ≡ true → Ps cs ≡ true
  columns-hold cs ss p = sym (B.of_tuple cs) ∙ first-holds P Ps E (tuple cs) end (sym (B.of_set (tuple cs)) ∙ first-holds P Ps E (set (tuple cs)) ss p)

  -- A TEST THAT GOES BY PARTS holds of what such a form gives where it holds of the arguments.
  pub parts-hold : (f : Form) (ts : Sorts) (s : Sort) → of_parts f → Ps ts ≡ true → Computes f ts s → P s ≡ true
  unfolding times
  parts-hold concat ts s o p h = absurd o
  parts-hold (mixed r) ts s o p h = absurd o
  parts-hold insert ts s o p h =
      let (x, n, e, r) = h in
      let z = first-holds P Ps E x (times n x (set x)) (rw e at p) in rw r (B.of_set x ∙ put-holds P Ps E x end z E.none)
  parts-hold tupling ts s o p h = let (a, as', e, r) = h in rw r (B.of_tuple ts ∙ p)
  parts-hold transpose ts s o p h =
      let (cs, e, r) = h in
      rw r (relation-holds (backwards cs) (backwards-holds P Ps E cs (columns-hold cs end (rw e at p))))
  parts-hold join ts s o p h =
      let (as', c, bs, e, r) = h in
      let a = set (tuple (joined as' c)) in
      let b = set (tuple (c then bs)) in
      let q : Ps (a then b then end) ≡ true = rw e at p in
      let zb = columns-hold (c then bs) end (behind-holds P Ps E a (b then end) q) in
      rw r (relation-holds (appended as' bs) (appended-holds P Ps E as' bs (before-holds P Ps E as' c (columns-hold (joined as' c) (b then end) q)) (behind-holds P Ps E c bs zb)))
  parts-hold product ts s o p h =
      let (as', bs, e, r) = h in
      let a = set (tuple as') in
      let b = set (tuple bs) in
      let q : Ps (a then b then end) ≡ true = rw e at p in
      rw r (relation-holds (appended as' bs) (appended-holds P Ps E as' bs (columns-hold as' (b then end) q) (columns-hold bs end (behind-holds P Ps E a (b then end) q))))
