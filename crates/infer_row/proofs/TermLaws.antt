-- The verdict on a record by its kind: own sorts, binders, and a Let and a Match over their arguments.
use Prim.Native.Nat.{ℕ, zero, suc, ◌+◌, ◌*◌, ◌≤◌, ◌<◌}
use mathlib.Core.Path.{◌≡◌, refl, sym, ap, subst, ◌∙◌}
use mathlib.Core.List.{List, [], ◌∷◌}
use mathlib.Core.Logic.{◌⊎◌, inl, inr, ⊎_elim}
use native.Mathlib.Omega.{arith}
use lib.ListN.{length, get_or}
use Rattle.record.specs.Number.{u16_at, numbers_at, pairs_at}
use Rattle.record.specs.Numbers.{pairs_left}
use Rattle.record.specs.declared.numbers.Pairs.{Pairs}
use Rattle.record.specs.Kinds.{term_number}
use Rattle.record.specs.Sort.{Sorts, function}
use Rattle.record.specs.Record.{sorts_of}
use Rattle.record.specs.Decode.{store_of, sort_at}
use Rattle.reader.specs.declared.TermRecord.{TermRecord}
use Rattle.sheet.specs.Sheet.{Binding}
use Rattle.row_rules.specs.declared.Cause.TheVariants.{Panics}
use Rattle.row_rules.specs.Verdict.{sort, refused}
use Rattle.row_rules.specs.Lists.{joined, binding_sorts}
use Rattle.row_rules.specs.Term.{Site}
use Rattle.infer_rules.specs.Inferred.{inferred_app, final_of, matched, chosen, inferred_lambda, inferred_binder, inferred}
use Rattle.row_answer.specs.Arguments.{bound_numbers}
use Rattle.row_parts.specs.Site.{site_over}
use Rattle.row_parts.specs.SiteLaws.{OwnIs, bindings-sorts, bindings-none, bindings-first}
use Rattle.std.specs.Prelude.{Result, Ok, Err, Option as Found, Some, None, ok_or}
use Rattle.std.specs.Result.{result_unwrap_or}
use Rattle.record.specs.Kinds.{BinderDecodes, binder_number}
use Rattle.record.specs.declared.kinds.UnknownKind.{UnknownKind}
use Rattle.record.specs.declared.kinds.Binder.{Binder as Binders}
use Rattle.record.specs.declared.kinds.Binder.TheVariants.{Forall}
use Rattle.std.specs.Iterator.{YieldsFirst}
use Rattle.sheet.specs.declared.ReadSheet.{ReadSheet}
use Rattle.store.specs.declared.Store.{Store}
use Rattle.row_rules.specs.declared.Cause.{Cause}
use Rattle.row_answer.specs.declared.arguments.Args.{Args}
use Rattle.infer_operator.specs.Asks.{arguments, args-refer, sorts-first}
use Rattle.infer_row.specs.Terms.{bindings, BoundAsks, InferComposedAsks, PlainTerm, constant, variable, qualified}

---------------------------------------------------------------- by kind
module _ (z : Site) where
  site-var : z.kind ≡ 5 → inferred z ≡ sort z.own
  unfolding inferred
  site-var e = rw e refl

  pub site-app : z.kind ≡ 6 → inferred z ≡ inferred_app z.args
  unfolding inferred
  site-app e = rw e refl

  pub site-let : z.kind ≡ 9 → inferred z ≡ final_of z.args
  unfolding inferred
  site-let e = rw e refl

  pub site-match : z.kind ≡ 10 → inferred z ≡ matched z.args
  unfolding inferred
  site-match e = rw e refl

  site-as : z.kind ≡ 12 → inferred z ≡ sort z.own
  unfolding inferred
  site-as e = rw e refl

---------------------------------------------------------------- own sorts
module _ {b p : List ℕ} {n : ℕ} {tbl : List ℕ} {r : TermRecord} (l : 5 ≤ term_number r.kind) where
  pub plain-own : PlainTerm b p n tbl r → OwnIs b p n tbl r
  plain-own (constant h) = absurd (omega arith)
  plain-own (variable e o) = o
  plain-own (qualified e o) = o

  pub plain-is : (h : PlainTerm b p n tbl r) (s xs a : List ℕ) → inferred (site_over (store_of b p n) s tbl xs a r) ≡ sort (sort_at b p n (get_or tbl r.sort 0))
  plain-is (constant h) s xs a = absurd (omega arith)
  plain-is (variable e o) s xs a = site-var (site_over (store_of b p n) s tbl xs a r) e ∙ ap sort o.is
  plain-is (qualified e o) s xs a = site-as (site_over (store_of b p n) s tbl xs a r) e ∙ ap sort o.is

---------------------------------------------------------------- binders
lambda-of : (bs : List Binding) (ss : Sorts) → inferred_binder 3 bs ss ≡ inferred_lambda bs ss
unfolding inferred_binder
lambda-of bs ss = refl

choice-of : (bs : List Binding) (ss : Sorts) → inferred_binder 2 bs ss ≡ chosen bs
unfolding inferred_binder
choice-of bs ss = refl

-- The first pair, which `next` and `ok_or` gave; or none.
module _ (p : Pairs) (o : Found (ℕ × ℕ)) (q : Pairs) (steps : YieldsFirst pairs_left p o q) where
  pub pair-taken : {v w : ℕ} → ok_or o Panics ≡ Ok (v, w) → pairs_left p ≡ (v, w) ∷ pairs_left q
  pair-taken {v} {w} e = go o e steps
    where
      go : (i : Found (ℕ × ℕ)) → ok_or i Panics ≡ Ok (v, w) → YieldsFirst pairs_left p i q → pairs_left p ≡ (v, w) ∷ pairs_left q
      go (Some j) e h = let f : j ≡ (v, w) = cc in h ∙ ap (λ (i : ℕ × ℕ). i ∷ pairs_left q) f
      go None e h = cc

  pub pair-missing : {c : Cause} → ok_or o Panics ≡ Err c → pairs_left p ≡ []
  pair-missing {c} e = go o e steps
    where
      go : (i : Found (ℕ × ℕ)) → ok_or i Panics ≡ Err c → YieldsFirst pairs_left p i q → pairs_left p ≡ []
      go (Some j) e h = cc
      go None e h = h.0

no-pairs : (s : List ℕ) (x n : ℕ) → pairs_at s x n ≡ [] → n ≡ 0
unfolding pairs_at
no-pairs s x zero e = refl
no-pairs s x (suc n) e = cc

first-pair : (s : List ℕ) (x n : ℕ) {v w : ℕ} {rest : List (ℕ × ℕ)} → pairs_at s x n ≡ (v, w) ∷ rest → (0 < n) × (w ≡ u16_at s (x + 2))
unfolding pairs_at
first-pair s x zero e = cc
first-pair s x (suc n) e = (omega arith, sym (ap (λ (l : List (ℕ × ℕ)). (get_or l 0 (0, 0)).1) e))

module _ {s : Store} {z : ReadSheet} {r : TermRecord} {a : Args} (h : BoundAsks s z r a) where
  -- The body is the first argument.
  pub lambda-is : {k : ℕ} → k ≡ u16_at a.bytes.now 3 → {j : ℕ} → j ≡ 3
      → inferred_binder j (bindings s z r) (arguments s a)
      ≡ sort (function (joined (sorts_of (store_of s.records.now s.places.now s.count) (bound_numbers z.table.now z.bytes.now r.pairs.at r.pairs.count)) (sort_at s.records.now s.places.now s.count k)))
  lambda-is {k} e {j} q =
      let b = s.records.now in
      let p = s.places.now in
      ap (λ (i : ℕ). inferred_binder i (bindings s z r) (arguments s a)) q
      ∙ lambda-of (bindings s z r) (arguments s a)
      ∙ ap (inferred_lambda (bindings s z r)) (sorts-first b p s.count a.bytes.now 3 a.count (args-refer b p s.index.now s.count s.used a.bytes.now a.count h.args) h.body)
      ∙ ap (λ (i : ℕ). sort (function (joined (binding_sorts (bindings s z r)) (sort_at b p s.count i)))) (sym e)
      ∙ ap (λ (ss : Sorts). sort (function (joined ss (sort_at b p s.count k)))) (bindings-sorts (store_of b p s.count) z.table.now z.bytes.now r)

  pub choice-none : {j : ℕ} → j ≡ 2 → pairs_at z.bytes.now r.pairs.at r.pairs.count ≡ [] → inferred_binder j (bindings s z r) (arguments s a) ≡ refused Panics
  choice-none {j} q e =
      ap (λ (i : ℕ). inferred_binder i (bindings s z r) (arguments s a)) q
      ∙ choice-of (bindings s z r) (arguments s a)
      ∙ ap chosen (bindings-none (store_of s.records.now s.places.now s.count) z.table.now z.bytes.now r (no-pairs z.bytes.now r.pairs.at r.pairs.count e))

  -- The first pair's sort stands two bytes behind its name.
  module _ {v w : ℕ} {rest : List (ℕ × ℕ)} (f : pairs_at z.bytes.now r.pairs.at r.pairs.count ≡ (v, w) ∷ rest) where
    some : 0 < r.pairs.count
    some = (first-pair z.bytes.now r.pairs.at r.pairs.count f).0

    e : w ≡ u16_at z.bytes.now (r.pairs.at + 2)
    e = (first-pair z.bytes.now r.pairs.at r.pairs.count f).1

    place : r.pairs.at + 4 * 0 + 2 ≡ r.pairs.at + 2
    place = omega arith

    pub choice-in : w < length z.table.now
    choice-in = omega (arith, e, subst (λ (y : ℕ). u16_at z.bytes.now y < length z.table.now) place (h.pairs.each 0 some))

    pub choice-known : get_or z.table.now w 0 < s.count
    choice-known =
        subst (λ (i : ℕ). get_or z.table.now i 0 < s.count) (sym e)
        (subst (λ (y : ℕ). get_or z.table.now (u16_at z.bytes.now y) 0 < s.count) place (h.pairs.below 0 some))

    pub choice-is : {j : ℕ} → j ≡ 2 → inferred_binder j (bindings s z r) (arguments s a) ≡ sort (sort_at s.records.now s.places.now s.count (get_or z.table.now w 0))
    unfolding sort_at
    choice-is {j} q =
        let b = s.records.now in
        let p = s.places.now in
        ap (λ (i : ℕ). inferred_binder i (bindings s z r) (arguments s a)) q
        ∙ choice-of (bindings s z r) (arguments s a)
        ∙ ap chosen (bindings-first (store_of b p s.count) z.table.now z.bytes.now r some)
        ∙ ap (λ (y : ℕ). sort (sort_at b p s.count (get_or z.table.now (u16_at z.bytes.now y) 0))) place
        ∙ ap (λ (i : ℕ). sort (sort_at b p s.count (get_or z.table.now i 0))) (sym e)

-- The binder with a number; Forall for a number that is none's.
named-binder : (n : ℕ) (o : Result Binders UnknownKind) → BinderDecodes n o → (k : Binders) → result_unwrap_or o Forall ≡ k → (binder_number k ≡ n) ⊎ (k ≡ Forall) × (4 ≤ n)
named-binder n (Ok j) h k e = inl (ap binder_number (sym e) ∙ h)
named-binder n (Err x) h k e = inr (sym e, h.1)

pub binder-is : (n : ℕ) (o : Result Binders UnknownKind) → BinderDecodes n o → (k : Binders) → result_unwrap_or o Forall ≡ k → (k ≡ Forall → ⊥) → n ≡ binder_number k
binder-is n o h k e d =
    ⊎_elim (λ (q : binder_number k ≡ n). sym q) (λ (q : (k ≡ Forall) × (4 ≤ n)). absurd (d q.0)) (named-binder n o h k e)

---------------------------------------------------------------- over the arguments
-- The verdict by the kind of a record whose arguments are as many as it names.
module _ {s : Store} {z : ReadSheet} {r : TermRecord} {a : Args} (h : InferComposedAsks s z r a) where
  abbrev pub site : Site
  site = site_over (store_of s.records.now s.places.now s.count) z.bytes.now z.table.now z.starts.now a.bytes.now r

  site-args : {T : Type 0} (f : Sorts → T) → f (sorts_of (store_of s.records.now s.places.now s.count) (numbers_at a.bytes.now 3 r.list.count)) ≡ f (arguments s a)
  site-args f = ap (λ (m : ℕ). f (sorts_of (store_of s.records.now s.places.now s.count) (numbers_at a.bytes.now 3 m))) (sym h.count)

  pub composed-let : term_number r.kind ≡ 9 → inferred site ≡ final_of (arguments s a)
  composed-let q = site-let site q ∙ site-args (λ ss. final_of ss)

  pub composed-match : term_number r.kind ≡ 10 → inferred site ≡ matched (arguments s a)
  composed-match q = site-match site q ∙ site-args (λ ss. matched ss)
