-- The verdict on a record by its kind, and what a record that stands tells the function of its kind.
use Prim.Native.Nat.{ℕ, zero, suc, ◌+◌, ◌*◌, ◌≤◌, ◌<◌}
use mathlib.Core.Path.{◌≡◌, refl, sym, ap, ap₂, ◌∙◌}
use mathlib.Core.Logic.{◌⊎◌, inl, inr}
use mathlib.Core.Bool.{Bool, not, cond}
use mathlib.Core.List.{List, []}
use native.Mathlib.Omega.{arith}
use lib.ListN.{length, get_or}
use lib.Dec.{eqb}
use borrow.Author.Tests.{eq-eqb}
use Rattle.record.specs.Sort.{Sorts, int, real, string, reglan, bitvec}
use Rattle.record.specs.Number.{u16_at}
use Rattle.record.specs.Kinds.{term_number}
use Rattle.record.specs.declared.kinds.TermKind.{TermKind}
use Rattle.record.specs.Record.{sorts_of}
use Rattle.store.specs.Good.{Good}
use Rattle.record.specs.Decode.{store_of, sort_at}
use Rattle.reader.specs.declared.TermRecord.{TermRecord}
use Rattle.matching_tables.specs.Usable.{OneAsks}
use Rattle.matching_tables.specs.Entered.{good-usable}
use Rattle.row_rules.specs.declared.Cause.TheVariants.{NoRank, Barred}
use Rattle.row_rules.specs.Verdict.{Verdict, sort, refused, need}
use Rattle.row_rules.specs.Lists.{binding_sorts}
use Rattle.row_rules.specs.Term.{Site}
use Rattle.check_rules.specs.Ranks.{smt_lib}
use Rattle.check_rules.specs.Checked.{checked_app, operated, binder, letting, indexing, qualified, checked}
use Rattle.row_answer.specs.Arguments.{bound_numbers, constants_in}
use Rattle.infer_operator.specs.Asks.{ArgsAsks}
use Rattle.check_operator.specs.Contract.{ArgsAsk, args_of}
use Rattle.check_row.specs.Single.{constant_verdict, variable_verdict, OverAsks}
use Rattle.row_parts.specs.Site.{site_over, SiteAsks}
use Rattle.row_parts.specs.SiteLaws.{OwnIs, var-owns, as_own, bindings-sorts, bindings-bound, index-constants, count-few, binder-one}
use Rattle.check_row.specs.Indexed.{IndexingAsks}
use Rattle.check_row.specs.Bound.{BinderAsks}

---------------------------------------------------------------- the verdict by the kind
-- The five constants, before whatever follows.
constants-first : (k w : ℕ) (v : Verdict) → k < 5
    → cond (eqb k 0) (sort int)
    (cond (eqb k 1) (sort real)
    (cond (eqb k 2) (sort string)
    (cond (eqb k 3) (sort reglan)
    (cond (eqb k 4) (need (not (eqb w 0)) Barred (sort (bitvec w))) v)))) ≡ constant_verdict k w
constants-first zero w v l = refl
constants-first (suc zero) w v l = refl
constants-first (suc (suc zero)) w v l = refl
constants-first (suc (suc (suc zero))) w v l = refl
constants-first (suc (suc (suc (suc zero)))) w v l = refl
constants-first (suc (suc (suc (suc (suc k))))) w v l = absurd (omega arith)

module _ (z : Site) where
  pub checked-constant : z.kind < 5 → checked smt_lib z ≡ constant_verdict z.kind z.number
  unfolding checked
  checked-constant l = constants-first z.kind z.number _ l

  pub checked-app : z.kind ≡ 6 → checked smt_lib z ≡ checked_app z.args
  unfolding checked
  checked-app e = rw e refl

  checked-op : z.kind ≡ 7 → checked smt_lib z ≡ operated smt_lib z.number z.args
  unfolding checked
  checked-op e = rw e refl

  checked-binder : z.kind ≡ 8 → checked smt_lib z ≡ binder z.number (binding_sorts z.bindings) z.args
  unfolding checked
  checked-binder e = rw e refl

  checked-indexed : z.kind ≡ 11 → checked smt_lib z ≡ indexing z.number z.indices z.args
  unfolding checked
  checked-indexed e = rw e refl

  checked-let : z.kind ≡ 9 → checked smt_lib z ≡ letting z.args
  unfolding checked
  checked-let e = rw e refl

  checked-var : z.kind ≡ 5 → checked smt_lib z ≡ variable_verdict z.own
  unfolding checked
  checked-var e = rw e refl

  checked_as : z.kind ≡ 12 → checked smt_lib z ≡ qualified z.number z.own z.args
  unfolding checked
  checked_as e = rw e refl

  pub checked-match : z.kind ≡ 10 → checked smt_lib z ≡ refused NoRank
  unfolding checked
  checked-match e = rw e refl

-- The kinds of the constants.
pub five_kinds : (k : TermKind) → (k ≡ TermKind.Integer) ⊎ ((k ≡ TermKind.Real) ⊎ ((k ≡ TermKind.String) ⊎ ((k ≡ TermKind.RegLan) ⊎ (k ≡ TermKind.BitVector)))) → term_number k < 5
five_kinds k (inl e) = let q = ap term_number e in omega (arith, q)
five_kinds k (inr (inl e)) = let q = ap term_number e in omega (arith, q)
five_kinds k (inr (inr (inl e))) = let q = ap term_number e in omega (arith, q)
five_kinds k (inr (inr (inr (inl e)))) = let q = ap term_number e in omega (arith, q)
five_kinds k (inr (inr (inr (inr e)))) = let q = ap term_number e in omega (arith, q)

---------------------------------------------------------------- what a record that stands tells
module _ {b p ix : List ℕ} {n u : ℕ} {prm imgs bnd s tbl xs : List ℕ} {r : TermRecord} {a : List ℕ} (f : SiteAsks b p ix n u prm imgs bnd s tbl xs r a) {m : ℕ} (count : m ≡ r.list.count) where
  good : Good b p ix n u
  good = f.asks.good

  few : r.list.count ≤ 64
  few = count-few f.asks.standing

  within : 3 + 2 * m ≤ length a
  within = omega (arith, few, f.asks.room, count)

  below : (j : ℕ) → j < m → u16_at a (3 + 2 * j) < n
  below j l = f.below j (omega (arith, count))

  abbrev site : Site
  site = site_over (store_of b p n) s tbl xs a r

  many : args_of b p n a r.list.count ≡ args_of b p n a m
  many = ap (args_of b p n a) (sym count)

  pub known-args : OverAsks b p n a m
  known-args = record { within = within; over = record { stored = good.stored; distinct = good.distinct; below = below } }

  pub let-asks : ArgsAsk b p a m
  let-asks = record { within = within; many = n; over = known-args.over }

  pub app-is : term_number r.kind ≡ 6 → checked smt_lib site ≡ checked_app (args_of b p n a m)
  app-is e = checked-app site e ∙ ap checked_app many

  pub op-asks : ArgsAsks b p ix n u a m
  op-asks = record { good = good; few = omega (arith, few, count); room = f.asks.room; below = below }

  pub op-is : term_number r.kind ≡ 7 → checked smt_lib site ≡ operated smt_lib r.number (args_of b p n a m)
  op-is e = checked-op site e ∙ ap (operated smt_lib r.number) many

  pub binder-asks : term_number r.kind ≡ 8 → BinderAsks b p ix n u s tbl r.pairs.at r.pairs.count a m
  binder-asks e =
      let h = bindings-bound f.asks.standing in
      let one = binder-one f.asks.standing e in
      record {
        good = good;
        bound = record { usable = good-usable b p ix n u good; within = h.within; each = h.each; below = h.below };
        few = h.few;
        room = omega (arith, f.asks.room);
        some = omega (arith, one, count);
        known = f.below 0 (omega (arith, one));
      }

  pub binder-kind : term_number r.kind ≡ 8 → checked smt_lib site ≡ binder r.number (sorts_of (store_of b p n) (bound_numbers tbl s r.pairs.at r.pairs.count)) (args_of b p n a 1)
  binder-kind e =
      checked-binder site e
      ∙ ap₂ (λ (bs : Sorts) (i : ℕ). binder r.number bs (args_of b p n a i)) (bindings-sorts (store_of b p n) tbl s r) (binder-one f.asks.standing e)

  pub let-is : term_number r.kind ≡ 9 → checked smt_lib site ≡ letting (args_of b p n a m)
  let-is e = checked-let site e ∙ ap letting many

  pub index-asks : term_number r.kind ≡ 11 → IndexingAsks b p ix n u s xs r.second.at r.second.count a m
  index-asks e = record { good = good; constants = index-constants f.asks.standing e; within = within; below = below }

  pub index-kind : term_number r.kind ≡ 11 → checked smt_lib site ≡ indexing r.number (constants_in s xs r.second.at r.second.count) (args_of b p n a m)
  index-kind e =
      checked-indexed site e
      ∙ ap₂ (λ (t : Bool) (ts : Sorts). indexing r.number (cond t (constants_in s xs r.second.at r.second.count) []) ts) (eq-eqb (term_number r.kind) 11 e) many

  module _ (e : term_number r.kind ≡ 5) where
    own-var : OwnIs b p n tbl r
    own-var = var-owns f.asks.standing b p e

    pub var-inside : r.sort < length tbl
    var-inside = own-var.inside

    pub var-known : get_or tbl r.sort 0 < n
    var-known = own-var.known

    pub var-is : checked smt_lib site ≡ variable_verdict (sort_at b p n (get_or tbl r.sort 0))
    var-is = checked-var site e ∙ ap variable_verdict own-var.is

  module _ (e : term_number r.kind ≡ 12) where
    own_as : OwnIs b p n tbl r
    own_as = as_own f.asks.standing b p e

    pub as-inside : r.sort < length tbl
    as-inside = own_as.inside

    pub as_asks : OneAsks b p n (get_or tbl r.sort 0)
    as_asks = record { usable = good-usable b p ix n u good; known = own_as.known }

    pub as_is : checked smt_lib site ≡ qualified r.number (sort_at b p n (get_or tbl r.sort 0)) (args_of b p n a m)
    as_is = checked_as site e ∙ ap₂ (qualified r.number) own_as.is many
