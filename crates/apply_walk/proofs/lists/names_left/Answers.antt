-- Behind the names of out stand those kept so far, and at the end all that are kept.
use Rattle.std.proofs.Common.{ℕ, List, [], ◌++◌, ◌+◌, ◌≤◌, refl, sym, ◌∙◌, ap, arith, take, length, length-take, length-append, append-nil, append_assoc, subst}
use Rattle.std.proofs.lemmas.List.{take_more_set}
use lib.ListN.{length-set}
use Rattle.arrayvec.specs.ArrayVec.{array_vec_len}
use Rattle.record.specs.Number.{numbers_at}
use Rattle.record.specs.Numbers.{numbers_left}
use Rattle.apply_walk.specs.Lists.{unbound}
use Rattle.record.specs.Codec.{length-numbers_at}
use Rattle.apply_walk.proofs.ListLaws.{names-start, names-head, names-room, names-kept, names-gone, names-end, names-few, NamesInv, at-value, table-whole}
use Rattle.apply_walk.proofs.lists.names_left.Goals as goal

-- Nothing stands behind the first ones yet.
behind : {l all left o : List ℕ} → NamesInv l all left o o → NamesInv l all left o (o ++ [])
behind {l} {all} {left} {o} i = subst (λ (ws : List ℕ). NamesInv l all left o ws) (sym (append-nil o)) i

pub loop-v-init : goal.loop-v-init
loop-v-init c = let a = c.args in (
  behind (names-start a.bytes.now a.span.at a.span.count _ a.out.now.items c.type_inv.bytes (ap numbers_left c.into_iter-v-iterator.ensures.into_iter_gives ∙ c.numbers-v-items.ensures) c.requires.room),
  omega arith,
  refl,
)

pub overflow_cast-names : goal.overflow_cast-names
overflow_cast-names c =
    let h = names-head c.loop-v.invariant.0 c.in-Some.ensures.steps in
    omega arith

pub bounds-names-kept : goal.bounds-names-kept
bounds-names-kept c =
    let r = names-room c.loop-v.invariant.0 c.in-Some.ensures.steps in
    omega (arith, r, c.loop-v.invariant.1, c.loop-v.invariant.2, length-append c.args.out.now.items (take c.loop-v.kept c.loop-v.names), length-take c.loop-v.kept c.loop-v.names)

pub overflow_add-kept : goal.overflow_add-kept
overflow_add-kept c = omega (arith, c.loop-v.invariant.1)

pub offset_bounds-names-kept : goal.offset_bounds-names-kept
offset_bounds-names-kept c = omega (arith, c.loop-v.invariant.1)

pub loop-v-preserved-then-is_free : goal.loop-v-preserved-then-is_free
loop-v-preserved-then-is_free c =
    let o = c.args.out.now.items in
    let ws = take c.loop-v.kept c.loop-v.names in
    let r = names-room c.loop-v.invariant.0 c.in-Some.ensures.steps in
    let more : c.loop-v.kept + 1 ≤ 64 = omega (arith, r, c.loop-v.invariant.1, c.loop-v.invariant.2, length-append o ws, length-take c.loop-v.kept c.loop-v.names) in (
      names-kept c.loop-v.invariant.0 c.in-Some.ensures.steps (sym c.is_free.ensures ∙ c.if-is_free.true)
          (ap (λ (vs : List ℕ). o ++ vs) (take_more_set c.loop-v.names c.loop-v.kept _ (omega (arith, more, c.loop-v.invariant.2))) ∙ sym (append_assoc o ws _)),
      more,
      simp length-set c.loop-v.invariant.2,
    )

pub loop-v-preserved : goal.loop-v-preserved
loop-v-preserved c = (names-gone c.loop-v.invariant.0 c.in-Some.ensures.steps (sym c.is_free.ensures ∙ c.if-is_free.false), c.loop-v.invariant.1, c.loop-v.invariant.2)

pub returns : goal.returns
returns c =
    let a = c.args in
    let o = a.out.now.items in
    let ws = take c.loop-v.kept c.loop-v.names in
    let i = c.loop-v.invariant in
    let e = c.in-None.ensures.steps.0 in
    let few : array_vec_len a.out.now + length ws ≤ 64 = omega (arith, names-few i.0 e, length-append o ws, length-numbers_at a.bytes.now a.span.at a.span.count, c.requires.room) in
    at-value c.try_extend_from_slice.result (c.try_extend_from_slice.ensures.variant.1 few) c.try_extend_from_slice.ensures.ok
    ∙ names-end i.0 e ∙ ap (λ (l : List ℕ). o ++ unbound l (numbers_at a.bytes.now a.span.at a.span.count)) (table-whole c.requires.asks.table)

pub slice_bounds-images-end : goal.slice_bounds-images-end
slice_bounds-images-end c = omega (arith, c.requires.asks.table, ap length (table-whole c.requires.asks.table))
