-- The element of an Array, the second of its parts, of whatever store the argument is.
use Rattle.std.proofs.Common.{◌≡◌, ◌<◌, ℕ, rules, refl, Err, sym, ap, subst, ◌∙◌}
use Rattle.record.specs.Decode.{sort_at}
use Rattle.record.specs.declared.kinds.SortKind.TheVariants.{Array}
use Rattle.store.specs.Walk.{entry-asks}
use Rattle.matching_tables.specs.KindTests.{kinds-same, kinds-differ}
use Rattle.infer_rules.specs.Inferred.{selected, element_of}
use Rattle.infer_operator.specs.Asks.{Referring, sorts_in}
use Rattle.infer_operator.specs.Single.{ElementHas}
use Rattle.infer_operator.proofs.AnswerWays.{taken-known, taken-then, taken-none, taken-panics}
use Rattle.infer_operator.proofs.SingleLaws.{element-panics, element-found, element-in, element-known, element-is, element-none}
use Rattle.infer_operator.proofs.single.element.Goals as goal
use Rattle.infer_operator.proofs.single.element.Goals.{In_ok-k}

-- The first argument: a number of the store, and the sort that is asked for its element.
known : (c : In_ok-k) {n : ℕ} → Referring c.args.entries.records.now c.args.entries.places.now n c.args.args.now.bytes.now 3 c.args.args.now.count → c.in_ok-k.k < n
known c h = taken-known _ _ _ c.args.args.now c.argument.ensures.value c.in_ok-k.was h

first : (c : In_ok-k) (n : ℕ)
    → let z = c.args.entries in
    let a = c.args.args.now in
    selected (sorts_in z.records.now z.places.now n a.bytes.now 3 a.count) ≡ element_of (sort_at z.records.now z.places.now n c.in_ok-k.k)
first c n = taken-then c.args.entries.records.now c.args.entries.places.now n c.args.args.now c.argument.ensures.value c.in_ok-k.was selected

pub returns-in_err-k : goal.returns-in_err-k
returns-in_err-k c =
    let z = c.args.entries in
    let a = c.args.args.now in
    let e : c.from_residual.result ≡ Err c.in_err-k.field-0.0 = search rules in
    let q = taken-panics z.records.now z.places.now 0 a c.argument.ensures.value c.in_err-k.was in
    subst (ElementHas z.records.now z.places.now a.bytes.now a.count) (sym (e ∙ ap Err q))
    (element-panics (λ n h. taken-none z.records.now z.places.now n a c.argument.ensures.value c.in_err-k.was selected))

pub entry-array-requires : goal.entry-array-requires
entry-array-requires c = let h = c.requires.1 in entry-asks _ _ c.requires.0 c.in_ok-k.k h.stored (known (goal.at.entry-array-requires c).In_ok-k h)

pub returns-then-ne : goal.returns-then-ne
returns-then-ne c =
    let here = (goal.at.returns-then-ne c).In_ok-k in
    let r = c.entry-array.result in
    element-panics (λ n h. first here n ∙ element-none h.stored (known here h) r c.entry-array.ensures (kinds-differ r.kind Array c.if-ne.ensures refl))

pub get-requires : goal.get-requires
get-requires c =
    let h = c.requires.1 in
    let r = c.entry-array.result in
    element-in h.stored (known (goal.at.get-requires c).In_ok-k h) r c.entry-array.ensures (kinds-same r.kind Array c.if-ne.ensures refl)

pub returns : goal.returns
returns c =
    let here = (goal.at.returns c).In_ok-k in
    let r = c.entry-array.result in
    let read = c.entry-array.ensures in
    let array = kinds-same r.kind Array c.if-ne.ensures refl in
    let part = c.get.ensures.value in
    element-found (λ n h. (element-known h.stored (known here h) r read array part, first here n ∙ element-is h.stored (known here h) r read array part))
