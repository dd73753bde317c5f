-- The answer to a new width, by the first argument.
use Rattle.std.proofs.Common.{◌≡◌, refl, rules, sym, ap, ◌∙◌, ◌<◌}
use Rattle.record.specs.Sort.{◌then◌, bitvec}
use Rattle.record.specs.Decode.{sort_at}
use Rattle.record.specs.declared.kinds.SortKind.TheVariants.{BitVec, ParamBitVec}
use Rattle.row_rules.specs.Verdict.{sort}
use Rattle.row_answer.specs.AnswerLaws.{judged-as}
use Rattle.store.specs.Entry.{EntryIs}
use Rattle.infer_rules.specs.Inferred.{resized_of}
use Rattle.infer_operator.specs.Asks.{arguments}
use Rattle.infer_operator.proofs.AnswerWays.{others, answer-panics, first-known, first-then, first-panics}
use Rattle.infer_operator.proofs.WalkLaws.{width-small, entry-is, entry-not}
use Rattle.infer_row.proofs.IndexedLaws.{resize-known, resize-unknown, resize-other}
use Rattle.infer_row.proofs.indexed.resized.Given.{Over}
use Rattle.infer_row.proofs.indexed.resized.Goals as goal
use Rattle.infer_row.proofs.indexed.resized.Goals.{In_ok-k, After-entry-vector}

-- The first argument, which stands before the others, and what was read of it.
known : (g : Over) (c : In_ok-k g) → c.in_ok-k.k < c.args.store.now.count
known g c = first-known c.args.store.now c.args.args.now c.argument.ensures.value c.in_ok-k.was c.requires.asked

first : (g : Over) (c : In_ok-k g)
    → let s = c.args.store.now in
    let a = c.args.args.now in
    arguments s a ≡ sort_at s.records.now s.places.now s.count c.in_ok-k.k then others s.records.now s.places.now s.count a
first g c = first-then c.args.store.now c.args.args.now c.argument.ensures.value c.in_ok-k.was (λ ss. ss)

read : (g : Over) (c : After-entry-vector g) → let s = c.args.store.now in EntryIs s.records.now s.places.now s.count c.in_ok-k.k c.entry-vector.result
read g c = let s = c.args.store.now in c.entry-vector.ensures s.count s.good.stored (known g (goal.at.After-entry-vector g c).In_ok-k)

pub returns-in_err-k-clause-answer : goal.returns-in_err-k-clause-answer
returns-in_err-k-clause-answer g c = λ f h. first-panics c.args.store.now c.args.args.now c.argument.ensures.value c.in_err-k.was (resized_of f) refl (search rules)

pub entry-vector-requires : goal.entry-vector-requires
entry-vector-requires g c = known g (goal.at.entry-vector-requires g c).In_ok-k

pub resize-requires : goal.resize-requires
resize-requires g c =
    c.requires.callable c.entry-vector.result.number
    (width-small c.args.store.now.good.stored (known g (goal.at.resize-requires g c).In_ok-k) c.entry-vector.result c.entry-vector.ensures)

pub returns-in-BitVec-clause-answer : goal.returns-in-BitVec-clause-answer
returns-in-BitVec-clause-answer g c =
    let here = goal.at.returns-in-BitVec-clause-answer g c in
    let is = read g here.After-entry-vector in
    λ f h. judged-as (resize-known f (first g here.In_ok-k) (entry-is is BitVec c.in-BitVec.is) is.number ∙ ap (λ w. sort (bitvec w)) (sym (h _ _ c.resize.ensures))) c.bit_vector.ensures.answer

pub returns-in-ParamBitVec-clause-answer : goal.returns-in-ParamBitVec-clause-answer
returns-in-ParamBitVec-clause-answer g c =
    let here = goal.at.returns-in-ParamBitVec-clause-answer g c in
    λ f h. judged-as (resize-unknown f (first g here.In_ok-k) (entry-is (read g here.After-entry-vector) ParamBitVec c.in-ParamBitVec.is)) c.leaf.ensures.answer

pub returns-in_default-clause-answer : goal.returns-in_default-clause-answer
returns-in_default-clause-answer g c =
    let here = goal.at.returns-in_default-clause-answer g c in
    let is = read g here.After-entry-vector in
    let d = c.in_default in
    λ f h. answer-panics c.args.store.now (resize-other f (first g here.In_ok-k) (entry-not is BitVec d.not-BitVec) (entry-not is ParamBitVec d.not-ParamBitVec))
