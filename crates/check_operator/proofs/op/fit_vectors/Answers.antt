-- The fit of vectors of one width, for every count of the store.
use Rattle.std.proofs.Common.{rules}
use Rattle.check_operator.proofs.FitLaws.{fit-over, vectors-other, vectors-differ, vectors-same, vectors-bit, vectors-kind}
use Rattle.check_operator.proofs.op.fit_vectors.Goals as goal
use Rattle.check_operator.proofs.op.fit_vectors.Goals.{then-not-is_kind-via-then-not-is_kind, then-not-is_kind-via-else-not-is_kind+then-not-all_same}

pub returns-then-not-is_kind : goal.returns-then-not-is_kind
returns-then-not-is_kind c =
    let z = c.args.entries in
    λ n o. let f = fit-over c.requires o in
    elim c.then-not-is_kind.branch [
      | then-not-is_kind-via-then-not-is_kind w ↦ vectors-other c.args.res f c.number-k.ensures.value c.is_kind.result c.is_kind.ensures w.if-not-is_kind.true
      | then-not-is_kind-via-else-not-is_kind+then-not-all_same w ↦
          vectors-differ c.args.res f c.number-k.ensures.value c.is_kind.result c.is_kind.ensures w.all_same.result (w.all_same.ensures z.records.now z.places.now) w.if-not-all_same.true
    ]

pub returns-in-None : goal.returns-in-None
returns-in-None c =
    let z = c.args.entries in
    λ n o. let f = fit-over c.requires o in
    vectors-same c.args.res f c.number-k.ensures.value c.is_kind.result c.is_kind.ensures c.all_same.result
    (c.all_same.ensures z.records.now z.places.now) c.if-not-is_kind.false c.if-not-all_same.false c.in-None.is

pub returns-in-Some-BitVec : goal.returns-in-Some-BitVec
returns-in-Some-BitVec c =
    let z = c.args.entries in
    λ n o. let f = fit-over c.requires o in
    vectors-bit c.args.res f c.number-k.ensures.value c.is_kind.result c.is_kind.ensures c.all_same.result
    (c.all_same.ensures z.records.now z.places.now) c.if-not-is_kind.false c.if-not-all_same.false (search rules)

pub returns-in-Some : goal.returns-in-Some
returns-in-Some c =
    let z = c.args.entries in
    λ n o. let f = fit-over c.requires o in
    vectors-kind c.args.res f c.number-k.ensures.value c.is_kind.result c.is_kind.ensures c.all_same.result
    (c.all_same.ensures z.records.now z.places.now) c.if-not-is_kind.false c.if-not-all_same.false c.in-Some.kind c.in-Some.is (search rules)
