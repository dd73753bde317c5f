-- The fit of equal sets, for every count of the store.
use Rattle.std.proofs.Common.{ap}
use Rattle.check_operator.specs.Numbered.{result_number}
use Rattle.check_operator.proofs.SetFits.{alike-first, alike-rest, alike-same, alike-kind}
use Rattle.check_operator.proofs.sets.fit_alike.Goals as goal
use Rattle.check_operator.proofs.sets.fit_alike.Goals.{then-not-is_kind-via-then-not-is_kind, then-not-is_kind-via-else-not-is_kind+then-not-all_same}

pub returns-then-not-is_kind : goal.returns-then-not-is_kind
returns-then-not-is_kind c =
    let z = c.args.entries in
    λ m n o. elim c.then-not-is_kind.branch [
      | then-not-is_kind-via-then-not-is_kind w ↦
          alike-first o c.requires.some (result_number c.args.res) c.number-k.ensures.value c.is_kind.result c.is_kind.ensures w.if-not-is_kind.true m
      | then-not-is_kind-via-else-not-is_kind+then-not-all_same w ↦
          alike-rest o c.requires.some (result_number c.args.res) c.number-k.ensures.value c.is_kind.result c.is_kind.ensures
          w.all_same.result (w.all_same.ensures z.records.now z.places.now) m w.if-not-all_same.true
    ]

pub returns-in-None : goal.returns-in-None
returns-in-None c =
    let z = c.args.entries in
    λ m n o. alike-same o c.requires.some (result_number c.args.res) c.number-k.ensures.value c.is_kind.result c.is_kind.ensures
    c.all_same.result (c.all_same.ensures z.records.now z.places.now) m c.if-not-is_kind.false c.if-not-all_same.false (ap result_number c.in-None.is)

pub returns-in-Some : goal.returns-in-Some
returns-in-Some c =
    let z = c.args.entries in
    λ m n o. alike-kind o c.requires.some (result_number c.args.res) c.number-k.ensures.value c.is_kind.result c.is_kind.ensures
    c.all_same.result (c.all_same.ensures z.records.now z.places.now) m c.if-not-is_kind.false c.if-not-all_same.false
    c.in-Some.kind (ap result_number c.in-Some.is) c.requires.well
