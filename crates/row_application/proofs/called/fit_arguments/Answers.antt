-- The head's names are listed in a table of zeros, and taken off again.
-- The test of the table is then that of the names.
use Rattle.std.proofs.Common.{subst}
use mathlib.Core.List.{List}
use Prim.Native.Nat.{ℕ}
use Rattle.matching_tables.specs.Tables.{Added}
use Rattle.row_answer.specs.Heads.{callee_names}
use Rattle.row_application.proofs.CalledLaws.{fitted-add, fitted-is, fitted-moved}
use Rattle.row_application.proofs.called.fit_arguments.Goals as goal

pub list-requires : goal.list-requires
list-requires c = rw c.start.ensures (fitted-add c.requires.0)

pub returns-clause-fit : goal.returns-clause-fit
returns-clause-fit c =
    let z = c.fit_listed-call.ensures.fit in
    let m = c.unlist.ensures.map in
    let vs : List ℕ = callee_names c.args.sorts.now.records.now c.args.callee in
    fitted-moved c.fit_listed-call.result (fitted-is c.requires.0 (rw c.start.ensures at c.list.ensures.listed) z.0 (subst (λ (o : List ℕ). Added c.unlist.new.self.params.now vs o) z.1 c.unlist.ensures.unlisted)) m.0 m.1 m.2
