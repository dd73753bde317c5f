-- The sheet is read into buffers of its own, of the lengths that the program lends.
-- An accepted sheet is the definition's, so the kinds at its places are those of its questions.
use Rattle.std.proofs.Common.{◌≡◌, ◌<◌, ℕ, List, get_or, arith, rules}
use Rattle.sheet.specs.Stands.{zeros-all}
use Rattle.sheet.specs.Contract.{QuestionStands}
use Rattle.printout.specs.Kinds.{KindsPut}
use Rattle.printout.specs.KindLaws.{kinds-listed}
use Rattle.printout.proofs.kinds.question_kinds.Goals as goal

-- The places are those that the reading left in its tables.
stands-there : {s ys zs : List ℕ} {m n : ℕ} → ((q : ℕ) → q < n → QuestionStands s m (get_or ys q 0)) → zs ≡ ys → (q : ℕ) → q < n → QuestionStands s m (get_or zs q 0)
stands-there h e = rw e h

kinds-put : {s ys zs kinds kinds' : List ℕ} {n : ℕ} → KindsPut s zs n kinds kinds' → zs ≡ ys → KindsPut s ys n kinds kinds'
kinds-put h e = rw e at h

pub read_sheet-read-requires-clause-empty : goal.read_sheet-read-requires-clause-empty
read_sheet-read-requires-clause-empty c = zeros-all 9216

pub put_kinds-requires : goal.put_kinds-requires
put_kinds-requires c =
    let h = c.in-Ok.ensures.read in
    record { sorts = c.in-Ok.counts.sorts; stands = stands-there h.stands.questions (search rules); asked = omega (arith, h.few_questions, c.read_sheet-read.new.tables.many_questions); room = omega (arith, h.few_questions, c.requires); few = h.few_questions; short = h.short }

pub returns-in-Ok : goal.returns-in-Ok
returns-in-Ok c =
    let r = c.read_sheet-read.new in
    kinds-listed c.args.sheet.now r.records r.places r.index r.tables.table.now r.tables.terms.now r.tables.questions.now c.in-Ok.counts c.in-Ok.ensures.read c.args.kinds.now c.put_kinds.new.kinds c.requires (kinds-put c.put_kinds.ensures (search rules))
