use Rattle.std.proofs.Common.{arith}
use Rattle.std.proofs.Math.ListN.{replicate}
use Rattle.printout_text.specs.LeftLaws.{judge-left}
use Rattle.printout_write.proofs.print_accepted.Goals as goal

pub print_all-requires : goal.print_all-requires
print_all-requires g c =
    let s = c.args.sheet.now in
    let q = c.question_kinds-totals in
    judge-left s.bytes.now s.entries.records.now s.entries.places.now s.rows.now s.answers.now c.requires (replicate 1024 0) q.new.kinds q.result (omega arith) q.ensures
