-- The line is measured first, and written only where it fits.
-- So a refusal leaves the buffer as it was.
use Rattle.std.proofs.Common.{arith, refl}
use Rattle.printout_sort.specs.Wrote.{wrote_as, wrote-long, wrote-more}
use Rattle.printout.specs.LineLaws.{refusal-length, refusal-line-length, refusal-line}
use Rattle.printout.proofs.lines.refusal_line.Goals as goal

pub returns-then-room-digits-clause-line : goal.returns-then-room-digits-clause-line
returns-then-room-digits-clause-line c = (refl, omega (arith, c.room.ensures, c.if-room-digits.true, c.digits.ensures.0, refusal-line-length c.args.number))

pub put_refusal-requires : goal.put_refusal-requires
put_refusal-requires c = omega (arith, c.room.ensures, c.if-room-digits.false, c.digits.ensures.0, refusal-length c.args.number, c.args.out.now.fits)

pub put_byte-requires : goal.put_byte-requires
put_byte-requires c =
    let w = c.put_refusal.ensures.put in
    omega (arith, c.room.ensures, c.if-room-digits.false, c.digits.ensures.0, refusal-length c.args.number, c.args.out.now.fits, w.next, wrote-long w)

pub returns-clause-line : goal.returns-clause-line
returns-clause-line c = wrote_as (refusal-line _) (wrote-more c.put_refusal.ensures.put c.put_byte.ensures.put)
