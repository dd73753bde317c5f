-- A blank, then the head of the sort, and its frame on the stack.
-- What was written moved from what is still to print to what is written.
use Rattle.std.proofs.Common.{rules, arith, ℕ, List, subst, set}
use Rattle.printout_sort.specs.Wrote.{wrote-long}
use Rattle.page_window.specs.Walk.{EnterIs}
use Rattle.page_window.specs.StepLaws.{enter-is}
use Rattle.page_window.proofs.walk.Walk.entered.Goals as goal

pub open_sort-requires : goal.open_sort-requires
open_sort-requires c =
    record { asks = c.requires.asks; short = c.requires.short; room = omega (arith, c.requires.room, c.put_byte.ensures.put.next, wrote-long c.put_byte.ensures.put) }

pub returns : goal.returns
returns c =
    subst (λ (o : List ℕ). EnterIs c.args.entries.records.now c.args.entries.places.now c.args.k c.args.stack.now c.args.out.now c.args.self (set c.args.stack.now c.args.self.depth c.open_sort.result.slot) o c.settled.result) (search rules)
    (enter-is c.requires c.put_byte.ensures.put c.open_sort.ensures.open c.settled.ensures)
