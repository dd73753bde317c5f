-- The form says which field stands between the word and the parts.
-- Each case is the law of its value.
use Rattle.std.proofs.Common.{arith, sym}
use Rattle.printout_sort.specs.PieceLaws.{inner_name, inner-number, inner-names, inner-nothing}
use Rattle.printout_sort.specs.Wrote.{wrote_as, wrote_none}
use Rattle.printout_sort.proofs.text.put_inner.Goals as goal

pub put_name-requires : goal.put_name-requires
put_name-requires c = rw (inner_name _ _ _ _ (sym c.in-Name.ensures)) at c.requires.room

pub put_decimal-requires : goal.put_decimal-requires
put_decimal-requires c = rw (inner-number _ _ _ _ (sym c.in-Number.ensures)) at c.requires.room

pub put_par_names-requires-clause-room : goal.put_par_names-requires-clause-room
put_par_names-requires-clause-room c = rw (inner-names _ _ _ _ (sym c.in-Names.ensures)) at c.requires.room

pub returns-in-Nothing-clause-put : goal.returns-in-Nothing-clause-put
returns-in-Nothing-clause-put c = wrote_as (sym (inner-nothing _ _ _ _ (sym c.in-Nothing.ensures))) (wrote_none _ _ (omega (arith, c.requires.room)))

pub returns-in-Name-clause-put : goal.returns-in-Name-clause-put
returns-in-Name-clause-put c = wrote_as (sym (inner_name _ _ _ _ (sym c.in-Name.ensures))) c.put_name.ensures.put

pub returns-in-Number-clause-put : goal.returns-in-Number-clause-put
returns-in-Number-clause-put c = wrote_as (sym (inner-number _ _ _ _ (sym c.in-Number.ensures))) c.put_decimal.ensures.put

pub returns-in-Names-clause-put : goal.returns-in-Names-clause-put
returns-in-Names-clause-put c = wrote_as (sym (inner-names _ _ _ _ (sym c.in-Names.ensures))) c.put_par_names.ensures.put
