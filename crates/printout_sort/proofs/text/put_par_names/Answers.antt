-- The first name, the others behind blanks, and a bracket.
-- What is written first leaves room for the rest.
use Rattle.std.proofs.Common.{sym, add-zero}
use Rattle.printout_sort.specs.NameLaws.{names-own, names-room}
use Rattle.printout_sort.specs.Wrote.{wrote_as, wrote-more, room-now, room-then}
use Rattle.printout_sort.proofs.text.put_par_names.Goals as goal

pub put_name-requires : goal.put_name-requires
put_name-requires c =
    let g = rw add-zero at c.get.ensures.value in
    rw g (room-now (names-room _ _ _ _ _ c.requires.some c.requires.room))

pub put_names-requires-clause-room : goal.put_names-requires-clause-room
put_names-requires-clause-room c =
    let g = rw add-zero at c.get.ensures.value in
    let w = rw g at c.put_name.ensures.put in
    rw (c.skip.ensures.at, c.skip.ensures.count) (room-now (room-then (names-room _ _ _ _ _ c.requires.some c.requires.room) w))

pub put_byte-requires : goal.put_byte-requires
put_byte-requires c =
    let g = rw add-zero at c.get.ensures.value in
    let w = rw g at c.put_name.ensures.put in
    let v = rw (c.skip.ensures.at, c.skip.ensures.count) at c.put_names.ensures.put in
    room-now (room-then (room-then (names-room _ _ _ _ _ c.requires.some c.requires.room) w) v)

pub returns-clause-put : goal.returns-clause-put
returns-clause-put c =
    let g = rw add-zero at c.get.ensures.value in
    let w = rw g at c.put_name.ensures.put in
    let v = rw (c.skip.ensures.at, c.skip.ensures.count) at c.put_names.ensures.put in
    wrote_as (sym (names-own _ _ _ c.requires.some)) (wrote-more w (wrote-more v c.put_byte.ensures.put))
