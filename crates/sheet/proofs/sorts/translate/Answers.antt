-- The first bytes of `rec` are the record with store numbers for its references, and no size.
-- The fields are copied whole, bit 128 is taken off the map, and the references are written anew where they stand.
use Rattle.sheet.proofs.TranslateLaws.{translate-mid, translate-end}
use Rattle.sheet.proofs.sorts.translate.Goals as goal

pub renumber-requires : goal.renumber-requires
renumber-requires c = translate-mid c.requires c.copy_at.ensures

pub returns : goal.returns
returns c = translate-end c.requires c.copy_at.ensures c.renumber.ensures
