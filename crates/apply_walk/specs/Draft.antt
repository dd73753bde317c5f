-- The fields of a sort that is made, and what writing its record down asks of them.
use Rattle.std.specs.Prelude.{◌≤◌, ◌<◌, length}
use Rattle.record.specs.Kinds.{sort_number}
use Rattle.record.specs.Record.{Fields}
use Rattle.record.specs.Decode.{fields}
use Rattle.apply_walk.specs.declared.build.SortFields.{SortFields}

abbrev pub fields_of : SortFields → Fields
fields_of f = fields (sort_number f.kind) f.name f.number f.parts.now f.names.now

-- Each number fits two bytes, and each list has at most 64.
pub record FieldsFit (f : Fields) : Type 0 where
  pub known : f.kind < 16
  pub name : f.name < 65536
  pub number : f.number < 65536
  pub parts : length f.list ≤ 64
  pub names : length f.names ≤ 64
