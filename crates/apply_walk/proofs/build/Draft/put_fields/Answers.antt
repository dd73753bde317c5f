-- Map, kind, name, number, parts and names, in that order.
use Rattle.std.proofs.Common.{◌≡◌, [], ◌∷◌, ◌++◌, rules, refl, ◌<◌, ℕ, length, ap, sym, subst, arith, Bor, List, Bool}
use Rattle.record.specs.Kinds.{sort_number}
use Rattle.record.specs.Record.{bit, name_bytes, number_bytes, list_bytes}
use Rattle.apply_walk.specs.Draft.{fields_of}
use Rattle.apply_walk.proofs.DraftLaws.{map-small, field-bytes, byte-room, name-room, width-room, list-room, whole}
use Rattle.apply_walk.proofs.build.Draft.put_fields.Goals as goal

-- The bytes of a list that is lent.
abbrev lent_bytes : Bool → Bor (List ℕ) → List ℕ
lent_bytes t l = list_bytes t l.now

pub put_byte-requires-clause-small : goal.put_byte-requires-clause-small
put_byte-requires-clause-small c = subst (λ (m : ℕ). m < 256) (sym c.map_of-map.ensures) (map-small _ c.requires.fit.known)

pub put_list-requires-2-clause-room : goal.put_list-requires-2-clause-room
put_list-requires-2-clause-room c =
    let f = c.args.fields.now in
    let m = c.map_of-map.result in
    let kind : c.put_byte-2.new.self ≡ c.put_byte.new.self ++ (sort_number f.kind ∷ []) = search rules in
    omega (
      arith,
      ap length c.requires.empty,
      byte-room c.args.self.now m c.put_byte.ensures,
      byte-room c.put_byte.new.self (sort_number f.kind) kind,
      name-room c.put_byte-2.new.self (bit 2 m) f.name (field-bytes name_bytes (bit 2 m) f.name c.put_byte-2.new.self c.has_bit.ensures c.then_some.ensures refl c.put_name.ensures),
      width-room c.put_name.new.self (bit 4 m) f.number (field-bytes number_bytes (bit 4 m) f.number c.put_name.new.self c.has_bit-2.ensures c.then_some-2.ensures refl c.put_number.ensures),
      list-room c.put_number.new.self (bit 16 m) f.parts.now (field-bytes lent_bytes (bit 16 m) f.parts c.put_number.new.self c.has_bit-3.ensures c.then_some-3.ensures refl c.put_list.ensures) c.requires.fit.parts,
    )

pub returns : goal.returns
returns c =
    let f = c.args.fields.now in
    let m = c.map_of-map.result in
    let kind : c.put_byte-2.new.self ≡ c.put_byte.new.self ++ (sort_number f.kind ∷ []) = search rules in
    whole (fields_of f) c.map_of-map.ensures c.requires.empty c.put_byte.ensures kind
    (field-bytes name_bytes (bit 2 m) f.name c.put_byte-2.new.self c.has_bit.ensures c.then_some.ensures refl c.put_name.ensures)
    (field-bytes number_bytes (bit 4 m) f.number c.put_name.new.self c.has_bit-2.ensures c.then_some-2.ensures refl c.put_number.ensures)
    (field-bytes lent_bytes (bit 16 m) f.parts c.put_number.new.self c.has_bit-3.ensures c.then_some-3.ensures refl c.put_list.ensures)
    (field-bytes lent_bytes (bit 64 m) f.names c.put_list.new.self c.has_bit-4.ensures c.then_some-4.ensures refl c.put_list-2.ensures)
