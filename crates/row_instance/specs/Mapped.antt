-- The map of the tables of names is the one that their images stand for.
use Rattle.std.specs.Prelude.{ℕ, zero, suc, ◌≡◌, refl, List, get_or}
use Rattle.std.proofs.Common.{◌∙◌, arith}
use Rattle.record.specs.Sort.{Sort}
use Rattle.record.specs.Decode.{store_of}
use Rattle.record.specs.StoreLaws.{store_of-length}
use Rattle.matching_tables.specs.Tables.{image_of, table_map, Mapped}
use Rattle.matching_tables.specs.TableLaws.{find-is}
use Rattle.apply_walk.specs.Images.{image_at, Images}

image-same : (st : List Sort) (e : ℕ) → image_of st e ≡ image_at st e
image-same st zero = refl
image-same st (suc j) = refl

pub mapped-images : (b p : List ℕ) (n : ℕ) (l bnd : List ℕ) (m : ℕ) → Mapped b p n l bnd m → Images (store_of b p n) l (table_map (store_of b p n) l bnd m)
mapped-images b p n l bnd m h =
    record {
      table = record { long = h.tabled.names; below = λ v. omega (arith, h.below v, store_of-length b p n) };
      look = λ v. find-is (store_of b p n) l bnd m v h.tabled ∙ image-same (store_of b p n) (get_or l v 0);
    }
