-- The tables of names at an App: what listing the head's names asks.
use Prim.Native.Nat.{ℕ, ◌+◌, ◌*◌, ◌≤◌}
use mathlib.Core.Path.{◌≡◌}
use mathlib.Core.List.{List, []}
use native.Mathlib.Omega.{arith}
use lib.ListN.{length}
use Rattle.record.specs.Number.{numbers_at}
use Rattle.record.specs.Codec.{length-numbers_at}
use Rattle.record.specs.Decode.{Zeros}
use Rattle.matching_tables.specs.Tables.{Lists, Added}
use Rattle.matching_tables.specs.TableLaws.{times-few, lists-none, lists-added}
use Rattle.matching_tables.specs.Contract.{AddAsks}

-- At most 64 names in a table of zeros.
module _ (prm : List ℕ) (table : length prm ≡ 65536) (zeros : Zeros prm 0) (b : List ℕ) (y q : ℕ) (names : y + 2 * q ≤ length b) (named : q ≤ 64) where
  pub add-asks : AddAsks prm b y q
  add-asks =
      record {
        names = record { table = table; within = names };
        room = λ v. omega (arith, zeros v (omega arith), times-few v (numbers_at b y q), length-numbers_at b y q);
      }

  module _ {m : List ℕ} (a : Added prm (numbers_at b y q) m) where
    pub listed-names : Lists m (numbers_at b y q)
    listed-names = lists-added prm [] (numbers_at b y q) m (lists-none prm table zeros) a
