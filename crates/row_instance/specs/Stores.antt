-- The answers of this crate over whole stores: s before, t after it.
use Rattle.std.specs.Prelude.{ℕ, List, Result}
use Rattle.store.specs.declared.Store.{Store}
use Rattle.row_rules.specs.declared.Cause.{Cause}
use Rattle.row_answer.specs.Answer.{answer}
use Rattle.row_instance.specs.Instance.{InstanceIs}
use Rattle.row_instance.specs.Rest.{RestAsks, RestIs}

-- The row r is the answer to the sort k of s with its names replaced, for every map that the table l stands for.
abbrev pub InstanceIn : Store → List ℕ → ℕ → Store → Result ℕ Cause → Type 0
InstanceIn s l k t r = InstanceIs s.records.now s.places.now s.count l k t.records.now t.places.now t.index.now (answer t r)

-- The row r is the answer to what remains, the m sorts of s whose numbers stand from x on.
abbrev pub RestAsksOf : Store → List ℕ → ℕ → ℕ → Type 0
RestAsksOf s l x m = RestAsks s.records.now s.places.now s.index.now s.count s.used l x m

abbrev pub RestIn : Store → List ℕ → ℕ → ℕ → Store → Result ℕ Cause → Type 0
RestIn s l x m t r = RestIs s.records.now s.places.now s.count l x m t.records.now t.places.now t.index.now (answer t r)
