-- What the indexed operators ask: arguments, and index terms that the sheet names.
use Rattle.std.specs.Prelude.{ℕ, ◌+◌, ◌-◌, ◌<◌, ◌≡◌, List}
use Rattle.std.proofs.Math.Option.{Option}
use Rattle.record.specs.Kinds.{param_number}
use Rattle.record.specs.declared.kinds.ParamOp.{ParamOp}
use Rattle.record.specs.declared.span.Span.{Span}
use Rattle.sheet.specs.declared.ReadSheet.{ReadSheet}
use Rattle.store.specs.declared.Store.{Store}
use Rattle.row_answer.specs.declared.arguments.Args.{Args}
use Rattle.row_answer.specs.Arguments.{constants_in, ConstantsAsk}
use Rattle.infer_operator.specs.Asks.{ArgumentsAsk}

---------------------------------------------------------------- the operators
-- The index terms that the sheet names, as integer constants; and those behind the first.
abbrev pub indices : ReadSheet → Span → List (Option ℕ)
indices z c = constants_in z.bytes.now z.starts.now c.at c.count

abbrev pub others : ReadSheet → Span → List (Option ℕ)
others z c = constants_in z.bytes.now z.starts.now (c.at + 2) (c.count - 1)

-- The operators that look at their first index.
pub data Indexing (op : ℕ) : Type 0 where
  extracts : op ≡ 0 → Indexing op
  zeroes : op ≡ 3 → Indexing op
  signs : op ≡ 4 → Indexing op
  repeats : op ≡ 7 → Indexing op
  converts : op ≡ 9 → Indexing op

-- Index terms, and the first index.
pub record ExtractAsks (z : ReadSheet) (c : Span) (i : ℕ) : Type 0 where
  pub terms : ConstantsAsk z.bytes.now z.starts.now c.at c.count
  pub small : i < 4294967296

-- Arguments and index terms.
pub record InferIndexedAsks (s : Store) (z : ReadSheet) (c : Span) (a : Args) : Type 0 where
  pub args : ArgumentsAsk s a
  pub terms : ConstantsAsk z.bytes.now z.starts.now c.at c.count

-- And an operator that looks at the first index; and that index.
pub record FirstAsks (s : Store) (z : ReadSheet) (c : Span) (op : ParamOp) (a : Args) : Type 0 where
  pub asks : InferIndexedAsks s z c a
  pub looks : Indexing (param_number op)

pub record GivenAsks (s : Store) (z : ReadSheet) (c : Span) (op : ParamOp) (a : Args) (i : ℕ) : Type 0 where
  pub first : FirstAsks s z c op a
  pub small : i < 4294967296
