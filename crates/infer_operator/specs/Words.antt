-- The words of the contracts over a whole store, the array of arguments and a sheet as they are lent.
use Rattle.record.specs.declared.span.Span.{Span}
use Rattle.store.specs.declared.Store.{Store}
use Rattle.sheet.specs.declared.ReadSheet.{ReadSheet}
use Rattle.row_answer.specs.declared.arguments.Args.{Args}
use Rattle.infer_operator.specs.Single.{WrittenAsks}
use Rattle.infer_operator.specs.Relations.{SideAsks}

-- The terms that the sheet names in a list are to be read.
abbrev pub WrittenAsked : Store → ReadSheet → Span → Type 0
WrittenAsked s z l = WrittenAsks s.records.now s.places.now s.index.now s.count s.used z.bytes.now z.starts.now l.at l.count

-- Two lists of the store's own numbers are to be put together in the array.
abbrev pub SideAsked : Store → Args → Span → Span → Type 0
SideAsked s a x y = SideAsks s.records.now s.places.now s.index.now s.count s.used a.bytes.now x.at x.count y.at y.count
