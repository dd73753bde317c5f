-- What the function on a whole record asks, once the numbers of its arguments stand in a, and what it promises.
use Rattle.std.specs.Prelude.{ℕ, ◌≡◌, Result}
use Rattle.reader.specs.declared.TermRecord.{TermRecord}
use Rattle.sheet.specs.declared.ReadSheet.{ReadSheet}
use Rattle.store.specs.declared.Store.{Store}
use Rattle.matching_tables.specs.declared.names.Names.{Names}
use Rattle.row_rules.specs.declared.Cause.{Cause}
use Rattle.check_rules.specs.Ranks.{smt_lib}
use Rattle.check_rules.specs.Checked.{checked}
use Rattle.row_answer.specs.declared.arguments.Args.{Args}
use Rattle.row_answer.specs.Answer.{answer}
use Rattle.row_parts.specs.Site.{SiteAsks, SiteIs}

-- A record of the sheet, as many arguments as it names, and tables of names.
pub record CheckAsks (s : Store) (names : Names) (z : ReadSheet) (r : TermRecord) (a : Args) : Type 0 where
  pub site : SiteAsks s.records.now s.places.now s.index.now s.count s.used names.params.now names.images.now names.bound.now z.bytes.now z.table.now z.starts.now r a.bytes.now
  pub count : a.count ≡ r.list.count

-- Its verdict, with the tables as they were.
abbrev pub CheckIs : Store → Names → ReadSheet → TermRecord → Args → Store → Names → Result ℕ Cause → Type 0
CheckIs s names z r a t names' q =
    SiteIs (checked smt_lib) s.records.now s.places.now s.count names.params.now names.images.now names.bound.now z.bytes.now z.table.now z.starts.now r a.bytes.now
    t.records.now t.places.now t.index.now names'.params.now names'.images.now names'.bound.now (answer t q)
