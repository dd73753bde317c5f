-- A term record over the store: its verdict in a column of the rows, what the functions on a whole record ask, and what they
-- promise. Sorts of the sheet go by their store numbers, terms by their places.
use Rattle.std.specs.Prelude.{ℕ, ◌+◌, ◌*◌, ◌≤◌, ◌<◌, ◌≡◌, Bool, true, false, cond, List, [], length, get_or, eqb}
use Rattle.std.proofs.Math.Option.{Option}
use Rattle.record.specs.Kinds.{term_number}
use Rattle.record.specs.Number.{u16_at, numbers_at}
use Rattle.record.specs.Sort.{Sort, Sorts, bool}
use Rattle.record.specs.Record.{leaf, sorts_of}
use Rattle.record.specs.Decode.{store_of}
use Rattle.reader.specs.Reader.{pair_names_at}
use Rattle.reader.specs.TermWas.{TermWas}
use Rattle.reader.specs.declared.Cursor.{Cursor}
use Rattle.reader.specs.declared.TermRecord.{TermRecord}
use Rattle.sheet.specs.Sheet.{Binding, bindings_of}
use Rattle.sheet.specs.Contract.{TermStands}
use Rattle.sheet.specs.Stands.{Numbered}
use Rattle.store.specs.Good.{Good}
use Rattle.row_rules.specs.declared.Cause.TheVariants.{Below}
use Rattle.row_rules.specs.Verdict.{Verdict, refused}
use Rattle.row_rules.specs.Term.{Site, over_parts}
use Rattle.row_answer.specs.Answer.{Answer, AnswerIs}
use Rattle.row_answer.specs.Lent.{Lent}
use Rattle.row_answer.specs.Arguments.{GatherAsks, JudgedAsks, arguments_of, bound_numbers, constants_in}

---------------------------------------------------------------- the record over the store
-- The sort of a Var (5) and of an AsOp (12); no other record has one, and Bool stands there.
abbrev pub own_over : List Sort → List ℕ → TermRecord → Sort
own_over st tbl r = cond (eqb (term_number r.kind) 5) (get_or st (get_or tbl r.sort 0) leaf) (cond (eqb (term_number r.kind) 12) (get_or st (get_or tbl r.sort 0) leaf) bool)

-- The n pairs of name and sort at x.
abbrev pub pairs_over : List Sort → List ℕ → List ℕ → ℕ → ℕ → List Binding
pairs_over st tbl s x n = bindings_of st (pair_names_at s x n) (bound_numbers tbl s x n)

-- The bindings of a Binder.
abbrev pub bindings_over : List Sort → List ℕ → List ℕ → TermRecord → List Binding
bindings_over st tbl s r = pairs_over st tbl s r.pairs.at r.pairs.count

-- The integer constants among the terms of its list, and among the index terms of a ParamOp (11).
abbrev pub constants_over : List ℕ → List ℕ → TermRecord → List (Option ℕ)
constants_over s xs r = constants_in s xs r.list.at r.list.count

abbrev pub indices_over : List ℕ → List ℕ → TermRecord → List (Option ℕ)
indices_over s xs r = cond (eqb (term_number r.kind) 11) (constants_in s xs r.second.at r.second.count) []

-- The record with the sorts of its arguments, whose numbers stand in a from byte 3 on.
abbrev pub site_over : List Sort → List ℕ → List ℕ → List ℕ → List ℕ → TermRecord → Site
site_over st s tbl xs a r =
    record {
      kind = term_number r.kind;
      number = r.number;
      own = own_over st tbl r;
      args = sorts_of st (numbers_at a 3 r.list.count);
      bindings = bindings_over st tbl s r;
      constants = constants_over s xs r;
      indices = indices_over s xs r;
    }

-- The sorts of the index terms by their rows: none but a ParamOp's are asked.
abbrev pub index_sorts : List Sort → List ℕ → TermRecord → List ℕ → ℕ → Option Sorts
index_sorts st s r rows column = arguments_of st s r.second.at (cond (eqb (term_number r.kind) 11) r.second.count 0) rows column

-- THE VERDICT J ON THE RECORD in a column of the rows: 20 where a row that it needs is refused.
unfoldable pub term_verdict : (Site → Verdict) → List Sort → List ℕ → List ℕ → List ℕ → List ℕ → ℕ → TermRecord → Verdict
term_verdict J st s tbl xs rows column r =
    over_parts J (term_number r.kind) r.number (own_over st tbl r) (bindings_over st tbl s r) (constants_over s xs r) (indices_over s xs r)
    (arguments_of st s r.list.at r.list.count rows column) (index_sorts st s r rows column)

---------------------------------------------------------------- what is asked and promised
-- The record r of some term of a sheet of some sorts: it was read there, the terms before it stand at the places xs, and the
-- rows before its own have numbers of the store of n sorts.
pub record Standing (n : ℕ) (s tbl xs rows : List ℕ) (r : TermRecord) : Type 0 where
  pub sorts : ℕ
  pub term : ℕ
  pub place : ℕ
  pub next : Cursor
  pub was : TermWas s sorts term place r next
  pub numbered : Numbered n s tbl sorts
  pub before : (i : ℕ) → i < term → TermStands s sorts i (get_or xs i 0)
  pub starts : term ≤ length xs
  pub lent : 2 * term ≤ length rows
  pub known : (i : ℕ) → i < 2 * term → get_or rows i 0 < 65536 → get_or rows i 0 < n

-- A good store, tables of names lent over it, a term record, and an array for its arguments.
pub record TermAsks (b p ix : List ℕ) (n u : ℕ) (prm imgs bnd s tbl xs rows : List ℕ) (r : TermRecord) (a : List ℕ) : Type 0 where
  pub good : Good b p ix n u
  pub tables : Lent b p n prm imgs bnd
  pub standing : Standing n s tbl xs rows r
  pub room : 259 ≤ length a

-- THE ROW IN A COLUMN by the verdict J; the tables of names are as they were.
pub record TermIs (J : Site → Verdict) (column : ℕ) (b p : List ℕ) (n : ℕ) (prm imgs bnd s tbl xs rows : List ℕ) (r : TermRecord) (b' p' ix' prm' imgs' bnd' : List ℕ) (q : Answer) : Type 0 where
  pub answer : AnswerIs b p n (term_verdict J (store_of b p n) s tbl xs rows column r) b' p' ix' q
  pub params : prm' ≡ prm
  pub images : imgs' ≡ imgs
  pub bound : bnd' ≡ bnd

-- The same once the arguments' numbers stand in a, whatever the rows are.
pub record SiteAsks (b p ix : List ℕ) (n u : ℕ) (prm imgs bnd s tbl xs : List ℕ) (r : TermRecord) (a : List ℕ) : Type 0 where
  pub rows : List ℕ
  pub asks : TermAsks b p ix n u prm imgs bnd s tbl xs rows r a
  pub below : (j : ℕ) → j < r.list.count → u16_at a (3 + 2 * j) < n

pub record SiteIs (J : Site → Verdict) (b p : List ℕ) (n : ℕ) (prm imgs bnd s tbl xs : List ℕ) (r : TermRecord) (a b' p' ix' prm' imgs' bnd' : List ℕ) (q : Answer) : Type 0 where
  pub answer : AnswerIs b p n (J (site_over (store_of b p n) s tbl xs a r)) b' p' ix' q
  pub params : prm' ≡ prm
  pub images : imgs' ≡ imgs
  pub bound : bnd' ≡ bnd

---------------------------------------------------------------- the parts
-- The terms of the list have rows and a has room for their numbers; the index terms of a ParamOp (11) have rows.
pub record PartsJudgedAsk (s rows : List ℕ) (column : ℕ) (r : TermRecord) (a : List ℕ) : Type 0 where
  pub list : GatherAsks s r.list.at r.list.count rows column a
  pub indices : term_number r.kind ≡ 11 → JudgedAsks s r.second.at r.second.count rows column

-- No row that the record needs is refused, and a has the numbers of its arguments, which are the store's; or one is.
pub record PartsJudgedIs (s rows : List ℕ) (column : ℕ) (r : TermRecord) (a : List ℕ) (q : Bool) : Type 0 where
  pub judged : q ≡ true → (J : Site → Verdict) (st : List Sort) (tbl xs : List ℕ) → term_verdict J st s tbl xs rows column r ≡ J (site_over st s tbl xs a r)
  pub below : q ≡ true → (n : ℕ) (tbl xs : List ℕ) → Standing n s tbl xs rows r → (j : ℕ) → j < r.list.count → u16_at a (3 + 2 * j) < n
  pub lacking : q ≡ false → (J : Site → Verdict) (st : List Sort) (tbl xs : List ℕ) → term_verdict J st s tbl xs rows column r ≡ refused Below
