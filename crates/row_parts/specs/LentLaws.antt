-- A row makes no Par where the store has none, so the tables of names lent before it are lent over the store after it.
use Rattle.std.specs.Prelude.{ℕ, ◌≡◌, refl, Bool, true, false, cond, List, get_or, eqb}
use Rattle.record.specs.Kinds.{term_number}
use Rattle.record.specs.Number.{numbers_at}
use Rattle.record.specs.Sort.{Sort, bool}
use Rattle.record.specs.Record.{leaf}
use Rattle.record.specs.Decode.{store_of}
use Rattle.reader.specs.Reader.{pair_names_at}
use Rattle.reader.specs.declared.TermRecord.{TermRecord}
use Rattle.substitution.specs.Premises.{parless}
use Rattle.row_rules.specs.Verdict.{Verdict}
use Rattle.row_rules.specs.Term.{Site}
use Rattle.row_rules.specs.Parless.{ParlessVerdict, ParlessSite, parless_each}
use Rattle.row_rules.proofs.ParlessLaws.{parless-at, parless-bindings, parless-rows, parless-over}
use Rattle.row_answer.specs.Answer.{Answer}
use Rattle.row_answer.specs.Arguments.{arguments_of, bound_numbers}
use Rattle.row_answer.specs.Lent.{Lent, lent-after}
use Rattle.row_parts.specs.Site.{own_over, bindings_over, constants_over, indices_over, index_sorts, term_verdict, TermIs}

-- A verdict on records that has no Par where they have none.
abbrev pub Parless : (Site → Verdict) → Type 0
Parless J = (z : Site) → ParlessSite z → ParlessVerdict (J z)

parless-one : (t : Bool) (s r : Sort) → parless s ≡ true → parless r ≡ true → parless (cond t s r) ≡ true
parless-one true s r h k = h
parless-one false s r h k = k

-- A record over a store without a Par names no sort with one.
term-parless : (J : Site → Verdict) → Parless J → (st : List Sort) (s tbl xs rows : List ℕ) (column : ℕ) (r : TermRecord) → parless_each st ≡ true
    → ParlessVerdict (term_verdict J st s tbl xs rows column r)
unfolding term_verdict parless
term-parless J f st s tbl xs rows column r h =
    let own = get_or st (get_or tbl r.sort 0) leaf in
    parless-over J f (term_number r.kind) r.number (own_over st tbl r) (bindings_over st tbl s r) (constants_over s xs r) (indices_over s xs r)
    (arguments_of st s r.list.at r.list.count rows column) (index_sorts st s r rows column)
    (parless-one (eqb (term_number r.kind) 5) own (cond (eqb (term_number r.kind) 12) own bool) (parless-at st (get_or tbl r.sort 0) h)
    (parless-one (eqb (term_number r.kind) 12) own bool (parless-at st (get_or tbl r.sort 0) h) refl))
    (parless-bindings st (pair_names_at s r.pairs.at r.pairs.count) (bound_numbers tbl s r.pairs.at r.pairs.count) h)
    (λ ts e. parless-rows st rows column (numbers_at s r.list.at r.list.count) h ts e)

-- THE TABLES LENT BEFORE A ROW ARE LENT AFTER IT.
pub row-lent : {J : Site → Verdict} {column : ℕ} {b p : List ℕ} {n : ℕ} {prm imgs bnd s tbl xs rows : List ℕ} {r : TermRecord} {b' p' ix' prm' imgs' bnd' : List ℕ} {q : Answer} → Parless J → Lent b p n prm imgs bnd
    → TermIs J column b p n prm imgs bnd s tbl xs rows r b' p' ix' prm' imgs' bnd' q → Lent b' p' q.count prm' imgs' bnd'
row-lent {J} {column} {b} {p} {n} {s = s} {tbl = tbl} {xs = xs} {rows = rows} {r = r} f l i =
    lent-after l (term-parless J f (store_of b p n) s tbl xs rows column r) i.answer i.params i.images i.bound
