-- What a term record that stands tells the functions on it: what gathering its parts asks, how the answer on its parts becomes
-- its row, and what the arms of a dispatcher over the kinds need. A caller's Standing is `.standing` of its TermAsks.
use Rattle.std.specs.Prelude.{ℕ, zero, suc, ◌+◌, ◌*◌, ◌-◌, ◌≤◌, ◌<◌, ◌≡◌, Bool, true, false, cond, List, [], ◌∷◌, length, eqb}
use Rattle.std.proofs.Math.Path.{refl}
use Rattle.std.proofs.Common.{sym, ap, ap₂, subst, ◌∙◌, arith}
use Rattle.std.proofs.Math.Option.{Option}
use Rattle.std.proofs.Math.ListN.{get_or}
use borrow.Author.Tests.{eqb-true}
use Rattle.record.specs.Kinds.{term_number}
use Rattle.record.specs.Number.{u16_at, numbers_at}
use Rattle.record.specs.Sort.{Sort, Sorts, ◌then◌, bool}
use Rattle.record.specs.Record.{bit, leaf, sorts_of}
use Rattle.record.specs.Decode.{store_of, sort_at}
use Rattle.record.specs.Codec.{length-numbers_at, number_at}
use Rattle.reader.specs.Tables.{term_maps, term_map_of, term_numbers, term_number_of, term_leasts, term_least_of, term_mosts, term_most_of}
use Rattle.reader.specs.Reader.{pair_names_at, pair_sorts_at}
use Rattle.reader.specs.declared.TermRecord.{TermRecord}
use Rattle.sheet.specs.Sheet.{Binding, TermFields, bindings_of, term_fields}
use Rattle.sheet.specs.Contract.{terms_at}
use Rattle.sheet.specs.Trees.{trees_of, trees-length, trees-at}
use Rattle.store.specs.Good.{Good}
use Rattle.row_rules.specs.declared.Cause.TheVariants.{Below}
use Rattle.row_rules.specs.Verdict.{Verdict}
use Rattle.row_rules.specs.Lists.{binding_sorts}
use Rattle.row_rules.specs.Term.{Site, over_parts, constants_at, sorts_given, verdict_at}
use Rattle.row_rules.specs.Outcome.{row_sort}
use Rattle.row_answer.specs.Answer.{Answer, refusing}
use Rattle.row_answer.specs.AnswerLaws.{judged-as, answered-as, made-refused}
use Rattle.row_answer.specs.Arguments.{arguments_of, looked, bound_numbers, binding_at, constants_in, ConstantsAsk}
use Rattle.row_parts.specs.Site.{own_over, pairs_over, bindings_over, term_verdict, Standing, TermAsks, TermIs, SiteAsks, SiteIs, PartsJudgedAsk, PartsJudgedIs}
use Rattle.row_parts.specs.Constants.{constant-asks, constants-by}

---------------------------------------------------------------- the parts and the row
-- The array after, as long as the one before, has the arguments.
pub parts-site : {b p ix : List ℕ} {n u : ℕ} {prm imgs bnd s tbl xs rows : List ℕ} {r : TermRecord} {a a' : List ℕ} {column : ℕ} {q : Bool}
    → TermAsks b p ix n u prm imgs bnd s tbl xs rows r a → length a' ≡ length a → q ≡ true → PartsJudgedIs s rows column r a' q
    → SiteAsks b p ix n u prm imgs bnd s tbl xs r a'
parts-site {n = n} {tbl = tbl} {xs = xs} {rows = rows} h e on d =
    record {
      rows = rows;
      asks = record { good = h.good; tables = h.tables; standing = h.standing; room = omega (arith, e, h.room) };
      below = d.below on n tbl xs h.standing;
    }

-- The answer on the gathered parts is the row.
pub site-row : {J : Site → Verdict} {column : ℕ} {b p : List ℕ} {n : ℕ} {prm imgs bnd s tbl xs rows : List ℕ} {r : TermRecord} {a b' p' ix' prm' imgs' bnd' : List ℕ} {w : Answer} {q : Bool}
    → q ≡ true → PartsJudgedIs s rows column r a q → SiteIs J b p n prm imgs bnd s tbl xs r a b' p' ix' prm' imgs' bnd' w
    → TermIs J column b p n prm imgs bnd s tbl xs rows r b' p' ix' prm' imgs' bnd' w
site-row {J} {b = b} {p = p} {n = n} {tbl = tbl} {xs = xs} on d i =
    record { answer = judged-as (d.judged on J (store_of b p n) tbl xs) i.answer; params = i.params; images = i.images; bound = i.bound }

-- Below is the row where a part has none.
pub below_row : {J : Site → Verdict} {column : ℕ} {b p ix : List ℕ} {n u : ℕ} {prm imgs bnd s tbl xs rows : List ℕ} {r : TermRecord} {a : List ℕ} {w : Answer} {q : Bool}
    → q ≡ false → PartsJudgedIs s rows column r a q → Good b p ix n u → w ≡ refusing Below n u
    → TermIs J column b p n prm imgs bnd s tbl xs rows r b p ix prm imgs bnd w
below_row {J} {b = b} {p = p} {ix = ix} {n = n} {u = u} {tbl = tbl} {xs = xs} off d g e =
    record {
      answer = judged-as (d.lacking off J (store_of b p n) tbl xs) (answered-as e (made-refused b p ix n u g Below));
      params = refl;
      images = refl;
      bound = refl;
    }

---------------------------------------------------------------- bindings, whatever the record
-- The sorts of n pairs from x on are those of their store numbers.
pair-sorts : (st : List Sort) (tbl s : List ℕ) (x n : ℕ)
    → binding_sorts (bindings_of st (pair_names_at s x n) (bound_numbers tbl s x n)) ≡ sorts_of st (bound_numbers tbl s x n)
unfolding binding_sorts bindings_of pair_names_at pair_sorts_at sorts_of looked
pair-sorts st tbl s x zero = refl
pair-sorts st tbl s x (suc n) = ap (λ ss. get_or st (get_or tbl (u16_at s (x + 2)) 0) leaf then ss) (pair-sorts st tbl s (x + 4) n)

-- The sorts of the bindings are those of their store numbers.
pub bindings-sorts : (st : List Sort) (tbl s : List ℕ) (r : TermRecord) → binding_sorts (bindings_over st tbl s r) ≡ sorts_of st (bound_numbers tbl s r.pairs.at r.pairs.count)
bindings-sorts st tbl s r = pair-sorts st tbl s r.pairs.at r.pairs.count

-- Without pairs there is no binding.
pub pairs-none : (st : List Sort) (tbl s : List ℕ) (x n : ℕ) → n ≡ 0 → pairs_over st tbl s x n ≡ []
unfolding bindings_of pair_names_at
pairs-none st tbl s x n e = ap (pairs_over st tbl s x) e

pub bindings-none : (st : List Sort) (tbl s : List ℕ) (r : TermRecord) → r.pairs.count ≡ 0 → bindings_over st tbl s r ≡ []
bindings-none st tbl s r e = pairs-none st tbl s r.pairs.at r.pairs.count e

pub first-binding : (st : List Sort) (tbl s : List ℕ) (x n : ℕ) → 0 < n
    → pairs_over st tbl s x n ≡ record { name = u16_at s x; sort = get_or st (binding_at s x tbl 0) leaf } ∷ pairs_over st tbl s (x + 4) (n - 1)
unfolding bindings_of pair_names_at pair_sorts_at looked
first-binding st tbl s x zero l = absurd (omega arith)
first-binding st tbl s x (suc n) l =
    let e : x + 2 ≡ x + 4 * 0 + 2 = omega arith in
    let f : n ≡ suc n - 1 = omega arith in
    ap₂
    (λ (y m : ℕ). record { name = u16_at s x; sort = get_or st (get_or tbl (u16_at s y) 0) leaf } ∷ pairs_over st tbl s (x + 4) m) e f

-- The first binding.
pub bindings-first : (st : List Sort) (tbl s : List ℕ) (r : TermRecord) → 0 < r.pairs.count
    → bindings_over st tbl s r
    ≡ record { name = u16_at s r.pairs.at; sort = get_or st (binding_at s r.pairs.at tbl 0) leaf }
    ∷ pairs_over st tbl s (r.pairs.at + 4) (r.pairs.count - 1)
bindings-first st tbl s r l = first-binding st tbl s r.pairs.at r.pairs.count l

---------------------------------------------------------------- what a record that stands tells
-- The own sort of the record over the store: a number of the sheet's table, one of the store, and its sort.
pub record OwnIs (b p : List ℕ) (n : ℕ) (tbl : List ℕ) (r : TermRecord) : Type 0 where
  pub inside : r.sort < length tbl
  pub known : get_or tbl r.sort 0 < n
  pub is : own_over (store_of b p n) tbl r ≡ sort_at b p n (get_or tbl r.sort 0)

-- At most 64 pairs that lie in the sheet, their sorts numbers of the sheet's table and of the store.
pub record Bound (n : ℕ) (s tbl : List ℕ) (r : TermRecord) : Type 0 where
  pub few : r.pairs.count ≤ 64
  pub within : r.pairs.at + 4 * r.pairs.count ≤ length s
  pub each : (j : ℕ) → j < r.pairs.count → u16_at s (r.pairs.at + 4 * j + 2) < length tbl
  pub below : (j : ℕ) → j < r.pairs.count → binding_at s r.pairs.at tbl j < n

module _ {n : ℕ} {s tbl xs rows : List ℕ} {r : TermRecord} (h : Standing n s tbl xs rows r) where
  -- Its parts can be gathered in either column.
  pub parts-ask : (column : ℕ) (a : List ℕ) → column ≤ 1 → 259 ≤ length a → PartsJudgedAsk s rows column r a
  parts-ask column a side room =
      record {
        list =
            record {
              judged = record { within = h.was.list; side = side; row = λ j l. omega (arith, h.was.references j l, h.lent) };
              room = omega (arith, h.was.few);
            };
        indices = λ k.
            record { within = h.was.second; side = side; row = λ j l. omega (arith, h.was.indices (λ d. absurd (omega arith)) j l, h.lent) };
      }

  -- A sort number of a record that has one.
  sort-listed : bit 8 (term_map_of (term_number r.kind)) ≡ true → (r.sort < length tbl) × (get_or tbl r.sort 0 < n)
  sort-listed e = let l = h.was.sort e in (omega (arith, h.numbered.inside), h.numbered.known r.sort l)

  -- The own sort of a Var (5).
  pub var-owns : (b p : List ℕ) → term_number r.kind ≡ 5 → OwnIs b p n tbl r
  unfolding bit term_map_of term_maps sort_at
  var-owns b p e =
      let l = sort-listed (ap (λ (k : ℕ). bit 8 (term_map_of k)) e) in
      record { inside = l.0; known = l.1; is = own_at e }
    where
      own_at : term_number r.kind ≡ 5 → own_over (store_of b p n) tbl r ≡ get_or (store_of b p n) (get_or tbl r.sort 0) leaf
      own_at d = rw d refl

  -- The own sort of an AsOp (12).
  pub as_own : (b p : List ℕ) → term_number r.kind ≡ 12 → OwnIs b p n tbl r
  unfolding bit term_map_of term_maps sort_at
  as_own b p e =
      let l = sort-listed (ap (λ (k : ℕ). bit 8 (term_map_of k)) e) in
      record { inside = l.0; known = l.1; is = own_at e }
    where
      own_at : term_number r.kind ≡ 12 → own_over (store_of b p n) tbl r ≡ get_or (store_of b p n) (get_or tbl r.sort 0) leaf
      own_at d = rw d refl

  -- The bindings of a Binder; another record has none.
  pub bindings-bound : Bound n s tbl r
  bindings-bound =
      record {
        few = h.was.paired;
        within = h.was.pairs;
        each = λ j l. omega (arith, h.was.bindings j l, h.numbered.inside);
        below = λ j l. h.numbered.known (u16_at s (r.pairs.at + 4 * j + 2)) (h.was.bindings j l);
      }

  -- The terms of its list can be asked for their constants.
  pub list-constants : ConstantsAsk s xs r.list.at r.list.count
  list-constants =
      record {
        within = h.was.list;
        term = λ j l. omega (arith, h.was.references j l, h.starts);
        start = λ j l. let i = u16_at s (r.list.at + 2 * j) in constant-asks s h.sorts i (get_or xs i 0) (h.before i (h.was.references j l));
      }

  -- The index terms of a ParamOp (11) can be asked for their constants.
  pub index-constants : term_number r.kind ≡ 11 → ConstantsAsk s xs r.second.at r.second.count
  index-constants e =
      let other : (j : ℕ) → j < r.second.count → u16_at s (r.second.at + 2 * j) < h.term = h.was.indices (λ d. absurd (omega arith)) in
      record {
        within = h.was.second;
        term = λ j l. omega (arith, other j l, h.starts);
        start = λ j l. let i = u16_at s (r.second.at + 2 * j) in constant-asks s h.sorts i (get_or xs i 0) (h.before i (other j l));
      }

  -- At most 64 terms in its list.
  pub count-few : r.list.count ≤ 64
  count-few = h.was.few

  -- A known kind.
  pub kind-known : term_number r.kind < 13
  kind-known = h.was.known

  -- The number and the count by the tables of the reader.
  number-most : (k : ℕ) → term_number r.kind ≡ k → r.number ≤ term_number_of k
  number-most k e = subst (λ (j : ℕ). r.number ≤ term_number_of j) e h.was.number

  count-least : (k : ℕ) → term_number r.kind ≡ k → term_least_of k ≤ r.list.count
  count-least k e = subst (λ (j : ℕ). term_least_of j ≤ r.list.count) e h.was.least

  count_most : (k : ℕ) → term_number r.kind ≡ k → r.list.count ≤ term_most_of k
  count_most k e = subst (λ (j : ℕ). r.list.count ≤ term_most_of j) e h.was.most

  -- The operator of an Op (7).
  pub op-number : term_number r.kind ≡ 7 → r.number ≤ 134
  unfolding term_number_of term_numbers
  op-number e = number-most 7 e

  binder-least : term_number r.kind ≡ 8 → 1 ≤ r.list.count
  unfolding term_least_of term_leasts
  binder-least e = count-least 8 e

  binder-most : term_number r.kind ≡ 8 → r.list.count ≤ 1
  unfolding term_most_of term_mosts
  binder-most e = count_most 8 e

  -- A Binder (8) has just its body.
  pub binder-one : term_number r.kind ≡ 8 → r.list.count ≡ 1
  binder-one e = omega (arith, binder-least e, binder-most e)

---------------------------------------------------------------- the verdict on the sheet's record
-- Bindings over store numbers are those over the sheet's sorts.
pub bindings-by : (st : List Sort) (tbl s : List ℕ) (m x n : ℕ) → ((j : ℕ) → j < n → u16_at s (x + 4 * j + 2) < m)
    → pairs_over st tbl s x n ≡ bindings_of (trees_of st tbl m) (pair_names_at s x n) (pair_sorts_at s x n)
unfolding bindings_of pair_names_at pair_sorts_at looked
bindings-by st tbl s m x zero h = refl
bindings-by st tbl s m x (suc n) h =
    let e : x + 4 * 0 + 2 ≡ x + 2 = omega arith in
    let l : u16_at s (x + 2) < m = subst (λ (y : ℕ). u16_at s y < m) e (h 0 (omega arith)) in
    ap₂ (λ (t : Sort) (bs : List Binding). record { name = u16_at s x; sort = t } ∷ bs) (sym (trees-at st tbl m (u16_at s (x + 2)) l))
    (bindings-by st tbl s m (x + 4) n
    (λ j k.
    let f : x + 4 * suc j + 2 ≡ x + 4 + 4 * j + 2 = omega arith in
    subst (λ (y : ℕ). u16_at s y < m) f (h (suc j) (omega arith))))

-- A sort of the sheet in either form, where the test says that there is one.
tree-by : (st : List Sort) (tbl : List ℕ) (m k : ℕ) (t : Bool) (e f : Sort) → (t ≡ true → k < m) → e ≡ f
    → cond t (get_or st (get_or tbl k 0) leaf) e ≡ cond t (get_or (trees_of st tbl m) k leaf) f
tree-by st tbl m k true e f h d = sym (trees-at st tbl m k (h refl))
tree-by st tbl m k false e f h d = d

-- Lists that are there only where a test holds.
indices-by : (s xs : List ℕ) (x n : ℕ) (rs : List TermFields) (t : Bool) → (t ≡ true → constants_in s xs x n ≡ constants_at rs (numbers_at s x n))
    → cond t (constants_in s xs x n) [] ≡ constants_at rs (cond t (numbers_at s x n) [])
unfolding constants_at
indices-by s xs x n rs true h = h refl
indices-by s xs x n rs false h = refl

numbers-by : (s : List ℕ) (x n : ℕ) (t : Bool) → numbers_at s x (cond t n 0) ≡ cond t (numbers_at s x n) []
unfolding numbers_at
numbers-by s x n true = refl
numbers-by s x n false = refl

over-same : (J : Site → Verdict) (k n : ℕ) (ts : Option Sorts) {o o' : Sort} {bs bs' : List Binding} {cs cs' is is' : List (Option ℕ)} {js js' : Option Sorts}
    → o ≡ o' → bs ≡ bs' → cs ≡ cs' → is ≡ is' → js ≡ js' → over_parts J k n o bs cs is ts js ≡ over_parts J k n o' bs' cs' is' ts js'
over-same J k n ts {o} {o'} {bs} {bs'} {cs} {cs'} {is} {is'} {js} {js'} eo eb ec ei ej =
    ap₂ (λ (v : Sort) (w : List Binding). over_parts J k n v w cs is ts js) eo eb
    ∙ ap₂ (λ (v w : List (Option ℕ)). over_parts J k n o' bs' v w ts js) ec ei
    ∙ ap (λ (v : Option Sorts). over_parts J k n o' bs' cs' is' ts v) ej

module _ {n : ℕ} {s tbl xs rows : List ℕ} {r : TermRecord} (h : Standing n s tbl xs rows r) (st : List Sort) where
  abbrev trees : List Sort
  trees = trees_of st tbl h.sorts

  abbrev records : List TermFields
  records = terms_at s trees xs h.term

  -- The terms that it names from x on are before it, so their constants by their places are those of their records.
  constants-at : (x m : ℕ) → ((j : ℕ) → j < m → u16_at s (x + 2 * j) < h.term) → constants_in s xs x m ≡ constants_at records (numbers_at s x m)
  constants-at x m l =
      constants-by s h.sorts xs h.term h.before trees (trees-length st tbl h.sorts) (numbers_at s x m)
      (λ j k. let o : j < m = omega (arith, length-numbers_at s x m) in omega (arith, number_at s x m j o, l j o))

  own-there : (k : ℕ) → bit 8 (term_map_of k) ≡ true → eqb (term_number r.kind) k ≡ true → r.sort < h.sorts
  own-there k b e = h.was.sort (ap (λ (j : ℕ). bit 8 (term_map_of j)) (eqb-true (term_number r.kind) k e) ∙ b)

  own-by : own_over st tbl r ≡ cond (eqb (term_number r.kind) 5) (get_or trees r.sort leaf) (cond (eqb (term_number r.kind) 12) (get_or trees r.sort leaf) bool)
  unfolding bit term_map_of term_maps
  own-by =
      tree-by st tbl h.sorts r.sort (eqb (term_number r.kind) 5) (cond (eqb (term_number r.kind) 12) (get_or st (get_or tbl r.sort 0) leaf) bool)
      (cond (eqb (term_number r.kind) 12) (get_or trees r.sort leaf) bool) (own-there 5 refl)
      (tree-by st tbl h.sorts r.sort (eqb (term_number r.kind) 12) bool bool (own-there 12 refl) refl)

  -- THE VERDICT ON THE RECORD over the store is the definition's on the sheet's record, behind the records before it.
  pub verdict-at : (J : Site → Verdict) (column : ℕ)
      → term_verdict J st s tbl xs rows column r
      ≡ verdict_at J (λ i. row_sort st rows column i) (terms_at s (trees_of st tbl h.sorts) xs h.term) (term_fields s (trees_of st tbl h.sorts) r)
  unfolding term_verdict verdict_at term_fields
  verdict-at J column =
      over-same J (term_number r.kind) r.number (arguments_of st s r.list.at r.list.count rows column) own-by
      (bindings-by st tbl s h.sorts r.pairs.at r.pairs.count h.was.bindings)
      (constants-at r.list.at r.list.count h.was.references)
      (indices-by s xs r.second.at r.second.count records (eqb (term_number r.kind) 11)
      (λ e. let k = eqb-true (term_number r.kind) 11 e in constants-at r.second.at r.second.count (h.was.indices (λ d. absurd (omega arith)))))
      (ap (sorts_given (λ i. row_sort st rows column i)) (numbers-by s r.second.at r.second.count (eqb (term_number r.kind) 11)))
