-- WHAT SHEETS TELL OF WHOLE TERMS IS TRUE: a sheet whose records pass the test holds abstractions of the whole terms, and so, from sheet to
-- sheet, each verdict that is told is that of the whole term.
use Prim.Native.Nat.{ℕ, suc, ◌<◌}
use Rattle.std.specs.Prelude.{◌≡◌, true, false, ◌&&◌, length, eqb, ltb}
use Rattle.std.proofs.Math.Path.{refl, sym, ap, subst}
use Rattle.std.proofs.Common.{ap₂, ◌∙◌, arith}
use Rattle.std.proofs.Math.Bool.{Bool}
use Rattle.std.proofs.lemmas.Bool.{false≢true}
use mathlib.Core.List.{List, [], ◌∷◌}
use Rattle.std.proofs.Math.Option.{Option, none, some}
use borrow.Author.Tests.{eqb-true, ltb-true, lt-ltb}
use Rattle.record.specs.Names.{member}
use Rattle.record.specs.Sort.{Sort, Sorts, same}
use Rattle.record.specs.SortLaws.{same-sound}
use Rattle.record.specs.Cases.{and_left, and_right, and-true, or_cases, three-right, by_test, none-some, some_inj}
use Rattle.reader.specs.Reader.{all_below}
use Rattle.sheet.specs.Sheet.{TermFields, Binding}
use Rattle.sheet.specs.SheetLaws.{referring}
use Rattle.row_rules.specs.declared.Cause.{Cause}
use Rattle.row_rules.specs.declared.Cause.TheVariants.{Below, Limit}
use Rattle.row_rules.specs.Verdict.{Verdict, sort, refused}
use Rattle.row_rules.specs.Term.{Site, over_parts, Term, Terms, term, ◌also◌, terms_of, tree_of, term_at, constants_of, constants_at, besides, verdict_of, verdicts_of}
use Rattle.row_rules.proofs.TermLaws.{constants-are}
use Rattle.row_rules.specs.Outcome.{within}
use Rattle.row_rules.specs.FreeLaws.{record_at, names_term}
use Rattle.infer_rules.specs.Inferred.{inferred, infer}
use Rattle.check_rules.specs.Rank.{Rank}
use Rattle.check_rules.specs.Ranks.{smt_lib}
use Rattle.check_rules.proofs.RankSound.{smt_lib-sound}
use Rattle.check_rules.specs.Checked.{checked, check}
use Rattle.judge_rules.proofs.RowLaws.{judging}
use Rattle.abstraction.specs.Abstraction.{stand_in, reads_arguments, reads_indices, Abstracts, part, inside, AbstractsEach, none_left, one_more}
use Rattle.abstraction.proofs.AbstractionTheorems.{Abstractable, inferred-able, checked-able, abstraction}
use Rattle.abstraction.specs.AbstractionTest.{same_fields, keeps_constants, no_bindings, no_numbers}
use Rattle.abstraction.proofs.TestTheorems.{keeps-exactly, fields-sound, no-bindings, no-numbers}
use Rattle.abstraction.specs.Names.{Renames, renamed_verdict, renamed_sort, renamed_records}
use Rattle.abstraction.proofs.NameTheorems.{NamesFree, names-inferred, names-checked, smt_lib-plain, bounded-renamed, verdict-renamed, referring-renamed, term-renamed, verdict-back}
use Rattle.judge_rules.proofs.BoundedLaws.{bounded}
use Rattle.abstraction.proofs.LimitLaws.{bounded-given, bounded-cause, bounded-limit, checked-never-limit, inferred-never-limit, bounded-able}
use Rattle.abstraction.proofs.FullLaws.{judged-says}
use Rattle.abstraction.specs.SheetTest.{var_of, copy_of, pairwise, follows, Told, by_row, by_part}

---------------------------------------------------------------- the tree of a record
-- The references of a record of the list are numbers of the list.
below_more : (n : ℕ) (is : List ℕ) → all_below n is ≡ true → all_below (suc n) is ≡ true
unfolding all_below
below_more n [] e = refl
below_more n (i ∷ is) e =
    let x = ltb-true i n (and_left (ltb i n) (all_below n is) e) in
    and-true (ltb i (suc n)) (all_below (suc n) is) (lt-ltb i (suc n) (omega arith)) (below_more n is (and_right (ltb i n) (all_below n is) e))

record-below : (ws : List TermFields) → referring ws ≡ true → (g : ℕ)
    → (all_below (length ws) (record_at ws g).list ≡ true) × (all_below (length ws) (record_at ws g).second ≡ true)
unfolding referring record_at all_below
record-below [] refs g = (refl, refl)
record-below (r ∷ rs) refs g =
    let (list, second, earlier) = three-right (all_below (length rs) r.list) (all_below (length rs) r.second) (referring rs) refs in
    let (x, y) = record-below rs earlier g in
    by_test (eqb g (length rs))
    (λ q. rw q (below_more (length rs) r.list list, below_more (length rs) r.second second))
    (λ q. rw q (below_more (length rs) (record_at rs g).list x, below_more (length rs) (record_at rs g).second y))

-- One more record changes no earlier term.
terms-stay : (r : TermFields) (rs : List TermFields) (is : List ℕ) → all_below (length rs) is ≡ true
    → terms_of (λ j. term_at rs j) is ≡ terms_of (λ j. term_at (r ∷ rs) j) is
unfolding terms_of term_at all_below
terms-stay r rs [] e = refl
terms-stay r rs (i ∷ is) e =
    let x = ltb-true i (length rs) (and_left (ltb i (length rs)) (all_below (length rs) is) e) in
    let z : eqb i (length rs) ≡ false = apart i (length rs) x in
    let y = terms-stay r rs is (and_right (ltb i (length rs)) (all_below (length rs) is) e) in
    rw z (ap (λ (ts : Terms). term_at rs i also ts) y)
  where
    apart : (a b : ℕ) → a < b → eqb a b ≡ false
    apart a b h = by_test (eqb a b) (λ q. let e = eqb-true a b q in absurd (omega arith)) (λ q. q)

-- THE TREE OF A TERM is that of its record over the trees of all terms.
term_is : (ws : List TermFields) → referring ws ≡ true → (g : ℕ) → term_at ws g ≡ tree_of (λ j. term_at ws j) (record_at ws g)
unfolding term_at record_at referring terms_of
term_is [] refs g = refl
term_is (r ∷ rs) refs g =
    let (list, second, earlier) = three-right (all_below (length rs) r.list) (all_below (length rs) r.second) (referring rs) refs in
    let w = record_at rs g in
    let (x, y) = record-below rs earlier g in
    by_test (eqb g (length rs))
    (λ q. rw q (ap₂ (λ (ts is : Terms). term r.kind r.name r.number r.own ts r.bindings r.names is)
    (terms-stay r rs r.list list) (terms-stay r rs r.second second)))
    (λ q. rw q (term_is rs earlier g ∙ ap₂ (λ (ts is : Terms). term w.kind w.name w.number w.own ts w.bindings w.names is)
    (terms-stay r rs w.list x) (terms-stay r rs w.second y)))

---------------------------------------------------------------- a sheet that passes the test
module _ (J : Site → Verdict) (column : ℕ) (ws : List TermFields) (refs : referring ws ≡ true) where
  -- What is known of the whole terms in the column is so.
  abbrev pub KnownSorts : (ℕ → Option Sort) → Type 0
  KnownSorts known = (g : ℕ) (a : Sort) → known g ≡ some a → verdict_of J (term_at ws g) ≡ sort a

  -- A Var of the known sort.
  var-abstracts : (g : ℕ) (rs : List TermFields) (r : TermFields) (o : Option Sort)
      → ((a : Sort) → o ≡ some a → verdict_of J (term_at ws g) ≡ sort a) → var_of o r ≡ true
      → Abstracts J column (term_at ws g) (tree_of (λ j. term_at rs j) r)
  unfolding var_of terms_of
  var-abstracts g rs r none h e = absurd (false≢true e)
  var-abstracts g rs r (some a) h e =
      let e1 = and_right (eqb r.kind 5) (eqb r.number 0 && (same r.own a && (no_numbers r.list && (no_bindings r.bindings && (no_numbers r.names && no_numbers r.second))))) e in
      let e2 = and_right (eqb r.number 0) (same r.own a && (no_numbers r.list && (no_bindings r.bindings && (no_numbers r.names && no_numbers r.second)))) e1 in
      let e3 = and_right (same r.own a) (no_numbers r.list && (no_bindings r.bindings && (no_numbers r.names && no_numbers r.second))) e2 in
      let e4 = and_right (no_numbers r.list) (no_bindings r.bindings && (no_numbers r.names && no_numbers r.second)) e3 in
      let e5 = and_right (no_bindings r.bindings) (no_numbers r.names && no_numbers r.second) e4 in
      let xk = eqb-true r.kind 5 (and_left (eqb r.kind 5) _ e) in
      let xn = eqb-true r.number 0 (and_left (eqb r.number 0) _ e1) in
      let xo = same-sound r.own a (and_left (same r.own a) _ e2) in
      let xl = ap (λ (is : List ℕ). terms_of (λ j. term_at rs j) is) (no-numbers r.list (and_left (no_numbers r.list) _ e3)) in
      let xb = no-bindings r.bindings (and_left (no_bindings r.bindings) _ e4) in
      let xs = no-numbers r.names (and_left (no_numbers r.names) (no_numbers r.second) e5) in
      let xi = ap (λ (is : List ℕ). terms_of (λ j. term_at rs j) is) (no-numbers r.second (and_right (no_numbers r.names) (no_numbers r.second) e5)) in
      let same-term : stand_in r.name a ≡ tree_of (λ j. term_at rs j) r = cc in
      subst (λ (u : Term). Abstracts J column (term_at ws g) u) same-term (part r.name a (record { has = h a refl }))

  -- Terms of the sheet that stand for whole terms, in order.
  abbrev Stood : List TermFields → (ℕ → ℕ → Bool) → Type 0
  Stood rs ok = (i j : ℕ) → ok i j ≡ true → Abstracts J column (term_at ws i) (term_at rs j)

  each-abstracts : (rs : List TermFields) (ok : ℕ → ℕ → Bool) → Stood rs ok → (is js : List ℕ) → pairwise ok is js ≡ true
      → AbstractsEach J column (terms_of (λ j. term_at ws j) is) (terms_of (λ j. term_at rs j) js)
  unfolding terms_of pairwise
  each-abstracts rs ok h [] [] e = none_left
  each-abstracts rs ok h [] (j ∷ js) e = absurd (false≢true e)
  each-abstracts rs ok h (i ∷ is) [] e = absurd (false≢true e)
  each-abstracts rs ok h (i ∷ is) (j ∷ js) e =
      one_more (h i j (and_left (ok i j) (pairwise ok is js) e)) (each-abstracts rs ok h is js (and_right (ok i j) (pairwise ok is js) e))

  -- A copy of a whole record.
  copy-abstracts : (rs : List TermFields) (ok : ℕ → ℕ → Bool) (w r : TermFields) → Stood rs ok
      → pairwise ok w.list r.list ≡ true → pairwise ok w.second r.second ≡ true → copy_of column ws rs w r ≡ true
      → Abstracts J column (tree_of (λ j. term_at ws j) w) (tree_of (λ j. term_at rs j) r)
  unfolding copy_of
  copy-abstracts rs ok w r h list second e =
      let F = same_fields w.kind w.name w.number w.own w.bindings w.names r.kind r.name r.number r.own r.bindings r.names in
      let x = keeps_constants (reads_arguments column w.kind w.number) (constants_at ws w.list) (constants_at rs r.list) in
      let y = keeps_constants (reads_indices w.kind) (constants_at ws w.second) (constants_at rs r.second) in
      let (f, kl, ks) = three-right F x y e in
      let G = fields-sound w.kind w.name w.number w.own w.bindings w.names r.kind r.name r.number r.own r.bindings r.names f in
      let fk = G.kinds in
      let fa = G.called in
      let fn = G.numbers in
      let fo = G.owns in
      let fb = G.bound in
      let fm = G.named in
      let ts = terms_of (λ j. term_at rs j) r.list in
      let is = terms_of (λ j. term_at rs j) r.second in
      let same-term : term w.kind w.name w.number w.own ts w.bindings w.names is ≡ tree_of (λ j. term_at rs j) r = cc in
      subst (λ (u : Term). Abstracts J column (tree_of (λ j. term_at ws j) w) u) same-term
      (inside (each-abstracts rs ok h w.list r.list list) (each-abstracts rs ok h w.second r.second second)
      (λ q. sym (constants-are ws w.list) ∙ (keeps-exactly (reads_arguments column w.kind w.number) (constants_at ws w.list) (constants_at rs r.list)).0 kl q ∙ constants-are rs r.list)
      (λ q. sym (constants-are ws w.second) ∙ (keeps-exactly (reads_indices w.kind) (constants_at ws w.second) (constants_at rs r.second)).0 ks q ∙ constants-are rs r.second))

  -- A TERM OF A SHEET THAT PASSES THE TEST abstracts the whole term that it stands for, if what the test took for known is so.
  pub follows-abstracts : (known : ℕ → Option Sort) → KnownSorts known → (rs : List TermFields) (g t : ℕ)
      → follows column known ws rs g t ≡ true → Abstracts J column (term_at ws g) (term_at rs t)
  unfolding follows term_at
  follows-abstracts known K [] g t e = absurd (false≢true e)
  follows-abstracts known K (r ∷ rs) g t e =
      let ok : ℕ → ℕ → Bool = λ i j. follows column known ws rs i j in
      let h : Stood rs ok = follows-abstracts known K rs in
      let w = record_at ws g in
      by_test (eqb t (length rs))
      (λ q.
      rw q
      (or_cases (var_of (known g) r) (copy_of column ws rs w r && (pairwise ok w.list r.list && pairwise ok w.second r.second)) (rw q at e)
      (λ v. var-abstracts g rs r (known g) (λ a f. K g a f) v)
      (λ c.
      let (copy, list, second) = three-right (copy_of column ws rs w r) (pairwise ok w.list r.list) (pairwise ok w.second r.second) c in
      subst (λ (v : Term). Abstracts J column v (tree_of (λ j. term_at rs j) r)) (sym (term_is ws refs g)) (copy-abstracts rs ok w r h list second copy))))
      (λ q. rw q (h g t (rw q at e)))

---------------------------------------------------------------- a term over a refused part
besides-none : (v : Verdict) → besides v none ≡ none
besides-none (sort s) = refl
besides-none (refused c) = refl

none-given : (J : Site → Verdict) (f : ℕ → Term) (is : List ℕ) (p : ℕ) (c : Cause) → member p is ≡ true → verdict_of J (f p) ≡ refused c
    → verdicts_of J (terms_of f is) ≡ none
unfolding terms_of verdict_of member
none-given J f [] p c m h = absurd (false≢true m)
none-given J f (i ∷ is) p c m h =
    by_test (eqb i p)
    (λ q. let z : verdict_of J (f i) ≡ refused c = rw (eqb-true i p q) h in rw z refl)
    (λ q. rw (none-given J f is p c (rw q at m) h) (besides-none (verdict_of J (f i))))

over_none : (J : Site → Verdict) (k n : ℕ) (o : Sort) (bs : List Binding) (cs is : List (Option ℕ)) (a : Option Sorts) → over_parts J k n o bs cs is a none ≡ refused Below
over_none J k n o bs cs is none = refl
over_none J k n o bs cs is (some ss) = refl

-- A TERM THAT NAMES A REFUSED ONE IS REFUSED BY 20, in any column and on no sheet.
pub part-refused : (J : Site → Verdict) (ws : List TermFields) → referring ws ≡ true → (g p : ℕ) (c : Cause) → names_term (record_at ws g) p ≡ true
    → verdict_of J (term_at ws p) ≡ refused c → verdict_of J (term_at ws g) ≡ refused Below
unfolding verdict_of names_term
part-refused J ws refs g p c m h =
    let w = record_at ws g in
    rw (term_is ws refs g)
    (or_cases (member p w.list) (member p w.second) m
    (λ q. rw (none-given J (λ j. term_at ws j) w.list p c q h) refl)
    (λ q. rw (none-given J (λ j. term_at ws j) w.second p c q h)
    (over_none J w.kind w.number w.own w.bindings (constants_of (terms_of (λ j. term_at ws j) w.list)) (constants_of (terms_of (λ j. term_at ws j) w.second))
    (verdicts_of J (terms_of (λ j. term_at ws j) w.list)))))

---------------------------------------------------------------- from sheet to sheet
module _ (R : ℕ → List Rank) (column : ℕ) (col : column < 2) (A : Abstractable (judging R column) column) (F : NamesFree R column)
    (ws : List TermFields) (refs : referring ws ≡ true) where
  -- The verdict of the whole terms: with the limits of the answers.
  abbrev J : Site → Verdict
  J = bounded (judging R column)

  same-verdict : (ρ : ℕ → ℕ) → Renames ρ → (g : ℕ) → verdict_of J (term_at (renamed_records ρ ws) g) ≡ renamed_verdict ρ (verdict_of J (term_at ws g))
  same-verdict ρ N g =
      ap (λ (t : Term). verdict_of J t) (term-renamed ρ N ws g) ∙ verdict-renamed ρ N J (bounded-renamed ρ N (judging R column) (F ρ N)) (term_at ws g)

  -- What is known under the names of the whole terms is known under those of a sheet.
  known-renamed : (ρ : ℕ → ℕ) (N : Renames ρ) (known : ℕ → Option Sort) → KnownSorts J column ws refs known
      → KnownSorts J column (renamed_records ρ ws) (referring-renamed ρ N ws ∙ refs) (λ i. renamed_sort ρ (known i))
  known-renamed ρ N known K i a e = same-verdict ρ N i ∙ by (known i) refl e
    where
      by : (o : Option Sort) → known i ≡ o → renamed_sort ρ o ≡ some a → renamed_verdict ρ (verdict_of J (term_at ws i)) ≡ sort a
      by none q e = none-some e
      by (some b) q e = ap (renamed_verdict ρ) (K i b q) ∙ ap sort (some_inj e)

  -- WHAT SHEETS TELL IS TRUE: the verdict that is told of a whole term is its own, sort or refusal with its cause, however many sheets lie
  -- between the term and its parts, and however each of them numbers its names.
  pub told-right : {g : ℕ} {v : Verdict} → Told R column ws g v → verdict_of J (term_at ws g) ≡ v
  told-right (by_row s l h st rows answers ρ known g t v e low N f k y) =
      let K = known-renamed ρ N known (λ i a q. told-right (k i a q)) in
      let B = follows-abstracts J column (renamed_records ρ ws) (referring-renamed ρ N ws ∙ refs) (λ i. renamed_sort ρ (known i)) K h.terms g t f in
      let x = sym (abstraction J column (bounded-able (judging R column) column A) B) ∙ judged-says R s l h st rows answers e column t col low (renamed_verdict ρ v) y in
      verdict-back ρ N (verdict_of J (term_at ws g)) v (sym (same-verdict ρ N g) ∙ x)
  told-right (by_part g p c m b) = part-refused J ws refs g p c m (told-right b)

-- So of the two columns, over the ranks of the table: a sort that is told is the term's own, and so is a cause other than 20 and 22; 22 says that the
-- term's own sort passes a limit, and 20 that a part is refused, by 22 or for another cause.
module _ (ws : List TermFields) (refs : referring ws ≡ true) (g : ℕ) where
  pub told-checked-verdict : (v : Verdict) → Told smt_lib 1 ws g v → verdict_of (bounded (checked smt_lib)) (term_at ws g) ≡ v
  told-checked-verdict v h = told-right smt_lib 1 (omega arith) (checked-able smt_lib smt_lib-sound) (names-checked smt_lib smt_lib-plain) ws refs h

  pub told-checked : (s : Sort) → Told smt_lib 1 ws g (sort s) → check smt_lib (term_at ws g) ≡ sort s
  unfolding check
  told-checked s h = (bounded-given (checked smt_lib) (term_at ws g) s (told-checked-verdict (sort s) h)).0

  pub told-checked-refused : (c : Cause) → (c ≡ Below → ⊥) → (c ≡ Limit → ⊥) → Told smt_lib 1 ws g (refused c) → check smt_lib (term_at ws g) ≡ refused c
  unfolding check
  told-checked-refused c p q h = bounded-cause (checked smt_lib) (term_at ws g) c p q (told-checked-verdict (refused c) h)

  pub told-checked-limit : Told smt_lib 1 ws g (refused Limit) → (s : Sort) × (check smt_lib (term_at ws g) ≡ sort s) × (within s ≡ false)
  unfolding check
  told-checked-limit h = bounded-limit (checked smt_lib) (checked-never-limit smt_lib) (term_at ws g) (told-checked-verdict (refused Limit) h)

  pub told-inferred-verdict : (v : Verdict) → Told smt_lib 0 ws g v → verdict_of (bounded inferred) (term_at ws g) ≡ v
  told-inferred-verdict v h = told-right smt_lib 0 (omega arith) inferred-able (names-inferred smt_lib) ws refs h

  pub told-inferred : (s : Sort) → Told smt_lib 0 ws g (sort s) → infer (term_at ws g) ≡ sort s
  unfolding infer
  told-inferred s h = (bounded-given inferred (term_at ws g) s (told-inferred-verdict (sort s) h)).0

  pub told-inferred-refused : (c : Cause) → (c ≡ Below → ⊥) → (c ≡ Limit → ⊥) → Told smt_lib 0 ws g (refused c) → infer (term_at ws g) ≡ refused c
  unfolding infer
  told-inferred-refused c p q h = bounded-cause inferred (term_at ws g) c p q (told-inferred-verdict (refused c) h)

  pub told-inferred-limit : Told smt_lib 0 ws g (refused Limit) → (s : Sort) × (infer (term_at ws g) ≡ sort s) × (within s ≡ false)
  unfolding infer
  told-inferred-limit h = bounded-limit inferred inferred-never-limit (term_at ws g) (told-inferred-verdict (refused Limit) h)
