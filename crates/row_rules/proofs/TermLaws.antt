-- The verdict on one record, from rows that mean the verdicts of the trees below it, is the verdict of its tree; and a record has one entry
-- in its list of constants for each argument.
use Rattle.std.specs.Prelude.{ℕ, suc, ◌+◌, ◌*◌, ◌≤◌, ◌<◌, ◌≡◌, refl, Bool, true, List, [], ◌∷◌, length, get_or, eqb, ltb}
use Rattle.std.proofs.Common.{ap, ap₂, ◌∙◌, arith, lt-ltb, le-ltb, ltb-true}
use Rattle.std.proofs.Math.Option.{Option, none, some}
use Rattle.record.specs.Sort.{Sort, Sorts, ◌then◌, count}
use Rattle.record.specs.Cases.{and_left, and_right, by_test, by_option, none-some, some_inj}
use Rattle.reader.specs.Reader.{all_below}
use Rattle.sheet.specs.Sheet.{TermFields}
use Rattle.row_rules.specs.Verdict.{Verdict, sort, refused}
use Rattle.row_rules.specs.Term.{Site, Term, Terms, stop, ◌also◌, terms_of, tree_of, term_at, constant_of, constants_of, besides, verdict_of, verdicts_of, constant_at, constants_at, consed, sorts_given, verdict_at}
use Rattle.row_rules.specs.Outcome.{row_sort}
use Rattle.row_rules.specs.Meaning.{Means, all_of}
use Rattle.row_rules.proofs.OutcomeLaws.{refusal-large}

-- Integer constants: by the records and by the trees.
pub constant-is : (rs : List TermFields) (n : ℕ) → constant_at rs n ≡ constant_of (term_at rs n)
unfolding constant_at term_at
constant-is [] n = refl
constant-is (r ∷ rs) n = by_test (eqb n (length rs)) (λ q. rw q refl) (λ q. rw q (constant-is rs n))

pub constants-are : (rs : List TermFields) (is : List ℕ) → constants_at rs is ≡ constants_of (terms_of (λ j. term_at rs j) is)
unfolding constants_at constants_of terms_of
constants-are rs [] = refl
constants-are rs (i ∷ is) = ap₂ (λ (o : Option ℕ) (os : List (Option ℕ)). o ∷ os) (constant-is rs i) (constants-are rs is)

-- A row that means a verdict gives its sort, or none.
row-means : (st : List Sort) (rows : List ℕ) (column i : ℕ) (v : Verdict) (o : Option Sorts) → length st ≤ 65536
    → Means st (get_or rows (2 * i + column) 0) v → consed (row_sort st rows column i) o ≡ besides v o
unfolding row_sort
row-means st rows column i (sort s) none few h = simp (lt-ltb (get_or rows (2 * i + column) 0) 65536 (omega (arith, h.0)))
row-means st rows column i (sort s) (some ss) few h =
    simp (lt-ltb (get_or rows (2 * i + column) 0) 65536 (omega (arith, h.0)), h.1)
row-means st rows column i (refused c) o few h = simp (le-ltb (get_or rows (2 * i + column) 0) 65536 (omega (arith, h, refusal-large c)))

-- The sorts of a list of terms, by their rows and by their trees.
sorts-are : (J : Site → Verdict) (st : List Sort) (rows : List ℕ) (column n : ℕ) (f : ℕ → Term) (ok : ℕ → Bool) → length st ≤ 65536
    → ((i : ℕ) → i < n → ok i ≡ true → Means st (get_or rows (2 * i + column) 0) (verdict_of J (f i)))
    → (is : List ℕ) → all_below n is ≡ true → all_of ok is ≡ true → sorts_given (λ i. row_sort st rows column i) is ≡ verdicts_of J (terms_of f is)
unfolding sorts_given terms_of verdict_of all_below all_of
sorts-are J st rows column n f ok few h [] b a = refl
sorts-are J st rows column n f ok few h (i ∷ is) b a =
    ap (consed (row_sort st rows column i))
    (sorts-are J st rows column n f ok few h is (and_right (ltb i n) (all_below n is) b) (and_right (ok i) (all_of ok is) a))
    ∙ row-means st rows column i (verdict_of J (f i)) (verdicts_of J (terms_of f is)) few
    (h i (ltb-true i n (and_left (ltb i n) (all_below n is) b)) (and_left (ok i) (all_of ok is) a))

-- THE VERDICT ON A RECORD IS THE VERDICT OF ITS TREE, where the rows of the terms that it names mean the verdicts of theirs.
pub verdict-is : (J : Site → Verdict) (st : List Sort) (rows : List ℕ) (column : ℕ) (rs : List TermFields) (r : TermFields) (ok : ℕ → Bool)
    → length st ≤ 65536
    → ((i : ℕ) → i < length rs → ok i ≡ true → Means st (get_or rows (2 * i + column) 0) (verdict_of J (term_at rs i)))
    → all_below (length rs) r.list ≡ true → all_below (length rs) r.second ≡ true
    → all_of ok r.list ≡ true → all_of ok r.second ≡ true
    → verdict_at J (λ i. row_sort st rows column i) rs r ≡ verdict_of J (tree_of (λ j. term_at rs j) r)
unfolding verdict_at verdict_of
verdict-is J st rows column rs r ok few h bl bs al as' =
    rw (
      constants-are rs r.list,
      constants-are rs r.second,
      sorts-are J st rows column (length rs) (λ j. term_at rs j) ok few h r.list bl al,
      sorts-are J st rows column (length rs) (λ j. term_at rs j) ok few h r.second bs as',
    ) refl

---------------------------------------------------------------- counts
-- A record has an entry in its list of constants for each of its arguments: by the rows of the terms that it names, and by their trees.
pub constants-count : (rs : List TermFields) (row : ℕ → Option Sort) (is : List ℕ) (ss : Sorts) → sorts_given row is ≡ some ss → length (constants_at rs is) ≡ count ss
unfolding constants_at sorts_given count
constants-count rs row [] ss e = ap count (some_inj e)
constants-count rs row (i ∷ is) ss e =
    by_option (row i)
    (λ p. none-some (rw p at e))
    (λ s p. by_option (sorts_given row is)
    (λ q. none-some (rw (p, q) at e))
    (λ ts q. let z : some (s then ts) ≡ some ss = rw (p, q) at e in ap suc (constants-count rs row is ts q) ∙ ap count (some_inj z)))

pub constants-each : (J : Site → Verdict) (ts : Terms) (ss : Sorts) → verdicts_of J ts ≡ some ss → length (constants_of ts) ≡ count ss
unfolding constants_of verdict_of count
constants-each J stop ss e = ap count (some_inj e)
constants-each J (t also ts) ss e = by (verdict_of J t) (verdicts_of J ts) e (λ rs q. constants-each J ts rs q)
  where
    by : (v : Verdict) (o : Option Sorts) → besides v o ≡ some ss → ((rs : Sorts) → o ≡ some rs → length (constants_of ts) ≡ count rs) → suc (length (constants_of ts)) ≡ count ss
    by (refused c) o e h = none-some e
    by (sort s) none e h = none-some e
    by (sort s) (some rs) e h = ap suc (h rs refl) ∙ ap count (some_inj e)
