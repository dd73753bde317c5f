-- `without` says what it is read as: no row at a term or below it has such a code exactly when no row of a term that is reached from
-- it through the lists of records has one. By the rule that each record names only earlier terms.
use Prim.Native.Nat.{ℕ, zero, suc, ◌+◌, ◌*◌, ◌<◌}
use Rattle.std.specs.Prelude.{◌≡◌, false, not, cond, ◌||◌, ◌↔◌, get_or, eqb, ltb}
use Rattle.std.proofs.Math.Path.{refl, sym}
use Rattle.std.proofs.Common.{ap₂, subst, ◌∙◌, not-suc-le-zero, eqb-true, ltb-true, ne_eqb}
use Rattle.std.proofs.Math.Bool.{Bool, true, ◌&&◌}
use Rattle.std.proofs.lemmas.Bool.{false≢true, eqb-false}
use mathlib.Core.List.{List, [], ◌∷◌}
use native.Mathlib.Omega.{arith}
use Rattle.std.proofs.Math.ListN.{length}
use Rattle.record.specs.Sort.{bool}
use Rattle.record.specs.Names.{member}
use Rattle.record.specs.Cases.{and_left, and_right, not-true, by_test, eqb-self, or-first, or-second, or_cases, three-right, below_other}
use Rattle.reader.specs.Reader.{all_below}
use Rattle.sheet.specs.Sheet.{TermFields}
use Rattle.sheet.specs.SheetLaws.{referring}
use Rattle.row_rules.specs.Meaning.{limited, all_of, without, free}

-- The record with the number n; what stands for one that is not there names nothing.
unfoldable pub record_at : List TermFields → ℕ → TermFields
record_at [] n = record { kind = 10; name = 0; number = 0; own = bool; list = []; bindings = []; names = []; second = [] }
record_at (r ∷ rs) n = cond (eqb n (length rs)) r (record_at rs n)

-- The record names the term j, in its list or its second list.
unfoldable pub names_term : TermFields → ℕ → Bool
unfolding member
names_term r j = member j r.list || member j r.second

-- The term u is the term t, or is named by it or by one below it.
pub data AtOrBelow (terms : List TermFields) : ℕ → ℕ → Type 0 where
  itself : {t : ℕ} → AtOrBelow terms t t
  below : {t u : ℕ} (j : ℕ) → names_term (record_at terms t) j ≡ true → AtOrBelow terms j u → AtOrBelow terms t u

-- A test of every entry of a list, and of one of them.
all-at : (f : ℕ → Bool) (is : List ℕ) (j : ℕ) → all_of f is ≡ true → member j is ≡ true → f j ≡ true
unfolding all_of member
all-at f [] j a m = absurd (false≢true m)
all-at f (i ∷ is) j a m =
    by_test (eqb i j)
    (λ q. subst (λ (k : ℕ). f k ≡ true) (eqb-true i j q) (and_left (f i) (all_of f is) a))
    (λ q. all-at f is j (and_right (f i) (all_of f is) a) (rw q at m))

all-each : (f : ℕ → Bool) (is : List ℕ) → ((j : ℕ) → member j is ≡ true → f j ≡ true) → all_of f is ≡ true
unfolding all_of member
all-each f [] h = refl
all-each f (i ∷ is) h =
    ap₂ ◌&&◌ (h i (or-first (eqb i i) (member i is) (eqb-self i))) (all-each f is (λ j m. h j (or-second (eqb i j) (member j is) m)))

below_at : (n : ℕ) (is : List ℕ) (j : ℕ) → all_below n is ≡ true → member j is ≡ true → j < n
unfolding all_below member
below_at n [] j a m = absurd (false≢true m)
below_at n (i ∷ is) j a m =
    by_test (eqb i j)
    (λ q. subst (λ (k : ℕ). k < n) (eqb-true i j q) (ltb-true i n (and_left (ltb i n) (all_below n is) a)))
    (λ q. below_at n is j (and_right (ltb i n) (all_below n is) a) (rw q at m))

-- A record names only earlier terms.
pub named-below : (terms : List TermFields) → referring terms ≡ true → (t : ℕ) → t < length terms → (j : ℕ) → names_term (record_at terms t) j ≡ true → j < t
unfolding referring record_at names_term
named-below [] refs t low j m = absurd (not-suc-le-zero low)
named-below (r ∷ rs) refs t low j m =
    let (list, second, earlier) = three-right (all_below (length rs) r.list) (all_below (length rs) r.second) (referring rs) refs in
    by_test (eqb t (length rs))
    (λ q.
    subst (λ (k : ℕ). j < k) (sym (eqb-true t (length rs) q))
    (or_cases (member j r.list) (member j r.second) (rw q at m)
    (λ o. below_at (length rs) r.list j list o) (λ o. below_at (length rs) r.second j second o)))
    (λ q.
    named-below rs earlier t (below_other t (length rs) low (eqb-false t (length rs) q)) j (rw q at m))

-- Over any test of codes.
module _ (test : ℕ → Bool) (rows : List ℕ) (column : ℕ) where
  -- An earlier term is judged by the earlier records.
  without-earlier : (r : TermFields) (rs : List TermFields) (j : ℕ) → j < length rs → without test rows column (r ∷ rs) j ≡ without test rows column rs j
  unfolding without
  without-earlier r rs j h = rw (ne_eqb j (length rs) (apart j (length rs) h)) refl
    where
      apart : (a b : ℕ) → a < b → a ≡ b → ⊥
      apart a b h e = omega arith

  -- The row of the term itself.
  without-here : (terms : List TermFields) (t : ℕ) → t < length terms → without test rows column terms t ≡ true → test (get_or rows (2 * t + column) 0) ≡ false
  unfolding without
  without-here [] t low f = absurd (not-suc-le-zero low)
  without-here (r ∷ rs) t low f =
      by_test (eqb t (length rs))
      (λ q. not-true (test (get_or rows (2 * t + column) 0)) (and_left (not (test (get_or rows (2 * t + column) 0))) _ (rw q at f)))
      (λ q. without-here rs t (below_other t (length rs) low (eqb-false t (length rs) q)) (rw q at f))

  -- What holds of a term holds of those that it names.
  without-down : (terms : List TermFields) → referring terms ≡ true → (t : ℕ) → t < length terms → without test rows column terms t ≡ true
      → (j : ℕ) → names_term (record_at terms t) j ≡ true → without test rows column terms j ≡ true
  unfolding without record_at names_term referring
  without-down [] refs t low f j m = absurd (not-suc-le-zero low)
  without-down (r ∷ rs) refs t low f j m =
      let ok : ℕ → Bool = λ j. without test rows column rs j in
      let earlier = (three-right (all_below (length rs) r.list) (all_below (length rs) r.second) (referring rs) refs).2 in
      let early = named-below (r ∷ rs) refs t low j m in
      let h : j < length rs = omega arith in
      by_test (eqb t (length rs))
      (λ q.
      let two = three-right (not (test (get_or rows (2 * t + column) 0))) (all_of ok r.list) (all_of ok r.second) (rw q at f) in
      without-earlier r rs j h
      ∙ or_cases (member j r.list) (member j r.second) (rw q at m)
      (λ o. all-at ok r.list j two.1 o)
      (λ o. all-at ok r.second j two.2 o))
      (λ q.
      without-earlier r rs j h
      ∙ without-down rs earlier t (below_other t (length rs) low (eqb-false t (length rs) q)) (rw q at f) j (rw q at m))

  -- What holds of the row of a term, and of all terms that it names, holds of the term.
  without-up : (terms : List TermFields) → referring terms ≡ true → (t : ℕ) → t < length terms → test (get_or rows (2 * t + column) 0) ≡ false
      → ((j : ℕ) → names_term (record_at terms t) j ≡ true → without test rows column terms j ≡ true) → without test rows column terms t ≡ true
  unfolding without record_at names_term referring
  without-up [] refs t low f down = absurd (not-suc-le-zero low)
  without-up (r ∷ rs) refs t low f down =
      let ok : ℕ → Bool = λ j. without test rows column rs j in
      let earlier = (three-right (all_below (length rs) r.list) (all_below (length rs) r.second) (referring rs) refs).2 in
      let early : (j : ℕ) → names_term (record_at (r ∷ rs) t) j ≡ true → without test rows column rs j ≡ true =
      λ j m. let o = named-below (r ∷ rs) refs t low j m in sym (without-earlier r rs j (omega arith)) ∙ down j m in
      by_test (eqb t (length rs))
      (λ q.
      rw (q, f)
      (ap₂ ◌&&◌
      (all-each ok r.list (λ j m. early j (rw q (or-first (member j r.list) (member j r.second) m))))
      (all-each ok r.second (λ j m. early j (rw q (or-second (member j r.list) (member j r.second) m))))))
      (λ q.
      rw q
      (without-up rs earlier t (below_other t (length rs) low (eqb-false t (length rs) q)) f
      (λ j m. early j (rw q m))))

  without-reached : (terms : List TermFields) → referring terms ≡ true → (t u : ℕ) → t < length terms → without test rows column terms t ≡ true → AtOrBelow terms t u
      → test (get_or rows (2 * u + column) 0) ≡ false
  without-reached terms refs t u low f itself = without-here terms t low f
  without-reached terms refs t u low f (below j m b) =
      let early = named-below terms refs t low j m in
      without-reached terms refs j u (omega arith) (without-down terms refs t low f j m) b

  -- By induction on a bound of the term's number, which falls.
  reached-without : (terms : List TermFields) → referring terms ≡ true → (n t : ℕ) → t < n → t < length terms
      → ((u : ℕ) → AtOrBelow terms t u → test (get_or rows (2 * u + column) 0) ≡ false) → without test rows column terms t ≡ true
  reached-without terms refs zero t h low all = absurd (not-suc-le-zero h)
  reached-without terms refs (suc n) t h low all =
      without-up terms refs t low (all t itself)
      (λ j m.
      let early = named-below terms refs t low j m in
      reached-without terms refs n j (omega arith) (omega arith) (λ u b. all u (below j m b)))

  -- NO ROW AT A TERM OR BELOW IT HAS SUCH A CODE exactly when no row of a term that is reached from it has one.
  pub without-exactly : (terms : List TermFields) → referring terms ≡ true → (t : ℕ) → t < length terms
      → (without test rows column terms t ≡ true) ↔ ((u : ℕ) → AtOrBelow terms t u → test (get_or rows (2 * u + column) 0) ≡ false)
  without-exactly terms refs t low = (λ f u b. without-reached terms refs t u low f b, λ all. reached-without terms refs (suc t) t (omega arith) low all)

-- NO LIMIT IS MET AT A TERM OR BELOW IT exactly when no row of a term that is reached from it is 22 or 23.
pub free-exactly : (rows : List ℕ) (column : ℕ) (terms : List TermFields) → referring terms ≡ true → (t : ℕ) → t < length terms
    → (free rows column terms t ≡ true) ↔ ((u : ℕ) → AtOrBelow terms t u → limited (get_or rows (2 * u + column) 0) ≡ false)
free-exactly rows column = without-exactly (λ c. limited c) rows column

-- A term that is reached is one of the terms; so only the codes of their rows count.
reached-low : (terms : List TermFields) → referring terms ≡ true → (t u : ℕ) → t < length terms → AtOrBelow terms t u → u < length terms
reached-low terms refs t u low itself = low
reached-low terms refs t u low (below j m b) =
    let early = named-below terms refs t low j m in reached-low terms refs j u (omega arith) b

pub without-same : (test : ℕ → Bool) (rows rows' : List ℕ) (column : ℕ) → column < 2 → (terms : List TermFields) → referring terms ≡ true
    → ((i : ℕ) → i < 2 * length terms → get_or rows i 0 ≡ get_or rows' i 0) → (t : ℕ) → t < length terms
    → without test rows column terms t ≡ true → without test rows' column terms t ≡ true
without-same test rows rows' column col terms refs same t low f =
    (without-exactly test rows' column terms refs t low).1 (λ u b.
    let o = reached-low terms refs t u low b in
    subst (λ (code : ℕ). test code ≡ false) (same (2 * u + column) (omega arith)) ((without-exactly test rows column terms refs t low).0 f u b))
