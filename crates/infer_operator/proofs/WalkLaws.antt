-- Walks over the arguments' numbers: what each argument of a vector operator does to the verdict on those that are left.
use Prim.Native.Nat.{ℕ, zero, suc, ◌+◌, ◌*◌, ◌≤◌, ◌<◌}
use mathlib.Core.Path.{◌≡◌, refl, sym, ap, subst, ◌∙◌}
use mathlib.Core.Bool.{Bool, true, false, cond, ◌&&◌}
use mathlib.Core.List.{List, [], ◌∷◌}
use native.Mathlib.Omega.{arith}
use lib.ListN.{length, get_or, drop}
use borrow.Author.Tests.{eq-eqb, ne_eqb}
use Rattle.record.specs.Sort.{Sort, Sorts, end, ◌then◌, kind_of, number_in}
use Rattle.record.specs.Record.{sorts_of}
use Rattle.record.specs.Decode.{store_of, sort_at, Stored}
use Rattle.record.specs.Kinds.{sort_number}
use Rattle.record.specs.KindLaws.{sort_number-same}
use Rattle.record.specs.declared.kinds.SortKind.{SortKind}
use Rattle.store.specs.Entry.{EntryAsks, EntryIs, EntryHas, KindHas}
use Rattle.store.specs.Walk.{entry-asks}
use Rattle.record.specs.Record.{Fields}
use Rattle.record.specs.declared.SortRecord.{SortRecord}
use Rattle.substitution.specs.MatchWith.{is_bit_vec}
use Rattle.substitution.proofs.MatchWithLaws.{param-kind}
use Rattle.row_rules.specs.declared.Cause.TheVariants.{Panics}
use Rattle.row_rules.specs.Verdict.{sort, refused}
use Rattle.infer_rules.specs.Inferred.{first_vector, concat_unknown, concat_from}
use Rattle.std.specs.Prelude.{All, Ok, Err, None, ok_or, slice_get}
use Rattle.std.specs.Bool.{then_some, MatchBool}
use Rattle.std.specs.List.{list_all, list_any, AllWithin, HoldsAt}
use Rattle.std.proofs.lemmas.List.Sums.{list_all-from_AllPass}
use Rattle.std.proofs.lemmas.List.Folds.{list_all_at, list_any_at, list_any_none}
use Rattle.record.specs.Number.{u16_at, numbers_at}
use Rattle.record.specs.Codec.{length-numbers_at}
use Rattle.store.specs.declared.Store.{Store}
use Rattle.row_rules.specs.declared.Cause.{Cause}
use Rattle.row_answer.specs.declared.arguments.Args.{Args}
use Rattle.infer_operator.specs.Asks.{Referring, Known, KnownAsk, sorts_with, ArgumentsAsk, args-refer}
use Rattle.infer_operator.specs.Vectors.{unknown_by, WidthAsks, widths_of}

-- One number more is one sort more.
pub sorts-step : {T : Type 0} (f : Sorts → T) (b p : List ℕ) (n : ℕ) {ks left : List ℕ} {k : ℕ} → ks ≡ k ∷ left
    → f (sorts_of (store_of b p n) ks) ≡ f (sort_at b p n k then sorts_of (store_of b p n) left)
unfolding sorts_of sort_at
sorts-step f b p n e = ap (λ (is : List ℕ). f (sorts_of (store_of b p n) is)) e

pub sorts-stop : {T : Type 0} (f : Sorts → T) (b p : List ℕ) (n : ℕ) {ks : List ℕ} → ks ≡ [] → f (sorts_of (store_of b p n) ks) ≡ f end
unfolding sorts_of
sorts-stop f b p n e = ap (λ (is : List ℕ). f (sorts_of (store_of b p n) is)) e

pub known-first : {b p : List ℕ} {n : ℕ} {ks left : List ℕ} {k : ℕ} → ks ≡ k ∷ left → Known b p n ks → k < n
known-first {b} {p} {n} {ks} {left} {k} e h = subst (λ (is : List ℕ). get_or is 0 0 < n) e (h.below 0 0 (omega (arith, ap (λ (is : List ℕ). length is) e)))

pub known-rest : {b p : List ℕ} {n : ℕ} {ks left : List ℕ} {k : ℕ} → ks ≡ k ∷ left → Known b p n ks → Known b p n left
known-rest {b} {p} {n} {ks} {left} {k} e h =
    record {
      stored = h.stored;
      below = λ i d l. subst (λ (is : List ℕ). get_or is (suc i) d < n) e (h.below (suc i) d (omega (arith, ap (λ (is : List ℕ). length is) e)));
    }

---------------------------------------------------------------- one argument of a vector operator
apart : {k : ℕ} (i j : ℕ) → k ≡ i → (i ≡ j → ⊥) → k ≡ j → ⊥
apart {k} i j e d q = d (sym e ∙ q)

nine-ten : ◌≡◌ {A = ℕ} 10 9 → ⊥
nine-ten e = omega arith

pub first-known : (s : Sort) (ss : Sorts) → kind_of s ≡ 9 → first_vector (s then ss) ≡ sort s
unfolding first_vector
first-known s ss h = rw (eq-eqb (kind_of s) 9 h) refl

pub first-unknown : (s : Sort) (ss : Sorts) → kind_of s ≡ 10 → first_vector (s then ss) ≡ first_vector ss
unfolding first_vector
first-unknown s ss h = rw (ne_eqb (kind_of s) 9 (apart 10 9 h nine-ten), param-kind s, eq-eqb (kind_of s) 10 h) refl

pub first-other : (s : Sort) (ss : Sorts) → (kind_of s ≡ 9 → ⊥) → (kind_of s ≡ 10 → ⊥) → first_vector (s then ss) ≡ refused Panics
unfolding first_vector
first-other s ss h d = rw (ne_eqb (kind_of s) 9 h, param-kind s, ne_eqb (kind_of s) 10 d) refl

pub cat-known : (w : ℕ) (s : Sort) (ss : Sorts) → kind_of s ≡ 9 → concat_from w (s then ss) ≡ concat_from (w + number_in s) ss
unfolding concat_from
cat-known w s ss h = rw (eq-eqb (kind_of s) 9 h) refl

pub cat-unknown : (w : ℕ) (s : Sort) (ss : Sorts) → kind_of s ≡ 10 → concat_from w (s then ss) ≡ concat_unknown ss
unfolding concat_from
cat-unknown w s ss h = rw (ne_eqb (kind_of s) 9 (apart 10 9 h nine-ten), param-kind s, eq-eqb (kind_of s) 10 h) refl

pub cat-other : (w : ℕ) (s : Sort) (ss : Sorts) → (kind_of s ≡ 9 → ⊥) → (kind_of s ≡ 10 → ⊥) → concat_from w (s then ss) ≡ refused Panics
unfolding concat_from
cat-other w s ss h d = rw (ne_eqb (kind_of s) 9 h, param-kind s, ne_eqb (kind_of s) 10 d) refl

pub list-rest : {ks left : List ℕ} {k : ℕ} → ks ≡ k ∷ left → length ks ≡ suc (length left)
list-rest e = ap (λ (is : List ℕ). length is) e

-- THE ARGUMENTS' NUMBERS are of the store.
below-nil : (n : ℕ) → All (λ k. k < n) []
below-nil n i d h = absurd (omega arith)

below-cons : (n k : ℕ) (ks : List ℕ) → k < n → All (λ k. k < n) ks → All (λ k. k < n) (k ∷ ks)
below-cons n k ks h t zero d l = h
below-cons n k ks h t (suc i) d l = t i d (omega arith)

below-numbers : (a : List ℕ) (n x m : ℕ) → ((j : ℕ) → j < m → u16_at a (x + 2 * j) < n) → All (λ k. k < n) (numbers_at a x m)
unfolding numbers_at
below-numbers a n x zero h = below-nil n
below-numbers a n x (suc m) h =
    let e : x + 2 * 0 ≡ x = omega arith in
    below-cons n (u16_at a x) (numbers_at a (x + 2) m) (subst (λ (y : ℕ). u16_at a y < n) e (h 0 (omega arith)))
    (below-numbers a n (x + 2) m (λ j l. let f : x + 2 * suc j ≡ x + 2 + 2 * j = omega arith in subst (λ (y : ℕ). u16_at a y < n) f (h (suc j) (omega arith))))

pub refer-known : {b p : List ℕ} {n : ℕ} {a : List ℕ} {x m : ℕ} → Referring b p n a x m → {ks : List ℕ} → ks ≡ numbers_at a x m → Known b p n ks
refer-known {b} {p} {n} {a} {x} {m} h {ks} e = record { stored = h.stored; below = subst (All (λ k. k < n)) (sym e) (below-numbers a n x m h.below) }

pub args-known : (s : Store) (a : Args) → ArgumentsAsk s a → {ks : List ℕ} → ks ≡ numbers_at a.bytes.now 3 a.count → Known s.records.now s.places.now s.count ks
args-known s a h e = refer-known (args-refer s.records.now s.places.now s.index.now s.count s.used a.bytes.now a.count h) e

pub few-numbers : (s : Store) (a : Args) → ArgumentsAsk s a → {ks : List ℕ} → ks ≡ numbers_at a.bytes.now 3 a.count → length ks ≤ 64
few-numbers s a h e = omega (arith, ap (λ (is : List ℕ). length is) e, length-numbers_at a.bytes.now 3 a.count, h.few)

-- The first of them; or there is none.
pub first-taken : (ks : List ℕ) {k : ℕ} → ok_or (slice_get ks 0) Panics ≡ Ok k → ks ≡ k ∷ drop 1 ks
first-taken [] e = cc
first-taken (j ∷ ks) {k} e = let q : j ≡ k = cc in ap (λ (i : ℕ). i ∷ ks) q

pub none-taken : (ks : List ℕ) {c : Cause} → ok_or (slice_get ks 0) Panics ≡ Err c → (ks ≡ []) × (c ≡ Panics)
none-taken [] e = (refl, cc)
none-taken (j ∷ ks) e = (cc, cc)

---------------------------------------------------------------- walks
-- f of the numbers that are left is g of all, for whatever store they are of.
pub record Walking {T : Type 0} (f g : Sorts → T) (b p ks left : List ℕ) : Type 0 where
  pub each : (n : ℕ) → Known b p n ks → Known b p n left
  pub rest : (n : ℕ) → Known b p n ks → g (sorts_with b p n ks) ≡ f (sorts_with b p n left)

module _ {T : Type 0} {f g : Sorts → T} {b p ks left : List ℕ} (w : Walking f g b p ks left) where
  pub walk-end : left ≡ [] → {n : ℕ} → Known b p n ks → g (sorts_with b p n ks) ≡ f end
  walk-end e {n} h = w.rest n h ∙ sorts-stop f b p n e

  -- One number more, k.
  module _ {k : ℕ} {more : List ℕ} (e : left ≡ k ∷ more) where
    pub walk-known : {n : ℕ} → Known b p n ks → k < n
    walk-known {n} h = known-first e (w.each n h)

    pub walk-entry : KnownAsk b p ks → EntryAsks b p k
    walk-entry (n, h) = entry-asks b p n k h.stored (walk-known h)

    pub walk-rest : KnownAsk b p ks → KnownAsk b p more
    walk-rest (n, h) = (n, known-rest e (w.each n h))

    pub walk-here : {n : ℕ} → Known b p n ks → g (sorts_with b p n ks) ≡ f (sort_at b p n k then sorts_with b p n more)
    walk-here {n} h = w.rest n h ∙ sorts-step f b p n e

    pub walk-on : (d : Sorts → T) → ((n : ℕ) → Known b p n ks → (ss : Sorts) → f (sort_at b p n k then ss) ≡ d ss) → Walking d g b p ks more
    walk-on d step = record { each = λ n h. known-rest e (w.each n h); rest = λ n h. walk-here h ∙ step n h (sorts_with b p n more) }

pub few-asks : {b p ks : List ℕ} → WidthAsks b p ks → KnownAsk b p ks
few-asks (n, h) = (n, h.known)

---------------------------------------------------------------- kinds
-- A kind that was read, and one that it is not.
module _ {b p : List ℕ} {n : ℕ} (stored : Stored b p n) {k : ℕ} (known : k < n) {r : SortKind} (h : KindHas b p k (sort_number r)) where
  pub kind-is : (q : SortKind) → r ≡ q → kind_of (sort_at b p n k) ≡ sort_number q
  kind-is q e = sym (h n stored known) ∙ ap sort_number e

  pub kind-not : (q : SortKind) → (r ≡ q → ⊥) → kind_of (sort_at b p n k) ≡ sort_number q → ⊥
  kind-not q d e = d (sort_number-same r q (h n stored known ∙ e))

---------------------------------------------------------------- a test of each sort
-- Whatever store the numbers are of: what `all` and `any` say of the sorts, where the closure tests one.
module _ (b p : List ℕ) (test : Sort → Bool) where
  abbrev pub Tested : Bool → ℕ → Type 0
  Tested t k = (n : ℕ) → Stored b p n → k < n → t ≡ test (sort_at b p n k)

  pub all-tested : (r : Bool) {ks : List ℕ} → MatchBool r (AllWithin (Tested true) ks 0 (length ks)) ((k : ℕ) × (k < length ks) × HoldsAt (Tested false) ks k)
      → (n : ℕ) → Known b p n ks → r ≡ list_all (λ k. test (sort_at b p n k)) ks
  all-tested true {ks} e n h = sym (list_all-from_AllPass (λ k. test (sort_at b p n k)) ks (λ k d l. sym (e k d (omega arith) l n h.stored (h.below k d l))))
  all-tested false {ks} e n h = sym (list_all_at (λ k. test (sort_at b p n k)) ks e.0 0 e.1 (sym (e.2 0 n h.stored (h.below e.0 0 e.1))))

  pub any-tested : (r : Bool) {ks : List ℕ} → MatchBool r ((k : ℕ) × (k < length ks) × HoldsAt (Tested true) ks k) (AllWithin (Tested false) ks 0 (length ks))
      → (n : ℕ) → Known b p n ks → r ≡ list_any (λ k. test (sort_at b p n k)) ks
  any-tested true {ks} e n h = sym (list_any_at (λ k. test (sort_at b p n k)) ks e.0 0 e.1 (sym (e.2 0 n h.stored (h.below e.0 0 e.1))))
  any-tested false {ks} e n h = sym (list_any_none (λ k. test (sort_at b p n k)) ks (λ k d l. sym (e k d (omega arith) l n h.stored (h.below k d l))))

-- Whether all are vectors.
pub unknown-all : (b p : List ℕ) (n : ℕ) (ks : List ℕ) → concat_unknown (sorts_of (store_of b p n) ks) ≡ unknown_by (list_all (λ k. is_bit_vec (sort_at b p n k)) ks)
unfolding concat_unknown sorts_of sort_at
unknown-all b p n [] = refl
unknown-all b p n (k ∷ ks) = go (is_bit_vec (sort_at b p n k)) (list_all (λ k. is_bit_vec (sort_at b p n k)) ks) (unknown-all b p n ks)
  where
    go : (t u : Bool) → concat_unknown (sorts_of (store_of b p n) ks) ≡ unknown_by u → cond t (concat_unknown (sorts_of (store_of b p n) ks)) (refused Panics) ≡ unknown_by (t && u)
    go true u e = e
    go false u e = refl

-- A width is a number of two bytes.
pub width-small : {b p : List ℕ} {n k : ℕ} → Stored b p n → k < n → (r : SortRecord) → EntryHas b p k r → r.number ≤ 65535
width-small st l r h = let o = h _ st l in omega (arith, (st.each _ l).shape.number, ap (λ (g : Fields). g.number) o.place.same)

-- The kind of an entry that was read.
module _ {b p : List ℕ} {n k : ℕ} {r : SortRecord} (read : EntryIs b p n k r) where
  pub entry-is : (q : SortKind) → r.kind ≡ q → kind_of (sort_at b p n k) ≡ sort_number q
  entry-is q e = sym read.kind ∙ ap sort_number e

  pub entry-not : (q : SortKind) → (r.kind ≡ q → ⊥) → kind_of (sort_at b p n k) ≡ sort_number q → ⊥
  entry-not q d e = d (sort_number-same r.kind q (read.kind ∙ e))

pub cat-added : (w : ℕ) (s : Sort) (ss : Sorts) (j : ℕ) → kind_of s ≡ 9 → j ≡ number_in s → concat_from w (s then ss) ≡ concat_from (w + j) ss
cat-added w s ss j h e = cat-known w s ss h ∙ ap (λ (i : ℕ). concat_from (w + i) ss) (sym e)

-- What is answered where a width is unknown.
pub unknown-answer : (all : Bool) → unknown_by all ≡ widths_of (ok_or (then_some all None) Panics)
unknown-answer true = refl
unknown-answer false = refl
