-- Scans over the arguments: by kind, by number, and against a list of kinds.
use Prim.Native.Nat.{ℕ, zero, suc, ◌+◌, ◌*◌, ◌<◌}
use mathlib.Core.Path.{◌≡◌, refl, sym, ap, ap₂, ◌∙◌}
use mathlib.Core.Bool.{Bool, true, false, ◌&&◌}
use mathlib.Core.List.{List, [], ◌∷◌}
use native.Mathlib.Omega.{arith}
use native.Mathlib.Nat.{not-suc-le-zero}
use native.Mathlib.Decide.{dec_lt}
use lib.ListN.{length, get_or}
use lib.Dec.{eqb, leb}
use borrow.Author.Tests.{leb-true}
use Rattle.std.specs.Prelude.{MatchBool}
use Rattle.std.specs.List.{zip, AllWithin, HoldsAt}
use Rattle.std.proofs.lemmas.List.{get_or-map, get_or_default}
use Rattle.std.proofs.lemmas.Slice.Zip.{get_or-zip, length-zip}
use Rattle.record.specs.Number.{u16_at, numbers_at}
use Rattle.record.specs.Kinds.{sort_number}
use Rattle.record.specs.declared.kinds.SortKind.{SortKind}
use Rattle.record.specs.declared.kinds.SortKind.TheVariants.{Function as first}
use Rattle.record.specs.Sort.{Sort, Sorts, end, ◌then◌, kind_of, same, same_all}
use Rattle.record.specs.SortLaws.{same-complete, same-other}
use Rattle.record.specs.Record.{map_of, leaf, sorts_of}
use Rattle.record.specs.Decode.{store_of, sort_at}
use Rattle.record.specs.Codec.{length-numbers_at}
use Rattle.record.specs.StoreLaws.{sorts-one}
use Rattle.record.specs.Cases.{false-second}
use Rattle.check_rules.specs.Forms.{all_same}
use Rattle.check_rules.specs.Checked.{only_of}
use Rattle.check_operator.specs.Rule.{plain_sort, fixed_of}
use Rattle.check_operator.specs.Numbered.{kind_in}
use Rattle.check_operator.specs.Contract.{arg_at, Over, args_of, KindIs}
use Rattle.check_operator.specs.KindLaws.{kind-same}

---------------------------------------------------------------- one test of every argument
-- A test that holds of every sort of a list.
unfoldable all_by : (Sort → Bool) → Sorts → Bool
all_by f end = true
all_by f (s then ss) = f s && all_by f ss

same_by : (s : Sort) (ts : Sorts) → all_same s ts ≡ all_by (λ t. same s t) ts
unfolding all_same all_by
same_by s end = refl
same_by s (t then ts) = ap (same s t &&◌) (same_by s ts)

by_all : (f : Sort → Bool) (st : List Sort) (xs : List ℕ) → ((j : ℕ) → j < length xs → f (get_or st (get_or xs j 0) leaf) ≡ true) → all_by f (sorts_of st xs) ≡ true
unfolding all_by sorts_of
by_all f st [] h = refl
by_all f st (x ∷ xs) h = ap₂ ◌&&◌ (h 0 (omega arith)) (by_all f st xs (λ j l. h (suc j) (omega arith)))

by_one : (f : Sort → Bool) (st : List Sort) (xs : List ℕ) (j : ℕ) → j < length xs → f (get_or st (get_or xs j 0) leaf) ≡ false → all_by f (sorts_of st xs) ≡ false
unfolding all_by sorts_of
by_one f st [] j l e = absurd (not-suc-le-zero l)
by_one f st (x ∷ xs) zero l e = ap (◌&& all_by f (sorts_of st xs)) e
by_one f st (x ∷ xs) (suc j) l e = false-second (f (get_or st x leaf)) (all_by f (sorts_of st xs)) (by_one f st xs j (omega arith) e)

-- What `all` tells of a list: each element passes, or one does not.
abbrev pub Scanned : {A : Type 0} → Bool → (A → Type 0) → (A → Type 0) → List A → Type 0
Scanned r Yes No xs = MatchBool r (AllWithin Yes xs 0 (length xs)) ((k : ℕ) × (k < length xs) × HoldsAt No xs k)

-- The number in a place of the list; past its end there is none.
pub get-number : (a : List ℕ) (m k d : ℕ) → k < m → get_or (numbers_at a 3 m) k d ≡ arg_at a k
unfolding numbers_at
get-number a m k d l = at-place a 3 m k d l
  where
    at-place : (s : List ℕ) (x n j e : ℕ) → j < n → get_or (numbers_at s x n) j e ≡ u16_at s (x + 2 * j)
    at-place s x zero j e l = absurd (not-suc-le-zero l)
    at-place s x (suc n) zero e l = let q : x ≡ x + 2 * 0 = omega arith in ap (u16_at s) q
    at-place s x (suc n) (suc j) e l = let q : x + 2 + 2 * j ≡ x + 2 * suc j = omega arith in at-place s (x + 2) n j e (omega arith) ∙ ap (u16_at s) q

pub within-list : (a : List ℕ) (m k : ℕ) → k < length (numbers_at a 3 m) → k < m
within-list a m k l = omega (arith, length-numbers_at a 3 m)

-- An argument that a scan came to is one of the store.
pub arg_known : {b p : List ℕ} {n : ℕ} {a : List ℕ} {m : ℕ} → Over b p n a m → (x k : ℕ) → k < length (numbers_at a 3 m) → x ≡ get_or (numbers_at a 3 m) k x → x < n
arg_known {a = a} {m} f x k l e =
    let h = within-list a m k l in
    omega (arith, e, get-number a m k x h, f.below k h)

-- The argument j is one of the store.
pub arg-below : {b p : List ℕ} {n : ℕ} {a : List ℕ} {m : ℕ} → Over b p n a m → (j : ℕ) → j < m → {k : ℕ} → k ≡ arg_at a j → k < n
arg-below o j l e = omega (arith, e, o.below j l)

---------------------------------------------------------------- kinds and numbers
module _ (b p : List ℕ) (n : ℕ) (a : List ℕ) (m : ℕ) where
  pub kinds_by : Over b p n a m → (k : ℕ) (t : Bool) → Scanned t (λ v. KindIs b p v k true) (λ v. KindIs b p v k false) (numbers_at a 3 m) → map_of k ≡ 1 → t ≡ all_same (plain_sort k) (args_of b p n a m)
  unfolding sort_at
  kinds_by f k t h plain = go t h
    where
      known : (j : ℕ) → j < length (numbers_at a 3 m) → get_or (numbers_at a 3 m) j 0 < n
      known j l = let w = within-list a m j l in omega (arith, get-number a m j 0 w, f.below j w)

      same-at : (j : ℕ) → j < length (numbers_at a 3 m) → same (plain_sort k) (get_or (store_of b p n) (get_or (numbers_at a 3 m) j 0) leaf) ≡ eqb (kind_of (sort_at b p n (get_or (numbers_at a 3 m) j 0))) k
      same-at j l = kind-same b p n (get_or (numbers_at a 3 m) j 0) f.stored (known j l) k plain

      go : (r : Bool) → Scanned r (λ v. KindIs b p v k true) (λ v. KindIs b p v k false) (numbers_at a 3 m) → r ≡ all_same (plain_sort k) (args_of b p n a m)
      go true g =
          sym (same_by (plain_sort k) (args_of b p n a m)
          ∙ by_all (λ x. same (plain_sort k) x) (store_of b p n) (numbers_at a 3 m) (λ j l. same-at j l ∙ sym (g j 0 (omega arith) l n f.stored (known j l))))
      go false g =
          sym (same_by (plain_sort k) (args_of b p n a m)
          ∙ by_one (λ x. same (plain_sort k) x) (store_of b p n) (numbers_at a 3 m) g.0 g.1 (same-at g.0 g.1 ∙ sym (g.2 0 n f.stored (known g.0 g.1))))

  -- The first argument, where there is one.
  first-is : 0 < m → only_of (args_of b p n a m) ≡ sort_at b p n (arg_at a 0)
  unfolding sort_at sorts_of numbers_at
  first-is l = go m l
    where
      go : (i : ℕ) → 0 < i → only_of (args_of b p n a i) ≡ get_or (store_of b p n) (u16_at a 3) leaf
      go zero o = absurd (not-suc-le-zero o)
      go (suc i) o = refl

  none-same : m ≡ 0 → all_same (only_of (args_of b p n a m)) (args_of b p n a m) ≡ true
  unfolding all_same sorts_of numbers_at
  none-same e = ap (λ (x : ℕ). all_same (only_of (args_of b p n a x)) (args_of b p n a x)) e

  -- Every argument is the sort of the number e, by a scan of their numbers.
  pub same_as : (e : ℕ) → e < n → (t : Bool) → Scanned t (λ v. v ≡ e) (λ v. v ≡ e → ⊥) (numbers_at a 3 m) → Over b p n a m → t ≡ all_same (sort_at b p n e) (args_of b p n a m)
  unfolding sort_at
  same_as e k t h o = go t h ∙ sym (same_by (sort_at b p n e) (args_of b p n a m))
    where
      go : (r : Bool) → Scanned r (λ v. v ≡ e) (λ v. v ≡ e → ⊥) (numbers_at a 3 m) → r ≡ all_by (λ x. same (sort_at b p n e) x) (args_of b p n a m)
      go true g =
          let s = sort_at b p n e in
          sym (by_all (λ x. same s x) (store_of b p n) (numbers_at a 3 m)
          (λ j w. same-complete s (get_or (store_of b p n) (get_or (numbers_at a 3 m) j 0) leaf) (ap (sort_at b p n) (sym (g j 0 (omega arith) w)))))
      go false g =
          let s = sort_at b p n e in
          let v = get_or (numbers_at a 3 m) g.0 0 in
          let i = within-list a m g.0 g.1 in
          sym (by_one (λ x. same s x) (store_of b p n) (numbers_at a 3 m) g.0 g.1
          (same-other s (sort_at b p n v)
          (λ q. g.2 0 (sym (sorts-one b p n o.stored o.distinct e v k (omega (arith, get-number a m g.0 0 i, o.below g.0 i)) q)))))

  pub same_all_by : (t : Bool) → Scanned t (λ v. v ≡ arg_at a 0) (λ v. v ≡ arg_at a 0 → ⊥) (numbers_at a 3 m) → Over b p n a m → t ≡ all_same (only_of (args_of b p n a m)) (args_of b p n a m)
  same_all_by t h o = go (dec_lt 0 m)
    where
      go : Dec (0 < m) → t ≡ all_same (only_of (args_of b p n a m)) (args_of b p n a m)
      go (yes l) = same_as (arg_at a 0) (o.below 0 l) t h o ∙ sym (ap (λ (x : Sort). all_same x (args_of b p n a m)) (first-is l))
      go (no l) = let z : m ≡ 0 = omega arith in none t h z ∙ sym (none-same z)
        where
          none : (r : Bool) → Scanned r (λ v. v ≡ arg_at a 0) (λ v. v ≡ arg_at a 0 → ⊥) (numbers_at a 3 m) → m ≡ 0 → r ≡ true
          none true g z = refl
          none false g z = absurd (omega (arith, within-list a m g.0 g.1))

---------------------------------------------------------------- a list of kinds
-- The sorts of these kinds.
abbrev pub plain_sorts : List SortKind → Sorts
plain_sorts [] = end
plain_sorts (k ∷ ks) = plain_sort (sort_number k) then plain_sorts ks

pub fixed-plain : (ks : List SortKind) → leb (length ks) 3 ≡ true → fixed_of (length ks) (kind_in ks 0) (kind_in ks 1) (kind_in ks 2) ≡ plain_sorts ks
fixed-plain [] e = refl
fixed-plain (x ∷ []) e = refl
fixed-plain (x ∷ y ∷ []) e = refl
fixed-plain (x ∷ y ∷ z ∷ []) e = refl
fixed-plain (x ∷ y ∷ z ∷ w ∷ ks) e = let l = leb-true (suc (suc (suc (suc (length ks))))) 3 e in absurd (omega arith)

plain-each : (st : List Sort) (ks : List SortKind) (xs : List ℕ) → length ks ≡ length xs
    → ((j : ℕ) → j < length ks → same (plain_sort (kind_in ks j)) (get_or st (get_or xs j 0) leaf) ≡ true) → same_all (plain_sorts ks) (sorts_of st xs) ≡ true
unfolding same sorts_of
plain-each st [] [] e h = refl
plain-each st [] (x ∷ xs) e h = absurd (omega arith)
plain-each st (k ∷ ks) [] e h = absurd (omega arith)
plain-each st (k ∷ ks) (x ∷ xs) e h = ap₂ ◌&&◌ (h 0 (omega arith)) (plain-each st ks xs (omega arith) (λ j l. h (suc j) (omega arith)))

plain-not : (st : List Sort) (ks : List SortKind) (xs : List ℕ) (j : ℕ) → j < length ks → j < length xs
    → same (plain_sort (kind_in ks j)) (get_or st (get_or xs j 0) leaf) ≡ false → same_all (plain_sorts ks) (sorts_of st xs) ≡ false
unfolding same sorts_of
plain-not st [] xs j l o e = absurd (not-suc-le-zero l)
plain-not st (k ∷ ks) [] j l o e = absurd (not-suc-le-zero o)
plain-not st (k ∷ ks) (x ∷ xs) zero l o e = ap (◌&& same_all (plain_sorts ks) (sorts_of st xs)) e
plain-not st (k ∷ ks) (x ∷ xs) (suc j) l o e =
    false-second (same (plain_sort (sort_number k)) (get_or st x leaf)) (same_all (plain_sorts ks) (sorts_of st xs)) (plain-not st ks xs j (omega arith) (omega arith) e)

-- The test of an argument beside its kind, and what the code tells of it.
abbrev of_kind : List ℕ → List ℕ → ℕ → ℕ × SortKind → Bool
of_kind b p n x = eqb (kind_of (sort_at b p n x.0)) (sort_number x.1)

abbrev pub OfKind : List ℕ → List ℕ → ℕ × SortKind → Bool → Type 0
OfKind b p x r = KindIs b p x.0 (sort_number x.1) r

module _ {b p : List ℕ} {n : ℕ} {a : List ℕ} {m : ℕ} (f : Over b p n a m) (ks : List SortKind) (many : length ks ≡ m) where
  abbrev pairs : List (ℕ × SortKind)
  pairs = zip (numbers_at a 3 m) ks

  pair-at : (k : ℕ) (d : ℕ × SortKind) → k < length pairs → (k < m) × (get_or pairs k d ≡ (arg_at a k, get_or ks k d.1))
  pair-at k d l =
      let h : k < m = omega (arith, length-zip (numbers_at a 3 m) ks, length-numbers_at a 3 m) in
      (h, get_or-zip (numbers_at a 3 m) ks k d (omega (arith, length-numbers_at a 3 m)) (omega arith) ∙ ap (λ (v : ℕ). (v, get_or ks k d.1)) (get-number a m k d.0 h))

  pub zip_known : (x : ℕ × SortKind) (k : ℕ) → k < length pairs → x ≡ get_or pairs k x → x.0 < n
  zip_known x k l e =
      let h = pair-at k x l in
      omega (arith, ap (λ (y : ℕ × SortKind). y.0) (e ∙ h.1), f.below k h.0)

  module _ (plain : (j : ℕ) → j < m → map_of (kind_in ks j) ≡ 1) where
    place : (j : ℕ) (d : ℕ × SortKind) → j < length pairs → get_or pairs j d ≡ get_or pairs j (get_or pairs j d)
    place j d l = get_or_default pairs j d (get_or pairs j d) l

    kind-at : (j : ℕ) (d : SortKind) → j < m → sort_number (get_or ks j d) ≡ kind_in ks j
    kind-at j d l = sym (get_or-map sort_number ks j d 3 (omega arith))

    same-kind : (j : ℕ) (d : ℕ × SortKind) → j < length pairs → same (plain_sort (kind_in ks j)) (sort_at b p n (arg_at a j)) ≡ of_kind b p n (get_or pairs j d)
    same-kind j d l =
        let h = pair-at j d l in
        kind-same b p n (arg_at a j) f.stored (f.below j h.0) (kind_in ks j) (plain j h.0)
        ∙ ap (eqb (kind_of (sort_at b p n (arg_at a j)))) (sym (kind-at j d.1 h.0)) ∙ ap (of_kind b p n) (sym h.1)

    pub fixed_by : (t : Bool) → Scanned t (λ x. OfKind b p x true) (λ x. OfKind b p x false) pairs
        → t ≡ same_all (plain_sorts ks) (args_of b p n a m)
    unfolding sort_at
    fixed_by true h =
        sym (plain-each (store_of b p n) ks (numbers_at a 3 m) (many ∙ sym (length-numbers_at a 3 m))
        (λ j l.
        let k : j < length pairs = omega (arith, length-zip (numbers_at a 3 m) ks, length-numbers_at a 3 m) in
        let d : ℕ × SortKind = (0, first) in
        ap (λ (v : ℕ). same (plain_sort (kind_in ks j)) (sort_at b p n v)) (get-number a m j 0 (omega arith)) ∙ same-kind j d k ∙ sym (h j d (omega arith) k n f.stored (zip_known (get_or pairs j d) j k (place j d k)))))
    fixed_by false h =
        let j = h.0 in
        let d : ℕ × SortKind = (0, first) in
        let k : j < m = (pair-at j d h.1).0 in
        sym (plain-not (store_of b p n) ks (numbers_at a 3 m) j (omega arith) (omega (arith, length-numbers_at a 3 m))
        (ap (λ (v : ℕ). same (plain_sort (kind_in ks j)) (sort_at b p n v)) (get-number a m j 0 k) ∙ same-kind j d h.1 ∙ sym (h.2 d n f.stored (zip_known (get_or pairs j d) j h.1 (place j d h.1)))))
