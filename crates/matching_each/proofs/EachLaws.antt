-- The walk that tests every node: a node by its entry, and the loop along a list.
use Prim.Native.Nat.{ℕ, ◌+◌, ◌≤◌, ◌<◌}
use mathlib.Core.Path.{◌≡◌, refl, sym, ap, subst, ◌∙◌}
use mathlib.Core.Bool.{Bool, true, false, ◌&&◌}
use mathlib.Core.List.{List, [], ◌∷◌}
use native.Mathlib.Omega.{arith}
use lib.ListN.{length, get_or}
use lib.Dec.{eqb}
use borrow.Author.Tests.{eqb-true}
use Rattle.record.specs.Numbers.{numbers_of, numbers_left}
use Rattle.record.specs.declared.numbers.Numbers.{Numbers}
use Rattle.record.specs.Cases.{by_test}
use Rattle.record.specs.Number.{numbers_at}
use Rattle.record.specs.Sort.{Sort, parts_of, size, sizes}
use Rattle.record.specs.Record.{sorts_of}
use Rattle.record.specs.Decode.{store_of, sort_at}
use Rattle.record.specs.declared.SortRecord.{SortRecord}
use Rattle.store.specs.Usable.{Usable}
use Rattle.store.specs.Entry.{EntryHas}
use Rattle.matching_tables.specs.Usable.{AllBelow, sorts_at, OneAsks, ListAsks}
use Rattle.matching_tables.specs.Notes.{NoteIs}
use Rattle.matching_tables.specs.NoteLaws.{table-put}
use Rattle.matching_tables.specs.Entered.{sorts-end, entry-size, entry-refs}
use Rattle.matching_tables.specs.LastLaws.{and_one}
use Rattle.matching_tables.specs.WalkLaws.{refs-below, below-first, below-rest}
use Rattle.matching_each.specs.Every.{every, every_all, Noted, Answers, EveryFound, EachIs, AllEachIs}
use Rattle.matching_each.specs.EveryLaws.{every-parts}

---------------------------------------------------------------- a sort by its entry
module _ {b p : List ℕ} {n k : ℕ} (a : OneAsks b p n k) {r : SortRecord} (e : EntryHas b p k r) (f : Sort → Bool) {q : Bool} (h : q ≡ f (sort_at b p n k)) where
  pub node-fails : q ≡ false → false ≡ every f (sort_at b p n k)
  node-fails z = sym (every-parts f (sort_at b p n k) ∙ ap (λ (t : Bool). t && every_all f (parts_of (sort_at b p n k))) (sym h ∙ z))

  module _ (z : q ≡ true) where
    pub node-passes : {v : Bool} → v ≡ every_all f (sorts_at b p n b r.parts.at r.parts.count) → v ≡ every f (sort_at b p n k)
    node-passes g =
        g ∙ ap (every_all f) (e n a.usable.stored a.known).parts
        ∙ sym (every-parts f (sort_at b p n k) ∙ ap (λ (t : Bool). t && every_all f (parts_of (sort_at b p n k))) (sym h ∙ z))

    pub node-alone : r.parts.count ≡ 0 → true ≡ every f (sort_at b p n k)
    unfolding every
    node-alone c = node-passes (sym (ap (every_all f) (sorts-end b p n b r.parts.at r.parts.count c)))

  -- Without parts, the node is the whole sort.
  pub node-only : r.parts.count ≡ 0 → q ≡ every f (sort_at b p n k)
  node-only c = by_test q (λ z. z ∙ node-alone z c) (λ z. z ∙ node-fails z)

-- The answer for one sort, for every test whose answers are given.
module _ {b p : List ℕ} {n : ℕ} {says : SortRecord → Bool → Type 0} {o : List ℕ} where
  module _ {k : ℕ} (one : OneAsks b p n k) {r : SortRecord} (h : EntryHas b p k r) {q : Bool} (s : says r q) where
    pub one-fails : q ≡ false → EachIs b p n says o k o false
    one-fails z f a t = record { answer = node-fails one h f (a r k q one h s) z; noted = t }

    module _ (z : q ≡ true) where
      pub one-alone : r.parts.count ≡ 0 → EachIs b p n says o k o true
      one-alone c f a t = record { answer = node-alone one h f (a r k q one h s) z c; noted = t }

      module _ {o' : List ℕ} {w : Bool} (d : AllEachIs b p n says o r.parts.at r.parts.count o' w) where
        pub one-stop : w ≡ false → EachIs b p n says o k o' false
        one-stop y f a t = let g = d f a t in record { answer = node-passes one h f (a r k q one h s) z (sym y ∙ g.answer); noted = g.noted }

        pub one-more : w ≡ true → {o'' : List ℕ} → NoteIs o' k o'' → EachIs b p n says o k o'' true
        one-more y {o''} u f a t =
            let g = d f a t in
            let c = node-passes one h f (a r k q one h s) z (sym y ∙ g.answer) in
            record { answer = c; noted = table-put (λ (j : ℕ). every f (sort_at b p n j) ≡ true) o' k o'' g.noted (sym c) u }

  pub one-noted : (k i : ℕ) → get_or o i 0 ≡ k + 1 → EachIs b p n says o k o true
  one-noted k i z f a t = record { answer = sym (t.each i k z); noted = t }

---------------------------------------------------------------- the loop along a list
-- From the numbers ks₀ to ks: what is left may be walked.
pub record EachGo (b p : List ℕ) (n : ℕ) (ks₀ ks : List ℕ) : Type 0 where
  pub usable : Usable b p n
  pub below : AllBelow ks n
  pub less : sizes (sorts_of (store_of b p n) ks) ≤ sizes (sorts_of (store_of b p n) ks₀)

-- What is left decides the whole, and the table is right, for the test f.
pub record EachFor (b p : List ℕ) (n : ℕ) (f : Sort → Bool) (ks₀ o ks : List ℕ) : Type 0 where
  pub noted : Noted b p n f o
  pub whole : every_all f (sorts_of (store_of b p n) ks) ≡ every_all f (sorts_of (store_of b p n) ks₀)

-- For every test whose answers are given, from the table o₀.
abbrev pub EachSo : List ℕ → List ℕ → ℕ → (SortRecord → Bool → Type 0) → List ℕ → List ℕ → List ℕ → List ℕ → Type 0
EachSo b p n says o₀ ks₀ o ks = (f : Sort → Bool) → Answers b p n says f → Noted b p n f o₀ → EachFor b p n f ks₀ o ks

pub each-go : {b p : List ℕ} {n : ℕ} {x m : ℕ} {ks : List ℕ} → ListAsks b p n b x m → ks ≡ numbers_at b x m → EachGo b p n (numbers_at b x m) ks
each-go {b} {p} {n} {x} {m} a e = rw e (record { usable = a.usable; below = refs-below b x m n a.refs; less = omega arith })

pub each-so : {b p : List ℕ} {n : ℕ} (says : SortRecord → Bool → Type 0) (o : List ℕ) {ks ks₀ : List ℕ} → ks ≡ ks₀ → EachSo b p n says o ks₀ o ks
each-so {b} {p} {n} says o e f a t = record { noted = t; whole = ap (λ (l : List ℕ). every_all f (sorts_of (store_of b p n) l)) e }

module _ {b p : List ℕ} {n : ℕ} {ks₀ ks : List ℕ} (v : EachGo b p n ks₀ ks) where
  module _ {k : ℕ} {ks' : List ℕ} (e : ks ≡ k ∷ ks') where
    low : AllBelow (k ∷ ks') n
    low = subst (λ (l : List ℕ). AllBelow l n) e v.below

    pub each-asks : OneAsks b p n k
    each-asks = record { usable = v.usable; known = below-first k ks' n low }

    first-size : sizes (sorts_of (store_of b p n) ks) ≡ size (sort_at b p n k) + sizes (sorts_of (store_of b p n) ks')
    unfolding sorts_of sort_at size
    first-size = ap (λ (l : List ℕ). sizes (sorts_of (store_of b p n) l)) e

    pub go-rest : EachGo b p n ks₀ ks'
    go-rest = record { usable = v.usable; below = below-rest k ks' n low; less = omega (arith, v.less, first-size) }

    module _ {r : SortRecord} (h : EntryHas b p k r) where
      own-size : size (sort_at b p n k) ≡ 1 + sizes (sorts_at b p n b r.parts.at r.parts.count)
      own-size = entry-size b p n k each-asks.usable each-asks.known r h

      -- What is left falls: to the rest of the list, and to the first one's parts.
      pub each-less : sizes (sorts_of (store_of b p n) ks') < sizes (sorts_of (store_of b p n) ks)
      each-less = omega (arith, first-size, own-size)

      pub each-down : sizes (sorts_at b p n b r.parts.at r.parts.count) < sizes (sorts_of (store_of b p n) ks)
      each-down = omega (arith, first-size, own-size)

      pub each-turn : {ks'' : List ℕ} → ks'' ≡ numbers_at b r.parts.at r.parts.count → sizes (sorts_of (store_of b p n) ks'') < sizes (sorts_of (store_of b p n) ks)
      each-turn g = rw g each-down

      pub parts-list : ListAsks b p n b r.parts.at r.parts.count
      parts-list = record { usable = v.usable; refs = entry-refs b p n k each-asks.usable each-asks.known r h }

      pub go-parts : {ks'' : List ℕ} → ks'' ≡ numbers_at b r.parts.at r.parts.count → EachGo b p n ks₀ ks''
      go-parts g =
          rw g
          (record {
            usable = v.usable;
            below = refs-below b r.parts.at r.parts.count n parts-list.refs;
            less = omega (arith, v.less, each-down);
          })

-- What the first of the list says of the whole.
module _ {b p : List ℕ} {n : ℕ} {f : Sort → Bool} {ks₀ o ks : List ℕ} (v : EachFor b p n f ks₀ o ks) where
  for-end : ks ≡ [] → EveryFound b p n f (every_all f (sorts_of (store_of b p n) ks₀)) o true
  unfolding every sorts_of
  for-end z = record { answer = sym (ap (λ (l : List ℕ). every_all f (sorts_of (store_of b p n) l)) z) ∙ v.whole; noted = v.noted }

  module _ {k : ℕ} {ks' : List ℕ} (e : ks ≡ k ∷ ks') where
    first : {q : Bool} → q ≡ every f (sort_at b p n k) → (q && every_all f (sorts_of (store_of b p n) ks')) ≡ every_all f (sorts_of (store_of b p n) ks₀)
    unfolding every sorts_of sort_at
    first g = rw g (sym (ap (λ (l : List ℕ). every_all f (sorts_of (store_of b p n) l)) e) ∙ v.whole)

    for-stop : {o' : List ℕ} → false ≡ every f (sort_at b p n k) → Noted b p n f o' → EveryFound b p n f (every_all f (sorts_of (store_of b p n) ks₀)) o' false
    for-stop g t = record { answer = first g; noted = t }

    for-step : {o' : List ℕ} → true ≡ every f (sort_at b p n k) → Noted b p n f o' → EachFor b p n f ks₀ o' ks'
    for-step g t = record { noted = t; whole = first g }

    -- Where the first is the last too, its parts decide the whole.
    for-last : {ks'' : List ℕ} {q : Bool} → OneAsks b p n k → {r : SortRecord} → EntryHas b p k r → q ≡ f (sort_at b p n k) → q ≡ true → ks' ≡ []
        → ks'' ≡ numbers_at b r.parts.at r.parts.count → EachFor b p n f ks₀ o ks''
    unfolding every sorts_of
    for-last one {r} h g z l i =
        let parts = every_all f (sorts_at b p n b r.parts.at r.parts.count) in
        let none = ap (λ (w : List ℕ). every_all f (sorts_of (store_of b p n) w)) l in
        rw i
        (record {
          noted = v.noted;
          whole = sym (and_one parts) ∙ ap (λ (t : Bool). parts && t) (sym none) ∙ first (node-passes one h f g z refl);
        })

-- No bytes are left, so no numbers.
pub emptied : (i : Numbers) {r : Bool} → r ≡ eqb (length i.bytes.now) 0 → r ≡ true → numbers_left i ≡ []
emptied i e z = none i.bytes.now (eqb-true (length i.bytes.now) 0 (sym e ∙ z))
  where
    none : (l : List ℕ) → length l ≡ 0 → numbers_of l ≡ []
    none [] h = refl
    none (a ∷ l) h = absurd (omega arith)

---------------------------------------------------------------- for every test
module _ {b p : List ℕ} {n : ℕ} {says : SortRecord → Bool → Type 0} {o₀ ks₀ o ks : List ℕ} (v : EachSo b p n says o₀ ks₀ o ks) where
  pub so-end : ks ≡ [] → (f : Sort → Bool) → Answers b p n says f → Noted b p n f o₀ → EveryFound b p n f (every_all f (sorts_of (store_of b p n) ks₀)) o true
  so-end z f a t = for-end (v f a t) z

  module _ {k : ℕ} {ks' : List ℕ} (e : ks ≡ k ∷ ks') (one : OneAsks b p n k) {r : SortRecord} (h : EntryHas b p k r) {q : Bool} (s : says r q) where
    pub so-fails : q ≡ false → (f : Sort → Bool) → Answers b p n says f → Noted b p n f o₀ → EveryFound b p n f (every_all f (sorts_of (store_of b p n) ks₀)) o false
    so-fails z f a t = for-stop (v f a t) e (node-fails one h f (a r k q one h s) z) (v f a t).noted

    module _ (z : q ≡ true) where
      pub so-alone : r.parts.count ≡ 0 → EachSo b p n says o₀ ks₀ o ks'
      so-alone c f a t = for-step (v f a t) e (node-alone one h f (a r k q one h s) z c) (v f a t).noted

      pub so-last : {ks'' : List ℕ} → ks' ≡ [] → ks'' ≡ numbers_at b r.parts.at r.parts.count → EachSo b p n says o₀ ks₀ o ks''
      so-last l i f a t = for-last (v f a t) e one h (a r k q one h s) z l i

      module _ {o' : List ℕ} {w : Bool} (d : AllEachIs b p n says o r.parts.at r.parts.count o' w) where
        pub so-stop : w ≡ false → (f : Sort → Bool) → Answers b p n says f → Noted b p n f o₀ → EveryFound b p n f (every_all f (sorts_of (store_of b p n) ks₀)) o' false
        so-stop y f a t =
            let g = d f a (v f a t).noted in
            for-stop (v f a t) e (node-passes one h f (a r k q one h s) z (sym y ∙ g.answer)) g.noted

        pub so-more : w ≡ true → {o'' : List ℕ} → NoteIs o' k o'' → EachSo b p n says o₀ ks₀ o'' ks'
        so-more y {o''} u f a t =
            let g = d f a (v f a t).noted in
            let c = node-passes one h f (a r k q one h s) z (sym y ∙ g.answer) in
            for-step (v f a t) e c (table-put (λ (j : ℕ). every f (sort_at b p n j) ≡ true) o' k o'' g.noted (sym c) u)

  -- A sort that is noted was found so before.
  pub so-noted : {k : ℕ} {ks' : List ℕ} → ks ≡ k ∷ ks' → (i : ℕ) → get_or o i 0 ≡ k + 1 → EachSo b p n says o₀ ks₀ o ks'
  so-noted {k} e i z f a t = for-step (v f a t) e (sym ((v f a t).noted.each i k z)) (v f a t).noted
