-- A list of parts by all but its last and the last: the sorts, their sizes, what a walk asks, and the answers of the two
-- definitions that go along two lists (`compatible-last`, `matches-last`).
use Rattle.std.specs.Prelude.{ℕ, zero, suc, ◌+◌, ◌*◌, ◌-◌, ◌<◌, ◌≡◌, refl, Bool, true, ◌&&◌, List, get_or}
use Rattle.std.proofs.Common.{sym, subst, ◌∙◌, arith}
use Rattle.std.proofs.Math.Path.{ap}
use mathlib.Core.Bool.{and-true, and_assoc}
use Rattle.std.proofs.Math.Option.{Option, none, some}
use Rattle.record.specs.Number.{u16_at, numbers_at}
use Rattle.record.specs.Sort.{Sort, Sorts, end, ◌then◌, count, size, sizes}
use Rattle.record.specs.Record.{leaf, sorts_of}
use Rattle.record.specs.Decode.{store_of, sort_at}
use Rattle.substitution.specs.Substitution.{Map}
use Rattle.substitution.specs.Matching.{and_then, matches, matches_all}
use Rattle.substitution.specs.Compatible.{compatible, compatible_all}
use Rattle.matching_tables.specs.Usable.{Refs, sorts_at, PairAsks, PairsAsk}
use Rattle.matching_tables.specs.WalkLaws.{count_at}

---------------------------------------------------------------- on trees
-- A list and one sort behind it.
joined : Sorts → Sort → Sorts
joined end t = t then end
joined (s then ss) t = s then joined ss t

sizes-joined : (ss : Sorts) (t : Sort) → sizes (joined ss t) ≡ sizes ss + size t
unfolding size joined
sizes-joined end t = omega arith
sizes-joined (s then ss) t = omega (arith, sizes-joined ss t)

pub and_one : (a : Bool) → (a && true) ≡ a
and_one a = and-true a

and-more : (a b c : Bool) → (a && (b && c)) ≡ ((a && b) && c)
and-more a b c = sym (and_assoc a b c)

compatible-joined : (ps ts : Sorts) (p t : Sort) → count ps ≡ count ts → compatible_all (joined ps p) (joined ts t) ≡ (compatible_all ps ts && compatible p t)
unfolding compatible count joined
compatible-joined end end p t e = and_one (compatible p t)
compatible-joined end (u then ts) p t e = absurd (omega arith)
compatible-joined (q then ps) end p t e = absurd (omega arith)
compatible-joined (q then ps) (u then ts) p t e =
    ap (λ (z : Bool). compatible q u && z) (compatible-joined ps ts p t (omega arith))
    ∙ and-more (compatible q u) (compatible_all ps ts) (compatible p t)

pub and-some : (o : Option Map) → and_then o (λ m. some m) ≡ o
and-some none = refl
and-some (some m) = refl

and-then : (o : Option Map) (f g h : Map → Option Map) → ((m : Map) → f m ≡ and_then (g m) h) → and_then o f ≡ and_then (and_then o g) h
and-then none f g h e = refl
and-then (some m) f g h e = e m

matches-joined : (f : ℕ → Bool) (ps ts : Sorts) (p t : Sort) → count ps ≡ count ts → (θ : Map)
    → matches_all f (joined ps p) (joined ts t) θ ≡ and_then (matches_all f ps ts θ) (λ m. matches f p t m)
unfolding matches count joined
matches-joined f end end p t e θ = and-some (matches f p t θ)
matches-joined f end (u then ts) p t e θ = absurd (omega arith)
matches-joined f (q then ps) end p t e θ = absurd (omega arith)
matches-joined f (q then ps) (u then ts) p t e θ =
    and-then (matches f q u θ) (λ m. matches_all f (joined ps p) (joined ts t) m) (λ m. matches_all f ps ts m) (λ m. matches f p t m)
    (λ m. matches-joined f ps ts p t (omega arith) m)

---------------------------------------------------------------- sorts of a store
parts-joined : (st : List Sort) (s : List ℕ) (x m : ℕ) → sorts_of st (numbers_at s x (suc m)) ≡ joined (sorts_of st (numbers_at s x m)) (get_or st (u16_at s (x + 2 * m)) leaf)
unfolding sorts_of numbers_at joined
parts-joined st s x zero = let e : x ≡ x + 2 * 0 = omega arith in ap (λ (i : ℕ). get_or st (u16_at s i) leaf then end) e
parts-joined st s x (suc m) =
    let e : x + 2 + 2 * m ≡ x + 2 * suc m = omega arith in
    ap (λ (ss : Sorts). get_or st (u16_at s x) leaf then ss)
    (parts-joined st s (x + 2) m ∙ ap (λ (i : ℕ). joined (sorts_of st (numbers_at s (x + 2) m)) (get_or st (u16_at s i) leaf)) e)

module _ (b p : List ℕ) (n : ℕ) (s : List ℕ) (x c : ℕ) where
  -- The sizes of c + 1 sorts, and what a walk asks of their numbers.
  pub sizes-more : sizes (sorts_at b p n s x (suc c)) ≡ sizes (sorts_at b p n s x c) + size (sort_at b p n (u16_at s (x + 2 * c)))
  unfolding sort_at
  sizes-more = ap sizes (parts-joined (store_of b p n) s x c) ∙ sizes-joined (sorts_at b p n s x c) (sort_at b p n (u16_at s (x + 2 * c)))

  pub refs-less : Refs s x (suc c) n → Refs s x c n
  refs-less r = record { within = omega (arith, r.within); below = λ j h. r.below j (omega arith) }

module _ (b p : List ℕ) (n : ℕ) (s : List ℕ) (x m : ℕ) (some : 0 < m) where
  whole : m ≡ suc (m - 1)
  whole = omega arith

  sorts-last : sorts_at b p n s x m ≡ joined (sorts_at b p n s x (m - 1)) (sort_at b p n (u16_at s (x + 2 * (m - 1))))
  unfolding sort_at
  sorts-last = ap (sorts_at b p n s x) whole ∙ parts-joined (store_of b p n) s x (m - 1)

  pub sizes-last : sizes (sorts_at b p n s x m) ≡ sizes (sorts_at b p n s x (m - 1)) + size (sort_at b p n (u16_at s (x + 2 * (m - 1))))
  sizes-last = ap (λ (k : ℕ). sizes (sorts_at b p n s x k)) whole ∙ sizes-more b p n s x (m - 1)

  refs-last : Refs s x m n → u16_at s (x + 2 * (m - 1)) < n
  refs-last r = r.below (m - 1) (omega arith)

  refs-others : Refs s x m n → Refs s x (m - 1) n
  refs-others r = refs-less b p n s x (m - 1) (subst (λ (k : ℕ). Refs s x k n) whole r)

module _ (b p : List ℕ) (n : ℕ) (s : List ℕ) (x : ℕ) (t : List ℕ) (y m : ℕ) (some : 0 < m) where
  pub pair-last : PairsAsk b p n s x t y m → PairAsks b p n (u16_at s (x + 2 * (m - 1))) (u16_at t (y + 2 * (m - 1)))
  pair-last a = record { usable = a.usable; left = refs-last b p n s x m some a.left; right = refs-last b p n t y m some a.right }

  pub pairs-others : PairsAsk b p n s x t y m → PairsAsk b p n s x t y (m - 1)
  pairs-others a = record { usable = a.usable; left = refs-others b p n s x m some a.left; right = refs-others b p n t y m some a.right }

  even : count (sorts_at b p n s x (m - 1)) ≡ count (sorts_at b p n t y (m - 1))
  even = count_at b p n s x (m - 1) ∙ sym (count_at b p n t y (m - 1))

  -- ALL ARE COMPATIBLE if all but the last are, and the last.
  pub compatible-last : compatible_all (sorts_at b p n s x m) (sorts_at b p n t y m)
      ≡ (compatible_all (sorts_at b p n s x (m - 1)) (sorts_at b p n t y (m - 1)) && compatible (sort_at b p n (u16_at s (x + 2 * (m - 1)))) (sort_at b p n (u16_at t (y + 2 * (m - 1)))))
  compatible-last =
      rw (sorts-last b p n s x m some, sorts-last b p n t y m some)
      (compatible-joined (sorts_at b p n s x (m - 1)) (sorts_at b p n t y (m - 1)) (sort_at b p n (u16_at s (x + 2 * (m - 1)))) (sort_at b p n (u16_at t (y + 2 * (m - 1)))) even)

  -- ALL ARE MATCHED by matching all but the last, then the last.
  pub matches-last : (f : ℕ → Bool) (θ : Map) → matches_all f (sorts_at b p n s x m) (sorts_at b p n t y m) θ
      ≡ and_then (matches_all f (sorts_at b p n s x (m - 1)) (sorts_at b p n t y (m - 1)) θ) (λ k. matches f (sort_at b p n (u16_at s (x + 2 * (m - 1)))) (sort_at b p n (u16_at t (y + 2 * (m - 1)))) k)
  matches-last f θ =
      rw (sorts-last b p n s x m some, sorts-last b p n t y m some)
      (matches-joined f (sorts_at b p n s x (m - 1)) (sorts_at b p n t y (m - 1)) (sort_at b p n (u16_at s (x + 2 * (m - 1)))) (sort_at b p n (u16_at t (y + 2 * (m - 1)))) even θ)
