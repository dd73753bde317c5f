-- is_compatible over a store: what one turn does is a case of the definition, with a Par opened on either side (`compatible-par`,
-- `compatible-to-par`); and the two loops, along two lists and down two sorts.
use Prim.Native.Nat.{ℕ, suc, ◌+◌, ◌*◌, ◌-◌, ◌≤◌, ◌<◌}
use mathlib.Core.Path.{◌≡◌, refl, sym, ap, ◌∙◌}
use mathlib.Core.Bool.{Bool, true, false, ◌&&◌, ◌||◌}
use mathlib.Core.List.{List, [], ◌∷◌}
use native.Mathlib.Omega.{arith}
use lib.ListN.{length}
use lib.Dec.{eqb}
use borrow.Author.Tests.{eq-eqb}
use Rattle.std.proofs.lemmas.List.{nil_from_length}
use Rattle.record.specs.Kinds.{sort_number}
use Rattle.record.specs.Cases.{false-second, positive}
use Rattle.record.specs.Number.{u16_at, numbers_at}
use Rattle.record.specs.Sort.{Sort, Sorts, end, ◌then◌, count, size, sizes}
use Rattle.record.specs.Record.{sorts_of}
use Rattle.record.specs.Decode.{store_of, sort_at}
use Rattle.record.specs.declared.SortRecord.{SortRecord}
use Rattle.store.specs.Entry.{EntryHas}
use Rattle.substitution.specs.MatchWith.{param_eq}
use Rattle.substitution.specs.Compatible.{compatible, compatible_all}
use Rattle.substitution.proofs.CompatibleLaws.{compatible-var, compatible-to-var, compatible-par, compatible-to-par}
use Rattle.matching_tables.specs.Usable.{sorts_at, same_head, PairAsks, ListsAsk}
use Rattle.matching_tables.specs.Notes.{PairIs, Pairs}
use Rattle.matching_with.specs.Met.{CompatibleAt}
use Rattle.matching_tables.specs.NoteLaws.{pairs-put}
use Rattle.matching_with.specs.Compared.{FitOn, FitParts, CompatibleIs}
use Rattle.matching_with.specs.declared.compatible.Compared.TheVariants.{Parts}
use Rattle.matching_tables.specs.Entered.{sorts-end, entry-var, entry-par, entry-node, entry-body, head-same}
use Rattle.matching_tables.specs.WalkLaws.{left_body, right-body, both-parts, both-fall, head-differs, lists-ask, below-first, below-rest}
use Rattle.matching_tables.specs.LastLaws.{sizes-last, pair-last, pairs-others, compatible-last}

-- The first number of a list.
pub at-start : (b : List ℕ) (x : ℕ) {i : ℕ} → i ≡ u16_at b (x + 2 * 0) → i ≡ u16_at b x
at-start b x e = let q : x + 2 * 0 ≡ x = omega arith in e ∙ ap (u16_at b) q

-- Lists of different lengths never fit.
uneven : (ss ts : Sorts) → (count ss ≡ count ts → ⊥) → compatible_all ss ts ≡ false
unfolding compatible count
uneven end end d = absurd (d refl)
uneven end (t then ts) d = refl
uneven (s then ss) end d = refl
uneven (s then ss) (t then ts) d = false-second (compatible s t) (compatible_all ss ts) (uneven ss ts (λ e. d (ap suc e)))

---------------------------------------------------------------- along two lists
-- THE LOOP over two lists, from ks₀ and js₀ to ks and js: what is left gives the whole answer, and the table is right.
pub record FitsInv (b p : List ℕ) (n : ℕ) (ks₀ js₀ l ks js : List ℕ) : Type 0 where
  pub asks : ListsAsk b p n ks js
  pub noted : Pairs (CompatibleAt b p n) l
  pub less : sizes (sorts_of (store_of b p n) ks) + sizes (sorts_of (store_of b p n) js) ≤ sizes (sorts_of (store_of b p n) ks₀) + sizes (sorts_of (store_of b p n) js₀)
  pub whole : compatible_all (sorts_of (store_of b p n) ks) (sorts_of (store_of b p n) js) ≡ compatible_all (sorts_of (store_of b p n) ks₀) (sorts_of (store_of b p n) js₀)

fit_none : (b p : List ℕ) (n x y : ℕ) {c : ℕ} → c ≡ 0 → true ≡ compatible_all (sorts_at b p n b x c) (sorts_at b p n b y c)
unfolding compatible
fit_none b p n x y {c} e = rw (sorts-end b p n b x c e, sorts-end b p n b y c e) refl

module _ {b p : List ℕ} {n : ℕ} {ks₀ js₀ l ks js : List ℕ} (v : FitsInv b p n ks₀ js₀ l ks js) where
  both-end : ks ≡ [] → js ≡ [] → true ≡ compatible_all (sorts_of (store_of b p n) ks₀) (sorts_of (store_of b p n) js₀)
  unfolding compatible sorts_of
  both-end e d = sym (rw (e, d) refl) ∙ v.whole

  -- Where one list ends, so does the other.
  pub fits-end : ks ≡ [] → true ≡ compatible_all (sorts_of (store_of b p n) ks₀) (sorts_of (store_of b p n) js₀)
  fits-end e = both-end e (nil_from_length js (v.asks.even ∙ ap length e))

  pub fits-ended : js ≡ [] → true ≡ compatible_all (sorts_of (store_of b p n) ks₀) (sorts_of (store_of b p n) js₀)
  fits-ended e = both-end (nil_from_length ks (sym v.asks.even ∙ ap length e)) e

  module _ {k j : ℕ} {ks' js' : List ℕ} (ek : ks ≡ k ∷ ks') (ej : js ≡ j ∷ js') where
    lists : ListsAsk b p n (k ∷ ks') (j ∷ js')
    lists = rw (← ek, ← ej) v.asks

    pub fits-first : PairAsks b p n k j
    fits-first = record { usable = lists.usable; left = below-first k ks' n lists.left; right = below-first j js' n lists.right }

    left-size : sizes (sorts_of (store_of b p n) ks) ≡ size (sort_at b p n k) + sizes (sorts_of (store_of b p n) ks')
    unfolding sorts_of sort_at size
    left-size = ap (λ (w : List ℕ). sizes (sorts_of (store_of b p n) w)) ek

    right-size : sizes (sorts_of (store_of b p n) js) ≡ size (sort_at b p n j) + sizes (sorts_of (store_of b p n) js')
    unfolding sorts_of sort_at size
    right-size = ap (λ (w : List ℕ). sizes (sorts_of (store_of b p n) w)) ej

    -- The first two are smaller than both lists.
    pub fits-fall : size (sort_at b p n k) + size (sort_at b p n j) ≤ sizes (sorts_of (store_of b p n) ks₀) + sizes (sorts_of (store_of b p n) js₀)
    fits-fall = omega (arith, v.less, left-size, right-size)

    module _ {f : Bool} (h : f ≡ compatible (sort_at b p n k) (sort_at b p n j)) where
      first : compatible_all (sorts_of (store_of b p n) ks) (sorts_of (store_of b p n) js) ≡ (f && compatible_all (sorts_of (store_of b p n) ks') (sorts_of (store_of b p n) js'))
      unfolding compatible sorts_of sort_at
      first = rw (ek, ej, h) refl

      pub fits-fails : f ≡ false → false ≡ compatible_all (sorts_of (store_of b p n) ks₀) (sorts_of (store_of b p n) js₀)
      fits-fails q = sym (first ∙ rw q refl) ∙ v.whole

      pub fits_more : f ≡ true → {l' : List ℕ} (l'' : List ℕ) → Pairs (CompatibleAt b p n) l' → PairIs l' k j l'' → FitsInv b p n ks₀ js₀ l'' ks' js'
      fits_more q {l'} l'' t w =
          let low : j < 65536 = omega (arith, fits-first.right, v.asks.usable.count) in
          record {
            asks =
                record {
                  usable = lists.usable;
                  left = below-rest k ks' n lists.left;
                  right = below-rest j js' n lists.right;
                  even = omega (arith, lists.even);
                };
            noted = pairs-put (CompatibleAt b p n) l' k j l'' low t (sym h ∙ q) w;
            less = omega (arith, v.less, left-size, right-size);
            whole = sym (first ∙ rw q refl) ∙ v.whole;
          }

---------------------------------------------------------------- two sorts by their entries
module _ {b p : List ℕ} {n k j : ℕ} (a : PairAsks b p n k j) {r : SortRecord} (e : EntryHas b p k r) where
  pub fit-var : sort_number r.kind ≡ 2 → true ≡ compatible (sort_at b p n k) (sort_at b p n j)
  fit-var h = rw (entry-var b p n k a.usable a.left r e h) (sym (compatible-var r.name (sort_at b p n j)))

  pub fit-par : sort_number r.kind ≡ 12 → {i : ℕ} → i ≡ u16_at b r.parts.at → FitOn b p n k j i j
  fit-par h {i} ei =
      let body = entry-body b p n k a.usable a.left r e h in
      rw ei
      (record {
        asks = left_body a r e h;
        falls = omega (arith, body.1);
        whole =
            sym (compatible-par (numbers_at b r.names.at r.names.count) (sort_at b p n (u16_at b r.parts.at)) (sort_at b p n j))
            ∙ sym (ap (λ (z : Sort). compatible z (sort_at b p n j)) (entry-par b p n k a.usable a.left r e h));
      })

  module _ {q : SortRecord} (f : EntryHas b p j q) where
    pub fit-to-var : sort_number q.kind ≡ 2 → true ≡ compatible (sort_at b p n k) (sort_at b p n j)
    fit-to-var h = rw (entry-var b p n j a.usable a.right q f h) (sym (compatible-to-var (sort_at b p n k) q.name))

    pub fit-to-par : sort_number q.kind ≡ 12 → {i : ℕ} → i ≡ u16_at b q.parts.at → FitOn b p n k j k i
    fit-to-par h {i} ei =
        let body = entry-body b p n j a.usable a.right q f h in
        rw ei
        (record {
          asks = right-body a q f h;
          falls = omega (arith, body.1);
          whole =
              sym (compatible-to-par (sort_at b p n k) (numbers_at b q.names.at q.names.count) (sort_at b p n (u16_at b q.parts.at)))
              ∙ sym (ap (compatible (sort_at b p n k)) (entry-par b p n j a.usable a.right q f h));
        })

-- Two nodes by their entries.
pub record BothNodes (b p : List ℕ) (n k j : ℕ) (r q : SortRecord) : Type 0 where
  pub pair : PairAsks b p n k j
  pub left : EntryHas b p k r
  pub right : EntryHas b p j q
  pub left_var : sort_number r.kind ≡ 2 → ⊥
  pub left_par : sort_number r.kind ≡ 12 → ⊥
  pub right_var : sort_number q.kind ≡ 2 → ⊥
  pub right_par : sort_number q.kind ≡ 12 → ⊥

-- By param_eq, or field by field.
module _ {b p : List ℕ} {n k j : ℕ} {r q : SortRecord} (v : BothNodes b p n k j r q) {c : Bool} (g : c ≡ param_eq (sort_at b p n k) (sort_at b p n j)) where
  nodes : (c || eqb (sort_number r.kind) (sort_number q.kind) && eqb r.name q.name && eqb r.number q.number && compatible_all (sorts_at b p n b r.parts.at r.parts.count) (sorts_at b p n b q.parts.at q.parts.count))
      ≡ compatible (sort_at b p n k) (sort_at b p n j)
  unfolding compatible
  nodes =
      rw (g, entry-node b p n k v.pair.usable v.pair.left r v.left v.left_var v.left_par, entry-node b p n j v.pair.usable v.pair.right q v.right v.right_var v.right_par) refl

  pub fit-param : c ≡ true → true ≡ compatible (sort_at b p n k) (sort_at b p n j)
  fit-param h = sym (rw h refl) ∙ nodes

  inside : c ≡ false → same_head r q ≡ true → compatible_all (sorts_at b p n b r.parts.at r.parts.count) (sorts_at b p n b q.parts.at r.parts.count)
      ≡ compatible (sort_at b p n k) (sort_at b p n j)
  inside h s =
      let i = head-same r q s in
      sym (rw (h, eq-eqb (sort_number r.kind) (sort_number q.kind) i.0, eq-eqb r.name q.name i.1, eq-eqb r.number q.number i.2, i.3) refl) ∙ nodes

  pub fit-bare : c ≡ false → same_head r q ≡ true → r.parts.count ≡ 0 → true ≡ compatible (sort_at b p n k) (sort_at b p n j)
  fit-bare h s z = fit_none b p n r.parts.at q.parts.at z ∙ inside h s

  pub fit-node : c ≡ false → same_head r q ≡ true → (r.parts.count ≡ 0 → ⊥) → FitParts b p n k j r.parts.at q.parts.at r.parts.count
  fit-node h s z =
      record {
        some = positive r.parts.count z;
        asks = both-parts v.pair r q v.left v.right s;
        falls = omega (arith, both-fall v.pair r q v.left v.right s);
        whole = inside h s;
      }

  pub fit-both : c ≡ false → same_head r q ≡ true → (r.parts.count ≡ 0 → ⊥) → CompatibleIs b p n k j (Parts r.parts q.parts)
  fit-both h s z = (fit-node h s z, sym (head-same r q s).3)

  pub fit-other : c ≡ false → same_head r q ≡ false → false ≡ compatible (sort_at b p n k) (sort_at b p n j)
  fit-other h s =
      head-differs b p n r q s
      (λ w. sym (rw (h, w) refl) ∙ nodes)
      (λ d. sym (rw (h, uneven (sorts_at b p n b r.parts.at r.parts.count) (sorts_at b p n b q.parts.at q.parts.count) d)
      (false-second (eqb (sort_number r.kind) (sort_number q.kind) && eqb r.name q.name && eqb r.number q.number) false refl)) ∙ nodes)

---------------------------------------------------------------- the walk
-- THE LOOP over two sorts, from k₀ and j₀ to k and j: their answer is the whole answer, and the table is right.
pub record FitInv (b p : List ℕ) (n k₀ j₀ : ℕ) (l : List ℕ) (k j : ℕ) : Type 0 where
  pub asks : PairAsks b p n k j
  pub noted : Pairs (CompatibleAt b p n) l
  pub less : size (sort_at b p n k) + size (sort_at b p n j) ≤ size (sort_at b p n k₀) + size (sort_at b p n j₀)
  pub whole : compatible (sort_at b p n k) (sort_at b p n j) ≡ compatible (sort_at b p n k₀) (sort_at b p n j₀)

module _ {b p : List ℕ} {n k₀ j₀ : ℕ} {l : List ℕ} {k j : ℕ} (v : FitInv b p n k₀ j₀ l k j) where
  module _ {x y c : ℕ} (o : FitParts b p n k j x y c) where
    split : compatible (sort_at b p n k) (sort_at b p n j)
        ≡ (compatible_all (sorts_at b p n b x (c - 1)) (sorts_at b p n b y (c - 1)) && compatible (sort_at b p n (u16_at b (x + 2 * (c - 1)))) (sort_at b p n (u16_at b (y + 2 * (c - 1)))))
    split = sym o.whole ∙ compatible-last b p n b x b y c o.some

    sum : sizes (sorts_at b p n b x (c - 1)) + size (sort_at b p n (u16_at b (x + 2 * (c - 1))))
        + (sizes (sorts_at b p n b y (c - 1)) + size (sort_at b p n (u16_at b (y + 2 * (c - 1))))) < size (sort_at b p n k) + size (sort_at b p n j)
    sum = omega (arith, o.falls, sizes-last b p n b x c o.some, sizes-last b p n b y c o.some)

    -- They are smaller than the two sorts.
    fall : sizes (sorts_at b p n b x (c - 1)) + sizes (sorts_at b p n b y (c - 1)) < size (sort_at b p n k₀) + size (sort_at b p n j₀)
    fall = omega (arith, sum, v.less)

    -- All but the last, by their numbers.
    module _ {ks js : List ℕ} (ek : ks ≡ numbers_at b x (c - 1)) (ej : js ≡ numbers_at b y (c - 1)) where
      pub fit-lists : ListsAsk b p n ks js
      fit-lists = rw (ek, ej) (lists-ask (pairs-others b p n b x b y c o.some o.asks))

      pub fit-fall : sizes (sorts_of (store_of b p n) ks) + sizes (sorts_of (store_of b p n) js) < size (sort_at b p n k₀) + size (sort_at b p n j₀)
      fit-fall = rw (ek, ej) fall

      pub fit-found : {f : Bool} → f ≡ compatible_all (sorts_of (store_of b p n) ks) (sorts_of (store_of b p n) js) → f ≡ compatible_all (sorts_at b p n b x (c - 1)) (sorts_at b p n b y (c - 1))
      fit-found h = rw (← ek, ← ej) h

    module _ {f : Bool} (h : f ≡ compatible_all (sorts_at b p n b x (c - 1)) (sorts_at b p n b y (c - 1))) where
      pub fit-fails : f ≡ false → false ≡ compatible (sort_at b p n k₀) (sort_at b p n j₀)
      fit-fails q = sym (split ∙ rw (← h, q) refl) ∙ v.whole

      module _ (q : f ≡ true) {l' : List ℕ} (t : Pairs (CompatibleAt b p n) l') {i g : ℕ} (ei : i ≡ u16_at b (x + 2 * (c - 1))) (eg : g ≡ u16_at b (y + 2 * (c - 1))) where
        pub fit-less : size (sort_at b p n i) + size (sort_at b p n g) < size (sort_at b p n k) + size (sort_at b p n j)
        fit-less = rw (ei, eg) (omega (arith, sum))

        pub fit-last : FitInv b p n k₀ j₀ l' i g
        fit-last =
            rw (ei, eg)
            (record {
              asks = pair-last b p n b x b y c o.some o.asks;
              noted = t;
              less = omega (arith, sum, v.less);
              whole = sym (split ∙ rw (← h, q) refl) ∙ v.whole;
            })
