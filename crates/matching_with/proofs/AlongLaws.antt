-- match_with along two lists, in a loop: what is found for the pairs behind, and the pairs left, make the whole.
use Prim.Native.Nat.{ℕ, ◌+◌, ◌≤◌, ◌<◌}
use mathlib.Core.Path.{◌≡◌, sym, ap, subst, ◌∙◌}
use mathlib.Core.List.{List, [], ◌∷◌}
use native.Mathlib.Omega.{arith}
use lib.ListN.{length}
use Rattle.std.proofs.lemmas.List.{nil_from_length}
use Rattle.record.specs.Sort.{size, sizes}
use Rattle.record.specs.Record.{sorts_of}
use Rattle.record.specs.Decode.{store_of, sort_at}
use Rattle.matching_tables.specs.Matched.{Matched, Fits, Misfits}
use Rattle.matching_tables.specs.Tables.{Lists}
use Rattle.matching_with.specs.Contract.{WithAsks, WithListsAsk, WithIs, PairWith, ListsWith}
use Rattle.matching_tables.specs.Notes.{PairIs}
use Rattle.matching_with.specs.Met.{WithBefore, WithAfter}
use Rattle.matching_with.proofs.WithLaws.{with-put, with-next}
use Rattle.matching_with.proofs.GeneralLaws.{left-size, right-size, general-none, general-first, general-rest, general-more, general-misfit}

-- The pairs left, of ks₁ and js₁, of those of ks and js.
pub record Along (b p : List ℕ) (n : ℕ) (prm imgs bnd : List ℕ) (m : ℕ) (ks js prm₁ imgs₁ bnd₁ l₁ : List ℕ) (m₁ : ℕ) (ks₁ js₁ : List ℕ) : Type 0 where
  pub params : prm₁ ≡ prm
  pub asks : WithListsAsk b p n prm₁ imgs₁ bnd₁ m₁ ks₁ js₁
  pub noted : WithBefore b p n prm₁ imgs₁ bnd₁ m₁ l₁
  pub less : sizes (sorts_of (store_of b p n) ks₁) + sizes (sorts_of (store_of b p n) js₁) ≤ sizes (sorts_of (store_of b p n) ks) + sizes (sorts_of (store_of b p n) js)
  pub whole : (ns : List ℕ) → Lists prm ns → ListsWith b p n imgs₁ bnd₁ m₁ ks₁ js₁ ns ≡ ListsWith b p n imgs bnd m ks js ns

module _ {b p : List ℕ} {n : ℕ} {prm imgs bnd : List ℕ} {m : ℕ} {ks js prm₁ imgs₁ bnd₁ l₁ : List ℕ} {m₁ : ℕ} {ks₁ js₁ : List ℕ} (a : Along b p n prm imgs bnd m ks js prm₁ imgs₁ bnd₁ l₁ m₁ ks₁ js₁) where
  -- What is found for the pairs left is found for all.
  along-found : {prm₂ imgs₂ bnd₂ : List ℕ} {q : Matched} → WithIs b p n prm₁ prm₂ imgs₂ bnd₂ q (ListsWith b p n imgs₁ bnd₁ m₁ ks₁ js₁)
      → WithIs b p n prm prm₂ imgs₂ bnd₂ q (ListsWith b p n imgs bnd m ks js)
  along-found {prm₂} {imgs₂} {bnd₂} {q} f =
      record {
        params = f.params ∙ a.params;
        mapped = f.mapped;
        result = λ ns h. f.result ns (subst (λ (l : List ℕ). Lists l ns) (sym a.params) h) ∙ a.whole ns h;
      }

  both-end : ks₁ ≡ [] → js₁ ≡ [] → WithIs b p n prm prm₁ imgs₁ bnd₁ (Fits m₁) (ListsWith b p n imgs bnd m ks js)
  both-end e d = along-found (general-none a.asks e d)

  -- Where one list ends, so does the other.
  pub along-end : ks₁ ≡ [] → WithIs b p n prm prm₁ imgs₁ bnd₁ (Fits m₁) (ListsWith b p n imgs bnd m ks js)
  along-end e = both-end e (nil_from_length js₁ (a.asks.lists.even ∙ ap length e))

  pub along-ended : js₁ ≡ [] → WithIs b p n prm prm₁ imgs₁ bnd₁ (Fits m₁) (ListsWith b p n imgs bnd m ks js)
  along-ended e = both-end (nil_from_length ks₁ (sym a.asks.lists.even ∙ ap length e)) e

  module _ {k j : ℕ} {ks' js' : List ℕ} (ek : ks₁ ≡ k ∷ ks') (ej : js₁ ≡ j ∷ js') where
    pub along-first : WithAsks b p n prm₁ imgs₁ bnd₁ m₁ k j
    along-first = general-first a.asks ek ej

    pub along-falls : size (sort_at b p n k) + size (sort_at b p n j) ≤ sizes (sorts_of (store_of b p n) ks) + sizes (sorts_of (store_of b p n) js)
    along-falls = omega (arith, a.less, left-size a.asks ek ej, right-size a.asks ek ej)

    module _ {prm₂ imgs₂ bnd₂ : List ℕ} (l₂ : List ℕ) {q : Matched} (g : WithIs b p n prm₁ prm₂ imgs₂ bnd₂ q (PairWith b p n imgs₁ bnd₁ m₁ k j)) where
      pub along-misfit : (i : ℕ) → q ≡ Misfits i → WithIs b p n prm prm₂ imgs₂ bnd₂ (Misfits i) (ListsWith b p n imgs bnd m ks js)
      along-misfit i e = along-found (general-misfit a.asks ek ej g i e)

      module _ (w : WithAfter b p n prm₁ imgs₂ bnd₂ l₂ q) (i : ℕ) (e : q ≡ Fits i) where
        pub along-more : (l₃ : List ℕ) → PairIs l₂ k j l₃ → Along b p n prm imgs bnd m ks js prm₂ imgs₂ bnd₂ l₃ i ks' js'
        along-more l₃ o =
            let low : j < 65536 = omega (arith, along-first.pair.right, along-first.pair.usable.count) in
            record {
              params = g.params ∙ a.params;
              asks = general-rest a.asks ek ej g i e;
              noted =
                  with-next b p n prm₁ imgs₂ bnd₂ l₃ i g.params e
                  (with-put b p n prm₁ imgs₁ bnd₁ m₁ k j prm₂ imgs₂ bnd₂ l₂ l₃ q low w g o);
              less = omega (arith, a.less, left-size a.asks ek ej, right-size a.asks ek ej);
              whole = λ ns h.
                  general-more a.asks ek ej g i e
                  (subst (λ (l : List ℕ). Lists l ns) (sym a.params) h)
                  ∙ a.whole ns h;
            }
