-- The tables of what a walk has found: empty at first, and one more noted.
use Rattle.std.specs.Prelude.{ℕ, zero, suc, ◌+◌, ◌%◌, ◌<◌, ◌≡◌, refl, List, length, get_or, set, replicate}
use Rattle.std.proofs.Common.{sym, ap, subst, ◌∙◌, arith, length-set, get_or-set_same, get_or-set_other}
use Rattle.std.proofs.lemmas.List.{length-replicate}
use Rattle.std.proofs.Math.Decide.{ℕ_discrete}
use Rattle.matching_tables.specs.Notes.{NoteTable, NoteIs, pair_of, PairIs, Pairs}

pub zeros-are : (n i : ℕ) → ◌≡◌ {A = ℕ} (get_or (replicate n 0) i 0) 0
zeros-are zero i = refl
zeros-are (suc n) zero = refl
zeros-are (suc n) (suc i) = zeros-are n i

-- Nothing is noted in a table of zeros.
pub table_none : (P : ℕ → Type 0) → NoteTable P (replicate 64 0)
table_none P = record { long = length-replicate {A = ℕ} 64 0; each = λ i k e. absurd (omega (arith, zeros-are 64 i)) }

-- What holds of each sort noted, if what held does.
pub table-as : {P Q : ℕ → Type 0} {l : List ℕ} → ((k : ℕ) → P k → Q k) → NoteTable P l → NoteTable Q l
table-as h t = record { long = t.long; each = λ i k e. h k (t.each i k e) }

-- A sort that has P is noted.
pub table-put : (P : ℕ → Type 0) (l : List ℕ) (k : ℕ) (l' : List ℕ) → NoteTable P l → P k → NoteIs l k l' → NoteTable P l'
table-put P l k l' t h q =
    record {
      long = ap length q ∙ length-set l (k % 64) (k + 1) ∙ t.long;
      each = λ i j e. go i j (ap (λ (z : List ℕ). get_or z i 0) (sym q) ∙ e) (ℕ_discrete i (k % 64));
    }
  where
    go : (i j : ℕ) → get_or (set l (k % 64) (k + 1)) i 0 ≡ j + 1 → Dec (i ≡ k % 64) → P j
    go i j e (yes z) =
        let w : get_or (set l (k % 64) (k + 1)) (k % 64) 0 ≡ k + 1 = get_or-set_same l (k % 64) (k + 1) 0 (omega (arith, t.long)) in
        let v : k ≡ j = omega (arith, ap (λ (u : ℕ). get_or (set l (k % 64) (k + 1)) u 0) z, w, e) in
        subst P v h
    go i j e (no d) = t.each i j (sym (get_or-set_other l (k % 64) i (k + 1) 0 d) ∙ e)

---------------------------------------------------------------- pairs
pub pairs-none : (G : ℕ → ℕ → Type 0) → Pairs G (replicate 32 0)
pairs-none G = record { long = length-replicate {A = ℕ} 32 0; each = λ i k j below e. absurd (omega (arith, zeros-are 32 i)) }

-- What holds of each pair noted, if what held does.
pub pairs-more : (G H : ℕ → ℕ → Type 0) (l : List ℕ) → ((k j : ℕ) → G k j → H k j) → Pairs G l → Pairs H l
pairs-more G H l h t = record { long = t.long; each = λ i k j below e. h k j (t.each i k j below e) }

-- A pair that has G is noted.
pub pairs-put : (G : ℕ → ℕ → Type 0) (l : List ℕ) (k j : ℕ) (l' : List ℕ) → j < 65536 → Pairs G l → G k j → PairIs l k j l' → Pairs G l'
pairs-put G l k j l' small t h q =
    record {
      long = ap length q ∙ length-set l (k % 32) (pair_of k j) ∙ t.long;
      each = λ i x y below e. go i x y below (ap (λ (z : List ℕ). get_or z i 0) (sym q) ∙ e) (ℕ_discrete i (k % 32));
    }
  where
    go : (i x y : ℕ) → y < 65536 → get_or (set l (k % 32) (pair_of k j)) i 0 ≡ pair_of x y → Dec (i ≡ k % 32) → G x y
    go i x y below e (yes z) =
        let w : get_or (set l (k % 32) (pair_of k j)) (k % 32) 0 ≡ pair_of k j = get_or-set_same l (k % 32) (pair_of k j) 0 (omega (arith, t.long)) in
        let v = ap (λ (u : ℕ). get_or (set l (k % 32) (pair_of k j)) u 0) z in
        let dx : k ≡ x = omega (arith, v, w, e) in
        let dy : j ≡ y = omega (arith, v, w, e) in
        rw (← dx, ← dy) h
    go i x y below e (no d) = t.each i x y below (sym (get_or-set_other l (k % 32) i (pair_of k j) 0 d) ∙ e)
