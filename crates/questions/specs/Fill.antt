-- The table of images filled by name from a question's names and sorts, and emptied again: the lists at exit, that the
-- filled table stands for the definition's map, and that emptying it gives the zeros back.
use Rattle.std.specs.Prelude.{ℕ, zero, suc, ◌+◌, ◌*◌, ◌-◌, ◌≤◌, ◌<◌, ◌≡◌, refl, Bool, true, false, ◌||◌, List, [], ◌∷◌, length, get_or, set, eqb}
use Rattle.std.proofs.Common.{sym, ap, ap₂, subst, ◌∙◌, arith, length-set, ext_get_or, get_or-set_same, get_or-set_other, eqb-true}
use Rattle.std.proofs.Math.Decide.{dec_lt}
use Rattle.std.proofs.Math.ListN.{get_or-eq_default}
use Rattle.std.proofs.lemmas.Bool.{eqb-false}
use Rattle.record.specs.Number.{u16_at, numbers_at}
use Rattle.record.specs.Names.{member}
use Rattle.record.specs.Cases.{by_test, or_right}
use Rattle.record.specs.Sort.{Sort}
use Rattle.record.specs.Record.{sorts_of}
use Rattle.record.specs.Decode.{Zeros}
use Rattle.record.specs.Codec.{numbers_more}
use Rattle.sheet.specs.Trees.{mapped}
use Rattle.substitution.specs.Substitution.{find}
use Rattle.matching_tables.specs.TableLaws.{numbers-none}
use Rattle.apply_walk.specs.Images.{image_at, Images}
use Rattle.judge_rules.specs.Questions.{images_given}

-- The table l with each name bound to the sort with its number, and with these names unbound; the last name first.
unfoldable pub filled : List ℕ → List ℕ → List ℕ → List ℕ
filled l [] ks = l
filled l (v ∷ vs) [] = l
filled l (v ∷ vs) (k ∷ ks) = set (filled l vs ks) v (k + 1)

unfoldable pub emptied : List ℕ → List ℕ → List ℕ
emptied l [] = l
emptied l (v ∷ vs) = set (emptied l vs) v 0

---------------------------------------------------------------- contracts
-- A sort number of the sheet at x, in the table of sorts.
pub record SortAtAsks (s : List ℕ) (x : ℕ) (tbl : List ℕ) : Type 0 where
  pub within : x + 2 ≤ length s
  pub inside : u16_at s x < length tbl

-- n names from x on and n sorts of the store from y on.
pub record FillAsks (l s tbl : List ℕ) (x y n : ℕ) : Type 0 where
  pub table : length l ≡ 65536
  pub names : x + 2 * n ≤ length s
  pub sorts : y + 2 * n ≤ length s
  pub inside : (j : ℕ) → j < n → u16_at s (y + 2 * j) < length tbl
  pub small : (j : ℕ) → j < n → get_or tbl (u16_at s (y + 2 * j)) 0 < 4096

pub record FilledIs (l s tbl : List ℕ) (x y n : ℕ) (l' : List ℕ) : Type 0 where
  pub whole : l' ≡ filled l (numbers_at s x n) (mapped tbl (numbers_at s y n))
  pub below : (j : ℕ) → j < n → get_or (numbers_at s x n) j 0 < 65536

pub record EmptyAsks (l s : List ℕ) (x n : ℕ) : Type 0 where
  pub table : length l ≡ 65536
  pub names : x + 2 * n ≤ length s

---------------------------------------------------------------- the loops
-- What is left to bind is left names and sorts; the others are bound.
pub record Filling (l s tbl : List ℕ) (x y n : ℕ) (l' : List ℕ) (left : ℕ) : Type 0 where
  pub low : left ≤ n
  pub long : length l' ≡ length l
  pub whole : l' ≡ filled l (numbers_at s (x + 2 * left) (n - left)) (mapped tbl (numbers_at s (y + 2 * left) (n - left)))
  pub below : (j : ℕ) → j < n - left → get_or (numbers_at s (x + 2 * left) (n - left)) j 0 < 65536

pub filling-start : (l s tbl : List ℕ) (x y n : ℕ) → Filling l s tbl x y n l n
unfolding filled
filling-start l s tbl x y n =
    let z : n - n ≡ 0 = omega arith in
    let e : numbers_at s (x + 2 * n) (n - n) ≡ [] = numbers-none s (x + 2 * n) (n - n) z in
    record {
      low = omega arith;
      long = refl;
      whole = sym (ap (λ (vs : List ℕ). filled l vs (mapped tbl (numbers_at s (y + 2 * n) (n - n)))) e);
      below = λ j h. absurd (omega arith);
    }

-- The numbers from the left-th on, one more.
numbers-step : (s : List ℕ) (x n left : ℕ) → 0 < left → left ≤ n
    → numbers_at s (x + 2 * (left - 1)) (n - (left - 1)) ≡ u16_at s (x + 2 * (left - 1)) ∷ numbers_at s (x + 2 * left) (n - left)
numbers-step s x n left h o =
    let e : x + 2 * (left - 1) + 2 ≡ x + 2 * left = omega arith in
    let f : n - (left - 1) - 1 ≡ n - left = omega arith in
    numbers_more s (x + 2 * (left - 1)) (n - (left - 1)) (omega arith)
    ∙ ap₂ (λ (y m : ℕ). u16_at s (x + 2 * (left - 1)) ∷ numbers_at s y m) e f

below_more : (v : ℕ) (vs : List ℕ) (m : ℕ) → v < 65536 → ((j : ℕ) → j < m → get_or vs j 0 < 65536) → (j : ℕ) → j < suc m → get_or (v ∷ vs) j 0 < 65536
below_more v vs m h b zero o = h
below_more v vs m h b (suc j) o = b j (omega arith)

pub filling_step : (l s tbl : List ℕ) (x y n : ℕ) (l' : List ℕ) (left v k : ℕ) → Filling l s tbl x y n l' left → 0 < left
    → v ≡ u16_at s (x + 2 * (left - 1)) → v < 65536 → k ≡ get_or tbl (u16_at s (y + 2 * (left - 1))) 0
    → Filling l s tbl x y n (set l' v (k + 1)) (left - 1)
unfolding filled mapped
filling_step l s tbl x y n l' left v k f h ev hv ek =
    let en = numbers-step s x n left h f.low in
    let em = numbers-step s y n left h f.low in
    let xs = numbers_at s (x + 2 * left) (n - left) in
    let ys = numbers_at s (y + 2 * left) (n - left) in
    record {
      low = omega (arith, f.low);
      long = length-set l' v (k + 1) ∙ f.long;
      whole =
          ap₂ (λ (i j : ℕ). set l' i (j + 1)) ev ek
          ∙ ap (λ (r : List ℕ). set r (u16_at s (x + 2 * (left - 1))) (get_or tbl (u16_at s (y + 2 * (left - 1))) 0 + 1)) f.whole
          ∙ sym (ap₂ (λ (vs ks : List ℕ). filled l vs (mapped tbl ks)) en em);
      below =
          subst (λ (vs : List ℕ). (j : ℕ) → j < n - (left - 1) → get_or vs j 0 < 65536) (sym en)
          (λ j o. below_more (u16_at s (x + 2 * (left - 1))) xs (n - left) (omega (arith, ev, hv)) f.below j (omega (arith, f.low)));
    }

at_none : (x : ℕ) (i : ℕ) → i ≡ 0 → x + 2 * i ≡ x
at_none x i e = omega arith

all_left : (n i : ℕ) → i ≡ 0 → n - i ≡ n
all_left n i e = omega arith

pub filling-end : (l s tbl : List ℕ) (x y n : ℕ) (l' : List ℕ) (left : ℕ) → Filling l s tbl x y n l' left → left ≡ 0 → FilledIs l s tbl x y n l'
filling-end l s tbl x y n l' left f h =
    let en = ap₂ (numbers_at s) (at_none x left h) (all_left n left h) in
    let em = ap₂ (numbers_at s) (at_none y left h) (all_left n left h) in
    record {
      whole = f.whole ∙ ap₂ (λ (vs ks : List ℕ). filled l vs (mapped tbl ks)) en em;
      below = subst (λ (vs : List ℕ). (j : ℕ) → j < n → get_or vs j 0 < 65536) en (λ j o. f.below j (omega arith));
    }

-- Emptying: the order makes no difference.
set-zeros : (l : List ℕ) (v w : ℕ) → set (set l v 0) w 0 ≡ set (set l w 0) v 0
set-zeros [] v w = refl
set-zeros (x ∷ l) zero zero = refl
set-zeros (x ∷ l) zero (suc w) = refl
set-zeros (x ∷ l) (suc v) zero = refl
set-zeros (x ∷ l) (suc v) (suc w) = ap (λ (r : List ℕ). x ∷ r) (set-zeros l v w)

pub emptied-first : (l : List ℕ) (v : ℕ) (vs : List ℕ) → emptied (set l v 0) vs ≡ emptied l (v ∷ vs)
unfolding emptied
emptied-first l v [] = refl
emptied-first l v (w ∷ vs) = ap (λ (r : List ℕ). set r w 0) (emptied-first l v vs) ∙ set-zeros (emptied l vs) v w

pub emptied-none : (l : List ℕ) → emptied l [] ≡ l
unfolding emptied
emptied-none l = refl

---------------------------------------------------------------- what the filled table stands for
pub filled-length : (l vs ks : List ℕ) → length (filled l vs ks) ≡ length l
unfolding filled
filled-length l [] ks = refl
filled-length l (v ∷ vs) [] = refl
filled-length l (v ∷ vs) (k ∷ ks) = length-set (filled l vs ks) v (k + 1) ∙ filled-length l vs ks

-- A NAME IS BOUND as in the definition's map.
pub filled-find : (st : List Sort) (l vs ks : List ℕ) → Zeros l 0 → ((j : ℕ) → j < length vs → get_or vs j 0 < length l) → (v : ℕ)
    → find (images_given vs (sorts_of st ks)) v ≡ image_at st (get_or (filled l vs ks) v 0)
unfolding filled images_given sorts_of find
filled-find st l [] ks z h v = sym (ap (image_at st) (z v (omega arith)))
filled-find st l (w ∷ vs) [] z h v = sym (ap (image_at st) (z v (omega arith)))
filled-find st l (w ∷ vs) (k ∷ ks) z h v =
    by_test (eqb w v)
    (λ e.
    let q : w ≡ v = eqb-true w v e in
    let o : w < length (filled l vs ks) = omega (arith, h 0 (omega arith), filled-length l vs ks) in
    let i : k + 1 ≡ suc k = omega arith in
    rw e (sym (ap (λ (x : ℕ). image_at st (get_or (set (filled l vs ks) w (k + 1)) x 0)) (sym q) ∙ ap (image_at st) (get_or-set_same (filled l vs ks) w (k + 1) 0 o ∙ i))))
    (λ e.
    rw e
    (filled-find st l vs ks z (λ j o. h (suc j) (omega arith)) v
    ∙ sym (ap (image_at st) (get_or-set_other (filled l vs ks) w v (k + 1) 0 (λ q. eqb-false w v e (sym q))))))

-- What is there after one entry is written.
set_cases : (C : ℕ → Type 0) (l : List ℕ) (w a v : ℕ) → C a → C (get_or l v 0) → C (get_or (set l w a) v 0)
set_cases C l w a v ca cl =
    by_test (eqb w v)
    (λ e.
    let q : w ≡ v = eqb-true w v e in
    go q (dec_lt w (length l)))
    (λ e. subst C (sym (get_or-set_other l w v a 0 (λ q. eqb-false w v e (sym q)))) cl)
  where
    go : w ≡ v → Dec (w < length l) → C (get_or (set l w a) v 0)
    go q (yes t) = subst C (sym (ap (λ (x : ℕ). get_or (set l w a) x 0) (sym q) ∙ get_or-set_same l w a 0 t)) ca
    go q (no t) =
        subst C
        (get_or-eq_default l 0 {n = v} (omega arith) ∙ sym (get_or-eq_default (set l w a) 0 {n = v} (omega (arith, length-set l w a))))
        cl

pub filled-below : (m : ℕ) (l vs ks : List ℕ) → Zeros l 0 → ((j : ℕ) → j < length ks → get_or ks j 0 < m) → (v : ℕ) → get_or (filled l vs ks) v 0 ≤ m
unfolding filled
filled-below m l [] ks z h v = omega (arith, z v (omega arith))
filled-below m l (w ∷ vs) [] z h v = omega (arith, z v (omega arith))
filled-below m l (w ∷ vs) (k ∷ ks) z h v =
    set_cases (λ (x : ℕ). x ≤ m) (filled l vs ks) w (k + 1) v (omega (arith, h 0 (omega arith)))
    (filled-below m l vs ks z (λ j o. h (suc j) (omega arith)) v)

-- THE FILLED TABLE STANDS FOR THE DEFINITION'S MAP.
pub filled-images : (st : List Sort) (l vs ks : List ℕ) → Zeros l 0 → length l ≡ 65536 → ((j : ℕ) → j < length vs → get_or vs j 0 < 65536)
    → ((j : ℕ) → j < length ks → get_or ks j 0 < length st) → Images st (filled l vs ks) (images_given vs (sorts_of st ks))
filled-images st l vs ks z long names sorts =
    record {
      table = record { long = filled-length l vs ks ∙ long; below = filled-below (length st) l vs ks z sorts };
      look = filled-find st l vs ks z (λ j o. omega (arith, names j o));
    }

---------------------------------------------------------------- emptying it again
filled-other : (l vs ks : List ℕ) → Zeros l 0 → (v : ℕ) → member v vs ≡ false → get_or (filled l vs ks) v 0 ≡ 0
unfolding filled member
filled-other l [] ks z v e = z v (omega arith)
filled-other l (w ∷ vs) [] z v e = z v (omega arith)
filled-other l (w ∷ vs) (k ∷ ks) z v e =
    by_test (eqb w v)
    (λ q. let d : true ≡ false = sym (ap (λ (t : Bool). t || member v vs) q) ∙ e in let i : ◌≡◌ {A = ℕ} 0 1 = cc in absurd (omega arith))
    (λ q.
    get_or-set_other (filled l vs ks) w v (k + 1) 0 (λ o. eqb-false w v q (sym o))
    ∙ filled-other l vs ks z v (or_right (eqb w v) (member v vs) e))

emptied-length : (l vs : List ℕ) → length (emptied l vs) ≡ length l
unfolding emptied
emptied-length l [] = refl
emptied-length l (v ∷ vs) = length-set (emptied l vs) v 0 ∙ emptied-length l vs

emptied-at : (l vs : List ℕ) (v : ℕ) → (member v vs ≡ false → get_or l v 0 ≡ 0) → get_or (emptied l vs) v 0 ≡ 0
unfolding emptied member
emptied-at l [] v h = h refl
emptied-at l (w ∷ vs) v h =
    by_test (eqb w v)
    (λ e. gone (eqb-true w v e))
    (λ e.
    get_or-set_other (emptied l vs) w v 0 0 (λ q. eqb-false w v e (sym q))
    ∙ emptied-at l vs v (λ q. h (ap (λ (t : Bool). t || member v vs) e ∙ q)))
  where
    stays : Dec (v < length (emptied l vs)) → get_or (set (emptied l vs) v 0) v 0 ≡ 0
    stays (yes t) = get_or-set_same (emptied l vs) v 0 0 t
    stays (no t) = get_or-eq_default (set (emptied l vs) v 0) 0 {n = v} (omega (arith, length-set (emptied l vs) v 0))

    gone : w ≡ v → get_or (set (emptied l vs) w 0) v 0 ≡ 0
    gone q = ap (λ (x : ℕ). get_or (set (emptied l vs) x 0) v 0) q ∙ stays (dec_lt v (length (emptied l vs)))

-- A TABLE OF ZEROS IS THE SAME AGAIN.
pub emptied-back : (l vs ks : List ℕ) → Zeros l 0 → emptied (filled l vs ks) vs ≡ l
emptied-back l vs ks z =
    ext_get_or 0 (emptied (filled l vs ks) vs) l (emptied-length (filled l vs ks) vs ∙ filled-length l vs ks)
    (λ v o. emptied-at (filled l vs ks) vs v (filled-other l vs ks z v) ∙ sym (z v (omega arith)))
