-- Laws of the numbers of a list, and of the names without an image.
use Rattle.std.proofs.Common.{Fits, w8, ◌≡◌, ℕ, suc, ◌+◌, ◌*◌, ◌<◌, ◌≤◌, List, [], ◌∷◌, ◌++◌, length, take, get_or, cond, refl, sym, ap, subst, ◌∙◌, arith, append_assoc, append-nil, length-append, eqb, Bool, true, false, ap₂, eqb-true, eq-eqb, ◌&&◌}
use Rattle.std.specs.List.{list_all, zip}
use Rattle.std.proofs.lemmas.Bool.{false≢true}
use Rattle.std.proofs.lemmas.Grind.{same_number_lists}
use lib.Seq.{take-length}
use Rattle.record.specs.Number.{u16_at, numbers_at}
use Rattle.record.specs.Codec.{length-numbers_at, number_at}
use Rattle.record.specs.Cases.{and_left, and_right}
use Rattle.record.specs.Numbers.{numbers-small}
use Rattle.std.proofs.Common.{Result, Ok, Err}
use Rattle.std.specs.Result.{IsOk, OnOk}
use Rattle.apply_walk.specs.Lists.{unbound}

-- The numbers of a list, each at its place.
pub numbers-each : (b : List ℕ) (x n : ℕ) (vs : List ℕ) → length vs ≡ n → ((k : ℕ) → k < n → get_or vs k 0 ≡ u16_at b (x + 2 * k)) → vs ≡ numbers_at b x n
numbers-each b x n vs e h =
    same_number_lists vs (numbers_at b x n) (e ∙ sym (length-numbers_at b x n))
    (λ k o. let l : k < n = omega arith in h k l ∙ sym (number_at b x n k l))

unbound-free : (l : List ℕ) (v : ℕ) (vs : List ℕ) → eqb (get_or l v 0) 0 ≡ true → unbound l (v ∷ vs) ≡ v ∷ unbound l vs
unfolding unbound
unbound-free l v vs e = rw e

unbound-gone : (l : List ℕ) (v : ℕ) (vs : List ℕ) → eqb (get_or l v 0) 0 ≡ false → unbound l (v ∷ vs) ≡ unbound l vs
unfolding unbound
unbound-gone l v vs e = rw e

-- Two lists of one length whose numbers are equal place by place are one.
pub same-pairs : (vs ns : List ℕ) → length ns ≡ length vs → list_all (λ (p : ℕ × ℕ). eqb p.0 p.1) (zip vs ns) ≡ true → ns ≡ vs
same-pairs [] [] l e = refl
same-pairs [] (n ∷ ns) l e = absurd (omega arith)
same-pairs (v ∷ vs) [] l e = absurd (omega arith)
same-pairs (v ∷ vs) (n ∷ ns) l e =
    ap₂ ◌∷◌ (sym (eqb-true v n (and_left (eqb v n) (list_all (λ (p : ℕ × ℕ). eqb p.0 p.1) (zip vs ns)) e)))
    (same-pairs vs ns (omega arith) (and_right (eqb v n) (list_all (λ (p : ℕ × ℕ). eqb p.0 p.1) (zip vs ns)) e))

pub pairs-same : (vs ns : List ℕ) → ns ≡ vs → list_all (λ (p : ℕ × ℕ). eqb p.0 p.1) (zip vs ns) ≡ true
pairs-same vs ns e = ap (λ (l : List ℕ). list_all (λ (p : ℕ × ℕ). eqb p.0 p.1) (zip vs l)) e ∙ own vs
  where
    own : (l : List ℕ) → list_all (λ (p : ℕ × ℕ). eqb p.0 p.1) (zip l l) ≡ true
    own [] = refl
    own (v ∷ l) = ap₂ ◌&&◌ (eq-eqb v v refl) (own l)

-- ALONG A LIST OF NAMES: those kept so far and those kept of what is left make the whole.
pub record NamesInv (l all left first out : List ℕ) : Type 0 where
  pub small : (k : ℕ) → get_or left k 0 < 65536
  pub room : length out + length left ≤ 64
  pub whole : out ++ unbound l left ≡ first ++ unbound l all

pub names-start : (b : List ℕ) (x n : ℕ) (l : List ℕ) {left : List ℕ} (out : List ℕ) → ((i : ℕ) → Fits w8 (get_or b i 0)) → left ≡ numbers_at b x n
    → length out + n ≤ 64 → NamesInv l (numbers_at b x n) left out out
names-start b x n l {left} out f e r =
    record {
      small = subst (λ (vs : List ℕ). (k : ℕ) → get_or vs k 0 < 65536) (sym e) (numbers-small b x n (λ i. omega (arith, f i)));
      room = omega (arith, ap length e, length-numbers_at b x n);
      whole = ap (λ (vs : List ℕ). out ++ unbound l vs) e;
    }

module _ {l all left first out : List ℕ} (i : NamesInv l all left first out) {v : ℕ} {vs : List ℕ} (e : left ≡ v ∷ vs) where
  pub names-head : v < 65536
  names-head = omega (arith, i.small 0, ap (λ (ns : List ℕ). get_or ns 0 0) e)

  rest : (k : ℕ) → get_or vs k 0 < 65536
  rest k = omega (arith, i.small (suc k), ap (λ (ns : List ℕ). get_or ns (suc k) 0) e)

  pub names-room : length out < 64
  names-room = omega (arith, i.room, ap length e)

  pub names-kept : eqb (get_or l v 0) 0 ≡ true → {out' : List ℕ} → out' ≡ out ++ (v ∷ []) → NamesInv l all vs first out'
  names-kept z {out'} o =
      record {
        small = rest;
        room = omega (arith, i.room, ap length e, ap length o, length-append out (v ∷ []));
        whole =
            ap (λ (ns : List ℕ). ns ++ unbound l vs) o ∙ append_assoc out (v ∷ []) (unbound l vs)
            ∙ ap (λ (ns : List ℕ). out ++ ns) (sym (ap (unbound l) e ∙ unbound-free l v vs z)) ∙ i.whole;
      }

  pub names-gone : eqb (get_or l v 0) 0 ≡ false → NamesInv l all vs first out
  names-gone z =
      record {
        small = rest;
        room = omega (arith, i.room, ap length e);
        whole = ap (λ (ns : List ℕ). out ++ ns) (sym (ap (unbound l) e ∙ unbound-gone l v vs z)) ∙ i.whole;
      }

pub names-end : {l all left first out : List ℕ} → NamesInv l all left first out → left ≡ [] → out ≡ first ++ unbound l all
unfolding unbound
names-end {l} {all} {left} {first} {out} i e =
    sym (append-nil out) ∙ ap (λ (ns : List ℕ). out ++ unbound l ns) (sym e) ∙ i.whole

-- A table of all names is what is cut from it for them.
pub table-whole : {l : List ℕ} → length l ≡ 65536 → take 65536 l ≡ l
table-whole {l} e = sym (ap (λ (n : ℕ). take n l) e) ∙ take-length l

-- So many names were counted, and those that are still counted among the ones left make the whole.
pub record CountInv (l all left : List ℕ) (n : ℕ) : Type 0 where
  pub few : n + length left ≤ 64
  pub whole : n + length (unbound l left) ≡ length (unbound l all)

pub count-start : (b : List ℕ) (x n : ℕ) (l : List ℕ) {left : List ℕ} → left ≡ numbers_at b x n → n ≤ 64 → CountInv l (numbers_at b x n) left 0
count-start b x n l e r =
    record {
      few = omega (arith, ap length e, length-numbers_at b x n);
      whole = omega (arith, ap (λ (vs : List ℕ). length (unbound l vs)) e);
    }

module _ {l all left : List ℕ} {n : ℕ} (i : CountInv l all left n) {v : ℕ} {vs : List ℕ} (e : left ≡ v ∷ vs) where
  pub count-free : eqb (get_or l v 0) 0 ≡ true → CountInv l all vs (n + 1)
  count-free z =
      record {
        few = omega (arith, i.few, ap length e);
        whole = omega (arith, i.whole, ap length (ap (unbound l) e ∙ unbound-free l v vs z));
      }

  pub count-gone : eqb (get_or l v 0) 0 ≡ false → CountInv l all vs n
  count-gone z =
      record {
        few = omega (arith, i.few, ap length e);
        whole = omega (arith, i.whole, ap length (ap (unbound l) e ∙ unbound-gone l v vs z));
      }

pub count-end : {l all left : List ℕ} {n : ℕ} → CountInv l all left n → left ≡ [] → n ≡ length (unbound l all)
unfolding unbound
count-end {l} {all} {left} {n} i e = omega (arith, i.whole, ap (λ (vs : List ℕ). length (unbound l vs)) e)

-- No more names are left than there were.
few-by : (t : Bool) (v : ℕ) (r : List ℕ) (n : ℕ) → length r ≤ n → length (cond t (v ∷ r) r) ≤ suc n
few-by true v r n h = omega arith
few-by false v r n h = omega arith

unbound-few : (l vs : List ℕ) → length (unbound l vs) ≤ length vs
unfolding unbound
unbound-few l [] = omega arith
unbound-few l (v ∷ vs) = few-by (eqb (get_or l v 0) 0) v (unbound l vs) (length vs) (unbound-few l vs)

-- So no more stand behind the first ones than there are.
pub names-few : {l all left first out : List ℕ} → NamesInv l all left first out → left ≡ [] → length out ≤ length first + length all
names-few {l} {all} {left} {first} i e = omega (arith, ap length (names-end i e), length-append first (unbound l all), unbound-few l all)

all-by : (t : Bool) (v : ℕ) (r vs : List ℕ) → length r ≤ length vs → (length r ≡ length vs → r ≡ vs) → length (cond t (v ∷ r) r) ≡ suc (length vs)
    → cond t (v ∷ r) r ≡ v ∷ vs
all-by true v r vs h f e = ap (λ (ws : List ℕ). v ∷ ws) (f (omega arith))
all-by false v r vs h f e = absurd (omega arith)

-- As many names as before are the names before.
pub unbound-all : (l vs : List ℕ) → length (unbound l vs) ≡ length vs → unbound l vs ≡ vs
unfolding unbound
unbound-all l [] e = refl
unbound-all l (v ∷ vs) e = all-by (eqb (get_or l v 0) 0) v (unbound l vs) vs (unbound-few l vs) (unbound-all l vs) e

-- What holds where there is a value, where there is one.
pub at-value : {T E P : Type 0} (r : Result T E) → IsOk r → OnOk r P → P
at-value (Ok v) h p = p
at-value (Err e) h p = absurd (false≢true h)
