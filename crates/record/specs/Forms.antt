-- The three forms of a sort record, Var, Par and every other kind: its sort, and what the tables say of its fields.
use Rattle.std.specs.Prelude.{ℕ, ◌<◌, ◌≡◌, refl, Bool, true, false, not, ◌||◌, List, [], ◌∷◌, length, get_or, eqb, T}
use Rattle.std.proofs.Common.{ap, arith, eqb-true, eq-eqb, ne_eqb}
use Rattle.std.proofs.lemmas.Bool.{eqb-false}
use Rattle.record.specs.Sort.{Sort, var, par, node}
use Rattle.record.specs.Record.{Fields, maps, map_of, bit, leasts, least_of, mosts, most_of, leaf, sorts_of, sort_of}
use Rattle.record.specs.Decode.{ProperFields, Shape}
use Rattle.record.specs.Table.{at}

-- The three forms of a kind.
pub data Which (k : ℕ) : Type 0 where
  is_var : k ≡ 2 → Which k
  is_par : k ≡ 12 → Which k
  is_node : (k ≡ 2 → ⊥) → (k ≡ 12 → ⊥) → Which k

which_by : (k : ℕ) (s t : Bool) → eqb k 2 ≡ s → eqb k 12 ≡ t → Which k
which_by k true t e f = is_var (eqb-true k 2 e)
which_by k false true e f = is_par (eqb-true k 12 f)
which_by k false false e f = is_node (eqb-false k 2 e) (eqb-false k 12 f)

pub which : (k : ℕ) → Which k
which k = which_by k (eqb k 2) (eqb k 12) refl refl

pub sort-var : (st : List Sort) (f : Fields) → f.kind ≡ 2 → sort_of st f ≡ var f.name
unfolding sort_of
sort-var st f e = rw (eq-eqb f.kind 2 e)

pub sort-par : (st : List Sort) (f : Fields) → f.kind ≡ 12 → sort_of st f ≡ par f.names (get_or st (get_or f.list 0 0) leaf)
unfolding sort_of
sort-par st f e = rw (ne_eqb f.kind 2 (λ h. omega arith), eq-eqb f.kind 12 e)

pub sort-other : (st : List Sort) (f : Fields) → (f.kind ≡ 2 → ⊥) → (f.kind ≡ 12 → ⊥) → sort_of st f ≡ node f.kind f.name f.number (sorts_of st f.list)
unfolding sort_of
sort-other st f h k = rw (ne_eqb f.kind 2 h, ne_eqb f.kind 12 k)

-- What the tables say of the three forms.
or-false : (a c : Bool) → T (a || not c) → a ≡ false → c ≡ false
or-false true c t e = let z : ◌≡◌ {A = ℕ} 0 1 = cc in absurd (omega arith)
or-false false true t e = absurd t
or-false false false t e = refl

abbrev only-par : ℕ → ℕ → Bool
only-par i m = eqb i 12 || not (bit 64 m)

pub no-names : (k : ℕ) → k < 16 → (k ≡ 12 → ⊥) → bit 64 (map_of k) ≡ false
unfolding bit map_of maps
no-names k l h = or-false (eqb k 12) (bit 64 (map_of k)) (at only-par maps tt k l) (ne_eqb k 12 h)

module _ (f : Fields) (p : ProperFields f) where
  pub var-number : f.kind ≡ 2 → f.number ≡ 0
  unfolding bit map_of maps
  var-number e = p.no_number (ap (λ (k : ℕ). bit 4 (map_of k)) e)

  pub var-list : f.kind ≡ 2 → f.list ≡ []
  unfolding bit map_of maps
  var-list e = p.no_list (ap (λ (k : ℕ). bit 16 (map_of k)) e)

  pub par-name : f.kind ≡ 12 → f.name ≡ 0
  unfolding bit map_of maps
  par-name e = p.no_name (ap (λ (k : ℕ). bit 2 (map_of k)) e)

  pub par-number : f.kind ≡ 12 → f.number ≡ 0
  unfolding bit map_of maps
  par-number e = p.no_number (ap (λ (k : ℕ). bit 4 (map_of k)) e)

  pub var-names : f.kind ≡ 2 → f.names ≡ []
  unfolding bit map_of maps
  var-names e = p.no_names (ap (λ (k : ℕ). bit 64 (map_of k)) e)

  pub other-names : f.kind < 16 → (f.kind ≡ 12 → ⊥) → f.names ≡ []
  other-names l h = p.no_names (no-names f.kind l h)

pub par-one : (f : Fields) → Shape f → f.kind ≡ 12 → length f.list ≡ 1
unfolding least_of leasts most_of mosts
par-one f s e =
    let l : least_of f.kind ≡ 1 = ap least_of e in
    let m : most_of f.kind ≡ 1 = ap most_of e in
    omega (arith, s.least, s.most, l, m)

pub one-element : (l : List ℕ) → length l ≡ 1 → l ≡ get_or l 0 0 ∷ []
one-element [] e = absurd (omega arith)
one-element (v ∷ []) e = refl
one-element (v ∷ w ∷ l) e = absurd (omega arith)
