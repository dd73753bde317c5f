-- A variable met against a target: bound at its first meeting, compared at later ones.
use Rattle.std.specs.Prelude.{ℕ, suc, ◌+◌, ◌-◌, ◌<◌, ◌≤◌, ◌≡◌, refl, Bool, true, false, List, eqb}
use Rattle.std.proofs.Common.{sym, ap, subst, ◌∙◌, add-one, eqb-true}
use Rattle.std.proofs.lemmas.Bool.{eqb-false}
use Rattle.record.specs.Cases.{by_test}
use Rattle.std.proofs.Math.Option.{Option, none, some}
use Rattle.std.specs.Prelude.{Option as Maybe, Some, None}
use Rattle.std.specs.Option.{SomeIff}
use Rattle.matching_tables.specs.Names.{entry_of}
use native.Mathlib.Omega.{arith}
use Rattle.std.proofs.Math.ListN.{get_or}
use Rattle.record.specs.Sort.{Sort}
use Rattle.record.specs.Record.{leaf}
use Rattle.record.specs.Decode.{store_of, sort_at}
use Rattle.substitution.specs.Substitution.{Map, bind, find}
use Rattle.substitution.specs.Matching.{meet}
use Rattle.matching_tables.specs.Matched.{Matched, Fits, Misfits, found}
use Rattle.matching_tables.specs.Tables.{image_of, table_map, Tabled, VarIn, Mapped}
use Rattle.matching_tables.specs.Usable.{Usable}
use Rattle.matching_tables.specs.Contract.{Answered, LookIs, BindIs, MeetIs}
use Rattle.matching_tables.specs.TableLaws.{find-is, bind-mapped, bind-map}
use Rattle.matching_tables.specs.Entered.{same_number, other-number}

---------------------------------------------------------------- what is found
pub found-fits : (m : ℕ) {q : Bool} → q ≡ true → found m q ≡ Fits m
found-fits m e = ap (found m) e

pub found-misfits : (m : ℕ) {q : Bool} → q ≡ false → found m q ≡ Misfits m
found-misfits m e = ap (found m) e

pub answered-as : {b p : List ℕ} {n : ℕ} {imgs bnd : List ℕ} {r : Matched} {o q : Option Map} → o ≡ q → Answered b p n imgs bnd r o → Answered b p n imgs bnd r q
answered-as e a = record { mapped = a.mapped; result = a.result ∙ e }

-- The tables are as they were: the map they have, or none.
pub answered-fits : {b p : List ℕ} {n : ℕ} {imgs bnd : List ℕ} {m : ℕ} → Mapped b p n imgs bnd m
    → Answered b p n imgs bnd (Fits m) (some (table_map (store_of b p n) imgs bnd m))
answered-fits {b} {p} {n} {imgs} {bnd} {m} h = record { mapped = h; result = refl }

pub answered-misfits : {b p : List ℕ} {n : ℕ} {imgs bnd : List ℕ} {m : ℕ} → Mapped b p n imgs bnd m → Answered b p n imgs bnd (Misfits m) none
answered-misfits {b} {p} {n} {imgs} {bnd} {m} h = record { mapped = h; result = refl }

pub look_is : (imgs : List ℕ) (v : ℕ) → LookIs imgs v (get_or imgs v 0)
look_is imgs v = record { entry = refl; image = λ b p bnd n m h. find-is (store_of b p n) imgs bnd m v h.tabled }

-- One less than the entry, if it is not 0.
pub look-by : (imgs : List ℕ) (v : ℕ) (r : Maybe ℕ) → SomeIff r (1 ≤ get_or imgs v 0) (get_or imgs v 0 - 1) → LookIs imgs v (entry_of r)
look-by imgs v None h = subst (LookIs imgs v) (omega arith) (look_is imgs v)
look-by imgs v (Some k) h = subst (LookIs imgs v) (omega (arith, h.0, h.1)) (look_is imgs v)

-- A name with an entry has an image.
pub find-some : (st : List Sort) {imgs bnd : List ℕ} {m : ℕ} (v : ℕ) → Tabled imgs bnd m → (get_or imgs v 0 ≡ 0 → ⊥)
    → find (table_map st imgs bnd m) v ≡ some (get_or st (get_or imgs v 0 - 1) leaf)
find-some st {imgs} {bnd} {m} v t d =
    let e : get_or imgs v 0 ≡ suc (get_or imgs v 0 - 1) = omega arith in
    find-is st imgs bnd m v t ∙ ap (image_of st) e

pub find_none : (st : List Sort) {imgs bnd : List ℕ} {m : ℕ} (v : ℕ) → Tabled imgs bnd m → get_or imgs v 0 ≡ 0 → find (table_map st imgs bnd m) v ≡ none
find_none st {imgs} {bnd} {m} v t e = find-is st imgs bnd m v t ∙ ap (image_of st) e

module _ {b p : List ℕ} {n : ℕ} {imgs bnd : List ℕ} {m : ℕ} (v j : ℕ) (u : Usable b p n) (h : Mapped b p n imgs bnd m) (below : j < n) (own : 64 ≤ m → VarIn b p n v) where
  -- Bound now; one of the first 64 names may be any.
  pub answered-bound : v < 65536 → get_or imgs v 0 ≡ 0 → {imgs' bnd' : List ℕ} {q : ℕ} → BindIs imgs bnd m v j imgs' bnd' q
      → Answered b p n imgs' bnd' (Fits q) (some (bind v (sort_at b p n j) (table_map (store_of b p n) imgs bnd m)))
  answered-bound small free {imgs'} {bnd'} {q} s =
      let e : q ≡ suc m = s.count ∙ add-one m in
      rw (s.images, s.order, e)
      (record {
        mapped = bind-mapped b p n imgs bnd m h v free own u.count j below small;
        result = ap some (bind-map b p n imgs bnd m h v free own u.count j below small);
      })

  -- Bound before, to k.
  found-low : (get_or imgs v 0 ≡ 0 → ⊥) → get_or imgs v 0 - 1 < n
  found-low d = omega (arith, h.below v)

  pub met-same : get_or imgs v 0 ≡ j + 1 → Answered b p n imgs bnd (Fits m)
      (meet (find (table_map (store_of b p n) imgs bnd m) v) v (sort_at b p n j) (table_map (store_of b p n) imgs bnd m))
  unfolding sort_at
  met-same e =
      let d : get_or imgs v 0 ≡ 0 → ⊥ = λ z. omega arith in
      let k : get_or imgs v 0 - 1 ≡ j = omega arith in
      rw (find-some (store_of b p n) v h.tabled d, same_number b p n u (get_or imgs v 0 - 1) j (found-low d) below k)
      (answered-fits h)

  pub met-other : (get_or imgs v 0 ≡ 0 → ⊥) → (get_or imgs v 0 ≡ j + 1 → ⊥) → Answered b p n imgs bnd (Misfits m)
      (meet (find (table_map (store_of b p n) imgs bnd m) v) v (sort_at b p n j) (table_map (store_of b p n) imgs bnd m))
  unfolding sort_at
  met-other d w =
      rw (find-some (store_of b p n) v h.tabled d, other-number b p n u (get_or imgs v 0 - 1) j (found-low d) below (λ z. w (omega arith)))
      (answered-misfits h)

---------------------------------------------------------------- the answers of `meet`
pub meet-free : {imgs bnd : List ℕ} {m v j : ℕ} → v < 65536 → get_or imgs v 0 ≡ 0 → {imgs' bnd' : List ℕ} {q : ℕ} → BindIs imgs bnd m v j imgs' bnd' q
    → MeetIs imgs bnd m v j imgs' bnd' (Fits q)
meet-free {imgs} {bnd} {m} {v} {j} small e {imgs'} {bnd'} {q} s b p n u h below own =
    rw (find_none (store_of b p n) v h.tabled e) (answered-bound v j u h below (λ w. own) small e s)

pub meet-same : (imgs bnd : List ℕ) (m v j : ℕ) → get_or imgs v 0 ≡ j + 1 → MeetIs imgs bnd m v j imgs bnd (Fits m)
meet-same imgs bnd m v j e b p n u h below own = met-same v j u h below (λ w. own) e

pub meet-other : (imgs bnd : List ℕ) (m v j : ℕ) → (get_or imgs v 0 ≡ 0 → ⊥) → (get_or imgs v 0 ≡ j + 1 → ⊥) → MeetIs imgs bnd m v j imgs bnd (Misfits m)
meet-other imgs bnd m v j d w b p n u h below own = met-other v j u h below (λ z. own) d w

-- By whether the number of its image is the target's.
pub meet-bound : (imgs bnd : List ℕ) (m v j : ℕ) {k : ℕ} → get_or imgs v 0 ≡ suc k → MeetIs imgs bnd m v j imgs bnd (found m (eqb k j))
meet-bound imgs bnd m v j {k} e =
    by_test (eqb k j)
    (λ q. let h = eqb-true k j q in subst (MeetIs imgs bnd m v j imgs bnd) (sym (found-fits m q)) (meet-same imgs bnd m v j (omega arith)))
    (λ q. let h = eqb-false k j q in subst (MeetIs imgs bnd m v j imgs bnd) (sym (found-misfits m q)) (meet-other imgs bnd m v j (λ z. omega arith) (λ z. h (omega arith))))
