-- The loops over given pairs: what each turn asks, and that the test of all given sorts and the map of all given names are the
-- definition's.
use Rattle.std.specs.Prelude.{ℕ, zero, suc, ◌+◌, ◌*◌, ◌-◌, ◌≤◌, ◌<◌, ◌≡◌, refl, Bool, true, false, not, ◌&&◌, List, length, get_or, eqb}
use Rattle.std.proofs.Common.{sym, ap, ap₂, subst, ◌∙◌, arith, length-set, get_or-set_other}
use Rattle.std.proofs.lemmas.Bool.{eqb-false}
use Rattle.record.specs.Cases.{and_left, and_right, or_left, or_right, not-true, some_inj}
use Rattle.record.specs.Names.{member, distinct}
use Rattle.record.specs.Number.{u16_at}
use Rattle.record.specs.Record.{leaf}
use Rattle.record.specs.Decode.{store_of, sort_at}
use Rattle.reader.specs.Reader.{pair_names_at, pair_sorts_at}
use Rattle.sheet.specs.Sheet.{bindings_of}
use Rattle.substitution.specs.Substitution.{bind}
use Rattle.substitution.specs.Matching.{known, unlisted}
use Rattle.matching_tables.specs.Tables.{Lists}
use Rattle.matching_tables.specs.TableLaws.{cleared-mapped, cleared-map}
use Rattle.matching_tables.specs.MapLaws.{answered-bound}
use Rattle.matching_tables.specs.Contract.{BindIs}
use Rattle.matching_each.specs.Premises.{TargetIs}
use Rattle.row_answer.specs.Arguments.{looked, binding_at}
use Rattle.row_parts.specs.Site.{pairs_over}
use Rattle.row_parts.specs.SiteLaws.{pairs-none, first-binding}
use Rattle.judge_rules.specs.Questions.{given_map, given_premise}
use Rattle.questions.specs.Given.{GivenStand, GivenTestIs, GiveAsks, GiveIs}

---------------------------------------------------------------- the pairs from one on
-- Their place and count in another form.
stand-as : {n : ℕ} {s tbl : List ℕ} {x y m k : ℕ} → x ≡ y → m ≡ k → GivenStand n s tbl x m → GivenStand n s tbl y k
stand-as {n} {s} {tbl} {x} {y} {m} {k} e f h = subst (GivenStand n s tbl y) f (subst (λ (z : ℕ). GivenStand n s tbl z m) e h)

-- The pairs behind the first.
stand-rest : {n : ℕ} {s tbl : List ℕ} {x m : ℕ} → GivenStand n s tbl x (suc m) → GivenStand n s tbl (x + 4) m
unfolding pair_names_at distinct
stand-rest {n} {s} {tbl} {x} {m} h =
    record {
      within = omega (arith, h.within);
      few = omega (arith, h.few);
      inside = λ j l.
          let e : x + 4 * suc j + 2 ≡ x + 4 + 4 * j + 2 = omega arith in
          subst (λ (y : ℕ). u16_at s y < length tbl) e (h.inside (suc j) (omega arith));
      known = λ j l.
          let e : x + 4 * suc j + 2 ≡ x + 4 + 4 * j + 2 = omega arith in
          subst (λ (y : ℕ). get_or tbl (u16_at s y) 0 < n) e (h.known (suc j) (omega arith));
      once = and_right (not (member (u16_at s x) (pair_names_at s (x + 4) m))) (distinct (pair_names_at s (x + 4) m)) h.once;
    }

-- The pairs from the i-th on.
stand-from : {n : ℕ} {s tbl : List ℕ} (x m i : ℕ) → i ≤ m → GivenStand n s tbl x m → GivenStand n s tbl (x + 4 * i) (m - i)
stand-from x m zero l h = stand-as (omega arith) (omega arith) h
stand-from x zero (suc i) l h = absurd (omega arith)
stand-from x (suc m) (suc i) l h = stand-as (omega arith) (omega arith) (stand-from (x + 4) m i (omega arith) (stand-rest h))

-- The name of the first is no other's.
name-apart : {n : ℕ} {s tbl : List ℕ} {x m : ℕ} → GivenStand n s tbl x (suc m) → member (u16_at s x) (pair_names_at s (x + 4) m) ≡ false
unfolding pair_names_at distinct
name-apart {n} {s} {tbl} {x} {m} h =
    not-true (member (u16_at s x) (pair_names_at s (x + 4) m))
    (and_left (not (member (u16_at s x) (pair_names_at s (x + 4) m))) (distinct (pair_names_at s (x + 4) m)) h.once)

---------------------------------------------------------------- the test
-- The first i given sorts may be targets: the others decide.
abbrev pub Testing : List ℕ → List ℕ → ℕ → List ℕ → List ℕ → List ℕ → ℕ → ℕ → ℕ → Type 0
Testing b p n prm s tbl x m i =
    (ns : List ℕ) → Lists prm ns
    → given_premise ns (pairs_over (store_of b p n) tbl s (x + 4 * i) (m - i)) ≡ given_premise ns (pairs_over (store_of b p n) tbl s x m)

-- A target's two tests before the others: where both hold, the others decide; where one fails, nothing else does.
both-hold : (a c d : Bool) → true ≡ (a && c) → (a && c && d) ≡ d
both-hold true true d e = refl
both-hold true false d e = cc
both-hold false c d e = cc

one-fails : (a c d : Bool) → false ≡ (a && c) → (a && c && d) ≡ false
one-fails true true d e = cc
one-fails true false d e = refl
one-fails false c d e = refl

module _ (b p : List ℕ) (n : ℕ) (prm s tbl : List ℕ) (x m : ℕ) where
  -- Without pairs, before the first, and behind the last.
  pub testing-none : m ≡ 0 → GivenTestIs b p n prm s tbl x m true
  unfolding given_premise
  testing-none e ns l = sym (ap (given_premise ns) (pairs-none (store_of b p n) tbl s x m e))

  pub testing-start : Testing b p n prm s tbl x m 0
  testing-start ns l =
      let e : x + 4 * 0 ≡ x = omega arith in
      let f : m - 0 ≡ m = omega arith in
      ap₂ (λ (y k : ℕ). given_premise ns (pairs_over (store_of b p n) tbl s y k)) e f

  pub testing-end : {i : ℕ} → Testing b p n prm s tbl x m i → m ≤ i → GivenTestIs b p n prm s tbl x m true
  unfolding given_premise
  testing-end {i} t e ns l =
      let z : m - i ≡ 0 = omega arith in
      sym (ap (given_premise ns) (pairs-none (store_of b p n) tbl s (x + 4 * i) (m - i) z)) ∙ t ns l

  module _ {i k : ℕ} (t : Testing b p n prm s tbl x m i) (l : i < m) (e : k ≡ get_or tbl (u16_at s (x + 4 * i + 2)) 0) where
    -- The next pair's sort, k, is tested before those behind it: it passes, or the test is over.
    first-tested : (ns : List ℕ) → given_premise ns (pairs_over (store_of b p n) tbl s (x + 4 * i) (m - i))
        ≡ (known (sort_at b p n k) && unlisted ns (sort_at b p n k) && given_premise ns (pairs_over (store_of b p n) tbl s (x + 4 * (i + 1)) (m - (i + 1))))
    unfolding given_premise sort_at
    first-tested ns =
        let st = store_of b p n in
        let y : x + 4 * i + 4 ≡ x + 4 * (i + 1) = omega arith in
        let c : m - i - 1 ≡ m - (i + 1) = omega arith in
        let z : x + 4 * i + 4 * 0 + 2 ≡ x + 4 * i + 2 = omega arith in
        let q : binding_at s (x + 4 * i) tbl 0 ≡ k = ap (λ (o : ℕ). get_or tbl (u16_at s o) 0) z ∙ sym e in
        ap (given_premise ns) (first-binding st tbl s (x + 4 * i) (m - i) (omega arith))
        ∙ ap (λ (o : ℕ). known (get_or st o leaf) && unlisted ns (get_or st o leaf) && given_premise ns (pairs_over st tbl s (x + 4 * i + 4) (m - i - 1))) q
        ∙ ap₂ (λ (o d : ℕ). known (get_or st k leaf) && unlisted ns (get_or st k leaf) && given_premise ns (pairs_over st tbl s o d)) y c

    pub testing-step : {r : Bool} → TargetIs b p n prm k r → r ≡ true → Testing b p n prm s tbl x m (i + 1)
    testing-step a f ns h =
        sym (both-hold (known (sort_at b p n k)) (unlisted ns (sort_at b p n k)) (given_premise ns (pairs_over (store_of b p n) tbl s (x + 4 * (i + 1)) (m - (i + 1)))) (sym f ∙ a ns h))
        ∙ sym (first-tested ns) ∙ t ns h

    pub testing-fails : {r : Bool} → TargetIs b p n prm k r → r ≡ false → GivenTestIs b p n prm s tbl x m false
    testing-fails a f ns h =
        sym (one-fails (known (sort_at b p n k)) (unlisted ns (sort_at b p n k)) (given_premise ns (pairs_over (store_of b p n) tbl s (x + 4 * (i + 1)) (m - (i + 1)))) (sym f ∙ a ns h))
        ∙ sym (first-tested ns) ∙ t ns h

---------------------------------------------------------------- the names
-- One pair more, the name v with the sort k, before those that are bound: its name is free, so the map binds it to its sort.
module _ (s tbl : List ℕ) (y m : ℕ) {imgs bnd : List ℕ} {c v k : ℕ} (ev : v ≡ u16_at s y) (ek : k ≡ get_or tbl (u16_at s (y + 2)) 0)
    {imgs' bnd' : List ℕ} {c' : ℕ} (d : BindIs imgs bnd c v k imgs' bnd' c') where
  bound-more : (b p : List ℕ) (n : ℕ)
      → bind v (sort_at b p n k) (given_map (pairs_over (store_of b p n) tbl s (y + 4) m)) ≡ given_map (pairs_over (store_of b p n) tbl s y (suc m))
  unfolding given_map bindings_of pair_names_at pair_sorts_at looked sort_at
  bound-more b p n = ap₂ (λ (w i : ℕ). bind w (get_or (store_of b p n) i leaf) (given_map (pairs_over (store_of b p n) tbl s (y + 4) m))) ev ek

  give-more : GiveIs s tbl (y + 4) m imgs bnd c → c < 64 → get_or imgs (u16_at s y) 0 ≡ 0 → v < 65536 → GiveIs s tbl y (suc m) imgs' bnd' c'
  give-more g few free low b p n u h =
      let o : get_or imgs v 0 ≡ 0 = ap (λ (w : ℕ). get_or imgs w 0) ev ∙ free in
      let z : y + 4 * 0 + 2 ≡ y + 2 = omega arith in
      let below : k < n = omega (arith, ek, h 0 (omega arith), ap (λ (i : ℕ). get_or tbl (u16_at s i) 0) z) in
      let e = g b p n u (λ j l.
      let f : y + 4 * suc j + 2 ≡ y + 4 + 4 * j + 2 = omega arith in
      subst (λ (i : ℕ). get_or tbl (u16_at s i) 0 < n) f (h (suc j) (omega arith))) in
      let a = answered-bound v k u e.mapped below (λ w. absurd (omega (arith, few, w))) low o d in
      record { mapped = a.mapped; map = some_inj a.result ∙ ap (bind v (sort_at b p n k)) e.map ∙ bound-more b p n }

  -- No other name has got an image.
  free-more : ((w : ℕ) → member w (pair_names_at s (y + 4) m) ≡ false → get_or imgs w 0 ≡ 0)
      → (w : ℕ) → member w (pair_names_at s y (suc m)) ≡ false → get_or imgs' w 0 ≡ 0
  unfolding member pair_names_at
  free-more f w e =
      let a = or_left (eqb (u16_at s y) w) (member w (pair_names_at s (y + 4) m)) e in
      ap (λ (l : List ℕ). get_or l w 0) d.images
      ∙ get_or-set_other imgs v w (k + 1) 0 (λ q. eqb-false (u16_at s y) w a (sym (q ∙ ev)))
      ∙ f w (or_right (eqb (u16_at s y) w) (member w (pair_names_at s (y + 4) m)) e)

-- The pairs from left on are bound, and no other names.
pub record Giving (s tbl : List ℕ) (x m : ℕ) (imgs bnd : List ℕ) (c left : ℕ) : Type 0 where
  pub low : left ≤ m
  pub count : c ≡ m - left
  pub names : length imgs ≡ 65536
  pub order : length bnd ≡ 4160
  pub free : (w : ℕ) → member w (pair_names_at s (x + 4 * left) (m - left)) ≡ false → get_or imgs w 0 ≡ 0
  pub is : GiveIs s tbl (x + 4 * left) (m - left) imgs bnd c

-- The pairs' place and count in another form.
give-as : (s tbl : List ℕ) {x y m k : ℕ} {imgs bnd : List ℕ} {c : ℕ} → x ≡ y → m ≡ k → GiveIs s tbl x m imgs bnd c → GiveIs s tbl y k imgs bnd c
give-as s tbl {x} {y} {m} {k} {imgs} {bnd} {c} e f g =
    subst (λ (i : ℕ). GiveIs s tbl y i imgs bnd c) f (subst (λ (z : ℕ). GiveIs s tbl z m imgs bnd c) e g)

-- Before the first turn no name is bound, and the map is empty.
pub giving-start : {imgs bnd : List ℕ} {c : ℕ} {s tbl : List ℕ} {x m : ℕ} → GiveAsks imgs bnd c s tbl x m → Giving s tbl x m imgs bnd c m
unfolding given_map
giving-start {imgs} {bnd} {c} {s} {tbl} {x} {m} h =
    let none : m - m ≡ 0 = omega arith in
    record {
      low = omega arith;
      count = omega (arith, h.none);
      names = h.cleared.names;
      order = h.cleared.order;
      free = λ w e. h.cleared.images w (omega arith);
      is = λ b p n u k.
          rw h.none
          (record {
            mapped = cleared-mapped b p n imgs bnd h.cleared;
            map = cleared-map (store_of b p n) imgs bnd ∙ sym (ap given_map (pairs-none (store_of b p n) tbl s (x + 4 * m) (m - m) none));
          });
    }

-- A turn binds the pair before those that are bound.
module _ {imgs bnd : List ℕ} {c : ℕ} {s tbl : List ℕ} {x m left : ℕ} (g : Giving s tbl x m imgs bnd c left) (h : GivenStand 4096 s tbl x m) (some : 0 < left)
    {v k : ℕ} (ev : v ≡ u16_at s (x + 4 * (left - 1))) (low : v < 65536) (ek : k ≡ get_or tbl (u16_at s (x + 4 * (left - 1) + 2)) 0) where
  -- This pair and those behind it.
  stand : GivenStand 4096 s tbl (x + 4 * (left - 1)) (suc (m - left))
  stand = stand-as refl (omega (arith, g.low)) (stand-from x m (left - 1) (omega (arith, g.low)) h)

  next : x + 4 * left ≡ x + 4 * (left - 1) + 4
  next = omega arith

  free-next : (w : ℕ) → member w (pair_names_at s (x + 4 * (left - 1) + 4) (m - left)) ≡ false → get_or imgs w 0 ≡ 0
  free-next = subst (λ (y : ℕ). (w : ℕ) → member w (pair_names_at s y (m - left)) ≡ false → get_or imgs w 0 ≡ 0) next g.free

  pub giving-step : {imgs' bnd' : List ℕ} {c' : ℕ} → BindIs imgs bnd c v k imgs' bnd' c' → Giving s tbl x m imgs' bnd' c' (left - 1)
  giving-step {imgs'} {bnd'} {c'} d =
      let one : suc (m - left) ≡ m - (left - 1) = omega (arith, g.low) in
      record {
        low = omega (arith, g.low);
        count = omega (arith, d.count, g.count, g.low);
        names = ap length d.images ∙ length-set imgs v (k + 1) ∙ g.names;
        order = ap length d.order ∙ length-set bnd c v ∙ g.order;
        free = subst (λ (i : ℕ). (w : ℕ) → member w (pair_names_at s (x + 4 * (left - 1)) i) ≡ false → get_or imgs' w 0 ≡ 0) one
            (free-more s tbl (x + 4 * (left - 1)) (m - left) ev ek d free-next);
        is = give-as s tbl refl one
            (give-more s tbl (x + 4 * (left - 1)) (m - left) ev ek d (give-as s tbl next refl g.is) (omega (arith, g.count, h.few, g.low)) (free-next (u16_at s (x + 4 * (left - 1))) (name-apart stand)) low);
      }
