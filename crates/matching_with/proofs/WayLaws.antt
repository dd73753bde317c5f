-- match_with down Pars and last parts: a turn, the walk of many turns, and the names taken off again behind it.
use Prim.Native.Nat.{ℕ, zero, suc, ◌+◌, ◌*◌, ◌-◌, ◌≤◌, ◌<◌}
use mathlib.Core.Path.{◌≡◌, refl, sym, ap, subst, ◌∙◌}
use mathlib.Core.List.{List, [], ◌++◌, append_assoc, append-nil}
use mathlib.Core.Option.{Option, none, some}
use native.Mathlib.Omega.{arith}
use lib.ListN.{length, get_or, replicate}
use lib.Seq.{ext_get_or}
use native.Mathlib.Decide.{ℕ_discrete}
use Rattle.record.specs.Number.{u16_at, numbers_at}
use Rattle.record.specs.Sort.{Sort, parts_of, names_of, count, size, sizes}
use Rattle.record.specs.Record.{leaf, sorts_of}
use Rattle.record.specs.SortLists.{below_suc}
use Rattle.record.specs.Decode.{store_of, sort_at}
use Rattle.record.specs.declared.SortRecord.{SortRecord}
use Rattle.store.specs.Entry.{EntryHas}
use Rattle.substitution.specs.Substitution.{Map}
use Rattle.substitution.specs.Matching.{and_then}
use Rattle.substitution.specs.MatchWith.{match_with, match_all_with}
use Rattle.matching_tables.specs.Matched.{Matched, Fits, Misfits, found}
use Rattle.matching_with.specs.declared.Turn.{Turn}
use Rattle.matching_with.specs.declared.Turn.TheVariants.{Meets, Under, Past, Parts}
use Rattle.matching_with.specs.declared.Move.TheVariants.{Ends, Under as Down, Past as Through, Parts as Several}
use Rattle.record.specs.declared.span.Span.{Span}
use mathlib.Core.Bool.{Bool, true}
use Rattle.matching_tables.specs.Tables.{times, Lists, Added, table_map, Mapped}
use Rattle.matching_tables.specs.TableLaws.{times-append, lists-added, added-back}
use Rattle.matching_tables.specs.Usable.{sorts_at}
use Rattle.matching_tables.specs.Contract.{TakeAsks, count_of, matched_map}
use Rattle.matching_with.specs.Contract.{MeetWithIs, WithAsks, WithListsAsk, WithIs, PairWith, PairsWith, ListsWith, TurnIs, Parted}
use Rattle.matching_with.specs.Met.{MatchedWith, WithBefore, WithAfter}
use Rattle.matching_tables.specs.NoteLaws.{pairs-none}
use Rattle.matching_with.specs.Way.{last_sort, way_end, way_names, Deep, CloseAsks, CloseIs, Instead, Leads, Split, MoveIs, WalkIs}
use Rattle.matching_tables.specs.Entered.{entry-names, entry-refs}
use Rattle.matching_tables.specs.WalkLaws.{count_at}
use Rattle.matching_tables.specs.LastLaws.{and-some, sizes-more, refs-less}
use Rattle.matching_with.proofs.WithLaws.{with-same, with-next, with-back}
use Rattle.matching_with.proofs.GeneralLaws.{under, body-asks, through, target-asks, parted, general-met, general-empty, with-lists}

---------------------------------------------------------------- all but the last, then the last
-- The last of c + 1 sorts.
last-at : (b p : List ℕ) (n : ℕ) (s : List ℕ) (x c : ℕ) → last_sort (sorts_at b p n s x (suc c)) ≡ sort_at b p n (u16_at s (x + 2 * c))
unfolding last_sort sorts_of numbers_at sort_at
last-at b p n s x zero = let e : x ≡ x + 2 * 0 = omega arith in ap (λ (i : ℕ). get_or (store_of b p n) (u16_at s i) leaf) e
last-at b p n s x (suc c) =
    let e : x + 2 + 2 * c ≡ x + 2 * suc c = omega arith in
    last-at b p n s (x + 2) c ∙ ap (λ (i : ℕ). get_or (store_of b p n) (u16_at s i) leaf) e

then_same : (o : Option Map) (f g : Map → Option Map) → ((m : Map) → f m ≡ g m) → and_then o f ≡ and_then o g
then_same none f g h = refl
then_same (some m) f g h = h m

then-then : (o : Option Map) (f g : Map → Option Map) → and_then o (λ m. and_then (f m) g) ≡ and_then (and_then o f) g
then-then none f g = refl
then-then (some m) f g = refl

-- A LIST'S MATCH is that of all but the last, then of the last.
with-last : (b p : List ℕ) (n : ℕ) (ns s t : List ℕ) (x y c : ℕ) (θ : Map)
    → match_all_with ns (sorts_at b p n s x (suc c)) (sorts_at b p n t y (suc c)) θ
    ≡ and_then (match_all_with ns (sorts_at b p n s x c) (sorts_at b p n t y c) θ) (λ η. match_with ns (sort_at b p n (u16_at s (x + 2 * c))) (sort_at b p n (u16_at t (y + 2 * c))) η)
unfolding match_with sorts_of numbers_at sort_at
with-last b p n ns s t x y zero θ =
    let e : x ≡ x + 2 * 0 = omega arith in
    let f : y ≡ y + 2 * 0 = omega arith in
    and-some (match_with ns (get_or (store_of b p n) (u16_at s x) leaf) (get_or (store_of b p n) (u16_at t y) leaf) θ)
    ∙ ap (λ (i : ℕ). match_with ns (get_or (store_of b p n) (u16_at s i) leaf) (get_or (store_of b p n) (u16_at t y) leaf) θ) e
    ∙ ap (λ (i : ℕ). match_with ns (get_or (store_of b p n) (u16_at s (x + 2 * 0)) leaf) (get_or (store_of b p n) (u16_at t i) leaf) θ) f
with-last b p n ns s t x y (suc c) θ =
    let e : x + 2 + 2 * c ≡ x + 2 * suc c = omega arith in
    let f : y + 2 + 2 * c ≡ y + 2 * suc c = omega arith in
    then_same (match_with ns (get_or (store_of b p n) (u16_at s x) leaf) (get_or (store_of b p n) (u16_at t y) leaf) θ)
    (λ m. match_all_with ns (sorts_at b p n s (x + 2) (suc c)) (sorts_at b p n t (y + 2) (suc c)) m)
    (λ m. and_then (match_all_with ns (sorts_at b p n s (x + 2) c) (sorts_at b p n t (y + 2) c) m) (λ η. match_with ns (sort_at b p n (u16_at s (x + 2 + 2 * c))) (sort_at b p n (u16_at t (y + 2 + 2 * c))) η))
    (λ m. with-last b p n ns s t (x + 2) (y + 2) c m)
    ∙ then-then (match_with ns (get_or (store_of b p n) (u16_at s x) leaf) (get_or (store_of b p n) (u16_at t y) leaf) θ)
    (λ m. match_all_with ns (sorts_at b p n s (x + 2) c) (sorts_at b p n t (y + 2) c) m)
    (λ η. match_with ns (sort_at b p n (u16_at s (x + 2 + 2 * c))) (sort_at b p n (u16_at t (y + 2 + 2 * c))) η)
    ∙ ap (λ (i : ℕ). and_then (match_all_with ns (sorts_at b p n s x (suc c)) (sorts_at b p n t y (suc c)) θ) (λ η. match_with ns (sort_at b p n (u16_at s i)) (sort_at b p n (u16_at t (y + 2 + 2 * c))) η)) e
    ∙ ap (λ (i : ℕ). and_then (match_all_with ns (sorts_at b p n s x (suc c)) (sorts_at b p n t y (suc c)) θ) (λ η. match_with ns (sort_at b p n (u16_at s (x + 2 * suc c))) (sort_at b p n (u16_at t i)) η)) f

---------------------------------------------------------------- tables of parameters
added_none : (prm : List ℕ) → Added prm [] prm
unfolding times
added_none prm = record { long = refl; each = λ v. omega arith }

none-added : {prm prm' : List ℕ} → Added prm [] prm' → prm' ≡ prm
unfolding times
none-added {prm} {prm'} a = ext_get_or 0 prm' prm a.long (λ v h. omega (arith, a.each v))

added_then : {prm us prm' ws prm'' : List ℕ} → Added prm us prm' → Added prm' ws prm'' → Added prm (us ++ ws) prm''
added_then {prm} {us} {prm'} {ws} {prm''} a c =
    record { long = c.long ∙ a.long; each = λ v. omega (arith, a.each v, c.each v, times-append v us ws) }

---------------------------------------------------------------- a turn
module _ {b p : List ℕ} {n : ℕ} {prm imgs bnd : List ℕ} {m k j : ℕ} (a : WithAsks b p n prm imgs bnd m k j) {l : List ℕ} (w : WithBefore b p n prm imgs bnd m l) where
  -- The parts but for the last, then the last.
  move-split : {x y c : ℕ} (d : ℕ) → c ≡ suc d → Parted b p n k j x y c → Split b p n prm imgs bnd m k j prm imgs bnd m l x y d
  move-split {x} {y} {c} d f o' =
      let o = subst (λ (i : ℕ). Parted b p n k j x y i) f o' in
      record {
        params = refl;
        asks =
            record {
              pairs = record { usable = o.pairs.usable; left = refs-less b p n b x d o.pairs.left; right = refs-less b p n b y d o.pairs.right };
              table = a.table;
              room = λ v. omega (arith, a.room v, o.less, sizes-more b p n b x d);
              mapped = a.mapped;
            };
        noted = w;
        left = omega (arith, o.pairs.left.within);
        right = omega (arith, o.pairs.right.within);
        ends = record { usable = o.pairs.usable; left = o.pairs.left.below d (omega arith); right = o.pairs.right.below d (omega arith) };
        leads =
            record {
              some = omega (arith, ap count o.parts, count_at b p n b x (suc d));
              last = ap last_sort o.parts ∙ last-at b p n b x d;
              less = omega (arith, o.less, sizes-more b p n b x d);
            };
        nameless = o.names;
        falls = omega (arith, o.falls, sizes-more b p n b x d, sizes-more b p n b y d);
        whole = λ ns h.
            sym (with-last b p n ns b b x y d (table_map (store_of b p n) imgs bnd m))
            ∙ o.whole ns (table_map (store_of b p n) imgs bnd m);
      }

  -- By what is to be done.
  module _ {z : Turn} where
    pub move-meets : {v : ℕ} → z ≡ Meets v → TurnIs b p n prm k j z → (imgs' bnd' : List ℕ) (m' : ℕ) (q : Bool) → MeetWithIs b p n imgs bnd m v j imgs' bnd' (found m' q)
        → MoveIs b p n prm imgs bnd m k j prm imgs' bnd' m' l (Ends q)
    move-meets {v} e g imgs' bnd' m' q h =
        let f = general-met a z g v e imgs' bnd' (found m' q) h in
        (f, with-same b p n prm imgs bnd m k j prm imgs' bnd' l (found m' q) w f)

    pub move-under : {i : ℕ} {x : Span} → z ≡ Under i x → TurnIs b p n prm k j z → {prm' l' : List ℕ} → Added prm (numbers_at b x.at x.count) prm' → l' ≡ replicate 32 0
        → MoveIs b p n prm imgs bnd m k j prm' imgs bnd m l' (Down i)
    unfolding count last_sort
    move-under {i} {x} e g {prm'} {l'} s f =
        let o = under a z g i x e in (
          record {
            added = subst (λ (us : List ℕ). Added prm us prm') (sym o.names) s;
            asks = body-asks a z g i x e s;
            noted = subst (WithBefore b p n prm' imgs bnd m) (sym f) (pairs-none (MatchedWith b p n prm' (table_map (store_of b p n) imgs bnd m)));
            whole = λ ns h.
                ap (λ (us : List ℕ). PairWith b p n imgs bnd m i j (ns ++ us)) o.names
                ∙ o.whole ns (table_map (store_of b p n) imgs bnd m);
          },
          record {
            some = omega (arith, ap count o.parts);
            last = ap last_sort o.parts;
            less = omega (arith, o.falls);
          },
        )

    pub move-past : {i : ℕ} → z ≡ Past i → TurnIs b p n prm k j z → MoveIs b p n prm imgs bnd m k j prm imgs bnd m l (Through i)
    move-past {i} e g =
        let o = through a z g i e in (
          record {
            added = added_none prm;
            asks = target-asks a z g i e;
            noted = w;
            whole = λ ns h.
                ap (λ (us : List ℕ). PairWith b p n imgs bnd m k i us) (append-nil ns)
                ∙ o.whole ns h (table_map (store_of b p n) imgs bnd m);
          },
          omega (arith, o.falls),
        )

    module _ {x y : Span} (e : z ≡ Parts x y) (g : TurnIs b p n prm k j z) where
      pub move-empty : x.count ≡ 0 → MoveIs b p n prm imgs bnd m k j prm imgs bnd m l (Ends true)
      move-empty f = (general-empty a z g x y e f, w)

      pub move-parts : (x.count ≡ 0 → ⊥) → MoveIs b p n prm imgs bnd m k j prm imgs bnd m l (Several x y)
      move-parts f =
          (move-split (x.count - 1) (omega arith) (parted a z g x y e).0, omega arith, (parted a z g x y e).1)

---------------------------------------------------------------- turn after turn
instead-then : {b p : List ℕ} {n : ℕ} {prm imgs bnd : List ℕ} {m k j : ℕ} {us prm₁ imgs₁ bnd₁ : List ℕ} {m₁ k₁ j₁ : ℕ} {l₁ ws prm₂ imgs₂ bnd₂ : List ℕ} {m₂ k₂ j₂ : ℕ} {l₂ : List ℕ}
    → Instead b p n prm imgs bnd m k j us prm₁ imgs₁ bnd₁ m₁ k₁ j₁ l₁ → Instead b p n prm₁ imgs₁ bnd₁ m₁ k₁ j₁ ws prm₂ imgs₂ bnd₂ m₂ k₂ j₂ l₂
    → Instead b p n prm imgs bnd m k j (us ++ ws) prm₂ imgs₂ bnd₂ m₂ k₂ j₂ l₂
instead-then {b} {p} {n} {prm} {imgs} {bnd} {m} {k} {j} {us} {prm₁} {imgs₁} {bnd₁} {m₁} {k₁} {j₁} {l₁} {ws} {prm₂} {imgs₂} {bnd₂} {m₂} {k₂} {j₂} {l₂} f g =
    record {
      added = added_then f.added g.added;
      asks = g.asks;
      noted = g.noted;
      whole = λ ns h.
          sym (ap (PairWith b p n imgs₂ bnd₂ m₂ k₂ j₂) (append_assoc ns us ws))
          ∙ g.whole (ns ++ us) (lists-added prm ns us prm₁ h f.added)
          ∙ f.whole ns h;
    }

-- WHERE A WALK from k and j stands, after `steps` down the way, the last Par of the pattern opened at the step `down`.
pub record Walking (b p : List ℕ) (n : ℕ) (prm imgs bnd : List ℕ) (m k j : ℕ) (prm₁ imgs₁ bnd₁ l₁ : List ℕ) (m₁ k₁ j₁ steps down : ℕ) : Type 0 where
  pub instead : Instead b p n prm imgs bnd m k j (way_names (sort_at b p n k) down) prm₁ imgs₁ bnd₁ m₁ k₁ j₁ l₁
  pub ends : way_end (sort_at b p n k) steps ≡ sort_at b p n k₁
  pub names : way_names (sort_at b p n k) steps ≡ way_names (sort_at b p n k) down
  pub deep : Deep (sort_at b p n k) steps
  pub low : down ≤ steps
  pub far : steps + size (sort_at b p n k₁) ≤ size (sort_at b p n k)
  pub less : size (sort_at b p n k₁) + size (sort_at b p n j₁) ≤ size (sort_at b p n k) + size (sort_at b p n j)

pub walking_start : {b p : List ℕ} {n : ℕ} {prm imgs bnd : List ℕ} {m k j : ℕ} (l : List ℕ) → WithAsks b p n prm imgs bnd m k j → WithBefore b p n prm imgs bnd m l
    → Walking b p n prm imgs bnd m k j prm imgs bnd l m k j 0 0
unfolding way_end way_names
walking_start {b} {p} {n} {prm} {imgs} {bnd} {m} {k} {j} l a w =
    record {
      instead = record { added = added_none prm; asks = a; noted = w; whole = λ ns h. ap (PairWith b p n imgs bnd m k j) (append-nil ns) };
      ends = refl;
      names = refl;
      deep = λ h q. absurd (omega arith);
      low = omega arith;
      far = omega arith;
      less = omega arith;
    }

-- A step down the way from where i leads.
way_deep : (s : Sort) (i : ℕ) → Deep s i → 0 < count (parts_of (way_end s i)) → Deep s (suc i)
way_deep s i d q h l = below_suc (λ (h : ℕ). 0 < count (parts_of (way_end s h))) i (λ h r. d h r) q h l

module _ {b p : List ℕ} {n : ℕ} {prm imgs bnd : List ℕ} {m k j : ℕ} {prm₁ imgs₁ bnd₁ l₁ : List ℕ} {m₁ k₁ j₁ steps down : ℕ} (a : Walking b p n prm imgs bnd m k j prm₁ imgs₁ bnd₁ l₁ m₁ k₁ j₁ steps down) where
  step-deep : {i : ℕ} → Leads b p n k₁ i → Deep (sort_at b p n k) (suc steps)
  step-deep {i} e =
      way_deep (sort_at b p n k) steps a.deep (subst (λ (s : Sort). 0 < count (parts_of s)) (sym a.ends) e.some)

  step-ends : {i : ℕ} → Leads b p n k₁ i → way_end (sort_at b p n k) (suc steps) ≡ sort_at b p n i
  unfolding way_end
  step-ends {i} e = ap (λ (s : Sort). last_sort (parts_of s)) a.ends ∙ e.last

  step-names : way_names (sort_at b p n k) (suc steps) ≡ way_names (sort_at b p n k) down ++ names_of (sort_at b p n k₁)
  unfolding way_names
  step-names =
      ap (λ (us : List ℕ). us ++ names_of (way_end (sort_at b p n k) steps)) a.names
      ∙ ap (λ (s : Sort). way_names (sort_at b p n k) down ++ names_of s) a.ends

  pub walking-under : (prm₂ imgs₂ bnd₂ : List ℕ) (m₂ : ℕ) (l₂ : List ℕ) (i : ℕ) {z : ℕ} → MoveIs b p n prm₁ imgs₁ bnd₁ m₁ k₁ j₁ prm₂ imgs₂ bnd₂ m₂ l₂ (Down i) → z ≡ suc steps
      → Walking b p n prm imgs bnd m k j prm₂ imgs₂ bnd₂ l₂ m₂ i j₁ z z
  walking-under prm₂ imgs₂ bnd₂ m₂ l₂ i {z} (f, e) q =
      rw q (record {
        instead =
            subst (λ (us : List ℕ). Instead b p n prm imgs bnd m k j us prm₂ imgs₂ bnd₂ m₂ i j₁ l₂) (sym step-names)
            (instead-then a.instead f);
        ends = step-ends e;
        names = refl;
        deep = step-deep e;
        low = omega arith;
        far = omega (arith, a.far, e.less);
        less = omega (arith, a.less, e.less);
      })

  -- The names stay where a pair takes the place of another without a Par of the pattern.
  instead-on : {prm₂ imgs₂ bnd₂ : List ℕ} {m₂ k₂ j₂ : ℕ} {l₂ : List ℕ} → Instead b p n prm₁ imgs₁ bnd₁ m₁ k₁ j₁ [] prm₂ imgs₂ bnd₂ m₂ k₂ j₂ l₂
      → Instead b p n prm imgs bnd m k j (way_names (sort_at b p n k) down) prm₂ imgs₂ bnd₂ m₂ k₂ j₂ l₂
  instead-on {prm₂} {imgs₂} {bnd₂} {m₂} {k₂} {j₂} {l₂} f =
      subst (λ (us : List ℕ). Instead b p n prm imgs bnd m k j us prm₂ imgs₂ bnd₂ m₂ k₂ j₂ l₂) (append-nil (way_names (sort_at b p n k) down))
      (instead-then a.instead f)

  pub walking-past : (prm₂ imgs₂ bnd₂ : List ℕ) (m₂ : ℕ) (l₂ : List ℕ) (i : ℕ) → MoveIs b p n prm₁ imgs₁ bnd₁ m₁ k₁ j₁ prm₂ imgs₂ bnd₂ m₂ l₂ (Through i)
      → Walking b p n prm imgs bnd m k j prm₂ imgs₂ bnd₂ l₂ m₂ k₁ i steps down
  walking-past prm₂ imgs₂ bnd₂ m₂ l₂ i (f, e) =
      record {
        instead = instead-on f;
        ends = a.ends;
        names = a.names;
        deep = a.deep;
        low = a.low;
        far = a.far;
        less = omega (arith, a.less, e);
      }

  -- WHAT IS FOUND at the end of a walk is that of the whole.
  pub walk_ends : (prm₂ imgs₂ bnd₂ l₂ : List ℕ) (q : Matched)
      → WithIs b p n prm₁ prm₂ imgs₂ bnd₂ q (PairWith b p n imgs₁ bnd₁ m₁ k₁ j₁) × WithAfter b p n prm₁ imgs₂ bnd₂ l₂ q
      → WalkIs b p n prm imgs bnd m k j prm₂ imgs₂ bnd₂ l₂ q down
  unfolding way_names
  walk_ends prm₂ imgs₂ bnd₂ l₂ q (f, t) =
      record {
        added = subst (Added prm (way_names (sort_at b p n k) down)) (sym f.params) a.instead.added;
        deep = λ h r. a.deep h (omega (arith, a.low));
        mapped = f.mapped;
        result = λ ns h.
            f.result (ns ++ way_names (sort_at b p n k) down) (lists-added prm ns (way_names (sort_at b p n k) down) prm₁ h a.instead.added)
            ∙ a.instead.whole ns h;
        noted = λ e.
            with-back b p n prm imgs₂ bnd₂ l₂ q
            (none-added (subst (λ (i : ℕ). Added prm (way_names (sort_at b p n k) i) prm₁) e a.instead.added)) t;
      }

  ---------------------------------------------------------------- the parts
  module _ {prm₂ imgs₂ bnd₂ : List ℕ} {m₂ : ℕ} {l₂ : List ℕ} {x y c : ℕ} (s : Split b p n prm₁ imgs₁ bnd₁ m₁ k₁ j₁ prm₂ imgs₂ bnd₂ m₂ l₂ x y c) {prm₃ imgs₃ bnd₃ : List ℕ} (l₃ : List ℕ) {z : Matched} (g : WithIs b p n prm₂ prm₃ imgs₃ bnd₃ z (PairsWith b p n imgs₂ bnd₂ m₂ b x b y c)) where
    -- All but the last, then the last, from what is found for the first.
    parts-on : {ns : List ℕ} → Lists prm₁ ns
        → and_then (matched_map (store_of b p n) imgs₃ bnd₃ z) (λ θ. match_with ns (sort_at b p n (u16_at b (x + 2 * c))) (sort_at b p n (u16_at b (y + 2 * c))) θ)
        ≡ PairWith b p n imgs₁ bnd₁ m₁ k₁ j₁ ns
    parts-on {ns} h =
        ap (λ (o : Option Map). and_then o (λ θ. match_with ns (sort_at b p n (u16_at b (x + 2 * c))) (sort_at b p n (u16_at b (y + 2 * c))) θ))
        (g.result ns (subst (λ (l : List ℕ). Lists l ns) (sym s.params) h))
        ∙ s.whole ns h

    same_params : prm₃ ≡ prm₁
    same_params = g.params ∙ s.params

    pub walk-misfit : (i : ℕ) → z ≡ Misfits i → WalkIs b p n prm imgs bnd m k j prm₃ imgs₃ bnd₃ l₃ (Misfits i) down
    walk-misfit i e =
        walk_ends prm₃ imgs₃ bnd₃ l₃ (Misfits i) (
          record {
            params = same_params;
            mapped = subst (λ (q : Matched). Mapped b p n imgs₃ bnd₃ (count_of q)) e g.mapped;
            result = λ ns h.
                sym (ap (λ (q : Matched). and_then (matched_map (store_of b p n) imgs₃ bnd₃ q) (λ θ. match_with ns (sort_at b p n (u16_at b (x + 2 * c))) (sort_at b p n (u16_at b (y + 2 * c))) θ)) e)
                ∙ parts-on h;
          },
          tt,
        )

    module _ (w : WithAfter b p n prm₂ imgs₃ bnd₃ l₃ z) (i : ℕ) (e : z ≡ Fits i) where
      last-instead : Instead b p n prm₁ imgs₁ bnd₁ m₁ k₁ j₁ [] prm₃ imgs₃ bnd₃ i (u16_at b (x + 2 * c)) (u16_at b (y + 2 * c)) l₃
      last-instead =
          record {
            added = subst (Added prm₁ []) (sym same_params) (added_none prm₁);
            asks =
                record {
                  pair = s.ends;
                  table = ap length same_params ∙ a.instead.asks.table;
                  room = λ v. omega (arith, a.instead.asks.room v, s.leads.less, ap (λ (l : List ℕ). get_or l v 0) same_params);
                  mapped = subst (λ (q : Matched). Mapped b p n imgs₃ bnd₃ (count_of q)) e g.mapped;
                };
            noted = with-next b p n prm₂ imgs₃ bnd₃ l₃ i g.params e w;
            whole = λ ns h.
                ap (PairWith b p n imgs₃ bnd₃ i (u16_at b (x + 2 * c)) (u16_at b (y + 2 * c))) (append-nil ns)
                ∙ sym (ap (λ (q : Matched). and_then (matched_map (store_of b p n) imgs₃ bnd₃ q) (λ θ. match_with ns (sort_at b p n (u16_at b (x + 2 * c))) (sort_at b p n (u16_at b (y + 2 * c))) θ)) e)
                ∙ parts-on h;
          }

      pub walking-parts : {k₂ j₂ v : ℕ} → k₂ ≡ u16_at b (x + 2 * c) → j₂ ≡ u16_at b (y + 2 * c) → v ≡ suc steps
          → Walking b p n prm imgs bnd m k j prm₃ imgs₃ bnd₃ l₃ i k₂ j₂ v down
      walking-parts {k₂} {j₂} {v} ek ej ev =
          rw (ek, ej, ev) (record {
            instead = instead-on last-instead;
            ends = step-ends s.leads;
            names =
                step-names ∙ ap (λ (us : List ℕ). way_names (sort_at b p n k) down ++ us) s.nameless
                ∙ append-nil (way_names (sort_at b p n k) down);
            deep = step-deep s.leads;
            low = omega (arith, a.low);
            far = omega (arith, a.far, s.leads.less);
            less = omega (arith, a.less, s.falls);
          })

---------------------------------------------------------------- the parts by their numbers
module _ {b p : List ℕ} {n : ℕ} {prm imgs bnd : List ℕ} {m k j : ℕ} {prm₁ imgs₁ bnd₁ : List ℕ} {m₁ : ℕ} {l : List ℕ} {x y c : ℕ} (s : Split b p n prm imgs bnd m k j prm₁ imgs₁ bnd₁ m₁ l x y c)
    {ks js : List ℕ} (ek : ks ≡ numbers_at b x c) (ej : js ≡ numbers_at b y c) where
  pub split-asks : WithListsAsk b p n prm₁ imgs₁ bnd₁ m₁ ks js
  split-asks = with-lists s.asks ek ej

  pub split-falls : sizes (sorts_of (store_of b p n) ks) + sizes (sorts_of (store_of b p n) js) + 2 ≤ size (sort_at b p n k) + size (sort_at b p n j)
  split-falls = rw (ek, ej) (omega (arith, s.falls))

  pub split-is : {prm' imgs' bnd' : List ℕ} {q : Matched} → WithIs b p n prm₁ prm' imgs' bnd' q (ListsWith b p n imgs₁ bnd₁ m₁ ks js)
      → WithIs b p n prm₁ prm' imgs' bnd' q (PairsWith b p n imgs₁ bnd₁ m₁ b x b y c)
  split-is g = record { params = g.params; mapped = g.mapped; result = λ ns h. rw (← ek, ← ej) (g.result ns h) }

---------------------------------------------------------------- behind a walk
module _ {b p : List ℕ} {n : ℕ} {prm imgs bnd : List ℕ} {m k j : ℕ} (a : WithAsks b p n prm imgs bnd m k j) {prm₁ imgs₁ bnd₁ l₁ : List ℕ} {q : Matched} {d : ℕ} (w : WalkIs b p n prm imgs bnd m k j prm₁ imgs₁ bnd₁ l₁ q d) where
  pub match-plain : d ≡ 0
      → WithIs b p n prm prm₁ imgs₁ bnd₁ q (PairWith b p n imgs bnd m k j) × WithAfter b p n prm imgs₁ bnd₁ l₁ q
  unfolding way_names
  match-plain e = (
    record {
      params = none-added (subst (λ (i : ℕ). Added prm (way_names (sort_at b p n k) i) prm₁) e w.added);
      mapped = w.mapped;
      result = w.result;
    },
    w.noted e,
  )

  pub match-closed : (prm₂ : List ℕ) {l₂ : List ℕ} → CloseIs b p n prm₁ k d prm₂ → l₂ ≡ replicate 32 0
      → WithIs b p n prm prm₂ imgs₁ bnd₁ q (PairWith b p n imgs bnd m k j) × WithAfter b p n prm imgs₁ bnd₁ l₂ q
  match-closed prm₂ {l₂} t e = (
    record {
      params = added-back prm (way_names (sort_at b p n k) d) prm₁ prm₂ w.added t;
      mapped = w.mapped;
      result = w.result;
    },
    forgot q,
  )
    where
      forgot : (q : Matched) → WithAfter b p n prm imgs₁ bnd₁ l₂ q
      forgot (Fits i) = subst (WithBefore b p n prm imgs₁ bnd₁ i) (sym e) (pairs-none (MatchedWith b p n prm (table_map (store_of b p n) imgs₁ bnd₁ i)))
      forgot (Misfits i) = tt

---------------------------------------------------------------- the names taken off
times_way : (v : ℕ) (s : Sort) (h i : ℕ) → h ≤ i → times v (way_names s h) ≤ times v (way_names s i)
unfolding way_names
times_way v s h zero l = let e : h ≡ 0 = omega arith in rw e (omega arith)
times_way v s h (suc i) l = go (λ q. times_way v s h i q) (ℕ_discrete h (suc i))
  where
    go : (h ≤ i → times v (way_names s h) ≤ times v (way_names s i)) → Dec (h ≡ suc i) → times v (way_names s h) ≤ times v (way_names s (suc i))
    go f (yes e) = rw e (omega arith)
    go f (no d) = omega (arith, f (omega arith), times-append v (way_names s i) (names_of (way_end s i)))

pub record Closing (b p : List ℕ) (n : ℕ) (prm : List ℕ) (k i : ℕ) (prm₁ : List ℕ) (k₁ h : ℕ) : Type 0 where
  pub known : k₁ < n
  pub ends : way_end (sort_at b p n k) h ≡ sort_at b p n k₁
  pub taken : Added prm₁ (way_names (sort_at b p n k) h) prm
  pub low : h ≤ i

pub closing-start : {b p : List ℕ} {n : ℕ} {prm : List ℕ} {k i : ℕ} → CloseAsks b p n prm k i → Closing b p n prm k i prm k 0
unfolding way_end way_names
closing-start {b} {p} {n} {prm} {k} {i} a = record { known = a.one.known; ends = refl; taken = added_none prm; low = omega arith }

module _ {b p : List ℕ} {n : ℕ} {prm : List ℕ} {k i : ℕ} (a : CloseAsks b p n prm k i) {prm₁ : List ℕ} {k₁ h : ℕ} (c : Closing b p n prm k i prm₁ k₁ h) where
  module _ (l : h < i) (r : SortRecord) (e : EntryHas b p k₁ r) where
    pub closing-some : 0 < r.parts.count
    closing-some =
        omega (
          arith,
          a.deep h l,
          ap (λ (s : Sort). count (parts_of s)) c.ends,
          ap count (e n a.one.usable.stored c.known).parts,
          count_at b p n b r.parts.at r.parts.count,
        )

    pub closing-last : r.parts.at + 2 * (r.parts.count - 1) + 2 ≤ length b
    closing-last = omega (arith, closing-some, (e n a.one.usable.stored c.known).place.list)

    closing-names : (v : ℕ) → times v (way_names (sort_at b p n k) (suc h)) ≡ times v (way_names (sort_at b p n k) h) + times v (numbers_at b r.names.at r.names.count)
    unfolding way_names
    closing-names v =
        times-append v (way_names (sort_at b p n k) h) (names_of (way_end (sort_at b p n k) h))
        ∙ ap (λ (us : List ℕ). times v (way_names (sort_at b p n k) h) + times v us)
        (ap names_of c.ends ∙ sym (e n a.one.usable.stored c.known).names)

    pub closing-asks : TakeAsks prm₁ b r.names.at r.names.count
    closing-asks =
        record {
          names =
              record { table = sym c.taken.long ∙ a.table; within = entry-names b p n k₁ a.one.usable c.known r e };
          there = λ v. omega (arith, a.there v, c.taken.each v, closing-names v, times_way v (sort_at b p n k) (suc h) i l);
        }

    pub closing-step : {prm₂ : List ℕ} {k₂ : ℕ} → Added prm₂ (numbers_at b r.names.at r.names.count) prm₁ → k₂ ≡ u16_at b (r.parts.at + 2 * (r.parts.count - 1))
        → Closing b p n prm k i prm₂ k₂ (suc h)
    unfolding way_end
    closing-step {prm₂} {k₂} t q =
        let f : r.parts.count ≡ suc (r.parts.count - 1) = omega (arith, closing-some) in
        record {
          known = omega (arith, q, (entry-refs b p n k₁ a.one.usable c.known r e).below (r.parts.count - 1) (omega (arith, closing-some)));
          ends =
              ap (λ (s : Sort). last_sort (parts_of s)) c.ends
              ∙ ap last_sort (sym (e n a.one.usable.stored c.known).parts)
              ∙ ap (λ (u : ℕ). last_sort (sorts_at b p n b r.parts.at u)) f
              ∙ last-at b p n b r.parts.at (r.parts.count - 1)
              ∙ ap (sort_at b p n) (sym q);
          taken = record { long = c.taken.long ∙ t.long; each = λ v. omega (arith, c.taken.each v, t.each v, closing-names v) };
          low = l;
        }

pub closing_end : {b p : List ℕ} {n : ℕ} {prm : List ℕ} {k i : ℕ} {prm₁ : List ℕ} {k₁ h : ℕ} → Closing b p n prm k i prm₁ k₁ h → i ≤ h → CloseIs b p n prm k i prm₁
closing_end {b} {p} {n} {prm} {k} {i} {prm₁} {k₁} {h} c l =
    let e : h ≡ i = omega (arith, c.low) in subst (λ (u : ℕ). Added prm₁ (way_names (sort_at b p n k) u) prm) e c.taken
