-- match_with over a store: what is to be done is done, on whatever list of names the table lists, and the table is as it was.
use Prim.Native.Nat.{ℕ, ◌+◌, ◌≤◌}
use mathlib.Core.Path.{◌≡◌, refl, sym, ap, subst, ◌∙◌}
use mathlib.Core.List.{List, [], ◌∷◌}
use native.Mathlib.Omega.{arith}
use lib.ListN.{length, get_or}
use Rattle.record.specs.Number.{numbers_at}
use Rattle.record.specs.Sort.{size, sizes}
use Rattle.record.specs.Record.{sorts_of}
use Rattle.record.specs.Decode.{store_of, sort_at}
use Rattle.record.specs.declared.span.Span.{Span}
use Rattle.substitution.specs.Matching.{and_then}
use Rattle.substitution.specs.MatchWith.{match_with, match_all_with}
use Rattle.matching_tables.specs.Matched.{Matched, Fits, Misfits}
use Rattle.matching_with.specs.declared.Turn.{Turn}
use Rattle.matching_with.specs.declared.Turn.TheVariants.{Meets, Under, Past, Parts}
use Rattle.matching_tables.specs.Tables.{times, Lists, Added, table_map, Mapped}
use Rattle.matching_tables.specs.TableLaws.{times-once}
use Rattle.matching_tables.specs.Usable.{ListsAsk}
use Rattle.matching_tables.specs.Contract.{count_of, matched_map, AddAsks}
use Rattle.matching_with.specs.Contract.{MeetWithIs, WithAsks, WithAllAsks, WithListsAsk, WithIs, PairWith, PairsWith, ListsWith, TurnIs, Meeting, Opened, Passed, Parted}
use Rattle.matching_tables.specs.Entered.{sorts-end}
use Rattle.matching_tables.specs.WalkLaws.{lists-ask, below-first, below-rest}

module _ {b p : List ℕ} {n : ℕ} {prm imgs bnd : List ℕ} {m k j : ℕ} (a : WithAsks b p n prm imgs bnd m k j) (z : Turn) (g : TurnIs b p n prm k j z) where
  ---------------------------------------------------------------- a parameter
  module _ (v : ℕ) (e : z ≡ Meets v) where
    meeting : Meeting b p n prm k j v
    meeting = subst (TurnIs b p n prm k j) e g

    pub general-met : (imgs' bnd' : List ℕ) (q : Matched) → MeetWithIs b p n imgs bnd m v j imgs' bnd' q → WithIs b p n prm prm imgs' bnd' q (PairWith b p n imgs bnd m k j)
    general-met imgs' bnd' q h =
        record { params = refl; mapped = h.mapped; result = λ ns l. h.result ∙ meeting.whole ns l (table_map (store_of b p n) imgs bnd m) }

  ---------------------------------------------------------------- a Par of the pattern
  module _ (i : ℕ) (x : Span) (e : z ≡ Under i x) where
    pub under : Opened b p n k j i x.at x.count
    under = subst (TurnIs b p n prm k j) e g

    -- Each of its names is listed once more, so what it needs is the room for one.
    once : (v : ℕ) → times v (numbers_at b x.at x.count) ≤ 1
    once v = times-once v (numbers_at b x.at x.count) under.once

    pub names-added : AddAsks prm b x.at x.count
    names-added =
        record { names = record { table = a.table; within = under.within }; room = λ v. omega (arith, a.room v, once v, under.falls) }

    module _ {prm₁ : List ℕ} (s : Added prm (numbers_at b x.at x.count) prm₁) where
      pub body-asks : WithAsks b p n prm₁ imgs bnd m i j
      body-asks =
          record {
            pair = record { usable = a.pair.usable; left = under.below; right = a.pair.right };
            table = s.long ∙ a.table;
            room = λ v. omega (arith, a.room v, once v, s.each v, under.falls);
            mapped = a.mapped;
          }

  ---------------------------------------------------------------- a Par of the target
  module _ (i : ℕ) (e : z ≡ Past i) where
    pub through : Passed b p n prm k j i
    through = subst (TurnIs b p n prm k j) e g

    pub target-asks : WithAsks b p n prm imgs bnd m k i
    target-asks =
        record {
          pair = record { usable = a.pair.usable; left = a.pair.left; right = through.below };
          table = a.table;
          room = a.room;
          mapped = a.mapped;
        }

  ---------------------------------------------------------------- the parts of two nodes
  module _ (x y : Span) (e : z ≡ Parts x y) where
    pub parted : Parted b p n k j x.at y.at x.count × (y.count ≡ x.count)
    parted = subst (TurnIs b p n prm k j) e g

    pub general-parts : {prm' imgs' bnd' : List ℕ} {q : Matched} → WithIs b p n prm prm' imgs' bnd' q (PairsWith b p n imgs bnd m b x.at b y.at x.count)
        → WithIs b p n prm prm' imgs' bnd' q (PairWith b p n imgs bnd m k j)
    general-parts {prm'} {imgs'} {bnd'} {q} h =
        record { params = h.params; mapped = h.mapped; result = λ ns l. h.result ns l ∙ parted.0.whole ns (table_map (store_of b p n) imgs bnd m) }

    pub general-empty : x.count ≡ 0 → WithIs b p n prm prm imgs bnd (Fits m) (PairWith b p n imgs bnd m k j)
    unfolding match_with
    general-empty c =
        general-parts
        (record {
          params = refl;
          mapped = a.mapped;
          result = λ ns l. rw (sorts-end b p n b x.at x.count c, sorts-end b p n b y.at x.count c) refl;
        })

---------------------------------------------------------------- along two lists
module _ {b p : List ℕ} {n : ℕ} {prm imgs bnd : List ℕ} {m : ℕ} {ks js : List ℕ} (a : WithListsAsk b p n prm imgs bnd m ks js) where
  pub general-none : ks ≡ [] → js ≡ [] → WithIs b p n prm prm imgs bnd (Fits m) (ListsWith b p n imgs bnd m ks js)
  unfolding match_with sorts_of
  general-none e d = record { params = refl; mapped = a.mapped; result = λ ns l. rw (e, d) refl }

  module _ {k j : ℕ} {ks' js' : List ℕ} (ek : ks ≡ k ∷ ks') (ej : js ≡ j ∷ js') where
    lists : ListsAsk b p n (k ∷ ks') (j ∷ js')
    lists = rw (← ek, ← ej) a.lists

    pub left-size : sizes (sorts_of (store_of b p n) ks) ≡ size (sort_at b p n k) + sizes (sorts_of (store_of b p n) ks')
    unfolding sorts_of sort_at size
    left-size = ap (λ (w : List ℕ). sizes (sorts_of (store_of b p n) w)) ek

    pub right-size : sizes (sorts_of (store_of b p n) js) ≡ size (sort_at b p n j) + sizes (sorts_of (store_of b p n) js')
    unfolding sorts_of sort_at size
    right-size = ap (λ (w : List ℕ). sizes (sorts_of (store_of b p n) w)) ej

    pub general-first : WithAsks b p n prm imgs bnd m k j
    general-first =
        record {
          pair = record { usable = lists.usable; left = below-first k ks' n lists.left; right = below-first j js' n lists.right };
          table = a.table;
          room = λ v. omega (arith, a.room v, left-size);
          mapped = a.mapped;
        }

    module _ {prm' imgs' bnd' : List ℕ} {z : Matched} (g : WithIs b p n prm prm' imgs' bnd' z (PairWith b p n imgs bnd m k j)) where
      pub general-rest : (i : ℕ) → z ≡ Fits i → WithListsAsk b p n prm' imgs' bnd' i ks' js'
      general-rest i e =
          record {
            lists =
                record {
                  usable = lists.usable;
                  left = below-rest k ks' n lists.left;
                  right = below-rest j js' n lists.right;
                  even = omega (arith, lists.even);
                };
            table = ap length g.params ∙ a.table;
            room = λ v. omega (arith, a.room v, left-size, ap (λ (l : List ℕ). get_or l v 0) g.params);
            mapped = subst (λ (w : Matched). Mapped b p n imgs' bnd' (count_of w)) e g.mapped;
          }

      step : {ns : List ℕ} → Lists prm ns → and_then (matched_map (store_of b p n) imgs' bnd' z) (λ w. match_all_with ns (sorts_of (store_of b p n) ks') (sorts_of (store_of b p n) js') w)
          ≡ ListsWith b p n imgs bnd m ks js ns
      unfolding match_with sorts_of sort_at
      step {ns} l = rw (g.result ns l, ek, ej) refl

      pub general-more : (i : ℕ) → z ≡ Fits i → {ns : List ℕ} → Lists prm ns
          → ListsWith b p n imgs' bnd' i ks' js' ns ≡ ListsWith b p n imgs bnd m ks js ns
      general-more i e {ns} l =
          sym (ap (λ (v : Matched). and_then (matched_map (store_of b p n) imgs' bnd' v) (λ u. match_all_with ns (sorts_of (store_of b p n) ks') (sorts_of (store_of b p n) js') u)) e)
          ∙ step l

      pub general-misfit : (i : ℕ) → z ≡ Misfits i → WithIs b p n prm prm' imgs' bnd' (Misfits i) (ListsWith b p n imgs bnd m ks js)
      general-misfit i e =
          record {
            params = g.params;
            mapped = subst (λ (w : Matched). Mapped b p n imgs' bnd' (count_of w)) e g.mapped;
            result = λ ns l.
                sym (ap (λ (v : Matched). and_then (matched_map (store_of b p n) imgs' bnd' v) (λ u. match_all_with ns (sorts_of (store_of b p n) ks') (sorts_of (store_of b p n) js') u)) e)
                ∙ step l;
          }

-- The same for lists of bytes.
pub with-lists : {b p : List ℕ} {n : ℕ} {prm imgs bnd : List ℕ} {m : ℕ} {s : List ℕ} {x : ℕ} {t : List ℕ} {y c : ℕ} {ks js : List ℕ}
    → WithAllAsks b p n prm imgs bnd m s x t y c → ks ≡ numbers_at s x c → js ≡ numbers_at t y c → WithListsAsk b p n prm imgs bnd m ks js
with-lists a ek ej = rw (ek, ej) (record { lists = lists-ask a.pairs; table = a.table; room = a.room; mapped = a.mapped })
