-- What match_with does with two sorts of a store: each return is a case of `match_arms`, whatever map there is and whatever
-- list of names the table lists.
use Prim.Native.Nat.{ℕ, suc, ◌+◌}
use mathlib.Core.Path.{◌≡◌, refl, sym, ap, ap₂, ◌∙◌}
use mathlib.Core.Bool.{Bool, true, false, cond, ◌&&◌}
use mathlib.Core.List.{List, ◌++◌}
use mathlib.Core.Option.{none, some}
use native.Mathlib.Omega.{arith}
use lib.ListN.{get_or}
use lib.Dec.{eqb}
use borrow.Author.Tests.{eq-eqb, ne_eqb}
use Rattle.record.specs.Kinds.{sort_number}
use Rattle.record.specs.Number.{u16_at, numbers_at}
use Rattle.record.specs.Sort.{Sort, Sorts, var, par, node, end, ◌then◌, parts_of, names_of, count, size}
use Rattle.record.specs.Forms.{Which, is_var, is_par, is_node, which}
use Rattle.record.specs.Decode.{sort_at}
use Rattle.record.specs.declared.SortRecord.{SortRecord}
use Rattle.store.specs.Entry.{EntryHas}
use Rattle.substitution.specs.Substitution.{Map}
use Rattle.substitution.specs.Matching.{keep}
use Rattle.substitution.specs.MatchWith.{param_eq, match_with, match_all_with}
use Rattle.substitution.proofs.MatchWithLaws.{match_arms, match_with-is, match_with-equal}
use Rattle.matching_with.specs.declared.Turn.TheVariants.{Holds, Fails, Parts}
use Rattle.matching_tables.specs.Tables.{Lists}
use Rattle.matching_tables.specs.TableLaws.{listed-is, listed-some, listed-none}
use Rattle.matching_tables.specs.Usable.{sorts_at, same_head, PairAsks}
use Rattle.matching_tables.specs.Contract.{AllListed}
use Rattle.matching_with.specs.Contract.{NodeAsks, TurnIs, Meeting, Opened, Passed, Parted}
use Rattle.matching_tables.specs.Entered.{other-number, entry-var, entry-par, entry-node, entry-name, entry-names, entry-once, entry-own, entry-size, entry-body, head-same}
use Rattle.matching_tables.specs.WalkLaws.{both-parts, both-fall, head-differs}
use Rattle.substitution.proofs.MatchingLaws.{keep-none, and_none}

-- Lists of different lengths never match.
uneven : (ns : List ℕ) (ps ts : Sorts) (m : Map) → (count ps ≡ count ts → ⊥) → match_all_with ns ps ts m ≡ none
unfolding match_with count
uneven ns end end m d = absurd (d refl)
uneven ns end (t then ts) m d = refl
uneven ns (p then ps) end m d = refl
uneven ns (p then ps) (t then ts) m d = and_none (match_with ns p t m) (λ k. match_all_with ns ps ts k) (λ k. uneven ns ps ts k (λ e. d (ap suc e)))

module _ {b p : List ℕ} {n : ℕ} (prm : List ℕ) {k j : ℕ} (a : PairAsks b p n k j) where
  pub turn-equal : k ≡ j → TurnIs b p n prm k j Holds
  turn-equal e ns l m =
      sym (match_with-equal ns (sort_at b p n k) m) ∙ ap (λ (i : ℕ). match_with ns (sort_at b p n k) (sort_at b p n i) m) e

  module _ (d : k ≡ j → ⊥) {r : SortRecord} (e : EntryHas b p k r) where
    -- Different sorts go by the arms.
    arms : (ns : List ℕ) (m : Map) → match_arms ns (sort_at b p n k) (sort_at b p n j) m ≡ match_with ns (sort_at b p n k) (sort_at b p n j) m
    arms ns m =
        sym (ap (λ (c : Bool). cond c (some m) (match_arms ns (sort_at b p n k) (sort_at b p n j) m)) (other-number b p n a.usable k j a.left a.right d))
        ∙ sym (match_with-is ns (sort_at b p n k) (sort_at b p n j) m)

    -- The same with the pattern by its entry.
    from : (s : Sort) → sort_at b p n k ≡ s → (ns : List ℕ) (m : Map) → match_arms ns s (sort_at b p n j) m ≡ match_with ns (sort_at b p n k) (sort_at b p n j) m
    from s z ns m = sym (ap (λ (i : Sort). match_arms ns i (sort_at b p n j) m) z) ∙ arms ns m

    ---------------------------------------------------------------- a variable, a Par
    pub turn-unlisted : sort_number r.kind ≡ 2 → get_or prm r.name 0 ≡ 0 → TurnIs b p n prm k j Fails
    turn-unlisted h z ns l m =
        sym (rw (listed-is prm ns l r.name, listed-none prm r.name z) refl)
        ∙ from (var r.name) (entry-var b p n k a.usable a.left r e h) ns m

    pub turn-meets : sort_number r.kind ≡ 2 → (get_or prm r.name 0 ≡ 0 → ⊥) → Meeting b p n prm k j r.name
    turn-meets h z =
        record {
          name = entry-name b p n k a.usable a.left r e;
          own = entry-own b p n k a.usable a.left r e h;
          whole = λ ns l m.
              sym (rw (listed-is prm ns l r.name, listed-some prm r.name z) refl)
              ∙ from (var r.name) (entry-var b p n k a.usable a.left r e h) ns m;
        }

    pub turn-under : sort_number r.kind ≡ 12 → {i : ℕ} → i ≡ u16_at b r.parts.at → Opened b p n k j i r.names.at r.names.count
    turn-under h {i} ei =
        let o = entry-body b p n k a.usable a.left r e h in
        record {
          below = omega (arith, o.0);
          within = entry-names b p n k a.usable a.left r e;
          once = entry-once b p n k a.usable a.left r e;
          names = ap names_of (entry-par b p n k a.usable a.left r e h);
          parts = ap parts_of (entry-par b p n k a.usable a.left r e h) ∙ ap (λ (z : ℕ). sort_at b p n z then end) (sym ei);
          falls = o.1 ∙ ap (λ (z : ℕ). 1 + size (sort_at b p n z)) (sym ei);
          whole = λ ns m.
              ap (λ (z : ℕ). match_with (ns ++ numbers_at b r.names.at r.names.count) (sort_at b p n z) (sort_at b p n j) m) ei
              ∙ from (par (numbers_at b r.names.at r.names.count) (sort_at b p n (u16_at b r.parts.at))) (entry-par b p n k a.usable a.left r e h) ns m;
        }

---------------------------------------------------------------- a node
module _ {b p : List ℕ} {n : ℕ} {prm : List ℕ} {k j : ℕ} {r : SortRecord} (asks : NodeAsks b p n prm r k j) {q : SortRecord} (f : EntryHas b p j q) where
  a : PairAsks b p n k j
  a = asks.turn.pair

  e : EntryHas b p k r
  e = asks.entry

  N : Sort
  N = node (sort_number r.kind) r.name r.number (sorts_at b p n b r.parts.at r.parts.count)

  is_n : sort_at b p n k ≡ N
  unfolding N
  is_n = entry-node b p n k a.usable a.left r e asks.no_var asks.no_par

  -- The same with the target by its entry.
  to : (t : Sort) → sort_at b p n j ≡ t → (ns : List ℕ) (m : Map) → match_arms ns N t m ≡ match_with ns (sort_at b p n k) (sort_at b p n j) m
  to t z ns m = sym (ap (λ (i : Sort). match_arms ns N i m) z) ∙ from prm a asks.differ e N is_n ns m

  -- A Par of the target.
  module _ (h : sort_number q.kind ≡ 12) {c : Bool} (g : AllListed prm b q.names.at q.names.count c) where
    opened : {ns : List ℕ} → Lists prm ns → (m : Map) → keep c (match_with ns (sort_at b p n k) (sort_at b p n (u16_at b q.parts.at)) m) ≡ match_with ns (sort_at b p n k) (sort_at b p n j) m
    unfolding N
    opened {ns} l m =
        ap₂ (λ (t : Bool) (z : Sort). keep t (match_with ns z (sort_at b p n (u16_at b q.parts.at)) m)) (g ns l) is_n
        ∙ to (par (numbers_at b q.names.at q.names.count) (sort_at b p n (u16_at b q.parts.at))) (entry-par b p n j a.usable a.right q f h) ns m

    pub turn-shut : c ≡ false → TurnIs b p n prm k j Fails
    turn-shut z ns l m = sym (rw z refl) ∙ opened l m

    pub turn-through : c ≡ true → {i : ℕ} → i ≡ u16_at b q.parts.at → Passed b p n prm k j i
    turn-through z {i} ei =
        let o = entry-body b p n j a.usable a.right q f h in
        record {
          below = omega (arith, o.0);
          falls = o.1 ∙ ap (λ (v : ℕ). 1 + size (sort_at b p n v)) (sym ei);
          whole = λ ns l m.
              ap (λ (v : ℕ). match_with ns (sort_at b p n k) (sort_at b p n v) m) ei
              ∙ sym (rw z refl) ∙ opened l m;
        }

  -- A target that is a node, with the test of kinds made.
  nodes : (y : sort_number q.kind ≡ 2 → ⊥) (z : sort_number q.kind ≡ 12 → ⊥) (t : Bool) → eqb (sort_number r.kind) (sort_number q.kind) ≡ t → (ns : List ℕ) (m : Map)
      → cond t (keep (eqb r.name q.name && eqb r.number q.number)
      (match_all_with ns (sorts_at b p n b r.parts.at r.parts.count) (sorts_at b p n b q.parts.at q.parts.count) m))
      (keep (param_eq (sort_at b p n k) (sort_at b p n j)) (some m))
      ≡ match_with ns (sort_at b p n k) (sort_at b p n j) m
  unfolding N
  nodes y z t w ns m =
      let v = entry-node b p n j a.usable a.right q f y z in
      ap₂ (λ (t u : Bool). cond t (keep (eqb r.name q.name && eqb r.number q.number)
      (match_all_with ns (sorts_at b p n b r.parts.at r.parts.count) (sorts_at b p n b q.parts.at q.parts.count) m)) (keep u (some m)))
      (sym w) (ap₂ param_eq is_n v)
      ∙ to (node (sort_number q.kind) q.name q.number (sorts_at b p n b q.parts.at q.parts.count)) v ns m

  -- A target of another kind is decided by param_eq.
  module _ (j12 : sort_number q.kind ≡ 12 → ⊥) (o : sort_number r.kind ≡ sort_number q.kind → ⊥) {c : Bool} (g : c ≡ param_eq (sort_at b p n k) (sort_at b p n j)) where
    decided : (ns : List ℕ) (m : Map) → Which (sort_number q.kind) → keep c (some m) ≡ match_with ns (sort_at b p n k) (sort_at b p n j) m
    unfolding N
    decided ns m (is_par y) = absurd (j12 y)
    decided ns m (is_var y) =
        let v = entry-var b p n j a.usable a.right q f y in
        ap (λ (t : Bool). keep t (some m)) (g ∙ ap₂ param_eq is_n v) ∙ to (var q.name) v ns m
    decided ns m (is_node y z) = ap (λ (t : Bool). keep t (some m)) g ∙ nodes y z false (ne_eqb (sort_number r.kind) (sort_number q.kind) o) ns m

    pub turn-param : c ≡ true → TurnIs b p n prm k j Holds
    turn-param z ns l m = sym (rw z refl) ∙ decided ns m (which (sort_number q.kind))

    pub turn-kinds : c ≡ false → TurnIs b p n prm k j Fails
    turn-kinds z ns l m = sym (rw z refl) ∙ decided ns m (which (sort_number q.kind))

  -- A target of the same kind is a node: field by field, then the parts.
  module _ (o : sort_number r.kind ≡ sort_number q.kind) where
    fields : (ns : List ℕ) (m : Map) → keep (eqb r.name q.name && eqb r.number q.number)
        (match_all_with ns (sorts_at b p n b r.parts.at r.parts.count) (sorts_at b p n b q.parts.at q.parts.count) m) ≡ match_with ns (sort_at b p n k) (sort_at b p n j) m
    fields ns m = nodes (λ y. asks.no_var (o ∙ y)) (λ y. asks.no_par (o ∙ y)) true (eq-eqb (sort_number r.kind) (sort_number q.kind) o) ns m

    pub turn-other : same_head r q ≡ false → TurnIs b p n prm k j Fails
    turn-other s ns l m =
        head-differs b p n r q s
        (λ w. let z : (eqb r.name q.name && eqb r.number q.number) ≡ false = rw (eq-eqb (sort_number r.kind) (sort_number q.kind) o) at w in
        sym (rw z refl) ∙ fields ns m)
        (λ y. sym (rw (uneven ns (sorts_at b p n b r.parts.at r.parts.count) (sorts_at b p n b q.parts.at q.parts.count) m y)
        (keep-none (eqb r.name q.name && eqb r.number q.number))) ∙ fields ns m)

    pub turn-parts : same_head r q ≡ true → Parted b p n k j r.parts.at q.parts.at r.parts.count
    unfolding N
    turn-parts s =
        let i = head-same r q s in
        record {
          pairs = both-parts a r q e f s;
          names = ap names_of is_n;
          parts = ap parts_of is_n;
          less = omega (arith, entry-size b p n k a.usable a.left r e);
          falls = both-fall a r q e f s;
          whole = λ ns m. sym (rw (eq-eqb r.name q.name i.1, eq-eqb r.number q.number i.2, ← i.3) refl) ∙ fields ns m;
        }

    pub turn-both : same_head r q ≡ true → TurnIs b p n prm k j (Parts r.parts q.parts)
    turn-both s = (turn-parts s, sym (head-same r q s).3)
