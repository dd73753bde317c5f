-- The columns of relations in the store's bytes, and the lists that are put together of them.
use Prim.Native.Nat.{ℕ, zero, suc, ◌+◌, ◌*◌, ◌-◌, ◌≤◌, ◌<◌}
use mathlib.Core.Path.{◌≡◌, refl, sym, ap, ap₂, subst, ◌∙◌}
use mathlib.Core.Bool.{Bool, true, false}
use mathlib.Core.List.{List}
use mathlib.Core.Option.{none, some}
use native.Mathlib.Omega.{arith}
use native.Mathlib.Nat.{not-suc-le-zero}
use native.Mathlib.Decide.{dec_lt}
use lib.ListN.{length, get_or}
use lib.Dec.{leb}
use borrow.Author.Tests.{ne_eqb, le-leb, lt-leb}
use denote.Enum.Bare.{sameb}
use Rattle.std.specs.Prelude.{Result, Option, Some, None, Ok, Err, ok_or}
use Rattle.std.specs.Bool.{then_some}
use Rattle.record.specs.Number.{u16_at, numbers_at}
use Rattle.record.specs.Kinds.{sort_number}
use Rattle.record.specs.declared.span.Span.{Span}
use Rattle.record.specs.contracts.kinds.SortKind.{the_type}
use Rattle.record.specs.declared.kinds.SortKind.TheVariants.{Tuple}
use Rattle.record.specs.Sort.{Sort, Sorts, var, par, node, end, ◌then◌, set, tuple, kind_of}
use Rattle.record.specs.Record.{leaf, sorts_of}
use Rattle.record.specs.Decode.{store_of, sort_at, Stored}
use Rattle.record.specs.StoreLaws.{parts_more}
use Rattle.record.specs.declared.SortRecord.{SortRecord}
use Rattle.store.specs.Good.{Good}
use Rattle.store.specs.Entry.{EntryAsks, EntryHas}
use Rattle.store.specs.Walk.{entry-asks, walk-node}
use Rattle.row_rules.specs.declared.Cause.{Cause}
use Rattle.row_rules.specs.declared.Cause.TheVariants.{Panics}
use Rattle.row_rules.specs.Verdict.{Verdict, sort, refused}
use Rattle.row_rules.specs.Lists.{appended, all_but_last}
use Rattle.infer_rules.specs.Inferred.{columns, backwards, join_of, product_of, over_columns, over_both}
use Rattle.row_answer.specs.Arguments.{put_at, Filled, filled_more}
use Rattle.store.specs.declared.Store.{Store}
use Rattle.store.specs.declared.entries.Entries.{Entries}
use Rattle.row_answer.specs.declared.arguments.Args.{Args}
use Rattle.row_answer.specs.Heads.{HeadAsks}
use Rattle.row_answer.specs.Asks.{StoredListAsks}
use Rattle.row_answer.specs.SetParts.{one-part, part-place}
use Rattle.infer_operator.specs.Asks.{Referring, sorts_in, ReadArgumentsAsk, ArgumentsAsk, refer-rest, sorts-first}
use Rattle.infer_operator.specs.Single.{argument_of}
use Rattle.infer_operator.specs.Relations.{ColumnsIs, ColumnsHas, ColumnsStand, Having, BothIs, BothHas, PutHas, BackwardsIs, SideAsks}
use Rattle.matching_tables.specs.KindTests.{kind-is, kind-not}
use Rattle.infer_operator.proofs.AnswerWays.{lent, back, first-known}

---------------------------------------------------------------- the columns of a sort
not-tuple : (a w : ℕ) (t : Sort) (ss : Sorts) → (kind_of t ≡ 15 → ⊥) → columns (node 14 a w (t then ss)) ≡ none
not-tuple a w (var v) ss d = refl
not-tuple a w (par ns t) ss d = refl
not-tuple a w (node l c x cs) ss d = rw (ne_eqb l 15 d) refl

module _ {b p : List ℕ} {k : ℕ} (r : SortRecord) (q : EntryHas b p k r) where
  -- The sort inside a Set, by the number that was read.
  module _ (i : sort_number r.kind ≡ 14) where
    pub inner-place : HeadAsks b p k → r.parts.at + 2 ≤ length b
    inner-place (n, h) = part-place r q i h.stored h.known

    module _ {v : ℕ} (z : v ≡ u16_at b (r.parts.at + 2 * 0)) where
      inner_below : {n : ℕ} → Stored b p n → k < n → v < n
      inner_below {n} st l = omega (arith, l, z, (q n st l).below 0 (omega (arith, one-part r q i st l)))

      pub inner-entry : HeadAsks b p k → EntryAsks b p v
      inner-entry (n, h) = entry-asks b p n v h.stored (inner_below h.stored h.known)

      inner-sort : {n : ℕ} → Stored b p n → k < n → sort_at b p n k ≡ node 14 r.name r.number (sort_at b p n v then sorts_in b p n b (r.parts.at + 2) (r.parts.count - 1))
      unfolding sort_at
      inner-sort {n} st l =
          let o : r.parts.at + 2 * 0 ≡ r.parts.at = omega arith in
          walk-node b p n k st l r (q n st l) (λ y. absurd (omega arith)) (λ y. absurd (omega arith))
          ∙ ap₂ (λ (j : ℕ) (ss : Sorts). node j r.name r.number ss) i
          (parts_more (store_of b p n) b r.parts.at r.parts.count (omega (arith, one-part r q i st l))
          ∙ ap (λ (j : ℕ). get_or (store_of b p n) j leaf then sorts_in b p n b (r.parts.at + 2) (r.parts.count - 1)) (sym (z ∙ ap (u16_at b) o)))

      module _ (c : SortRecord) (d : EntryHas b p v c) where
        columns-list : sort_number c.kind ≡ 15 → ColumnsHas b p k (Some c.parts)
        columns-list h n st l =
            let o = inner_below st l in
            let e = d n st o in
            let cs = sorts_in b p n b c.parts.at c.parts.count in (
              ap columns (inner-sort st l)
                  ∙ ap (λ (t : Sort). columns (node 14 r.name r.number (t then sorts_in b p n b (r.parts.at + 2) (r.parts.count - 1))))
                  (walk-node b p n v st o c e (λ y. absurd (omega arith)) (λ y. absurd (omega arith))
                  ∙ ap (λ (j : ℕ). node j c.name c.number cs) h),
              record { within = e.place.list; below = λ j y. omega (arith, o, e.below j y); few = e.few },
            )

        tuple-none : (sort_number c.kind ≡ 15 → ⊥) → ColumnsHas b p k None
        tuple-none h n st l =
            ap columns (inner-sort st l)
            ∙ not-tuple r.name r.number (sort_at b p n v) (sorts_in b p n b (r.parts.at + 2) (r.parts.count - 1)) (λ y. h ((d n st (inner_below st l)).kind ∙ y))

        pub columns-by : (t : Bool) → t ≡ sameb the_type c.kind Tuple → ColumnsHas b p k (then_some t c.parts)
        columns-by true e = columns-list (kind-is c.kind Tuple e refl)
        columns-by false e = tuple-none (kind-not c.kind Tuple e refl)

---------------------------------------------------------------- lists put together
-- Equal numbers; one list behind another; a list backwards; all but its last.
module _ (st : List Sort) (c b : List ℕ) where
  same-sorts : (z x m : ℕ) → ((j : ℕ) → j < m → u16_at c (z + 2 * j) ≡ u16_at b (x + 2 * j)) → sorts_of st (numbers_at c z m) ≡ sorts_of st (numbers_at b x m)
  unfolding sorts_of numbers_at
  same-sorts z x zero h = refl
  same-sorts z x (suc m) h =
      let ez : z + 2 * 0 ≡ z = omega arith in
      let ex : x + 2 * 0 ≡ x = omega arith in
      ap₂ (λ (i : ℕ) (ss : Sorts). get_or st i leaf then ss) (sym (ap (u16_at c) ez) ∙ h 0 (omega arith) ∙ ap (u16_at b) ex)
      (same-sorts (z + 2) (x + 2) m
      (λ j l.
      let fz : z + 2 + 2 * j ≡ z + 2 * suc j = omega arith in
      let fx : x + 2 * suc j ≡ x + 2 + 2 * j = omega arith in
      ap (u16_at c) fz ∙ h (suc j) (omega arith) ∙ ap (u16_at b) fx))

  sorts-append : (z x m y q : ℕ) → ((j : ℕ) → j < m → u16_at c (z + 2 * j) ≡ u16_at b (x + 2 * j)) → ((j : ℕ) → j < q → u16_at c (z + 2 * (m + j)) ≡ u16_at b (y + 2 * j))
      → sorts_of st (numbers_at c z (m + q)) ≡ appended (sorts_of st (numbers_at b x m)) (sorts_of st (numbers_at b y q))
  unfolding sorts_of numbers_at appended
  sorts-append z x zero y q h g =
      let e : 0 + q ≡ q = omega arith in
      ap (λ (i : ℕ). sorts_of st (numbers_at c z i)) e
      ∙ same-sorts z y q (λ j l. let o : z + 2 * j ≡ z + 2 * (0 + j) = omega arith in ap (u16_at c) o ∙ g j l)
  sorts-append z x (suc m) y q h g =
      let e : suc m + q ≡ suc (m + q) = omega arith in
      let ez : z + 2 * 0 ≡ z = omega arith in
      let ex : x + 2 * 0 ≡ x = omega arith in
      ap (λ (i : ℕ). sorts_of st (numbers_at c z i)) e
      ∙ ap₂ (λ (i : ℕ) (ss : Sorts). get_or st i leaf then ss) (sym (ap (u16_at c) ez) ∙ h 0 (omega arith) ∙ ap (u16_at b) ex)
      (sorts-append (z + 2) (x + 2) m y q
      (λ j l.
      let fz : z + 2 + 2 * j ≡ z + 2 * suc j = omega arith in
      let fx : x + 2 * suc j ≡ x + 2 + 2 * j = omega arith in
      ap (u16_at c) fz ∙ h (suc j) (omega arith) ∙ ap (u16_at b) fx)
      (λ j l. let fz : z + 2 + 2 * (m + j) ≡ z + 2 * (suc m + j) = omega arith in ap (u16_at c) fz ∙ g j l))

  sorts-back : (z x m q : ℕ) → ((j : ℕ) → j < m → u16_at c (z + 2 * j) ≡ u16_at b (x + 2 * (m - 1 - j)))
      → sorts_of st (numbers_at c z (m + q)) ≡ backwards (sorts_of st (numbers_at b x m)) (sorts_of st (numbers_at c (z + 2 * m) q))
  unfolding sorts_of numbers_at backwards
  sorts-back z x zero q h =
      let e : 0 + q ≡ q = omega arith in
      let o : z ≡ z + 2 * 0 = omega arith in
      ap₂ (λ (i j : ℕ). sorts_of st (numbers_at c i j)) o e
  sorts-back z x (suc m) q h =
      let e : suc m + q ≡ m + suc q = omega arith in
      let o : x + 2 * (suc m - 1 - m) ≡ x = omega arith in
      let w : z + 2 * m + 2 ≡ z + 2 * suc m = omega arith in
      ap (λ (i : ℕ). sorts_of st (numbers_at c z i)) e
      ∙ sorts-back z (x + 2) m (suc q)
      (λ j l. let f : x + 2 * (suc m - 1 - j) ≡ x + 2 + 2 * (m - 1 - j) = omega arith in h j (omega arith) ∙ ap (u16_at b) f)
      ∙ ap₂ (λ (i y : ℕ). backwards (sorts_of st (numbers_at b (x + 2) m)) (get_or st i leaf then sorts_of st (numbers_at c y q))) (h m (omega arith) ∙ ap (u16_at b) o) w

but_last : (st : List Sort) (b : List ℕ) (x m : ℕ) → all_but_last (sorts_of st (numbers_at b x (suc m))) ≡ sorts_of st (numbers_at b x m)
unfolding sorts_of numbers_at all_but_last
but_last st b x zero = refl
but_last st b x (suc m) = ap (λ (ss : Sorts). get_or st (u16_at b x) leaf then ss) (but_last st b (x + 2) m)

---------------------------------------------------------------- putting columns
pub put-more : (b : List ℕ) (x m : ℕ) (a : List ℕ) (i : ℕ) (c : List ℕ) {v : ℕ} → 3 + 2 * (i + m) + 2 ≤ length c → v ≡ u16_at b (x + 2 * m)
    → PutHas b x m a i c → PutHas b x (m + 1) a i (put_at c (3 + 2 * (i + m)) v)
put-more b x m a i c {v} room z h f g e =
    let o : i + m + 1 ≡ i + (m + 1) = omega arith in
    subst (λ (j : ℕ). Filled (put_at c (3 + 2 * (i + m)) v) f j) o
    (filled_more c f (i + m) v room (z ∙ e m (omega arith)) (h f g (λ j l. e j (omega arith))))

---------------------------------------------------------------- the columns backwards
module _ {b : List ℕ} (p ix : List ℕ) {n : ℕ} (u : ℕ) {x m : ℕ} (st : ColumnsStand b n x m) (c : List ℕ) (h : BackwardsIs b x m c) where
  backwards-asks : Good b p ix n u → 131 ≤ length c → StoredListAsks b p ix n u c m
  backwards-asks g room = record { good = g; room = room; below = λ j l. omega (arith, h j l, st.below (m - 1 - j) (omega arith)) }

  backwards-is : sorts_in b p n c 3 m ≡ backwards (sorts_in b p n b x m) end
  unfolding sorts_of numbers_at
  backwards-is =
      let e : m ≡ m + 0 = omega arith in
      ap (λ (i : ℕ). sorts_in b p n c 3 i) e ∙ sorts-back (store_of b p n) c b 3 x m 0 h

pub back-put : {b p ix : List ℕ} {n u : ℕ} → Good b p ix n u → {x m : ℕ} → ColumnsStand b n x m → (s c : List ℕ) {k : ℕ} → s ≡ b → BackwardsIs s x m c → k ≡ m → 131 ≤ length c
    → StoredListAsks b p ix n u c k × (sorts_in b p n c 3 k ≡ backwards (sorts_in b p n b x m) end)
back-put {b} {p} {ix} {n} {u} g {x} {m} st s c {k} e h q room =
    let put = subst (λ (v : List ℕ). BackwardsIs v x m c) e h in
    subst (λ (v : ℕ). StoredListAsks b p ix n u c v × (sorts_in b p n c 3 v ≡ backwards (sorts_in b p n b x m) end)) (sym q)
    (backwards-asks p ix u st c put g room, backwards-is p ix u st c put)

-- What `columns_of` and `ok_or` gave of the sort k.
module _ (b p : List ℕ) (n k : ℕ) where
  pub columns-missing : (r : Option Span) → ColumnsIs b p n (sort_at b p n k) r → {c : Cause} → ok_or r Panics ≡ Err c → columns (sort_at b p n k) ≡ none
  columns-missing (Some x) h e = cc
  columns-missing None h e = h

  pub columns-read : (r : Option Span) → ColumnsIs b p n (sort_at b p n k) r → {x : Span} → ok_or r Panics ≡ Ok x → ColumnsIs b p n (sort_at b p n k) (Some x)
  columns-read (Some v) h {x} e = let q : v ≡ x = cc in subst (λ (o : Span). ColumnsIs b p n (sort_at b p n k) (Some o)) q h
  columns-read None h e = cc

-- Of the first argument, whose columns were read in the entries that the store lends.
module _ (z : Entries) (s : Store) (er : z.records.now ≡ s.records.now) (ep : z.places.now ≡ s.places.now)
    (a : Args) {r : Result ℕ Cause} (e : r ≡ argument_of a 0) {k : ℕ} (taken : r ≡ Ok k) (h : ArgumentsAsk s a) where
  pub head-asks : HeadAsks z.records.now z.places.now k
  head-asks = lent z s er ep (λ (b p : List ℕ). HeadAsks b p k) (s.count, record { stored = s.good.stored; known = first-known s a e taken h })

  pub head-columns : (v : Option Span) → ColumnsHas z.records.now z.places.now k v → ColumnsIs s.records.now s.places.now s.count (sort_at s.records.now s.places.now s.count k) v
  head-columns v has = back z s er ep (λ (b p : List ℕ). ColumnsHas b p k v) has s.count s.good.stored (first-known s a e taken h)

---------------------------------------------------------------- side by side
abbrev side_by : Bool → ℕ → ℕ → ℕ
side_by true i j = i
side_by false i j = j

-- The number j of m from x on and then those from y on.
abbrev side_at : List ℕ → ℕ → ℕ → ℕ → ℕ → ℕ
side_at b x m y j = side_by (leb (suc j) m) (u16_at b (x + 2 * j)) (u16_at b (y + 2 * (j - m)))

side-low : (b : List ℕ) (x m y j : ℕ) → j < m → side_at b x m y j ≡ u16_at b (x + 2 * j)
side-low b x m y j l = rw (le-leb (suc j) m l) refl

side-high : (b : List ℕ) (x m y j : ℕ) → side_at b x m y (m + j) ≡ u16_at b (y + 2 * j)
side-high b x m y j =
    let e : m + j - m ≡ j = omega arith in
    rw (lt-leb (suc (m + j)) m (omega arith)) (ap (λ (i : ℕ). u16_at b (y + 2 * i)) e)

module _ {b p ix : List ℕ} {n u : ℕ} {a : List ℕ} {x m y q : ℕ} (asks : SideAsks b p ix n u a x m y q) where
  module _ (o c d : List ℕ) (hc : PutHas b x m o 0 c) (hd : PutHas b y q c m d) where
    filled : Filled d (side_at b x m y) (m + q)
    filled =
        let z : 0 + m ≡ m = omega arith in
        hd (side_at b x m y)
        (subst (λ (i : ℕ). Filled c (side_at b x m y) i) z
        (hc (side_at b x m y) (λ j l. absurd (not-suc-le-zero l))
        (λ j l. let o : j ≡ 0 + j = omega arith in sym (side-low b x m y j l) ∙ ap (side_at b x m y) o)))
        (λ j l. sym (side-high b x m y j))

    low-is : (j : ℕ) → j < m → u16_at d (3 + 2 * j) ≡ u16_at b (x + 2 * j)
    low-is j l = filled j (omega arith) ∙ side-low b x m y j l

    high_is : (j : ℕ) → j < q → u16_at d (3 + 2 * (m + j)) ≡ u16_at b (y + 2 * j)
    high_is j l = filled (m + j) (omega arith) ∙ side-high b x m y j

    side-asks : length d ≡ length a → StoredListAsks b p ix n u d (m + q)
    side-asks e = record { good = asks.good; room = omega (arith, asks.room); below = λ j l. go j l (dec_lt j m) }
      where
        go : (j : ℕ) → j < m + q → Dec (j < m) → u16_at d (3 + 2 * j) < n
        go j l (yes o) = omega (arith, low-is j o, asks.left.below j o)
        go j l (no o) =
            let i : j - m < q = omega arith in
            let z : m + (j - m) ≡ j = omega arith in
            subst (λ (k : ℕ). u16_at d (3 + 2 * k) < n) z (omega (arith, high_is (j - m) i, asks.right.below (j - m) i))

    side-is : product_of (sorts_in b p n b x m) (sorts_in b p n b y q) ≡ sort (set (tuple (sorts_in b p n d 3 (m + q))))
    side-is = ap (λ (ss : Sorts). sort (set (tuple ss))) (sym (sorts-append (store_of b p n) d b 3 x m y q low-is high_is))

  -- The list after both were put, by the counts that were there.
  pub sides-put : {s : List ℕ} (o c d : List ℕ) {i j k : ℕ} → s ≡ b → PutHas s x m o i c → PutHas s y q c j d → i ≡ 0 → j ≡ i + m → k ≡ j + q → length d ≡ length a
      → StoredListAsks b p ix n u d k × (product_of (sorts_in b p n b x m) (sorts_in b p n b y q) ≡ sort (set (tuple (sorts_in b p n d 3 k))))
  sides-put {s} o c d {i} {j} {k} f hc hd z ej ek e =
      let one = subst (λ (v : List ℕ). PutHas v x m o i c) f hc in
      let two = subst (λ (v : List ℕ). PutHas v y q c j d) f hd in
      let first = subst (λ (v : ℕ). PutHas b x m o v c) z one in
      let jm : j ≡ m = omega arith in
      let second = subst (λ (v : ℕ). PutHas b y q c v d) jm two in
      let all : m + q ≡ k = omega arith in (
        subst (λ (v : ℕ). StoredListAsks b p ix n u d v) all (side-asks o c d first second e),
        side-is o c d first second ∙ ap (λ (v : ℕ). sort (set (tuple (sorts_in b p n d 3 v)))) all,
      )

  --------------------------------------------------------------- without the shared columns
  pub join-panics : q ≡ 0 → join_of (sorts_in b p n b x m) (sorts_in b p n b y q) ≡ refused Panics
  unfolding sorts_of numbers_at
  join-panics z = ap (λ (i : ℕ). join_of (sorts_in b p n b x m) (sorts_in b p n b y i)) z

  module _ (more : 0 < q) where
    less-right : ColumnsStand b n (y + 2) (q - 1)
    less-right =
        record {
          within = omega (arith, asks.right.within);
          below = λ j l. let e : y + 2 * (j + 1) ≡ y + 2 + 2 * j = omega arith in subst (λ (i : ℕ). u16_at b i < n) e (asks.right.below (j + 1) (omega arith));
          few = omega (arith, asks.right.few);
        }

    without : (ds : Sorts) → all_but_last (sorts_in b p n b x m) ≡ ds → join_of (sorts_in b p n b x m) (sorts_in b p n b y q) ≡ product_of ds (sorts_in b p n b (y + 2) (q - 1))
    without ds e =
        ap (join_of (sorts_in b p n b x m)) (parts_more (store_of b p n) b y q more)
        ∙ ap (λ (i : Sorts). sort (set (tuple (appended i (sorts_in b p n b (y + 2) (q - 1)))))) e

    less-asks : SideAsks b p ix n u a x (m - 1) (y + 2) (q - 1)
    less-asks =
        record {
          good = asks.good;
          room = asks.room;
          left = record { within = omega (arith, asks.left.within); below = λ j l. asks.left.below j (omega arith); few = omega (arith, asks.left.few) };
          right = less-right;
        }

    join-less : 0 < m → join_of (sorts_in b p n b x m) (sorts_in b p n b y q) ≡ product_of (sorts_in b p n b x (m - 1)) (sorts_in b p n b (y + 2) (q - 1))
    join-less l =
        let e : m ≡ suc (m - 1) = omega arith in
        without (sorts_in b p n b x (m - 1)) (ap (λ (i : ℕ). all_but_last (sorts_in b p n b x i)) e ∙ but_last (store_of b p n) b x (m - 1))

    -- Without columns on the left side there is no last one.
    join-drops : join_of (sorts_in b p n b x m) (sorts_in b p n b y q) ≡ product_of (sorts_in b p n b x (m - 1)) (sorts_in b p n b (y + 2) (q - 1))
    unfolding all_but_last sorts_of numbers_at
    join-drops = go m refl
      where
        go : (v : ℕ) → m ≡ v → join_of (sorts_in b p n b x m) (sorts_in b p n b y q) ≡ product_of (sorts_in b p n b x (m - 1)) (sorts_in b p n b (y + 2) (q - 1))
        go zero e =
            let o : m - 1 ≡ 0 = omega arith in
            without end (ap (λ (v : ℕ). all_but_last (sorts_in b p n b x v)) e)
            ∙ ap (λ (v : ℕ). product_of (sorts_in b p n b x v) (sorts_in b p n b (y + 2) (q - 1))) (sym o)
        go (suc v) e = join-less (omega arith)

    -- The same at the places and counts that were computed.
    pub join-sides : {v w z : ℕ} → v ≡ m - 1 → w ≡ y + 2 → z ≡ q - 1
        → SideAsks b p ix n u a x v w z × (join_of (sorts_in b p n b x m) (sorts_in b p n b y q) ≡ product_of (sorts_in b p n b x v) (sorts_in b p n b w z))
    join-sides {v} {w} {z} e f g =
        let J = λ (i j k : ℕ). SideAsks b p ix n u a x i j k × (join_of (sorts_in b p n b x m) (sorts_in b p n b y q) ≡ product_of (sorts_in b p n b x i) (sorts_in b p n b j k)) in
        subst (λ (i : ℕ). J i w z) (sym e) (subst (λ (j : ℕ). J (m - 1) j z) (sym f) (subst (λ (k : ℕ). J (m - 1) (y + 2) k) (sym g) (less-asks, join-drops)))

---------------------------------------------------------------- two relations
none_both : (f : Sorts → Sorts → Verdict) (st : List Sort) (a : List ℕ) (x m : ℕ) → m < 2 → over_both f (sorts_of st (numbers_at a x m)) ≡ refused Panics
unfolding sorts_of numbers_at
none_both f st a x zero l = refl
none_both f st a x (suc zero) l = refl
none_both f st a x (suc (suc m)) l = absurd (omega arith)

over-left : (f : Sorts → Sorts → Verdict) (s t : Sort) (ss : Sorts) → columns s ≡ none → over_both f (s then (t then ss)) ≡ refused Panics
over-left f s t ss h = ap (over_columns (λ xs. over_columns (λ ys. f xs ys) (columns t))) h

over-right : (f : Sorts → Sorts → Verdict) (s t : Sort) (ss xs : Sorts) → columns s ≡ some xs → columns t ≡ none → over_both f (s then (t then ss)) ≡ refused Panics
over-right f s t ss xs h g = ap (over_columns (λ xs. over_columns (λ ys. f xs ys) (columns t))) h ∙ ap (over_columns (λ ys. f xs ys)) g

over-two : (f : Sorts → Sorts → Verdict) (s t : Sort) (ss xs ys : Sorts) → columns s ≡ some xs → columns t ≡ some ys → over_both f (s then (t then ss)) ≡ f xs ys
over-two f s t ss xs ys h g = ap (over_columns (λ xs. over_columns (λ ys. f xs ys) (columns t))) h ∙ ap (over_columns (λ ys. f xs ys)) g

-- The first two of the arguments, by what their columns are.
module _ (b p a : List ℕ) (m : ℕ) where
  pub both-few : m < 2 → BothHas b p a m None
  both-few l n h f = none_both f (store_of b p n) a 3 m l

  module _ (l : 2 ≤ m) {k v : ℕ} (e : k ≡ u16_at a (3 + 2 * 0)) (z : v ≡ u16_at a (3 + 2 * 1)) where
    two-known : {n : ℕ} → Referring b p n a 3 m → (k < n) × (v < n)
    two-known h = (omega (arith, e, h.below 0 (omega arith)), omega (arith, z, h.below 1 (omega arith)))

    pub right-asks : ReadArgumentsAsk b p a 3 m → HeadAsks b p v
    right-asks (n, h) = (n, record { stored = h.stored; known = (two-known h).1 })

    two-sorts : {n : ℕ} → Referring b p n a 3 m → sorts_in b p n a 3 m ≡ sort_at b p n k then (sort_at b p n v then sorts_in b p n a 7 (m - 1 - 1))
    two-sorts {n} h =
        sorts-first b p n a 3 m h (omega arith)
        ∙ ap₂ (λ (i : ℕ) (ss : Sorts). sort_at b p n i then ss) (sym e)
        (sorts-first b p n a 5 (m - 1) (refer-rest b p n a 3 m h (omega arith)) (omega arith)
        ∙ ap (λ (i : ℕ). sort_at b p n i then sorts_in b p n a 7 (m - 1 - 1)) (sym z))

    pub left-none : ColumnsHas b p k None → BothHas b p a m None
    left-none c n h f =
        ap (over_both f) (two-sorts h)
        ∙ over-left f (sort_at b p n k) (sort_at b p n v) (sorts_in b p n a 7 (m - 1 - 1)) (c n h.stored (two-known h).0)

    module _ (x : Span) (left : ColumnsHas b p k (Some x)) where
      pub right-none : ColumnsHas b p v None → BothHas b p a m None
      right-none r n h f =
          ap (over_both f) (two-sorts h)
          ∙ over-right f (sort_at b p n k) (sort_at b p n v) (sorts_in b p n a 7 (m - 1 - 1)) (sorts_in b p n b x.at x.count) (left n h.stored (two-known h).0).0 (r n h.stored (two-known h).1)

      pub both-have : (y : Span) → ColumnsHas b p v (Some y) → BothHas b p a m (Some (x, y))
      both-have y r n h =
          let one = left n h.stored (two-known h).0 in
          let two = r n h.stored (two-known h).1 in
          record {
            is = λ f.
                ap (over_both f) (two-sorts h)
                ∙ over-two f (sort_at b p n k) (sort_at b p n v) (sorts_in b p n a 7 (m - 1 - 1)) (sorts_in b p n b x.at x.count) (sorts_in b p n b y.at y.count) one.0 two.0;
            left = one.1;
            right = two.1;
          }

-- What `both_columns` and `ok_or` gave.
module _ (b p : List ℕ) (n : ℕ) (ss : Sorts) where
  pub both-missing : (r : Option (Span × Span)) → BothIs b p n ss r → {c : Cause} → ok_or r Panics ≡ Err c → (f : Sorts → Sorts → Verdict) → over_both f ss ≡ refused Panics
  both-missing (Some x) h e f = cc
  both-missing None h e f = h f

  pub both-read : (r : Option (Span × Span)) → BothIs b p n ss r → {x : Span × Span} → ok_or r Panics ≡ Ok x → Having b p n ss x.0.at x.0.count x.1.at x.1.count
  both-read (Some v) h {x} e = let q : v ≡ x = cc in subst (λ (o : Span × Span). Having b p n ss o.0.at o.0.count o.1.at o.1.count) q h
  both-read None h e = cc
