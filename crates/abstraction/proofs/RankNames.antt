-- Ranks under new names: they have no names but their own parameters, so what fits still fits, and the result is renamed.
use Rattle.std.specs.Prelude.{ℕ, ◌+◌, ◌≡◌, Bool, ◌&&◌, eqb, leb}
use Rattle.std.proofs.Math.Path.{refl, ap}
use Rattle.std.proofs.Common.{sym, ap₂, ◌∙◌, eqb-true}
use Rattle.std.proofs.Math.Bool.{true, false}
use Rattle.std.proofs.lemmas.Bool.{false≢true}
use mathlib.Core.List.{List, [], ◌∷◌, ◌++◌}
use Rattle.std.proofs.Math.Option.{Option, none, some}
use Rattle.record.specs.Sort.{Sort, Sorts, var, par, node, end, ◌then◌, int, real, bitvec, number_in, same, set, tuple}
use Rattle.record.specs.Cases.{and_left, and_right, conj, and-true, three, by_test, by_option}
use Rattle.substitution.specs.Substitution.{Map, empty, bind, find, bound, apply, apply_all, occurs_any}
use Rattle.substitution.specs.Matching.{keep, and_then, meet, matches, matches_all}
use Rattle.substitution.proofs.MatchingLaws.{match_all-binds}
use Rattle.substitution.specs.Premises.{proper, parless_all, ground, ground_all}
use Rattle.row_rules.specs.Lists.{last_of, appended, all_but_last}
use Rattle.check_rules.specs.Forms.{Form, concat, mixed, insert, tupling, transpose, join, product, takes_count, takes, on_one, on_two, when, join_vectors, numbers, stands, elements, insertion, columns, relation, transposed, backwards, touch, all_but_first, join_relations, multiplied, computes}
use Rattle.check_rules.specs.FormLaws.{well_form}
use Rattle.check_rules.specs.Rank.{Rank, rank, computed, repeated, stretched, patterns, same_count, counts, vector, vectors_in, every_name, rank_answer, fit, or_next, first_fit, some_counts}
use Rattle.check_rules.specs.RankLaws.{closed, closed_all, patterns-occurs, well_rank, stretched-same}
use Rattle.check_rules.proofs.RankSound.{Sound}
use Rattle.check_rules.specs.Ranks.{RankTable, done, row, enlarged, ranks_in, standard, smt_lib}
use Rattle.abstraction.specs.Names.{Renames, renamed, renamed_all, renamed_sort}
use Rattle.abstraction.proofs.NameLaws.{eqb-names, count-renamed, leaf-renamed, node-renamed, same-renamed, same-stays, number-renamed, last-renamed, appended-renamed, backwards-renamed, columns-renamed, set-renamed, tuples-renamed, but_last-renamed}

---------------------------------------------------------------- ranks without names
-- No node of a sort has a name.
unfoldable mutual
  pub unnamed : Sort → Bool
  unnamed (var v) = true
  unnamed (par ns b) = unnamed b
  unnamed (node k a w ss) = eqb a 0 && unnamed_all ss

  pub unnamed_all : Sorts → Bool
  unnamed_all end = true
  unnamed_all (s then ss) = unnamed s && unnamed_all ss

-- No name stands in a rank, or in the result that a form has.
unfoldable pub unnamed_rank : Rank → Bool
unfolding unnamed
unnamed_rank (rank rep vs ps r) = unnamed_all ps && unnamed r
unnamed_rank (computed concat) = true
unnamed_rank (computed (mixed r)) = unnamed r
unnamed_rank (computed insert) = true
unnamed_rank (computed tupling) = true
unnamed_rank (computed transpose) = true
unnamed_rank (computed join) = true
unnamed_rank (computed product) = true

unfoldable pub unnamed_ranks : List Rank → Bool
unfolding unnamed_rank
unnamed_ranks [] = true
unnamed_ranks (r ∷ rs) = unnamed_rank r && unnamed_ranks rs

-- What the law asks of ranks: they are sound, and no name stands in them.
pub record PlainRanks (R : ℕ → List Rank) : Type 0 where
  pub sounds : (n : ℕ) → Sound (R n)
  pub nameless : (n : ℕ) → unnamed_ranks (R n) ≡ true

unfoldable unnamed_table : RankTable → Bool
unfolding unnamed_ranks
unnamed_table done = true
unnamed_table (row a b rs t) = unnamed_ranks rs && unnamed_table t
unnamed_table (enlarged a b rs qs t) = unnamed_ranks (rs ++ qs) && unnamed_table t

table-nameless : (t : RankTable) (n : ℕ) → unnamed_table t ≡ true → unnamed_ranks (ranks_in t n) ≡ true
unfolding unnamed_table unnamed_ranks ranks_in
table-nameless done n e = refl
table-nameless (row a b rs t) n e =
    by_test (leb a n && leb n b)
    (λ q. rw q (and_left (unnamed_ranks rs) (unnamed_table t) e))
    (λ q. rw q (table-nameless t n (and_right (unnamed_ranks rs) (unnamed_table t) e)))
table-nameless (enlarged a b rs qs t) n e =
    by_test (leb a n && leb n b)
    (λ q. rw q (and_left (unnamed_ranks (rs ++ qs)) (unnamed_table t) e))
    (λ q. rw q (table-nameless t n (and_right (unnamed_ranks (rs ++ qs)) (unnamed_table t) e)))

pub smt_lib-nameless : (n : ℕ) → unnamed_ranks (smt_lib n) ≡ true
unfolding smt_lib standard unnamed_table
smt_lib-nameless n = table-nameless standard n refl

-- A repeated pattern has no name either.
repeated-unnamed : (p : Sort) (ts : Sorts) → unnamed p ≡ true → unnamed_all (repeated p ts) ≡ true
unfolding unnamed repeated
repeated-unnamed p end e = refl
repeated-unnamed p (t then ts) e = and-true (unnamed p) (unnamed_all (repeated p ts)) e (repeated-unnamed p ts e)

stretched-unnamed : (ps ts : Sorts) → unnamed_all ps ≡ true → unnamed_all (stretched ps ts) ≡ true
unfolding unnamed stretched
stretched-unnamed end ts e = refl
stretched-unnamed (p then end) end e = e
stretched-unnamed (p then end) (t then ts) e = and-true (unnamed p) (unnamed_all (repeated p ts)) (and_left (unnamed p) true e) (repeated-unnamed p ts (and_left (unnamed p) true e))
stretched-unnamed (p then (q then ps)) end e = e
stretched-unnamed (p then (q then ps)) (t then ts) e =
    and-true (unnamed p) (unnamed_all (stretched (q then ps) ts)) (and_left (unnamed p) (unnamed_all (q then ps)) e)
    (stretched-unnamed (q then ps) ts (and_right (unnamed p) (unnamed_all (q then ps)) e))

patterns-unnamed : (rep : Bool) (ps ts : Sorts) → unnamed_all ps ≡ true → unnamed_all (patterns rep ps ts) ≡ true
patterns-unnamed true ps ts e = stretched-unnamed ps ts e
patterns-unnamed false ps ts e = e

-- A map with its images renamed; the parameters of a rank stay.
unfoldable images : (ℕ → ℕ) → Map → Map
unfolding renamed
images ρ empty = empty
images ρ (bind v s m) = bind v (renamed ρ s) (images ρ m)

abbrev images_found : (ℕ → ℕ) → Option Map → Option Map
images_found ρ none = none
images_found ρ (some m) = some (images ρ m)

module _ (ρ : ℕ → ℕ) (N : Renames ρ) where
  pub vector-renamed : (s : Sort) → vector (renamed ρ s) ≡ vector s
  vector-renamed s = rw (number-renamed ρ N s) (same-stays ρ N s (bitvec (number_in s)) (leaf-renamed ρ N 9 (number_in s)))

  find-images : (m : Map) (v : ℕ) → find (images ρ m) v ≡ renamed_sort ρ (find m v)
  unfolding find images
  find-images empty v = refl
  find-images (bind u s m) v = by_test (eqb u v) (λ q. rw q refl) (λ q. rw q (find-images m v))

  zero-name : (a c : ℕ) → eqb a 0 ≡ true → eqb a (ρ c) ≡ eqb a c
  zero-name a c e = rw (eqb-true a 0 e) (ap (λ (z : ℕ). eqb z (ρ c)) (sym N.zero-stays) ∙ eqb-names ρ N 0 c)

  keep-images : (b : Bool) (o : Option Map) → keep b (images_found ρ o) ≡ images_found ρ (keep b o)
  keep-images true o = refl
  keep-images false o = refl

  meet-images : (o : Option Sort) (v : ℕ) (t : Sort) (m : Map) → meet (renamed_sort ρ o) v (renamed ρ t) (images ρ m) ≡ images_found ρ (meet o v t m)
  unfolding images
  meet-images none v t m = refl
  meet-images (some s) v t m = rw (same-renamed ρ N s t) (keep-images (same s t) (some m))

  then-images : (o : Option Map) (f : Map → Option Map) (g : Map → Option Map) → ((m : Map) → g (images ρ m) ≡ images_found ρ (f m)) → and_then (images_found ρ o) g ≡ images_found ρ (and_then o f)
  then-images none f g h = refl
  then-images (some m) f g h = h m

  mutual
    unfolding matches renamed unnamed

    rank-matches : (p t : Sort) (m : Map) → unnamed p ≡ true → matches every_name p (renamed ρ t) (images ρ m) ≡ images_found ρ (matches every_name p t m)
    rank-matches (var v) t m e = rw (find-images m v) (meet-images (find m v) v t m)
    rank-matches (par us b) t m e = refl
    rank-matches (node i a w ps) (var v) m e = refl
    rank-matches (node i a w ps) (par us b) m e = refl
    rank-matches (node i a w ps) (node j c x ts) m e =
        rw (zero-name a c (and_left (eqb a 0) (unnamed_all ps) e), rank-matches_all ps ts m (and_right (eqb a 0) (unnamed_all ps) e))
        (keep-images (eqb i j && eqb a c && eqb w x) (matches_all every_name ps ts m))

    rank-matches_all : (ps ts : Sorts) (m : Map) → unnamed_all ps ≡ true → matches_all every_name ps (renamed_all ρ ts) (images ρ m) ≡ images_found ρ (matches_all every_name ps ts m)
    rank-matches_all end end m e = refl
    rank-matches_all end (t then ts) m e = refl
    rank-matches_all (p then ps) end m e = refl
    rank-matches_all (p then ps) (t then ts) m e =
        rw (rank-matches p t m (and_left (unnamed p) (unnamed_all ps) e))
        (then-images (matches every_name p t m) (λ n. matches_all every_name ps ts n) (λ n. matches_all every_name ps (renamed_all ρ ts) n)
        (λ n. rank-matches_all ps ts n (and_right (unnamed p) (unnamed_all ps) e)))

  -- The result of a rank, all of whose variables are bound.
  mutual
    unfolding closed apply renamed unnamed

    closed-images : (m : Map) (ps : Sorts) (r : Sort) → ((v : ℕ) → occurs_any v ps ≡ true → bound m v ≡ true) → closed ps r ≡ true → unnamed r ≡ true
        → apply (images ρ m) r ≡ renamed ρ (apply m r)
    closed-images m ps (var v) b c u =
        by_option (find m v)
        (λ f. let z : false ≡ true = rw f at (b v c) in absurd (false≢true z))
        (λ s f. rw (find-images m v, f) refl)
    closed-images m ps (par ns r) b c u = absurd (false≢true c)
    closed-images m ps (node k a w ss) b c u =
        let z = eqb-true a 0 (and_left (eqb a 0) (unnamed_all ss) u) in
        let y : a ≡ ρ a = z ∙ sym N.zero-stays ∙ ap ρ (sym z) in
        ap₂ (λ (i : ℕ) (rs : Sorts). node k i w rs) y (closed_all-images m ps ss b c (and_right (eqb a 0) (unnamed_all ss) u))

    closed_all-images : (m : Map) (ps rs : Sorts) → ((v : ℕ) → occurs_any v ps ≡ true → bound m v ≡ true) → closed_all ps rs ≡ true → unnamed_all rs ≡ true
        → apply_all (images ρ m) rs ≡ renamed_all ρ (apply_all m rs)
    closed_all-images m ps end b c u = refl
    closed_all-images m ps (r then rs) b c u =
        ap₂ (λ (x : Sort) (xs : Sorts). x then xs)
        (closed-images m ps r b (and_left (closed ps r) (closed_all ps rs) c) (and_left (unnamed r) (unnamed_all rs) u))
        (closed_all-images m ps rs b (and_right (closed ps r) (closed_all ps rs) c) (and_right (unnamed r) (unnamed_all rs) u))

  vectors_in-images : (m : Map) → vectors_in (images ρ m) ≡ vectors_in m
  unfolding vectors_in images
  vectors_in-images empty = refl
  vectors_in-images (bind v s m) = rw (vector-renamed s, vectors_in-images m) refl

  -- Only the count of the arguments chooses the patterns.
  names-count : (ts : Sorts) → same_count (renamed_all ρ ts) ts ≡ true
  unfolding same_count renamed
  names-count end = refl
  names-count (t then ts) = names-count ts

  patterns-count : (rep : Bool) (ps ts : Sorts) → patterns rep ps (renamed_all ρ ts) ≡ patterns rep ps ts
  patterns-count true ps ts = stretched-same ps (renamed_all ρ ts) ts (names-count ts)
  patterns-count false ps ts = refl

  same-count : (ps ts : Sorts) → same_count ps (renamed_all ρ ts) ≡ same_count ps ts
  unfolding same_count renamed
  same-count end end = refl
  same-count end (t then ts) = refl
  same-count (p then ps) end = refl
  same-count (p then ps) (t then ts) = same-count ps ts

  rank-counts : (r : Rank) (ts : Sorts) → counts r (renamed_all ρ ts) ≡ counts r ts
  unfolding counts takes
  rank-counts (rank rep vs ps r) ts = rw (patterns-count rep ps ts) (same-count (patterns rep ps ts) ts)
  rank-counts (computed f) ts = ap (takes_count f) (count-renamed ρ N ts)

  pub counts-renamed : (rs : List Rank) (ts : Sorts) → some_counts rs (renamed_all ρ ts) ≡ some_counts rs ts
  unfolding some_counts
  counts-renamed [] ts = refl
  counts-renamed (r ∷ rs) ts = rw (rank-counts r ts, counts-renamed rs ts) refl

  -- A sort without variables and names stays; so Int and Real are among renamed sorts where they were.
  mutual
    unfolding ground renamed unnamed

    still : (s : Sort) → ground s ≡ true → unnamed s ≡ true → renamed ρ s ≡ s
    still (var v) g u = absurd (false≢true g)
    still (par ns b) g u = absurd (false≢true g)
    still (node k a w ss) g u =
        let z = eqb-true a 0 (and_left (eqb a 0) (unnamed_all ss) u) in
        let y : ρ a ≡ a = ap ρ z ∙ N.zero-stays ∙ sym z in
        ap₂ (λ (i : ℕ) (rs : Sorts). node k i w rs) y (still_all ss (search conj) (and_right (eqb a 0) (unnamed_all ss) u))

    still_all : (ss : Sorts) → ground_all ss ≡ true → unnamed_all ss ≡ true → renamed_all ρ ss ≡ ss
    still_all end g u = refl
    still_all (s then ss) g u =
        ap₂ (λ (x : Sort) (xs : Sorts). x then xs)
        (still s (and_left (ground s) (ground_all ss) g) (and_left (unnamed s) (unnamed_all ss) u))
        (still_all ss (and_right (ground s) (ground_all ss) g) (and_right (unnamed s) (unnamed_all ss) u))

  leaf-same : (s : Sort) (k : ℕ) → same (renamed ρ s) (node k 0 0 end) ≡ same s (node k 0 0 end)
  leaf-same s k = same-stays ρ N s (node k 0 0 end) (leaf-renamed ρ N k 0)

  numbers-renamed : (ts : Sorts) → numbers (renamed_all ρ ts) ≡ numbers ts
  unfolding numbers renamed
  numbers-renamed end = refl
  numbers-renamed (t then ts) = rw (leaf-same t 4, leaf-same t 5, numbers-renamed ts) refl

  stands-renamed : (k : ℕ) (ts : Sorts) → stands (node k 0 0 end) (renamed_all ρ ts) ≡ stands (node k 0 0 end) ts
  unfolding stands renamed
  stands-renamed k end = refl
  stands-renamed k (t then ts) = rw (leaf-same t k, stands-renamed k ts) refl

  -- What a form gives is renamed with its arguments.
  when-renamed : (b : Bool) (r s : Sort) → s ≡ renamed ρ r → when b s ≡ renamed_sort ρ (when b r)
  when-renamed true r s e = ap some e
  when-renamed false r s e = refl

  join-renamed : (a b : Sort) → join_vectors (renamed ρ a) (renamed ρ b) ≡ renamed_sort ρ (join_vectors a b)
  join-renamed a b =
      rw (vector-renamed a, vector-renamed b, number-renamed ρ N a, number-renamed ρ N b)
      (when-renamed (vector a && vector b) (bitvec (number_in a + number_in b)) _ (sym (leaf-renamed ρ N 9 (number_in a + number_in b))))

  -- The element sort and its set are found where they were.
  elements-renamed : (x : Sort) (ts : Sorts) → elements (renamed ρ x) (renamed_all ρ ts) ≡ elements x ts
  unfolding elements renamed
  elements-renamed x end = refl
  elements-renamed x (t then end) = ap (same (renamed ρ t)) (sym (set-renamed ρ N x)) ∙ same-renamed ρ N t (set x)
  elements-renamed x (t then (u then us)) = ap₂ ◌&&◌ (same-renamed ρ N t x) (elements-renamed x (u then us))

  -- Relations stay relations, and their columns touch where they did.
  is-relation : (s : Sort) → relation (renamed ρ s) ≡ relation s
  is-relation s =
      ap (λ (cs : Sorts). same (renamed ρ s) (set (tuple cs))) (columns-renamed ρ N s)
      ∙ ap (same (renamed ρ s)) (sym (tuples-renamed ρ N (columns s))) ∙ same-renamed ρ N s (set (tuple (columns s)))

  touch-renamed : (as' bs : Sorts) → touch (renamed_all ρ as') (renamed_all ρ bs) ≡ touch as' bs
  unfolding touch renamed
  touch-renamed end bs = refl
  touch-renamed (a then as') end = refl
  touch-renamed (a then as') (b then bs) =
      ap (λ (s : Sort). same s (renamed ρ b)) (last-renamed ρ N a as') ∙ same-renamed ρ N (last_of a as') b

  but_first-renamed : (ss : Sorts) → all_but_first (renamed_all ρ ss) ≡ renamed_all ρ (all_but_first ss)
  unfolding renamed
  but_first-renamed end = refl
  but_first-renamed (s then ss) = refl

  insertion-renamed : (ts : Sorts) → insertion (renamed_all ρ ts) ≡ renamed_sort ρ (insertion ts)
  unfolding renamed
  insertion-renamed end = refl
  insertion-renamed (x then ts) = rw (elements-renamed x ts) (when-renamed (elements x ts) (set x) _ (sym (set-renamed ρ N x)))

  transposed-renamed : (a : Sort) → transposed (renamed ρ a) ≡ renamed_sort ρ (transposed a)
  transposed-renamed a =
      rw (is-relation a)
      (when-renamed (relation a) (set (tuple (backwards (columns a)))) _
      (ap (λ (cs : Sorts). set (tuple (backwards cs))) (columns-renamed ρ N a) ∙ ap (λ (cs : Sorts). set (tuple cs)) (backwards-renamed ρ N (columns a))
      ∙ sym (tuples-renamed ρ N (backwards (columns a)))))

  -- The columns of two relations, one list behind the other.
  columns-appended : (as' bs : Sorts) → set (tuple (appended (renamed_all ρ as') (renamed_all ρ bs))) ≡ renamed ρ (set (tuple (appended as' bs)))
  columns-appended as' bs = ap (λ (cs : Sorts). set (tuple cs)) (appended-renamed ρ N as' bs) ∙ sym (tuples-renamed ρ N (appended as' bs))

  relations-renamed : (a b : Sort) → join_relations (renamed ρ a) (renamed ρ b) ≡ renamed_sort ρ (join_relations a b)
  relations-renamed a b =
      let x = columns-renamed ρ N a in
      let y = columns-renamed ρ N b in
      rw (is-relation a, is-relation b, ap₂ touch x y ∙ touch-renamed (columns a) (columns b))
      (when-renamed (relation a && relation b && touch (columns a) (columns b)) (set (tuple (appended (all_but_last (columns a)) (all_but_first (columns b))))) _
      (ap₂ (λ (cs ds : Sorts). set (tuple (appended cs ds))) (ap all_but_last x ∙ but_last-renamed ρ N (columns a)) (ap all_but_first y ∙ but_first-renamed (columns b))
      ∙ columns-appended (all_but_last (columns a)) (all_but_first (columns b))))

  multiplied-renamed : (a b : Sort) → multiplied (renamed ρ a) (renamed ρ b) ≡ renamed_sort ρ (multiplied a b)
  multiplied-renamed a b =
      rw (is-relation a, is-relation b)
      (when-renamed (relation a && relation b) (set (tuple (appended (columns a) (columns b)))) _
      (ap₂ (λ (cs ds : Sorts). set (tuple (appended cs ds))) (columns-renamed ρ N a) (columns-renamed ρ N b) ∙ columns-appended (columns a) (columns b)))

  -- A form of one argument, or of two.
  one-renamed : (f : Sort → Option Sort) → ((a : Sort) → f (renamed ρ a) ≡ renamed_sort ρ (f a)) → (ts : Sorts) → on_one f (renamed_all ρ ts) ≡ renamed_sort ρ (on_one f ts)
  unfolding renamed
  one-renamed f h end = refl
  one-renamed f h (a then end) = h a
  one-renamed f h (a then (b then ss)) = refl

  two-renamed : (f : Sort → Sort → Option Sort) → ((a b : Sort) → f (renamed ρ a) (renamed ρ b) ≡ renamed_sort ρ (f a b)) → (ts : Sorts)
      → on_two f (renamed_all ρ ts) ≡ renamed_sort ρ (on_two f ts)
  unfolding renamed
  two-renamed f h end = refl
  two-renamed f h (a then end) = refl
  two-renamed f h (a then (b then end)) = h a b
  two-renamed f h (a then (b then (c then ss))) = refl

  form-renamed : (f : Form) (ts : Sorts) → well_form f ≡ true → unnamed_rank (computed f) ≡ true → computes f (renamed_all ρ ts) ≡ renamed_sort ρ (computes f ts)
  unfolding computes renamed well_form unnamed_rank
  form-renamed concat ts w u = two-renamed join_vectors join-renamed ts
  form-renamed (mixed r) ts w u =
      rw (numbers-renamed ts, stands-renamed 4 ts, stands-renamed 5 ts)
      (when-renamed (numbers ts && stands int ts && stands real ts) r r (sym (still r (and_left (ground r) (proper r) w) u)))
  form-renamed insert ts w u = insertion-renamed ts
  form-renamed tupling end w u = refl
  form-renamed tupling (a then as') w u = ap some (sym (node-renamed ρ N 15 0 (a then as')))
  form-renamed transpose ts w u = one-renamed transposed transposed-renamed ts
  form-renamed join ts w u = two-renamed join_relations relations-renamed ts
  form-renamed product ts w u = two-renamed multiplied multiplied-renamed ts

  -- A rank that fits still fits, one that does not still does not.
  fit-renamed : (rep vs : Bool) (ps : Sorts) (r : Sort) (ts : Sorts) → closed ps r ≡ true → unnamed_all ps ≡ true → unnamed r ≡ true
      → fit (rank rep vs ps r) (renamed_all ρ ts) ≡ renamed_sort ρ (fit (rank rep vs ps r) ts)
  unfolding fit images
  fit-renamed rep vs ps r ts c u w =
      rw (patterns-count rep ps ts, rank-matches_all (patterns rep ps ts) ts empty (patterns-unnamed rep ps ts u))
      (by_option (matches_all every_name (patterns rep ps ts) ts empty)
      (λ q. rw q refl)
      (λ m q. rw q (go vs m (closed-images m ps r (λ v o. match_all-binds every_name (patterns rep ps ts) ts empty m v q refl (patterns-occurs rep v ps ts o)) c w))))
    where
      go : (b : Bool) (m : Map) → apply (images ρ m) r ≡ renamed ρ (apply m r) → rank_answer b r (some (images ρ m)) ≡ renamed_sort ρ (rank_answer b r (some m))
      go true m e = rw (vectors_in-images m, e) (by_test (vectors_in m) (λ q. rw q refl) (λ q. rw q refl))
      go false m e = rw e refl

  or-renamed : (o p : Option Sort) → or_next (renamed_sort ρ o) (renamed_sort ρ p) ≡ renamed_sort ρ (or_next o p)
  or-renamed none p = refl
  or-renamed (some s) p = refl

  rank-renamed : (r : Rank) (ts : Sorts) → well_rank r ≡ true → unnamed_rank r ≡ true → fit r (renamed_all ρ ts) ≡ renamed_sort ρ (fit r ts)
  unfolding fit well_rank unnamed_rank
  rank-renamed (rank rep vs ps r) ts w u =
      fit-renamed rep vs ps r ts (three (closed ps r) (proper r) (parless_all ps) w).0 (and_left (unnamed_all ps) (unnamed r) u) (and_right (unnamed_all ps) (unnamed r) u)
  rank-renamed (computed f) ts w u = form-renamed f ts w u

  pub first_fit-renamed : (rs : List Rank) (ts : Sorts) → Sound rs → unnamed_ranks rs ≡ true → first_fit rs (renamed_all ρ ts) ≡ renamed_sort ρ (first_fit rs ts)
  unfolding first_fit unnamed_ranks
  first_fit-renamed [] ts S u = refl
  first_fit-renamed (r ∷ rs) ts S u =
      rw (rank-renamed r ts S.0 (and_left (unnamed_rank r) (unnamed_ranks rs) u), first_fit-renamed rs ts S.2 (and_right (unnamed_rank r) (unnamed_ranks rs) u))
      (or-renamed (fit r ts) (first_fit rs ts))
