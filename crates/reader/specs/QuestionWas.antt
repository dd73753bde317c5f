-- What a question record that was read tells: a known kind, as many sorts and names as it asks, sorts of the sheet,
-- distinct names, given names among them, lists that lie in the slice, and the next cursor behind it.
use Rattle.std.specs.Prelude.{ℕ, ◌+◌, ◌*◌, ◌-◌, ◌≤◌, ◌<◌, ◌≡◌, Bool, false, cond, not, ◌||◌, List, length, get_or, leb, eqb}
use Rattle.std.proofs.Math.Path.{refl, ap, subst}
use Rattle.std.proofs.Common.{sym, ◌∙◌, arith, leb→le, leb-true, leb-false, eqb-true, ne_eqb}
use Rattle.std.proofs.Math.Bool.{true}
use Rattle.std.proofs.Math.ListN.{get_or-eq_default}
use Rattle.record.specs.Number.{u16_at, numbers_at}
use Rattle.record.specs.Names.{distinct}
use Rattle.record.specs.Record.{bit}
use Rattle.record.specs.Table.{at}
use Rattle.record.specs.Cases.{not-true}
use Rattle.reader.specs.Tables.{question_maps, question_map_of, question_leasts, question_least_of, question_mosts, question_most_of, names_least_of, names_most_of}
use Rattle.record.specs.Kinds.{question_number, question_kind}
use Rattle.record.specs.KindLaws.{question_kind-found}
use Rattle.record.specs.declared.kinds.QuestionKind.{QuestionKind}
use Rattle.reader.specs.declared.Cursor.{Cursor}
use Rattle.reader.specs.declared.QuestionRecord.{QuestionRecord}
use Rattle.reader.specs.Reader.{gave, all_below, pair_names_at, rightly_given, read_head, read_references, read_pairs, read_names, read_question_fields, read_question}
use Rattle.reader.specs.Was.{no-value, by-need, by-read, by-kind, read-value, read-cursor, false-true, HeadWas, head-was, ListWas, references-were, names-were, PairsWere, pairs-were, references-low, pairs_below, or-last}

-- THE RECORD THAT WAS READ at x, on a sheet of `sorts` sorts
pub record QuestionWas (s : List ℕ) (sorts x : ℕ) (r : QuestionRecord) (c : Cursor) : Type 0 where
  -- its map is that of its kind, which is a known one
  pub known : question_number r.kind < 4
  pub map : get_or s x 0 ≡ question_map_of (question_number r.kind)
  pub tag : get_or s (x + 1) 0 ≡ question_number r.kind
  -- the list: sorts of the sheet
  pub least : question_least_of (question_number r.kind) ≤ r.list.count
  pub most : r.list.count ≤ question_most_of (question_number r.kind)
  pub few : r.list.count ≤ 64
  pub list : r.list.at + 2 * r.list.count ≤ length s
  pub references : (j : ℕ) → j < r.list.count → u16_at s (r.list.at + 2 * j) < sorts
  -- two sorts are compatible; pattern, target and result; a sort, then one image per name
  pub two : question_number r.kind ≡ 0 → r.list.count ≡ 2
  pub three : question_number r.kind ≡ 1 → r.list.count ≡ 3
  pub images : question_number r.kind ≡ 2 → r.list.count ≡ r.names.count + 1
  pub continued : question_number r.kind ≡ 3 → r.list.count ≡ 3
  -- the pairs: sorts of the sheet for given names, each one of the names and given once
  pub none_given : (question_number r.kind ≡ 3 → ⊥) → r.pairs.count ≡ 0
  pub paired : r.pairs.count ≤ 64
  pub pairs : r.pairs.at + 4 * r.pairs.count ≤ length s
  pub bindings : (j : ℕ) → j < r.pairs.count → u16_at s (r.pairs.at + 4 * j + 2) < sorts
  pub given : rightly_given (pair_names_at s r.pairs.at r.pairs.count) (numbers_at s r.names.at r.names.count) ≡ true
  -- the names
  pub none : question_number r.kind ≡ 0 → r.names.count ≡ 0
  pub named : r.names.count ≤ 64
  pub names : r.names.at + 2 * r.names.count ≤ length s
  pub once : distinct (numbers_at s r.names.at r.names.count) ≡ true
  -- the next record starts behind all of it, in the slice
  pub after : x + 2 ≤ c.at
  pub list_ends : r.list.at + 2 * r.list.count ≤ c.at
  pub pairs_end : r.pairs.at + 4 * r.pairs.count ≤ c.at
  pub names_end : r.names.at + 2 * r.names.count ≤ c.at
  pub inside : c.at ≤ length s

-- what the tables say
known_by : (k : ℕ) (t : Bool) → leb 4 k ≡ t → bit 1 (question_map_of k) ≡ true → k < 4
unfolding bit question_map_of question_maps
known_by k true e h = let z : question_map_of k ≡ 0 = get_or-eq_default question_maps 0 {n = k} (leb-true 4 k e) in false-true (sym (ap (bit 1) z) ∙ h)
known_by k false e h = leb-false 4 k e

abbrev with-list : ℕ → ℕ → Bool
with-list i m = false || bit 16 m

listed : (k : ℕ) → k < 4 → bit 16 (question_map_of k) ≡ true
unfolding bit question_map_of question_maps
listed k l = or-last false (bit 16 (question_map_of k)) (at with-list question_maps tt k l) refl

abbrev pairs-third : ℕ → ℕ → Bool
pairs-third i m = eqb i 3 || not (bit 32 m)

-- no other kind than Continue (3) has pairs
unpaired : (k : ℕ) → k < 4 → (k ≡ 3 → ⊥) → bit 32 (question_map_of k) ≡ false
unfolding bit question_map_of question_maps
unpaired k l d = not-true (bit 32 (question_map_of k)) (or-last (eqb k 3) (not (bit 32 (question_map_of k))) (at pairs-third question_maps tt k l) (ne_eqb k 3 d))

abbrev few-at-most : ℕ → ℕ → Bool
few-at-most i n = leb n 64

most-few : (k : ℕ) → k < 4 → question_most_of k ≤ 64
unfolding question_most_of question_mosts
most-few k l = leb→le (question_most_of k) 64 (at few-at-most question_mosts tt k l)

-- the count of names
names-few : (k n q : ℕ) (t : Bool) → n ≤ 64 → (t ≡ true → q ≤ names_most_of k n) → (t ≡ false → q ≡ 0) → q ≤ 64
unfolding names_most_of
names-few k n q false l h z = omega (arith, z refl)
names-few k n q true l h z = most (eqb k 2) (h refl)
  where
    most : (b : Bool) → q ≤ cond b (n - 1) 64 → q ≤ 64
    most true g = omega arith
    most false g = g

names-images : (n q : ℕ) → 1 ≤ n → names_least_of 2 n ≤ q → q ≤ names_most_of 2 n → n ≡ q + 1
unfolding names_least_of names_most_of
names-images n q p l h = omega arith

module _ (s : List ℕ) (sorts x m : ℕ) (kind : QuestionKind) (c2 : Cursor) (head : HeadWas s x m (question_number kind) c2) (mk : m ≡ question_map_of (question_number kind))
    (l n : ℕ) (c4 : Cursor) (ps p : ℕ) (c5 : Cursor) (ns q : ℕ) (c6 : Cursor)
    (r4 : ListWas s (bit 16 m) (question_least_of (question_number kind)) (question_most_of (question_number kind)) c2.at l n c4) (below : all_below sorts (numbers_at s l n) ≡ true)
    (r5 : PairsWere s (bit 32 m) sorts c4.at ps p c5)
    (r6 : ListWas s (bit 64 m) (names_least_of (question_number kind) n) (names_most_of (question_number kind) n) c5.at ns q c6) (once : distinct (numbers_at s ns q) ≡ true)
    (given : rightly_given (pair_names_at s ps p) (numbers_at s ns q) ≡ true) where
  known : question_number kind < 4
  known = known_by (question_number kind) (leb 4 (question_number kind)) refl (sym (ap (bit 1) mk) ∙ head.odd)

  here : bit 16 m ≡ true
  here = ap (bit 16) mk ∙ listed (question_number kind) known

  in4 : c4.at ≤ length s
  in4 = r4.inside (omega (arith, head.next, head.inside))

  in5 : c5.at ≤ length s
  in5 = r5.inside in4

  few : n ≤ 64
  few = omega (arith, r4.most here, most-few (question_number kind) known)

  exactly : (d v : ℕ) → (question_number kind) ≡ d → question_least_of d ≡ v → question_most_of d ≡ v → n ≡ v
  exactly d v e p o = omega (arith, r4.least here, r4.most here, ap question_least_of e, ap question_most_of e, p, o)

  is-two : question_number kind ≡ 0 → n ≡ 2
  unfolding question_least_of question_leasts question_most_of question_mosts
  is-two e = exactly 0 2 e refl refl

  is-three : question_number kind ≡ 1 → n ≡ 3
  unfolding question_least_of question_leasts question_most_of question_mosts
  is-three e = exactly 1 3 e refl refl

  is-continued : question_number kind ≡ 3 → n ≡ 3
  unfolding question_least_of question_leasts question_most_of question_mosts
  is-continued e = exactly 3 3 e refl refl

  some : question_number kind ≡ 2 → 1 ≤ n
  unfolding question_least_of question_leasts
  some e = subst (λ (j : ℕ). question_least_of j ≤ n) e (r4.least here)

  is-images : question_number kind ≡ 2 → n ≡ q + 1
  unfolding bit question_map_of question_maps
  is-images e =
      let b : bit 64 m ≡ true = ap (bit 64) mk ∙ ap (λ (j : ℕ). bit 64 (question_map_of j)) e in
      names-images n q (some e) (subst (λ (j : ℕ). names_least_of j n ≤ q) e (r6.least b)) (subst (λ (j : ℕ). q ≤ names_most_of j n) e (r6.most b))

  is_none : question_number kind ≡ 0 → q ≡ 0
  unfolding bit question_map_of question_maps
  is_none e = r6.empty (ap (bit 64) mk ∙ ap (λ (j : ℕ). bit 64 (question_map_of j)) e)

  fields-were : QuestionWas s sorts x (record { kind = kind; list = record { at = l; count = n }; pairs = record { at = ps; count = p }; names = record { at = ns; count = q } }) c6
  fields-were =
      record {
        known = known;
        map = sym head.map ∙ mk;
        tag = sym head.kind;
        least = r4.least here;
        most = r4.most here;
        few = few;
        list = omega (arith, r4.ends, in4);
        references = references-low s l n sorts below;
        two = is-two;
        three = is-three;
        images = is-images;
        continued = is-continued;
        none_given = λ d. r5.empty (ap (bit 32) mk ∙ unpaired (question_number kind) known d);
        paired = r5.few;
        pairs = omega (arith, r5.ends, in5);
        bindings = pairs_below s ps p sorts r5.below;
        given = given;
        none = is_none;
        named = names-few (question_number kind) n q (bit 64 m) few r6.most r6.empty;
        names = omega (arith, r6.ends, r6.inside in5);
        once = once;
        after = omega (arith, head.next, r4.after, r4.ends, r5.after, r5.ends, r6.after, r6.ends);
        list_ends = omega (arith, r4.ends, r5.after, r5.ends, r6.after, r6.ends);
        pairs_end = omega (arith, r5.ends, r6.after, r6.ends);
        names_end = omega (arith, r6.ends);
        inside = r6.inside in5;
      }

-- EVERY ACCEPTED QUESTION RECORD is such a one; the chain of its fields, taken apart
module _ (s : List ℕ) (sorts x : ℕ) (r : QuestionRecord) (c : Cursor) where
  fields-gave : (m : ℕ) (kind : QuestionKind) (c2 : Cursor) → HeadWas s x m (question_number kind) c2 → m ≡ question_map_of (question_number kind)
      → read_question_fields s m kind sorts c2.at ≡ gave r c → QuestionWas s sorts x r c
  unfolding read_question_fields
  fields-gave m kind c2 head mk h =
      by-read _ (read_references s m (question_least_of (question_number kind)) (question_most_of (question_number kind)) sorts c2.at) h
      (λ l c4 p4 h4.
      by-read _ (read_pairs s m sorts c4.at) h4
      (λ ps c5 p5 h5.
      by-read _ (read_names s m (names_least_of (question_number kind) l.count) (names_most_of (question_number kind) l.count) c5.at) h5
      (λ ns c6 p6 h6.
      by-need (rightly_given (pair_names_at s ps.at ps.count) (numbers_at s ns.at ns.count)) h6 no-value
      (λ given h7.
      let r4 = references-were s m (question_least_of (question_number kind)) (question_most_of (question_number kind)) sorts c2.at p4 in
      let r6 = names-were s m (names_least_of (question_number kind) l.count) (names_most_of (question_number kind) l.count) c5.at p6 in
      subst (QuestionWas s sorts x r) (read-cursor h7)
      (subst (λ (j : QuestionRecord). QuestionWas s sorts x j c6) (read-value h7)
      (fields-were s sorts x m kind c2 head mk l.at l.count c4 ps.at ps.count c5 ns.at ns.count c6 r4.0 r4.1 (pairs-were s m sorts c4.at p5) r6.0 r6.1 given))))))

  pub question-was : read_question s sorts x ≡ gave r c → QuestionWas s sorts x r c
  unfolding read_question
  question-was h =
      by-read _ (read_head s x) h
      (λ d c2 p h1.
      by-kind _ (question_kind d.kind) h1
      (λ kind q h2.
      let is : d.kind ≡ question_number kind = question_kind-found d.kind kind q in
      by-need (eqb d.map (question_map_of (question_number kind))) h2 no-value
      (λ e h3.
      fields-gave d.map kind c2 (subst (λ (j : ℕ). HeadWas s x d.map j c2) is (head-was s x d c2 p)) (eqb-true d.map (question_map_of (question_number kind)) e) h3)))
