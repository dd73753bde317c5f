-- The verdicts on indexed operators, by what was read of the indices and of the argument.
use Prim.Native.Nat.{ℕ, zero, suc, ◌+◌, ◌*◌, ◌-◌, ◌≤◌, ◌<◌}
use mathlib.Core.Path.{◌≡◌, refl, sym, ap, ap₂, subst, ◌∙◌}
use mathlib.Core.Logic.{◌⊎◌, inl, inr}
use mathlib.Core.Bool.{Bool, true, false, not, cond, ◌&&◌, ◌||◌}
use mathlib.Core.List.{List, [], ◌∷◌}
use mathlib.Core.Option.{Option, none, some}
use native.Mathlib.Omega.{arith}
use native.Mathlib.Numerals.{add-one}
use lib.Dec.{eqb, ltb}
use borrow.Author.Tests.{eq-eqb, eqb-true, eqb-false, ne_eqb, le-leb, lt-leb, lt-ltb, le-ltb}
use Rattle.record.specs.Number.{u16_at, numbers_at}
use Rattle.record.specs.Sort.{Sort, Sorts, end, ◌then◌, reglan, bitvec, kind_of, number_in, same}
use Rattle.record.specs.SortLaws.{same-sound, same-swap}
use Rattle.record.specs.Record.{maps, map_of, sorts_of}
use Rattle.record.specs.Decode.{store_of, sort_at}
use Rattle.record.specs.Cases.{both_ways}
use Rattle.record.specs.declared.SortRecord.{SortRecord}
use Rattle.store.specs.Entry.{EntryIs, EntryHas}
use Rattle.store.specs.declared.Store.{Store}
use Rattle.row_rules.specs.declared.Cause.{Cause}
use Rattle.row_rules.specs.declared.Cause.TheVariants.{NoRank, Count, Misfit}
use Rattle.row_rules.specs.Verdict.{Verdict, sort, refused, need}
use Rattle.check_rules.specs.Rank.{vector}
use Rattle.check_rules.specs.Checked.{new_width, indexed₁, indexed₂, indexed_by, indexed_on, indexing}
use Rattle.std.specs.Prelude.{Option as Maybe, Some, None, Result, Ok, Err}
use Rattle.record.specs.Kinds.{sort_number, param_number}
use Rattle.record.specs.declared.kinds.ParamOp.{ParamOp}
use Rattle.row_answer.specs.Answer.{AnswerIs}
use Rattle.row_answer.specs.AnswerLaws.{judged-as, answer-known, made-refused}
use Rattle.row_answer.specs.Arguments.{integer_of, constants_from, constants_in, IndexIs, index_at}
use Rattle.row_answer.specs.Asks.{KnownAsks}
use Rattle.check_operator.specs.Rule.{plain_sort}
use Rattle.check_operator.specs.Contract.{args_of}
use Rattle.check_operator.specs.KindLaws.{kind-same, kind-vector, vector-not}
use Rattle.check_row.specs.declared.indexed.Indices.{Indices}
use Rattle.check_row.specs.declared.indexed.Indices.TheVariants.{One, Two}
use Rattle.check_row.specs.Indexed.{indices_from, IndicesAre, kept_as, widened_verdict, OneIndexAsks, indexed_within, IndexingAsks}

---------------------------------------------------------------- the indices
many-wrong : (a b c : Option ℕ) (is : List (Option ℕ)) → None ≡ indices_from (a ∷ b ∷ c ∷ is)
many-wrong none b c is = refl
many-wrong (some i) none c is = refl
many-wrong (some i) (some j) c is = refl

module _ (s xs : List ℕ) (x : ℕ) where
  other_is : (m : ℕ) → (m ≡ 1 → ⊥) → (m ≡ 2 → ⊥) → None ≡ indices_from (constants_in s xs x m)
  unfolding numbers_at constants_from
  other_is zero g h = refl
  other_is (suc zero) g h = absurd (g refl)
  other_is (suc (suc zero)) g h = absurd (h refl)
  other_is (suc (suc (suc m))) g h =
      many-wrong (index_at s xs x) (index_at s xs (x + 2)) (index_at s xs (x + 2 + 2)) (constants_in s xs (x + 2 + 2 + 2) m)

  one-are : (m : ℕ) (r : Maybe Indices) (o : Option ℕ) → m ≡ 1 → o ≡ index_at s xs x → r ≡ indices_from (o ∷ []) → r ≡ indices_from (constants_in s xs x m)
  unfolding numbers_at constants_from
  one-are m r o h e g = g ∙ ap (λ (i : Option ℕ). indices_from (i ∷ [])) e ∙ ap (λ (j : ℕ). indices_from (constants_in s xs x j)) (sym h)

  two-are : (m : ℕ) (r : Maybe Indices) (o q : Option ℕ) → m ≡ 2 → o ≡ index_at s xs x → q ≡ index_at s xs (x + 2) → r ≡ indices_from (o ∷ q ∷ []) → r ≡ indices_from (constants_in s xs x m)
  unfolding numbers_at constants_from
  two-are m r o q h e f g =
      g ∙ ap₂ (λ (i j : Option ℕ). indices_from (i ∷ j ∷ [])) e f ∙ ap (λ (j : ℕ). indices_from (constants_in s xs x j)) (sym h)

  first : {r : Maybe ℕ} → IndexIs s xs (x + 2 * 0) r → integer_of r ≡ index_at s xs x
  first h = let e : x + 2 * 0 ≡ x = omega arith in h.is ∙ ap (index_at s xs) e

module _ {s xs : List ℕ} {x : ℕ} where
  pub indices-other : {m : ℕ} → (m ≡ 1 → ⊥) → (m ≡ 2 → ⊥) → IndicesAre s xs x m None
  indices-other {m} g h = record { are = other_is s xs x m g h; small = tt }

  module _ {r : Maybe ℕ} (h : IndexIs s xs (x + 2 * 0) r) {m : ℕ} where
    pub indices-first : m ≡ 1 → r ≡ None → {z : Maybe Indices} → z ≡ None → IndicesAre s xs x m z
    indices-first d e {z} ez =
        subst (λ (y : Maybe Indices). IndicesAre s xs x m y) (sym ez)
        (record { are = one-are s xs x m None none d (sym (ap integer_of e) ∙ first s xs x h) refl; small = tt })

    pub indices-one : m ≡ 1 → (i : ℕ) → r ≡ Some i → IndicesAre s xs x m (Some (One i))
    indices-one d i e = record { are = one-are s xs x m (Some (One i)) (some i) d (sym (ap integer_of e) ∙ first s xs x h) refl; small = h.small i e }

    pub indices-wrong : m ≡ 2 → r ≡ None → {z : Maybe Indices} → z ≡ None → IndicesAre s xs x m z
    indices-wrong d e {z} ez =
        subst (λ (y : Maybe Indices). IndicesAre s xs x m y) (sym ez)
        (record { are = two-are s xs x m None none (index_at s xs (x + 2)) d (sym (ap integer_of e) ∙ first s xs x h) refl refl; small = tt })

    module _ (two : m ≡ 2) (i : ℕ) (e : r ≡ Some i) {q : Maybe ℕ} (g : IndexIs s xs (x + 2) q) where
      pub indices-second : q ≡ None → {z : Maybe Indices} → z ≡ None → IndicesAre s xs x m z
      indices-second d {z} ez =
          subst (λ (y : Maybe Indices). IndicesAre s xs x m y) (sym ez)
          (record { are = two-are s xs x m None (some i) none two (sym (ap integer_of e) ∙ first s xs x h) (sym (ap integer_of d) ∙ g.is) refl; small = tt })

      pub indices-two : (j : ℕ) → q ≡ Some j → IndicesAre s xs x m (Some (Two i j))
      indices-two j d =
          record { are = two-are s xs x m (Some (Two i j)) (some i) (some j) two (sym (ap integer_of e) ∙ first s xs x h) (sym (ap integer_of d) ∙ g.is) refl; small = tt }

---------------------------------------------------------------- the argument
-- One index, by the operator.
one-extend : (op i : ℕ) (s : Sort) → 3 ≤ op → op < 5 → indexed₁ op i s ≡ new_width true s (number_in s + i)
one-extend zero i s l h = absurd (omega arith)
one-extend (suc zero) i s l h = absurd (omega arith)
one-extend (suc (suc zero)) i s l h = absurd (omega arith)
one-extend (suc (suc (suc zero))) i s l h = refl
one-extend (suc (suc (suc (suc zero)))) i s l h = refl
one-extend (suc (suc (suc (suc (suc op))))) i s l h = absurd (omega arith)

one-rotate : (op i : ℕ) (s : Sort) → 5 ≤ op → op < 7 → indexed₁ op i s ≡ new_width true s (number_in s)
one-rotate zero i s l h = absurd (omega arith)
one-rotate (suc zero) i s l h = absurd (omega arith)
one-rotate (suc (suc zero)) i s l h = absurd (omega arith)
one-rotate (suc (suc (suc zero))) i s l h = absurd (omega arith)
one-rotate (suc (suc (suc (suc zero)))) i s l h = absurd (omega arith)
one-rotate (suc (suc (suc (suc (suc zero))))) i s l h = refl
one-rotate (suc (suc (suc (suc (suc (suc zero)))))) i s l h = refl
one-rotate (suc (suc (suc (suc (suc (suc (suc op))))))) i s l h = absurd (omega arith)

pub one-other : (op i : ℕ) (s : Sort) → (op < 3) ⊎ (7 ≤ op) → (op ≡ 7 → ⊥) → (op ≡ 9 → ⊥) → (op ≡ 10 → ⊥) → indexed₁ op i s ≡ refused Count
one-other op i s (inl l) x y z =
    rw (ne_eqb op 3 (λ e. absurd (omega arith)), ne_eqb op 4 (λ e. absurd (omega arith)), ne_eqb op 5 (λ e. absurd (omega arith)), ne_eqb op 6 (λ e. absurd (omega arith)), ne_eqb op 7 x, ne_eqb op 9 y, ne_eqb op 10 z) refl
one-other op i s (inr l) x y z =
    rw (ne_eqb op 3 (λ e. absurd (omega arith)), ne_eqb op 4 (λ e. absurd (omega arith)), ne_eqb op 5 (λ e. absurd (omega arith)), ne_eqb op 6 (λ e. absurd (omega arith)), ne_eqb op 7 x, ne_eqb op 9 y, ne_eqb op 10 z) refl

pub two-other : (op i j : ℕ) (s : Sort) → (op ≡ 0 → ⊥) → (op ≡ 11 → ⊥) → indexed₂ op i j s ≡ refused Count
two-other op i j s x y = rw (ne_eqb op 0 x, ne_eqb op 11 y) refl

-- The operators of an arm.
pub extend_op : (op : ParamOp) → (op ≡ ParamOp.ZeroExtend) ⊎ (op ≡ ParamOp.SignExtend) → (3 ≤ param_number op) × (param_number op < 5)
extend_op op (inl e) = let q = ap param_number e in (omega (arith, q), omega (arith, q))
extend_op op (inr e) = let q = ap param_number e in (omega (arith, q), omega (arith, q))

pub rotate_op : (op : ParamOp) → (op ≡ ParamOp.RotateLeft) ⊎ (op ≡ ParamOp.RotateRight) → (5 ≤ param_number op) × (param_number op < 7)
rotate_op op (inl e) = let q = ap param_number e in (omega (arith, q), omega (arith, q))
rotate_op op (inr e) = let q = ap param_number e in (omega (arith, q), omega (arith, q))

pub one_default : (op : ParamOp) (i : ℕ) (s : Sort) → (op ≡ ParamOp.ZeroExtend → ⊥) → (op ≡ ParamOp.SignExtend → ⊥) → (op ≡ ParamOp.RotateLeft → ⊥) → (op ≡ ParamOp.RotateRight → ⊥)
    → (op ≡ ParamOp.Repeat → ⊥) → (op ≡ ParamOp.IntToBv → ⊥) → (op ≡ ParamOp.RePower → ⊥) → indexed₁ (param_number op) i s ≡ refused Count
one_default ParamOp.Extract i s a b c d e f g = refl
one_default ParamOp.BitOf i s a b c d e f g = refl
one_default ParamOp.IntOf i s a b c d e f g = refl
one_default ParamOp.ZeroExtend i s a b c d e f g = absurd (a refl)
one_default ParamOp.SignExtend i s a b c d e f g = absurd (b refl)
one_default ParamOp.RotateLeft i s a b c d e f g = absurd (c refl)
one_default ParamOp.RotateRight i s a b c d e f g = absurd (d refl)
one_default ParamOp.Repeat i s a b c d e f g = absurd (e refl)
one_default ParamOp.BvConst i s a b c d e f g = refl
one_default ParamOp.IntToBv i s a b c d e f g = absurd (f refl)
one_default ParamOp.RePower i s a b c d e f g = absurd (g refl)
one_default ParamOp.ReLoop i s a b c d e f g = refl

-- The index 0 of Repeat and IntToBv.
pub one-none : (op : ParamOp) {i : ℕ} (s : Sort) → (op ≡ ParamOp.Repeat) ⊎ (op ≡ ParamOp.IntToBv) → i ≡ 0 → indexed₁ (param_number op) i s ≡ refused Count
one-none op {i} s (inl e) z = ap₂ (λ (k : ParamOp) (j : ℕ). indexed₁ (param_number k) j s) e z
one-none op {i} s (inr e) z = ap₂ (λ (k : ParamOp) (j : ℕ). indexed₁ (param_number k) j s) e z

-- A row as it was kept.
pub kept_row : {b p : List ℕ} {n u : ℕ} {v : Verdict} {b' p' ix' : List ℕ} {r q : Result ℕ Cause} → r ≡ q
    → AnswerIs b p n v b' p' ix' (record { verdict = q; count = n; used = u }) → AnswerIs b p n v b' p' ix' (record { verdict = r; count = n; used = u })
kept_row {b} {p} {n} {u} {v} {b'} {p'} {ix'} {r} {q} e h = subst (λ (x : Result ℕ Cause). AnswerIs b p n v b' p' ix' (record { verdict = x; count = n; used = u })) (sym e) h

pub known-of : (s : Store) {a : ℕ} → a < s.count → KnownAsks s.records.now s.places.now s.index.now s.count s.used a
known-of s l = record { good = s.good; known = l }

pub known-one : {b p ix : List ℕ} {n u i a : ℕ} → OneIndexAsks b p ix n u i a → KnownAsks b p ix n u a
known-one f = record { good = f.good; known = f.known }

module _ {b p ix : List ℕ} {n u a : ℕ} (f : KnownAsks b p ix n u a) where
  -- The argument itself where its kind is the one wanted.
  pub kept-answer : (k w : ℕ) (v : Verdict) → (k ≡ w → v ≡ sort (sort_at b p n a)) → ((k ≡ w → ⊥) → v ≡ refused Misfit)
      → AnswerIs b p n v b p ix (record { verdict = kept_as a k w; count = n; used = u })
  kept-answer k w v x y = go (eqb k w) refl
    where
      go : (t : Bool) → eqb k w ≡ t → AnswerIs b p n v b p ix (record { verdict = cond t (Ok a) (Err Misfit); count = n; used = u })
      go true e = judged-as (x (eqb-true k w e)) (answer-known b p ix n u f.good a f.known)
      go false e = judged-as (y (eqb-false k w e)) (made-refused b p ix n u f.good Misfit)

  module _ (r : SortRecord) (h : EntryHas b p a r) where
    read : EntryIs b p n a r
    read = h n f.good.stored f.known

    vector-by : vector (sort_at b p n a) ≡ eqb (sort_number r.kind) 9
    vector-by =
        both_ways (vector (sort_at b p n a)) (eqb (sort_number r.kind) 9)
        (λ e. eq-eqb (sort_number r.kind) 9 (read.kind ∙ ap kind_of (same-sound (sort_at b p n a) (bitvec (number_in (sort_at b p n a))) e)))
        (λ e. kind-vector b p n a f.good.stored f.known (sym read.kind ∙ eqb-true (sort_number r.kind) 9 e))

    plain_by : (k : ℕ) → map_of k ≡ 1 → same (sort_at b p n a) (plain_sort k) ≡ eqb (sort_number r.kind) k
    plain_by k m =
        same-swap (sort_at b p n a) (plain_sort k) ∙ kind-same b p n a f.good.stored f.known k m ∙ ap (λ (i : ℕ). eqb i k) (sym read.kind)

    pub extend-is : (op i : ℕ) → 3 ≤ op → op < 5 → indexed₁ op i (sort_at b p n a) ≡ widened_verdict (sort_number r.kind) 9 (r.number + i)
    extend-is op i l o =
        one-extend op i (sort_at b p n a) l o
        ∙ ap₂ (λ (t : Bool) (w : ℕ). need t Misfit (sort (bitvec (w + i)))) vector-by (sym read.number)

    pub rotate-is : (op i : ℕ) → 5 ≤ op → op < 7 → AnswerIs b p n (indexed₁ op i (sort_at b p n a)) b p ix (record { verdict = kept_as a (sort_number r.kind) 9; count = n; used = u })
    rotate-is op i l o =
        let S = sort_at b p n a in
        judged-as (one-rotate op i S l o)
        (kept-answer (sort_number r.kind) 9 (new_width true S (number_in S))
        (λ e.
        let v = vector-by ∙ eq-eqb (sort_number r.kind) 9 e in
        ap (λ (t : Bool). need t Misfit (sort (bitvec (number_in S)))) v ∙ ap sort (sym (same-sound S (bitvec (number_in S)) v)))
        (λ d. ap (λ (t : Bool). need t Misfit (sort (bitvec (number_in S)))) (vector-by ∙ ne_eqb (sort_number r.kind) 9 d)))

    pub repeat-is : {op : ℕ} (i : ℕ) → op ≡ 7 → (i ≡ 0 → ⊥) → indexed₁ op i (sort_at b p n a) ≡ widened_verdict (sort_number r.kind) 9 (i * r.number)
    repeat-is {op} i e z =
        ap (λ (k : ℕ). indexed₁ k i (sort_at b p n a)) e
        ∙ ap (λ (t : Bool). new_width t (sort_at b p n a) (i * number_in (sort_at b p n a))) (lt-ltb 0 i (omega (arith, z)))
        ∙ ap₂ (λ (t : Bool) (w : ℕ). need t Misfit (sort (bitvec (i * w)))) vector-by (sym read.number)

    pub int_is : {op : ℕ} (i : ℕ) → op ≡ 9 → (i ≡ 0 → ⊥) → indexed₁ op i (sort_at b p n a) ≡ widened_verdict (sort_number r.kind) 4 i
    unfolding map_of maps
    int_is {op} i e z =
        ap (λ (k : ℕ). indexed₁ k i (sort_at b p n a)) e
        ∙ ap₂ (λ (t v : Bool). need t Count (need v Misfit (sort (bitvec i)))) (lt-ltb 0 i (omega (arith, z))) (plain_by 4 refl)

    -- RePower and ReLoop keep RegLan.
    text-kept : AnswerIs b p n (need (same (sort_at b p n a) reglan) Misfit (sort reglan)) b p ix (record { verdict = kept_as a (sort_number r.kind) 7; count = n; used = u })
    unfolding map_of maps
    text-kept =
        let S = sort_at b p n a in
        kept-answer (sort_number r.kind) 7 (need (same S reglan) Misfit (sort reglan))
        (λ e.
        let v = plain_by 7 refl ∙ eq-eqb (sort_number r.kind) 7 e in
        ap (λ (t : Bool). need t Misfit (sort reglan)) v ∙ ap sort (sym (same-sound S reglan v)))
        (λ d. ap (λ (t : Bool). need t Misfit (sort reglan)) (plain_by 7 refl ∙ ne_eqb (sort_number r.kind) 7 d))

    pub power-is : {op : ℕ} (i : ℕ) → op ≡ 10 → AnswerIs b p n (indexed₁ op i (sort_at b p n a)) b p ix (record { verdict = kept_as a (sort_number r.kind) 7; count = n; used = u })
    power-is {op} i e = judged-as (ap (λ (k : ℕ). indexed₁ k i (sort_at b p n a)) e) text-kept

    pub loop-is : {op : ℕ} (i j : ℕ) → op ≡ 11 → AnswerIs b p n (indexed₂ op i j (sort_at b p n a)) b p ix (record { verdict = kept_as a (sort_number r.kind) 7; count = n; used = u })
    loop-is {op} i j e = judged-as (ap (λ (k : ℕ). indexed₂ k i j (sort_at b p n a)) e) text-kept

  module _ (i j : ℕ) where
    pub extract-order : i < j → indexed₂ 0 i j (sort_at b p n a) ≡ refused Count
    extract-order l =
        ap (λ (t : Bool). need (t && (not (vector (sort_at b p n a)) || ltb i (number_in (sort_at b p n a)))) Count (need (vector (sort_at b p n a)) Misfit (sort (bitvec (suc (i - j)))))) (lt-leb j i l)

    module _ (l : j ≤ i) (r : SortRecord) (h : EntryHas b p a r) where
      argument : EntryIs b p n a r
      argument = h n f.good.stored f.known

      pub extract-kind : (sort_number r.kind ≡ 9 → ⊥) → indexed₂ 0 i j (sort_at b p n a) ≡ refused Misfit
      extract-kind d =
          ap₂ (λ (s t : Bool). need (s && (not t || ltb i (number_in (sort_at b p n a)))) Count (need t Misfit (sort (bitvec (suc (i - j)))))) (le-leb j i l)
          (vector-not (sort_at b p n a) (λ e. d (argument.kind ∙ e)))

      module _ (k : sort_number r.kind ≡ 9) where
        is-vector : indexed₂ 0 i j (sort_at b p n a) ≡ need (ltb i r.number) Count (sort (bitvec (suc (i - j))))
        is-vector =
            ap₂ (λ (s t : Bool). need (s && (not t || ltb i (number_in (sort_at b p n a)))) Count (need t Misfit (sort (bitvec (suc (i - j)))))) (le-leb j i l)
            (kind-vector b p n a f.good.stored f.known (sym argument.kind ∙ k))
            ∙ ap (λ (w : ℕ). need (ltb i w) Count (sort (bitvec (suc (i - j))))) (sym argument.number)

        pub extract-wide : r.number ≤ i → indexed₂ 0 i j (sort_at b p n a) ≡ refused Count
        extract-wide w = is-vector ∙ ap (λ (c : Bool). need c Count (sort (bitvec (suc (i - j))))) (le-ltb i r.number w)

        pub extract-fits : i < r.number → indexed₂ 0 i j (sort_at b p n a) ≡ sort (bitvec (i - j + 1))
        extract-fits w =
            is-vector ∙ ap (λ (c : Bool). need c Count (sort (bitvec (suc (i - j))))) (lt-ltb i r.number w)
            ∙ ap (λ (x : ℕ). sort (bitvec x)) (sym (add-one (i - j)))

---------------------------------------------------------------- the operator
indexed-by : (op : ℕ) (is : List (Option ℕ)) (s : Sort) → indexed_by op is s ≡ indexed_within op (indices_from is) s
indexed-by op [] s = refl
indexed-by op (none ∷ is) s = refl
indexed-by op (some i ∷ []) s = refl
indexed-by op (some i ∷ (none ∷ is)) s = refl
indexed-by op (some i ∷ (some j ∷ [])) s = refl
indexed-by op (some i ∷ (some j ∷ (k ∷ is))) s = refl

indexed-count : (op : ℕ) (is : List (Option ℕ)) (st : List Sort) (a : List ℕ) (m : ℕ) → (m ≡ 1 → ⊥) → indexed_on op is (sorts_of st (numbers_at a 3 m)) ≡ refused Count
unfolding sorts_of numbers_at
indexed-count op is st a zero h = refl
indexed-count op is st a (suc zero) h = absurd (h refl)
indexed-count op is st a (suc (suc m)) h = refl

-- Whether the operator has ranks.
abbrev pub ranked_param : ℕ → Bool
ranked_param op = not (eqb op 1 || eqb op 2 || eqb op 8)

module _ (op : ℕ) (is : List (Option ℕ)) (ts : Sorts) {t : Bool} (et : t ≡ ranked_param op) where
  pub unranked_param : t ≡ false → indexing op is ts ≡ refused NoRank
  unfolding indexing
  unranked_param e = ap (λ (c : Bool). need c NoRank (indexed_on op is ts)) (sym et ∙ e)

  indexed-on : t ≡ true → indexing op is ts ≡ indexed_on op is ts
  unfolding indexing
  indexed-on e = ap (λ (c : Bool). need c NoRank (indexed_on op is ts)) (sym et ∙ e)

-- A number that is no operator's.
one-past : (op i : ℕ) (s : Sort) → 12 ≤ op → indexed₁ op i s ≡ refused Count
one-past op i s l = one-other op i s (inr (omega arith)) (λ e. absurd (omega arith)) (λ e. absurd (omega arith)) (λ e. absurd (omega arith))

by-past : (op : ℕ) (is : List (Option ℕ)) (s : Sort) → 12 ≤ op → indexed_by op is s ≡ refused Count
by-past op [] s l = refl
by-past op (none ∷ is) s l = refl
by-past op (some i ∷ []) s l = one-past op i s l
by-past op (some i ∷ (none ∷ is)) s l = refl
by-past op (some i ∷ (some j ∷ [])) s l = two-other op i j s (λ e. absurd (omega arith)) (λ e. absurd (omega arith))
by-past op (some i ∷ (some j ∷ (k ∷ is))) s l = refl

on-past : (op : ℕ) (is : List (Option ℕ)) (ts : Sorts) → 12 ≤ op → indexed_on op is ts ≡ refused Count
on-past op is end l = refl
on-past op is (a then end) l = by-past op is a l
on-past op is (a then (b then ts)) l = refl

pub indexing-past : (op : ℕ) (is : List (Option ℕ)) (ts : Sorts) → 12 ≤ op → indexing op is ts ≡ refused Count
indexing-past op is ts l =
    indexed-on op is ts {t = true}
    (sym (ap₂ (λ (c d : Bool). not (c || d || eqb op 8)) (ne_eqb op 1 (λ e. absurd (omega arith))) (ne_eqb op 2 (λ e. absurd (omega arith)))
    ∙ ap not (ne_eqb op 8 (λ e. absurd (omega arith))))) refl
    ∙ on-past op is ts l

module _ {b p ix : List ℕ} {n u : ℕ} {s xs : List ℕ} {x y : ℕ} {a : List ℕ} {m : ℕ} (f : IndexingAsks b p ix n u s xs x y a m) (op : ℕ) {t : Bool} (et : t ≡ ranked_param op) (on : t ≡ true) where
  pub indexing-count : (m ≡ 1 → ⊥) → indexing op (constants_in s xs x y) (args_of b p n a m) ≡ refused Count
  indexing-count d =
      indexed-on op (constants_in s xs x y) (args_of b p n a m) et on ∙ indexed-count op (constants_in s xs x y) (store_of b p n) a m d

  module _ (e : m ≡ 1) {r : Maybe Indices} (g : IndicesAre s xs x y r) {k : ℕ} (ek : k ≡ u16_at a 3) where
    pub indexing-is : indexing op (constants_in s xs x y) (args_of b p n a m) ≡ indexed_within op r (sort_at b p n k)
    unfolding sort_at sorts_of numbers_at
    indexing-is =
        indexed-on op (constants_in s xs x y) (args_of b p n a m) et on ∙ ap (λ (i : ℕ). indexed_on op (constants_in s xs x y) (args_of b p n a i)) e
        ∙ indexed-by op (constants_in s xs x y) (sort_at b p n (u16_at a 3))
        ∙ ap₂ (λ (q : Maybe Indices) (i : ℕ). indexed_within op q (sort_at b p n i)) (sym g.are) (sym ek)
