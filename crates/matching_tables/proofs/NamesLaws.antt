-- The loops over names: what is done and what is left make the whole.
use Prim.Native.Nat.{ℕ, zero, suc, ◌+◌, ◌-◌, ◌≤◌, ◌<◌}
use mathlib.Core.Path.{◌≡◌, refl, sym, ap, subst, ◌∙◌}
use mathlib.Core.Bool.{Bool, true, false, ◌&&◌, and-false}
use mathlib.Core.List.{List, [], ◌∷◌}
use native.Mathlib.Omega.{arith}
use native.Mathlib.Decide.{ℕ_discrete}
use lib.ListN.{length, get_or, set, length-set}
use lib.Seq.{get_or-set_same, get_or-set_other}
use lib.Dec.{eqb}
use borrow.Author.Tests.{eq-eqb, ne_eqb}
use Rattle.std.specs.Bool.{MatchBool}
use Rattle.std.specs.List.{AllWithin, HoldsAt, FoldsTo}
use Rattle.std.specs.Iterator.{Yields, YieldsFirst, CallableAtEachTurn}
use Rattle.record.specs.Names.{member, all_members}
use Rattle.record.specs.Number.{numbers_at}
use Rattle.record.specs.Numbers.{numbers_left, numbers-small}
use Rattle.record.specs.Decode.{Zeros}
use Rattle.record.specs.declared.numbers.Numbers.{Numbers}
use Rattle.matching_tables.specs.Tables.{times, Lists, Added}
use Rattle.matching_tables.specs.Contract.{none_of}
use Rattle.matching_tables.specs.TableLaws.{times-first, times-other, listed-is, listed-some, listed-none}

-- Names that are left, of which v is the first.
module _ {rest : List ℕ} {v : ℕ} {rest' : List ℕ} (e : rest ≡ v ∷ rest') where
  left_here : (u : ℕ) → v ≡ u → times u rest ≡ suc (times u rest')
  left_here u q = ap (times u) e ∙ times-first u v rest' q

  left_other : (u : ℕ) → (v ≡ u → ⊥) → times u rest ≡ times u rest'
  left_other u d = ap (times u) e ∙ times-other u v rest' d

  left-small : ((j : ℕ) → get_or rest j 0 < 65536) → (j : ℕ) → get_or rest' j 0 < 65536
  left-small h j = subst (λ (l : List ℕ). get_or l (suc j) 0 < 65536) e (h (suc j))

  left-first : ((j : ℕ) → get_or rest j 0 < 65536) → v < 65536
  left-first h = omega (arith, h 0, ap (λ (l : List ℕ). get_or l 0 0) e)

---------------------------------------------------------------- listing
pub record Adding (prm us now rest : List ℕ) : Type 0 where
  pub long : length now ≡ length prm
  pub small : (j : ℕ) → get_or rest j 0 < 65536
  pub each : (v : ℕ) → get_or now v 0 + times v rest ≡ get_or prm v 0 + times v us

pub adding-start : {prm us rest : List ℕ} → rest ≡ us → ((j : ℕ) → get_or us j 0 < 65536) → Adding prm us prm rest
adding-start {prm} {us} e h = rw e (record { long = refl; small = h; each = λ v. refl })

module _ {prm us now rest : List ℕ} (a : Adding prm us now rest) {v : ℕ} {rest' : List ℕ} (e : rest ≡ v ∷ rest') where
  pub adding-low : length prm ≡ 65536 → v < length now
  adding-low l = omega (arith, a.long, left-first e a.small)

  pub adding-small : ((u : ℕ) → get_or prm u 0 + times u us ≤ 65535) → get_or now v 0 + 1 ≤ 65535
  adding-small q = omega (arith, a.each v, q v, left_here e v refl)

  pub adding-step : v < length now → Adding prm us (set now v (get_or now v 0 + 1)) rest'
  adding-step h =
      record {
        long = length-set now v (get_or now v 0 + 1) ∙ a.long;
        small = left-small e a.small;
        each = λ u. go u (ℕ_discrete v u);
      }
    where
      go : (u : ℕ) → Dec (v ≡ u) → get_or (set now v (get_or now v 0 + 1)) u 0 + times u rest' ≡ get_or prm u 0 + times u us
      go u (yes q) =
          let z : get_or (set now v (get_or now v 0 + 1)) u 0 ≡ get_or now u 0 + 1 =
          ap (λ (i : ℕ). get_or (set now v (get_or now v 0 + 1)) i 0) (sym q) ∙ get_or-set_same now v (get_or now v 0 + 1) 0 h ∙ ap (λ (i : ℕ). get_or now i 0 + 1) q in
          omega (arith, a.each u, left_here e u q)
      go u (no d) =
          omega (arith, a.each u, left_other e u d, get_or-set_other now v u (get_or now v 0 + 1) 0 (λ z. d (sym z)))

pub adding-end : {prm us now rest : List ℕ} → Adding prm us now rest → rest ≡ [] → Added prm us now
unfolding times
adding-end a z = record { long = a.long; each = λ v. omega (arith, a.each v, ap (times v) z) }

---------------------------------------------------------------- taking off
pub record Taking (prm us now rest : List ℕ) : Type 0 where
  pub long : length now ≡ length prm
  pub small : (j : ℕ) → get_or rest j 0 < 65536
  pub each : (v : ℕ) → get_or now v 0 + times v us ≡ get_or prm v 0 + times v rest

pub taking-start : {prm us rest : List ℕ} → rest ≡ us → ((j : ℕ) → get_or us j 0 < 65536) → Taking prm us prm rest
taking-start {prm} {us} e h = rw e (record { long = refl; small = h; each = λ v. refl })

module _ {prm us now rest : List ℕ} (a : Taking prm us now rest) {v : ℕ} {rest' : List ℕ} (e : rest ≡ v ∷ rest') where
  pub taking-low : length prm ≡ 65536 → v < length now
  taking-low l = omega (arith, a.long, left-first e a.small)

  pub taking-some : ((u : ℕ) → times u us ≤ get_or prm u 0) → 1 ≤ get_or now v 0
  taking-some q = omega (arith, a.each v, q v, left_here e v refl)

  pub taking_step : ((u : ℕ) → times u us ≤ get_or prm u 0) → v < length now → Taking prm us (set now v (get_or now v 0 - 1)) rest'
  taking_step q h =
      record {
        long = length-set now v (get_or now v 0 - 1) ∙ a.long;
        small = left-small e a.small;
        each = λ u. go u (ℕ_discrete v u);
      }
    where
      go : (u : ℕ) → Dec (v ≡ u) → get_or (set now v (get_or now v 0 - 1)) u 0 + times u us ≡ get_or prm u 0 + times u rest'
      go u (yes w) =
          let z : get_or (set now v (get_or now v 0 - 1)) u 0 ≡ get_or now v 0 - 1 =
          ap (λ (i : ℕ). get_or (set now v (get_or now v 0 - 1)) i 0) (sym w) ∙ get_or-set_same now v (get_or now v 0 - 1) 0 h in
          omega (arith, a.each u, taking-some q, ap (λ (i : ℕ). get_or now i 0) w, left_here e u w)
      go u (no d) =
          omega (arith, a.each u, left_other e u d, get_or-set_other now v u (get_or now v 0 - 1) 0 (λ z. d (sym z)))

pub taking-end : {prm us now rest : List ℕ} → Taking prm us now rest → rest ≡ [] → Added now us prm
unfolding times
taking-end a z = record { long = sym a.long; each = λ v. omega (arith, a.each v, ap (times v) z) }

---------------------------------------------------------------- looking at all
-- The numbers of a span of bytes are those of two bytes.
pub span-small : (n : Numbers) (b : List ℕ) (x m : ℕ) → numbers_left n ≡ numbers_at b x m → ((i : ℕ) → get_or b i 0 < 256) → (j : ℕ) → get_or (numbers_left n) j 0 < 65536
span-small n b x m e h j = subst (λ (l : List ℕ). get_or l j 0 < 65536) (sym e) (numbers-small b x m h j)

-- What a closure that keeps its state may be asked of each number of a list.
pub asked-of-numbers : {P : Type 0} {R : P → ℕ → P → Type 0} {Q : P → ℕ → Type 0} {s : Numbers} {p : P}
    → ((j : ℕ) → get_or (numbers_left s) j 0 < 65536) → ((x : ℕ) (o q : P) → R o x q → q ≡ o) → ((x : ℕ) → x < 65536 → Q p x)
    → CallableAtEachTurn (YieldsFirst numbers_left) R Q s p
asked-of-numbers {P} {R} {Q} {s} {p} small stays h =
    record { at = λ xs t q x u y c e. subst (λ (k : P). Q k x) (kept p xs q c) (h x (left-first e (later s xs t y small))) }
  where
    kept : (p : P) (xs : List ℕ) (q : P) → FoldsTo R p xs q → p ≡ q
    kept p [] q c = c
    kept p (x ∷ xs) q (j, r, c) = sym (stays x p j r) ∙ kept j xs q c

    later : (s : Numbers) (xs : List ℕ) (t : Numbers) → Yields (YieldsFirst numbers_left) s xs t → ((j : ℕ) → get_or (numbers_left s) j 0 < 65536)
        → (j : ℕ) → get_or (numbers_left t) j 0 < 65536
    later s [] t e l = subst (λ (n : Numbers). (j : ℕ) → get_or (numbers_left n) j 0 < 65536) e l
    later s (x ∷ xs) t (j, e, y) l = later j xs t y (left-small e l)

-- The names all have an entry, or one has none.
module _ {prm ns : List ℕ} (h : Lists prm ns) where
  all-there : (us : List ℕ) → AllWithin (λ v. get_or prm v 0 ≡ 0 → ⊥) us 0 (length us) → all_members us ns ≡ true
  unfolding all_members
  all-there [] a = refl
  all-there (u ∷ us) a =
      rw (listed-is prm ns h u, listed-some prm u (a 0 0 (omega arith) (omega arith)))
      (all-there us (λ k d l g. a (suc k) d (omega arith) (omega arith)))

  all-fail : (us : List ℕ) (k : ℕ) → k < length us → HoldsAt (λ v. get_or prm v 0 ≡ 0) us k → all_members us ns ≡ false
  unfolding all_members
  all-fail [] k l a = absurd (omega arith)
  all-fail (u ∷ us) zero l a = rw (listed-is prm ns h u, listed-none prm u (a 0)) refl
  all-fail (u ∷ us) (suc k) l a = ap (λ (t : Bool). member u ns && t) (all-fail us k (omega arith) a) ∙ and-false (member u ns)

pub all-answer : {prm : List ℕ} (us : List ℕ) (r : Bool)
    → MatchBool r (AllWithin (λ v. get_or prm v 0 ≡ 0 → ⊥) us 0 (length us)) ((k : ℕ) × (k < length us) × HoldsAt (λ v. get_or prm v 0 ≡ 0) us k)
    → (ns : List ℕ) → Lists prm ns → r ≡ all_members us ns
all-answer us true a ns h = sym (all-there h us a)
all-answer us false (k, l, a) ns h = sym (all-fail h us k l a)

none-there : (prm us : List ℕ) → AllWithin (λ v. get_or prm v 0 ≡ 0) us 0 (length us) → none_of prm us ≡ true
unfolding none_of
none-there prm [] a = refl
none-there prm (u ∷ us) a = rw (eq-eqb (get_or prm u 0) 0 (a 0 0 (omega arith) (omega arith))) (none-there prm us (λ k d l g. a (suc k) d (omega arith) (omega arith)))

none-fail : (prm us : List ℕ) (k : ℕ) → k < length us → HoldsAt (λ v. get_or prm v 0 ≡ 0 → ⊥) us k → none_of prm us ≡ false
unfolding none_of
none-fail prm [] k l a = absurd (omega arith)
none-fail prm (u ∷ us) zero l a = rw (ne_eqb (get_or prm u 0) 0 (a 0)) refl
none-fail prm (u ∷ us) (suc k) l a = ap (λ (t : Bool). eqb (get_or prm u 0) 0 && t) (none-fail prm us k (omega arith) a) ∙ and-false (eqb (get_or prm u 0) 0)

pub none-answer : (prm us : List ℕ) (r : Bool)
    → MatchBool r (AllWithin (λ v. get_or prm v 0 ≡ 0) us 0 (length us)) ((k : ℕ) × (k < length us) × HoldsAt (λ v. get_or prm v 0 ≡ 0 → ⊥) us k)
    → r ≡ none_of prm us
none-answer prm us true a = sym (none-there prm us a)
none-answer prm us false (k, l, a) = sym (none-fail prm us k l a)

---------------------------------------------------------------- unbinding
-- The names before i are unbound again.
pub record Clearing (m : ℕ) (imgs bnd : List ℕ) (i : ℕ) : Type 0 where
  pub names : length imgs ≡ 65536
  pub order : length bnd ≡ 4160
  pub few : m ≤ 4160
  pub only : (v : ℕ) → 0 < get_or imgs v 0 → (j : ℕ) × (i ≤ j) × (j < m) × (get_or bnd j 0 ≡ v)
  pub done : (j : ℕ) → j < i → get_or bnd j 0 ≡ 0
  pub rest : Zeros bnd m
