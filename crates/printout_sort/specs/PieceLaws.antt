-- The pieces of a text are the text, for every well-formed sort; and how long the pieces are.
use Rattle.std.specs.Prelude.{ℕ, zero, suc, ◌+◌, ◌≤◌, ◌<◌, ◌≡◌, refl, Bool, true, false, cond, not, ◌||◌, List, [], ◌∷◌, ◌++◌, length, get_or, eqb, leb, T}
use Rattle.std.proofs.Common.{sym, ap, subst, ◌∙◌, append_assoc, append-nil, arith, length-append, eqb→eq, leb→le, eq-eqb, ne_eqb, eqb-true}
use Rattle.std.proofs.Math.Decide.{dec_lt}
use Rattle.std.proofs.lemmas.Bool.{eqb-false}
use Rattle.record.specs.Sort.{Sort, Sorts, var, par, node, end, ◌then◌, count, kind_of, name_in, number_in, parts_of, names_of}
use Rattle.record.specs.Record.{mosts, most_of}
use Rattle.record.specs.Store.{fields_of}
use Rattle.record.specs.Sizes.{Formed, length-indices}
use Rattle.record.specs.Table.{at}
use Rattle.printout_sort.specs.Text.{ascii, decimal, name_text, names_text, node_text, text, texts}
use Rattle.printout_sort.specs.Wrote.{Wrote, wrote_as, wrote_none}
use Rattle.printout_sort.specs.Pieces.{form_of, word_text, closes, bracket, close_text, frames, inners, inner_by, inner_text, pieces_text}

var-pieces : (v w : ℕ) (ns : List ℕ) → text (var v) ≡ pieces_text 2 v w ns []
unfolding text pieces_text
var-pieces v w ns = ap (λ (l : List ℕ). 39 ∷ l) (sym (append-nil (name_text v)))

par-pieces : (a w : ℕ) (ns : List ℕ) (b : Sort) → text (par ns b) ≡ pieces_text 12 a w ns (texts (b then end))
unfolding text pieces_text
par-pieces a w ns b =
    ap (λ (l : List ℕ). ascii "(par (" ++ l)
    (sym (append_assoc (names_text ns) (ascii ")") (32 ∷ ((text b ++ []) ++ ascii ")"))
    ∙ ap (λ (l : List ℕ). names_text ns ++ (41 ∷ 32 ∷ (l ++ ascii ")"))) (append-nil (text b))))

atom-pieces : (a w : ℕ) (ns : List ℕ) (ss : Sorts) → node_text 1 a w (texts ss) ≡ pieces_text (form_of 1 (count ss)) a w ns (texts ss)
unfolding text node_text pieces_text form_of count
atom-pieces a w ns end = sym (append-nil (name_text a))
atom-pieces a w ns (s then ss) = rw (ne_eqb (suc (count ss)) 0 (λ q. absurd (omega arith)))

-- Every other kind; one without a list has no parts.
node-pieces : (k a w : ℕ) (ns ts : List ℕ) → k < 16 → (k ≡ 1 → ⊥) → (k ≡ 2 → ⊥) → (k ≡ 12 → ⊥) → (most_of k ≡ 0 → ts ≡ [])
    → node_text k a w ts ≡ pieces_text k a w ns ts
unfolding node_text pieces_text most_of mosts
node-pieces zero a w ns ts l one v q none = refl
node-pieces (suc zero) a w ns ts l one v q none = absurd (one refl)
node-pieces (suc (suc zero)) a w ns ts l one v q none = absurd (v refl)
node-pieces (suc (suc (suc zero))) a w ns ts l one v q none = rw (none refl)
node-pieces (suc (suc (suc (suc zero)))) a w ns ts l one v q none = rw (none refl)
node-pieces (suc (suc (suc (suc (suc zero))))) a w ns ts l one v q none = rw (none refl)
node-pieces (suc (suc (suc (suc (suc (suc zero)))))) a w ns ts l one v q none = rw (none refl)
node-pieces (suc (suc (suc (suc (suc (suc (suc zero))))))) a w ns ts l one v q none = rw (none refl)
node-pieces (suc (suc (suc (suc (suc (suc (suc (suc zero)))))))) a w ns ts l one v q none = refl
node-pieces (suc (suc (suc (suc (suc (suc (suc (suc (suc zero))))))))) a w ns ts l one v q none = rw (none refl)
node-pieces (suc (suc (suc (suc (suc (suc (suc (suc (suc (suc zero)))))))))) a w ns ts l one v q none = rw (none refl)
node-pieces (suc (suc (suc (suc (suc (suc (suc (suc (suc (suc (suc zero))))))))))) a w ns ts l one v q none = refl
node-pieces (suc (suc (suc (suc (suc (suc (suc (suc (suc (suc (suc (suc zero)))))))))))) a w ns ts l one v q none = absurd (q refl)
node-pieces (suc (suc (suc (suc (suc (suc (suc (suc (suc (suc (suc (suc (suc zero))))))))))))) a w ns ts l one v q none = rw (none refl)
node-pieces (suc (suc (suc (suc (suc (suc (suc (suc (suc (suc (suc (suc (suc (suc zero)))))))))))))) a w ns ts l one v q none = refl
node-pieces (suc (suc (suc (suc (suc (suc (suc (suc (suc (suc (suc (suc (suc (suc (suc zero))))))))))))))) a w ns ts l one v q none = refl
node-pieces (suc (suc (suc (suc (suc (suc (suc (suc (suc (suc (suc (suc (suc (suc (suc (suc k)))))))))))))))) a w ns ts l one v q none = absurd (omega arith)

no-parts : (ss : Sorts) → count ss ≡ 0 → texts ss ≡ []
unfolding text count
no-parts end e = refl
no-parts (s then ss) e = absurd (omega arith)

form-other : (k m : ℕ) → (k ≡ 1 → ⊥) → form_of k m ≡ k
unfolding form_of
form-other k m h = rw (ne_eqb k 1 h)

-- THE TEXT OF A WELL-FORMED SORT, in pieces.
pub pieces-text : (s : Sort) → Formed s → text s ≡ pieces_text (form_of (kind_of s) (count (parts_of s))) (name_in s) (number_in s) (names_of s) (texts (parts_of s))
unfolding text form_of count fields_of
pieces-text (var v) h = var-pieces v 0 []
pieces-text (par ns b) h = par-pieces 0 0 ns b
pieces-text (node k a w ss) h = go (eqb k 1) refl
  where
    go : (t : Bool) → eqb k 1 ≡ t → node_text k a w (texts ss) ≡ pieces_text (form_of k (count ss)) a w [] (texts ss)
    go true e =
        subst (λ (j : ℕ). node_text j a w (texts ss) ≡ pieces_text (form_of j (count ss)) a w [] (texts ss)) (sym (eqb-true k 1 e))
        (atom-pieces a w [] ss)
    go false e =
        node-pieces k a w [] (texts ss) h.shape.known (eqb-false k 1 e) h.own
        (λ q. absurd (omega (arith, h.shape.some q)))
        (λ z. no-parts ss (omega (arith, h.shape.most, length-indices ss [])))
        ∙ ap (λ (f : ℕ). pieces_text f a w [] (texts ss)) (sym (form-other k (count ss) (eqb-false k 1 e)))

-- THE RULE OF THE TABLE of word and bracket lengths.
abbrev frame_right : ℕ → ℕ → Bool
frame_right f x = eqb x (length (word_text f) + length (close_text f))

pub frame_is : (f : ℕ) → f < 17 → get_or frames f 0 ≡ length (word_text f) + length (close_text f)
unfolding frames word_text close_text
frame_is f l = eqb→eq (get_or frames f 0) (length (word_text f) + length (close_text f)) (at frame_right frames tt f l)

abbrev frame-few : ℕ → ℕ → Bool
frame-few f x = leb x 12

frame-short : (f : ℕ) → f < 17 → get_or frames f 0 ≤ 12
unfolding frames
frame-short f l = leb→le (get_or frames f 0) 12 (at frame-few frames tt f l)

-- How many bytes stand at most between the word and the parts of a form, by the table `inners`: a name 6, a number 5. Names are not counted.
unfoldable pub inner_mosts : List ℕ
inner_mosts = 0 ∷ 6 ∷ 5 ∷ 0 ∷ []

-- With them word and bracket have at most 16 bytes: `(_ BitVec 65535)`.
abbrev frame-own : ℕ → ℕ → Bool
frame-own f x = leb (x + get_or inner_mosts (get_or inners f 0) 0) 16

pub frame-most : (f : ℕ) → f < 17 → get_or frames f 0 + get_or inner_mosts (get_or inners f 0) 0 ≤ 16
unfolding frames inners inner_mosts
frame-most f l = leb→le (get_or frames f 0 + get_or inner_mosts (get_or inners f 0) 0) 16 (at frame-own frames tt f l)

pub pieces-length : (f a w : ℕ) (ns ts : List ℕ) → f < 17 → length (pieces_text f a w ns ts) ≡ get_or frames f 0 + length (inner_text f a w ns) + length ts
unfolding pieces_text
pieces-length f a w ns ts l =
    omega (
      arith,
      frame_is f l,
      length-append (word_text f) (inner_text f a w ns ++ (ts ++ close_text f)),
      length-append (inner_text f a w ns) (ts ++ close_text f),
      length-append ts (close_text f),
    )

-- A form with names is Par's, whose word and bracket have 7 bytes.
abbrev inner-par : ℕ → ℕ → Bool
inner-par f x = not (eqb x 3) || eqb f 12

par_by : (x f : ℕ) → T (not (eqb x 3) || eqb f 12) → x ≡ 3 → f ≡ 12
par_by x f t e = eqb→eq f 12 (rw (eq-eqb x 3 e) at t)

pub names-form : (f : ℕ) → f < 17 → get_or inners f 0 ≡ 3 → f ≡ 12
unfolding inners
names-form f l e = par_by (get_or inners f 0) f (at inner-par inners tt f l) e

names-frame : (f : ℕ) → f ≡ 12 → get_or frames f 0 ≡ 7
unfolding frames
names-frame f e = ap (λ (i : ℕ). get_or frames i 0) e

-- So the bytes of a sort's own pieces are under 456.
pub own-short : (f r : ℕ) → f < 17 → r ≤ 448 → ((get_or inners f 0 ≡ 3 → ⊥) → r ≤ 6) → get_or frames f 0 + r + 1 ≤ 456
own-short f r l most low = go (eqb (get_or inners f 0) 3) refl
  where
    go : (t : Bool) → eqb (get_or inners f 0) 3 ≡ t → get_or frames f 0 + r + 1 ≤ 456
    go true e = omega (arith, names-frame f (names-form f l (eqb-true (get_or inners f 0) 3 e)))
    go false e = omega (arith, frame-short f l, low (eqb-false (get_or inners f 0) 3 e))

-- What the tables' values mean.
pub inner_name : (f a w : ℕ) (ns : List ℕ) → get_or inners f 0 ≡ 1 → inner_text f a w ns ≡ name_text a
unfolding inner_text inner_by
inner_name f a w ns e = ap (λ (i : ℕ). inner_by i a w ns) e

pub inner-number : (f a w : ℕ) (ns : List ℕ) → get_or inners f 0 ≡ 2 → inner_text f a w ns ≡ decimal w
unfolding inner_text inner_by
inner-number f a w ns e = ap (λ (i : ℕ). inner_by i a w ns) e

pub inner-names : (f a w : ℕ) (ns : List ℕ) → get_or inners f 0 ≡ 3 → inner_text f a w ns ≡ names_text ns ++ ascii ")"
unfolding inner_text inner_by
inner-names f a w ns e = ap (λ (i : ℕ). inner_by i a w ns) e

inner-rest : (i a w : ℕ) (ns : List ℕ) → (i ≡ 1 → ⊥) → (i ≡ 2 → ⊥) → (i ≡ 3 → ⊥) → inner_by i a w ns ≡ []
unfolding inner_by
inner-rest zero a w ns p q r = refl
inner-rest (suc zero) a w ns p q r = absurd (p refl)
inner-rest (suc (suc zero)) a w ns p q r = absurd (q refl)
inner-rest (suc (suc (suc zero))) a w ns p q r = absurd (r refl)
inner-rest (suc (suc (suc (suc i)))) a w ns p q r = refl

pub inner-nothing : (f a w : ℕ) (ns : List ℕ) → get_or inners f 0 ≡ 0 → inner_text f a w ns ≡ []
unfolding inner_text inner_by
inner-nothing f a w ns e = ap (λ (i : ℕ). inner_by i a w ns) e

pub inner-none : (f a w : ℕ) (ns : List ℕ) → (get_or inners f 0 ≡ 1 → ⊥) → (get_or inners f 0 ≡ 2 → ⊥) → (get_or inners f 0 ≡ 3 → ⊥) → inner_text f a w ns ≡ []
unfolding inner_text
inner-none f a w ns p q r = inner-rest (get_or inners f 0) a w ns p q r

pub close-none : (f : ℕ) → get_or closes f 0 ≡ 0 → close_text f ≡ []
unfolding close_text
close-none f e = ap bracket e

bracket-one : (c : ℕ) → (c ≡ 0 → ⊥) → bracket c ≡ c ∷ []
bracket-one zero h = absurd (h refl)
bracket-one (suc c) h = refl

pub close-one : (f : ℕ) → (get_or closes f 0 ≡ 0 → ⊥) → close_text f ≡ get_or closes f 0 ∷ []
unfolding close_text
close-one f h = bracket-one (get_or closes f 0) h

-- The word of a form that is known: it is written, and there is room for it.
pub word-wrote : (k : ℕ) {f : ℕ} {o : List ℕ} {to : ℕ} {o' : List ℕ} {e : ℕ} → f ≡ k → Wrote o to (word_text k) o' e → Wrote o to (word_text f) o' e
word-wrote k q w = wrote_as (sym (ap word_text q)) w

pub word_room : (k : ℕ) {f : ℕ} (to n : ℕ) → f ≡ k → to + length (word_text f) ≤ n → to + length (word_text k) ≤ n
word_room k to n q h = rw q at h

-- A form that is none of the first k.
abbrev pub Others : ℕ → ℕ → Type 0
Others zero f = Unit {0}
Others (suc k) f = Others k f × (f ≡ k → ⊥)

-- The form of a kind.
pub form-below : (k m : ℕ) → k < 16 → form_of k m < 17
unfolding form_of
form-below k m l = go (eqb k 1) (eqb m 0)
  where
    go : (s t : Bool) → cond s (cond t 16 1) k < 17
    go true true = omega arith
    go true false = omega arith
    go false t = omega arith

pub form-par : (k m : ℕ) → form_of k m ≡ 12 → k ≡ 12
unfolding form_of
form-par k m e = go (eqb k 1) (eqb m 0) e
  where
    go : (s t : Bool) → cond s (cond t 16 1) k ≡ 12 → k ≡ 12
    go true true q = absurd (omega arith)
    go true false q = absurd (omega arith)
    go false t q = q

pub form-bare : (k m : ℕ) → k ≡ 1 → m ≡ 0 → 16 ≡ form_of k m
unfolding form_of
form-bare k m e q = rw (eq-eqb k 1 e, eq-eqb m 0 q)

pub form-atom : (k m : ℕ) → k ≡ 1 → (m ≡ 0 → ⊥) → k ≡ form_of k m
unfolding form_of
form-atom k m e q = rw (eq-eqb k 1 e, ne_eqb m 0 q) e

pub form-kind : (k m : ℕ) → (k ≡ 1 → ⊥) → k ≡ form_of k m
form-kind k m h = sym (form-other k m h)

-- A number that is none of those up to k is over k.
pub after : (n k : ℕ) → (n ≡ k → ⊥) → k ≤ n → k < n
after n k h l = go (dec_lt k n)
  where
    go : Dec (k < n) → k < n
    go (yes t) = t
    go (no t) = absurd (h (omega arith))

others-low : (k f : ℕ) → Others k f → k ≤ f
others-low zero f h = omega arith
others-low (suc k) f h = after f k h.1 (others-low k f h.0)

-- The form that is none of the kinds has no word.
pub word_none : (f : ℕ) {o : List ℕ} {to : ℕ} → f < 17 → Others 16 f → to + length (word_text f) ≤ length o → Wrote o to (word_text f) o to
unfolding word_text
word_none f {o} {to} l h r = let q : f ≡ 16 = omega (arith, others-low 16 f h) in wrote_as (sym (ap word_text q)) (wrote_none o to (omega arith))
