-- Blanks at the end of texts: joining and stripping; no printed text ends in a blank.
use Rattle.std.specs.Prelude.{ℕ, zero, suc, ◌+◌, ◌/◌, ◌%◌, ◌<◌, ◌≡◌, refl, Bool, true, false, cond, List, [], ◌∷◌, ◌++◌, length, get_or, eqb, ltb}
use Rattle.std.proofs.Common.{arith, ap, ◌∙◌, ne_eqb}
use Rattle.record.specs.Record.{leaf}
use Rattle.record.specs.Sort.{Sort, var, par, node}
use Rattle.printout_sort.specs.Text.{ascii, ahead, decimal, name_text, names_text, atom_text, kind_names, node_text, text, texts}
use Rattle.printout_sort.specs.DecimalLaws.{decimal-is}
use Rattle.printout.specs.Lines.{refusal_text, row_text}
use Rattle.page.specs.Page.{blanks}
use Rattle.page.specs.Back.{ending, stripped}

---------------------------------------------------------------- stripping
-- What is stripped behind a text goes by what is stripped of the rest.
pub stripped-joined : (xs ys zs : List ℕ) → stripped ys ≡ stripped zs → stripped (xs ++ ys) ≡ stripped (xs ++ zs)
unfolding stripped
stripped-joined [] ys zs e = e
stripped-joined (x ∷ xs) ys zs e = ap (ending x) (stripped-joined xs ys zs e)

pub stripped-blanks : (n : ℕ) (ys : List ℕ) → stripped ys ≡ [] → stripped (blanks n ++ ys) ≡ []
unfolding stripped
stripped-blanks zero ys e = e
stripped-blanks (suc n) ys e = rw (stripped-blanks n ys e) refl

-- A text with a last byte that is no blank.
record Ends (l : List ℕ) : Type 0 where
  some : 0 < length l
  tight : stripped l ≡ l

ending-more : (x : ℕ) (l : List ℕ) → 0 < length l → ending x l ≡ x ∷ l
ending-more x [] h = absurd (omega arith)
ending-more x (y ∷ ys) h = refl

ends-behind : (xs : List ℕ) {ys : List ℕ} → Ends ys → Ends (xs ++ ys)
unfolding stripped
ends-behind [] e = e
ends-behind (x ∷ xs) {ys} e =
    let f = ends-behind xs e in
    record { some = omega arith; tight = ap (ending x) f.tight ∙ ending-more x (xs ++ ys) f.some }

ends-byte : (b : ℕ) → (b ≡ 32 → ⊥) → Ends (b ∷ [])
unfolding stripped
ends-byte b h = record { some = omega arith; tight = rw (ne_eqb b 32 h) refl }

---------------------------------------------------------------- printed texts end in no blank
decimal-ends : (n : ℕ) → Ends (decimal n)
decimal-ends n = rw (decimal-is n) (ends-behind (ahead (n / 10) decimal) (ends-byte (48 + n % 10) (λ e. omega arith)))

name-ends : (a : ℕ) → Ends (name_text a)
unfolding name_text
name-ends zero = ends-byte 63 (λ e. omega arith)
name-ends (suc k) = ends-behind (ascii "n") (decimal-ends (suc k))

-- A text that a bracket closes.
closed : (l : List ℕ) → Ends (l ++ ascii ")")
closed l = ends-behind l (ends-byte 41 (λ e. omega arith))

atom-ends : (a : ℕ) (ts : List ℕ) → Ends (atom_text a ts)
unfolding atom_text
atom-ends a [] = name-ends a
atom-ends a (t ∷ ts) = ends-behind (ascii "(") (ends-behind (name_text a) (closed (t ∷ ts)))

cond-tight : (b : Bool) (x y : List ℕ) → stripped x ≡ x → stripped y ≡ y → stripped (cond b x y) ≡ cond b x y
cond-tight true x y e f = e
cond-tight false x y e f = f

-- Every entry of a list of texts, and the empty text behind its end.
abbrev AllTight : List (List ℕ) → Type 0
AllTight [] = Unit {0}
AllTight (l ∷ ls) = (stripped l ≡ l) × AllTight ls

entry-tight : (ls : List (List ℕ)) (k : ℕ) → AllTight ls → stripped (get_or ls k []) ≡ get_or ls k []
unfolding stripped
entry-tight [] k h = refl
entry-tight (l ∷ ls) zero h = h.0
entry-tight (l ∷ ls) (suc k) h = entry-tight ls k h.1

kinds-tight : AllTight kind_names
unfolding kind_names stripped
kinds-tight = (refl, (refl, (refl, (refl, (refl, (refl, (refl, (refl, (refl, (refl, (refl, (refl, (refl, (refl, tt))))))))))))))

node-tight : (k a w : ℕ) (ts : List ℕ) → stripped (node_text k a w ts) ≡ node_text k a w ts
unfolding node_text
node-tight k a w ts =
    cond-tight (eqb k 0) _ _ (ends-behind (ascii "(->") (closed ts)).tight
    (cond-tight (eqb k 1) _ _ (atom-ends a ts).tight
    (cond-tight (eqb k 8) _ _ (ends-behind (ascii "(Array") (closed ts)).tight
    (cond-tight (eqb k 9) _ _ (ends-behind (ascii "(_ BitVec ") (closed (decimal w))).tight
    (cond-tight (eqb k 10) _ _ (closed (ascii "(_ BitVec ?")).tight
    (cond-tight (eqb k 11) _ _ (ends-behind (ascii "[") (ends-behind (name_text a) (ends-behind ts (ends-byte 93 (λ e. omega arith))))).tight
    (cond-tight (eqb k 14) _ _ (ends-behind (ascii "(Set") (closed ts)).tight
    (cond-tight (eqb k 15) _ _ (ends-behind (ascii "(Tuple") (closed ts)).tight
    (entry-tight kind_names k kinds-tight))))))))

text-tight : (s : Sort) → stripped (text s) ≡ text s
unfolding text
text-tight (var v) = (ends-behind (ascii "'") (name-ends v)).tight
text-tight (par ns b) = (ends-behind (ascii "(par (") (ends-behind (names_text ns) (ends-behind (ascii ") ") (closed (text b))))).tight
text-tight (node k a w ss) = node-tight k a w (texts ss)

-- NO ROW'S TEXT ENDS IN A BLANK, so that filling can be told from it.
pub row-tight : (st : List Sort) (code : ℕ) → stripped (row_text st code) ≡ row_text st code
unfolding row_text refusal_text
row-tight st code =
    cond-tight (ltb code 65536) _ _ (text-tight (get_or st code leaf)) (ends-behind (ascii "!") (decimal-ends (code / 65536))).tight
