-- Texts without a newline: no row's text has one, so that a line's only newline is its last byte.
use Rattle.std.specs.Prelude.{ℕ, zero, suc, ◌+◌, ◌/◌, ◌%◌, ◌≡◌, refl, Bool, true, false, cond, List, [], ◌∷◌, ◌++◌, get_or, eqb, ltb}
use Rattle.std.proofs.Common.{arith, ne_eqb}
use Rattle.record.specs.Sort.{Sort, Sorts, var, par, node, end, ◌then◌}
use Rattle.record.specs.Record.{leaf}
use Rattle.printout_sort.specs.Text.{ascii, ahead, digits, decimal, name_text, more_names, names_text, atom_text, kind_names, node_text, text, texts}
use Rattle.printout.specs.Lines.{refusal_text, refusal_line, row_text}
use Rattle.printout.specs.Newlines.{newlines}
use Rattle.printout.specs.Whole.{lines_from}

count_by : (t : Bool) (n : ℕ) → cond t (suc n) n ≡ cond t 1 0 + n
count_by true n = omega arith
count_by false n = omega arith

pub newlines-append : (l r : List ℕ) → newlines (l ++ r) ≡ newlines l + newlines r
unfolding newlines
newlines-append [] r = omega arith
newlines-append (x ∷ l) r =
    omega (arith, count_by (eqb x 10) (newlines (l ++ r)), count_by (eqb x 10) (newlines l), newlines-append l r)

pub newlines-cond : (t : Bool) (n : ℕ) (x y : List ℕ) → newlines x ≡ n → newlines y ≡ n → newlines (cond t x y) ≡ n
newlines-cond true n x y h k = h
newlines-cond false n x y h k = k

---------------------------------------------------------------- texts without a newline
abbrev pub Plain : List ℕ → Type 0
Plain l = newlines l ≡ 0

-- A text before one with n newlines adds none.
pub before : (n : ℕ) (l r : List ℕ) → Plain l → newlines r ≡ n → newlines (l ++ r) ≡ n
before n l r h k = omega (arith, newlines-append l r)

plain-digit : (d : ℕ) → Plain ((48 + d) ∷ [])
unfolding newlines
plain-digit d = let e : eqb (48 + d) 10 ≡ false = ne_eqb (48 + d) 10 (λ h. omega arith) in rw e refl

plain-ahead : (q : ℕ) (F : ℕ → List ℕ) → ((m : ℕ) → Plain (F m)) → Plain (ahead q F)
unfolding newlines
plain-ahead zero F h = refl
plain-ahead (suc q) F h = h (suc q)

plain-digits : (f n : ℕ) → Plain (digits f n)
unfolding newlines digits
plain-digits zero n = refl
plain-digits (suc f) n =
    before 0 (ahead (n / 10) (λ q. digits f q)) ((48 + n % 10) ∷ []) (plain-ahead (n / 10) (λ q. digits f q) (λ q. plain-digits f q)) (plain-digit (n % 10))

pub plain-decimal : (n : ℕ) → Plain (decimal n)
unfolding decimal
plain-decimal n = plain-digits (suc n) n

plain-name : (a : ℕ) → Plain (name_text a)
unfolding newlines name_text
plain-name zero = refl
plain-name (suc a) = before 0 (ascii "n") (decimal (suc a)) refl (plain-decimal (suc a))

plain_more : (ns : List ℕ) → Plain (more_names ns)
unfolding newlines more_names
plain_more [] = refl
plain_more (n ∷ ns) = before 0 (ascii " ") (name_text n ++ more_names ns) refl (before 0 (name_text n) (more_names ns) (plain-name n) (plain_more ns))

plain-names : (ns : List ℕ) → Plain (names_text ns)
unfolding newlines names_text
plain-names [] = refl
plain-names (n ∷ ns) = before 0 (name_text n) (more_names ns) (plain-name n) (plain_more ns)

-- A text between two others.
between : (l t r : List ℕ) → Plain l → Plain t → Plain r → Plain (l ++ (t ++ r))
between l t r hl ht hr = before 0 l (t ++ r) hl (before 0 t r ht hr)

plain-atom : (a : ℕ) (ts : List ℕ) → Plain ts → Plain (atom_text a ts)
unfolding newlines atom_text
plain-atom a [] h = plain-name a
plain-atom a (t ∷ ts) h =
    before 0 (ascii "(") (name_text a ++ ((t ∷ ts) ++ ascii ")")) refl (between (name_text a) (t ∷ ts) (ascii ")") (plain-name a) h refl)

-- The newlines of all texts of a list.
all-newlines : List (List ℕ) → ℕ
unfolding newlines
all-newlines [] = 0
all-newlines (l ∷ ls) = newlines l + all-newlines ls

plain-among : (ls : List (List ℕ)) (k : ℕ) → all-newlines ls ≡ 0 → Plain (get_or ls k [])
unfolding newlines all-newlines
plain-among [] k h = refl
plain-among (l ∷ ls) zero h = omega arith
plain-among (l ∷ ls) (suc k) h = plain-among ls k (omega arith)

plain-kind : (k : ℕ) → Plain (get_or kind_names k [])
unfolding newlines all-newlines kind_names
plain-kind k = plain-among kind_names k refl

plain-node : (k a w : ℕ) (ts : List ℕ) → Plain ts → Plain (node_text k a w ts)
unfolding newlines node_text
plain-node k a w ts h =
    newlines-cond (eqb k 0) 0 _ _ (between (ascii "(->") ts (ascii ")") refl h refl)
    (newlines-cond (eqb k 1) 0 _ _ (plain-atom a ts h)
    (newlines-cond (eqb k 8) 0 _ _ (between (ascii "(Array") ts (ascii ")") refl h refl)
    (newlines-cond (eqb k 9) 0 _ _ (between (ascii "(_ BitVec ") (decimal w) (ascii ")") refl (plain-decimal w) refl)
    (newlines-cond (eqb k 10) 0 _ _ refl
    (newlines-cond (eqb k 11) 0 _ _ (before 0 (ascii "[") (name_text a ++ (ts ++ ascii "]")) refl (between (name_text a) ts (ascii "]") (plain-name a) h refl))
    (newlines-cond (eqb k 14) 0 _ _ (between (ascii "(Set") ts (ascii ")") refl h refl)
    (newlines-cond (eqb k 15) 0 _ _ (between (ascii "(Tuple") ts (ascii ")") refl h refl) (plain-kind k))))))))

mutual
  unfolding newlines text

  plain-text : (s : Sort) → Plain (text s)
  plain-text (var v) = before 0 (ascii "'") (name_text v) refl (plain-name v)
  plain-text (par ns b) =
      before 0 (ascii "(par (") (names_text ns ++ (ascii ") " ++ (text b ++ ascii ")"))) refl
      (before 0 (names_text ns) (ascii ") " ++ (text b ++ ascii ")")) (plain-names ns) (between (ascii ") ") (text b) (ascii ")") refl (plain-text b) refl))
  plain-text (node k a w ss) = plain-node k a w (texts ss) (plain-texts ss)

  plain-texts : (ss : Sorts) → Plain (texts ss)
  plain-texts end = refl
  plain-texts (s then ss) = between (ascii " ") (text s) (texts ss) refl (plain-text s) (plain-texts ss)

---------------------------------------------------------------- rows
pub plain-refusal : (n : ℕ) → Plain (refusal_text n)
unfolding newlines refusal_text
plain-refusal n = before 0 (ascii "!") (decimal n) refl (plain-decimal n)

pub plain_row : (st : List Sort) (code : ℕ) → Plain (row_text st code)
unfolding row_text
plain_row st code =
    newlines-cond (ltb code 65536) 0 (text (get_or st code leaf)) (refusal_text (code / 65536)) (plain-text (get_or st code leaf)) (plain-refusal (code / 65536))

---------------------------------------------------------------- lines with one newline
pub refusal-newline : (n : ℕ) → newlines (refusal_line n) ≡ 1
unfolding newlines refusal_line
refusal-newline n = before 1 (refusal_text n) (ascii "\n") (plain-refusal n) refl

-- m lines with one newline each have m.
pub lines-newlines : (f : ℕ → List ℕ) → ((k : ℕ) → newlines (f k) ≡ 1) → (k m : ℕ) → newlines (lines_from f k m) ≡ m
unfolding newlines lines_from
lines-newlines f h k zero = refl
lines-newlines f h k (suc m) = omega (arith, newlines-append (f k) (lines_from f (suc k) m), h k, lines-newlines f h (suc k) m)
