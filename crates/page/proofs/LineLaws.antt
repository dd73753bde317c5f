-- Lines: their width, and their three columns.
use Rattle.std.specs.Prelude.{ℕ, zero, suc, ◌*◌, ◌≤◌, ◌<◌, ◌≡◌, refl, List, ◌++◌, length, take, drop}
use Rattle.std.proofs.Math.Nat.{min-le_left}
use Rattle.std.proofs.Common.{arith, sym, ap, ◌∙◌, append_assoc, length-append, length-take, take_all, take_at, drop_at}
use Rattle.std.proofs.lemmas.List.{length-replicate}
use Rattle.printout_sort.specs.Text.{ascii, decimal}
use Rattle.printout_sort.specs.DecimalLaws.{ten, decimal-most}
use Rattle.page.specs.Page.{justified, filled, line_of}
use Rattle.page.specs.Numbered.{number_on, piece_on}
use Rattle.page.specs.Back.{number_column, inferred_column, checked_column}

---------------------------------------------------------------- widths
pub take_short : (n : ℕ) (l : List ℕ) → length (take n l) ≤ n
take_short n l = omega (arith, length-take n l, min-le_left n (length l))

filled-length : (w : ℕ) (t : List ℕ) → length t ≤ w → length (filled w t) ≡ w
filled-length w t h = simp (length-append, length-replicate) (omega arith)

justified-length : (w : ℕ) (t : List ℕ) → length t ≤ w → length (justified w t) ≡ w
justified-length w t h = simp (length-append, length-replicate) (omega arith)

-- A LINE HAS EXACTLY 80 BYTES.
pub line-length : (n a b : List ℕ) → length n ≡ 6 → length a ≤ 36 → length b ≤ 36 → length (line_of n a b) ≡ 80
unfolding line_of
line-length n a b h f g = simp (length-append, length-replicate) (omega arith)

-- Six columns are enough for the numbers of a million rows; a sheet has 4,096 at most.
million : (n : ℕ) → n < 1000000 → n < ten 6
unfolding ten
million n h = omega arith

pub number-length : (t i : ℕ) → t < 1000000 → length (number_on t i) ≡ 6
number-length t zero h = justified-length 6 (decimal t) (decimal-most 5 t (million t h))
number-length t (suc i) h = refl

pub row-wide : (t i : ℕ) (a b : List ℕ) → t < 1000000 → length (line_of (number_on t i) (piece_on i a) (piece_on i b)) ≡ 80
row-wide t i a b h =
    line-length (number_on t i) (piece_on i a) (piece_on i b) (number-length t i h)
    (take_short 36 (drop (36 * i) a)) (take_short 36 (drop (36 * i) b))

---------------------------------------------------------------- columns
pub line-number : (n a b : List ℕ) → length n ≡ 6 → number_column (line_of n a b) ≡ n
unfolding line_of
line-number n a b h = take_at n (ascii " " ++ (filled 36 a ++ (ascii " " ++ filled 36 b))) 6 h

pub line-inferred : (n a b : List ℕ) → length n ≡ 6 → length a ≤ 36 → inferred_column (line_of n a b) ≡ filled 36 a
unfolding line_of
line-inferred n a b h f =
    let rest = filled 36 a ++ (ascii " " ++ filled 36 b) in
    ap (λ (l : List ℕ). take 36 (drop 7 l)) (sym (append_assoc n (ascii " ") rest))
    ∙ ap (take 36) (drop_at (n ++ ascii " ") rest 7 (omega (arith, length-append n (ascii " "))))
    ∙ take_at (filled 36 a) (ascii " " ++ filled 36 b) 36 (filled-length 36 a f)

pub line-checked : (n a b : List ℕ) → length n ≡ 6 → length a ≤ 36 → length b ≤ 36 → checked_column (line_of n a b) ≡ filled 36 b
unfolding line_of
line-checked n a b h f g =
    let front = n ++ (ascii " " ++ (filled 36 a ++ ascii " ")) in
    let s : front ++ filled 36 b ≡ n ++ (ascii " " ++ (filled 36 a ++ (ascii " " ++ filled 36 b))) = simp append_assoc in
    let w : length front ≡ 44 = simp (length-append, length-replicate) (omega arith) in
    ap (λ (l : List ℕ). take 36 (drop 44 l)) (sym s)
    ∙ ap (take 36) (drop_at front (filled 36 b) 44 w)
    ∙ take_all 36 (filled 36 b) (omega (arith, filled-length 36 b g))
