-- The laws of heights: a row by its code, the longer text, the rows above a line.
use Rattle.std.specs.Prelude.{ℕ, ◌+◌, ◌*◌, ◌-◌, ◌/◌, ◌≤◌, ◌<◌, ◌≡◌, refl, List, length, get_or}
use Rattle.std.proofs.Common.{arith, add-one, lt-ltb, le-ltb, le-leb}
use Rattle.std.proofs.lemmas.Bool.{lt-leb}
use Rattle.printout_sort.specs.Text.{decimal}
use Rattle.page.specs.Numbered.{above}
use Rattle.page_lines.specs.Heights.{length_by, height_by, height_in, HeightAsks, HeightsAsk}

-- The length of a row with a sort, and of a refused one.
pub length-sort : (z : List ℕ) (code : ℕ) → code < 65536 → get_or z code 0 ≡ length_by z code
unfolding length_by
length-sort z code h = rw (lt-ltb code 65536 h) refl

pub length-refused : (z : List ℕ) (code : ℕ) → 65536 ≤ code → 1 + length (decimal (code / 65536)) ≡ length_by z code
unfolding length_by
length-refused z code h = rw (le-ltb code 65536 h) refl

-- The height, where the second text needs as many lines as the first or more, and where fewer.
pub height-second : (m n : ℕ) → (m - 1) / 36 ≤ (n - 1) / 36 → (n - 1) / 36 + 1 ≡ height_by m n
height-second m n h = rw (le-leb ((m - 1) / 36) ((n - 1) / 36) h) (add-one ((n - 1) / 36))

pub height-first : (m n : ℕ) → (n - 1) / 36 < (m - 1) / 36 → (m - 1) / 36 + 1 ≡ height_by m n
height-first m n h = rw (lt-leb ((m - 1) / 36) ((n - 1) / 36) h) (add-one ((m - 1) / 36))

pub rows-ask : {z rows : List ℕ} {t : ℕ} (k : ℕ) → HeightsAsk z rows t → k < t → HeightAsks z (get_or rows (2 * k) 0) (get_or rows (2 * k + 1) 0)
rows-ask k a h = record { inferred = a.row (2 * k) (omega arith); checked = a.row (2 * k + 1) (omega arith) }

-- At first no row is above the line; then one row more.
pub above-none : (h : ℕ → ℕ) (n : ℕ) → n ≡ above h 0 + n
unfolding above
above-none h n = omega arith

pub above_more : (z rows : List ℕ) (n k i high : ℕ) → n ≡ above (height_in z rows) k + i → high ≡ height_in z rows k → high ≤ i
    → n ≡ above (height_in z rows) (k + 1) + (i - high)
unfolding above
above_more z rows n k i high e q h = rw (add-one k) (omega arith)
