-- HOW LONG TEXTS ARE AT MOST, of every sort of a well-formed store: 17 bytes for each node of the tree, a blank before it counted,
-- and 439 more for each Par of 64 names. So `sort_room` bytes hold any sort, and `checked_room` one that has one Par.
use Rattle.std.specs.Prelude.{ℕ, zero, suc, ◌+◌, ◌*◌, ◌≤◌, ◌<◌, ◌≡◌, refl, Bool, true, false, length}
use Rattle.std.proofs.Common.{sym, ap, ◌∙◌}
use Rattle.std.proofs.Math.Path.{subst}
use mathlib.Core.List.{List, [], ◌∷◌, ◌++◌}
use native.Mathlib.Omega.{arith}
use Rattle.std.proofs.Math.ListN.{get_or, length-append}
use Rattle.record.specs.Number.{u16_at, numbers_at}
use Rattle.record.specs.Sort.{Sort, Sorts, var, par, node, end, ◌then◌, count, size, sizes}
use Rattle.record.specs.Record.{Fields, bit, leaf, sorts_of}
use Rattle.record.specs.Store.{fields_of}
use Rattle.record.specs.Decode.{list_of, names_place, fields_by, fields_at, store_of, sort_at, Stored}
use Rattle.record.specs.Codec.{Bytes}
use Rattle.record.specs.Forms.{Which, is_var, is_par, is_node, which, sort-var, sort-par, sort-other, par-one}
use Rattle.record.specs.Sizes.{Formed, sort-formed}
use Rattle.record.specs.StoreLaws.{sort-node}
use Rattle.printout_sort.specs.Text.{ascii, decimal, name_text, more_names, names_text, text, texts}
use Rattle.printout_sort.specs.DecimalLaws.{ten, decimal-most}
use Rattle.printout_sort.specs.Pieces.{form_of, inners, inner_by, inner_text}
use Rattle.printout_sort.specs.Trees.{sort_room, checked_room}
use Rattle.printout_sort.specs.PieceLaws.{pieces-text, pieces-length, inner_mosts, frame-most, form-below, form-par, names-form}

pub decimal-short : (n : ℕ) → n < 65536 → length (decimal n) ≤ 5
unfolding ten
decimal-short n h = decimal-most 4 n (omega arith)

name-short : (a : ℕ) → a < 65536 → length (name_text a) ≤ 6
unfolding name_text
name-short zero h = omega arith
name-short (suc a) h = omega (arith, decimal-short (suc a) h)

-- Each number of the list is under 65,536; what lies past its end counts as 0.
abbrev pub Small : List ℕ → Type 0
Small ns = (j : ℕ) → get_or ns j 0 < 65536

names-short : (ns : List ℕ) → Small ns → length (more_names ns) ≤ 7 * length ns
unfolding more_names
names-short [] h = omega arith
names-short (n ∷ ns) h =
    omega (arith, name-short n (h 0), length-append (name_text n) (more_names ns), names-short ns (λ j. h (suc j)))

pub own-names : (ns : List ℕ) → Small ns → 1 ≤ length ns → length (names_text ns) + 1 ≤ 7 * length ns
unfolding names_text
own-names [] h s = absurd (omega arith)
own-names (n ∷ ns) h s =
    omega (arith, name-short n (h 0), length-append (name_text n) (more_names ns), names-short ns (λ j. h (suc j)))

-- How many Pars a sort has.
unfoldable mutual
  pub pars : Sort → ℕ
  pars (var v) = 0
  pars (par ns b) = 1 + pars b
  pars (node k a w ss) = pars_all ss

  pub pars_all : Sorts → ℕ
  pars_all end = 0
  pars_all (s then ss) = pars s + pars_all ss

mutual
  unfolding pars size

  pars-size : (s : Sort) → pars s ≤ size s
  pars-size (var v) = omega arith
  pars-size (par ns b) = omega (arith, pars-size b)
  pars-size (node k a w ss) = omega (arith, pars-sizes ss)

  pars-sizes : (ss : Sorts) → pars_all ss ≤ sizes ss
  pars-sizes end = omega arith
  pars-sizes (s then ss) = omega (arith, pars-size s, pars-sizes ss)

-- The bound of a text; one byte is left for the blank before it.
abbrev Fits : Sort → Type 0
Fits s = length (text s) + 1 ≤ 17 * size s + 439 * pars s

abbrev AllFit : Sorts → Type 0
AllFit ss = length (texts ss) ≤ 17 * sizes ss + 439 * pars_all ss

var-short : (a : ℕ) → a < 65536 → Fits (var a)
unfolding text size pars
var-short a h = omega (arith, name-short a h)

par-short : (ns : List ℕ) (s : Sort) → Small ns → 1 ≤ length ns → length ns ≤ 64 → Fits s → Fits (par ns s)
unfolding text size pars
par-short ns s h some few t =
    omega (
      arith,
      own-names ns h some,
      length-append (names_text ns) (ascii ") " ++ (text s ++ ascii ")")),
      length-append (text s) (ascii ")"),
    )

pub inner-by : (i a w : ℕ) (ns : List ℕ) → a < 65536 → w < 65536 → (i ≡ 3 → ⊥) → length (inner_by i a w ns) ≤ get_or inner_mosts i 0
unfolding inner_by inner_mosts
inner-by zero a w ns ha hw h = omega arith
inner-by (suc zero) a w ns ha hw h = name-short a ha
inner-by (suc (suc zero)) a w ns ha hw h = decimal-short w hw
inner-by (suc (suc (suc zero))) a w ns ha hw h = absurd (h refl)
inner-by (suc (suc (suc (suc i)))) a w ns ha hw h = omega arith

node-short : (k a w : ℕ) (ss : Sorts) → Formed (node k a w ss) → AllFit ss → Fits (node k a w ss)
unfolding size pars fields_of inner_text
node-short k a w ss f t =
    let form = form_of k (count ss) in
    let l = form-below k (count ss) f.shape.known in
    let i = inner-by (get_or inners form 0) a w [] f.shape.name f.shape.number
    (λ e. absurd (omega (arith, f.shape.some (form-par k (count ss) (names-form form l e))))) in
    omega (
      arith,
      ap length (pieces-text (node k a w ss) f),
      pieces-length form a w [] (texts ss) l,
      frame-most form l,
      i,
    )

pub numbers-small : (b : List ℕ) → Bytes b → (x m : ℕ) → Small (numbers_at b x m)
unfolding numbers_at u16_at
numbers-small b h x zero j = omega arith
numbers-small b h x (suc m) zero = omega (arith, h x, h (x + 1))
numbers-small b h x (suc m) (suc j) = numbers-small b h (x + 2) m j

list-small : (t : Bool) (b : List ℕ) (x : ℕ) → Bytes b → Small (list_of t b x)
list-small true b x h j = numbers-small b h (x + 1) (get_or b x 0) j
list-small false b x h j = omega arith

fields-small : (b : List ℕ) (x : ℕ) → Bytes b → Small (fields_at b x).names
unfolding fields_at fields_by
fields-small b x h j = list-small (bit 64 (get_or b x 0)) b (names_place (get_or b x 0) b x) h j

-- The sorts of a store, one after the other: each over those before it.
module _ (b p : List ℕ) (n : ℕ) (stored : Stored b p n) (bytes : Bytes b) where
  abbrev Short : ℕ → Type 0
  Short k = Fits (sort_at b p n k)

  list-short : (l : List ℕ) → ((j : ℕ) → j < length l → Short (get_or l j 0)) → AllFit (sorts_of (store_of b p n) l)
  unfolding text size pars sorts_of sort_at
  list-short [] h = omega arith
  list-short (r ∷ l) h =
      omega (
        arith,
        h 0 (omega arith),
        list-short l (λ j q. h (suc j) (omega arith)),
        length-append (text (get_or (store_of b p n) r leaf)) (texts (sorts_of (store_of b p n) l)),
      )

  module _ (k : ℕ) (l : k < n) (before : (i : ℕ) → i < k → Short i) where
    abbrev own : Fields
    own = fields_at b (get_or p k 0)

    short-by : Which own.kind → Short k
    unfolding sort_at
    short-by (is_var e) =
        subst Fits (sym (sort-node b p n k stored l ∙ sort-var (store_of b p n) own e))
        (var-short own.name (stored.each k l).shape.name)
    short-by (is_par e) =
        let r = get_or own.list 0 0 in
        let shape = (stored.each k l).shape in
        subst Fits (sym (sort-node b p n k stored l ∙ sort-par (store_of b p n) own e))
        (par-short own.names (get_or (store_of b p n) r leaf) (fields-small b (get_or p k 0) bytes) (shape.some e) shape.few
        (before r ((stored.each k l).below 0 (omega (arith, par-one own shape e)))))
    short-by (is_node u v) =
        let q = sort-other (store_of b p n) own u v in
        subst Fits (sym (sort-node b p n k stored l ∙ q))
        (node-short own.kind own.name own.number (sorts_of (store_of b p n) own.list)
        (subst Formed q (sort-formed (store_of b p n) own (stored.each k l).shape))
        (list-short own.list (λ j h. before (get_or own.list j 0) ((stored.each k l).below j h))))

  short-below : (m k : ℕ) → k < m → k < n → Short k
  short-below zero k h l = absurd (omega arith)
  short-below (suc m) k h l =
      short-by k l (λ i q. short-below m i (omega arith) (omega arith)) (which (fields_at b (get_or p k 0)).kind)

  text-short : (k : ℕ) → k < n → Fits (sort_at b p n k)
  text-short k l = short-below (suc k) k (omega arith) l

  -- So a text fits within document 01's limit of a sort's tree.
  pub text-fits : (k : ℕ) → k < n → size (sort_at b p n k) ≤ 4096 → length (text (sort_at b p n k)) < sort_room
  text-fits k l small = omega (arith, text-short k l, pars-size (sort_at b p n k))

  pub text-fits-one : (k : ℕ) → k < n → size (sort_at b p n k) ≤ 4096 → pars (sort_at b p n k) ≤ 1 → length (text (sort_at b p n k)) < checked_room
  text-fits-one k l small one = omega (arith, text-short k l)
