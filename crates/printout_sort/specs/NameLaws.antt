-- Names: the laws of the loops that count and write them, and how long they are at most.
use Rattle.std.specs.Prelude.{ℕ, zero, suc, ◌+◌, ◌*◌, ◌-◌, ◌≤◌, ◌<◌, ◌≡◌, refl, List, [], ◌∷◌, ◌++◌, length, get_or}
use Rattle.std.proofs.Common.{ap, ◌∙◌, append_assoc, arith, length-append}
use Rattle.record.specs.Number.{u16_at, numbers_at}
use Rattle.printout_sort.specs.Text.{ascii, decimal, name_text, more_names, names_text}
use Rattle.printout_sort.specs.Wrote.{TextLeft, Wrote, wrote_as, total, TextRoom, left-done}

-- Numbers under 65,536.
abbrev pub AllSmall : List ℕ → Type 0
AllSmall [] = Unit {0}
AllSmall (v ∷ vs) = (v < 65536) × AllSmall vs

pub name-none : (a : ℕ) → a ≡ 0 → name_text a ≡ ascii "?"
unfolding name_text
name-none a e = ap name_text e

pub name-some : (a : ℕ) → (a ≡ 0 → ⊥) → name_text a ≡ ascii "n" ++ decimal a
unfolding name_text
name-some zero h = absurd (h refl)
name-some (suc a) h = refl

-- The names of a list of which m are left: the first behind a blank, and the rest.
pub names-end : (b : List ℕ) (x m : ℕ) → m ≡ 0 → more_names (numbers_at b x m) ≡ []
unfolding more_names numbers_at
names-end b x m e = ap (λ (i : ℕ). more_names (numbers_at b x i)) e

pub names_more : (b : List ℕ) (x m : ℕ) → 0 < m → more_names (numbers_at b x m) ≡ (ascii " " ++ name_text (u16_at b x)) ++ more_names (numbers_at b (x + 2) (m - 1))
unfolding more_names numbers_at
names_more b x zero h = absurd (omega arith)
names_more b x (suc m) h =
    let e : m ≡ suc m - 1 = omega arith in
    ap (λ (i : ℕ). 32 ∷ (name_text (u16_at b x) ++ more_names (numbers_at b (x + 2) i))) e

-- Names with one blank between two.
pub names-first : (b : List ℕ) (x m : ℕ) → 0 < m → names_text (numbers_at b x m) ≡ name_text (u16_at b x) ++ more_names (numbers_at b (x + 2) (m - 1))
unfolding names_text numbers_at
names-first b x zero h = absurd (omega arith)
names-first b x (suc m) h =
    let e : m ≡ suc m - 1 = omega arith in
    ap (λ (i : ℕ). name_text (u16_at b x) ++ more_names (numbers_at b (x + 2) i)) e

-- Names and a bracket, as they are written.
pub names-own : (b : List ℕ) (x m : ℕ) → 0 < m → names_text (numbers_at b x m) ++ ascii ")" ≡ name_text (u16_at b x) ++ (more_names (numbers_at b (x + 2) (m - 1)) ++ ascii ")")
names-own b x m h =
    ap (λ (l : List ℕ). l ++ ascii ")") (names-first b x m h)
    ∙ append_assoc (name_text (u16_at b x)) (more_names (numbers_at b (x + 2) (m - 1))) (ascii ")")

pub names-room : (b : List ℕ) (x m : ℕ) (o : List ℕ) (to : ℕ) → 0 < m → to + length (names_text (numbers_at b x m) ++ ascii ")") ≤ length o
    → TextRoom o to (name_text (u16_at b x) ∷ more_names (numbers_at b (x + 2) (m - 1)) ∷ ascii ")" ∷ [])
unfolding total
names-room b x m o to h r =
    let rest = more_names (numbers_at b (x + 2) (m - 1)) in
    record {
      fits = omega (arith, ap length (names-own b x m h), length-append (name_text (u16_at b x)) (rest ++ ascii ")"), length-append rest (ascii ")"));
    }

-- The same name, of the same number.
pub name-as : {k j : ℕ} {o : List ℕ} {to : ℕ} {o' : List ℕ} {e : ℕ} → k ≡ j → Wrote o to (name_text k) o' e → Wrote o to (name_text j) o' e
name-as q w = wrote_as (ap name_text q) w

-- A bracket takes the place of the first blank.
pub names-bracket : (b : List ℕ) (x m : ℕ) → 0 < m → length (names_text (numbers_at b x m) ++ ascii ")") ≡ length (more_names (numbers_at b x m))
names-bracket b x m h =
    let n = name_text (u16_at b x) in
    let r = more_names (numbers_at b (x + 2) (m - 1)) in
    omega (
      arith,
      ap length (names-first b x m h),
      ap length (names_more b x m h),
      length-append (names_text (numbers_at b x m)) (ascii ")"),
      length-append n r,
      length-append (ascii " " ++ n) r,
    )

-- Each of numbers that stand in bytes is under 65,536.
pub numbers-small : (b : List ℕ) → ((i : ℕ) → get_or b i 0 < 256) → (x n : ℕ) → AllSmall (numbers_at b x n)
unfolding numbers_at u16_at
numbers-small b h x zero = tt
numbers-small b h x (suc n) = (omega (arith, h x, h (x + 1)), numbers-small b h (x + 2) n)

-- Counting: what is counted and what is left make the whole, of at most 7 bytes a name.
pub record NamesSizeInv (all : List ℕ) (sum : ℕ) (rest : List ℕ) : Type 0 where
  pub small : AllSmall rest
  pub whole : sum + length (more_names rest) ≡ length (more_names all)
  pub most : sum + 7 * length rest ≤ 448

pub names-step : {all : List ℕ} {sum : ℕ} {ks : List ℕ} {v : ℕ} {rest : List ℕ} {r : ℕ} → NamesSizeInv all sum ks → ks ≡ v ∷ rest
    → r ≡ length (name_text v) → r ≤ 6 → NamesSizeInv all (sum + (1 + r)) rest
unfolding more_names
names-step {all} {sum} {ks} {v} {rest} {r} i e q l =
    let j = rw e at i in
    record {
      small = j.small.1;
      whole = omega (arith, j.whole, q, length-append (name_text v) (more_names rest));
      most = omega (arith, j.most);
    }

-- Writing: the next name behind its blank, with what is left.
pub put-next : {o : List ℕ} {to : ℕ} {whole o' : List ℕ} {e : ℕ} {ks : List ℕ} {v : ℕ} {rest : List ℕ}
    → TextLeft o to whole o' e (more_names ks) → ks ≡ v ∷ rest → TextLeft o to whole o' e ((ascii " " ++ name_text v) ++ more_names rest)
unfolding more_names
put-next l q = rw q at l

-- There is room for the blank and the name.
pub next-room : {o : List ℕ} {to : ℕ} {whole o' : List ℕ} {e : ℕ} (v : ℕ) (rest : List ℕ)
    → TextLeft o to whole o' e ((ascii " " ++ name_text v) ++ more_names rest) → e + 1 + length (name_text v) ≤ length o'
next-room v rest l = omega (arith, l.next, l.long, l.fits, length-append (ascii " " ++ name_text v) (more_names rest))

-- Nothing is left of no names.
pub put-end : {o : List ℕ} {to : ℕ} {whole o' : List ℕ} {e : ℕ} {ks : List ℕ} → TextLeft o to whole o' e (more_names ks) → ks ≡ [] → Wrote o to whole o' e
unfolding more_names
put-end l q = left-done (rw q at l)

pub size-start : {all : List ℕ} (n : ℕ) → AllSmall all → length all ≡ n → n ≤ 64 → NamesSizeInv all 0 all
size-start n s e few = record { small = s; whole = omega arith; most = omega arith }

pub size-end : {all : List ℕ} {sum : ℕ} {ks : List ℕ} → NamesSizeInv all sum ks → ks ≡ [] → (sum ≡ length (more_names all)) × (sum ≤ 448)
unfolding more_names
size-end i q = let j = rw q at i in (omega (arith, j.whole), omega (arith, j.most))
