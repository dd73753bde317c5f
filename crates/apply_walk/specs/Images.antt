-- A map of names lent as a table: the entry of a name is 0 where it has no image, else its image's store number and 1.
-- The map of a table, which maps a table stands for, and that none of this changes while the store grows.
use Rattle.std.specs.Prelude.{ℕ, zero, suc, ◌+◌, ◌≤◌, ◌<◌, ◌≡◌, refl, cond, List, [], ◌∷◌, length, get_or, eqb}
use Rattle.std.proofs.Common.{sym, ap, ap₂, ◌∙◌, arith, zero-add, eq-eqb, ne_eqb}
use Rattle.std.proofs.Math.Option.{Option, none, some}
use Rattle.record.specs.Sort.{Sort, Sorts}
use Rattle.record.specs.Record.{leaf}
use Rattle.record.specs.SortLists.{Starts, starts-at}
use Rattle.substitution.specs.Substitution.{Map, empty, bind, find, bound, left, apply, apply_all}
use Rattle.substitution.proofs.SubstitutionLaws.{apply-agree, apply_all-agree}
use Rattle.apply_walk.specs.Lists.{unbound}

-- The image that an entry of the table stands for, over the sorts st.
abbrev pub image_at : List Sort → ℕ → Option Sort
image_at st zero = none
image_at st (suc j) = some (get_or st j leaf)

-- Its number, or k where there is none.
abbrev pub image_number : ℕ → ℕ → ℕ
image_number zero k = k
image_number (suc j) k = j

-- THE MAP OF A TABLE: the names from v on.
unfoldable pub images_from : List Sort → ℕ → List ℕ → Map
images_from st v [] = empty
images_from st v (zero ∷ l) = images_from st (suc v) l
images_from st v (suc j ∷ l) = bind v (get_or st j leaf) (images_from st (suc v) l)

unfoldable pub images_of : List Sort → List ℕ → Map
unfolding images_from
images_of st l = images_from st 0 l

-- A table of all 65,536 names whose images are among the first n sorts.
pub record ImageTable (l : List ℕ) (n : ℕ) : Type 0 where
  pub long : length l ≡ 65536
  pub below : (v : ℕ) → get_or l v 0 ≤ n

-- THE TABLE l STANDS FOR THE MAP θ over the sorts st: a name is bound exactly if its entry is not 0, and then to the
-- sort that the entry names. Names over 65,535 are not bound, since what lies past the end counts as 0.
pub record Images (st : List Sort) (l : List ℕ) (θ : Map) : Type 0 where
  pub table : ImageTable l (length st)
  pub look : (v : ℕ) → find θ v ≡ image_at st (get_or l v 0)

find-below : (st : List Sort) (l : List ℕ) (x v : ℕ) → v < x → find (images_from st x l) v ≡ none
unfolding images_from find
find-below st [] x v h = refl
find-below st (zero ∷ l) x v h = find-below st l (suc x) v (omega arith)
find-below st (suc j ∷ l) x v h =
    rw (ne_eqb x v (λ e. omega arith)) (find-below st l (suc x) v (omega arith))

find-from : (st : List Sort) (l : List ℕ) (x i : ℕ) → find (images_from st x l) (x + i) ≡ image_at st (get_or l i 0)
unfolding images_from find
find-from st [] x i = refl
find-from st (zero ∷ l) x zero = find-below st l (suc x) (x + 0) (omega arith)
find-from st (zero ∷ l) x (suc i) =
    let e : x + suc i ≡ suc x + i = omega arith in ap (find (images_from st (suc x) l)) e ∙ find-from st l (suc x) i
find-from st (suc j ∷ l) x zero = rw (eq-eqb x (x + 0) (omega arith))
find-from st (suc j ∷ l) x (suc i) =
    let e : x + suc i ≡ suc x + i = omega arith in
    rw (ne_eqb x (x + suc i) (λ q. omega arith)) (ap (find (images_from st (suc x) l)) e ∙ find-from st l (suc x) i)

-- WHAT THE MAP OF A TABLE GIVES A NAME.
pub find-images : (st : List Sort) (l : List ℕ) (v : ℕ) → find (images_of st l) v ≡ image_at st (get_or l v 0)
unfolding images_of
find-images st l v = ap (find (images_from st 0 l)) (sym (zero-add v)) ∙ find-from st l 0 v

-- EVERY MAP THAT A TABLE STANDS FOR DOES THE SAME.
pub images-apply : (st : List Sort) (l : List ℕ) (θ : Map) → Images st l θ → (s : Sort) → apply (images_of st l) s ≡ apply θ s
images-apply st l θ h s = apply-agree (images_of st l) θ s (λ v o. find-images st l v ∙ sym (h.look v))

pub images-apply_all : (st : List Sort) (l : List ℕ) (θ : Map) → Images st l θ → (ss : Sorts) → apply_all (images_of st l) ss ≡ apply_all θ ss
images-apply_all st l θ h ss = apply_all-agree (images_of st l) θ ss (λ v o. find-images st l v ∙ sym (h.look v))

-- WHILE THE STORE GROWS the table stands for the same maps.
pub table-starts : (l : List ℕ) (m n : ℕ) → m ≤ n → ImageTable l m → ImageTable l n
table-starts l m n h t = record { long = t.long; below = λ v. omega (arith, t.below v) }

images-same-from : (st st' : List Sort) → Starts st st' → (l : List ℕ) (x : ℕ) → ((v : ℕ) → get_or l v 0 ≤ length st) → images_from st' x l ≡ images_from st x l
unfolding images_from
images-same-from st st' g [] x h = refl
images-same-from st st' g (zero ∷ l) x h = images-same-from st st' g l (suc x) (λ v. h (suc v))
images-same-from st st' g (suc j ∷ l) x h =
    ap₂ (bind x) (starts-at st st' g j (h 0)) (images-same-from st st' g l (suc x) (λ v. h (suc v)))

pub images-same : (st st' : List Sort) (l : List ℕ) → Starts st st' → ImageTable l (length st) → images_of st' l ≡ images_of st l
unfolding images_of
images-same st st' l g t = images-same-from st st' g l 0 t.below

-- The names that a table leaves are those that its map leaves.
names-by : (st : List Sort) (l : List ℕ) (v : ℕ) (e : ℕ) → get_or l v 0 ≡ e → (ns ms : List ℕ) → ns ≡ ms
    → cond (eqb e 0) (v ∷ ns) ns ≡ cond (bound (images_of st l) v) ms (v ∷ ms)
names-by st l v zero q ns ms h =
    let f : find (images_of st l) v ≡ none = find-images st l v ∙ ap (image_at st) q in rw f (ap (λ (r : List ℕ). v ∷ r) h)
names-by st l v (suc j) q ns ms h =
    let f : find (images_of st l) v ≡ some (get_or st j leaf) = find-images st l v ∙ ap (image_at st) q in rw (f, ne_eqb (suc j) 0 (λ z. omega arith)) h

pub unbound-left : (st : List Sort) (l ns : List ℕ) → unbound l ns ≡ left (images_of st l) ns
unfolding unbound left
unbound-left st l [] = refl
unbound-left st l (v ∷ ns) = names-by st l v (get_or l v 0) refl (unbound l ns) (left (images_of st l) ns) (unbound-left st l ns)
