-- Laws of substitution: what it does to a variable and to a Par, when it changes nothing, which names are left, and how two of them follow each other.
use Rattle.std.specs.Prelude.{ℕ, suc, ◌+◌, ◌≤◌, ◌≡◌, refl, Bool, true, false, not, cond, ◌&&◌, ◌||◌, List, [], ◌∷◌, length, eqb}
use Rattle.std.proofs.Common.{sym, ap, ◌∙◌, arith, eqb-true}
use Rattle.std.proofs.lemmas.Bool.{false≢true}
use Rattle.std.proofs.Math.Option.{none, some}
use Rattle.record.specs.Sort.{Sort, Sorts, var, par, node, end, ◌then◌, count, size, sizes}
use Rattle.record.specs.Cases.{and_left, and_right, conj, and-true, or_left, or_right, or-second, not-true, eqb-self, by_test, by_option, none-some, some_inj, clash}
use Rattle.record.specs.Names.{member}
use Rattle.substitution.specs.Substitution.{Map, empty, bind, find, bound, left, under, apply, apply_all, through, occurs, occurs_any}
use Rattle.substitution.specs.Premises.{touches, untouched, clear, clear_all, usual, proper, proper_all, proper_map, parless, parless_all, any_name, named, named_all}

---------------------------------------------------------------- variables
-- A variable of the map becomes its image, whatever names that holds: "images are not replaced again".
pub apply-var : (m : Map) (v : ℕ) (s : Sort) → find m v ≡ some s → apply m (var v) ≡ s
unfolding apply
apply-var m v s f = rw f refl

-- Every other variable stays.
pub apply-var-free : (m : Map) (v : ℕ) → find m v ≡ none → apply m (var v) ≡ var v
unfolding apply
apply-var-free m v f = rw f refl

---------------------------------------------------------------- the names that a Par keeps
-- A name of the map goes, another stays, in its place.
pub left-bound : (m : Map) (n : ℕ) (ns : List ℕ) → bound m n ≡ true → left m (n ∷ ns) ≡ left m ns
unfolding left
left-bound m n ns b = rw b refl

pub left-free : (m : Map) (n : ℕ) (ns : List ℕ) → bound m n ≡ false → left m (n ∷ ns) ≡ n ∷ left m ns
unfolding left
left-free m n ns b = rw b refl

-- So those left are exactly the names that the map does not bind.
pub left-member : (m : Map) (v : ℕ) (ns : List ℕ) → member v (left m ns) ≡ (member v ns && not (bound m v))
unfolding left member
left-member m v [] = refl
left-member m v (n ∷ ns) =
    by_test (bound m n)
    (λ b. rw b (by_test (eqb n v)
    (λ q. let bv : bound m v ≡ true = rw (← eqb-true n v q) b in rw (q, left-member m v ns, bv) (by_test (member v ns) (λ i. rw i refl) (λ i. rw i refl)))
    (λ q. rw q (left-member m v ns))))
    (λ b. rw b (by_test (eqb n v)
    (λ q. let bv : bound m v ≡ false = rw (← eqb-true n v q) b in rw (q, bv) refl)
    (λ q. rw q (left-member m v ns))))

-- They are no more than there were.
pub left-few : (m : Map) (ns : List ℕ) → length (left m ns) ≤ length ns
unfolding left
left-few m [] = omega arith
left-few m (n ∷ ns) = go (bound m n) (left-few m ns)
  where
    go : (t : Bool) → length (left m ns) ≤ length ns → length (cond t (left m ns) (n ∷ left m ns)) ≤ suc (length ns)
    go true h = omega arith
    go false h = omega arith

-- All of them are left if the map binds none, and none is left if it binds all.
pub left-all : (m : Map) (ns : List ℕ) → ((v : ℕ) → member v ns ≡ true → bound m v ≡ false) → left m ns ≡ ns
unfolding left member
left-all m [] h = refl
left-all m (n ∷ ns) h =
    rw (h n (rw (eqb-self n) refl))
    (ap (n ∷◌) (left-all m ns (λ v i. h v (by_test (eqb n v) (λ q. rw q refl) (λ q. rw q i)))))

pub left-none : (m : Map) (ns : List ℕ) → ((v : ℕ) → member v ns ≡ true → bound m v ≡ true) → left m ns ≡ []
unfolding left member
left-none m [] h = refl
left-none m (n ∷ ns) h =
    rw (h n (rw (eqb-self n) refl))
    (left-none m ns (λ v i. h v (by_test (eqb n v) (λ q. rw q refl) (λ q. rw q i))))

---------------------------------------------------------------- Par
-- "With none left the wrapper goes": a Par all of whose names are in the map becomes its body, replaced.
pub apply-par-gone : (m : Map) (ns : List ℕ) (b : Sort) → ((v : ℕ) → member v ns ≡ true → bound m v ≡ true) → apply m (par ns b) ≡ apply m b
unfolding apply
apply-par-gone m ns b h = rw (left-none m ns h) refl

-- The wrapper stays over a list that has a member.
pub under_some : (v : ℕ) (ns : List ℕ) (b : Sort) → member v ns ≡ true → under ns b ≡ par ns b
unfolding member
under_some v [] b e = absurd (false≢true e)
under_some v (n ∷ ns) b e = refl

-- "Names in the map are replaced too, and Par loses them": where one is not in the map, the Par of those left over the body, replaced.
pub apply-par-left : (m : Map) (ns : List ℕ) (b : Sort) (v : ℕ) → member v ns ≡ true → bound m v ≡ false → apply m (par ns b) ≡ par (left m ns) (apply m b)
unfolding apply
apply-par-left m ns b v i f =
    let e : member v (left m ns) ≡ true = left-member m v ns ∙ rw (i, f) refl in under_some v (left m ns) (apply m b) e

---------------------------------------------------------------- what changes nothing
mutual
  unfolding parless proper

  pub proper-parless : (s : Sort) → proper s ≡ true → parless s ≡ true
  proper-parless (var v) e = refl
  proper-parless (par ns b) e = e
  proper-parless (node k a w ss) e = proper_all-parless_all ss (search conj)

  pub proper_all-parless_all : (ss : Sorts) → proper_all ss ≡ true → parless_all ss ≡ true
  proper_all-parless_all end e = refl
  proper_all-parless_all (s then ss) e =
      rw (proper-parless s (search conj)) (proper_all-parless_all ss (search conj))

-- A sort without Par has none without a name.
mutual
  unfolding parless named

  pub parless-named : (s : Sort) → parless s ≡ true → named s ≡ true
  parless-named (var v) e = refl
  parless-named (par ns b) e = absurd (false≢true e)
  parless-named (node k a w ss) e = parless_all-named ss e

  pub parless_all-named : (ss : Sorts) → parless_all ss ≡ true → named_all ss ≡ true
  parless_all-named end e = refl
  parless_all-named (s then ss) e = rw (parless-named s (search conj)) (parless_all-named ss (search conj))

pub under-named : (ns : List ℕ) (b : Sort) → any_name ns ≡ true → under ns b ≡ par ns b
under-named [] b e = absurd (false≢true e)
under-named (n ∷ ns) b e = refl

-- A map none of whose names stands in a sort leaves it, if each Par has a name.
mutual
  unfolding apply named occurs

  pub apply-outside : (θ : Map) (s : Sort) → named s ≡ true
      → ((v : ℕ) (r : Sort) → find θ v ≡ some r → occurs v s ≡ false) → apply θ s ≡ s
  apply-outside θ (var v) e h =
      by_option (find θ v) (λ q. rw q refl) (λ r q. clash (eqb-self v) (h v r q))
  apply-outside θ (par ns b) e h =
      rw (
        left-all θ ns (λ v i. by_option (find θ v) (λ q. rw q refl) (λ r q. clash i (or_left (member v ns) (occurs v b) (h v r q)))),
        apply-outside θ b (and_right (any_name ns) (named b) e) (λ v r q. or_right (member v ns) (occurs v b) (h v r q)),
      )
      (under-named ns b (and_left (any_name ns) (named b) e))
  apply-outside θ (node k a w ss) e h = ap (node k a w) (apply_all-outside θ ss e h)

  pub apply_all-outside : (θ : Map) (ss : Sorts) → named_all ss ≡ true
      → ((v : ℕ) (r : Sort) → find θ v ≡ some r → occurs_any v ss ≡ false) → apply_all θ ss ≡ ss
  apply_all-outside θ end e h = refl
  apply_all-outside θ (s then ss) e h =
      let p = apply-outside θ s (search conj) (λ v r q. or_left (occurs v s) (occurs_any v ss) (h v r q)) in
      let t = apply_all-outside θ ss (search conj) (λ v r q. or_right (occurs v s) (occurs_any v ss) (h v r q)) in cc

-- The empty map leaves every sort whose Pars have names, as all on a sheet have.
pub apply-empty : (s : Sort) → named s ≡ true → apply empty s ≡ s
unfolding find
apply-empty s e = apply-outside empty s e (λ v r q. none-some q)

pub apply_all-empty : (ss : Sorts) → named_all ss ≡ true → apply_all empty ss ≡ ss
unfolding find
apply_all-empty ss e = apply_all-outside empty ss e (λ v r q. none-some q)

-- And no other: it takes a Par without names away, which makes the tree smaller.
pub under-size : (ns : List ℕ) (b : Sort) → size (under ns b) ≤ 1 + size b
unfolding size
under-size [] b = omega arith
under-size (n ∷ ns) b = omega arith

mutual
  unfolding apply size

  pub apply-empty-size : (s : Sort) → size (apply empty s) ≤ size s
  apply-empty-size (var v) = omega arith
  apply-empty-size (par ns b) = let h = apply-empty-size b in let u = under-size (left empty ns) (apply empty b) in omega arith
  apply-empty-size (node k a w ss) = let h = apply_all-empty-size ss in omega arith

  pub apply_all-empty-size : (ss : Sorts) → sizes (apply_all empty ss) ≤ sizes ss
  apply_all-empty-size end = omega arith
  apply_all-empty-size (s then ss) = let h = apply-empty-size s in let t = apply_all-empty-size ss in omega arith

mutual
  unfolding apply named size

  pub apply-empty-named : (s : Sort) → apply empty s ≡ s → named s ≡ true
  apply-empty-named (var v) e = refl
  apply-empty-named (par [] b) e = let h = apply-empty-size b in let z : size (apply empty b) ≡ 1 + size b = ap size e in absurd (omega arith)
  apply-empty-named (par (n ∷ ns) b) e = let z : apply empty b ≡ b = cc in apply-empty-named b z
  apply-empty-named (node k a w ss) e = let z : apply_all empty ss ≡ ss = cc in apply_all-empty-named ss z

  pub apply_all-empty-named : (ss : Sorts) → apply_all empty ss ≡ ss → named_all ss ≡ true
  apply_all-empty-named end e = refl
  apply_all-empty-named (s then ss) e =
      let p : apply empty s ≡ s = cc in let q : apply_all empty ss ≡ ss = cc in
      and-true (named s) (named_all ss) (apply-empty-named s p) (apply_all-empty-named ss q)

---------------------------------------------------------------- only the names that stand in a sort matter
pub left-agree : (m n : Map) (ns : List ℕ) → ((v : ℕ) → member v ns ≡ true → find m v ≡ find n v) → left m ns ≡ left n ns
unfolding left member
left-agree m n [] h = refl
left-agree m n (u ∷ us) h =
    rw (h u (rw (eqb-self u) refl), left-agree m n us (λ v i. h v (or-second (eqb u v) (member v us) i))) refl

-- Two maps that give the names in a sort the same images do the same to it.
mutual
  unfolding apply occurs

  pub apply-agree : (m n : Map) (s : Sort) → ((v : ℕ) → occurs v s ≡ true → find m v ≡ find n v) → apply m s ≡ apply n s
  apply-agree m n (var v) h = rw (h v (eqb-self v)) refl
  apply-agree m n (par ns b) h =
      rw (left-agree m n ns (λ v i. h v (rw i refl)), apply-agree m n b (λ v i. h v (or-second (member v ns) (occurs v b) i))) refl
  apply-agree m n (node k a w ss) h = ap (node k a w) (apply_all-agree m n ss h)

  pub apply_all-agree : (m n : Map) (ss : Sorts) → ((v : ℕ) → occurs_any v ss ≡ true → find m v ≡ find n v) → apply_all m ss ≡ apply_all n ss
  apply_all-agree m n end h = refl
  apply_all-agree m n (s then ss) h =
      let p = apply-agree m n s (λ v i. h v (rw i refl)) in
      let q = apply_all-agree m n ss (λ v i. h v (or-second (occurs v s) (occurs_any v ss) i)) in cc

---------------------------------------------------------------- names that a map does not touch
-- An untouched name is not replaced.
pub find-untouched : (σ : Map) (n : ℕ) → touches σ n ≡ false → find σ n ≡ none
unfolding find touches
find-untouched empty n e = refl
find-untouched (bind v s m) n e =
    rw (or_left (eqb v n) (occurs n s || touches m n) e)
    (find-untouched m n (or_right (occurs n s) (touches m n) (or_right (eqb v n) (occurs n s || touches m n) e)))

-- And stands in no image.
pub image-untouched : (σ : Map) (n v : ℕ) (s : Sort) → touches σ n ≡ false → find σ v ≡ some s → occurs n s ≡ false
unfolding find touches
image-untouched empty n v s e f = none-some f
image-untouched (bind u r m) n v s e f =
    let t = or_right (eqb u n) (occurs n r || touches m n) e in
    by_test (eqb u v)
    (λ q. let g : some r ≡ some s = rw q at f in rw (← some_inj g) (or_left (occurs n r) (touches m n) t))
    (λ q. image-untouched m n v s (or_right (occurs n r) (touches m n) t) (rw q at f))

-- Untouched names of a Par are left, all of them.
pub left-untouched : (σ : Map) (ns : List ℕ) → untouched σ ns ≡ true → left σ ns ≡ ns
unfolding untouched left
left-untouched σ [] u = refl
left-untouched σ (n ∷ ns) u =
    rw (find-untouched σ n (not-true (touches σ n) (and_left (not (touches σ n)) (untouched σ ns) u)))
    (ap (n ∷◌) (left-untouched σ ns (and_right (not (touches σ n)) (untouched σ ns) u)))

---------------------------------------------------------------- which names stand in the result
pub under-occurs : (n : ℕ) (ns : List ℕ) (b : Sort) → occurs n (under ns b) ≡ (member n ns || occurs n b)
unfolding occurs
under-occurs n [] b = refl
under-occurs n (m ∷ ns) b = refl

-- A name stands in the result only if it stands in an image, or in the sort while the map does not replace it.
mutual
  unfolding apply occurs

  pub apply-occurs : (m : Map) (n : ℕ) (s : Sort) → ((v : ℕ) (r : Sort) → find m v ≡ some r → occurs n r ≡ false)
      → (bound m n ≡ false → occurs n s ≡ false) → occurs n (apply m s) ≡ false
  apply-occurs m n (var v) i h =
      by_option (find m v)
      (λ q. rw q (by_test (eqb v n)
      (λ e. let z : bound m n ≡ false = rw (← eqb-true v n e, q) refl in h z)
      (λ e. e)))
      (λ r q. rw q (i v r q))
  apply-occurs m n (par ns b) i h =
      rw (under-occurs n (left m ns) (apply m b), left-member m n ns)
      (by_test (bound m n)
      (λ q. let t = apply-occurs m n b i (λ z. clash q z) in rw (q, t) (by_test (member n ns) (λ e. rw e refl) (λ e. rw e refl)))
      (λ q. let o = h q in let t = apply-occurs m n b i (λ z. or_right (member n ns) (occurs n b) (h z)) in
      rw (q, t, or_left (member n ns) (occurs n b) o) refl))
  apply-occurs m n (node k a w ss) i h = apply_all-occurs m n ss i h

  pub apply_all-occurs : (m : Map) (n : ℕ) (ss : Sorts) → ((v : ℕ) (r : Sort) → find m v ≡ some r → occurs n r ≡ false)
      → (bound m n ≡ false → occurs_any n ss ≡ false) → occurs_any n (apply_all m ss) ≡ false
  apply_all-occurs m n end i h = refl
  apply_all-occurs m n (s then ss) i h =
      rw (apply-occurs m n s i (λ z. or_left (occurs n s) (occurs_any n ss) (h z)))
      (apply_all-occurs m n ss i (λ z. or_right (occurs n s) (occurs_any n ss) (h z)))

-- A name that stands in the sort and that the map does not replace stands in the result.
mutual
  unfolding apply occurs

  pub apply-keeps : (m : Map) (n : ℕ) (s : Sort) → find m n ≡ none → occurs n s ≡ true → occurs n (apply m s) ≡ true
  apply-keeps m n (var v) f o = let q = eqb-true v n o in let g : find m v ≡ none = rw q f in rw g o
  apply-keeps m n (par ns b) f o =
      rw (under-occurs n (left m ns) (apply m b), left-member m n ns, f)
      (by_test (member n ns)
      (λ q. rw q refl)
      (λ q. rw q (apply-keeps m n b f (rw q at o))))
  apply-keeps m n (node k a w ss) f o = apply_all-keeps m n ss f o

  pub apply_all-keeps : (m : Map) (n : ℕ) (ss : Sorts) → find m n ≡ none → occurs_any n ss ≡ true → occurs_any n (apply_all m ss) ≡ true
  apply_all-keeps m n end f o = o
  apply_all-keeps m n (s then ss) f o =
      by_test (occurs n s)
      (λ q. rw (apply-keeps m n s f q) refl)
      (λ q. or-second (occurs n (apply m s)) (occurs_any n (apply_all m ss)) (apply_all-keeps m n ss f (rw q at o)))

-- An untouched name stands in the result only if it stood there.
pub apply-untouched : (m : Map) (n : ℕ) (s : Sort) → touches m n ≡ false → occurs n s ≡ false → occurs n (apply m s) ≡ false
apply-untouched m n s t o = apply-occurs m n s (λ v r q. image-untouched m n v r t q) (λ z. o)

---------------------------------------------------------------- sorts without Par, Type, ParamBitVec, BitVec 0
-- An image of a proper map is proper.
pub image-proper : (σ : Map) (v : ℕ) (s : Sort) → proper_map σ ≡ true → find σ v ≡ some s → proper s ≡ true
unfolding find proper_map
image-proper empty v s e f = none-some f
image-proper (bind u r m) v s e f =
    by_test (eqb u v)
    (λ q. let g : some r ≡ some s = rw q at f in rw (← some_inj g) (search conj))
    (λ q. image-proper m v s (search conj) (rw q at f))

-- Substitution keeps proper.
mutual
  unfolding apply proper

  pub apply-proper : (σ : Map) (s : Sort) → proper_map σ ≡ true → proper s ≡ true → proper (apply σ s) ≡ true
  apply-proper σ (var v) e h = by_option (find σ v) (λ q. rw q refl) (λ s q. rw q (image-proper σ v s e q))
  apply-proper σ (par ns b) e h = absurd (false≢true h)
  apply-proper σ (node k a w ss) e h =
      rw (and_left (usual k w) (proper_all ss) h) (apply_all-proper σ ss e (and_right (usual k w) (proper_all ss) h))

  pub apply_all-proper : (σ : Map) (ss : Sorts) → proper_map σ ≡ true → proper_all ss ≡ true → proper_all (apply_all σ ss) ≡ true
  apply_all-proper σ end e h = refl
  apply_all-proper σ (s then ss) e h =
      rw (apply-proper σ s e (search conj))
      (apply_all-proper σ ss e (search conj))

pub proper-named : (s : Sort) → proper s ≡ true → named s ≡ true
proper-named s e = parless-named s (proper-parless s e)

-- A proper sort has no Par whose parameters a map could touch.
mutual
  unfolding proper clear

  pub proper-clear : (σ : Map) (s : Sort) → proper s ≡ true → clear σ s ≡ true
  proper-clear σ (var v) e = refl
  proper-clear σ (par ns b) e = absurd (false≢true e)
  proper-clear σ (node k a w ss) e = proper_all-clear σ ss (search conj)

  pub proper_all-clear : (σ : Map) (ss : Sorts) → proper_all ss ≡ true → clear_all σ ss ≡ true
  proper_all-clear σ end e = refl
  proper_all-clear σ (s then ss) e =
      and-true (clear σ s) (clear_all σ ss) (proper-clear σ s (search conj)) (proper_all-clear σ ss (search conj))

---------------------------------------------------------------- one substitution after another
-- The image of a name in a map put through another.
pub find-through : (σ θ : Map) (v : ℕ) (s : Sort) → find θ v ≡ some s → find (through σ θ) v ≡ some (apply σ s)
unfolding find through
find-through σ empty v s f = none-some f
find-through σ (bind u r m) v s f =
    by_test (eqb u v)
    (λ q. let g : some r ≡ some s = rw q at f in rw (q, some_inj g) refl)
    (λ q. rw q (find-through σ m v s (rw q at f)))

pub find-through-none : (σ θ : Map) (v : ℕ) → find θ v ≡ none → find (through σ θ) v ≡ none
unfolding find through
find-through-none σ empty v f = refl
find-through-none σ (bind u r m) v f =
    by_test (eqb u v)
    (λ q. let g : some r ≡ none = rw q at f in none-some (sym g))
    (λ q. rw q (find-through-none σ m v (rw q at f)))

-- Replacing by σ after an assignment θ whose names σ does not touch: or the sort and θ's images first. By induction; at a variable that σ
-- replaces, θ's names do not stand in the image, so θ leaves it.
mutual
  unfolding apply proper

  pub apply-apply : (σ θ : Map) (s : Sort) → proper_map σ ≡ true → proper s ≡ true
      → ((v : ℕ) (r : Sort) → find θ v ≡ some r → touches σ v ≡ false)
      → apply σ (apply θ s) ≡ apply (through σ θ) (apply σ s)
  apply-apply σ θ (var v) e h d =
      by_option (find θ v)
      (λ q. rw q (by_option (find σ v)
      (λ p. rw (p, find-through-none σ θ v q) refl)
      (λ i p. rw p (sym (apply-outside (through σ θ) i (proper-named i (image-proper σ v i e p)) (λ u r f. by_option (find θ u)
      (λ n. let z : none ≡ some r = sym (find-through-none σ θ u n) ∙ f in none-some z)
      (λ t n. image-untouched σ u v i (d u t n) p)))))))
      (λ r q. rw (q, find-untouched σ v (d v r q), find-through σ θ v r q) refl)
  apply-apply σ θ (par ns b) e h d = absurd (false≢true h)
  apply-apply σ θ (node k a w ss) e h d =
      ap (node k a w) (apply_all-apply_all σ θ ss e (search conj) d)

  pub apply_all-apply_all : (σ θ : Map) (ss : Sorts) → proper_map σ ≡ true → proper_all ss ≡ true
      → ((v : ℕ) (r : Sort) → find θ v ≡ some r → touches σ v ≡ false)
      → apply_all σ (apply_all θ ss) ≡ apply_all (through σ θ) (apply_all σ ss)
  apply_all-apply_all σ θ end e h d = refl
  apply_all-apply_all σ θ (s then ss) e h d =
      let p = apply-apply σ θ s e (search conj) d in
      let t = apply_all-apply_all σ θ ss e (search conj) d in cc

---------------------------------------------------------------- lists
-- As many sorts as before.
pub count-applied : (m : Map) (ss : Sorts) → count (apply_all m ss) ≡ count ss
unfolding apply_all count
count-applied m end = refl
count-applied m (s then ss) = ap suc (count-applied m ss)
