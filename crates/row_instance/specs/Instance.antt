-- A sort of the store with its names replaced, as an answer: what is promised, and that replacing changes no width and no
-- list but the names of a Par, which only become fewer, so that the tree size alone decides whether it is over a limit.
use Prim.Native.Nat.{ℕ, zero, suc, ◌≤◌, ◌<◌}
use Rattle.std.proofs.Math.Path.{◌≡◌, refl, ap, ap₂}
use Rattle.std.proofs.Common.{sym, subst, ◌∙◌, arith, le-leb, leb-true}
use Rattle.std.specs.Prelude.{true, List, [], ◌∷◌, length, leb, Result, Ok, Err}
use Rattle.std.proofs.Math.Bool.{◌&&◌}
use Rattle.std.proofs.Math.Option.{Option, none, some}
use Rattle.std.proofs.Math.ListN.{get_or}
use Rattle.record.specs.Sort.{Sort, Sorts, var, par, node, end, ◌then◌, count, size}
use Rattle.record.specs.Record.{leaf}
use Rattle.record.specs.Decode.{store_of, sort_at}
use Rattle.record.specs.Cases.{and_left, and_right}
use Rattle.record.specs.StoreLaws.{store_of-length}
use Rattle.store.specs.Good.{Good}
use Rattle.substitution.specs.Substitution.{Map, find, or_else, left, under, apply, apply_all}
use Rattle.substitution.proofs.SubstitutionLaws.{count-applied, left-few}
use Rattle.apply_walk.specs.Images.{image_at, Images, images-apply}
use Rattle.apply_walk.specs.Contract.{answer_at}
use Rattle.apply.specs.declared.ApplyError.{ApplyError}
use Rattle.apply.specs.declared.ApplyError.TheVariants.{TooLarge, NoRoom}
use Rattle.apply.specs.Contract.{ApplyAsks, AppliedIs}
use Rattle.row_rules.specs.declared.Cause.{Cause}
use Rattle.row_rules.specs.declared.Cause.TheVariants.{Limit, Full}
use Rattle.row_rules.specs.Verdict.{Verdict, sort}
use Rattle.row_rules.specs.Outcome.{shallow, shallow_all, within}
use Rattle.row_answer.specs.Answer.{Answer, AnswerIs, refusing}
use Rattle.row_answer.specs.AnswerLaws.{untouched-as, made-limit, made-full, answer-made}
use Rattle.row_answer.specs.Within.{over-size, shallow-at}

-- THE ANSWER r TO THE SORT k of the store with its names replaced, for every map that the table l stands for.
abbrev pub InstanceIs : List ℕ → List ℕ → ℕ → List ℕ → ℕ → List ℕ → List ℕ → List ℕ → Answer → Type 0
InstanceIs b p n l k b' p' ix' r =
    (θ : Map) → Images (store_of b p n) l θ → AnswerIs b p n (sort (apply θ (sort_at b p n k))) b' p' ix' r

-- Why substitution gives no answer, as the cause of a row.
abbrev pub apply_cause : ApplyError → Cause
apply_cause TooLarge = Limit
apply_cause NoRoom = Full

-- The row as it is made of what substitution gives.
abbrev pub instance_row : Result ℕ ApplyError → Result ℕ Cause
instance_row (Ok i) = Ok i
instance_row (Err e) = Err (apply_cause e)

-- The answer as it is made of what substitution gives, and of the store's count and bytes in use after it.
abbrev pub instance_answer : ℕ → ℕ → Result ℕ ApplyError → Answer
instance_answer n u r = record { verdict = instance_row r; count = n; used = u }

---------------------------------------------------------------- replacing keeps widths and lists
shallow-under : (ns : List ℕ) (s : Sort) → length ns ≤ 64 → shallow s ≡ true → shallow (under ns s) ≡ true
unfolding shallow
shallow-under [] s h e = e
shallow-under (n ∷ ns) s h e = ap₂ ◌&&◌ (le-leb (length (n ∷ ns)) 64 h) e

-- EVERY IMAGE KEEPS THE LIMITS of widths and lists: so does the sort replaced.
module _ (θ : Map) (each : (v : ℕ) (s : Sort) → find θ v ≡ some s → shallow s ≡ true) where
  shallow-image : (v : ℕ) (o : Option Sort) → find θ v ≡ o → shallow (or_else o (var v)) ≡ true
  unfolding shallow
  shallow-image v none e = refl
  shallow-image v (some s) e = each v s e

  mutual
    unfolding shallow apply

    pub shallow-apply : (s : Sort) → shallow s ≡ true → shallow (apply θ s) ≡ true
    shallow-apply (var v) h = shallow-image v (find θ v) refl
    shallow-apply (par ns b) h =
        shallow-under (left θ ns) (apply θ b)
        (omega (arith, left-few θ ns, leb-true (length ns) 64 (and_left (leb (length ns) 64) (shallow b) h)))
        (shallow-apply b (and_right (leb (length ns) 64) (shallow b) h))
    shallow-apply (node k a w ss) h =
        let r = and_right (leb w 65535) (leb (count ss) 64 && shallow_all ss) h in
        ap₂ ◌&&◌ (and_left (leb w 65535) (leb (count ss) 64 && shallow_all ss) h)
        (ap₂ ◌&&◌ (ap (λ (c : ℕ). leb c 64) (count-applied θ ss) ∙ and_left (leb (count ss) 64) (shallow_all ss) r)
        (shallow-all-apply ss (and_right (leb (count ss) 64) (shallow_all ss) r)))

    pub shallow-all-apply : (ss : Sorts) → shallow_all ss ≡ true → shallow_all (apply_all θ ss) ≡ true
    shallow-all-apply end h = refl
    shallow-all-apply (s then ss) h =
        ap₂ ◌&&◌ (shallow-apply s (and_left (shallow s) (shallow_all ss) h)) (shallow-all-apply ss (and_right (shallow s) (shallow_all ss) h))

-- OVER A GOOD STORE the images and the sort are sorts of the store, so the tree size alone decides.
module _ (b p ix : List ℕ) (n u : ℕ) (g : Good b p ix n u) (l : List ℕ) (θ : Map) (m : Images (store_of b p n) l θ) where
  image-shallow : (v e : ℕ) → get_or l v 0 ≡ e → (s : Sort) → image_at (store_of b p n) e ≡ some s → shallow s ≡ true
  unfolding sort_at
  image-shallow v zero q s o = let z : ◌≡◌ {A = ℕ} 0 1 = cc in absurd (omega arith)
  image-shallow v (suc j) q s o =
      let e : get_or (store_of b p n) j leaf ≡ s = cc in
      ap shallow (sym e) ∙ shallow-at b p n g.stored j (omega (arith, q, m.table.below v, store_of-length b p n))

  pub each-image : (v : ℕ) (s : Sort) → find θ v ≡ some s → shallow s ≡ true
  each-image v s e = image-shallow v (get_or l v 0) refl s (sym (m.look v) ∙ e)

  instance-within : (k : ℕ) → k < n → size (apply θ (sort_at b p n k)) ≤ 4096 → within (apply θ (sort_at b p n k)) ≡ true
  unfolding within
  instance-within k h o =
      ap₂ ◌&&◌ (shallow-apply θ each-image (sort_at b p n k) (shallow-at b p n g.stored k h)) (le-leb (size (apply θ (sort_at b p n k))) 4096 o)

-- WHAT SUBSTITUTION GIVES is the answer, where the tree size alone decides.
module _ (b p ix : List ℕ) (n u : ℕ) (g : Good b p ix n u) where
  -- The same count and bytes in use.
  counted-as : {v : Verdict} {c : Cause} {b' p' ix' : List ℕ} {n' u' : ℕ} → n' ≡ n → u' ≡ u → AnswerIs b p n v b' p' ix' (refusing c n u) → AnswerIs b p n v b' p' ix' (refusing c n' u')
  counted-as {v} {c} {b'} {p'} {ix'} {n'} {u'} e f h =
      subst (λ (m : ℕ). AnswerIs b p n v b' p' ix' (refusing c m u')) (sym e)
      (subst (λ (w : ℕ). AnswerIs b p n v b' p' ix' (refusing c n w)) (sym f) h)

  pub applied-answer : (s : Sort) → (size s ≤ 4096 → within s ≡ true) → (b' p' ix' : List ℕ) (n' u' : ℕ) (r : Result ℕ ApplyError) → AppliedIs b p ix n u s b' p' ix' n' u' r
      → AnswerIs b p n (sort s) b' p' ix' (instance_answer n' u' r)
  applied-answer s fits b' p' ix' n' u' (Ok i) a =
      answer-made b p ix n u g s b' p' ix' i n' u' (fits a.small) a.made.good a.made.kept.long a.made.kept.wide
      a.made.added a.made.number
  applied-answer s fits b' p' ix' n' u' (Err TooLarge) a = untouched-as a.1 (counted-as a.2 a.3 (made-limit b p ix n u g s (over-size s a.0)))
  applied-answer s fits b' p' ix' n' u' (Err NoRoom) a = untouched-as a.2 (counted-as a.3 a.4 (made-full b p ix n u g s (fits a.0) a.1))

-- THE SORT k REPLACED, for every map of the table.
pub instance-of : (b p ix : List ℕ) (n u k : ℕ) (l : List ℕ) → ApplyAsks b p ix n u k l → (b' p' ix' : List ℕ) (n' u' : ℕ) (r : Result ℕ ApplyError)
    → AppliedIs b p ix n u (answer_at b p n l k) b' p' ix' n' u' r → InstanceIs b p n l k b' p' ix' (instance_answer n' u' r)
instance-of b p ix n u k l h b' p' ix' n' u' r a θ m =
    applied-answer b p ix n u h.ready.good (apply θ (sort_at b p n k))
    (instance-within b p ix n u h.ready.good l θ m k h.known) b' p' ix' n' u' r
    (subst (λ (s : Sort). AppliedIs b p ix n u s b' p' ix' n' u' r) (images-apply (store_of b p n) l θ m (sort_at b p n k)) a)
