-- A function on sorts that tests each node is `every` of its test: the law by its clauses, and known, proper, unlisted and
-- parless by it.
use Rattle.std.specs.Prelude.{ℕ, ◌≡◌, Bool, true, not, get_or, eqb}
use Rattle.std.proofs.Math.Path.{refl, ap, ap₂}
use Rattle.std.proofs.Common.{sym, ◌∙◌}
use Rattle.std.proofs.Math.Bool.{◌&&◌}
use mathlib.Core.Bool.{and-true}
use mathlib.Core.List.{List, [], ◌∷◌}
use Rattle.record.specs.Sort.{Sort, Sorts, var, par, node, end, ◌then◌, parts_of}
use Rattle.record.specs.Cases.{by_test}
use Rattle.record.specs.Names.{member}
use Rattle.record.specs.Decode.{sort_at}
use Rattle.record.specs.declared.SortRecord.{SortRecord}
use Rattle.substitution.specs.Matching.{known, known_all, apart, unlisted, unlisted_all}
use Rattle.substitution.specs.Premises.{proper, proper_all, parless, parless_all}
use Rattle.matching_tables.specs.Tables.{Lists}
use Rattle.matching_tables.specs.TableLaws.{listed-is}
use Rattle.matching_tables.specs.Usable.{sorts_at}
use Rattle.matching_tables.specs.Contract.{none_of}
use Rattle.matching_tables.specs.Notes.{NoteTable}
use Rattle.matching_tables.specs.NoteLaws.{table-as}
use Rattle.matching_tables.specs.Entered.{entry-name, entry-names}
use Rattle.matching_each.specs.Every.{Test, Known, Proper, Unlisted, Parless, every, every_all, passing, TestLent, PassAsks, AskedOf, Answers, EachIs, AllEachIs}

and_last : (t : Bool) → (t && true) ≡ t
and_last t = and-true t

-- Every node passes where the first does, and every node of its parts.
pub every-parts : (f : Sort → Bool) (s : Sort) → every f s ≡ (f s && every_all f (parts_of s))
unfolding every
every-parts f (var v) = sym (and_last (f (var v)))
every-parts f (par us b) = ap (λ (t : Bool). f (par us b) && t) (sym (and_last (every f b)))
every-parts f (node k a w ss) = refl

---------------------------------------------------------------- a function by its clauses
-- g on sorts and h on lists of them test each node by f.
pub record Tests (f g : Sort → Bool) (h : Sorts → Bool) : Type 0 where
  pub vars : (v : ℕ) → f (var v) ≡ g (var v)
  pub pars : (us : List ℕ) (b : Sort) → (f (par us b) && g b) ≡ g (par us b)
  pub nodes : (k a w : ℕ) (ss : Sorts) → (f (node k a w ss) && h ss) ≡ g (node k a w ss)
  pub none : true ≡ h end
  pub more : (s : Sort) (ss : Sorts) → (g s && h ss) ≡ h (s then ss)

mutual
  unfolding every

  pub every-is : {f g : Sort → Bool} {h : Sorts → Bool} → Tests f g h → (s : Sort) → every f s ≡ g s
  every-is c (var v) = c.vars v
  every-is {f} c (par us b) = ap (λ (t : Bool). f (par us b) && t) (every-is c b) ∙ c.pars us b
  every-is {f} c (node k a w ss) = ap (λ (t : Bool). f (node k a w ss) && t) (every_all-is c ss) ∙ c.nodes k a w ss

  pub every_all-is : {f g : Sort → Bool} {h : Sorts → Bool} → Tests f g h → (ss : Sorts) → every_all f ss ≡ h ss
  every_all-is c end = c.none
  every_all-is c (s then ss) = ap₂ ◌&&◌ (every-is c s) (every_all-is c ss) ∙ c.more s ss

---------------------------------------------------------------- the tests
pub known-tests : (l d : List ℕ) → Tests (passing Known l d) known known_all
unfolding known
known-tests l d = record { vars = λ v. refl; pars = λ us b. refl; nodes = λ k a w ss. refl; none = refl; more = λ s ss. refl }

pub proper-tests : (l d : List ℕ) → Tests (passing Proper l d) proper proper_all
unfolding proper
proper-tests l d = record { vars = λ v. refl; pars = λ us b. refl; nodes = λ k a w ss. refl; none = refl; more = λ s ss. refl }

pub parless-tests : (l d : List ℕ) → Tests (passing Parless l d) parless parless_all
unfolding parless
parless-tests l d = record { vars = λ v. refl; pars = λ us b. refl; nodes = λ k a w ss. refl; none = refl; more = λ s ss. refl }

-- For every list of names that the table lists.
module _ {l ns : List ℕ} (h : Lists l ns) where
  unlisted-name : (v : ℕ) → eqb (get_or l v 0) 0 ≡ not (member v ns)
  unlisted-name v = rw (listed-is l ns h v) (by_test (eqb (get_or l v 0) 0) (λ q. rw q refl) (λ q. rw q refl))

  apart_none : (us : List ℕ) → none_of l us ≡ apart ns us
  unfolding none_of apart
  apart_none [] = refl
  apart_none (u ∷ us) = ap₂ ◌&&◌ (unlisted-name u) (apart_none us)

  pub unlisted-tests : (d : List ℕ) → Tests (passing Unlisted l d) (unlisted ns) (unlisted_all ns)
  unfolding unlisted
  unlisted-tests d =
      record {
        vars = unlisted-name;
        pars = λ us b. ap (λ (t : Bool). t && unlisted ns b) (apart_none us);
        nodes = λ k a w ss. refl;
        none = refl;
        more = λ s ss. refl;
      }

---------------------------------------------------------------- the walk for such a function
-- Each entry of a store may be asked.
pub entry-asked : {b p : List ℕ} {n : ℕ} {t : Test} {l d : List ℕ} → TestLent t l d → AskedOf b p n (PassAsks t l d b)
entry-asked {b} {p} {n} e r k a h =
    record { lent = e; name = entry-name b p n k a.usable a.known r h; names = entry-names b p n k a.usable a.known r h }

-- The walk's answer is the function's, and what is noted of it is noted again.
module _ {b p : List ℕ} {n : ℕ} {f g : Sort → Bool} {h : Sorts → Bool} (c : Tests f g h) {says : SortRecord → Bool → Type 0} (a : Answers b p n says f)
    {o : List ℕ} (t : NoteTable (λ i. g (sort_at b p n i) ≡ true) o) where
  old : NoteTable (λ i. every f (sort_at b p n i) ≡ true) o
  old = table-as (λ i q. every-is c (sort_at b p n i) ∙ q) t

  new : {o' : List ℕ} → NoteTable (λ i. every f (sort_at b p n i) ≡ true) o' → NoteTable (λ i. g (sort_at b p n i) ≡ true) o'
  new = table-as (λ i q. sym (every-is c (sort_at b p n i)) ∙ q)

  pub found-by : (k : ℕ) {o' : List ℕ} {r : Bool} → EachIs b p n says o k o' r → (r ≡ g (sort_at b p n k)) × NoteTable (λ i. g (sort_at b p n i) ≡ true) o'
  found-by k e = let w = e f a old in (w.answer ∙ every-is c (sort_at b p n k), new w.noted)

  pub all-found-by : (x m : ℕ) {o' : List ℕ} {r : Bool} → AllEachIs b p n says o x m o' r → (r ≡ h (sorts_at b p n b x m)) × NoteTable (λ i. g (sort_at b p n i) ≡ true) o'
  all-found-by x m e = let w = e f a old in (w.answer ∙ every_all-is c (sorts_at b p n b x m), new w.noted)
