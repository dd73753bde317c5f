-- What the functions on an App ask of their callers, and what they promise. The sorts of an App are store numbers in a lent
-- array from byte 3 on, the head first, so that its arguments stand from byte 5 on.
use Rattle.std.specs.Prelude.{ℕ, ◌+◌, ◌*◌, ◌-◌, ◌≤◌, ◌<◌, ◌≡◌, Bool, true, false, not, cond, ◌&&◌, ◌||◌, List, length, get_or}
use Rattle.std.proofs.Math.Option.{Option, some}
use Rattle.record.specs.Number.{u16_at}
use Rattle.record.specs.Sort.{Sort, Sorts, var, same, sizes}
use Rattle.record.specs.Decode.{store_of, sort_at, Zeros}
use Rattle.store.specs.Good.{Good}
use Rattle.store.specs.Entry.{SizedStore}
use Rattle.sheet.specs.Sheet.{Lengths}
use Rattle.substitution.specs.Substitution.{Map, empty, bind, apply}
use Rattle.substitution.specs.Matching.{keep, matches_all, listed_in}
use Rattle.substitution.specs.MatchWith.{match_all_with}
use Rattle.substitution.specs.Premises.{parless, parless_all}
use Rattle.matching_tables.specs.Tables.{Told, table_map, Mapped, Cleared, Blank}
use Rattle.matching_tables.specs.Usable.{Usable, Refs, sorts_at, OneAsks, ListAsks, PairsAsk}
use Rattle.matching_each.specs.Every.{Settled as Settles, every, passing}
use Rattle.apply_walk.specs.Images.{Images}
use Rattle.row_rules.specs.declared.Cause.{Cause}
use Rattle.row_rules.specs.declared.Cause.TheVariants.{Full}
use Rattle.row_rules.specs.Verdict.{Verdict, sort, refused}
use Rattle.row_rules.specs.Outcome.{refusal, outcome}
use Rattle.row_rules.specs.Lists.{remaining}
use Rattle.check_rules.specs.Checked.{settled_all, delivered, called}
use Rattle.infer_rules.specs.Inferred.{substituted, inferred_app}
use Rattle.row_answer.specs.Answer.{Answer}
use Rattle.row_answer.specs.declared.heads.Callee.{Callee}
use Rattle.row_answer.specs.Answer.{AnswerIs}
use Rattle.row_answer.specs.Heads.{callee_names, callee_sorts}
use Rattle.row_answer.specs.Lent.{Lent}

---------------------------------------------------------------- an App
-- A good store, tables of names lent over it, and m numbers of its sorts in a from byte 3 on.
pub record AppAsks (b p ix : List ℕ) (n u : ℕ) (prm imgs bnd a : List ℕ) (m : ℕ) : Type 0 where
  pub good : Good b p ix n u
  pub tables : Lent b p n prm imgs bnd
  pub few : m ≤ 64
  pub room : 259 ≤ length a
  pub below : (j : ℕ) → j < m → u16_at a (3 + 2 * j) < n

-- THE ANSWER TO THE VERDICT v; the tables of names are as they were, whole.
pub record AppIs (v : Verdict) (b p : List ℕ) (n : ℕ) (prm imgs bnd b' p' ix' prm' imgs' bnd' : List ℕ) (r : Answer) : Type 0 where
  pub answer : AnswerIs b p n v b' p' ix' r
  pub params : prm' ≡ prm
  pub images : imgs' ≡ imgs
  pub bound : bnd' ≡ bnd

-- OVER THE STORE of n sorts in b p THE VERDICT v HAS NO ROOM, in buffers of these lengths.
abbrev pub Crowded : List ℕ → List ℕ → ℕ → Verdict → Type 0
Crowded b p n v = (l : Lengths) → l.records ≡ length b → l.places ≡ length p → outcome l (store_of b p n) v ≡ refusal (store_of b p n) Full

-- Where t says so, the inferred verdict on m sorts in a from byte 3 on has none.
abbrev pub AppCrowded : Bool → List ℕ → List ℕ → ℕ → List ℕ → ℕ → Type 0
AppCrowded t b p n a m = t ≡ true → Crowded b p n (inferred_app (sorts_at b p n a 3 m))

---------------------------------------------------------------- settled
pub record SettledAllAsks (b p : List ℕ) (n : ℕ) (prm imgs : List ℕ) (x m : ℕ) : Type 0 where
  pub list : ListAsks b p n b x m
  pub table : length prm ≡ 65536
  pub images : length imgs ≡ 65536

-- For every test of names and every map that the tables stand for.
abbrev pub SettledAllIs : List ℕ → List ℕ → ℕ → List ℕ → List ℕ → ℕ → ℕ → Bool → Type 0
SettledAllIs b p n prm imgs x m r =
    (f : ℕ → Bool) → Told prm f → (θ : Map) → Images (store_of b p n) imgs θ → r ≡ settled_all f θ (sorts_at b p n b x m)

-- What is noted of the sort k: every listed name left in it is bound, by the tables; so it is settled for all that they stand for.
abbrev pub SettledAt : List ℕ → List ℕ → ℕ → List ℕ → List ℕ → ℕ → Type 0
SettledAt b p n prm imgs k = every (passing Settles prm imgs) (sort_at b p n k) ≡ true

---------------------------------------------------------------- arguments at a head
-- The m sorts of a head's Function in the store's own bytes from x on, k arguments, at most as many, and no name bound.
pub record AppFitAsks (b p : List ℕ) (n : ℕ) (prm imgs bnd : List ℕ) (x m : ℕ) (a : List ℕ) (k : ℕ) : Type 0 where
  pub usable : Usable b p n
  pub table : length prm ≡ 65536
  pub cleared : Cleared imgs bnd
  pub list : Refs b x m n
  pub args : Refs a 5 k n
  pub fewer : k ≤ m

-- The same of a head whose names lie in the store; no name is listed.
pub record FittedAsks (b p : List ℕ) (n : ℕ) (prm imgs bnd : List ℕ) (f : Callee) (a : List ℕ) (k : ℕ) : Type 0 where
  pub fit : AppFitAsks b p n prm imgs bnd f.list.at f.list.count a k
  pub zeros : Zeros prm 0
  pub names : f.names.at + 2 * f.names.count ≤ length b
  pub named : f.names.count ≤ 64

-- What remains of the list behind the arguments.
abbrev pub rest_at : List ℕ → List ℕ → ℕ → ℕ → ℕ → ℕ → Sort
rest_at b p n x m k = remaining (sorts_at b p n b (x + 2 * k) (m - k))

-- A head at k arguments. With parameters it asks for tables of all names.
pub record CalledAsks (b p ix : List ℕ) (n u : ℕ) (prm imgs bnd : List ℕ) (f : Callee) (a : List ℕ) (k : ℕ) : Type 0 where
  pub good : Good b p ix n u
  pub blank : (f.names.count ≡ 0 → ⊥) → Blank prm imgs bnd
  pub list : Refs b f.list.at f.list.count n
  pub few : f.list.count ≤ 64
  pub names : f.names.at + 2 * f.names.count ≤ length b
  pub named : f.names.count ≤ 64
  pub args : Refs a 5 k n

---------------------------------------------------------------- what remains, delivered
-- How the arguments fit a head, and how many names are bound: they fit, and no parameter is left open in what remains; or they do not, or
-- one is, with the cause.
pub data Call : Type 0 where
  Settled : ℕ → Call
  Fails : Cause → ℕ → Call

-- How many names are bound, and the verdict on what remains.
abbrev pub bound_in : Call → ℕ
bound_in (Settled c) = c
bound_in (Fails o c) = c

abbrev pub call_of : List Sort → List ℕ → List ℕ → Sort → Call → Verdict
call_of st l d s (Settled c) = sort (apply (table_map st l d c) s)
call_of st l d s (Fails o c) = refused o

-- THE CALL FOR THE VERDICT v on the head f at k arguments: the names bound, and none listed.
pub record CallIs (v : Verdict) (b p : List ℕ) (n : ℕ) (prm : List ℕ) (f : Callee) (k : ℕ) (prm' l d : List ℕ) (c : Call) : Type 0 where
  pub params : prm' ≡ prm
  pub mapped : Mapped b p n l d (bound_in c)
  pub verdict : v ≡ call_of (store_of b p n) l d (rest_at b p n f.list.at f.list.count k) c

-- At most as many arguments as the list has sorts, and the names bound by the call.
pub record DeliverAsks (b p ix : List ℕ) (n u : ℕ) (l d : List ℕ) (f : Callee) (k : ℕ) (c : Call) : Type 0 where
  pub good : Good b p ix n u
  pub list : Refs b f.list.at f.list.count n
  pub few : f.list.count ≤ 64
  pub fewer : k ≤ f.list.count
  pub mapped : Mapped b p n l d (bound_in c)

-- THE ANSWER TO THE CALL; no name is bound.
pub record DeliverIs (b p : List ℕ) (n : ℕ) (l d : List ℕ) (f : Callee) (k : ℕ) (c : Call) (b' p' ix' l' d' : List ℕ) (r : Answer) : Type 0 where
  pub answer : AnswerIs b p n (call_of (store_of b p n) l d (rest_at b p n f.list.at f.list.count k) c) b' p' ix' r
  pub cleared : Cleared l' d'

---------------------------------------------------------------- the checked App
-- THE VERDICT by the test f of the head's names.
abbrev pub delivered_at : (ℕ → Bool) → List ℕ → List ℕ → ℕ → ℕ → ℕ → List ℕ → ℕ → Verdict
delivered_at f b p n x m a k = delivered f (rest_at b p n x m k) (matches_all f (sorts_at b p n b x k) (sorts_at b p n a 5 k) empty)

-- The map found by a test f of names; where the call is settled, it is that of the tables.
abbrev pub fitted : (ℕ → Bool) → List ℕ → List ℕ → ℕ → ℕ → List ℕ → ℕ → Option Map
fitted f b p n x a k = matches_all f (sorts_at b p n b x k) (sorts_at b p n a 5 k) empty

abbrev pub FoundBy : List Sort → List ℕ → List ℕ → Option Map → Call → Type 0
FoundBy st l d o (Settled c) = o ≡ some (table_map st l d c)
FoundBy st l d o (Fails e c) = Unit {0}

-- For every test of names that the table stands for.
pub record AppFitIs (b p : List ℕ) (n : ℕ) (prm : List ℕ) (x m : ℕ) (a : List ℕ) (k : ℕ) (l d : List ℕ) (r : Call) : Type 0 where
  pub mapped : Mapped b p n l d (bound_in r)
  pub found : (f : ℕ → Bool) → Told prm f → FoundBy (store_of b p n) l d (fitted f b p n x a k) r
  pub verdict : (f : ℕ → Bool) → Told prm f → delivered_at f b p n x m a k ≡ call_of (store_of b p n) l d (rest_at b p n x m k) r

-- The same by the names of the head f.
pub record FittedIs (b p : List ℕ) (n : ℕ) (prm : List ℕ) (f : Callee) (a : List ℕ) (k : ℕ) (prm' l d : List ℕ) (c : Call) : Type 0 where
  pub call : CallIs (delivered_at (listed_in (callee_names b f)) b p n f.list.at f.list.count a k) b p n prm f k prm' l d c
  pub found : FoundBy (store_of b p n) l d (fitted (listed_in (callee_names b f)) b p n f.list.at a k) c

---------------------------------------------------------------- a head without parameters
-- No name is one.
abbrev pub NoNames : (ℕ → Bool) → Type 0
NoNames f = (v : ℕ) → f v ≡ false

-- A sort of a store whose records carry their tree sizes.
pub record ParlessAsks (b p : List ℕ) (n u k : ℕ) : Type 0 where
  pub one : OneAsks b p n k
  pub sized : SizedStore b p n u

-- What is noted of a sort: no Par stands in it.
abbrev pub ParlessAt : List ℕ → List ℕ → ℕ → ℕ → Type 0
ParlessAt b p n k = parless (sort_at b p n k) ≡ true

-- k arguments, and as many sorts of a head's list.
pub record ExactAsks (b p : List ℕ) (n u x : ℕ) (a : List ℕ) (k : ℕ) : Type 0 where
  pub pairs : PairsAsk b p n b x a 5 k
  pub sized : SizedStore b p n u

-- THE ARGUMENTS FIT, AND NOTHING IS BOUND, or they do not.
abbrev pub ExactIs : List ℕ → List ℕ → ℕ → ℕ → List ℕ → ℕ → Bool → Type 0
ExactIs b p n x a k r = (f : ℕ → Bool) → NoNames f → matches_all f (sorts_at b p n b x k) (sorts_at b p n a 5 k) empty ≡ keep r (some empty)

-- A head with m sorts from x on, at k arguments, fewer than its sorts.
pub record PlainAppAsks (b p ix : List ℕ) (n u x m : ℕ) (a : List ℕ) (k : ℕ) : Type 0 where
  pub good : Good b p ix n u
  pub list : Refs b x m n
  pub few : m ≤ 64
  pub args : Refs a 5 k n
  pub fewer : k < m

-- THE ANSWER TO THE CHECKED VERDICT.
abbrev pub PlainAppIs : List ℕ → List ℕ → ℕ → ℕ → ℕ → List ℕ → ℕ → List ℕ → List ℕ → List ℕ → Answer → Type 0
PlainAppIs b p n x m a k b' p' ix' r =
    (f : ℕ → Bool) → NoNames f → AnswerIs b p n (called f (some (sorts_at b p n b x m)) (sorts_at b p n a 5 k)) b' p' ix' r

---------------------------------------------------------------- the inferred App
-- The sorts that are matched are together no larger than a sort of the store.
pub record PatternsAsk (b p : List ℕ) (n : ℕ) (prm imgs bnd : List ℕ) (f : Callee) (a : List ℕ) (k : ℕ) : Type 0 where
  pub fitted : FittedAsks b p n prm imgs bnd f a k
  pub small : sizes (sorts_at b p n b f.list.at k) ≤ 4096

-- A head with parameters at no more arguments than it has sorts, which are together no larger than a sort of the store.
pub record ParametricAsks (b p ix : List ℕ) (n u : ℕ) (prm imgs bnd : List ℕ) (f : Callee) (a : List ℕ) (k : ℕ) : Type 0 where
  pub called : CalledAsks b p ix n u prm imgs bnd f a k
  pub parameters : f.names.count ≡ 0 → ⊥
  pub fewer : k ≤ f.list.count
  pub small : sizes (callee_sorts b p n f) ≤ 4096

-- THE VERDICT on what remains, by the map found.
abbrev pub substituted_at : List ℕ → List ℕ → ℕ → Callee → List ℕ → ℕ → Verdict
substituted_at b p n f a k =
    substituted (rest_at b p n f.list.at f.list.count k) (match_all_with (callee_names b f) (sorts_at b p n b f.list.at k) (sorts_at b p n a 5 k) empty)

---------------------------------------------------------------- without room
-- Where t says so, the inferred verdict on the head f at k arguments, no more than its sorts, has no room.
abbrev pub CalledCrowded : Bool → List ℕ → List ℕ → ℕ → Callee → List ℕ → ℕ → Type 0
CalledCrowded t b p n f a k = t ≡ true → (f.names.count ≡ 0 → ⊥) → k ≤ f.list.count → Crowded b p n (substituted_at b p n f a k)

-- A name is bound to the variable of that name.
unfoldable pub owned : Map → Bool
unfolding same
owned empty = false
owned (bind v s m) = same s (var v) || owned m

-- The name v is, by the image under it.
abbrev pub own_of : List ℕ → List ℕ → ℕ → List ℕ → ℕ → Bool
own_of b p n l v = same (sort_at b p n (get_or l v 0 - 1)) (var v)

-- The tables of m bound names over a store.
pub record OwnAsks (b p : List ℕ) (n : ℕ) (l d : List ℕ) (m : ℕ) : Type 0 where
  pub usable : Usable b p n
  pub mapped : Mapped b p n l d m

-- THE CALL WHERE THE INFERRED SORT HAS NO ROOM: one whose map binds no name to its own variable fails with Full, and so does any where no
-- Par stands in the sorts ss that remain.
abbrev pub unmade_of : Bool → List Sort → List ℕ → List ℕ → Sorts → Call → Call
unmade_of false st l d ss c = c
unmade_of true st l d ss (Settled c) = cond (owned (table_map st l d c) && not (parless_all ss)) (Settled c) (Fails Full c)
unmade_of true st l d ss (Fails o c) = Fails o c
