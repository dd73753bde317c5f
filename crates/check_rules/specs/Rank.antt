-- Ranks: what arguments an operator takes and what sort it then has; when a rank fits.
use Rattle.std.specs.Prelude.{ℕ, Bool, true, false, cond, ◌&&◌, ◌||◌, List, [], ◌∷◌}
use Rattle.std.proofs.Math.Option.{Option, none, some}
use Rattle.record.specs.Sort.{Sort, Sorts, end, ◌then◌, same}
use Rattle.substitution.specs.Substitution.{Map, empty, bind, apply}
use Rattle.substitution.specs.Matching.{matches_all}
use Rattle.check_rules.specs.Forms.{Form, takes, computes}
pub use Rattle.check_rules.specs.Forms.{vector}

-- A rank as theories print it: the sorts of the arguments, whether the last one may repeat, and the sort of the
-- result. Every variable in it is the rank's own parameter; in a vector rank each stands for a vector of some known width.
-- Where arguments or result are no pattern, a form says both.
pub data Rank : Type 0 where
  rank : (repeats vectors : Bool) → (arguments : Sorts) → (result : Sort) → Rank
  computed : Form → Rank

-- The last argument of a rank as often as the actual arguments ask.
unfoldable pub repeated : Sort → Sorts → Sorts
repeated p end = end
repeated p (t then ts) = p then repeated p ts

unfoldable pub stretched : Sorts → Sorts → Sorts
unfolding repeated
stretched end ts = end
stretched (p then end) end = p then end
stretched (p then end) (t then ts) = p then repeated p ts
stretched (p then (q then ps)) end = p then (q then ps)
stretched (p then (q then ps)) (t then ts) = p then stretched (q then ps) ts

abbrev pub patterns : Bool → Sorts → Sorts → Sorts
patterns true ps ts = stretched ps ts
patterns false ps ts = ps

-- A rank has this count of arguments.
unfoldable pub same_count : Sorts → Sorts → Bool
same_count end end = true
same_count end (t then ts) = false
same_count (p then ps) end = false
same_count (p then ps) (t then ts) = same_count ps ts

unfoldable pub counts : Rank → Sorts → Bool
unfolding stretched same_count takes
counts (rank rep vs ps r) ts = same_count (patterns rep ps ts) ts
counts (computed f) ts = takes f ts

unfoldable pub vectors_in : Map → Bool
unfolding same
vectors_in empty = true
vectors_in (bind v s m) = vector s && vectors_in m

-- Every variable of a rank is a parameter.
abbrev pub every_name : ℕ → Bool
every_name v = true

abbrev pub rank_answer : Bool → Sort → Option Map → Option Sort
rank_answer vs r none = none
rank_answer true r (some m) = cond (vectors_in m) (some (apply m r)) none
rank_answer false r (some m) = some (apply m r)

-- A RANK FITS the sorts of arguments where some assignment of its parameters turns its argument sorts into them; its result is
-- then the assignment applied. A form fits where it computes a sort.
unfoldable pub fit : Rank → Sorts → Option Sort
unfolding stretched matches_all apply vectors_in computes
fit (rank rep vs ps r) ts = rank_answer vs r (matches_all every_name (patterns rep ps ts) ts empty)
fit (computed f) ts = computes f ts

-- The first rank of an operator that fits; at most one does.
abbrev pub or_next : Option Sort → Option Sort → Option Sort
or_next none o = o
or_next (some s) o = some s

unfoldable pub first_fit : List Rank → Sorts → Option Sort
unfolding fit
first_fit [] ts = none
first_fit (r ∷ rs) ts = or_next (fit r ts) (first_fit rs ts)

-- Some rank of an operator has this count of arguments.
unfoldable pub some_counts : List Rank → Sorts → Bool
unfolding counts
some_counts [] ts = false
some_counts (r ∷ rs) ts = counts r ts || some_counts rs ts
