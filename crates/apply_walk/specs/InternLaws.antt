-- Laws of sorts that are interned: a wrapper after its body, and the numbers of sorts that the store has.
use Rattle.std.specs.Prelude.{ℕ, ◌<◌, ◌≡◌, true, List, [], ◌∷◌, length, get_or}
use Rattle.record.specs.Sort.{Sort, Sorts, par}
use Rattle.record.specs.Record.{sorts_of}
use Rattle.record.specs.Store.{intern, indices_of}
use Rattle.record.specs.Back.{sorts-back as references-back, indices-below as references-below}
use Rattle.record.specs.SortLists.{memb_all, Ordered, index-found, memb-intern, ordered-intern, intern-known}
use Rattle.substitution.specs.Substitution.{under}
use Rattle.apply_walk.specs.Made.{intern-first}

-- Interning a wrapper that may go after its body is interning it.
pub intern-under : (ns : List ℕ) (b : Sort) (st : List Sort) → Ordered st → intern (under ns b) (intern b st) ≡ intern (under ns b) st
unfolding intern
intern-under [] b st o = intern-known b (intern b st) (ordered-intern b st o) (memb-intern b st)
intern-under (n ∷ ns) b st o = intern-first (par (n ∷ ns) b) st o

-- Numbers of sorts that are there stand for them.
pub sorts-back : (ps : Sorts) (st : List Sort) → memb_all ps st ≡ true → sorts_of st (indices_of ps st) ≡ ps
sorts-back ps st m = references-back st ps m

pub indices-below : (ps : Sorts) (st : List Sort) → memb_all ps st ≡ true → (j : ℕ) → j < length (indices_of ps st) → get_or (indices_of ps st) j 0 < length st
indices-below ps st m = references-below st st (length st) (λ s h. (index-found st s h).0) ps m
