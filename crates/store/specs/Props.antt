-- That a store is well formed has one proof at most, so that a ghost field can hold it.
use Rattle.std.specs.Prelude.{ℕ, ◌+◌, List, [], ◌∷◌}
use Rattle.std.specs.Coded.{×_prop, Unit-prop}
use denote.Struct.Props.{props}
use Rattle.record.specs.Decode.{Stands, Stored, Distinct, Sized, Running}
use Rattle.store.specs.Good.{Good}
use Rattle.store.specs.Usable.{Usable}

Stands-prop : (s b : List ℕ) (x : ℕ) → IsProp (Stands s b x)
unfolding Stands
Stands-prop [] b x = Unit-prop
Stands-prop (a ∷ s) b x = ×_prop (hlevel props) (Stands-prop s b (x + 1))

pub Stored-prop : (b p : List ℕ) (n : ℕ) → IsProp (Stored b p n)
Stored-prop b p n = hlevel (props, Stands-prop)

pub Sized-prop : (b p : List ℕ) (n : ℕ) → IsProp (Sized b p n)
Sized-prop b p n = hlevel (props, Stands-prop)

Distinct-prop : (b p : List ℕ) (n : ℕ) → IsProp (Distinct b p n)
unfolding Distinct
Distinct-prop b p n = hlevel props

pub Running-prop : (b p : List ℕ) (n : ℕ) → IsProp (Running b p n)
unfolding Running
Running-prop b p n = hlevel props

pub Usable-prop : (b p : List ℕ) (n : ℕ) → IsProp (Usable b p n)
Usable-prop b p n = hlevel (props, Stored-prop, Distinct-prop)

pub Good-prop : (b p ix : List ℕ) (n u : ℕ) → IsProp (Good b p ix n u)
Good-prop b p ix n u = hlevel (props, Stored-prop, Distinct-prop, Sized-prop, Running-prop)
