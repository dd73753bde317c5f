-- That a store can be read with a table of images has one proof at most, so that a ghost field can hold it.
use Rattle.std.specs.Prelude.{ℕ, List}
use denote.Struct.Props.{props}
use Rattle.store.specs.Props.{Stored-prop, Sized-prop, Running-prop}
use Rattle.apply_walk.specs.Contract.{ReadStore}

pub ReadStore-prop : (b p : List ℕ) (n u : ℕ) (l : List ℕ) → IsProp (ReadStore b p n u l)
ReadStore-prop b p n u l = hlevel (props, Stored-prop, Sized-prop, Running-prop)
