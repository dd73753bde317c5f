-- Lists of sorts, as both verdicts take them apart.
use Rattle.std.specs.Prelude.{List, [], ◌∷◌}
use Rattle.record.specs.Sort.{Sort, Sorts, end, ◌then◌, function}
use Rattle.sheet.specs.Sheet.{Binding}

-- As many entries of a Function's list as there are arguments.
unfoldable pub firsts : Sorts → Sorts → Sorts
firsts ss end = end
firsts end (t then ts) = end
firsts (s then ss) (t then ts) = s then firsts ss ts

-- The entries behind those.
unfoldable pub others : Sorts → Sorts → Sorts
others ss end = ss
others end (t then ts) = end
others (s then ss) (t then ts) = others ss ts

-- What a Function's list leaves: its last entry by itself, or a Function of what remains.
abbrev pub remaining : Sorts → Sort
remaining end = function end
remaining (s then end) = s
remaining (s then (r then rs)) = function (s then r then rs)

-- The last of one or more sorts.
unfoldable pub last_of : Sort → Sorts → Sort
last_of s end = s
last_of s (r then rs) = last_of r rs

-- A sort behind the others.
unfoldable pub joined : Sorts → Sort → Sorts
joined end b = b then end
joined (s then ss) b = s then joined ss b

-- One list behind another.
unfoldable pub appended : Sorts → Sorts → Sorts
appended end ts = ts
appended (s then ss) ts = s then appended ss ts

-- A list without its last entry.
unfoldable pub all_but_last : Sorts → Sorts
all_but_last end = end
all_but_last (s then end) = end
all_but_last (s then (r then rs)) = s then all_but_last (r then rs)

-- The sorts of bindings.
unfoldable pub binding_sorts : List Binding → Sorts
binding_sorts [] = end
binding_sorts (b ∷ bs) = b.sort then binding_sorts bs
