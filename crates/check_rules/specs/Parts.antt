-- WHAT A SORT MAY HOLD, said of its parts and free of any test: document 01's refusal 28, "a Var's, binding's, AsOp's or constant's
-- sort holds Type, ParamBitVec, BitVec 0, or Par elsewhere than allowed". Definitions only; PartTheorems proves that the tests
-- `proper`, `carried` and `value` hold exactly of the sorts that are so.
use Rattle.std.specs.Prelude.{ℕ, ◌≡◌, List, ◌∷◌}
use Rattle.record.specs.Sort.{Sort, Sorts, par, node, ◌then◌, kind_of, number_in}

-- A sort stands in a list.
pub data In (s : Sort) : Sorts → Type 0 where
  first : {ss : Sorts} → In s (s then ss)
  later : {r : Sort} {ss : Sorts} → In s ss → In s (r then ss)

-- A sort is part of itself; a part of a Par's body, or of a sort in the list, is part of the whole.
pub data PartOf (r : Sort) : Sort → Type 0 where
  whole : PartOf r r
  in_body : {ns : List ℕ} {b : Sort} → PartOf r b → PartOf r (par ns b)
  in_list : {k a w : ℕ} {s : Sort} {ss : Sorts} → In s ss → PartOf r s → PartOf r (node k a w ss)

-- Type, ParamBitVec, BitVec 0, or a Par.
pub data Bars (r : Sort) : Type 0 where
  a_type : kind_of r ≡ 13 → Bars r
  unknown_width : kind_of r ≡ 10 → Bars r
  zero_width : kind_of r ≡ 9 → number_in r ≡ 0 → Bars r
  a_par : (ns : List ℕ) (b : Sort) → r ≡ par ns b → Bars r

-- A binding's, AsOp's or constant's sort: no part of it is one of these.
abbrev pub Proper : Sort → Type 0
Proper s = (r : Sort) → PartOf r s → Bars r → ⊥

-- "A Par sort may stand only outermost in a Var's sort, over a Function": with one name or more, as every Par of a sheet.
pub data OutermostPar : Sort → Sort → Type 0 where
  outermost : {n : ℕ} {ns : List ℕ} {b : Sort} → kind_of b ≡ 0 → OutermostPar (par (n ∷ ns) b) (par (n ∷ ns) b)

-- A Var's sort: no part of it is one of these, but for a Par outermost over a Function.
abbrev pub Carried : Sort → Type 0
Carried s = (r : Sort) → PartOf r s → Bars r → OutermostPar r s

-- "Such a Var as a value, a body or an argument other than an App's head gets 26": a value is no Par.
abbrev pub Value : Sort → Type 0
Value s = (ns : List ℕ) (b : Sort) → s ≡ par ns b → ⊥

-- The same of every sort in a list.
abbrev pub EachProper : Sorts → Type 0
EachProper ss = (s : Sort) → In s ss → Proper s

abbrev pub EachValue : Sorts → Type 0
EachValue ss = (s : Sort) → In s ss → Value s
