-- The ranks of the checked row: SMT-LIB 2.7's Core, Ints, Reals, Reals_Ints, ArraysEx, FixedSizeBitVectors and Strings, by the
-- number of the operator in enum Operator, and what document 02 adds to them: Int and Real mixed (A.1), sets and relations (A.2).
-- Where editions differ, document 01's lines under "The rows" decide. 24 to 41, 54, 78 and 110 to 117 have no rank.
use Rattle.std.specs.Prelude.{ℕ, true, false, cond, ◌&&◌, List, [], ◌∷◌, leb, ◌++◌}
use Rattle.record.specs.Sort.{Sort, Sorts, var, end, ◌then◌, bool, int, real, string, reglan, array, bitvec, set, tuple}
use Rattle.check_rules.specs.Forms.{concat, mixed, insert, tupling, transpose, join, product}
use Rattle.check_rules.specs.Rank.{Rank, rank, computed}

-- The ranks of the operators from a first to a last number; in an enlarged row, those of document 01 and then later ones.
pub data RankTable : Type 0 where
  done : RankTable
  row : (first last : ℕ) → List Rank → RankTable → RankTable
  enlarged : (first last : ℕ) → (ranks later : List Rank) → RankTable → RankTable

unfoldable pub ranks_in : RankTable → ℕ → List Rank
ranks_in done n = []
ranks_in (row a b rs t) n = cond (leb a n && leb n b) rs (ranks_in t n)
ranks_in (enlarged a b rs qs t) n = cond (leb a n && leb n b) (rs ++ qs) (ranks_in t n)

-- Without the later ones.
unfoldable pub first_in : RankTable → ℕ → List Rank
first_in done n = []
first_in (row a b rs t) n = cond (leb a n && leb n b) rs (first_in t n)
first_in (enlarged a b rs qs t) n = cond (leb a n && leb n b) rs (first_in t n)

-- The parameters of a rank.
abbrev pub x : Sort
x = var 0

abbrev pub y : Sort
y = var 1

abbrev pub one : Sort → Sorts
one a = a then end

abbrev pub two : Sort → Sorts
two a = a then a then end

-- One rank, with exactly these arguments.
abbrev pub one_rank : Sorts → Sort → List Rank
one_rank ps r = rank false false ps r ∷ []

-- One rank whose last argument may repeat: associative, chainable and pairwise symbols take two or more.
abbrev pub more : Sorts → Sort → List Rank
more ps r = rank true false ps r ∷ []

-- One rank over vectors of one width.
abbrev pub vectors : Sorts → Sort → List Rank
vectors ps r = rank false true ps r ∷ []

-- Two ranks: all Int or all Real.
abbrev pub numbers : (Sort → Sorts) → (Sort → Sort) → List Rank
numbers f g = rank true false (f int) (g int) ∷ rank true false (f real) (g real) ∷ []

-- A rank of Int and Real mixed.
abbrev pub mixture : Sort → List Rank
mixture r = computed (mixed r) ∷ []

unfoldable pub standard : RankTable
standard =
    -- 0 True, 1 False
    row 0 1 (one_rank end bool)
    -- 2 Not
    (row 2 2 (one_rank (one bool) bool)
    -- 3 Implies, 4 And, 5 Or, 6 Xor
    (row 3 6 (more (two bool) bool)
    -- 7 Equals, 8 Distinct
    (row 7 8 (more (two x) bool)
    -- 9 Ite
    (row 9 9 (one_rank (bool then x then x then end) x)
    -- 10 Add; "with Int and Real mixed: Real for the sums, Bool for the orders"
    (enlarged 10 10 (numbers two (λ a. a)) (mixture real)
    -- 11 Sub: "Sub takes one or more"
    (enlarged 11 11 (numbers one (λ a. a)) (mixture real)
    -- 12 Mult
    (enlarged 12 12 (numbers two (λ a. a)) (mixture real)
    -- 13 IntDiv
    (row 13 13 (more (two int) int)
    -- 14 RealDiv: "Int and Real in any mixture, all Int too, and gives Real"
    (enlarged 14 14 (more (two real) real) (rank true false (two int) real ∷ mixture real)
    -- 15 Mod
    (row 15 15 (one_rank (two int) int)
    -- 16 Abs
    (row 16 16 (one_rank (one int) int)
    -- 17 LessThan, 18 GreaterThan, 19 LessEq, 20 GreaterEq
    (enlarged 17 20 (numbers two (λ a. bool)) (mixture bool)
    -- 21 ToReal
    (row 21 21 (one_rank (one int) real)
    -- 22 ToInt
    (row 22 22 (one_rank (one real) int)
    -- 23 IsInt
    (row 23 23 (one_rank (one real) bool)
    -- 42 Select
    (row 42 42 (one_rank (array x y then x then end) y)
    -- 43 Store
    (row 43 43 (one_rank (array x y then x then y then end) (array x y))
    -- 44 StrConcat
    (row 44 44 (more (two string) string)
    -- 45 StrLen
    (row 45 45 (one_rank (one string) int)
    -- 46 StrLessThan, 47 StrLessEq
    (row 46 47 (more (two string) bool)
    -- 48 CharAt
    (row 48 48 (one_rank (string then int then end) string)
    -- 49 Substring
    (row 49 49 (one_rank (string then int then int then end) string)
    -- 50 PrefixOf, 51 SuffixOf, 52 Contains
    (row 50 52 (one_rank (two string) bool)
    -- 53 IndexOf
    (row 53 53 (one_rank (string then string then int then end) int)
    -- 55 Replace, 56 ReplaceAll
    (row 55 56 (one_rank (string then string then string then end) string)
    -- 57 ReplaceRe, 58 ReplaceReAll
    (row 57 58 (one_rank (string then reglan then string then end) string)
    -- 59 StrIsDigit
    (row 59 59 (one_rank (one string) bool)
    -- 60 StrToCode
    (row 60 60 (one_rank (one string) int)
    -- 61 StrFromCode
    (row 61 61 (one_rank (one int) string)
    -- 62 StrToInt
    (row 62 62 (one_rank (one string) int)
    -- 63 StrFromInt
    (row 63 63 (one_rank (one int) string)
    -- 64 StrToRe
    (row 64 64 (one_rank (one string) reglan)
    -- 65 StrInRe
    (row 65 65 (one_rank (string then reglan then end) bool)
    -- 66 ReNone, 67 ReAll, 68 ReAllChar
    (row 66 68 (one_rank end reglan)
    -- 69 ReConcat, 70 ReUnion, 71 ReIntersection
    (row 69 71 (more (two reglan) reglan)
    -- 72 ReKleeneClosure, 73 ReComplement
    (row 72 73 (one_rank (one reglan) reglan)
    -- 74 ReDiff
    (row 74 74 (more (two reglan) reglan)
    -- 75 ReKleeneCross, 76 ReOption
    (row 75 76 (one_rank (one reglan) reglan)
    -- 77 ReRange
    (row 77 77 (one_rank (two string) reglan)
    -- 79 BvNot, 80 BvNeg
    (row 79 80 (vectors (one x) x)
    -- 81 BvAnd, 82 BvOr, 83 BvAdd, 84 BvMul: "two or more"
    (row 81 84 (rank true true (two x) x ∷ [])
    -- 85 BvUDiv, 86 BvURem, 87 BvShl, 88 BvLShr: "other two-place vector operators .. two"
    (row 85 88 (vectors (two x) x)
    -- 89 BvULt
    (row 89 89 (vectors (two x) bool)
    -- 90 BvConcat
    (row 90 90 (computed concat ∷ [])
    -- 91 BvNAnd, 92 BvNOr, 93 BvXor, 94 BvXNor
    (row 91 94 (vectors (two x) x)
    -- 95 BvComp
    (row 95 95 (vectors (two x) (bitvec 1))
    -- 96 BvSub, 97 BvSDiv, 98 BvSRem, 99 BvSMod, 100 BvAShr
    (row 96 100 (vectors (two x) x)
    -- 101 BvULe, 102 BvUGt, 103 BvUGe, 104 BvSLt, 105 BvSLe, 106 BvSGt, 107 BvSGe
    (row 101 107 (vectors (two x) bool)
    -- 108 UBvToInt, 109 SBvToInt
    (row 108 109 (vectors (one x) int)
    -- 118 SetUnion, 119 SetInter, 120 SetMinus: "Union, intersection and difference take two equal sets"
    (enlarged 118 120 [] (one_rank (two (set x)) (set x))
    -- 121 SetMember: "an element and its set"
    (enlarged 121 121 [] (one_rank (x then set x then end) bool)
    -- 122 SetSubset: "two equal sets"
    (enlarged 122 122 [] (one_rank (two (set x)) bool)
    -- 123 SetSingleton
    (enlarged 123 123 [] (one_rank (one x) (set x))
    -- 124 SetIsEmpty, 125 SetIsSingleton: "the two tests Bool"
    (enlarged 124 125 [] (one_rank (one (set x)) bool)
    -- 126 SetCard
    (enlarged 126 126 [] (one_rank (one (set x)) int)
    -- 127 SetInsert
    (enlarged 127 127 [] (computed insert ∷ [])
    -- 128 SetComplement
    (enlarged 128 128 [] (one_rank (one (set x)) (set x))
    -- 129 Tuple
    (enlarged 129 129 [] (computed tupling ∷ [])
    -- 130 TupleUnit
    (enlarged 130 130 [] (one_rank end (tuple end))
    -- 131 RelTranspose
    (enlarged 131 131 [] (computed transpose ∷ [])
    -- 132 RelTclosure: "a set of pairs of one sort"
    (enlarged 132 132 [] (one_rank (one (set (tuple (two x)))) (set (tuple (two x))))
    -- 133 RelJoin
    (enlarged 133 133 [] (computed join ∷ [])
    -- 134 RelProduct
    (enlarged 134 134 [] (computed product ∷ [])
    done)))))))))))))))))))))))))))))))))))))))))))))))))))))))))))))))

-- The ranks of an operator.
unfoldable pub smt_lib : ℕ → List Rank
unfolding ranks_in standard
smt_lib n = ranks_in standard n

-- The ranks of document 01 alone. SetEmpty and SetUniverse are no operators: their rule, A.2's, is the same over either table.
unfoldable pub document01 : ℕ → List Rank
unfolding first_in standard
document01 n = first_in standard n
