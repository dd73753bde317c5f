-- The family of each operator, by its number in enum Operator (0 to 134), as the arms of Pool::compute_sort group them.
use Rattle.std.specs.Prelude.{ℕ, cond, ◌&&◌, leb}
use Rattle.infer_rules.specs.declared.Family.{Family}
use Rattle.infer_rules.specs.declared.Family.TheVariants.{Truth, Integer, Decimal, Text, Regular, Vector, OneBit, Bits, Constant, Concat, First, Second, Last, Sum, Element, RareList, Singleton, Tuple, UnitTuple, Transpose, Join, Product}

-- Operators from a first to a last number.
pub data Families : Type 0 where
  done : Families
  range : (first last : ℕ) → Family → Families → Families

unfoldable pub family_in : Families → ℕ → Family
family_in done n = Truth
family_in (range a b f fs) n = cond (leb a n && leb n b) f (family_in fs n)

unfoldable pub families : Families
families =
    -- 0 True, 1 False, 2 Not, 3 Implies, 4 And, 5 Or, 6 Xor, 7 Equals, 8 Distinct
    range 0 8 Truth
    -- 9 Ite
    (range 9 9 Second
    -- 10 Add, 11 Sub, 12 Mult
    (range 10 12 Sum
    -- 13 IntDiv
    (range 13 13 Integer
    -- 14 RealDiv
    (range 14 14 Decimal
    -- 15 Mod
    (range 15 15 Integer
    -- 16 Abs
    (range 16 16 First
    -- 17 LessThan, 18 GreaterThan, 19 LessEq, 20 GreaterEq
    (range 17 20 Truth
    -- 21 ToReal
    (range 21 21 Decimal
    -- 22 ToInt
    (range 22 22 Integer
    -- 23 IsInt
    (range 23 23 Truth
    -- 24 Pow2
    (range 24 24 Integer
    -- 25 IsPow2
    (range 25 25 Truth
    -- 26 Log2
    (range 26 26 Integer
    -- 27 RealPi, 28 Sqrt, 29 Exp, 30 Sin, 31 Cos, 32 Tan, 33 Csc, 34 Sec, 35 Cot, 36 Arcsin, 37 Arccos, 38 Arctan,
    -- 39 Arccsc, 40 Arcsec, 41 Arccot
    (range 27 41 Decimal
    -- 42 Select
    (range 42 42 Element
    -- 43 Store
    (range 43 43 First
    -- 44 StrConcat
    (range 44 44 Text
    -- 45 StrLen
    (range 45 45 Integer
    -- 46 StrLessThan, 47 StrLessEq
    (range 46 47 Truth
    -- 48 CharAt, 49 Substring
    (range 48 49 Text
    -- 50 PrefixOf, 51 SuffixOf, 52 Contains
    (range 50 52 Truth
    -- 53 IndexOf, 54 IndexOfRe
    (range 53 54 Integer
    -- 55 Replace, 56 ReplaceAll, 57 ReplaceRe, 58 ReplaceReAll
    (range 55 58 Text
    -- 59 StrIsDigit
    (range 59 59 Truth
    -- 60 StrToCode
    (range 60 60 Integer
    -- 61 StrFromCode
    (range 61 61 Text
    -- 62 StrToInt
    (range 62 62 Integer
    -- 63 StrFromInt
    (range 63 63 Text
    -- 64 StrToRe
    (range 64 64 Regular
    -- 65 StrInRe
    (range 65 65 Truth
    -- 66 ReNone, 67 ReAll, 68 ReAllChar, 69 ReConcat, 70 ReUnion, 71 ReIntersection, 72 ReKleeneClosure,
    -- 73 ReComplement, 74 ReDiff, 75 ReKleeneCross, 76 ReOption, 77 ReRange, 78 ReFromAutomaton
    (range 66 78 Regular
    -- 79 BvNot, 80 BvNeg, 81 BvAnd, 82 BvOr, 83 BvAdd, 84 BvMul, 85 BvUDiv, 86 BvURem, 87 BvShl, 88 BvLShr
    (range 79 88 Vector
    -- 89 BvULt
    (range 89 89 Truth
    -- 90 BvConcat
    (range 90 90 Concat
    -- 91 BvNAnd, 92 BvNOr, 93 BvXor, 94 BvXNor
    (range 91 94 Vector
    -- 95 BvComp
    (range 95 95 OneBit
    -- 96 BvSub, 97 BvSDiv, 98 BvSRem, 99 BvSMod, 100 BvAShr
    (range 96 100 Vector
    -- 101 BvULe, 102 BvUGt, 103 BvUGe, 104 BvSLt, 105 BvSLe, 106 BvSGt, 107 BvSGe
    (range 101 107 Truth
    -- 108 UBvToInt, 109 SBvToInt
    (range 108 109 Integer
    -- 110 BvPBbTerm, 111 BvBbTerm
    (range 110 111 Bits
    -- 112 BvConst
    (range 112 112 Constant
    -- 113 BvSize
    (range 113 113 Integer
    -- 114 BvIte
    (range 114 114 Second
    -- 115 RareList
    (range 115 115 RareList
    -- 116 Cl, 117 Delete
    (range 116 117 Truth
    -- 118 SetUnion, 119 SetInter, 120 SetMinus
    (range 118 120 First
    -- 121 SetMember, 122 SetSubset
    (range 121 122 Truth
    -- 123 SetSingleton
    (range 123 123 Singleton
    -- 124 SetIsEmpty, 125 SetIsSingleton
    (range 124 125 Truth
    -- 126 SetCard
    (range 126 126 Integer
    -- 127 SetInsert
    (range 127 127 Last
    -- 128 SetComplement
    (range 128 128 First
    -- 129 Tuple
    (range 129 129 Tuple
    -- 130 TupleUnit
    (range 130 130 UnitTuple
    -- 131 RelTranspose
    (range 131 131 Transpose
    -- 132 RelTclosure
    (range 132 132 First
    -- 133 RelJoin
    (range 133 133 Join
    -- 134 RelProduct
    (range 134 134 Product
    done))))))))))))))))))))))))))))))))))))))))))))))))))))))))))

unfoldable pub family_of : ℕ → Family
unfolding family_in families
family_of n = family_in families n
