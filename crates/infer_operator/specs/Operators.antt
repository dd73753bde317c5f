-- The operators by groups of families: those that make sets, tuples and relations, those that look at arguments, and all.
use Rattle.std.specs.Prelude.{ℕ, ◌≡◌, Bool, true, false, List, []}
use Rattle.std.proofs.Math.Option.{Option}
use Rattle.infer_rules.specs.declared.Family.{Family}
use Rattle.infer_rules.specs.declared.Family.TheVariants.{Truth, Integer, Decimal, Text, Regular, Vector, OneBit, Bits, Constant, Concat, First, Second, Last, Sum, Element, RareList, Singleton, Tuple, UnitTuple, Transpose, Join, Product}
use Rattle.infer_rules.specs.Inferred.{operated_by}
use Rattle.record.specs.Sort.{Sorts, node, end, bitvec, count}
use Rattle.record.specs.Record.{map_of}
use Rattle.record.specs.Kinds.{sort_number}
use Rattle.record.specs.declared.span.Span.{Span}
use Rattle.store.specs.declared.Store.{Store}
use Rattle.row_rules.specs.Verdict.{sort}
use Rattle.row_answer.specs.declared.arguments.Args.{Args}
use Rattle.row_answer.specs.Arguments.{ConstantsAsk}
use Rattle.infer_operator.specs.declared.family.Plain.{Plain}
use Rattle.infer_operator.specs.declared.family.Plain.TheVariants.{Kind, Width, Written, Other}
use Rattle.infer_operator.specs.Asks.{ArgumentsAsk}

-- All but one family, Constant, look at no constants.
abbrev pub no_constants : List (Option ℕ)
no_constants = []

abbrev pub makes : Family → Bool
makes Truth = false
makes Integer = false
makes Decimal = false
makes Text = false
makes Regular = false
makes Vector = false
makes OneBit = false
makes Bits = false
makes Constant = false
makes Concat = false
makes First = false
makes Second = false
makes Last = false
makes Sum = false
makes Element = false
makes RareList = false
makes Singleton = true
makes Tuple = true
makes UnitTuple = true
makes Transpose = true
makes Join = true
makes Product = true

abbrev pub looks : Family → Bool
looks Truth = false
looks Integer = false
looks Decimal = false
looks Text = false
looks Regular = false
looks Vector = true
looks OneBit = false
looks Bits = false
looks Constant = false
looks Concat = true
looks First = true
looks Second = true
looks Last = true
looks Sum = true
looks Element = true
looks RareList = true
looks Singleton = true
looks Tuple = true
looks UnitTuple = true
looks Transpose = true
looks Join = true
looks Product = true

-- What a family of operators with m arguments answers, by what is said of it without their sorts.
abbrev pub PlainFamilyIs : Family → ℕ → Plain → Type 0
PlainFamilyIs f m (Kind k) =
    (map_of (sort_number k) ≡ 1) × ((ss : Sorts) (cs : List (Option ℕ)) → operated_by f ss cs ≡ sort (node (sort_number k) 0 0 end))
PlainFamilyIs f m (Width w) = (ss : Sorts) (cs : List (Option ℕ)) → count ss ≡ m → operated_by f ss cs ≡ sort (bitvec w)
PlainFamilyIs f m Written = f ≡ Constant
PlainFamilyIs f m Other = looks f ≡ true

-- Arguments, and a family of the group.
pub record MadeAsks (s : Store) (f : Family) (a : Args) : Type 0 where
  pub args : ArgumentsAsk s a
  pub made : makes f ≡ true

pub record LookedAsks (s : Store) (f : Family) (a : Args) : Type 0 where
  pub args : ArgumentsAsk s a
  pub look : looks f ≡ true

-- Arguments, and the terms that the sheet names in the list.
pub record InferOperatorAsks (s : Store) (sheet starts : List ℕ) (list : Span) (a : Args) : Type 0 where
  pub args : ArgumentsAsk s a
  pub terms : ConstantsAsk sheet starts list.at list.count
