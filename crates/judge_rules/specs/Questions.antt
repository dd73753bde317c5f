-- The questions: 0 compatible, 1 match, 2 apply (document 01), 3 match from given pairs (document 02, A.8), with the causes in the
-- order 28, 29, 22, 23.
use Rattle.std.specs.Prelude.{ℕ, Bool, true, false, cond, ◌&&◌, List, [], ◌∷◌, ◌++◌, eqb}
use Rattle.std.proofs.Math.Option.{Option, none, some}
use Rattle.record.specs.Sort.{Sort, Sorts, end, ◌then◌}
use Rattle.record.specs.Record.{leaf}
use Rattle.sheet.specs.Sheet.{Lengths, Binding, QuestionFields}
use Rattle.substitution.specs.Substitution.{Map, empty, bind, apply}
use Rattle.substitution.specs.Matching.{matches, listed_in, known, unlisted, premise}
use Rattle.substitution.specs.Compatible.{compatible}
use Rattle.row_rules.specs.declared.Cause.TheVariants.{Barred, NoAssignment}
use Rattle.row_rules.specs.Verdict.{Verdict, sort, refused, need}
use Rattle.row_rules.specs.Outcome.{CodedStore, outcome}

-- The sort at a place of a question's list.
abbrev pub first_sort : Sorts → Sort
first_sort end = leaf
first_sort (s then ss) = s

abbrev pub rest_sorts : Sorts → Sorts
rest_sorts end = end
rest_sorts (s then ss) = ss

-- 0: "compatible [17, two sorts]: 1 or 0"; nothing is added.
abbrev pub yes_no : Bool → ℕ
yes_no true = 1
yes_no false = 0

-- 3: "question 1 with pairs of given name and sort, each name among the parameters and given once": the reader tests the names
-- (`rightly_given`). The pairs as a map; matching continues from it.
unfoldable pub given_map : List Binding → Map
given_map [] = empty
given_map (g ∷ gs) = bind g.name g.sort (given_map gs)

-- "A given sort outside the target's premise as 28": each is without Par, ParamBitVec and listed parameters.
unfoldable pub given_premise : List ℕ → List Binding → Bool
unfolding known unlisted
given_premise ns [] = true
given_premise ns (g ∷ gs) = known g.sort && unlisted ns g.sort && given_premise ns gs

-- 1 and 3: "the result, of any form, after Substitution by the assignment, unassigned names kept"; 28 outside matching's premise, 29
-- without an assignment. The assignment of question 3 keeps the given pairs, and a given name that the pattern lacks is assigned all the same.
abbrev pub assigned : Sort → Option Map → Verdict
assigned r none = refused NoAssignment
assigned r (some m) = sort (apply m r)

unfoldable pub match_answer : List ℕ → List Binding → Sort → Sort → Sort → Verdict
unfolding premise given_premise given_map matches apply
match_answer ns gs p t r = need (premise ns p t && given_premise ns gs) Barred (assigned r (matches (listed_in ns) p t (given_map gs)))

-- 2: "apply [81: sort, then one image per name]".
unfoldable pub images_given : List ℕ → Sorts → Map
images_given [] ss = empty
images_given (n ∷ ns) end = empty
images_given (n ∷ ns) (s then ss) = bind n s (images_given ns ss)

unfoldable pub apply_answer : List ℕ → Sort → Sorts → Verdict
unfolding apply images_given
apply_answer ns s images = sort (apply (images_given ns images) s)

-- "list (pattern, target, result)": the first three sorts of a question.
abbrev pub pattern_of : QuestionFields → Sort
pattern_of q = first_sort q.sorts

abbrev pub target_of : QuestionFields → Sort
target_of q = first_sort (rest_sorts q.sorts)

abbrev pub result_of : QuestionFields → Sort
result_of q = first_sort (rest_sorts (rest_sorts q.sorts))

unfoldable pub match_verdict : QuestionFields → List Binding → Verdict
unfolding match_answer
match_verdict q gs = match_answer q.names gs (pattern_of q) (target_of q) (result_of q)

-- The verdict of a question of another kind than 0; question 1 is question 3 without pairs.
unfoldable pub answer_verdict : QuestionFields → Verdict
unfolding match_verdict apply_answer
answer_verdict q =
    cond (eqb q.kind 1) (match_verdict q [])
    (cond (eqb q.kind 3) (match_verdict q q.pairs)
    (apply_answer q.names (first_sort q.sorts) (rest_sorts q.sorts)))

-- THE ANSWER TO A QUESTION over a store.
unfoldable pub answer_of : Lengths → QuestionFields → List Sort → CodedStore
unfolding compatible answer_verdict outcome
answer_of l q st =
    cond (eqb q.kind 0)
    (record { store = st; code = yes_no (compatible (first_sort q.sorts) (first_sort (rest_sorts q.sorts))) })
    (outcome l st (answer_verdict q))

-- The store and the answers after some questions.
pub record AnswersSoFar : Type 0 where
  pub store : List Sort
  pub answers : List ℕ

abbrev pub answer_added : List ℕ → CodedStore → AnswersSoFar
answer_added as' o = record { store = o.store; answers = as' ++ (o.code ∷ []) }

abbrev pub one_answer : Lengths → QuestionFields → AnswersSoFar → AnswersSoFar
one_answer l q a = answer_added a.answers (answer_of l q a.store)

-- THE ANSWERS TO A SHEET'S QUESTIONS (the latest first), in order, from the store after all rows.
unfoldable pub answers_of : Lengths → List Sort → List QuestionFields → AnswersSoFar
unfolding answer_of
answers_of l st [] = record { store = st; answers = [] }
answers_of l st (q ∷ qs) = one_answer l q (answers_of l st qs)
