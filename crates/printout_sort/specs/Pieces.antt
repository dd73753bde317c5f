-- The text of a sort in four pieces: a word, a name, number or names, the parts, and a closing bracket; and the tables
-- of words and brackets.
use Rattle.std.specs.Prelude.{ℕ, zero, suc, cond, List, [], ◌∷◌, ◌++◌, get_or, eqb}
use Rattle.printout_sort.specs.Text.{ascii, decimal, name_text, names_text}

-- The forms of a text: the sixteen kinds, and 16 for an Atom without parts, which has no brackets.
unfoldable pub form_of : ℕ → ℕ → ℕ
form_of k m = cond (eqb k 1) (cond (eqb m 0) 16 1) k

-- What each form starts with.
unfoldable pub words : List (List ℕ)
words =
    ascii "(->" ∷ ascii "(" ∷ ascii "'" ∷ ascii "Bool" ∷ ascii "Int" ∷ ascii "Real" ∷ ascii "String" ∷ ascii "RegLan"
    ∷ ascii "(Array" ∷ ascii "(_ BitVec " ∷ ascii "(_ BitVec ?)" ∷ ascii "[" ∷ ascii "(par (" ∷ ascii "Type" ∷ ascii "(Set"
    ∷ ascii "(Tuple" ∷ [] ∷ []

unfoldable pub word_text : ℕ → List ℕ
unfolding words
word_text f = get_or words f []

-- The bracket that closes each form, 0 for none.
unfoldable pub closes : List ℕ
closes = 41 ∷ 41 ∷ 0 ∷ 0 ∷ 0 ∷ 0 ∷ 0 ∷ 0 ∷ 41 ∷ 41 ∷ 0 ∷ 93 ∷ 41 ∷ 0 ∷ 41 ∷ 41 ∷ 0 ∷ []

abbrev pub bracket : ℕ → List ℕ
bracket zero = []
bracket (suc c) = suc c ∷ []

unfoldable pub close_text : ℕ → List ℕ
unfolding closes
close_text f = bracket (get_or closes f 0)

-- How many bytes the word and the bracket of each form have.
unfoldable pub frames : List ℕ
frames = 4 ∷ 2 ∷ 1 ∷ 4 ∷ 3 ∷ 4 ∷ 6 ∷ 6 ∷ 7 ∷ 11 ∷ 12 ∷ 2 ∷ 7 ∷ 4 ∷ 5 ∷ 7 ∷ 0 ∷ []

-- What stands between the word and the parts of each form: 0 nothing, 1 its name, 2 its number, 3 its names and a bracket.
unfoldable pub inners : List ℕ
inners = 0 ∷ 1 ∷ 1 ∷ 0 ∷ 0 ∷ 0 ∷ 0 ∷ 0 ∷ 0 ∷ 2 ∷ 0 ∷ 1 ∷ 3 ∷ 0 ∷ 0 ∷ 0 ∷ 1 ∷ []

unfoldable pub inner_by : ℕ → ℕ → ℕ → List ℕ → List ℕ
unfolding decimal name_text names_text
inner_by zero a w ns = []
inner_by (suc zero) a w ns = name_text a
inner_by (suc (suc zero)) a w ns = decimal w
inner_by (suc (suc (suc zero))) a w ns = names_text ns ++ ascii ")"
inner_by (suc (suc (suc (suc i)))) a w ns = []

unfoldable pub inner_text : ℕ → ℕ → ℕ → List ℕ → List ℕ
unfolding inners inner_by
inner_text f a w ns = inner_by (get_or inners f 0) a w ns

-- The pieces put together.
unfoldable pub pieces_text : ℕ → ℕ → ℕ → List ℕ → List ℕ → List ℕ
unfolding word_text inner_text close_text
pieces_text f a w ns ts = word_text f ++ (inner_text f a w ns ++ (ts ++ close_text f))
