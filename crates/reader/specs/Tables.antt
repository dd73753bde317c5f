-- The bit maps and limits of term and question records, by kind (document 01, "Term records" and "Questions"; document 02, A.8).
-- Those of sort records stand in the crate record.
use Rattle.std.specs.Prelude.{ℕ, ◌-◌, cond, List, [], ◌∷◌, get_or, eqb}

-- Term kinds: 0 integer [5], 1 real [1], 2 string [1], 3 RegLan constant [1], 4 bit-vector constant [5], 5 Var [11],
-- 6 App [17], 7 Op [21], 8 Binder [53], 9 Let [81], 10 Match [17], 11 ParamOp [85], 12 AsOp [29].
unfoldable pub term_maps : List ℕ
term_maps = 5 ∷ 1 ∷ 1 ∷ 1 ∷ 5 ∷ 11 ∷ 17 ∷ 21 ∷ 53 ∷ 81 ∷ 17 ∷ 85 ∷ 29 ∷ []

unfoldable pub term_map_of : ℕ → ℕ
unfolding term_maps
term_map_of k = get_or term_maps k 0

-- The greatest number: an integer constant takes every u32; a bit-vector constant has a width of 0 to 65,535; Op 0 to
-- 134; Binder 0 to 3; ParamOp 0 to 11; AsOp 0 to 2.
unfoldable pub term_numbers : List ℕ
term_numbers = 4294967295 ∷ 0 ∷ 0 ∷ 0 ∷ 65535 ∷ 0 ∷ 0 ∷ 134 ∷ 3 ∷ 0 ∷ 0 ∷ 11 ∷ 2 ∷ []

unfoldable pub term_number_of : ℕ → ℕ
unfolding term_numbers
term_number_of k = get_or term_numbers k 0

-- How many terms the list has, at least and at most: App its head, Binder its body, Let its inner term, Match its subject.
unfoldable pub term_leasts : List ℕ
term_leasts = 0 ∷ 0 ∷ 0 ∷ 0 ∷ 0 ∷ 0 ∷ 1 ∷ 0 ∷ 1 ∷ 1 ∷ 1 ∷ 0 ∷ 0 ∷ []

unfoldable pub term_mosts : List ℕ
term_mosts = 0 ∷ 0 ∷ 0 ∷ 0 ∷ 0 ∷ 0 ∷ 64 ∷ 64 ∷ 1 ∷ 64 ∷ 64 ∷ 64 ∷ 64 ∷ []

unfoldable pub term_least_of : ℕ → ℕ
unfolding term_leasts
term_least_of k = get_or term_leasts k 0

unfoldable pub term_most_of : ℕ → ℕ
unfolding term_mosts
term_most_of k = get_or term_mosts k 0

-- The length of the second list, beside a list of n: a Let (9) has "one a value", so n - 1 names; a ParamOp (11) any
-- number of index terms.
unfoldable pub second_least_of : ℕ → ℕ → ℕ
second_least_of k n = cond (eqb k 9) (n - 1) 0

unfoldable pub second_most_of : ℕ → ℕ → ℕ
second_most_of k n = cond (eqb k 9) (n - 1) 64

-- Question kinds: 0 compatible [17, two sorts], 1 match [81: pattern, target, result; names], 2 apply [81: sort, then
-- one image per name], 3 continue [113: pattern, target, result; pairs of given name and sort; names].
unfoldable pub question_maps : List ℕ
question_maps = 17 ∷ 81 ∷ 81 ∷ 113 ∷ []

unfoldable pub question_map_of : ℕ → ℕ
unfolding question_maps
question_map_of k = get_or question_maps k 0

unfoldable pub question_leasts : List ℕ
question_leasts = 2 ∷ 3 ∷ 1 ∷ 3 ∷ []

unfoldable pub question_mosts : List ℕ
question_mosts = 2 ∷ 3 ∷ 64 ∷ 3 ∷ []

unfoldable pub question_least_of : ℕ → ℕ
unfolding question_leasts
question_least_of k = get_or question_leasts k 0

unfoldable pub question_most_of : ℕ → ℕ
unfolding question_mosts
question_most_of k = get_or question_mosts k 0

-- How many names stand beside a list of n sorts.
unfoldable pub names_least_of : ℕ → ℕ → ℕ
names_least_of k n = cond (eqb k 2) (n - 1) 0

unfoldable pub names_most_of : ℕ → ℕ → ℕ
names_most_of k n = cond (eqb k 2) (n - 1) 64
