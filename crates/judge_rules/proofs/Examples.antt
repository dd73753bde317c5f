-- Worked examples, by computation from the definitions: K2 to K11 of document 01 as one table, every term kind, every refusal of a
-- sheet, and tree sizes that are written on it.
use Rattle.std.specs.Prelude.{ℕ, ◌≡◌, refl, List, [], ◌∷◌, ◌++◌, replicate}
use Rattle.record.specs.Sort.{Sort, Sorts, var, par, end, ◌then◌, function, bool, int, real, string, array, bitvec, param_bit_vec, type, set, tuple}
use Rattle.sheet.specs.Sheet.{Lengths, Binding}
use Rattle.row_rules.specs.declared.Cause.TheVariants.{Below, Panics, NoRank, Count, Misfit, Unassigned, Barred, NoAssignment}
use Rattle.row_rules.specs.Verdict.{Verdict, sort, refused}
use Rattle.row_rules.specs.Term.{Term, Terms, term, stop, ◌also◌}
use Rattle.infer_rules.specs.Inferred.{infer}
use Rattle.check_rules.specs.Ranks.{smt_lib}
use Rattle.check_rules.specs.Checked.{check}
use Rattle.judge_rules.specs.Questions.{match_answer, apply_answer}
use Rattle.judge_rules.specs.Judged.{judged, outcome_number, records_after, places_after}

---------------------------------------------------------------- terms by their kinds
abbrev pub integer : ℕ → Term
integer n = term 0 0 n bool stop [] [] stop

abbrev pub decimal : Term
decimal = term 1 0 0 bool stop [] [] stop

abbrev pub text : Term
text = term 2 0 0 bool stop [] [] stop

abbrev pub language : Term
language = term 3 0 0 bool stop [] [] stop

abbrev pub vector : ℕ → Term
vector w = term 4 0 w bool stop [] [] stop

abbrev pub variable : Sort → Term
variable s = term 5 5 0 s stop [] [] stop

abbrev pub app : Terms → Term
app ts = term 6 0 0 bool ts [] [] stop

abbrev pub op : ℕ → Terms → Term
op n ts = term 7 0 n bool ts [] [] stop

abbrev pub binder : ℕ → List Binding → Term → Term
binder n bs t = term 8 0 n bool (t also stop) bs [] stop

abbrev pub letting : Term → Term → Term
letting v t = term 9 0 0 bool (v also t also stop) [] (5 ∷ []) stop

abbrev pub matching : Terms → Term
matching ts = term 10 0 0 bool ts [] [] stop

abbrev pub indexed : ℕ → Terms → Terms → Term
indexed n is ts = term 11 0 n bool ts [] [] is

abbrev pub qualified : ℕ → Sort → Terms → Term
qualified n s ts = term 12 0 n s ts [] [] stop

-- The inferred and the checked verdict of each term, one after the other.
unfoldable pub verdicts : Terms → List Verdict
unfolding infer check smt_lib
verdicts stop = []
verdicts (t also ts) = infer t ∷ check smt_lib t ∷ verdicts ts

---------------------------------------------------------------- document 01's table
-- (-> Int Real Bool)
abbrev pub curried : Term
curried = variable (function (int then real then bool then end))

-- (par (n1) (-> 'n1 'n1 (Set 'n1)))
abbrev pub paired : Term
paired = variable (par (1 ∷ []) (function (var 1 then var 1 then set (var 1) then end)))

-- (par (n1 n2) (-> 'n1 'n2))
abbrev pub opened : Sort
opened = par (1 ∷ 2 ∷ []) (function (var 1 then var 2 then end))

abbrev pub relation : Sorts → Term
relation ss = variable (set (tuple ss))

-- K2 to K10, a line each (K7 has two), then K11.
unfoldable pub k_terms : Terms
k_terms =
    op 83 stop
    also op 90 stop
    also op 83 (vector 8 also variable int also stop)
    also op 115 stop
    also app (curried also integer 1 also stop)
    also app (curried also integer 1 also integer 1 also integer 1 also stop)
    also app (curried also integer 1 also integer 1 also integer 1 also integer 1 also stop)
    also app (paired also integer 1 also decimal also stop)
    also app (variable opened also integer 1 also stop)
    also op 133 (relation end also relation (int then real then end) also stop)
    also stop

pub k_table : (verdicts k_terms
    ≡ sort param_bit_vec ∷ refused Count
    ∷ sort (bitvec 0) ∷ refused Count
    ∷ sort (bitvec 8) ∷ refused Misfit
    ∷ sort (var 0) ∷ refused NoRank
    ∷ sort (function (real then bool then end)) ∷ sort (function (real then bool then end))
    ∷ sort (function end) ∷ refused Count
    ∷ refused Panics ∷ refused Count
    ∷ refused Panics ∷ refused Misfit
    ∷ sort (var 2) ∷ refused Unassigned
    ∷ sort (set (tuple (real then end))) ∷ refused Misfit
    ∷ [])
    × (apply_answer (1 ∷ []) opened (int then end) ≡ sort (par (2 ∷ []) (function (int then var 2 then end))))
unfolding k_terms verdicts apply_answer
k_table = (refl, refl)

---------------------------------------------------------------- the other term kinds and causes
abbrev pub bindings : Sort → List Binding
bindings s = record { name = 1; sort = s } ∷ []

-- Strings and regular languages; a quantifier; Choice over Type; Lambda; Let; Match; Extract; (as const); Not of a refused term.
unfoldable pub kind_terms : Terms
kind_terms =
    op 65 (text also language also stop)
    also binder 0 (bindings int) (op 0 stop)
    also binder 2 (bindings type) (op 0 stop)
    also binder 3 (bindings real) (integer 3)
    also letting (integer 7) text
    also matching (integer 1 also text also stop)
    also indexed 0 (integer 5 also integer 2 also stop) (vector 8 also stop)
    also qualified 0 (array int real) (decimal also stop)
    also op 2 (op 42 stop also stop)
    also stop

pub kind_table : (verdicts kind_terms
    ≡ sort bool ∷ sort bool
    ∷ sort bool ∷ sort bool
    ∷ sort type ∷ refused Barred
    ∷ sort (function (real then int then end)) ∷ sort (function (real then int then end))
    ∷ sort string ∷ sort string
    ∷ sort string ∷ refused NoRank
    ∷ sort (bitvec 4) ∷ sort (bitvec 4)
    ∷ sort (array int real) ∷ sort (array int real)
    ∷ refused Below ∷ refused Below
    ∷ [])
    × (match_answer (1 ∷ []) [] (set (var 1)) int real ≡ refused NoAssignment)
unfolding kind_terms verdicts match_answer
kind_table = (refl, refl)

---------------------------------------------------------------- question 3 (document 02, A.8)
abbrev pub given : ℕ → Sort → Binding
given n s = record { name = n; sort = s }

-- A kept pair, and one that clashes; a given name that the pattern lacks is assigned all the same, and a Par in the result loses it; a given
-- variable is compared as it stands; 28 for a given sort with a listed parameter, a Par or a ParamBitVec, also where nothing would match;
-- Type may be given.
pub given_table :
    match_answer (1 ∷ 2 ∷ []) (given 1 int ∷ []) (array (var 1) (var 2)) (array int real) (tuple (var 2 then var 1 then var 3 then end))
    ∷ match_answer (1 ∷ 2 ∷ []) (given 1 bool ∷ []) (array (var 1) (var 2)) (array int real) (var 2)
    ∷ match_answer (1 ∷ []) (given 1 bool ∷ []) int int (var 1)
    ∷ match_answer (1 ∷ []) (given 1 bool ∷ []) int int (par (1 ∷ 2 ∷ []) (var 1))
    ∷ match_answer (1 ∷ []) (given 1 (var 3) ∷ []) (set (var 1)) (set int) (var 1)
    ∷ match_answer (1 ∷ []) (given 1 (var 3) ∷ []) (set (var 1)) (set (var 3)) (var 1)
    ∷ match_answer (1 ∷ []) (given 1 (var 1) ∷ []) (set (var 1)) int (var 1)
    ∷ match_answer (1 ∷ []) (given 1 (par (2 ∷ []) int) ∷ []) (set (var 1)) int (var 1)
    ∷ match_answer (1 ∷ []) (given 1 (set param_bit_vec) ∷ []) (set (var 1)) int (var 1)
    ∷ match_answer (1 ∷ []) (given 1 type ∷ []) (set (var 1)) (set type) (var 1)
    ∷ []
    ≡ sort (tuple (real then int then var 3 then end))
    ∷ refused NoAssignment
    ∷ sort bool
    ∷ sort (par (2 ∷ []) bool)
    ∷ refused NoAssignment
    ∷ sort (var 3)
    ∷ refused Barred
    ∷ refused Barred
    ∷ refused Barred
    ∷ sort type
    ∷ []
unfolding match_answer
given_table = refl

---------------------------------------------------------------- refused sheets
-- Buffers as the program lends them, with fewer places or rows.
abbrev pub lent : ℕ → ℕ → Lengths
lent p r = record { records = 65536; places = p; rows = r; answers = 1024 }

abbrev pub outcome_of : List ℕ → Lengths → ℕ
outcome_of s l = outcome_number (judged s l)

-- An Array of the sort before it, twice, doubles the tree.
abbrev pub doubling : ℕ → List ℕ → List ℕ
doubling k s = 17 ∷ 8 ∷ 2 ∷ k ∷ 0 ∷ k ∷ 0 ∷ s

-- 1: five bytes. 2: 2,049 sorts. 3: a record is missing. 4: a bit map without bit 1. 5: a width of 65,536. 6: a Set of itself.
-- 7: a byte behind the last record. 8: one row lent for one term. 9: Int doubled twelve times, a tree of 8,191. 10: no place lent.
pub refusal_table :
    outcome_of (0 ∷ 0 ∷ 0 ∷ 0 ∷ 0 ∷ []) (lent 4096 8192)
    ∷ outcome_of (1 ∷ 8 ∷ 0 ∷ 0 ∷ 0 ∷ 0 ∷ []) (lent 4096 8192)
    ∷ outcome_of (1 ∷ 0 ∷ 0 ∷ 0 ∷ 0 ∷ 0 ∷ []) (lent 4096 8192)
    ∷ outcome_of (1 ∷ 0 ∷ 0 ∷ 0 ∷ 0 ∷ 0 ∷ 2 ∷ []) (lent 4096 8192)
    ∷ outcome_of (1 ∷ 0 ∷ 0 ∷ 0 ∷ 0 ∷ 0 ∷ 5 ∷ 9 ∷ 0 ∷ 0 ∷ 1 ∷ 0 ∷ []) (lent 4096 8192)
    ∷ outcome_of (1 ∷ 0 ∷ 0 ∷ 0 ∷ 0 ∷ 0 ∷ 17 ∷ 14 ∷ 1 ∷ 0 ∷ 0 ∷ []) (lent 4096 8192)
    ∷ outcome_of (0 ∷ 0 ∷ 0 ∷ 0 ∷ 0 ∷ 0 ∷ 9 ∷ []) (lent 4096 8192)
    ∷ outcome_of (0 ∷ 0 ∷ 1 ∷ 0 ∷ 0 ∷ 0 ∷ []) (lent 4096 1)
    ∷ outcome_of (13 ∷ 0 ∷ 0 ∷ 0 ∷ 0 ∷ 0 ∷ 1 ∷ 4 ∷ doubling 0 (doubling 1 (doubling 2 (doubling 3 (doubling 4 (doubling 5
    (doubling 6 (doubling 7 (doubling 8 (doubling 9 (doubling 10 (doubling 11 [])))))))))))) (lent 4096 8192)
    ∷ outcome_of (1 ∷ 0 ∷ 0 ∷ 0 ∷ 0 ∷ 0 ∷ 1 ∷ 4 ∷ []) (lent 0 8192)
    ∷ []
    ≡ 1 ∷ 2 ∷ 3 ∷ 4 ∷ 5 ∷ 6 ∷ 7 ∷ 8 ∷ 9 ∷ 10 ∷ []
unfolding judged
refusal_table = refl

---------------------------------------------------------------- written tree sizes (document 02, A.6)
-- 34: Int with the size 2, though no place is lent, and though the record behind it has no bit 1; the Set of it with the size 1. 9: a
-- tree of 8,191 with the size 1. 10: Int with its size 1, and no place. 3: a size cut short. 4: bit 128 on a term, and on a question.
pub size_table :
    outcome_of (1 ∷ 0 ∷ 0 ∷ 0 ∷ 0 ∷ 0 ∷ 129 ∷ 4 ∷ 2 ∷ 0 ∷ []) (lent 0 8192)
    ∷ outcome_of (2 ∷ 0 ∷ 0 ∷ 0 ∷ 0 ∷ 0 ∷ 129 ∷ 4 ∷ 2 ∷ 0 ∷ 2 ∷ []) (lent 4096 8192)
    ∷ outcome_of (2 ∷ 0 ∷ 0 ∷ 0 ∷ 0 ∷ 0 ∷ 1 ∷ 4 ∷ 145 ∷ 14 ∷ 1 ∷ 0 ∷ 0 ∷ 1 ∷ 0 ∷ []) (lent 4096 8192)
    ∷ outcome_of (13 ∷ 0 ∷ 0 ∷ 0 ∷ 0 ∷ 0 ∷ 1 ∷ 4 ∷ doubling 0 (doubling 1 (doubling 2 (doubling 3 (doubling 4 (doubling 5
    (doubling 6 (doubling 7 (doubling 8 (doubling 9 (doubling 10 (145 ∷ 8 ∷ 2 ∷ 11 ∷ 0 ∷ 11 ∷ 0 ∷ 1 ∷ 0 ∷ [])))))))))))) (lent 4096 8192)
    ∷ outcome_of (1 ∷ 0 ∷ 0 ∷ 0 ∷ 0 ∷ 0 ∷ 129 ∷ 4 ∷ 1 ∷ 0 ∷ []) (lent 0 8192)
    ∷ outcome_of (1 ∷ 0 ∷ 0 ∷ 0 ∷ 0 ∷ 0 ∷ 129 ∷ 4 ∷ 1 ∷ []) (lent 4096 8192)
    ∷ outcome_of (0 ∷ 0 ∷ 1 ∷ 0 ∷ 0 ∷ 0 ∷ 129 ∷ 1 ∷ 1 ∷ 0 ∷ []) (lent 4096 8192)
    ∷ outcome_of (1 ∷ 0 ∷ 0 ∷ 0 ∷ 1 ∷ 0 ∷ 1 ∷ 4 ∷ 145 ∷ 0 ∷ 2 ∷ 0 ∷ 0 ∷ 0 ∷ 0 ∷ 1 ∷ 0 ∷ []) (lent 4096 8192)
    ∷ []
    ≡ 34 ∷ 34 ∷ 34 ∷ 9 ∷ 10 ∷ 3 ∷ 4 ∷ 4 ∷ []
unfolding judged
size_table = refl

-- The lent records and places after a sheet without terms and questions, given its sort records.
abbrev pub stored : ℕ → ℕ → ℕ → List ℕ → List ℕ
stored sorts records places s =
    let l : Lengths = record { records = records; places = places; rows = 0; answers = 0 } in
    let j = judged (sorts ∷ 0 ∷ 0 ∷ 0 ∷ 0 ∷ 0 ∷ s) l in
    records_after l j ++ places_after l j

-- Int twice and the Set of the second, the size written on the first, on the others, on none: one store of two sorts.
pub mixed_table :
    stored 3 12 3 (129 ∷ 4 ∷ 1 ∷ 0 ∷ 1 ∷ 4 ∷ 17 ∷ 14 ∷ 1 ∷ 1 ∷ 0 ∷ [])
    ∷ stored 3 12 3 (1 ∷ 4 ∷ 129 ∷ 4 ∷ 1 ∷ 0 ∷ 145 ∷ 14 ∷ 1 ∷ 1 ∷ 0 ∷ 2 ∷ 0 ∷ [])
    ∷ stored 3 12 3 (1 ∷ 4 ∷ 1 ∷ 4 ∷ 17 ∷ 14 ∷ 1 ∷ 1 ∷ 0 ∷ [])
    ∷ []
    ≡ (129 ∷ 4 ∷ 1 ∷ 0 ∷ 145 ∷ 14 ∷ 1 ∷ 0 ∷ 0 ∷ 2 ∷ 0 ∷ 0 ∷ 0 ∷ 4 ∷ 0 ∷ [])
    ∷ (129 ∷ 4 ∷ 1 ∷ 0 ∷ 145 ∷ 14 ∷ 1 ∷ 0 ∷ 0 ∷ 2 ∷ 0 ∷ 0 ∷ 0 ∷ 4 ∷ 0 ∷ [])
    ∷ (129 ∷ 4 ∷ 1 ∷ 0 ∷ 145 ∷ 14 ∷ 1 ∷ 0 ∷ 0 ∷ 2 ∷ 0 ∷ 0 ∷ 0 ∷ 4 ∷ 0 ∷ [])
    ∷ []
unfolding judged records_after places_after
mixed_table = refl

-- (par (n1 n2) Int), with the size 2 behind its names, or without: it takes 12 bytes; in one byte less it is 10, and all is zero.
pub par_table :
    stored 2 16 2 (129 ∷ 4 ∷ 1 ∷ 0 ∷ 209 ∷ 12 ∷ 1 ∷ 0 ∷ 0 ∷ 2 ∷ 1 ∷ 0 ∷ 2 ∷ 0 ∷ 2 ∷ 0 ∷ [])
    ∷ stored 2 16 2 (1 ∷ 4 ∷ 81 ∷ 12 ∷ 1 ∷ 0 ∷ 0 ∷ 2 ∷ 1 ∷ 0 ∷ 2 ∷ 0 ∷ [])
    ∷ stored 2 15 2 (1 ∷ 4 ∷ 81 ∷ 12 ∷ 1 ∷ 0 ∷ 0 ∷ 2 ∷ 1 ∷ 0 ∷ 2 ∷ 0 ∷ [])
    ∷ []
    ≡ (129 ∷ 4 ∷ 1 ∷ 0 ∷ 209 ∷ 12 ∷ 1 ∷ 0 ∷ 0 ∷ 2 ∷ 1 ∷ 0 ∷ 2 ∷ 0 ∷ 2 ∷ 0 ∷ 0 ∷ 4 ∷ [])
    ∷ (129 ∷ 4 ∷ 1 ∷ 0 ∷ 209 ∷ 12 ∷ 1 ∷ 0 ∷ 0 ∷ 2 ∷ 1 ∷ 0 ∷ 2 ∷ 0 ∷ 2 ∷ 0 ∷ 0 ∷ 4 ∷ [])
    ∷ replicate 17 0
    ∷ []
unfolding judged records_after places_after
par_table = refl
