-- Records read by the definitions, computed: the order of refusals where two of them apply, and records that are accepted.
use Rattle.std.specs.Prelude.{◌≡◌, refl, [], ◌∷◌, replicate, Some, None, Err}
use Rattle.record.specs.declared.kinds.SortKind.TheVariants.{Int, Par}
use Rattle.record.specs.declared.kinds.TermKind.TheVariants.{Op, Let}
use Rattle.record.specs.declared.kinds.QuestionKind.TheVariants.{Compatible, Continue}
use Rattle.reader.specs.declared.Refusal.TheVariants.{PastEnd, Map, Value, Reference}
use Rattle.reader.specs.Reader.{got, span, read_sort, read_term, read_question}

-- 4 without the bit of the kind, though no kind byte is there; with it the kind byte is missed first, also beside bit 128
no-bit : read_sort (0 ∷ []) 0 0 ≡ Err Map
unfolding read_sort
no-bit = refl

no_kind : read_sort (129 ∷ []) 0 0 ≡ Err PastEnd
unfolding read_sort
no_kind = refl

-- Bool with a name: the map is exactly the kind's; a kind that is none, 4 before its other fields are missed
bool-named : read_sort (3 ∷ 3 ∷ 1 ∷ 0 ∷ []) 0 0 ≡ Err Map
unfolding read_sort
bool-named = refl

kind-16 : read_sort (17 ∷ 16 ∷ []) 0 0 ≡ Err Map
unfolding read_sort
kind-16 = refl

-- a Function of 65 sorts: 3 where a byte of the list is missing, else 5
long-cut : read_sort (17 ∷ 0 ∷ 65 ∷ replicate 129 0) 1 0 ≡ Err PastEnd
unfolding read_sort
long-cut = refl

long-whole : read_sort (17 ∷ 0 ∷ 65 ∷ replicate 130 0) 1 0 ≡ Err Value
unfolding read_sort
long-whole = refl

-- an Array of one sort that is not there: 5 before 6; a Par of itself: 6, before its missing names are 3
array-one : read_sort (17 ∷ 8 ∷ 1 ∷ 9 ∷ 0 ∷ []) 1 0 ≡ Err Value
unfolding read_sort
array-one = refl

par-itself : read_sort (81 ∷ 12 ∷ 1 ∷ 3 ∷ 0 ∷ []) 3 0 ≡ Err Reference
unfolding read_sort
par-itself = refl

-- document 02, A.6: Int without its size, and with it behind the kind; one byte of the size is there, or none: 3
int-plain : read_sort (1 ∷ 4 ∷ []) 0 0 ≡ got (record { fields = record { kind = Int; name = 0; number = 0; parts = span 2 0; names = span 2 0 }; size = None }) 2
unfolding read_sort
int-plain = refl

int-sized : read_sort (129 ∷ 4 ∷ 1 ∷ 0 ∷ []) 0 0 ≡ got (record { fields = record { kind = Int; name = 0; number = 0; parts = span 2 0; names = span 2 0 }; size = Some 1 }) 4
unfolding read_sort
int-sized = refl

int_cut : read_sort (129 ∷ 4 ∷ 1 ∷ []) 0 0 ≡ Err PastEnd
unfolding read_sort
int_cut = refl

int-bare : read_sort (129 ∷ 4 ∷ []) 0 0 ≡ Err PastEnd
unfolding read_sort
int-bare = refl

-- the size of a Par stands behind its names: (par (7) Int), 2; the names are judged before a missing size is
par-sized : read_sort (209 ∷ 12 ∷ 1 ∷ 0 ∷ 0 ∷ 1 ∷ 7 ∷ 0 ∷ 2 ∷ 0 ∷ []) 1 0
    ≡ got (record { fields = record { kind = Par; name = 0; number = 0; parts = span 3 1; names = span 6 1 }; size = Some 2 }) 10
unfolding read_sort
par-sized = refl

par-twice : read_sort (209 ∷ 12 ∷ 1 ∷ 0 ∷ 0 ∷ 2 ∷ 7 ∷ 0 ∷ 7 ∷ 0 ∷ []) 1 0 ≡ Err Value
unfolding read_sort
par-twice = refl

-- a wrong size is read like any other: whether it is the sort's is asked later, 34
int-wrong : read_sort (129 ∷ 4 ∷ 255 ∷ 255 ∷ []) 0 0
    ≡ got (record { fields = record { kind = Int; name = 0; number = 0; parts = span 2 0; names = span 2 0 }; size = Some 65535 }) 4
unfolding read_sort
int-wrong = refl

-- beside bit 128 the map is still exactly the kind's, 4; a term or a question with bit 128: 4
bool-sized : read_sort (131 ∷ 3 ∷ 1 ∷ 0 ∷ 1 ∷ 0 ∷ []) 0 0 ≡ Err Map
unfolding read_sort
bool-sized = refl

real-sized : read_term (129 ∷ 1 ∷ 1 ∷ 0 ∷ []) 0 0 0 ≡ Err Map
unfolding read_term
real-sized = refl

equal-sized : read_question (145 ∷ 0 ∷ 2 ∷ 0 ∷ 0 ∷ 0 ∷ 0 ∷ 1 ∷ 0 ∷ []) 1 0 ≡ Err Map
unfolding read_question
equal-sized = refl

-- AsOp 3 with nothing behind its number: 5; a Let whose first list is empty: 5, before the second is missed
as-op-3 : read_term (29 ∷ 12 ∷ 3 ∷ 0 ∷ 0 ∷ 0 ∷ []) 1 0 0 ≡ Err Value
unfolding read_term
as-op-3 = refl

let-none : read_term (81 ∷ 9 ∷ 0 ∷ []) 1 0 0 ≡ Err Value
unfolding read_term
let-none = refl

-- 65 pairs, a byte short: 3
pairs-cut : read_term (53 ∷ 8 ∷ 0 ∷ 0 ∷ 0 ∷ 0 ∷ 1 ∷ 0 ∷ 0 ∷ 65 ∷ replicate 259 0) 1 1 0 ≡ Err PastEnd
unfolding read_term
pairs-cut = refl

-- accepted: K1's second term and its question, and a Let whose name is 65,535
k1-term : read_term (21 ∷ 7 ∷ 10 ∷ 0 ∷ 0 ∷ 0 ∷ 2 ∷ 0 ∷ 0 ∷ 0 ∷ 0 ∷ []) 1 1 0
    ≡ got (record { kind = Op; name = 0; number = 10; sort = 0; list = span 7 2; pairs = span 11 0; second = span 11 0 }) 11
unfolding read_term
k1-term = refl

k1-question : read_question (17 ∷ 0 ∷ 2 ∷ 0 ∷ 0 ∷ 0 ∷ 0 ∷ []) 1 0 ≡ got (record { kind = Compatible; list = span 3 2; pairs = span 7 0; names = span 7 0 }) 7
unfolding read_question
k1-question = refl

let-name : read_term (81 ∷ 9 ∷ 2 ∷ 0 ∷ 0 ∷ 0 ∷ 0 ∷ 1 ∷ 255 ∷ 255 ∷ []) 0 1 0
    ≡ got (record { kind = Let; name = 0; number = 0; sort = 0; list = span 3 2; pairs = span 7 0; second = span 8 1 }) 10
unfolding read_term
let-name = refl

-- apply with a name twice: 5
apply-twice : read_question (81 ∷ 2 ∷ 3 ∷ 0 ∷ 0 ∷ 0 ∷ 0 ∷ 0 ∷ 0 ∷ 2 ∷ 4 ∷ 0 ∷ 4 ∷ 0 ∷ []) 1 0 ≡ Err Value
unfolding read_question
apply-twice = refl

-- document 02, A.8: a question that continues, sort 0 given for the one parameter 4, and one with nothing given and no parameters
continue-one : read_question (113 ∷ 3 ∷ 3 ∷ 0 ∷ 0 ∷ 0 ∷ 0 ∷ 0 ∷ 0 ∷ 1 ∷ 4 ∷ 0 ∷ 0 ∷ 0 ∷ 1 ∷ 4 ∷ 0 ∷ []) 1 0
    ≡ got (record { kind = Continue; list = span 3 3; pairs = span 10 1; names = span 15 1 }) 17
unfolding read_question
continue-one = refl

continue-none : read_question (113 ∷ 3 ∷ 3 ∷ 0 ∷ 0 ∷ 0 ∷ 0 ∷ 0 ∷ 0 ∷ 0 ∷ 0 ∷ []) 1 0
    ≡ got (record { kind = Continue; list = span 3 3; pairs = span 10 0; names = span 11 0 }) 11
unfolding read_question
continue-none = refl

-- two sorts: 5; a given sort that is not there: 6, before its name is no parameter
continue-two : read_question (113 ∷ 3 ∷ 2 ∷ 0 ∷ 0 ∷ 0 ∷ 0 ∷ 0 ∷ 0 ∷ []) 1 0 ≡ Err Value
unfolding read_question
continue-two = refl

given-missing : read_question (113 ∷ 3 ∷ 3 ∷ 0 ∷ 0 ∷ 0 ∷ 0 ∷ 0 ∷ 0 ∷ 1 ∷ 4 ∷ 0 ∷ 1 ∷ 0 ∷ 0 ∷ []) 1 0 ≡ Err Reference
unfolding read_question
given-missing = refl

-- a given name that is no parameter, or that is given twice: 5, after the parameters are all there, 3
given-other : read_question (113 ∷ 3 ∷ 3 ∷ 0 ∷ 0 ∷ 0 ∷ 0 ∷ 0 ∷ 0 ∷ 1 ∷ 4 ∷ 0 ∷ 0 ∷ 0 ∷ 1 ∷ 5 ∷ 0 ∷ []) 1 0 ≡ Err Value
unfolding read_question
given-other = refl

given-twice : read_question (113 ∷ 3 ∷ 3 ∷ 0 ∷ 0 ∷ 0 ∷ 0 ∷ 0 ∷ 0 ∷ 2 ∷ 4 ∷ 0 ∷ 0 ∷ 0 ∷ 4 ∷ 0 ∷ 0 ∷ 0 ∷ 1 ∷ 4 ∷ 0 ∷ []) 1 0 ≡ Err Value
unfolding read_question
given-twice = refl

given-cut : read_question (113 ∷ 3 ∷ 3 ∷ 0 ∷ 0 ∷ 0 ∷ 0 ∷ 0 ∷ 0 ∷ 2 ∷ 4 ∷ 0 ∷ 0 ∷ 0 ∷ 4 ∷ 0 ∷ 0 ∷ 0 ∷ 1 ∷ 4 ∷ []) 1 0 ≡ Err PastEnd
unfolding read_question
given-cut = refl
