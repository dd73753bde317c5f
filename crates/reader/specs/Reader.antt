-- Reading one record field by field, with document 01's order of refusals: "map byte 3, bit 1 missing 4, kind byte 3,
-- other 4; per field, all its bytes, 3, 5, 6". A field whose bit does not stand is 0 or empty and takes no bytes.
use Rattle.std.specs.Prelude.{◌≡◌, ℕ, zero, suc, ◌+◌, ◌*◌, ◌%◌, Bool, true, false, cond, ◌&&◌, ◌||◌, List, [], ◌∷◌, length, get_or, leb, ltb, eqb, Option, Some, None, Result, Ok, Err}
use Rattle.record.specs.Number.{u16_at, u32_at, numbers_at}
use Rattle.record.specs.Names.{all_members, distinct}
use Rattle.record.specs.Record.{bit, map_of, least_of, most_of}
use Rattle.record.specs.Kinds.{sort_number, sort_kind, term_number, term_kind, question_number, question_kind}
use Rattle.record.specs.declared.kinds.SortKind.{SortKind}
use Rattle.record.specs.declared.kinds.TermKind.{TermKind}
use Rattle.record.specs.declared.kinds.QuestionKind.{QuestionKind}
use Rattle.record.specs.declared.kinds.UnknownKind.{UnknownKind}
use Rattle.record.specs.declared.span.Span.{Span}
use Rattle.reader.specs.Tables.{term_map_of, term_number_of, term_least_of, term_most_of, second_least_of, second_most_of, question_map_of, question_least_of, question_most_of, names_least_of, names_most_of}
use Rattle.reader.specs.declared.Refusal.{Refusal}
use Rattle.reader.specs.declared.Refusal.TheVariants.{Length, Header, PastEnd, Map, Value, Reference, Trailing, Lent, TreeSize, WrittenSize, Store}
use Rattle.reader.specs.declared.Cursor.{Cursor}
use Rattle.reader.specs.declared.Head.{Head}
use Rattle.reader.specs.declared.SheetSort.{SheetSort}
use Rattle.reader.specs.declared.TermRecord.{TermRecord}
use Rattle.reader.specs.declared.QuestionRecord.{QuestionRecord}

-- The documents' numbers of the causes for which a sheet is refused; 34 is of document 02, A.6.
abbrev pub refusal_number : Refusal → ℕ
refusal_number Length = 1
refusal_number Header = 2
refusal_number PastEnd = 3
refusal_number Map = 4
refusal_number Value = 5
refusal_number Reference = 6
refusal_number Trailing = 7
refusal_number Lent = 8
refusal_number TreeSize = 9
refusal_number WrittenSize = 34
refusal_number Store = 10

-- What the conversions give: the number of a refusal, and the refusal of an unknown kind.
abbrev pub Numbered : Refusal → ℕ → Type 0
Numbered r n = n ≡ refusal_number r

abbrev pub RefusedForMap : UnknownKind → Refusal → Type 0
RefusedForMap u e = e ≡ Map

-- What was read and the place behind it, or the refusal.
abbrev pub Read : Type 0 → Type 0
Read A = Result (A × Cursor) Refusal

-- What follows where a test holds, and the refusal where it does not.
abbrev pub demand : {A : Type 0} → Bool → A → A → A
demand true fail go = go
demand false fail go = fail

-- The steps of a chain of fields: a refusal ends it, else the value and the next place go on; and a chain goes on with the kind
-- that a number has, and ends at one that is none's.
abbrev pub then_read : {A B : Type 0} → Read A → (A → ℕ → Result B Refusal) → Result B Refusal
then_read (Ok r) go = go r.0 r.1.at
then_read (Err e) go = Err e

abbrev pub of_kind : {K B : Type 0} → Option K → (K → Result B Refusal) → Result B Refusal
of_kind (Some k) go = go k
of_kind None go = Err Map

abbrev pub place : ℕ → Cursor
place x = record { at = x }

-- A value and the cursor, or the place, behind it.
abbrev pub gave : {A : Type 0} → A → Cursor → Read A
gave v c = Ok (v, c)

abbrev pub got : {A : Type 0} → A → ℕ → Read A
got v x = gave v (place x)

abbrev pub span : ℕ → ℕ → Span
span x n = record { at = x; count = n }

-- The place n bytes further on: all of them are there, or 3.
abbrev pub skipped : List ℕ → ℕ → ℕ → Result Cursor Refusal
skipped s n x = demand (leb (x + n) (length s)) (Err PastEnd) (Ok (place (x + n)))

-- Numbers: all their bytes, or 3.
unfoldable pub read_byte : List ℕ → ℕ → Read ℕ
read_byte s x = demand (leb (x + 1) (length s)) (Err PastEnd) (got (get_or s x 0) (x + 1))

unfoldable pub read_u16 : List ℕ → ℕ → Read ℕ
unfolding u16_at
read_u16 s x = demand (leb (x + 2) (length s)) (Err PastEnd) (got (u16_at s x) (x + 2))

unfoldable pub read_u32 : List ℕ → ℕ → Read ℕ
unfolding u32_at
read_u32 s x = demand (leb (x + 4) (length s)) (Err PastEnd) (got (u32_at s x) (x + 4))

-- "A record starts with a one-byte bit map": the map byte, 3; bit 1, 4; the kind byte, 3.
unfoldable pub read_head : List ℕ → ℕ → Read Head
unfolding read_byte bit
read_head s x =
    then_read (read_byte s x) (λ m x1.
    demand (bit 1 m) (Err Map)
    (then_read (read_byte s x1) (λ k x2.
    got (record { map = m; kind = k }) x2)))

-- Bit 2: the name, a u16.
unfoldable pub read_name : List ℕ → ℕ → ℕ → Read ℕ
unfolding read_u16 bit
read_name s m x = cond (bit 2 m) (read_u16 s x) (got 0 x)

-- Bit 4: the number, a u32 of at most `most`, 5.
unfoldable pub read_number : List ℕ → ℕ → ℕ → ℕ → Read ℕ
unfolding read_u32 bit
read_number s m most x =
    cond (bit 4 m)
    (then_read (read_u32 s x) (λ v y. demand (leb v most) (Err Value) (got v y)))
    (got 0 x)

-- Bit 8: the sort, a u16 that names one of the `sorts` sorts of the sheet, 6.
unfoldable pub read_own : List ℕ → ℕ → ℕ → ℕ → Read ℕ
unfolding read_u16 bit
read_own s m sorts x =
    cond (bit 8 m)
    (then_read (read_u16 s x) (λ v y. demand (ltb v sorts) (Err Reference) (got v y)))
    (got 0 x)

-- A list: all its bytes, 3; then its length, 5.
unfoldable pub read_list : List ℕ → ℕ → ℕ → ℕ → Read Span
unfolding read_byte
read_list s least most x =
    then_read (read_byte s x) (λ n y.
    demand (leb (y + 2 * n) (length s)) (Err PastEnd)
    (demand (leb least n) (Err Value)
    (demand (leb n most) (Err Value)
    (got (span y n) (y + 2 * n)))))

-- References: each below the number of records that it may name.
unfoldable pub all_below : ℕ → List ℕ → Bool
all_below i [] = true
all_below i (v ∷ vs) = ltb v i && all_below i vs

-- Bit 16: a list of references below `limit`, 6.
unfoldable pub read_references : List ℕ → ℕ → ℕ → ℕ → ℕ → ℕ → Read Span
unfolding read_list bit all_below numbers_at
read_references s m least most limit x =
    cond (bit 16 m)
    (then_read (read_list s least most x) (λ l y.
    demand (all_below limit (numbers_at s l.at l.count)) (Err Reference) (got l y)))
    (got (span x 0) x)

-- Bit 64 of a sort or a question: a list of distinct names, 5.
unfoldable pub read_names : List ℕ → ℕ → ℕ → ℕ → ℕ → Read Span
unfolding read_list bit distinct numbers_at
read_names s m least most x =
    cond (bit 64 m)
    (then_read (read_list s least most x) (λ l y.
    demand (distinct (numbers_at s l.at l.count)) (Err Value) (got l y)))
    (got (span x 0) x)

-- Bit 64 of a term of kind k with a list of n: the names of a Let (9), which may be any, or the index terms of a ParamOp, 6.
unfoldable pub read_second : List ℕ → ℕ → ℕ → ℕ → ℕ → ℕ → Read Span
unfolding read_list bit all_below numbers_at second_least_of second_most_of
read_second s m k n limit x =
    cond (bit 64 m)
    (then_read (read_list s (second_least_of k n) (second_most_of k n) x) (λ l y.
    demand (eqb k 9 || all_below limit (numbers_at s l.at l.count)) (Err Reference) (got l y)))
    (got (span x 0) x)

-- The names and the sorts of n pairs from x on.
unfoldable pub pair_names_at : List ℕ → ℕ → ℕ → List ℕ
unfolding u16_at
pair_names_at s x zero = []
pair_names_at s x (suc n) = u16_at s x ∷ pair_names_at s (x + 4) n

unfoldable pub pair_sorts_at : List ℕ → ℕ → ℕ → List ℕ
unfolding u16_at
pair_sorts_at s x zero = []
pair_sorts_at s x (suc n) = u16_at s (x + 2) ∷ pair_sorts_at s (x + 4) n

-- Names given with sorts beside parameters (document 02, A.8): "each name among the parameters and given once".
unfoldable pub rightly_given : List ℕ → List ℕ → Bool
unfolding all_members distinct
rightly_given vs ns = all_members vs ns && distinct vs

-- Bit 32: pairs of name and sort: all their bytes, 3; at most 64, 5; each sort one of the sheet's, 6.
unfoldable pub read_pairs : List ℕ → ℕ → ℕ → ℕ → Read Span
unfolding read_byte bit all_below pair_sorts_at
read_pairs s m sorts x =
    cond (bit 32 m)
    (then_read (read_byte s x) (λ n y.
    demand (leb (y + 4 * n) (length s)) (Err PastEnd)
    (demand (leb n 64) (Err Value)
    (demand (all_below sorts (pair_sorts_at s y n)) (Err Reference)
    (got (span y n) (y + 4 * n))))))
    (got (span x 0) x)

-- Bit 128 of a sort record (document 02, A.6): the tree size that it says, a u16, last among its fields.
unfoldable pub read_size : List ℕ → ℕ → ℕ → Read (Option ℕ)
unfolding read_u16 bit
read_size s m x = cond (bit 128 m) (then_read (read_u16 s x) (λ v y. got (Some v) y)) (got None x)

-- THE SORT RECORD with the number i at x; it may name the i sorts before it. Bit 128 "may stand on a sort record or not": the
-- other bits of its map are its kind's.
unfoldable pub read_sort_fields : List ℕ → ℕ → SortKind → ℕ → ℕ → Read SheetSort
unfolding read_name read_number read_references read_names read_size least_of most_of
read_sort_fields s m k i x =
    then_read (read_name s m x) (λ a x3.
    then_read (read_number s m 65535 x3) (λ w x4.
    then_read (read_references s m (least_of (sort_number k)) (most_of (sort_number k)) i x4) (λ l x5.
    then_read (read_names s m 1 64 x5) (λ ns x6.
    then_read (read_size s m x6) (λ z x7.
    got (record { fields = record { kind = k; name = a; number = w; parts = l; names = ns }; size = z }) x7)))))

unfoldable pub read_sort : List ℕ → ℕ → ℕ → Read SheetSort
unfolding read_head read_sort_fields map_of
read_sort s i x =
    then_read (read_head s x) (λ h y.
    of_kind (sort_kind h.kind) (λ k.
    demand (eqb (h.map % 128) (map_of (sort_number k))) (Err Map) (read_sort_fields s h.map k i y)))

-- THE TERM RECORD with the number t at x, on a sheet of `sorts` sorts; it may name the t terms before it.
unfoldable pub read_term_fields : List ℕ → ℕ → TermKind → ℕ → ℕ → ℕ → Read TermRecord
unfolding read_name read_number read_own read_references read_pairs read_second term_number_of term_least_of term_most_of
read_term_fields s m k sorts t x =
    then_read (read_name s m x) (λ a x3.
    then_read (read_number s m (term_number_of (term_number k)) x3) (λ w x4.
    then_read (read_own s m sorts x4) (λ o x5.
    then_read (read_references s m (term_least_of (term_number k)) (term_most_of (term_number k)) t x5) (λ l x6.
    then_read (read_pairs s m sorts x6) (λ ps x7.
    then_read (read_second s m (term_number k) l.count t x7) (λ r x8.
    got (record { kind = k; name = a; number = w; sort = o; list = l; pairs = ps; second = r }) x8))))))

unfoldable pub read_term : List ℕ → ℕ → ℕ → ℕ → Read TermRecord
unfolding read_head read_term_fields term_map_of
read_term s sorts t x =
    then_read (read_head s x) (λ h y.
    of_kind (term_kind h.kind) (λ k.
    demand (eqb h.map (term_map_of (term_number k))) (Err Map) (read_term_fields s h.map k sorts t y)))

-- THE QUESTION RECORD at x; "questions may name every sort". A given name that is no parameter or is given twice "counts as 5 where
-- the parameters are read".
unfoldable pub read_question_fields : List ℕ → ℕ → QuestionKind → ℕ → ℕ → Read QuestionRecord
unfolding read_references read_pairs read_names rightly_given pair_names_at numbers_at question_least_of question_most_of names_least_of names_most_of
read_question_fields s m k sorts x =
    then_read (read_references s m (question_least_of (question_number k)) (question_most_of (question_number k)) sorts x) (λ l x4.
    then_read (read_pairs s m sorts x4) (λ ps x5.
    then_read (read_names s m (names_least_of (question_number k) l.count) (names_most_of (question_number k) l.count) x5) (λ ns x6.
    demand (rightly_given (pair_names_at s ps.at ps.count) (numbers_at s ns.at ns.count)) (Err Value)
    (got (record { kind = k; list = l; pairs = ps; names = ns }) x6))))

unfoldable pub read_question : List ℕ → ℕ → ℕ → Read QuestionRecord
unfolding read_head read_question_fields question_map_of
read_question s sorts x =
    then_read (read_head s x) (λ h y.
    of_kind (question_kind h.kind) (λ k.
    demand (eqb h.map (question_map_of (question_number k))) (Err Map) (read_question_fields s h.map k sorts y)))
