-- "A SHEET WITHOUT THE BIT PRINTS AS BEFORE WHEREVER BOTH STORES HAD SPACE" (document 02, A.6), of the judgement: the two are equal.
use Rattle.std.specs.Prelude.{ℕ, zero, suc, ◌*◌, ◌/◌, ◌%◌, ◌≤◌, ◌<◌, ◌≡◌, refl, Bool, true, false, ◌&&◌, List, [], ◌∷◌, length, get_or, leb, ltb, eqb, Option, Some, None, Ok, Err}
use Rattle.std.proofs.Common.{sym, ap, subst, ◌∙◌, arith, leb-true, le-leb, ltb-true}
use Rattle.std.proofs.lemmas.Bool.{eqb-false}
use Rattle.record.specs.Sort.{Sort, var, par, node, size}
use Rattle.record.specs.Record.{bit, map_of, least_of, most_of, sort_of}
use Rattle.record.specs.Store.{record_size, bytes_of, add_once, room}
use Rattle.record.specs.Codec.{Bytes}
use Rattle.record.specs.Cases.{and_left, and_right, and-true}
use Rattle.record.specs.Kinds.{sort_number, sort_kind}
use Rattle.record.specs.declared.SortRecord.{SortRecord}
use Rattle.record.specs.declared.kinds.SortKind.{SortKind}
use Rattle.reader.specs.Reader.{Read, demand, then_read, of_kind, gave, read_head, read_name, read_number, read_references, read_names, read_size, read_sort_fields, read_sort}
use Rattle.reader.specs.Was.{head-was}
use Rattle.reader.specs.declared.Cursor.{Cursor}
use Rattle.reader.specs.declared.Refusal.TheVariants.{Map, TreeSize}
use Rattle.reader.specs.declared.SheetSort.{SheetSort}
use Rattle.sheet.specs.Sheet.{Lengths, SortsRead, got, sort_fields, sort_added, sort_read, read_sorts, sort_count}
use Rattle.row_rules.specs.Meaning.{all_of}
use Rattle.check_rules.specs.Rank.{Rank}
use Rattle.check_rules.specs.Ranks.{smt_lib}
use Rattle.judge_rules.specs.Judged.{judged_by, judged, outcome_number, rows_after}
use Rattle.judge_rules.specs.AnyRoom.{room_in, had_space, space_read}
use Rattle.judge_rules.proofs.AnyRoomLaws.{judged_with-is, demand-same, read_same, room-same, more_room}
use Rattle.judge_rules.specs.Before.{size_before, bytes_before, room_before, fields_before, sort_before, added_before, read_before, sorts_before, judged_before, was_judged, Unsized}

---------------------------------------------------------------- what had room before
-- No record takes fewer bytes now than before, so what has room now had room.
size-before : (s : Sort) → size_before s ≤ record_size s
unfolding size_before record_size
size-before (var v) = omega arith
size-before (par ns b) = omega arith
size-before (node k a w ss) = omega arith

bytes-before : (st : List Sort) → bytes_before st ≤ bytes_of st
unfolding bytes_before bytes_of
bytes-before [] = omega arith
bytes-before (s ∷ st) = omega (arith, size-before s, bytes-before st)

room-before : (l : Lengths) (st : List Sort) → room_in l st ≡ true → room_before l st ≡ true
unfolding room room_before
room-before l st e =
    let few = leb (length st) l.places && leb (length st) 4096 in
    and-true (leb (bytes_before st) l.records) few
    (le-leb (bytes_before st) l.records (omega (arith, bytes-before st, leb-true (bytes_of st) l.records (and_left (leb (bytes_of st) l.records) few e))))
    (and_right (leb (bytes_of st) l.records) few e)

---------------------------------------------------------------- what was read before
-- What was read, as a record that says no size.
abbrev unsaid : Read SortRecord → Read SheetSort
unsaid (Ok r) = gave (record { fields = r.0; size = None }) r.1
unsaid (Err e) = Err e

-- Chains that go on alike.
then-alike : {A : Type 0} (o : Read A) (go : A → ℕ → Read SheetSort) (go' : A → ℕ → Read SortRecord)
    → ((a : A) (c : Cursor) → o ≡ gave a c → go a c.at ≡ unsaid (go' a c.at)) → then_read o go ≡ unsaid (then_read o go')
then-alike (Ok r) go go' h = h r.0 r.1 refl
then-alike (Err e) go go' h = refl

kind-alike : (o : Option SortKind) (go : SortKind → Read SheetSort) (go' : SortKind → Read SortRecord)
    → ((k : SortKind) → go k ≡ unsaid (go' k)) → of_kind o go ≡ unsaid (of_kind o go')
kind-alike (Some k) go go' h = h k
kind-alike None go go' h = refl

demand-alike : (t : Bool) (g : Read SheetSort) (g' : Read SortRecord) → g ≡ unsaid g' → demand t (Err Map) g ≡ unsaid (demand t (Err Map) g')
demand-alike true g g' h = h
demand-alike false g g' h = refl

-- A record whose map is without bit 128 is read as before.
fields-alike : (s : List ℕ) (m : ℕ) (k : SortKind) (i x : ℕ) → bit 128 m ≡ false → read_sort_fields s m k i x ≡ unsaid (fields_before s m k i x)
unfolding read_sort_fields fields_before read_size
fields-alike s m k i x h =
    then-alike (read_name s m x) _ _ (λ a c3 p3.
    then-alike (read_number s m 65535 c3.at) _ _ (λ w c4 p4.
    then-alike (read_references s m (least_of (sort_number k)) (most_of (sort_number k)) i c4.at) _ _ (λ l c5 p5.
    then-alike (read_names s m 1 64 c5.at) _ _ (λ ns c6 p6.
    rw h refl))))

-- A byte without bit 128 is under 128, so that it is its own remainder.
map-before : (m : ℕ) → m < 256 → bit 128 m ≡ false → m % 128 ≡ m
unfolding bit
map-before m low h = omega (arith, low, eqb-false (m / 128 % 2) 1 h)

sort-alike : (s : List ℕ) (i x : ℕ) → Bytes s → bit 128 (get_or s x 0) ≡ false → read_sort s i x ≡ unsaid (sort_before s i x)
unfolding read_sort sort_before
sort-alike s i x bytes h =
    then-alike (read_head s x) _ _ (λ d c p.
    let is : d.map ≡ get_or s x 0 = (head-was s x d c p).map in
    let plain : bit 128 d.map ≡ false = ap (bit 128) is ∙ h in
    kind-alike (sort_kind d.kind) _ _ (λ k.
    rw (map-before d.map (omega (arith, is, bytes x)) plain)
    (demand-alike (eqb d.map (map_of (sort_number k))) _ _ (fields-alike s d.map k i c.at plain))))

-- So the sorts are read as before, if they are not refused for 10.
module _ (s : List ℕ) (l : Lengths) (bytes : Bytes s) where
  added-same : (sr : SortsRead) (r : Read SortRecord) → space_read (sort_read s l sr (unsaid r)) ≡ true → read_before s l sr r ≡ sort_read s l sr (unsaid r)
  unfolding sort_added added_before
  added-same sr (Err e) h = refl
  added-same sr (Ok r) h =
      let st = add_once sr.store (sort_of sr.sorts (sort_fields s r.0)) in
      demand-same (leb (size (sort_of sr.sorts (sort_fields s r.0))) 4096) TreeSize _ _ (room-same (room_in l st) (room_before l st) _ (room-before l st)) h

  sorts-same : (n : ℕ) → ((k : ℕ) (sr : SortsRead) (x : ℕ) → k < n → read_sorts s l k ≡ got sr x → bit 128 (get_or s x 0) ≡ false)
      → space_read (read_sorts s l n) ≡ true → sorts_before s l n ≡ read_sorts s l n
  unfolding read_sorts sorts_before
  sorts-same zero plain h = refl
  sorts-same (suc n) plain h =
      read_same (read_sorts s l n) (sorts_before s l n) (λ sr x. sort_read s l sr (read_sort s n x)) (λ sr x. read_before s l sr (sort_before s n x))
      (sorts-same n (λ k sr x low e. plain k sr x (omega (arith, low)) e))
      (λ sr x e space.
      let a = sort-alike s n x bytes (plain n sr x (omega arith) e) in
      added-same sr (sort_before s n x) (ap (λ r. space_read (sort_read s l sr r)) (sym a) ∙ space) ∙ ap (sort_read s l sr) (sym a)) h

-- THE THEOREM: where the store has space now, such a sheet is judged as before: the same refusal, or the same sheet, store, rows and
-- answers. So the store had space before, too.
pub as_before : (R : ℕ → List Rank) (s : List ℕ) (l : Lengths) → Bytes s → Unsized s l → had_space (judged_by R s l) ≡ true
    → judged_before R s l ≡ judged_by R s l
unfolding judged_before
as_before R s l bytes plain space =
    more_room (room_in l) (room_before l) (room-before l) (read_sorts s l (sort_count s)) (sorts_before s l (sort_count s))
    (sorts-same s l bytes (sort_count s) plain) R s l (ap had_space (judged_with-is R s l) ∙ space)
    ∙ judged_with-is R s l

pub space-before : (R : ℕ → List Rank) (s : List ℕ) (l : Lengths) → Bytes s → Unsized s l → had_space (judged_by R s l) ≡ true
    → had_space (judged_before R s l) ≡ true
space-before R s l bytes plain space = ap had_space (as_before R s l bytes plain space) ∙ space

-- Over the ranks of the table.
pub was-judged : (s : List ℕ) (l : Lengths) → Bytes s → Unsized s l → had_space (judged s l) ≡ true → was_judged s l ≡ judged s l
unfolding was_judged judged
was-judged s l bytes plain space = as_before smt_lib s l bytes plain space

---------------------------------------------------------------- examples
abbrev pub lent : ℕ → Lengths
lent n = record { records = n; places = 4; rows = 4; answers = 1 }

-- K1 of document 01 in four bytes, which Int takes now: every premise of the theorem can be met at once.
abbrev pub k1 : List ℕ
k1 =
    1 ∷ 0 ∷ 2 ∷ 0 ∷ 1 ∷ 0 ∷ 1 ∷ 4 ∷ 5 ∷ 0 ∷ 7 ∷ 0 ∷ 0 ∷ 0
    ∷ 21 ∷ 7 ∷ 10 ∷ 0 ∷ 0 ∷ 0 ∷ 2 ∷ 0 ∷ 0 ∷ 0 ∷ 0 ∷ 17 ∷ 0 ∷ 2 ∷ 0 ∷ 0 ∷ 0 ∷ 0 ∷ []

all-bytes : (s : List ℕ) → all_of (λ b. ltb b 256) s ≡ true → Bytes s
unfolding all_of
all-bytes [] e i = omega arith
all-bytes (b ∷ s) e zero = ltb-true b 256 (and_left (ltb b 256) (all_of (λ b. ltb b 256) s) e)
all-bytes (b ∷ s) e (suc i) = all-bytes s (and_right (ltb b 256) (all_of (λ b. ltb b 256) s) e) i

k1-unsized : Unsized k1 (lent 4)
unfolding read_sorts bit
k1-unsized zero sr x low e = let at : 6 ≡ x = cc in subst (λ (y : ℕ). bit 128 (get_or k1 y 0) ≡ false) at refl
k1-unsized (suc k) sr x low e = absurd (omega (arith, low))

pub k1-as-before : was_judged k1 (lent 4) ≡ judged k1 (lent 4)
unfolding judged had_space
k1-as-before = was-judged k1 (lent 4) (all-bytes k1 refl) k1-unsized refl

-- WHY THERE IS THE CLAUSE OF SPACE: in three bytes the term 7 had the sort Int in both columns, where it now has 23; and a sheet
-- with the sort Int was accepted, where it now gets 10.
abbrev pub seven : List ℕ
seven = 0 ∷ 0 ∷ 1 ∷ 0 ∷ 0 ∷ 0 ∷ 5 ∷ 0 ∷ 7 ∷ 0 ∷ 0 ∷ 0 ∷ []

pub short-rows : (rows_after (lent 3) (was_judged seven (lent 3)) ≡ 0 ∷ 0 ∷ 0 ∷ 0 ∷ [])
    × (rows_after (lent 3) (judged seven (lent 3)) ≡ 23 * 65536 ∷ 23 * 65536 ∷ 0 ∷ 0 ∷ [])
unfolding was_judged judged rows_after
short-rows = (refl, refl)

pub short-sheet : (outcome_number (was_judged (1 ∷ 0 ∷ 0 ∷ 0 ∷ 0 ∷ 0 ∷ 1 ∷ 4 ∷ []) (lent 3)) ≡ 0)
    × (outcome_number (judged (1 ∷ 0 ∷ 0 ∷ 0 ∷ 0 ∷ 0 ∷ 1 ∷ 4 ∷ []) (lent 3)) ≡ 10)
unfolding was_judged judged
short-sheet = (refl, refl)

-- WHY THERE IS THE CLAUSE OF THE BIT: Int with its size, 1, was refused for its map.
pub sized-sheet : (outcome_number (was_judged (1 ∷ 0 ∷ 0 ∷ 0 ∷ 0 ∷ 0 ∷ 129 ∷ 4 ∷ 1 ∷ 0 ∷ []) (lent 4)) ≡ 4)
    × (outcome_number (judged (1 ∷ 0 ∷ 0 ∷ 0 ∷ 0 ∷ 0 ∷ 129 ∷ 4 ∷ 1 ∷ 0 ∷ []) (lent 4)) ≡ 0)
unfolding was_judged judged
sized-sheet = (refl, refl)
