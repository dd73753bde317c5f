-- "A SHEET WITHOUT THE BIT PRINTS AS BEFORE WHEREVER BOTH STORES HAD SPACE" (document 02, A.6). The judgement before A.6 is
-- kept here, and only here: its store's records were two bytes shorter, and its reader knew no bit 128 and no 34.
use Rattle.std.specs.Prelude.{ℕ, zero, suc, ◌+◌, ◌*◌, ◌<◌, ◌≡◌, Bool, false, ◌&&◌, List, [], ◌∷◌, ◌++◌, length, get_or, leb, eqb, Ok, Err}
use Rattle.record.specs.Sort.{Sort, var, par, node, count, size}
use Rattle.record.specs.Record.{bit, map_of, least_of, most_of, sort_of}
use Rattle.record.specs.Store.{given, add_once}
use Rattle.record.specs.Kinds.{sort_number, sort_kind}
use Rattle.record.specs.declared.SortRecord.{SortRecord}
use Rattle.record.specs.declared.kinds.SortKind.{SortKind}
use Rattle.reader.specs.Reader.{Read, demand, then_read, of_kind, got as read_got, read_head, read_name, read_number, read_references, read_names}
use Rattle.reader.specs.declared.Refusal.TheVariants.{Map, TreeSize, Store}
use Rattle.sheet.specs.Sheet.{Lengths, SortsRead, Reading, read_refused, got, and_read, sort_fields, read_sorts, sort_count}
use Rattle.check_rules.specs.Rank.{Rank}
use Rattle.check_rules.specs.Ranks.{smt_lib}
use Rattle.judge_rules.specs.Judged.{Judgement}
use Rattle.judge_rules.specs.AnyRoom.{judged_with}

---------------------------------------------------------------- before A.6
-- How many bytes the record of a sort took, and those of a store.
unfoldable pub size_before : Sort → ℕ
unfolding map_of bit count
size_before (var v) = 4
size_before (par ns b) = 6 + 2 * length ns
size_before (node k a w ss) =
    2 + given (bit 2 (map_of k)) 2 + given (bit 4 (map_of k)) 4 + given (bit 16 (map_of k)) (1 + 2 * count ss)

unfoldable pub bytes_before : List Sort → ℕ
unfolding size_before
bytes_before [] = 0
bytes_before (s ∷ st) = size_before s + bytes_before st

-- Room for a store in the lent lengths.
unfoldable pub room_before : Lengths → List Sort → Bool
unfolding bytes_before
room_before l st = leb (bytes_before st) l.records && (leb (length st) l.places && leb (length st) 4096)

-- The sort record of the sheet s with the number i at x: its map had to be that of its kind, so that 128 was 4; no size behind its fields.
unfoldable pub fields_before : List ℕ → ℕ → SortKind → ℕ → ℕ → Read SortRecord
unfolding read_name read_number read_references read_names least_of most_of
fields_before s m k i x =
    then_read (read_name s m x) (λ a x3.
    then_read (read_number s m 65535 x3) (λ w x4.
    then_read (read_references s m (least_of (sort_number k)) (most_of (sort_number k)) i x4) (λ l x5.
    then_read (read_names s m 1 64 x5) (λ ns x6.
    read_got (record { kind = k; name = a; number = w; parts = l; names = ns }) x6))))

unfoldable pub sort_before : List ℕ → ℕ → ℕ → Read SortRecord
unfolding read_head fields_before map_of
sort_before s i x =
    then_read (read_head s x) (λ h y.
    of_kind (sort_kind h.kind) (λ k.
    demand (eqb h.map (map_of (sort_number k))) (Err Map) (fields_before s h.map k i y)))

-- One more sort: 9, then 10.
unfoldable pub added_before : Lengths → Sort → SortsRead → ℕ → Reading SortsRead
unfolding size add_once room_before
added_before l t sr x =
    demand (leb (size t) 4096) (read_refused TreeSize)
    (demand (room_before l (add_once sr.store t)) (read_refused Store)
    (got (record { sorts = sr.sorts ++ (t ∷ []); store = add_once sr.store t }) x))

abbrev pub read_before : List ℕ → Lengths → SortsRead → Read SortRecord → Reading SortsRead
read_before s l sr (Err e) = read_refused e
read_before s l sr (Ok r) = added_before l (sort_of sr.sorts (sort_fields s r.0)) sr r.1.at

-- The first n sort records, from the byte 6 on.
unfoldable pub sorts_before : List ℕ → Lengths → ℕ → Reading SortsRead
unfolding sort_before sort_of sort_fields added_before
sorts_before s l zero = got (record { sorts = []; store = [] }) 6
sorts_before s l (suc n) = and_read (sorts_before s l n) (λ sr x. read_before s l sr (sort_before s n x))

-- THE JUDGEMENT BEFORE A.6: terms, questions, rows and answers are those of now, by that room.
unfoldable pub judged_before : (ℕ → List Rank) → List ℕ → Lengths → Judgement
unfolding room_before sorts_before judged_with
judged_before R s l = judged_with (room_before l) (sorts_before s l (sort_count s)) R s l

-- Over the ranks of the table.
unfoldable pub was_judged : List ℕ → Lengths → Judgement
unfolding judged_before smt_lib
was_judged s l = judged_before smt_lib s l

-- NO SORT RECORD OF THE SHEET HAS BIT 128, of those that are read: the first k were, and the next one begins at x.
abbrev pub Unsized : List ℕ → Lengths → Type 0
Unsized s l = (k : ℕ) (sr : SortsRead) (x : ℕ) → k < sort_count s → read_sorts s l k ≡ got sr x → bit 128 (get_or s x 0) ≡ false
