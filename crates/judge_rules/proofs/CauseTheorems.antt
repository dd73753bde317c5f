-- WHAT A CODED CAUSE SAYS: a row or an answer is coded by a cause other than 22 and 23 exactly where its verdict is refused for it; a row by 20
-- exactly where a term that it names has no sort in its column, by any other exactly where all have one and the verdict on the record
-- itself is refused for it.
use Prim.Native.Nat.{ℕ, ◌+◌, ◌*◌, ◌-◌, ◌≤◌}
use Rattle.std.specs.Prelude.{◌≡◌, refl, Bool, true, false, List, [], ◌∷◌, ◌↔◌, ◌⊎◌, get_or, eqb, ltb}
use Rattle.std.proofs.Common.{sym, ap, ◌∙◌, arith, eqb-true, ltb-true, ltb-false}
use Rattle.std.proofs.lemmas.Bool.{false≢true}
use Rattle.std.proofs.Math.Option.{Option, none, some}
use Rattle.std.proofs.Math.Logic.{inl, inr, ⊎_elim}
use Rattle.std.proofs.Math.Logic.Iff.{trans as iff-trans}
use Rattle.record.specs.Names.{member}
use Rattle.record.specs.Sort.{Sort, Sorts, ◌then◌}
use Rattle.record.specs.Record.{leaf}
use Rattle.record.specs.Store.{intern, room}
use Rattle.record.specs.Cases.{or-first, or-second, eqb-self, by_test, by_option, none-some}
use Rattle.sheet.specs.Sheet.{Lengths, TermFields}
use Rattle.row_rules.specs.declared.Cause.{Cause}
use Rattle.row_rules.specs.declared.Cause.TheVariants.{Below, Panics, Limit, Full, NoRank, Count, Misfit, Unassigned, Barred, NoAssignment}
use Rattle.row_rules.specs.Verdict.{Verdict, sort, refused, number_of}
use Rattle.row_rules.specs.Term.{Site, constants_at, sorts_given, verdict_at}
use Rattle.row_rules.specs.Outcome.{within, CodedStore, outcome, row_sort}
use Rattle.row_rules.specs.Outcomes.{no_limit, answered}
use Rattle.row_rules.proofs.OutcomeLaws.{outcome-is, interned-at, room-few, refusal-large}
use Rattle.infer_rules.specs.Inferred.{inferred}
use Rattle.infer_rules.proofs.PanicTheorems.{inferred-causes}
use Rattle.check_rules.specs.Rank.{Rank}
use Rattle.check_rules.specs.Checked.{checked}
use Rattle.check_rules.proofs.FitLaws.{sort-refused}
use Rattle.check_rules.proofs.RefusalLaws.{parts-cause}
use Rattle.check_rules.proofs.CheckedCauses.{checked-causes}
use Rattle.judge_rules.specs.Rows.{row_of}

-- A cause's number says the cause.
cause-back : (c : Cause) → get_or (Below ∷ Panics ∷ Limit ∷ Full ∷ NoRank ∷ Count ∷ Misfit ∷ Unassigned ∷ Barred ∷ NoAssignment ∷ []) (number_of c - 20) Below ≡ c
cause-back Below = refl
cause-back Panics = refl
cause-back Limit = refl
cause-back Full = refl
cause-back NoRank = refl
cause-back Count = refl
cause-back Misfit = refl
cause-back Unassigned = refl
cause-back Barred = refl
cause-back NoAssignment = refl

pub one-cause : (c d : Cause) → number_of c * 65536 ≡ number_of d * 65536 → c ≡ d
one-cause c d h = let e : number_of c ≡ number_of d = omega arith in sym (cause-back c) ∙ rw e (cause-back d)

-- A CODE STANDS FOR A CAUSE other than 22 and 23 exactly where the verdict is refused for it: so of every row, too.
pub code-cause : (l : Lengths) (st : List Sort) (v : Verdict) (c : Cause) → no_limit (refused c) ≡ true
    → (outcome l st v).code ≡ number_of c * 65536 ↔ v ≡ refused c
unfolding outcome no_limit
code-cause l st (refused d) c p = (λ h. ap refused (one-cause d c h), λ h. let e : d ≡ c = cc in ap (λ (x : Cause). number_of x * 65536) e)
code-cause l st (sort s) c p = (
  λ h. absurd (by (within s) (room l.records l.places (intern s st)) refl (sym (ap (λ (o : CodedStore). o.code) (outcome-is l st s)) ∙ h)),
  λ h. sort-refused h,
)
  where
    by : (w r : Bool) → room l.records l.places (intern s st) ≡ r → (answered l st s w r).code ≡ number_of c * 65536 → ⊥
    by true true e h = omega (arith, (interned-at s st).0, room-few l.records l.places (intern s st) e, refusal-large c)
    by true false e h = let q = one-cause Full c h in let z : false ≡ true = rw (← q) at p in false≢true z
    by false r e h = let q = one-cause Limit c h in let z : false ≡ true = rw (← q) at p in false≢true z

---------------------------------------------------------------- rows
-- A ROW IS CODED BY A CAUSE of its column, 21 or 24 to 28, exactly where the rows of all terms that the record names have sorts in that
-- column and the record with these sorts is refused for that cause.
pub row-cause : (J : Site → Verdict) (column : ℕ) (l : Lengths) (rs : List TermFields) (r : TermFields) (rows : List ℕ) (now : List Sort) (c : Cause)
    → no_limit (refused c) ≡ true → (c ≡ Below → ⊥)
    → (row_of J column l rs r rows now).code ≡ number_of c * 65536
    ↔ ((ts : Sorts) × (js : Sorts) × (sorts_given (λ i. row_sort now rows column i) r.list ≡ some ts) × (sorts_given (λ i. row_sort now rows column i) r.second ≡ some js)
    × (J (record {
      kind = r.kind;
      number = r.number;
      own = r.own;
      args = ts;
      bindings = r.bindings;
      constants = constants_at rs r.list;
      indices = constants_at rs r.second;
    }) ≡ refused c))
unfolding row_of verdict_at
row-cause J column l rs r rows now c p d =
    let row : ℕ → Option Sort = λ i. row_sort now rows column i in
    iff-trans (code-cause l now (verdict_at J row rs r) c p)
    (parts-cause J r.kind r.number r.own r.bindings (constants_at rs r.list) (constants_at rs r.second) (sorts_given row r.list) (sorts_given row r.second) c d)

---------------------------------------------------------------- 20
-- The list's sorts are not there exactly where a term of it has no sort by its row.
none-missing : (row : ℕ → Option Sort) (is : List ℕ) → sorts_given row is ≡ none → (i : ℕ) × (member i is ≡ true) × (row i ≡ none)
unfolding sorts_given member
none-missing row [] e = none-some (sym e)
none-missing row (i ∷ is) e =
    by_option (row i)
    (λ q. (i, or-first (eqb i i) (member i is) (eqb-self i), q))
    (λ s q. by_option (sorts_given row is)
    (λ f. let (j, m, n) = none-missing row is f in (j, or-second (eqb i j) (member j is) m, n))
    (λ ss f. let g : some (s then ss) ≡ none = rw (q, f) at e in none-some (sym g)))

missing-none : (row : ℕ → Option Sort) (is : List ℕ) → (i : ℕ) × (member i is ≡ true) × (row i ≡ none) → sorts_given row is ≡ none
unfolding sorts_given member
missing-none row [] h = let (j, m, n) = h in absurd (false≢true m)
missing-none row (i ∷ is) h =
    let (j, m, n) = h in
    by_test (eqb i j)
    (λ q. let z : row i ≡ none = rw (eqb-true i j q) n in rw z refl)
    (λ q. let z = missing-none row is (j, rw q at m, n) in by_option (row i) (λ f. rw f refl) (λ s f. rw (f, z) refl))

-- A ROW IS CODED 20 exactly where the row of a term that the record names is refused in its column.
module _ (J : Site → Verdict) (never : (z : Site) → J z ≡ refused Below → ⊥) (column : ℕ) (l : Lengths) (rs : List TermFields) (r : TermFields) (rows : List ℕ) (now : List Sort) where
  pub row_below : (row_of J column l rs r rows now).code ≡ number_of Below * 65536
      ↔ ((i : ℕ) × (member i r.list ≡ true) × (row_sort now rows column i ≡ none)) ⊎ ((i : ℕ) × (member i r.second ≡ true) × (row_sort now rows column i ≡ none))
  unfolding row_of verdict_at no_limit
  row_below =
      let row : ℕ → Option Sort = λ i. row_sort now rows column i in
      iff-trans (code-cause l now (verdict_at J row rs r) Below refl) (
        λ h. by_option (sorts_given row r.list)
            (λ p. inl (none-missing row r.list p))
            (λ ts p. by_option (sorts_given row r.second)
            (λ q. inr (none-missing row r.second q))
            (λ js q. absurd (never _ (rw (p, q) at h)))),
        λ h. ⊎_elim
            (λ m. rw (missing-none row r.list m) refl)
            (λ m. let q = missing-none row r.second m in by_option (sorts_given row r.list) (λ p. rw p refl) (λ ts p. rw (p, q) refl)) h,
      )

-- So of both columns: neither verdict on a record is 20 by itself.
pub inferred-never : (z : Site) → inferred z ≡ refused Below → ⊥
inferred-never z h = let e = ap number_of (inferred-causes z Below h) in omega arith

pub checked-never : (R : ℕ → List Rank) (z : Site) → checked R z ≡ refused Below → ⊥
checked-never R z h = let e = checked-causes R z Below h in omega arith

-- A row has no sort exactly where its code is a refusal.
pub row-missing : (st : List Sort) (rows : List ℕ) (column i : ℕ) → row_sort st rows column i ≡ none ↔ 65536 ≤ get_or rows (2 * i + column) 0
unfolding row_sort
row-missing st rows column i =
    let code = get_or rows (2 * i + column) 0 in
    by_test (ltb code 65536)
    (λ q. let low = ltb-true code 65536 q in
    (λ e. let g : some (get_or st code leaf) ≡ none = rw q at e in none-some (sym g), λ h. absurd (omega arith)))
    (λ q. let high = ltb-false code 65536 q in (λ e. omega arith, λ h. rw q refl))
