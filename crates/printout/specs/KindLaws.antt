-- The kinds that stand at the places of a sheet's questions are those of its questions.
use Rattle.std.specs.Prelude.{ℕ, zero, suc, ◌+◌, ◌≤◌, ◌<◌, ◌≡◌, refl, List, [], ◌∷◌, ◌++◌, length, get_or, set, take}
use Rattle.std.proofs.Common.{sym, ap, ap₂, subst, ◌∙◌, arith, add-one, length-set, take-suc, get_or-set_same, get_or-set_other}
use Rattle.record.specs.Sort.{Sort}
use Rattle.record.specs.SortLists.{below_suc}
use Rattle.reader.specs.declared.Refusal.{Refusal}
use Rattle.sheet.specs.declared.SheetCounts.{SheetCounts}
use Rattle.sheet.specs.Sheet.{Sheet, Reading, read_sheet, QuestionFields, question_fields}
use Rattle.sheet.specs.Sheet.Reading.{read_refused, got}
use Rattle.sheet.specs.Trees.{trees-length}
use Rattle.sheet.specs.Contract.{each_at, question_read_at, questions_at, QuestionStands, SheetAccepted}
use Rattle.sheet.specs.Stands.{each-length, question-is}
use Rattle.printout.specs.Printed.{kinds_of, program_lengths}
use Rattle.printout.specs.Kinds.{KindsPut, Listed, KindsAre}

---------------------------------------------------------------- the loop
pub put-none : (s ys kinds : List ℕ) → KindsPut s ys 0 kinds kinds
put-none s ys kinds = record { long = refl; each = λ i h. absurd (omega arith) }

pub put_one : (s ys : List ℕ) (c : ℕ) (kinds kinds' : List ℕ) → c < length kinds → KindsPut s ys c kinds kinds' → (v : ℕ) → v ≡ get_or s (get_or ys c 0 + 1) 0 → KindsPut s ys (c + 1) kinds (set kinds' c v)
put_one s ys c kinds kinds' h p v e =
    record {
      long = length-set kinds' c v ∙ p.long;
      each =
          subst (λ (m : ℕ). (i : ℕ) → i < m → get_or (set kinds' c v) i 0 ≡ get_or s (get_or ys i 0 + 1) 0) (sym (add-one c))
          (below_suc (λ (i : ℕ). get_or (set kinds' c v) i 0 ≡ get_or s (get_or ys i 0 + 1) 0) c
          (λ i l. get_or-set_other kinds' c i v 0 (λ q. absurd (omega arith)) ∙ p.each i l)
          (get_or-set_same kinds' c v 0 (omega (arith, p.long)) ∙ e));
    }

-- A question's record has two bytes in the sheet.
pub question-inside : (s : List ℕ) (m x : ℕ) → QuestionStands s m x → x + 2 ≤ length s
question-inside s m x o = omega (arith, o.was.after, o.was.inside)

---------------------------------------------------------------- the sheet
question-kind : (s : List ℕ) (ts : List Sort) (m x i : ℕ) → length ts ≡ m → QuestionStands s m x → (question_read_at s ts i x).kind ≡ get_or s (x + 1) 0
unfolding question_fields
question-kind s ts m x i e o =
    ap (λ (q : QuestionFields). q.kind) (question-is s m x o o.fields o.next o.read i ts e) ∙ sym o.was.tag

pub kinds-are : (s : List ℕ) (ts : List Sort) (m : ℕ) (ys kinds : List ℕ) (c : ℕ) → length ts ≡ m → ((i : ℕ) → i < c → QuestionStands s m (get_or ys i 0)) → c ≤ length kinds
    → ((i : ℕ) → i < c → get_or kinds i 0 ≡ get_or s (get_or ys i 0 + 1) 0) → take c kinds ≡ kinds_of (questions_at s ts ys c)
unfolding kinds_of each_at
kinds-are s ts m ys kinds zero e o h p = refl
kinds-are s ts m ys kinds (suc c) e o h p =
    take-suc kinds c 0 (omega arith)
    ∙ ap₂ (λ (l : List ℕ) (v : ℕ). l ++ (v ∷ []))
    (kinds-are s ts m ys kinds c e (λ i l. o i (omega arith)) (omega arith) (λ i l. p i (omega arith)))
    (p c (omega arith) ∙ sym (question-kind s ts m (get_or ys c 0) c e (o c (omega arith))))

got-sheet : {h k : Sheet} {x y : ℕ} → got h x ≡ got k y → h ≡ k
got-sheet {h} {k} e = cc

-- THE SHEET THAT WAS READ is the definition's, so the kinds are those of its questions.
pub kinds-listed : (s b p ix tbl xs ys : List ℕ) (c : SheetCounts) → SheetAccepted s program_lengths b p ix tbl xs ys c
    → (kinds kinds' : List ℕ) → 1024 ≤ length kinds → KindsPut s ys c.questions kinds kinds'
    → KindsAre s kinds kinds' (record { terms = c.terms; questions = c.questions })
kinds-listed s b p ix tbl xs ys c a kinds kinds' room put =
    record {
      long = put.long;
      accepted = λ h x e.
          subst (λ (k : Sheet). Listed k kinds' (record { terms = c.terms; questions = c.questions })) (got-sheet (sym a.result ∙ e))
          (record {
            terms = sym (each-length _ xs c.terms);
            questions = sym (each-length _ ys c.questions);
            kinds =
                kinds-are s _ c.sorts ys kinds' c.questions (trees-length _ tbl c.sorts) a.stands.questions
                (omega (arith, a.few_questions, put.long)) put.each;
          });
    }

refused-got : {e : Refusal} {h : Sheet} {x : ℕ} → ◌≡◌ {A = Reading Sheet} (read_refused e) (got h x) → ⊥
refused-got {e} {h} {x} q = let z : ◌≡◌ {A = ℕ} 0 1 = cc in omega arith

pub kinds-refused : (s kinds kinds' : List ℕ) (e : Refusal) → read_sheet s program_lengths ≡ read_refused e → length kinds' ≡ length kinds → KindsAre s kinds kinds' (record { terms = 0; questions = 0 })
kinds-refused s kinds kinds' e q l = record { long = l; accepted = λ h x g. absurd (refused-got (sym q ∙ g)) }
