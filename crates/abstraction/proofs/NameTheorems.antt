-- NAMES ARE ONLY NAMES: a term under new names has the same verdict in both columns, with its sort under the new names. So a sheet may number its
-- names as it likes.
use Prim.Native.Nat.{ℕ, suc}
use Rattle.std.specs.Prelude.{◌≡◌, length, eqb}
use Rattle.std.proofs.Math.Path.{refl, ap, ap₂}
use Rattle.std.proofs.Common.{sym, ◌∙◌}
use Rattle.std.proofs.Math.Bool.{cond}
use mathlib.Core.List.{List, [], ◌∷◌}
use Rattle.std.proofs.Math.Option.{Option, none, some}
use Rattle.record.specs.Sort.{Sort, Sorts, var, par, node, end, ◌then◌, size, sizes}
use Rattle.record.specs.SortLaws.{same-sound, same-complete}
use Rattle.record.specs.Cases.{by_test}
use Rattle.sheet.specs.Sheet.{Binding, TermFields}
use Rattle.sheet.specs.SheetLaws.{referring}
use Rattle.row_rules.specs.Verdict.{Verdict, sort, refused}
use Rattle.row_rules.specs.Term.{Site, over_parts, Term, Terms, term, stop, ◌also◌, terms_of, tree_of, term_at, constants_of, besides, verdict_of, verdicts_of}
use Rattle.row_rules.specs.Outcome.{shallow, shallow_all, within, in_limits}
use Rattle.row_rules.proofs.OutcomeLaws.{refused-sort, sort-inj}
use Rattle.infer_rules.specs.Inferred.{infer}
use Rattle.check_rules.specs.Rank.{Rank}
use Rattle.check_rules.specs.Ranks.{smt_lib}
use Rattle.check_rules.proofs.RankSound.{smt_lib-sound}
use Rattle.check_rules.specs.Checked.{check}
use Rattle.judge_rules.proofs.RowLaws.{judging}
use Rattle.abstraction.specs.Names.{Renames, new_names, renamed, renamed_all, renamed_verdict, renamed_sorts, renamed_bindings, renamed_term, renamed_terms, renamed_fields, renamed_records}
use Rattle.row_rules.specs.declared.Cause.TheVariants.{Limit}
use Rattle.judge_rules.proofs.BoundedLaws.{bounded}
use Rattle.abstraction.proofs.NameLaws.{need-renamed, count-renamed, leaf-renamed, same-renamed}
use Rattle.abstraction.proofs.RankNames.{PlainRanks, smt_lib-nameless}
use Rattle.abstraction.proofs.CheckedNames.{renamed_site, checked-renamed}
use Rattle.abstraction.proofs.InferredNames.{inferred-renamed}

-- What the law asks of a column: its verdict on a record does not mind the names. The inferred column meets it whatever the ranks are, the
-- checked one over sound ranks without names, as those of the table are.
abbrev pub NamesFree : (ℕ → List Rank) → ℕ → Type 0
NamesFree R column = (ρ : ℕ → ℕ) → Renames ρ → (z : Site) → judging R column (renamed_site ρ z) ≡ renamed_verdict ρ (judging R column z)

pub names-inferred : (R : ℕ → List Rank) → NamesFree R 0
names-inferred R ρ N z = inferred-renamed ρ N z

pub names-checked : (R : ℕ → List Rank) → PlainRanks R → NamesFree R 1
names-checked R P ρ N z = checked-renamed ρ N R P z

pub smt_lib-plain : PlainRanks smt_lib
smt_lib-plain = record { sounds = smt_lib-sound; nameless = smt_lib-nameless }

---------------------------------------------------------------- the limits
module _ (ρ : ℕ → ℕ) (N : Renames ρ) where
  new_names-count : (ns : List ℕ) → length (new_names ρ ns) ≡ length ns
  unfolding new_names
  new_names-count [] = refl
  new_names-count (n ∷ ns) = ap suc (new_names-count ns)

  mutual
    unfolding shallow renamed

    shallow-renamed : (s : Sort) → shallow (renamed ρ s) ≡ shallow s
    shallow-renamed (var v) = refl
    shallow-renamed (par ns b) = rw (new_names-count ns, shallow-renamed b) refl
    shallow-renamed (node k a w ss) = rw (count-renamed ρ N ss, shallow_all-renamed ss) refl

    shallow_all-renamed : (ss : Sorts) → shallow_all (renamed_all ρ ss) ≡ shallow_all ss
    shallow_all-renamed end = refl
    shallow_all-renamed (s then ss) = rw (shallow-renamed s, shallow_all-renamed ss) refl

  mutual
    unfolding size renamed

    size-renamed : (s : Sort) → size (renamed ρ s) ≡ size s
    size-renamed (var v) = refl
    size-renamed (par ns b) = rw (size-renamed b) refl
    size-renamed (node k a w ss) = rw (sizes-renamed ss) refl

    sizes-renamed : (ss : Sorts) → sizes (renamed_all ρ ss) ≡ sizes ss
    sizes-renamed end = refl
    sizes-renamed (s then ss) = rw (size-renamed s, sizes-renamed ss) refl

  within-renamed : (v : Verdict) → in_limits (renamed_verdict ρ v) ≡ in_limits v
  unfolding within
  within-renamed (refused c) = refl
  within-renamed (sort s) = rw (shallow-renamed s, size-renamed s) refl

  -- A verdict with the limits of its answer does not mind the names where the verdict does not.
  pub bounded-renamed : (J : Site → Verdict) → ((z : Site) → J (renamed_site ρ z) ≡ renamed_verdict ρ (J z)) → (z : Site) → bounded J (renamed_site ρ z) ≡ renamed_verdict ρ (bounded J z)
  unfolding bounded
  bounded-renamed J H z = need-renamed ρ (in_limits (J z)) _ Limit _ _ (ap (λ (v : Verdict). in_limits v) (H z) ∙ within-renamed (J z)) (H z)

---------------------------------------------------------------- terms
module _ (ρ : ℕ → ℕ) (N : Renames ρ) where
  constants-stay : (ts : Terms) → constants_of (renamed_terms ρ ts) ≡ constants_of ts
  unfolding constants_of renamed_term
  constants-stay stop = refl
  constants-stay (term k a n o ts bs ns is also us) = ap (λ (l : List (Option ℕ)). cond (eqb k 0) (some n) none ∷ l) (constants-stay us)

  besides-renamed : (v : Verdict) (o : Option Sorts) → besides (renamed_verdict ρ v) (renamed_sorts ρ o) ≡ renamed_sorts ρ (besides v o)
  unfolding renamed
  besides-renamed (refused c) o = refl
  besides-renamed (sort s) none = refl
  besides-renamed (sort s) (some ss) = refl

  module _ (J : Site → Verdict) (H : (z : Site) → J (renamed_site ρ z) ≡ renamed_verdict ρ (J z)) where
    over-renamed : (k n : ℕ) (o : Sort) (bs : List Binding) (cs is : List (Option ℕ)) (a b : Option Sorts)
        → over_parts J k n (renamed ρ o) (renamed_bindings ρ bs) cs is (renamed_sorts ρ a) (renamed_sorts ρ b) ≡ renamed_verdict ρ (over_parts J k n o bs cs is a b)
    over-renamed k n o bs cs is none b = refl
    over-renamed k n o bs cs is (some ss) none = refl
    over-renamed k n o bs cs is (some ss) (some rs) = H (record { kind = k; number = n; own = o; args = ss; bindings = bs; constants = cs; indices = is })

    mutual
      unfolding verdict_of renamed_term renamed

      pub verdict-renamed : (t : Term) → verdict_of J (renamed_term ρ t) ≡ renamed_verdict ρ (verdict_of J t)
      verdict-renamed (term k a n o ts bs ns is) =
          rw (constants-stay ts, constants-stay is, verdicts-renamed ts, verdicts-renamed is)
          (over-renamed k n o bs (constants_of ts) (constants_of is) (verdicts_of J ts) (verdicts_of J is))

      pub verdicts-renamed : (ts : Terms) → verdicts_of J (renamed_terms ρ ts) ≡ renamed_sorts ρ (verdicts_of J ts)
      verdicts-renamed stop = refl
      verdicts-renamed (t also ts) = rw (verdict-renamed t, verdicts-renamed ts) (besides-renamed (verdict_of J t) (verdicts_of J ts))

  ---------------------------------------------------------------- records
  length-renamed : (ws : List TermFields) → length (renamed_records ρ ws) ≡ length ws
  unfolding renamed_records
  length-renamed [] = refl
  length-renamed (w ∷ ws) = ap suc (length-renamed ws)

  pub referring-renamed : (ws : List TermFields) → referring (renamed_records ρ ws) ≡ referring ws
  unfolding referring renamed_records
  referring-renamed [] = refl
  referring-renamed (w ∷ ws) = rw (length-renamed ws, referring-renamed ws) refl

  terms-renamed : (f g : ℕ → Term) → ((j : ℕ) → g j ≡ renamed_term ρ (f j)) → (is : List ℕ) → terms_of g is ≡ renamed_terms ρ (terms_of f is)
  unfolding terms_of renamed_term
  terms-renamed f g h [] = refl
  terms-renamed f g h (i ∷ is) = ap₂ (λ (t : Term) (ts : Terms). t also ts) (h i) (terms-renamed f g h is)

  tree-renamed : (f g : ℕ → Term) → ((j : ℕ) → g j ≡ renamed_term ρ (f j)) → (w : TermFields) → tree_of g (renamed_fields ρ w) ≡ renamed_term ρ (tree_of f w)
  unfolding renamed_term
  tree-renamed f g h w =
      ap₂ (λ (ts is : Terms). term w.kind (ρ w.name) w.number (renamed ρ w.own) ts (renamed_bindings ρ w.bindings) (new_names ρ w.names) is)
      (terms-renamed f g h w.list) (terms-renamed f g h w.second)

  -- The tree of a whole term under new names.
  pub term-renamed : (ws : List TermFields) (g : ℕ) → term_at (renamed_records ρ ws) g ≡ renamed_term ρ (term_at ws g)
  unfolding term_at renamed_records renamed_term renamed_bindings new_names
  term-renamed [] g =
      ap₂ (λ (a : ℕ) (o : Sort). term 10 a 0 o stop [] [] stop) (sym N.zero-stays) (sym (leaf-renamed ρ N 3 0))
  term-renamed (w ∷ ws) g =
      rw (length-renamed ws)
      (by_test (eqb g (length ws))
      (λ q. rw q (tree-renamed (λ j. term_at ws j) (λ j. term_at (renamed_records ρ ws) j) (λ j. term-renamed ws j) w))
      (λ q. rw q (term-renamed ws g)))

  ---------------------------------------------------------------- no two verdicts get the same one
  pub sort-back : (r s : Sort) → renamed ρ r ≡ renamed ρ s → r ≡ s
  sort-back r s e = same-sound r s (sym (same-renamed ρ N r s) ∙ same-complete (renamed ρ r) (renamed ρ s) e)

  pub verdict-back : (v w : Verdict) → renamed_verdict ρ v ≡ renamed_verdict ρ w → v ≡ w
  verdict-back (sort r) (sort s) e = ap sort (sort-back r s (sort-inj e))
  verdict-back (sort r) (refused c) e = refused-sort (sym e)
  verdict-back (refused c) (sort s) e = refused-sort e
  verdict-back (refused c) (refused d) e = e

---------------------------------------------------------------- the two columns
-- THE CHECKED SORT of a term under new names, over sound ranks without names; THE INFERRED SORT whatever the ranks are.
pub renamed-checked : (R : ℕ → List Rank) → PlainRanks R → (ρ : ℕ → ℕ) → Renames ρ → (t : Term) → check R (renamed_term ρ t) ≡ renamed_verdict ρ (check R t)
unfolding check
renamed-checked R P ρ N t = verdict-renamed ρ N (judging R 1) (names-checked R P ρ N) t

pub renamed-inferred : (ρ : ℕ → ℕ) → Renames ρ → (t : Term) → infer (renamed_term ρ t) ≡ renamed_verdict ρ (infer t)
unfolding infer
renamed-inferred ρ N t = verdict-renamed ρ N (judging smt_lib 0) (names-inferred smt_lib ρ N) t
