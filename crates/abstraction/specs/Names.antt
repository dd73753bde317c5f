-- New names: each sheet numbers the names of its sorts and variables by itself, so the same term has other names on another sheet. A name is
-- given another by ρ, in sorts, terms and records. Definitions only.
use Rattle.std.specs.Prelude.{ℕ, ◌≡◌, List, [], ◌∷◌}
use Rattle.std.proofs.Math.Option.{Option, none, some}
use Rattle.record.specs.Sort.{Sort, Sorts, var, par, node, end, ◌then◌}
use Rattle.sheet.specs.Sheet.{Binding, TermFields}
use Rattle.row_rules.specs.Verdict.{Verdict, sort, refused}
use Rattle.row_rules.specs.Term.{Term, Terms, term, stop, ◌also◌}

-- What is asked of new names: no two names get the same one, and 0 stays. A sort without a name has 0 for it, and 0 is the name of '?.
pub record Renames (ρ : ℕ → ℕ) : Type 0 where
  pub zero-stays : ρ 0 ≡ 0
  pub one : (u v : ℕ) → ρ u ≡ ρ v → u ≡ v

unfoldable pub new_names : (ℕ → ℕ) → List ℕ → List ℕ
new_names ρ [] = []
new_names ρ (n ∷ ns) = ρ n ∷ new_names ρ ns

unfoldable mutual
  unfolding new_names

  pub renamed : (ℕ → ℕ) → Sort → Sort
  renamed ρ (var v) = var (ρ v)
  renamed ρ (par ns b) = par (new_names ρ ns) (renamed ρ b)
  renamed ρ (node k a w ss) = node k (ρ a) w (renamed_all ρ ss)

  pub renamed_all : (ℕ → ℕ) → Sorts → Sorts
  renamed_all ρ end = end
  renamed_all ρ (s then ss) = renamed ρ s then renamed_all ρ ss

abbrev pub renamed_verdict : (ℕ → ℕ) → Verdict → Verdict
renamed_verdict ρ (sort s) = sort (renamed ρ s)
renamed_verdict ρ (refused c) = refused c

abbrev pub renamed_sort : (ℕ → ℕ) → Option Sort → Option Sort
renamed_sort ρ none = none
renamed_sort ρ (some s) = some (renamed ρ s)

abbrev pub renamed_sorts : (ℕ → ℕ) → Option Sorts → Option Sorts
renamed_sorts ρ none = none
renamed_sorts ρ (some ss) = some (renamed_all ρ ss)

unfoldable pub renamed_bindings : (ℕ → ℕ) → List Binding → List Binding
unfolding renamed
renamed_bindings ρ [] = []
renamed_bindings ρ (b ∷ bs) = record { name = ρ b.name; sort = renamed ρ b.sort } ∷ renamed_bindings ρ bs

unfoldable mutual
  unfolding new_names renamed renamed_bindings

  pub renamed_term : (ℕ → ℕ) → Term → Term
  renamed_term ρ (term k a n o ts bs ns is) = term k (ρ a) n (renamed ρ o) (renamed_terms ρ ts) (renamed_bindings ρ bs) (new_names ρ ns) (renamed_terms ρ is)

  pub renamed_terms : (ℕ → ℕ) → Terms → Terms
  renamed_terms ρ stop = stop
  renamed_terms ρ (t also ts) = renamed_term ρ t also renamed_terms ρ ts

-- The whole terms as records, with new names.
abbrev pub renamed_fields : (ℕ → ℕ) → TermFields → TermFields
renamed_fields ρ r =
    record {
      kind = r.kind;
      name = ρ r.name;
      number = r.number;
      own = renamed ρ r.own;
      list = r.list;
      bindings = renamed_bindings ρ r.bindings;
      names = new_names ρ r.names;
      second = r.second;
    }

unfoldable pub renamed_records : (ℕ → ℕ) → List TermFields → List TermFields
unfolding renamed renamed_bindings new_names
renamed_records ρ [] = []
renamed_records ρ (r ∷ rs) = renamed_fields ρ r ∷ renamed_records ρ rs
