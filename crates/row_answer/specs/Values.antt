-- What the scan of a list of sorts for a Par asks and promises, and which sorts are values by their kinds.
use Rattle.std.specs.Prelude.{ℕ, ◌<◌, ◌≡◌, refl, Bool, true, false, List, get_or}
use Rattle.std.proofs.Common.{sym, ap, ◌∙◌, arith}
use Rattle.record.specs.Decode.{Stored, fields_at, store_of, sort_at}
use Rattle.record.specs.Sort.{Sort, var, par, node, kind_of}
use Rattle.record.specs.Record.{Fields, sort_of}
use Rattle.record.specs.Forms.{Which, is_var, is_par, is_node, which, sort-var, sort-par, sort-other}
use Rattle.record.specs.StoreLaws.{sort-node}
use Rattle.matching_tables.specs.Usable.{Refs, sorts_at}
use Rattle.check_rules.specs.Checked.{values, value}

-- m numbers of sorts of some store in these buffers.
pub record ValuesAsk (b p s : List ℕ) (x m : ℕ) : Type 0 where
  pub many : ℕ
  pub stored : Stored b p many
  pub refs : Refs s x m many

-- Whatever the count of the store's sorts is.
abbrev pub ValuesHave : List ℕ → List ℕ → List ℕ → ℕ → ℕ → Bool → Type 0
ValuesHave b p s x m r = (n : ℕ) → Stored b p n → Refs s x m n → r ≡ values (sorts_at b p n s x m)

-- Whether the sort k is a value, whatever the count is.
abbrev pub Valued : List ℕ → List ℕ → Bool → ℕ → Type 0
Valued b p t k = (n : ℕ) → Stored b p n → k < n → value (sort_at b p n k) ≡ t

-- A Par is no value, every other sort is.
pub value-kind : (s : Sort) → (kind_of s ≡ 12 → ⊥) → value s ≡ true
value-kind (var v) h = refl
value-kind (par ns b) h = absurd (h refl)
value-kind (node k a w ss) h = refl

kind-par : (st : List Sort) (f : Fields) → kind_of (sort_of st f) ≡ 12 → value (sort_of st f) ≡ false
kind-par st f e = go (which f.kind)
  where
    go : Which f.kind → value (sort_of st f) ≡ false
    go (is_var q) = let z : ◌≡◌ {A = ℕ} 2 12 = sym (ap kind_of (sort-var st f q)) ∙ e in absurd (omega arith)
    go (is_par q) = ap value (sort-par st f q)
    go (is_node h q) = absurd (q (sym (ap kind_of (sort-other st f h q)) ∙ e))

pub stored-value : (b p : List ℕ) (n k : ℕ) → Stored b p n → k < n → kind_of (sort_at b p n k) ≡ 12 → value (sort_at b p n k) ≡ false
stored-value b p n k s l e =
    let q = sort-node b p n k s l in
    ap value q ∙ kind-par (store_of b p n) (fields_at b (get_or p k 0)) (sym (ap kind_of q) ∙ e)
