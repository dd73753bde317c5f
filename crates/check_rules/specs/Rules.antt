-- THE CHECKED SORT AS RULES, one for each sentence of document 01 under "Checked" and `by_set` for one of A.2, free of tests and of their order: a term has a
-- sort when its parts have sorts and a rule gives it one. What a sort may hold is said of its parts (Parts). Definitions only;
-- RuleTheorems proves that the checked verdict is a sort exactly by these rules.
use Rattle.std.specs.Prelude.{ℕ, ◌+◌, ◌*◌, ◌-◌, ◌≤◌, ◌<◌, ◌≡◌, ◌⊎◌, List, [], ◌∷◌}
use Rattle.std.proofs.Math.Option.{Option, some}
use Rattle.record.specs.Sort.{Sort, Sorts, par, node, end, ◌then◌, function, bool, int, real, string, reglan, array, bitvec, count, set}
use Rattle.row_rules.specs.Lists.{firsts, last_of, joined, binding_sorts}
use Rattle.row_rules.specs.Term.{Site, Term, Terms, term, stop, ◌also◌, constants_of}
use Rattle.check_rules.specs.Rank.{Rank}
use Rattle.check_rules.specs.Parts.{Proper, Carried, Value, EachProper, EachValue}
use Rattle.check_rules.specs.Fits.{SomeFits, rest, Applies, one_of}

---------------------------------------------------------------- App: the head's sort, then the arguments'
pub data Applied (ts : Sorts) (s : Sort) : Type 0 where
  -- A parametric function: some assignment of its parameters makes its declared argument sorts the actual ones and fixes its
  -- result. (A Function's name and number, a and w, are 0 on every sheet.)
  parametric : (ns : List ℕ) (a w : ℕ) (ss rs : Sorts) → ts ≡ par ns (node 0 a w ss) then rs → Applies (one_of ns) ss rs s → Applied ts s
  -- A plain function: the arguments are the declared sorts.
  plain : (a w : ℕ) (ss rs : Sorts) → ts ≡ node 0 a w ss then rs → 0 < count rs → count rs < count ss → EachValue rs
      → firsts ss rs ≡ rs → rest ss rs ≡ s → Applied ts s

---------------------------------------------------------------- Op
pub data Operated (R : ℕ → List Rank) (n : ℕ) (ts : Sorts) (s : Sort) : Type 0 where
  -- No argument is a Par, and some rank of the operator fits: by an assignment, or as its form computes it.
  by_rank : EachValue ts → SomeFits (R n) ts s → Operated R n ts s

---------------------------------------------------------------- Binder: the bindings' sorts bs, the body's sort
pub data Binds (n : ℕ) (bs ts : Sorts) (s : Sort) : Type 0 where
  -- Forall and Exists: one binding or more, a Bool body.
  quantifier : (n ≡ 2 → ⊥) → (n ≡ 3 → ⊥) → EachProper bs → 0 < count bs → ts ≡ bool then end → s ≡ bool → Binds n bs ts s
  -- Choice: one binding, a Bool body; the binding's sort.
  choice : (b : Sort) → n ≡ 2 → bs ≡ b then end → Proper b → ts ≡ bool then end → s ≡ b → Binds n bs ts s
  -- Lambda: one binding or more; the bindings' sorts, then the body's as one entry.
  lambda : (b : Sort) → n ≡ 3 → EachProper bs → 0 < count bs → ts ≡ b then end → Value b → s ≡ function (joined bs b) → Binds n bs ts s

---------------------------------------------------------------- ParamOp: integer constants as indices, one argument
pub data Indexes (n : ℕ) (is : List (Option ℕ)) (ts : Sorts) (s : Sort) : Type 0 where
  extract : (w i j : ℕ) → n ≡ 0 → is ≡ some i ∷ some j ∷ [] → ts ≡ bitvec w then end → j ≤ i → i < w → s ≡ bitvec (i - j + 1) → Indexes n is ts s
  extend : (w i : ℕ) → (n ≡ 3) ⊎ (n ≡ 4) → is ≡ some i ∷ [] → ts ≡ bitvec w then end → s ≡ bitvec (w + i) → Indexes n is ts s
  rotate : (w i : ℕ) → (n ≡ 5) ⊎ (n ≡ 6) → is ≡ some i ∷ [] → ts ≡ bitvec w then end → s ≡ bitvec w → Indexes n is ts s
  repeat : (w i : ℕ) → n ≡ 7 → is ≡ some i ∷ [] → 1 ≤ i → ts ≡ bitvec w then end → s ≡ bitvec (i * w) → Indexes n is ts s
  int_to_bv : (i : ℕ) → n ≡ 9 → is ≡ some i ∷ [] → 1 ≤ i → ts ≡ int then end → s ≡ bitvec i → Indexes n is ts s
  power : (i : ℕ) → n ≡ 10 → is ≡ some i ∷ [] → ts ≡ reglan then end → s ≡ reglan → Indexes n is ts s
  loop : (i j : ℕ) → n ≡ 11 → is ≡ some i ∷ some j ∷ [] → ts ≡ reglan then end → s ≡ reglan → Indexes n is ts s

---------------------------------------------------------------- one record
pub data Rule (R : ℕ → List Rank) (z : Site) (s : Sort) : Type 0 where
  integer_constant : z.kind ≡ 0 → s ≡ int → Rule R z s
  real_constant : z.kind ≡ 1 → s ≡ real → Rule R z s
  string_constant : z.kind ≡ 2 → s ≡ string → Rule R z s
  reglan_constant : z.kind ≡ 3 → s ≡ reglan → Rule R z s
  vector_constant : z.kind ≡ 4 → 0 < z.number → s ≡ bitvec z.number → Rule R z s
  variable : z.kind ≡ 5 → Carried z.own → s ≡ z.own → Rule R z s
  by_app : z.kind ≡ 6 → Applied z.args s → Rule R z s
  by_op : z.kind ≡ 7 → Operated R z.number z.args s → Rule R z s
  by_binder : z.kind ≡ 8 → Binds z.number (binding_sorts z.bindings) z.args s → Rule R z s
  -- Let: one value or more, then the inner term, whose sort it has.
  by_let : (t : Sort) (ts : Sorts) → z.kind ≡ 9 → z.args ≡ t then ts → 0 < count ts → EachValue (t then ts) → s ≡ last_of t ts → Rule R z s
  by_index : z.kind ≡ 11 → Indexes z.number z.indices z.args s → Rule R z s
  -- (as const): sort Array, one argument of its element sort.
  by_const : (i e : Sort) → z.kind ≡ 12 → z.number ≡ 0 → z.own ≡ array i e → Proper z.own → z.args ≡ e then end → s ≡ z.own → Rule R z s
  -- "SetEmpty and SetUniverse take no argument and a Set sort" (A.2).
  by_set : (e : Sort) → z.kind ≡ 12 → (z.number ≡ 1) ⊎ (z.number ≡ 2) → z.own ≡ set e → Proper z.own → z.args ≡ end → s ≡ z.own → Rule R z s

---------------------------------------------------------------- terms
-- A TERM HAS A SORT: every part of it has one, and a rule gives it one.
unfoldable mutual
  unfolding constants_of

  pub HasSort : (ℕ → List Rank) → Term → Sort → Type 0
  HasSort R (term k a n o ts bs ns is) s =
      (ss : Sorts) × (js : Sorts) × HaveSorts R ts ss × HaveSorts R is js
      × Rule R (record { kind = k; number = n; own = o; args = ss; bindings = bs; constants = constants_of ts; indices = constants_of is }) s

  pub HaveSorts : (ℕ → List Rank) → Terms → Sorts → Type 0
  HaveSorts R stop ss = ss ≡ end
  HaveSorts R (t also ts) ss = (r : Sort) × (rs : Sorts) × HasSort R t r × HaveSorts R ts rs × (ss ≡ r then rs)
