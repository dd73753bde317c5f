-- The head of an application: the list of the Function that a sort is, or of the one directly under the Par that it is.
use Rattle.std.specs.Prelude.{Option, Some, None, ℕ, zero, suc, ◌+◌, ◌*◌, ◌≤◌, ◌<◌, ◌≡◌, refl, Bool, cond, List, [], ◌∷◌, length, eqb}
use Rattle.std.proofs.Math.Path.{ap}
use Rattle.std.proofs.Common.{subst, ◌∙◌, arith, ne_eqb}
use Rattle.record.specs.Number.{u16_at, numbers_at}
use Rattle.record.specs.Kinds.{sort_number}
use Rattle.record.specs.Sort.{Sort, Sorts, var, par, node}
use Rattle.record.specs.Record.{Fields, sorts_of}
use Rattle.record.specs.Decode.{store_of, sort_at, Stored}
use Rattle.record.specs.Codec.{length-numbers_at}
use Rattle.record.specs.Forms.{Which, is_var, is_par, is_node, which}
use Rattle.record.specs.declared.SortRecord.{SortRecord}
use Rattle.store.specs.Entry.{EntryIs, EntryHas}
use Rattle.store.specs.Walk.{walk-var, walk-one, walk-par, walk-node}
use Rattle.row_answer.specs.declared.heads.Callee.{Callee}

-- A Function's list, plain or under the names of a Par; or no function.
pub data Headed : Type 0 where
  plain_head : Sorts → Headed
  par_head : List ℕ → Sorts → Headed
  other : Headed

abbrev pub head_in : Sort → Headed
head_in (var v) = other
head_in (par ns (var v)) = other
head_in (par ns (par ms b)) = other
head_in (par ns (node k a w ss)) = cond (eqb k 0) (par_head ns ss) other
head_in (node k a w ss) = cond (eqb k 0) (plain_head ss) other

-- By its names: a Par has at least one.
abbrev pub head_over : List ℕ → Sorts → Headed
head_over [] ss = plain_head ss
head_over (v ∷ ns) ss = par_head (v ∷ ns) ss

-- A sort k of some store in these buffers.
pub record KnownIn (b p : List ℕ) (n k : ℕ) : Type 0 where
  pub stored : Stored b p n
  pub known : k < n

abbrev pub HeadAsks : List ℕ → List ℕ → ℕ → Type 0
HeadAsks b p k = (n : ℕ) × KnownIn b p n k

-- The names of a head's parameters, and the sorts of its list, in the store's bytes.
abbrev pub callee_names : List ℕ → Callee → List ℕ
callee_names b f = numbers_at b f.names.at f.names.count

abbrev pub callee_sorts : List ℕ → List ℕ → ℕ → Callee → Sorts
callee_sorts b p n f = sorts_of (store_of b p n) (numbers_at b f.list.at f.list.count)

-- The sort k is the Function f, under a Par where f has names; its list and its names stand in the store's bytes.
pub record FunctionIs (b p : List ℕ) (n k : ℕ) (f : Callee) : Type 0 where
  pub head : head_in (sort_at b p n k) ≡ head_over (callee_names b f) (callee_sorts b p n f)
  pub list : f.list.at + 2 * f.list.count ≤ length b
  pub below : (j : ℕ) → j < f.list.count → u16_at b (f.list.at + 2 * j) < k
  pub few : f.list.count ≤ 64
  pub names : f.names.at + 2 * f.names.count ≤ length b
  pub named : f.names.count ≤ 64

abbrev pub HeadIs : List ℕ → List ℕ → ℕ → ℕ → Option Callee → Type 0
HeadIs b p n k (Some f) = FunctionIs b p n k f
HeadIs b p n k None = head_in (sort_at b p n k) ≡ other

-- Whatever the count of the store's sorts is.
abbrev pub HeadHas : List ℕ → List ℕ → ℕ → Option Callee → Type 0
HeadHas b p k r = (n : ℕ) → Stored b p n → k < n → HeadIs b p n k r

over-some : (b : List ℕ) (y q : ℕ) (ss : Sorts) → 1 ≤ q → par_head (numbers_at b y q) ss ≡ head_over (numbers_at b y q) ss
unfolding numbers_at
over-some b y zero ss h = absurd (omega arith)
over-some b y (suc q) ss h = refl

-- THE HEAD BY WHAT `entry` READ of the sort k, and of the one under it.
module _ (b p : List ℕ) (n k : ℕ) (stored : Stored b p n) (l : k < n) (r : SortRecord) (e : EntryIs b p n k r) where
  pub head_plain : sort_number r.kind ≡ 0 → FunctionIs b p n k (record { list = r.parts; names = record { at = 0; count = 0 } })
  unfolding numbers_at
  head_plain h =
      record {
        head =
            ap head_in (walk-node b p n k stored l r e (λ q. absurd (omega arith)) (λ q. absurd (omega arith)))
            ∙ ap (λ (i : ℕ). head_in (node i r.name r.number (sorts_of (store_of b p n) (numbers_at b r.parts.at r.parts.count)))) h;
        list = e.place.list;
        below = e.below;
        few = e.few;
        names = omega arith;
        named = omega arith;
      }

  pub head-other : (sort_number r.kind ≡ 0 → ⊥) → (sort_number r.kind ≡ 12 → ⊥) → head_in (sort_at b p n k) ≡ other
  head-other z h = go (which (sort_number r.kind))
    where
      go : Which (sort_number r.kind) → head_in (sort_at b p n k) ≡ other
      go (is_var q) = ap head_in (walk-var b p n k stored l r e q)
      go (is_par q) = absurd (h q)
      go (is_node x y) =
          ap head_in (walk-node b p n k stored l r e x y)
          ∙ ap (λ (t : Bool). cond t (plain_head (sorts_of (store_of b p n) (numbers_at b r.parts.at r.parts.count))) other) (ne_eqb (sort_number r.kind) 0 z)

  -- The sort under a Par.
  module _ (h : sort_number r.kind ≡ 12) where
    pub body-place : r.parts.at + 2 ≤ length b
    body-place = omega (arith, e.place.list, walk-one b p n k stored l r e h)

    pub body_below : u16_at b r.parts.at < k
    body_below =
        let q : r.parts.at + 2 * 0 ≡ r.parts.at = omega arith in
        subst (λ (x : ℕ). u16_at b x < k) q (e.below 0 (omega (arith, walk-one b p n k stored l r e h)))

    -- What `entry` read of it, by the number that was read there.
    pub body_entry : (i : ℕ) → i ≡ u16_at b r.parts.at → (c : SortRecord) → EntryHas b p i c → EntryIs b p n (u16_at b r.parts.at) c
    body_entry i q c has = subst (λ (j : ℕ). EntryIs b p n j c) q (has n stored (omega (arith, body_below)))

    names-some : 1 ≤ r.names.count
    names-some =
        omega (
          arith,
          (stored.each k l).shape.some (ap (λ (f : Fields). f.kind) e.place.same ∙ h),
          ap (λ (f : Fields). length f.names) e.place.same,
          length-numbers_at b r.names.at r.names.count,
        )

    module _ (c : SortRecord) (d : EntryIs b p n (u16_at b r.parts.at) c) where
      pub head-under : sort_number c.kind ≡ 0 → FunctionIs b p n k (record { list = c.parts; names = r.names })
      head-under z =
          let ns = numbers_at b r.names.at r.names.count in
          let ss = sorts_of (store_of b p n) (numbers_at b c.parts.at c.parts.count) in
          let under-it : u16_at b r.parts.at < n = omega (arith, body_below) in
          record {
            head =
                ap head_in
                (walk-par b p n k stored l r e h
                ∙ ap (par ns) (walk-node b p n (u16_at b r.parts.at) stored under-it c d (λ q. absurd (omega arith)) (λ q. absurd (omega arith))))
                ∙ ap (λ (i : ℕ). head_in (par ns (node i c.name c.number ss))) z ∙ over-some b r.names.at r.names.count ss names-some;
            list = d.place.list;
            below = λ j o. omega (arith, d.below j o, body_below);
            few = d.few;
            names = e.place.names;
            named = e.named;
          }

      pub head-none : (sort_number c.kind ≡ 0 → ⊥) → head_in (sort_at b p n k) ≡ other
      head-none z = ap head_in (walk-par b p n k stored l r e h) ∙ go (which (sort_number c.kind))
        where
          ns : List ℕ
          ns = numbers_at b r.names.at r.names.count

          below : u16_at b r.parts.at < n
          below = omega (arith, body_below)

          go : Which (sort_number c.kind) → head_in (par ns (sort_at b p n (u16_at b r.parts.at))) ≡ other
          go (is_var q) = ap (λ (s : Sort). head_in (par ns s)) (walk-var b p n (u16_at b r.parts.at) stored below c d q)
          go (is_par q) = ap (λ (s : Sort). head_in (par ns s)) (walk-par b p n (u16_at b r.parts.at) stored below c d q)
          go (is_node x y) =
              ap (λ (s : Sort). head_in (par ns s)) (walk-node b p n (u16_at b r.parts.at) stored below c d x y)
              ∙ ap (λ (t : Bool). cond t (par_head ns (sorts_of (store_of b p n) (numbers_at b c.parts.at c.parts.count))) other) (ne_eqb (sort_number c.kind) 0 z)
