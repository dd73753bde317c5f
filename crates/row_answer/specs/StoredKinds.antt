-- The sorts of a store by their kinds: a kind without parts, and one with a list alone.
use Rattle.std.specs.Prelude.{ℕ, ◌<◌, ◌≡◌, List, get_or}
use Rattle.std.proofs.Common.{sym, ap, ◌∙◌, arith}
use Rattle.record.specs.Sort.{Sort, Sorts, end, node, kind_of, parts_of}
use Rattle.record.specs.Record.{Fields, bit, maps, map_of, sorts_of, sort_of}
use Rattle.record.specs.Decode.{fields_at, Shape, store_of, sort_at, Stored}
use Rattle.record.specs.Forms.{Which, is_var, is_par, is_node, which, sort-var, sort-par, sort-other}
use Rattle.record.specs.StoreLaws.{sort-node}

-- A record whose map is 1 is a sort without parts.
plain-fields : (st : List Sort) (f : Fields) (k : ℕ) → Shape f → map_of k ≡ 1 → f.kind ≡ k → sort_of st f ≡ node k 0 0 end
unfolding bit map_of maps sorts_of
plain-fields st f k s m e =
    let t : map_of f.kind ≡ 1 = ap map_of e ∙ m in
    sort-other st f (λ h. let z : 3 ≡ 1 = sym (ap map_of h) ∙ t in absurd (omega arith)) (λ h. let z : 81 ≡ 1 = sym (ap map_of h) ∙ t in absurd (omega arith))
    ∙ ap (λ (i : ℕ). node i f.name f.number (sorts_of st f.list)) e
    ∙ ap (λ (i : ℕ). node k i f.number (sorts_of st f.list)) (s.proper.no_name (ap (bit 2) t))
    ∙ ap (λ (i : ℕ). node k 0 i (sorts_of st f.list)) (s.proper.no_number (ap (bit 4) t))
    ∙ ap (λ (l : List ℕ). node k 0 0 (sorts_of st l)) (s.proper.no_list (ap (bit 16) t))

-- What a record with a list alone stands for.
pub parts-fields : (st : List Sort) (f : Fields) (c : ℕ) → Shape f → map_of c ≡ 17 → f.kind ≡ c → sort_of st f ≡ node c 0 0 (sorts_of st f.list)
unfolding bit map_of maps
parts-fields st f c s m e =
    let t : map_of f.kind ≡ 17 = ap map_of e ∙ m in
    sort-other st f (λ h. let z : 3 ≡ 17 = sym (ap map_of h) ∙ t in absurd (omega arith)) (λ h. let z : 81 ≡ 17 = sym (ap map_of h) ∙ t in absurd (omega arith))
    ∙ ap (λ (i : ℕ). node i f.name f.number (sorts_of st f.list)) e
    ∙ ap (λ (i : ℕ). node c i f.number (sorts_of st f.list)) (s.proper.no_name (ap (bit 2) t))
    ∙ ap (λ (i : ℕ). node c 0 i (sorts_of st f.list)) (s.proper.no_number (ap (bit 4) t))

kind-fields : (st : List Sort) (f : Fields) → kind_of (sort_of st f) ≡ f.kind
kind-fields st f = go (which f.kind)
  where
    go : Which f.kind → kind_of (sort_of st f) ≡ f.kind
    go (is_var e) = ap kind_of (sort-var st f e) ∙ sym e
    go (is_par e) = ap kind_of (sort-par st f e) ∙ sym e
    go (is_node h g) = ap kind_of (sort-other st f h g)

module _ (b p : List ℕ) (n i : ℕ) (s : Stored b p n) (l : i < n) where
  pub kind-read : kind_of (sort_at b p n i) ≡ (fields_at b (get_or p i 0)).kind
  kind-read = ap kind_of (sort-node b p n i s l) ∙ kind-fields (store_of b p n) (fields_at b (get_or p i 0))

  pub kind-plain : (k : ℕ) → map_of k ≡ 1 → kind_of (sort_at b p n i) ≡ k → sort_at b p n i ≡ node k 0 0 end
  kind-plain k m e =
      sort-node b p n i s l ∙ plain-fields (store_of b p n) (fields_at b (get_or p i 0)) k (s.each i l).shape m (sym kind-read ∙ e)

  -- A kind with a list alone: its sort is that of its parts.
  pub kind-parts : (c : ℕ) → map_of c ≡ 17 → kind_of (sort_at b p n i) ≡ c → sort_at b p n i ≡ node c 0 0 (parts_of (sort_at b p n i))
  kind-parts c m h =
      let f = fields_at b (get_or p i 0) in
      let z = sort-node b p n i s l ∙ parts-fields (store_of b p n) f c (s.each i l).shape m (sym kind-read ∙ h) in
      z ∙ ap (λ (ss : Sorts). node c 0 0 ss) (sym (ap parts_of z))
