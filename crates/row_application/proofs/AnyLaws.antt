-- What a walk over the first n of a list has in its turn, and what `any` over them tells of each.
use Rattle.std.proofs.Common.{ℕ, ◌<◌, ◌≤◌, Bool, true, false, List, length, get_or, take, ◌≡◌, MatchBool, arith, subst, ◌∙◌, length-take-le, get_or-take}
use Rattle.std.proofs.lemmas.List.{get_or_default}
use Rattle.std.specs.List.{HoldsAt, AllWithin}

pub first-turn : (d : List ℕ) (n v k : ℕ) → n ≤ length d → k < length (take n d) → v ≡ get_or (take n d) k v → (k < n) × (v ≡ get_or d k 0)
first-turn d n v k l o e =
    let q : k < n = omega (arith, length-take-le n d l) in
    (q, e ∙ get_or_default (take n d) k v 0 o ∙ get_or-take n d k 0 q)

pub first-any : (Yes No : ℕ → Type 0) (d : List ℕ) (n : ℕ) → n ≤ length d → (r : Bool)
    → MatchBool r ((k : ℕ) × (k < length (take n d)) × HoldsAt Yes (take n d) k) (AllWithin No (take n d) 0 (length (take n d)))
    → MatchBool r ((k : ℕ) × (k < n) × Yes (get_or d k 0)) ((k : ℕ) → k < n → No (get_or d k 0))
first-any Yes No d n l true (k, o, y) = let q : k < n = omega (arith, length-take-le n d l) in (k, q, subst Yes (get_or-take n d k 0 q) (y 0))
first-any Yes No d n l false h = λ k o. subst No (get_or-take n d k 0 o) (h k 0 (omega arith) (omega (arith, length-take-le n d l)))
