-- What a window gives a printer of pieces of 36 bytes: each piece of the text stands in the buffer.
use Rattle.std.specs.Prelude.{ℕ, ◌+◌, ◌*◌, ◌-◌, ◌≤◌, ◌<◌, ◌≡◌, refl, Bool, true, false, List, [], ◌++◌, length, take, drop, leb}
use Rattle.std.proofs.Common.{ap, ◌∙◌, append-nil, arith, leb-true, leb-false, length-drop, drop-drop, length-take-le}
use Rattle.std.proofs.lemmas.List.{take-append-le, drop-append-le}
use Rattle.page_window.specs.Window.{WindowIs}
use Rattle.page_window.specs.declared.Window.{Window}

-- The piece i of what is left of a text, of m pieces that are wanted.
pub window-piece : {t : List ℕ} {skip : ℕ} {o' : List ℕ} {w : Window} (i m : ℕ) → WindowIs t skip (36 * m) o' w → i < m
    → take 36 (drop (36 * i) (drop skip t)) ≡ take 36 (drop (w.lead + 36 * i) (take w.end o'))
window-piece {t} {skip} {o'} {w} i m is l =
    ap (λ (x : List ℕ). take 36 (drop (36 * i) x)) is.is ∙ go (leb (36 * m) (w.end - w.lead)) refl
    ∙ ap (take 36) (drop-drop (36 * i) w.lead (take w.end o'))
  where
    held : List ℕ
    held = drop w.lead (take w.end o')

    long : length held ≡ w.end - w.lead
    long =
        length-drop w.lead (take w.end o')
        ∙ ap (λ (n : ℕ). n - w.lead) (length-take-le w.end o' is.within)

    go : (b : Bool) → leb (36 * m) (w.end - w.lead) ≡ b → take 36 (drop (36 * i) (held ++ is.more)) ≡ take 36 (drop (36 * i) held)
    go true e =
        let fits : 36 * m ≤ w.end - w.lead = leb-true (36 * m) (w.end - w.lead) e in
        ap (take 36) (drop-append-le (36 * i) held is.more (omega (arith, long)))
        ∙ take-append-le 36 (drop (36 * i) held) is.more (omega (arith, long, length-drop (36 * i) held))
    go false e =
        let none : is.more ≡ [] = is.enough (leb-false (36 * m) (w.end - w.lead) e) in
        ap (λ (x : List ℕ). take 36 (drop (36 * i) (held ++ x))) none
        ∙ ap (λ (x : List ℕ). take 36 (drop (36 * i) x)) (append-nil held)
