-- Texts that are written into a buffer at a place: one, one after the other, and what is left of one.
use Rattle.std.specs.Prelude.{ℕ, ◌+◌, ◌-◌, ◌≤◌, ◌<◌, ◌≡◌, refl, List, [], ◌∷◌, ◌++◌, length, set}
use Rattle.std.proofs.Common.{ap, ap₂, subst, ◌∙◌, arith, length-append}
use Rattle.std.proofs.lemmas.Slice.{put_mid-paste}
use Rattle.std.proofs.Math.Seq.{paste-zero, take-length}
use borrow.Rule.Slice.PartMut.{put_mid}
use Rattle.record.specs.Decode.{written}
use Rattle.record.specs.Append.{length-written, written_one, written-more}

-- o' is the buffer o with the text t from `to` on, where it fits, and e is the place behind it.
pub record Wrote (o : List ℕ) (to : ℕ) (t o' : List ℕ) (e : ℕ) : Type 0 where
  pub is : o' ≡ written o to t
  pub next : e ≡ to + length t
  pub fits : to + length t ≤ length o

pub written_none : (o : List ℕ) (u : ℕ) → o ≡ written o u []
unfolding written
written_none o u = paste-zero o u []

pub wrote_none : (o : List ℕ) (to : ℕ) → to ≤ length o → Wrote o to [] o to
wrote_none o to h = record { is = written_none o to; next = omega arith; fits = omega arith }

pub wrote_one : (o : List ℕ) (to v : ℕ) → to < length o → Wrote o to (v ∷ []) (set o to v) (to + 1)
wrote_one o to v h = record { is = written_one o to v h; next = omega arith; fits = omega arith }

pub wrote_as : {o : List ℕ} {to : ℕ} {s t o' : List ℕ} {e : ℕ} → s ≡ t → Wrote o to s o' e → Wrote o to t o' e
wrote_as {o} {to} {s} {t} {o'} {e} q w = subst (λ (x : List ℕ). Wrote o to x o' e) q w

pub wrote-long : {o : List ℕ} {to : ℕ} {t o' : List ℕ} {e : ℕ} → Wrote o to t o' e → length o' ≡ length o
wrote-long {o} {to} {t} w = ap length w.is ∙ length-written o to t w.fits

-- A text in a part of the buffer that is as long as it.
pub wrote_part : {o ys t : List ℕ} {to n : ℕ} → ys ≡ t → n ≡ length t → to + length t ≤ length o → Wrote o to t (put_mid to (to + n - to) o ys) (to + n)
unfolding written
wrote_part {o} {ys} {t} {to} {n} e l h =
    record {
      is = put_mid-paste to (to + n - to) o ys t (length t) e (omega (arith, l)) refl ∙ rw take-length;
      next = omega (arith, l);
      fits = h;
    }

-- A text and the next.
pub wrote-more : {o : List ℕ} {to : ℕ} {s o₁ : List ℕ} {e : ℕ} {t o₂ : List ℕ} {d : ℕ} → Wrote o to s o₁ e → Wrote o₁ e t o₂ d → Wrote o to (s ++ t) o₂ d
wrote-more {o} {to} {s} {o₁} {e} {t} v w =
    record {
      is = w.is ∙ ap₂ (λ (x : List ℕ) (j : ℕ). written x j t) v.is v.next ∙ written-more o to s t v.fits;
      next = omega (arith, v.next, w.next, length-append s t);
      fits = omega (arith, v.next, w.fits, length-append s t, wrote-long v);
    }

-- ROOM FOR TEXTS one after the other: for the first, and for the others behind it.
unfoldable pub total : List (List ℕ) → ℕ
total [] = 0
total (s ∷ ts) = length s + total ts

pub record TextRoom (o : List ℕ) (to : ℕ) (ts : List (List ℕ)) : Type 0 where
  pub fits : to + total ts ≤ length o

pub room-now : {o : List ℕ} {to : ℕ} {s : List ℕ} {ts : List (List ℕ)} → TextRoom o to (s ∷ ts) → to + length s ≤ length o
unfolding total
room-now r = omega (arith, r.fits)

pub room-then : {o : List ℕ} {to : ℕ} {s : List ℕ} {ts : List (List ℕ)} {o₁ : List ℕ} {e : ℕ} → TextRoom o to (s ∷ ts) → Wrote o to s o₁ e → TextRoom o₁ e ts
unfolding total
room-then r w = record { fits = omega (arith, r.fits, w.next, wrote-long w) }

-- A buffer o' in which the rest of a text, written at e, gives o with the whole text at `to`.
pub record TextLeft (o : List ℕ) (to : ℕ) (whole o' : List ℕ) (e : ℕ) (rest : List ℕ) : Type 0 where
  pub same : written o' e rest ≡ written o to whole
  pub next : e + length rest ≡ to + length whole
  pub long : length o' ≡ length o
  pub fits : to + length whole ≤ length o

pub left-start : (o : List ℕ) (to : ℕ) (t : List ℕ) → to + length t ≤ length o → TextLeft o to t o to t
left-start o to t h = record { same = refl; next = refl; long = refl; fits = h }

pub left_step : {o : List ℕ} {to : ℕ} {whole o₁ : List ℕ} {e : ℕ} {s o₂ : List ℕ} {d : ℕ} (rest : List ℕ)
    → TextLeft o to whole o₁ e (s ++ rest) → Wrote o₁ e s o₂ d → TextLeft o to whole o₂ d rest
left_step {o} {to} {whole} {o₁} {e} {s} rest l w =
    record {
      same =
          ap₂ (λ (x : List ℕ) (j : ℕ). written x j rest) w.is w.next ∙ written-more o₁ e s rest w.fits ∙ l.same;
      next = omega (arith, l.next, w.next, length-append s rest);
      long = wrote-long w ∙ l.long;
      fits = l.fits;
    }

pub left-done : {o : List ℕ} {to : ℕ} {whole o' : List ℕ} {e : ℕ} → TextLeft o to whole o' e [] → Wrote o to whole o' e
left-done {o} {to} {whole} {o'} {e} l =
    record { is = written_none o' e ∙ l.same; next = omega (arith, l.next); fits = l.fits }
