-- What remains of a head's Function at a call: what it asks, and the answer by whether the arguments fit.
use Prim.Native.Nat.{ℕ, ◌+◌, ◌*◌, ◌-◌}
use mathlib.Core.Path.{◌≡◌, refl, ap, subst}
use Rattle.std.specs.Prelude.{Result, Ok, Err, ⊤}
use mathlib.Core.List.{List}
use native.Mathlib.Omega.{arith}
use Rattle.record.specs.Decode.{store_of}
use Rattle.matching_tables.specs.Tables.{table_map, Mapped}
use Rattle.row_rules.specs.declared.Cause.{Cause}
use Rattle.row_answer.specs.Answer.{Answer}
use Rattle.row_answer.specs.declared.heads.Callee.{Callee}
use Rattle.row_answer.specs.Answer.{AnswerIs, refusing}
use Rattle.row_answer.specs.AnswerLaws.{judged-as, made-refused}
use Rattle.row_instance.specs.Rest.{RestAsks, RestIs}
use Rattle.row_instance.specs.Mapped.{mapped-images}
use Rattle.row_application.specs.Contract.{Call, Settled, Fails, rest_at, bound_in, call_of, DeliverAsks}
use Rattle.row_application.specs.Words.{call_in}
use Rattle.row_application.proofs.ListLaws.{refs-behind}

module _ {b p ix : List ℕ} {n u : ℕ} {l d : List ℕ} {f : Callee} {k : ℕ} {c : Call} (h : DeliverAsks b p ix n u l d f k c) where
  pub bound_by : (e : Call) → c ≡ e → Mapped b p n l d (bound_in e)
  bound_by e g = subst (λ (z : Call). Mapped b p n l d (bound_in z)) g h.mapped

  pub rest-asks : RestAsks b p ix n u l (f.list.at + 2 * k) (f.list.count - k)
  rest-asks =
      let r = refs-behind k h.list h.fewer in
      record {
        ready = record { good = h.good; table = record { long = h.mapped.tabled.names; below = h.mapped.below } };
        within = r.within;
        below = r.below;
        few = omega (arith, h.few);
      }

  pub rest-asked : {y j : ℕ} → y ≡ f.list.at + 2 * k → j ≡ f.list.count - k → RestAsks b p ix n u l y j
  rest-asked ey ej = rw (ey, ej) rest-asks

  pub rest-answer : {y j : ℕ} → y ≡ f.list.at + 2 * k → j ≡ f.list.count - k → (q : ℕ) → c ≡ Settled q → {b' p' ix' : List ℕ} {r : Answer} → RestIs b p n l y j b' p' ix' r
      → AnswerIs b p n (call_of (store_of b p n) l d (rest_at b p n f.list.at f.list.count k) c) b' p' ix' r
  rest-answer ey ej q e g =
      judged-as (ap (call_of (store_of b p n) l d (rest_at b p n f.list.at f.list.count k)) e)
      ((rw (ey, ej) at g) (table_map (store_of b p n) l d q) (mapped-images b p n l d q (bound_by (Settled q) e)))

  pub fails-answer : (o : Cause) (q : ℕ) → c ≡ Fails o q → AnswerIs b p n (call_of (store_of b p n) l d (rest_at b p n f.list.at f.list.count k) c) b p ix (refusing o n u)
  fails-answer o q e = judged-as (ap (call_of (store_of b p n) l d (rest_at b p n f.list.at f.list.count k)) e) (made-refused b p ix n u h.good o)

-- As many names are bound as the table has.
pub call-bound : (m : ℕ) (r : Result ⊤ Cause) → bound_in (call_in m r) ≡ m
call-bound m (Ok u) = refl
call-bound m (Err c) = refl
