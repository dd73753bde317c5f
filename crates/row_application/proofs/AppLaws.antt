-- The two ways to the answer of an App: refused with everything as it was, and by an equal verdict.
use Prim.Native.Nat.{ℕ}
use mathlib.Core.Path.{◌≡◌, refl}
use mathlib.Core.List.{List}
use Rattle.store.specs.Good.{Good}
use Rattle.row_rules.specs.declared.Cause.{Cause}
use Rattle.row_rules.specs.Verdict.{Verdict, refused}
use Rattle.row_answer.specs.Answer.{Answer}
use Rattle.row_answer.specs.Answer.{refusing}
use Rattle.row_answer.specs.AnswerLaws.{judged-as, answered-as, made-refused}
use Rattle.row_application.specs.Contract.{AppIs}

pub app-refused : {b p ix : List ℕ} {n u : ℕ} {prm imgs bnd : List ℕ} {v : Verdict} {r : Answer} → Good b p ix n u → (o : Cause) → v ≡ refused o → r ≡ refusing o n u
    → AppIs v b p n prm imgs bnd b p ix prm imgs bnd r
app-refused {b} {p} {ix} {n} {u} good o e g =
    record { answer = judged-as e (answered-as g (made-refused b p ix n u good o)); params = refl; images = refl; bound = refl }

pub app-as : {b p : List ℕ} {n : ℕ} {prm imgs bnd b' p' ix' prm' imgs' bnd' : List ℕ} {r : Answer} {v w : Verdict} → v ≡ w
    → AppIs w b p n prm imgs bnd b' p' ix' prm' imgs' bnd' r → AppIs v b p n prm imgs bnd b' p' ix' prm' imgs' bnd' r
app-as e g = record { answer = judged-as e g.answer; params = g.params; images = g.images; bound = g.bound }
