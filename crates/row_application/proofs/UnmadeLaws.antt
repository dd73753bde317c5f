-- The checked App whose inferred one has no room: the variable of a name, the search for a name bound to its own, whether that counts, and
-- that a call that is not made has the outcome of its verdict.
use Rattle.std.proofs.Common.{MatchBool}
use Rattle.std.proofs.Math.Decide.{dec_lt}
use Prim.Native.Nat.{ℕ, zero, suc, ◌+◌, ◌*◌, ◌-◌, ◌≤◌, ◌<◌}
use mathlib.Core.Path.{◌≡◌, refl, sym, ap, subst, ◌∙◌}
use mathlib.Core.Bool.{Bool, true, false, not, ◌&&◌, and-true}
use mathlib.Core.List.{List}
use mathlib.Core.Option.{Option, some}
use native.Mathlib.Omega.{arith}
use lib.ListN.{length, get_or}
use lib.Dec.{eqb}
use Rattle.record.specs.Kinds.{sort_number}
use Rattle.record.specs.Sort.{Sort, Sorts, var, end, ◌then◌, kind_of, same}
use Rattle.record.specs.SortLaws.{same-other}
use Rattle.record.specs.Cases.{by_test, or-first, or-second}
use Rattle.record.specs.Decode.{store_of, sort_at}
use Rattle.record.specs.declared.SortRecord.{SortRecord}
use Rattle.sheet.specs.Sheet.{Lengths}
use Rattle.store.specs.Good.{Good}
use Rattle.store.specs.Entry.{EntryHas}
use Rattle.substitution.specs.Substitution.{Map, empty, apply}
use Rattle.substitution.specs.Matching.{listed_in}
use Rattle.substitution.specs.Premises.{parless, parless_all}
use Rattle.matching_tables.specs.Tables.{table_map, Mapped}
use Rattle.matching_tables.specs.Usable.{OneAsks, ListAsks, sorts_at}
use Rattle.matching_tables.specs.Entered.{good-usable, entry-var}
use Rattle.row_rules.specs.declared.Cause.{Cause}
use Rattle.row_rules.specs.Verdict.{Verdict, sort}
use Rattle.row_rules.specs.Outcome.{outcome}
use Rattle.row_rules.specs.Lists.{remaining}
use Rattle.infer_rules.specs.Inferred.{substituted}
use Rattle.row_answer.specs.Answer.{Answer}
use Rattle.row_answer.specs.declared.heads.Callee.{Callee}
use Rattle.row_answer.specs.Answer.{AnswerIs}
use Rattle.row_answer.specs.AnswerLaws.{judged-as}
use Rattle.row_answer.specs.Heads.{callee_names}
use Rattle.row_application.specs.Contract.{Call, Settled, Fails, AppIs, Crowded, CalledAsks, rest_at, bound_in, call_of, CallIs, fitted, FoundBy, FittedIs, delivered_at, substituted_at, owned, own_of, OwnAsks, unmade_of}
use Rattle.std.specs.Prelude.{Result, ⊤}
use Rattle.row_application.specs.Words.{call_in}
use Rattle.row_application.proofs.DeliveredLaws.{call-bound}
use Rattle.row_application.proofs.BothLaws.{no_own, withs-fit}
use Rattle.row_application.proofs.ListLaws.{refs-behind}
use Rattle.check_rules.proofs.NearLaws.{withs-alike}

---------------------------------------------------------------- the variable of a name
module _ {b p : List ℕ} {n k : ℕ} (h : OneAsks b p n k) (v : ℕ) {r : SortRecord} (e : EntryHas b p k r) where
  pub var-named : sort_number r.kind ≡ 2 → eqb r.name v ≡ same (sort_at b p n k) (var v)
  unfolding same
  var-named g = ap (λ (s : Sort). same s (var v)) (sym (entry-var b p n k h.usable h.known r e g))

  pub var-other : (sort_number r.kind ≡ 2 → ⊥) → false ≡ same (sort_at b p n k) (var v)
  var-other d = sym (same-other (sort_at b p n k) (var v) (λ q. d ((e n h.usable.stored h.known).kind ∙ ap kind_of q)))

---------------------------------------------------------------- the bound names
module _ (b p : List ℕ) (n : ℕ) (l d : List ℕ) where
  -- Whether the name that was bound in the place k is bound to its own variable.
  abbrev own_at : ℕ → Bool
  own_at k = own_of b p n l (get_or d k 0)

  abbrev owns : ℕ → Bool
  owns m = owned (table_map (store_of b p n) l d m)

  own-some : (m k : ℕ) → k < m → own_at k ≡ true → owns m ≡ true
  unfolding owned table_map sort_at
  own-some zero k o e = absurd (omega arith)
  own-some (suc m) k o e = go (dec_lt k m) (λ i. own-some m k i e)
    where
      go : Dec (k < m) → (k < m → owns m ≡ true) → owns (suc m) ≡ true
      go (yes i) h = or-second (own_at m) (owns m) (h i)
      go (no i) h = let q : k ≡ m = omega arith in or-first (own_at m) (owns m) (rw q at e)

  own-none : (m : ℕ) → ((k : ℕ) → k < m → own_at k ≡ false) → owns m ≡ false
  unfolding owned table_map sort_at
  own-none zero h = refl
  own-none (suc m) h = rw (h m (omega arith)) (own-none m (λ k o. h k (omega arith)))

  pub own-any : (m : ℕ) (r : Bool) → MatchBool r ((k : ℕ) × (k < m) × (own_at k ≡ true)) ((k : ℕ) → k < m → own_at k ≡ false) → r ≡ owns m
  own-any m true h = sym (own-some m h.0 h.1 h.2)
  own-any m false h = sym (own-none m h)

---------------------------------------------------------------- whether it counts
-- What remains has a Par exactly if one of its sorts has.
parless-remaining : (ss : Sorts) → parless (remaining ss) ≡ parless_all ss
unfolding parless
parless-remaining end = refl
parless-remaining (s then end) = sym (and-true (parless s))
parless-remaining (s then (r then rs)) = refl

module _ (b p : List ℕ) (n : ℕ) (l d : List ℕ) (m x y : ℕ) {t : Bool} (g : t ≡ owned (table_map (store_of b p n) l d m)) where
  abbrev sorts : Sorts
  sorts = sorts_at b p n b x y

  pub counts_some : t ≡ true → {r : Bool} → r ≡ parless_all sorts → not r ≡ (owned (table_map (store_of b p n) l d m) && not (parless_all sorts))
  counts_some e w = rw (sym g ∙ e) (ap not w)

---------------------------------------------------------------- the call
-- As many names are bound.
unmade-bound : (t : Bool) (st : List Sort) (l d : List ℕ) (ss : Sorts) (c : Call) → bound_in (unmade_of t st l d ss c) ≡ bound_in c
unmade-bound false st l d ss c = refl
unmade-bound true st l d ss (Settled c) = by_test (owned (table_map st l d c) && not (parless_all ss)) (λ q. rw q refl) (λ q. rw q refl)
unmade-bound true st l d ss (Fails o c) = refl

-- Two verdicts have one outcome over a store.
abbrev Alike : List ℕ → List ℕ → ℕ → Verdict → Verdict → Type 0
Alike b p n v w = (ln : Lengths) → ln.records ≡ length b → ln.places ≡ length p → outcome ln (store_of b p n) v ≡ outcome ln (store_of b p n) w

answer-alike : {b p : List ℕ} {n : ℕ} {v w : Verdict} {b' p' ix' : List ℕ} {r : Answer} → Alike b p n v w → AnswerIs b p n w b' p' ix' r → AnswerIs b p n v b' p' ix' r
answer-alike e g =
    record { good = g.good; long = g.long; wide = g.wide; is = λ ln x y. e ln x y ∙ g.is ln x y; starts = g.starts; left = g.left }

module _ (b p : List ℕ) (n : ℕ) (f : Callee) (a : List ℕ) (k : ℕ) (l d : List ℕ) where
  abbrev st : List Sort
  st = store_of b p n

  abbrev names : ℕ → Bool
  names = listed_in (callee_names b f)

  abbrev verdict_of : Verdict
  verdict_of = delivered_at names b p n f.list.at f.list.count a k

  abbrev left : Sorts
  left = sorts_at b p n b (f.list.at + 2 * k) (f.list.count - k)

  abbrev rest : Sort
  rest = rest_at b p n f.list.at f.list.count k

  -- The sort of a settled call is the inferred one where it binds no name to its own variable,
  settled-inferred : (j : ℕ) → owned (table_map st l d j) ≡ false → fitted names b p n f.list.at a k ≡ some (table_map st l d j) → substituted_at b p n f a k ≡ sort (apply (table_map st l d j) rest)
  settled-inferred j o e =
      ap (λ (m : Option Map). substituted rest m)
      (withs-fit (callee_names b f) (sorts_at b p n b f.list.at k) (sorts_at b p n a 5 k) empty (table_map st l d j) e (no_own (table_map st l d j) o))

  -- and where no Par stands in what remains.
  parless-inferred : (j : ℕ) → parless_all left ≡ true → fitted names b p n f.list.at a k ≡ some (table_map st l d j) → substituted_at b p n f a k ≡ sort (apply (table_map st l d j) rest)
  parless-inferred j o e =
      let (κ, y, z) = withs-alike (callee_names b f) (sorts_at b p n b f.list.at k) (sorts_at b p n a 5 k) (table_map st l d j) rest e (parless-remaining left ∙ o) in
      ap (λ (m : Option Map). substituted rest m) y ∙ ap sort z

  either-inferred : (j : ℕ) → (owned (table_map st l d j) && not (parless_all left)) ≡ false → fitted names b p n f.list.at a k ≡ some (table_map st l d j) → substituted_at b p n f a k ≡ sort (apply (table_map st l d j) rest)
  either-inferred j o e =
      by_test (parless_all left)
      (λ q. parless-inferred j q e)
      (λ q. settled-inferred j (sym (and-true (owned (table_map st l d j))) ∙ ap (λ (t : Bool). owned (table_map st l d j) && not t) (sym q) ∙ o) e)

  -- THE CALL HAS THE OUTCOME OF THE VERDICT.
  alike : (t : Bool) (c : Call) → FoundBy st l d (fitted names b p n f.list.at a k) c → verdict_of ≡ call_of st l d rest c → (t ≡ true → Crowded b p n (substituted_at b p n f a k))
      → Alike b p n verdict_of (call_of st l d rest (unmade_of t st l d left c))
  unfolding outcome
  alike false c g e x ln y z = ap (outcome ln st) e
  alike true (Fails o j) g e x ln y z = ap (outcome ln st) e
  alike true (Settled j) g e x ln y z =
      by_test (owned (table_map st l d j) && not (parless_all left))
      (λ q. rw q (ap (outcome ln st) e))
      (λ q. rw q (ap (outcome ln st) (e ∙ sym (either-inferred j q g)) ∙ x refl ln y z))

pub own-asked : {b p ix : List ℕ} {n u : ℕ} {prm : List ℕ} {f : Callee} {a : List ℕ} {k : ℕ} {prm' l d : List ℕ} {q : ℕ} → Good b p ix n u → (r : Result ⊤ Cause) → FittedIs b p n prm f a k prm' l d (call_in q r)
    → OwnAsks b p n l d q
own-asked {b} {p} {ix} {n} {u} {l = l} {d = d} {q = q} good r g =
    record { usable = good-usable b p ix n u good; mapped = subst (Mapped b p n l d) (call-bound q r) g.call.mapped }

pub rest-asks : {b p ix : List ℕ} {n u : ℕ} {prm imgs bnd : List ℕ} {f : Callee} {a : List ℕ} {k : ℕ} → CalledAsks b p ix n u prm imgs bnd f a k → k ≤ f.list.count → ListAsks b p n b (f.list.at + 2 * k) (f.list.count - k)
rest-asks {b} {p} {ix} {n} {u} {k = k} h few = record { usable = good-usable b p ix n u h.good; refs = refs-behind k h.list few }

module _ {b p : List ℕ} {n : ℕ} {prm : List ℕ} {f : Callee} {a : List ℕ} {k : ℕ} {prm' l d : List ℕ} {c : Call} (g : FittedIs b p n prm f a k prm' l d c) (t : Bool) {r : Call} (e : r ≡ unmade_of t (store_of b p n) l d (sorts_at b p n b (f.list.at + 2 * k) (f.list.count - k)) c) where
  pub unmade-call : CallIs (call_of (store_of b p n) l d (rest_at b p n f.list.at f.list.count k) r) b p n prm f k prm' l d r
  unmade-call =
      record {
        params = g.call.params;
        mapped = subst (Mapped b p n l d) (sym (ap bound_in e ∙ unmade-bound t (store_of b p n) l d (sorts_at b p n b (f.list.at + 2 * k) (f.list.count - k)) c)) g.call.mapped;
        verdict = refl;
      }

  -- THE ANSWER TO WHAT IS LEFT OF THE CALL is the App's.
  pub app-unmade : (t ≡ true → Crowded b p n (substituted_at b p n f a k)) → {v : Verdict} → v ≡ delivered_at (listed_in (callee_names b f)) b p n f.list.at f.list.count a k
      → {imgs bnd b' p' ix' imgs' bnd' : List ℕ} {w : Answer}
      → AppIs (call_of (store_of b p n) l d (rest_at b p n f.list.at f.list.count k) r) b p n prm imgs bnd b' p' ix' prm' imgs' bnd' w → AppIs v b p n prm imgs bnd b' p' ix' prm' imgs' bnd' w
  app-unmade x q i =
      let one =
      subst (λ (z : Call). Alike b p n (delivered_at (listed_in (callee_names b f)) b p n f.list.at f.list.count a k) (call_of (store_of b p n) l d (rest_at b p n f.list.at f.list.count k) z)) (sym e)
      (alike b p n f a k l d t c g.found g.call.verdict x) in
      record { answer = judged-as q (answer-alike one i.answer); params = i.params; images = i.images; bound = i.bound }
