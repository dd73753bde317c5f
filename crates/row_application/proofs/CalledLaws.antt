-- The checked App: what its steps ask, and that each way through them gives the definition's verdict.
use Prim.Native.Nat.{ℕ, zero, suc, ◌+◌, ◌*◌, ◌-◌, ◌≤◌, ◌<◌}
use mathlib.Core.Path.{◌≡◌, refl, sym, ap, ap₂, subst, ◌∙◌}
use mathlib.Core.Bool.{Bool, true, false}
use mathlib.Core.List.{List}
use mathlib.Core.Option.{Option, some}
use native.Mathlib.Omega.{arith}
use lib.Dec.{ltb}
use borrow.Author.Tests.{lt-ltb, le-ltb}
use Rattle.record.specs.Names.{member}
use Rattle.record.specs.Number.{numbers_at}
use Rattle.record.specs.Sort.{Sorts}
use Rattle.record.specs.Decode.{store_of}
use Rattle.substitution.specs.Substitution.{Map, empty, apply}
use Rattle.substitution.specs.Matching.{matches_all, listed_in}
use Rattle.matching_tables.specs.Matched.{Matched, Fits, Misfits, found}
use Rattle.matching_tables.specs.MapLaws.{found-fits, found-misfits}
use Rattle.matching_tables.specs.Tables.{Told, listed, Lists, Added, table_map}
use Rattle.matching_tables.specs.TableLaws.{listed-is, added-back, cleared-map, cleared-mapped, cleared-images, cleared-bound}
use Rattle.matching_tables.specs.Usable.{sorts_at}
use Rattle.matching_tables.specs.Contract.{AddAsks, Answered}
use Rattle.matching.specs.Contract.{MatchAllIs, MatchListsAsk, MatchListsIs}
use Rattle.matching_tables.specs.WalkLaws.{lists-ask}
use Rattle.matching_tables.specs.Entered.{good-usable}
use Rattle.row_rules.specs.declared.Cause.TheVariants.{Count, Misfit, Unassigned}
use Rattle.row_rules.specs.Verdict.{Verdict, sort, refused, need}
use Rattle.row_rules.specs.Lists.{firsts, others, remaining}
use Rattle.check_rules.specs.Checked.{values, delivered, called}
use Rattle.row_answer.specs.Answer.{Answer}
use Rattle.row_answer.specs.declared.heads.Callee.{Callee}
use Rattle.row_answer.specs.Answer.{refusing}
use Rattle.row_answer.specs.AnswerLaws.{judged-as}
use Rattle.row_answer.specs.Heads.{callee_names, callee_sorts}
use Rattle.row_answer.specs.Values.{ValuesHave}
use Rattle.row_instance.specs.Mapped.{mapped-images}
use Rattle.row_application.specs.Contract.{Call, Settled, Fails, AppIs, SettledAllAsks, SettledAllIs, AppFitAsks, AppFitIs, FittedAsks, FittedIs, CallIs, rest_at, delivered_at, CalledAsks, DeliverAsks, DeliverIs, NoNames, PlainAppAsks, PlainAppIs}
use Rattle.std.specs.Prelude.{Result, ⊤}
use Rattle.row_rules.specs.declared.Cause.{Cause}
use Rattle.row_application.specs.Words.{call_in}
use Rattle.row_application.proofs.AppLaws.{app-refused}
use Rattle.row_application.proofs.ListLaws.{count_at, firsts_at, others-at, refs-behind, refs-part}
use Rattle.row_application.proofs.SettledLaws.{settled-remaining}
use Rattle.row_application.proofs.TableLaws.{add-asks, listed-names}

---------------------------------------------------------------- a head at its arguments, by the test of names
module _ (b p : List ℕ) (n x m : ℕ) (a : List ℕ) (k : ℕ) (f : ℕ → Bool) where
  abbrev ss : Sorts
  ss = sorts_at b p n b x m

  abbrev ts : Sorts
  ts = sorts_at b p n a 5 k

  abbrev behind : Verdict
  behind = delivered f (remaining (others ss ts)) (matches_all f (firsts ss ts) ts empty)

  by_count : called f (some ss) ts ≡ need (ltb k m) Count (need (values ts) Misfit behind)
  unfolding called
  by_count =
      ap₂ (λ (i j : ℕ). need (ltb i j) Count (need (values ts) Misfit behind)) (count_at (store_of b p n) a 5 k) (count_at (store_of b p n) b x m)

  called-over : m ≤ k → called f (some ss) ts ≡ refused Count
  called-over l = by_count ∙ ap (λ (z : Bool). need z Count (need (values ts) Misfit behind)) (le-ltb k m l)

  pub called-under : k < m → called f (some ss) ts ≡ need (values ts) Misfit (delivered_at f b p n x m a k)
  called-under l =
      by_count ∙ ap (λ (z : Bool). need z Count (need (values ts) Misfit behind)) (lt-ltb k m l)
      ∙ ap₂ (λ (i o : Sorts). need (values ts) Misfit (delivered f (remaining i) (matches_all f o ts empty)))
      (others-at (store_of b p n) b x m a 5 k (omega arith))
      (firsts_at (store_of b p n) b x m a 5 k (omega arith))

---------------------------------------------------------------- with the names listed
module _ {b p : List ℕ} {n : ℕ} {prm imgs bnd : List ℕ} {x m : ℕ} {a : List ℕ} {k : ℕ} (h : AppFitAsks b p n prm imgs bnd x m a k) where
  -- After matching, whatever it found.
  module _ (l d : List ℕ) (r : Matched) (w : MatchAllIs b p n prm imgs bnd 0 b x a 5 k l d r) where
    abbrev matches_by : (ℕ → Bool) → Option Map
    matches_by f = matches_all f (sorts_at b p n b x k) (sorts_at b p n a 5 k) empty

    found-by : (f : ℕ → Bool) → Told prm f → Answered b p n l d r (matches_by f)
    found-by f t =
        subst (λ (o : Map). Answered b p n l d r (matches_all f (sorts_at b p n b x k) (sorts_at b p n a 5 k) o)) (cleared-map (store_of b p n) imgs bnd)
        (w f t)

    found_as : (q : Matched) → r ≡ q → (f : ℕ → Bool) → Told prm f → Answered b p n l d q (matches_by f)
    found_as q e f t = subst (λ (z : Matched). Answered b p n l d z (matches_by f)) e (found-by f t)

    told : Told prm (listed prm)
    told v = refl

    pub settled-asks : (c : ℕ) → r ≡ Fits c → SettledAllAsks b p n prm l (x + 2 * k) (m - k)
    settled-asks c e =
        record {
          list = record { usable = h.usable; refs = refs-behind k h.list h.fewer };
          table = h.table;
          images = (found_as (Fits c) e (listed prm) told).mapped.tabled.names;
        }

    module _ (c : ℕ) (e : r ≡ Fits c) (t : Bool) (g : SettledAllIs b p n prm l (x + 2 * k) (m - k) t) where
      abbrev θ : Map
      θ = table_map (store_of b p n) l d c

      by-test : (f : ℕ → Bool) → Told prm f → delivered_at f b p n x m a k ≡ need t Unassigned (sort (apply θ (rest_at b p n x m k)))
      by-test f q =
          let found = found_as (Fits c) e f q in
          ap (delivered f (rest_at b p n x m k)) (sym found.result)
          ∙ ap (λ (z : Bool). need z Unassigned (sort (apply θ (rest_at b p n x m k))))
          (settled-remaining f θ (sorts_at b p n b (x + 2 * k) (m - k)) ∙ sym (g f q θ (mapped-images b p n l d c found.mapped)))

      pub fit-settled : t ≡ true → AppFitIs b p n prm x m a k l d (Settled c)
      fit-settled o =
          record {
            mapped = (found_as (Fits c) e (listed prm) told).mapped;
            found = λ f q. sym (found_as (Fits c) e f q).result;
            verdict = λ f q. by-test f q ∙ ap (λ (z : Bool). need z Unassigned (sort (apply θ (rest_at b p n x m k)))) o;
          }

      pub fit-unsettled : t ≡ false → AppFitIs b p n prm x m a k l d (Fails Unassigned c)
      fit-unsettled o =
          record {
            mapped = (found_as (Fits c) e (listed prm) told).mapped;
            found = λ f q. tt;
            verdict = λ f q. by-test f q ∙ ap (λ (z : Bool). need z Unassigned (sort (apply θ (rest_at b p n x m k)))) o;
          }

    pub fit-fails : (c : ℕ) → r ≡ Misfits c → AppFitIs b p n prm x m a k l d (Fails Misfit c)
    fit-fails c e =
        record {
          mapped = (found_as (Misfits c) e (listed prm) told).mapped;
          found = λ f q. tt;
          verdict = λ f q. ap (delivered f (rest_at b p n x m k)) (sym (found_as (Misfits c) e f q).result);
        }

---------------------------------------------------------------- the same, over what is known of the spans
-- The arguments fit, with q names bound; behind as many sorts of the list there are m' from x' on.
pub record FitMatched (b p : List ℕ) (n : ℕ) (prm imgs bnd : List ℕ) (x m : ℕ) (a : List ℕ) (k : ℕ) (prm' l d : List ℕ) (q x' m' : ℕ) : Type 0 where
  pub asks : AppFitAsks b p n prm imgs bnd x m a k
  pub matched : MatchAllIs b p n prm imgs bnd 0 b x a 5 k l d (Fits q)
  pub params : prm' ≡ prm
  pub place : x' ≡ x + 2 * k
  pub many : m' ≡ m - k

module _ {b p : List ℕ} {n : ℕ} {prm imgs bnd : List ℕ} {x m : ℕ} {a : List ℕ} {k : ℕ} (h : AppFitAsks b p n prm imgs bnd x m a k) {z y j : ℕ} (ez : z ≡ 0) (ey : y ≡ 5) (ej : j ≡ k)
    {ks js : List ℕ} (ek : ks ≡ numbers_at b x j) (ea : js ≡ numbers_at a y j) where
  pub match-asked : MatchListsAsk b p n prm imgs bnd z ks js
  match-asked =
      rw (ez, ek, ea, ey, ej)
      (record {
        lists = lists-ask (record { usable = h.usable; left = refs-part k h.list h.fewer; right = h.args });
        table = h.table;
        mapped = cleared-mapped b p n imgs bnd h.cleared;
      })

  module _ {l d : List ℕ} (q : ℕ) (t : Bool) (w : MatchListsIs b p n prm imgs bnd z ks js l d (found q t)) where
    match-is : MatchAllIs b p n prm imgs bnd 0 b x a 5 k l d (found q t)
    match-is = rw (ez, ek, ea, ey, ej) at w

    pub fit-misfits : t ≡ false → AppFitIs b p n prm x m a k l d (Fails Misfit q)
    fit-misfits e = fit-fails h l d (found q t) match-is q (found-misfits q e)

    pub fit-matched : t ≡ true → {prm' : List ℕ} {x' m' : ℕ} → prm' ≡ prm → x' ≡ x + 2 * k → m' ≡ m - k → FitMatched b p n prm imgs bnd x m a k prm' l d q x' m'
    fit-matched e ep ex em =
        record {
          asks = h;
          matched = subst (λ (r : Matched). MatchAllIs b p n prm imgs bnd 0 b x a 5 k l d r) (found-fits q e) match-is;
          params = ep;
          place = ex;
          many = em;
        }

-- What remains of them, looked through.
module _ {b p : List ℕ} {n : ℕ} {prm imgs bnd : List ℕ} {x m : ℕ} {a : List ℕ} {k : ℕ} {prm' l d : List ℕ} {q x' m' : ℕ} (f : FitMatched b p n prm imgs bnd x m a k prm' l d q x' m') where
  pub settled-asked : SettledAllAsks b p n prm' l x' m'
  settled-asked = rw (f.params, f.place, f.many) (settled-asks f.asks l d (Fits q) f.matched q refl)

  module _ {r : Bool} (g : SettledAllIs b p n prm' l x' m' r) where
    settled-is : SettledAllIs b p n prm l (x + 2 * k) (m - k) r
    settled-is = rw (f.params, f.place, f.many) at g

    pub fit-open : r ≡ false → AppFitIs b p n prm x m a k l d (Fails Unassigned q)
    fit-open o = fit-unsettled f.asks l d (Fits q) f.matched q refl r settled-is o

    pub fit-done : r ≡ true → AppFitIs b p n prm x m a k l d (Settled q)
    fit-done o = fit-settled f.asks l d (Fits q) f.matched q refl r settled-is o

---------------------------------------------------------------- listing the names and taking them off
module _ {b p : List ℕ} {n : ℕ} {prm imgs bnd : List ℕ} {f : Callee} {a : List ℕ} {k : ℕ} (h : FittedAsks b p n prm imgs bnd f a k) where
  abbrev vs : List ℕ
  vs = callee_names b f

  pub fitted-add : AddAsks prm b f.names.at f.names.count
  fitted-add = add-asks prm h.fit.table h.zeros b f.names.at f.names.count h.names h.named

  module _ {o : List ℕ} (t : Added prm vs o) where
    pub fitted-lists : Lists o vs
    fitted-lists = listed-names prm h.fit.table h.zeros b f.names.at f.names.count h.names h.named t

    pub fitted-is : {l d : List ℕ} {r : Call} → AppFitIs b p n o f.list.at f.list.count a k l d r → {prm' : List ℕ} → Added prm' vs o
        → FittedIs b p n prm f a k prm' l d r
    fitted-is w {prm'} z =
        record {
          call = record { params = added-back prm vs o prm' t z; mapped = w.mapped; verdict = w.verdict (listed_in vs) (listed-is o vs fitted-lists) };
          found = w.found (listed_in vs) (listed-is o vs fitted-lists);
        }

-- The same tables, the same call.
pub call-moved : {v : Verdict} {b p : List ℕ} {n : ℕ} {prm : List ℕ} {f : Callee} {k : ℕ} {prm' l d : List ℕ} {q : ℕ} (r : Result ⊤ Cause) → CallIs v b p n prm f k prm' l d (call_in q r)
    → {l' d' : List ℕ} {q' : ℕ} → l' ≡ l → d' ≡ d → q' ≡ q → CallIs v b p n prm f k prm' l' d' (call_in q' r)
call-moved r h el ed eq = rw (el, ed, eq) h

pub fitted-moved : {b p : List ℕ} {n : ℕ} {prm : List ℕ} {f : Callee} {a : List ℕ} {k : ℕ} {prm' l d : List ℕ} {q : ℕ} (r : Result ⊤ Cause) → FittedIs b p n prm f a k prm' l d (call_in q r)
    → {l' d' : List ℕ} {q' : ℕ} → l' ≡ l → d' ≡ d → q' ≡ q → FittedIs b p n prm f a k prm' l' d' (call_in q' r)
fitted-moved r h el ed eq = rw (el, ed, eq) h

---------------------------------------------------------------- a head at its arguments
module _ {b p ix : List ℕ} {n u : ℕ} {prm imgs bnd : List ℕ} {f : Callee} {a : List ℕ} {k : ℕ} (h : CalledAsks b p ix n u prm imgs bnd f a k) where
  abbrev names : ℕ → Bool
  names = listed_in (callee_names b f)

  abbrev verdict_of : Verdict
  verdict_of = called names (some (callee_sorts b p n f)) (sorts_at b p n a 5 k)

  pub called-count : f.list.count ≤ k → {r : Answer} → r ≡ refusing Count n u → AppIs verdict_of b p n prm imgs bnd b p ix prm imgs bnd r
  called-count l = app-refused h.good Count (called-over b p n f.list.at f.list.count a k names l)

  -- With parameters, at no more arguments than the list has sorts.
  module _ (l : k ≤ f.list.count) (q : f.names.count ≡ 0 → ⊥) where
    pub fitted-asks : FittedAsks b p n prm imgs bnd f a k
    fitted-asks =
        let blank = h.blank q in
        record {
          fit =
              record {
                usable = good-usable b p ix n u h.good;
                table = blank.table;
                cleared = blank.cleared;
                list = h.list;
                args = h.args;
                fewer = l;
              };
          zeros = blank.zeros;
          names = h.names;
          named = h.named;
        }

    module _ {w : Verdict} {prm' l' d' : List ℕ} {c : Call} (g : CallIs w b p n prm f k prm' l' d' c) where
      pub deliver-asks : DeliverAsks b p ix n u l' d' f k c
      deliver-asks = record { good = h.good; list = h.list; few = h.few; fewer = l; mapped = g.mapped }

      -- THE ANSWER TO THE CALL is the App's, with the tables as they were.
      pub app-delivered : {v : Verdict} → v ≡ w → {b' p' ix' l'' d'' : List ℕ} {r : Answer} → DeliverIs b p n l' d' f k c b' p' ix' l'' d'' r
          → AppIs v b p n prm imgs bnd b' p' ix' prm' l'' d'' r
      app-delivered e {l'' = l''} {d'' = d''} i =
          let blank = h.blank q in
          record {
            answer = judged-as (e ∙ g.verdict) i.answer;
            params = g.params;
            images = cleared-images imgs bnd l'' d'' blank.cleared i.cleared;
            bound = cleared-bound imgs bnd l'' d'' blank.cleared i.cleared;
          }

  module _ (l : k < f.list.count) where
    -- Without parameters.
    pub plain-asks : PlainAppAsks b p ix n u f.list.at f.list.count a k
    plain-asks = record { good = h.good; list = h.list; few = h.few; args = h.args; fewer = l }

    plain-names : (i : ℕ) → i ≡ 0 → NoNames (listed_in (numbers_at b f.names.at i))
    unfolding numbers_at member
    plain-names zero e v = refl
    plain-names (suc i) e v = absurd (omega arith)

    pub called-plain : f.names.count ≡ 0 → {b' p' ix' : List ℕ} {r : Answer} → PlainAppIs b p n f.list.at f.list.count a k b' p' ix' r
        → AppIs verdict_of b p n prm imgs bnd b' p' ix' prm imgs bnd r
    called-plain e g = record { answer = g names (plain-names f.names.count e); params = refl; images = refl; bound = refl }

    -- With parameters, by whether an argument is a Par.
    module _ {t : Bool} (v : ValuesHave b p a 5 k t) where
      by_values : verdict_of ≡ need t Misfit (delivered_at names b p n f.list.at f.list.count a k)
      by_values =
          called-under b p n f.list.at f.list.count a k names l
          ∙ ap (λ (z : Bool). need z Misfit (delivered_at names b p n f.list.at f.list.count a k)) (sym (v n h.good.stored h.args))

      pub called-misfit : t ≡ false → {r : Answer} → r ≡ refusing Misfit n u → AppIs verdict_of b p n prm imgs bnd b p ix prm imgs bnd r
      called-misfit e =
          app-refused h.good Misfit (by_values ∙ ap (λ (z : Bool). need z Misfit (delivered_at names b p n f.list.at f.list.count a k)) e)

      pub called-values : t ≡ true → verdict_of ≡ delivered_at names b p n f.list.at f.list.count a k
      called-values e = by_values ∙ ap (λ (z : Bool). need z Misfit (delivered_at names b p n f.list.at f.list.count a k)) e
