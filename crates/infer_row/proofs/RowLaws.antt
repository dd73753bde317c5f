-- What the arms of a record's row ask, once its arguments' numbers stand in the array; and the row of an App.
use Prim.Native.Nat.{ℕ, ◌≤◌, ◌<◌}
use mathlib.Core.Path.{◌≡◌, refl, sym, ap, ◌∙◌}
use mathlib.Core.Logic.{◌⊎◌, inl, inr}
use mathlib.Core.List.{List}
use native.Mathlib.Omega.{arith}
use Rattle.record.specs.Decode.{store_of}
use Rattle.record.specs.Kinds.{term_number}
use Rattle.store.specs.declared.Store.{Store}
use Rattle.sheet.specs.declared.ReadSheet.{ReadSheet}
use Rattle.matching_tables.specs.declared.names.Names.{Names}
use Rattle.matching_tables.specs.Usable.{sorts_at}
use Rattle.reader.specs.declared.TermRecord.{TermRecord}
use Rattle.infer_rules.specs.Inferred.{inferred_app, inferred}
use Rattle.row_answer.specs.declared.arguments.Args.{Args}
use Rattle.row_answer.specs.Answer.{Answer, AnswerIs}
use Rattle.row_answer.specs.AnswerLaws.{judged-as}
use Rattle.row_parts.specs.Site.{site_over, SiteIs}
use Rattle.row_parts.specs.SiteLaws.{var-owns, as_own, bindings-bound, list-constants, index-constants, count-few, binder-one}
use Rattle.row_application.specs.Contract.{AppIs}
use Rattle.infer_operator.specs.Asks.{ArgumentsAsk}
use Rattle.infer_row.specs.Terms.{constant, variable, qualified, PlainTermAsks, InferComposedAsks, InferAsks}
use Rattle.infer_row.proofs.TermLaws.{site-app}

module _ {s : Store} {names : Names} {z : ReadSheet} {r : TermRecord} {a : Args} (h : InferAsks s names z r a) where
  args-ask : ArgumentsAsk s a
  args-ask =
      record {
        good = s.good;
        few = omega (arith, count-few h.site.asks.standing, h.count);
        room = h.site.asks.room;
        below = λ j l. h.site.below j (omega (arith, h.count, l));
      }

  -- Kinds from 7 to 11.
  pub composed-asks : 7 ≤ term_number r.kind → term_number r.kind ≤ 11 → InferComposedAsks s z r a
  composed-asks l o =
      let t = h.site.asks.standing in
      record {
        args = args-ask;
        count = h.count;
        low = l;
        high = o;
        terms = list-constants t;
        body = λ e. omega (arith, binder-one t e);
        pairs = bindings-bound t;
        indices = index-constants t;
      }

  -- A constant, or a kind with a sort of its own.
  pub plain-asks : (term_number r.kind < 5) ⊎ ((term_number r.kind ≡ 5) ⊎ (term_number r.kind ≡ 12)) → PlainTermAsks s z r
  plain-asks (inl l) = constant l
  plain-asks (inr (inl e)) = variable e (var-owns h.site.asks.standing s.records.now s.places.now e)
  plain-asks (inr (inr e)) = qualified e (as_own h.site.asks.standing s.records.now s.places.now e)

-- An answer that is the verdict on the site, with the tables of names as they were.
pub site-is : {b p : List ℕ} {n : ℕ} {prm imgs bnd s tbl xs : List ℕ} {r : TermRecord} {a b' p' ix' : List ℕ} {q : Answer}
    → AnswerIs b p n (inferred (site_over (store_of b p n) s tbl xs a r)) b' p' ix' q
    → SiteIs inferred b p n prm imgs bnd s tbl xs r a b' p' ix' prm imgs bnd q
site-is h = record { answer = h; params = refl; images = refl; bound = refl }

pub app-is : {b p : List ℕ} {n : ℕ} {prm imgs bnd s tbl xs : List ℕ} {r : TermRecord} {a b' p' ix' prm' imgs' bnd' : List ℕ} {q : Answer} → term_number r.kind ≡ 6 → {m : ℕ} → m ≡ r.list.count
    → AppIs (inferred_app (sorts_at b p n a 3 m)) b p n prm imgs bnd b' p' ix' prm' imgs' bnd' q
    → SiteIs inferred b p n prm imgs bnd s tbl xs r a b' p' ix' prm' imgs' bnd' q
app-is {b} {p} {n} {s = s} {tbl = tbl} {xs = xs} {r = r} {a = a} e {m} c h =
    record {
      answer = judged-as (site-app (site_over (store_of b p n) s tbl xs a r) e ∙ ap (λ (i : ℕ). inferred_app (sorts_at b p n a 3 i)) (sym c)) h.answer;
      params = h.params;
      images = h.images;
      bound = h.bound;
    }
