-- The inferred App under a Par: what its steps ask, and that each way through them gives the definition's verdict.
use Prim.Native.Nat.{ℕ}
use mathlib.Core.Path.{◌≡◌, sym, ap, subst, ◌∙◌}
use mathlib.Core.List.{List}
use mathlib.Core.Option.{Option}
use native.Mathlib.Omega.{arith}
use Rattle.record.specs.Codec.{length-numbers_at}
use Rattle.record.specs.Number.{numbers_at}
use Rattle.record.specs.Sort.{sizes}
use Rattle.record.specs.Decode.{store_of}
use Rattle.substitution.specs.Substitution.{Map}
use Rattle.substitution.specs.MatchWith.{match_all_with}
use Rattle.std.specs.Prelude.{Bool, true, false, Ok, Err}
use Rattle.matching_tables.specs.Matched.{Matched, Fits, Misfits, found}
use Rattle.matching_tables.specs.MapLaws.{found-fits, found-misfits}
use Rattle.matching_tables.specs.Tables.{Lists, Added, Mapped}
use Rattle.matching_tables.specs.TableLaws.{lists-roomy, added-back, cleared-mapped, cleared-map}
use Rattle.matching_tables.specs.Usable.{sorts_at}
use Rattle.matching_tables.specs.Contract.{count_of}
use Rattle.matching_with.specs.Contract.{WithListsAsk, WithIs, PairsWith, ListsWith}
use Rattle.matching_tables.specs.WalkLaws.{lists-ask}
use Rattle.matching_tables.specs.Contract.{matched_map as found_by}
use Rattle.row_rules.specs.declared.Cause.TheVariants.{Panics}
use Rattle.row_rules.specs.Verdict.{Verdict}
use Rattle.infer_rules.specs.Inferred.{substituted}
use Rattle.row_answer.specs.declared.heads.Callee.{Callee}
use Rattle.row_answer.specs.Heads.{callee_names}
use Rattle.row_application.specs.Contract.{Call, Settled, Fails, rest_at, bound_in, call_of, CallIs, PatternsAsk, ParametricAsks, substituted_at}
use Rattle.row_application.proofs.ListLaws.{refs-part, sizes-first}
use Rattle.row_application.proofs.CalledLaws.{fitted-lists, fitted-asks, call-moved}

---------------------------------------------------------------- matching the arguments
module _ {b p : List ℕ} {n : ℕ} {prm imgs bnd : List ℕ} {f : Callee} {a : List ℕ} {k : ℕ} (h : PatternsAsk b p n prm imgs bnd f a k) where
  abbrev vs : List ℕ
  vs = callee_names b f

  module _ {o : List ℕ} (t : Added prm vs o) where
    lists : Lists o vs
    lists = fitted-lists h.fitted t

    with-asks : WithListsAsk b p n o imgs bnd 0 (numbers_at b f.list.at k) (numbers_at a 5 k)
    with-asks =
        let g = h.fitted.fit in
        record {
          lists = lists-ask (record { usable = g.usable; left = refs-part k g.list g.fewer; right = g.args });
          table = lists.table;
          room =
              lists-roomy o vs (sizes (sorts_at b p n b f.list.at k)) lists
              (omega (arith, length-numbers_at b f.names.at f.names.count, h.small, h.fitted.named));
          mapped = cleared-mapped b p n imgs bnd g.cleared;
        }

    module _ {o' l d : List ℕ} {r : Matched} (w : WithIs b p n o o' l d r (PairsWith b p n imgs bnd 0 b f.list.at a 5 k)) where
      -- The call for what was found, once no name is listed.
      module _ {prm' : List ℕ} (z : Added prm' vs o') where
        abbrev verdict_by : Matched → Verdict
        verdict_by m = substituted (rest_at b p n f.list.at f.list.count k) (found_by (store_of b p n) l d m)

        by-found : substituted_at b p n f a k ≡ verdict_by r
        by-found =
            sym
            (ap (λ (m : Option Map). substituted (rest_at b p n f.list.at f.list.count k) m)
            (w.result vs lists
            ∙ ap (λ (m : Map). match_all_with vs (sorts_at b p n b f.list.at k) (sorts_at b p n a 5 k) m) (cleared-map (store_of b p n) imgs bnd)))

        pub patterns-are : (c : Call) → bound_in c ≡ count_of r → verdict_by r ≡ call_of (store_of b p n) l d (rest_at b p n f.list.at f.list.count k) c
            → CallIs (substituted_at b p n f a k) b p n prm f k prm' l d c
        patterns-are c e g =
            record {
              params = added-back prm vs o prm' t (subst (λ (i : List ℕ). Added prm' vs i) w.params z);
              mapped = subst (λ (i : ℕ). Mapped b p n l d i) (sym e) w.mapped;
              verdict = by-found ∙ g;
            }

        pub patterns-fit : (j : ℕ) → r ≡ Fits j → CallIs (substituted_at b p n f a k) b p n prm f k prm' l d (Settled j)
        patterns-fit j e = patterns-are (Settled j) (sym (ap count_of e)) (ap verdict_by e)

        pub patterns-fail : (j : ℕ) → r ≡ Misfits j → CallIs (substituted_at b p n f a k) b p n prm f k prm' l d (Fails Panics j)
        patterns-fail j e = patterns-are (Fails Panics j) (sym (ap count_of e)) (ap verdict_by e)

---------------------------------------------------------------- the same, over what is known of the tables and the spans
module _ {b p : List ℕ} {n : ℕ} {prm imgs bnd : List ℕ} {f : Callee} {a : List ℕ} {k : ℕ} (h : PatternsAsk b p n prm imgs bnd f a k) {o : List ℕ} (t : Added prm (callee_names b f) o)
    {imgs₁ bnd₁ : List ℕ} {z y j : ℕ} (ei : imgs₁ ≡ imgs) (eb : bnd₁ ≡ bnd) (ez : z ≡ 0) (ey : y ≡ 5) (ej : j ≡ k)
    {ks js : List ℕ} (ek : ks ≡ numbers_at b f.list.at j) (ea : js ≡ numbers_at a y j) where
  pub with-asked : WithListsAsk b p n o imgs₁ bnd₁ z ks js
  with-asked = rw (ei, eb, ez, ek, ea, ey, ej) (with-asks h t)

  module _ {o' l d : List ℕ} (q : ℕ) (g : Bool) (w : WithIs b p n o o' l d (found q g) (ListsWith b p n imgs₁ bnd₁ z ks js)) where
    with-is : WithIs b p n o o' l d (found q g) (PairsWith b p n imgs bnd 0 b f.list.at a 5 k)
    with-is = rw (ei, eb, ez, ek, ea, ey, ej) at w

    module _ {prm' : List ℕ} (v : Added prm' (callee_names b f) o') {l' d' : List ℕ} {q' : ℕ} (el : l' ≡ l) (ed : d' ≡ d) (eq : q' ≡ q) where
      pub pattern-fits : g ≡ true → CallIs (substituted_at b p n f a k) b p n prm f k prm' l' d' (Settled q')
      pattern-fits e = call-moved (Ok tt) (patterns-fit h t with-is v q (found-fits q e)) el ed eq

      pub pattern-fails : g ≡ false → CallIs (substituted_at b p n f a k) b p n prm f k prm' l' d' (Fails Panics q')
      pattern-fails e = call-moved (Err Panics) (patterns-fail h t with-is v q (found-misfits q e)) el ed eq

---------------------------------------------------------------- what remains, with the map applied
pub patterns-ask : {b p ix : List ℕ} {n u : ℕ} {prm imgs bnd : List ℕ} {f : Callee} {a : List ℕ} {k : ℕ} → ParametricAsks b p ix n u prm imgs bnd f a k → PatternsAsk b p n prm imgs bnd f a k
patterns-ask {b} {p} {n = n} {f = f} {k = k} h =
    record {
      fitted = fitted-asks h.called h.fewer h.parameters;
      small = omega (arith, sizes-first (store_of b p n) b f.list.at f.list.count k h.fewer, h.small);
    }
