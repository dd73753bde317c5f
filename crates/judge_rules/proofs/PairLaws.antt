-- Given pairs and their map: it binds the given names and no others, and an assignment keeps the pairs exactly where it keeps the map.
use Rattle.std.specs.Prelude.{ℕ, ◌≡◌, refl, true, false, not, List, [], ◌∷◌}
use Rattle.std.specs.List.{AllByRecursion}
use Rattle.std.proofs.Common.{◌∙◌, eqb-true}
use Rattle.std.proofs.lemmas.Bool.{false≢true}
use Rattle.std.proofs.Math.Dec.{eqb}
use Rattle.std.proofs.Math.Option.{none, some}
use Rattle.record.specs.Sort.{Sort}
use Rattle.record.specs.Names.{member, distinct, all_members}
use Rattle.record.specs.Cases.{and_left, and_right, not-true, eqb-self, by_test, by_option, none-some, clash}
use Rattle.reader.specs.Reader.{rightly_given}
use Rattle.sheet.specs.Sheet.{Binding, given_names}
use Rattle.substitution.specs.Substitution.{Map, find, bound}
use Rattle.substitution.specs.Matching.{Within, Keeps, listed_in}
use Rattle.judge_rules.specs.Questions.{given_map}

-- A name with an image in the map was given.
pub given-member : (gs : List Binding) (v : ℕ) (s : Sort) → find (given_map gs) v ≡ some s → member v (given_names gs) ≡ true
unfolding given_map given_names find member
given-member [] v s f = none-some f
given-member (g ∷ gs) v s f = by_test (eqb g.name v) (λ q. rw q refl) (λ q. rw q (given-member gs v s (rw q at f)))

pub not-given : (gs : List Binding) (v : ℕ) → member v (given_names gs) ≡ false → find (given_map gs) v ≡ none
not-given gs v n = by_option (find (given_map gs) v) (λ q. q) (λ s q. clash (given-member gs v s q) n)

-- And a given name has one.
pub given-bound : (gs : List Binding) (v : ℕ) → member v (given_names gs) ≡ true → bound (given_map gs) v ≡ true
unfolding given_map given_names find member
given-bound [] v b = absurd (false≢true b)
given-bound (g ∷ gs) v b = by_test (eqb g.name v) (λ q. rw q refl) (λ q. rw q (given-bound gs v (rw q at b)))

-- Rightly given names are listed ones, so the map binds listed names only.
all-listed : (us ns : List ℕ) (v : ℕ) → all_members us ns ≡ true → member v us ≡ true → member v ns ≡ true
unfolding all_members member
all-listed [] ns v a m = absurd (false≢true m)
all-listed (u ∷ us) ns v a m =
    by_test (eqb u v)
    (λ q. let z : member u ns ≡ true = and_left (member u ns) (all_members us ns) a in rw (eqb-true u v q) at z)
    (λ q. all-listed us ns v (and_right (member u ns) (all_members us ns) a) (rw q at m))

pub given-within : (ns : List ℕ) (gs : List Binding) → rightly_given (given_names gs) ns ≡ true → Within (listed_in ns) (given_map gs)
unfolding rightly_given
given-within ns gs h v n =
    by_option (find (given_map gs) v)
    (λ q. q)
    (λ s q.
    clash (all-listed (given_names gs) ns v (and_left (all_members (given_names gs) ns) (distinct (given_names gs)) h) (given-member gs v s q)) n)

-- An assignment gives each given name its given sort exactly where it keeps the map.
pub gives-keeps : (gs : List Binding) (θ : Map) → AllByRecursion (λ (g : Binding). find θ g.name ≡ some g.sort) gs → Keeps (given_map gs) θ
unfolding given_map find
gives-keeps [] θ a v s f = none-some f
gives-keeps (g ∷ gs) θ a v s f =
    by_test (eqb g.name v)
    (λ q. let y : some g.sort ≡ some s = rw q at f in let z = eqb-true g.name v q in rw (← z) (a.0 ∙ y))
    (λ q. gives-keeps gs θ a.1 v s (rw q at f))

keeps-once : (gs : List Binding) (θ : Map) → distinct (given_names gs) ≡ true → Keeps (given_map gs) θ
    → AllByRecursion (λ (g : Binding). find θ g.name ≡ some g.sort) gs
unfolding given_map given_names find distinct
keeps-once [] θ d k = tt
keeps-once (g ∷ gs) θ d k =
    let n = g.name in
    let ns = given_names gs in
    let once : member n ns ≡ false = not-true (member n ns) (and_left (not (member n ns)) (distinct ns) d) in (
      k n g.sort (rw (eqb-self n) refl),
      keeps-once gs θ (and_right (not (member n ns)) (distinct ns) d) (λ v s f.
          by_test (eqb n v)
          (λ q. let z : member n ns ≡ true = rw (eqb-true n v q) (given-member gs v s f) in clash z once)
          (λ q. k v s (rw q f))),
    )

pub keeps-gives : (ns : List ℕ) (gs : List Binding) (θ : Map) → rightly_given (given_names gs) ns ≡ true → Keeps (given_map gs) θ
    → AllByRecursion (λ (g : Binding). find θ g.name ≡ some g.sort) gs
unfolding rightly_given
keeps-gives ns gs θ h k = keeps-once gs θ (and_right (all_members (given_names gs) ns) (distinct (given_names gs)) h) k
