-- The text of a sort (document 01, "The printout").
use Rattle.std.specs.Prelude.{ℕ, zero, suc, ◌+◌, ◌/◌, ◌%◌, cond, List, [], ◌∷◌, ◌++◌, get_or, eqb}
use Prim.Native.Char.{code}
use Prim.Native.String.{String, [] as empty, ◌∷◌ as ◌before◌}
use Rattle.record.specs.Sort.{Sort, Sorts, var, par, node, end, ◌then◌}

-- The bytes of a quoted text of ASCII characters, in which this file writes 01's.
abbrev pub ascii : String → List ℕ
ascii empty = []
ascii (c before s) = code c ∷ ascii s

-- What stands before the last digit: nothing where the quotient is 0.
abbrev pub ahead : ℕ → (ℕ → List ℕ) → List ℕ
ahead zero rest = []
ahead (suc q) rest = rest (suc q)

-- The digits of a number that has at most as many as the fuel, the last digit last.
unfoldable pub digits : ℕ → ℕ → List ℕ
digits zero n = []
digits (suc f) n = ahead (n / 10) (λ q. digits f q) ++ ((48 + n % 10) ∷ [])

-- A NUMBER IN DECIMAL. A number has at most one digit more than its value says, so that is fuel enough.
unfoldable pub decimal : ℕ → List ℕ
unfolding digits
decimal n = digits (suc n) n

-- "Name 0 is the Rust string "?"; any other name k is "n" then k in decimal."
unfoldable pub name_text : ℕ → List ℕ
unfolding decimal
name_text zero = ascii "?"
name_text (suc k) = ascii "n" ++ decimal (suc k)

-- Names, each behind a blank.
unfoldable pub more_names : List ℕ → List ℕ
unfolding name_text
more_names [] = []
more_names (n ∷ ns) = ascii " " ++ (name_text n ++ more_names ns)

-- The names of "(par (n1) a)", with one blank between two.
unfoldable pub names_text : List ℕ → List ℕ
unfolding more_names
names_text [] = []
names_text (n ∷ ns) = name_text n ++ more_names ns

-- "n5 or (n5 a)": an Atom, from the text of its parts; without parts its bare name.
unfoldable pub atom_text : ℕ → List ℕ → List ℕ
unfolding name_text
atom_text a [] = name_text a
atom_text a (t ∷ ts) = ascii "(" ++ (name_text a ++ ((t ∷ ts) ++ ascii ")"))

-- "other kinds by their names": 3 Bool to 7 RegLan, and 13 Type.
unfoldable pub kind_names : List (List ℕ)
kind_names =
    [] ∷ [] ∷ [] ∷ ascii "Bool" ∷ ascii "Int" ∷ ascii "Real" ∷ ascii "String" ∷ ascii "RegLan" ∷ [] ∷ [] ∷ [] ∷ [] ∷ []
    ∷ ascii "Type" ∷ []

-- The text of a sort that is neither Var nor Par, from its kind, name, number, and the text of its parts, in which each
-- stands behind a blank: "(-> a b), n5 or (n5 a), .. (Array a b), (_ BitVec 8), (_ BitVec ?), [n5 a], .. (Set a),
-- (Tuple a), ..; without parts (->), [n5], (Tuple); other kinds by their names."
unfoldable pub node_text : ℕ → ℕ → ℕ → List ℕ → List ℕ
unfolding atom_text decimal kind_names
node_text k a w ts =
    cond (eqb k 0) (ascii "(->" ++ (ts ++ ascii ")"))
    (cond (eqb k 1) (atom_text a ts)
    (cond (eqb k 8) (ascii "(Array" ++ (ts ++ ascii ")"))
    (cond (eqb k 9) (ascii "(_ BitVec " ++ (decimal w ++ ascii ")"))
    (cond (eqb k 10) (ascii "(_ BitVec ?)")
    (cond (eqb k 11) (ascii "[" ++ (name_text a ++ (ts ++ ascii "]")))
    (cond (eqb k 14) (ascii "(Set" ++ (ts ++ ascii ")"))
    (cond (eqb k 15) (ascii "(Tuple" ++ (ts ++ ascii ")"))
    (get_or kind_names k []))))))))

-- THE TEXT OF A SORT: "Text: (-> a b), n5 or (n5 a), 'n5, '?, Bool, (Array a b), (_ BitVec 8), (_ BitVec ?), [n5 a],
-- (par (n1) a), (Set a), (Tuple a), ..; without parts (->), [n5], (Tuple); other kinds by their names."
unfoldable mutual
  unfolding name_text names_text node_text

  pub text : Sort → List ℕ
  text (var v) = ascii "'" ++ name_text v
  text (par ns b) = ascii "(par (" ++ (names_text ns ++ (ascii ") " ++ (text b ++ ascii ")")))
  text (node k a w ss) = node_text k a w (texts ss)

  -- The sorts of a list, each behind a blank.
  pub texts : Sorts → List ℕ
  texts end = []
  texts (s then ss) = ascii " " ++ (text s ++ texts ss)
