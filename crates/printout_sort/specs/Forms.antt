-- The numbers of the forms of a text and of what stands between the word and the parts, as the tables of Pieces.antt have them.
use Rattle.std.specs.Prelude.{ℕ, List, [], ◌∷◌, Option, Some, None}
use Rattle.record.specs.Kinds.{sort_number}
use Rattle.printout_sort.specs.declared.form.Form.{Form}
use Rattle.printout_sort.specs.declared.form.Form.TheVariants.{Of, BareAtom}
use Rattle.printout_sort.specs.declared.form.Inner.{Inner}
use Rattle.printout_sort.specs.declared.form.Inner.TheVariants.{Nothing, Name, Number, Names}

abbrev pub form_number : Form → ℕ
form_number (Of k) = sort_number k
form_number BareAtom = 16

abbrev pub inner_number : Inner → ℕ
inner_number Nothing = 0
inner_number Name = 1
inner_number Number = 2
inner_number Names = 3

-- The text of a bracket, if there is one.
abbrev pub bracket_of : Option ℕ → List ℕ
bracket_of None = []
bracket_of (Some b) = b ∷ []
