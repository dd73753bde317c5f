-- Examples of the text of numbers and sorts, computed.
use Rattle.std.specs.Prelude.{◌≡◌, refl, [], ◌∷◌}
use Rattle.record.specs.Sort.{var, par, function, atom, bool, int, real, string, reglan, array, bitvec, param_bit_vec, datatype, type, set, tuple, end, ◌then◌}
use Rattle.printout_sort.specs.Text.{ascii, decimal, text}

numbers : (decimal 0 ∷ decimal 9 ∷ decimal 10 ∷ decimal 4095 ∷ decimal 65535 ∷ decimal 4294967295 ∷ [])
    ≡ (ascii "0" ∷ ascii "9" ∷ ascii "10" ∷ ascii "4095" ∷ ascii "65535" ∷ ascii "4294967295" ∷ [])
unfolding decimal
numbers = refl

constants : text (function (bool then int then real then string then reglan then type then end))
    ≡ ascii "(-> Bool Int Real String RegLan Type)"
unfolding text
constants = refl

bits : text (array (bitvec 8) param_bit_vec) ≡ ascii "(Array (_ BitVec 8) (_ BitVec ?))"
unfolding text
bits = refl

atoms : text (atom 5 (atom 7 end then datatype 65535 (atom 0 end then end) then atom 0 (datatype 6 end then end) then end))
    ≡ ascii "(n5 n7 [n65535 ?] (? [n6]))"
unfolding text
atoms = refl

parameters : text (par (1 ∷ 20 ∷ 0 ∷ []) (function (var 1 then set (var 20) then var 0 then end)))
    ≡ ascii "(par (n1 n20 ?) (-> 'n1 (Set 'n20) '?))"
unfolding text
parameters = refl

bare : text (tuple (function end then tuple end then datatype 5 end then end)) ≡ ascii "(Tuple (->) (Tuple) [n5])"
unfolding text
bare = refl
