-- No part of the standard: the names of characters in lines of text.
use Rattle.std.specs.Prelude.{◌≡◌, refl, ℕ, ◌-◌, List, ◌++◌, length, replicate, true, codes}
use Rattle.std.specs.Fmt.{digits}

-- digits, with zeros in front to make at least four
abbrev pub at_least_four : List ℕ → List ℕ
at_least_four ds = replicate (4 - length ds) 48 ++ ds

-- a code point in capital hexadecimal
abbrev pub code_point : ℕ → List ℕ
code_point c = at_least_four (digits 16 true c)

-- `U+NNNN` and a blank before a text
abbrev pub named : ℕ → List ℕ → List ℕ
named c text = codes "U+" ++ (code_point c ++ (codes " " ++ text))

-- a worked value
past_the_first_plane : code_point 0x1F600 ≡ codes "1F600"
unfolding digits
past_the_first_plane = refl
