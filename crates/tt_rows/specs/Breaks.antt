-- Where a row of a line may end: at blanks, after hyphens and beside ideographs, a short form of Unicode Standard Annex 14
-- (profile).
use Rattle.std.specs.Prelude.{◌≡◌, refl, ℕ, ◌-◌, Bool, true, false, not, ◌&&◌, ◌||◌, nat_lt, if◌then◌else◌, List, [], ◌∷◌, get_or, map}
use Rattle.tt_rows.specs.declared.unit.RowUnit.{RowUnit}
use Rattle.tt_rows.specs.Classes.{begins_no_row, ends_no_row, is_blank, is_digit, is_hyphen, is_ideograph, is_zero_width_space}

-- between characters a and b, where a follows a character that is no blank, or not; the first that holds
unfoldable pub may_break : Bool → ℕ → ℕ → Bool
may_break after_word a b =
    if is_blank a then not (is_blank b)
    else if is_blank b then false
    else if is_zero_width_space a then true
    else if is_hyphen a then after_word && not (is_digit b)
    else (is_ideograph a || is_ideograph b) && (not (begins_no_row b) && not (ends_no_row a))

abbrev pub no_unit : RowUnit
no_unit = record { character = 0; glyph = 0; step = 0; kerned = 0 }

abbrev pub character_at : List RowUnit → ℕ → ℕ
character_at line i = (get_or line i no_unit).character

-- a unit that is no blank stands before the one before unit j
abbrev pub is_after_word : List RowUnit → ℕ → Bool
is_after_word line j = nat_lt 1 j && not (is_blank (character_at line (j - 2)))

-- a row may end before unit j of a line
abbrev pub breaks_before : List RowUnit → ℕ → Bool
breaks_before line j = may_break (is_after_word line j) (character_at line (j - 1)) (character_at line j)

-- worked values: a letter before a blank, a blank before one, and two blanks
at_blanks : may_break true 0x41 0x20 ≡ false
unfolding may_break
at_blanks = refl

after_blanks : map (may_break true 0x20) (0x41 ∷ 0x20 ∷ 0x2D ∷ 0x29 ∷ []) ≡ true ∷ false ∷ true ∷ true ∷ []
unfolding may_break
after_blanks = refl

within_a_word : map (may_break true 0x41) (0x41 ∷ 0x2D ∷ 0x301 ∷ 0x200B ∷ []) ≡ false ∷ false ∷ false ∷ false ∷ []
unfolding may_break is_ideograph
within_a_word = refl

after_a_zero_width_space : map (may_break true 0x200B) (0x41 ∷ 0x20 ∷ []) ≡ true ∷ false ∷ []
unfolding may_break
after_a_zero_width_space = refl

-- a letter, a digit and a blank after a hyphen
after_a_hyphen : map (may_break true 0x2D) (0x41 ∷ 0x31 ∷ 0x20 ∷ []) ≡ true ∷ false ∷ false ∷ []
unfolding may_break
after_a_hyphen = refl

after_a_leading_hyphen : map (λ hyphen. may_break false hyphen 0x41) (0x2D ∷ 0x2010 ∷ []) ≡ false ∷ false ∷ []
unfolding may_break
after_a_leading_hyphen = refl

-- an ideograph before an ideograph, a letter, a full stop of its own kind, a point, and an opening mark
after_an_ideograph : map (may_break true 0x4E2D) (0x6587 ∷ 0x41 ∷ 0x3002 ∷ 0x2E ∷ 0x300C ∷ []) ≡ true ∷ true ∷ false ∷ false ∷ true ∷ []
unfolding may_break is_ideograph begins_no_row ends_no_row
after_an_ideograph = refl

-- after an opening mark, and after a closing one
beside_marks : map (λ a. may_break true a 0x6587) (0x300C ∷ 0x28 ∷ 0x3001 ∷ 0x29 ∷ []) ≡ false ∷ false ∷ true ∷ true ∷ []
unfolding may_break is_ideograph begins_no_row ends_no_row
beside_marks = refl
