-- The lines of a label's text, one line more at a time.
use Rattle.std.proofs.Common.{◌≡◌, ◌∙◌, ap, refl, ℕ, ◌+◌, ◌<◌, List, [], ◌∷◌, ◌++◌, length, drop, drop-cons, get_or, chars, add-one, Option, Some, None}
use Rattle.std.specs.Prelude.{find}
use Rattle.std.proofs.lemmas.Str.{chars-nil}
use Rattle.tt_advice.specs.declared.signs.Sign.{Sign}
use Rattle.tt_advice.specs.declared.signs.Sign.TheVariants as sign
use Rattle.tt_advice.specs.Signs.{is_of}
use Rattle.tt_cmap.specs.Lacking.{distinct_after, lacking_of, with_character}
use Rattle.tt_cmap.specs.Maps.{CharacterMap}
use Rattle.tt_line.specs.Labels.{some_line}
use Rattle.tt_render.specs.Labels.{first_sign, lacking_after, lines_lacking, or_later, signs_of}

later_none : (o : Option ℕ) → or_later o None ≡ o
later_none None = refl
later_none (Some c) = refl

later_twice : (a b c : Option ℕ) → or_later a (or_later b c) ≡ or_later (or_later a b) c
later_twice None b c = refl
later_twice (Some x) b c = refl

-- the first character with a sign in some lines and one more
pub sign_more : (which : Sign) (lines : List (List ℕ)) (line : List ℕ)
    → first_sign which (lines ++ line ∷ []) ≡ or_later (first_sign which lines) (find (is_of which) (chars line))
sign_more which [] line = later_none (find (is_of which) (chars line))
sign_more which (l ∷ ls) line =
    let here = find (is_of which) (chars l) in
    ap (λ o. or_later here o) (sign_more which ls line)
    ∙ later_twice here (first_sign which ls) (find (is_of which) (chars line))

-- a line without a sign changes none
without_sign : (which : Sign) (lines : List (List ℕ)) (line : List ℕ) → find (is_of which) (chars line) ≡ None
    → first_sign which (lines ++ line ∷ []) ≡ first_sign which lines
without_sign which lines line none =
    sign_more which lines line ∙ ap (λ o. or_later (first_sign which lines) o) none ∙ later_none (first_sign which lines)

pub signless_more : (lines : List (List ℕ)) (line : List ℕ) → ((s : Sign) → find (is_of s) (chars line) ≡ None)
    → signs_of (lines ++ line ∷ []) ≡ signs_of lines
signless_more lines line none = rw (
  without_sign sign.Control lines line (none sign.Control),
  without_sign sign.RightToLeft lines line (none sign.RightToLeft),
  without_sign sign.Shaped lines line (none sign.Shaped),
  without_sign sign.Joining lines line (none sign.Joining),
) refl

-- an empty line in place of none has no sign
pub signs_of_some : (lines : List (List ℕ)) → signs_of (some_line lines) ≡ signs_of lines
signs_of_some [] = rw chars-nil refl
signs_of_some (l ∷ ls) = refl

-- the characters of one more line without a glyph are listed behind those before
pub lacking_more : (m : CharacterMap) (before : List ℕ) (lines : List (List ℕ)) (line : List ℕ)
    → lacking_after m before (lines ++ line ∷ []) ≡ distinct_after (lacking_after m before lines) (lacking_of m (chars line))
lacking_more m before [] line = refl
lacking_more m before (l ∷ ls) line = lacking_more m (distinct_after before (lacking_of m (chars l))) ls line

-- an empty line in place of none lacks nothing
nothing_lacks : (m : CharacterMap) → lacking_of m [] ≡ []
unfolding lacking_of
nothing_lacks m = refl

pub lacking_of_some : (m : CharacterMap) (lines : List (List ℕ)) → lines_lacking m (some_line lines) ≡ lacking_after m [] lines
lacking_of_some m [] = rw (chars-nil, nothing_lacks m) refl
lacking_of_some m (l ∷ ls) = refl

-- one character more is listed
pub listed_next : (before cs : List ℕ) (i c : ℕ) → i < length cs → c ≡ get_or cs i c
    → distinct_after (with_character before c) (drop (i + 1) cs) ≡ distinct_after before (drop i cs)
listed_next before cs i c below is =
    let whole : drop i cs ≡ get_or cs i c ∷ drop (i + 1) cs = rw add-one (drop-cons cs i c below) in
    let here : drop i cs ≡ c ∷ drop (i + 1) cs = rw (← is) at whole in
    rw here refl
