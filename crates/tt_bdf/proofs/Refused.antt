-- The characters of a file, and why there are none.
use Rattle.std.proofs.Common.{◌≡◌, refl, ℕ, ◌<◌, ◌≤◌, nat_lt, true, false, List, [], ◌∷◌, length, Ok, Err, arith}
use Rattle.std.proofs.lemmas.Bool.Decides.{nat_tests}
use Rattle.tt_bdf.specs.declared.range.CodeRange.{CodeRange}
use Rattle.tt_bdf.specs.Asked.{characters_of, file_characters}
use Rattle.tt_cmap.specs.Maps.{CharacterMap}
use Rattle.tt_core.specs.declared.fault.JobFault.TheVariants as job
use Rattle.tt_core.specs.Limits.{text_limit}

pub too_many : (m : CharacterMap) (rs : List CodeRange) → text_limit < length (characters_of m rs)
    → file_characters m rs ≡ Err job.TextLong
unfolding file_characters
too_many m rs many =
    let is : nat_lt text_limit (length (characters_of m rs)) ≡ true = grind (arith, nat_tests, many) in
    rw is refl

pub no_characters : (m : CharacterMap) (rs : List CodeRange) → characters_of m rs ≡ []
    → file_characters m rs ≡ Err job.EmptyPicture
unfolding file_characters
no_characters m rs none = rw none refl

pub some_characters : (m : CharacterMap) (rs : List CodeRange) (cs : List ℕ) → characters_of m rs ≡ cs → 1 ≤ length cs
    → length cs ≤ text_limit → file_characters m rs ≡ Ok cs
unfolding file_characters
some_characters m rs [] is some few = absurd (omega (arith, some))
some_characters m rs (c ∷ cs) is some few =
    let within : nat_lt text_limit (length (c ∷ cs)) ≡ false = grind (arith, nat_tests, few) in
    rw (is, within) refl
