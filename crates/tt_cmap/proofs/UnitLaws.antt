-- The units of a text: no unit's character is a selector, and a text without selectors has a unit for each character.
use Rattle.std.proofs.Common.{◌≡◌, ℕ, ◌≤◌, true, false, Bool, List, [], ◌∷◌, None, if◌then◌else◌, length, refl, ap, arith}
use Rattle.std.specs.Prelude.{suc, ◌&&◌}
use Rattle.std.specs.List.{All}
use Rattle.std.proofs.lemmas.List.Elements.{All-nil, All-cons, All-head, All-tail}
use Rattle.tt_cmap.specs.declared.units.TextUnit.{TextUnit}
use Rattle.tt_cmap.specs.Units.{is_selector, plain_unit, first_selector, unit_before, units}
use Rattle.tt_cmap.specs.WideLaws.{UnitsHaveCharacters, PlainTextsStay, CharactersAreUnits, UnitsAreFew}

abbrev IsPlain : TextUnit → Type 0
IsPlain u = is_selector u.character ≡ false

one-plain : (is : Bool) (c : ℕ) (cs : List ℕ) (us : List TextUnit) → is_selector c ≡ is → All IsPlain us
    → All IsPlain (if is then us else unit_before true c cs ∷ us)
one-plain true c cs us is all = all
one-plain false c cs us is all = All-cons IsPlain (unit_before true c cs) us is all

pub have-characters : UnitsHaveCharacters
have-characters [] = All-nil IsPlain
have-characters (c ∷ cs) = one-plain (is_selector c) c cs (units true cs) refl (have-characters cs)

abbrev IsNoSelector : ℕ → Type 0
IsNoSelector c = is_selector c ≡ false

no-first : (cs : List ℕ) → All IsNoSelector cs → first_selector cs ≡ None
no-first [] plain = refl
no-first (v ∷ cs) plain = rw (All-head IsNoSelector v cs plain) refl

pub plain-texts : PlainTextsStay
plain-texts [] plain = refl
plain-texts (c ∷ cs) plain =
    let rest = All-tail IsNoSelector c cs plain in
    rw (All-head IsNoSelector c cs plain, no-first cs rest, plain-texts cs rest) refl

pub characters-are-units : CharactersAreUnits
characters-are-units [] = refl
characters-are-units (c ∷ cs) = ap (λ (us : List TextUnit). plain_unit c ∷ us) (characters-are-units cs)

one-more : (is : Bool) (u : TextUnit) (us : List TextUnit) (n : ℕ) → length us ≤ n
    → length (if is then us else u ∷ us) ≤ suc n
one-more true u us n few = omega (arith, few)
one-more false u us n few = omega (arith, few)

pub units-are-few : UnitsAreFew
units-are-few pairs [] = omega arith
units-are-few pairs (c ∷ cs) =
    one-more (pairs && is_selector c) (unit_before pairs c cs) (units pairs cs) (length cs) (units-are-few pairs cs)
