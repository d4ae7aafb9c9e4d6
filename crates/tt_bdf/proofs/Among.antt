-- Characters of one advance, and a character among some, one at a time.
use Rattle.std.proofs.Common.{◌≡◌, ◌∙◌, refl, sym, ℕ, ◌+◌, ◌<◌, ◌≤◌, ◌==◌, true, false, List, length, drop, get_or, arith}
use Rattle.std.proofs.lemmas.Bool.Decides.{nat_tests}
use Rattle.std.proofs.lemmas.List.{at_drop_all, at_drop_more}
use Rattle.tt_bdf.specs.Advances.{has_character, have_advance}
use Rattle.tt_bdf.specs.declared.character.BdfCharacter.{BdfCharacter}
use Rattle.tt_bdf.proofs.Nothing.{none}

equal : (a b : ℕ) → a ≡ b → (a == b) ≡ true
equal a b same = grind (arith, nat_tests, same)

unequal : (a b : ℕ) → (a ≡ b → ⊥) → (a == b) ≡ false
unequal a b other = grind (arith, nat_tests, other)

pub same_advance : (n : ℕ) (cs : List BdfCharacter) (i : ℕ) → i < length cs → (get_or cs i none).advance ≡ n
    → have_advance n (drop (i + 1) cs) ≡ have_advance n (drop i cs)
same_advance n cs i below same =
    let is = equal (get_or cs i none).advance n same in
    sym (at_drop_more (have_advance n) cs i none below ∙ rw is refl)

pub other_advance : (n : ℕ) (cs : List BdfCharacter) (i : ℕ) → i < length cs → ((get_or cs i none).advance ≡ n → ⊥)
    → have_advance n (drop i cs) ≡ false
other_advance n cs i below other =
    let is = unequal (get_or cs i none).advance n other in
    at_drop_more (have_advance n) cs i none below ∙ rw is refl

pub all_advance : (n : ℕ) (cs : List BdfCharacter) (i : ℕ) → length cs ≤ i → have_advance n (drop i cs) ≡ true
all_advance n cs i past = at_drop_all (have_advance n) cs i past

pub not_here : (n : ℕ) (cs : List BdfCharacter) (i : ℕ) → i < length cs → ((get_or cs i none).code ≡ n → ⊥)
    → has_character n (drop (i + 1) cs) ≡ has_character n (drop i cs)
not_here n cs i below other =
    let is = unequal (get_or cs i none).code n other in
    sym (at_drop_more (has_character n) cs i none below ∙ rw is refl)

pub here : (n : ℕ) (cs : List BdfCharacter) (i : ℕ) → i < length cs → (get_or cs i none).code ≡ n
    → has_character n (drop i cs) ≡ true
here n cs i below same =
    let is = equal (get_or cs i none).code n same in
    at_drop_more (has_character n) cs i none below ∙ rw is refl

pub nowhere : (n : ℕ) (cs : List BdfCharacter) (i : ℕ) → length cs ≤ i → has_character n (drop i cs) ≡ false
nowhere n cs i past = at_drop_all (has_character n) cs i past
