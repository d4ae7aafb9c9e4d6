-- Which characters are never the second of a primary composite: those below U+0300, and all composites. The tables of
-- Unicode are computed.
use Rattle.std.proofs.Common.{◌≡◌, ◌∙◌, refl, sym, ap, ap₂, ℕ, ◌<◌, ◌≤◌, ◌⊎◌, Bool, true, false, ◌||◌, List, [], ◌∷◌, Some, None, inl, inr, arith}
use Rattle.std.proofs.lemmas.Bool.{or_from}
use Rattle.ucd_table.proofs.Computing.{tables}
use Rattle.ucd_table.proofs.Facts.{tree_of, tree_value, tree_value-tree_of}
use Rattle.ucd_table.proofs.RangedFacts.{points_ok, Stepped-at_points}
use Rattle.ucd_normal.specs.Binary.{is_full_composition_exclusion}
use Rattle.ucd_normal.specs.Composition.{IsCompositeOf}
use Rattle.ucd_normal.specs.Decomposition.{decomposition, if_canonical}
use Rattle.ucd_normal.specs.DecompositionRows.{Tag}
use Rattle.ucd_normal.specs.DecompositionRows.Tag.{canonical}
use Rattle.ucd_normal.specs.declared.forms.Form.TheVariants.{Nfc, Nfkd}
use Rattle.ucd_normal.proofs.BinaryLemmas.{is_full_composition_exclusion_stepped}
use Rattle.ucd_normal.proofs.CompositionLemmas.{is_empty}
use Rattle.ucd_normal.proofs.DecompositionLemmas.{decomposition_stepped}
use Rattle.tt_rows.specs.ComposedLaws.{CompositesAreNeverSecond}
use Rattle.unicode_normalization.specs.Compose.{primary_composite}
use Rattle.unicode_normalization.specs.Hangul.{is_syllable}
use Rattle.unicode_normalization.proofs.ComposedForms.{IsComposed-Nfc, never_second as passes_never_second}
use Rattle.unicode_normalization.proofs.ComposeLemmas.{cases_Option}
use Rattle.unicode_normalization.proofs.DecomposeLemmas.{IsCompositeOf-IsTableComposite, is_syllable-IsLv, is_syllable-IsLvt, pick-canonical, primary_composite-some}
use Rattle.unicode_normalization.proofs.HangulLemmas.{IsLv, IsLvt, is_syllable-true}
use Rattle.unicode_normalization.proofs.TableFacts.{entry_of_jamo, nfc_of_latin}

pub latin_never_second : (a b : ℕ) → b < 0x300 → primary_composite a b ≡ None
latin_never_second a b below = passes_never_second Nfc IsComposed-Nfc b (nfc_of_latin b (omega arith) below) a

abbrev Entry : Type 0
Entry = Tag × List ℕ

-- the second character of a pair has no canonical mapping, or is excluded from composition
abbrev plain_second : (ℕ → Bool) → (ℕ → Entry) → ℕ → List ℕ → Bool
plain_second excluded table p (a ∷ b ∷ []) = excluded p || (is_empty (if_canonical (table b)) || excluded b)
plain_second excluded table p _ = true

abbrev entry_plain : (ℕ → Bool) → (ℕ → Entry) → ℕ → Entry → Bool
entry_plain excluded table p entry = plain_second excluded table p (if_canonical entry)

seconds_plain : (p : ℕ) → is_empty (if_canonical (decomposition p)) ≡ false
    → plain_second is_full_composition_exclusion decomposition p (if_canonical (decomposition p)) ≡ true
unfolding tables points_ok decomposition_stepped is_full_composition_exclusion_stepped
seconds_plain p some =
    let excluded = tree_value-tree_of is_full_composition_exclusion is_full_composition_exclusion_stepped in
    let table = tree_value-tree_of decomposition decomposition_stepped in
    ap₂ (λ x y. plain_second x y p (if_canonical (decomposition p))) excluded table
    ∙ Stepped-at_points decomposition decomposition_stepped (λ e. is_empty (if_canonical e))
    (entry_plain (tree_value false (tree_of is_full_composition_exclusion is_full_composition_exclusion_stepped)) (tree_value (canonical, []) (tree_of decomposition decomposition_stepped)))
    refl p some

jamo_unmapped : (x y z : ℕ) → IsCompositeOf x y z → 0x1100 ≤ z → z < 0x1200 → ⊥
jamo_unmapped x y z made low high =
    let none : is_empty (if_canonical (decomposition z)) ≡ true = pick-canonical Nfkd z (entry_of_jamo z low high) in
    let some : is_empty (if_canonical (decomposition z)) ≡ false = ap is_empty made.mapping in
    let clash = sym none ∙ some in cc

both_in_table : (x y z d p : ℕ) → IsCompositeOf x y z → IsCompositeOf d z p → ⊥
both_in_table x y z d p made pair =
    let found : plain_second is_full_composition_exclusion decomposition p (d ∷ z ∷ []) ≡ true =
    ap (plain_second is_full_composition_exclusion decomposition p) (sym pair.mapping) ∙ seconds_plain p (ap is_empty pair.mapping) in
    let plain : (is_empty (if_canonical (decomposition z)) || is_full_composition_exclusion z) ≡ true =
    ap (λ b. b || (is_empty (if_canonical (decomposition z)) || is_full_composition_exclusion z)) (sym pair.allowed) ∙ found in
    let none : (is_empty (if_canonical (decomposition z)) || is_full_composition_exclusion z) ≡ false =
    or_from _ _ (ap is_empty made.mapping) made.allowed in
    let clash = sym plain ∙ none in cc

-- a syllable of Hangul
syllable_apart : (z d p : ℕ) → is_syllable z ≡ true → (IsLv d z p ⊎ IsLvt d z p) ⊎ IsCompositeOf d z p → ⊥
syllable_apart z d p syllable pair =
    let range = is_syllable-true z syllable in
    elim pair [
      | inl hangul ↦
          elim hangul [
            | inl lv ↦ omega (arith, range.0, lv.vowel.1)
            | inr lvt ↦ omega (arith, range.0, lvt.trailing.1)
          ]
      | inr table ↦ let clash = sym syllable ∙ (IsCompositeOf-IsTableComposite d z p table).second_other in cc
    ]

-- a composite of the tables
mapped_apart : (x y z d p : ℕ) → IsCompositeOf x y z → (IsLv d z p ⊎ IsLvt d z p) ⊎ IsCompositeOf d z p → ⊥
mapped_apart x y z d p made pair =
    elim pair [
      | inl hangul ↦
          elim hangul [
            | inl lv ↦ jamo_unmapped x y z made (omega (arith, lv.vowel.0)) (omega (arith, lv.vowel.1))
            | inr lvt ↦ jamo_unmapped x y z made (omega (arith, lvt.trailing.0)) (omega (arith, lvt.trailing.1))
          ]
      | inr table ↦ both_in_table x y z d p made table
    ]

apart : (x y z d p : ℕ) → primary_composite x y ≡ Some z → primary_composite d z ≡ Some p → ⊥
apart x y z d p made joined =
    let pair = primary_composite-some d z p joined in
    elim (primary_composite-some x y z made) [
      | inl hangul ↦
          let syllable : is_syllable z ≡ true =
          elim hangul [ inl lv ↦ is_syllable-IsLv x y z lv | inr lvt ↦ is_syllable-IsLvt x y z lvt ] in
          syllable_apart z d p syllable pair
      | inr table ↦ mapped_apart x y z d p table pair
    ]

pub never_second : CompositesAreNeverSecond
never_second x y z d made =
    elim (cases_Option (primary_composite d z)) [
      | inl none ↦ none
      | inr some ↦ absurd (apart x y z d some.0 made some.1)
    ]
