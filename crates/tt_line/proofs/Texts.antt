-- A text after layout has the glyphs of its units, and a line's pens are the sums of its steps.
use Rattle.std.proofs.Common.{◌≡◌, ◌∙◌, refl, sym, ap, ap₂, ℕ, ◌<◌, ◌≤◌, Bool, true, false, ◌||◌, ◌==◌, if◌then◌else◌, nat_lt, pos, int_lt, List, [], ◌∷◌, chars, length, map, slice_index, take, Result, Ok, Err, arith}
use Rattle.std.proofs.lemmas.List.{take-take}
use Rattle.std.proofs.lemmas.List.FromFn.{get_or-map-range_with_len}
use Rattle.std.proofs.lemmas.List.Sums.{sum_by_more, sum_by-take-le}
use Rattle.std.proofs.lemmas.List.{take_all}
use Rattle.tt_core.specs.declared.fault.JobFault.{JobFault}
use Rattle.tt_core.specs.declared.fault.JobFault.TheVariants as job
use Rattle.tt_core.specs.Limits.{height_limit, width_limit}
use Rattle.tt_core.specs.Chains.{came-through}
use Rattle.tt_cmap.specs.declared.units.TextUnit.{TextUnit}
use Rattle.tt_cmap.specs.Lookup.{glyph_of}
use Rattle.tt_cmap.specs.Maps.{strict, wide, glyph_of_unit}
use Rattle.tt_cmap.specs.Units.{plain_unit}
use Rattle.tt_cmap.specs.WideLookup.{wide_glyph_of}
use Rattle.tt_cmap.proofs.UnitLaws.{plain-texts, characters-are-units}
use Rattle.tt_line.specs.Laws.{AdvancesAreSteps, PlacesGlyphs, PlainTextsKeepGlyphs, StepsLead, StrictTexts}
use Rattle.tt_line.specs.declared.extent.PictureExtent.{PictureExtent}
use Rattle.tt_line.specs.Layout.{extent_by, extent_of, pen_at, placed_in, rise_of, text_glyphs, within_limits, placement}
use Rattle.tt_line.proofs.Pens.{glyphs_by_steps, length-at_pens}
use Rattle.tt_line.specs.Steps.{linear_steps}

pub glyphs-are-placed : PlacesGlyphs
unfolding placement
glyphs-are-placed m lookup text ppem margin line was =
    let glyphs = text_glyphs lookup text in
    let by_extent = came-through (within_limits (extent_of m ppem margin glyphs)) _ line was in
    let is : placed_in glyphs (linear_steps m ppem glyphs) (rise_of m ppem) by_extent.value ≡ line = let rest = by_extent.rest in cc in
    rw (← is) (glyphs_by_steps glyphs (linear_steps m ppem glyphs))

-- an extent that is not refused is unchanged
same_extent : (empty large : Bool) (e f : PictureExtent)
    → ◌≡◌ {A = Result PictureExtent JobFault}
    (if empty then Err job.EmptyPicture else (if large then Err job.PictureLarge else Ok e)) (Ok f)
    → f ≡ e
same_extent true large e f was = absurd cc
same_extent false true e f was = absurd cc
same_extent false false e f was = let same : e ≡ f = cc in sym same

within_same : (e f : PictureExtent) → within_limits e ≡ Ok f → f ≡ e
unfolding within_limits
within_same e f was = same_extent ((e.width == 0) || int_lt e.height (pos 1))
    (nat_lt width_limit e.width || int_lt (pos height_limit) e.height) e f was

rising_pens : (steps : List ℕ) (i j : ℕ) → i ≤ j → pen_at steps i ≤ pen_at steps j
rising_pens steps i j below =
    let front : take i (take j steps) ≡ take i steps = take-take i j steps below in
    rw (← front) (sum_by-take-le (λ n. n) (take j steps) i)

pub steps-lead : StepsLead
steps-lead glyphs steps margin rise depth line was =
    let by_extent = came-through (within_limits (extent_by steps margin rise depth)) _ line was in
    let is : placed_in glyphs steps rise by_extent.value ≡ line = let rest = by_extent.rest in cc in
    let same = within_same (extent_by steps margin rise depth) by_extent.value by_extent.first in
    rw (← is, same) (record {
      numbers = glyphs_by_steps glyphs steps;
      first = refl;
      next = λ i within. sum_by_more (λ n. n) steps i 0 within;
      last = rw (take_all (length steps) steps (omega arith)) refl;
      pens = λ i within.
          let below : i < length glyphs = let n = length-at_pens glyphs steps in omega arith in
          ap (λ (p : ℕ × ℕ). p.1) (get_or-map-range_with_len (λ k. (slice_index glyphs k, pen_at steps k)) 0 (length glyphs) i i (0, 0) below (omega arith));
      rising = rising_pens steps;
    })

pub advances-are-steps : AdvancesAreSteps
advances-are-steps m ppem margin glyphs = refl

-- each character of a text is a unit
mapped : (f : TextUnit → ℕ) (cs : List ℕ) → map f (map plain_unit cs) ≡ map (λ c. f (plain_unit c)) cs
mapped f [] = refl
mapped f (c ∷ cs) = ap (λ (gs : List ℕ). f (plain_unit c) ∷ gs) (mapped f cs)

pub strict-texts : StrictTexts
strict-texts m text =
    let f = glyph_of_unit (strict m) in
    ap (λ (us : List TextUnit). map f us) (characters-are-units (chars text)) ∙ mapped f (chars text)

same-glyphs : (f g : ℕ → ℕ) (cs : List ℕ) → ((c : ℕ) → f c ≡ g c) → map f cs ≡ map g cs
same-glyphs f g [] same = refl
same-glyphs f g (c ∷ cs) same = ap₂ (λ (d : ℕ) (ds : List ℕ). d ∷ ds) (same c) (same-glyphs f g cs same)

pub plain-texts-keep : PlainTextsKeepGlyphs
plain-texts-keep m w text same plain =
    let cs = chars text in
    let f = glyph_of_unit (strict m) in
    let g = glyph_of_unit (wide w) in
    ap (λ (us : List TextUnit). map g us) (plain-texts cs plain) ∙ mapped g cs
    ∙ same-glyphs (wide_glyph_of w) (glyph_of m) cs same ∙ sym (mapped f cs)
    ∙ sym (ap (λ (us : List TextUnit). map f us) (characters-are-units cs))
