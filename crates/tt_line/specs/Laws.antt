-- Lemmas about the definitions. Apple TrueType Reference Manual, "The 'hmtx' table": a line of text.
use Rattle.std.specs.Prelude.{◌≡◌, ℕ, ◌+◌, ◌*◌, ◌<◌, ◌≤◌, ℤ, pos, false, ◌⊎◌, All, List, [], ◌++◌, chars, get_or, length, map, slice_index, take, None, Some, Ok}
use Rattle.tt_cmap.specs.Lookup.{Cmap, glyph_of}
use Rattle.tt_cmap.specs.Maps.{CharacterMap, strict, wide}
use Rattle.tt_cmap.specs.Units.{is_selector}
use Rattle.tt_cmap.specs.WideLookup.{WideCmap, wide_glyph_of}
use Rattle.tt_kern.specs.Variation.{PairVariation}
use Rattle.tt_metrics.specs.Metrics.{Metrics, kerning_of}
use Rattle.tt_line.specs.Layout.{Placement, advance_in_pixels, depth_of, glyph_placement, laid, pen_at, placement, rise_of, text_glyphs}
use Rattle.tt_line.specs.Steps.{linear_line, linear_steps}

-- the placed glyphs of a text after layout are those of its units
abbrev pub PlacesGlyphs : Type 0
PlacesGlyphs = (m : Metrics) (cmap : CharacterMap) (text : List ℕ) (ppem margin : ℕ) (line : Placement)
    → placement m cmap text ppem margin ≡ Ok line → map (λ g. g.0) line.glyphs ≡ text_glyphs cmap text

-- each unit has its glyph, and the pens of a line are the sums of the steps before them: the first is 0, each step
-- leads to the next, and the last step leads to the right margin
pub record ArePens (gs steps : List ℕ) (margin : ℕ) (line : Placement) : Type 0 where
  pub numbers : map (λ g. g.0) line.glyphs ≡ gs
  pub first : pen_at steps 0 ≡ 0
  pub next : (i : ℕ) → i < length steps → pen_at steps (i + 1) ≡ pen_at steps i + slice_index steps i
  pub last : line.width ≡ pen_at steps (length steps) + 2 * margin
  pub pens : (i : ℕ) → i < length line.glyphs → (get_or line.glyphs i (0, 0)).1 ≡ pen_at steps i
  pub rising : (i j : ℕ) → i ≤ j → pen_at steps i ≤ pen_at steps j

-- each line that is laid out by some steps has these pens
abbrev pub StepsLead : Type 0
StepsLead = (glyphs steps : List ℕ) (margin : ℕ) (rise depth : ℤ) (line : Placement)
    → laid glyphs steps margin rise depth ≡ Ok line → ArePens glyphs steps margin line

-- the layout by advances and kerning is the layout by steps, with these as the steps
abbrev pub AdvancesAreSteps : Type 0
AdvancesAreSteps = (m : Metrics) (ppem margin : ℕ) (glyphs : List ℕ) → glyph_placement m ppem margin glyphs
    ≡ laid glyphs (linear_steps m ppem glyphs) margin (rise_of m ppem) (depth_of m ppem)

-- a line whose pairs have no kerning is laid out by the advances alone
abbrev pub UnkernedLinesAdvance : Type 0
UnkernedLinesAdvance = (m : Metrics) (ppem : ℕ) (glyphs : List ℕ) → ((g h : ℕ) → kerning_of m g h ≡ pos 0)
    → linear_line m ppem glyphs ≡ map (λ g. (g, advance_in_pixels m ppem g)) glyphs

-- where pairs are not kerned, and in a font without both tables, no pair has kerning
abbrev pub NoTableNoKerning : Type 0
NoTableNoKerning = (m : Metrics) (v : PairVariation) (g h : ℕ)
    → ((m.kerning ≡ None) ⊎ (m.kerning ≡ Some (record { gpos = []; kern = []; variation = v })))
    → kerning_of m g h ≡ pos 0

-- the glyphs after a line change the step of its last glyph alone
abbrev pub KerningLooksOneAhead : Type 0
KerningLooksOneAhead = (m : Metrics) (ppem : ℕ) (line more : List ℕ) (i : ℕ) → i < length line
    → take i (linear_line m ppem (line ++ more)) ≡ take i (linear_line m ppem line)

-- with the strict reading, each character of a text has its glyph
abbrev pub StrictTexts : Type 0
StrictTexts = (m : Cmap) (text : List ℕ) → text_glyphs (strict m) text ≡ map (glyph_of m) (chars text)

-- a map of the wide reading with the same glyph for each character gives the same glyphs for a text without selectors
abbrev pub PlainTextsKeepGlyphs : Type 0
PlainTextsKeepGlyphs = (m : Cmap) (w : WideCmap) (text : List ℕ) → ((c : ℕ) → wide_glyph_of w c ≡ glyph_of m c)
    → All (λ c. is_selector c ≡ false) (chars text) → text_glyphs (wide w) text ≡ text_glyphs (strict m) text
