-- The steps of a line's glyphs: the pixels from one pen to the next. The step of a glyph has its kerning with the next
-- glyph; both are rounded once, together (profile). Apple TrueType Reference Manual, "The 'hmtx' table".
use Rattle.std.specs.Prelude.{◌≡◌, refl, ℕ, ◌==◌, if◌then◌else◌, ℤ, pos, negsuc, ◌+ℤ◌, ◌*ℤ◌, int_lt, unsigned_abs, List, [], ◌∷◌, ◌++◌, map, Some, None}
use Rattle.tt_core.specs.Numbers.{rounded_quotient}
use Rattle.tt_kern.specs.Feature.{feature_of}
use Rattle.tt_kern.specs.Halves.{reached_within}
use Rattle.tt_kern.specs.KernTable.{kern_sum}
use Rattle.tt_kern.specs.Words.{word, long}
use Rattle.tt_kern.specs.Variation.{no_variation}
use Rattle.tt_metrics.specs.declared.head.LocaFormat.TheVariants.{Short}
use Rattle.tt_metrics.specs.declared.heights.Heights.TheVariants.{Exact}
use Rattle.tt_metrics.specs.Metrics.{Metrics, advance_of, kerning_of, units_per_em_of}

-- a whole number, if it is above a least one
abbrev pub at_least : ℕ → ℤ → ℕ
at_least low n = if int_lt n (pos low) then low else unsigned_abs n

-- the step of an advance and its kerning, both in font units, at a size in pixels per em: their sum rounded to the
-- nearest pixel, a half upwards; no step is negative (profile)
abbrev pub step_of_units : Metrics → ℕ → ℕ → ℤ → ℕ
step_of_units m ppem units kerning =
    at_least 0 (rounded_quotient ((pos units +ℤ kerning) *ℤ pos ppem) (pos (units_per_em_of m)))

-- the step of a glyph by its advance and its kerning
abbrev pub step_in_pixels : Metrics → ℕ → ℕ → ℤ → ℕ
step_in_pixels m ppem g kerning = step_of_units m ppem (advance_of m g) kerning

-- the kerning of a glyph before some others, in font units; the last glyph has none
abbrev pub kerning_before : Metrics → ℕ → List ℕ → ℤ
kerning_before m g [] = pos 0
kerning_before m g (h ∷ hs) = kerning_of m g h

-- each of some glyphs with its step, by a function of the glyph and its kerning
abbrev pub stepped : Metrics → (ℕ → ℤ → ℕ) → List ℕ → List (ℕ × ℕ)
stepped m step [] = []
stepped m step (g ∷ gs) = (g, step g (kerning_before m g gs)) ∷ stepped m step gs

-- the step of a glyph by any advances in font units
abbrev pub step_by_units : Metrics → ℕ → (ℕ → ℕ) → ℕ → ℤ → ℕ
step_by_units m ppem units g kerning = step_of_units m ppem (units g) kerning

-- the glyphs of a line with their steps by the advances of hmtx
abbrev pub linear_line : Metrics → ℕ → List ℕ → List (ℕ × ℕ)
linear_line m ppem gs = stepped m (step_in_pixels m ppem) gs

-- their steps
abbrev pub linear_steps : Metrics → ℕ → List ℕ → List ℕ
linear_steps m ppem gs = map (λ g. g.1) (linear_line m ppem gs)

-- worked values: 1,024 units in an em, and glyphs that are 256 wide
unkerned : Metrics
unkerned = record {
  head = record { units_per_em = 1024; loca_format = Short };
  maxp = record { glyphs = 3; twilight = 0; storage = 0 };
  hhea = record { ascent = pos 256; descent = pos 0; line_gap = pos 0; long_metrics = 1 };
  hmtx = 1 ∷ 0 ∷ 0 ∷ 0 ∷ [];
  heights = Exact;
  kerning = None;
  advances = None;
}

-- a pair of the table kern: two glyphs, and two bytes of its value
pair : ℕ → ℕ → ℕ → ℕ → List ℕ
pair left right high low = 0 ∷ left ∷ 0 ∷ right ∷ high ∷ low ∷ []

-- two pairs: glyphs 1 and 1 with a given value, and glyphs 1 and 2 with 64
kerned : ℕ → ℕ → Metrics
kerned high low = record unkerned {
  kerning = Some (record {
    gpos = [];
    kern = 0 ∷ 0 ∷ 0 ∷ 1 ∷ 0 ∷ 0 ∷ 0 ∷ 26 ∷ 0 ∷ 1 ∷ 0 ∷ 2 ∷ 0 ∷ 0 ∷ 0 ∷ 0 ∷ 0 ∷ 0 ∷ (pair 1 1 high low ++ pair 1 2 0 64);
    variation = no_variation;
  });
}

-- the step of a glyph by its kerning, at 16: -64 is a pixel; -32 is half a pixel, which goes up; then a little more; then
-- more than the advance, and half a pixel less than none
by_kerning : map (step_in_pixels unkerned 16 1) (pos 0 ∷ negsuc 63 ∷ negsuc 31 ∷ negsuc 32 ∷ negsuc 299 ∷ negsuc 287 ∷ pos 32 ∷ [])
    ≡ 4 ∷ 3 ∷ 4 ∷ 3 ∷ 0 ∷ 0 ∷ 5 ∷ []
unfolding unkerned
by_kerning = refl

-- other advances than those of hmtx: 1.5 pixels, and 24 units less; and where glyph 1 is 320 wide, but glyph 2 has none
by_other_units : map (step_of_units unkerned 16 96) (pos 0 ∷ negsuc 23 ∷ []) ≡ 2 ∷ 1 ∷ []
unfolding unkerned
by_other_units = refl

other_advances : stepped (kerned 0xFF 0xC0) (step_by_units (kerned 0xFF 0xC0) 16 (λ g. if g == 1 then 320 else 0)) (1 ∷ 1 ∷ 2 ∷ [])
    ≡ (1, 4) ∷ (1, 6) ∷ (2, 0) ∷ []
unfolding unkerned kerned pair word long feature_of kern_sum reached_within
other_advances = refl

-- without kerning
no_pair : linear_steps unkerned 16 (1 ∷ 1 ∷ []) ≡ 4 ∷ 4 ∷ []
unfolding unkerned
no_pair = refl

no_glyph : linear_line (kerned 0xFF 0xC0) 16 [] ≡ []
no_glyph = refl

-- -64; the last glyph has no kerning
a_pixel_nearer : linear_line (kerned 0xFF 0xC0) 16 (1 ∷ 1 ∷ []) ≡ (1, 3) ∷ (1, 4) ∷ []
unfolding unkerned kerned pair word long feature_of kern_sum reached_within
a_pixel_nearer = refl

-- each pair has its own; glyphs 2 and 1 have none
pair_by_pair : linear_line (kerned 0xFF 0xC0) 16 (1 ∷ 2 ∷ 1 ∷ 1 ∷ []) ≡ (1, 5) ∷ (2, 4) ∷ (1, 3) ∷ (1, 4) ∷ []
unfolding unkerned kerned pair word long feature_of kern_sum reached_within
pair_by_pair = refl

-- -32
half_a_pixel : linear_steps (kerned 0xFF 0xE0) 16 (1 ∷ 1 ∷ []) ≡ 4 ∷ 4 ∷ []
unfolding unkerned kerned pair word long feature_of kern_sum reached_within
half_a_pixel = refl

-- -33
a_little_more : linear_steps (kerned 0xFF 0xDF) 16 (1 ∷ 1 ∷ []) ≡ 3 ∷ 4 ∷ []
unfolding unkerned kerned pair word long feature_of kern_sum reached_within
a_little_more = refl

-- -300
more_than_the_advance : linear_steps (kerned 0xFE 0xD4) 16 (1 ∷ 1 ∷ []) ≡ 0 ∷ 4 ∷ []
unfolding unkerned kerned pair word long feature_of kern_sum reached_within
more_than_the_advance = refl
