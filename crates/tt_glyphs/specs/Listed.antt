-- No part of the standard: the entries of a list by its drawn glyphs.
use Rattle.std.specs.Prelude.{◌≡◌, ℕ, ◌<◌, ◌==◌, nat_lt, if◌then◌else◌, List, [], ◌∷◌, length, take, filter, find, map, slice_index, Option, Some, None}
use Rattle.std.specs.List.{sum_by}
use Rattle.tt_picture.specs.Distinct.{distinct}
use Rattle.tt_glyphs.specs.declared.drawing.DrawnGlyph.{DrawnGlyph}
use Rattle.tt_glyphs.specs.declared.told.GlyphEntry.{GlyphEntry}
use Rattle.tt_glyphs.specs.declared.told.Told.{Told}
use Rattle.tt_glyphs.specs.declared.told.Told.TheVariants as told
use Rattle.tt_glyphs.specs.Entries.{bytes_before, told_bytes}

abbrev pub drawn_numbers : List DrawnGlyph → List ℕ
drawn_numbers ds = map (λ (d : DrawnGlyph). d.number) ds

-- the numbers of a list that are below a count
abbrev pub known_of : ℕ → List ℕ → List ℕ
known_of count gs = filter (λ g. nat_lt g count) gs

abbrev pub known_number : ℕ → ℕ → Option ℕ
known_number count g = if nat_lt g count then Some g else None

-- the report of a number by some drawn glyphs
abbrev pub told_among : List DrawnGlyph → ℕ → Told
told_among [] g = told.Unknown
told_among (d ∷ ds) g = if d.number == g then d.told else told_among ds g

-- the bytes of a number by some drawn glyphs; a number that is none of them has none
abbrev pub bytes_among : List DrawnGlyph → ℕ → ℕ
bytes_among ds g = told_bytes (told_among ds g)

-- the entry of a number by some drawn glyphs and the distinct numbers of its list
abbrev pub entry_by : List DrawnGlyph → List ℕ → ℕ → GlyphEntry
entry_by ds gs g = record {
  glyph = g;
  told = told_among ds g;
  at = bytes_before (bytes_among ds) gs g;
}

-- the entry of a number that is no glyph of the font: that of its first place, or a new one
abbrev pub or_new : Option GlyphEntry → ℕ → ℕ → GlyphEntry
or_new (Some e) g end = e
or_new None g end = record { glyph = g; told = told.Unknown; at = end }

abbrev pub unknown_entry : List GlyphEntry → ℕ → ℕ → GlyphEntry
unknown_entry es g end = or_new (find (λ (e : GlyphEntry). e.glyph == g) es) g end

-- number i of a list is next: the entries so far are those of the numbers before it, and their rows end here
pub record IsNextOf (places : List ℕ) (ds : List DrawnGlyph) (gs : List ℕ) (i : ℕ) (es : List GlyphEntry) (g end : ℕ) : Type 0 where
  pub within : i < length gs
  pub number : g ≡ slice_index gs i
  pub drawn : drawn_numbers ds ≡ distinct (known_of (length places) gs)
  pub entries : es ≡ map (entry_by ds (distinct gs)) (take i gs)
  pub ends : end ≡ sum_by (bytes_among ds) (distinct (take i gs))
