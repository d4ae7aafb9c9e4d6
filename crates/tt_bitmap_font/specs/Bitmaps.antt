-- No part of a standard: the bitmaps of a file's characters, and the limits of a file (profile).
use Rattle.std.specs.Prelude.{◌≡◌, refl, ℕ, ◌+◌, ◌≤◌, Bool, true, false, ◌||◌, nat_lt, ◌==◌, if◌then◌else◌, pos, List, [], ◌∷◌, ◌++◌, map, zip, codes, Option, Some, None, Result, Ok, Err}
use Rattle.std.specs.List.{list_any}
use Rattle.tt_advances.specs.Found.{units_of}
use Rattle.tt_bdf.specs.Bitmap.{bitmap_bytes}
use Rattle.tt_bdf.specs.declared.character.BdfCharacter.{BdfCharacter}
use Rattle.tt_bdf.specs.Extent.{IsLimited}
use Rattle.tt_core.specs.declared.fault.JobFault.{JobFault}
use Rattle.tt_core.specs.declared.fault.JobFault.TheVariants as job
use Rattle.tt_core.specs.declared.fault.Why.TheVariants as why
use Rattle.tt_core.specs.Faults.{Fault, fault_at}
use Rattle.tt_face.specs.Faces.{Face}
use Rattle.tt_glyphs.specs.declared.told.GlyphEntry.{GlyphEntry}
use Rattle.tt_glyphs.specs.declared.told.Told.{Told}
use Rattle.tt_glyphs.specs.declared.told.Told.TheVariants as told
use Rattle.tt_glyphs.specs.Requests.{Bitmaps}
use Rattle.tt_strike.specs.picture.declared.report.Unfitted.{Unfitted}
use Rattle.tt_bitmap_font.specs.Characters.{glyph_for}

-- the most bytes of all rows
abbrev pub rows_limit : ℕ
rows_limit = 67108864

abbrev pub is_too_large : Told → Bool
is_too_large told.Unknown = false
is_too_large (told.Broken fault) = false
is_too_large told.Large = true
is_too_large (told.Made m) = false

abbrev pub has_large : List GlyphEntry → Bool
has_large es = list_any (λ (e : GlyphEntry). is_too_large e.told) es

-- no glyph is too large, and all rows are few enough
unfoldable pub size_of_rows_tested : Bitmaps → Result (Unit {0}) JobFault
size_of_rows_tested b = if has_large b.entries || nat_lt rows_limit b.wanted then Err job.PictureLarge else Ok tt

-- a character by its code point, its advance in font units, the report of its glyph, and the place of the glyph's rows
abbrev pub character_told : ℕ → ℕ → ℕ → Told → BdfCharacter
character_told code units at (told.Made m) = record {
  code = code;
  units = units;
  advance = m.advance;
  left = m.place.left;
  top = m.place.top;
  width = m.place.width;
  height = m.place.height;
  at = at;
}
character_told code units at t =
    record { code = code; units = units; advance = 0; left = pos 0; top = pos 0; width = 0; height = 0; at = 0 }

abbrev pub character_by : Face → ℕ → GlyphEntry → BdfCharacter
character_by face code e = character_told code (units_of face (glyph_for face.cmap code)) e.at e.told

-- the characters of a file, each with the entry of its glyph
abbrev pub characters_by : Face → List ℕ → List GlyphEntry → List BdfCharacter
characters_by face cs es = map (λ (p : ℕ × GlyphEntry). character_by face p.0 p.1) (zip cs es)

-- a character's bitmap is within its limits and among all rows
pub record CharacterFits (wanted : ℕ) (c : BdfCharacter) : Type 0 where
  pub limits : IsLimited c
  pub within : c.at + bitmap_bytes c ≤ wanted

-- the fault that makes a glyph unfitted
abbrev pub unfitted_fault : Told → Option Fault
unfitted_fault told.Unknown = None
unfitted_fault (told.Broken fault) = None
unfitted_fault told.Large = None
unfitted_fault (told.Made m) = m.unfitted

abbrev pub is_listed : ℕ → List Unfitted → Bool
is_listed g us = list_any (λ (u : Unfitted). u.glyph == g) us

-- a list of unfitted glyphs with one more, if this one has a fault and is not listed yet
abbrev pub with_fault : List Unfitted → ℕ → Option Fault → List Unfitted
with_fault us g None = us
with_fault us g (Some fault) = if is_listed g us then us else us ++ record { glyph = g; fault = fault } ∷ []

abbrev pub with_unfitted : Face → List Unfitted → ℕ × GlyphEntry → List Unfitted
with_unfitted face us p = with_fault us (glyph_for face.cmap p.0) (unfitted_fault p.1.told)

abbrev pub unfitted_after : Face → List Unfitted → List (ℕ × GlyphEntry) → List Unfitted
unfitted_after face us [] = us
unfitted_after face us (p ∷ ps) = unfitted_after face (with_unfitted face us p) ps

-- the distinct unfitted glyphs of a file, in order of first appearance
abbrev pub unfitted_of : Face → List ℕ → List GlyphEntry → List Unfitted
unfitted_of face cs es = unfitted_after face [] (zip cs es)

-- worked values: a glyph with ink, one without, one that is unfitted, and one that is too large
abbrev ink_of_two : Told
ink_of_two = told.Made (record {
  advance = 4;
  advance_left = pos 256;
  place = record { left = pos 1; top = pos 2; width = 2; height = 2 };
  unfitted = None;
})

abbrev no_ink_unfitted : Fault → Told
no_ink_unfitted fault = told.Made (record {
  advance = 4;
  advance_left = pos 256;
  place = record { left = pos 0; top = pos 0; width = 0; height = 0 };
  unfitted = Some fault;
})

abbrev entry_with : ℕ → Told → GlyphEntry
entry_with at t = record { glyph = 1; told = t; at = at }

abbrev two_bytes : List GlyphEntry → Bitmaps
two_bytes es = record { entries = es; wanted = 2; rows = 0xC0 ∷ 0xC0 ∷ [] }

abbrev zero_division : Fault
zero_division = fault_at (codes "glyf") 17 why.DivZero

a_letter : character_told 65 256 0 ink_of_two
    ≡ record { code = 65; units = 256; advance = 4; left = pos 1; top = pos 2; width = 2; height = 2; at = 0 }
a_letter = refl

its_rows_are_few : size_of_rows_tested (two_bytes (entry_with 0 ink_of_two ∷ []))
    ≡ Ok tt
unfolding size_of_rows_tested
its_rows_are_few = refl

one_byte_too_many : size_of_rows_tested (record { entries = []; wanted = 67108865; rows = [] }) ≡ Err job.PictureLarge
unfolding size_of_rows_tested
one_byte_too_many = refl

a_glyph_too_wide : size_of_rows_tested (two_bytes (entry_with 0 ink_of_two ∷ entry_with 2 told.Large ∷ []))
    ≡ Err job.PictureLarge
unfolding size_of_rows_tested
a_glyph_too_wide = refl

a_glyph_of_two_characters : with_fault (with_fault [] 3 (unfitted_fault (no_ink_unfitted zero_division))) 3
    (unfitted_fault (no_ink_unfitted zero_division)) ≡ record { glyph = 3; fault = zero_division } ∷ []
a_glyph_of_two_characters = refl
