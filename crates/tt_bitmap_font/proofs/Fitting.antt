-- The characters of a file are within their limits, and their rows are among all rows.
use Rattle.std.proofs.Common.{◌≡◌, refl, ap, ℕ, ◌+◌, ◌≤◌, suc, List, [], ◌∷◌, length, arith}
use Rattle.std.specs.Prelude.{All}
use Rattle.std.proofs.lemmas.Int.{ints}
use Rattle.std.proofs.lemmas.List.Elements.{All-cons, All-head, All-nil, All-tail}
use Rattle.tt_bdf.specs.Bitmap.{bitmap_bytes}
use Rattle.tt_bdf.specs.declared.character.BdfCharacter.{BdfCharacter}
use Rattle.tt_bdf.specs.Extent.{IsLimited}
use Rattle.tt_face.specs.Faces.{Face}
use Rattle.tt_glyphs.specs.declared.told.GlyphEntry.{GlyphEntry}
use Rattle.tt_glyphs.specs.declared.told.Told.{Told}
use Rattle.tt_glyphs.specs.declared.told.Told.TheVariants as told
use Rattle.tt_glyphs.specs.Defects.{EntryFits}
use Rattle.tt_glyphs.specs.Entries.{ToldFits, told_bytes}
use Rattle.tt_bitmap_font.specs.Bitmaps.{CharacterFits, character_by, character_told, characters_by}

nothing_fits : (w code units : ℕ) → CharacterFits w (character_told code units 0 told.Unknown)
nothing_fits w code units = record {
  limits = record { left = omega (arith, ints); top = omega (arith, ints); width = omega arith; height = omega arith };
  within = omega arith;
}

told_fits : (w code units at : ℕ) (t : Told) → ToldFits t → at + told_bytes t ≤ w
    → CharacterFits w (character_told code units at t)
told_fits w code units at told.Unknown fits within = nothing_fits w code units
told_fits w code units at (told.Broken fault) fits within = nothing_fits w code units
told_fits w code units at told.Large fits within = nothing_fits w code units
told_fits w code units at (told.Made m) fits within = record {
  limits = record {
    left = omega (arith, fits.left);
    top = omega (arith, fits.top);
    width = fits.width;
    height = fits.height;
  };
  within = within;
}

pub characters_fit : (face : Face) (w : ℕ) (cs : List ℕ) (es : List GlyphEntry) → All (EntryFits w) es
    → All (CharacterFits w) (characters_by face cs es)
characters_fit face w [] es all = All-nil (CharacterFits w)
characters_fit face w (c ∷ cs) [] all = All-nil (CharacterFits w)
characters_fit face w (c ∷ cs) (e ∷ es) all =
    let one = All-head (EntryFits w) e es all in
    All-cons (CharacterFits w) (character_by face c e) (characters_by face cs es)
    (told_fits w c _ e.at e.told one.told one.within)
    (characters_fit face w cs es (All-tail (EntryFits w) e es all))

pub characters_limited : (w : ℕ) (cs : List BdfCharacter) → All (CharacterFits w) cs → All IsLimited cs
characters_limited w cs all = λ i d below. (all i d below).limits

pub characters_within : (w : ℕ) (cs : List BdfCharacter) → All (CharacterFits w) cs
    → All (λ (c : BdfCharacter). c.at + bitmap_bytes c ≤ w) cs
characters_within w cs all = λ i d below. (all i d below).within

pub characters_counted : (face : Face) (cs : List ℕ) (es : List GlyphEntry) → length es ≡ length cs
    → length (characters_by face cs es) ≡ length cs
characters_counted face [] es same = refl
characters_counted face (c ∷ cs) [] same = same
characters_counted face (c ∷ cs) (e ∷ es) same = ap suc (characters_counted face cs es (omega (arith, same)))
