-- Lists that grow by one element at a time.
use Rattle.std.proofs.Common.{◌≡◌, ◌∙◌, refl, sym, ℕ, ◌+◌, ◌<◌, ◌≤◌, true, false, List, [], ◌∷◌, ◌++◌, length, map, drop, drop-cons, get_or, slice_index, add-one, append_assoc, nat_le}
use Rattle.std.proofs.lemmas.List.{at_drop_all, at_drop_more, map-append}
use Rattle.tt_cmap.specs.Maps.{CharacterMap}
use Rattle.tt_face.specs.Faces.{Face}
use Rattle.tt_glyphs.specs.declared.told.GlyphEntry.{GlyphEntry}
use Rattle.tt_strike.specs.picture.declared.report.Unfitted.{Unfitted}
use Rattle.std.specs.Prelude.{◌==◌}
use Rattle.tt_bdf.specs.declared.character.BdfCharacter.{BdfCharacter}
use Rattle.tt_bitmap_font.specs.Bitmaps.{character_by, has_large, is_listed, is_too_large, unfitted_after, with_unfitted}
use Rattle.tt_bitmap_font.specs.Characters.{below, glyph_for, glyphs_for, lacking_after, with_lacking}

-- the characters of a rising list that are below another one
pub below_goes_on : (c : ℕ) (xs : List ℕ) (i : ℕ) → i < length xs → nat_le c (slice_index xs i) ≡ false
    → below c (drop i xs) ≡ below c (drop (i + 1) xs) + 1
below_goes_on c xs i within is = at_drop_more (below c) xs i 0 within ∙ rw is refl

pub below_ends : (c : ℕ) (xs : List ℕ) (i : ℕ) → i < length xs → nat_le c (slice_index xs i) ≡ true
    → below c (drop i xs) ≡ 0
below_ends c xs i within is = at_drop_more (below c) xs i 0 within ∙ rw is refl

pub below_none : (c : ℕ) (xs : List ℕ) (i : ℕ) → length xs ≤ i → below c (drop i xs) ≡ 0
below_none c xs i past = at_drop_all (below c) xs i past

-- one glyph more
pub glyphs_next : (m : CharacterMap) (before cs : List ℕ) (i c : ℕ) → i < length cs → c ≡ get_or cs i c
    → (before ++ glyph_for m c ∷ []) ++ glyphs_for m (drop (i + 1) cs) ≡ before ++ glyphs_for m (drop i cs)
glyphs_next m before cs i c within is =
    let whole : drop i cs ≡ get_or cs i c ∷ drop (i + 1) cs = rw add-one (drop-cons cs i c within) in
    let here : drop i cs ≡ c ∷ drop (i + 1) cs = rw (← is) at whole in
    rw here (append_assoc before (glyph_for m c ∷ []) (glyphs_for m (drop (i + 1) cs)))

-- one character more that a font may lack
pub lacking_push : (m : CharacterMap) (before cs : List ℕ) (c : ℕ)
    → lacking_after m before (cs ++ c ∷ []) ≡ with_lacking m (lacking_after m before cs) c
lacking_push m before [] c = refl
lacking_push m before (d ∷ ds) c = lacking_push m (with_lacking m before d) ds c

-- the remaining entries decide whether a glyph is too large
pub large_not_here : (es : List GlyphEntry) (i : ℕ) (e : GlyphEntry) → i < length es → e ≡ get_or es i e
    → is_too_large e.told ≡ false → has_large (drop (i + 1) es) ≡ has_large (drop i es)
large_not_here es i e within is other =
    let whole : drop i es ≡ get_or es i e ∷ drop (i + 1) es = rw add-one (drop-cons es i e within) in
    let here : drop i es ≡ e ∷ drop (i + 1) es = rw (← is) at whole in
    rw (here, other) refl

pub large_here : (es : List GlyphEntry) (i : ℕ) (e : GlyphEntry) → i < length es → e ≡ get_or es i e
    → is_too_large e.told ≡ true → has_large (drop i es) ≡ true
large_here es i e within is large =
    let whole : drop i es ≡ get_or es i e ∷ drop (i + 1) es = rw add-one (drop-cons es i e within) in
    let here : drop i es ≡ e ∷ drop (i + 1) es = rw (← is) at whole in
    rw (here, large) refl

pub large_nowhere : (es : List GlyphEntry) (i : ℕ) → length es ≤ i → has_large (drop i es) ≡ false
large_nowhere es i past = at_drop_all has_large es i past

-- the remaining glyphs decide whether a glyph is listed
pub listed_not_here : (g : ℕ) (us : List Unfitted) (i : ℕ) (u : Unfitted) → i < length us → u ≡ get_or us i u
    → (u.glyph == g) ≡ false → is_listed g (drop (i + 1) us) ≡ is_listed g (drop i us)
listed_not_here g us i u within is other =
    let whole : drop i us ≡ get_or us i u ∷ drop (i + 1) us = rw add-one (drop-cons us i u within) in
    let here : drop i us ≡ u ∷ drop (i + 1) us = rw (← is) at whole in
    rw (here, other) refl

pub listed_here : (g : ℕ) (us : List Unfitted) (i : ℕ) (u : Unfitted) → i < length us → u ≡ get_or us i u
    → (u.glyph == g) ≡ true → is_listed g (drop i us) ≡ true
listed_here g us i u within is same =
    let whole : drop i us ≡ get_or us i u ∷ drop (i + 1) us = rw add-one (drop-cons us i u within) in
    let here : drop i us ≡ u ∷ drop (i + 1) us = rw (← is) at whole in
    rw (here, same) refl

pub listed_nowhere : (g : ℕ) (us : List Unfitted) (i : ℕ) → length us ≤ i → is_listed g (drop i us) ≡ false
listed_nowhere g us i past = at_drop_all (is_listed g) us i past

-- the characters of pairs
abbrev pub pair_by : Face → ℕ × GlyphEntry → BdfCharacter
pair_by face p = character_by face p.0 p.1

pub pairs_push : (face : Face) (ps : List (ℕ × GlyphEntry)) (p : ℕ × GlyphEntry)
    → map (pair_by face) ps ++ pair_by face p ∷ [] ≡ map (pair_by face) (ps ++ p ∷ [])
pairs_push face ps p = sym (map-append (pair_by face) ps (p ∷ []))

-- one unfitted glyph more
pub unfitted_push : (face : Face) (us : List Unfitted) (ps : List (ℕ × GlyphEntry)) (p : ℕ × GlyphEntry)
    → unfitted_after face us (ps ++ p ∷ []) ≡ with_unfitted face (unfitted_after face us ps) p
unfitted_push face us [] p = refl
unfitted_push face us (q ∷ qs) p = unfitted_push face (with_unfitted face us q) qs p
