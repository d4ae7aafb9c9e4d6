-- No part of the standard: what a file is by the four bytes that stand where a font has its version (profile).
use Rattle.std.specs.Prelude.{◌≡◌, refl, ℕ, Bool, ◌||◌, if◌then◌else◌, List, [], ◌∷◌, length, take, drop, map, codes, bytes_eq}
use Rattle.tt_advice.specs.declared.hint.FixedHint.{FixedHint}
use Rattle.tt_advice.specs.declared.hint.FixedHint.TheVariants as fixed

-- whether some bytes begin with others
abbrev pub begins : List ℕ → List ℕ → Bool
begins bytes with_these = bytes_eq (take (length with_these) bytes) with_these

-- Type 1, in three wrappings
abbrev pub is_type1 : List ℕ → Bool
is_type1 b = begins b (codes "typ1") || begins b (codes "%!PS") || begins b (0x80 ∷ 0x01 ∷ [])

-- BDF and PCF
abbrev pub is_bitmaps : List ℕ → Bool
is_bitmaps b = begins b (codes "STAR") || begins b (0x01 ∷ codes "fcp")

-- OpenType with CFF outlines; WOFF; WOFF2; Type 1; bitmaps; gzip; a page of the web
unfoldable pub kind_of : List ℕ → FixedHint
kind_of b =
    if begins b (codes "OTTO") then fixed.Cff
    else if begins b (codes "wOFF") then fixed.Woff
    else if begins b (codes "wOF2") then fixed.Woff2
    else if is_type1 b then fixed.Type1
    else if is_bitmaps b then fixed.Bitmaps
    else if begins b (0x1F ∷ 0x8B ∷ []) then fixed.Gzip
    else if begins b (codes "<") then fixed.Page
    else fixed.NoFont

-- what a file is by the bytes at an offset
abbrev pub kind_at : List ℕ → ℕ → FixedHint
kind_at file at = kind_of (drop at file)

-- worked values
each_kind : map kind_of (codes "OTTO" ∷ codes "wOFF" ∷ codes "wOF2" ∷ codes "typ1" ∷ codes "%!PS" ∷ (0x80 ∷ 0x01 ∷ 0x06 ∷ 0x07 ∷ [])
    ∷ codes "STARTFONT" ∷ (0x01 ∷ codes "fcp") ∷ (0x1F ∷ 0x8B ∷ 0x08 ∷ 0x00 ∷ []) ∷ codes "<!DO" ∷ codes "Hell" ∷ [])
    ≡ fixed.Cff ∷ fixed.Woff ∷ fixed.Woff2 ∷ fixed.Type1 ∷ fixed.Type1 ∷ fixed.Type1
    ∷ fixed.Bitmaps ∷ fixed.Bitmaps ∷ fixed.Gzip ∷ fixed.Page ∷ fixed.NoFont ∷ []
unfolding kind_of
each_kind = refl

-- at an offset, and past the end
elsewhere : map (kind_at (codes "true OTTO")) (5 ∷ 6 ∷ 9 ∷ 10 ∷ []) ≡ fixed.Cff ∷ fixed.NoFont ∷ fixed.NoFont ∷ fixed.NoFont ∷ []
unfolding kind_of
elsewhere = refl
