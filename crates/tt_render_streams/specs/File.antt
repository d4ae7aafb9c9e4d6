-- The file of a picture: in Netpbm's format P4 ("PBM") its header, and then its rows from the top; or in PNG (RFC 2083).
use Rattle.std.specs.Prelude.{◌≡◌, refl, ℕ, ◌+◌, ◌*◌, ◌≤◌, Bool, ◌&&◌, nat_le, nat_lt, pos, List, [], ◌∷◌, ◌++◌, codes, length, Result, Ok}
use Rattle.std.specs.Fmt.{digits}
use Rattle.tt_core.specs.Bits.{stride}
use Rattle.tt_core.specs.Limits.{height_limit, width_limit}
use Rattle.tt_core.specs.Outcomes.{◌>>=◌}
use Rattle.tt_pbm.specs.P4.{p4_header_of}
use Rattle.tt_render_streams.specs.declared.formed.PictureFormat.{PictureFormat}
use Rattle.tt_render_streams.specs.declared.formed.PictureFormat.TheVariants as format
use Rattle.tt_png.specs.Png.{png_text}
use Rattle.tt_picture.specs.Pictures.{Image, Picture, band_rows, image, image_of}

-- the bytes of the file of an image, and of a picture
abbrev pub p4 : Image → List ℕ
p4 i = p4_header_of i.frame.width i.frame.height ++ i.rows

abbrev pub picture_bytes : Picture → List ℕ
picture_bytes p = p4 (image_of p)

-- the bytes of the file of an image in a format
abbrev pub file_in : PictureFormat → Image → List ℕ
file_in format.Pbm i = p4 i
file_in format.Png i = png_text i.frame.width i.frame.height i.rows

-- the file of an image, or its refusal
abbrev pub as_file : {E : Type 0} → Result Image E → Result (List ℕ) E
as_file made = made >>= λ i. Ok (p4 i)

-- the same in a format
abbrev pub as_file_in : {E : Type 0} → PictureFormat → Result Image E → Result (List ℕ) E
as_file_in f made = made >>= λ i. Ok (file_in f i)

-- the bytes of the header of a picture, at most 16, and of a band of its rows
abbrev pub piece_bytes : Picture → ℕ
piece_bytes p = 16 + stride p.frame.width * band_rows p.frame

-- a picture within the limits, of which some rows may be made
pub record IsBegun (p : Picture) : Type 0 where
  pub width : p.frame.width ≤ width_limit
  pub height : p.frame.height ≤ height_limit
  pub some : 1 ≤ p.frame.width
  pub rows : length p.rows ≡ stride p.frame.width * p.frame.height
  pub made : p.made ≤ p.frame.height

-- worked value: columns 1 and 2 of rows 2 and 3
a_square : ℕ → ℕ → Bool
a_square c r = (nat_le 1 c && nat_lt c 3) && nat_le 2 r

a_picture : p4 (image (record { width = 4; height = 4; margin = 0; rise = pos 4 }) a_square)
    ≡ codes "P4\n4 4\n" ++ (0x00 ∷ 0x00 ∷ 0x60 ∷ 0x60 ∷ [])
unfolding digits a_square
a_picture = refl
