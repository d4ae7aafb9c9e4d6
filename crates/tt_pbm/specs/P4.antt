-- Netpbm, "PBM", the format with raster, magic number P4: a header in ASCII, then the rows from the top. The header has
-- a line feed, a space and a line feed where the standard allows any white space (profile).
use Rattle.std.specs.Prelude.{◌≡◌, refl, ℕ, take, List, ◌++◌, codes, decimal}
use Rattle.std.specs.Fmt.{digits}
use Rattle.tt_core.specs.Limits.{width_limit, height_limit}
use Rattle.tt_pbm.specs.declared.header.Header.{Header}

-- `P4`, width and height in decimal
abbrev pub p4_header_of : ℕ → ℕ → List ℕ
p4_header_of w h = codes "P4\n" ++ (decimal w ++ (codes " " ++ (decimal h ++ codes "\n")))

-- the bytes of a header
abbrev pub header_bytes : Header → List ℕ
header_bytes header = take header.len header.bytes

-- worked values
a_header : p4_header_of width_limit height_limit ≡ codes "P4\n16384 4096\n"
unfolding digits
a_header = refl
