-- A picture in a format, whole in memory.
use Rattle.std.specs.Prelude.{◌≡◌, ℕ, List, length, ⊤}
use Rattle.tt_picture.specs.Pictures.{IsReady, Picture}
use Rattle.tt_render_streams.specs.declared.formed.Formed.{Formed}
use Rattle.tt_render_streams.specs.declared.formed.Formed.TheVariants as formed
use Rattle.tt_render_streams.specs.File.{picture_bytes, piece_bytes}

-- the picture, of which rows may be made already
abbrev pub formed_picture : Formed → Picture
formed_picture (formed.Pbm drawn) = drawn.picture
formed_picture (formed.Png whole) = whole.picture

-- the bytes of its file
abbrev pub formed_bytes : Formed → List ℕ
formed_bytes (formed.Pbm drawn) = picture_bytes drawn.picture
formed_bytes (formed.Png whole) = whole.file.items

-- it is written without more memory: its file is there, or all rows can be made in the memory that is there
abbrev pub IsWhole : Formed → Type 0
IsWhole (formed.Pbm drawn) =
    IsReady drawn.picture × (length drawn.piece.items ≡ piece_bytes drawn.picture)
IsWhole (formed.Png whole) = ⊤
