-- The limits of this project (profile). No standard has them.
use Rattle.std.specs.Prelude.{ℕ}

-- bytes of a font file
abbrev pub font_limit : ℕ
font_limit = 67108864

-- characters of a text
abbrev pub text_limit : ℕ
text_limit = 4096

-- pixels per em
abbrev pub size_limit : ℕ
size_limit = 300

-- pixels of margin around a line
abbrev pub margin_limit : ℕ
margin_limit = 64

-- columns of pixels in a picture
abbrev pub width_limit : ℕ
width_limit = 16384

-- rows of pixels
abbrev pub height_limit : ℕ
height_limit = 4096

-- points of a glyph, phantom points not counted
abbrev pub point_limit : ℕ
point_limit = 16384

-- component records of a glyph
abbrev pub component_limit : ℕ
component_limit = 32

-- levels to which components are nested
abbrev pub level_limit : ℕ
level_limit = 4

-- levels of nested components, if as many glyphs as possible are to be fitted
abbrev pub best_level_limit : ℕ
best_level_limit = 8

-- magnitude of a coordinate, in 26.6 pixels
abbrev pub coordinate_limit : ℕ
coordinate_limit = 2097151

-- steps of one run of a program
abbrev pub step_limit : ℕ
step_limit = 1000000

-- work of a line's points and programs, if the job's work is bounded
abbrev pub work_limit : ℕ
work_limit = 50000000

-- points of all glyphs of a job, with phantom points and one for each contour, if the job's work is bounded
abbrev pub point_work_limit : ℕ
point_work_limit = 1000000

-- crossings of a job's glyphs, if the job's work is bounded
abbrev pub crossing_limit : ℕ
crossing_limit = 10000000

-- axes of a variable font
abbrev pub axis_limit : ℕ
axis_limit = 64

-- open calls of functions
abbrev pub call_limit : ℕ
call_limit = 64

-- entries of the interpreter's stack
abbrev pub stack_limit : ℕ
stack_limit = 8192
