-- The format of glyph data, by the names of OpenType, "The 'glyf' table": the offset of each field, the meaning of each
-- flag, and the size of a component record. Numbers are big-endian words of two bytes unless the table says otherwise.
--
--   header            numberOfContours, xMin, yMin, xMax, yMax, all signed; the last three are not used
--   simple glyph      endPtsOfContours, a word for each contour; instructionLength; instructions, instructionLength
--                     bytes; flags, bytes; xCoordinates, then yCoordinates, each a byte, a signed word or nothing by
--                     its flag
--   composite glyph   component records, the last without MORE_COMPONENTS; if one of them has
--                     WE_HAVE_INSTRUCTIONS: numInstr, and instructions, numInstr bytes
--   component record  flags; glyphIndex; argument1 and argument2, bytes or words; the transform, signed words in 2.14
use Rattle.std.specs.Prelude.{ℕ, ◌+◌, ◌*◌, Bool, ◌==◌, if◌then◌else◌, List, [], ◌∷◌, codes}
use Rattle.std.specs.Int.RustNames.{bit_and}

-- bytes of a word
abbrev pub word_size : ℕ
word_size = 2

-- offsets in the header, from the glyph's first byte
abbrev pub number_of_contours_offset : ℕ
number_of_contours_offset = 0

abbrev pub x_min_offset : ℕ
x_min_offset = 2

-- bytes of the header
abbrev pub header_size : ℕ
header_size = 10

-- a simple glyph: the offset of entry i of endPtsOfContours, from the glyph's first byte
abbrev pub end_place : ℕ → ℕ
end_place i = header_size + word_size * i

-- the offset of instructionLength, after the contours' ends
abbrev pub size_place : ℕ → ℕ
size_place contours = end_place contours

-- whether the flags include this bit
abbrev pub has : ℕ → ℕ → Bool
has flags bit = bit_and flags bit == bit

-- the flags of a point
abbrev pub on_curve_point : ℕ
on_curve_point = 1

-- the delta is a byte without a sign
abbrev pub x_short_vector : ℕ
x_short_vector = 2

-- likewise along y
abbrev pub y_short_vector : ℕ
y_short_vector = 4

-- the next byte is the number of further points with this flag
abbrev pub repeat_flag : ℕ
repeat_flag = 8

-- with a short vector: the sign is plus; without one: the coordinate is the same as the last
abbrev pub x_is_same_or_positive : ℕ
x_is_same_or_positive = 16

-- likewise
abbrev pub y_is_same_or_positive : ℕ
y_is_same_or_positive = 32

abbrev pub point_flags : List (List ℕ × ℕ)
point_flags =
    (codes "ON_CURVE_POINT", on_curve_point) ∷ (codes "X_SHORT_VECTOR", x_short_vector)
    ∷ (codes "Y_SHORT_VECTOR", y_short_vector) ∷ (codes "REPEAT_FLAG", repeat_flag)
    ∷ (codes "X_IS_SAME_OR_POSITIVE", x_is_same_or_positive)
    ∷ (codes "Y_IS_SAME_OR_POSITIVE", y_is_same_or_positive) ∷ []

-- offsets in a component record, from its first byte; its flags come first
abbrev pub glyph_index_offset : ℕ
glyph_index_offset = 2

-- the arguments follow it
abbrev pub arguments_offset : ℕ
arguments_offset = 4

-- the flags of a component
abbrev pub arg_1_and_2_are_words : ℕ
arg_1_and_2_are_words = 0x1

-- the arguments are signed offsets along x and y; else they are numbers of points
abbrev pub args_are_xy_values : ℕ
args_are_xy_values = 0x2

-- offsets are rounded to whole pixels
abbrev pub round_xy_to_grid : ℕ
round_xy_to_grid = 0x4

-- one scale for both axes
abbrev pub we_have_a_scale : ℕ
we_have_a_scale = 0x8

-- another component follows
abbrev pub more_components : ℕ
more_components = 0x20

-- a scale for each of the axes
abbrev pub we_have_an_x_and_y_scale : ℕ
we_have_an_x_and_y_scale = 0x40

-- a matrix of four numbers along both axes
abbrev pub we_have_a_two_by_two : ℕ
we_have_a_two_by_two = 0x80

-- a program follows the last component
abbrev pub we_have_instructions : ℕ
we_have_instructions = 0x100

-- the glyph takes the component's metrics
abbrev pub use_my_metrics : ℕ
use_my_metrics = 0x200

-- the transform scales the offsets too
abbrev pub scaled_component_offset : ℕ
scaled_component_offset = 0x800

-- the transform leaves the offsets unchanged
abbrev pub unscaled_component_offset : ℕ
unscaled_component_offset = 0x1000

abbrev pub component_flags : List (List ℕ × ℕ)
component_flags =
    (codes "ARG_1_AND_2_ARE_WORDS", arg_1_and_2_are_words) ∷ (codes "ARGS_ARE_XY_VALUES", args_are_xy_values)
    ∷ (codes "ROUND_XY_TO_GRID", round_xy_to_grid) ∷ (codes "WE_HAVE_A_SCALE", we_have_a_scale)
    ∷ (codes "MORE_COMPONENTS", more_components) ∷ (codes "WE_HAVE_AN_X_AND_Y_SCALE", we_have_an_x_and_y_scale)
    ∷ (codes "WE_HAVE_A_TWO_BY_TWO", we_have_a_two_by_two) ∷ (codes "WE_HAVE_INSTRUCTIONS", we_have_instructions)
    ∷ (codes "USE_MY_METRICS", use_my_metrics) ∷ (codes "SCALED_COMPONENT_OFFSET", scaled_component_offset)
    ∷ (codes "UNSCALED_COMPONENT_OFFSET", unscaled_component_offset) ∷ []

-- bytes of an argument
abbrev pub argument_size : ℕ → ℕ
argument_size flags = if has flags arg_1_and_2_are_words then word_size else 1

-- bytes of the transform; if several of the three flags are set, the first counts (profile)
abbrev pub transform_size : ℕ → ℕ
transform_size flags =
    if has flags we_have_a_scale then word_size
    else (if has flags we_have_an_x_and_y_scale then 2 * word_size
    else (if has flags we_have_a_two_by_two then 4 * word_size else 0))

-- bytes of a record
abbrev pub record_size : ℕ → ℕ
record_size flags = arguments_offset + 2 * argument_size flags + transform_size flags
