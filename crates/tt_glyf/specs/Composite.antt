-- OpenType, "The 'glyf' table", "Composite Glyph Description". Component records follow each other up to the first
-- without the flag for more. A program may follow them.
use Rattle.std.specs.Prelude.{ℕ, zero, suc, ◌+◌, ◌*◌, Bool, false, not, ◌&&◌, ◌||◌, nat_lt, if◌then◌else◌, ℤ, pos, ◌-ℤ◌, List, [], ◌∷◌, Result, Ok, Err}
use Rattle.std.specs.Ordering.{int_eq}
use Rattle.tt_core.specs.Faults.{Fault}
use Rattle.tt_core.specs.declared.fault.Why.TheVariants as why
use Rattle.tt_core.specs.Limits.{component_limit}
use Rattle.tt_core.specs.Outcomes.{◌>>=◌}
use Rattle.tt_glyf.specs.declared.raw.Record.{Record}
use Rattle.tt_glyf.specs.Bytes.{GlyphBytes, Listing, byte_in, word_in, signed_in, slice_in, glyph_fault, after}
use Rattle.tt_glyf.specs.Raw.{Raw, composite}
use Rattle.tt_glyf.specs.Format.{has, word_size, header_size, glyph_index_offset, arguments_offset, arg_1_and_2_are_words, args_are_xy_values, we_have_a_scale, we_have_an_x_and_y_scale, we_have_a_two_by_two, we_have_instructions, more_components, scaled_component_offset, unscaled_component_offset, argument_size, record_size}

-- 8 bits read as two's complement
abbrev pub signed8 : ℕ → ℤ
signed8 n = if nat_lt n 128 then pos n else pos n -ℤ pos 256

-- the argument at an offset
unfoldable pub argument_at : GlyphBytes → ℕ → ℕ → Result ℤ Fault
argument_at g flags at =
    if has flags arg_1_and_2_are_words
    then (if has flags args_are_xy_values then signed_in g at else (word_in g at >>= λ n. Ok (pos n)))
    else (byte_in g at >>= λ n. Ok (if has flags args_are_xy_values then signed8 n else pos n))

-- x' = xx x + xy y and y' = yx x + yy y, in 2.14 fixed-point numbers; 16384 is one
pub record Transform : Type 0 where
  pub xx : ℤ
  pub yx : ℤ
  pub xy : ℤ
  pub yy : ℤ

-- one
abbrev pub one : ℤ
one = pos 16384

abbrev pub identity : Transform
identity = record { xx = one; yx = pos 0; xy = pos 0; yy = one }

abbrev pub one_scale : ℤ → Transform
one_scale s = record { xx = s; yx = pos 0; xy = pos 0; yy = s }

unfoldable pub two_scales_at : GlyphBytes → ℕ → Result Transform Fault
two_scales_at g at = do
  xx ← signed_in g at
  yy ← signed_in g (at + word_size)
  Ok (record { xx = xx; yx = pos 0; xy = pos 0; yy = yy })

unfoldable pub two_by_two_at : GlyphBytes → ℕ → Result Transform Fault
two_by_two_at g at = do
  xx ← signed_in g at
  yx ← signed_in g (at + word_size)
  xy ← signed_in g (at + 2 * word_size)
  yy ← signed_in g (at + 3 * word_size)
  Ok (record { xx = xx; yx = yx; xy = xy; yy = yy })

-- the transform at an offset
unfoldable pub transform_at : GlyphBytes → ℕ → ℕ → Result Transform Fault
transform_at g flags at =
    if has flags we_have_a_scale then (signed_in g at >>= λ s. Ok (one_scale s))
    else (if has flags we_have_an_x_and_y_scale then two_scales_at g at
    else (if has flags we_have_a_two_by_two then two_by_two_at g at else Ok identity))

abbrev pub is_identity : Transform → Bool
is_identity t = int_eq t.xx one && int_eq t.yx (pos 0) && int_eq t.xy (pos 0) && int_eq t.yy one

abbrev pub transform_of : Record → Transform
transform_of r = record { xx = r.xx; yx = r.yx; xy = r.xy; yy = r.yy }

-- whether offsets are to be transformed
abbrev pub scales_offsets : ℕ → Bool
scales_offsets flags =
    has flags scaled_component_offset && not (has flags unscaled_component_offset) && has flags args_are_xy_values

abbrev pub has_arguments_zero : Record → Bool
has_arguments_zero r = int_eq r.arg1 (pos 0) && int_eq r.arg2 (pos 0)

-- whether the record requests a transform of its offset, and the transform would change the offset
abbrev pub asks_scaled_offset : Record → Bool
asks_scaled_offset r = scales_offsets r.flags && not (is_identity (transform_of r)) && not (has_arguments_zero r)

-- a scaled offset is refused (profile)
unfoldable pub unscaled : GlyphBytes → ℕ → Record → Result Record Fault
unscaled g at r = if asks_scaled_offset r then Err (glyph_fault g at why.ScaledOffset) else Ok r

-- a component must be a glyph of the font
unfoldable pub known_glyph : ℕ → GlyphBytes → ℕ → ℕ → Result ℕ Fault
known_glyph glyphs g at glyph = if nat_lt glyph glyphs then Ok glyph else Err (glyph_fault g at why.ComponentGlyph)

-- the two arguments
pub record ArgumentPair : Type 0 where
  pub arg1 : ℤ
  pub arg2 : ℤ

unfoldable pub arguments_at : GlyphBytes → ℕ → ℕ → Result ArgumentPair Fault
arguments_at g flags at = do
  arg1 ← argument_at g flags at
  arg2 ← argument_at g flags (at + argument_size flags)
  Ok (record { arg1 = arg1; arg2 = arg2 })

-- the component record at an offset
unfoldable pub record_at : ℕ → GlyphBytes → ℕ → Result Record Fault
record_at glyphs g at = do
  flags ← word_in g at
  number ← word_in g (at + glyph_index_offset)
  glyph ← known_glyph glyphs g at number
  args ← arguments_at g flags (at + arguments_offset)
  t ← transform_at g flags (at + arguments_offset + 2 * argument_size flags)
  unscaled g at (record {
    at = g.start + at;
    flags = flags;
    glyph = glyph;
    arg1 = args.arg1;
    arg2 = args.arg2;
    xx = t.xx;
    yx = t.yx;
    xy = t.xy;
    yy = t.yy;
  })

-- the records from an offset on, at most as many as the last argument allows
unfoldable pub records_from : ℕ → GlyphBytes → ℕ → ℕ → Result (Listing Record) Fault
records_from glyphs g at zero = Err (glyph_fault g at why.ComponentCount)
records_from glyphs g at (suc allowed) = do
  r ← record_at glyphs g at
  after (r ∷ []) (if has r.flags more_components then records_from glyphs g (at + record_size r.flags) allowed
      else Ok (record { items = []; next = at + record_size r.flags }))

-- the records after the header, at most as many as the limit (profile)
abbrev pub records_of : ℕ → GlyphBytes → Result (Listing Record) Fault
records_of glyphs g = records_from glyphs g header_size component_limit

-- whether some record says that a program follows
abbrev pub has_program : List Record → Bool
has_program [] = false
has_program (r ∷ rs) = has r.flags we_have_instructions || has_program rs

pub record Program : Type 0 where
  pub code : List ℕ
  pub code_at : ℕ

-- the program after the records, if any record announces a program (profile)
unfoldable pub program_of : GlyphBytes → Listing Record → Result Program Fault
program_of g records =
    if has_program records.items
    then (word_in g records.next >>= λ size. slice_in g (records.next + word_size) size
    >>= λ code. Ok (record { code = code; code_at = g.start + (records.next + word_size) }))
    else Ok (record { code = []; code_at = g.start + records.next })

-- the part of a composite glyph after its header; the first argument is the font's number of glyphs
unfoldable pub composite_of : ℕ → GlyphBytes → ℤ → Result Raw Fault
composite_of glyphs g x_min = do
  records ← records_of glyphs g
  p ← program_of g records
  Ok (composite (record { x_min = x_min; records = records.items; code = p.code; code_at = p.code_at }))
