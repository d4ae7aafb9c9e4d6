-- The result of reading a glyph, as the definitions see it.
use Rattle.std.specs.Prelude.{ℕ, ℤ, List}
use Rattle.tt_glyf.specs.declared.raw.Raw as declared
use Rattle.tt_glyf.specs.declared.raw.Raw.TheVariants as raw
use Rattle.tt_glyf.specs.declared.raw.RawPoint.{RawPoint}
use Rattle.tt_glyf.specs.declared.raw.Record.{Record}

-- code is the glyph's program; code_at is the program's offset in glyf
pub record SimpleGlyph : Type 0 where
  pub x_min : ℤ
  pub points : List RawPoint
  pub ends : List ℕ
  pub code : List ℕ
  pub code_at : ℕ

pub record CompositeGlyph : Type 0 where
  pub x_min : ℤ
  pub records : List Record
  pub code : List ℕ
  pub code_at : ℕ

pub data Raw : Type 0 where
  empty : Raw
  simple : SimpleGlyph → Raw
  composite : CompositeGlyph → Raw

-- the definitions' view of the code's result
abbrev pub raw_view : declared.Raw → Raw
raw_view raw.Empty = empty
raw_view (raw.Simple x_min points ends code code_at) =
    simple (record { x_min = x_min; points = points.items; ends = ends.items; code = code.now; code_at = code_at })
raw_view (raw.Composite x_min records code code_at) =
    composite (record { x_min = x_min; records = records.items; code = code.now; code_at = code_at })
