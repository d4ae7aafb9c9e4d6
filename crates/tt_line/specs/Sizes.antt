-- No part of the standard: the size of a line's picture with its margins, and its distance from the next line (profile).
use Rattle.std.specs.Prelude.{◌≡◌, refl, ℕ, ◌+◌, ◌*◌, ◌+ℤ◌, pos, negsuc, unsigned_abs, [], ◌∷◌, None, Result, Ok, Err}
use Rattle.tt_core.specs.declared.fault.JobFault.{JobFault}
use Rattle.tt_core.specs.declared.fault.JobFault.TheVariants as job
use Rattle.tt_core.specs.Outcomes.{◌>>=◌}
use Rattle.tt_line.specs.declared.extent.PictureExtent.{PictureExtent}
use Rattle.tt_line.specs.declared.measured.LineSize.{LineSize}
use Rattle.tt_line.specs.Labels.{gap_of, line_step_of}
use Rattle.tt_line.specs.Layout.{depth_of, rise_of, within_limits}
use Rattle.tt_metrics.specs.declared.head.LocaFormat.TheVariants.{Short}
use Rattle.tt_metrics.specs.declared.heights.Heights.TheVariants.{Exact}
use Rattle.tt_metrics.specs.Metrics.{Metrics}

-- the extent of a line with its margins, by the sum of its steps
abbrev pub extent_by_sum : Metrics → ℕ → ℕ → ℕ → PictureExtent
extent_by_sum m ppem margin steps = record {
  width = steps + 2 * margin;
  height = rise_of m ppem +ℤ depth_of m ppem +ℤ pos (2 * margin);
}

abbrev pub size_of : Metrics → ℕ → PictureExtent → LineSize
size_of m ppem e = record {
  width = e.width;
  height = unsigned_abs e.height;
  rise = rise_of m ppem;
  depth = depth_of m ppem;
  gap = gap_of m ppem;
  step = line_step_of m ppem;
}

-- the size of a line by the sum of its steps, or the refusal
abbrev pub line_size : Metrics → ℕ → ℕ → ℕ → Result LineSize JobFault
line_size m ppem margin steps = within_limits (extent_by_sum m ppem margin steps) >>= λ e. Ok (size_of m ppem e)

-- worked values: 256 of 1,024 units above the base line, 64 below it, and a gap of 64
four_rows : Metrics
four_rows = record {
  head = record { units_per_em = 1024; loca_format = Short };
  maxp = record { glyphs = 3; twilight = 0; storage = 0 };
  hhea = record { ascent = pos 256; descent = negsuc 63; line_gap = pos 64; long_metrics = 1 };
  hmtx = 1 ∷ 0 ∷ 0 ∷ 0 ∷ [];
  heights = Exact;
  kerning = None;
  advances = None;
}

a_gap_of_one : line_size four_rows 16 0 4 ≡ Ok (record { width = 4; height = 5; rise = pos 4; depth = pos 1; gap = 1; step = 6 })
unfolding four_rows within_limits
a_gap_of_one = refl

a_negative_gap : line_size (record four_rows { hhea = record { ascent = pos 256; descent = negsuc 63; line_gap = negsuc 127; long_metrics = 1 } }) 16 1 0
    ≡ Ok (record { width = 2; height = 7; rise = pos 4; depth = pos 1; gap = 0; step = 5 })
unfolding four_rows within_limits
a_negative_gap = refl

no_column : line_size four_rows 16 0 0 ≡ Err job.EmptyPicture
unfolding four_rows within_limits
no_column = refl
