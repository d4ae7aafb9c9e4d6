use Rattle.std.proofs.Common.{◌≡◌, ◌+◌, ◌-◌, ◌≤◌, vec_len, take, false}
use Rattle.std.specs.Io.KnownBytes.{Consumes}
use Rattle.tt_core.specs.Limits.{font_limit}
use Rattle.tt_render_streams.proofs.reading.read_font.Given as goal

-- the bytes read so far are those taken from the reader
abbrev pub invariant-pieces : goal.invariant-pieces
invariant-pieces g l = record {
  within : l.filled ≤ vec_len l.file;
  known : l.filled ≤ font_limit;
  limit : vec_len l.file ≤ font_limit + 1;
  bytes : Consumes (g.R.Source.left l.fn.font) (g.R.Source.left l.font) (take l.filled l.file.items);
  serves : g.R.Source.has_failed l.font ≡ false;
}

abbrev pub decreases-pieces : goal.decreases-pieces
decreases-pieces g l = font_limit + 1 - l.filled
