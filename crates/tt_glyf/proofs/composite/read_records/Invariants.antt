use Rattle.std.proofs.Common.{◌≡◌, ◌-◌, ◌≤◌, length}
use Rattle.std.specs.Prelude.{All}
use Rattle.tt_core.specs.Limits.{component_limit}
use Rattle.tt_glyf.specs.Bytes.{after}
use Rattle.tt_glyf.specs.Composite.{records_from, records_of}
use Rattle.tt_glyf.specs.Meaning.{HasArguments}
use Rattle.tt_glyf.proofs.composite.read_records.Given as goal

abbrev pub invariant-loop-i : goal.invariant-loop-i
invariant-loop-i l = record {
  same : after l.records.items (records_from l.glyphs l.glyph l.next (component_limit - l.i)) ≡ records_of l.glyphs
      l.glyph;
  room : l.next ≤ length l.glyph.bytes;
  arguments : All HasArguments l.records.items;
}
