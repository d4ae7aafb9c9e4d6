use Rattle.std.proofs.Common.{◌≡◌, ◌+◌, ◌-◌, ◌*◌, ◌≤◌, vec_len, length}
use Rattle.tt_glyf.specs.Bytes.{after}
use Rattle.tt_glyf.specs.Simple.{ends_from, ends_of}
use Rattle.tt_glyf.proofs.simple.read_ends.Given as goal

abbrev pub invariant-loop-i : goal.invariant-loop-i
invariant-loop-i l =
    (after l.ends.items (ends_from l.glyph (10 + 2 * l.i) (l.contours - l.i) l.before) ≡ ends_of l.glyph l.contours)
    × (vec_len l.ends ≡ l.i) × (10 + 2 * l.i ≤ length l.glyph.bytes)
