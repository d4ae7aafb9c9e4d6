use Rattle.std.proofs.Common.{◌≡◌, ◌+◌, ◌*◌, ◌^◌, ◌≤◌, drop}
use Rattle.tt_png.specs.Adler.{adler_32, adler_from}
use Rattle.tt_png.proofs.adler.adler_32.Given as goal

-- from the sums so far the remaining bytes give the value of all
abbrev pub invariant-loop-byte : goal.invariant-loop-byte
invariant-loop-byte l = record {
  whole : adler_from l.first l.second (drop l.byte-index l.bytes) ≡ adler_32 l.bytes;
  small : l.first ≤ 1 + 255 * l.byte-index;
  less : l.second ≤ 2 ^ 32 * l.byte-index;
}
