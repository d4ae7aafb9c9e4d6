use Rattle.std.proofs.Common.{take}
use Rattle.tt_bitmap.specs.Inks.{IsInk}
use Rattle.tt_scan_ink.specs.Least.{covered}
use Rattle.tt_scan_ink.proofs.edges.spans_ink.Given as goal

-- the box of the spans so far
abbrev pub invariant-loop-span : goal.invariant-loop-span
invariant-loop-span l = IsInk (covered l.columns l.line (take l.span-index l.spans)) l.ink
