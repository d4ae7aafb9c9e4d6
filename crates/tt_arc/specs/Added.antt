-- No part of the standard: the edges of a contour while they are made. Chords by bend are joined, so the last edge stands
-- behind those that are done.
use Rattle.std.specs.Prelude.{◌≡◌, List, ◌++◌, Option, Some, None}
use Rattle.tt_scan_edges.specs.declared.edge.Edge.{Edge}
use Rattle.tt_scan_edges.specs.Joined.{joined, joined_from}
use Rattle.tt_arc.specs.declared.rule.ChordRule.{ChordRule}
use Rattle.tt_arc.specs.declared.rule.ChordRule.TheVariants as rule

-- a last edge and the edges behind this edge, joined. Eight chords remain as they are, without a last edge
abbrev pub joined_behind : ChordRule → Option Edge → List Edge → List Edge
joined_behind rule.Eight last es = es
joined_behind rule.ByBend None es = joined es
joined_behind rule.ByBend (Some e) es = joined_from e es

-- edges are added behind those done and a last edge: they come before any edges that follow
abbrev pub AreAdded : ChordRule → List Edge → Option Edge → List Edge → List Edge → Option Edge → Type 0
AreAdded r done last es new_done new_last =
    (more : List Edge) → new_done ++ joined_behind r new_last more ≡ done ++ joined_behind r last (es ++ more)
