-- Not from the standard: the definitions' view of a line.
use Rattle.tt_line.specs.declared.line.Line.{Line}
use Rattle.tt_line.specs.Layout.{Placement}

abbrev pub placement_of : Line → Placement
placement_of l = record { width = l.width; height = l.height; rise = l.rise; glyphs = l.glyphs.items }
