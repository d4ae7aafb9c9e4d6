-- What the two programs give to glyph programs is the parts of a machine.
use Rattle.tt_fit_hinting.specs.declared.hinting.Hinting as declared
use Rattle.tt_fit_hinting.specs.declared.hinting.Hinting.TheVariants as state
use Rattle.tt_fit_hinting.specs.Hinting.{IsHinting}
use Rattle.tt_fit_hinting.specs.Views.{hinting_view}

pub is_hinting : (h : declared.Hinting) → IsHinting (hinting_view h)
is_hinting state.Off = tt
is_hinting (state.Ready parts) = record { size = parts.limit; scale = parts.scaled; zones = parts.placed }
