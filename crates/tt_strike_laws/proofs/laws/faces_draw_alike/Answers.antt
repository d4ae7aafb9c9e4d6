use Rattle.tt_strike_laws.proofs.FacesAlike.{faces_draw_alike}
use Rattle.tt_strike_laws.proofs.laws.faces_draw_alike.Goals as goal

pub returns : goal.returns
returns c = faces_draw_alike
