-- What is made of a line that is laid out does not depend on the text of its job.
use Rattle.std.proofs.Common.{◌≡◌, ℕ, List, refl}
use Rattle.tt_line.specs.Layout.{Placement}
use Rattle.tt_picture.specs.Glyphs.{Glyph}
use Rattle.tt_strike.specs.Costs.{line_cost}
use Rattle.tt_strike.specs.Made.{AreMade, shapes_made}
use Rattle.tt_strike.specs.Strikes.{SizedFace, job_by, job_with}

pub shapes_textless : (z : SizedFace) (text : List ℕ) (margin : ℕ) (l : Placement)
    → shapes_made z.face (job_by z text margin) l ≡ shapes_made z.face (job_with z margin) l
shapes_textless z text margin l = refl

pub made_textless : {gs : List Glyph} (z : SizedFace) (text : List ℕ) (margin : ℕ) (l : Placement)
    → AreMade z.face (job_with z margin) l gs → AreMade z.face (job_by z text margin) l gs
made_textless z text margin l made = record {
  setting = made.setting;
  shapes = made.shapes;
  opened = made.opened;
  few = made.few;
  fitted = made.fitted;
  seldom = made.seldom;
  drawn = made.drawn;
  numbers = made.numbers;
}

pub cost_textless : (z : SizedFace) (text : List ℕ) (margin : ℕ) (l : Placement)
    → line_cost z.face (job_by z text margin) l ≡ line_cost z.face (job_with z margin) l
unfolding line_cost
cost_textless z text margin l = refl
