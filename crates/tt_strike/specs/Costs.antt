-- No part of the standard: what a line takes of the budget of a call of many lines (profile). With best alone a line
-- takes anything.
use Rattle.std.specs.Prelude.{◌≡◌, refl, ℕ, ◌+◌, ◌-◌, ◌*◌, map, Option, Some, None, Result, Ok}
use Rattle.tt_core.specs.Limits.{work_limit}
use Rattle.tt_core.specs.Outcomes.{◌>>=◌}
use Rattle.tt_line.specs.Layout.{Placement}
use Rattle.tt_strike.specs.Job.{Job}
use Rattle.tt_strike.specs.Picture.{line_shapes, setting_in, text_placed}
use Rattle.tt_strike.specs.Refusals.{Refused, as_font}
use Rattle.tt_face.specs.Faces.{Face}
use Rattle.tt_picture.specs.Shapes.{crossings_in}
use Rattle.tt_strike.specs.Work.{work_left}

-- the work of copies, programs, points and deltas, by the work that remains, and 4 for each crossing
abbrev pub cost_of : Option ℕ → ℕ → ℕ
cost_of None crossings = 0
cost_of (Some left) crossings = (work_limit - left) + 4 * crossings

-- the cost of a line that is laid out, or its first refusal
unfoldable pub line_cost : Face → Job → Placement → Result ℕ Refused
line_cost face a line =
    as_font (setting_in face a) >>= λ s.
    line_shapes s a line >>= λ glyphs.
    Ok (cost_of (work_left s (map (λ g. g.0) line.glyphs)) (crossings_in glyphs))

-- the cost of a text by a font's tables, or the first refusal
unfoldable pub cost_by : Face → Job → Result ℕ Refused
cost_by face a = text_placed face a >>= λ line. line_cost face a line

-- worked values: a tenth of the work and a thousand crossings; all of the work; and a fit without a budget
a_tenth : cost_of (Some 45000000) 1000 ≡ 5004000
a_tenth = refl

all_of_it : cost_of (Some 0) 250000 ≡ 51000000
all_of_it = refl

nothing : cost_of (Some 50000000) 0 ≡ 0
nothing = refl

not_counted : cost_of None 10000000 ≡ 0
not_counted = refl
