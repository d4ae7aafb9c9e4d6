-- The room that a label's ink needs. Laws of its baselines: they are equally far apart.
use Rattle.std.specs.Prelude.{◌≡◌, refl, ℕ, ℤ, pos, negsuc, ◌+ℤ◌, List, [], ◌∷◌, map, Ok, ⊤}
use Rattle.tt_face.specs.Faces.{Face}
use Rattle.tt_line.specs.declared.align.Align.{Align}
use Rattle.tt_line.specs.Labels.{line_step_of}
use Rattle.tt_line.specs.Layout.{Placement}
use Rattle.tt_picture.specs.declared.ink_box.InkBox.{InkBox}
use Rattle.tt_strike.specs.Grown.{lacking, with_sides}
use Rattle.tt_strike.specs.Job.{Job}
use Rattle.tt_label.specs.Label.{label_grown, label_placed}

-- lines of a picture of this size, with the columns and rows on each side that the picture lacks to hold a box
abbrev pub with_room : ℕ → ℕ → InkBox → List Placement → List Placement
with_room width height b lines = map (λ line. with_sides line (lacking width height b)) lines

-- each of some baselines is this many rows below the one before, the first below this rise
abbrev pub FollowAt : ℕ → ℤ → List Placement → Type 0
FollowAt step rise [] = ⊤
FollowAt step rise (line ∷ lines) = (line.rise ≡ rise +ℤ pos step) × FollowAt step line.rise lines

-- the baselines of some lines are this many rows apart
abbrev pub AreApart : ℕ → List Placement → Type 0
AreApart step [] = ⊤
AreApart step (line ∷ lines) = FollowAt step line.rise lines

-- from one baseline to the next are the rows of a line and of the font's gap, and at least one. The enlarged picture has
-- the same distances
abbrev pub BaselinesAreApart : Type 0
BaselinesAreApart = (face : Face) (a : Job) (how : Align) (lines larger : List Placement)
    → label_placed face a how ≡ Ok lines → label_grown face a lines ≡ Ok larger
    → AreApart (line_step_of face.metrics a.ppem) larger

-- worked values: three lines, six rows apart; the first has its baseline above the picture
three_lines : List Placement
three_lines =
    let line : ℤ → Placement = λ rise. record { width = 1; height = 14; rise = rise; glyphs = [] } in
    line (negsuc 1) ∷ line (pos 4) ∷ line (pos 10) ∷ []

six_rows : AreApart 6 three_lines
unfolding three_lines
six_rows = (refl, (refl, tt))
