-- No part of the standard: the space that a label has to have, and its test (profile). The test stands behind those
-- of the size and of the margin, and before that of the text.
use Rattle.std.specs.Prelude.{◌≡◌, refl, ℕ, ◌*◌, ◌||◌, nat_le, nat_lt, if◌then◌else◌, List, codes, Option, Some, None, Result, Ok, Err, ⊤}
use Rattle.tt_core.specs.declared.collection.Reading.TheVariants as reading
use Rattle.tt_core.specs.declared.fault.JobFault.{JobFault}
use Rattle.tt_core.specs.Limits.{height_limit, margin_limit, width_limit}
use Rattle.tt_face.specs.Rules.{plain_opening}
use Rattle.tt_fit.specs.declared.programs.Fit.TheVariants as fit
use Rattle.tt_render_settings.specs.declared.setting.Setting.{Setting}
use Rattle.tt_render_settings.specs.declared.sides.BoxSides.{BoxSides}
use Rattle.tt_render_settings.specs.declared.given.GivenSpace.{GivenSpace}
use Rattle.tt_render_settings.specs.declared.given.GivenSpace.TheVariants as given
use Rattle.tt_render_settings.specs.declared.space.Space.{Space}
use Rattle.tt_render_settings.specs.declared.space.Space.TheVariants as space
use Rattle.tt_render_settings.specs.Settings.{plain_setting, setting_tested}
use Rattle.tt_render_settings.specs.Sides.{box_words}
use Rattle.tt_render_texts.specs.declared.space_fault.SpaceFault.{SpaceFault}
use Rattle.tt_render_texts.specs.declared.space_fault.SpaceFault.TheVariants as fault
use Rattle.tt_strike.specs.Job.{margin_tested, size_tested}

-- the box of some words, if they are of the right form
abbrev pub box_of : Option BoxSides → Option Space
box_of None = None
box_of (Some sides) = Some (space.Box sides)

abbrev pub box_asked : List ℕ → Option Space
box_asked words = box_of (box_words words)

-- the space by the options of a width and of a box
abbrev pub space_asked : Option ℕ → Option (List ℕ) → Option Space
space_asked width (Some words) = box_asked words
space_asked (Some width) None = Some (space.Width width)
space_asked None None = Some space.Free

-- the test of a width, by the margin
abbrev pub width_tested : ℕ → ℕ → Result (Unit {0}) SpaceFault
width_tested width margin =
    if nat_le width (2 * margin) || nat_lt width_limit width then Err fault.WidthRange else Ok tt

-- the test of a box, by the margin
abbrev pub box_tested : BoxSides → ℕ → Result (Unit {0}) SpaceFault
box_tested b margin =
    if nat_lt margin_limit margin then Err fault.BoxRange
    else if nat_le b.width (2 * margin) || nat_lt width_limit b.width then Err fault.BoxRange
    else if nat_le b.height (2 * margin) || nat_lt height_limit b.height then Err fault.BoxRange
    else Ok tt

-- the test of a space, by the margin
abbrev pub space_tested : Space → ℕ → Result (Unit {0}) SpaceFault
space_tested space.Free margin = Ok tt
space_tested (space.Width width) margin = width_tested width margin
space_tested (space.Box sides) margin = box_tested sides margin

-- the space that passed its test, and the margin of that test
abbrev pub given_space : GivenSpace → Space
given_space given.Free = space.Free
given_space (given.Width g) = space.Width g.width
given_space (given.Box g) = space.Box g.sides

abbrev pub HasMargin : ℕ → GivenSpace → Type 0
HasMargin margin given.Free = ⊤
HasMargin margin (given.Width g) = g.margin ≡ margin
HasMargin margin (given.Box g) = g.margin ≡ margin

-- the refusal of a second test, where the first was passed
abbrev pub refusal_behind : Result (Unit {0}) JobFault → Result (Unit {0}) SpaceFault → Option SpaceFault
refusal_behind (Ok u) (Err f) = Some f
refusal_behind first second = None

-- why the space of a label with a setting is refused, where the setting is not
abbrev pub refused_space : Setting → Space → Option SpaceFault
refused_space a s = refusal_behind (setting_tested a) (space_tested s a.margin)

-- worked values: the margin counts twice
no_column : space_tested (space.Width 0) 0 ≡ Err fault.WidthRange
no_column = refl

one_column : space_tested (space.Width 1) 0 ≡ Ok tt
one_column = refl

as_many_as_the_margins : space_tested (space.Width 20) 10 ≡ Err fault.WidthRange
as_many_as_the_margins = refl

one_more_than_the_margins : space_tested (space.Width 21) 10 ≡ Ok tt
one_more_than_the_margins = refl

the_widest : space_tested (space.Width 16384) 64 ≡ Ok tt
the_widest = refl

wider_than_the_widest : space_tested (space.Width 16385) 0 ≡ Err fault.WidthRange
wider_than_the_widest = refl

margin_before_width : refused_space (plain_setting 16 65 fit.Best (plain_opening (reading.Wide 0))) (space.Width 0) ≡ None
unfolding setting_tested size_tested margin_tested
margin_before_width = refl

width_behind_margin : refused_space (plain_setting 16 64 fit.Best (plain_opening (reading.Wide 0))) (space.Width 0)
    ≡ Some fault.WidthRange
unfolding setting_tested size_tested margin_tested
width_behind_margin = refl

-- the sides of a box alike
in_a_box : ℕ → ℕ → Space
in_a_box w h = space.Box (record { width = w; height = h })

the_largest_box : space_tested (in_a_box 16384 4096) 64 ≡ Ok tt
unfolding in_a_box
the_largest_box = refl

one_more_than_the_margins_each : space_tested (in_a_box 21 21) 10 ≡ Ok tt
unfolding in_a_box
one_more_than_the_margins_each = refl

no_row_between_the_margins : space_tested (in_a_box 30 20) 10 ≡ Err fault.BoxRange
unfolding in_a_box
no_row_between_the_margins = refl

no_column_between_the_margins : space_tested (in_a_box 20 30) 10 ≡ Err fault.BoxRange
unfolding in_a_box
no_column_between_the_margins = refl

no_column_of_a_box : space_tested (in_a_box 0 5) 0 ≡ Err fault.BoxRange
unfolding in_a_box
no_column_of_a_box = refl

higher_than_the_highest : space_tested (in_a_box 1 4097) 0 ≡ Err fault.BoxRange
unfolding in_a_box
higher_than_the_highest = refl

wider_than_the_widest_box : space_tested (in_a_box 16385 1) 0 ≡ Err fault.BoxRange
unfolding in_a_box
wider_than_the_widest_box = refl

a_box_by_its_words : space_asked None (Some (codes "40x30")) ≡ Some (in_a_box 40 30)
unfolding in_a_box
a_box_by_its_words = refl

no_box_by_a_number : space_asked None (Some (codes "40")) ≡ None
no_box_by_a_number = refl
