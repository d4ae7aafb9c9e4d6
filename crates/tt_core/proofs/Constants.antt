-- The code's limits are those of the specifications.
use Rattle.std.proofs.Common.{◌≡◌, pos, refl}
use Rattle.tt_core.specs.Limits.{font_limit, text_limit, size_limit, margin_limit, width_limit, height_limit, point_limit, component_limit, level_limit, best_level_limit, coordinate_limit, step_limit, work_limit, point_work_limit, crossing_limit, axis_limit, call_limit, stack_limit}
use Rattle.tt_core.specs.declared.limits.TheConstants.{FONT_LIMIT, TEXT_LIMIT, SIZE_LIMIT, MARGIN_LIMIT, WIDTH_LIMIT, HEIGHT_LIMIT, POINT_LIMIT, COMPONENT_LIMIT, LEVEL_LIMIT, BEST_LEVEL_LIMIT, COORDINATE_LIMIT, STEP_LIMIT, WORK_LIMIT, POINT_WORK_LIMIT, CROSSING_LIMIT, AXIS_LIMIT, CALL_LIMIT, STACK_LIMIT}

font_is : FONT_LIMIT ≡ font_limit
font_is = refl

text_is : TEXT_LIMIT ≡ text_limit
text_is = refl

size_is : SIZE_LIMIT ≡ size_limit
size_is = refl

margin_is : MARGIN_LIMIT ≡ margin_limit
margin_is = refl

width_is : WIDTH_LIMIT ≡ width_limit
width_is = refl

height_is : HEIGHT_LIMIT ≡ height_limit
height_is = refl

points_are : POINT_LIMIT ≡ point_limit
points_are = refl

components_are : COMPONENT_LIMIT ≡ component_limit
components_are = refl

levels_are : LEVEL_LIMIT ≡ level_limit
levels_are = refl

best_levels_are : BEST_LEVEL_LIMIT ≡ best_level_limit
best_levels_are = refl

coordinate_is : COORDINATE_LIMIT ≡ pos coordinate_limit
coordinate_is = refl

steps_are : STEP_LIMIT ≡ step_limit
steps_are = refl

work_is : WORK_LIMIT ≡ work_limit
work_is = refl

point_work_is : POINT_WORK_LIMIT ≡ point_work_limit
point_work_is = refl

crossings_are : CROSSING_LIMIT ≡ crossing_limit
crossings_are = refl

axes_are : AXIS_LIMIT ≡ axis_limit
axes_are = refl

calls_are : CALL_LIMIT ≡ call_limit
calls_are = refl

entries_are : STACK_LIMIT ≡ stack_limit
entries_are = refl
