-- The glyphs of a bounded line that is not refused have few crossings.
use Rattle.std.proofs.Common.{◌≡◌, refl, ℕ, ◌≤◌, Bool, true, false, ◌&&◌, nat_lt, if◌then◌else◌, List, map, Option, Some, None, Result, Ok, Err, arith}
use Rattle.std.proofs.lemmas.Bool.Decides.{nat_tests}
use Rattle.tt_core.specs.Chains.{came-through}
use Rattle.tt_core.specs.Limits.{crossing_limit}
use Rattle.tt_core.specs.declared.fault.JobFault.{JobFault}
use Rattle.tt_core.specs.declared.fault.JobFault.TheVariants as fault
use Rattle.tt_fit.specs.Fitting.{Fitter}
use Rattle.tt_fit.specs.declared.programs.Fit.{Fit}
use Rattle.tt_line.specs.Layout.{Placement}
use Rattle.tt_picture.specs.Pixels.{Shape}
use Rattle.tt_picture.specs.Shapes.{crossings_in}
use Rattle.tt_strike.specs.Job.{Job}
use Rattle.tt_strike_laws.specs.Laws.{BoundedLinesCrossFew}
use Rattle.tt_strike.specs.Picture.{edges_tested, laid_out, line_shapes, points_tested, setting_in, shapes_in}
use Rattle.tt_strike.specs.Refusals.{Refused, as_font, as_job}
use Rattle.tt_strike.specs.Work.{chord_limit, chords_in, crossings_allowed, edges_limited, is_bounded, work_left, work_tested}
use Rattle.tt_strike.proofs.Placed.{of-job}

-- a work that was tested is within its limit

not_over : (over : Bool) (u : Unit {0})
    → ◌≡◌ {A = Result (Unit {0}) JobFault} (if true && over then Err fault.WorkLarge else Ok tt) (Ok u)
    → over ≡ false
not_over true u is = absurd cc
not_over false u is = refl

within_limit : (how : Fit) (limit work : ℕ) (u : Unit {0}) → is_bounded how ≡ true → work_tested how limit work ≡ Ok u
    → work ≤ limit
unfolding work_tested
within_limit how limit work u bounded passes =
    let few : nat_lt limit work ≡ false = not_over (nat_lt limit work) u (rw bounded at passes) in
    grind (arith, nat_tests)

allowed_few : (left : Option ℕ) → crossings_allowed left ≤ crossing_limit
allowed_few None = omega arith
allowed_few (Some left) = omega arith

tested_few : (s : Fitter) (a : Job) (l : Placement) (glyphs : List Shape) (u : Unit {0}) → is_bounded a.fit ≡ true
    → edges_tested s a l glyphs ≡ Ok u → crossings_in glyphs ≤ crossing_limit
unfolding edges_limited
tested_few s a l glyphs u bounded seldom =
    let numbers = map (λ (g : ℕ × ℕ). g.0) l.glyphs in
    let allowed = crossings_allowed (work_left s numbers) in
    let passed = (came-through (work_tested a.fit chord_limit (chords_in s numbers)) _ u seldom).rest in
    let most : crossings_in glyphs ≤ allowed = within_limit a.fit allowed (crossings_in glyphs) u bounded passed in
    let limit : allowed ≤ crossing_limit = allowed_few (work_left s numbers) in
    omega (arith, most, limit)

same_glyphs : (these those : List Shape) → ◌≡◌ {A = Result (List Shape) Refused} (Ok these) (Ok those) → these ≡ those
same_glyphs these those is = cc

line_few : (a : Job) (s : Fitter) (l : Placement) (glyphs : List Shape) → is_bounded a.fit ≡ true
    → line_shapes s a l ≡ Ok glyphs → crossings_in glyphs ≤ crossing_limit
line_few a s l glyphs bounded made =
    let by_points = came-through (as_job (points_tested s a l)) _ glyphs made in
    let by_shapes = came-through (as_font (shapes_in s l)) _ glyphs by_points.rest in
    let those = by_shapes.value in
    let by_edges = came-through (as_job (edges_tested s a l those)) _ glyphs by_shapes.rest in
    let same = same_glyphs those glyphs by_edges.rest in
    let few = tested_few s a l those by_edges.value bounded (of-job (edges_tested s a l those) by_edges.value by_edges.first) in
    rw (← same) few

pub bounded_lines_cross_few : BoundedLinesCrossFew
bounded_lines_cross_few face a glyphs bounded made =
    let by_line = came-through (laid_out face a) _ glyphs made in
    let by_setting = came-through (as_font (setting_in face a)) _ glyphs by_line.rest in
    line_few a by_setting.value by_line.value glyphs bounded by_setting.rest
