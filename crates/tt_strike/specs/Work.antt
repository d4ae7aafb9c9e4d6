-- No part of the standard: the limits of a job's work (profile). It is bounded only with best. Before a glyph is made,
-- its points and the deltas of the face's instance are counted by headers alone.
use Rattle.std.specs.Prelude.{◌≡◌, refl, ℕ, ◌+◌, ◌-◌, ◌*◌, ◌/◌, min, ◌&&◌, nat_le, nat_lt, Bool, true, false, if◌then◌else◌, List, Option, Some, None, Result, Ok, Err}
use Rattle.std.specs.List.{sum_by}
use Rattle.tt_core.specs.declared.fault.JobFault.{JobFault}
use Rattle.tt_core.specs.declared.fault.JobFault.TheVariants as fault
use Rattle.tt_core.specs.Limits.{crossing_limit, point_work_limit}
use Rattle.tt_core.specs.Outcomes.{◌>>=◌}
use Rattle.tt_fit.specs.Counting.{points_asked}
use Rattle.tt_fit.specs.DeltaCounting.{delta_limit, deltas_asked}
use Rattle.tt_fit.specs.Fitting.{Fitter, charged_fitter}
use Rattle.tt_picture.specs.Distinct.{distinct, each_fitter, fitter_after}
use Rattle.tt_picture.specs.Steps.{glyph_chords}
use Rattle.tt_strike.specs.declared.work.CountsLeft.{CountsLeft}
use Rattle.tt_fit.specs.declared.programs.Fit.{Fit}
use Rattle.tt_fit.specs.declared.programs.Fit.TheVariants as fit

-- the fits that bound the work of a job
abbrev pub is_bounded : Fit → Bool
is_bounded fit.Full = false
is_bounded fit.None = false
is_bounded fit.Fallback = false
is_bounded fit.Best = true

-- the fits that lay a line out by the steps of its glyphs. The glyphs are made before, and their work is bounded
abbrev pub lays_after_glyphs : Fit → Bool
lays_after_glyphs how = is_bounded how

-- tests an amount of work against its limit
unfoldable pub work_tested : Fit → ℕ → ℕ → Result (Unit {0}) JobFault
work_tested how limit work = if is_bounded how && nat_lt limit work then Err fault.WorkLarge else Ok tt

-- the points of some glyphs
abbrev pub points_of_all : Fitter → List ℕ → ℕ
points_of_all s gs = sum_by (points_asked s.tables s.levels) gs

-- the points of a line's glyphs, each glyph once
abbrev pub points_in : Fitter → List ℕ → ℕ
points_in s gs = points_of_all s (distinct gs)

-- each point takes this much of a line's work, before the first glyph is made
abbrev pub point_work : ℕ
point_work = 40

-- the deltas of some glyphs at the instance of the face, and with them those of the control values
abbrev pub glyph_deltas : Fitter → List ℕ → ℕ
glyph_deltas s gs = sum_by (deltas_asked s.instance s.tables s.levels) gs

abbrev pub deltas_of_all : Fitter → List ℕ → ℕ
deltas_of_all s gs = s.control_deltas + glyph_deltas s gs

-- those of a line's glyphs, each glyph once
abbrev pub deltas_in : Fitter → List ℕ → ℕ
deltas_in s gs = deltas_of_all s (distinct gs)

-- what so many points and deltas leave of the limits, if neither exceeds its own
abbrev pub counts_left : CountsLeft → ℕ → ℕ → Option CountsLeft
counts_left most points deltas =
    if nat_le points most.points && nat_le deltas most.deltas
    then Some (record { points = most.points - points; deltas = most.deltas - deltas })
    else None

-- the limits of a job
abbrev pub all_counts : CountsLeft
all_counts = record { points = point_work_limit; deltas = delta_limit }

-- each delta takes this much of it
abbrev pub delta_work : ℕ
delta_work = 4

-- tests the points of some glyphs, and then their deltas
unfoldable pub counts_tested : Fit → ℕ → ℕ → Result (Unit {0}) JobFault
counts_tested how points deltas =
    work_tested how point_work_limit points >>= λ u. work_tested how delta_limit deltas

-- the same of the distinct glyphs of a line, before the first glyph is made
abbrev pub asked_tested : Fit → Fitter → List ℕ → Result (Unit {0}) JobFault
asked_tested how s gs = counts_tested how (points_in s gs) (deltas_in s gs)

-- the part of a line's work that points and deltas take
abbrev pub work_of_counts : ℕ → ℕ → ℕ
work_of_counts points deltas = point_work * points + delta_work * deltas

abbrev pub asked_work : Fitter → List ℕ → ℕ
asked_work s gs = work_of_counts (points_in s gs) (deltas_in s gs)

-- the fitter of a line, after the points and the deltas of the line's glyphs
abbrev pub started : Fitter → List ℕ → Fitter
started s gs = charged_fitter s (asked_work s gs)

-- the fitter for each glyph of a line
abbrev pub line_fitter : Fitter → List ℕ → ℕ → Fitter
line_fitter s gs g = each_fitter (started s gs) gs g

-- the work that remains after the programs of a line's glyphs
abbrev pub work_left : Fitter → List ℕ → Option ℕ
work_left s gs = (fitter_after (started s gs) (distinct gs)).work

-- the chords of a line's glyphs, each glyph once
abbrev pub chords_in : Fitter → List ℕ → ℕ
chords_in s gs = sum_by (λ g. glyph_chords (line_fitter s gs g) g) (distinct gs)

-- a line's glyphs may have this many chords
abbrev pub chord_limit : ℕ
chord_limit = 32000000

-- how many crossings the remaining work allows: each takes 4, and 500,000 are free
abbrev pub crossings_allowed : Option ℕ → ℕ
crossings_allowed None = crossing_limit
crossings_allowed (Some left) = min crossing_limit (left / 4 + 500000)

-- tests the chords of a line's glyphs, and then their crossings, by the work that remains
unfoldable pub edges_limited : Fit → Option ℕ → ℕ → ℕ → Result (Unit {0}) JobFault
edges_limited how left chords crossings =
    work_tested how chord_limit chords >>= λ u. work_tested how (crossings_allowed left) crossings

-- worked values: all work remains, some, three, and none
all_remains : crossings_allowed (Some 50000000) ≡ 10000000
all_remains = refl

some_remains : crossings_allowed (Some 30000003) ≡ 8000000
some_remains = refl

too_little_for_one : crossings_allowed (Some 3) ≡ 500000
too_little_for_one = refl

none_remains : crossings_allowed (Some 0) ≡ 500000
none_remains = refl

as_many_as_are_left : counts_left (record { points = 40; deltas = 9 }) 40 9 ≡ Some (record { points = 0; deltas = 0 })
as_many_as_are_left = refl

a_point_more_than_are_left : counts_left (record { points = 40; deltas = 9 }) 41 0 ≡ None
a_point_more_than_are_left = refl

a_delta_more_than_are_left : counts_left (record { points = 40; deltas = 9 }) 0 10 ≡ None
a_delta_more_than_are_left = refl

as_many_deltas_as_may_be : counts_tested fit.Best 1000000 8000000 ≡ Ok tt
unfolding counts_tested work_tested
as_many_deltas_as_may_be = refl

one_delta_more : counts_tested fit.Best 0 8000001 ≡ Err fault.WorkLarge
unfolding counts_tested work_tested
one_delta_more = refl

one_point_more : counts_tested fit.Best 1000001 0 ≡ Err fault.WorkLarge
unfolding counts_tested work_tested
one_point_more = refl

deltas_without_a_bound : counts_tested fit.Full 1000001 8000001 ≡ Ok tt
unfolding counts_tested work_tested
deltas_without_a_bound = refl

-- a pangram of the survey: 86,773 deltas, and some 1,100 points
of_a_pangram : work_of_counts 1100 86773 ≡ 391092
of_a_pangram = refl

as_many_chords_as_may_be : work_tested fit.Best chord_limit 32000000 ≡ Ok tt
unfolding work_tested
as_many_chords_as_may_be = refl

one_chord_more : work_tested fit.Best chord_limit 32000001 ≡ Err fault.WorkLarge
unfolding work_tested
one_chord_more = refl

no_crossing_but_too_many_chords : edges_limited fit.Best None 32000001 0 ≡ Err fault.WorkLarge
unfolding edges_limited work_tested
no_crossing_but_too_many_chords = refl

few_chords_but_too_many_crossings : edges_limited fit.Best (Some 3) 8 500001 ≡ Err fault.WorkLarge
unfolding edges_limited work_tested
few_chords_but_too_many_crossings = refl

few_of_both : edges_limited fit.Best (Some 3) 32000000 500000 ≡ Ok tt
unfolding edges_limited work_tested
few_of_both = refl

at_the_limit : work_tested fit.Best crossing_limit 10000000 ≡ Ok tt
unfolding work_tested
at_the_limit = refl

past_the_limit : work_tested fit.Best crossing_limit 10000001 ≡ Err fault.WorkLarge
unfolding work_tested
past_the_limit = refl

without_a_bound : work_tested fit.Fallback crossing_limit 10000001 ≡ Ok tt
unfolding work_tested
without_a_bound = refl
