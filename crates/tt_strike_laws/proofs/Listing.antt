-- With a fit that does not fall back no glyph of a line is unfitted.
use Rattle.std.proofs.Common.{◌≡◌, ◌≢◌, ℕ, ◌*◌, Bool, true, false, ◌==◌, List, [], ◌∷◌, map, None, Result, Ok, refl}
use Rattle.tt_core.specs.Chains.{came-through}
use Rattle.tt_fit.specs.Fitting.{Fitter, unfitted_fault, after_glyph}
use Rattle.tt_fit.specs.declared.programs.Fit.{Fit}
use Rattle.tt_fit.specs.declared.programs.Fit.TheVariants as fit
use Rattle.tt_fit.specs.Laws.{OthersNeverFallBack, OthersAreUnbounded, UnboundedStays}
use Rattle.tt_fit.specs.Rules.{falls_back}
use Rattle.tt_line.specs.Layout.{Placement}
use Rattle.tt_picture.specs.declared.report.Unfitted.{Unfitted}
use Rattle.tt_picture.specs.Distinct.{distinct, fitter_for}
use Rattle.tt_picture.specs.Unfitted.{unfitted_among}
use Rattle.tt_picture.proofs.Unbounded.{uncharged}
use Rattle.tt_strike.specs.Job.{Job}
use Rattle.tt_strike_laws.specs.Laws.{OthersListNothing}
use Rattle.tt_strike.specs.Picture.{line_shapes, setting, setting_in, text_placed}
use Rattle.tt_strike.specs.Refusals.{Refused, as_font}
use Rattle.tt_strike.specs.Report.{line_report, report_by, report_of}
use Rattle.tt_face.specs.Faces.{Face, glyphs_in}
use Rattle.tt_face.specs.Instance.{face_at_instance}
use Rattle.tt_strike.specs.Programs.{programs_in}
use Rattle.tt_strike.specs.Work.{asked_work, line_fitter, started}
use Rattle.tt_strike.proofs.Placed.{of-font}

-- with no fault that makes a glyph unfitted, none is listed
none_listed : (maker : ℕ → Fitter) (gs : List ℕ) → ((g : ℕ) → unfitted_fault (maker g) g ≡ None)
    → unfitted_among maker gs ≡ []
none_listed maker [] none = refl
none_listed maker (g ∷ gs) none = rw (none g, none_listed maker gs none) refl

-- where no glyph changes the fitter, all have the same
stays_by : (here : Bool) (s : Fitter) (h : ℕ) (hs : List ℕ) (g : ℕ) → (h == g) ≡ here → after_glyph s h ≡ s
    → fitter_for s hs g ≡ s → fitter_for s (h ∷ hs) g ≡ s
stays_by true s h hs g is stays rest = rw is refl
stays_by false s h hs g is stays rest = rw (is, stays) rest

stays_for : (s : Fitter) (hs : List ℕ) (g : ℕ) → ((h : ℕ) → after_glyph s h ≡ s) → fitter_for s hs g ≡ s
stays_for s [] g stays = refl
stays_for s (h ∷ hs) g stays = stays_by (h == g) s h hs g refl (stays h) (stays_for s hs g stays)

-- a fit that does not fall back has unbounded work
not_best : (how : Fit) → falls_back how ≡ false → how ≢ fit.Best
not_best fit.Full other = λ e. absurd cc
not_best fit.None other = λ e. absurd cc
not_best fit.Fallback other = absurd cc
not_best fit.Best other = absurd cc

-- the laws of tt_fit used here
pub record FitLaws : Type 0 where
  pub never : OthersNeverFallBack
  pub others : OthersAreUnbounded
  pub stays : UnboundedStays

ok_empty : (xs entries : List Unfitted) → ◌≡◌ {A = Result (List Unfitted) Refused} (Ok xs) (Ok entries) → xs ≡ []
    → entries ≡ []
ok_empty xs entries was empty = cc

line_lists_nothing : FitLaws → (face : Face) (a : Job) (line : Placement) (entries : List Unfitted)
    → line_report face a line ≡ Ok entries → falls_back a.fit ≡ false → entries ≡ []
unfolding line_report setting
line_lists_nothing laws face a line entries was other =
    let by_setting = came-through (as_font (setting_in face a)) _ entries was in
    let s = by_setting.value in
    let by_edges = came-through (line_shapes s a line) _ entries by_setting.rest in
    let by_tables = came-through (glyphs_in face) _ s
    (of-font (setting_in face a) s by_setting.first) in
    let by_programs = came-through (programs_in face a.fit) _ s by_tables.rest in
    let all = map (λ g. g.0) line.glyphs in
    let numbers = distinct all in
    let unbounded = laws.others face.metrics by_tables.value by_programs.value face.instance a.ppem a.fit s (not_best a.fit other)
    by_programs.rest in
    let stays : (g : ℕ) → after_glyph s g ≡ s = λ g. (laws.stays s g unbounded.0).1 in
    let same : started s all ≡ s = uncharged s (asked_work s all) unbounded.0 in
    let none : (g : ℕ) → unfitted_fault (line_fitter s all g) g ≡ None = λ g. rw (same, stays_for s numbers g stays)
    (laws.never face.metrics by_tables.value by_programs.value face.instance a.ppem a.fit s g other by_programs.rest) in
    let empty = none_listed (line_fitter s all) numbers none in
    ok_empty _ entries by_edges.rest empty

pub others_list_nothing : FitLaws → OthersListNothing
unfolding report_of report_by
others_list_nothing laws r asked a file entries was other =
    let by_face = came-through (as_font (face_at_instance file r asked)) _ entries was in
    let face = by_face.value in
    let by_line = came-through (text_placed face a) _ entries by_face.rest in
    let line = by_line.value in
    line_lists_nothing laws face a line entries by_line.rest other
