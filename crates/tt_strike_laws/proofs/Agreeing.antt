-- A text is measured exactly where it has a picture, and refused for the same reason.
use Rattle.std.proofs.Common.{◌≡◌, ◌∙◌, refl, Result, Ok, Err, sym}
use Rattle.tt_core.specs.Outcomes.{◌>>=◌}
use Rattle.tt_line.specs.Layout.{Placement}
use Rattle.tt_strike.specs.Grown.{grown_measured, grown_outcome, grown_placement}
use Rattle.tt_strike_laws.specs.InkLaws.{GrownMeasuredAsDrawn}
use Rattle.tt_strike.specs.Job.{Job}
use Rattle.tt_strike_laws.specs.Laws.{MeasuredAsDrawn}
use Rattle.tt_strike.specs.Measures.{measured, measured_line}
use Rattle.tt_strike.specs.Picture.{drawn, laid_out, line_shapes, setting_in}
use Rattle.tt_strike.specs.Refusals.{Refused, as_font}
use Rattle.tt_face.specs.Faces.{Face}
use Rattle.tt_strike.proofs.Stopped.{line_as_laid}

agrees : {A B C E : Type 0} (x : Result A E) (f : A → Result B E) (g : A → Result C E) (e : E)
    → ((v : A) → f v ≡ Err e → g v ≡ Err e) → (x >>= f) ≡ Err e → (x >>= g) ≡ Err e
agrees (Ok v) f g e same fails = same v fails
agrees (Err d) f g e same fails = let is : d ≡ e = cc in rw is refl

drawn_so_measured : (face : Face) (a : Job) (r : Refused) (l : Placement) → drawn face a l ≡ Err r
    → measured_line face a l ≡ Err r
unfolding drawn measured_line
drawn_so_measured face a r l fails =
    agrees (as_font (setting_in face a)) _ _ r (λ s. agrees (line_shapes s a l) _ _ r (λ glyphs never. absurd (cc))) fails

pub measured_so_drawn : (face : Face) (a : Job) (r : Refused) (l : Placement) → measured_line face a l ≡ Err r
    → drawn face a l ≡ Err r
unfolding drawn measured_line
measured_so_drawn face a r l fails =
    agrees (as_font (setting_in face a)) _ _ r (λ s. agrees (line_shapes s a l) _ _ r (λ glyphs never. absurd (cc))) fails

pub measured_as_drawn : MeasuredAsDrawn
unfolding measured
measured_as_drawn face a r = (
  λ fails. agrees (laid_out face a) (drawn face a) (measured_line face a) r (drawn_so_measured face a r)
      (sym (line_as_laid face a) ∙ fails),
  λ fails. line_as_laid face a
      ∙ agrees (laid_out face a) (measured_line face a) (drawn face a) r (measured_so_drawn face a r) fails,
)

pub grown_measured_as_drawn : GrownMeasuredAsDrawn
unfolding grown_outcome grown_measured
grown_measured_as_drawn face a r = (
  λ fails. agrees (grown_placement face a) (drawn face a) (measured_line face a) r (drawn_so_measured face a r) fails,
  λ fails. agrees (grown_placement face a) (measured_line face a) (drawn face a) r (measured_so_drawn face a r) fails,
)
