-- No part of the standard: the tests of a setting before the font is read, its jobs, and its strike (profile).
use Rattle.std.specs.Prelude.{◌≡◌, ◌≢◌, refl, ℕ, false, List, [], option_map, Option, Some, None, Result, Ok, Err, IsOkAnd}
use Rattle.tt_axes.specs.declared.values.AxisValue.{AxisValue}
use Rattle.tt_face.specs.declared.instance.AskedInstance.{AskedInstance}
use Rattle.tt_face.specs.declared.rules.Opening.{Opening}
use Rattle.tt_core.specs.declared.collection.Reading.TheVariants as reading
use Rattle.tt_core.specs.declared.fault.JobFault.{JobFault}
use Rattle.tt_core.specs.declared.fault.JobFault.TheVariants as fault
use Rattle.tt_core.specs.Faults.{Fault}
use Rattle.tt_core.specs.Outcomes.{◌>>=◌}
use Rattle.tt_fit.specs.declared.programs.Fit.{Fit}
use Rattle.tt_fit.specs.declared.programs.Fit.TheVariants as fit
use Rattle.tt_strike.specs.Job.{Job, job_for, margin_tested, size_tested}
use Rattle.tt_strike.specs.Refusals.{Refused, as_font, large}
use Rattle.tt_strike.specs.Strikes.{SizedFace, Strike}
use Rattle.tt_face.specs.Faces.{Face}
use Rattle.tt_face.specs.Instance.{Asked, face_at_instance, IsDefectAtInstance}
use Rattle.tt_face.specs.Rules.{plain_opening}
use Rattle.tt_face.specs.Views.{asked_view}
use Rattle.tt_render_settings.specs.declared.setting.Missing.TheVariants as how
use Rattle.tt_render_settings.specs.declared.setting.Product.TheVariants as product
use Rattle.tt_render_settings.specs.declared.setting.Setting.{Setting}
use Rattle.tt_render_texts.specs.streams.Traffic.{if_readable}

-- the limits of a setting, in the order of their tests
unfoldable pub setting_tested : Setting → Result (Unit {0}) JobFault
setting_tested a = size_tested a.ppem >>= λ u. margin_tested a.margin

-- the setting by which `run` draws: glyph 0 in place of a missing one, the picture as it is, no cached glyphs, and no
-- instance
abbrev pub plain_setting : ℕ → ℕ → Fit → Opening → Setting
plain_setting ppem margin f o = record {
  ppem = ppem;
  margin = margin;
  fit = f;
  opening = o;
  missing = how.Draw;
  grow = false;
  product = product.Picture;
  most = 0;
  keep_going = false;
  instance = None;
}

-- the instance of a setting, and its values of axes
abbrev pub asked_in : Setting → Option Asked
asked_in a = option_map asked_view a.instance

abbrev pub axes_of : Option AskedInstance → List AxisValue
axes_of None = []
axes_of (Some i) = i.axes.now

abbrev pub axes_in : Setting → List AxisValue
axes_in a = axes_of a.instance

-- the face of a font's file as a setting opens it, at its instance; or the first fault
abbrev pub face_asked : Setting → List ℕ → Result Face Fault
face_asked a file = face_at_instance file a.opening (asked_in a)

-- a defect that no opened face has: of a table that every text needs, or of the instance
abbrev pub IsOpeningDefect : Setting → List ℕ → Fault → Type 0
IsOpeningDefect a file fault = IsDefectAtInstance file a.opening (asked_in a) fault

-- the output of a text is its picture as it is
pub record DrawsAsItIs (a : Setting) : Type 0 where
  pub picture : a.product ≡ product.Picture
  pub whole : a.grow ≡ false

-- a setting for the picture of a text as it is, with glyph 0 for each character without a glyph
pub record IsPlain (a : Setting) : Type 0 where
  pub as_it_is : DrawsAsItIs a
  pub drawn : a.missing ≢ how.Refuse

-- the job of a text; it is opened as the setting says
abbrev pub job_by : Setting → List ℕ → Job
job_by a text = job_for a.ppem a.fit text a.margin

-- a fact of a text's job by that face, if there is one
abbrev pub ByFaceAsked : (Face → Job → Type 0) → Setting → List ℕ → List ℕ → Type 0
ByFaceAsked P a text file = IsOkAnd (face_asked a file) (λ face. P face (job_by a text))

-- the strike of a setting, by a font's tables, before its first line
abbrev pub strike_by : Setting → Face → Strike
strike_by a face = record { face = face; ppem = a.ppem; fit = a.fit; most = a.most; kept = [] }

-- a face at a size as such a strike
abbrev pub strike_in : Setting → SizedFace → Strike
strike_in a z = record { face = z.face; ppem = z.ppem; fit = z.fit; most = a.most; kept = [] }

-- the strike by a font's file, if it is not too large, or the first fault of the tables needed for every text and of
-- the instance. The face is opened as the setting says
unfoldable pub strike_of : Setting → List ℕ → Result Strike Refused
strike_of a file = if_readable large (λ font. as_font (face_asked a font) >>= λ face. Ok (strike_by a face)) file

-- worked values
sized : ℕ → ℕ → Setting
sized ppem margin = plain_setting ppem margin fit.None (plain_opening reading.Strict)

size_before_margin : setting_tested (sized 301 65) ≡ Err fault.SizeRange
unfolding sized setting_tested size_tested
size_before_margin = refl

margin_alone : setting_tested (sized 300 65) ≡ Err fault.MarginRange
unfolding sized setting_tested size_tested margin_tested
margin_alone = refl

within_both : setting_tested (sized 300 64) ≡ Ok tt
unfolding sized setting_tested size_tested margin_tested
within_both = refl

run_is_plain : (ppem margin : ℕ) (f : Fit) (o : Opening) → IsPlain (plain_setting ppem margin f o)
run_is_plain ppem margin f o = record { as_it_is = record { picture = refl; whole = refl }; drawn = λ is. cc }
