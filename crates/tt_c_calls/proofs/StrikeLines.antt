-- The picture that a strike draws of a line is the requested picture of the strike's font.
use Rattle.std.proofs.Common.{◌≡◌, ◌≢◌, ◌∙◌, ap, refl, ℕ, ◌*◌, Bool, true, false, nat_lt, List, length, Option, Some, None, IfSome, Result, Ok, Err, inl, inr, arith}
use Rattle.std.proofs.lemmas.List.{take_all}
use Rattle.std.specs.Prelude.{if◌then◌else◌}
use Rattle.tt_core.specs.Bits.{stride}
use Rattle.tt_face.specs.declared.rules.Opening.{Opening}
use Rattle.tt_core.specs.declared.fault.JobFault.{JobFault}
use Rattle.tt_core.specs.Faults.{Fault}
use Rattle.tt_core.specs.Limits.{font_limit}
use Rattle.tt_core.specs.Outcomes.{◌>>=◌}
use Rattle.tt_line.specs.Layout.{text_glyphs}
use Rattle.tt_strike.specs.Defects.{IsLineDefect}
use Rattle.tt_strike.specs.Grown.{grown_outcome, grown_placement}
use Rattle.tt_strike.specs.Job.{Job, tested}
use Rattle.tt_strike.specs.Picture.{line_outcome}
use Rattle.tt_picture.specs.Pictures.{IsReady, Picture, image_of}
use Rattle.tt_strike.specs.Refusals.{Refused, as_font, as_job, font, job, large}
use Rattle.tt_strike.specs.Strikes.{Strike, job_of}
use Rattle.tt_face.specs.Faces.{Face}
use Rattle.tt_face.specs.Instance.{Asked, face_at_instance}
use Rattle.tt_c_calls.specs.declared.answer.CAnswer.{CAnswer}
use Rattle.tt_c_calls.specs.declared.asked.CJob.{CJob}
use Rattle.tt_c_calls.specs.declared.fault.CallFault.{CallFault}
use Rattle.tt_c_calls.specs.declared.line_drawing.CLine.{CLine}
use Rattle.tt_c_calls.specs.declared.pictures.CPicture.{CPicture}
use Rattle.tt_c_calls.specs.declared.fault.CallFault.TheVariants as call
use Rattle.tt_c_calls.specs.Answers.{call_answer}
use Rattle.tt_c_calls.specs.Asked.{IsAskedDefect, asked, grows, job_instance, job_opening, text_asked}
use Rattle.tt_c_calls.specs.Lines.{IsLineWritten, IsStrikeFor, IsTextStopped, is_blank, lines_wanted}
use Rattle.tt_c_calls.specs.Pictures.{IsBandSmall, IsBandWritten, IsPictureOf, band_of, band_rows, picture_wanted}
use Rattle.tt_render_settings.specs.Products.{IsMadeBy, picture_by}
use Rattle.tt_c_calls.specs.Refusals.{Refusal, as_call, axes_many, box_range, box_small, call_font_fault, call_refusal, line_ends, not_utf8, refused, unknown_align, unknown_fit, width_range}

-- a job tested twice is a job tested once
twice : {X : Type 0} (t : Result (Unit {0}) JobFault) (f : Unit {0} → Result X Refused)
    → (as_job t >>= λ u. as_job t >>= f) ≡ (as_job t >>= f)
twice (Ok u) f = refl
twice (Err j) f = refl

twice_grown : {X Y Z : Type 0} (t : Result (Unit {0}) JobFault) (f : Unit {0} → Result X Refused)
    (g : X → Result Y Refused) (h : Y → Result Z Refused)
    → (as_job t >>= λ u. ((as_job t >>= f) >>= g) >>= h) ≡ (((as_job t >>= f) >>= g) >>= h)
twice_grown (Ok u) f g h = refl
twice_grown (Err j) f g h = refl

picture_tested : (grow : Bool) (face : Face) (a : Job)
    → (as_job (tested a) >>= λ u. picture_by grow face a) ≡ picture_by grow face a
unfolding picture_by line_outcome grown_outcome grown_placement
picture_tested false face a = twice (tested a) _
picture_tested true face a = twice_grown (tested a) _ _ _

-- a font whose tables were found is not too large
record IsOpened (r : Opening) (i : Option Asked) (file : List ℕ) (face : Face) : Type 0 where
  small : nat_lt font_limit (length file) ≡ false
  face_of_file : face_at_instance file r i ≡ Ok face

opened_of : (t : Result (Unit {0}) JobFault) (big : Bool) (r : Result Face Fault) (face : Face)
    → as_call (as_job t >>= λ u. if big then Err large else (as_font r >>= λ face. Ok face)) ≡ Ok face
    → (big ≡ false) × (r ≡ Ok face)
opened_of (Err j) big r face is = absurd cc
opened_of (Ok u) true r face is = absurd cc
opened_of (Ok u) false (Err f) face is = absurd cc
opened_of (Ok u) false (Ok x) face is = (refl, cc)

opened : (j : CJob) (file : List ℕ) (s : Strike) → IsStrikeFor j file s
    → IsOpened (job_opening j s.fit) (job_instance j) file s.face
unfolding lines_wanted
opened j file s for =
    let is = rw for.fit at for.face in
    let facts = opened_of _ _ (face_at_instance file (job_opening j s.fit) (job_instance j)) s.face is in
    record { small = facts.0; face_of_file = facts.1 }

pub asked_by : (j : CJob) (file line t : List ℕ) (s : Strike) → IsStrikeFor j file s → text_asked line ≡ Ok t
    → asked j line ≡ Ok (job_of s t j.margin)
unfolding asked
asked_by j file line t s for text = rw (for.fit, text, for.size) refl

-- the picture of a line
pub wanted_by : (j : CJob) (file line t : List ℕ) (s : Strike) → IsStrikeFor j file s → text_asked line ≡ Ok t
    → picture_wanted j line file ≡ as_call (picture_by (grows j) s.face (job_of s t j.margin))
unfolding picture_wanted
wanted_by j file line t s for text =
    let is_open = opened j file s for in
    rw (asked_by j file line t s for text, is_open.small, is_open.face_of_file)
    (ap as_call (picture_tested (grows j) s.face (job_of s t j.margin)))

-- a picture that a strike made of a line is that of the line
pub picture_of_line : (j : CJob) (file line t : List ℕ) (s : Strike) (p : Picture) → IsStrikeFor j file s
    → text_asked line ≡ Ok t → as_call (picture_by (grows j) s.face (job_of s t j.margin)) ≡ Ok (image_of p)
    → IsReady p → IsMadeBy (grows j) (job_of s t j.margin) p s.face → IsPictureOf j line file p
picture_of_line j file line t s p for text exact ready made = record {
  image = wanted_by j file line t s for text ∙ exact;
  ready = ready;
  made = rw (asked_by j file line t s for text, (opened j file s for).face_of_file) made;
}

-- the refusal of a line
pub if_some_more : {X : Type 0} (o : Option X) (P Q : X → Type 0) → ((x : X) → P x → Q x) → IfSome o P → IfSome o Q
if_some_more None P Q more h = tt
if_some_more (Some x) P Q more h = more x h

refused_text : (j : CJob) (file line : List ℕ) (s : Strike) (why : Refusal) → IsStrikeFor j file s
    → text_asked line ≡ Err why → picture_wanted j line file ≡ Err why
unfolding picture_wanted asked
refused_text j file line s why for text = rw (for.fit, text) refl

pub text_refused : (j : CJob) (file line : List ℕ) (s : Strike) (e : CallFault) → IsStrikeFor j file s
    → IfSome (call_refusal e) (λ why. text_asked line ≡ Err why)
    → IfSome (call_refusal e) (λ why. picture_wanted j line file ≡ Err why)
text_refused j file line s e for = if_some_more (call_refusal e) _ _ (λ why. refused_text j file line s why for)

pub line_refused : (j : CJob) (file line t : List ℕ) (s : Strike) (e : CallFault) → IsStrikeFor j file s
    → text_asked line ≡ Ok t
    → IfSome (call_refusal e) (λ why. as_call (picture_by (grows j) s.face (job_of s t j.margin)) ≡ Err why)
    → IfSome (call_refusal e) (λ why. picture_wanted j line file ≡ Err why)
line_refused j file line t s e for text = if_some_more (call_refusal e) _ _
    (λ why h. wanted_by j file line t s for text ∙ h)

-- the answer for a line that is refused
pub line_stopped : (j : CJob) (file line : List ℕ) (left : ℕ) (e : CallFault) → is_blank j line ≡ false
    → IfSome (call_refusal e) (λ why. picture_wanted j line file ≡ Err why)
    → IsTextStopped j file line left (call_answer e)
line_stopped j file line left (call.Font f) other h = (other, inr (inl (refused (font f), h, refl)))
line_stopped j file line left (call.Job why) other h = (other, inr (inl (refused (job why), h, refl)))
line_stopped j file line left call.FontLarge other h = (other, inr (inl (refused large, h, refl)))
line_stopped j file line left call.UnknownFit other h = (other, inr (inl (unknown_fit, h, refl)))
line_stopped j file line left call.LineEnds other h = (other, inr (inl (line_ends, h, refl)))
line_stopped j file line left call.UnknownAlign other h = (other, inr (inl (unknown_align, h, refl)))
line_stopped j file line left call.AxesMany other h = (other, inr (inl (axes_many, h, refl)))
line_stopped j file line left call.WidthRange other h = (other, inr (inl (width_range, h, refl)))
line_stopped j file line left call.BoxRange other h = (other, inr (inl (box_range, h, refl)))
line_stopped j file line left call.BoxSmall other h = (other, inr (inl (box_small, h, refl)))
line_stopped j file line left call.NotUtf8 other h = (other, inr (inl (not_utf8, h, refl)))
line_stopped j file line left call.Memory other h = (other, inl refl)

-- the status of the answer for a fault is not 0, done
pub not_done : (e : CallFault) → (call_answer e).status ≢ 0
not_done (call.Font f) is = absurd (omega arith)
not_done (call.Job j) is = absurd (omega arith)
not_done call.FontLarge is = absurd (omega arith)
not_done call.UnknownFit is = absurd (omega arith)
not_done call.LineEnds is = absurd (omega arith)
not_done call.UnknownAlign is = absurd (omega arith)
not_done call.AxesMany is = absurd (omega arith)
not_done call.WidthRange is = absurd (omega arith)
not_done call.BoxRange is = absurd (omega arith)
not_done call.BoxSmall is = absurd (omega arith)
not_done call.NotUtf8 is = absurd (omega arith)
not_done call.Memory is = absurd (omega arith)

-- a defect that the strike met is one that the request may meet
pub line_defect : (j : CJob) (file line t : List ℕ) (s : Strike) (e : CallFault) → IsStrikeFor j file s
    → text_asked line ≡ Ok t
    → IfSome (call_font_fault e) (IsLineDefect s.face (job_of s t j.margin) (text_glyphs s.face.cmap t))
    → IfSome (call_font_fault e) (IsAskedDefect j line file)
line_defect j file line t s e for text = if_some_more (call_font_fault e) _ _
    (λ f h. rw (asked_by j file line t s for text, (opened j file s for).face_of_file) (inr h))

-- the band of all rows
all_rows : (h : ℕ) → band_rows h 0 h ≡ h
all_rows h = omega arith

whole_band : (p : Picture) → IsReady p → band_of p 0 p.frame.height ≡ p.rows
whole_band p ready =
    let first : stride p.frame.width * 0 ≡ 0 = omega arith in
    rw (all_rows p.frame.height, first)
    (take_all (stride p.frame.width * p.frame.height) p.rows (omega (arith, ready.rows)))

pub line_written : (j : CJob) (file line : List ℕ) (at height : ℕ) (p : Picture) (room new : List ℕ)
    (known : CPicture) (told : CLine) (a : CAnswer) (cost : ℕ) → is_blank j line ≡ false → IsPictureOf j line file p → height ≡ p.frame.height
    → IsBandWritten p 0 height room new known a → told ≡ record { picture = known; at = at } → cost ≡ p.cost
    → IsLineWritten j file line at room new told a cost
line_written j file line at height p room new known told a cost other of all w is takes =
    let whole = whole_band p of.ready in
    record {
      bytes = p.rows;
      shown = inr (other, (p, of, rw (is, w.picture) refl, refl, takes));
      rows = rw (all, whole) at w.rows;
      place = rw is refl;
      answer = rw (is, w.picture) (rw (all, whole, all_rows p.frame.height) at w.answer);
    }

-- a room too small for all rows
pub room_small : (j : CJob) (file line room : List ℕ) (height : ℕ) (p : Picture) (a : CAnswer) → is_blank j line ≡ false
    → IsPictureOf j line file p → height ≡ p.frame.height → IsBandSmall p 0 height room a
    → IsTextStopped j file line (length room) a
room_small j file line room height p a other of all small =
    let facts = rw (all, whole_band p of.ready, all_rows p.frame.height) at small in
    (other, inr (inr (p, of, facts.0, facts.1)))
