use Rattle.std.proofs.Common.{◌≡◌, ◌≢◌, List, ℕ, Result, Ok, Err, refl, ◌∙◌, arith}
use Rattle.std.specs.Prelude.{IfSome}
use Rattle.std.proofs.lemmas.List.{length-map}
use Rattle.tt_core.specs.declared.collection.Reading.{Reading}
use Rattle.tt_face.specs.Files.{IsFaceDefectBy}
use Rattle.tt_strike.specs.Job.{text_tested}
use Rattle.tt_face.specs.Faces.{Face}
use Rattle.tt_strike.specs.Refusals.{Refused, job}
use Rattle.tt_core.specs.Outcomes.{◌>>=◌}
use Rattle.tt_c_calls.specs.declared.fault.CallFault.TheVariants as call
use Rattle.tt_c_calls.specs.Asked.{face_reading, text_asked}
use Rattle.tt_c_calls.specs.Fonts.{face_wanted}
use Rattle.tt_c_calls.specs.Refusals.{as_call, call_refusal, refused}
use Rattle.tt_c_calls.specs.Maps.{glyphs_wanted, text_told}
use Rattle.tt_c_calls.specs.declared.mapping.CGlyph.{CGlyph}
use Rattle.tt_c_calls.proofs.Answered.{by_face, by_test, fails, first_stops, serves, stands, tells, wants_none}
use Rattle.tt_c_calls.proofs.mapping.map.Goals as goal

abbrev told_by : List ℕ → Face → Result (List CGlyph) Refused
told_by t face = Ok (text_told t face)

not_text : (r : Reading) (text font : List ℕ) (f : _) → IfSome (call_refusal f) (λ why. text_asked text ≡ Err why)
    → IfSome (call_refusal f) (λ why. glyphs_wanted r text font ≡ Err why)
unfolding glyphs_wanted
not_text r text font f is = first_stops (text_asked text) _ f is

too_long : (r : Reading) (text font : List ℕ) (t : List ℕ) (j : _) → text_asked text ≡ Ok t → text_tested t ≡ Err j
    → glyphs_wanted r text font ≡ Err (refused (job j))
unfolding glyphs_wanted
too_long r text font t j is fails = rw is (by_test (text_tested t) _ j fails)

of_tables : (r : Reading) (text font : List ℕ) (t : List ℕ) → text_asked text ≡ Ok t → text_tested t ≡ Ok tt
    → glyphs_wanted r text font ≡ (face_wanted r font >>= λ face. as_call (told_by t face))
unfolding glyphs_wanted
of_tables r text font t is passes = rw is (by_face (text_tested t) (told_by t) r font passes)

pub returns-in-Err : goal.returns-in-Err
returns-in-Err c =
    let text = c.args.text.now in
    let font = c.args.font.now in
    let fault = c.in-Err.fault in
    rw c.answer_of.ensures (record {
      done = λ h. absurd (fails fault h);
      refused = λ _ _. tells (glyphs_wanted (face_reading c.args.face) text font) fault (not_text (face_reading c.args.face) text font fault c.in-Err.ensures.exact);
      small = λ h. absurd (wants_none fault h);
      memory = rw c.in-Err.ensures.refused (λ h. omega (arith, h));
      kept = λ _. refl;
      stands = rw c.in-Err.ensures.refused (λ h. absurd (omega (arith, h)));
    })

pub returns-in-Err-test_text : goal.returns-in-Err-test_text
returns-in-Err-test_text c =
    let fault = c.in-Err-test_text.fault in
    let is = too_long (face_reading c.args.face) c.args.text.now c.args.font.now c.in-Ok.text.now fault c.in-Ok.ensures.exact c.in-Err-test_text.ensures.exact in
    rw c.answer_of-in-Err-test_text.ensures (record {
      done = λ h. absurd (fails (call.Job fault) h);
      refused = λ _ _. tells (glyphs_wanted (face_reading c.args.face) c.args.text.now c.args.font.now) (call.Job fault) is;
      small = λ h. absurd (wants_none (call.Job fault) h);
      memory = λ h. omega (arith, h);
      kept = λ _. refl;
      stands = λ h. absurd (omega (arith, h));
    })

pub returns-in-Ok-face_of : goal.returns-in-Ok-face_of
returns-in-Ok-face_of c =
    let read = rw c.face_reading.ensures at c.in-Ok-face_of.ensures.exact in
    let text = c.in-Ok.text.now in
    let face = c.in-Ok-face_of.opened in
    let told = text_told text face in
    let is = of_tables (face_reading c.args.face) c.args.text.now c.args.font.now text c.in-Ok.ensures.exact c.in_default.ensures.exact in
    let own = c.write_glyphs in
    let seven : own.result.status ≢ 0 → own.result.status ≡ 7 = λ other. rw (own.ensures.small other).1 refl in
    record {
      done = λ h. (told, is ∙ rw read refl, own.ensures.done h);
      refused = λ other not_seven. absurd (not_seven (seven other));
      small = λ h. (told, is ∙ rw read refl, rw length-map (own.ensures.small (λ none. omega (arith, h, none))));
      memory = λ five. omega (arith, five, seven (λ zero. omega (arith, five, zero)));
      kept = own.ensures.kept;
      stands = λ one. absurd (omega (arith, one, seven (λ zero. omega (arith, one, zero))));
    }

pub returns-in-Err-face_of : goal.returns-in-Err-face_of
returns-in-Err-face_of c =
    let text = c.in-Ok.text.now in
    let font = c.args.font.now in
    let fault = c.in-Err-face_of.fault in
    let is = of_tables (face_reading c.args.face) c.args.text.now font text c.in-Ok.ensures.exact c.in_default.ensures.exact in
    rw c.answer_of-in-Err-face_of.ensures (record {
      done = λ h. absurd (fails fault h);
      refused = λ _ _. tells (glyphs_wanted (face_reading c.args.face) c.args.text.now font) fault (rw is (first_stops (face_wanted (face_reading c.args.face) font) _ fault (rw c.face_reading.ensures at c.in-Err-face_of.ensures.exact)));
      small = λ h. absurd (wants_none fault h);
      memory = serves fault c.in-Err-face_of.ensures.memory;
      kept = λ _. refl;
      stands = stands (IsFaceDefectBy font (face_reading c.args.face)) fault (rw c.face_reading.ensures at c.in-Err-face_of.ensures.defects);
    })
