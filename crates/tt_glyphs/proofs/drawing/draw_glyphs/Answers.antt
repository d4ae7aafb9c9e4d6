use Rattle.std.proofs.Common.{◌≡◌, ◌∙◌, ◌∷◌, [], ◌++◌, ◌<◌, List, Some, length, map, refl, sym, ap, subst, append_assoc, append-nil, All, arith}
use Rattle.std.specs.Vec.Iter.{into_iter_items}
use Rattle.std.proofs.lemmas.List.{map-append}
use Rattle.std.proofs.lemmas.List.Elements.{All-pop, All-push}
use Rattle.std.proofs.lemmas.List.Sums.{sum_by-append, sum_by-cons, sum_by_push}
use Rattle.tt_metrics.specs.Metrics.{glyphs_of}
use Rattle.tt_picture.proofs.Parts.{nothing_left, of_middle}
use Rattle.tt_glyphs.specs.declared.drawing.DrawnGlyph.{DrawnGlyph}
use Rattle.tt_glyphs.specs.declared.ruled.TriedGlyph.{TriedGlyph}
use Rattle.tt_glyphs.specs.Drawn.{DrawnFits, IsDrawn}
use Rattle.tt_glyphs.specs.Tried.{IsRuledBody, ruled_chords, ruled_crossings, tried_chords, tried_crossings}
use Rattle.tt_glyphs.proofs.Charged.{IsTriedBy, all_tried, all_within, one_charged, too_many}
use Rattle.tt_glyphs.proofs.drawing.draw_glyphs.Goals as goal

pub draw_one-requires-clause-known : goal.draw_one-requires-clause-known
draw_one-requires-clause-known c =
    let at = c.loop-one in
    let t = c.in-Some.one in
    let rest = into_iter_items c.next.new.self in
    let steps : into_iter_items at.one-iterator ≡ t ∷ rest = c.in-Some.ensures.steps.0 in
    let all : at.yielded ++ t ∷ rest ≡ c.args.tried.items = rw (← steps) at.invariant.all in
    let P : TriedGlyph → Type 0 = λ t. t.number < glyphs_of c.args.source.now.face.now.metrics in
    of_middle P at.yielded rest t (subst (All P) (sym all) c.requires.known)

pub draw_one-requires-clause-ruled : goal.draw_one-requires-clause-ruled
draw_one-requires-clause-ruled c =
    let at = c.loop-one in
    let t = c.in-Some.one in
    let rest = into_iter_items c.next.new.self in
    let steps : into_iter_items at.one-iterator ≡ t ∷ rest = c.in-Some.ensures.steps.0 in
    let all : at.yielded ++ t ∷ rest ≡ c.args.tried.items = rw (← steps) at.invariant.all in
    let P : TriedGlyph → Type 0 = λ t. IsRuledBody t.body in
    of_middle P at.yielded rest t (subst (All P) (sym all) c.requires.ruled)

pub loop-one-preserved : goal.loop-one-preserved
loop-one-preserved c =
    let at = c.loop-one in
    let so_far = at.invariant in
    let t = c.in-Some.one in
    let d = c.in-Some-2.glyph in
    let one = rw c.in-Some-2.is at c.in_ok-glyph.ensures in
    let pushed = c.in_ok-push.ensures.items in
    let steps : into_iter_items at.one-iterator ≡ t ∷ into_iter_items c.next.new.self = c.in-Some.ensures.steps.0 in
    let chords = sum_by_push (λ (t : TriedGlyph). ruled_chords t.body) at.yielded t in
    let crossings = sum_by_push (λ (t : TriedGlyph). ruled_crossings t.body) at.yielded t in
    record {
      all = append_assoc at.yielded (t ∷ []) _ ∙ rw (← steps) so_far.all;
      count = let was = so_far.count in
          let gone = c.in-Some.ensures.steps.1 in
          let short = ap length steps in
          omega arith;
      numbers = rw pushed (map-append (λ (d : DrawnGlyph). d.number) at.made.items (d ∷ [])
          ∙ rw (so_far.numbers, one.number) (sym (map-append (λ (t : TriedGlyph). t.number) at.yielded (t ∷ []))));
      drawn = λ maker source all.
          let parts = All-pop (IsTriedBy maker) (at.yielded ++ t ∷ []) at.yielded (Some t) refl all in
          let from : maker d.number ≡ maker t.number = ap maker one.number in
          let valid : IsDrawn c.args.source.now.fit (maker t.number) d = one.drawn (maker t.number) (source t.number) parts.1 in
          let here : IsDrawn c.args.source.now.fit (maker d.number) d = rw from valid in
          rw pushed (All-push (λ (d : DrawnGlyph). IsDrawn c.args.source.now.fit (maker d.number) d) at.made.items d
          (so_far.drawn maker source parts.0) here);
      fits = rw pushed (All-push DrawnFits at.made.items d so_far.fits one.fits);
      left = rw (chords, crossings)
          (one_charged c.args.limits at.left c.draw_one.new.left (tried_chords at.yielded) (tried_crossings at.yielded)
          (ruled_chords t.body) (ruled_crossings t.body) so_far.left one.left);
    }

-- the glyphs that are left are none
all_drawn : {X : Type 0} (drawn left all : List X) → drawn ++ left ≡ all → length left ≡ 0 → drawn ≡ all
all_drawn drawn left all parts none = sym (append-nil drawn) ∙ rw (nothing_left left none) at parts

pub returns-clause-numbers : goal.returns-clause-numbers
returns-clause-numbers c =
    let at = c.loop-one in
    let all = all_drawn at.yielded _ c.args.tried.items at.invariant.all (sym at.invariant.count ∙ c.in-None.ensures.steps.0) in
    at.invariant.numbers ∙ ap (map (λ (t : TriedGlyph). t.number)) all

pub returns-clause-drawn : goal.returns-clause-drawn
returns-clause-drawn c = λ maker source tried.
    let at = c.loop-one in
    let all = all_drawn at.yielded _ c.args.tried.items at.invariant.all (sym at.invariant.count ∙ c.in-None.ensures.steps.0) in
    at.invariant.drawn maker source (subst (All (IsTriedBy maker)) (sym all) (all_tried maker c.args.tried.items tried))

pub returns-clause-few : goal.returns-clause-few
returns-clause-few c =
    let at = c.loop-one in
    let all = all_drawn at.yielded _ c.args.tried.items at.invariant.all (sym at.invariant.count ∙ c.in-None.ensures.steps.0) in
    rw all at (all_within c.args.limits at.left (tried_chords at.yielded) (tried_crossings at.yielded) at.invariant.left)

-- one glyph has more chords or crossings than are left
pub returns-in_default-clause-many : goal.returns-in_default-clause-many
returns-in_default-clause-many c =
    let at = c.loop-one in
    let t = c.in-Some.one in
    let rest = into_iter_items c.next.new.self in
    let steps : into_iter_items at.one-iterator ≡ t ∷ rest = c.in-Some.ensures.steps.0 in
    let all : at.yielded ++ t ∷ rest ≡ c.args.tried.items = rw (← steps) at.invariant.all in
    let past = rw c.in_default.is at c.in_ok-glyph.ensures.past in
    let chords = sum_by-append (λ (t : TriedGlyph). ruled_chords t.body) at.yielded (t ∷ rest) in
    let chords_first = sum_by-cons (λ (t : TriedGlyph). ruled_chords t.body) t rest in
    let crossings = sum_by-append (λ (t : TriedGlyph). ruled_crossings t.body) at.yielded (t ∷ rest) in
    let crossings_first = sum_by-cons (λ (t : TriedGlyph). ruled_crossings t.body) t rest in
    rw (← all) (too_many c.args.limits at.left (tried_chords at.yielded) (tried_crossings at.yielded) (ruled_chords t.body)
    (ruled_crossings t.body) (tried_chords (at.yielded ++ t ∷ rest)) (tried_crossings (at.yielded ++ t ∷ rest)) at.invariant.left past
    (omega (arith, chords, chords_first)) (omega (arith, crossings, crossings_first)))
