use Rattle.std.proofs.Common.{◌≡◌, ◌∙◌, ◌∷◌, [], ◌++◌, ◌+◌, ◌<◌, ◌≤◌, inl, inr, ℕ, List, Some, length, refl, sym, ap, subst, append_assoc, append-nil, length-append, arith}
use Rattle.std.specs.Vec.Iter.{into_iter_items}
use Rattle.std.proofs.lemmas.List.{map-append}
use Rattle.std.proofs.lemmas.List.Elements.{All-pop, All-push}
use Rattle.tt_fit.specs.Fitting.{Fitter}
use Rattle.tt_picture.specs.Fitted.{AreFitted, FittedGlyph, IsFitted, body_chords, fitted_chords, fitted_crossings, fitted_numbers}
use Rattle.tt_picture.specs.Glyphs.{Glyph, IsDrawn}
use Rattle.tt_picture.proofs.Cached.{served}
use Rattle.tt_picture.proofs.Outlines.{one_chord_more, one_glyph_more, too_many_chords, too_many_crossings}
use Rattle.tt_picture.proofs.Parts.{nothing_left, of_middle}
use Rattle.tt_picture.proofs.fitting.drawn_glyphs.Goals as goal

abbrev IsBy : (ℕ → Fitter) → FittedGlyph → Type 0
IsBy maker g = IsFitted (maker g.number) g

-- the next glyph is fitted
next_fitted : (drawn left rest all : List FittedGlyph) (g : FittedGlyph) → drawn ++ left ≡ all → left ≡ g ∷ rest
    → (maker : ℕ → Fitter) × AreFitted maker all → (s : Fitter) × IsFitted s g
next_fitted drawn left rest all g parts first made =
    let (maker, fitted) = made in
    let here : drawn ++ g ∷ rest ≡ all = rw first at parts in
    (maker g.number, of_middle (IsBy maker) drawn rest g (subst (AreFitted maker) (sym here) fitted))

pub has_chords_within-requires : goal.has_chords_within-requires
has_chords_within-requires c = record {
  fitted = next_fitted c.loop-one.yielded (into_iter_items c.loop-one.one-iterator) (into_iter_items c.next.new.self)
      c.args.fitted.items c.in-Some.one c.loop-one.invariant.all c.in-Some.ensures.steps.0 c.requires.made;
}

pub into_glyph-requires : goal.into_glyph-requires
into_glyph-requires c = record {
  fitted = next_fitted c.loop-one.yielded (into_iter_items c.loop-one.one-iterator) (into_iter_items c.next.new.self)
      c.args.fitted.items c.in-Some.one c.loop-one.invariant.all c.in-Some.ensures.steps.0 c.requires.made;
}

pub loop-one-preserved : goal.loop-one-preserved
loop-one-preserved c =
    let at = c.loop-one in
    let so_far = at.invariant in
    let g = c.in-Some.one in
    let h = c.in_ok-glyph.glyph in
    let one = c.in_ok-glyph.ensures in
    let pushed = c.push_reserved.ensures.items in
    let steps : into_iter_items at.one-iterator ≡ g ∷ into_iter_items c.next.new.self = c.in-Some.ensures.steps.0 in
    let same : c.chords.result ≡ h.chords = c.chords.ensures in
    let has = c.has_chords_within.ensures in
    let few = c.if-not-has_chords_within.false in
    let within : body_chords g.body ≤ at.left.chords = grind (arith, has, few) in
    let crosses : c.crossings-crossings.result ≡ h.crossings = c.crossings-crossings.ensures in
    let fits : (c.chords.result ≤ at.left.chords) × (c.crossings-crossings.result ≤ at.left.crossings) =
    (omega (arith, same, one.chords, within), omega (arith, c.if-crossings-left.false)) in
    record {
      all = append_assoc at.yielded (g ∷ []) _ ∙ rw (← steps) so_far.all;
      count = let was = so_far.count in
          let gone = c.in-Some.ensures.steps.1 in
          let short = ap length steps in
          omega arith;
      numbers = rw pushed (map-append (λ (g : Glyph). g.number) at.made.items (h ∷ [])
          ∙ rw (so_far.numbers, one.number) (sym (map-append (λ (g : FittedGlyph). g.number) at.yielded (g ∷ []))));
      drawn = λ maker all.
          let parts = All-pop (IsBy maker) (at.yielded ++ g ∷ []) at.yielded (Some g) refl all in
          let from : maker h.number ≡ maker g.number = ap maker one.number in
          let valid : IsDrawn (maker g.number) h = one.valid (maker g.number) parts.1 in
          let here : IsDrawn (maker h.number) h = rw from valid in
          rw pushed (All-push (λ (g : Glyph). IsDrawn (maker g.number) g) at.made.items h (so_far.drawn maker parts.0) here);
      left = one_chord_more at.yielded g at.left.chords c.args.limits.chords c.chords.result so_far.left (same ∙ one.chords) fits.0;
      crossed = one_glyph_more at.yielded g at.left.crossings c.args.limits.crossings c.crossings-crossings.result so_far.crossed
          (crosses ∙ one.crossings) fits.1;
      cached = served c.args.cache.now at.cache c.into_glyph.new.cache at.yielded (g ∷ []) [] (at.yielded ++ g ∷ []) g refl refl
          so_far.cached one.cached;
      limit = one.limit ∙ so_far.limit;
      made = omega (arith, c.push_reserved.ensures.len, so_far.made, length-append at.yielded (g ∷ []));
      spare = rw c.push_reserved.ensures.capacity so_far.spare;
    }

-- a glyph is left, and the room is for all
pub push_reserved-requires : goal.push_reserved-requires
push_reserved-requires c =
    let at = c.loop-one in
    let g = c.in-Some.one in
    let rest = into_iter_items c.next.new.self in
    let steps : into_iter_items at.one-iterator ≡ g ∷ rest = c.in-Some.ensures.steps.0 in
    let all : length (at.yielded ++ g ∷ rest) ≡ length c.args.fitted.items = ap length (rw (← steps) at.invariant.all) in
    omega (arith, all, length-append at.yielded (g ∷ rest), at.invariant.made, at.invariant.spare)

-- the glyphs that are left are none
all_drawn : {X : Type 0} (drawn left all : List X) → drawn ++ left ≡ all → length left ≡ 0 → drawn ≡ all
all_drawn drawn left all parts none = sym (append-nil drawn) ∙ rw (nothing_left left none) at parts

pub returns-clause-numbers : goal.returns-clause-numbers
returns-clause-numbers c =
    let at = c.loop-one in
    let all = all_drawn at.yielded _ c.args.fitted.items at.invariant.all (sym at.invariant.count ∙ c.in-None.ensures.steps.0) in
    at.invariant.numbers ∙ ap fitted_numbers all

pub returns-clause-drawn : goal.returns-clause-drawn
returns-clause-drawn c = λ maker fitted.
    let at = c.loop-one in
    let all = all_drawn at.yielded _ c.args.fitted.items at.invariant.all (sym at.invariant.count ∙ c.in-None.ensures.steps.0) in
    at.invariant.drawn maker (subst (AreFitted maker) (sym all) fitted)

pub returns-clause-few : goal.returns-clause-few
returns-clause-few c =
    let at = c.loop-one in
    let all = all_drawn at.yielded _ c.args.fitted.items at.invariant.all (sym at.invariant.count ∙ c.in-None.ensures.steps.0) in
    let left : at.left.chords + fitted_chords c.args.fitted.items ≡ c.args.limits.chords = rw all at at.invariant.left in
    omega (arith, left)

pub returns-clause-crossed : goal.returns-clause-crossed
returns-clause-crossed c =
    let at = c.loop-one in
    let all = all_drawn at.yielded _ c.args.fitted.items at.invariant.all (sym at.invariant.count ∙ c.in-None.ensures.steps.0) in
    let left : at.left.crossings + fitted_crossings c.args.fitted.items ≡ c.args.limits.crossings = rw all at at.invariant.crossed in
    omega (arith, left)

pub returns-clause-cached : goal.returns-clause-cached
returns-clause-cached c =
    let at = c.loop-one in
    let all = all_drawn at.yielded _ c.args.fitted.items at.invariant.all (sym at.invariant.count ∙ c.in-None.ensures.steps.0) in
    rw (← all) at.invariant.cached

-- a glyph has more chords than are left
pub returns-then-not-has_chords_within-clause-many : goal.returns-then-not-has_chords_within-clause-many
returns-then-not-has_chords_within-clause-many c =
    let at = c.loop-one in
    let g = c.in-Some.one in
    let rest = into_iter_items c.next.new.self in
    let steps : into_iter_items at.one-iterator ≡ g ∷ rest = c.in-Some.ensures.steps.0 in
    let all : at.yielded ++ g ∷ rest ≡ c.args.fitted.items = rw (← steps) at.invariant.all in
    let has = c.has_chords_within.ensures in
    let many = c.if-not-has_chords_within.true in
    let over : at.left.chords < body_chords g.body = grind (arith, has, many) in
    inl (rw (← all) (too_many_chords at.yielded rest g at.left.chords c.args.limits.chords (body_chords g.body) at.invariant.left refl over))

-- the cache serves the glyph that is not made as before
pub returns-then-not-has_chords_within-clause-cached : goal.returns-then-not-has_chords_within-clause-cached
returns-then-not-has_chords_within-clause-cached c =
    let at = c.loop-one in
    served c.args.cache.now at.cache at.cache at.yielded (into_iter_items at.one-iterator)
    (into_iter_items c.next.new.self) c.args.fitted.items c.in-Some.one at.invariant.all c.in-Some.ensures.steps.0
    at.invariant.cached (λ s is before. before)

-- a glyph has more crossings than are left
pub returns-then-crossings-left-clause-many : goal.returns-then-crossings-left-clause-many
returns-then-crossings-left-clause-many c =
    let at = c.loop-one in
    let g = c.in-Some.one in
    let rest = into_iter_items c.next.new.self in
    let steps : into_iter_items at.one-iterator ≡ g ∷ rest = c.in-Some.ensures.steps.0 in
    let all : at.yielded ++ g ∷ rest ≡ c.args.fitted.items = rw (← steps) at.invariant.all in
    let crosses = c.crossings-crossings.ensures ∙ c.in_ok-glyph.ensures.crossings in
    let over : at.left.crossings < c.crossings-crossings.result = omega (arith, c.if-crossings-left.true) in
    inr (rw (← all) (too_many_crossings at.yielded rest g at.left.crossings c.args.limits.crossings c.crossings-crossings.result
    at.invariant.crossed crosses over))

-- the cache after the glyphs so far and one more
pub returns-then-crossings-left-clause-cached : goal.returns-then-crossings-left-clause-cached
returns-then-crossings-left-clause-cached c =
    let at = c.loop-one in
    served c.args.cache.now at.cache c.into_glyph.new.cache at.yielded (into_iter_items at.one-iterator)
    (into_iter_items c.next.new.self) c.args.fitted.items c.in-Some.one at.invariant.all c.in-Some.ensures.steps.0
    at.invariant.cached c.in_ok-glyph.ensures.cached

pub returns-in_err-glyph-clause-cached : goal.returns-in_err-glyph-clause-cached
returns-in_err-glyph-clause-cached c =
    let at = c.loop-one in
    served c.args.cache.now at.cache c.into_glyph.new.cache at.yielded (into_iter_items at.one-iterator)
    (into_iter_items c.next.new.self) c.args.fitted.items c.in-Some.one at.invariant.all c.in-Some.ensures.steps.0
    at.invariant.cached c.in_err-glyph.ensures.cached
