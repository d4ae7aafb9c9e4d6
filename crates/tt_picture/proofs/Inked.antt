-- The ink of drawn glyphs is that of their outlines.
use Rattle.std.proofs.Common.{◌≡◌, ◌∙◌, refl, ℕ, List, [], ◌∷◌, map, Option, None, Some, ℤ}
use Rattle.std.specs.Prelude.{IfSome}
use Rattle.std.proofs.lemmas.List.Elements.{All-head, All-tail}
use Rattle.tt_fit.specs.Fitting.{Fitter}
use Rattle.tt_glyph_pixels.specs.Shown.{shows}
use Rattle.tt_picture.specs.Glyphs.{AreDrawn, Glyph, GlyphBody, IsBodyOf, IsDrawn, body_ink, inks_of, numbers_of}
use Rattle.tt_picture.specs.Ink.{glyph_ink, ink_by}
use Rattle.tt_scan_edges.specs.declared.edge.Edge.{Edge}
use Rattle.tt_scan_dropouts.specs.declared.boxed.BoxedRules.{BoxedRules}

-- edges, contours and rules that agree show the same, and have the same ink
shows_same : (these filled : Option BoxedRules) (es fs : List Edge) (cs ds : List (List Edge)) (c j : ℤ) → these ≡ filled
    → es ≡ fs → IfSome these (λ rules. cs ≡ ds) → shows es cs these c j ≡ shows fs ds filled c j
shows_same None filled es fs cs ds c j is edges contours = rw (← is, edges) refl
shows_same (Some rules) filled es fs cs ds c j is edges contours = rw (← is, edges, contours) refl

same_ink : (these filled : Option BoxedRules) (es fs : List Edge) (cs ds : List (List Edge)) → these ≡ filled → es ≡ fs
    → IfSome these (λ rules. cs ≡ ds) → ink_by es cs these ≡ ink_by fs ds filled
same_ink None filled es fs cs ds is edges contours = rw (← is, edges) refl
same_ink (Some rules) filled es fs cs ds is edges contours = rw (← is, edges, contours) refl

pub body_as : (these filled : Option BoxedRules) (es fs : List Edge) (cs ds : List (List Edge)) (b : GlyphBody)
    → these ≡ filled → es ≡ fs → IfSome these (λ rules. cs ≡ ds) → IsBodyOf es cs these b → IsBodyOf fs ds filled b
body_as these filled es fs cs ds b is edges contours has = record {
  pixels = λ c j. has.pixels c j ∙ shows_same these filled es fs cs ds c j is edges contours;
  ink = has.ink ∙ same_ink these filled es fs cs ds is edges contours;
}

one_ink : (s : Fitter) (g : Glyph) → IsDrawn s g → body_ink g.body ≡ glyph_ink s g.number
unfolding glyph_ink
one_ink s g drawn = rw drawn.outline drawn.body.ink

pub inks_are : (maker : ℕ → Fitter) (gs : List Glyph) → AreDrawn maker gs
    → inks_of gs ≡ map (λ n. glyph_ink (maker n) n) (numbers_of gs)
inks_are maker [] drawn = refl
inks_are maker (g ∷ gs) drawn =
    let P : Glyph → Type 0 = λ g. IsDrawn (maker g.number) g in
    rw (one_ink (maker g.number) g (All-head P g gs drawn), inks_are maker gs (All-tail P g gs drawn)) refl
