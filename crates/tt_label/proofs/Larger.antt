-- The lines of a label, each enlarged by the same ink, are laid out as those before.
use Rattle.std.proofs.Common.{◌≡◌, ◌∙◌, refl, sym, ap, ℕ, ◌+◌, ◌<◌, ◌≤◌, List, [], ◌∷◌, length, map, get_or, Option, None, Some, Result, Ok, arith}
use Rattle.std.proofs.lemmas.List.{get_or-map, get_or_default, length-map}
use Rattle.std.proofs.lemmas.List.Elements.{All-cons, All-head, All-nil, All-tail, All-weaker}
use Rattle.std.specs.List.{flat_map}
use Rattle.std.specs.Prelude.{All}
use Rattle.tt_core.specs.Chains.{came-through}
use Rattle.tt_core.specs.declared.fault.JobFault.{JobFault}
use Rattle.tt_core.specs.Outcomes.{◌>>=◌, each}
use Rattle.tt_face.specs.Faces.{Face}
use Rattle.tt_label.specs.Label.{grown_lines, joint}
use Rattle.tt_label.specs.Made.{AreAlike, AreLaid}
use Rattle.tt_label.specs.Views.{placements_of}
use Rattle.tt_label.proofs.Drawn.{as_large, joint_glyphs, left_of, lines_moved}
use Rattle.tt_label.proofs.Joined.{all_flat, flat_all, glyphs_joined, joint_is}
use Rattle.tt_line.specs.Layout.{Placement}
use Rattle.tt_line.specs.Outcome.{placement_of}
use Rattle.tt_metrics.specs.Metrics.{glyphs_of}
use Rattle.tt_picture.specs.declared.ink_box.InkBox.{InkBox}
use Rattle.tt_picture.proofs.Among.{of_same_glyphs}
use Rattle.tt_strike.specs.declared.laid.Laid.{Laid}
use Rattle.tt_strike.specs.Grown.{grown, lacking, with_sides}
use Rattle.tt_strike.specs.Picture.{frame_of}
use Rattle.tt_strike.proofs.Enlarged.{same_numbers}

-- the size of a picture in which this ink is not cut
abbrev pub larger_width : ℕ → ℕ → Option InkBox → ℕ
larger_width w h None = w
larger_width w h (Some b) = w + (lacking w h b).left + (lacking w h b).right

abbrev pub larger_height : ℕ → ℕ → Option InkBox → ℕ
larger_height w h None = h
larger_height w h (Some b) = h + (lacking w h b).top + (lacking w h b).bottom

one_large : (w h : ℕ) (ink : Option InkBox) (l m : Placement) → (l.width ≡ w) × (l.height ≡ h) → grown l ink ≡ Ok m
    → (m.width ≡ larger_width w h ink) × (m.height ≡ larger_height w h ink)
one_large w h None l m size is = let same : l ≡ m = cc in rw (← same) size
one_large w h (Some b) l m size is =
    let same : with_sides l (lacking l.width l.height b) ≡ m = as_large (with_sides l (lacking l.width l.height b)) m is in
    rw (← same, size.0, size.1) (refl, refl)

pub all_large : (w h : ℕ) (ink : Option InkBox) (ls ms : List Placement) → All (λ (l : Placement). (l.width ≡ w) × (l.height ≡ h)) ls
    → each (λ l. grown l ink) ls ≡ Ok ms
    → All (λ (m : Placement). (m.width ≡ larger_width w h ink) × (m.height ≡ larger_height w h ink)) ms
all_large w h ink [] ms sizes is =
    let none : [] ≡ ms = cc in
    rw (← none) (All-nil (λ (m : Placement). (m.width ≡ larger_width w h ink) × (m.height ≡ larger_height w h ink)))
all_large w h ink (l ∷ ls) ms sizes is =
    let P : Placement → Type 0 = λ l. (l.width ≡ w) × (l.height ≡ h) in
    let Q : Placement → Type 0 = λ m. (m.width ≡ larger_width w h ink) × (m.height ≡ larger_height w h ink) in
    let f : Placement → Result Placement JobFault = λ l. grown l ink in
    let first = came-through (grown l ink) (λ y. each f ls >>= λ ys. Ok (y ∷ ys)) ms is in
    let rest = came-through (each f ls) (λ ys. Ok (first.value ∷ ys)) ms first.rest in
    let last = rest.rest in
    let same : first.value ∷ rest.value ≡ ms = cc in
    rw (← same) (All-cons Q first.value rest.value (one_large w h ink l first.value (All-head P l ls sizes) first.first)
    (all_large w h ink ls rest.value (All-tail P l ls sizes) rest.first))

-- so all have the size of the first
pub of_one_size : (w h : ℕ) (ls : List Placement) → All (λ (l : Placement). (l.width ≡ w) × (l.height ≡ h)) ls → AreAlike ls
of_one_size w h [] all = All-nil (λ (l : Placement). (l.width ≡ (joint []).width) × (l.height ≡ (joint []).height))
of_one_size w h (l ∷ ls) all =
    let P : Placement → Type 0 = λ l. (l.width ≡ w) × (l.height ≡ h) in
    let first = All-head P l ls all in
    All-weaker P (λ (m : Placement). (m.width ≡ l.width) × (m.height ≡ l.height))
    (λ m size. (size.0 ∙ sym first.0, size.1 ∙ sym first.1)) (l ∷ ls) all

pub as_many : (ink : Option InkBox) (ls ms : List Placement) → each (λ l. grown l ink) ls ≡ Ok ms → length ms ≡ length ls
as_many ink [] ms is = let none : [] ≡ ms = cc in rw (← none) refl
as_many ink (l ∷ ls) ms is =
    let f : Placement → Result Placement JobFault = λ l. grown l ink in
    let first = came-through (grown l ink) (λ y. each f ls >>= λ ys. Ok (y ∷ ys)) ms is in
    let rest = came-through (each f ls) (λ ys. Ok (first.value ∷ ys)) ms first.rest in
    let last = rest.rest in
    let same : first.value ∷ rest.value ≡ ms = cc in
    rw (← same, as_many ink ls rest.value rest.first) refl

-- a fact of the number of each glyph of the lines holds for the enlarged lines
pub of_larger : (P : ℕ → Type 0) (ink : Option InkBox) (ls ms : List Placement) → grown_lines ls ink ≡ Ok ms
    → All (λ (g : ℕ × ℕ). P g.0) (joint ls).glyphs → All (λ (g : ℕ × ℕ). P g.0) (joint ms).glyphs
of_larger P ink ls ms is all =
    let moved = lines_moved ink ls ms is in
    of_same_glyphs P (joint ls).glyphs (joint ms).glyphs
    (ap (map (λ (g : ℕ × ℕ). g.0)) moved ∙ same_numbers (left_of ink) (joint ls).glyphs) all

pub larger_laid : (face : Face) (margin : ℕ) (ink : Option InkBox) (lines larger : List Laid) → AreLaid face margin lines
    → All (λ (l : Laid). l.margin ≡ margin) larger → grown_lines (placements_of lines) ink ≡ Ok (placements_of larger)
    → AreLaid face margin larger
larger_laid face margin ink lines larger laid margins is =
    let ls = placements_of lines in
    let ms = placements_of larger in
    let view : Laid → Placement = λ l. placement_of l.line in
    let count : length larger ≡ length lines = sym (length-map larger view) ∙ as_many ink ls ms is ∙ length-map lines view in
    let moved = lines_moved ink ls ms is in
    record {
      some = let some = laid.some in omega (arith, some, count);
      within = laid.within;
      margins = margins;
      alike = of_one_size (larger_width (joint ls).width (joint ls).height ink) (larger_height (joint ls).width (joint ls).height ink) ms
          (all_large (joint ls).width (joint ls).height ink ls ms laid.alike is);
      few = let few = laid.few in rw (moved, length-map) few;
      known = of_larger (λ n. n < glyphs_of face.metrics) ink ls ms is laid.known;
    }

-- a fact of each glyph of the lines together is one of each line's glyphs
pub each_line : (P : ℕ × ℕ → Type 0) (ls : List Laid) → All P (joint (placements_of ls)).glyphs → All (λ (l : Laid). All P l.line.glyphs.items) ls
each_line P ls all =
    flat_all P (λ (l : Laid). l.line.glyphs.items) ls (rw (joint_glyphs (placements_of ls), glyphs_joined ls) at all)

-- a line has the size of the picture
pub alike_at : (ls : List Laid) (i : ℕ) (laid : Laid) → i < length ls → get_or ls i laid ≡ laid → AreAlike (placements_of ls)
    → (laid.line.width ≡ (joint (placements_of ls)).width) × (laid.line.height ≡ (joint (placements_of ls)).height)
alike_at ls i laid below here alike =
    let view : Laid → Placement = λ l. placement_of l.line in
    let long : i < length (map view ls) = rw (length-map ls view) below in
    let same : get_or (map view ls) i (placement_of laid.line) ≡ placement_of laid.line =
    get_or-map view ls i laid (placement_of laid.line) below ∙ ap view here in
    rw same at (alike i (placement_of laid.line) long)

-- no pen is past the width of the picture
pub pens_within : (ls : List Laid) (first : Laid) → 1 ≤ length ls → AreAlike (placements_of ls)
    → All (λ (g : ℕ × ℕ). g.1 ≤ (get_or ls 0 first).line.width) (flat_map (λ (l : Laid). l.line.glyphs.items) ls)
pens_within ls first some alike =
    let w : (joint (placements_of ls)).width ≡ (get_or ls 0 first).line.width = ap (λ (p : Placement). p.width) (joint_is ls first some) in
    all_flat (λ (g : ℕ × ℕ). g.1 ≤ (get_or ls 0 first).line.width) (λ (l : Laid). l.line.glyphs.items) ls (λ k d below.
    let l = get_or ls k d in
    let size = alike_at ls k l below (get_or_default ls k l d below) alike in
    λ j e inside. omega (arith, l.line.pens j e inside, size.0, w))

-- the frame of the first line is that of the picture
pub first_frame : (ls : List Laid) (first : Laid) (margin : ℕ) → 1 ≤ length ls → first ≡ get_or ls 0 first
    → All (λ (l : Laid). l.margin ≡ margin) ls
    → frame_of (placement_of first.line) first.margin ≡ frame_of (joint (placements_of ls)) margin
first_frame [] first margin some here all = absurd (omega (arith, some))
first_frame (l ∷ ls) first margin some here all =
    let same : first ≡ l = here in
    let own : l.margin ≡ margin = All-head (λ (l : Laid). l.margin ≡ margin) l ls all in
    rw (same, own) refl
