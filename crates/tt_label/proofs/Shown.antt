-- Lines at their places show what the lines of the definition show, and are lines of one picture.
use Rattle.std.proofs.Common.{◌≡◌, ◌∙◌, refl, ap, ap₂, ℕ, Bool, false, ◌||◌, List, [], ◌∷◌, map, get_or}
use Rattle.std.proofs.lemmas.List.Elements.{All-cons, All-head, All-map, All-nil, All-tail}
use Rattle.std.proofs.lemmas.List.{get_or_default}
use Rattle.std.specs.Prelude.{All}
use Rattle.tt_core.specs.Outcomes.{each}
use Rattle.tt_fit.specs.Fitting.{Fitter}
use Rattle.tt_label.specs.Label.{joint, line_shows, some_line_shows}
use Rattle.tt_label.specs.Made.{AreAlike}
use Rattle.tt_label.specs.Views.{laid_parts, placed_parts, placements_of}
use Rattle.tt_label.proofs.Larger.{alike_at}
use Rattle.tt_line.specs.Outcome.{placement_of}
use Rattle.tt_picture.specs.declared.lines.PlacedLine.{PlacedLine}
use Rattle.tt_picture.specs.Lines as pictures
use Rattle.tt_picture.specs.Lines.{AreLinesOf, HasGlyphsOf, is_shown}
use Rattle.tt_picture.specs.Pictures.{image}
use Rattle.tt_picture.specs.Shapes.{glyph_shape}
use Rattle.tt_picture.proofs.Alike.{image_alike}
use Rattle.tt_scan_edges.specs.declared.edge.Frame.{Frame}
use Rattle.tt_strike.specs.declared.laid.Laid.{Laid}
use Rattle.tt_strike.specs.Picture.{frame_of}

-- a line by its frame and its glyphs
abbrev Parts : Type 0
Parts = Frame × List (ℕ × ℕ)

abbrev parts_show : (ℕ → Fitter) → Parts → ℕ → ℕ → Bool
parts_show maker p c r = is_shown p.0 (each (glyph_shape maker) p.1) c r

abbrev some_parts_show : (ℕ → Fitter) → List Parts → ℕ → ℕ → Bool
some_parts_show maker [] c r = false
some_parts_show maker (p ∷ ps) c r = parts_show maker p c r || some_parts_show maker ps c r

placed_show : (maker : ℕ → Fitter) (ps : List PlacedLine) (c r : ℕ)
    → pictures.some_line_shows maker ps c r ≡ some_parts_show maker (map placed_parts ps) c r
placed_show maker [] c r = refl
placed_show maker (p ∷ ps) c r = ap (λ b. pictures.line_shows maker p c r || b) (placed_show maker ps c r)

laid_show : (maker : ℕ → Fitter) (margin : ℕ) (ls : List Laid) (c r : ℕ) → All (λ (l : Laid). l.margin ≡ margin) ls
    → some_parts_show maker (map laid_parts ls) c r ≡ some_line_shows maker margin (placements_of ls) c r
laid_show maker margin [] c r margins = refl
laid_show maker margin (l ∷ ls) c r margins =
    let own : l.margin ≡ margin = All-head (λ (l : Laid). l.margin ≡ margin) l ls margins in
    ap₂ (λ (a b : Bool). a || b) (ap (λ m. line_shows maker m (placement_of l.line) c r) own)
    (laid_show maker margin ls c r (All-tail (λ (l : Laid). l.margin ≡ margin) l ls margins))

-- so both have one image
pub placed_image : (maker : ℕ → Fitter) (f : Frame) (margin : ℕ) (ps : List PlacedLine) (ls : List Laid)
    → map placed_parts ps ≡ map laid_parts ls → All (λ (l : Laid). l.margin ≡ margin) ls
    → image f (pictures.some_line_shows maker ps) ≡ image f (some_line_shows maker margin (placements_of ls))
placed_image maker f margin ps ls same margins =
    image_alike f (pictures.some_line_shows maker ps) (some_line_shows maker margin (placements_of ls)) (λ c r column row.
    placed_show maker ps c r ∙ ap (λ xs. some_parts_show maker xs c r) same ∙ laid_show maker margin ls c r margins)

-- a fact of each line's parts
from_parts : {A B : Type 0} (P : B → Type 0) (f : A → B) (xs : List A) → All P (map f xs) → All (λ x. P (f x)) xs
from_parts P f [] all = All-nil (λ x. P (f x))
from_parts P f (x ∷ xs) all =
    All-cons (λ x. P (f x)) x xs (All-head P (f x) (map f xs) all) (from_parts P f xs (All-tail P (f x) (map f xs) all))

all_placed : (P : Parts → Type 0) (ps : List PlacedLine) (ls : List Laid) → map placed_parts ps ≡ map laid_parts ls
    → All (λ (l : Laid). P (laid_parts l)) ls → All (λ (p : PlacedLine). P (placed_parts p)) ps
all_placed P ps ls same all = from_parts P placed_parts ps (rw same (All-map P laid_parts ls all))

-- each line has the size of the picture
sizes : (ls : List Laid) → AreAlike (placements_of ls)
    → All (λ (l : Laid). (l.line.width ≡ (joint (placements_of ls)).width) × (l.line.height ≡ (joint (placements_of ls)).height)) ls
sizes ls alike = λ k d below. alike_at ls k (get_or ls k d) below (get_or_default ls k (get_or ls k d) d below) alike

pub are_lines : (numbers : List ℕ) (margin : ℕ) (ps : List PlacedLine) (ls : List Laid) → map placed_parts ps ≡ map laid_parts ls
    → AreAlike (placements_of ls) → All (λ (l : Laid). HasGlyphsOf numbers l.line.glyphs.items) ls
    → AreLinesOf (frame_of (joint (placements_of ls)) margin) numbers ps
are_lines numbers margin ps ls same alike among =
    let all = joint (placements_of ls) in record {
      alike = all_placed (λ p. (p.0.width ≡ all.width) × (p.0.height ≡ all.height)) ps ls same (sizes ls alike);
      among = all_placed (λ p. HasGlyphsOf numbers p.1) ps ls same among;
    }
