-- The glyphs of the units of some lines.
use Rattle.std.proofs.Common.{◌≡◌, refl, ap, ℕ, ◌≤◌, List, [], ◌∷◌, length, map, Vec, Global, arith}
use Rattle.std.proofs.lemmas.List.{length-append, length-map}
use Rattle.std.proofs.lemmas.List.Elements.{All-append, All-cons, All-head, All-map, All-nil, All-tail}
use Rattle.std.specs.List.{flat_map}
use Rattle.std.specs.Prelude.{All}
use Rattle.tt_cmap.specs.Maps.{CharacterMap, units_by}
use Rattle.tt_label.specs.Label.{label_glyphs}
use Rattle.tt_label.proofs.Joined.{flat_all}
use Rattle.tt_label_rows.specs.Units.{all_glyphs, line_units, text_units, unit_glyphs, unit_of}
use Rattle.tt_line.specs.Labels.{label_lines}
use Rattle.tt_line.specs.Layout.{text_glyphs}
use Rattle.std.specs.Prelude.{chars}
use Rattle.std.proofs.lemmas.Simd.{map-map}
use Rattle.tt_rows.specs.declared.unit.RowUnit.{RowUnit}

abbrev pub its_units : List (Vec RowUnit Global) → List (List RowUnit)
its_units ls = map (λ (v : Vec RowUnit Global). v.items) ls

-- a fact of each glyph
pub glyphs_have : (P : ℕ → Type 0) (ls : List (Vec RowUnit Global)) → All (λ (v : Vec RowUnit Global). All (λ (u : RowUnit). P u.glyph) v.items) ls
    → All P (all_glyphs (its_units ls))
glyphs_have P [] all = All-nil P
glyphs_have P (l ∷ ls) all =
    let Q : Vec RowUnit Global → Type 0 = λ v. All (λ (u : RowUnit). P u.glyph) v.items in
    All-append P (unit_glyphs l.items) (all_glyphs (its_units ls))
    (All-map P (λ (u : RowUnit). u.glyph) l.items (All-head Q l ls all)) (glyphs_have P ls (All-tail Q l ls all))

of_units : (P : ℕ → Type 0) (us : List RowUnit) → All P (unit_glyphs us) → All (λ (u : RowUnit). P u.glyph) us
of_units P [] all = All-nil (λ (u : RowUnit). P u.glyph)
of_units P (u ∷ us) all =
    All-cons (λ (u : RowUnit). P u.glyph) u us (All-head P u.glyph (unit_glyphs us) all) (of_units P us (All-tail P u.glyph (unit_glyphs us) all))

lines_of_units : (P : ℕ → Type 0) (ls : List (Vec RowUnit Global)) → All (λ (us : List RowUnit). All P (unit_glyphs us)) (its_units ls)
    → All (λ (v : Vec RowUnit Global). All (λ (u : RowUnit). P u.glyph) v.items) ls
lines_of_units P [] all = All-nil (λ (v : Vec RowUnit Global). All (λ (u : RowUnit). P u.glyph) v.items)
lines_of_units P (l ∷ ls) all =
    let R : List RowUnit → Type 0 = λ us. All P (unit_glyphs us) in
    All-cons (λ (v : Vec RowUnit Global). All (λ (u : RowUnit). P u.glyph) v.items) l ls
    (of_units P l.items (All-head R l.items (its_units ls) all)) (lines_of_units P ls (All-tail R l.items (its_units ls) all))

pub units_have : (P : ℕ → Type 0) (ls : List (Vec RowUnit Global)) → All P (all_glyphs (its_units ls))
    → All (λ (v : Vec RowUnit Global). All (λ (u : RowUnit). P u.glyph) v.items) ls
units_have P ls all = lines_of_units P ls (flat_all P unit_glyphs (its_units ls) all)

-- glyphs at pen 0
abbrev pub at_zero : List ℕ → List (ℕ × ℕ)
at_zero gs = map (λ (g : ℕ). (g, 0)) gs

pub zero_numbers : (gs : List ℕ) → map (λ (g : ℕ × ℕ). g.0) (at_zero gs) ≡ gs
zero_numbers [] = refl
zero_numbers (g ∷ gs) = ap (λ (hs : List ℕ). g ∷ hs) (zero_numbers gs)

pub zero_have : (P : ℕ → Type 0) (gs : List ℕ) → All P gs → All (λ (g : ℕ × ℕ). P g.0) (at_zero gs)
zero_have P gs all = All-map (λ (g : ℕ × ℕ). P g.0) (λ (g : ℕ). (g, 0)) gs all

pub zero_had : (P : ℕ → Type 0) (gs : List ℕ) → All (λ (g : ℕ × ℕ). P g.0) (at_zero gs) → All P gs
zero_had P [] all = All-nil P
zero_had P (g ∷ gs) all =
    let Q : ℕ × ℕ → Type 0 = λ g. P g.0 in
    All-cons P g gs (All-head Q (g, 0) (at_zero gs) all) (zero_had P gs (All-tail Q (g, 0) (at_zero gs) all))

pub zero_pens : (gs : List ℕ) → All (λ (g : ℕ × ℕ). g.1 ≤ 1) (at_zero gs)
zero_pens [] = All-nil (λ (g : ℕ × ℕ). g.1 ≤ 1)
zero_pens (g ∷ gs) = All-cons (λ (g : ℕ × ℕ). g.1 ≤ 1) (g, 0) (at_zero gs) (omega arith) (zero_pens gs)

-- as many glyphs as units
pub as_many_glyphs : (ls : List (Vec RowUnit Global)) → length (all_glyphs (its_units ls)) ≡ length (flat_map (λ (v : Vec RowUnit Global). v.items) ls)
as_many_glyphs [] = refl
as_many_glyphs (l ∷ ls) =
    let one = length-map l.items (λ (u : RowUnit). u.glyph) in
    let more = length-append (unit_glyphs l.items) (all_glyphs (its_units ls)) in
    let both = length-append l.items (flat_map (λ (v : Vec RowUnit Global). v.items) ls) in
    let rest = as_many_glyphs ls in
    omega (arith, one, more, both, rest)

-- they are those of the text
line_glyphs : (m : CharacterMap) (l : List ℕ) → unit_glyphs (line_units m l) ≡ text_glyphs m l
line_glyphs m l = map-map (λ (u : RowUnit). u.glyph) (unit_of m) (units_by m (chars l))

lines_glyphs : (m : CharacterMap) (ls : List (List ℕ)) → all_glyphs (map (line_units m) ls) ≡ flat_map (text_glyphs m) ls
lines_glyphs m [] = refl
lines_glyphs m (l ∷ ls) = rw (line_glyphs m l, lines_glyphs m ls) refl

pub text_has : (m : CharacterMap) (text : List ℕ) → all_glyphs (text_units m text) ≡ label_glyphs m text
text_has m text = lines_glyphs m (label_lines text)
