use Rattle.std.proofs.Common.{◌≡◌, ◌∙◌, sym, ap, get_or, All, ℕ, ℤ, ◌+◌, ◌<◌, List, length, map, slice_index, slice_index_or, pos, SFits, w32, w64, of_z, to_z, refl, Option, arith, rules}
use Rattle.std.proofs.lemmas.Int.{ints, to_z-of_z}
use Rattle.std.proofs.lemmas.List.{get_or-map, length-map}
use Rattle.tt_advances.specs.Found.{units_of}
use Rattle.tt_bitmap.specs.declared.ink.LeastBox.{LeastBox}
use Rattle.tt_picture.specs.Glyphs.{Glyph, numbers_of}
use Rattle.tt_strike.specs.Measures.{made_step}
use Rattle.tt_strike.proofs.sized.SizedFace.character.Goals as goal

-- the box at a place, of boxes of some numbers
box_found : (inked : ℕ → Option LeastBox) (boxes : List (Option LeastBox)) (gs : List Glyph) (i n : ℕ)
    (d : Option LeastBox) → boxes ≡ map inked (numbers_of gs) → i < length gs → slice_index (numbers_of gs) i ≡ n
    → slice_index_or boxes i d ≡ inked n
box_found inked boxes gs i n d are below is =
    let count = length-map gs (λ (g : Glyph). g.number) in
    let here : i < length (numbers_of gs) = omega (arith, count, below) in
    rw are (get_or-map inked (numbers_of gs) i 0 d here ∙ ap inked is)

-- the step at a place
step_found : (made : Glyph → ℤ → ℕ) (step : ℕ → ℤ → ℕ) (k : ℤ) (gs : List Glyph) (i n : ℕ) (g : Glyph)
    → All (λ g. (k : ℤ) → made g k ≡ step g.number k) gs
    → i < length gs → slice_index (numbers_of gs) i ≡ n → g ≡ get_or gs i g → made g k ≡ step n k
step_found made step k gs i n g steps below number is =
    let own : made g k ≡ step g.number k = (rw (← is) at (steps i g below)) k in
    own ∙ ap (λ (n : ℕ). step n k) (ap (λ (t : Glyph). t.number) is ∙ sym (get_or-map (λ (t : Glyph). t.number) gs i g 0 below) ∙ number)

pub returns : goal.returns
returns c = λ step inked steps same.
    let gs = c.args.inked.now.glyphs.made.items in
    let z = c.args.self.now in
    let at = c.place_of-at.ensures in
    let narrow : SFits w32 c.args.kerning = c.ranges.kerning in
    let same_kerning : to_z w32 (of_z w32 c.args.kerning) ≡ c.args.kerning = simp to_z-of_z refl in
    let own = made_step z.face z.ppem z.fit in
    let told : c.step_of.result ≡ own c.index.result.now c.args.kerning = rw same_kerning at c.step_of.ensures in
    let stepped : c.step_of.result ≡ step c.args.placed.0 c.args.kerning =
    told ∙ step_found own step c.args.kerning gs c.place_of-at.result c.args.placed.0 c.index.result.now steps at.within at.number c.index.ensures in
    let boxed : c.index-2.result.now ≡ inked c.args.placed.0 = c.index-2.ensures
    ∙ box_found inked c.args.inked.now.inks.items gs c.place_of-at.result c.args.placed.0 c.index-2.result.now same at.within at.number in
    let fits : SFits w64 (pos (c.args.placed.1 + c.args.frame.margin)) =
    omega (arith, ints, c.requires.pen, c.requires.frame.margin) in
    rw (c.from.ensures, stepped, c.ink_at.ensures, boxed) (simp to_z-of_z)

pub step_of-requires-clause-known : goal.step_of-requires-clause-known
step_of-requires-clause-known c =
    let gs = c.args.inked.now.glyphs.made.items in
    let at = c.place_of-at.ensures in
    let here : c.index.result.now.number ≡ c.args.placed.0 = ap (λ (t : Glyph). t.number) c.index.ensures
    ∙ sym (get_or-map (λ (t : Glyph). t.number) gs c.place_of-at.result c.index.result.now 0 at.within) ∙ at.number in
    rw here c.requires.known

-- the advance at a place, of those of some numbers
units_found : (units : List ℕ) (f : ℕ → ℕ) (gs : List Glyph) (i n : ℕ) → units ≡ map f (numbers_of gs) → i < length gs
    → slice_index (numbers_of gs) i ≡ n → (i < length units) × (slice_index units i ≡ f n)
units_found units f gs i n are below is =
    let count = length-map gs (λ (g : Glyph). g.number) in
    let many = ap length are ∙ length-map (numbers_of gs) f in
    let here : i < length (numbers_of gs) = omega (arith, count, below) in
    (omega (arith, many, here), rw are (get_or-map f (numbers_of gs) i 0 0 here ∙ ap f is))

pub step_of-requires-clause-at : goal.step_of-requires-clause-at
step_of-requires-clause-at c = λ other finds.
    let gs = c.args.inked.now.glyphs.made.items in
    let at = c.place_of-at.ensures in
    let here : c.index.result.now.number ≡ c.args.placed.0 = ap (λ (t : Glyph). t.number) c.index.ensures
    ∙ sym (get_or-map (λ (t : Glyph). t.number) gs c.place_of-at.result c.index.result.now 0 at.within) ∙ at.number in
    rw here (units_found c.args.units.now (units_of c.args.self.now.face) gs c.place_of-at.result c.args.placed.0
    (c.requires.units other finds) at.within at.number)

pub index-requires-2 : goal.index-requires-2
index-requires-2 c =
    let below : c.place_of-at.result < length c.args.inked.now.inks.items =
    rw (c.args.inked.now.inked, length-map) c.place_of-at.ensures.within in
    search rules
