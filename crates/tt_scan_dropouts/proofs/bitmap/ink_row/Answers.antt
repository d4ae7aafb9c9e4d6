use Rattle.std.proofs.Common.{◌≡◌, ◌≤◌, ◌∙◌, ap, refl, ℕ, Bool, ◌||◌, ◌-◌, ◌*◌, pos, ◌+ℤ◌, ◌-ℤ◌, length, drop, take, SFits, w32, w64, rules, arith}
use Rattle.std.proofs.lemmas.Int.{ints, to_z-of_z}
use Rattle.std.proofs.lemmas.List.{length-drop, length-take-le}
use Rattle.tt_core.specs.Bits.{bit, stride}
use Rattle.tt_scan_edges.specs.Winding.{FrameFits, is_black, row_y}
use Rattle.tt_scan_gaps.specs.Crossings.{centre}
use Rattle.tt_scan_dropouts.specs.Windows.{first_row}
use Rattle.tt_scan_dropouts.proofs.Inked.{has_row_of, met_few, row_inked, row_painted}
use Rattle.tt_scan_dropouts.proofs.Places.{row_within}
use Rattle.tt_scan_dropouts.proofs.bitmap.ink_row.Goals as goal

pub cut-requires-clause-row_low : goal.cut-requires-clause-row_low
cut-requires-clause-row_low c =
    let first = rw c.frame-frame.ensures.exact at c.first_row.ensures.exact in
    let row = has_row_of c.args.tape.now.frame c.args.window c.args.r c.requires.rows c.requires.within in
    omega (arith, ints, first, row)

pub cut-requires-clause-row_high : goal.cut-requires-clause-row_high
cut-requires-clause-row_high c =
    let first = rw c.frame-frame.ensures.exact at c.first_row.ensures.exact in
    let row = has_row_of c.args.tape.now.frame c.args.window c.args.r c.requires.rows c.requires.within in
    omega (arith, ints, first, row)

pub overflow_sub-shift-2 : goal.overflow_sub-shift-2
overflow_sub-shift-2 c = omega (arith, ints)

pub paint-requires-clause-shift : goal.paint-requires-clause-shift
paint-requires-clause-shift c = omega (arith, ints)

pub returns-clause-black : goal.returns-clause-black
returns-clause-black c = λ column row inside.
    let w = c.args.window in
    let tape = c.args.tape.now in
    let frame = c.frame-frame.ensures.exact in
    let fits : FrameFits tape.frame = rw frame at c.frame-frame.ensures.fits in
    let first : SFits w64 c.first_row.result = search rules in
    let below : SFits w64 c.from.result = search rules in
    let place : SFits w64 (c.first_row.result +ℤ c.from.result) = omega (arith, ints) in
    let cut : c.first_row.result +ℤ c.from.result ≡ first_row tape.frame w +ℤ pos c.args.r =
    rw (c.first_row.ensures.exact, frame, c.from.ensures) refl in
    let left : SFits w32 w.left = omega (arith, ints, c.requires.window.left) in
    let left_is : c.from-2.result ≡ w.left = simp to_z-of_z at c.from-2.ensures in
    let aside : SFits w64 c.from-2.result = search rules in
    let margin : SFits w64 c.from-3.result = search rules in
    let back : SFits w64 (pos 0 -ℤ c.from-2.result) = omega (arith, ints, c.requires.window.left, left_is) in
    let shift : SFits w64 ((pos 0 -ℤ c.from-2.result) -ℤ c.from-3.result) = omega (arith, ints) in
    let by : (pos 0 -ℤ c.from-2.result) -ℤ c.from-3.result ≡ (pos 0 -ℤ w.left) -ℤ pos tape.frame.margin =
    rw (left_is, c.from-3.ensures, frame) refl in
    let black = rw cut at (simp to_z-of_z at c.cut.ensures.black) in
    let painted = rw by at (simp to_z-of_z at c.paint.ensures.bits) in
    let bits = c.args.bits.now in
    let up : ℕ = w.height - 1 - c.args.r in
    let start : ℕ = c.stride-bytes.result * up in
    let count : ℕ = length bits - start in
    let at : start ≡ stride w.width * up = rw c.stride-bytes.ensures refl in
    let room = row_within w.width w.height up (omega (arith, c.requires.within)) in
    let fits_in : start ≤ length bits = rw (at, c.requires.len) (omega (arith, room)) in
    let part : count ≤ length (drop start bits) = omega (arith, length-drop start bits) in
    let filled = c.paint.ensures.len ∙ length-take-le count (drop start bits) part in
    row_inked w (λ x y. is_black c.args.tape.now.edges (centre x) (centre y)) c.args.r start count bits
    c.paint.new.row column row c.requires.within at (omega (arith, fits_in)) c.requires.len filled
    (λ k. painted k ∙ ap (λ (b : Bool). bit (take count (drop start bits)) k || b)
    (row_painted w tape.frame tape.edges c.cut.new.self.spans c.args.r k c.requires.window fits black)) inside

pub returns-clause-crosses : goal.returns-clause-crosses
returns-clause-crosses c =
    let tape = c.args.tape.now in
    let first : SFits w64 c.first_row.result = search rules in
    let below : SFits w64 c.from.result = search rules in
    let row : SFits w64 (c.first_row.result +ℤ c.from.result) = omega (arith, ints) in
    let crosses = simp to_z-of_z at c.cut.ensures.crosses in
    omega (arith, crosses, met_few tape.edges (row_y tape.frame (c.first_row.result +ℤ c.from.result)))
