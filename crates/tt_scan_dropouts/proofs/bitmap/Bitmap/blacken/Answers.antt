use Rattle.std.proofs.Common.{◌≡◌, ◌∙◌, ℕ, ◌||◌, ◌==◌, true, false, SFits, w64, ap}
use Rattle.std.proofs.lemmas.Int.{to_z-of_z}
use Rattle.std.proofs.lemmas.List.{with_items_is}
use Rattle.tt_core.specs.Bits.{bit}
use Rattle.tt_scan_dropouts.specs.Windows as windows
use Rattle.tt_scan_dropouts.specs.Windows.{has, place}
use Rattle.tt_scan_dropouts.proofs.Places.{blackened, not_blackened}
use Rattle.tt_scan_dropouts.proofs.bitmap.Bitmap.blacken.Goals as goal

pub returns-then-has-clause-black : goal.returns-then-has-clause-black
returns-then-has-clause-black c =
    let now = c.args.self.now in
    let column : SFits w64 c.args.column = c.ranges.column in
    let row : SFits w64 c.args.row = c.ranges.row in
    let is = simp to_z-of_z at c.has.ensures in
    let window : c.self.inside.window ≡ now.window = ap (λ (b : windows.Bitmap). b.window) c.self.view_is in
    let bits : c.self.inside.bits.items ≡ now.bits = ap (λ (b : windows.Bitmap). b.bits) c.self.view_is in
    let inside : has now.window c.args.column c.args.row ≡ true = rw (← window) (rw is at c.if-has.true) in
    let stands = simp to_z-of_z at c.place.ensures.exact in
    let at : c.place.result ≡ place now.window c.args.column c.args.row = rw window at stands in
    let set : (i : ℕ) → bit c.blacken.new.row i ≡ (bit now.bits i || (i == place now.window c.args.column c.args.row)) =
    λ i. rw (← bits, ← at, ← c.deref_mut.ensures.value) (c.blacken.ensures.bits i) in
    let written = with_items_is c.self.inside.bits c.blacken.new.row (c.blacken.ensures.len ∙ c.deref_mut.ensures.len) in
    λ k j. rw (window, written) (blackened now c.blacken.new.row k j c.args.column c.args.row inside set)

pub returns-else-has-clause-black : goal.returns-else-has-clause-black
returns-else-has-clause-black c =
    let now = c.args.self.now in
    let column : SFits w64 c.args.column = c.ranges.column in
    let row : SFits w64 c.args.row = c.ranges.row in
    let is = simp to_z-of_z at c.has.ensures in
    let window : c.self.inside.window ≡ now.window = ap (λ (b : windows.Bitmap). b.window) c.self.view_is in
    let outside : has now.window c.args.column c.args.row ≡ false = rw (← window) (rw is at c.if-has.false) in
    λ k j. not_blackened now k j c.args.column c.args.row outside
