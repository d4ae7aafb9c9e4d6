use Rattle.std.proofs.Common.{◌≡◌, ◌&&◌, Bool, true, false, List, [], None, ℤ, refl, rules}
use Rattle.tt_scan_dropouts.specs.Passes.{has_pixel}
use Rattle.tt_scan_dropouts.specs.Windows.{has}
use Rattle.tt_scan_dropouts.specs.declared.pixel.Pixel.{Pixel}
use Rattle.tt_glyphs.proofs.large.filled_in.Goals as goal

-- no pixel is listed where none is filled
none_listed : (ps : List Pixel) (c j : ℤ) (inside filled : Bool) → ps ≡ [] → filled ≡ false
    → has_pixel ps c j ≡ (inside && filled)
none_listed ps c j true filled empty none = rw (empty, none) refl
none_listed ps c j false filled empty none = rw empty refl

pub returns-in_default : goal.returns-in_default
returns-in_default c =
    let none : c.args.edged.now.filled ≡ None = search rules in
    λ k j. none_listed _ k j (has c.args.window k j) _ (search rules) (rw none refl)

pub returns-then-not-may_have_dropouts : goal.returns-then-not-may_have_dropouts
returns-then-not-may_have_dropouts c =
    rw c.in-Some.is (λ k j.
    let none = rw (c.lend.ensures.exact, c.deref.ensures.value) at
    (c.may_have_dropouts.ensures c.if-not-may_have_dropouts.true c.in-Some.rules refl refl k j) in
    none_listed c.new-then-not-may_have_dropouts.result.items k j (has c.args.window k j) _ (search rules) none)

pub returns : goal.returns
returns c = rw c.in-Some.is (rw c.deref-2.ensures.value at c.dropouts.ensures.exact)
