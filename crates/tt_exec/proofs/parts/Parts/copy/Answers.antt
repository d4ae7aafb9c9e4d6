use Rattle.std.proofs.Common.{◌≡◌, List, [], ◌∷◌, refl}
use Rattle.std.specs.List.{AllZip}
use Rattle.tt_exec.proofs.parts.Parts.copy.Goals as goal

same_items : {X : Type 0} (C : X → X → Type 0) → ((x y : X) → C x y → y ≡ x) → (xs ys : List X) → AllZip C xs ys
    → ys ≡ xs
same_items C same [] [] all = refl
same_items C same [] (y ∷ ys) all = absurd all
same_items C same (x ∷ xs) [] all = absurd all
same_items C same (x ∷ xs) (y ∷ ys) (one, all) = rw (same x y one, same_items C same xs ys all) refl

pub returns : goal.returns
returns c =
    let cvt = same_items _ (λ x y same. same) c.args.self.now.cvt.items _ c.in_ok-clone.ensures.cases.0 in
    let storage = same_items _ (λ x y same. same) c.args.self.now.storage.items _ c.in_ok-clone-2.ensures.cases.0 in
    rw (cvt, storage, c.in_ok-copy.ensures, c.in_ok-copy-2.ensures, c.in_ok-copy-3.ensures) refl
