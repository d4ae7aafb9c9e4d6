use Rattle.std.proofs.Common.{◌≡◌, ap, ℕ, ◌+◌, Bool, arith}
use Rattle.tt_picture.specs.Pictures.{image, narrowed}
use Rattle.tt_picture.proofs.Alike.{image_alike}
use Rattle.tt_scan_edges.specs.declared.edge.Frame.{Frame}

all_columns : (f : Frame) (width from : ℕ) (black : ℕ → ℕ → Bool) → from ≡ 0 → width ≡ f.width
    → image f black ≡ image (narrowed f width) (λ c r. black (from + c) r)
all_columns f width from black none whole =
    rw (whole, none) (image_alike f black (λ c r. black (0 + c) r) (λ c r inside below.
    let same : c ≡ 0 + c = omega arith in ap (λ k. black k r) same))
