-- Pictures with the same pixels have the same rows.
use Rattle.std.proofs.Common.{◌≡◌, ℕ, zero, suc, ◌+◌, ◌*◌, ◌/◌, ◌%◌, ◌<◌, ◌≤◌, Bool, true, false, ◌&&◌, nat_lt, List, map, refl, ap, arith}
use Rattle.std.proofs.lemmas.Bool.Decides.{nat_tests}
use Rattle.std.proofs.Math.Nat.{div-lt_iff_lt-mul, mul_comm}
use Rattle.std.specs.List.{range_with_len}
use Rattle.tt_core.specs.Bits.{stride}
use Rattle.tt_scan_edges.specs.declared.edge.Frame.{Frame}
use Rattle.tt_picture.specs.Pictures.{Image, image}
use Rattle.tt_picture.specs.Rows.{columns, shows, byte_at, rows}

-- alike in columns and rows below these
abbrev pub AreAlike : ℕ → ℕ → (ℕ → ℕ → Bool) → (ℕ → ℕ → Bool) → Type 0
AreAlike w h a b = (c r : ℕ) → c < w → r < h → a c r ≡ b c r

-- a byte of the first h rows is in one of them
row_below : (k h i : ℕ) → i < k * h → i / k < h
row_below zero h i below = absurd (omega (arith, below))
row_below (suc k) h i below = (div-lt_iff_lt-mul {k = suc k} {x = i} {y = h} (omega arith)).1 (rw (mul_comm h (suc k)) below)

columns_alike : (n : ℕ) (p q : ℕ → Bool) → ((j : ℕ) → p j ≡ q j) → columns n p ≡ columns n q
columns_alike zero p q same = refl
columns_alike (suc n) p q same = rw (columns_alike n p q same, same n) refl

shown_alike : (w h : ℕ) (a b : ℕ → ℕ → Bool) (c r : ℕ) (inside : Bool) → AreAlike w h a b → r < h → nat_lt c w ≡ inside
    → (inside && a c r) ≡ (inside && b c r)
shown_alike w h a b c r true same below is = same c r (grind (arith, nat_tests, is)) below
shown_alike w h a b c r false same below is = refl

byte_alike : (w h : ℕ) (a b : ℕ → ℕ → Bool) → AreAlike w h a b → (i : ℕ) → i < stride w * h → byte_at w a i ≡ byte_at w b i
byte_alike w h a b same i below =
    let at = 8 * (i % stride w) in
    let r = i / stride w in
    let low : r < h = row_below (stride w) h i below in
    columns_alike 8 (λ j. shows w a r (at + j)) (λ j. shows w b r (at + j))
    (λ j. shown_alike w h a b (at + j) r (nat_lt (at + j) w) same low refl)

map_alike : (f g : ℕ → ℕ) (most from n : ℕ) → ((i : ℕ) → i < most → f i ≡ g i) → from + n ≤ most
    → map f (range_with_len from n) ≡ map g (range_with_len from n)
map_alike f g most from zero same within = refl
map_alike f g most from (suc n) same within =
    rw (same from (omega (arith, within)), map_alike f g most (from + 1) n same (omega (arith, within))) refl

rows_alike : (w h : ℕ) (a b : ℕ → ℕ → Bool) → AreAlike w h a b → rows w a 0 (stride w * h) ≡ rows w b 0 (stride w * h)
rows_alike w h a b same =
    map_alike (byte_at w a) (byte_at w b) (stride w * h) 0 (stride w * h) (byte_alike w h a b same) (omega arith)

abbrev with_rows : Frame → List ℕ → Image
with_rows f bytes = record { frame = f; rows = bytes }

-- images with the same pixels are the same
pub image_alike : (f : Frame) (a b : ℕ → ℕ → Bool) → AreAlike f.width f.height a b → image f a ≡ image f b
image_alike f a b same = ap (with_rows f) (rows_alike f.width f.height a b same)
