-- A pass over the gaps of all lines: the pixels that the pass has added, and which gap gives way (profile).
use Rattle.std.specs.Prelude.{◌≡◌, refl, ℕ, ◌+◌, min, if◌then◌else◌, Bool, false, ◌&&◌, ◌||◌, ℤ, pos, ◌+ℤ◌, List, [], ◌∷◌, Option, Some, None}
use Rattle.std.specs.Ordering.{int_eq}
use Rattle.tt_scan_dropouts.specs.declared.pass.Wish.{Wish}
use Rattle.tt_scan_dropouts.specs.declared.pixel.Pixel.{Pixel}

-- a list has a pixel
abbrev pub has_pixel : List Pixel → ℤ → ℤ → Bool
has_pixel [] c j = false
has_pixel (p ∷ ps) c j = (int_eq p.column c && int_eq p.row j) || has_pixel ps c j

-- how many gaps side by side, the last of them left of gap c of line j, each need the pixel at their right; counted to
-- four. By the gap before it that needed a pixel last
abbrev pub asked_before : Option Wish → ℤ → ℤ → ℕ
asked_before None j c = 0
asked_before (Some l) j c =
    if int_eq l.line j && (int_eq (l.gap +ℤ pos 1) c && int_eq l.pixel c) then min l.before 3 + 1 else 0

-- worked values: gap 1 of line 0 needed the pixel at its right, as some gaps left of it did
needed_after : ℕ → Option Wish
needed_after n = Some (record { line = pos 0; gap = pos 1; pixel = pos 2; before = n })

nothing_left_of_it : asked_before (needed_after 0) (pos 0) (pos 2) ≡ 1
unfolding needed_after
nothing_left_of_it = refl

three_left_of_it : asked_before (needed_after 3) (pos 0) (pos 2) ≡ 4
unfolding needed_after
three_left_of_it = refl

no_more_are_counted : asked_before (needed_after 4) (pos 0) (pos 2) ≡ 4
unfolding needed_after
no_more_are_counted = refl

not_the_next_gap : asked_before (needed_after 3) (pos 0) (pos 3) ≡ 0
unfolding needed_after
not_the_next_gap = refl

not_the_same_line : asked_before (needed_after 3) (pos 1) (pos 2) ≡ 0
unfolding needed_after
not_the_same_line = refl

-- gap 1 needed its left pixel
not_the_pixel_in_common : asked_before (Some (record { line = pos 0; gap = pos 1; pixel = pos 1; before = 3 })) (pos 0) (pos 2) ≡ 0
not_the_pixel_in_common = refl

-- pictures: Examples.antt
