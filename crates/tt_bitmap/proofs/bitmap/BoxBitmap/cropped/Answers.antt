use Rattle.std.proofs.Common.{◌≡◌, ◌∙◌, ℕ, ◌+◌, ◌-◌, ◌*◌, ◌≤◌, ◌-ℤ◌, length, drop, length-drop, length-take-le, unsigned_abs, SFits, w64, ap, refl, rules, arith}
use Rattle.std.specs.List.{slice_range}
use Rattle.std.proofs.lemmas.Int.{to_z-of_z}
use Rattle.std.proofs.lemmas.Nat.{mul-le}
use Rattle.tt_bitmap.specs.Bitmaps as bitmaps
use Rattle.tt_bitmap.specs.Bitmaps.{strips}
use Rattle.tt_bitmap.proofs.Crops.{cropped}
use Rattle.tt_bitmap.proofs.bitmap.BoxBitmap.cropped.Goals as goal

pub rows_of-rows-requires-clause-within : goal.rows_of-rows-requires-clause-within
rows_of-rows-requires-clause-within c =
    let now = c.args.self.now in
    let own = c.self.inside in
    let its_top : SFits w64 own.top = search rules in
    let new_top : SFits w64 c.args.top = c.ranges.top in
    let top : own.top ≡ now.top = ap (λ (b : bitmaps.BoxBitmap). b.top) c.self.view_is in
    let height : own.height ≡ now.height = ap (λ (b : bitmaps.BoxBitmap). b.height) c.self.view_is in
    let from : c.offset-own.result ≡ unsigned_abs (now.top -ℤ c.args.top) = rw top at (simp to_z-of_z at c.offset-own.ensures) in
    let within : c.offset-own.result + c.args.height ≤ now.height = omega (arith, from, c.requires.below) in
    let all : strips own.width * (c.offset-own.result + c.args.height) ≤ strips own.width * own.height =
    mul-le (strips own.width) (c.offset-own.result + c.args.height) (strips own.width) own.height (omega arith) (rw height within) in
    rw (c.strips_of.ensures, c.deref.ensures.value, c.self.invariant.1) all

pub invariant_of-result : goal.invariant_of-result
invariant_of-result c =
    let now = c.args.self.now in
    let own = c.self.inside in
    let its_left : SFits w64 own.left = search rules in
    let its_top : SFits w64 own.top = search rules in
    let new_top : SFits w64 c.args.top = c.ranges.top in
    let top : own.top ≡ now.top = ap (λ (b : bitmaps.BoxBitmap). b.top) c.self.view_is in
    let height : own.height ≡ now.height = ap (λ (b : bitmaps.BoxBitmap). b.height) c.self.view_is in
    let from : c.offset-own.result ≡ unsigned_abs (now.top -ℤ c.args.top) = rw top at (simp to_z-of_z at c.offset-own.ensures) in
    let within : c.offset-own.result + c.args.height ≤ own.height = rw height (omega (arith, from, c.requires.below)) in
    let all : strips own.width * (c.offset-own.result + c.args.height) ≤ strips own.width * own.height =
    mul-le (strips own.width) (c.offset-own.result + c.args.height) (strips own.width) own.height (omega arith) within in
    let begin : ℕ = strips own.width * c.offset-own.result in
    let end : ℕ = strips own.width * (c.offset-own.result + c.args.height) in
    let items : c.in_ok-words.words.items ≡ slice_range own.words.items begin end =
    rw (c.strips_of.ensures, c.deref.ensures.value) at (c.in_ok-words.ensures ∙ c.rows_of-rows.ensures) in
    let long : length (slice_range own.words.items begin end) ≡ end - begin =
    length-take-le (end - begin) (drop begin own.words.items) (omega (arith, length-drop begin own.words.items, all, c.self.invariant.1)) in
    let count : end - begin ≡ strips own.width * c.args.height = omega arith in
    let low = c.self.invariant.0.low in
    simp to_z-of_z (
      record {
        near_left = c.self.invariant.0.near_left;
        near_top = c.requires.near;
        narrow = c.self.invariant.0.narrow;
        low = omega (arith, low, within);
      },
      ap length items ∙ long ∙ count,
    )

pub returns-clause-black : goal.returns-clause-black
returns-clause-black c =
    let now = c.args.self.now in
    let own = c.self.inside in
    let its_left : SFits w64 own.left = search rules in
    let its_top : SFits w64 own.top = search rules in
    let new_top : SFits w64 c.args.top = c.ranges.top in
    let left : own.left ≡ now.left = ap (λ (b : bitmaps.BoxBitmap). b.left) c.self.view_is in
    let top : own.top ≡ now.top = ap (λ (b : bitmaps.BoxBitmap). b.top) c.self.view_is in
    let width : own.width ≡ now.width = ap (λ (b : bitmaps.BoxBitmap). b.width) c.self.view_is in
    let words : own.words.items ≡ now.words = ap (λ (b : bitmaps.BoxBitmap). b.words) c.self.view_is in
    let from : c.offset-own.result ≡ unsigned_abs (now.top -ℤ c.args.top) = rw top at (simp to_z-of_z at c.offset-own.ensures) in
    let within : c.offset-own.result + c.args.height ≤ now.height = omega (arith, from, c.requires.below) in
    let items = rw (c.strips_of.ensures, c.deref.ensures.value, words, width) at (c.in_ok-words.ensures ∙ c.rows_of-rows.ensures) in
    λ k j. simp to_z-of_z (rw (left, width, items) (cropped now c.args.top c.args.height c.offset-own.result k j c.requires.above from within))

pub returns-clause-place : goal.returns-clause-place
returns-clause-place c =
    let now = c.args.self.now in
    let own = c.self.inside in
    let its_left : SFits w64 own.left = search rules in
    let new_top : SFits w64 c.args.top = c.ranges.top in
    let left : own.left ≡ now.left = ap (λ (b : bitmaps.BoxBitmap). b.left) c.self.view_is in
    let width : own.width ≡ now.width = ap (λ (b : bitmaps.BoxBitmap). b.width) c.self.view_is in
    simp to_z-of_z (rw (left, width) refl)
