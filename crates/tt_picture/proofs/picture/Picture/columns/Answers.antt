use Rattle.std.proofs.Common.{◌≡◌, ◌∙◌, ap, sym, refl, ℕ, ◌+◌, ◌*◌, ◌<◌, ◌≤◌, Bool, true, ◌&&◌, nat_lt, List, Some, length, take, SFits, w32, of_z, to_z, arith}
use Rattle.std.proofs.lemmas.Int.{ints, to_z-of_z}
use Rattle.std.proofs.lemmas.Bool.{lt-ltb}
use Rattle.std.proofs.lemmas.List.{take_all, with_items_is}
use Rattle.tt_bitmap.specs.Bands.{column}
use Rattle.tt_core.specs.Bits.{stride}
use Rattle.tt_picture.specs.Pictures.{Image, Picture, image, narrowed, rows_at}
use Rattle.tt_picture.specs.Rows.{rows}
use Rattle.tt_picture.specs.Stamps.{rows_show}
use Rattle.tt_picture.proofs.Alike.{image_alike}
use Rattle.tt_picture.proofs.RowColumns.{row_column}
use Rattle.tt_scan_edges.specs.declared.edge.Frame.{Frame}
use Rattle.tt_picture.proofs.picture.Picture.columns.Goals as goal

-- all rows at once
all_rows : (p : Picture) → length p.rows ≡ stride p.frame.width * p.frame.height → p.made ≡ 0 → rows_at p p.made p.frame.height ≡ p.rows
all_rows p whole none =
    let zero : stride p.frame.width * 0 ≡ 0 = omega arith in
    rw (none, zero) (take_all (stride p.frame.width * p.frame.height) p.rows (omega (arith, whole)))

narrow : (f : Frame) (from width : ℕ) (bytes wide : List ℕ) (black : ℕ → ℕ → Bool) → wide ≡ rows f.width black 0 (stride f.width * f.height)
    → ((c r : ℕ) → c < width → r < f.height → column (stride width) bytes r c ≡ column (stride f.width) wide r (from + c))
    → from + width ≤ f.width
    → image (narrowed f width) (rows_show (narrowed f width) (Some bytes)) ≡ image (narrowed f width) (λ c r. black (from + c) r)
narrow f from width bytes wide black all copied within =
    image_alike (narrowed f width) (rows_show (narrowed f width) (Some bytes)) (λ c r. black (from + c) r) (λ c r inside below.
    let low : from + c < f.width = omega (arith, inside, within) in
    copied c r inside below ∙ ap (λ b. column (stride f.width) b r (from + c)) all
    ∙ row_column f.width f.height black r (from + c) below (omega (arith, low))
    ∙ ap (λ t. t && black (from + c) r) (lt-ltb (from + c) f.width low))

pub returns-clause-exact : goal.returns-clause-exact
returns-clause-exact c = λ black is.
    let p = c.args.self in
    let f = p.frame in
    let frame : c.frame-wide.result ≡ f = c.frame-wide.ensures in
    let all : c.next_rows.new.band ≡ p.rows = c.next_rows.ensures.rows ∙ ap (λ k. rows_at p p.made k) (ap (λ (f : Frame). f.height) frame) ∙ all_rows p c.requires.ready.rows c.requires.ready.made in
    let wide : c.deref.result.now ≡ rows f.width black 0 (stride f.width * f.height) =
    c.deref.ensures.value ∙ with_items_is c.in_ok-bytes.bytes c.next_rows.new.band (c.next_rows.auto.band ∙ c.deref_mut.ensures.len) ∙ all ∙ ap (λ (i : Image). i.rows) is in
    let copied = rw frame at c.in_ok-rows.ensures.exact in
    let fits : SFits w32 f.rise = omega (arith, ints, c.requires.frame.rise) in
    let same : to_z w32 (of_z w32 f.rise) ≡ f.rise = simp to_z-of_z refl in
    let painted = rw frame at c.of_rows.ensures.exact in
    let shown = rw same at painted in
    shown ∙ (narrow f c.args.from c.args.width c.in_ok-rows.rows.items c.deref.result.now black wide copied c.requires.within)
