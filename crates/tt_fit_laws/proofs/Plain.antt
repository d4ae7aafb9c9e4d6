-- Where hinting is off, programs and the flag ROUND_XY_TO_GRID have no effect.
use Rattle.std.proofs.Common.{◌≡◌, ◌∙◌, sym, ap, ℕ, zero, suc, ◌-◌, ◌<◌, ◌==◌, Bool, true, false, if◌then◌else◌, bit_and, List, [], ◌∷◌, ◌++◌, length, map, Option, Some, None, Result, Ok, Err, ℤ, pos, ◌+ℤ◌, refl, arith}
use Rattle.std.specs.Prelude.{◌&&◌}
use Rattle.std.proofs.lemmas.List.{length-map}
use Rattle.std.proofs.lemmas.Grind.{and-not_self, and_not_bit}
use Rattle.tt_core.specs.Faults.{Fault}
use Rattle.tt_core.specs.Outcomes.{◌>>=◌, each}
use Rattle.tt_core.specs.declared.halves.Halves.{Halves}
use Rattle.tt_glyf.specs.Format.{args_are_xy_values, round_xy_to_grid, use_my_metrics, has}
use Rattle.tt_glyf.specs.GlyphData.{glyph_data_of}
use Rattle.tt_glyf.specs.Loca.{glyph_offset}
use Rattle.tt_glyf.specs.Raw.{CompositeGlyph, Raw, SimpleGlyph, empty, simple, composite}
use Rattle.tt_glyf.specs.declared.raw.Record.{Record}
use Rattle.tt_axes.specs.Rounding.{whole_units}
use Rattle.tt_deltas.specs.Glyphs.{VariedPoints, varied_glyph}
use Rattle.tt_deltas.specs.Gvar.{Gvar}
use Rattle.tt_deltas.specs.declared.varied.Varied.{Varied}
use Rattle.tt_face.specs.Faces.{FaceInstance}
use Rattle.tt_fit.specs.Fitting.{Begun, Fitter, with_hinting, size_of, start, glyph_grid, simple_start, joined, composite_begun, default_phantom, begun_by_default, units_at, fine_phantom, whole_start, fine_start, begun_varied, begun_by, begun_glyph, finished, made, outline_by, outline_at, added, glyph_fitter, fitted_outline}
use Rattle.tt_fit.specs.Hinted.{without_rounding, plain, plain_by, plain_added, OffIsPlain}
use Rattle.tt_fit_outline.specs.declared.grid.Grid.{Grid}
use Rattle.tt_fit_outline.specs.declared.grid.Grid.TheVariants as rounding
use Rattle.tt_fit_outline.specs.declared.grid.GridRule.{GridRule}
use Rattle.tt_fit_outline.specs.declared.grid.GridRule.TheVariants as grid_rule
use Rattle.tt_fit_outline.specs.Component.{offset_along, offset_of, point_of, matched_by, shift_of, placed_point}
use Rattle.tt_fit_outline.specs.Grid.{rounded_to}
use Rattle.tt_fit_hinting.specs.GlyphZone.{ends_on_grid}
use Rattle.tt_fit_hinting.specs.Hinting.{Hinting, off, ready, is_on, grid_by, hinted}
use Rattle.tt_fit_outline.specs.Joining.{within_point_limit, phantom_with, scan_after, ends_after, placed, appended}
use Rattle.tt_fit_outline.specs.Outline.{Outline, PhantomPoints}
use Rattle.tt_fit_outline.specs.Scaling.{coordinate_fault, scaled_outline}
use Rattle.tt_fit_variation.specs.Advance.{deltas_of}
use Rattle.tt_fit_variation.specs.Glyph.{four_ends, still_part}
use Rattle.tt_fit_variation.specs.Moved.{instance_points, is_unit}
use Rattle.tt_fit_variation.specs.Records.{moved_arguments, moved_record, moved_records, with_arguments}
use Rattle.tt_fit_outline.specs.Size.{FontSize, scale}

-- the flags of a record
flag-lost : (r : Record) → has (without_rounding r).flags round_xy_to_grid ≡ false
flag-lost r =
    let none : bit_and (bit_and r.flags (65535 - 4)) 4 ≡ 0 = and-not_self r.flags 65535 4 4 refl (omega arith) refl in
    ap (λ n. n == 4) none

xy-stays : (r : Record) → has (without_rounding r).flags args_are_xy_values ≡ has r.flags args_are_xy_values
xy-stays r =
    let small : 1 < 16 = omega arith in
    ap (λ n. n == 2) (and_not_bit r.flags 65535 4 1 refl (omega arith) small refl)

metrics-stay : (r : Record) → has (without_rounding r).flags use_my_metrics ≡ has r.flags use_my_metrics
metrics-stay r =
    let small : 9 < 16 = omega arith in
    ap (λ n. n == 512) (and_not_bit r.flags 65535 4 9 refl (omega arith) small refl)

-- two ways that go on alike
bind-same : {X Y : Type 0} (x : Result X Fault) (f k : X → Result Y Fault) → ((y : X) → f y ≡ k y) → (x >>= f) ≡ (x >>= k)
bind-same (Ok y) f k same = same y
bind-same (Err e) f k same = refl

bind-alike : {X Y : Type 0} (x y : Result X Fault) (f k : X → Result Y Fault) → x ≡ y → ((v : X) → f v ≡ k v)
    → (x >>= f) ≡ (y >>= k)
bind-alike x y f k first same = rw first (bind-same y f k same)

-- a record's component in its place
either-way : (flag : Bool) (v : ℤ) → (if flag then v else v) ≡ v
either-way true v = refl
either-way false v = refl

not-taken : (flag : Bool) (v w : ℤ) → flag ≡ false → (if flag then v else w) ≡ w
not-taken flag v w is = rw is refl

along : (z : FontSize) (by : Grid) (r : Record) (v : ℤ)
    → offset_along rounding.Unrounded z r v ≡ offset_along by z (without_rounding r) v
along z by r v =
    either-way (has r.flags round_xy_to_grid) (scale z v)
    ∙ sym (not-taken (has (without_rounding r).flags round_xy_to_grid) (rounded_to by (scale z v)) (scale z v)
    (flag-lost r))

both-same : (a b c d : ℤ) → a ≡ b → c ≡ d → ◌≡◌ {A = Result (ℤ × ℤ) Fault} (Ok (a, c)) (Ok (b, d))
both-same a b c d first second = rw (first, second) refl

if-same : {X : Type 0} (p q : Bool) (a b c d : X) → p ≡ q → a ≡ b → c ≡ d
    → (if p then a else c) ≡ (if q then b else d)
if-same p q a b c d test first second = rw (test, first, second) refl

matched-plain : (h : Halves) (r : Record) (p q : Option (ℤ × ℤ × Bool)) → matched_by h r p q ≡ matched_by h (without_rounding r) p q
matched-plain h r (Some p) (Some q) = refl
matched-plain h r (Some p) None = refl
matched-plain h r None q = refl

shift-plain : (z : FontSize) (by : Grid) (r : Record) (component points : List (ℤ × ℤ × Bool))
    → shift_of rounding.Unrounded z r component points ≡ shift_of by z (without_rounding r) component points
unfolding shift_of
shift-plain z by r component points =
    if-same (has r.flags args_are_xy_values) (has (without_rounding r).flags args_are_xy_values)
    (Ok (offset_of rounding.Unrounded z r)) (Ok (offset_of by z (without_rounding r)))
    (matched_by z.scale.halves r (point_of component r.arg2) (point_of points r.arg1))
    (matched_by z.scale.halves (without_rounding r) (point_of component r.arg2) (point_of points r.arg1)) (sym (xy-stays r))
    (both-same (offset_along rounding.Unrounded z r r.arg1) (offset_along by z (without_rounding r) r.arg1)
    (offset_along rounding.Unrounded z r r.arg2) (offset_along by z (without_rounding r) r.arg2) (along z by r r.arg1)
    (along z by r r.arg2))
    (matched-plain z.scale.halves r (point_of component r.arg2) (point_of points r.arg1))

phantom-plain : (r : Record) (component o : Outline)
    → phantom_with r component o ≡ phantom_with (without_rounding r) component o
phantom-plain r component o =
    if-same (has r.flags use_my_metrics) (has (without_rounding r).flags use_my_metrics) component.phantom
    component.phantom o.phantom o.phantom (sym (metrics-stay r)) refl refl

abbrev joined_with : List (ℤ × ℤ × Bool) → PhantomPoints → Outline → Outline → Outline
joined_with points phantom component o = record {
  points = points;
  ends = o.ends ++ ends_after (length o.points) component.ends;
  phantom = phantom;
  scan = scan_after component.scan o.scan;
}

abbrev ended : Record → Outline → Outline → List (ℤ × ℤ × Bool) → Result Outline Fault
ended r component o points = Ok (joined_with points (phantom_with r component o) component o)

ended-alike : (points : List (ℤ × ℤ × Bool)) (a b : PhantomPoints) (component o : Outline) → a ≡ b
    → ◌≡◌ {A = Result Outline Fault} (Ok (joined_with points a component o)) (Ok (joined_with points b component o))
ended-alike points a b component o same = rw same refl

appended-plain : (h : Halves) (r : Record) (by : ℤ × ℤ) (component o : Outline)
    → appended h r by component o ≡ appended h (without_rounding r) by component o
unfolding appended
appended-plain h r by component o =
    let p = without_rounding r in
    bind-same (each (placed_point h r by) component.points)
    (λ landed. within_point_limit r.at (o.points ++ landed) >>= ended r component o)
    (λ landed. within_point_limit r.at (o.points ++ landed) >>= ended p component o)
    (λ landed. bind-same (within_point_limit r.at (o.points ++ landed)) (ended r component o) (ended p component o)
    (λ points. ended-alike points (phantom_with r component o) (phantom_with p component o) component o
    (phantom-plain r component o)))

placed-plain : (z : FontSize) (by : Grid) (r : Record) (component o : Outline)
    → placed rounding.Unrounded z r component o ≡ placed by z (without_rounding r) component o
unfolding placed
placed-plain z by r component o =
    bind-alike (shift_of rounding.Unrounded z r component.points o.points)
    (shift_of by z (without_rounding r) component.points o.points) (λ to. appended z.scale.halves r to component o)
    (λ to. appended z.scale.halves (without_rounding r) to component o) (shift-plain z by r component.points o.points)
    (λ to. appended-plain z.scale.halves r to component o)

-- the records of a glyph
joined-plain : (add plain_add : Record → Outline → Result Outline Fault)
    → ((r : Record) (o : Outline) → add r o ≡ plain_add (without_rounding r) o) → (rs : List Record) (o : Outline)
    → joined add rs o ≡ joined plain_add (map without_rounding rs) o
joined-plain add plain_add same [] o = refl
joined-plain add plain_add same (r ∷ rs) o =
    bind-alike (add r o) (plain_add (without_rounding r) o) (joined add rs)
    (joined plain_add (map without_rounding rs)) (same r o) (joined-plain add plain_add same rs)

-- a fitter whose hinting is off, by either rule for whole pixels
abbrev off_by : Fitter → GridRule → Fitter
off_by s how = record (with_hinting s off) { grid = how }

settled-off : (how : GridRule) (at : ℕ) (o : Outline) → ends_on_grid (grid_by how off) at o ≡ Ok o
settled-off grid_rule.Always at o = refl
settled-off grid_rule.WhereHinted at o = refl

bare-start : (bare : Bool) (how : GridRule) (at : ℕ) (o : Outline)
    → (if bare then ends_on_grid (grid_by how off) at o else Ok o) ≡ Ok o
bare-start true how at o = settled-off how at o
bare-start false how at o = refl

started-by : (x : Result Outline Fault) (how : GridRule) (at : ℕ) (code : List ℕ)
    → (x >>= λ o. if length code == 0 then ends_on_grid (grid_by how off) at o else Ok o) ≡ x
started-by (Ok o) how at code = bare-start (length code == 0) how at o
started-by (Err f) how at code = refl

started : (s : Fitter) (how : GridRule) (phantom : PhantomPoints) (g : ℕ) (code : List ℕ)
    → simple_start (off_by s how) phantom g code ≡ start s phantom g
unfolding simple_start
started s how phantom g code = started-by (start s phantom g) how (glyph_offset s.tables g) code

-- two ways to begin a glyph that differ in the program and in the flags of records alone
abbrev AreAlike : Result Begun Fault → Result Begun Fault → Type 0
AreAlike (Ok b) (Ok c) = (c.outline ≡ b.outline) × (c.records ≡ map without_rounding b.records)
AreAlike (Ok b) (Err f) = ⊥
AreAlike (Err e) (Ok c) = ⊥
AreAlike (Err e) (Err f) = e ≡ f

alike-then : {X : Type 0} (x y : Result X Fault) (f k : X → Result Begun Fault) → x ≡ y
    → ((v : X) → AreAlike (f v) (k v)) → AreAlike (x >>= f) (y >>= k)
alike-then (Ok v) y f k same each = rw (← same) (each v)
alike-then (Err e) y f k same each = rw (← same) refl

finished-plain : (s : Fitter) (how : GridRule) (add plain_add : Record → Outline → Result Outline Fault)
    → ((r : Record) (o : Outline) → add r o ≡ plain_add (without_rounding r) o) → (x y : Result Begun Fault)
    → AreAlike x y
    → (x >>= finished (off_by s grid_rule.WhereHinted) add) ≡ (y >>= finished (off_by s how) plain_add)
finished-plain s how add plain_add same (Ok b) (Ok c) alike =
    let outline = alike.0 in
    let records = alike.1 in
    rw (outline, records)
    (bind-alike (joined add b.records b.outline) (joined plain_add (map without_rounding b.records) b.outline)
    (hinted off b.program) (hinted off c.program) (joined-plain add plain_add same b.records b.outline) (λ all. refl))
finished-plain s how add plain_add same (Ok b) (Err f) alike = absurd alike
finished-plain s how add plain_add same (Err e) (Ok c) alike = absurd alike
finished-plain s how add plain_add same (Err e) (Err f) alike = rw alike refl

-- by the font's default
default-plain : (s : Fitter) (how : GridRule) (g : ℕ) (d : Raw)
    → AreAlike (begun_by_default (off_by s grid_rule.WhereHinted) g d) (begun_by_default (off_by s how) g (plain d))
default-plain s how g empty =
    alike-then (start s (default_phantom s (pos 0) g) g) _ _ _ refl (λ o. (refl, refl))
default-plain s how g (simple d) =
    let t = off_by s grid_rule.WhereHinted in
    let u = off_by s how in
    let phantom = default_phantom s d.x_min g in
    alike-then (simple_start t phantom g d.code) (simple_start u phantom g []) _ _
    (started s grid_rule.WhereHinted phantom g d.code ∙ sym (started s how phantom g []))
    (λ o. alike-then (scaled_outline (size_of s) (glyph_offset s.tables g) d.points d.ends o) _ _ _ refl
    (λ all. (refl, refl)))
default-plain s how g (composite d) =
    alike-then (start s (default_phantom s d.x_min g) g) _ _ _ refl (λ o. (refl, refl))

-- at an instance
fine-plain : (s : Fitter) (how : GridRule) (g : ℕ) (d : SimpleGlyph) (v : VariedPoints)
    → fine_start (off_by s grid_rule.WhereHinted) g d v ≡ fine_start (off_by s how) g (record d { code = [] }) v
fine-plain s how g d v =
    let t = off_by s grid_rule.WhereHinted in
    let u = off_by s how in
    let phantom = fine_phantom s g d v in
    bind-same (units_at s d.x_min g (length d.points) v) _ _
    (λ units. bind-alike (simple_start t phantom g d.code) (simple_start u phantom g []) _ _
    (started s grid_rule.WhereHinted phantom g d.code ∙ sym (started s how phantom g [])) (λ o. refl))

arguments-plain : (within : Bool) (r : Record) (x y : ℤ)
    → (if within then Ok (with_arguments (without_rounding r) x y) else Err (coordinate_fault r.at))
    ≡ ((if within then Ok (with_arguments r x y) else Err (coordinate_fault r.at)) >>= λ moved. Ok (without_rounding moved))
arguments-plain true r x y = refl
arguments-plain false r x y = refl

both-plain : (x : Result Record Fault) (xs : Result (List Record) Fault)
    → ((x >>= λ moved. Ok (without_rounding moved)) >>= λ moved.
    (xs >>= λ others. Ok (map without_rounding others)) >>= λ others. Ok (moved ∷ others))
    ≡ ((x >>= λ moved. xs >>= λ others. Ok (moved ∷ others)) >>= λ all. Ok (map without_rounding all))
both-plain (Ok r) (Ok rs) = refl
both-plain (Ok r) (Err f) = refl
both-plain (Err e) xs = refl

offset-plain-by : (flag other : Bool) (r : Record) (x y : ℤ) → other ≡ flag
    → (if other then moved_arguments (without_rounding r) x y else Ok (without_rounding r))
    ≡ ((if flag then moved_arguments r x y else Ok r) >>= λ moved. Ok (without_rounding moved))
offset-plain-by true other r x y same = rw same (arguments-plain (is_unit x && is_unit y) r x y)
offset-plain-by false other r x y same = rw same refl

record-plain : (r : Record) (x y : Varied)
    → moved_record (without_rounding r) x y ≡ (moved_record r x y >>= λ moved. Ok (without_rounding moved))
unfolding moved_record
record-plain r x y =
    offset-plain-by (has r.flags args_are_xy_values) (has (without_rounding r).flags args_are_xy_values) r
    (r.arg1 +ℤ whole_units x.delta) (r.arg2 +ℤ whole_units y.delta) (xy-stays r)

moved-plain : (rs : List Record) (xs ys : List Varied)
    → moved_records (map without_rounding rs) xs ys
    ≡ (moved_records rs xs ys >>= λ moved. Ok (map without_rounding moved))
moved-plain [] xs ys = refl
moved-plain (r ∷ rs) [] ys = refl
moved-plain (r ∷ rs) (x ∷ xs) [] = refl
moved-plain (r ∷ rs) (x ∷ xs) (y ∷ ys) =
    rw (record-plain r x y, moved-plain rs xs ys) (both-plain (moved_record r x y) (moved_records rs xs ys))

parts-plain : (rs : List Record) → map still_part (map without_rounding rs) ≡ map still_part rs
parts-plain [] = refl
parts-plain (r ∷ rs) = ap (λ (vs : List Varied). still_part r ∷ vs) (parts-plain rs)

deltas-plain : (gvar : Gvar) (coordinates : List ℤ) (g : ℕ) (d : Raw)
    → deltas_of gvar coordinates g d ≡ deltas_of gvar coordinates g (plain d)
deltas-plain gvar coordinates g empty = refl
deltas-plain gvar coordinates g (simple d) = refl
deltas-plain gvar coordinates g (composite d) =
    ap (λ (vs : List Varied). varied_glyph gvar g coordinates []
    (record { xs = vs ++ four_ends; ys = vs ++ four_ends })) (sym (parts-plain d.records))

moved-alike : (s : Fitter) (how : GridRule) (g : ℕ) (d : CompositeGlyph) (x y : Result (List Record) Fault) (o : Outline)
    → y ≡ (x >>= λ moved. Ok (map without_rounding moved))
    → AreAlike (x >>= λ records. Ok (composite_begun (off_by s grid_rule.WhereHinted) g d.code d.code_at records o))
    (y >>= λ records. Ok (composite_begun (off_by s how) g [] d.code_at records o))
moved-alike s how g d (Ok records) y o same = rw same (refl, refl)
moved-alike s how g d (Err f) y o same = rw same refl

composite-varied-plain : (s : Fitter) (how : GridRule) (g : ℕ) (d : CompositeGlyph) (v : VariedPoints)
    → AreAlike (begun_varied (off_by s grid_rule.WhereHinted) g (composite d) v)
    (begun_varied (off_by s how) g (plain (composite d)) v)
composite-varied-plain s how g d v =
    let count : length (map without_rounding d.records) ≡ length d.records = simp length-map refl in
    alike-then (whole_start s d.x_min g (length d.records) v)
    (whole_start s d.x_min g (length (map without_rounding d.records)) v) _ _
    (ap (λ n. whole_start s d.x_min g n v) (sym count))
    (λ o. moved-alike s how g d (moved_records d.records v.xs v.ys)
    (moved_records (map without_rounding d.records) v.xs v.ys) o (moved-plain d.records v.xs v.ys))

varied-plain : (s : Fitter) (how : GridRule) (g : ℕ) (d : Raw) (v : VariedPoints)
    → AreAlike (begun_varied (off_by s grid_rule.WhereHinted) g d v) (begun_varied (off_by s how) g (plain d) v)
varied-plain s how g empty v =
    alike-then (whole_start s (pos 0) g 0 v) _ _ _ refl (λ o. (refl, refl))
varied-plain s how g (simple d) v =
    let t = off_by s grid_rule.WhereHinted in
    let u = off_by s how in
    alike-then (fine_start t g d v) (fine_start u g (record d { code = [] }) v) _ _ (fine-plain s how g d v)
    (λ b. alike-then (instance_points (size_of s) (glyph_offset s.tables g) d.points v.xs v.ys) _ _ _ refl
    (λ ps. (refl, refl)))
varied-plain s how g (composite d) v = composite-varied-plain s how g d v

begun-plain-by : (instance : Option FaceInstance) (s : Fitter) (how : GridRule) (g : ℕ) (d : Raw)
    → AreAlike (begun_by instance (off_by s grid_rule.WhereHinted) g d) (begun_by instance (off_by s how) g (plain d))
begun-plain-by None s how g d = default-plain s how g d
begun-plain-by (Some i) s how g d =
    alike-then (deltas_of i.gvar i.coordinates g d) (deltas_of i.gvar i.coordinates g (plain d))
    (begun_varied (off_by s grid_rule.WhereHinted) g d) (begun_varied (off_by s how) g (plain d))
    (deltas-plain i.gvar i.coordinates g d) (varied-plain s how g d)

begun-plain : (s : Fitter) (how : GridRule) (g : ℕ) (d : Raw)
    → AreAlike (begun_glyph (off_by s grid_rule.WhereHinted) g d) (begun_glyph (off_by s how) g (plain d))
unfolding begun_glyph
begun-plain s how g d = begun-plain-by s.instance s how g d

made-plain : (s : Fitter) (how : GridRule) (add plain_add : Record → Outline → Result Outline Fault)
    → ((r : Record) (o : Outline) → add r o ≡ plain_add (without_rounding r) o) → (g : ℕ) (d : Raw)
    → made (off_by s grid_rule.WhereHinted) add g d ≡ made (off_by s how) plain_add g (plain d)
made-plain s how add plain_add same g d =
    finished-plain s how add plain_add same (begun_glyph (off_by s grid_rule.WhereHinted) g d)
    (begun_glyph (off_by s how) g (plain d)) (begun-plain s how g d)

by-plain : (s : Fitter) (how : GridRule) (add plain_add : Record → Outline → Result Outline Fault)
    → ((r : Record) (o : Outline) → add r o ≡ plain_add (without_rounding r) o) → (g : ℕ)
    → outline_by (off_by s grid_rule.WhereHinted) add g ≡ plain_by (off_by s how) plain_add g
by-plain s how add plain_add same g =
    bind-same (glyph_data_of s.tables g) (made (off_by s grid_rule.WhereHinted) add g)
    (λ d. made (off_by s how) plain_add g (plain d)) (made-plain s how add plain_add same g)

added-plain : (s : Fitter) (how : GridRule) (levels : ℕ) (r : Record) (o : Outline)
    → added (off_by s grid_rule.WhereHinted) levels r o ≡ plain_added (off_by s how) levels (without_rounding r) o
unfolding added plain_added
added-plain s how zero r o = refl
added-plain s how (suc levels) r o =
    let t = off_by s grid_rule.WhereHinted in
    let u = off_by s how in
    bind-alike (outline_by t (added t levels) r.glyph) (plain_by u (plain_added u levels) r.glyph)
    (λ component. placed (glyph_grid t) (size_of t) r component o)
    (λ component. placed (glyph_grid u) (size_of u) (without_rounding r) component o)
    (by-plain s how (added t levels) (plain_added u levels) (added-plain s how levels) r.glyph)
    (λ component. placed-plain (size_of s) (grid_by how off) r component o)

-- a fitter of Best whose hinting is off for a glyph
not-on : (hinting : Hinting) → is_on hinting ≡ false → hinting ≡ off
not-on off is = refl
not-on (ready parts) is = absurd cc

same-grid : (s : Fitter) (hinting : Hinting) → s.grid ≡ grid_rule.WhereHinted → hinting ≡ off
    → with_hinting s hinting ≡ off_by s grid_rule.WhereHinted
same-grid s hinting grid is = rw is (ap (λ how. record (with_hinting s off) { grid = how }) grid)

pub off-is-plain : OffIsPlain
unfolding fitted_outline
off-is-plain s g how grid is =
    let none = not-on (glyph_fitter s g).hinting is in
    let t = off_by s grid_rule.WhereHinted in
    let u = off_by s how in
    ap (λ (x : Fitter). outline_at x s.levels g) (same-grid s (glyph_fitter s g).hinting grid none)
    ∙ by-plain s how (added t s.levels) (plain_added u s.levels) (added-plain s how s.levels) g
