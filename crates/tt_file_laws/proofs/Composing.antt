-- The picture of a text is composed of the characters of a file.
use Rattle.std.proofs.Common.{◌≡◌, ◌≢◌, ◌∙◌, refl, sym, ap, ap₂, subst, ℕ, ◌+◌, ◌-◌, ◌*◌, ◌/◌, ◌%◌, ◌<◌, ◌≤◌, ◌==◌, Bool, true, false, ◌&&◌, ◌||◌, ℤ, pos, ◌+ℤ◌, ◌-ℤ◌, ◌≤ℤ◌, ◌<ℤ◌, int_le, int_lt, unsigned_abs, List, [], ◌∷◌, chars, drop, get_or, length, map, slice_index, slice_range, sum, sum_by, None, Result, Ok, All, arith}
use Rattle.std.specs.Int.{bit_at}
use Rattle.std.proofs.lemmas.Bool.{and_parts}
use Rattle.std.proofs.lemmas.Int.{ints}
use Rattle.std.proofs.lemmas.List.{get_or-drop, get_or-take, length-map}
use Rattle.std.proofs.lemmas.List.Elements.{All-contains, All-head, All-tail}
use Rattle.std.proofs.lemmas.List.Sums.{sum_by-cons}
use Rattle.std.proofs.lemmas.Nat.{mul-le}
use Rattle.tt_advances.specs.Found.{units_of}
use Rattle.tt_bdf.specs.Bitmap.{row_bytes}
use Rattle.tt_bdf.specs.Composed.{bitmap_bit, character_shows, characters_in, composed}
use Rattle.tt_bdf.specs.declared.character.BdfCharacter.{BdfCharacter}
use Rattle.tt_bdf.specs.Laws.{BelongsIn, CodesBelong, CodesRise}
use Rattle.tt_cmap.specs.Units.{is_selector}
use Rattle.tt_core.specs.Chains.{came-through}
use Rattle.tt_face.specs.Faces.{Face, glyphs_in}
use Rattle.tt_face.specs.Files.{face_by}
use Rattle.tt_face.specs.Instance.{face_at_asked, face_at_instance}
use Rattle.tt_face.specs.Rules.{ruled}
use Rattle.tt_fit.specs.declared.programs.Fit.{Fit}
use Rattle.tt_fit.specs.declared.programs.Fit.TheVariants as fit
use Rattle.tt_fit.specs.Fitting.{Fitter}
use Rattle.tt_fit.specs.Laws.{OthersAreUnbounded}
use Rattle.tt_glyphs.specs.declared.told.MadeBitmap.{MadeBitmap}
use Rattle.tt_glyphs.specs.declared.told.Told.{Told}
use Rattle.tt_glyphs.specs.declared.told.Told.TheVariants as told
use Rattle.tt_glyphs.specs.Entries.{advance_by, all_rows, entry_of, number_told}
use Rattle.tt_glyphs.specs.EntryLaws.{AdvancesAreDrawn, IsMadeAlike, RowsAreDrawn, UnboundedAreAlike, has_bit, rows_show}
use Rattle.tt_glyphs.specs.GlyphLaws.{LinesAreBitmaps, entry_shows, lies_in, some_entry_shows}
use Rattle.tt_glyphs.specs.Requests.{Bitmaps}
use Rattle.tt_glyphs.proofs.ListBegun.{setting_source}
use Rattle.tt_line.specs.Layout.{Placement, depth_of, extent_by, placed_in, rise_of, text_glyphs}
use Rattle.tt_line.proofs.Pens.{glyphs_by_steps}
use Rattle.tt_metrics.specs.Metrics.{Metrics, glyphs_of}
use Rattle.tt_picture.specs.Distinct.{is_among}
use Rattle.tt_picture.specs.Pictures.{Image, image}
use Rattle.tt_picture.proofs.Alike.{image_alike}
use Rattle.tt_render_settings.specs.Settings.{asked_in, face_asked, job_by}
use Rattle.tt_strike.specs.Job.{Job, tested}
use Rattle.tt_strike.specs.Picture.{drawn, frame_of, laid_out, line_outcome, pictured_by, setting, text_placed}
use Rattle.tt_strike.specs.Programs.{programs_in}
use Rattle.tt_strike.specs.Refusals.{as_job}
use Rattle.tt_strike.specs.Work.{line_fitter}
use Rattle.tt_bitmap_font.specs.Bitmaps.{character_by, character_told, characters_by}
use Rattle.tt_bitmap_font.specs.Characters.{asked_ranges, glyph_for, glyphs_for}
use Rattle.tt_bitmap_font.specs.declared.font_file.FontFile.{FontFile}
use Rattle.tt_bitmap_font.specs.Facts.{face_facts}
use Rattle.tt_bitmap_font.specs.FontFiles.{opening_of, setting_of}
use Rattle.tt_file_laws.specs.Laws.{EncodingsRise, IsOfFile, LinesAreComposed, OthersAreAlike, codes_of, composed_image}
use Rattle.tt_file_laws.proofs.FileEntries.{IsFile, among_glyphs, characters_are, characters_made, code_is, codes_are, is_file, is_made}
use Rattle.tt_file_laws.proofs.LineSteps.{IsLaidBy, at_pens_are, from_pen, line_is, plain_glyphs, same_setting, steps_of}

-- a bitmap's bit by its row, and among all rows

row_byte : (rows : List ℕ) (at n h y b : ℕ) → b < n → y < h
    → slice_index (slice_range (slice_range rows at (at + n * h)) (n * y) (n * (y + 1))) b ≡ slice_index rows (at + (n * y + b))
row_byte rows at n h y b small below =
    let all : List ℕ = slice_range rows at (at + n * h) in
    let ends : n * (y + 1) ≤ n * h = mul-le n (y + 1) n h (omega arith) (omega (arith, below)) in
    let next : n * (y + 1) ≡ n * y + n = omega arith in
    let within : n * y + b < n * h = omega (arith, ends, next, small) in
    get_or-take (n * (y + 1) - n * y) (drop (n * y) all) b 0 (omega (arith, next, small))
    ∙ get_or-drop (n * y) all b 0
    ∙ get_or-take ((at + n * h) - at) (drop at rows) (n * y + b) 0 (omega (arith, within))
    ∙ get_or-drop at rows (n * y + b) 0

bits_are : (rows : List ℕ) (c : BdfCharacter) (x y : ℕ) → x < c.width → y < c.height
    → has_bit rows c.at c.width x y ≡ bitmap_bit rows c x y
bits_are rows c x y column row =
    let n : ℕ = row_bytes c.width in
    let small : x / 8 < n = omega (arith, column) in
    sym (ap (λ (byte : ℕ). bit_at byte (7 - x % 8) == 1) (row_byte rows c.at n c.height y (x / 8) small row))

guarded : (inside a b : Bool) → (inside ≡ true → a ≡ b) → (inside && a) ≡ (inside && b)
guarded true a b same = same refl
guarded false a b same = refl

le_of : (a b : ℤ) → int_le a b ≡ true → a ≤ℤ b
le_of a b is = grind (arith, ints, is)

lt_of : (a b : ℤ) → int_lt a b ≡ true → a <ℤ b
lt_of a b is = grind (arith, ints, is)

abbrev as_character : ℕ → ℕ → ℕ → MadeBitmap → BdfCharacter
as_character code units at m = character_told code units at (told.Made m)

-- a made bitmap and its character show the same
told_shows : (rows : List ℕ) (code units at : ℕ) (m : MadeBitmap) (k j : ℤ)
    → rows_show rows at m.place k j ≡ character_shows rows (as_character code units at m) k j
told_shows rows code units at m k j =
    let p = m.place in
    let one = as_character code units at m in
    let x : ℕ = unsigned_abs (k -ℤ p.left) in
    let y : ℕ = unsigned_abs ((p.top -ℤ pos 1) -ℤ j) in
    guarded (lies_in p k j) (has_bit rows at p.width x y) (bitmap_bit rows one x y) (λ lies.
    let parts = and_parts (int_le p.left k && int_lt k (p.left +ℤ pos p.width)) (int_le (p.top -ℤ pos p.height) j && int_lt j p.top) lies in
    let across = and_parts (int_le p.left k) (int_lt k (p.left +ℤ pos p.width)) parts.0 in
    let up = and_parts (int_le (p.top -ℤ pos p.height) j) (int_lt j p.top) parts.1 in
    let left = le_of p.left k across.0 in
    let right = lt_of k (p.left +ℤ pos p.width) across.1 in
    let bottom = le_of (p.top -ℤ pos p.height) j up.0 in
    let top = lt_of j p.top up.1 in
    let column : x < p.width = omega (arith, ints, left, right) in
    let row : y < p.height = omega (arith, ints, bottom, top) in
    bits_are rows one x y column row)

-- a character of a file with the entry of its glyph

abbrev its_character : Fit → Face → Fitter → List ℕ → ℕ → BdfCharacter
its_character how face s cs x = character_by face x (entry_of how s (glyphs_for face.cmap cs) (glyph_for face.cmap x))

coded : (how : Fit) (face : Face) (s : Fitter) (cs : List ℕ) (x : ℕ) → (its_character how face s cs x).code ≡ x
coded how face s cs x =
    let e = entry_of how s (glyphs_for face.cmap cs) (glyph_for face.cmap x) in
    code_is x (units_of face (glyph_for face.cmap x)) e.at e.told

pub encodings_rise : CodesRise → EncodingsRise
encodings_rise rise a face cs b was =
    let f = is_file a face cs b was in
    let its = its_character a.fit face f.fitter cs in
    let codes : codes_of (characters_by face cs b.entries) ≡ cs =
    ap (λ (d : Bitmaps). codes_of (characters_by face cs d.entries)) f.is
    ∙ ap codes_of (characters_made face (entry_of a.fit f.fitter (glyphs_for face.cmap cs)) cs)
    ∙ codes_are its (coded a.fit face f.fitter cs) cs in
    (codes, rise face.cmap (asked_ranges a.ranges.now a.text.now) cs f.listed)

-- its glyph is made, in the file and alike in a line
record IsShown (how : Fit) (face : Face) (s : Fitter) (cs line : List ℕ) (x : ℕ) : Type 0 where
  bitmap : MadeBitmap
  report : number_told how s (glyphs_for face.cmap cs) (glyph_for face.cmap x) ≡ told.Made bitmap
  among : is_among (glyph_for face.cmap x) (glyphs_for face.cmap cs) ≡ true
  alike : IsMadeAlike s (glyphs_for face.cmap cs) line (glyph_for face.cmap x)

one_shown : RowsAreDrawn → (how : Fit) (face : Face) (s : Fitter) (cs gs : List ℕ) (line : Placement) (x pen c r : ℕ)
    → IsShown how face s cs gs x
    → entry_shows (line_fitter s gs (glyph_for face.cmap x)) (frame_of line 0) (glyph_for face.cmap x, pen) c r
    ≡ character_shows (all_rows how s (glyphs_for face.cmap cs)) (its_character how face s cs x) (pos c -ℤ pos pen)
    ((line.rise -ℤ pos 1) -ℤ pos r)
one_shown rows how face s cs gs line x pen c r d =
    let fs = glyphs_for face.cmap cs in
    let g = glyph_for face.cmap x in
    let all = all_rows how s fs in
    let e = entry_of how s fs g in
    let units = units_of face g in
    let k : ℤ = (pos c -ℤ pos 0) -ℤ pos pen in
    let j : ℤ = ((line.rise +ℤ pos 0) -ℤ pos 1) -ℤ pos r in
    let column : k ≡ pos c -ℤ pos pen = omega (arith, ints) in
    let above : j ≡ (line.rise -ℤ pos 1) -ℤ pos r = omega (arith, ints) in
    rows how s fs gs (g, pen) d.bitmap (frame_of line 0) c r d.among d.report d.alike
    ∙ told_shows all x units e.at d.bitmap k j
    ∙ ap (λ (t : Told). character_shows all (character_told x units e.at t) k j) (sym d.report)
    ∙ ap₂ (λ (v w : ℤ). character_shows all (its_character how face s cs x) v w) column above

step_is : AdvancesAreDrawn → (how : Fit) (face : Face) (s : Fitter) (cs gs : List ℕ) (x : ℕ) → IsShown how face s cs gs x
    → (its_character how face s cs x).advance ≡ advance_by how (line_fitter s gs (glyph_for face.cmap x)) (glyph_for face.cmap x)
step_is advances how face s cs gs x d =
    let fs = glyphs_for face.cmap cs in
    let g = glyph_for face.cmap x in
    let e = entry_of how s fs g in
    ap (λ (t : Told). (character_told x (units_of face g) e.at t).advance) d.report
    ∙ advances how s fs gs g d.bitmap d.report d.alike

-- all characters of a text, from a pen on
pixels_are : RowsAreDrawn → AdvancesAreDrawn → (how : Fit) (face : Face) (s : Fitter) (cs gs : List ℕ) (line : Placement)
    (xs : List ℕ) → All (IsShown how face s cs gs) xs → (pen c r : ℕ)
    → some_entry_shows (line_fitter s gs) (frame_of line 0)
    (from_pen pen (glyphs_for face.cmap xs) (steps_of how s gs (glyphs_for face.cmap xs))) c r
    ≡ composed (all_rows how s (glyphs_for face.cmap cs)) (map (its_character how face s cs) xs) (pos c -ℤ pos pen)
    ((line.rise -ℤ pos 1) -ℤ pos r)
pixels_are rows advances how face s cs gs line [] all pen c r = refl
pixels_are rows advances how face s cs gs line (x ∷ xs) all pen c r =
    let P = IsShown how face s cs gs in
    let d = All-head P x xs all in
    let g = glyph_for face.cmap x in
    let step : ℕ = advance_by how (line_fitter s gs g) g in
    let wide : ℕ = (its_character how face s cs x).advance in
    let same : wide ≡ step = step_is advances how face s cs gs x d in
    let next : pos c -ℤ pos (pen + step) ≡ (pos c -ℤ pos pen) -ℤ pos wide = omega (arith, ints, same) in
    let rest = pixels_are rows advances how face s cs gs line xs (All-tail P x xs all) (pen + step) c r in
    ap₂ (λ a b. a || b) (one_shown rows how face s cs gs line x pen c r d)
    (rest ∙ ap (λ (z : ℤ). composed (all_rows how s (glyphs_for face.cmap cs)) (map (its_character how face s cs) xs) z
    ((line.rise -ℤ pos 1) -ℤ pos r)) next)

widths_are : AdvancesAreDrawn → (how : Fit) (face : Face) (s : Fitter) (cs gs xs : List ℕ) → All (IsShown how face s cs gs) xs
    → sum (steps_of how s gs (glyphs_for face.cmap xs))
    ≡ sum_by (λ (c : BdfCharacter). c.advance) (map (its_character how face s cs) xs)
widths_are advances how face s cs gs [] all = refl
widths_are advances how face s cs gs (x ∷ xs) all =
    let P = IsShown how face s cs gs in
    let g = glyph_for face.cmap x in
    let its = its_character how face s cs in
    let same = step_is advances how face s cs gs x (All-head P x xs all) in
    let rest = widths_are advances how face s cs gs xs (All-tail P x xs all) in
    let first = sum_by-cons (λ (n : ℕ). n) (advance_by how (line_fitter s gs g) g) (steps_of how s gs (glyphs_for face.cmap xs)) in
    let other = sum_by-cons (λ (c : BdfCharacter). c.advance) (its x) (map its xs) in
    omega (arith, same, rest, first, other)

-- the line of a job

ok_same : {X E : Type 0} (x y : X) → ◌≡◌ {A = Result X E} (Ok x) (Ok y) → x ≡ y
ok_same x y is = cc

record IsPictured (face : Face) (j : Job) (i : Image) : Type 0 where
  line : Placement
  laid : laid_out face j ≡ Ok line
  placed : text_placed face j ≡ Ok line
  is : drawn face j line ≡ Ok i

laid_when : (face : Face) (j : Job) (line : Placement) (u : Unit {0}) → as_job (tested j) ≡ Ok u → text_placed face j ≡ Ok line
    → laid_out face j ≡ Ok line
laid_when face j line u passes placed = rw passes placed

is_pictured : (face : Face) (j : Job) (i : Image) → line_outcome face j ≡ Ok i → IsPictured face j i
unfolding line_outcome pictured_by
is_pictured face j i was =
    let by_test = came-through (as_job (tested j)) _ i was in
    let by_line = came-through (text_placed face j) _ i by_test.rest in
    record {
      line = by_line.value;
      laid = laid_when face j by_line.value by_test.value by_test.first by_line.first;
      placed = by_line.first;
      is = by_line.rest;
    }

unkerned_face : (file : List ℕ) (a : FontFile) (face : Face) → face_asked (setting_of a) file ≡ Ok face
    → face.metrics.kerning ≡ None
unfolding face_at_instance ruled
unkerned_face file a face was =
    let by_face = came-through (face_by file (opening_of a).reading) _ face was in
    let at = came-through (face_at_asked by_face.value (asked_in (setting_of a))) _ face by_face.rest in
    let is : ruled (opening_of a).rules at.value ≡ face = ok_same (ruled (opening_of a).rules at.value) face at.rest in
    ap (λ (f : Face). f.metrics.kerning) (sym is)

no_margin : (r d : ℤ) → (r +ℤ d) +ℤ pos (2 * 0) ≡ r +ℤ d
no_margin r d = omega (arith, ints)

-- a text of a file's characters
module _ (a : FontFile) (face : Face) (cs : List ℕ) (b : Bitmaps) (f : IsFile a face cs b) (text : List ℕ) where
  abbrev its : ℕ → BdfCharacter
  its = its_character a.fit face f.fitter cs

  abbrev glyphs : List ℕ
  glyphs = glyphs_for face.cmap (chars text)

  shown_all : IsOfFile face f.fitter cs (chars text) → All (IsShown a.fit face f.fitter cs glyphs) (chars text)
  shown_all of = λ k d below.
      let x = get_or (chars text) k d in
      let here = of.listed k d below in
      let source = setting_source face a.size a.fit f.fitter f.set in
      let known = subst (λ (m : Metrics). glyph_for face.cmap x < glyphs_of m) (sym source.0) (of.known k d below) in
      let made = is_made a face cs b f x here known in
      record {
        bitmap = made.0;
        report = made.1;
        among = among_glyphs (glyph_for face.cmap) cs x here.0 here.1 here.2;
        alike = of.alike k d below;
      }

  no_selectors : CodesBelong → IsOfFile face f.fitter cs (chars text) → All (λ (c : ℕ). is_selector c ≡ false) (chars text)
  no_selectors belong of = λ k d below.
      let rs = asked_ranges a.ranges.now a.text.now in
      (All-contains (BelongsIn face.cmap rs) cs (get_or (chars text) k d) (belong face.cmap rs cs f.listed) (of.listed k d below)).selector

  line_composed : LinesAreBitmaps → RowsAreDrawn → AdvancesAreDrawn → CodesBelong → face.metrics.kerning ≡ None
      → IsOfFile face f.fitter cs (chars text) → (i : Image) → line_outcome face (job_by (setting_of a) text) ≡ Ok i
      → i ≡ composed_image (face_facts face a.size) (all_rows a.fit f.fitter (glyphs_for face.cmap cs)) (map its (chars text))
  line_composed bitmaps rows advances belong off of i was =
      let j = job_by (setting_of a) text in
      let s = f.fitter in
      let xs = chars text in
      let gs = glyphs in
      let rise = rise_of face.metrics a.size in
      let depth = depth_of face.metrics a.size in
      let steps = steps_of a.fit s gs gs in
      let p = is_pictured face j i was in
      let shown = shown_all of in
      let numbers : text_glyphs face.cmap text ≡ gs = plain_glyphs face.cmap text (no_selectors belong of) in
      let laid : IsLaidBy face j gs steps p.line =
      subst (λ (ns : List ℕ). IsLaidBy face j ns (steps_of a.fit s ns ns) p.line) numbers (line_is face j s p.line off f.set p.placed) in
      let line : Placement = placed_in gs steps rise (extent_by steps 0 rise depth) in
      let black : ℕ → ℕ → Bool = λ c r. composed (all_rows a.fit s (glyphs_for face.cmap cs)) (map its xs) (pos c) ((rise -ℤ pos 1) -ℤ pos r) in
      let by_entries : i ≡ image (frame_of line 0) (some_entry_shows (line_fitter s (map (λ (g : ℕ × ℕ). g.0) line.glyphs)) (frame_of line 0) line.glyphs) =
      subst (λ (l : Placement). i ≡ image (frame_of l 0) (some_entry_shows (line_fitter s (map (λ (g : ℕ × ℕ). g.0) l.glyphs)) (frame_of l 0) l.glyphs))
      laid (bitmaps face j p.line s i p.laid f.set p.is) in
      let long : length steps ≡ length gs = length-map gs (λ (g : ℕ). advance_by a.fit (line_fitter s gs g) g) in
      let same : image (frame_of line 0) (some_entry_shows (line_fitter s (map (λ (g : ℕ × ℕ). g.0) line.glyphs)) (frame_of line 0) line.glyphs)
      ≡ image (frame_of line 0) black =
      image_alike (frame_of line 0) _ black (λ c r column row.
      let start : pos c -ℤ pos 0 ≡ pos c = omega (arith, ints) in
      ap₂ (λ (ns : List ℕ) (ps : List (ℕ × ℕ)). some_entry_shows (line_fitter s ns) (frame_of line 0) ps c r)
      (glyphs_by_steps gs steps) (at_pens_are gs steps long)
      ∙ pixels_are rows advances a.fit face s cs gs line xs shown 0 c r
      ∙ ap (λ (z : ℤ). composed (all_rows a.fit s (glyphs_for face.cmap cs)) (map its xs) z ((rise -ℤ pos 1) -ℤ pos r)) start) in
      let widths = widths_are advances a.fit face s cs gs xs shown in
      let columns : sum steps + 2 * 0 ≡ sum_by (λ (c : BdfCharacter). c.advance) (map its xs) = omega (arith, widths) in
      by_entries ∙ same
      ∙ ap₂ (λ (w h : ℕ). image (record { width = w; height = h; margin = 0; rise = rise }) black) columns (ap unsigned_abs (no_margin rise depth))

pub lines_are_composed : LinesAreBitmaps → RowsAreDrawn → AdvancesAreDrawn → CodesBelong → LinesAreComposed
lines_are_composed bitmaps rows advances belong file a face s cs b text i opened set filed pictured of =
    let f = is_file a face cs b filed in
    let t = f.fitter in
    let fs = glyphs_for face.cmap cs in
    let xs = chars text in
    let same : s ≡ t = same_setting (setting face a.size a.fit) s t set f.set in
    let ours : IsOfFile face t cs xs = subst (λ (q : Fitter). IsOfFile face q cs xs) same of in
    let its = its_character a.fit face t cs in
    let all_characters : characters_by face cs b.entries ≡ map its cs =
    ap (λ (d : Bitmaps). characters_by face cs d.entries) f.is ∙ characters_made face (entry_of a.fit t fs) cs in
    let characters : characters_in (characters_by face cs b.entries) xs ≡ map its xs =
    ap (λ (ds : List BdfCharacter). characters_in ds xs) all_characters ∙ characters_are its (coded a.fit face t cs) cs xs of.listed in
    let same_rows : b.rows ≡ all_rows a.fit t fs = ap (λ (d : Bitmaps). d.rows) f.is in
    line_composed a face cs b f text bitmaps rows advances belong (unkerned_face file a face opened) ours i pictured
    ∙ ap₂ (λ (bytes : List ℕ) (ds : List BdfCharacter). composed_image (face_facts face a.size) bytes ds) (sym same_rows) (sym characters)

-- without a bound of work

no_bound : OthersAreUnbounded → (face : Face) (ppem : ℕ) (how : Fit) (s : Fitter) → how ≢ fit.Best → setting face ppem how ≡ Ok s
    → s.work ≡ None
unfolding setting
no_bound unbounded face ppem how s other was =
    let by_tables = came-through (glyphs_in face) _ s was in
    let by_programs = came-through (programs_in face how) _ s by_tables.rest in
    (unbounded face.metrics by_tables.value by_programs.value face.instance ppem how s other by_programs.rest).0

pub others_are_alike : OthersAreUnbounded → UnboundedAreAlike → OthersAreAlike
others_are_alike unbounded alike face ppem how s gs line g other set =
    alike s gs line g (no_bound unbounded face ppem how s other set)
