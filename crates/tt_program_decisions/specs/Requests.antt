-- No part of the standard: the requests of the program's command lines, and their performance.
use Rattle.std.specs.Prelude.{◌≡◌, refl, ℕ, Bool, true, false, List, codes, Option, Some, None, is_some, option_map, IfSome, if◌then◌else◌, ⊤}
use Rattle.std.specs.Str.{bytes_eq}
use Rattle.tt_core.specs.declared.collection.Reading.{Reading}
use Rattle.tt_core.specs.declared.collection.Reading.TheVariants as reading
use Rattle.tt_core.specs.Limits.{size_limit}
use Rattle.tt_fit.specs.declared.programs.Fit.{Fit}
use Rattle.tt_fit.specs.declared.programs.Fit.TheVariants as fit
use Rattle.tt_face.specs.declared.rules.LineRules.{LineRules}
use Rattle.tt_face.specs.declared.instance.AskedInstance.{AskedInstance}
use Rattle.tt_face.specs.Views.{asked_view}
use Rattle.tt_face.specs.Rules.{plain_opening}
use Rattle.tt_metrics.specs.declared.heights.Heights.{Heights}
use Rattle.tt_render_settings.specs.declared.setting.Missing.{Missing}
use Rattle.tt_render_settings.specs.declared.setting.Missing.TheVariants as missing
use Rattle.tt_render_settings.specs.declared.label.Label.{Label as DrawnLabel}
use Rattle.tt_render_settings.specs.declared.setting.Product.{Product}
use Rattle.tt_render_settings.specs.declared.setting.Product.TheVariants.{Measure, Picture}
use Rattle.tt_line.specs.declared.align.Align.{Align}
use Rattle.tt_line.specs.declared.align.Align.TheVariants as align
use Rattle.tt_line.specs.Layout.{text_glyphs}
use Rattle.tt_render.specs.Labels.{FontLabelGives, FontLabelsGive, HintsBy, composed_glyphs}
use Rattle.tt_render_settings.specs.declared.setting.Setting.{Setting}
use Rattle.tt_render_settings.specs.declared.space.Space.{Space}
use Rattle.tt_render_settings.specs.declared.space.Space.TheVariants as space
use Rattle.tt_render_settings.specs.Spaces.{space_asked}
use Rattle.tt_render.specs.LabelSpaces.{ClaimsIfSized}
use Rattle.tt_render_lines.specs.LayoutTexts.{FontLayoutGives, IsLayoutDefect}
use Rattle.tt_render_settings.specs.LinesDefects.{IsTextDefect, LinesTellDefectsOf}
use Rattle.tt_render_run.specs.MapLines.{IsMapDefect, map_wanted}
use Rattle.tt_render_streams.specs.Traffic.{Traffic}
use Rattle.tt_render_texts.specs.Readings.{fit_reading, reading_asked}
use Rattle.tt_render_settings.specs.Lines.{places}
use Rattle.tt_render_settings.specs.TextsOutcome.{FontLinesGive, FontTextGives, TextTellsDefectsOf, reader_in}
use Rattle.tt_program_decisions.specs.declared.request.Request.{Request}
use Rattle.tt_program_decisions.specs.declared.labelling.LabelOptions.{LabelOptions}
use Rattle.tt_program_decisions.specs.declared.request.Request.TheVariants.{Map, Faces, Text, Lines, Layout, Label, Labels, Bdf}
use Rattle.tt_program_decisions.specs.BdfCalls.{PerformsBdf}
use Rattle.tt_program_decisions.specs.BdfRequests.{BdfAsked, bdf_view, range_words, text_or_none}
use Rattle.tt_program_faces.specs.FaceLines.{IsFacesDefect, faces_wanted}
use Rattle.tt_program_decisions.specs.Output.{format_asked}
use Rattle.tt_program_decisions.specs.Rules.{AsksRules, heights_named}
use Rattle.tt_render_streams.specs.declared.formed.PictureFormat.{PictureFormat}
use Rattle.tt_render_texts.specs.Printing.{Errors}
use Rattle.tt_program_decisions.specs.Telling.{Does, DoesLabel, DoesLines, DoesTexts}

-- the ways to fit by their names
abbrev pub fit_named : List ℕ → Option Fit
fit_named name =
    if bytes_eq name (codes "full") then Some fit.Full
    else (if bytes_eq name (codes "none") then Some fit.None
    else (if bytes_eq name (codes "fallback") then Some fit.Fallback
    else (if bytes_eq name (codes "best") then Some fit.Best else None)))

-- the treatments of characters without a glyph by their names
abbrev pub missing_named : List ℕ → Option Missing
missing_named name =
    if bytes_eq name (codes "draw") then Some missing.Draw
    else (if bytes_eq name (codes "tell") then Some missing.Tell
    else (if bytes_eq name (codes "refuse") then Some missing.Refuse else None))

-- the sides of lines by their names
abbrev pub align_named : List ℕ → Option Align
align_named name =
    if bytes_eq name (codes "left") then Some align.Left
    else (if bytes_eq name (codes "centre") then Some align.Centre
    else (if bytes_eq name (codes "right") then Some align.Right else None))

-- the limit of the cache of glyphs from line to line, in bytes
abbrev pub glyphs_kept : ℕ
glyphs_kept = 4194304

-- a setting with this way to fit and this treatment of missing glyphs, where both names are known
abbrev pub setting_named : ℕ → ℕ → Option Fit → Option Missing → Bool → Bool → Option ℕ → Product → Option Setting
setting_named size margin (Some f) (Some m) grows keeps face wanted = Some (record {
  ppem = size;
  margin = margin;
  fit = f;
  opening = plain_opening (reading_asked face (fit_reading f));
  missing = m;
  grow = grows;
  product = wanted;
  most = glyphs_kept;
  keep_going = keeps;
  instance = None;
})
setting_named size margin f m grows keeps face wanted = None

-- `--size SIZE --margin MARGIN --fit FIT --missing MISSING`, whether there are `--grow` and `--keep-going`, and
-- `--face FACE`; options may be absent
abbrev pub options_asked
    : Option ℕ → Option ℕ → Option (List ℕ) → Option (List ℕ) → Bool → Bool → Option ℕ → Product → Option Setting
options_asked (Some size) (Some margin) (Some how) (Some what) grows keeps face wanted =
    setting_named size margin (fit_named how) (missing_named what) grows keeps face wanted
options_asked size margin how what grows keeps face wanted = None

-- the same setting with rules of lines, where both are present
abbrev pub with_rules : Option LineRules → Option Setting → Option Setting
with_rules (Some rules) (Some s) =
    Some (record s { opening = record { reading = s.opening.reading; rules = rules } })
with_rules rules s = None

-- the options of `label`, where all names are known
abbrev pub label_named
    : ℕ → ℕ → Option Align → Space → Option Fit → Option Missing → Option ℕ → Option LineRules → Bool → PictureFormat
    → Option LabelOptions
label_named n m (Some a) s (Some f) (Some w) face (Some rules) keeps form = Some (record {
  size = n;
  margin = m;
  align = a;
  space = s;
  fit = f;
  missing = w;
  face = face;
  rules = rules;
  keep_going = keeps;
  format = form;
  instance = None;
})
label_named n m a s f w face rules keeps form = None

-- the size, or in a box the greatest size to try, which may be absent
abbrev pub size_asked : Option ℕ → Option Space → Option ℕ
size_asked (Some n) s = Some n
size_asked None (Some (space.Box b)) = Some size_limit
size_asked None s = None

-- `--size SIZE --margin MARGIN --align ALIGN`, the requested space, `--fit FIT --missing MISSING`, `--face FACE`, and the rules
-- of lines; options may be absent; whether there is `--keep-going`, and the format of pictures
abbrev pub label_options_asked
    : Option ℕ → Option ℕ → Option (List ℕ) → Option Space → Option (List ℕ) → Option (List ℕ) → Option ℕ
    → Option LineRules → Bool → PictureFormat → Option LabelOptions
label_options_asked (Some n) (Some m) (Some side) (Some s) (Some how) (Some what) face rules keeps form =
    label_named n m (align_named side) s (fit_named how) (missing_named what) face rules keeps form
label_options_asked n m side s how what face rules keeps form = None

-- The requests, each with its font: the lines that map a text; the lines of the file's faces; the product of a text with
-- a setting; the products of the lines of standard input; the measure of a text without ink; the label of a text; the
-- labels of the lines of standard input, both with the name of their files, if there is one; a bitmap font.
pub data Asked : Type 0 where
  map_text : List ℕ → List ℕ → Reading → Option AskedInstance → Asked
  tell_faces : List ℕ → Asked
  draw_text : List ℕ → List ℕ → Setting → Asked
  draw_lines : List ℕ → Setting → Asked
  lay_text : List ℕ → List ℕ → Setting → Asked
  draw_label : List ℕ → List ℕ → LabelOptions → Option (List ℕ) → Asked
  draw_labels : List ℕ → LabelOptions → Option (List ℕ) → Asked
  make_bdf : BdfAsked → Asked

abbrev pub asked_of : Request → Asked
asked_of (Map font text r i) = map_text font.now text.now r i
asked_of (Faces font) = tell_faces font.now
asked_of (Text font text setting) = draw_text font.now text.now setting
asked_of (Lines font setting) = draw_lines font.now setting
asked_of (Layout font text setting) = lay_text font.now text.now setting
asked_of (Label font text options output) = draw_label font.now text.now options (option_map (λ o. o.now) output)
asked_of (Labels font options output) = draw_labels font.now options (option_map (λ o. o.now) output)
asked_of (Bdf asked) = make_bdf (bdf_view asked)

-- `map [--face FACE] FONT TEXT`; words may be absent
abbrev pub map_asked : Option (List ℕ) → Option (List ℕ) → Option ℕ → Option Asked
map_asked (Some font) (Some text) face = Some (map_text font text (reading_asked face reading.Strict) None)
map_asked font text face = None

-- `faces FONT`; the word may be absent
abbrev pub faces_asked : Option (List ℕ) → Option Asked
faces_asked (Some font) = Some (tell_faces font)
faces_asked None = None

-- `draw OPTION.. FONT TEXT`, or with standard input's lines `draw OPTION.. --lines FONT`; words and options may be
-- absent
abbrev pub draw_asked : Option (List ℕ) → Option (List ℕ) → Bool → Option Setting → Option Asked
draw_asked (Some font) (Some text) false (Some s) = Some (draw_text font text s)
draw_asked (Some font) None true (Some s) = Some (draw_lines font s)
draw_asked font text lines s = None

-- the request of the same measure without ink; none for lines, and for a picture that grows
abbrev pub without_ink : Asked → Option Asked
without_ink (draw_text font text s) = if s.grow then None else Some (lay_text font text s)
without_ink asked = None

-- the same where there is a request
abbrev pub bare_asked : Option Asked → Option Asked
bare_asked (Some asked) = without_ink asked
bare_asked None = None

-- a request of `measure`, by whether there is `--no-ink`
abbrev pub measure_asked : Bool → Option Asked → Option Asked
measure_asked bare asked = if bare then bare_asked asked else asked

-- `bdf`, where the names of the way to fit and of the rounding of heights are known
abbrev pub bdf_named
    : List ℕ → ℕ → Option Fit → Option ℕ → Option Heights → Option (List ℕ) → Option (List ℕ) → Option Asked
bdf_named font n (Some f) face (Some h) range text = Some (make_bdf (record {
  font = font;
  size = n;
  fit = f;
  face = face;
  heights = h;
  range = range_words range text;
  text = text_or_none text;
  instance = None;
}))
bdf_named font n f face h range text = None

-- `bdf --size SIZE --fit FIT --face FACE --height HEIGHT --range RANGE FONT TEXT`; words and options may be absent
abbrev pub bdf_asked : Option (List ℕ) → Option ℕ → Option (List ℕ) → Option ℕ → Option (List ℕ) → Option (List ℕ)
    → Option (List ℕ) → Option Asked
bdf_asked (Some font) (Some n) (Some how) face (Some height) range text =
    bdf_named font n (fit_named how) face (heights_named height) range text
bdf_asked font n how face height range text = None

-- `label OPTION.. FONT TEXT`, or with standard input's lines `label OPTION.. --lines FONT`; words and options may be
-- absent
abbrev pub label_asked : Option (List ℕ) → Option (List ℕ) → Bool → Option LabelOptions → Option (List ℕ) → Option Asked
label_asked (Some font) (Some text) false (Some o) output = Some (draw_label font text o output)
label_asked (Some font) None true (Some o) output = Some (draw_labels font o output)
label_asked font text lines o output = None

-- the setting of `draw`, or of `measure`, by its arguments: a name's text, its number, and whether its flag is set. Heights
-- are exact, and no pair is kerned
abbrev pub AsksPlainSetting
    : (List ℕ → Option (List ℕ)) → (List ℕ → Option ℕ → Type 0) → (List ℕ → Bool → Type 0) → Product
    → Option Setting → Type 0
AsksPlainSetting text IsNumber IsFlag wanted answer =
    (size margin face : Option ℕ) × (grows keeps : Bool) × IsNumber (codes "size") size × IsNumber (codes "margin") margin
    × IsNumber (codes "face") face × IsFlag (codes "grow") grows × IsFlag (codes "keep-going") keeps
    × (answer ≡ options_asked size margin (text (codes "fit")) (text (codes "missing")) grows keeps face wanted)

-- the same setting with the rules of its lines
abbrev pub AsksSetting
    : (List ℕ → Option (List ℕ)) → (List ℕ → Option ℕ → Type 0) → (List ℕ → Bool → Type 0) → Product
    → Option Setting → Type 0
AsksSetting text IsNumber IsFlag wanted answer =
    (setting : Option Setting) × (rules : Option LineRules) × AsksPlainSetting text IsNumber IsFlag wanted setting
    × AsksRules text IsFlag rules × (answer ≡ with_rules rules setting)

-- the request of `map` by its arguments
abbrev pub AsksMap : (List ℕ → Option (List ℕ)) → (List ℕ → Option ℕ → Type 0) → Option Asked → Type 0
AsksMap text IsNumber answer =
    (face : Option ℕ) × IsNumber (codes "face") face
    × (answer ≡ map_asked (text (codes "FONT")) (text (codes "TEXT")) face)

-- the request of `draw`, or of `measure`, by its arguments
abbrev pub AsksDrawing
    : (List ℕ → Option (List ℕ)) → (List ℕ → Option ℕ → Type 0) → (List ℕ → Bool → Type 0) → Product → Option Asked
    → Type 0
AsksDrawing text IsNumber IsFlag wanted answer =
    (setting : Option Setting) × (lines : Bool) × AsksSetting text IsNumber IsFlag wanted setting
    × IsFlag (codes "lines") lines
    × (answer ≡ draw_asked (text (codes "FONT")) (text (codes "TEXT")) lines setting)

-- the request of `measure` by its arguments
abbrev pub AsksMeasure
    : (List ℕ → Option (List ℕ)) → (List ℕ → Option ℕ → Type 0) → (List ℕ → Bool → Type 0) → Option Asked → Type 0
AsksMeasure text IsNumber IsFlag answer =
    (asked : Option Asked) × (bare : Bool) × AsksDrawing text IsNumber IsFlag Measure asked
    × IsFlag (codes "no-ink") bare × (answer ≡ measure_asked bare asked)

-- the options of `label` by its arguments
abbrev pub AsksLabelOptions
    : (List ℕ → Option (List ℕ)) → (List ℕ → Option ℕ → Type 0) → (List ℕ → Bool → Type 0) → Option LabelOptions
    → Type 0
AsksLabelOptions text IsNumber IsFlag answer =
    (size margin width face : Option ℕ) × (rules : Option LineRules) × (keeps png : Bool) × IsNumber (codes "size") size
    × IsNumber (codes "margin") margin × IsNumber (codes "width") width × IsNumber (codes "face") face
    × AsksRules text IsFlag rules × IsFlag (codes "keep-going") keeps × IsFlag (codes "png") png
    × (answer ≡ label_options_asked (size_asked size (space_asked width (text (codes "box")))) margin
    (text (codes "align")) (space_asked width (text (codes "box"))) (text (codes "fit")) (text (codes "missing")) face
    rules keeps (format_asked png (text (codes "output"))))

-- the request of `label` by its arguments
abbrev pub AsksLabel
    : (List ℕ → Option (List ℕ)) → (List ℕ → Option ℕ → Type 0) → (List ℕ → Bool → Type 0) → Option Asked → Type 0
AsksLabel text IsNumber IsFlag answer =
    (options : Option LabelOptions) × (lines : Bool) × AsksLabelOptions text IsNumber IsFlag options
    × IsFlag (codes "lines") lines
    × (answer ≡ label_asked (text (codes "FONT")) (text (codes "TEXT")) lines options (text (codes "output")))

-- the request of `bdf` by its arguments
abbrev pub AsksBdf : (List ℕ → Option (List ℕ)) → (List ℕ → Option ℕ → Type 0) → Option Asked → Type 0
AsksBdf text IsNumber answer =
    (size face : Option ℕ) × IsNumber (codes "size") size × IsNumber (codes "face") face
    × (answer ≡ bdf_asked (text (codes "FONT")) size (text (codes "fit")) face (text (codes "height"))
    (text (codes "range")) (text (codes "TEXT")))

-- the setting of a label with these options: glyphs of any face of any font
abbrev pub label_setting : LabelOptions → Setting
label_setting o = record {
  ppem = o.size;
  margin = o.margin;
  fit = o.fit;
  opening = record { reading = reading_asked o.face (reading.Wide 0); rules = o.rules };
  missing = o.missing;
  grow = true;
  product = Picture;
  most = glyphs_kept;
  keep_going = o.keep_going;
  instance = o.instance;
}

-- how a label with these options is drawn by the font of a path
pub record IsLabelFor (font : List ℕ) (o : LabelOptions) (l : DrawnLabel) : Type 0 where
  pub setting : l.setting ≡ label_setting o
  pub align : l.align ≡ o.align
  pub space : l.space ≡ o.space
  pub path : l.path.now ≡ font
  pub given : l.face_given ≡ is_some o.face
  pub format : l.format ≡ o.format

-- the path of a request's font
abbrev pub font_of : Request → List ℕ
font_of (Map font text r i) = font.now
font_of (Faces font) = font.now
font_of (Text font text setting) = font.now
font_of (Lines font setting) = font.now
font_of (Layout font text setting) = font.now
font_of (Label font text options output) = font.now
font_of (Labels font options output) = font.now
font_of (Bdf asked) = asked.font.now

-- the name of the files that take a request's pictures
abbrev pub output_of : Request → Option (List ℕ)
output_of (Label font text options output) = option_map (λ o. o.now) output
output_of (Labels font options output) = option_map (λ o. o.now) output
output_of r = None

-- where pictures go, beside a reader: what stands there for a picture, and the traffic
pub record PictureTraffic : Type 0 where
  pub shown : Option ℕ → List ℕ → List ℕ
  pub font : Traffic
  pub lines : Traffic

-- a request is performed and reported: the contract of its call holds for some answer. For the lines that map a text, or
-- tell faces: the bytes to write for a font file, and the defects for which it is refused. The second traffic is that of
-- standard input, and of the writer again; the third has that of the font and of standard input with the places of
-- pictures. The Booleans say whether the font's path is that of a folder, and whether the reader had closed the output
abbrev pub Performs : Request → Bool → Bool → Traffic → Traffic → PictureTraffic → Errors → ℕ → Type 0
Performs (Map font text r i) folder closed t lines p e status =
    Does (map_wanted r (option_map asked_view i) text.now) (IsMapDefect r (option_map asked_view i) text.now) closed t e
    status
Performs (Faces font) folder closed t lines p e status = Does faces_wanted IsFacesDefect closed t e status
Performs (Text font text setting) folder closed t lines p e status =
    DoesTexts {V = Unit {0}} (λ answer told. FontTextGives setting text.now answer t told
    × TextTellsDefectsOf t.left_before (IsTextDefect text_glyphs setting text.now) answer) closed e status
Performs (Lines font setting) folder closed t lines p e status =
    DoesLines (λ answer told. FontLinesGive (λ drawn. drawn.refused) setting answer (reader_in t) lines told
    × LinesTellDefectsOf text_glyphs t.left_before setting lines.left_before answer) closed e status
Performs (Layout font text setting) folder closed t lines p e status =
    DoesTexts {V = Unit {0}} (λ answer told. FontLayoutGives setting text.now answer t told
    × TextTellsDefectsOf t.left_before (IsLayoutDefect setting text.now) answer) closed e status
Performs (Label font text options output) folder closed t lines p e status =
    (l : DrawnLabel) × IsLabelFor font.now options l
    × DoesLabel (λ drawn told. FontLabelGives (places p.shown) l text.now drawn.answer p.font told
    × ClaimsIfSized l.space (TextTellsDefectsOf p.font.left_before (IsTextDefect composed_glyphs l.setting text.now) drawn.answer)
    × IfSome p.font.left_before (HintsBy l drawn)) l folder closed e status
Performs (Labels font options output) folder closed t lines p e status =
    (l : DrawnLabel) × IsLabelFor font.now options l
    × DoesLabel (λ drawn told. FontLabelsGive (places p.shown) l drawn.answer (reader_in p.font) p.lines told
    × ClaimsIfSized l.space (LinesTellDefectsOf composed_glyphs p.font.left_before l.setting p.lines.left_before drawn.answer)
    × IfSome p.font.left_before (HintsBy l drawn)) l folder closed e status
Performs (Bdf asked) folder closed t lines p e status = PerformsBdf (bdf_view asked) folder closed t e status

-- a property that holds unless the request is for standard input's lines
abbrev pub UnlessLines : Request → Type 0 → Type 0
UnlessLines (Lines font setting) P = ⊤
UnlessLines (Labels font options output) P = ⊤
UnlessLines r P = P

-- worked values
a_box : Option Space
a_box = Some (space.Box (record { width = 40; height = 30 }))

sizes_in_a_box : size_asked None a_box ≡ Some 300
unfolding a_box
sizes_in_a_box = refl

a_greatest_size : size_asked (Some 12) a_box ≡ Some 12
unfolding a_box
a_greatest_size = refl

no_size_elsewhere : size_asked None (Some (space.Width 40)) ≡ None
no_size_elsewhere = refl
