-- One record more, one level of components, and a glyph that is begun.
use Rattle.std.proofs.Common.{◌≡◌, ℕ, zero, suc, ◌+◌, ◌-◌, ◌<◌, List, length, drop, get_or, Option, IfSome, Result, Ok, Err, refl, arith, add-one, drop-cons}
use Rattle.tt_core.specs.Faults.{Fault}
use Rattle.tt_core.specs.Outcomes.{◌>>=◌, font_fault}
use Rattle.tt_core.specs.declared.font_fault.FontFault.{FontFault}
use Rattle.tt_core.specs.declared.font_fault.FontFault.TheVariants as font
use Rattle.tt_fit_hinting.specs.machine.Work.{Worked, enough}
use Rattle.tt_glyf.specs.declared.raw.Record.{Record}
use Rattle.tt_fit_hinting.specs.declared.outline_fault.OutlineFault.{OutlineFault}
use Rattle.tt_fit_hinting.specs.declared.outline_fault.OutlineFault.TheVariants as outline
use Rattle.tt_fit_outline.specs.Joining.{placed}
use Rattle.tt_glyf.specs.GlyphData.{glyph_data_of}
use Rattle.tt_glyf.specs.Raw.{Raw}
use Rattle.tt_fit_hinting.specs.Hinting.{hinted}
use Rattle.tt_fit.specs.Fitting.{Begun, Fitter, size_of, glyph_grid, begun_glyph, joined, finished, added, outline_at, finished_work, added_work, outline_work}
use Rattle.tt_fit_outline.specs.Outline.{Outline}
use Rattle.tt_fit_hinting.specs.Work.{RefusalLeaves, hinted_work, outline_fault, outline_fault_of}
use Rattle.tt_fit.specs.Work.{joined_work}

pub one_record_more : (add : Record → Outline → Result Outline Fault) (rs : List Record) (i : ℕ) (d : Record)
    (o next : Outline) → i < length rs → add (get_or rs i d) o ≡ Ok next
    → joined add (drop (i + 1) rs) next ≡ joined add (drop i rs) o
one_record_more add rs i d o next below gives = rw (add-one, drop-cons rs i d below, gives) refl

-- with a level remaining, a record adds its component's outline
pub one_level : (s : Fitter) (levels : ℕ) (r : Record) (o : Outline) → 0 < levels → added s levels r o
    ≡ (outline_at s (levels - 1) r.glyph >>= λ component. placed (glyph_grid s) (size_of s) r component o)
unfolding added
one_level s zero r o some = absurd (omega arith)
one_level s (suc levels) r o some =
    let fewer : suc levels - 1 ≡ levels = omega arith in
    rw fewer refl

-- its component's outline was made, and is placed
pub one_level_done : (s : Fitter) (levels : ℕ) (r : Record) (o component : Outline) → 0 < levels
    → outline_at s (levels - 1) r.glyph ≡ Ok component → added s levels r o ≡ placed (glyph_grid s) (size_of s) r component o
one_level_done s levels r o component some made = rw (one_level s levels r o some, made) refl

-- a glyph that was read and begun
pub glyph_made : (s : Fitter) (levels g : ℕ) (raw : Raw) (b : Begun) → glyph_data_of s.tables g ≡ Ok raw
    → begun_glyph s g raw ≡ Ok b → outline_at s levels g ≡ finished s (added s levels) b
glyph_made s levels g raw b read begins = rw (read, begins) refl

pub glyph_paid : (s : Fitter) (levels g : ℕ) (raw : Raw) (b : Begun) (left : Option ℕ)
    → glyph_data_of s.tables g ≡ Ok raw → begun_glyph s g raw ≡ Ok b
    → outline_work s levels g left ≡ finished_work s (added s levels) (added_work s levels) b left
glyph_paid s levels g raw b left read begins = rw (read, begins) refl

-- it cannot be begun: the fault is the answer, and no program runs
pub glyph_refused : (s : Fitter) (levels g : ℕ) (raw : Raw) (fault : FontFault) → glyph_data_of s.tables g ≡ Ok raw
    → IfSome (font_fault fault) (λ f. begun_glyph s g raw ≡ Err f)
    → IfSome (outline_fault (outline_fault_of fault)) (λ f. outline_at s levels g ≡ Err f)
glyph_refused s levels g raw (font.Font f) read fails = rw (read, fails) refl
glyph_refused s levels g raw font.Memory read fails = tt

pub glyph_unpaid : (s : Fitter) (levels g : ℕ) (raw : Raw) (fault : FontFault) (left : Option ℕ)
    → glyph_data_of s.tables g ≡ Ok raw → IfSome (font_fault fault) (λ f. begun_glyph s g raw ≡ Err f)
    → RefusalLeaves (outline_fault_of fault) left (outline_work s levels g left)
glyph_unpaid s levels g raw (font.Font f) left read fails = rw (read, fails) refl
glyph_unpaid s levels g raw font.Memory left read fails = tt

-- its components were added
pub glyph_joined : (s : Fitter) (levels : ℕ) (b : Begun) (all : Outline)
    → joined (added s levels) b.records b.outline ≡ Ok all
    → finished s (added s levels) b ≡ hinted s.hinting b.program all
glyph_joined s levels b all joins = rw joins refl

pub glyph_joined_work : (s : Fitter) (levels : ℕ) (b : Begun) (all : Outline) (left rest : Option ℕ)
    → joined (added s levels) b.records b.outline ≡ Ok all
    → joined_work (added s levels) (added_work s levels) b.records b.outline left ≡ enough rest
    → finished_work s (added s levels) (added_work s levels) b left ≡ hinted_work s.hinting b.program all rest
glyph_joined_work s levels b all left rest joins pays = rw (pays, joins) refl

-- the work of one record more
pub one_record_paid : (add : Record → Outline → Result Outline Fault) (work : Record → Option ℕ → Worked)
    (rs : List Record) (i : ℕ) (d : Record) (o next : Outline) (left rest : Option ℕ) → i < length rs
    → add (get_or rs i d) o ≡ Ok next → work (get_or rs i d) left ≡ enough rest
    → joined_work add work (drop (i + 1) rs) next rest ≡ joined_work add work (drop i rs) o left
one_record_paid add work rs i d o next left rest below gives pays =
    rw (add-one, drop-cons rs i d below, pays, gives) refl

-- the work of a refused record
pub one_record_refused : (add : Record → Outline → Result Outline Fault) (work : Record → Option ℕ → Worked)
    (rs : List Record) (i : ℕ) (d : Record) (o : Outline) (left new : Option ℕ) (refusal : OutlineFault) → i < length rs
    → IfSome (outline_fault refusal) (λ f. add (get_or rs i d) o ≡ Err f)
    → RefusalLeaves refusal new (work (get_or rs i d) left)
    → RefusalLeaves refusal new (joined_work add work (drop i rs) o left)
one_record_refused add work rs i d o left new (outline.Font f) below fails pays =
    rw (drop-cons rs i d below, pays, fails) refl
one_record_refused add work rs i d o left new outline.Memory below fails pays = tt
one_record_refused add work rs i d o left new (outline.Spent f) below fails pays =
    rw (drop-cons rs i d below, pays) refl

-- the work of a record with a level remaining
pub one_level_work : (s : Fitter) (levels : ℕ) (r : Record) (left : Option ℕ) → 0 < levels
    → added_work s levels r left ≡ outline_work s (levels - 1) r.glyph left
unfolding added_work
one_level_work s zero r left some = absurd (omega arith)
one_level_work s (suc levels) r left some =
    let fewer : suc levels - 1 ≡ levels = omega arith in
    rw fewer refl
