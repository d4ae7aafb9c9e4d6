-- Apple TrueType Reference Manual, "Instruction set" (SCANCTRL, SCANTYPE): the rules for filling the dropouts of a
-- character's glyph. Only Best fills dropouts. A glyph whose hinting is off has scan type 1 (profile).
use Rattle.std.specs.Prelude.{◌≡◌, ℕ, Bool, ◌==◌, true, false, if◌then◌else◌, codes, Option, Some, None, refl}
use Rattle.tt_core.specs.Faults.{Fault, fault_at}
use Rattle.tt_core.specs.declared.fault.Why.TheVariants as why
use Rattle.tt_state.specs.GraphicsState.{default_scan}
use Rattle.tt_state.specs.declared.graphics_state.ScanControl.{ScanControl}
use Rattle.tt_fit.specs.declared.dropouts.DropoutRules.{DropoutRules}
use Rattle.tt_fit.specs.declared.dropouts.DropoutsBy.{DropoutsBy}
use Rattle.tt_fit.specs.declared.dropouts.DropoutsBy.TheVariants as by
use Rattle.tt_fit.specs.Fallback.{hinting_for}
use Rattle.tt_fit.specs.Fitting.{Fitter}
use Rattle.tt_fit_hinting.specs.Hinting.{Hinting, off, ready}
use Rattle.tt_fit_outline.specs.Outline.{Outline}

-- the rules of scan type 1, with dots
abbrev pub default_rules : DropoutRules
default_rules = record { stubs = false; smart = false; dots = true }

-- types 0, 1, 4 and 5 fill dropouts: 0 and 4 at stubs too, 4 and 5 with the nearer pixel; other types fill none
abbrev pub type_rules : Bool → ℕ → Option DropoutRules
type_rules dots n =
    if n == 0 then Some (record { stubs = true; smart = false; dots = dots }) else
    if n == 1 then Some (record { stubs = false; smart = false; dots = dots }) else
    if n == 4 then Some (record { stubs = true; smart = true; dots = dots }) else
    if n == 5 then Some (record { stubs = false; smart = true; dots = dots }) else None

abbrev pub scan_rules : Bool → ScanControl → Option DropoutRules
scan_rules dots scan = if scan.on then type_rules dots scan.scan_type else None

-- the scan control of the last program run for a glyph, or the one with which glyph programs begin
abbrev pub scan_left : Option ScanControl → ScanControl → ScanControl
scan_left (Some left) begun = left
scan_left None begun = begun

-- no program was run for a glyph
abbrev pub none_ran : Option ScanControl → Bool
none_ran (Some left) = false
none_ran None = true

-- dots are drawn in glyphs for which no program was run (profile)
abbrev pub rules_left : Option ScanControl → ScanControl → Option DropoutRules
rules_left scan begun = scan_rules (none_ran scan) (scan_left scan begun)

-- a glyph whose hinting is off has scan type 1, and its dots are drawn (profile)
abbrev pub program_rules : Hinting → Option ScanControl → Option DropoutRules
program_rules off scan = Some default_rules
program_rules (ready parts) scan = rules_left scan parts.state.scan

-- by the source of the rules, the fault that makes the glyph unfitted, and its last scan control
abbrev pub rules_by : DropoutsBy → Hinting → Option Fault → Option ScanControl → Option DropoutRules
rules_by by.Nobody hinting unfitted scan = None
rules_by by.Programs hinting unfitted scan = program_rules (hinting_for unfitted hinting) scan

abbrev pub dropouts_of : Fitter → Option Fault → Outline → Option DropoutRules
dropouts_of s unfitted o = rules_by s.dropouts s.hinting unfitted o.scan

-- worked values
none_by_default : rules_left None default_scan ≡ None
none_by_default = refl

type_zero : rules_left None (record { on = true; scan_type = 0 }) ≡ Some (record { stubs = true; smart = false; dots = true })
type_zero = refl

type_five : rules_left (Some (record { on = true; scan_type = 5 })) default_scan ≡ Some (record { stubs = false; smart = true; dots = false })
type_five = refl

no_type_two : rules_left None (record { on = true; scan_type = 2 }) ≡ None
no_type_two = refl

-- whatever the scan control
unfitted_by_type_one : rules_by by.Programs off (Some (fault_at (codes "glyf") 14 why.StepLimit))
    (Some (record { on = true; scan_type = 4 })) ≡ Some default_rules
unfitted_by_type_one = refl
