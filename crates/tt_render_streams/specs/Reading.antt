-- The promises of reading a font to its end.
use Rattle.std.specs.Prelude.{◌≡◌, ℕ, ◌<◌, ◌≤◌, Bool, true, false, List, length, Option, Result, Ok, Err, IfSome}
use Rattle.std.specs.Io.KnownBytes.{Consumes, IsAtEnd, Keeps}
use Rattle.tt_core.specs.Limits.{font_limit}
use Rattle.tt_render_streams.specs.declared.fault.RunFault.{RunFault}
use Rattle.tt_render_streams.specs.declared.fault.RunFault.TheVariants as run
use Rattle.tt_render_streams.specs.Traffic.{Advances}

abbrev pub ReadFails : RunFault → Option (List ℕ) → Option (List ℕ) → Bool → Type 0
ReadFails run.Read before after failed = Advances before after × (failed ≡ true)
ReadFails run.FontLarge before after failed = IfSome before (λ file. font_limit < length file) × Advances before after
    × (failed ≡ false)
ReadFails run.Memory before after failed = Advances before after × (failed ≡ false)
ReadFails e before after failed = ⊥

-- all the reader's bytes were read, or reading failed with this fault
abbrev pub ReadsAll : {V : Type 0} → (V → List ℕ) → Result V RunFault → Option (List ℕ) → Option (List ℕ) → Bool
    → Type 0
ReadsAll view (Ok v) before after failed =
    Consumes before after (view v) × IsAtEnd after × (length (view v) ≤ font_limit) × (failed ≡ false)
ReadsAll view (Err e) before after failed = ReadFails e before after failed

-- the reader of a font beside other devices, before a call and after it: its remaining bytes, None where no contract
-- knows them, and whether it has failed
pub record FontReader : Type 0 where
  pub before : Option (List ℕ)
  pub after : Option (List ℕ)
  pub failed : Bool

-- the reader of a font by its own contract
abbrev pub font_reader_of : {R : Type 0} → (R → Option (List ℕ)) → (R → Bool) → R → R → FontReader
font_reader_of left has_failed before after =
    record { before = left before; after = left after; failed = has_failed after }

-- the reader was not used; it gave some bytes, perhaps none; it failed after some bytes; it gave these, and they were
-- all
abbrev pub FontIsUnread : FontReader → Type 0
FontIsUnread f = Keeps f.before f.after × (f.failed ≡ false)

abbrev pub FontIsBegun : FontReader → Type 0
FontIsBegun f = Advances f.before f.after × (f.failed ≡ false)

abbrev pub FontFails : FontReader → Type 0
FontFails f = Advances f.before f.after × (f.failed ≡ true)

abbrev pub FontIsRead : FontReader → List ℕ → Type 0
FontIsRead f file = Consumes f.before f.after file × IsAtEnd f.after × (f.failed ≡ false)
