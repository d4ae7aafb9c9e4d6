-- No part of the standard: the rules by which a command line lays lines out (profile).
use Rattle.std.specs.Prelude.{◌≡◌, refl, ℕ, Bool, true, false, List, codes, Option, Some, None, if◌then◌else◌}
use Rattle.std.specs.Str.{bytes_eq}
use Rattle.tt_face.specs.declared.rules.LineRules.{LineRules}
use Rattle.tt_metrics.specs.declared.heights.Heights.{Heights}
use Rattle.tt_metrics.specs.declared.heights.Heights.TheVariants as heights

-- the roundings of heights by their names
abbrev pub heights_named : List ℕ → Option Heights
heights_named name =
    if bytes_eq name (codes "exact") then Some heights.Exact
    else (if bytes_eq name (codes "rounded") then Some heights.Rounded else None)

abbrev pub rules_named : Option Heights → Bool → Option LineRules
rules_named (Some h) kerned = Some (record { heights = h; kerned = kerned })
rules_named None kerned = None

-- `--height HEIGHT`, which may be absent, and whether there is `--kern`
abbrev pub rules_asked : Option (List ℕ) → Bool → Option LineRules
rules_asked (Some height) kerned = rules_named (heights_named height) kerned
rules_asked None kerned = None

-- the rules by the arguments of a command line: a name's text, and whether its flag is set
abbrev pub AsksRules : (List ℕ → Option (List ℕ)) → (List ℕ → Bool → Type 0) → Option LineRules → Type 0
AsksRules text IsFlag answer =
    (kerned : Bool) × IsFlag (codes "kern") kerned × (answer ≡ rules_asked (text (codes "height")) kerned)

-- worked values
as_before : rules_asked (Some (codes "exact")) false ≡ Some (record { heights = heights.Exact; kerned = false })
as_before = refl

both : rules_asked (Some (codes "rounded")) true ≡ Some (record { heights = heights.Rounded; kerned = true })
both = refl

neither_of_the_two : rules_asked (Some (codes "round")) true ≡ None
neither_of_the_two = refl
