-- OpenType, "fvar: Font Variations Table" and "OpenType Font Variations Overview": the instance that a job asks for, and a
-- face at it. Where all coordinates are 0 the instance is the font's default, and no other table is looked at.
use Rattle.std.specs.Prelude.{◌≡◌, ℕ, min, Bool, true, false, nat_lt, bytes_eq, if◌then◌else◌, List, length, codes, Option, Some, None, unwrap_or, Result, Ok, IsOkAnd, ◌⊎◌, ℤ}
use Rattle.tt_core.specs.Directory.{Directory, IsDefectIn, table_of}
use Rattle.tt_core.specs.Faults.{Fault}
use Rattle.tt_core.specs.Outcomes.{◌>>=◌}
use Rattle.tt_core.specs.Search.{first_below}
use Rattle.tt_axes.specs.Coordinates.{are_zero}
use Rattle.tt_axes.specs.declared.values.AxisValue.{AxisValue}
use Rattle.tt_axes.specs.Fvar.{fvar_of, instance_count, IsFvarDefect}
use Rattle.tt_axes.specs.InstanceCoordinates.{coordinates_of, IsInstanceDefect}
use Rattle.tt_axes.specs.Instances.{named_instance}
use Rattle.tt_deltas.specs.Gvar.{Gvar, gvar_of, gvar_tag, IsShapeDefect}
use Rattle.tt_metrics.specs.Metrics.{varied_metrics}
use Rattle.tt_variation_store.specs.Hvar.{hvar_of}
use Rattle.tt_variation_store.specs.Mvar.{mvar_of}
use Rattle.tt_face.specs.declared.rules.Opening.{Opening}
use Rattle.tt_face.specs.Faces.{Face, FaceInstance}
use Rattle.tt_face.specs.Files.{face_by, IsFaceDefectBy}
use Rattle.tt_face.specs.Names.{name_tag, string_of, told_text}
use Rattle.tt_face.specs.Rules.{ruled, table_bytes}

-- which named instance is asked for: by its number, or by its name
pub data Named : Type 0 where
  by_number : ℕ → Named
  by_name : List ℕ → Named

-- a named instance, or else the default, and values of axes in order
pub record Asked : Type 0 where
  pub named : Option Named
  pub axes : List AxisValue

-- the instances that a list of faces has: the first 256 (profile)
abbrev pub named_count : List ℕ → ℕ
named_count fvar = min 256 (instance_count fvar)

-- whether the name of instance k, as a list of faces has it, is this one
abbrev pub has_name : Directory → List ℕ → List ℕ → ℕ → Bool
has_name d fvar name k = bytes_eq (told_text (string_of (named_instance fvar k).name (table_of d name_tag))) name

-- the empty text is no instance's name, though a list of faces has it where an instance has none
abbrev pub first_with_name : Directory → List ℕ → List ℕ → Option ℕ
first_with_name d fvar name =
    if nat_lt (length name) 1 then None else first_below (named_count fvar) (has_name d fvar name)

-- the number of a named instance. Where none has the name it is the count of instances, which is no instance's number
abbrev pub number_of : Directory → List ℕ → Named → ℕ
number_of d fvar (by_number k) = k
number_of d fvar (by_name name) = unwrap_or (first_with_name d fvar name) (instance_count fvar)

abbrev pub asked_number : Directory → Option Named → Result (Option ℕ) Fault
asked_number d None = Ok None
asked_number d (Some named) = fvar_of d >>= λ fvar. Ok (Some (number_of d fvar named))

-- the coordinates of an asked instance
unfoldable pub asked_coordinates : Directory → Asked → Result (List ℤ) Fault
asked_coordinates d a = asked_number d a.named >>= λ named. coordinates_of d named a.axes

-- the tags of the tables that a face reads at an instance
abbrev pub hvar_tag : List ℕ
hvar_tag = codes "HVAR"

abbrev pub mvar_tag : List ℕ
mvar_tag = codes "MVAR"

abbrev pub cvar_tag : List ℕ
cvar_tag = codes "cvar"

-- the instance of a face by its coordinates and gvar; cvar refuses nothing
abbrev pub instance_by : Directory → List ℤ → Gvar → FaceInstance
instance_by d c gvar = record { coordinates = c; gvar = gvar; cvar = table_bytes d cvar_tag }

-- the face of an instance that is not the default; HVAR and MVAR refuse nothing
abbrev pub face_by_gvar : Face → List ℤ → Gvar → Face
face_by_gvar face c gvar = record face {
  metrics = varied_metrics (mvar_of (table_bytes face.directory mvar_tag) (length c))
      (hvar_of (table_bytes face.directory hvar_tag) (length c)) c face.metrics;
  instance = Some (instance_by face.directory c gvar);
}

-- the face at coordinates
unfoldable pub face_at_coordinates : Face → List ℤ → Result Face Fault
face_at_coordinates face c =
    if are_zero c then Ok face else gvar_of face.directory (length c) >>= λ gvar. Ok (face_by_gvar face c gvar)

-- the face at an instance, if one is asked for
abbrev pub face_at_asked : Face → Option Asked → Result Face Fault
face_at_asked face None = Ok face
face_at_asked face (Some a) = asked_coordinates face.directory a >>= face_at_coordinates face

-- the face of a file at an instance, as it is opened, or the file's first fault: the face first, then the instance
unfoldable pub face_at_instance : List ℕ → Opening → Option Asked → Result Face Fault
face_at_instance file o asked = face_by file o.reading >>= λ face. face_at_asked face asked >>= λ varied. Ok (ruled o.rules varied)

-- fvar has a defect, or a job asks in vain
abbrev pub IsAskedDefect : Directory → Asked → Fault → Type 0
IsAskedDefect d a fault =
    IsFvarDefect d fault ⊎ IsOkAnd (asked_number d a.named) (λ named. IsInstanceDefect d named a.axes fault)

-- at an instance that is not the default, gvar's header has a defect
abbrev pub IsVariationDefect : Directory → List ℤ → Fault → Type 0
IsVariationDefect d c fault = (are_zero c ≡ false) × IsDefectIn d gvar_tag (IsShapeDefect (length c)) fault

-- a face lacks an instance
abbrev pub LacksInstance : Face → Option Asked → Fault → Type 0
LacksInstance face None fault = ⊥
LacksInstance face (Some a) fault =
    IsAskedDefect face.directory a fault
    ⊎ IsOkAnd (asked_coordinates face.directory a) (λ c. IsVariationDefect face.directory c fault)

-- a file has a defect for a reading, or its face lacks the instance
abbrev pub IsDefectAtInstance : List ℕ → Opening → Option Asked → Fault → Type 0
IsDefectAtInstance file o asked fault =
    IsFaceDefectBy file o.reading fault ⊎ IsOkAnd (face_by file o.reading) (λ face. LacksInstance face asked fault)

-- where all coordinates are 0, the face is that of the font's default
abbrev pub ZeroKeepsFaces : Type 0
ZeroKeepsFaces = (face : Face) (c : List ℤ) → are_zero c ≡ true → face_at_coordinates face c ≡ Ok face
