-- OpenType, "fvar: Font Variations Table": the axes and the named instances of a face, for C (profile). A face whose table
-- fvar is not whole has none. Of the named instances the first 256 are told.
use Rattle.std.specs.Prelude.{◌≡◌, ◌≢◌, refl, ℕ, ◌+◌, ◌-◌, ℤ, pos, min, List, [], ◌∷◌, ◌++◌, codes, drop, length, map, replicate, take, Option, Some, None, Result, Ok}
use Rattle.std.specs.Int.{from_be_bytes, w32}
use Rattle.std.specs.List.{range_with_len}
use Rattle.tt_axes.specs.declared.axis.VariationAxis.{VariationAxis}
use Rattle.tt_axes.specs.Axes.{axis_of}
use Rattle.tt_axes.specs.Fvar.{axis_count}
use Rattle.tt_axes.specs.Instances.{named_instance, place_in}
use Rattle.tt_core.specs.declared.collection.Reading.{Reading}
use Rattle.tt_core.specs.Directory.{Directory}
use Rattle.tt_core.specs.Limits.{axis_limit}
use Rattle.tt_core.specs.Outcomes.{◌>>=◌}
use Rattle.tt_face.specs.Files.{IsFaceDefectBy}
use Rattle.tt_face.specs.Instance.{named_count}
use Rattle.tt_face.specs.Listed.{variations_of}
use Rattle.tt_face.specs.Names.{name_of}
use Rattle.tt_c_calls.specs.declared.answer.CAnswer.{CAnswer}
use Rattle.tt_c_instances.specs.declared.variation_lists.CAxisRange.{CAxisRange}
use Rattle.tt_c_instances.specs.declared.variation_lists.CInstance.{CInstance}
use Rattle.tt_c_calls.specs.Answers.{DefectStands, TellsRefusal, done_answer}
use Rattle.tt_c_calls.specs.Fonts.{face_wanted}
use Rattle.tt_c_calls.specs.Measures.{IsEntriesSmall}
use Rattle.tt_c_calls.specs.Refusals.{Refusal}

-- a room of 68 bytes with at most 67 bytes of a name at its front, and else zeros
abbrev pub told_name : List ℕ → List ℕ
told_name name = take (min (length name) 67) name ++ drop (min (length name) 67) (replicate 68 0)

-- an axis
abbrev pub axis_told : VariationAxis → List ℕ → CAxisRange
axis_told a name = record {
  tag = from_be_bytes w32 a.tag;
  least = a.least;
  default_value = a.default;
  greatest = a.greatest;
  name = told_name name;
}

-- axis i of a table fvar
abbrev pub axis_at : Directory → List ℕ → ℕ → CAxisRange
axis_at d fvar i = axis_told (axis_of fvar i) (name_of (axis_of fvar i).name d)

-- a room for the greatest number of axes, with the places of named instance k at its front, and else zeros
abbrev pub places_told : List ℕ → ℕ → List ℤ
places_told fvar k =
    map (place_in fvar k) (range_with_len 0 (axis_count fvar)) ++ drop (axis_count fvar) (replicate axis_limit (pos 0))

-- named instance k, by the number that a job gives for it
abbrev pub instance_told : List ℕ → ℕ → List ℕ → CInstance
instance_told fvar k name = record { instance = k + 1; place = places_told fvar k; name = told_name name }

abbrev pub instance_at : Directory → List ℕ → ℕ → CInstance
instance_at d fvar k = instance_told fvar k (name_of (named_instance fvar k).name d)

-- the axes of a directory, by its table fvar
abbrev pub axes_by : Directory → Option (List ℕ) → List CAxisRange
axes_by d None = []
axes_by d (Some fvar) = map (axis_at d fvar) (range_with_len 0 (axis_count fvar))

abbrev pub axes_in : Directory → List CAxisRange
axes_in d = axes_by d (variations_of d)

-- the named instances of a directory, by its table fvar
abbrev pub instances_by : Directory → Option (List ℕ) → List CInstance
instances_by d None = []
instances_by d (Some fvar) = map (instance_at d fvar) (range_with_len 0 (named_count fvar))

abbrev pub instances_in : Directory → List CInstance
instances_in d = instances_by d (variations_of d)

-- the axes and the named instances by a reading of a font file
unfoldable pub axes_wanted : Reading → List ℕ → Result (List CAxisRange) Refusal
axes_wanted r font = face_wanted r font >>= λ face. Ok (axes_in face.directory)

unfoldable pub instances_wanted : Reading → List ℕ → Result (List CInstance) Refusal
instances_wanted r font = face_wanted r font >>= λ face. Ok (instances_in face.directory)

-- some entries were written at the front of a room
abbrev pub AreEntriesTold : {X : Type 0} → List X → List X → List X → CAnswer → Type 0
AreEntriesTold told old new a = (new ≡ told ++ drop (length told) old) × (a ≡ done_answer 0 (length told))

-- entries that are defined were written at the front of a room
abbrev pub AreEntriesOf : {X : Type 0} → Result (List X) Refusal → List X → List X → CAnswer → Type 0
AreEntriesOf {X = X} wanted old new a = (told : List X) × (wanted ≡ Ok told) × AreEntriesTold told old new a

-- the entries that are defined are more than a room has, and the answer reports their number
abbrev pub AreEntriesMany : {X : Type 0} → Result (List X) Refusal → ℕ → CAnswer → Type 0
AreEntriesMany {X = X} wanted room a = (told : List X) × (wanted ≡ Ok told) × IsEntriesSmall (length told) room a

-- a call wrote the entries that are defined, or says why not
pub record TellsEntries {X : Type 0} (wanted : Result (List X) Refusal) (before room : List X) (a : CAnswer) : Type 0 where
  pub done : a.status ≡ 0 → AreEntriesOf wanted before room a
  pub refused : a.status ≢ 0 → a.status ≢ 7 → TellsRefusal wanted a
  pub small : a.status ≡ 7 → AreEntriesMany wanted (length before) a
  pub kept : a.status ≢ 0 → room ≡ before

-- a call wrote the axes of a face, or says why not
pub record TellsAxes (r : Reading) (font : List ℕ) (before room : List CAxisRange) (a : CAnswer) : Type 0 where
  pub entries : TellsEntries (axes_wanted r font) before room a
  pub stands : DefectStands (IsFaceDefectBy font r) a

-- a call wrote the named instances of a face, or says why not
pub record TellsInstances (r : Reading) (font : List ℕ) (before room : List CInstance) (a : CAnswer) : Type 0 where
  pub entries : TellsEntries (instances_wanted r font) before room a
  pub stands : DefectStands (IsFaceDefectBy font r) a

-- worked values
a_short_name : told_name (codes "Weight") ≡ codes "Weight" ++ replicate 62 0
a_short_name = refl

no_name : told_name [] ≡ replicate 68 0
no_name = refl

a_long_name : told_name (replicate 70 65) ≡ replicate 67 65 ++ 0 ∷ []
a_long_name = refl

its_tag : (axis_told (record {
  tag = codes "wght";
  least = pos 6553600;
  default = pos 26214400;
  greatest = pos 58982400;
  flags = 0;
  name = 256;
}) []).tag ≡ 0x77676874
its_tag = refl
