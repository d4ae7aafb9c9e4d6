-- The refusals, with their numbers and names. Apple TrueType Reference Manual and OpenType say what a font must fulfil.
-- The numbers and the names are this project's own (profile).
use Rattle.std.specs.Prelude.{ℕ, ◌==◌, List, Bool, nat_lt, if◌then◌else◌, codes, Option, Some, None}
use Rattle.std.specs.List.{list_all}
use Rattle.tt_core.specs.declared.fault.JobFault.{JobFault}
use Rattle.tt_core.specs.declared.fault.JobFault.TheVariants as job
use Rattle.tt_core.specs.declared.fault.Why.{Why}
use Rattle.tt_core.specs.declared.fault.Why.TheVariants as why

-- a defect of a font: the table (`file` for the directory), the offset in the table, and the kind of defect
pub record Fault : Type 0 where
  pub table : List ℕ
  pub offset : ℕ
  pub why : Why

-- whether every byte of a tag is ASCII
abbrev pub is_ascii : List ℕ → Bool
is_ascii tag = list_all (λ b. nat_lt b 128) tag

-- a fault of a table at an offset
abbrev pub fault_at : List ℕ → ℕ → Why → Fault
fault_at table offset why = record { table = table; offset = offset; why = why }

-- a fault at an offset of the whole file
abbrev pub file_fault : ℕ → Why → Fault
file_fault offset why = fault_at (codes "file") offset why

-- a refusal in messages: its number and its name
pub record NumberedName : Type 0 where
  pub number : ℕ
  pub name : List ℕ

abbrev pub numbered : ℕ → List ℕ → NumberedName
numbered number name = record { number = number; name = name }

-- the refusals of a font, status 1
abbrev pub why_in_messages : Why → NumberedName
why_in_messages why.BadVersion = numbered 1 (codes "BadVersion")
why_in_messages why.DirShort = numbered 2 (codes "DirShort")
why_in_messages why.NoTable = numbered 3 (codes "NoTable")
why_in_messages why.TableRange = numbered 4 (codes "TableRange")
why_in_messages why.HeadMagic = numbered 5 (codes "HeadMagic")
why_in_messages why.EmRange = numbered 6 (codes "EmRange")
why_in_messages why.LocaFormat = numbered 7 (codes "LocaFormat")
why_in_messages why.MaxpVersion = numbered 8 (codes "MaxpVersion")
why_in_messages why.MetricsShort = numbered 9 (codes "MetricsShort")
why_in_messages why.NoCmap = numbered 10 (codes "NoCmap")
why_in_messages why.CmapShape = numbered 11 (codes "CmapShape")
why_in_messages why.LocaShort = numbered 12 (codes "LocaShort")
why_in_messages why.GlyphRange = numbered 13 (codes "GlyphRange")
why_in_messages why.GlyphShort = numbered 14 (codes "GlyphShort")
why_in_messages why.ContourOrder = numbered 15 (codes "ContourOrder")
why_in_messages why.FlagRun = numbered 16 (codes "FlagRun")
why_in_messages why.ComponentDepth = numbered 17 (codes "ComponentDepth")
why_in_messages why.ComponentCount = numbered 18 (codes "ComponentCount")
why_in_messages why.ComponentGlyph = numbered 19 (codes "ComponentGlyph")
why_in_messages why.MatchPoint = numbered 20 (codes "MatchPoint")
why_in_messages why.ScaledOffset = numbered 21 (codes "ScaledOffset")
why_in_messages why.PointLimit = numbered 22 (codes "PointLimit")
why_in_messages why.CoordRange = numbered 23 (codes "CoordRange")
why_in_messages why.CollectionVersion = numbered 24 (codes "CollectionVersion")
why_in_messages why.NoFace = numbered 25 (codes "NoFace")
why_in_messages why.VariationShape = numbered 26 (codes "VariationShape")
why_in_messages why.NoAxis = numbered 27 (codes "NoAxis")
why_in_messages why.NoInstance = numbered 28 (codes "NoInstance")
why_in_messages why.GlyphVariation = numbered 29 (codes "GlyphVariation")
why_in_messages why.StepLimit = numbered 30 (codes "StepLimit")
why_in_messages why.StackFull = numbered 31 (codes "StackFull")
why_in_messages why.StackShort = numbered 32 (codes "StackShort")
why_in_messages why.CallDepth = numbered 33 (codes "CallDepth")
why_in_messages why.BadOpcode = numbered 34 (codes "BadOpcode")
why_in_messages why.OffProfile = numbered 35 (codes "OffProfile")
why_in_messages why.JumpRange = numbered 36 (codes "JumpRange")
why_in_messages why.CodeShort = numbered 37 (codes "CodeShort")
why_in_messages why.NoFunction = numbered 38 (codes "NoFunction")
why_in_messages why.DefinitionPlace = numbered 39 (codes "DefinitionPlace")
why_in_messages why.IfOpen = numbered 40 (codes "IfOpen")
why_in_messages why.NoEndf = numbered 41 (codes "NoEndf")
why_in_messages why.PointRange = numbered 42 (codes "PointRange")
why_in_messages why.ContourRange = numbered 43 (codes "ContourRange")
why_in_messages why.ZoneRange = numbered 44 (codes "ZoneRange")
why_in_messages why.CvtRange = numbered 45 (codes "CvtRange")
why_in_messages why.StorageRange = numbered 46 (codes "StorageRange")
why_in_messages why.DivZero = numbered 47 (codes "DivZero")
why_in_messages why.ValueRange = numbered 48 (codes "ValueRange")
why_in_messages why.Perpendicular = numbered 49 (codes "Perpendicular")
why_in_messages why.BadArgument = numbered 50 (codes "BadArgument")

-- the refusals of a job, status 2. The C library alone has two more: 66 UnknownFit and 67 LineEnds
abbrev pub job_in_messages : JobFault → NumberedName
job_in_messages job.SizeRange = numbered 60 (codes "SizeRange")
job_in_messages job.TextLong = numbered 61 (codes "TextLong")
job_in_messages job.EmptyPicture = numbered 62 (codes "EmptyPicture")
job_in_messages job.PictureLarge = numbered 63 (codes "PictureLarge")
job_in_messages job.MarginRange = numbered 64 (codes "MarginRange")
job_in_messages job.WorkLarge = numbered 65 (codes "WorkLarge")

unfoldable pub why_number : Why → ℕ
why_number w = (why_in_messages w).number

unfoldable pub why_name : Why → List ℕ
why_name w = (why_in_messages w).name

unfoldable pub job_number : JobFault → ℕ
job_number j = (job_in_messages j).number

unfoldable pub job_name : JobFault → List ℕ
job_name j = (job_in_messages j).name

-- the refusal with a number
unfoldable pub why_of : ℕ → Option Why
why_of n =
    if n == 1 then Some why.BadVersion
    else if n == 2 then Some why.DirShort
    else if n == 3 then Some why.NoTable
    else if n == 4 then Some why.TableRange
    else if n == 5 then Some why.HeadMagic
    else if n == 6 then Some why.EmRange
    else if n == 7 then Some why.LocaFormat
    else if n == 8 then Some why.MaxpVersion
    else if n == 9 then Some why.MetricsShort
    else if n == 10 then Some why.NoCmap
    else if n == 11 then Some why.CmapShape
    else if n == 12 then Some why.LocaShort
    else if n == 13 then Some why.GlyphRange
    else if n == 14 then Some why.GlyphShort
    else if n == 15 then Some why.ContourOrder
    else if n == 16 then Some why.FlagRun
    else if n == 17 then Some why.ComponentDepth
    else if n == 18 then Some why.ComponentCount
    else if n == 19 then Some why.ComponentGlyph
    else if n == 20 then Some why.MatchPoint
    else if n == 21 then Some why.ScaledOffset
    else if n == 22 then Some why.PointLimit
    else if n == 23 then Some why.CoordRange
    else if n == 24 then Some why.CollectionVersion
    else if n == 25 then Some why.NoFace
    else if n == 26 then Some why.VariationShape
    else if n == 27 then Some why.NoAxis
    else if n == 28 then Some why.NoInstance
    else if n == 29 then Some why.GlyphVariation
    else if n == 30 then Some why.StepLimit
    else if n == 31 then Some why.StackFull
    else if n == 32 then Some why.StackShort
    else if n == 33 then Some why.CallDepth
    else if n == 34 then Some why.BadOpcode
    else if n == 35 then Some why.OffProfile
    else if n == 36 then Some why.JumpRange
    else if n == 37 then Some why.CodeShort
    else if n == 38 then Some why.NoFunction
    else if n == 39 then Some why.DefinitionPlace
    else if n == 40 then Some why.IfOpen
    else if n == 41 then Some why.NoEndf
    else if n == 42 then Some why.PointRange
    else if n == 43 then Some why.ContourRange
    else if n == 44 then Some why.ZoneRange
    else if n == 45 then Some why.CvtRange
    else if n == 46 then Some why.StorageRange
    else if n == 47 then Some why.DivZero
    else if n == 48 then Some why.ValueRange
    else if n == 49 then Some why.Perpendicular
    else if n == 50 then Some why.BadArgument
    else None

unfoldable pub job_fault_of : ℕ → Option JobFault
job_fault_of n =
    if n == 60 then Some job.SizeRange
    else if n == 61 then Some job.TextLong
    else if n == 62 then Some job.EmptyPicture
    else if n == 63 then Some job.PictureLarge
    else if n == 64 then Some job.MarginRange
    else if n == 65 then Some job.WorkLarge
    else None
