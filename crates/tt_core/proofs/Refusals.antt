-- Each refusal is the one with its number.
use Rattle.std.proofs.Common.{◌≡◌, Some, refl}
use Rattle.tt_core.specs.declared.fault.JobFault.{JobFault}
use Rattle.tt_core.specs.declared.fault.JobFault.TheVariants as job
use Rattle.tt_core.specs.declared.fault.Why.{Why}
use Rattle.tt_core.specs.declared.fault.Why.TheVariants as why
use Rattle.tt_core.specs.Faults.{why_number, why_of, job_number, job_fault_of}

pub why-of-number : (w : Why) → why_of (why_number w) ≡ Some w
unfolding why_of why_number
why-of-number why.BadVersion = refl
why-of-number why.DirShort = refl
why-of-number why.NoTable = refl
why-of-number why.TableRange = refl
why-of-number why.HeadMagic = refl
why-of-number why.EmRange = refl
why-of-number why.LocaFormat = refl
why-of-number why.MaxpVersion = refl
why-of-number why.MetricsShort = refl
why-of-number why.NoCmap = refl
why-of-number why.CmapShape = refl
why-of-number why.LocaShort = refl
why-of-number why.GlyphRange = refl
why-of-number why.GlyphShort = refl
why-of-number why.ContourOrder = refl
why-of-number why.FlagRun = refl
why-of-number why.ComponentDepth = refl
why-of-number why.ComponentCount = refl
why-of-number why.ComponentGlyph = refl
why-of-number why.MatchPoint = refl
why-of-number why.ScaledOffset = refl
why-of-number why.PointLimit = refl
why-of-number why.CoordRange = refl
why-of-number why.CollectionVersion = refl
why-of-number why.NoFace = refl
why-of-number why.VariationShape = refl
why-of-number why.NoAxis = refl
why-of-number why.NoInstance = refl
why-of-number why.GlyphVariation = refl
why-of-number why.StepLimit = refl
why-of-number why.StackFull = refl
why-of-number why.StackShort = refl
why-of-number why.CallDepth = refl
why-of-number why.BadOpcode = refl
why-of-number why.OffProfile = refl
why-of-number why.JumpRange = refl
why-of-number why.CodeShort = refl
why-of-number why.NoFunction = refl
why-of-number why.DefinitionPlace = refl
why-of-number why.IfOpen = refl
why-of-number why.NoEndf = refl
why-of-number why.PointRange = refl
why-of-number why.ContourRange = refl
why-of-number why.ZoneRange = refl
why-of-number why.CvtRange = refl
why-of-number why.StorageRange = refl
why-of-number why.DivZero = refl
why-of-number why.ValueRange = refl
why-of-number why.Perpendicular = refl
why-of-number why.BadArgument = refl

pub job_fault-of-number : (j : JobFault) → job_fault_of (job_number j) ≡ Some j
unfolding job_fault_of job_number
job_fault-of-number job.SizeRange = refl
job_fault-of-number job.TextLong = refl
job_fault-of-number job.EmptyPicture = refl
job_fault-of-number job.PictureLarge = refl
job_fault-of-number job.MarginRange = refl
job_fault-of-number job.WorkLarge = refl
