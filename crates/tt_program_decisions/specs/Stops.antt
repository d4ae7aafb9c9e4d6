-- No part of the standard: the ends of the program without a request.
use Rattle.std.specs.Prelude.{◌≡◌, ℕ, true, List, [], ◌++◌, codes, Option, Some, None, is_some, option_map, if◌then◌else◌, ⊤}
use Rattle.std.specs.declared.io.ErrorKind.{ErrorKind}
use Rattle.std.specs.declared.io.ErrorKind.TheVariants.{BrokenPipe, OutOfMemory}
use Rattle.tt_bdf.specs.declared.range.CodeRange.{CodeRange}
use Rattle.tt_render_streams.specs.declared.fault.RunFault.TheVariants as run
use Rattle.tt_render_streams.specs.Messages.{line_of, status_of}
use Rattle.tt_render_texts.specs.Printing.{Errors, Prints}
use Rattle.tt_program_decisions.specs.declared.request.Request.{Request}
use Rattle.tt_program_decisions.specs.declared.request.Request.TheVariants as request
use Rattle.tt_program_decisions.specs.declared.stopping.Stop.{Stop}
use Rattle.tt_program_decisions.specs.declared.stopping.Stop.TheVariants as stop
use Rattle.tt_program_decisions.specs.BdfRequests.{bdf_view, ranges_asked}
use Rattle.tt_program_decisions.specs.Output.{is_numbered}
use Rattle.tt_render_streams.specs.declared.formed.PictureFormat.{PictureFormat}
use Rattle.tt_render_streams.specs.declared.formed.PictureFormat.TheVariants as format

-- a word that is no text is a fault of the command line
abbrev pub stop_at_words : ErrorKind → Stop
stop_at_words OutOfMemory = stop.Memory
stop_at_words kind = stop.NoText

-- a font that cannot be opened cannot be read
abbrev pub stop_at_open : ErrorKind → Stop
stop_at_open OutOfMemory = stop.Memory
stop_at_open kind = stop.Unopened

-- the help or the version is not printed
abbrev pub stop_at_print : ErrorKind → Stop
stop_at_print BrokenPipe = stop.Unread
stop_at_print kind = stop.NotShown

abbrev pub stop_status : Stop → ℕ
stop_status stop.Shown = 0
stop_status stop.NotShown = 4
stop_status stop.Unread = 4
stop_status stop.Unopened = status_of run.Read
stop_status stop.Memory = status_of run.Memory
stop_status other = 2

-- where the text is empty, clap has printed the help or the version, or nobody reads
abbrev pub stop_text : Stop → List ℕ
stop_text stop.Shown = []
stop_text stop.NotShown = codes "tt_render: cannot write the help\n"
stop_text stop.Unread = []
stop_text stop.NoText = codes "tt_render: the command line is not UTF-8\n"
stop_text stop.Incomplete = codes "tt_render: the command line is incomplete; --box is WxH, as 384x120\n"
stop_text stop.Range = codes "tt_render: --range is hexadecimal, as 20-7E,A0-FF\n"
stop_text stop.Axis = codes "tt_render: --axis is TAG=VALUE, as wght=700,wdth=87.5\n"
stop_text stop.Unnumbered = codes "tt_render: with --lines the FILE of -o has %d once, as label-%d.png\n"
stop_text stop.OneStream = codes "tt_render: --png with --lines goes with -o, as -o label-%d.png\n"
stop_text stop.Unopened = line_of run.Read ++ codes "\n"
stop_text stop.Memory = line_of run.Memory ++ codes "\n"

-- a stop is reported by its status and its text
abbrev pub TellsStop : Stop → ℕ → Errors → Type 0
TellsStop why status e = (status ≡ stop_status why) × Prints e (stop_text why)

-- why the words of a request stop it before its font is opened, by their ranges
abbrev pub IsStopFor : Option (List CodeRange) → Option Stop → Type 0
IsStopFor ranges None = is_some ranges ≡ true
IsStopFor ranges (Some stop.Range) = ranges ≡ None
IsStopFor ranges (Some stop.Memory) = ⊤
IsStopFor ranges (Some why) = ⊥

-- why the files of lines stop a request: their names are not numbered, or one stream takes several pictures in PNG
abbrev pub stop_of_name : List ℕ → Option Stop
stop_of_name name = if is_numbered name then None else Some stop.Unnumbered

abbrev pub stop_of_output : PictureFormat → Option (List ℕ) → Option Stop
stop_of_output form (Some name) = stop_of_name name
stop_of_output format.Png None = Some stop.OneStream
stop_of_output format.Pbm None = None

abbrev pub IsStopBefore : Request → Option Stop → Type 0
IsStopBefore (request.Labels font options output) why = why ≡ stop_of_output options.format (option_map (λ o. o.now) output)
IsStopBefore (request.Bdf asked) why = IsStopFor (ranges_asked (bdf_view asked).range) why
IsStopBefore r why = why ≡ None
