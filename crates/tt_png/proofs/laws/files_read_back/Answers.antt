use Rattle.tt_png.proofs.ReadFiles.{files}
use Rattle.tt_png.proofs.laws.files_read_back.Goals as goal

pub returns : goal.returns
returns c = files
