use Rattle.tt_exec_laws.proofs.WithAll.{runs_stay}
use Rattle.tt_exec_laws.proofs.laws.runs_stay.Goals as goal

pub returns : goal.returns
returns c = runs_stay (record {
  vectors = c.settings_stay.ensures.vectors;
  settings = c.settings_stay.ensures.settings;
  points = c.points_stay.ensures;
})
