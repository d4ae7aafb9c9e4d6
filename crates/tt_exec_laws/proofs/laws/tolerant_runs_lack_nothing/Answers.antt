use Rattle.tt_exec_laws.proofs.Lacking.{lack_nothing}
use Rattle.tt_exec_laws.proofs.laws.tolerant_runs_lack_nothing.Goals as goal

pub returns : goal.returns
returns c = lack_nothing (record {
  enough = c.padding_is_enough.ensures.enough;
  managing = c.answers_are_total.ensures.managing;
  arithmetic = c.answers_are_total.ensures.arithmetic;
  logic = c.answers_are_total.ensures.logic;
  settings = c.answers_are_total-2.ensures.settings;
  values = c.answers_are_total-2.ensures.values;
  vectors = c.answers_are_total-2.ensures.vectors;
  queries = c.answers_are_total-2.ensures.queries;
  points = c.points_total.ensures;
})
