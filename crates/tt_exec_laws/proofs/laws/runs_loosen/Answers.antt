use Rattle.tt_exec_laws.proofs.Loosened.{runs_loosen}
use Rattle.tt_exec_laws.proofs.laws.runs_loosen.Goals as goal

pub returns : goal.returns
returns c = runs_loosen (record {
  stays = c.padding_is_enough.ensures.stays;
  managing = c.managing_is_loosened.ensures;
  managing_short = c.few_values_are_refused.ensures.managing;
  arithmetic_short = c.few_values_are_refused.ensures.arithmetic;
  logic_short = c.few_values_are_refused.ensures.logic;
  settings = c.answers_are_loosened.ensures.settings;
  values = c.answers_are_loosened.ensures.values;
  settings_short = c.few_values_are_refused-2.ensures.settings;
  values_short = c.few_values_are_refused-2.ensures.values;
  vectors_short = c.few_values_are_refused-2.ensures.vectors;
  queries_short = c.few_values_are_refused-2.ensures.queries;
  points = c.points_loosened.ensures;
  points_short = c.few_values_are_refused-3.ensures;
})
