use Rattle.tt_fit_laws.proofs.FallingBack.{fallback-fits, fallback-scales, fallback-refuses, fallback-unfits-all, others-never-fall-back, full-is-by-programs, none-is-without-programs}
use Rattle.tt_fit_laws.proofs.laws.glyphs_fall_back.Goals as goal

pub returns-clause-fitted : goal.returns-clause-fitted
returns-clause-fitted c = fallback-fits

pub returns-clause-scaled : goal.returns-clause-scaled
returns-clause-scaled c = fallback-scales

pub returns-clause-refused : goal.returns-clause-refused
returns-clause-refused c = fallback-refuses

pub returns-clause-unfitted : goal.returns-clause-unfitted
returns-clause-unfitted c = fallback-unfits-all

pub returns-clause-never : goal.returns-clause-never
returns-clause-never c = others-never-fall-back

pub returns-clause-full : goal.returns-clause-full
returns-clause-full c = full-is-by-programs

pub returns-clause-none : goal.returns-clause-none
returns-clause-none c = none-is-without-programs
