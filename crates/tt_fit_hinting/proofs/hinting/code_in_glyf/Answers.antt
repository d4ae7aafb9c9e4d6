use Rattle.std.proofs.Common.{refl, rules}
use Rattle.tt_fit_hinting.proofs.hinting.code_in_glyf.Goals as goal

pub invariant_of-result : goal.invariant_of-result
invariant_of-result c = record { ascii = search rules; fits = c.args.program.fits }

pub returns : goal.returns
returns c = refl
