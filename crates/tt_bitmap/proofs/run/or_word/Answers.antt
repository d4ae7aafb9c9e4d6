use Rattle.tt_bitmap.proofs.Runs.{word_ored}
use Rattle.tt_bitmap.proofs.run.or_word.Goals as goal

pub returns-clause-pixels : goal.returns-clause-pixels
returns-clause-pixels c = λ i. word_ored c.args.words.now c.args.at c.args.word i c.requires
