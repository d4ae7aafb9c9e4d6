use Rattle.tt_label.proofs.EmptyTexts.{empty_texts_are_columns}
use Rattle.tt_label.proofs.NeverEmpty.{labels_are_never_empty}
use Rattle.tt_label.proofs.laws.labels_are_never_empty.Goals as goal

pub returns-clause-never : goal.returns-clause-never
returns-clause-never c = labels_are_never_empty

pub returns-clause-column : goal.returns-clause-column
returns-clause-column c = empty_texts_are_columns
