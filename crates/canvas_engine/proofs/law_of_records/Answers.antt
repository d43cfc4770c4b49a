use Rattle.canvas_engine.proofs.OnThreads.RecordLaws.{few_entries, all_are_plain}
use Rattle.canvas_engine.proofs.law_of_records.Goals as goal

pub returns-clause-few : goal.returns-clause-few
returns-clause-few c = few_entries

pub returns-clause-plain : goal.returns-clause-plain
returns-clause-plain c = all_are_plain
