use Rattle.canvas_celery.proofs.Exported.Reading.{read_back, nothing_else}
use Rattle.canvas_celery.proofs.commands.law.law_of_commands.Goals as goal

pub returns-clause-read_back : goal.returns-clause-read_back
returns-clause-read_back c = read_back

pub returns-clause-nothing_else : goal.returns-clause-nothing_else
returns-clause-nothing_else c = nothing_else
