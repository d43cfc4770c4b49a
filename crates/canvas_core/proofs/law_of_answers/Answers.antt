use Rattle.canvas_core.proofs.Cores.CorePasts.{none_lead, one_more_leads, handed_leads, hands_out}
use Rattle.canvas_core.proofs.law_of_answers.Goals as goal

pub returns-clause-none : goal.returns-clause-none
returns-clause-none c = none_lead

pub returns-clause-one_more : goal.returns-clause-one_more
returns-clause-one_more c = one_more_leads

pub returns-clause-handed : goal.returns-clause-handed
returns-clause-handed c = handed_leads

pub returns-clause-hands_out : goal.returns-clause-hands_out
returns-clause-hands_out c = hands_out
