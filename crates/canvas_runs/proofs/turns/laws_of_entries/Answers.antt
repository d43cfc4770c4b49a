use Rattle.canvas_runs.proofs.ByTurns.Agains.{its_turns, its_entries, few_again, agains_are, agains_few, unspent, again_turns, without_entries}
use Rattle.canvas_runs.proofs.ByTurns.Points.{comes_early}
use Rattle.canvas_runs.proofs.turns.laws_of_entries.Goals as goal

pub returns-clause-turns : goal.returns-clause-turns
returns-clause-turns c = λ behaviour l n es us xs rest t. (its_turns behaviour l n es us xs rest t, its_entries behaviour l n es us xs rest t)

pub returns-clause-few : goal.returns-clause-few
returns-clause-few c = λ behaviour l n es ts us xs rest some t b. few_again behaviour l n es us xs rest t ts some b

pub returns-clause-agains : goal.returns-clause-agains
returns-clause-agains c =
    λ behaviour l n es us xs rest t some all. (agains_are behaviour l n es us xs rest t some all, unspent behaviour l n es us xs rest t some all)

pub returns-clause-whole : goal.returns-clause-whole
returns-clause-whole c = λ behaviour l plan n ts es w r. again_turns behaviour l plan n ts es w r

pub returns-clause-at_most : goal.returns-clause-at_most
returns-clause-at_most c = λ behaviour l n es us xs rest t. agains_few behaviour l n es us xs rest t

pub returns-clause-none : goal.returns-clause-none
returns-clause-none c = λ behaviour l n us xs t z. without_entries behaviour l n us xs t z

pub returns-clause-own : goal.returns-clause-own
returns-clause-own c = λ behaviour l n us xs t p m e. comes_early behaviour l n us xs t p m e
