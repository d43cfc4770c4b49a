use Rattle.canvas_runs.proofs.ByTurns.TurnLaw.{run_of, rows_may, rows_are, is_empty, states_may, states_are, whole_turns, until_turns, next_answerable, held_range}
use Rattle.canvas_runs.proofs.turns.laws_of_turns.Goals as goal

pub returns-clause-runs : goal.returns-clause-runs
returns-clause-runs c = λ behaviour l n us xs t. run_of behaviour l n us xs t

pub returns-clause-rows_may : goal.returns-clause-rows_may
returns-clause-rows_may c = λ behaviour l n us xs t k. rows_may behaviour l n us xs t k

pub returns-clause-rows_are : goal.returns-clause-rows_are
returns-clause-rows_are c = λ behaviour l n us xs t some all k. rows_are behaviour l n us xs t some all k

pub returns-clause-emptied : goal.returns-clause-emptied
returns-clause-emptied c = λ behaviour l n us xs t some all. is_empty behaviour l n us xs t some all

pub returns-clause-states_may : goal.returns-clause-states_may
returns-clause-states_may c = λ behaviour l n us xs t. states_may behaviour l n us xs t

pub returns-clause-states_are : goal.returns-clause-states_are
returns-clause-states_are c = λ behaviour l n us xs t some all. states_are behaviour l n us xs t some all

pub returns-clause-whole : goal.returns-clause-whole
returns-clause-whole c = λ behaviour l plan n ts w r. whole_turns behaviour l plan n ts w r

pub returns-clause-until : goal.returns-clause-until
returns-clause-until c = λ behaviour l plan n ts most w r. until_turns behaviour l plan n ts most w r

pub returns-clause-answerable : goal.returns-clause-answerable
returns-clause-answerable c = λ behaviour ranged l n us xs t p w. next_answerable behaviour l n us xs t ranged p w

pub returns-clause-in_range : goal.returns-clause-in_range
returns-clause-in_range c = λ behaviour ranged l n us xs t k o e. held_range behaviour l n us xs t ranged k o e
