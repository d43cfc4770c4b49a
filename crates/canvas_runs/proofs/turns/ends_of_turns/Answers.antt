use Rattle.canvas_runs.proofs.ByTurns.TurnEnds.{few, stops_soon, steps_fit, rounds_go, fair_end}
use Rattle.canvas_runs.proofs.turns.ends_of_turns.Goals as goal

pub returns-clause-few : goal.returns-clause-few
returns-clause-few c = λ behaviour l n ts us xs some t b. few behaviour l n us xs t some ts b

pub returns-clause-stops : goal.returns-clause-stops
returns-clause-stops c = λ behaviour l plan n ts most some w r. stops_soon behaviour l plan n ts most some w r

pub returns-clause-fit : goal.returns-clause-fit
returns-clause-fit c = λ l n k tasks workers listed. steps_fit l n k tasks workers listed

pub returns-clause-rounds : goal.returns-clause-rounds
returns-clause-rounds c = λ behaviour l n before t. rounds_go behaviour l n before t

pub returns-clause-fair : goal.returns-clause-fair
returns-clause-fair c = λ behaviour l n uss xs fair t many. fair_end behaviour l n uss xs fair t many
