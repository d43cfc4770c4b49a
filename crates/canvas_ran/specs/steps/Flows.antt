-- The flows of the code, as contracts see them.
use Rattle.std.specs.Prelude.{List, [], ◌∷◌, ℤ}
use Rattle.canvas_semantics.specs.Evaluation.{Flow, nothing, num, list, id, skip, raised, in_front}
use Rattle.canvas_ran.specs.declared.evaluation.flow.Flow as code
use Rattle.canvas_ran.specs.declared.evaluation.flow.Flow.TheVariants as flow

abbrev pub flow_seen : code.Flow → Flow
flow_seen flow.Nothing = nothing
flow_seen (flow.Number n) = num n
flow_seen (flow.Numbers ns) = list ns
flow_seen (flow.Ident k) = id k
flow_seen (flow.Skip f) = skip f
flow_seen (flow.Raised f) = raised f

-- numbers before what flows
abbrev pub in_front_of : List ℤ → Flow → Flow
in_front_of [] x = x
in_front_of (n ∷ ns) x = in_front n (in_front_of ns x)
