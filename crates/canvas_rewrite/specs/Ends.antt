-- The tasks whose outcomes are a canvas's result (Celery user guide, Canvas: for a chain its last
-- task's, for a group the list of its members', for a chord its body's).
use Rattle.std.specs.Prelude.{ℕ, Bool, true, false, List, [], ◌∷◌}
use Rattle.canvas_rewrite.specs.declared.ends.Ends.{Ends}
use Rattle.canvas_rewrite.specs.declared.ends.Ends.TheVariants.{One, Many}

-- whether the result is a list
abbrev pub gives_a_list : Ends → Bool
gives_a_list (One task) = false
gives_a_list (Many tasks) = true

abbrev pub end_tasks : Ends → List ℕ
end_tasks (One task) = task ∷ []
end_tasks (Many tasks) = tasks.now
