-- The reach of a normal line, computed without the line: the rest of a line is represented by its
-- number of elements, up to two, and by the greatest of their reaches. Every reach beyond the limit
-- is one more than the limit.
use Rattle.std.specs.Prelude.{ℕ, suc, ◌+◌, min, max}
use Rattle.canvas_values.specs.declared.reach.LineReach.{LineReach}
use Rattle.canvas_values.specs.declared.reach.LineReach.TheVariants.{Empty, One, More}
use Rattle.canvas_semantics.specs.Bounds.{most_reach}
use Rattle.canvas_semantics.specs.Tree.{Task, task, Tasks, no_tasks, and_task, Tree, one, chain, group, chord, Trees, no_trees, and_tree}

-- one more than the limit
abbrev pub past : ℕ
past = suc most_reach

abbrev pub capped : ℕ → ℕ
capped r = min r past

-- one level more
abbrev pub above : ℕ → ℕ
above r = capped (1 + r)

abbrev mutual
  pub sig_reach : ℕ → Task → ℕ
  sig_reach c (task k call links errbacks) =
      above (max c (max (sigs_reach links) (sigs_reach errbacks)))

  pub sigs_reach : Tasks → ℕ
  sigs_reach no_tasks = 0
  sigs_reach (and_task t ts) = max (sig_reach 0 t) (sigs_reach ts)

-- the reach of the whole line
abbrev pub reach_of_line : LineReach → ℕ
reach_of_line Empty = 0
reach_of_line (One r) = r
reach_of_line (More r) = above r

-- a chord: its members' greatest reach is a function of its body's reach
abbrev pub chord_reach : (ℕ → ℕ) → ℕ → LineReach
chord_reach members body = One (above (max body (members body)))

-- a group is a chord if something follows it
abbrev pub group_reach : (ℕ → ℕ) → LineReach → LineReach
group_reach members Empty = One (above (members 0))
group_reach members (One r) = chord_reach members r
group_reach members (More r) = chord_reach members (above r)

abbrev pub task_onto : Task → LineReach → ℕ → LineReach
task_onto t Empty c = One (sig_reach c t)
task_onto t (One r) c = More (max (sig_reach 0 t) r)
task_onto t (More r) c = More (max (sig_reach 0 t) r)

abbrev mutual
  -- a node followed by a line; the last task of all carries something of reach c
  pub onto_reach : Tree → LineReach → ℕ → LineReach
  onto_reach (one t) after c = task_onto t after c
  onto_reach (chain ts) after c = all_onto_reach ts after c
  onto_reach (group g ms) after c = group_reach (greatest ms) after
  onto_reach (chord g h b) after c = chord_reach (greatest h) (reach_of_line (onto_reach b after c))

  pub all_onto_reach : Trees → LineReach → ℕ → LineReach
  all_onto_reach no_trees after c = after
  all_onto_reach (and_tree t ts) after c = onto_reach t (all_onto_reach ts after c) c

  -- the greatest of members' reaches
  pub greatest : Trees → ℕ → ℕ
  greatest no_trees c = 0
  greatest (and_tree t ts) c = max (reach_of_line (onto_reach t Empty c)) (greatest ts c)
