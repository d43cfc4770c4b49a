-- What the types of the code say, by the parts in them.
use Rattle.std.proofs.Common.{◌≡◌, ◌∙◌, ℕ, Bool, List, [], ◌∷◌, ◌++◌, map, length, Option, Some, None, Box, Global, refl, sym, ap, rules}
use Rattle.std.proofs.lemmas.List.{map-append}
use Rattle.canvas_task.specs.declared.arg.Arg.{Arg}
use Rattle.canvas_semantics.specs.Tree.{Call}
use Rattle.canvas_semantics.specs.PlacedLine.{PTask, p_task, p_group, p_chord, p_stop, p_step, p_group_end, p_chord_end}
use Rattle.canvas_rewrite.specs.FrozenView.{p_tasks_of, p_steps, p_lines_of, p_task_view, p_line_view, p_end_view}
use Rattle.canvas_rewrite.specs.declared.frozen.Carried as block
use Rattle.canvas_rewrite.specs.declared.frozen.Carried.{Carried, out-Carried}
use Rattle.canvas_rewrite.specs.declared.frozen.Place.{Place, out-Place}
use Rattle.canvas_rewrite.specs.declared.frozen.FrozenTask.{FrozenTask, out-FrozenTask, roll-FrozenTask}
use Rattle.canvas_rewrite.specs.declared.frozen.FrozenLine.{FrozenLine, out-FrozenLine}
use Rattle.canvas_rewrite.specs.declared.frozen.FrozenEnd.{FrozenEnd, out-FrozenEnd}
use Rattle.canvas_envelope.specs.MessageView.{place_view, place_seen}

-- ---- tasks and places

abbrev pub called : FrozenTask → Call
called t = record {
  name = (out-FrozenTask t).name;
  args = (out-FrozenTask t).args;
  kwargs = (out-FrozenTask t).kwargs;
  immutable =
      (out-FrozenTask t).immutable;
}

task_by : (t : FrozenTask) (o : Option Place) → (out-FrozenTask t).place ≡ o → p_task_view t
    ≡ p_task (out-FrozenTask t).no (called t) (p_tasks_of (map p_task_view (out-FrozenTask t).links)) (p_tasks_of (map p_task_view (out-FrozenTask t).errbacks))
    (place_seen o)
task_by t None e = search (rules, block.the_lemmas)
task_by t (Some p) e = search (rules, block.the_lemmas)

pub task_seen : (t : FrozenTask) → p_task_view t
    ≡ p_task (out-FrozenTask t).no (called t) (p_tasks_of (map p_task_view (out-FrozenTask t).links)) (p_tasks_of (map p_task_view (out-FrozenTask t).errbacks))
    (place_seen (out-FrozenTask t).place)
task_seen t = task_by t (out-FrozenTask t).place refl

pub task_made : (k : ℕ) (n : List ℕ) (a : List Arg) (w : List (List ℕ × Arg)) (i : Bool) (ls es : List FrozenTask) (p : Option Place)
    → p_task_view (roll-FrozenTask (record { no = k; name = n; args = a; kwargs = w; immutable = i; links = ls; errbacks = es; place = p }))
    ≡ p_task k (record { name = n; args = a; kwargs = w; immutable = i }) (p_tasks_of (map p_task_view ls)) (p_tasks_of (map p_task_view es)) (place_seen p)
task_made k n a w i ls es None = search (rules, block.the_lemmas)
task_made k n a w i ls es (Some p) = search (rules, block.the_lemmas)

pub group_place : (p : Place) → (out-Place p).chord ≡ None → place_view p ≡ p_group (out-Place p).group
group_place p e = search (rules, block.the_lemmas)

pub chord_place : (p : Place) (c : Carried) → (out-Place p).chord ≡ Some c
    → place_view p ≡ p_chord (out-Place p).group (out-Carried c).size (p_line_view (out-Carried c).body.value)
chord_place p c e = search (rules, block.the_lemmas)

-- ---- lines

pub line_none : (l : FrozenLine) → (out-FrozenLine l).tail ≡ None → p_line_view l ≡ p_steps (map p_task_view (out-FrozenLine l).tasks) p_stop
line_none l e = search (rules, block.the_lemmas)

pub line_some : (l : FrozenLine) (b : Box FrozenEnd Global) → (out-FrozenLine l).tail ≡ Some b
    → p_line_view l ≡ p_steps (map p_task_view (out-FrozenLine l).tasks) (p_end_view b.value)
line_some l b e = search (rules, block.the_lemmas)

pub end_none : (t : FrozenEnd) → (out-FrozenEnd t).body ≡ None
    → p_end_view t ≡ p_group_end (out-FrozenEnd t).group (p_lines_of (map p_line_view (out-FrozenEnd t).members))
end_none t e = search (rules, block.the_lemmas)

pub end_some : (t : FrozenEnd) (b : FrozenLine) → (out-FrozenEnd t).body ≡ Some b
    → p_end_view t ≡ p_chord_end (out-FrozenEnd t).group (p_lines_of (map p_line_view (out-FrozenEnd t).members)) (p_line_view b)
end_some t b e = search (rules, block.the_lemmas)

empty_by : (ts : List FrozenTask) → length ts ≡ 0 → p_steps (map p_task_view ts) p_stop ≡ p_stop
empty_by [] h = refl
empty_by (t ∷ ts) h = absurd cc

pub line_empty : (l : FrozenLine) → (out-FrozenLine l).tail ≡ None → (ts : List FrozenTask) → ts ≡ (out-FrozenLine l).tasks → length ts ≡ 0
    → p_line_view l ≡ p_stop
line_empty l e ts same h = line_none l e ∙ ap (λ xs. p_steps (map p_task_view xs) p_stop) (sym same) ∙ empty_by ts h

-- ---- the last task of a line

last_step : (ts : List PTask) (t : PTask) → p_steps (ts ++ t ∷ []) p_stop ≡ p_steps ts (p_step t p_stop)
last_step [] t = refl
last_step (u ∷ us) t = ap (p_step u) (last_step us t)

pub line_last : (l : FrozenLine) → (out-FrozenLine l).tail ≡ None → (ts : List FrozenTask) (t : FrozenTask) → (out-FrozenLine l).tasks ≡ ts ++ t ∷ []
    → p_line_view l ≡ p_steps (map p_task_view ts) (p_step (p_task_view t) p_stop)
line_last l e ts t h =
    line_none l e ∙ ap (λ xs. p_steps (map p_task_view xs) p_stop) h ∙ ap (λ xs. p_steps xs p_stop) (map-append p_task_view ts (t ∷ []))
    ∙ last_step (map p_task_view ts) (p_task_view t)
