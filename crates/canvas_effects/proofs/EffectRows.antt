-- Worked rows: what ends of tasks and completed headers do, and the states that evaluation with events gives.
use Rattle.std.proofs.Common.{◌≡◌, ℕ, List, [], ◌∷◌, map, false, None, Some, refl, pos}
use Rattle.std.specs.Prelude.{codes}
use Rattle.uuid.proofs.OnLiterals.{uuid_on_literals}
use Rattle.std.specs.Fmt.{digits}
use Rattle.canvas_task.specs.Builtin.{builtin_tasks}
use Rattle.canvas_task.specs.declared.arg.Arg.{Arg}
use Rattle.canvas_task.specs.declared.arg.Arg.TheVariants as arg
use Rattle.canvas_task.specs.declared.outcome.Kind.TheVariants.{ZeroDivision}
use Rattle.canvas_task.specs.declared.outcome.Why.{Why}
use Rattle.canvas_task.specs.declared.outcome.Why.TheVariants as why
use Rattle.canvas_task.specs.declared.outcome.Fault.TheVariants as fault
use Rattle.canvas_task.specs.declared.outcome.Outcome.{Outcome}
use Rattle.canvas_task.specs.declared.outcome.Outcome.TheVariants.{Success, Failure}
use Rattle.canvas_task.specs.Identifiers.{task_text}
use Rattle.canvas_semantics.specs.Tree.{Call, Task, task, no_tasks, and_task}
use Rattle.canvas_semantics.specs.Line.{Line, stop, step, group_end, chord_end, Lines, no_lines, and_line}
use Rattle.canvas_rewrite.specs.FrozenView.{PCarried}
use Rattle.canvas_semantics.specs.PlacedLine.{PTask, p_task, PTasks, no_p_tasks, and_p_task, p_nowhere, p_chord, p_stop, bare, bare_task, bare_tasks}
use Rattle.canvas_envelope.specs.Content.{Content, number_of}
use Rattle.canvas_effects.specs.Effects.{after, body_after, first_messages}
use Rattle.canvas_effects.specs.Events.{EventJobs, evaluated}
use Rattle.canvas_effects.specs.Job as job
use Rattle.canvas_effects.specs.Job.{store, publish}

abbrev call : List ℕ → List Arg → Call
call name args = record { name = name; args = args; kwargs = []; immutable = false }

abbrev int : ℕ → Arg
int n = arg.Num (pos n)

abbrev plain : ℕ → List ℕ → List Arg → Task
plain k name args = task k (call name args) no_tasks no_tasks

-- with an error callback
abbrev logged : ℕ → List ℕ → List Arg → ℕ → Task
logged k name args j = task k (call name args) no_tasks (and_task (plain j (codes "tasks.log_error") []) no_tasks)

abbrev one : Task → Line
one t = step t stop

abbrev lines : List Line → Lines
lines [] = no_lines
lines (l ∷ ls) = and_line l (lines ls)

abbrev add : ℕ → ℕ → ℕ → Line
add k x y = one (plain k (codes "tasks.add") (int x ∷ int y ∷ []))

abbrev add_to : ℕ → ℕ → Line
add_to k x = one (plain k (codes "tasks.add") (int x ∷ []))

abbrev div : ℕ → ℕ → ℕ → Line
div k x y = one (plain k (codes "tasks.div") (int x ∷ int y ∷ []))

abbrev xsum : ℕ → Line
xsum k = one (plain k (codes "tasks.xsum") [])

abbrev ok : ℕ → Outcome
ok n = Success (pos n)

abbrev zd : Outcome
zd = Failure (fault.Plain ZeroDivision)

abbrev raised_by : ℕ → Why → Outcome
raised_by k w = Failure (fault.Chord k w)

-- the states of the tasks that are run or stored, in file order; the others are pending
abbrev states : EventJobs → List (ℕ × Outcome)
states [] = []
states ((v, store t o) ∷ is) = (t, o) ∷ states is
states ((v, publish m) ∷ is) = states is
states ((v, job.part g t c) ∷ is) = states is

-- ---- a chain of two

abbrev two : Line
two = step (plain 1 (codes "tasks.add") (int 4 ∷ int 4 ∷ [])) (one (plain 2 (codes "tasks.mul") (int 8 ∷ [])))

two_states : states (evaluated builtin_tasks two) ≡ (1, ok 8) ∷ (2, ok 64) ∷ []
two_states = refl

-- ---- a header with a failed member; its body has an error callback

abbrev body_task : Task
body_task = logged 4 (codes "tasks.xsum") [] 5

abbrev seven : Line
seven = chord_end 1 (lines (add 1 4 4 ∷ div 2 1 0 ∷ add 3 8 8 ∷ [])) (one body_task)

seven_states : states (evaluated builtin_tasks seven) ≡ (1, ok 8) ∷ (2, zd) ∷ (3, ok 16) ∷ (4, raised_by 2 (why.Plain ZeroDivision)) ∷ (5, ok 4) ∷ []
unfolding uuid_on_literals digits
seven_states = refl

abbrev carried : PCarried
carried = record { size = 3; body = bare (one body_task) }

abbrev member : ℕ → List ℕ → List Arg → Content
member k name args = record { parent = None; own = p_task k (call name args) no_p_tasks no_p_tasks (p_chord 1 3 carried.body); rest = p_stop }

seven_starts : first_messages seven
    ≡ member 1 (codes "tasks.add") (int 4 ∷ int 4 ∷ []) ∷ member 2 (codes "tasks.div") (int 1 ∷ int 0 ∷ []) ∷ member 3 (codes "tasks.add") (int 8 ∷ int 8 ∷ []) ∷ []
seven_starts = refl

member_ends : after (member 2 (codes "tasks.div") (int 1 ∷ int 0 ∷ [])) zd ≡ record { stores = []; messages = []; part = Some (record { chord = 1; task = 2; carried = carried }) }
member_ends = refl

abbrev its_log : Content
its_log = record { parent = Some 4; own = p_task 5 (call (codes "tasks.log_error") (arg.Text (task_text 4) ∷ [])) no_p_tasks no_p_tasks p_nowhere; rest = p_stop }

body_fails : body_after carried ((1, ok 8) ∷ (2, zd) ∷ (3, ok 16) ∷ [])
    ≡ record { stores = (4, raised_by 2 (why.Plain ZeroDivision)) ∷ []; messages = its_log ∷ []; part = None }
body_fails = refl

abbrev its_body : Content
its_body =
    record {
      parent = None;
      own = p_task 4 (call (codes "tasks.xsum") (arg.List (pos 8 ∷ pos 1 ∷ pos 16 ∷ []) ∷ [])) no_p_tasks (bare_tasks (and_task (plain 5 (codes "tasks.log_error") []) no_tasks)) p_nowhere;
      rest = p_stop;
    }

body_starts : body_after carried ((1, ok 8) ∷ (2, ok 1) ∷ (3, ok 16) ∷ []) ≡ record { stores = []; messages = its_body ∷ []; part = None }
body_starts = refl

-- ---- a failure skips a header and its body

abbrev behind_nine : Line
behind_nine = chord_end 1 (lines (add_to 2 1 ∷ add_to 3 2 ∷ [])) (xsum 4)

abbrev nine : Line
nine = step (plain 1 (codes "tasks.div") (int 1 ∷ int 0 ∷ [])) behind_nine

nine_states : states (evaluated builtin_tasks nine) ≡ (1, zd) ∷ (2, zd) ∷ (3, zd) ∷ (4, zd) ∷ []
nine_states = refl

chain_ends : map (λ m. after m zd) (first_messages nine) ≡ record { stores = (2, zd) ∷ (3, zd) ∷ (4, zd) ∷ []; messages = []; part = None } ∷ []
chain_ends = refl

-- ---- a chord in a header

ten_states : states (evaluated builtin_tasks (chord_end 1 (lines (chord_end 2 (lines (div 1 1 0 ∷ [])) (xsum 2) ∷ add 3 1 1 ∷ [])) (xsum 4)))
    ≡ (1, zd) ∷ (2, raised_by 1 (why.Plain ZeroDivision)) ∷ (3, ok 2) ∷ (4, raised_by 2 why.Chord) ∷ []
ten_states = refl

-- ---- a group, and then a chord, after a failed header

eighteen_states : states (evaluated builtin_tasks (chord_end 1 (lines (div 1 1 0 ∷ []))
    (group_end 2 (lines (one (logged 2 (codes "tasks.add") (int 1 ∷ []) 3) ∷ one (plain 4 (codes "tasks.mul") (int 2 ∷ [])) ∷ [])))))
    ≡ (1, zd) ∷ (2, raised_by 1 (why.Plain ZeroDivision)) ∷ (3, ok 2) ∷ (4, raised_by 1 (why.Plain ZeroDivision)) ∷ []
unfolding uuid_on_literals digits
eighteen_states = refl

nineteen_states : states (evaluated builtin_tasks (chord_end 1 (lines (div 1 1 0 ∷ [])) (chord_end 2 (lines (add_to 2 1 ∷ add_to 3 2 ∷ [])) (xsum 4))))
    ≡ (1, zd) ∷ (2, raised_by 1 (why.Plain ZeroDivision)) ∷ (3, raised_by 1 (why.Plain ZeroDivision)) ∷ (4, raised_by 2 why.Chord) ∷ []
nineteen_states = refl

-- ---- links

abbrev linked_sum : Line
linked_sum =
    one (task 1 (call (codes "tasks.add") (int 1 ∷ int 1 ∷ []))
    (and_task (plain 2 (codes "tasks.mul") (int 3 ∷ [])) (and_task (plain 3 (codes "tasks.div") (int 0 ∷ [])) no_tasks)) no_tasks)

links_run : states (evaluated builtin_tasks linked_sum) ≡ (1, ok 2) ∷ (2, ok 6) ∷ (3, zd) ∷ []
links_run = refl

links_of_a_failure : states (evaluated builtin_tasks (one (task 1 (call (codes "tasks.div") (int 1 ∷ int 0 ∷ [])) (and_task (plain 2 (codes "tasks.ident") []) no_tasks) no_tasks))) ≡ (1, zd) ∷ []
links_of_a_failure = refl

-- ---- messages of other makers: equal numbers stay as they stood

abbrev linked : List PTask → PTasks
linked [] = no_p_tasks
linked (t ∷ ts) = and_p_task t (linked ts)

abbrev ident : ℕ → ℕ → PTask
ident k n = bare_task (plain k (codes "tasks.ident") (int n ∷ []))

abbrev forged : Content
forged = record { parent = None; own = p_task 1 (call (codes "tasks.add") []) (linked (ident 5 1 ∷ ident 3 2 ∷ ident 5 3 ∷ [])) no_p_tasks p_nowhere; rest = p_stop }

forged_in_order : map (λ m. number_of m.own) (after forged (ok 0)).messages ≡ 3 ∷ 5 ∷ 5 ∷ []
forged_in_order = refl
