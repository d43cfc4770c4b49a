-- What the checks of a composed signature have seen.
use Rattle.std.proofs.Common.{◌≡◌, ℕ, List, [], ◌∷◌, map, true, false, Bool, refl, sym, ap, ◌∙◌, subst}
use Rattle.std.specs.Prelude.{ℤ, ◌&&◌, ◌==◌, Some, None, Result, Ok, Err, OnOk, length}
use Rattle.std.specs.List.{list_all}
use Rattle.canvas_task.specs.Entries.{Ascends}
use Rattle.canvas_task.specs.Numbers.{in_range}
use Rattle.canvas_task.specs.declared.arg.Arg.{Arg}
use Rattle.canvas_task.specs.declared.arg.Arg.TheVariants as arg
use Rattle.canvas_values.specs.ComposedRefusals.{arg_ok, its_call, call_fault, task_fault, tasks_fault, signatures_fault, all_fault}
use Rattle.canvas_values.specs.Answers.{◌or_else◌}
use Rattle.canvas_semantics.specs.Tree.{chain}
use Rattle.canvas_values.specs.SignatureView.{task_view, tasks_of, view, trees_of}
use Rattle.canvas_values.specs.Writable.{TaskComposed, TasksComposed}
use Rattle.canvas_values.proofs.FittingCalls.{NumbersFit, ArgFits, ArgsFit, KwargsFit}
use Rattle.canvas_values.specs.declared.fault.SigFault.{SigFault}
use Rattle.canvas_values.specs.declared.node.Node.{Node}
use Rattle.canvas_values.specs.declared.task_sig.TaskSig.{TaskSig, out-TaskSig}
use Rattle.canvas_values.proofs.Views.{task_seen}

pub both : (a b : Bool) → (a && b) ≡ true → (a ≡ true) × (b ≡ true)
both true b h = (refl, h)
both false b h = absurd cc

-- ---- arguments

numbers_fit : (ns : List ℤ) → list_all in_range ns ≡ true → NumbersFit ns
numbers_fit [] h = tt
numbers_fit (n ∷ ns) h = let p = both (in_range n) (list_all in_range ns) h in (p.0, numbers_fit ns p.1)

pub arg_fits : (a : Arg) → arg_ok a ≡ true → ArgFits a
arg_fits (arg.Num n) h = h
arg_fits (arg.List ns) h = numbers_fit ns h
arg_fits (arg.Text s) h = tt

pub args_fit : (args : List Arg) → list_all arg_ok args ≡ true → ArgsFit args
args_fit [] h = tt
args_fit (a ∷ args) h = let p = both (arg_ok a) (list_all arg_ok args) h in (arg_fits a p.0, args_fit args p.1)

pub kwargs_fit : (es : List (List ℕ × Arg)) → list_all (λ e. arg_ok e.1) es ≡ true → KwargsFit es
kwargs_fit [] h = tt
kwargs_fit (e ∷ es) h = let p = both (arg_ok e.1) (list_all (λ e. arg_ok e.1) es) h in (arg_fits e.1 p.0, kwargs_fit es p.1)

-- ---- a signature by its parts

call_seen : (s : TaskSig) → its_call (task_view s)
    ≡ record { name = (out-TaskSig s).name; args = (out-TaskSig s).args; kwargs = (out-TaskSig s).kwargs; immutable = (out-TaskSig s).immutable }
call_seen s = ap its_call (task_seen s)

pub call_ordered : (s : TaskSig) → Ascends (out-TaskSig s).kwargs → Ascends (its_call (task_view s)).kwargs
call_ordered s o = subst (λ c. Ascends c.kwargs) (sym (call_seen s)) o

pub task_faults : (s : TaskSig) → task_fault (task_view s)
    ≡ (call_fault (its_call (task_view s)) or_else tasks_fault (tasks_of (map task_view (out-TaskSig s).links)) or_else tasks_fault
    (tasks_of (map task_view (out-TaskSig s).errbacks)))
task_faults s =
    ap task_fault (task_seen s)
    ∙ ap (λ c. call_fault c or_else tasks_fault (tasks_of (map task_view (out-TaskSig s).links)) or_else tasks_fault
    (tasks_of (map task_view (out-TaskSig s).errbacks))) (sym (call_seen s))

pub task_composed : (s : TaskSig) → Ascends (its_call (task_view s)).kwargs → TasksComposed (tasks_of (map task_view (out-TaskSig s).links))
    → TasksComposed (tasks_of (map task_view (out-TaskSig s).errbacks)) → TaskComposed (task_view s)
task_composed s o ls es = subst TaskComposed (sym (task_seen s)) (refl, subst (λ c. Ascends c.kwargs) (call_seen s) o, ls, es)

-- ---- one check after the other

pub links_fail : (s : TaskSig) (e : SigFault) → None ≡ call_fault (its_call (task_view s))
    → Some e ≡ tasks_fault (tasks_of (map task_view (out-TaskSig s).links))
    → Some e ≡ task_fault (task_view s)
links_fail s e c l = sym (task_faults s ∙ rw (sym c, sym l) refl)

pub errbacks_decide : (s : TaskSig) → None ≡ call_fault (its_call (task_view s)) → None ≡ tasks_fault (tasks_of (map task_view (out-TaskSig s).links))
    → tasks_fault (tasks_of (map task_view (out-TaskSig s).errbacks)) ≡ task_fault (task_view s)
errbacks_decide s c l = sym (task_faults s ∙ rw (sym c, sym l) refl)

pub on_ok : {T : Type 0} (r : Result T SigFault) (P Q : Type 0) → OnOk r P → (P → Q) → OnOk r Q
on_ok (Ok x) P Q h f = f h
on_ok (Err e) P Q h f = tt

-- ---- a chain of something

pub chain_faults : (ns : List Node) → (length ns == 0) ≡ false → all_fault (trees_of (map view ns)) ≡ signatures_fault (chain (trees_of (map view ns)))
chain_faults [] h = absurd cc
chain_faults (n ∷ ns) h = refl
