-- The end of a task that calls nothing back, where a task comes next.
use Rattle.std.proofs.Common.{◌≡◌, ◌∙◌, ℕ, true, false, List, [], ◌∷◌, length, Option, Some, None, Box, Global, refl, sym, ap}
use Rattle.std.specs.Prelude.{ℤ, ◌==◌, not}
use Rattle.canvas_task.specs.declared.outcome.Outcome.TheVariants.{Success}
use Rattle.canvas_semantics.specs.PlacedLine.{PTask, PTasks, no_p_tasks, PLine, p_stop, p_step}
use Rattle.canvas_rewrite.specs.declared.frozen.FrozenTask.{FrozenTask}
use Rattle.canvas_rewrite.specs.declared.frozen.FrozenLine.{FrozenLine}
use Rattle.canvas_rewrite.specs.declared.frozen.FrozenEnd.{FrozenEnd, out-FrozenEnd}
use Rattle.canvas_rewrite.specs.FrozenView.{p_end_view}
use Rattle.canvas_envelope.specs.Content.{Content, number_of, links_of, errbacks_of}
use Rattle.canvas_envelope.specs.Fits.{fits}
use Rattle.canvas_envelope.specs.steps.Lines.{end_seen, line_by}
use Rattle.canvas_envelope.proofs.Apart.{alone_fits}
use Rattle.canvas_envelope.proofs.FitLemmas.{never_zero}
use Rattle.canvas_envelope.proofs.Seen.{end_none, end_some}
use Rattle.canvas_effects.specs.Carrying.{input_ok}
use Rattle.canvas_effects.specs.Effects.{message, after, called, messages_in}
use Rattle.canvas_effects.specs.Flowing.{Input, number_input}
use Rattle.canvas_effects.specs.steps.Walks.{begins_with_task}
use Rattle.canvas_effects.proofs.Standing.{message_fits}
use Rattle.canvas_effects.proofs.Ended.{succeeded, next_begun, rest_stands, own_stepped}

nothing_called : (links errbacks : PTasks) (k : ℕ) (n : ℤ) → links ≡ no_p_tasks → [] ≡ messages_in (called links errbacks k (Success n))
nothing_called links errbacks k n none = sym (ap (λ ls. messages_in (called ls errbacks k (Success n))) none)

-- what follows is the message of that task
pub only_message : (c : Content) (t : PTask) (l : PLine) (n : ℤ) (m : Content) → fits c ≡ true → c.rest ≡ p_step t l → links_of c.own ≡ no_p_tasks
    → m ≡ message (Some (number_of c.own)) t (number_input n) l
    → record { stores = []; messages = m ∷ []; part = None } ≡ after c (Success n)
only_message c t l n m ok same none is =
    succeeded c (p_step t l) n [] [] (m ∷ []) None ok same refl refl (nothing_called (links_of c.own) (errbacks_of c.own) (number_of c.own) n none)
    (ap (λ x. x ∷ []) is ∙ next_begun (Some (number_of c.own)) t l (number_input n)) refl

-- which fits, with the rest of the line and without
pub next_fits : (c : Content) (t : PTask) (l : PLine) (x : Input) → fits c ≡ true → c.rest ≡ p_step t l → input_ok x ≡ true
    → fits (message (Some (number_of c.own)) t x l) ≡ true
next_fits c t l x ok same hx =
    message_fits (Some (number_of c.own)) t x l (own_stepped c ok).numbered hx (rest_stands c (p_step t l) ok same refl)

pub next_alone : (c : Content) (t : PTask) (l : PLine) (x : Input) → fits c ≡ true → c.rest ≡ p_step t l → input_ok x ≡ true
    → fits (message (Some (number_of c.own)) t x p_stop) ≡ true
next_alone c t l x ok same hx = alone_fits (message (Some (number_of c.own)) t x l) (next_fits c t l x ok same hx)

-- ---- whether a task comes next

end_by : (t : FrozenEnd) (o : Option FrozenLine) → (out-FrozenEnd t).body ≡ o → begins_with_task (p_end_view t) ≡ false
end_by t None e = ap begins_with_task (end_none t e)
end_by t (Some b) e = ap begins_with_task (end_some t b e)

pub end_begins : (o : Option (Box FrozenEnd Global)) → begins_with_task (end_seen o) ≡ false
end_begins None = refl
end_begins (Some b) = end_by b.value (out-FrozenEnd b.value).body refl

pub begins_is : (n : ℕ) (ts : List FrozenTask) (o : Option (Box FrozenEnd Global)) → n ≡ length ts → not (n == 0) ≡ begins_with_task (line_by ts o)
begins_is n [] o same = ap (λ k. not (k == 0)) same ∙ sym (end_begins o)
begins_is n (t ∷ ts) o same = ap (λ k. not (k == 0)) same ∙ ap not (never_zero (length ts))
