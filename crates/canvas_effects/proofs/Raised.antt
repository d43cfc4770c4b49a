-- Lines in which an exception is raised, as the code has them.
use Rattle.std.proofs.Common.{◌≡◌, ◌∙◌, ℕ, true, false, List, [], ◌∷◌, ◌++◌, map, length, Option, Some, None, Box, Global, refl, sym, ap, ap₂, subst, append_assoc, Result, Ok, Err, OnOk}
use Rattle.std.specs.declared.alloc.AllocError.{AllocError}
use Rattle.canvas_task.specs.declared.outcome.Fault.{Fault}
use Rattle.canvas_task.specs.declared.outcome.Fault.TheVariants as fault
use Rattle.canvas_task.specs.declared.outcome.Outcome.{Outcome}
use Rattle.canvas_task.specs.declared.outcome.Outcome.TheVariants.{Failure}
use Rattle.canvas_task.specs.declared.outcome.Why.{Why}
use Rattle.canvas_semantics.specs.Evaluation.{why_of}
use Rattle.canvas_semantics.specs.PlacedLine.{PLine, p_stop}
use Rattle.canvas_rewrite.specs.FrozenView.{p_steps, p_lines_of, p_task_view, p_line_view, p_end_view}
use Rattle.canvas_rewrite.specs.declared.frozen.FrozenTask.{FrozenTask, out-FrozenTask}
use Rattle.canvas_rewrite.specs.declared.frozen.FrozenLine.{FrozenLine, out-FrozenLine}
use Rattle.canvas_rewrite.specs.declared.frozen.FrozenEnd.{FrozenEnd, out-FrozenEnd}
use Rattle.canvas_effects.specs.Carrying.{is_whole, AllWhole}
use Rattle.canvas_envelope.specs.Content.{Content, number_of, errbacks_of}
use Rattle.canvas_effects.specs.Effects.{callbacks, messages_in, fault_at_end, fault_behind}
use Rattle.canvas_envelope.specs.Fits.{members_ok}
use Rattle.canvas_effects.specs.Flowing.{id_input}
use Rattle.canvas_effects.specs.steps.Walks.{last_of, skipped, skipped_tasks, raised_stores, all_raised_stores, raised_messages, all_raised_messages, tail_seen}
use Rattle.canvas_effects.proofs.Begun.{line_first, line_tail}
use Rattle.canvas_effects.proofs.Entered.{skipped_steps, raised_step, raised_step_messages, raised_group, raised_group_messages, raised_chord, raised_chord_messages}
use Rattle.canvas_envelope.proofs.Seen.{line_empty, end_none, end_some}
use Rattle.canvas_effects.proofs.Standing.{Stepped, first_stepped, Member, member_first, group_whole, header_whole}
use Rattle.canvas_effects.proofs.Walked.{number_seen, last_number, never_last}

-- ---- the exception that is raised after a header

pub fault_chord : (f g : Fault) (t : FrozenEnd) (b : FrozenLine) (ms : List FrozenLine) → (out-FrozenEnd t).body ≡ Some b → ms ≡ (out-FrozenEnd t).members
    → g ≡ fault_behind (p_lines_of (map p_line_view ms)) f → fault_at_end (p_line_view b) g ≡ fault_at_end (p_end_view t) f
fault_chord f g t b ms some same h =
    ap (fault_at_end (p_line_view b)) (h ∙ ap (λ xs. fault_behind (p_lines_of (map p_line_view xs)) f) same)
    ∙ sym (ap (λ x. fault_at_end x f) (end_some t b some))

first_member : (ms others : List FrozenLine) (m : FrozenLine) → ms ≡ m ∷ others → members_ok (p_lines_of (map p_line_view ms)) ≡ true → Member (p_line_view m)
first_member ms others m split ok =
    member_first (p_line_view m) (p_lines_of (map p_line_view others)) (sym (ap (λ xs. members_ok (p_lines_of (map p_line_view xs))) split) ∙ ok)

pub behind_first : (f g : Fault) (ms others : List FrozenLine) (m : FrozenLine) (t : FrozenTask) (w : Why) → ms ≡ m ∷ others
    → Some (p_task_view t) ≡ last_of (p_line_view m)
    → g ≡ fault_at_end (p_line_view m) f → w ≡ why_of g → fault.Chord (out-FrozenTask t).no w ≡ fault_behind (p_lines_of (map p_line_view ms)) f
behind_first f g ms others m t w split last h hw =
    ap₂ fault.Chord (sym (number_seen t) ∙ sym (last_number 0 (p_line_view m) (p_task_view t) (sym last))) (hw ∙ ap why_of h)
    ∙ sym (ap (λ xs. fault_behind (p_lines_of (map p_line_view xs)) f) split)

pub behind_never : (ms others : List FrozenLine) (m : FrozenLine) → ms ≡ m ∷ others → members_ok (p_lines_of (map p_line_view ms)) ≡ true
    → None ≡ last_of (p_line_view m) → ⊥
behind_never ms others m split ok h =
    let it = first_member ms others m split ok in never_last false (p_line_view m) it.ok it.ends (sym h)

-- ---- a line's first task

pub first_there : (l : FrozenLine) (all others : List FrozenTask) (t : FrozenTask) → all ≡ (out-FrozenLine l).tasks → all ≡ t ∷ others
    → is_whole (p_line_view l) ≡ true → Stepped (p_task_view t)
first_there l all others t same split ok =
    first_stepped (p_task_view t) (p_steps (map p_task_view others) (tail_seen (out-FrozenLine l).tail))
    (sym (ap is_whole (line_first l all others t same split)) ∙ ok)

raised_first : (f : Fault) (l : FrozenLine) (all others : List FrozenTask) (t : FrozenTask) → all ≡ (out-FrozenLine l).tasks → all ≡ t ∷ others
    → raised_stores f (p_line_view l) ≡ ((number_of (p_task_view t), Failure f) ∷ [])
    ++ (skipped_tasks f (map p_task_view others) ++ skipped f (tail_seen (out-FrozenLine l).tail))
raised_first f l all others t same split =
    ap (raised_stores f) (line_first l all others t same split) ∙ raised_step f (p_task_view t) (map p_task_view others) (tail_seen (out-FrozenLine l).tail)

pub raised_on : (f : Fault) (l : FrozenLine) (all others : List FrozenTask) (t : FrozenTask) (old one : List (ℕ × Outcome))
    → all ≡ (out-FrozenLine l).tasks → all ≡ t ∷ others → one ≡ old ++ (number_of (p_task_view t), Failure f) ∷ []
    → one ++ skipped f (p_steps (map p_task_view others) (tail_seen (out-FrozenLine l).tail)) ≡ old ++ raised_stores f (p_line_view l)
raised_on f l all others t old one same split h =
    let first : List (ℕ × Outcome) = (number_of (p_task_view t), Failure f) ∷ [] in
    let rest : PLine = p_steps (map p_task_view others) (tail_seen (out-FrozenLine l).tail) in
    ap (λ xs. xs ++ skipped f rest) h ∙ append_assoc old first (skipped f rest)
    ∙ ap (λ xs. old ++ (first ++ xs)) (skipped_steps f (map p_task_view others) (tail_seen (out-FrozenLine l).tail))
    ∙ ap (λ xs. old ++ xs) (sym (raised_first f l all others t same split))

pub first_messages : (f : Fault) (l : FrozenLine) (all others : List FrozenTask) (t : FrozenTask) (old new : List Content) → all ≡ (out-FrozenLine l).tasks
    → all ≡ t ∷ others
    → new ≡ old ++ messages_in (callbacks (errbacks_of (p_task_view t)) (id_input (number_of (p_task_view t))) None)
    → new ≡ old ++ raised_messages f (p_line_view l)
first_messages f l all others t old new same split h =
    h ∙ ap (λ xs. old ++ xs) (sym (ap (raised_messages f) (line_first l all others t same split)
    ∙ raised_step_messages f (p_task_view t) (p_steps (map p_task_view others) (tail_seen (out-FrozenLine l).tail))))

-- ---- ends

members_by : (t : FrozenEnd) (o : Option FrozenLine) → (out-FrozenEnd t).body ≡ o → is_whole (p_end_view t) ≡ true
    → AllWhole (map p_line_view (out-FrozenEnd t).members)
members_by t None e ok = group_whole (out-FrozenEnd t).group (map p_line_view (out-FrozenEnd t).members) (sym (ap is_whole (end_none t e)) ∙ ok)
members_by t (Some b) e ok =
    header_whole (out-FrozenEnd t).group (map p_line_view (out-FrozenEnd t).members) (p_line_view b) (sym (ap is_whole (end_some t b e)) ∙ ok)

pub members_there : (t : FrozenEnd) (ms : List FrozenLine) → ms ≡ (out-FrozenEnd t).members → is_whole (p_end_view t) ≡ true → AllWhole (map p_line_view ms)
members_there t ms same ok = subst (λ xs. AllWhole (map p_line_view xs)) (sym same) (members_by t (out-FrozenEnd t).body refl ok)

pub stores_group : (f : Fault) (t : FrozenEnd) (ms : List FrozenLine) → (out-FrozenEnd t).body ≡ None → ms ≡ (out-FrozenEnd t).members
    → all_raised_stores f (map p_line_view ms) ≡ raised_stores f (p_end_view t)
stores_group f t ms none same =
    ap (λ xs. all_raised_stores f (map p_line_view xs)) same
    ∙ sym (ap (raised_stores f) (end_none t none) ∙ raised_group f (out-FrozenEnd t).group (map p_line_view (out-FrozenEnd t).members))

pub messages_group : (f : Fault) (t : FrozenEnd) (ms : List FrozenLine) → (out-FrozenEnd t).body ≡ None → ms ≡ (out-FrozenEnd t).members
    → all_raised_messages f (map p_line_view ms) ≡ raised_messages f (p_end_view t)
messages_group f t ms none same =
    ap (λ xs. all_raised_messages f (map p_line_view xs)) same
    ∙ sym (ap (raised_messages f) (end_none t none) ∙ raised_group_messages f (out-FrozenEnd t).group (map p_line_view (out-FrozenEnd t).members))

pub stores_chord : (f g : Fault) (t : FrozenEnd) (b : FrozenLine) (ms : List FrozenLine) → (out-FrozenEnd t).body ≡ Some b → ms ≡ (out-FrozenEnd t).members
    → g ≡ fault_behind (p_lines_of (map p_line_view ms)) f
    → raised_stores f (p_end_view t) ≡ all_raised_stores f (map p_line_view ms) ++ raised_stores g (p_line_view b)
stores_chord f g t b ms some same h =
    ap (raised_stores f) (end_some t b some) ∙ raised_chord f (out-FrozenEnd t).group (map p_line_view (out-FrozenEnd t).members) (p_line_view b)
    ∙ ap (λ xs. all_raised_stores f (map p_line_view xs) ++ raised_stores (fault_behind (p_lines_of (map p_line_view xs)) f) (p_line_view b)) (sym same)
    ∙ ap (λ y. all_raised_stores f (map p_line_view ms) ++ raised_stores y (p_line_view b)) (sym h)

pub messages_chord : (f g : Fault) (t : FrozenEnd) (b : FrozenLine) (ms : List FrozenLine) → (out-FrozenEnd t).body ≡ Some b → ms ≡ (out-FrozenEnd t).members
    → g ≡ fault_behind (p_lines_of (map p_line_view ms)) f
    → raised_messages f (p_end_view t) ≡ all_raised_messages f (map p_line_view ms) ++ raised_messages g (p_line_view b)
messages_chord f g t b ms some same h =
    ap (raised_messages f) (end_some t b some) ∙ raised_chord_messages f (out-FrozenEnd t).group (map p_line_view (out-FrozenEnd t).members) (p_line_view b)
    ∙ ap (λ xs. all_raised_messages f (map p_line_view xs) ++ raised_messages (fault_behind (p_lines_of (map p_line_view xs)) f) (p_line_view b)) (sym same)
    ∙ ap (λ y. all_raised_messages f (map p_line_view ms) ++ raised_messages y (p_line_view b)) (sym h)

pub raised_tail : (f : Fault) (l : FrozenLine) (b : Box FrozenEnd Global) (all : List FrozenTask) (e : FrozenEnd) → (out-FrozenLine l).tail ≡ Some b
    → all ≡ (out-FrozenLine l).tasks → length all ≡ 0 → e ≡ b.value
    → raised_stores f (p_end_view e) ≡ raised_stores f (p_line_view l)
raised_tail f l b all e some same few there = sym (ap (raised_stores f) (line_tail l b all e some same few there))

pub raised_tail_messages : (f : Fault) (l : FrozenLine) (b : Box FrozenEnd Global) (all : List FrozenTask) (e : FrozenEnd) → (out-FrozenLine l).tail ≡ Some b
    → all ≡ (out-FrozenLine l).tasks → length all ≡ 0 → e ≡ b.value
    → raised_messages f (p_end_view e) ≡ raised_messages f (p_line_view l)
raised_tail_messages f l b all e some same few there = sym (ap (raised_messages f) (line_tail l b all e some same few there))

pub never_whole : (l : FrozenLine) (all : List FrozenTask) → (out-FrozenLine l).tail ≡ None → all ≡ (out-FrozenLine l).tasks → length all ≡ 0
    → is_whole (p_line_view l) ≡ true → ⊥
never_whole l all none same few ok = let clash : is_whole p_stop ≡ true = sym (ap is_whole (line_empty l none all same few)) ∙ ok in cc

-- for any result
pub ok_there : {X : Type 0} (r : Result (Unit {0}) AllocError) (x a : List X) → x ≡ a → OnOk r (x ≡ a)
ok_there (Ok u) x a e = e
ok_there (Err f) x a e = tt
