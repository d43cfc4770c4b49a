-- Messages of tasks, and what lines begin with, as the code has them.
use Rattle.std.proofs.Common.{◌≡◌, ◌∙◌, ℕ, suc, ◌≤◌, ◌<◌, ◌+◌, arith, true, false, List, [], ◌∷◌, ◌++◌, map, drop, get_or, length, Option, Some, None, Box, Global, refl, sym, ap, ap₂, subst, append_assoc, add-one, ne_eqb, drop-cons, true≢false, rules}
use Rattle.std.specs.declared.sync.Arc.{Arc}
use Rattle.std.specs.Prelude.{ℤ, ◌==◌, not}
use Rattle.canvas_semantics.specs.PlacedLine.{PTask, p_task, PTasks, and_p_task, PPlace, p_nowhere, p_group, p_chord, PLine, p_stop, p_step, p_group_end, p_chord_end, no_p_lines}
use Rattle.canvas_rewrite.specs.FrozenView.{p_tasks_of, p_steps, p_lines_of, p_task_view, p_line_view, p_end_view}
use Rattle.canvas_rewrite.specs.declared.frozen.Carried as block
use Rattle.canvas_rewrite.specs.declared.frozen.Carried.{roll-Carried}
use Rattle.canvas_rewrite.specs.declared.frozen.Place.{roll-Place}
use Rattle.canvas_rewrite.specs.declared.frozen.FrozenTask.{FrozenTask}
use Rattle.canvas_rewrite.specs.declared.frozen.FrozenLine.{FrozenLine, out-FrozenLine}
use Rattle.canvas_rewrite.specs.declared.frozen.FrozenEnd.{FrozenEnd, out-FrozenEnd}
use Rattle.canvas_effects.specs.Carrying.{can_stand, AllStand, callbacks_ok, input_ok}
use Rattle.canvas_envelope.specs.Content.{Content, place_of}
use Rattle.canvas_effects.specs.Effects.{message, callbacks, messages_in, part_of}
use Rattle.canvas_envelope.specs.Fits.{parent_ok, fits, most_members}
use Rattle.canvas_effects.specs.Flowing.{Input, list_input}
use Rattle.canvas_envelope.specs.steps.Parts.{is_stop}
use Rattle.canvas_effects.specs.Placing.{placed}
use Rattle.canvas_envelope.specs.MessageView.{place_view}
use Rattle.canvas_effects.specs.steps.Walks.{at_place, tail_seen, begins_with_task, first_message, member_place, started, all_started}
use Rattle.canvas_effects.proofs.Walked.{begins_seen}
use Rattle.canvas_effects.proofs.Copied.{line_parts}
use Rattle.canvas_effects.proofs.Entered.{started_group, started_chord}
use Rattle.canvas_envelope.proofs.FitLemmas.{counted}
use Rattle.canvas_envelope.proofs.Seen.{line_some, end_none, end_some}
use Rattle.canvas_effects.proofs.Standing.{message_fits, called_parts, same_at, group_stands, header_stands, few_members, body_stands}

-- ---- callbacks

tasks_dropped : (ts : List FrozenTask) (i : ℕ) (t : FrozenTask) → i < length ts → t ≡ get_or ts i t
    → map p_task_view (drop i ts) ≡ p_task_view t ∷ map p_task_view (drop (i + 1) ts)
tasks_dropped ts i t lt is =
    ap (map p_task_view) (drop-cons ts i t lt) ∙ ap (λ y. p_task_view y ∷ map p_task_view (drop (suc i) ts)) (sym is)
    ∙ ap (λ k. p_task_view t ∷ map p_task_view (drop k ts)) (sym (add-one i))

pub callback_fits : (ts : List FrozenTask) (i : ℕ) (t : FrozenTask) (u : Option ℕ) (x : Input) → i < length ts → t ≡ get_or ts i t
    → callbacks_ok (p_tasks_of (map p_task_view (drop i ts))) ≡ true → parent_ok u ≡ true → input_ok x ≡ true
    → fits (message u (p_task_view t) x p_stop) ≡ true
callback_fits ts i t u x lt is ok hu hx =
    let here : callbacks_ok (and_p_task (p_task_view t) (p_tasks_of (map p_task_view (drop (i + 1) ts)))) ≡ true =
    sym (ap (λ xs. callbacks_ok (p_tasks_of xs)) (tasks_dropped ts i t lt is)) ∙ ok in
    message_fits u (p_task_view t) x p_stop hu hx (called_parts (p_task_view t) (p_tasks_of (map p_task_view (drop (i + 1) ts))) here).first

pub callbacks_on : (ts : List FrozenTask) (i : ℕ) (t : FrozenTask) (u : Option ℕ) (x : Input) (before after all : List Content) (m : Content)
    → i < length ts → t ≡ get_or ts i t
    → (callbacks_ok (p_tasks_of (map p_task_view (drop i ts))) ≡ true)
    × (before ++ messages_in (callbacks (p_tasks_of (map p_task_view (drop i ts))) x u) ≡ all)
    → m ≡ message u (p_task_view t) x p_stop → after ≡ before ++ m ∷ []
    → (callbacks_ok (p_tasks_of (map p_task_view (drop (i + 1) ts))) ≡ true)
    × (after ++ messages_in (callbacks (p_tasks_of (map p_task_view (drop (i + 1) ts))) x u) ≡ all)
callbacks_on ts i t u x before after all m lt is h made pushed =
    let step = tasks_dropped ts i t lt is in
    let rest : PTasks = p_tasks_of (map p_task_view (drop (i + 1) ts)) in
    let here : callbacks_ok (and_p_task (p_task_view t) rest) ≡ true = sym (ap (λ xs. callbacks_ok (p_tasks_of xs)) step) ∙ h.0 in (
      (called_parts (p_task_view t) rest here).others,
      ap (λ ms. ms ++ messages_in (callbacks rest x u)) (pushed ∙ ap (λ y. before ++ y ∷ []) made)
          ∙ append_assoc before (message u (p_task_view t) x p_stop ∷ []) (messages_in (callbacks rest x u))
          ∙ ap (λ xs. before ++ messages_in (callbacks (p_tasks_of xs) x u)) (sym step) ∙ h.1,
    )

-- ---- the first task of a line

pub moved_is : (u : Option ℕ) (t : PTask) (x : Input) (p : PPlace) (l rest : PLine) → is_stop l ≡ false → rest ≡ placed p l
    → message u t x rest ≡ first_message u t x p l
moved_is u t x p l rest h made = ap₂ (λ y r. message u y x r) (sym (same_at p t l h)) made

pub not_stop : (l : PLine) → (l ≡ p_stop → ⊥) → is_stop l ≡ false
not_stop p_stop h = absurd (h refl)
not_stop (p_step t l) h = refl
not_stop (p_group_end g ms) h = refl
not_stop (p_chord_end g ms b) h = refl

pub place_put : (q : PPlace) (t : PTask) → place_of (at_place q t) ≡ q
place_put q (p_task k call links errbacks place) = refl

-- where the task itself went doesn't matter
pub place_put_again : (u : Option ℕ) (q p : PPlace) (t c : PTask) (x : Input) → c ≡ at_place q t
    → first_message u c x p p_stop ≡ first_message u t x p p_stop
place_put_again u q p (p_task k call links errbacks place) c x same = ap (λ y. first_message u y x p p_stop) same

-- ---- places of members

pub fits_size : (t : FrozenEnd) (b : FrozenLine) (p : PPlace) (ms : List FrozenLine) → (out-FrozenEnd t).body ≡ Some b → ms ≡ (out-FrozenEnd t).members
    → can_stand (p_end_view t) p ≡ true → length ms ≤ most_members
fits_size t b p ms some same h =
    let few = few_members (out-FrozenEnd t).group (p_lines_of (map p_line_view (out-FrozenEnd t).members)) (p_line_view b) p
    (sym (ap (λ l. can_stand l p) (end_some t b some)) ∙ h) in
    omega (arith, few, counted (out-FrozenEnd t).members, ap length same)

chord_rolled : (g n : ℕ) (b : Arc FrozenLine Global)
    → place_view (roll-Place (record { group = g; chord = Some (roll-Carried (record { size = n; body = b })) })) ≡ p_chord g n (p_line_view b.value)
chord_rolled g n b = search (rules, block.the_lemmas)

-- a line that begins with no task is the group or chord that it ends in, or nothing
alone_by : (l : FrozenLine) (ts : List FrozenTask) → (out-FrozenLine l).tasks ≡ ts → begins_with_task (p_line_view l) ≡ false
    → p_line_view l ≡ tail_seen (out-FrozenLine l).tail
alone_by l [] same h = line_parts l ∙ ap (λ xs. p_steps (map p_task_view xs) (tail_seen (out-FrozenLine l).tail)) same
alone_by l (t ∷ ts) same h =
    let many : not (length (out-FrozenLine l).tasks == 0) ≡ true =
    ap (λ xs. not (length xs == 0)) same ∙ ap not (ne_eqb (suc (length ts)) 0 (λ e. absurd cc)) in
    absurd (true≢false (sym many ∙ begins_seen l ∙ h))

pub end_alone : (l : FrozenLine) (b : Box FrozenEnd Global) (e : FrozenEnd) → (out-FrozenLine l).tail ≡ Some b → e ≡ b.value
    → begins_with_task (p_line_view l) ≡ false
    → p_line_view l ≡ p_end_view e
end_alone l b e some there h = alone_by l (out-FrozenLine l).tasks refl h ∙ ap tail_seen some ∙ sym (ap p_end_view there)

no_messages : (p : PPlace) → messages_in (part_of p 0) ≡ []
no_messages p_nowhere = refl
no_messages (p_group g) = refl
no_messages (p_chord g size body) = refl

pub none_alone : (l : FrozenLine) → (out-FrozenLine l).tail ≡ None → begins_with_task (p_line_view l) ≡ false → p_line_view l ≡ p_stop
none_alone l none h = alone_by l (out-FrozenLine l).tasks refl h ∙ ap tail_seen none

pub none_started : (l : PLine) (x : Input) (p : PPlace) (u : Option ℕ) → l ≡ p_stop → started l x p u ≡ []
none_started l x p u none = ap (λ z. started z x p u) none ∙ no_messages p

-- where the members of a chord end whose body is moved
pub header_made : (g n : ℕ) (b body : FrozenLine) (shared : Arc FrozenLine Global) (p q : PPlace) → q ≡ p → p_line_view body ≡ placed q (p_line_view b)
    → shared.value ≡ body
    → place_view (roll-Place (record { group = g; chord = Some (roll-Carried (record { size = n; body = shared })) })) ≡ p_chord g n (placed p (p_line_view b))
header_made g n b body shared p q there moved value =
    chord_rolled g n shared ∙ ap (p_chord g n) (ap p_line_view value ∙ moved ∙ ap (λ z. placed z (p_line_view b)) there)

pub header_is : (t : FrozenEnd) (b : FrozenLine) (p : PPlace) (ms : List FrozenLine) (n : ℕ) → (out-FrozenEnd t).body ≡ Some b
    → ms ≡ (out-FrozenEnd t).members → n ≡ length ms
    → p_chord (out-FrozenEnd t).group n (placed p (p_line_view b)) ≡ member_place (p_end_view t) p
header_is t b p ms n some same sized =
    ap (λ k. p_chord (out-FrozenEnd t).group k (placed p (p_line_view b))) (sized ∙ ap length same ∙ sym (counted (out-FrozenEnd t).members))
    ∙ sym (ap (λ l. member_place l p) (end_some t b some))

pub group_is : (t : FrozenEnd) (p : PPlace) → (out-FrozenEnd t).body ≡ None → p_group (out-FrozenEnd t).group ≡ member_place (p_end_view t) p
group_is t p none = sym (ap (λ l. member_place l p) (end_none t none))

-- ---- lines

pub line_first : (l : FrozenLine) (all others : List FrozenTask) (t : FrozenTask) → all ≡ (out-FrozenLine l).tasks → all ≡ t ∷ others
    → p_line_view l ≡ p_step (p_task_view t) (p_steps (map p_task_view others) (tail_seen (out-FrozenLine l).tail))
line_first l all others t same split = line_parts l ∙ ap (λ xs. p_steps (map p_task_view xs) (tail_seen (out-FrozenLine l).tail)) (sym same ∙ split)

no_steps : (ts : List FrozenTask) (l : PLine) → length ts ≡ 0 → p_steps (map p_task_view ts) l ≡ l
no_steps [] l few = refl
no_steps (t ∷ ts) l few = absurd cc

pub line_tail : (l : FrozenLine) (b : Box FrozenEnd Global) (all : List FrozenTask) (e : FrozenEnd) → (out-FrozenLine l).tail ≡ Some b
    → all ≡ (out-FrozenLine l).tasks → length all ≡ 0 → e ≡ b.value → p_line_view l ≡ p_end_view e
line_tail l b all e some same few there =
    line_some l b some ∙ ap (λ xs. p_steps (map p_task_view xs) (p_end_view b.value)) (sym same) ∙ no_steps all (p_end_view b.value) few
    ∙ ap p_end_view (sym there)

-- ---- ends

pub group_members : (t : FrozenEnd) (p : PPlace) (ms : List FrozenLine) → (out-FrozenEnd t).body ≡ None → ms ≡ (out-FrozenEnd t).members
    → can_stand (p_end_view t) p ≡ true
    → AllStand (member_place (p_end_view t) p) (map p_line_view ms)
group_members t p ms none same ok =
    let ls : List PLine = map p_line_view (out-FrozenEnd t).members in
    let e = end_none t none in
    let all : AllStand (member_place (p_end_view t) p) ls =
    subst (λ l. AllStand (member_place l p) ls) (sym e) (group_stands (out-FrozenEnd t).group ls p (sym (ap (λ l. can_stand l p) e) ∙ ok)) in
    subst (λ xs. AllStand (member_place (p_end_view t) p) (map p_line_view xs)) (sym same) all

pub header_members : (t : FrozenEnd) (b : FrozenLine) (p : PPlace) (ms others : List FrozenLine) (m : FrozenLine) → (out-FrozenEnd t).body ≡ Some b
    → ms ≡ (out-FrozenEnd t).members → ms ≡ m ∷ others
    → can_stand (p_end_view t) p ≡ true → AllStand (member_place (p_end_view t) p) (map p_line_view ms)
header_members t b p ms others m some same split ok =
    let ls : List PLine = map p_line_view (m ∷ others) in
    let e : p_end_view t ≡ p_chord_end (out-FrozenEnd t).group (p_lines_of ls) (p_line_view b) =
    end_some t b some ∙ ap (λ xs. p_chord_end (out-FrozenEnd t).group (p_lines_of (map p_line_view xs)) (p_line_view b)) (sym same ∙ split) in
    let all : AllStand (member_place (p_end_view t) p) ls =
    subst (λ l. AllStand (member_place l p) ls) (sym e)
    (header_stands (out-FrozenEnd t).group (p_line_view m) (map p_line_view others) (p_line_view b) p (sym (ap (λ l. can_stand l p) e) ∙ ok)) in
    subst (λ xs. AllStand (member_place (p_end_view t) p) (map p_line_view xs)) (sym split) all

pub group_started : (t : FrozenEnd) (x : Input) (p : PPlace) (u : Option ℕ) (ms : List FrozenLine) → (out-FrozenEnd t).body ≡ None
    → ms ≡ (out-FrozenEnd t).members
    → all_started (map p_line_view ms) x (member_place (p_end_view t) p) u ≡ started (p_end_view t) x p u
group_started t x p u ms none same =
    ap (λ xs. all_started (map p_line_view xs) x (member_place (p_end_view t) p) u) same
    ∙ ap (λ l. all_started (map p_line_view (out-FrozenEnd t).members) x (member_place l p) u) (end_none t none)
    ∙ sym (ap (λ l. started l x p u) (end_none t none) ∙ started_group (out-FrozenEnd t).group (map p_line_view (out-FrozenEnd t).members) x p u)

pub header_started : (t : FrozenEnd) (b : FrozenLine) (x : Input) (p : PPlace) (u : Option ℕ) (ms others : List FrozenLine) (m : FrozenLine)
    → (out-FrozenEnd t).body ≡ Some b → ms ≡ (out-FrozenEnd t).members → ms ≡ m ∷ others
    → all_started (map p_line_view ms) x (member_place (p_end_view t) p) u ≡ started (p_end_view t) x p u
header_started t b x p u ms others m some same split =
    let e : p_end_view t ≡ p_chord_end (out-FrozenEnd t).group (p_lines_of (map p_line_view (m ∷ others))) (p_line_view b) =
    end_some t b some ∙ ap (λ xs. p_chord_end (out-FrozenEnd t).group (p_lines_of (map p_line_view xs)) (p_line_view b)) (sym same ∙ split) in
    ap (λ xs. all_started (map p_line_view xs) x (member_place (p_end_view t) p) u) split
    ∙ ap (λ l. all_started (map p_line_view (m ∷ others)) x (member_place l p) u) e
    ∙ sym (ap (λ l. started l x p u) e ∙ started_chord (out-FrozenEnd t).group (p_line_view m) (map p_line_view others) (p_line_view b) x p u)

-- a header of some members
pub begun_header : (t : FrozenEnd) (b : FrozenLine) (x : Input) (p : PPlace) (u : Option ℕ) (ms : List FrozenLine) → (out-FrozenEnd t).body ≡ Some b
    → ms ≡ (out-FrozenEnd t).members → (length ms == 0) ≡ false
    → all_started (map p_line_view ms) x (member_place (p_end_view t) p) u ≡ started (p_end_view t) x p u
begun_header t b x p u [] some same h = absurd (true≢false h)
begun_header t b x p u (m ∷ ms) some same h = header_started t b x p u (m ∷ ms) ms m some same refl

no_lines : (ms : List FrozenLine) → length ms ≡ 0 → p_lines_of (map p_line_view ms) ≡ no_p_lines
no_lines [] h = refl
no_lines (m ∷ ms) h = absurd cc

-- ---- members one after the other

pub empty_is : (t : FrozenEnd) (b : FrozenLine) (ms : List FrozenLine) → (out-FrozenEnd t).body ≡ Some b → ms ≡ (out-FrozenEnd t).members → length ms ≡ 0
    → p_end_view t ≡ p_chord_end (out-FrozenEnd t).group no_p_lines (p_line_view b)
empty_is t b ms some same few =
    end_some t b some ∙ ap (λ xs. p_chord_end (out-FrozenEnd t).group (p_lines_of (map p_line_view xs)) (p_line_view b)) (sym same)
    ∙ ap (λ ls. p_chord_end (out-FrozenEnd t).group ls (p_line_view b)) (no_lines ms few)

pub empty_started : (t : FrozenEnd) (b : FrozenLine) (ms : List FrozenLine) (ns : List ℤ) (x : Input) (p : PPlace) (u : Option ℕ)
    → (out-FrozenEnd t).body ≡ Some b → ms ≡ (out-FrozenEnd t).members → length ms ≡ 0 → ns ≡ []
    → started (p_line_view b) (list_input ns) p u ≡ started (p_end_view t) x p u
empty_started t b ms ns x p u some same few none =
    ap (λ z. started (p_line_view b) (list_input z) p u) none ∙ sym (ap (λ l. started l x p u) (empty_is t b ms some same few))

-- where an empty header starts its body
pub body_there : (t : FrozenEnd) (b : FrozenLine) (p : PPlace) → (out-FrozenEnd t).body ≡ Some b → can_stand (p_end_view t) p ≡ true
    → can_stand (p_line_view b) p ≡ true
body_there t b p some ok =
    body_stands (out-FrozenEnd t).group (p_lines_of (map p_line_view (out-FrozenEnd t).members)) (p_line_view b) p
    (sym (ap (λ l. can_stand l p) (end_some t b some)) ∙ ok)

pub no_numbers : (ns : List ℤ) → ns ≡ [] → input_ok (list_input ns) ≡ true
no_numbers ns none = ap (λ z. input_ok (list_input z)) none

standing_by : (t : FrozenEnd) (o : Option FrozenLine) (ms : List FrozenLine) (p : PPlace) → (out-FrozenEnd t).body ≡ o → ms ≡ (out-FrozenEnd t).members
    → can_stand (p_end_view t) p ≡ true
    → AllStand (member_place (p_end_view t) p) (map p_line_view ms)
standing_by t None ms p none same ok = group_members t p ms none same ok
standing_by t (Some b) [] p some same ok = tt
standing_by t (Some b) (m ∷ ms) p some same ok = header_members t b p (m ∷ ms) ms m some same refl ok

pub members_stand : (t : FrozenEnd) (ms : List FrozenLine) (p : PPlace) → ms ≡ (out-FrozenEnd t).members → can_stand (p_end_view t) p ≡ true
    → AllStand (member_place (p_end_view t) p) (map p_line_view ms)
members_stand t ms p same ok = standing_by t (out-FrozenEnd t).body ms p refl same ok
