-- What a message names that is kept apart from the rest of its line.
use Rattle.std.proofs.Common.{◌≡◌, ◌∙◌, ℕ, List, map, drop, Option, Box, Global, Bool, true, false, refl, sym, ap}
use Rattle.std.specs.Prelude.{◌&&◌}
use Rattle.canvas_semantics.specs.PlacedLine.{p_stop}
use Rattle.canvas_rewrite.specs.declared.frozen.FrozenTask.{FrozenTask}
use Rattle.canvas_rewrite.specs.declared.frozen.FrozenEnd.{FrozenEnd}
use Rattle.canvas_rewrite.specs.FrozenView.{p_tasks_of, p_task_view}
use Rattle.canvas_envelope.specs.Content.{Content}
use Rattle.canvas_envelope.specs.Unplaced.{EachFirst}
use Rattle.canvas_envelope.specs.steps.Lines.{end_seen, line_by, followed_by}
use Rattle.canvas_runs.specs.Book.{Book, task_known, tasks_known, line_known, parent_known, message_known}
use Rattle.canvas_core.proofs.Books.FirstKnown.{behind}
use Rattle.canvas_core.proofs.Books.KnownLines.{steps_known}

apart : (p t k : Bool) → (p && (t && k)) ≡ ((p && (t && true)) && k)
apart true true k = refl
apart true false k = refl
apart false t k = refl

grouped : (a b c : Bool) → (a && (b && c)) ≡ ((a && b) && c)
grouped true b c = refl
grouped false b c = refl

-- by its own part, the tasks from an index on, and the end, if the tasks before are known
pub followed_known : (book : Book) (c : Content) (ts : List FrozenTask) (tail : Option (Box FrozenEnd Global)) (n : ℕ) → c.rest ≡ p_stop
    → EachFirst (λ t. task_known book t ≡ true) n (line_by ts tail)
    → ((message_known book c && tasks_known book (p_tasks_of (map p_task_view (drop n ts)))) && line_known book (end_seen tail))
    ≡ message_known book (followed_by c (line_by ts tail))
followed_known book c ts tail n alone first =
    let p : Bool = parent_known book c.parent in
    let t : Bool = task_known book c.own in
    let k : Bool = tasks_known book (p_tasks_of (map p_task_view ts)) in
    let e : Bool = line_known book (end_seen tail) in
    sym (ap (λ b. p && (t && b)) (steps_known book (map p_task_view ts) (end_seen tail))
    ∙ apart p t (k && e) ∙ grouped (p && (t && true)) k e
    ∙ ap (λ b. ((p && (t && b)) && k) && e) (sym (ap (line_known book) alone))
    ∙ ap (λ b. (message_known book c && b) && e) (sym (behind book n ts (end_seen tail) (line_by ts tail) refl first)))

-- ---- one check after the other

pub first_false : (m q e w : Bool) → ((m && q) && e) ≡ w → m ≡ false → false ≡ w
first_false true q e w h is = absurd cc
first_false false q e w h is = h

pub next_false : (m q e w : Bool) → ((m && q) && e) ≡ w → m ≡ true → q ≡ false → false ≡ w
next_false true true e w h first is = absurd cc
next_false true false e w h first is = h
next_false false q e w h first is = absurd cc

pub both_true : (m q e w : Bool) → ((m && q) && e) ≡ w → m ≡ true → q ≡ true → e ≡ w
both_true true true e w h first next = h
both_true true false e w h first next = absurd cc
both_true false q e w h first next = absurd cc
