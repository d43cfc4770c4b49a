-- What names only what a book knows, by the parts of the code's types.
use Rattle.std.proofs.Common.{◌≡◌, ◌∙◌, ℕ, List, [], ◌∷◌, ◌++◌, map, length, Some, None, Box, Global, Bool, true, false, refl, sym, ap, arith}
use Rattle.std.specs.Prelude.{◌&&◌}
use Rattle.std.proofs.lemmas.List.{map-append}
use Rattle.canvas_semantics.specs.PlacedLine.{PTask, PLine, p_stop}
use Rattle.canvas_rewrite.specs.FrozenView.{p_tasks_of, p_lines_of, p_steps, p_task_view, p_line_view, p_end_view}
use Rattle.canvas_rewrite.specs.declared.frozen.FrozenTask.{FrozenTask, out-FrozenTask}
use Rattle.canvas_rewrite.specs.declared.frozen.FrozenLine.{FrozenLine, out-FrozenLine}
use Rattle.canvas_rewrite.specs.declared.frozen.FrozenEnd.{FrozenEnd, out-FrozenEnd}
use Rattle.canvas_envelope.specs.Content.{number_of}
use Rattle.canvas_envelope.specs.Fits.{how_many}
use Rattle.canvas_effects.specs.Placing.{last_task}
use Rattle.canvas_envelope.proofs.Seen.{task_seen, line_none, line_some, end_some}
use Rattle.canvas_runs.specs.Book.{Book, task_known, tasks_known, line_known, members_known, has_size}
use Rattle.canvas_core.specs.steps.Lasts.{last_number}

-- ---- the last task

pub last_pushed : (k : ℕ) (ts : List PTask) (t : PTask) → last_task k (p_steps (ts ++ t ∷ []) p_stop) ≡ number_of t
last_pushed k [] t = refl
last_pushed k (u ∷ us) t = last_pushed (number_of u) us t

-- ---- lines

and_and : (a b c : Bool) → ((a && b) && c) ≡ (a && (b && c))
and_and true b c = refl
and_and false b c = refl

pub steps_known : (book : Book) (ts : List PTask) (l : PLine) → line_known book (p_steps ts l) ≡ (tasks_known book (p_tasks_of ts) && line_known book l)
steps_known book [] l = refl
steps_known book (t ∷ ts) l = ap (λ b. task_known book t && b) (steps_known book ts l)
    ∙ sym (and_and (task_known book t) (tasks_known book (p_tasks_of ts)) (line_known book l))

and_true : (b : Bool) → (b && true) ≡ b
and_true true = refl
and_true false = refl

pub known_none : (book : Book) (l : FrozenLine) → (out-FrozenLine l).tail ≡ None → (ts : List FrozenTask) → ts ≡ (out-FrozenLine l).tasks
    → tasks_known book (p_tasks_of (map p_task_view ts)) ≡ line_known book (p_line_view l)
known_none book l none ts same =
    ap (λ xs. tasks_known book (p_tasks_of (map p_task_view xs))) same
    ∙ sym (ap (line_known book) (line_none l none) ∙ steps_known book (map p_task_view (out-FrozenLine l).tasks) p_stop ∙ and_true _)

pub known_some : (book : Book) (l : FrozenLine) (b : Box FrozenEnd Global) → (out-FrozenLine l).tail ≡ Some b
    → line_known book (p_line_view l) ≡ (tasks_known book (p_tasks_of (map p_task_view (out-FrozenLine l).tasks)) && line_known book (p_end_view b.value))
known_some book l b some = ap (line_known book) (line_some l b some) ∙ steps_known book (map p_task_view (out-FrozenLine l).tasks) (p_end_view b.value)

-- ---- last tasks

last_steps : (k : ℕ) (ts : List PTask) (l : PLine) → last_task k (p_steps ts l) ≡ last_task (last_task k (p_steps ts p_stop)) l
last_steps k [] l = refl
last_steps k (t ∷ ts) l = last_steps (number_of t) ts l

pub own_some : (ts others : List FrozenTask) (t : FrozenTask) → ts ≡ others ++ t ∷ [] → (out-FrozenTask t).no ≡ last_number ts
own_some ts others t split =
    sym (ap last_number split ∙ ap (λ xs. last_task 0 (p_steps xs p_stop)) (map-append p_task_view others (t ∷ []))
    ∙ last_pushed 0 (map p_task_view others) (p_task_view t) ∙ ap number_of (task_seen t))

pub own_none : (ts : List FrozenTask) → length ts ≡ 0 → 0 ≡ last_number ts
own_none [] h = refl
own_none (t ∷ ts) h = absurd cc

pub last_none : (l : FrozenLine) → (out-FrozenLine l).tail ≡ None → (ts : List FrozenTask) → ts ≡ (out-FrozenLine l).tasks
    → last_number ts ≡ last_task 0 (p_line_view l)
last_none l none ts same = ap last_number same ∙ sym (ap (last_task 0) (line_none l none))

pub last_some : (l : FrozenLine) (b : Box FrozenEnd Global) → (out-FrozenLine l).tail ≡ Some b → (k : ℕ) (ts : List FrozenTask) (e : FrozenEnd)
    → k ≡ last_number ts
    → ts ≡ (out-FrozenLine l).tasks → e ≡ b.value → last_task k (p_end_view e) ≡ last_task 0 (p_line_view l)
last_some l b some k ts e own same there =
    ap (λ x. last_task k (p_end_view x)) there ∙ ap (λ n. last_task n (p_end_view b.value)) (own ∙ ap last_number same)
    ∙ sym (ap (last_task 0) (line_some l b some) ∙ last_steps 0 (map p_task_view (out-FrozenLine l).tasks) (p_end_view b.value))

-- ---- groups and chords

counted : (ls : List FrozenLine) → how_many (p_lines_of (map p_line_view ls)) ≡ length ls
counted [] = refl
counted (l ∷ ls) = omega (arith, counted ls)

pub chord_known : (book : Book) (e : FrozenEnd) (b : FrozenLine) → (out-FrozenEnd e).body ≡ Some b → (ms : List FrozenLine) → ms ≡ (out-FrozenEnd e).members
    → line_known book (p_end_view e)
    ≡ (has_size (length ms) (book.size (out-FrozenEnd e).group) && members_known book (out-FrozenEnd e).group (p_lines_of (map p_line_view ms))
    && line_known book (p_line_view b))
chord_known book e b some ms same =
    let g : ℕ = (out-FrozenEnd e).group in
    ap (line_known book) (end_some e b some)
    ∙ ap (λ xs. has_size (how_many (p_lines_of (map p_line_view xs))) (book.size g) && members_known book g (p_lines_of (map p_line_view xs))
    && line_known book (p_line_view b)) (sym same)
    ∙ ap (λ n. has_size n (book.size g) && members_known book g (p_lines_of (map p_line_view ms)) && line_known book (p_line_view b)) (counted ms)

-- ---- one check after the other

pub and_then : (a b x y z : Bool) → a ≡ x → a ≡ true → b ≡ y → z ≡ (x && y) → b ≡ z
and_then a b x y z ax at by zx = by ∙ sym (zx ∙ ap (λ w. w && y) (sym ax ∙ at))

pub and_else : (a x y z : Bool) → a ≡ x → a ≡ false → z ≡ (x && y) → a ≡ z
and_else a x y z ax af zx = af ∙ sym (zx ∙ ap (λ w. w && y) (sym ax ∙ af))
