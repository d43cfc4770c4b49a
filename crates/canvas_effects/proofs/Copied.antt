-- Copies of tasks, lines and ends say what these say.
use Rattle.std.proofs.Common.{◌≡◌, ◌∙◌, ◌<◌, ◌+◌, ℕ, Bool, List, [], ◌∷◌, ◌++◌, map, length, get_or, take, Option, Some, None, Box, Global, false, refl, sym, ap, ap₂}
use Rattle.std.proofs.lemmas.List.{map-append, map_push, take_more}
use Rattle.canvas_task.specs.declared.arg.Arg.{Arg}
use Rattle.canvas_semantics.specs.PlacedLine.{PTask, p_task, PPlace, PLine, p_stop, p_step, p_group_end, p_chord_end}
use Rattle.canvas_rewrite.specs.FrozenView.{p_tasks_of, p_steps, p_lines_of, p_task_view, p_line_view, p_end_view}
use Rattle.canvas_rewrite.specs.declared.frozen.Place.{Place}
use Rattle.canvas_rewrite.specs.declared.frozen.FrozenTask.{FrozenTask, out-FrozenTask, roll-FrozenTask}
use Rattle.canvas_rewrite.specs.declared.frozen.FrozenLine.{FrozenLine, out-FrozenLine, roll-FrozenLine}
use Rattle.canvas_rewrite.specs.declared.frozen.FrozenEnd.{FrozenEnd, out-FrozenEnd, roll-FrozenEnd}
use Rattle.canvas_rewrite.proofs.FrozenViews.{made_line, made_longer, made_group, made_chord}
use Rattle.canvas_envelope.specs.Content.{place_of}
use Rattle.canvas_effects.specs.Placing.{placed}
use Rattle.canvas_envelope.specs.MessageView.{content, place_seen, rest_seen}
use Rattle.canvas_effects.specs.steps.Walks.{at_place, tail_seen}
use Rattle.canvas_envelope.specs.steps.Parts.{is_stop}
use Rattle.canvas_envelope.proofs.FitLemmas.{never_stops, end_stands}
use Rattle.canvas_envelope.proofs.Seen.{task_made, task_seen, line_none, line_some, end_none, end_some}

-- ---- tasks

pub task_copied : (t : FrozenTask) (n : List ℕ) (a : List Arg) (w : List (List ℕ × Arg)) (ls es links errbacks : List FrozenTask) (p : Option Place)
    → n ≡ (out-FrozenTask t).name → a ≡ (out-FrozenTask t).args → w ≡ (out-FrozenTask t).kwargs
    → map p_task_view ls ≡ map p_task_view links → links ≡ (out-FrozenTask t).links
    → map p_task_view es ≡ map p_task_view errbacks → errbacks ≡ (out-FrozenTask t).errbacks
    → p_task_view (roll-FrozenTask
    (record { no = (out-FrozenTask t).no; name = n; args = a; kwargs = w; immutable = (out-FrozenTask t).immutable; links = ls; errbacks = es; place = p }))
    ≡ at_place (place_seen p) (p_task_view t)
task_copied t n a w ls es links errbacks p hn ha hw hl hl' he he' =
    let k : ℕ = (out-FrozenTask t).no in
    let i : Bool = (out-FrozenTask t).immutable in
    let Goal : List ℕ → List Arg → List (List ℕ × Arg) → List PTask → List PTask → PTask =
    λ n' a' w' ls' es'. p_task k (record { name = n'; args = a'; kwargs = w'; immutable = i }) (p_tasks_of ls') (p_tasks_of es') (place_seen p) in
    task_made k n a w i ls es p
    ∙ ap (λ x. Goal x a w (map p_task_view ls) (map p_task_view es)) hn
    ∙ ap (λ x. Goal (out-FrozenTask t).name x w (map p_task_view ls) (map p_task_view es)) ha
    ∙ ap (λ x. Goal (out-FrozenTask t).name (out-FrozenTask t).args x (map p_task_view ls) (map p_task_view es)) hw
    ∙ ap (λ x. Goal (out-FrozenTask t).name (out-FrozenTask t).args (out-FrozenTask t).kwargs x (map p_task_view es)) (hl ∙ ap (map p_task_view) hl')
    ∙ ap (λ x. Goal (out-FrozenTask t).name (out-FrozenTask t).args (out-FrozenTask t).kwargs (map p_task_view (out-FrozenTask t).links) x)
    (he ∙ ap (map p_task_view) he')
    ∙ sym (ap (at_place (place_seen p)) (task_seen t))

pub own_place : (t : PTask) → at_place (place_of t) t ≡ t
own_place (p_task k call links errbacks place) = refl

pub place_there : (t : FrozenTask) → place_of (p_task_view t) ≡ place_seen (out-FrozenTask t).place
place_there t = ap place_of (task_seen t)

-- with its own place
pub task_kept : (t c : FrozenTask) (p : Option Place) → place_seen p ≡ place_seen (out-FrozenTask t).place
    → p_task_view c ≡ at_place (place_seen p) (p_task_view t)
    → p_task_view c ≡ p_task_view t
task_kept t c p same copied =
    copied ∙ ap (λ q. at_place q (p_task_view t)) (same ∙ sym (place_there t)) ∙ own_place (p_task_view t)

-- one more turn of a loop that copies
module _ {X Y : Type 0} where
  pub copied_on : (seen : X → Y) (xs : List X) (i : ℕ) (x copy : X) (before after : List X) → i < length xs → x ≡ get_or xs i x → seen copy ≡ seen x
      → map seen before ≡ map seen (take i xs) → after ≡ before ++ copy ∷ [] → map seen after ≡ map seen (take (i + 1) xs)
  copied_on seen xs i x copy before after lt is same so_far pushed =
      ap (map seen) pushed ∙ map_push seen before copy ∙ ap₂ (λ ys y. ys ++ y ∷ []) so_far same
      ∙ sym (ap (map seen) (take_more xs i x lt ∙ ap (λ z. take i xs ++ z ∷ []) (sym is)) ∙ map_push seen (take i xs) x)

-- ---- lines

pub line_copied : (l : FrozenLine) → (out-FrozenLine l).tail ≡ None → (new ts : List FrozenTask) → map p_task_view new ≡ map p_task_view ts
    → ts ≡ (out-FrozenLine l).tasks
    → p_line_view (roll-FrozenLine (record { tasks = new; tail = None })) ≡ p_line_view l
line_copied l none new ts h same =
    made_line new ∙ ap (λ xs. p_steps xs p_stop) (h ∙ ap (map p_task_view) same) ∙ sym (line_none l none)

pub longer_copied : (l : FrozenLine) (b : Box FrozenEnd Global) → (out-FrozenLine l).tail ≡ Some b
    → (new ts : List FrozenTask) (e end : FrozenEnd) (tail : Box FrozenEnd Global)
    → map p_task_view new ≡ map p_task_view ts → ts ≡ (out-FrozenLine l).tasks → e ≡ b.value → p_end_view end ≡ p_end_view e → tail.value ≡ end
    → p_line_view (roll-FrozenLine (record { tasks = new; tail = Some tail })) ≡ p_line_view l
longer_copied l b some new ts e end tail h same there copied boxed =
    made_longer new tail ∙ ap (λ xs. p_steps xs (p_end_view tail.value)) (h ∙ ap (map p_task_view) same)
    ∙ ap (p_steps (map p_task_view (out-FrozenLine l).tasks)) (ap p_end_view boxed ∙ copied ∙ ap p_end_view there)
    ∙ sym (line_some l b some)

pub group_copied : (t : FrozenEnd) → (out-FrozenEnd t).body ≡ None → (new ls : List FrozenLine) → map p_line_view new ≡ map p_line_view ls
    → ls ≡ (out-FrozenEnd t).members
    → p_end_view (roll-FrozenEnd (record { group = (out-FrozenEnd t).group; members = new; body = None })) ≡ p_end_view t
group_copied t none new ls h same =
    made_group (out-FrozenEnd t).group new ∙ ap (λ ms. p_group_end (out-FrozenEnd t).group (p_lines_of ms)) (h ∙ ap (map p_line_view) same)
    ∙ sym (end_none t none)

pub chord_copied : (t : FrozenEnd) (b : FrozenLine) → (out-FrozenEnd t).body ≡ Some b → (new ls : List FrozenLine) (body : FrozenLine)
    → map p_line_view new ≡ map p_line_view ls → ls ≡ (out-FrozenEnd t).members → p_line_view body ≡ p_line_view b
    → p_end_view (roll-FrozenEnd (record { group = (out-FrozenEnd t).group; members = new; body = Some body })) ≡ p_end_view t
chord_copied t b some new ls body h same copied =
    made_chord (out-FrozenEnd t).group new body
    ∙ ap (λ ms. p_chord_end (out-FrozenEnd t).group (p_lines_of ms) (p_line_view body)) (h ∙ ap (map p_line_view) same)
    ∙ ap (p_chord_end (out-FrozenEnd t).group (p_lines_of (map p_line_view (out-FrozenEnd t).members))) copied
    ∙ sym (end_some t b some)

-- ---- with another place at the end

step_placed : (p : PPlace) (t : PTask) (l : PLine) → is_stop l ≡ false → placed p (p_step t l) ≡ p_step t (placed p l)
step_placed p t p_stop h = absurd cc
step_placed p (p_task k call links errbacks place) (p_step u l) h = refl
step_placed p (p_task k call links errbacks place) (p_group_end g ms) h = refl
step_placed p (p_task k call links errbacks place) (p_chord_end g ms b) h = refl

pub steps_placed : (p : PPlace) (ts : List PTask) (l : PLine) → is_stop l ≡ false → placed p (p_steps ts l) ≡ p_steps ts (placed p l)
steps_placed p [] l h = refl
steps_placed p (t ∷ ts) l h = step_placed p t (p_steps ts l) (never_stops ts l h) ∙ ap (p_step t) (steps_placed p ts l h)

last_placed : (p : PPlace) (ts : List PTask) (t : PTask) → placed p (p_steps (ts ++ t ∷ []) p_stop) ≡ p_steps (ts ++ at_place p t ∷ []) p_stop
last_placed p [] t = refl
last_placed p (u ∷ []) t = step_placed p u (p_step t p_stop) refl
last_placed p (u ∷ v ∷ us) t = step_placed p u (p_steps ((v ∷ us) ++ t ∷ []) p_stop) refl ∙ ap (p_step u) (last_placed p (v ∷ us) t)

-- the last of some tasks
pub tasks_placed : (p : PPlace) (ts others copies : List FrozenTask) (last copy : FrozenTask) (all : List FrozenTask) → all ≡ others ++ last ∷ []
    → map p_task_view copies ≡ map p_task_view others
    → p_task_view copy ≡ at_place p (p_task_view last) → ts ≡ copies ++ copy ∷ []
    → p_steps (map p_task_view ts) p_stop ≡ placed p (p_steps (map p_task_view all) p_stop)
tasks_placed p ts others copies last copy all split h hc pushed =
    ap (λ xs. p_steps (map p_task_view xs) p_stop) pushed
    ∙ ap (λ xs. p_steps xs p_stop) (map-append p_task_view copies (copy ∷ []) ∙ ap₂ (λ xs x. xs ++ x ∷ []) h hc)
    ∙ sym (ap (λ xs. placed p (p_steps (map p_task_view xs) p_stop)) split ∙ ap (λ xs. placed p (p_steps xs p_stop)) (map-append p_task_view others (last ∷ []))
    ∙ last_placed p (map p_task_view others) (p_task_view last))

pub longer_placed : (p : PPlace) (o : Option (Box FrozenEnd Global)) (b : Box FrozenEnd Global) → o ≡ Some b
    → (new ts : List FrozenTask) (e end : FrozenEnd) (tail : Box FrozenEnd Global)
    → map p_task_view new ≡ map p_task_view ts → e ≡ b.value → p_end_view end ≡ placed p (p_end_view e) → tail.value ≡ end
    → p_line_view (roll-FrozenLine (record { tasks = new; tail = Some tail })) ≡ placed p (p_steps (map p_task_view ts) (tail_seen o))
longer_placed p o b some new ts e end tail h there copied boxed =
    made_longer new tail ∙ ap (λ xs. p_steps xs (p_end_view tail.value)) h
    ∙ ap (p_steps (map p_task_view ts)) (ap p_end_view boxed ∙ copied ∙ ap (λ x. placed p (p_end_view x)) there)
    ∙ sym (ap (λ x. placed p (p_steps (map p_task_view ts) (tail_seen x))) some ∙ steps_placed p (map p_task_view ts) (p_end_view b.value) (end_stands b.value))

-- a whole line by its parts
tail_by : (l : FrozenLine) (o : Option (Box FrozenEnd Global)) → (out-FrozenLine l).tail ≡ o
    → p_line_view l ≡ p_steps (map p_task_view (out-FrozenLine l).tasks) (tail_seen o)
tail_by l None e = line_none l e
tail_by l (Some b) e = line_some l b e

pub line_parts : (l : FrozenLine) → p_line_view l ≡ p_steps (map p_task_view (out-FrozenLine l).tasks) (tail_seen (out-FrozenLine l).tail)
line_parts l = tail_by l (out-FrozenLine l).tail refl

-- one made of parts
pub made_of : (ts : List FrozenTask) (o : Option (Box FrozenEnd Global))
    → p_line_view (roll-FrozenLine (record { tasks = ts; tail = o })) ≡ p_steps (map p_task_view ts) (tail_seen o)
made_of ts None = made_line ts
made_of ts (Some b) = made_longer ts b

-- ---- messages

pub content_kept : (parent : Option ℕ) (k : ℕ) (n n' : List ℕ) (a a' : List Arg) (w w' : List (List ℕ × Arg)) (ls ls' es es' : List FrozenTask)
    (p p' : Option Place) (r r' : Option FrozenLine) → n ≡ n' → a ≡ a' → w ≡ w' → map p_task_view ls ≡ map p_task_view ls'
    → map p_task_view es ≡ map p_task_view es' → place_seen p ≡ place_seen p' → rest_seen r ≡ rest_seen r'
    → content parent k n a w ls es p r ≡ content parent k n' a' w' ls' es' p' r'
content_kept parent k n n' a a' w w' ls ls' es es' p p' r r' hn ha hw hl he hp hr = rw (hn, ha, hw, hl, he, hp, hr) refl
