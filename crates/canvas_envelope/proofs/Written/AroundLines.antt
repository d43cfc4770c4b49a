-- Lines of the code: the parts before and after the body that their ends carry.
use Rattle.std.proofs.Common.{◌≡◌, ◌∙◌, ℕ, true, false, arith, List, [], ◌∷◌, ◌++◌, map, length, ◌==◌, Option, Some, None, Box, Global, refl, sym, ap, ap₂, subst}
use Rattle.std.specs.Prelude.{codes}
use Rattle.std.proofs.lemmas.Bool.Decides.{nat_tests}
use Rattle.std.proofs.lemmas.List.{map-append}
use Rattle.json.specs.Token.{key}
use Rattle.serde_json.specs.Data.{string}
use Rattle.canvas_semantics.specs.PlacedLine.{PTask, PLine, p_stop, p_step, p_group_end, p_chord_end}
use Rattle.canvas_rewrite.specs.FrozenView.{p_steps, p_task_view, p_line_view, p_end_view}
use Rattle.canvas_rewrite.specs.declared.frozen.FrozenTask.{FrozenTask, out-FrozenTask}
use Rattle.canvas_rewrite.specs.declared.frozen.FrozenLine.{FrozenLine, out-FrozenLine}
use Rattle.canvas_rewrite.specs.declared.frozen.FrozenEnd.{FrozenEnd, out-FrozenEnd}
use Rattle.canvas_envelope.specs.Content.{place_of}
use Rattle.canvas_envelope.specs.MessageView.{place_seen}
use Rattle.canvas_envelope.specs.Wire.{members_wire}
use Rattle.canvas_envelope.specs.steps.Parts.{is_stop}
use Rattle.canvas_envelope.proofs.FitLemmas.{end_stands, never_stops}
use Rattle.canvas_envelope.proofs.Seen.{task_seen, line_none, line_some, line_last, line_empty, end_none, end_some}
use Rattle.canvas_envelope.specs.steps.Around.{is_carrying, carries, front_tasks, task_before, line_before, last_before, line_behind, last_behind}
use Rattle.canvas_envelope.specs.steps.Tokens.{task_behind, chain_before, chain_behind, list_tokens, group_closing, members_of_end, group_of_end, opening_tokens}

-- ---- places

pub task_carries : (t : FrozenTask) → is_carrying (place_seen (out-FrozenTask t).place) ≡ carries (p_step (p_task_view t) p_stop)
task_carries t = sym (ap (λ x. is_carrying (place_of x)) (task_seen t))

-- ---- facts about a line's last element

carries_step : (t : PTask) (l : PLine) → is_stop l ≡ false → carries (p_step t l) ≡ carries l
carries_step t p_stop h = absurd cc
carries_step t (p_step u l) h = refl
carries_step t (p_group_end g ms) h = refl
carries_step t (p_chord_end g ms b) h = refl

before_step : (t : PTask) (l : PLine) → is_stop l ≡ false → last_before (p_step t l) ≡ last_before l
before_step t p_stop h = absurd cc
before_step t (p_step u l) h = refl
before_step t (p_group_end g ms) h = refl
before_step t (p_chord_end g ms b) h = refl

behind_step : (t : PTask) (l : PLine) → is_stop l ≡ false → last_behind (p_step t l) ≡ last_behind l
behind_step t p_stop h = absurd cc
behind_step t (p_step u l) h = refl
behind_step t (p_group_end g ms) h = refl
behind_step t (p_chord_end g ms b) h = refl

front_step : (t : PTask) (l : PLine) → is_stop l ≡ false → front_tasks (p_step t l) ≡ t ∷ front_tasks l
front_step t p_stop h = absurd cc
front_step t (p_step u l) h = refl
front_step t (p_group_end g ms) h = refl
front_step t (p_chord_end g ms b) h = refl

steps_last : (ts : List PTask) (t : PTask) → p_steps (ts ++ t ∷ []) p_stop ≡ p_steps ts (p_step t p_stop)
steps_last [] t = refl
steps_last (u ∷ us) t = ap (p_step u) (steps_last us t)

pub tasks_last : (all ts : List FrozenTask) (t : FrozenTask) → all ≡ ts ++ t ∷ []
    → p_steps (map p_task_view all) p_stop ≡ p_steps (map p_task_view ts) (p_step (p_task_view t) p_stop)
tasks_last all ts t is =
    ap (λ xs. p_steps (map p_task_view xs) p_stop) is ∙ ap (λ xs. p_steps xs p_stop) (map-append p_task_view ts (t ∷ []))
    ∙ steps_last (map p_task_view ts) (p_task_view t)

module _ {X : Type 0} (G : PLine → X) (step : (t : PTask) (l : PLine) → is_stop l ≡ false → G (p_step t l) ≡ G l) where
  skip : (ts : List PTask) (e : PLine) → is_stop e ≡ false → G (p_steps ts e) ≡ G e
  skip [] e h = refl
  skip (t ∷ ts) e h = step t (p_steps ts e) (never_stops ts e h) ∙ skip ts e h

  at_end : (l : FrozenLine) (b : Box FrozenEnd Global) (t : FrozenEnd) → (out-FrozenLine l).tail ≡ Some b → t ≡ b.value
      → G (p_end_view t) ≡ G (p_line_view l)
  at_end l b t e there =
      ap (λ x. G (p_end_view x)) there
      ∙ sym (ap G (line_some l b e) ∙ skip (map p_task_view (out-FrozenLine l).tasks) (p_end_view b.value) (end_stands b.value))

  at_last : (l : FrozenLine) (all ts : List FrozenTask) (t : FrozenTask) → (out-FrozenLine l).tail ≡ None → all ≡ (out-FrozenLine l).tasks
      → all ≡ ts ++ t ∷ [] → G (p_step (p_task_view t) p_stop) ≡ G (p_line_view l)
  at_last l all ts t e same is =
      sym (ap G (line_last l e ts t (sym same ∙ is)) ∙ skip (map p_task_view ts) (p_step (p_task_view t) p_stop) refl)

-- ---- the group or chord that a line ends in

before_by : (t : FrozenEnd) (o : Option FrozenLine) → (out-FrozenEnd t).body ≡ o → last_before (p_end_view t) ≡ line_before None (p_end_view t)
before_by t None e = ap last_before (end_none t e) ∙ sym (ap (line_before None) (end_none t e))
before_by t (Some b) e = ap last_before (end_some t b e) ∙ sym (ap (line_before None) (end_some t b e))

end_before : (t : FrozenEnd) → last_before (p_end_view t) ≡ line_before None (p_end_view t)
end_before t = before_by t (out-FrozenEnd t).body refl

behind_by : (t : FrozenEnd) (o : Option FrozenLine) → (out-FrozenEnd t).body ≡ o → last_behind (p_end_view t) ≡ line_behind (p_end_view t)
behind_by t None e = ap last_behind (end_none t e) ∙ sym (ap line_behind (end_none t e))
behind_by t (Some b) e = ap last_behind (end_some t b e) ∙ sym (ap line_behind (end_some t b e))

end_behind : (t : FrozenEnd) → last_behind (p_end_view t) ≡ line_behind (p_end_view t)
end_behind t = behind_by t (out-FrozenEnd t).body refl

front_by : (t : FrozenEnd) (o : Option FrozenLine) → (out-FrozenEnd t).body ≡ o → front_tasks (p_end_view t) ≡ []
front_by t None e = ap front_tasks (end_none t e)
front_by t (Some b) e = ap front_tasks (end_some t b e)

end_front : (t : FrozenEnd) → front_tasks (p_end_view t) ≡ []
end_front t = front_by t (out-FrozenEnd t).body refl

pub group_before : (size : Option ℕ) (t : FrozenEnd) → (out-FrozenEnd t).body ≡ None → line_before size (p_end_view t) ≡ []
group_before size t e = ap (line_before size) (end_none t e)

pub chord_before_is : (size : Option ℕ) (t : FrozenEnd) (b : FrozenLine) → (out-FrozenEnd t).body ≡ Some b
    → (opening_tokens size ++ key (codes "body") ∷ []) ++ line_before None (p_line_view b) ≡ line_before size (p_end_view t)
chord_before_is size t b e = sym (ap (line_before size) (end_some t b e))

pub group_behind : (t : FrozenEnd) → (out-FrozenEnd t).body ≡ None → line_behind (p_end_view t) ≡ []
group_behind t e = ap line_behind (end_none t e)

pub chord_behind_is : (t : FrozenEnd) (b : FrozenLine) → (out-FrozenEnd t).body ≡ Some b
    → line_behind (p_line_view b)
    ++ (list_tokens (codes "header") (members_wire (members_of_end (p_end_view t)))
    ++ group_closing (group_of_end (p_end_view t)) (string (codes "chord")) (codes "celery.chord")) ≡ line_behind (p_end_view t)
chord_behind_is t b e =
    let P : PLine → Type 0 = λ x.
    line_behind (p_line_view b)
    ++ (list_tokens (codes "header") (members_wire (members_of_end x)) ++ group_closing (group_of_end x) (string (codes "chord")) (codes "celery.chord"))
    ≡ line_behind x in
    subst P (sym (end_some t b e)) refl

module _ (l : FrozenLine) where
  pub end_carries_it : (b : Box FrozenEnd Global) (t : FrozenEnd) → (out-FrozenLine l).tail ≡ Some b → t ≡ b.value
      → carries (p_end_view t) ≡ carries (p_line_view l)
  end_carries_it b t e there = at_end carries carries_step l b t e there

  pub last_carries_it : (all ts : List FrozenTask) (t : FrozenTask) → (out-FrozenLine l).tail ≡ None → all ≡ (out-FrozenLine l).tasks → all ≡ ts ++ t ∷ []
      → carries (p_step (p_task_view t) p_stop) ≡ carries (p_line_view l)
  last_carries_it all ts t e same is = at_last carries carries_step l all ts t e same is

  pub last_before_end : (b : Box FrozenEnd Global) (t : FrozenEnd) → (out-FrozenLine l).tail ≡ Some b → t ≡ b.value
      → line_before None (p_end_view t) ≡ last_before (p_line_view l)
  last_before_end b t e there = sym (end_before t) ∙ at_end last_before before_step l b t e there

  pub last_before_task : (all ts : List FrozenTask) (t : FrozenTask) → (out-FrozenLine l).tail ≡ None → all ≡ (out-FrozenLine l).tasks → all ≡ ts ++ t ∷ []
      → task_before None (p_task_view t) ≡ last_before (p_line_view l)
  last_before_task all ts t e same is = at_last last_before before_step l all ts t e same is

  pub last_behind_end : (b : Box FrozenEnd Global) (t : FrozenEnd) → (out-FrozenLine l).tail ≡ Some b → t ≡ b.value
      → line_behind (p_end_view t) ≡ last_behind (p_line_view l)
  last_behind_end b t e there = sym (end_behind t) ∙ at_end last_behind behind_step l b t e there

  pub last_behind_task : (all ts : List FrozenTask) (t : FrozenTask) → (out-FrozenLine l).tail ≡ None → all ≡ (out-FrozenLine l).tasks → all ≡ ts ++ t ∷ []
      → task_behind (p_task_view t) ≡ last_behind (p_line_view l)
  last_behind_task all ts t e same is = at_last last_behind behind_step l all ts t e same is

  pub nothing_there : {X : Type 0} (G : PLine → X) (ts : List FrozenTask) → (out-FrozenLine l).tail ≡ None → ts ≡ (out-FrozenLine l).tasks → length ts ≡ 0
      → G p_stop ≡ G (p_line_view l)
  nothing_there G ts e same none = sym (ap G (line_empty l e ts same none))

-- ---- whole lines

long_before : (size : Option ℕ) (t : PTask) (l : PLine) → is_stop l ≡ false
    → line_before size (p_step t l) ≡ chain_before size (t ∷ front_tasks l) ++ last_before l
long_before size t p_stop h = absurd cc
long_before size t (p_step u l) h = refl
long_before size t (p_group_end g ms) h = refl
long_before size t (p_chord_end g ms b) h = refl

long_behind : (t : PTask) (l : PLine) → is_stop l ≡ false → line_behind (p_step t l) ≡ last_behind l ++ chain_behind
long_behind t p_stop h = absurd cc
long_behind t (p_step u l) h = refl
long_behind t (p_group_end g ms) h = refl
long_behind t (p_chord_end g ms b) h = refl

fronts : (ts : List PTask) (e : PLine) → is_stop e ≡ false → front_tasks e ≡ [] → front_tasks (p_steps ts e) ≡ ts
fronts [] e h none = none
fronts (t ∷ ts) e h none = front_step t (p_steps ts e) (never_stops ts e h) ∙ ap (λ us. t ∷ us) (fronts ts e h none)

chain_is : (size : Option ℕ) (ts : List FrozenTask) (e : PLine) → (length ts == 0) ≡ false → is_stop e ≡ false → front_tasks e ≡ []
    → chain_before size (map p_task_view ts) ++ last_before e ≡ line_before size (p_steps (map p_task_view ts) e)
chain_is size [] e more h none = absurd cc
chain_is size (t ∷ ts) e more h none =
    let us : List PTask = map p_task_view ts in
    sym (
    long_before size (p_task_view t) (p_steps us e) (never_stops us e h)
    ∙ ap₂ (λ xs x. chain_before size (p_task_view t ∷ xs) ++ x) (fronts us e h none) (skip last_before before_step us e h))

chain_ends : (ts : List FrozenTask) (e : PLine) → (length ts == 0) ≡ false → is_stop e ≡ false
    → last_behind e ++ chain_behind ≡ line_behind (p_steps (map p_task_view ts) e)
chain_ends [] e more h = absurd cc
chain_ends (t ∷ ts) e more h =
    let us : List PTask = map p_task_view ts in
    sym (long_behind (p_task_view t) (p_steps us e) (never_stops us e h) ∙ ap (λ x. x ++ chain_behind) (skip last_behind behind_step us e h))

only : {X : Type 0} (G : PLine → X) (ts : List FrozenTask) (e : PLine) → (length ts == 0) ≡ true → G e ≡ G (p_steps (map p_task_view ts) e)
only G [] e none = refl
only G (t ∷ ts) e none = absurd (grind (arith, nat_tests))

module _ (l : FrozenLine) (ts : List FrozenTask) (same : ts ≡ (out-FrozenLine l).tasks) where
  with_end : (b : Box FrozenEnd Global) (t : FrozenEnd) → (out-FrozenLine l).tail ≡ Some b → t ≡ b.value
      → p_steps (map p_task_view ts) (p_end_view t) ≡ p_line_view l
  with_end b t e there =
      ap₂ (λ xs x. p_steps (map p_task_view xs) (p_end_view x)) same there ∙ sym (line_some l b e)

  pub only_end : {X : Type 0} (G : PLine → X) (b : Box FrozenEnd Global) (t : FrozenEnd) → (out-FrozenLine l).tail ≡ Some b → t ≡ b.value
      → (length ts == 0) ≡ true → G (p_end_view t) ≡ G (p_line_view l)
  only_end G b t e there none = only G ts (p_end_view t) none ∙ ap G (with_end b t e there)

  pub long_end_before : (size : Option ℕ) (b : Box FrozenEnd Global) (t : FrozenEnd) → (out-FrozenLine l).tail ≡ Some b → t ≡ b.value
      → (length ts == 0) ≡ false
      → chain_before size (map p_task_view ts) ++ line_before None (p_end_view t) ≡ line_before size (p_line_view l)
  long_end_before size b t e there more =
      ap (λ x. chain_before size (map p_task_view ts) ++ x) (sym (end_before t))
      ∙ chain_is size ts (p_end_view t) more (end_stands t) (end_front t) ∙ ap (line_before size) (with_end b t e there)

  pub long_end_behind : (b : Box FrozenEnd Global) (t : FrozenEnd) → (out-FrozenLine l).tail ≡ Some b → t ≡ b.value
      → (length ts == 0) ≡ false → line_behind (p_end_view t) ++ chain_behind ≡ line_behind (p_line_view l)
  long_end_behind b t e there more =
      ap (λ x. x ++ chain_behind) (sym (end_behind t)) ∙ chain_ends ts (p_end_view t) more (end_stands t) ∙ ap line_behind (with_end b t e there)

  pub only_tasks : {X : Type 0} (G : PLine → X) → (out-FrozenLine l).tail ≡ None → G (p_steps (map p_task_view ts) p_stop) ≡ G (p_line_view l)
  only_tasks G e = ap (λ xs. G (p_steps (map p_task_view xs) p_stop)) same ∙ sym (ap G (line_none l e))

  -- the tasks before the last element
  pub front_all : (b : Box FrozenEnd Global) → (out-FrozenLine l).tail ≡ Some b → map p_task_view ts ≡ front_tasks (p_line_view l)
  front_all b e =
      sym (fronts (map p_task_view ts) (p_end_view b.value) (end_stands b.value) (end_front b.value))
      ∙ ap front_tasks (with_end b b.value e refl)

  pub front_others : (others : List FrozenTask) (t : FrozenTask) → (out-FrozenLine l).tail ≡ None → ts ≡ others ++ t ∷ []
      → map p_task_view others ≡ front_tasks (p_line_view l)
  front_others others t e is =
      sym (fronts (map p_task_view others) (p_step (p_task_view t) p_stop) refl refl)
      ∙ ap front_tasks (sym (tasks_last ts others t is)) ∙ only_tasks front_tasks e

  pub front_none : (out-FrozenLine l).tail ≡ None → length ts ≡ 0 → map p_task_view ts ≡ front_tasks (p_line_view l)
  front_none e none = by ts none ∙ only_tasks front_tasks e
    where
      by : (ts : List FrozenTask) → length ts ≡ 0 → map p_task_view ts ≡ front_tasks (p_steps (map p_task_view ts) p_stop)
      by [] h = refl
      by (t ∷ ts) h = absurd cc

-- ---- lines of only tasks

module _ (all others : List FrozenTask) (t : FrozenTask) (is : all ≡ others ++ t ∷ []) where
  pub one_before : (size : Option ℕ) → (length others == 0) ≡ true
      → task_before size (p_task_view t) ≡ line_before size (p_steps (map p_task_view all) p_stop)
  one_before size none = only (line_before size) others (p_step (p_task_view t) p_stop) none ∙ ap (line_before size) (sym (tasks_last all others t is))

  pub more_before : (size : Option ℕ) → (length others == 0) ≡ false
      → chain_before size (map p_task_view others) ++ task_before None (p_task_view t) ≡ line_before size (p_steps (map p_task_view all) p_stop)
  more_before size more =
      chain_is size others (p_step (p_task_view t) p_stop) more refl refl ∙ ap (line_before size) (sym (tasks_last all others t is))

  pub one_behind : (length others == 0) ≡ true → task_behind (p_task_view t) ≡ line_behind (p_steps (map p_task_view all) p_stop)
  one_behind none = only line_behind others (p_step (p_task_view t) p_stop) none ∙ ap line_behind (sym (tasks_last all others t is))

  pub more_behind : (length others == 0) ≡ false
      → task_behind (p_task_view t) ++ chain_behind ≡ line_behind (p_steps (map p_task_view all) p_stop)
  more_behind more = chain_ends others (p_step (p_task_view t) p_stop) more refl ∙ ap line_behind (sym (tasks_last all others t is))

pub none_before : (size : Option ℕ) (ts : List FrozenTask) → length ts ≡ 0 → line_before size (p_steps (map p_task_view ts) p_stop) ≡ []
none_before size [] h = refl
none_before size (t ∷ ts) h = absurd cc

pub none_behind : (ts : List FrozenTask) → length ts ≡ 0 → line_behind (p_steps (map p_task_view ts) p_stop) ≡ []
none_behind [] h = refl
none_behind (t ∷ ts) h = absurd cc
