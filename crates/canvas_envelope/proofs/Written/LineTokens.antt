-- The tokens of a line, by its tasks and its end.
use Rattle.std.proofs.Common.{◌≡◌, ◌∙◌, ℕ, true, false, arith, List, [], ◌∷◌, ◌++◌, map, length, ◌==◌, get_or, Option, Some, None, Box, Global, refl, sym, ap, ap₂, append_assoc, append-nil}
use Rattle.std.specs.Prelude.{codes}
use Rattle.std.proofs.lemmas.Bool.Decides.{nat_tests}
use Rattle.json.specs.Token.{Token, begin_array, end_array, end_object, key}
use Rattle.serde_json.specs.Data.{Data, null, string, array, Items, no_items, item}
use Rattle.canvas_values.specs.steps.Tokens.{data_tokens, rest_tokens, closing_tokens}
use Rattle.canvas_semantics.specs.PlacedLine.{PTask, PLine, p_stop, p_step, p_group_end, p_chord_end}
use Rattle.canvas_rewrite.specs.FrozenView.{p_tasks_of, p_steps, p_task_view, p_line_view, p_end_view}
use Rattle.canvas_rewrite.specs.declared.frozen.FrozenTask.{FrozenTask}
use Rattle.canvas_rewrite.specs.declared.frozen.FrozenLine.{FrozenLine, out-FrozenLine}
use Rattle.canvas_rewrite.specs.declared.frozen.FrozenEnd.{FrozenEnd, out-FrozenEnd}
use Rattle.canvas_envelope.specs.steps.Parts.{is_stop}
use Rattle.canvas_envelope.specs.SharedTexts.{backwards}
use Rattle.canvas_envelope.specs.steps.Tokens.{opening_tokens, each_tokens, chain_before, chain_behind, tasks_of_line, tail_tokens}
use Rattle.canvas_envelope.proofs.Written.TaskTokens.{chain_tokens}
use Rattle.canvas_envelope.specs.Wire.{chain_wire, task_wire, line_wire, elements_wire, onto_reversed, tasks_wire, list_or_null}
use Rattle.canvas_envelope.proofs.FitLemmas.{end_stands, never_stops}
use Rattle.canvas_envelope.proofs.Seen.{line_none, line_some, end_none, end_some}

-- ---- elements

pub elements_tokens : (l : PLine) → rest_tokens (elements_wire l) ≡ each_tokens (tasks_of_line l) ++ (tail_tokens l ++ end_array ∷ [])
elements_tokens p_stop = refl
elements_tokens (p_step t l) =
    ap (λ x. data_tokens (task_wire None t) ++ x) (elements_tokens l)
    ∙ sym (append_assoc (data_tokens (task_wire None t)) (each_tokens (tasks_of_line l)) (tail_tokens l ++ end_array ∷ []))
elements_tokens (p_group_end g ms) = refl
elements_tokens (p_chord_end g ms b) = refl

-- ---- views

in_steps : (ts : List PTask) (e : PLine) → tasks_of_line e ≡ [] → tasks_of_line (p_steps ts e) ≡ ts
in_steps [] e h = h
in_steps (t ∷ ts) e h = ap (λ us. t ∷ us) (in_steps ts e h)

no_tasks_by : (t : FrozenEnd) (o : Option FrozenLine) → (out-FrozenEnd t).body ≡ o → tasks_of_line (p_end_view t) ≡ []
no_tasks_by t None e = ap tasks_of_line (end_none t e)
no_tasks_by t (Some b) e = ap tasks_of_line (end_some t b e)

tasks_by : (l : FrozenLine) (o : Option (Box FrozenEnd Global)) → (out-FrozenLine l).tail ≡ o
    → tasks_of_line (p_line_view l) ≡ map p_task_view (out-FrozenLine l).tasks
tasks_by l None e = ap tasks_of_line (line_none l e) ∙ in_steps (map p_task_view (out-FrozenLine l).tasks) p_stop refl
tasks_by l (Some b) e =
    ap tasks_of_line (line_some l b e)
    ∙ in_steps (map p_task_view (out-FrozenLine l).tasks) (p_end_view b.value) (no_tasks_by b.value (out-FrozenEnd b.value).body refl)

pub tasks_seen : (l : FrozenLine) → tasks_of_line (p_line_view l) ≡ map p_task_view (out-FrozenLine l).tasks
tasks_seen l = tasks_by l (out-FrozenLine l).tail refl

tail_steps : (ts : List PTask) (e : PLine) → tail_tokens (p_steps ts e) ≡ tail_tokens e
tail_steps [] e = refl
tail_steps (t ∷ ts) e = tail_steps ts e

tail_by : (t : FrozenEnd) (o : Option FrozenLine) → (out-FrozenEnd t).body ≡ o → tail_tokens (p_end_view t) ≡ data_tokens (line_wire None (p_end_view t))
tail_by t None e = ap tail_tokens (end_none t e) ∙ ap (λ x. data_tokens (line_wire None x)) (sym (end_none t e))
tail_by t (Some b) e = ap tail_tokens (end_some t b e) ∙ ap (λ x. data_tokens (line_wire None x)) (sym (end_some t b e))

pub no_tail : (l : FrozenLine) → (out-FrozenLine l).tail ≡ None → tail_tokens (p_line_view l) ≡ []
no_tail l e = ap tail_tokens (line_none l e) ∙ tail_steps (map p_task_view (out-FrozenLine l).tasks) p_stop

pub a_tail : (l : FrozenLine) (b : Box FrozenEnd Global) → (out-FrozenLine l).tail ≡ Some b
    → tail_tokens (p_line_view l) ≡ data_tokens (line_wire None (p_end_view b.value))
a_tail l b e = ap tail_tokens (line_some l b e) ∙ tail_steps (map p_task_view (out-FrozenLine l).tasks) (p_end_view b.value)
    ∙ tail_by b.value (out-FrozenEnd b.value).body refl

-- a chain, around its last element where that is a group or chord
chain_around : (size : Option ℕ) (l : PLine) → (chain_before size (tasks_of_line l) ++ tail_tokens l) ++ chain_behind ≡ data_tokens (chain_wire size
    (elements_wire l))
chain_around size l =
    let c : List Token = closing_tokens (string (codes "chain")) (codes "celery.chain") in
    together (opening_tokens size) (each_tokens (tasks_of_line l)) (tail_tokens l) c (key (codes "tasks")) begin_array end_array end_object
    ∙ ap (λ x. opening_tokens size ++ (((key (codes "tasks") ∷ begin_array ∷ x) ++ end_object ∷ []) ++ c)) (sym (elements_tokens l))
    ∙ chain_tokens size (elements_wire l)
  where
    together : (o f a c : List Token) (k x y w : Token)
        → ((o ++ k ∷ x ∷ f) ++ a) ++ y ∷ w ∷ c ≡ o ++ (((k ∷ x ∷ (f ++ (a ++ y ∷ []))) ++ w ∷ []) ++ c)
    together o f a c k x y w = simp append_assoc

-- ---- one element, or a chain

step_chain : (size : Option ℕ) (t : PTask) (l : PLine) → is_stop l ≡ false → line_wire size (p_step t l) ≡ chain_wire size (elements_wire (p_step t l))
step_chain size t p_stop h = absurd cc
step_chain size t (p_step u l) h = refl
step_chain size t (p_group_end g ms) h = refl
step_chain size t (p_chord_end g ms b) h = refl

abbrev line : List FrozenTask → PLine → PLine
line ts e = p_steps (map p_task_view ts) e

longer_end : (size : Option ℕ) (ts : List FrozenTask) (t : FrozenEnd) → (length ts == 0) ≡ false
    → line_wire size (line ts (p_end_view t)) ≡ chain_wire size (elements_wire (line ts (p_end_view t)))
longer_end size [] t h = absurd cc
longer_end size (u ∷ us) t h = step_chain size (p_task_view u) (line us (p_end_view t)) (never_stops (map p_task_view us) (p_end_view t) (end_stands t))

only_end : (size : Option ℕ) (ts : List FrozenTask) (t : FrozenEnd) → (length ts == 0) ≡ true
    → line_wire size (line ts (p_end_view t)) ≡ line_wire size (p_end_view t)
only_end size [] t h = refl
only_end size (u ∷ us) t h = absurd (grind (arith, nat_tests))

longer_tasks : (size : Option ℕ) (ts : List FrozenTask) → (length ts ≡ 1 → ⊥)
    → line_wire size (line ts p_stop) ≡ chain_wire size (elements_wire (line ts p_stop))
longer_tasks size [] h = refl
longer_tasks size (t ∷ []) h = absurd (h refl)
longer_tasks size (t ∷ u ∷ us) h = refl

only_task : (size : Option ℕ) (ts : List FrozenTask) (t : FrozenTask) → length ts ≡ 1 → t ≡ get_or ts 0 t
    → line_wire size (line ts p_stop) ≡ task_wire size (p_task_view t)
only_task size [] t h at = absurd cc
only_task size (u ∷ []) t h at = ap (λ x. task_wire size (p_task_view x)) (sym at)
only_task size (u ∷ v ∷ vs) t h at = absurd (omega (arith, h))

module _ (size : Option ℕ) (l : FrozenLine) (ts : List FrozenTask) (same : ts ≡ (out-FrozenLine l).tasks) where
  seen_some : (b : Box FrozenEnd Global) → (out-FrozenLine l).tail ≡ Some b → p_line_view l ≡ line ts (p_end_view b.value)
  seen_some b e = line_some l b e ∙ ap (λ xs. line xs (p_end_view b.value)) (sym same)

  seen_none : (out-FrozenLine l).tail ≡ None → p_line_view l ≡ line ts p_stop
  seen_none e = line_none l e ∙ ap (λ xs. line xs p_stop) (sym same)

  front : map p_task_view ts ≡ tasks_of_line (p_line_view l)
  front = ap (map p_task_view) same ∙ sym (tasks_seen l)

  pub is_end : (b : Box FrozenEnd Global) (t : FrozenEnd) → (out-FrozenLine l).tail ≡ Some b → t ≡ b.value → (length ts == 0) ≡ true
      → line_wire size (p_end_view t) ≡ line_wire size (p_line_view l)
  is_end b t e there h = ap (λ x. line_wire size (p_end_view x)) there ∙ sym (ap (line_wire size) (seen_some b e) ∙ only_end size ts b.value h)

  pub is_chain_to_end : (b : Box FrozenEnd Global) (t : FrozenEnd) → (out-FrozenLine l).tail ≡ Some b → t ≡ b.value → (length ts == 0) ≡ false
      → (chain_before size (map p_task_view ts) ++ data_tokens (line_wire None (p_end_view t))) ++ chain_behind ≡ data_tokens (line_wire size (p_line_view l))
  is_chain_to_end b t e there h =
      ap₂ (λ xs x. (chain_before size xs ++ x) ++ chain_behind) front (ap (λ x. data_tokens (line_wire None (p_end_view x))) there ∙ sym (a_tail l b e))
      ∙ chain_around size (p_line_view l)
      ∙ ap (λ x. data_tokens (chain_wire size (elements_wire x))) (seen_some b e)
      ∙ ap data_tokens (sym (ap (line_wire size) (seen_some b e) ∙ longer_end size ts b.value h))

  pub is_task : (t : FrozenTask) → (out-FrozenLine l).tail ≡ None → length ts ≡ 1 → t ≡ get_or ts 0 t
      → task_wire size (p_task_view t) ≡ line_wire size (p_line_view l)
  is_task t e h at = sym (ap (line_wire size) (seen_none e) ∙ only_task size ts t h at)

  pub is_chain : (out-FrozenLine l).tail ≡ None → (length ts ≡ 1 → ⊥)
      → chain_before size (map p_task_view ts) ++ chain_behind ≡ data_tokens (line_wire size (p_line_view l))
  is_chain e h =
      let v : PLine = p_line_view l in
      ap (λ xs. chain_before size xs ++ chain_behind) front
      ∙ ap (λ x. x ++ chain_behind) (sym (ap (λ x. chain_before size (tasks_of_line v) ++ x) (no_tail l e) ∙ append-nil (chain_before size (tasks_of_line v))))
      ∙ chain_around size v
      ∙ ap (λ x. data_tokens (chain_wire size (elements_wire x))) (seen_none e)
      ∙ ap data_tokens (sym (ap (line_wire size) (seen_none e) ∙ longer_tasks size ts h))

-- ---- lists that may be null

pub some_tasks : (ts : List FrozenTask) → (length ts == 0) ≡ false
    → array (tasks_wire (p_tasks_of (map p_task_view ts))) ≡ list_or_null (tasks_wire (p_tasks_of (map p_task_view ts)))
some_tasks [] h = absurd cc
some_tasks (t ∷ ts) h = refl

pub no_tasks : (ts : List FrozenTask) → (length ts == 0) ≡ true → null ≡ list_or_null (tasks_wire (p_tasks_of (map p_task_view ts)))
no_tasks [] h = refl
no_tasks (t ∷ ts) h = absurd (grind (arith, nat_tests))

never_null : (ds : Items) (d : Data) (more : Items) → list_or_null (onto_reversed ds (item d more)) ≡ array (onto_reversed ds (item d more))
never_null no_items d more = refl
never_null (item e es) d more = never_null es e (item d more)

pub some_following : (l : PLine) → is_stop l ≡ false → array (backwards l) ≡ list_or_null (onto_reversed (elements_wire l) no_items)
some_following p_stop h = absurd cc
some_following (p_step t l) h = sym (never_null (elements_wire l) (task_wire None t) no_items)
some_following (p_group_end g ms) h = refl
some_following (p_chord_end g ms b) h = refl
