-- The elements of a frozen line, by its tasks and its end.
use Rattle.std.proofs.Common.{◌≡◌, ◌∙◌, ℕ, ◌+◌, ◌<◌, ◌==◌, true, false, arith, List, [], ◌∷◌, ◌++◌, map, length, drop, get_or, Option, Some, None, Box, Global, refl, sym, ap, ap₂, subst, append_assoc}
use Rattle.std.specs.Prelude.{codes}
use Rattle.std.proofs.lemmas.Bool.Decides.{nat_tests}
use Rattle.json.specs.Token.{Token, key, begin_array, begin_object, end_array, end_object}
use Rattle.serde_json.specs.Data.{Data, null, no_items}
use Rattle.canvas_task.specs.declared.arg.Arg.{Arg}
use Rattle.canvas_task.proofs.Turns.{item_first}
use Rattle.canvas_semantics.specs.PlacedLine.{PTask, PLine, p_stop}
use Rattle.canvas_values.specs.Writing.{args_wire, kwargs_wire, tasks_member, chord_members}
use Rattle.canvas_values.specs.steps.Tokens.{data_tokens, rest_tokens, rest_members, call_tokens, link_tokens, member_tokens, opening_tokens, kind_tokens, name_tokens}
use Rattle.canvas_rewrite.specs.FrozenView.{p_tasks_of, p_steps, p_lines_of, p_task_view, p_line_view, p_end_view}
use Rattle.canvas_rewrite.specs.declared.frozen.FrozenTask.{FrozenTask, out-FrozenTask}
use Rattle.canvas_rewrite.specs.declared.frozen.FrozenLine.{FrozenLine, out-FrozenLine}
use Rattle.canvas_rewrite.specs.declared.frozen.FrozenEnd.{FrozenEnd, out-FrozenEnd}
use Rattle.canvas_rewrite.specs.declared.frozen.Place.{Place, out-Place}
use Rattle.canvas_rewrite.specs.declared.frozen.Carried.{Carried, out-Carried}
use Rattle.canvas_envelope.specs.Content.{call_of, links_of, errbacks_of}
use Rattle.canvas_envelope.specs.MessageView.{place_view, place_seen}
use Rattle.canvas_envelope.specs.Wire.{list_or_null}
use Rattle.canvas_envelope.specs.steps.Tokens.{named_tokens, links_tokens}
use Rattle.canvas_envelope.proofs.Seen.{called, task_seen, chord_place, line_none, line_some, end_none, end_some}
use Rattle.canvas_celery.specs.Signatures.{Naming, task_id, Sig, group_sig, chord_sigs, task_sig, tasks_wire, elements, members_wire, first_wire, carried_wire}
use Rattle.canvas_celery.specs.steps.Elements.{front_tokens, call_front, sig_rest, first_front, each_tokens, task_sigs, tail_sigs, chord_option, group_options}
use Rattle.canvas_celery.proofs.Exported.Sigs.{tasks_items, is_some, options_of, group_framed, chord_framed}

-- ---- lists

pub tasks_dropped : (ts : List FrozenTask) (i : ℕ) (t : FrozenTask) → i < length ts → t ≡ get_or ts i t
    → map p_task_view (drop i ts) ≡ p_task_view t ∷ map p_task_view (drop (i + 1) ts)
tasks_dropped ts i t lt is = ap (map p_task_view) (item_first ts i t lt is)

-- ---- tasks

pub front_written : (t : FrozenTask) (args : List Arg) (kwargs : List (List ℕ × Arg)) → args ≡ (out-FrozenTask t).args → kwargs ≡ (out-FrozenTask t).kwargs
    → (call_tokens (args_wire args) (out-FrozenTask t).immutable (kwargs_wire kwargs) ++ key (codes "options") ∷ []) ++ begin_object ∷ []
    ≡ call_front (call_of (p_task_view t))
front_written t args kwargs ha hw =
    append_assoc (call_tokens (args_wire args) (out-FrozenTask t).immutable (kwargs_wire kwargs)) (key (codes "options") ∷ []) (begin_object ∷ [])
    ∙ (ap₂ (λ a w. call_tokens (args_wire a) (out-FrozenTask t).immutable (kwargs_wire w) ++ key (codes "options") ∷ begin_object ∷ []) ha hw
    ∙ sym (ap (λ v. call_front (call_of v)) (task_seen t)))

module _ (n : Naming) where
  pub no_link : (k : List ℕ) (ts : List FrozenTask) → (length ts == 0) ≡ true → link_tokens k (tasks_wire n (p_tasks_of (map p_task_view ts))) ≡ []
  no_link k [] h = refl
  no_link k (t ∷ ts) h = absurd (grind (arith, nat_tests))

  some_link : (k : List ℕ) (ts : List FrozenTask) → (length ts == 0) ≡ false
      → member_tokens k (tasks_wire n (p_tasks_of (map p_task_view ts))) ≡ link_tokens k (tasks_wire n (p_tasks_of (map p_task_view ts)))
  some_link k [] h = absurd cc
  some_link k (t ∷ ts) h = refl

  pub link_written : (k : List ℕ) (ts : List FrozenTask) → (length ts == 0) ≡ false
      → ((key k ∷ begin_array ∷ []) ++ each_tokens (task_sigs n (map p_task_view ts))) ++ end_array ∷ []
      ≡ link_tokens k (tasks_wire n (p_tasks_of (map p_task_view ts)))
  link_written k ts h = ap (λ x. key k ∷ begin_array ∷ x) (tasks_items n (map p_task_view ts)) ∙ some_link k ts h

  pub no_tasks : (ts : List FrozenTask) → (length ts == 0) ≡ true → data_tokens null
      ≡ data_tokens (list_or_null (tasks_wire n (p_tasks_of (map p_task_view ts))))
  no_tasks [] h = refl
  no_tasks (t ∷ ts) h = absurd (grind (arith, nat_tests))

  pub some_tasks : (ts : List FrozenTask) → (length ts == 0) ≡ false
      → begin_array ∷ rest_tokens (tasks_wire n (p_tasks_of (map p_task_view ts)))
      ≡ data_tokens (list_or_null (tasks_wire n (p_tasks_of (map p_task_view ts))))
  some_tasks [] h = absurd cc
  some_tasks (t ∷ ts) h = refl

  options_written : (t : FrozenTask)
      → ((chord_option n (place_seen (out-FrozenTask t).place) ++ group_options n (out-FrozenTask t).no (place_seen (out-FrozenTask t).place))
      ++ links_tokens (tasks_wire n (links_of (p_task_view t))) (tasks_wire n (errbacks_of (p_task_view t))))
      ++ (named_tokens (codes "task_id") (task_id n (out-FrozenTask t).no) ++ end_object ∷ [])
      ≡ rest_members (task_sig n (p_task_view t)).options
  options_written t =
      let p = place_seen (out-FrozenTask t).place in
      let k = (out-FrozenTask t).no in
      let P : PTask → Type 0 = λ v. ((chord_option n p ++ group_options n k p) ++ links_tokens (tasks_wire n (links_of v)) (tasks_wire n (errbacks_of v)))
      ++ (named_tokens (codes "task_id") (task_id n k) ++ end_object ∷ []) ≡ rest_members (task_sig n v).options in
      subst P (sym (task_seen t)) (options_of n k (called t) (p_tasks_of (map p_task_view (out-FrozenTask t).links))
      (p_tasks_of (map p_task_view (out-FrozenTask t).errbacks)) p)

  links_are : (t : FrozenTask) → links_tokens (tasks_wire n (links_of (p_task_view t))) (tasks_wire n (errbacks_of (p_task_view t)))
      ≡ links_tokens (tasks_wire n (p_tasks_of (map p_task_view (out-FrozenTask t).links)))
      (tasks_wire n (p_tasks_of (map p_task_view (out-FrozenTask t).errbacks)))
  links_are t = ap (λ x. links_tokens (tasks_wire n (links_of x)) (tasks_wire n (errbacks_of x))) (task_seen t)

  rest_written : (t : FrozenTask) (name : List ℕ) → name ≡ (out-FrozenTask t).name
      → rest_members (task_sig n (p_task_view t)).options ++ (kind_tokens null ++ name_tokens name) ≡ sig_rest (task_sig n (p_task_view t))
  rest_written t name same =
      let P : PTask → Type 0 = λ v. rest_members (task_sig n v).options ++ (kind_tokens null ++ name_tokens (call_of v).name) ≡ sig_rest (task_sig n v) in
      ap (λ x. rest_members (task_sig n (p_task_view t)).options ++ (kind_tokens null ++ name_tokens x))
      (same ∙ ap (λ v. (call_of v).name) (sym (task_seen t)))
      ∙ subst P (sym (task_seen t)) refl

  -- from the options on
  module _ (t : FrozenTask) (links errbacks : List FrozenTask) (name : List ℕ) where
    pub task_written : links ≡ (out-FrozenTask t).links → errbacks ≡ (out-FrozenTask t).errbacks → name ≡ (out-FrozenTask t).name
        → (((chord_option n (place_seen (out-FrozenTask t).place) ++ group_options n (out-FrozenTask t).no (place_seen (out-FrozenTask t).place))
        ++ links_tokens (tasks_wire n (p_tasks_of (map p_task_view links))) (tasks_wire n (p_tasks_of (map p_task_view errbacks))))
        ++ (named_tokens (codes "task_id") (task_id n (out-FrozenTask t).no) ++ end_object ∷ [])) ++ (kind_tokens null ++ name_tokens name)
        ≡ sig_rest (task_sig n (p_task_view t))
    task_written same_links same_errbacks same_name =
        let place : List Token = chord_option n (place_seen (out-FrozenTask t).place)
        ++ group_options n (out-FrozenTask t).no (place_seen (out-FrozenTask t).place) in
        let own : List Token = named_tokens (codes "task_id") (task_id n (out-FrozenTask t).no) ++ end_object ∷ [] in
        let last : List Token = kind_tokens null ++ name_tokens name in
        ap₂ (λ xs ys. ((place ++ links_tokens (tasks_wire n (p_tasks_of (map p_task_view xs))) (tasks_wire n (p_tasks_of (map p_task_view ys)))) ++ own)
        ++ last) same_links same_errbacks
        ∙ (ap (λ x. ((place ++ x) ++ own) ++ last) (sym (links_are t)) ∙ (ap (λ x. x ++ last) (options_written t) ∙ rest_written t name same_name))

  pub a_chord : (p : Place) (c : Carried) → (out-Place p).chord ≡ Some c
      → chord_option n (place_view p) ≡ named_tokens (codes "chord") (carried_wire (elements n (p_line_view (out-Carried c).body.value)))
  a_chord p c e = ap (chord_option n) (chord_place p c e)

  -- ---- lines

  steps_elements : (ts : List PTask) (e : PLine) → elements n (p_steps ts e) ≡ task_sigs n ts ++ elements n e
  steps_elements [] e = refl
  steps_elements (t ∷ ts) e = ap (λ x. task_sig n t ∷ x) (steps_elements ts e)

  steps_tail : (ts : List PTask) (e : PLine) → tail_sigs n (p_steps ts e) ≡ tail_sigs n e
  steps_tail [] e = refl
  steps_tail (t ∷ ts) e = steps_tail ts e

  end_by : (t : FrozenEnd) (o : Option FrozenLine) → (out-FrozenEnd t).body ≡ o → tail_sigs n (p_end_view t) ≡ elements n (p_end_view t)
  end_by t None e = ap (tail_sigs n) (end_none t e) ∙ sym (ap (elements n) (end_none t e))
  end_by t (Some b) e = ap (tail_sigs n) (end_some t b e) ∙ sym (ap (elements n) (end_some t b e))

  pub no_tail : (l : FrozenLine) → (out-FrozenLine l).tail ≡ None → tail_sigs n (p_line_view l) ≡ []
  no_tail l e = ap (tail_sigs n) (line_none l e) ∙ steps_tail (map p_task_view (out-FrozenLine l).tasks) p_stop

  pub a_tail : (l : FrozenLine) (b : Box FrozenEnd Global) → (out-FrozenLine l).tail ≡ Some b
      → tail_sigs n (p_line_view l) ≡ elements n (p_end_view b.value)
  a_tail l b e = ap (tail_sigs n) (line_some l b e) ∙ (steps_tail (map p_task_view (out-FrozenLine l).tasks) (p_end_view b.value)
      ∙ end_by b.value (out-FrozenEnd b.value).body refl)

  line_by : (l : FrozenLine) (o : Option (Box FrozenEnd Global)) → (out-FrozenLine l).tail ≡ o
      → elements n (p_line_view l) ≡ task_sigs n (map p_task_view (out-FrozenLine l).tasks) ++ tail_sigs n (p_line_view l)
  line_by l None e =
      ap (elements n) (line_none l e) ∙ (steps_elements (map p_task_view (out-FrozenLine l).tasks) p_stop
      ∙ ap (λ x. task_sigs n (map p_task_view (out-FrozenLine l).tasks) ++ x) (sym (no_tail l e)))
  line_by l (Some b) e =
      ap (elements n) (line_some l b e) ∙ (steps_elements (map p_task_view (out-FrozenLine l).tasks) (p_end_view b.value)
      ∙ ap (λ x. task_sigs n (map p_task_view (out-FrozenLine l).tasks) ++ x) (sym (a_tail l b e)))

  pub line_elements : (l : FrozenLine) (ts : List FrozenTask) → ts ≡ (out-FrozenLine l).tasks
      → elements n (p_line_view l) ≡ task_sigs n (map p_task_view ts) ++ tail_sigs n (p_line_view l)
  line_elements l ts same = line_by l (out-FrozenLine l).tail refl ∙ ap (λ xs. task_sigs n (map p_task_view xs) ++ tail_sigs n (p_line_view l)) (sym same)

  pub first_task : (l : FrozenLine) (ts others : List FrozenTask) (t : FrozenTask) → ts ≡ (out-FrozenLine l).tasks → ts ≡ t ∷ others
      → elements n (p_line_view l) ≡ task_sig n (p_task_view t) ∷ (task_sigs n (map p_task_view others) ++ tail_sigs n (p_line_view l))
  first_task l ts others t same split = line_elements l ts same ∙ ap (λ xs. task_sigs n (map p_task_view xs) ++ tail_sigs n (p_line_view l)) split

  few : (ts : List FrozenTask) (ss : List Sig) → length ts ≡ 0 → task_sigs n (map p_task_view ts) ++ ss ≡ ss
  few [] ss h = refl
  few (t ∷ ts) ss h = absurd cc

  pub only_tail : (l : FrozenLine) (ts : List FrozenTask) (b : Box FrozenEnd Global) (t : FrozenEnd) → ts ≡ (out-FrozenLine l).tasks → length ts ≡ 0
      → (out-FrozenLine l).tail ≡ Some b → t ≡ b.value
      → elements n (p_end_view t) ≡ elements n (p_line_view l)
  only_tail l ts b t same none e is =
      ap (λ x. elements n (p_end_view x)) is ∙ sym (line_elements l ts same ∙ (few ts (tail_sigs n (p_line_view l)) none ∙ a_tail l b e))

  pub no_element : (l : FrozenLine) (ts : List FrozenTask) → ts ≡ (out-FrozenLine l).tasks → length ts ≡ 0 → (out-FrozenLine l).tail ≡ None
      → elements n (p_line_view l) ≡ []
  no_element l ts same none e = line_elements l ts same ∙ (few ts (tail_sigs n (p_line_view l)) none ∙ no_tail l e)

  -- ---- groups and chords

  pub a_group : (t : FrozenEnd) → (out-FrozenEnd t).body ≡ None → elements n (p_end_view t)
      ≡ group_sig n (out-FrozenEnd t).group (members_wire n (p_lines_of (map p_line_view (out-FrozenEnd t).members))) ∷ []
  a_group t e = ap (elements n) (end_none t e)

  pub a_header : (t : FrozenEnd) (b : FrozenLine) → (out-FrozenEnd t).body ≡ Some b
      → elements n (p_end_view t) ≡ chord_sigs n (out-FrozenEnd t).group (members_wire n (p_lines_of (map p_line_view (out-FrozenEnd t).members)))
      (elements n (p_line_view b))
  a_header t b e = ap (elements n) (end_some t b e)

  some_by : (t : FrozenEnd) (o : Option FrozenLine) → (out-FrozenEnd t).body ≡ o → is_some (elements n (p_end_view t)) ≡ true
  some_by t None e = ap is_some (a_group t e)
  some_by t (Some b) e = ap is_some (a_header t b e)

  pub end_stands : (t : FrozenEnd) → is_some (elements n (p_end_view t)) ≡ true
  end_stands t = some_by t (out-FrozenEnd t).body refl

  pub group_front : (t : FrozenEnd) (ms : List FrozenLine) → (out-FrozenEnd t).body ≡ None → ms ≡ (out-FrozenEnd t).members
      → opening_tokens ++ (member_tokens (codes "tasks") (members_wire n (p_lines_of (map p_line_view ms)))
      ++ end_object ∷ key (codes "options") ∷ begin_object ∷ [])
      ≡ first_front (elements n (p_end_view t))
  group_front t ms e same =
      group_framed (members_wire n (p_lines_of (map p_line_view ms)))
      ∙ (ap (λ xs. front_tokens no_items false (tasks_member (members_wire n (p_lines_of (map p_line_view xs))))) same ∙ sym (ap first_front (a_group t e)))

  pub chord_front : (t : FrozenEnd) (b : FrozenLine) (ms : List FrozenLine) → (out-FrozenEnd t).body ≡ Some b → ms ≡ (out-FrozenEnd t).members
      → ((opening_tokens ++ key (codes "body") ∷ []) ++ data_tokens (first_wire (elements n (p_line_view b))))
      ++ (member_tokens (codes "header") (members_wire n (p_lines_of (map p_line_view ms))) ++ end_object ∷ key (codes "options") ∷ begin_object ∷ [])
      ≡ first_front (elements n (p_end_view t))
  chord_front t b ms e same =
      let body : Data = first_wire (elements n (p_line_view b)) in
      chord_framed body (members_wire n (p_lines_of (map p_line_view ms)))
      ∙ (ap (λ xs. front_tokens no_items false (chord_members body (members_wire n (p_lines_of (map p_line_view xs))))) same
      ∙ sym (ap first_front (a_header t b e)))
