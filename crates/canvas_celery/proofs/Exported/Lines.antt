-- The tokens of a frozen line, by its tasks and its end.
use Rattle.std.proofs.Common.{◌≡◌, ◌∙◌, ℕ, ◌+◌, ◌<◌, ◌≤◌, true, false, List, [], ◌∷◌, ◌++◌, map, reverse, length, drop, get_or, Some, Box, Global, refl, sym, ap, ap₂, subst, append_assoc, append-nil}
use Rattle.std.specs.Prelude.{codes, Result, Ok, Err}
use Rattle.json.specs.Written.{Written, Writes}
use Rattle.json.specs.Token.{Token, begin_array, end_array}
use Rattle.serde_json.specs.Data.{null}
use Rattle.canvas_task.proofs.Turns.{put_on, put_end, put_all}
use Rattle.canvas_semantics.specs.PlacedLine.{PLine, p_stop, p_step, p_group_end, p_chord_end}
use Rattle.canvas_values.specs.steps.Tokens.{Appends, data_tokens, rest_tokens, link_tokens}
use Rattle.canvas_values.proofs.Written.Writers.{Stands}
use Rattle.canvas_rewrite.specs.FrozenView.{p_lines_of, p_task_view, p_line_view, p_end_view}
use Rattle.canvas_rewrite.specs.declared.frozen.FrozenTask.{FrozenTask}
use Rattle.canvas_rewrite.specs.declared.frozen.FrozenLine.{FrozenLine, out-FrozenLine}
use Rattle.canvas_rewrite.specs.declared.frozen.FrozenEnd.{FrozenEnd, out-FrozenEnd}
use Rattle.canvas_envelope.specs.Content.{call_of}
use Rattle.canvas_envelope.specs.Wire.{list_or_null}
use Rattle.canvas_envelope.specs.steps.Parts.{is_stop}
use Rattle.canvas_celery.specs.Signatures.{Naming, Sig, task_sig, elements, members_wire, each_wire, behind, first_wire, carried_wire, member_wire}
use Rattle.canvas_celery.specs.steps.Elements.{call_front, sig_rest, sig_tokens, first_front, first_rest, each_tokens, task_sigs, tail_sigs}
use Rattle.canvas_celery.proofs.Exported.Sigs.{each-append, each_items, each_reversed, one_reversed, is_some, first_carried, first_then, first_last, task_carried, listed_back}
use Rattle.canvas_celery.proofs.Exported.Elements.{tasks_dropped, line_elements, first_task, only_tail, a_tail, end_stands, a_header}

-- ---- what was written

-- nothing
pub nothing : (old : Written) (ts : List Token) → ts ≡ [] → (old.tokens ≡ old.tokens ++ ts) × (old.before ≡ old.before)
nothing old ts e = (sym (ap (λ x. old.tokens ++ x) e ∙ append-nil old.tokens), refl)

-- one token
pub appended : {E : Type 0} (r : Result (Unit {0}) E) (old new : Written) (t : Token) → Writes r old new t → Appends r old new (t ∷ [])
appended (Ok x) old new t w = (w.ok, w.room.0)
appended (Err x) old new t w = tt

module _ (n : Naming) where
  pub next_task : (ts : List FrozenTask) (i : ℕ) (t : FrozenTask) (out new all : List Token) → i < length ts → t ≡ get_or ts i t
      → new ≡ out ++ sig_tokens (task_sig n (p_task_view t))
      → out ++ each_tokens (task_sigs n (map p_task_view (drop i ts))) ≡ all → new ++ each_tokens (task_sigs n (map p_task_view (drop (i + 1) ts))) ≡ all
  next_task ts i t out new all lt is written kept =
      put_on (λ us. each_tokens (task_sigs n (map p_task_view us))) ts i t (sig_tokens (task_sig n (p_task_view t))) out new all lt is refl kept written

  pub last_task : (ts : List FrozenTask) (i : ℕ) (out all : List Token) → length ts ≤ i
      → out ++ each_tokens (task_sigs n (map p_task_view (drop i ts))) ≡ all → out ≡ all
  last_task ts i out all le kept = put_all (λ us. each_tokens (task_sigs n (map p_task_view us))) ts i out all le refl kept

  pub next_line : (ls : List FrozenLine) (i : ℕ) (l : FrozenLine) (out new all : List Token) → i < length ls → l ≡ get_or ls i l
      → new ≡ out ++ data_tokens (member_wire (elements n (p_line_view l)))
      → out ++ rest_tokens (members_wire n (p_lines_of (map p_line_view (drop i ls)))) ≡ all
      → new ++ rest_tokens (members_wire n (p_lines_of (map p_line_view (drop (i + 1) ls)))) ≡ all
  next_line ls i l out new all lt is written kept =
      put_on (λ ms. rest_tokens (members_wire n (p_lines_of (map p_line_view ms)))) ls i l (data_tokens (member_wire (elements n (p_line_view l)))) out new all
      lt is refl kept written

  pub last_line : (ls : List FrozenLine) (i : ℕ) (old out new : Written) (all : List Token) → length ls ≤ i
      → (out.tokens ++ rest_tokens (members_wire n (p_lines_of (map p_line_view (drop i ls)))) ≡ old.tokens ++ all) × (out.before ≡ old.before)
      → Stands out new (end_array ∷ []) → Stands old new all
  last_line ls i old out new all le kept ended = (
    put_end (λ ms. rest_tokens (members_wire n (p_lines_of (map p_line_view ms)))) ls i out.tokens new.tokens (old.tokens ++ all) le kept.0 ended.0,
    ended.1 ∙ kept.1,
  )

  pub task_before : (ts : List FrozenTask) (j i : ℕ) (t : FrozenTask) (out new old : List Token) → i ≡ j + 1 → j < length ts → t ≡ get_or ts j t
      → new ≡ out ++ sig_tokens (task_sig n (p_task_view t))
      → out ≡ old ++ each_tokens (reverse (task_sigs n (map p_task_view (drop i ts))))
      → new ≡ old ++ each_tokens (reverse (task_sigs n (map p_task_view (drop j ts))))
  task_before ts j i t out new old step lt is written kept =
      let s : Sig = task_sig n (p_task_view t) in
      let ss : List Sig = task_sigs n (map p_task_view (drop (j + 1) ts)) in
      let so_far : out ≡ old ++ each_tokens (reverse ss) = kept ∙ ap (λ k. old ++ each_tokens (reverse (task_sigs n (map p_task_view (drop k ts))))) step in
      written ∙ (ap (λ x. x ++ sig_tokens s) so_far ∙ (append_assoc old (each_tokens (reverse ss)) (sig_tokens s)
      ∙ (ap (λ x. old ++ x) (one_reversed s ss) ∙ ap (λ vs. old ++ each_tokens (reverse (task_sigs n vs))) (sym (tasks_dropped ts j t lt is)))))

  -- ---- elements

  pub elements_written : (l : FrozenLine) (ts : List FrozenTask) → ts ≡ (out-FrozenLine l).tasks
      → (each_tokens (task_sigs n (map p_task_view ts)) ++ each_tokens (tail_sigs n (p_line_view l))) ++ end_array ∷ []
      ≡ rest_tokens (each_wire (elements n (p_line_view l)))
  elements_written l ts same =
      ap (λ x. x ++ end_array ∷ []) (sym (each-append (task_sigs n (map p_task_view ts)) (tail_sigs n (p_line_view l))))
      ∙ (each_items (task_sigs n (map p_task_view ts) ++ tail_sigs n (p_line_view l))
      ∙ ap (λ ss. rest_tokens (each_wire ss)) (sym (line_elements n l ts same)))

  pub turned_written : (l : FrozenLine) (ts : List FrozenTask) → ts ≡ (out-FrozenLine l).tasks
      → (each_tokens (reverse (tail_sigs n (p_line_view l))) ++ each_tokens (reverse (task_sigs n (map p_task_view ts)))) ++ end_array ∷ []
      ≡ rest_tokens (each_wire (reverse (elements n (p_line_view l))))
  turned_written l ts same =
      ap (λ x. x ++ end_array ∷ []) (each_reversed (task_sigs n (map p_task_view ts)) (tail_sigs n (p_line_view l)))
      ∙ (each_items (reverse (task_sigs n (map p_task_view ts) ++ tail_sigs n (p_line_view l)))
      ∙ ap (λ ss. rest_tokens (each_wire (reverse ss))) (sym (line_elements n l ts same)))

  -- ---- a task in front

  module _ (l : FrozenLine) (ts others : List FrozenTask) (t : FrozenTask) (same : ts ≡ (out-FrozenLine l).tasks) (split : ts ≡ t ∷ others) where
    pub task_first : sig_tokens (task_sig n (p_task_view t)) ≡ data_tokens (first_wire (elements n (p_line_view l)))
    task_first = ap (λ ss. data_tokens (first_wire ss)) (sym (first_task n l ts others t same split))

    pub carried_task : (call_front (call_of (p_task_view t)) ++ link_tokens (codes "chain") (each_wire (reverse (behind (elements n (p_line_view l))))))
        ++ sig_rest (task_sig n (p_task_view t))
        ≡ data_tokens (carried_wire (elements n (p_line_view l)))
    carried_task =
        let P : List Sig → Type 0 = λ ss. (call_front (call_of (p_task_view t)) ++ link_tokens (codes "chain") (each_wire (reverse (behind ss))))
        ++ sig_rest (task_sig n (p_task_view t)) ≡ data_tokens (carried_wire ss) in
        subst P (sym (first_task n l ts others t same split)) (task_carried n (p_task_view t)
        (task_sigs n (map p_task_view others) ++ tail_sigs n (p_line_view l)))

    pub others_written : each_tokens (task_sigs n (map p_task_view others)) ++ each_tokens (tail_sigs n (p_line_view l))
        ≡ each_tokens (behind (elements n (p_line_view l)))
    others_written =
        sym (each-append (task_sigs n (map p_task_view others)) (tail_sigs n (p_line_view l)))
        ∙ ap (λ ss. each_tokens (behind ss)) (sym (first_task n l ts others t same split))

    pub others_turned : each_tokens (reverse (tail_sigs n (p_line_view l))) ++ each_tokens (reverse (task_sigs n (map p_task_view others)))
        ≡ each_tokens (reverse (behind (elements n (p_line_view l))))
    others_turned =
        each_reversed (task_sigs n (map p_task_view others)) (tail_sigs n (p_line_view l))
        ∙ ap (λ ss. each_tokens (reverse (behind ss))) (sym (first_task n l ts others t same split))

  -- ---- only a group or chord

  module _ (l : FrozenLine) (ts : List FrozenTask) (b : Box FrozenEnd Global) (same : ts ≡ (out-FrozenLine l).tasks) (none : length ts ≡ 0)
      (some : (out-FrozenLine l).tail ≡ Some b) where
    pub end_first : (t : FrozenEnd) → t ≡ b.value → data_tokens (first_wire (elements n (p_end_view t)))
        ≡ data_tokens (first_wire (elements n (p_line_view l)))
    end_first t is = ap (λ ss. data_tokens (first_wire ss)) (only_tail n l ts b t same none some is)

    pub carried_end : (t u : FrozenEnd) → t ≡ b.value → u ≡ b.value
        → (first_front (elements n (p_end_view t)) ++ link_tokens (codes "chain") (each_wire (reverse (behind (elements n (p_line_view l))))))
        ++ first_rest (elements n (p_end_view u))
        ≡ data_tokens (carried_wire (elements n (p_line_view l)))
    carried_end t u is so =
        let e = only_tail n l ts b t same none some is in
        ap₂ (λ xs ys. (first_front xs ++ link_tokens (codes "chain") (each_wire (reverse (behind (elements n (p_line_view l)))))) ++ first_rest ys) e
        (only_tail n l ts b u same none some so)
        ∙ first_carried (elements n (p_line_view l)) (ap is_some (sym e) ∙ end_stands n t)

    pub end_behind : (t : FrozenEnd) → t ≡ b.value → each_tokens (behind (elements n (p_end_view t))) ≡ each_tokens (behind (elements n (p_line_view l)))
    end_behind t is = ap (λ ss. each_tokens (behind ss)) (only_tail n l ts b t same none some is)

    pub end_turned : (t : FrozenEnd) → t ≡ b.value → each_tokens (reverse (behind (elements n (p_end_view t))))
        ≡ each_tokens (reverse (behind (elements n (p_line_view l))))
    end_turned t is = ap (λ ss. each_tokens (reverse (behind ss))) (only_tail n l ts b t same none some is)

  -- ---- the group or chord that a line ends in

  module _ (l : FrozenLine) (b : Box FrozenEnd Global) (some : (out-FrozenLine l).tail ≡ Some b) (t u : FrozenEnd) (is : t ≡ b.value) (so : u ≡ b.value)
    where
      pub tail_written : data_tokens (first_wire (elements n (p_end_view t))) ++ each_tokens (behind (elements n (p_end_view u)))
          ≡ each_tokens (tail_sigs n (p_line_view l))
      tail_written =
          ap₂ (λ x y. data_tokens (first_wire (elements n (p_end_view x))) ++ each_tokens (behind (elements n (p_end_view y)))) is so
          ∙ (first_then (elements n (p_end_view b.value)) (end_stands n b.value) ∙ ap each_tokens (sym (a_tail n l b some)))

      pub tail_turned : each_tokens (reverse (behind (elements n (p_end_view t)))) ++ data_tokens (first_wire (elements n (p_end_view u)))
          ≡ each_tokens (reverse (tail_sigs n (p_line_view l)))
      tail_turned =
          ap₂ (λ x y. each_tokens (reverse (behind (elements n (p_end_view x)))) ++ data_tokens (first_wire (elements n (p_end_view y)))) is so
          ∙ (first_last (elements n (p_end_view b.value)) (end_stands n b.value) ∙ ap (λ ss. each_tokens (reverse ss)) (sym (a_tail n l b some)))

  pub body_behind : (t : FrozenEnd) (b : FrozenLine) → (out-FrozenEnd t).body ≡ Some b
      → behind (elements n (p_line_view b)) ≡ behind (elements n (p_end_view t))
  body_behind t b e = sym (ap behind (a_header n t b e))

  -- ---- what follows on a message's line

  pub stop_listed : (l : PLine) → is_stop l ≡ true → data_tokens null ≡ data_tokens (list_or_null (each_wire (reverse (elements n l))))
  stop_listed p_stop h = refl
  stop_listed (p_step t l) h = absurd cc
  stop_listed (p_group_end g ms) h = absurd cc
  stop_listed (p_chord_end g ms b) h = absurd cc

  some_elements : (l : PLine) → is_stop l ≡ false → is_some (elements n l) ≡ true
  some_elements p_stop h = absurd cc
  some_elements (p_step t l) h = refl
  some_elements (p_group_end g ms) h = refl
  some_elements (p_chord_end g ms b) h = refl

  listed : (ss : List Sig) → is_some ss ≡ true → begin_array ∷ rest_tokens (each_wire (reverse ss)) ≡ data_tokens (list_or_null (each_wire (reverse ss)))
  listed [] h = absurd cc
  listed (s ∷ ss) h = listed_back s ss

  pub rest_listed : (l : PLine) → is_stop l ≡ false → begin_array ∷ rest_tokens (each_wire (reverse (elements n l)))
      ≡ data_tokens (list_or_null (each_wire (reverse (elements n l))))
  rest_listed l h = listed (elements n l) (some_elements l h)
