-- The parts of a value are less deep than it, so one level more than JSON that can be read has leaves no frozen signature out.
use Rattle.std.proofs.Common.{◌≡◌, ℕ, zero, suc, ◌<◌, ◌≤◌, List, [], ◌∷◌, ◌++◌, map, reverse, Bool, true, false, Option, Some, None, refl, sym, ap, ap₂, subst, arith, le_refl}
use Rattle.std.specs.Prelude.{unwrap_or, codes, not, ◌&&◌, ◌||◌, if◌then◌else◌, is_some, is_none}
use Rattle.std.specs.List.{list_any}
use Rattle.std.specs.Str.{is_utf8}
use Rattle.std.proofs.lemmas.List.{reverse-append}
use Rattle.serde_json.specs.Data.{Data, null, boolean, number, string, array, object, no_items, item, depth}
use Rattle.serde_json.specs.Read.{max_depth, read}
use Rattle.serde_json.proofs.Nesting.{depth-read}
use Rattle.canvas_task.specs.Text.{Text}
use Rattle.canvas_values.specs.CanvasText.{json_of}
use Rattle.canvas_values.specs.Fields.{object_members, text_of, is_list_or_null, is_object_or_null, field, subtype, option, tasks, header, body, link, link_error, listed, as_list, is_null}
use Rattle.canvas_values.specs.Grammar.{argument_of, own_fault, primitive_of}
use Rattle.canvas_values.specs.Refusals.{named_of}
use Rattle.canvas_values.specs.declared.primitive.Primitive.{Primitive}
use Rattle.canvas_values.specs.declared.primitive.Primitive.TheVariants as kind
use Rattle.canvas_values.proofs.Depth.{AllLow, field_low, listed_low, inner_low, link_low, same_map}
use Rattle.canvas_rewrite.specs.FrozenView.{p_tasks_of, p_lines_of}
use Rattle.canvas_semantics.specs.PlacedLine.{PTask, p_task, PPlace, p_nowhere, p_group, p_chord, PLine, p_step, p_stop, p_group_end, p_chord_end}
use Rattle.canvas_envelope.specs.FrozenGrammar.{task_of, group_of, is_chain, levels}
use Rattle.canvas_envelope.specs.EnvelopeContent.{task_number, args_in, kwargs_in, embed_in, json_in, content_in, content_said, group_number, size_in, place_from, task_from, element_from, line_from, task_within, last_within, line_within, task_in, last_in, line_in}
use Rattle.canvas_envelope.specs.EnvelopeFaults.{not_json, not_version_2, bad_id, bad_content_type, bad_body, bad_args, bad_members, bad_embed, first_of, envelope_fault, bad_size, bad_place, bad_task_by, bad_group_by, bad_chord_by, bad_last_by, bad_elements, bad_task_within, bad_last_within, bad_line_within, bad_task, bad_last, bad_line}
use Rattle.canvas_envelope.specs.Content.{Content}
use Rattle.canvas_envelope.specs.Fits.{fits}
use Rattle.canvas_envelope.specs.declared.fault.MessageFault.TheVariants.{NotJson, NotVersion2, BadId, BadContentType, BadBody, BadArgs, BadEmbed}
use Rattle.canvas_codec.specs.FrozenParts.{bad_members_within, content_within, bad_embed_within, envelope_fault_within, SameEnvelope, ReadsShallow, bad_line_by, line_by, RefusedByParts, SaidByParts, SameWithin}

read_of : (b : Bool) (o : Option Data) (d : Data) → (if b then o else None) ≡ Some d → o ≡ Some d
read_of true o d h = h
read_of false o d h = absurd cc

pub reads_shallow : ReadsShallow
reads_shallow text d h = depth-read text d (read_of (is_utf8 text) (read text) d h)

-- two functions agree on what is less deep than the number
abbrev Agree : {B : Type 0} → ℕ → (Data → B) → (Data → B) → Type 0
Agree k f g = (d : Data) → depth d < k → f d ≡ g d

-- ---- refusals

module _ (n : ℕ) where
  same_any : (f g : Data → Bool) → Agree (suc n) f g → (ds : List Data) → AllLow n ds → list_any f ds ≡ list_any g ds
  same_any f g same [] low = refl
  same_any f g same (d ∷ ds) low = ap₂ (λ a b. a || b) (same d (omega (arith, low.0))) (same_any f g same ds low.1)

  same_elements : (s t e f : Data → Bool) → Agree (suc n) s t → Agree (suc n) e f → (ds : List Data) → AllLow n ds → bad_elements s e ds ≡ bad_elements t f ds
  same_elements s t e f tasks_same lasts_same [] low = refl
  same_elements s t e f tasks_same lasts_same (d ∷ []) low = lasts_same d (omega (arith, low.0))
  same_elements s t e f tasks_same lasts_same (d ∷ x ∷ ds) low =
      ap₂ (λ a b. a || b) (tasks_same d (omega (arith, low.0))) (same_elements s t e f tasks_same lasts_same (x ∷ ds) low.1)

  tasks_low : (d : Data) → depth d ≤ suc n → AllLow n (listed (tasks d))
  tasks_low d low = listed_low (tasks d) n (inner_low (codes "tasks") (codes "kwargs") d n low)

  header_low : (d : Data) → depth d ≤ suc n → AllLow n (listed (header d))
  header_low d low = listed_low (header d) n (inner_low (codes "header") (codes "kwargs") d n low)

  body_low : (d : Data) → depth d ≤ suc n → depth (body d) < suc n
  body_low d low = let l = inner_low (codes "body") (codes "kwargs") d n low in omega arith

  carried_low : (d : Data) → depth d ≤ suc n → depth (option (codes "chord") d) < suc n
  carried_low d low = let l = inner_low (codes "chord") (codes "options") d n low in omega arith

  module _ (s t f g : Data → Bool) (tasks_same : Agree (suc n) s t) (lines_same : Agree (suc n) f g) where
    same_place : (group_at body_at : Data) → depth body_at < suc n → bad_place f group_at body_at ≡ bad_place g group_at body_at
    same_place group_at body_at low =
        ap (λ b. if is_null group_at then not (is_null body_at) else (is_none (group_of group_at) || (not (is_null body_at) && (bad_size (field (codes "chord_size") body_at) || b)))) (lines_same body_at low)

    same_bad_task : (d : Data) → depth d ≤ suc n → bad_task_by s f d ≡ bad_task_by t g d
    same_bad_task d low =
        let links = same_any s t tasks_same (as_list (link d)) (link_low (codes "link") d n low) in
        let errbacks = same_any s t tasks_same (as_list (link_error d)) (link_low (codes "link_error") d n low) in
        let place = same_place (option (codes "group_id") d) (option (codes "chord") d) (carried_low d low) in
        rw (links, errbacks, place) refl

    same_bad_group : (d : Data) → depth d ≤ suc n → bad_group_by f d ≡ bad_group_by g d
    same_bad_group d low = let members = same_any f g lines_same (listed (tasks d)) (tasks_low d low) in rw (members) refl

    same_bad_chord : (d : Data) → depth d ≤ suc n → bad_chord_by f d ≡ bad_chord_by g d
    same_bad_chord d low =
        let members = same_any f g lines_same (listed (header d)) (header_low d low) in
        let behind = lines_same (body d) (body_low d low) in
        rw (members, behind) refl

    same_bad_last : (p : Option Primitive) (d : Data) → depth d ≤ suc n → bad_last_by s f p d ≡ bad_last_by t g p d
    same_bad_last None d low = same_bad_task d low
    same_bad_last (Some kind.Task) d low = same_bad_task d low
    same_bad_last (Some kind.Chain) d low = same_bad_task d low
    same_bad_last (Some kind.Group) d low = same_bad_group d low
    same_bad_last (Some kind.Chord) d low = same_bad_chord d low

    same_bad_line : (e h : Data → Bool) → Agree (suc n) e h → (d : Data) → depth d ≤ suc n → bad_line_by s e f d ≡ bad_line_by t h g d
    same_bad_line e h lasts_same d low =
        ap₂ (λ a b. if is_chain d then is_some (own_fault false d) || a else b)
        (same_elements s t e h tasks_same lasts_same (listed (tasks d)) (tasks_low d low))
        (same_bad_last (primitive_of (subtype d)) d low)

-- a value that is neither a list nor an object has no parts
module _ (s t f g : Data → Bool) where
  flat_task : (d : Data) → depth d ≤ 0 → bad_task_by s f d ≡ bad_task_by t g d
  flat_task null low = refl
  flat_task (boolean b) low = refl
  flat_task (number x) low = refl
  flat_task (string x) low = refl
  flat_task (array ds) low = absurd (omega arith)
  flat_task (object ms) low = absurd (omega arith)

  flat_last : (d : Data) → depth d ≤ 0 → bad_last_by s f (primitive_of (subtype d)) d ≡ bad_last_by t g (primitive_of (subtype d)) d
  flat_last null low = refl
  flat_last (boolean b) low = refl
  flat_last (number x) low = refl
  flat_last (string x) low = refl
  flat_last (array ds) low = absurd (omega arith)
  flat_last (object ms) low = absurd (omega arith)

  flat_line : (e h : Data → Bool) (d : Data) → depth d ≤ 0 → bad_line_by s e f d ≡ bad_line_by t h g d
  flat_line e h null low = refl
  flat_line e h (boolean b) low = refl
  flat_line e h (number x) low = refl
  flat_line e h (string x) low = refl
  flat_line e h (array ds) low = absurd (omega arith)
  flat_line e h (object ms) low = absurd (omega arith)

module _ (s t f g : Data → Bool) where
  task_step : (k : ℕ) → Agree k s t → Agree k f g → (d : Data) → depth d ≤ k → bad_task_by s f d ≡ bad_task_by t g d
  task_step zero a b d low = flat_task s t f g d low
  task_step (suc k) a b d low = same_bad_task k s t f g a b d low

  last_step : (k : ℕ) → Agree k s t → Agree k f g → (d : Data) → depth d ≤ k
      → bad_last_by s f (primitive_of (subtype d)) d ≡ bad_last_by t g (primitive_of (subtype d)) d
  last_step zero a b d low = flat_last s t f g d low
  last_step (suc k) a b d low = same_bad_last k s t f g a b (primitive_of (subtype d)) d low

  line_step : (e h : Data → Bool) (k : ℕ) → Agree k s t → Agree k f g → Agree k e h → (d : Data) → depth d ≤ k → bad_line_by s e f d ≡ bad_line_by t h g d
  line_step e h zero a b c d low = flat_line s t f g e h d low
  line_step e h (suc k) a b c d low = same_bad_line k s t f g a b e h c d low

mutual
  tasks_agree : (k m n : ℕ) → k ≤ m → k ≤ n → Agree k (bad_task_within m) (bad_task_within n)
  tasks_agree zero m n h i = λ d l. absurd (omega arith)
  tasks_agree (suc k) zero n h i = absurd (omega arith)
  tasks_agree (suc k) (suc m) zero h i = absurd (omega arith)
  tasks_agree (suc k) (suc m) (suc n) h i =
      λ d l. task_step (bad_task_within m) (bad_task_within n) (bad_line_within m) (bad_line_within n) k (tasks_agree k m n (omega arith) (omega arith))
      (lines_agree k m n (omega arith) (omega arith)) d (omega arith)

  lasts_agree : (k m n : ℕ) → k ≤ m → k ≤ n → Agree k (bad_last_within m) (bad_last_within n)
  lasts_agree zero m n h i = λ d l. absurd (omega arith)
  lasts_agree (suc k) zero n h i = absurd (omega arith)
  lasts_agree (suc k) (suc m) zero h i = absurd (omega arith)
  lasts_agree (suc k) (suc m) (suc n) h i =
      λ d l. last_step (bad_task_within m) (bad_task_within n) (bad_line_within m) (bad_line_within n) k (tasks_agree k m n (omega arith) (omega arith))
      (lines_agree k m n (omega arith) (omega arith)) d (omega arith)

  lines_agree : (k m n : ℕ) → k ≤ m → k ≤ n → Agree k (bad_line_within m) (bad_line_within n)
  lines_agree zero m n h i = λ d l. absurd (omega arith)
  lines_agree (suc k) zero n h i = absurd (omega arith)
  lines_agree (suc k) (suc m) zero h i = absurd (omega arith)
  lines_agree (suc k) (suc m) (suc n) h i =
      λ d l. line_step (bad_task_within m) (bad_task_within n) (bad_line_within m) (bad_line_within n) (bad_last_within m) (bad_last_within n) k
      (tasks_agree k m n (omega arith) (omega arith)) (lines_agree k m n (omega arith) (omega arith)) (lasts_agree k m n (omega arith) (omega arith)) d
      (omega arith)

-- one level says it by its own
module _ (n : ℕ) (d : Data) (low : depth d ≤ n) where
  task_again : bad_task_within (suc n) d ≡ bad_task_by (bad_task_within (suc n)) (bad_line_within (suc n)) d
  task_again = task_step (bad_task_within n) (bad_task_within (suc n)) (bad_line_within n) (bad_line_within (suc n)) n
      (tasks_agree n n (suc n) (omega arith) (omega arith)) (lines_agree n n (suc n) (omega arith) (omega arith)) d low

  last_again : bad_last_within (suc n) d ≡ bad_last_by (bad_task_within (suc n)) (bad_line_within (suc n)) (primitive_of (subtype d)) d
  last_again = last_step (bad_task_within n) (bad_task_within (suc n)) (bad_line_within n) (bad_line_within (suc n)) n
      (tasks_agree n n (suc n) (omega arith) (omega arith)) (lines_agree n n (suc n) (omega arith) (omega arith)) d low

  line_again : bad_line_within (suc n) d ≡ bad_line_by (bad_task_within (suc n)) (bad_last_within (suc n)) (bad_line_within (suc n)) d
  line_again = line_step (bad_task_within n) (bad_task_within (suc n)) (bad_line_within n) (bad_line_within (suc n)) (bad_last_within n)
      (bad_last_within (suc n)) n (tasks_agree n n (suc n) (omega arith) (omega arith)) (lines_agree n n (suc n) (omega arith) (omega arith))
      (lasts_agree n n (suc n) (omega arith) (omega arith)) d low

pub refused_by_parts : (d : Data) → depth d ≤ max_depth → RefusedByParts d
unfolding bad_task bad_last bad_line
refused_by_parts d low = record { task = task_again max_depth d low; last = last_again max_depth d low; line = line_again max_depth d low }

-- ---- what they say

module _ (n : ℕ) where
  same_all : {B : Type 0} (f g : Data → B) → Agree (suc n) f g → (ds : List Data) → AllLow n ds → map f ds ≡ map g ds
  same_all f g same ds low = same_map n f g (λ d l. same d (omega arith)) ds low

  same_elements_said : (s t : Data → PTask) (e h : Data → PLine) → Agree (suc n) s t → Agree (suc n) e h → (ds : List Data) → AllLow n ds
      → line_from s e ds ≡ line_from t h ds
  same_elements_said s t e h tasks_same lasts_same [] low = refl
  same_elements_said s t e h tasks_same lasts_same (d ∷ []) low = lasts_same d (omega (arith, low.0))
  same_elements_said s t e h tasks_same lasts_same (d ∷ x ∷ ds) low =
      ap₂ p_step (tasks_same d (omega (arith, low.0))) (same_elements_said s t e h tasks_same lasts_same (x ∷ ds) low.1)

  module _ (f g : Data → PLine) (lines_same : Agree (suc n) f g) where
    same_place_said : (group_at body_at : Data) → depth body_at < suc n → place_from f group_at body_at ≡ place_from g group_at body_at
    same_place_said group_at body_at low =
        ap (λ b. if is_null group_at then p_nowhere else
        (if is_null body_at then p_group (group_number group_at) else p_chord (group_number group_at) (size_in body_at) b)) (lines_same body_at low)

    same_task_said : (s t : Data → PTask) → Agree (suc n) s t → (d : Data) → depth d ≤ suc n → task_from s f d ≡ task_from t g d
    same_task_said s t tasks_same d low =
        let links = same_all s t tasks_same (as_list (link d)) (link_low (codes "link") d n low) in
        let errbacks = same_all s t tasks_same (as_list (link_error d)) (link_low (codes "link_error") d n low) in
        let place = same_place_said (option (codes "group_id") d) (option (codes "chord") d) (carried_low n d low) in
        rw (links, errbacks, place) refl

    same_last_said : (a b : PTask) (p : Option Primitive) (d : Data) → a ≡ b → depth d ≤ suc n → element_from a f p d ≡ element_from b g p d
    same_last_said a b None d e low = ap (λ x. p_step x p_stop) e
    same_last_said a b (Some kind.Task) d e low = ap (λ x. p_step x p_stop) e
    same_last_said a b (Some kind.Chain) d e low = ap (λ x. p_step x p_stop) e
    same_last_said a b (Some kind.Group) d e low =
        ap (λ ls. p_group_end (group_number (option (codes "group_id") d)) (p_lines_of ls)) (same_all f g lines_same (listed (tasks d)) (tasks_low n d low))
    same_last_said a b (Some kind.Chord) d e low =
        ap₂ (λ ls x. p_chord_end (group_number (option (codes "group_id") d)) (p_lines_of ls) x)
        (same_all f g lines_same (listed (header d)) (header_low n d low)) (lines_same (body d) (body_low n d low))

-- a line, by what it is as a task
abbrev line_as : PTask → (Data → PTask) → (Data → PLine) → (Data → PLine) → Data → PLine
line_as a s e f d = if is_chain d then line_from s e (listed (tasks d)) else element_from a f (primitive_of (subtype d)) d

module _ (s t : Data → PTask) (f g : Data → PLine) where
  flat_task_said : (d : Data) → depth d ≤ 0 → task_from s f d ≡ task_from t g d
  flat_task_said null low = refl
  flat_task_said (boolean b) low = refl
  flat_task_said (number x) low = refl
  flat_task_said (string x) low = refl
  flat_task_said (array ds) low = absurd (omega arith)
  flat_task_said (object ms) low = absurd (omega arith)

  flat_last_said : (a b : PTask) (d : Data) → a ≡ b → depth d ≤ 0
      → element_from a f (primitive_of (subtype d)) d ≡ element_from b g (primitive_of (subtype d)) d
  flat_last_said a b null e low = ap (λ x. p_step x p_stop) e
  flat_last_said a b (boolean y) e low = ap (λ x. p_step x p_stop) e
  flat_last_said a b (number y) e low = ap (λ x. p_step x p_stop) e
  flat_last_said a b (string y) e low = ap (λ x. p_step x p_stop) e
  flat_last_said a b (array ds) e low = absurd (omega arith)
  flat_last_said a b (object ms) e low = absurd (omega arith)

  flat_line_said : (e h : Data → PLine) (a b : PTask) (d : Data) → a ≡ b → depth d ≤ 0 → line_as a s e f d ≡ line_as b t h g d
  flat_line_said e h a b null q low = ap (λ x. p_step x p_stop) q
  flat_line_said e h a b (boolean y) q low = ap (λ x. p_step x p_stop) q
  flat_line_said e h a b (number y) q low = ap (λ x. p_step x p_stop) q
  flat_line_said e h a b (string y) q low = ap (λ x. p_step x p_stop) q
  flat_line_said e h a b (array ds) q low = absurd (omega arith)
  flat_line_said e h a b (object ms) q low = absurd (omega arith)

  said_task_step : (k : ℕ) → Agree k s t → Agree k f g → (d : Data) → depth d ≤ k → task_from s f d ≡ task_from t g d
  said_task_step zero u v d low = flat_task_said d low
  said_task_step (suc k) u v d low = same_task_said k f g v s t u d low

  said_last_step : (k : ℕ) → Agree k f g → (a b : PTask) (d : Data) → a ≡ b → depth d ≤ k
      → element_from a f (primitive_of (subtype d)) d ≡ element_from b g (primitive_of (subtype d)) d
  said_last_step zero v a b d q low = flat_last_said a b d q low
  said_last_step (suc k) v a b d q low = same_last_said k f g v a b (primitive_of (subtype d)) d q low

  said_line_step : (e h : Data → PLine) (k : ℕ) → Agree k s t → Agree k f g → Agree k e h → (a b : PTask) (d : Data) → a ≡ b → depth d ≤ k
      → line_as a s e f d ≡ line_as b t h g d
  said_line_step e h zero u v w a b d q low = flat_line_said e h a b d q low
  said_line_step e h (suc k) u v w a b d q low =
      ap₂ (λ x y. if is_chain d then x else y) (same_elements_said k s t e h u w (listed (tasks d)) (tasks_low k d low))
      (same_last_said k f g v a b (primitive_of (subtype d)) d q low)

mutual
  said_tasks_agree : (k m n : ℕ) → k ≤ m → k ≤ n → Agree k (task_within m) (task_within n)
  said_tasks_agree zero m n h i = λ d l. absurd (omega arith)
  said_tasks_agree (suc k) zero n h i = absurd (omega arith)
  said_tasks_agree (suc k) (suc m) zero h i = absurd (omega arith)
  said_tasks_agree (suc k) (suc m) (suc n) h i =
      λ d l. said_task_step (task_within m) (task_within n) (line_within m) (line_within n) k (said_tasks_agree k m n (omega arith) (omega arith))
      (said_lines_agree k m n (omega arith) (omega arith)) d (omega arith)

  said_lasts_agree : (k m n : ℕ) → k ≤ m → k ≤ n → Agree k (last_within m) (last_within n)
  said_lasts_agree zero m n h i = λ d l. absurd (omega arith)
  said_lasts_agree (suc k) zero n h i = absurd (omega arith)
  said_lasts_agree (suc k) (suc m) zero h i = absurd (omega arith)
  said_lasts_agree (suc k) (suc m) (suc n) h i =
      λ d l. said_last_step (task_within m) (task_within n) (line_within m) (line_within n) k (said_lines_agree k m n (omega arith) (omega arith))
      (task_within (suc m) d) (task_within (suc n) d) d
      (said_task_step (task_within m) (task_within n) (line_within m) (line_within n) k (said_tasks_agree k m n (omega arith) (omega arith))
      (said_lines_agree k m n (omega arith) (omega arith)) d (omega arith)) (omega arith)

  said_lines_agree : (k m n : ℕ) → k ≤ m → k ≤ n → Agree k (line_within m) (line_within n)
  said_lines_agree zero m n h i = λ d l. absurd (omega arith)
  said_lines_agree (suc k) zero n h i = absurd (omega arith)
  said_lines_agree (suc k) (suc m) zero h i = absurd (omega arith)
  said_lines_agree (suc k) (suc m) (suc n) h i =
      λ d l. said_line_step (task_within m) (task_within n) (line_within m) (line_within n) (last_within m) (last_within n) k
      (said_tasks_agree k m n (omega arith) (omega arith)) (said_lines_agree k m n (omega arith) (omega arith))
      (said_lasts_agree k m n (omega arith) (omega arith)) (task_within (suc m) d) (task_within (suc n) d) d
      (said_task_step (task_within m) (task_within n) (line_within m) (line_within n) k (said_tasks_agree k m n (omega arith) (omega arith))
      (said_lines_agree k m n (omega arith) (omega arith)) d (omega arith)) (omega arith)

module _ (n : ℕ) (d : Data) (low : depth d ≤ n) where
  said_task_again : task_within (suc n) d ≡ task_from (task_within (suc n)) (line_within (suc n)) d
  said_task_again = said_task_step (task_within n) (task_within (suc n)) (line_within n) (line_within (suc n)) n
      (said_tasks_agree n n (suc n) (omega arith) (omega arith)) (said_lines_agree n n (suc n) (omega arith) (omega arith)) d low

  said_last_again : last_within (suc n) d ≡ element_from (task_within (suc n) d) (line_within (suc n)) (primitive_of (subtype d)) d
  said_last_again = said_last_step (task_within n) (task_within (suc n)) (line_within n) (line_within (suc n)) n
      (said_lines_agree n n (suc n) (omega arith) (omega arith)) (task_within (suc n) d) (task_within (suc n) d) d refl low

  said_line_again : line_within (suc n) d ≡ line_by (task_within (suc n)) (last_within (suc n)) (line_within (suc n)) d
  said_line_again = said_line_step (task_within n) (task_within (suc n)) (line_within n) (line_within (suc n)) (last_within n) (last_within (suc n)) n
      (said_tasks_agree n n (suc n) (omega arith) (omega arith)) (said_lines_agree n n (suc n) (omega arith) (omega arith))
      (said_lasts_agree n n (suc n) (omega arith) (omega arith)) (task_within (suc n) d) (task_within (suc n) d) d refl low

pub said_by_parts : (d : Data) → depth d ≤ max_depth → SaidByParts d
unfolding task_in last_in line_in
said_by_parts d low = record { task = said_task_again max_depth d low; last = said_last_again max_depth d low; line = said_line_again max_depth d low }

-- ---- more levels

pub same_within : (n : ℕ) → levels ≤ n → (d : Data) → depth d ≤ max_depth → SameWithin n d
unfolding task_in last_in line_in bad_task bad_last bad_line
same_within n more d low = record {
  bad_task = tasks_agree levels n levels more (le_refl _) d (omega arith);
  bad_last = lasts_agree levels n levels more (le_refl _) d (omega arith);
  bad_line = lines_agree levels n levels more (le_refl _) d (omega arith);
  task = said_tasks_agree levels n levels more (le_refl _) d (omega arith);
  last = said_lasts_agree levels n levels more (le_refl _) d (omega arith);
  line = said_lines_agree levels n levels more (le_refl _) d (omega arith);
}

-- ---- whole envelopes

found_low : (o : Option Data) → ((d : Data) → o ≡ Some d → depth d ≤ max_depth) → depth (unwrap_or o null) ≤ max_depth
found_low None h = omega arith
found_low (Some d) h = h d refl

json_low : (text : Text) → depth (json_in text) ≤ max_depth
json_low text = found_low (json_of text) (λ d h. reads_shallow text d h)

embed_low : (d : Data) (n : ℕ) → depth d ≤ n → depth (embed_in d) ≤ n
embed_low null n h = omega arith
embed_low (boolean b) n h = omega arith
embed_low (number x) n h = omega arith
embed_low (string s) n h = omega arith
embed_low (array no_items) n h = omega arith
embed_low (array (item a no_items)) n h = omega arith
embed_low (array (item a (item k no_items))) n h = omega arith
embed_low (array (item a (item k (item e no_items)))) n h = omega arith
embed_low (array (item a (item k (item e (item x xs))))) n h = omega arith
embed_low (object ms) n h = omega arith

one_more_low : (n : ℕ) (ds : List Data) (d : Data) → AllLow n ds → depth d ≤ n → AllLow n (ds ++ d ∷ [])
one_more_low n [] d h low = (low, tt)
one_more_low n (x ∷ ds) d h low = (h.0, one_more_low n ds d h.1 low)

reverse_low : (n : ℕ) (ds : List Data) → AllLow n ds → AllLow n (reverse ds)
reverse_low n [] low = tt
reverse_low n (d ∷ ds) low = subst (AllLow n) (sym (reverse-append (d ∷ []) ds)) (one_more_low n (reverse ds) d (reverse_low n ds low.1) low.0)

member_low : (k : Text) (d : Data) (n : ℕ) → depth d ≤ n → depth (field k d) ≤ n
member_low k d n low = field_low k d n (omega arith)

list_low : (k : Text) (d : Data) (n : ℕ) → depth d ≤ n → AllLow n (listed (field k d))
list_low k d n low = listed_low (field k d) n (member_low k d n low)

-- a content, from the contents of the body
abbrev content_with : (headers body : Data) → (links errbacks : List PTask) → PPlace → PLine → Content
content_with h b ls es p r = record {
  parent = task_of (field (codes "parent_id") h);
  own = p_task (task_number (field (codes "id") h))
      (record { name = text_of (field (codes "task") h); args = map argument_of (listed (args_in b)); kwargs = map named_of (object_members (kwargs_in b)); immutable = false })
      (p_tasks_of ls) (p_tasks_of es) p;
  rest = r;
}

abbrev members_with : Data → (w x y z : Bool) → Bool
members_with e w x y z =
    not (is_object_or_null e) || not (is_list_or_null (field (codes "callbacks") e)) || not (is_list_or_null (field (codes "errbacks") e))
    || not (is_list_or_null (field (codes "chain") e)) || w || x || y || z

module _ (n : ℕ) (more : levels ≤ n) where
  tasks_said : Agree levels (task_within n) task_in
  unfolding task_in
  tasks_said = said_tasks_agree levels n levels more (le_refl _)

  lasts_said : Agree levels (last_within n) last_in
  unfolding last_in
  lasts_said = said_lasts_agree levels n levels more (le_refl _)

  lines_said : Agree levels (line_within n) line_in
  unfolding line_in
  lines_said = said_lines_agree levels n levels more (le_refl _)

  tasks_bad : Agree levels (bad_task_within n) bad_task
  unfolding bad_task
  tasks_bad = tasks_agree levels n levels more (le_refl _)

  lasts_bad : Agree levels (bad_last_within n) bad_last
  unfolding bad_last
  lasts_bad = lasts_agree levels n levels more (le_refl _)

  lines_bad : Agree levels (bad_line_within n) bad_line
  unfolding bad_line
  lines_bad = lines_agree levels n levels more (le_refl _)

  same_content : (h b : Data) → depth b ≤ max_depth → content_within n h b ≡ content_in h b
  same_content h b low =
      let e : Data = embed_in b in
      let inside : depth e ≤ max_depth = embed_low b max_depth low in
      let links : map (task_within n) (listed (field (codes "callbacks") e)) ≡ map task_in (listed (field (codes "callbacks") e)) = same_all max_depth (task_within n) task_in tasks_said (listed (field (codes "callbacks") e)) (list_low (codes "callbacks") e max_depth inside) in
      let errbacks : map (task_within n) (listed (field (codes "errbacks") e)) ≡ map task_in (listed (field (codes "errbacks") e)) = same_all max_depth (task_within n) task_in tasks_said (listed (field (codes "errbacks") e)) (list_low (codes "errbacks") e max_depth inside) in
      let body_at : depth (field (codes "chord") e) ≤ max_depth = member_low (codes "chord") e max_depth inside in
      let place : place_from (line_within n) (field (codes "group") h) (field (codes "chord") e) ≡ place_from line_in (field (codes "group") h) (field (codes "chord") e) = same_place_said max_depth (line_within n) line_in lines_said (field (codes "group") h) (field (codes "chord") e) (omega arith) in
      let behind : line_from (task_within n) (last_within n) (reverse (listed (field (codes "chain") e))) ≡ line_from task_in last_in (reverse (listed (field (codes "chain") e))) = same_elements_said max_depth (task_within n) task_in (last_within n) last_in tasks_said lasts_said (reverse (listed (field (codes "chain") e))) (reverse_low max_depth (listed (field (codes "chain") e)) (list_low (codes "chain") e max_depth inside)) in
      λ i. content_with h b (links i) (errbacks i) (place i) (behind i)

  same_members : (g e : Data) → depth e ≤ max_depth → bad_members_within n g e ≡ bad_members g e
  same_members g e inside =
      let links : list_any (bad_task_within n) (listed (field (codes "callbacks") e)) ≡ list_any bad_task (listed (field (codes "callbacks") e)) = same_any max_depth (bad_task_within n) bad_task tasks_bad (listed (field (codes "callbacks") e)) (list_low (codes "callbacks") e max_depth inside) in
      let errbacks : list_any (bad_task_within n) (listed (field (codes "errbacks") e)) ≡ list_any bad_task (listed (field (codes "errbacks") e)) = same_any max_depth (bad_task_within n) bad_task tasks_bad (listed (field (codes "errbacks") e)) (list_low (codes "errbacks") e max_depth inside) in
      let body_at : depth (field (codes "chord") e) ≤ max_depth = member_low (codes "chord") e max_depth inside in
      let place : bad_place (bad_line_within n) g (field (codes "chord") e) ≡ bad_place bad_line g (field (codes "chord") e) = same_place max_depth (bad_task_within n) bad_task (bad_line_within n) bad_line tasks_bad lines_bad g (field (codes "chord") e) (omega arith) in
      let behind : bad_elements (bad_task_within n) (bad_last_within n) (reverse (listed (field (codes "chain") e))) ≡ bad_elements bad_task bad_last (reverse (listed (field (codes "chain") e))) = same_elements max_depth (bad_task_within n) bad_task (bad_last_within n) bad_last tasks_bad lasts_bad (reverse (listed (field (codes "chain") e))) (reverse_low max_depth (listed (field (codes "chain") e)) (list_low (codes "chain") e max_depth inside)) in
      λ i. members_with e (links i) (errbacks i) (place i) (behind i)

  same_embed : (h b : Data) → depth b ≤ max_depth → bad_embed_within n h b ≡ bad_embed h b
  same_embed h b low = ap₂ (λ x y. x || not (fits y)) (same_members (field (codes "group") h) (embed_in b) (embed_low b max_depth low)) (same_content h b low)

  same_fault : (p h b : Text) → envelope_fault_within n p h b ≡ envelope_fault p h b
  unfolding envelope_fault
  same_fault p h b =
      ap (λ x. first_of ((not_json p || not_json h || not_json b, NotJson) ∷ (not_version_2 (json_in h), NotVersion2) ∷ (bad_id (json_in p) (json_in h), BadId)
      ∷ (bad_content_type (json_in p), BadContentType)
      ∷ (bad_body (json_in b), BadBody) ∷ (bad_args (json_in b), BadArgs) ∷ (x, BadEmbed) ∷ [])) (same_embed (json_in h) (json_in b) (json_low b))

  same_said : (h b : Text) → content_within n (json_in h) (json_in b) ≡ content_said h b
  unfolding content_said
  same_said h b = same_content (json_in h) (json_in b) (json_low b)

  pub same_envelope : (p h b : Text) → SameEnvelope n p h b
  same_envelope p h b = record { fault = same_fault p h b; content = same_said h b }
