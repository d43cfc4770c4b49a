-- A frozen signature is read as what it says where nothing is wrong with it, and refused where something is.
use Rattle.std.proofs.Common.{◌≡◌, ◌∙◌, ℕ, zero, suc, ℤ, pos, List, [], ◌∷◌, map, Bool, true, false, Option, Some, None, Result, Ok, Err, refl, sym, ap}
use Rattle.std.proofs.Math.Bool.{or_assoc}
use Rattle.std.specs.Prelude.{codes, not, ◌&&◌, ◌||◌, if◌then◌else◌, is_some, is_none, unwrap_or}
use Rattle.std.specs.List.{list_all, list_any}
use Rattle.serde_json.specs.Data.{Data, number}
use Rattle.serde_json.specs.Find.{as_i64}
use Rattle.canvas_task.specs.declared.arg.Arg.{Arg}
use Rattle.canvas_values.specs.Refusals.{named_of, spelled_call}
use Rattle.canvas_task.specs.Text.{Text}
use Rattle.canvas_values.specs.Fields.{field, subtype, option, args, kwargs, tasks, header, body, link, link_error, listed, as_list, object_members, contents, is_null, is_list}
use Rattle.canvas_values.specs.Answers.{◌>>=◌, ◌or_else◌, fault_if, unless, judged, in_turn}
use Rattle.canvas_values.specs.Grammar.{some_or_zero, whole_number, argument_of, arg_reading, named_reading, kind_ok, numbers_ok, args_ok, not_signature, bad_args, fault_as, own_fault, primitive_of}
use Rattle.canvas_values.specs.declared.fault.SigFault.{SigFault}
use Rattle.canvas_values.specs.declared.fault.SigFault.TheVariants.{NotSignature, UnknownPrimitive, BadArgs, BadNumber, OnCanvas, Frozen, TooMany}
use Rattle.canvas_values.specs.declared.primitive.Primitive.{Primitive}
use Rattle.canvas_values.specs.declared.primitive.Primitive.TheVariants as kind
use Rattle.canvas_rewrite.specs.FrozenView.{PCarried, p_tasks_of, p_lines_of}
use Rattle.canvas_semantics.specs.PlacedLine.{PTask, p_task, p_nowhere, p_group, p_chord, PLine, p_stop, p_step, p_group_end, p_chord_end}
use Rattle.canvas_envelope.specs.EnvelopeContent.{group_number, natural, size_in, place_from, task_from, element_from, line_from, task_within, last_within, line_within}
use Rattle.canvas_envelope.specs.EnvelopeFaults.{is_size, bad_size, bad_place, is_task, bad_task_by, bad_group_by, bad_chord_by, bad_last_by, bad_elements, bad_task_within, bad_last_within, bad_line_within, bad_argument}
use Rattle.canvas_envelope.specs.Fits.{size_ok}
use Rattle.canvas_envelope.specs.FrozenGrammar.{task_of, group_of, but_a_place, is_chain}
use Rattle.canvas_codec.specs.steps.FrozenReading.{if_numbered, sized, size_reading, call_reading, carried_with, place_with, task_with, task_as, group_with, chord_with, header_fault, step_as, last_as, elements_with, link_reading, step_reading, last_reading, line_reading}

-- ---- a reading without its faults

abbrev pub seen : {A : Type 0} → Result A SigFault → Option A
seen (Ok x) = Some x
seen (Err e) = None

abbrev pub but_for : {A : Type 0} → Bool → A → Option A
but_for true x = None
but_for false x = Some x

pub then_seen : {A B : Type 0} (r : Result A SigFault) (f : A → Result B SigFault) (b c : Bool) (x : A) (y : B)
    → seen r ≡ but_for b x → seen (f x) ≡ but_for c y → seen (r >>= f) ≡ but_for (b || c) y
then_seen (Ok a) f true c x y h k = absurd cc
then_seen (Ok a) f false c x y h k = let same : a ≡ x = cc in ap (λ z. seen (f z)) same ∙ k
then_seen (Err e) f true c x y h k = refl
then_seen (Err e) f false c x y h k = absurd cc

pub made_seen : {A B : Type 0} (r : Result A SigFault) (g : A → B) (b : Bool) (x : A) → seen r ≡ but_for b x → seen (r >>= λ a. Ok (g a)) ≡ but_for b (g x)
made_seen (Ok a) g true x h = absurd cc
made_seen (Ok a) g false x h = let same : a ≡ x = cc in ap (λ z. Some (g z)) same
made_seen (Err e) g true x h = refl
made_seen (Err e) g false x h = absurd cc

pub each_seen : {A B : Type 0} (f : A → Result B SigFault) (g : A → Bool) (v : A → B) → ((a : A) → seen (f a) ≡ but_for (g a) (v a))
    → (as' : List A) → seen (in_turn f as') ≡ but_for (list_any g as') (map v as')
each_seen f g v is [] = refl
each_seen f g v is (a ∷ as') =
    then_seen (f a) (λ y. in_turn f as' >>= λ ys. Ok (y ∷ ys)) (g a) (list_any g as') (v a) (v a ∷ map v as') (is a)
    (made_seen (in_turn f as') (λ ys. v a ∷ ys) (list_any g as') (map v as') (each_seen f g v is as'))

pub unless_seen : {A : Type 0} (o : Option SigFault) (r : Result A SigFault) (c : Bool) (y : A) → (o ≡ None → seen r ≡ but_for c y)
    → seen (unless o r) ≡ but_for (is_some o || c) y
unless_seen None r c y h = h refl
unless_seen (Some e) r c y h = refl

-- ---- arguments

both_of : (a b : Bool) → (a && b) ≡ true → (a ≡ true) × (b ≡ true)
both_of true b h = (refl, h)
both_of false b h = absurd cc

judged_seen : (a b : Bool) (e f : SigFault) (x : Arg) → seen (judged (fault_if a e or_else fault_if b f) x) ≡ but_for (a || b) x
judged_seen true b e f x = refl
judged_seen false true e f x = refl
judged_seen false false e f x = refl

pub argument_seen : (d : Data) → seen (arg_reading d) ≡ but_for (bad_argument d) (argument_of d)
argument_seen d = judged_seen (not (kind_ok d)) (not (numbers_ok d)) BadArgs BadNumber (argument_of d)

pub named_seen : (e : Text × Data) → seen (named_reading e) ≡ but_for (bad_argument e.1) (named_of e)
named_seen e = made_seen (arg_reading e.1) (λ a. (e.0, a)) (bad_argument e.1) (argument_of e.1) (argument_seen e.1)

pub any_content : (es : List (Text × Data)) → list_any (λ e. bad_argument e.1) es ≡ list_any bad_argument (map (λ e. e.1) es)
any_content [] = refl
any_content (e ∷ es) = ap (λ b. bad_argument e.1 || b) (any_content es)

-- ---- a task without a fault of its own, but for its place

none_bad : (ds : List Data) → list_all kind_ok ds ≡ true → list_all numbers_ok ds ≡ true → list_any bad_argument ds ≡ false
none_bad [] k h = refl
none_bad (d ∷ ds) k h =
    let p = both_of (kind_ok d) (list_all kind_ok ds) k in let q = both_of (numbers_ok d) (list_all numbers_ok ds) h in
    ap (λ b. not b || not (numbers_ok d) || list_any bad_argument ds) p.0 ∙ ap (λ b. not b || list_any bad_argument ds) q.0 ∙ none_bad ds p.1 q.1

calm : (b : Bool) (e : SigFault) (o : Option SigFault) → but_a_place (Some e) ≡ Some e → but_a_place (fault_if b e or_else o) ≡ None
    → (b ≡ false) × (but_a_place o ≡ None)
calm true e o k h = absurd (let clash : None ≡ Some e = sym h ∙ k in cc)
calm false e o k h = (refl, h)

neither_bad : (a b : Bool) → (a || b) ≡ false → (a ≡ false) × (b ≡ false)
neither_bad true b h = absurd cc
neither_bad false b h = (refl, h)

not_bad : (a : Bool) → not a ≡ false → a ≡ true
not_bad true h = refl
not_bad false h = absurd cc

-- its arguments are in order
fine_task : (linked : Bool) (d : Data) → but_a_place (fault_if (not_signature d) NotSignature or_else fault_as linked d (Some kind.Task)) ≡ None
    → (args_ok kind_ok d ≡ true) × (args_ok numbers_ok d ≡ true)
fine_task linked d h =
    let a = calm (not_signature d) NotSignature _ refl h in
    let b = calm (bad_args kind.Task d) BadArgs _ refl a.1 in
    let c = calm (not (args_ok numbers_ok d)) BadNumber _ refl b.1 in
    (not_bad (args_ok kind_ok d) (neither_bad _ (not (args_ok kind_ok d)) b.0).1, not_bad (args_ok numbers_ok d) c.0)

call_seen : (d : Data) → args_ok kind_ok d ≡ true → args_ok numbers_ok d ≡ true → seen (call_reading d) ≡ Some (spelled_call d)
call_seen d k h =
    let p = both_of (list_all kind_ok (listed (args d))) (list_all kind_ok (contents (kwargs d))) k in
    let q = both_of (list_all numbers_ok (listed (args d))) (list_all numbers_ok (contents (kwargs d))) h in
    then_seen (in_turn arg_reading (listed (args d))) _ false false (map argument_of (listed (args d))) (spelled_call d)
    (each_seen arg_reading bad_argument argument_of argument_seen (listed (args d))
    ∙ ap (λ b. but_for b (map argument_of (listed (args d)))) (none_bad (listed (args d)) p.0 q.0))
    (made_seen (in_turn named_reading (object_members (kwargs d))) _ false (map named_of (object_members (kwargs d)))
    (each_seen named_reading (λ e. bad_argument e.1) named_of named_seen (object_members (kwargs d))
    ∙ ap (λ b. but_for b (map named_of (object_members (kwargs d)))) (any_content (object_members (kwargs d)) ∙ none_bad (contents (kwargs d)) p.1 q.1)))

-- ---- identifiers, sizes and places

pub numbered_seen : (o : Option ℕ) → seen (if_numbered o) ≡ but_for (is_none o) (unwrap_or o 0)
numbered_seen None = refl
numbered_seen (Some k) = refl

sized_by : (n : ℕ) (b : Bool) → seen (if b then Ok n else Err TooMany) ≡ but_for (not b) n
sized_by n true = refl
sized_by n false = refl

sized_seen : (o : Option ℤ) → seen (sized o) ≡ but_for (not (is_size o)) (natural (some_or_zero o))
sized_seen (Some (pos n)) = sized_by n (size_ok n)
sized_seen o = refl

size_seen : (d : Data) → seen (size_reading d) ≡ but_for (bad_size d) (natural (whole_number d))
size_seen (number n) = sized_seen (as_i64 n)
size_seen d = refl

module _ (f : Data → Result PLine SigFault) (bad : Data → Bool) (v : Data → PLine) (is : (d : Data) → seen (f d) ≡ but_for (bad d) (v d)) where
  carried_seen : (d : Data) → seen (carried_with f d) ≡ but_for (bad_size (field (codes "chord_size") d) || bad d) (record { size = size_in d; body = v d })
  carried_seen d =
      then_seen (size_reading (field (codes "chord_size") d)) _ (bad_size (field (codes "chord_size") d)) (bad d) (size_in d) (record { size = size_in d; body = v d })
      (size_seen (field (codes "chord_size") d)) (made_seen (f d) _ (bad d) (v d) (is d))

  place_by : (a b : Bool) (o : Option ℕ) (c : Result PCarried SigFault) (w : Bool) (l : PCarried) → seen c ≡ but_for w l
      → seen (if a then (if b then Ok p_nowhere else Err Frozen) else
      (if_numbered o >>= λ g. if b then Ok (p_group g) else (c >>= λ c. Ok (p_chord g c.size c.body))))
      ≡ but_for (if a then not b else (is_none o || (not b && w)))
      (if a then p_nowhere else (if b then p_group (unwrap_or o 0) else p_chord (unwrap_or o 0) l.size l.body))
  place_by true true o c w l h = refl
  place_by true false o c w l h = refl
  place_by false true None c w l h = refl
  place_by false true (Some g) c w l h = refl
  place_by false false None c w l h = refl
  place_by false false (Some g) c w l h = made_seen c (λ c. p_chord g c.size c.body) w l h

  pub place_seen : (group body : Data) → seen (place_with f group body) ≡ but_for (bad_place bad group body) (place_from v group body)
  place_seen group body =
      place_by (is_null group) (is_null body) (group_of group) (carried_with f body) (bad_size (field (codes "chord_size") body) || bad body) (record { size = size_in body; body = v body })
      (carried_seen body)

  -- ---- groups and chords

  group_seen : (d : Data) → seen (unless (own_fault false d) (group_with f d))
      ≡ but_for (bad_group_by bad d) (p_group_end (group_number (option (codes "group_id") d)) (p_lines_of (map v (listed (tasks d)))))
  group_seen d =
      let id = group_of (option (codes "group_id") d) in
      let inner = list_any bad (listed (tasks d)) in
      let said = p_group_end (group_number (option (codes "group_id") d)) (p_lines_of (map v (listed (tasks d)))) in
      unless_seen (own_fault false d) (group_with f d) (is_none id || inner) said
      (λ none. then_seen (if_numbered id) _ (is_none id) inner (unwrap_or id 0) said (numbered_seen id)
      (made_seen (in_turn f (listed (tasks d))) (λ ms. p_group_end (unwrap_or id 0) (p_lines_of ms)) inner (map v (listed (tasks d)))
      (each_seen f bad v is (listed (tasks d)))))
      ∙ ap (λ b. but_for b said) (sym (or_assoc (is_some (own_fault false d)) (is_none id) inner))

  own_or_header : (o : Option SigFault) (b : Bool) → is_some (o or_else fault_if b BadArgs) ≡ (is_some o || b)
  own_or_header (Some e) b = refl
  own_or_header None true = refl
  own_or_header None false = refl

  regrouped : (a b c x y : Bool) → ((a || b) || (c || (x || y))) ≡ ((((a || b) || c) || x) || y)
  regrouped true b c x y = refl
  regrouped false true c x y = refl
  regrouped false false true x y = refl
  regrouped false false false x y = refl

  chord_seen : (d : Data) → seen (unless (own_fault false d or_else header_fault d) (chord_with f d))
      ≡ but_for (bad_chord_by bad d) (p_chord_end (group_number (option (codes "group_id") d)) (p_lines_of (map v (listed (header d)))) (v (body d)))
  chord_seen d =
      let id = group_of (option (codes "group_id") d) in
      let inner = list_any bad (listed (header d)) in
      let said = p_chord_end (group_number (option (codes "group_id") d)) (p_lines_of (map v (listed (header d)))) (v (body d)) in
      unless_seen (own_fault false d or_else header_fault d) (chord_with f d) (is_none id || (inner || bad (body d))) said
      (λ none. then_seen (if_numbered id) _ (is_none id) (inner || bad (body d)) (unwrap_or id 0) said (numbered_seen id)
      (then_seen (in_turn f (listed (header d))) _ inner (bad (body d)) (map v (listed (header d))) said (each_seen f bad v is (listed (header d)))
      (made_seen (f (body d)) (λ b. p_chord_end (unwrap_or id 0) (p_lines_of (map v (listed (header d)))) b) (bad (body d)) (v (body d)) (is (body d)))))
      ∙ ap (λ b. but_for b said)
      (ap (λ b. b || (is_none id || (inner || bad (body d)))) (own_or_header (own_fault false d) (not (is_list (header d))))
      ∙ regrouped (is_some (own_fault false d)) (not (is_list (header d))) (is_none id) inner (bad (body d)))

  -- ---- tasks

  module _ (t : Data → Result PTask SigFault) (faulty : Data → Bool) (w : Data → PTask) (has : (d : Data) → seen (t d) ≡ but_for (faulty d) (w d)) where
    -- what can be wrong with a task beside its own faults
    abbrev inside : Data → Bool
    inside d =
        is_none (task_of (option (codes "task_id") d))
        || (list_any faulty (as_list (link d)) || (list_any faulty (as_list (link_error d)) || bad_place bad (option (codes "group_id") d) (option (codes "chord") d)))

    parts_seen : (d : Data) → seen (call_reading d) ≡ Some (spelled_call d) → seen (task_with t f d) ≡ but_for (inside d) (task_from w v d)
    parts_seen d called =
        let id = task_of (option (codes "task_id") d) in
        let k = unwrap_or id 0 in
        let place = place_from v (option (codes "group_id") d) (option (codes "chord") d) in
        let links = map w (as_list (link d)) in
        let errbacks = map w (as_list (link_error d)) in
        let linked = list_any faulty (as_list (link d)) in
        let failing = list_any faulty (as_list (link_error d)) in
        let placed = bad_place bad (option (codes "group_id") d) (option (codes "chord") d) in
        then_seen (if_numbered id) _ (is_none id) (linked || (failing || placed)) k (task_from w v d) (numbered_seen id)
        (then_seen (call_reading d) _ false (linked || (failing || placed)) (spelled_call d) (task_from w v d) called
        (then_seen (in_turn t (as_list (link d))) _ linked (failing || placed) links (task_from w v d) (each_seen t faulty w has (as_list (link d)))
        (then_seen (in_turn t (as_list (link_error d))) _ failing placed errbacks (task_from w v d) (each_seen t faulty w has (as_list (link_error d)))
        (made_seen (place_with f (option (codes "group_id") d) (option (codes "chord") d)) (λ place. p_task k (spelled_call d) (p_tasks_of links) (p_tasks_of errbacks) place) placed place
        (place_seen (option (codes "group_id") d) (option (codes "chord") d))))))

    apart : (b x y z u : Bool) → (b || (x || (y || (z || u)))) ≡ ((((b || x) || y) || z) || u)
    apart true x y z u = refl
    apart false true y z u = refl
    apart false false true z u = refl
    apart false false false true u = refl
    apart false false false false u = refl

    -- a signature of a task
    own_seen : (linked : Bool) (d : Data) (p : Option Primitive) → primitive_of (subtype d) ≡ p → p ≡ Some kind.Task
        → seen (task_as linked t f d) ≡ but_for (bad_task_by faulty bad d) (task_from w v d)
    own_seen linked d p here is_one =
        let kind_is : primitive_of (subtype d) ≡ Some kind.Task = here ∙ is_one in
        let own : own_fault linked d ≡ (fault_if (not_signature d) NotSignature or_else fault_as linked d (Some kind.Task)) =
        ap (λ q. fault_if (not_signature d) NotSignature or_else fault_as linked d q) kind_is in
        let plain : own_fault false d ≡ (fault_if (not_signature d) NotSignature or_else fault_as linked d (Some kind.Task)) =
        ap (λ q. fault_if (not_signature d) NotSignature or_else fault_as false d q) kind_is in
        unless_seen (but_a_place (own_fault linked d)) (task_with t f d) (inside d) (task_from w v d)
        (λ none. let fine = fine_task linked d (sym (ap but_a_place own) ∙ none) in parts_seen d (call_seen d fine.0 fine.1))
        ∙ ap (λ b. but_for b (task_from w v d))
        (ap (λ o. is_some (but_a_place o) || inside d) (own ∙ sym plain)
        ∙ apart (is_some (but_a_place (own_fault false d))) (is_none (task_of (option (codes "task_id") d))) (list_any faulty (as_list (link d)))
        (list_any faulty (as_list (link_error d))) (bad_place bad (option (codes "group_id") d) (option (codes "chord") d))
        ∙ ap (λ q. not (is_task q) || is_some (but_a_place (own_fault false d)) || is_none (task_of (option (codes "task_id") d)) || list_any faulty (as_list (link d))
        || list_any faulty (as_list (link_error d)) || bad_place bad (option (codes "group_id") d) (option (codes "chord") d)) (sym kind_is))

    linked_fault : (a b : Bool) → is_some (but_a_place (fault_if a NotSignature or_else (fault_if b BadArgs or_else Some OnCanvas))) ≡ true
    linked_fault true b = refl
    linked_fault false true = refl
    linked_fault false false = refl

    unknown_fault : (a : Bool) → is_some (but_a_place (fault_if a NotSignature or_else Some UnknownPrimitive)) ≡ true
    unknown_fault true = refl
    unknown_fault false = refl

    -- a signature of another kind is no link
    no_link : (d : Data) (p : Option Primitive) → is_task p ≡ false → is_some (but_a_place (fault_if (not_signature d) NotSignature or_else fault_as true d p))
        ≡ true
    no_link d None h = unknown_fault (not_signature d)
    no_link d (Some kind.Task) h = absurd cc
    no_link d (Some kind.Chain) h = linked_fault (not_signature d) (bad_args kind.Chain d)
    no_link d (Some kind.Group) h = linked_fault (not_signature d) (bad_args kind.Group d)
    no_link d (Some kind.Chord) h = linked_fault (not_signature d) (bad_args kind.Chord d)

    no_task : (d : Data) (p : Option Primitive) → primitive_of (subtype d) ≡ p → is_task p ≡ false → bad_task_by faulty bad d ≡ true
    no_task d p here h =
        ap (λ q. not (is_task q) || is_some (but_a_place (own_fault false d)) || is_none (task_of (option (codes "task_id") d)) || list_any faulty (as_list (link d))
        || list_any faulty (as_list (link_error d)) || bad_place bad (option (codes "group_id") d) (option (codes "chord") d)) here
        ∙ ap (λ b. not b || is_some (but_a_place (own_fault false d)) || is_none (task_of (option (codes "task_id") d)) || list_any faulty (as_list (link d))
        || list_any faulty (as_list (link_error d)) || bad_place bad (option (codes "group_id") d) (option (codes "chord") d)) h

    not_linked : (d : Data) (p : Option Primitive) → primitive_of (subtype d) ≡ p → is_task p ≡ false
        → seen (task_as true t f d) ≡ but_for (bad_task_by faulty bad d) (task_from w v d)
    not_linked d p here h =
        unless_seen (but_a_place (own_fault true d)) (task_with t f d) true (task_from w v d)
        (λ none. absurd (let clash : false ≡ true = sym (ap is_some none) ∙ wrong in cc))
        ∙ ap (λ b. but_for (b || true) (task_from w v d)) wrong ∙ ap (λ b. but_for b (task_from w v d)) (sym (no_task d p here h))
      where
        wrong : is_some (but_a_place (own_fault true d)) ≡ true
        wrong = ap (λ q. is_some (but_a_place (fault_if (not_signature d) NotSignature or_else fault_as true d q))) here ∙ no_link d p h

    link_by : (d : Data) (p : Option Primitive) → primitive_of (subtype d) ≡ p
        → seen (task_as true t f d) ≡ but_for (bad_task_by faulty bad d) (task_from w v d)
    link_by d (Some kind.Task) here = own_seen true d (Some kind.Task) here refl
    link_by d None here = not_linked d None here refl
    link_by d (Some kind.Chain) here = not_linked d (Some kind.Chain) here refl
    link_by d (Some kind.Group) here = not_linked d (Some kind.Group) here refl
    link_by d (Some kind.Chord) here = not_linked d (Some kind.Chord) here refl

    link_seen : (d : Data) → seen (task_as true t f d) ≡ but_for (bad_task_by faulty bad d) (task_from w v d)
    link_seen d = link_by d (primitive_of (subtype d)) refl

    refused : {A : Type 0} (b : Bool) (x : A) → b ≡ true → None ≡ but_for b x
    refused true x h = refl
    refused false x h = absurd cc

    step_seen : (d : Data) (p : Option Primitive) → primitive_of (subtype d) ≡ p → seen (step_as t f p d) ≡ but_for (bad_task_by faulty bad d) (task_from w v d)
    step_seen d (Some kind.Task) here = own_seen false d (Some kind.Task) here refl
    step_seen d None here = refused (bad_task_by faulty bad d) (task_from w v d) (no_task d None here refl)
    step_seen d (Some kind.Chain) here = refused (bad_task_by faulty bad d) (task_from w v d) (no_task d (Some kind.Chain) here refl)
    step_seen d (Some kind.Group) here = refused (bad_task_by faulty bad d) (task_from w v d) (no_task d (Some kind.Group) here refl)
    step_seen d (Some kind.Chord) here = refused (bad_task_by faulty bad d) (task_from w v d) (no_task d (Some kind.Chord) here refl)

    last_seen : (d : Data) (p : Option Primitive) → primitive_of (subtype d) ≡ p
        → seen (last_as t f p d) ≡ but_for (bad_last_by faulty bad p d) (element_from (task_from w v d) v p d)
    last_seen d (Some kind.Task) here =
        made_seen (task_as false t f d) (λ x. p_step x p_stop) (bad_task_by faulty bad d) (task_from w v d) (own_seen false d (Some kind.Task) here refl)
    last_seen d (Some kind.Group) here = group_seen d
    last_seen d (Some kind.Chord) here = chord_seen d
    last_seen d None here = refused (bad_task_by faulty bad d) (p_step (task_from w v d) p_stop) (no_task d None here refl)
    last_seen d (Some kind.Chain) here = refused (bad_task_by faulty bad d) (p_step (task_from w v d) p_stop) (no_task d (Some kind.Chain) here refl)

-- ---- lines

module _ (s : Data → Result PTask SigFault) (bs : Data → Bool) (vs : Data → PTask) (hs : (d : Data) → seen (s d) ≡ but_for (bs d) (vs d))
    (e : Data → Result PLine SigFault) (be : Data → Bool) (ve : Data → PLine) (he : (d : Data) → seen (e d) ≡ but_for (be d) (ve d)) where
  elements_seen : (ds : List Data) → seen (elements_with s e ds) ≡ but_for (bad_elements bs be ds) (line_from vs ve ds)
  elements_seen [] = refl
  elements_seen (d ∷ []) = he d
  elements_seen (d ∷ c ∷ ds) =
      then_seen (s d) _ (bs d) (bad_elements bs be (c ∷ ds)) (vs d) (line_from vs ve (d ∷ c ∷ ds)) (hs d)
      (made_seen (elements_with s e (c ∷ ds)) (λ l. p_step (vs d) l) (bad_elements bs be (c ∷ ds)) (line_from vs ve (c ∷ ds)) (elements_seen (c ∷ ds)))

chain_seen : (o : Option SigFault) (r : Result PLine SigFault) (c : Bool) (l : PLine) → seen r ≡ but_for c l → seen (unless o r) ≡ but_for (is_some o || c) l
chain_seen o r c l h = unless_seen o r c l (λ none. h)

either : {A B : Type 0} (f : A → B) (a : Bool) (r : A) (s : A) (x y : B) → f r ≡ x → f s ≡ y → f (if a then r else s) ≡ (if a then x else y)
either f true r s x y h k = h
either f false r s x y h k = k

chosen : {A : Type 0} (a b c : Bool) (x y : A) → (if a then but_for b x else but_for c y) ≡ but_for (if a then b else c) (if a then x else y)
chosen true b c x y = refl
chosen false b c x y = refl

-- ---- to any depth

pub record Level (n : ℕ) : Type 0 where
  pub links : (d : Data) → seen (link_reading n d) ≡ but_for (bad_task_within n d) (task_within n d)
  pub steps : (d : Data) → seen (step_reading n d) ≡ but_for (bad_task_within n d) (task_within n d)
  pub lasts : (d : Data) → seen (last_reading n d) ≡ but_for (bad_last_within n d) (last_within n d)
  pub lines : (d : Data) → seen (line_reading n d) ≡ but_for (bad_line_within n d) (line_within n d)

line_seen : (n : ℕ) → Level n → (d : Data) → seen (line_reading (suc n) d) ≡ but_for (bad_line_within (suc n) d) (line_within (suc n) d)
line_seen n l d =
    let chain = elements_with (step_reading n) (last_reading n) (listed (tasks d)) in
    let bad_chain = bad_elements (bad_task_within n) (bad_last_within n) (listed (tasks d)) in
    let whole_chain = line_from (task_within n) (last_within n) (listed (tasks d)) in
    either seen (is_chain d) (unless (own_fault false d) chain) (last_as (link_reading n) (line_reading n) (primitive_of (subtype d)) d)
    (but_for (is_some (own_fault false d) || bad_chain) whole_chain)
    (but_for (bad_last_within (suc n) d) (last_within (suc n) d))
    (chain_seen (own_fault false d) chain bad_chain whole_chain
    (elements_seen (step_reading n) (bad_task_within n) (task_within n) l.steps (last_reading n) (bad_last_within n) (last_within n) l.lasts
    (listed (tasks d))))
    (last_seen (line_reading n) (bad_line_within n) (line_within n) l.lines (link_reading n) (bad_task_within n) (task_within n) l.links d
    (primitive_of (subtype d)) refl)
    ∙ chosen (is_chain d) (is_some (own_fault false d) || bad_chain) (bad_last_within (suc n) d) whole_chain (last_within (suc n) d)

next : (n : ℕ) → Level n → Level (suc n)
next n l =
    record {
      links = λ d. link_seen (line_reading n) (bad_line_within n) (line_within n) l.lines (link_reading n) (bad_task_within n) (task_within n) l.links d;
      steps = λ d. step_seen (line_reading n) (bad_line_within n) (line_within n) l.lines (link_reading n) (bad_task_within n) (task_within n) l.links d
          (primitive_of (subtype d)) refl;
      lasts = λ d. last_seen (line_reading n) (bad_line_within n) (line_within n) l.lines (link_reading n) (bad_task_within n) (task_within n) l.links d
          (primitive_of (subtype d)) refl;
      lines = line_seen n l;
    }

pub level : (n : ℕ) → Level n
level zero = record { links = λ d. refl; steps = λ d. refl; lasts = λ d. refl; lines = λ d. refl }
level (suc n) = next n (level n)
