-- The text of a line, around that of the body that its end carries.
use Rattle.std.proofs.Common.{◌≡◌, ◌∙◌, ℕ, Bool, true, false, List, [], ◌∷◌, ◌++◌, Option, Some, None, refl, sym, ap, append_assoc, append-nil}
use Rattle.std.specs.Prelude.{codes}
use Rattle.json.specs.Token.{Token, begin_array, end_array, end_object, key}
use Rattle.json.specs.Print.{print}
use Rattle.serde_json.specs.Data.{Data, string}
use Rattle.serde_json.specs.Written.{compact_text}
use Rattle.canvas_values.specs.steps.Tokens.{data_tokens, rest_tokens, closing_tokens}
use Rattle.canvas_semantics.specs.PlacedLine.{PTask, p_task, PPlace, p_nowhere, p_group, p_chord, PLine, p_stop, p_step, p_group_end, p_chord_end, PLines}
use Rattle.canvas_envelope.specs.Content.{end_place, place_of}
use Rattle.canvas_envelope.specs.SharedTexts.{SaysText, SaysRinged, ringed}
use Rattle.canvas_envelope.specs.Wire.{chain_wire, chord_wire, task_wire, carried_wire, line_wire, elements_wire, members_wire}
use Rattle.canvas_envelope.specs.steps.Parts.{is_stop}
use Rattle.canvas_envelope.specs.steps.Around.{is_carrying, carries, front_tasks, last_wire, task_before, chord_before, line_before, last_before, chord_behind, line_behind, last_behind}
use Rattle.canvas_envelope.specs.steps.Tokens.{task_front, task_behind, opening_tokens, each_tokens, chain_before, chain_behind}
use Rattle.canvas_envelope.proofs.Written.Holes.{after, after_both, starts, starts_both, text_around}
use Rattle.canvas_envelope.proofs.Written.TaskTokens.{task_parts, line_shown, chain_tokens, chord_tokens}

-- ---- a task

task_law : (size : Option ℕ) (t : PTask) → is_carrying (place_of t) ≡ true
    → data_tokens (task_wire size t) ≡ task_before size t ++ (data_tokens (carried_wire (place_of t)) ++ task_behind t)
task_law size (p_task k call links errbacks p_nowhere) h = absurd cc
task_law size (p_task k call links errbacks (p_group g)) h = absurd cc
task_law size (p_task k call links errbacks (p_chord g n b)) h =
    let t : PTask = p_task k call links errbacks (p_chord g n b) in
    task_parts size t
    ∙ ap (λ x. task_front size t ++ (x ++ task_behind t)) (line_shown (codes "chord") (Some n) b)
    ∙ sym (append_assoc (task_front size t) (key (codes "chord") ∷ []) (data_tokens (carried_wire (p_chord g n b)) ++ task_behind t))

-- ---- chords and chains

in_chord : (o a d z e : List Token) (k : Token) → o ++ ((k ∷ (a ++ (d ++ z))) ++ e) ≡ ((o ++ k ∷ []) ++ a) ++ (d ++ (z ++ e))
in_chord o a d z e k = simp append_assoc

chord_law : (size : Option ℕ) (g : ℕ) (ms : PLines) (b : Data) (a d z : List Token) → data_tokens b ≡ a ++ (d ++ z)
    → data_tokens (chord_wire size g (members_wire ms) b) ≡ (chord_before size ++ a) ++ (d ++ (z ++ chord_behind g ms))
chord_law size g ms b a d z is =
    sym (chord_tokens size g (members_wire ms) b)
    ∙ ap (λ x. opening_tokens size ++ ((key (codes "body") ∷ x) ++ chord_behind g ms)) is
    ∙ in_chord (opening_tokens size) a d z (chord_behind g ms) (key (codes "body"))

elements_split : (l : PLine) → is_stop l ≡ false
    → rest_tokens (elements_wire l) ≡ each_tokens (front_tasks l) ++ (data_tokens (last_wire l) ++ end_array ∷ [])
elements_split p_stop h = absurd cc
elements_split (p_step t p_stop) h = refl
elements_split (p_step t (p_step u l)) h = step_split t (p_step u l) (elements_split (p_step u l) refl)
  where
    step_split : (t : PTask) (l : PLine) → rest_tokens (elements_wire l) ≡ each_tokens (front_tasks l) ++ (data_tokens (last_wire l) ++ end_array ∷ [])
        → data_tokens (task_wire None t) ++ rest_tokens (elements_wire l)
        ≡ (data_tokens (task_wire None t) ++ each_tokens (front_tasks l)) ++ (data_tokens (last_wire l) ++ end_array ∷ [])
    step_split t l is =
        ap (λ x. data_tokens (task_wire None t) ++ x) is
        ∙ sym (append_assoc (data_tokens (task_wire None t)) (each_tokens (front_tasks l)) (data_tokens (last_wire l) ++ end_array ∷ []))
elements_split (p_step t (p_group_end g ms)) h =
    ap (λ x. x ++ rest_tokens (elements_wire (p_group_end g ms))) (sym (append-nil (data_tokens (task_wire None t))))
elements_split (p_step t (p_chord_end g ms b)) h =
    ap (λ x. x ++ rest_tokens (elements_wire (p_chord_end g ms b))) (sym (append-nil (data_tokens (task_wire None t))))
elements_split (p_group_end g ms) h = refl
elements_split (p_chord_end g ms b) h = refl

in_chain : (o f a d z c : List Token) (k x y w : Token)
    → o ++ (((k ∷ x ∷ (f ++ ((a ++ (d ++ z)) ++ y ∷ []))) ++ w ∷ []) ++ c) ≡ ((o ++ k ∷ x ∷ f) ++ a) ++ (d ++ (z ++ y ∷ w ∷ c))
in_chain o f a d z c k x y w = simp append_assoc

chain_law : (size : Option ℕ) (l : PLine) (a d z : List Token) → is_stop l ≡ false → data_tokens (last_wire l) ≡ a ++ (d ++ z)
    → data_tokens (chain_wire size (elements_wire l)) ≡ (chain_before size (front_tasks l) ++ a) ++ (d ++ (z ++ chain_behind))
chain_law size l a d z more is =
    let c : List Token = closing_tokens (string (codes "chain")) (codes "celery.chain") in
    sym (chain_tokens size (elements_wire l))
    ∙ ap (λ x. opening_tokens size ++ (((key (codes "tasks") ∷ begin_array ∷ x) ++ end_object ∷ []) ++ c))
    (elements_split l more ∙ ap (λ x. each_tokens (front_tasks l) ++ (x ++ end_array ∷ [])) is)
    ∙ in_chain (opening_tokens size) (each_tokens (front_tasks l)) a d z c (key (codes "tasks")) begin_array end_array end_object

-- ---- lines

-- what the law says of a line
abbrev inside : PLine → List Token
inside l = data_tokens (carried_wire (end_place l))

chord_case : (size : Option ℕ) (g : ℕ) (ms : PLines) (b : PLine) → data_tokens (line_wire None b) ≡ line_before None b ++ (inside b ++ line_behind b)
    → data_tokens (chord_wire size g (members_wire ms) (line_wire None b))
    ≡ (chord_before size ++ line_before None b) ++ (inside b ++ (line_behind b ++ chord_behind g ms))
chord_case size g ms b is = chord_law size g ms (line_wire None b) (line_before None b) (inside b) (line_behind b) is

chain_case : (size : Option ℕ) (t : PTask) (l : PLine) → is_stop l ≡ false
    → data_tokens (last_wire (p_step t l)) ≡ last_before l ++ (inside l ++ last_behind l)
    → data_tokens (chain_wire size (elements_wire (p_step t l)))
    ≡ (chain_before size (front_tasks (p_step t l)) ++ last_before l) ++ (inside l ++ (last_behind l ++ chain_behind))
chain_case size t l more is = chain_law size (p_step t l) (last_before l) (inside l) (last_behind l) refl is

mutual
  line_law : (size : Option ℕ) (l : PLine) → carries l ≡ true
      → data_tokens (line_wire size l) ≡ line_before size l ++ (data_tokens (carried_wire (end_place l)) ++ line_behind l)
  line_law size p_stop h = absurd cc
  line_law size (p_step t p_stop) h = task_law size t h
  line_law size (p_step t (p_step u l)) h = chain_case size t (p_step u l) refl (last_law (p_step u l) h)
  line_law size (p_step t (p_group_end g ms)) h = absurd cc
  line_law size (p_step t (p_chord_end g ms b)) h = chain_case size t (p_chord_end g ms b) refl (chord_case None g ms b (line_law None b h))
  line_law size (p_group_end g ms) h = absurd cc
  line_law size (p_chord_end g ms b) h = chord_case size g ms b (line_law None b h)

  last_law : (l : PLine) → carries l ≡ true
      → data_tokens (last_wire l) ≡ last_before l ++ (data_tokens (carried_wire (end_place l)) ++ last_behind l)
  last_law p_stop h = absurd cc
  last_law (p_step t p_stop) h = task_law None t h
  last_law (p_step t (p_step u l)) h = last_law (p_step u l) h
  last_law (p_step t (p_group_end g ms)) h = absurd cc
  last_law (p_step t (p_chord_end g ms b)) h = chord_case None g ms b (line_law None b h)
  last_law (p_group_end g ms) h = absurd cc
  last_law (p_chord_end g ms b) h = chord_case None g ms b (line_law None b h)

-- ---- the place of the value

task_open : (size : Option ℕ) (t : PTask) (s : Bool) → after s (task_before size t) ≡ false
task_open size t s =
    after_both s (task_front size t) (key (codes "chord") ∷ [])

then_open : (a b : List Token) (s : Bool) → ((s : Bool) → after s b ≡ false) → after s (a ++ b) ≡ false
then_open a b s h = after_both s a b ∙ h (after s a)

mutual
  line_open : (size : Option ℕ) (l : PLine) (s : Bool) → carries l ≡ true → after s (line_before size l) ≡ false
  line_open size p_stop s h = absurd cc
  line_open size (p_step t p_stop) s h = task_open size t s
  line_open size (p_step t (p_step u l)) s h =
      then_open (chain_before size (t ∷ front_tasks (p_step u l))) (last_before (p_step u l)) s (λ x. last_open (p_step u l) x h)
  line_open size (p_step t (p_group_end g ms)) s h = absurd cc
  line_open size (p_step t (p_chord_end g ms b)) s h =
      then_open (chain_before size (t ∷ [])) (chord_before None ++ line_before None b) s
      (λ x. then_open (chord_before None) (line_before None b) x (λ y. line_open None b y h))
  line_open size (p_group_end g ms) s h = absurd cc
  line_open size (p_chord_end g ms b) s h = then_open (chord_before size) (line_before None b) s (λ x. line_open None b x h)

  last_open : (l : PLine) (s : Bool) → carries l ≡ true → after s (last_before l) ≡ false
  last_open p_stop s h = absurd cc
  last_open (p_step t p_stop) s h = task_open None t s
  last_open (p_step t (p_step u l)) s h = last_open (p_step u l) s h
  last_open (p_step t (p_group_end g ms)) s h = absurd cc
  last_open (p_step t (p_chord_end g ms b)) s h = then_open (chord_before None) (line_before None b) s (λ x. line_open None b x h)
  last_open (p_group_end g ms) s h = absurd cc
  last_open (p_chord_end g ms b) s h = then_open (chord_before None) (line_before None b) s (λ x. line_open None b x h)

task_starts : (t : PTask) → is_carrying (place_of t) ≡ true → starts (task_behind t) ≡ true
task_starts (p_task k call links errbacks p_nowhere) h = absurd cc
task_starts (p_task k call links errbacks (p_group g)) h = absurd cc
task_starts (p_task k call links errbacks (p_chord g n b)) h = refl

mutual
  line_starts : (l : PLine) → carries l ≡ true → starts (line_behind l) ≡ true
  line_starts p_stop h = absurd cc
  line_starts (p_step t p_stop) h = task_starts t h
  line_starts (p_step t (p_step u l)) h = starts_both (last_behind (p_step u l)) chain_behind (last_starts (p_step u l) h)
  line_starts (p_step t (p_group_end g ms)) h = absurd cc
  line_starts (p_step t (p_chord_end g ms b)) h =
      starts_both (last_behind (p_chord_end g ms b)) chain_behind (starts_both (line_behind b) (chord_behind g ms) (line_starts b h))
  line_starts (p_group_end g ms) h = absurd cc
  line_starts (p_chord_end g ms b) h = starts_both (line_behind b) (chord_behind g ms) (line_starts b h)

  last_starts : (l : PLine) → carries l ≡ true → starts (last_behind l) ≡ true
  last_starts p_stop h = absurd cc
  last_starts (p_step t p_stop) h = task_starts t h
  last_starts (p_step t (p_step u l)) h = last_starts (p_step u l) h
  last_starts (p_step t (p_group_end g ms)) h = absurd cc
  last_starts (p_step t (p_chord_end g ms b)) h = starts_both (line_behind b) (chord_behind g ms) (line_starts b h)
  last_starts (p_group_end g ms) h = absurd cc
  last_starts (p_chord_end g ms b) h = starts_both (line_behind b) (chord_behind g ms) (line_starts b h)

-- ---- texts

line_around : (size : Option ℕ) (l : PLine) → carries l ≡ true
    → compact_text (line_wire size l) ≡ print (line_before size l) ++ (compact_text (carried_wire (end_place l)) ++ 44 ∷ print (line_behind l))
line_around size l h =
    text_around (line_wire size l) (carried_wire (end_place l)) (line_before size l) (line_behind l) (line_law size l h) (line_open size l false h)
    (line_starts l h)

last_around : (l : PLine) → carries l ≡ true
    → compact_text (last_wire l) ≡ print (last_before l) ++ (compact_text (carried_wire (end_place l)) ++ 44 ∷ print (last_behind l))
last_around l h =
    text_around (last_wire l) (carried_wire (end_place l)) (last_before l) (last_behind l) (last_law l h) (last_open l false h)
    (last_starts l h)

end_carries : (l : PLine) → is_carrying (end_place l) ≡ carries l
end_carries p_stop = refl
end_carries (p_step t p_stop) = refl
end_carries (p_step t (p_step u l)) = end_carries (p_step u l)
end_carries (p_step t (p_group_end g ms)) = refl
end_carries (p_step t (p_chord_end g ms b)) = end_carries b
end_carries (p_group_end g ms) = refl
end_carries (p_chord_end g ms b) = end_carries b

says_text : (text : List ℕ) (p : PPlace) → is_carrying p ≡ true → SaysText text p → text ≡ compact_text (carried_wire p)
says_text text p_nowhere h is = absurd cc
says_text text (p_group g) h is = absurd cc
says_text text (p_chord g n b) h is = is

pub says_all : (rs : List (List ℕ × List ℕ)) (core : List ℕ) (p : PPlace) → SaysRinged rs core p → SaysText (ringed rs core) p
says_all [] core p h = h
says_all (r ∷ rs) core p h = h.0

carried_is : (rs : List (List ℕ × List ℕ)) (core : List ℕ) (l : PLine) → carries l ≡ true → SaysRinged rs core (end_place l)
    → ringed rs core ≡ compact_text (carried_wire (end_place l))
carried_is rs core l h said = says_text (ringed rs core) (end_place l) (end_carries l ∙ h) (says_all rs core (end_place l) said)

-- a carried body
pub body_around : (size : ℕ) (l : PLine) (rs : List (List ℕ × List ℕ)) (core before behind : List ℕ) → carries l ≡ true → SaysRinged rs core (end_place l)
    → before ≡ print (line_before (Some size) l) → behind ≡ 44 ∷ print (line_behind l)
    → before ++ (ringed rs core ++ behind) ≡ compact_text (line_wire (Some size) l)
body_around size l rs core before behind h said is_before is_behind = sym (
    line_around (Some size) l h
    ∙ ap (λ x. print (line_before (Some size) l) ++ (x ++ 44 ∷ print (line_behind l))) (sym (carried_is rs core l h said))
    ∙ ap (λ x. x ++ (ringed rs core ++ 44 ∷ print (line_behind l))) (sym is_before)
    ∙ ap (λ x. before ++ (ringed rs core ++ x)) (sym is_behind))

-- the last element of a line
pub element_around : (l : PLine) (rs : List (List ℕ × List ℕ)) (core before behind : List ℕ) → carries l ≡ true → SaysRinged rs core (end_place l)
    → before ≡ print (last_before l) → behind ≡ 44 ∷ print (last_behind l)
    → (before ++ ringed rs core) ++ behind ≡ compact_text (last_wire l)
element_around l rs core before behind h said is_before is_behind =
    append_assoc before (ringed rs core) behind
    ∙ sym (
    last_around l h
    ∙ ap (λ x. print (last_before l) ++ (x ++ 44 ∷ print (last_behind l))) (sym (carried_is rs core l h said))
    ∙ ap (λ x. x ++ (ringed rs core ++ 44 ∷ print (last_behind l))) (sym is_before)
    ∙ ap (λ x. before ++ (ringed rs core ++ x)) (sym is_behind))
