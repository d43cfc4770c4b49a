-- The text of a line from its last element on, with where its elements end.
use Rattle.std.proofs.Common.{◌≡◌, ◌<◌, ◌∙◌, ◌+◌, ℕ, suc, drop-cons, get_or, Bool, true, false, List, [], ◌∷◌, ◌++◌, ◌==◌, length, take, map, drop, arith, Option, Some, None, Box, Global, refl, sym, ap, ap₂, subst, append_assoc, append-nil, ne_eqb, rules}
use Rattle.std.specs.Prelude.{reverse, not, is_some}
use Rattle.std.specs.Str.{IsUtf8}
use Rattle.std.proofs.lemmas.List.{append_cancel_right, reverse-append, take-append-le, take_all, length-append, drop_all}
use Rattle.std.proofs.lemmas.Str.{IsUtf8-append, IsUtf8-nil, IsUtf8-from_ascii}
use Rattle.json.specs.Print.{print, print_from}
use Rattle.serde_json.specs.Data.{Data, Items, no_items, item}
use Rattle.serde_json.specs.Written.{compact_text, items_text, comma_if}
use Rattle.json.specs.Written.{Written}
use Rattle.canvas_values.specs.steps.Tokens.{data_tokens}
use Rattle.canvas_values.proofs.Written.Writers.{Stands}
use Rattle.serde_json.proofs.Texts.{print-outline}
use Rattle.canvas_semantics.specs.PlacedLine.{PTask, PLine, p_stop, p_step, p_group_end, p_chord_end}
use Rattle.canvas_rewrite.specs.FrozenView.{p_steps, p_task_view, p_line_view, p_end_view}
use Rattle.canvas_rewrite.specs.declared.frozen.FrozenTask.{FrozenTask}
use Rattle.canvas_rewrite.specs.declared.frozen.FrozenLine.{FrozenLine, out-FrozenLine}
use Rattle.canvas_rewrite.specs.declared.frozen.FrozenEnd.{FrozenEnd, out-FrozenEnd}
use Rattle.canvas_envelope.specs.Content.{end_place}
use Rattle.canvas_envelope.specs.SharedTexts.{AreEnds, IsListed, SaysRinged, backwards, ringed}
use Rattle.canvas_envelope.specs.Wire.{task_wire, line_wire, elements_wire, onto_reversed}
use Rattle.canvas_envelope.specs.steps.Parts.{is_stop}
use Rattle.canvas_envelope.specs.steps.Around.{carries, front_tasks, last_wire, last_before, last_behind}
use Rattle.canvas_envelope.specs.steps.Listing.{Listing, tail_line, last_line}
use Rattle.canvas_envelope.specs.steps.Tokens.{tasks_of_line, tail_tokens}
use Rattle.canvas_envelope.proofs.Written.AroundTexts.{element_around}
use Rattle.canvas_envelope.proofs.Written.LineTokens.{tasks_seen}
use Rattle.canvas_envelope.proofs.Seen.{line_none, line_some, end_none, end_some}

-- ---- the text of items, without the brackets

abbrev listed : Bool → Items → List ℕ
listed later no_items = []
listed later (item d ds) = comma_if later ++ (compact_text d ++ listed true ds)

with_bracket : (later : Bool) (ds : Items) → items_text later ds ≡ listed later ds ++ 93 ∷ []
with_bracket later no_items = refl
with_bracket later (item d ds) =
    ap (λ x. comma_if later ++ (compact_text d ++ x)) (with_bracket true ds)
    ∙ ap (λ x. comma_if later ++ x) (sym (append_assoc (compact_text d) (listed true ds) (93 ∷ [])))
    ∙ sym (append_assoc (comma_if later) (compact_text d ++ listed true ds) (93 ∷ []))

listed_is : (text : List ℕ) (ds : Items) → IsListed text ds → text ≡ listed false ds
listed_is text ds h = append_cancel_right text (listed false ds) (93 ∷ []) (h ∙ with_bracket false ds)

is_listed : (text : List ℕ) (ds : Items) → text ≡ listed false ds → IsListed text ds
is_listed text ds h = ap (λ x. x ++ 93 ∷ []) h ∙ sym (with_bracket false ds)

abbrev behind : Items → Data → Items
behind no_items d = item d no_items
behind (item e es) d = item e (behind es d)

abbrev follows : Bool → Items → Bool
follows later no_items = later
follows later (item d ds) = true

follows_true : (ds : Items) → follows true ds ≡ true
follows_true no_items = refl
follows_true (item d ds) = refl

one_more : (later : Bool) (ds : Items) (d : Data)
    → listed later (behind ds d) ≡ listed later ds ++ (comma_if (follows later ds) ++ compact_text d)
one_more later no_items d = ap (λ x. comma_if later ++ x) (append-nil (compact_text d))
one_more later (item e es) d =
    ap (λ x. comma_if later ++ (compact_text e ++ x))
    (one_more true es d ∙ ap (λ b. listed true es ++ (comma_if b ++ compact_text d)) (follows_true es))
    ∙ ap (λ x. comma_if later ++ x) (sym (append_assoc (compact_text e) (listed true es) (comma_if true ++ compact_text d)))
    ∙ sym (append_assoc (comma_if later) (compact_text e ++ listed true es) (comma_if true ++ compact_text d))

-- ---- a line's elements, the last first

turned_behind : (es more : Items) (d : Data) → onto_reversed es (behind more d) ≡ behind (onto_reversed es more) d
turned_behind no_items more d = refl
turned_behind (item e es) more d = turned_behind es (item e more) d

step_behind : (t : PTask) (l : PLine) → backwards (p_step t l) ≡ behind (backwards l) (task_wire None t)
step_behind t l = turned_behind (elements_wire l) no_items (task_wire None t)

behind_follows : (es : Items) (d : Data) → follows false (behind es d) ≡ true
behind_follows no_items d = refl
behind_follows (item e es) d = refl

line_follows : (l : PLine) → follows false (backwards l) ≡ not (is_stop l)
line_follows p_stop = refl
line_follows (p_step t l) = ap (follows false) (step_behind t l) ∙ behind_follows (backwards l) (task_wire None t)
line_follows (p_group_end g ms) = refl
line_follows (p_chord_end g ms b) = refl

listed_more : (text : List ℕ) (t : PTask) (l : PLine) (later : Bool) → later ≡ not (is_stop l) → IsListed text (backwards l)
    → IsListed ((text ++ comma_if later) ++ compact_text (task_wire None t)) (backwards (p_step t l))
listed_more text t l later is h =
    is_listed _ (backwards (p_step t l))
    (append_assoc text (comma_if later) (compact_text (task_wire None t))
    ∙ ap₂ (λ x b. x ++ (comma_if b ++ compact_text (task_wire None t))) (listed_is text (backwards l) h) (is ∙ sym (line_follows l))
    ∙ sym (ap (listed false) (step_behind t l) ∙ one_more false (backwards l) (task_wire None t)))

-- ---- ends

ends_grow : (head text more ends : List ℕ) (l : PLine) → AreEnds head text ends l → AreEnds head (text ++ more) ends l
ends_grow head text more [] l h = tt
ends_grow head text more (e ∷ es) l h =
    let same : take e (text ++ more) ≡ take e text = take-append-le e text more h.0 in (
      omega (arith, h.0, length-append text more),
      subst IsUtf8 (sym same) h.1,
      subst (λ x. IsListed (head ++ x) (backwards l)) (sym same) h.2,
      ends_grow head text more es _ h.3,
    )

all_of : (text : List ℕ) (e : ℕ) → e ≡ length text → take e text ≡ text
all_of text e is = take_all e text (omega (arith, is))

comma_utf8 : (later : Bool) → IsUtf8 (comma_if later)
comma_utf8 true = IsUtf8-from_ascii (44 ∷ []) (search rules)
comma_utf8 false = IsUtf8-nil

behind_head : (head text c d : List ℕ) → ((head ++ text) ++ c) ++ d ≡ head ++ ((text ++ c) ++ d)
behind_head head text c d = simp append_assoc

pub grown : (head text ends : List ℕ) (t : PTask) (l : PLine) (later : Bool) (with_comma all ends' : List ℕ) (e : ℕ)
    → Listing head text ends l → later ≡ not (length ends == 0) → with_comma ≡ text ++ comma_if later
    → all ≡ with_comma ++ compact_text (task_wire None t) → IsUtf8 (compact_text (task_wire None t)) → e ≡ length all → ends' ≡ ends ++ e ∷ []
    → Listing head all ends' (p_step t l)
grown head text ends t l later with_comma all ends' e h is commaed written utf8 end pushed =
    let flag : later ≡ not (is_stop l) = is ∙ ap not h.none in
    let its : all ≡ (text ++ comma_if later) ++ compact_text (task_wire None t) =
    written ∙ ap (λ x. x ++ compact_text (task_wire None t)) commaed in
    let long : all ≡ text ++ (comma_if later ++ compact_text (task_wire None t)) =
    its ∙ append_assoc text (comma_if later) (compact_text (task_wire None t)) in
    let listing : IsListed (head ++ all) (backwards (p_step t l)) =
    subst (λ x. IsListed x (backwards (p_step t l)))
    (behind_head head text (comma_if later) (compact_text (task_wire None t)) ∙ ap (λ x. head ++ x) (sym its))
    (listed_more (head ++ text) t l later flag h.listed) in
    let whole : take e all ≡ all = all_of all e end in
    let valid : IsUtf8 all =
    subst IsUtf8 (sym its) (IsUtf8-append _ _ (IsUtf8-append _ _ h.utf8 (comma_utf8 later)) utf8) in
    record {
      listed = listing;
      utf8 = valid;
      ended = subst (λ es. AreEnds head all es (p_step t l)) (sym (ap reverse pushed ∙ reverse-append ends (e ∷ []))) (
        omega (arith, end),
        subst IsUtf8 (sym whole) valid,
        subst (λ x. IsListed (head ++ x) (backwards (p_step t l))) (sym whole) listing,
        subst (λ x. AreEnds head x (reverse ends) l) (sym long) (ends_grow head text _ (reverse ends) l h.ended),
      );
      none = ne_eqb (length ends') 0 (λ z. absurd (omega (arith, z, ap length pushed, length-append ends (e ∷ []))));
    }

-- ---- the end of a line

tail_listed : (l : PLine) → IsListed (print (tail_tokens l)) (backwards (tail_line l))
unfolding print_from
tail_listed p_stop = refl
tail_listed (p_step t l) = tail_listed l
tail_listed (p_group_end g ms) = ap (λ x. x ++ 93 ∷ []) (print-outline (line_wire None (p_group_end g ms)))
tail_listed (p_chord_end g ms b) = ap (λ x. x ++ 93 ∷ []) (print-outline (line_wire None (p_chord_end g ms b)))

ends_of : (head text : List ℕ) (l : PLine) → IsUtf8 text → IsListed (head ++ text) (backwards l) → AreEnds head text (length text ∷ []) l
ends_of head text l utf8 h =
    let whole : take (length text) text ≡ text = all_of text (length text) refl in
    (omega arith, subst IsUtf8 (sym whole) utf8, subst (λ x. IsListed (head ++ x) (backwards l)) (sym whole) h, tt)

-- one element
only_one : (head text ends : List ℕ) (l : PLine) (e : ℕ) → IsListed (head ++ text) (backwards l) → IsUtf8 text → is_stop l ≡ false
    → e ≡ length text → ends ≡ e ∷ [] → Listing head text ends l
only_one head text ends l e listing utf8 more end one =
    record {
      listed = listing;
      utf8 = utf8;
      ended = subst (λ es. AreEnds head text (reverse es) l) (sym (one ∙ ap (λ k. k ∷ []) end)) (ends_of head text l utf8 listing);
      none = ap (λ es. length es == 0) one ∙ sym more;
    }

-- a line that ends in a task, and one that doesn't
pub begun_none : (l : PLine) (text ends : List ℕ) → text ≡ print (tail_tokens l) → IsUtf8 text → is_stop (tail_line l) ≡ true → ends ≡ []
    → Listing [] text ends (tail_line l)
begun_none l text ends is utf8 stop empty = record {
  listed = subst (λ x. IsListed x (backwards (tail_line l))) (sym is) (tail_listed l);
  utf8 = utf8;
  ended = subst (λ es. AreEnds [] text (reverse es) (tail_line l)) (sym empty) tt;
  none = ap (λ es. length es == 0) empty ∙ sym stop;
}

pub begun_some : (l : PLine) (text ends : List ℕ) (e : ℕ) → text ≡ print (tail_tokens l) → IsUtf8 text → is_stop (tail_line l) ≡ false
    → e ≡ length text → ends ≡ e ∷ []
    → Listing [] text ends (tail_line l)
begun_some l text ends e is utf8 more end one =
    only_one [] text ends (tail_line l) e (subst (λ x. IsListed x (backwards (tail_line l))) (sym is) (tail_listed l)) utf8 more end one

-- the last element, around the text of the body that it carries
last_stays : (l : PLine) → carries l ≡ true → is_stop (last_line l) ≡ false
last_stays p_stop h = absurd cc
last_stays (p_step t p_stop) h = refl
last_stays (p_step t (p_step u l)) h = last_stays (p_step u l) h
last_stays (p_step t (p_group_end g ms)) h = absurd cc
last_stays (p_step t (p_chord_end g ms b)) h = refl
last_stays (p_group_end g ms) h = absurd cc
last_stays (p_chord_end g ms b) h = refl

last_backwards : (l : PLine) → carries l ≡ true → backwards (last_line l) ≡ item (last_wire l) no_items
last_backwards p_stop h = absurd cc
last_backwards (p_step t p_stop) h = refl
last_backwards (p_step t (p_step u l)) h = last_backwards (p_step u l) h
last_backwards (p_step t (p_group_end g ms)) h = absurd cc
last_backwards (p_step t (p_chord_end g ms b)) h = refl
last_backwards (p_group_end g ms) h = absurd cc
last_backwards (p_chord_end g ms b) h = refl

pub begun_around : (l : PLine) (rs : List (List ℕ × List ℕ)) (core before text ends : List ℕ) (e : ℕ) → carries l ≡ true → SaysRinged rs core (end_place l)
    → before ≡ print (last_before l) → text ≡ 44 ∷ print (last_behind l) → IsUtf8 text → e ≡ length text → ends ≡ e ∷ []
    → Listing (before ++ ringed rs core) text ends (last_line l)
begun_around l rs core before text ends e h said is_before is_text utf8 end one =
    only_one (before ++ ringed rs core) text ends (last_line l) e
    (ap (λ x. x ++ 93 ∷ []) (element_around l rs core before text h said is_before is_text) ∙ ap (items_text false) (sym (last_backwards l h)))
    utf8 (last_stays l h) end one

-- ---- a line by its tasks

steps_of_line : (l : PLine) → p_steps (tasks_of_line l) (tail_line l) ≡ l
steps_of_line p_stop = refl
steps_of_line (p_step t l) = ap (p_step t) (steps_of_line l)
steps_of_line (p_group_end g ms) = refl
steps_of_line (p_chord_end g ms b) = refl

pub all_tasks : (l : FrozenLine) (ts : List FrozenTask) → ts ≡ (out-FrozenLine l).tasks
    → p_steps (map p_task_view ts) (tail_line (p_line_view l)) ≡ p_line_view l
all_tasks l ts same =
    ap (λ xs. p_steps xs (tail_line (p_line_view l))) (ap (map p_task_view) same ∙ sym (tasks_seen l)) ∙ steps_of_line (p_line_view l)

pub front_and_last : (l : PLine) → p_steps (front_tasks l) (last_line l) ≡ l
front_and_last p_stop = refl
front_and_last (p_step t p_stop) = refl
front_and_last (p_step t (p_step u l)) = ap (p_step t) (front_and_last (p_step u l))
front_and_last (p_step t (p_group_end g ms)) = refl
front_and_last (p_step t (p_chord_end g ms b)) = refl
front_and_last (p_group_end g ms) = refl
front_and_last (p_chord_end g ms b) = refl

-- some tasks from one on, and then a line
abbrev pub from_task : List FrozenTask → ℕ → PLine → PLine
from_task ts i l = p_steps (map p_task_view (drop i ts)) l

pub from_none : (ts : List FrozenTask) (n : ℕ) (l : PLine) → n ≡ length ts → from_task ts n l ≡ l
from_none ts n l is = ap (λ xs. p_steps (map p_task_view xs) l) (drop_all n ts (omega (arith, is)))

pub from_next : (ts : List FrozenTask) (n i : ℕ) (t : FrozenTask) (l : PLine) → n ≡ suc i → i < length ts → t ≡ get_or ts i t
    → from_task ts i l ≡ p_step (p_task_view t) (from_task ts n l)
from_next ts n i t l is lt at =
    ap (λ xs. p_steps (map p_task_view xs) l) (drop-cons ts i t lt)
    ∙ ap₂ (λ u k. p_step (p_task_view u) (p_steps (map p_task_view (drop k ts)) l)) (sym at) (sym is)

tail_stops : (l : FrozenLine) → (out-FrozenLine l).tail ≡ None → is_stop (tail_line (p_line_view l)) ≡ true
tail_stops l e = ap (λ x. is_stop (tail_line x)) (line_none l e) ∙ stops (map p_task_view (out-FrozenLine l).tasks)
  where
    stops : (ts : List PTask) → is_stop (tail_line (p_steps ts p_stop)) ≡ true
    stops [] = refl
    stops (t ∷ ts) = stops ts

end_stays : (t : FrozenEnd) (o : Option FrozenLine) → (out-FrozenEnd t).body ≡ o → is_stop (tail_line (p_end_view t)) ≡ false
end_stays t None e = ap (λ x. is_stop (tail_line x)) (end_none t e)
end_stays t (Some b) e = ap (λ x. is_stop (tail_line x)) (end_some t b e)

tail_stays : (l : FrozenLine) (b : Box FrozenEnd Global) → (out-FrozenLine l).tail ≡ Some b → is_stop (tail_line (p_line_view l)) ≡ false
tail_stays l b e = ap (λ x. is_stop (tail_line x)) (line_some l b e) ∙ stays (map p_task_view (out-FrozenLine l).tasks)
  where
    stays : (ts : List PTask) → is_stop (tail_line (p_steps ts (p_end_view b.value))) ≡ false
    stays [] = end_stays b.value (out-FrozenEnd b.value).body refl
    stays (t ∷ ts) = stays ts

pub no_tail_by : (l : FrozenLine) (o : Option (Box FrozenEnd Global)) → (out-FrozenLine l).tail ≡ o → is_some o ≡ false
    → is_stop (tail_line (p_line_view l)) ≡ true
no_tail_by l None e h = tail_stops l e
no_tail_by l (Some b) e h = absurd cc

pub a_tail_by : (l : FrozenLine) (o : Option (Box FrozenEnd Global)) → (out-FrozenLine l).tail ≡ o → is_some o ≡ true
    → is_stop (tail_line (p_line_view l)) ≡ false
a_tail_by l None e h = absurd cc
a_tail_by l (Some b) e h = tail_stays l b e

-- ---- what a writer appends to the bytes that it begins with

pub put_behind : (d : Data) (start end : Written) (bytes before : List ℕ) → start.before ≡ before → start.tokens ≡ []
    → Stands start end (data_tokens d)
    → bytes ≡ end.before ++ print end.tokens → bytes ≡ before ++ compact_text d
put_behind d start end bytes before there new written is =
    is ∙ ap₂ (λ b ts. b ++ print ts) (written.1 ∙ there) (written.0 ∙ ap (λ ts. ts ++ data_tokens d) new)
    ∙ ap (λ x. before ++ x) (print-outline d)

pub printed : (d : Data) (start end : Written) → start.tokens ≡ [] → Stands start end (data_tokens d) → print end.tokens ≡ compact_text d
printed d start end new written = ap print (written.0 ∙ ap (λ ts. ts ++ data_tokens d) new) ∙ print-outline d
