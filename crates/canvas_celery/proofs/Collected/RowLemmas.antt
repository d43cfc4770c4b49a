-- Rows of any kind, and what they follow from.
use Rattle.std.proofs.Common.{◌≡◌, ◌≢◌, ◌∙◌, ◌==◌, ◌<◌, ◌≤◌, ◌+◌, ℕ, [], ◌++◌, Some, None, true, false, if◌then◌else◌, codes, length, length-append, append_assoc, get_or, drop, arith, sym, ap, subst, ⊎_elim, not, eqb-true}
use Rattle.std.specs.Prelude.{Result, Ok, Err, IfOk, MatchResult, String, string_bytes}
use Rattle.std.specs.declared.alloc.AllocError.{AllocError}
use Rattle.std.specs.Global.{Global}
use Rattle.std.specs.List.{before_first, position_or_len}
use Rattle.json.specs.Lex.{tokens}
use Rattle.json.specs.Print.{print}
use Rattle.std.specs.Str.{IsUtf8, is_utf8, IsCharBoundary}
use Rattle.std.proofs.lemmas.Bool.{cases_lt}
use Rattle.std.proofs.lemmas.List.{drop_at, get_or-append_right}
use Rattle.std.proofs.lemmas.List.Sums.{passes_at_first, prefix_len-le-length}
use Rattle.std.proofs.lemmas.Str.{IsUtf8-drop, IsUtf8-take, IsCharBoundary-after_ascii, IsCharBoundary-before_ascii, IsCharBoundary-end, IsUtf8-string_bytes}
use Rattle.serde_json.specs.Data.{Data, depth}
use Rattle.serde_json.specs.Read.{read, max_depth}
use Rattle.serde_json.proofs.Nesting.{depth-read}
use Rattle.canvas_task.specs.Text.{Text}
use Rattle.canvas_task.specs.Printed.{kind_name}
use Rattle.canvas_task.specs.declared.outcome.Why.{Why}
use Rattle.canvas_task.specs.declared.outcome.Kind.{Kind}
use Rattle.canvas_task.specs.declared.outcome.Kind.TheVariants as kind
use Rattle.canvas_values.specs.CanvasText.{json_of}
use Rattle.canvas_values.proofs.Depth.{field_low}
use Rattle.canvas_celery.specs.Run.{run_task}
use Rattle.canvas_report.specs.declared.row.Row.{Row}
use Rattle.canvas_report.specs.declared.row.Row.TheVariants.{Known, Value, Raised, Blamed}
use Rattle.canvas_celery.specs.declared.results.stored.StoredFault.{StoredFault}
use Rattle.canvas_celery.specs.declared.results.stored.StoredFault.TheVariants.{NotJson, OtherTask, UnknownState, UnknownException}
use Rattle.canvas_celery.specs.declared.results.stored.StoredFault.TheVariants.{Memory}
use Rattle.canvas_celery.specs.Stored.{result_of, class_of, message_of, Blames, IsResult}
use Rattle.canvas_celery.specs.declared.results.stored.Lack.TheVariants as lack
use Rattle.canvas_celery.specs.steps.Lacking.{LacksOutcome}
use Rattle.canvas_celery.specs.AsStored.{IsJsonOf, Names, IsRow}
use Rattle.canvas_celery.specs.steps.Parsed.{IsUnread}
use Rattle.canvas_celery.specs.steps.Rows.{IsRefused, HasJson, HasClass, HasBlame, LacksClass, IsChordRow, ResultFault, LineFault}
use Rattle.canvas_celery.proofs.Collected.Dependency.{blames_one}
use Rattle.canvas_celery.proofs.Collected.Identifiers.{length-run_task}
use Rattle.canvas_celery.proofs.Collected.Json.{json_is}

-- both outcomes of a call
pub both : {A B : Type 0} (r : Result A B) (P Q : A → Type 0) (R S : B → Type 0)
    → ((a : A) → P a → Q a) → ((b : B) → R b → S b) → MatchResult r P R → MatchResult r Q S
both (Ok a) P Q R S f g h = f a h
both (Err b) P Q R S f g h = g b h

-- ---- what is written

pub written : (r : Result (String Global) AllocError) (d : Data) → depth d ≤ max_depth → IfOk r (λ s. string_bytes s ≡ print (tokens (string_bytes s)))
    → IfOk r (λ s. depth d ≤ max_depth → read (string_bytes s) ≡ Some d) → IfOk r (λ s. IsJsonOf (string_bytes s) d)
written (Ok s) d low compact back = (json_is (string_bytes s) d (IsUtf8-string_bytes s) (back low), compact)
written (Err e) d low compact back = tt

-- ---- how deep a result is

pub result_low : (d : Data) → depth d ≤ max_depth → depth (result_of d) ≤ max_depth
result_low d low = let inner : depth (result_of d) ≤ 126 = field_low (codes "result") d 126 (omega (arith, low)) in omega (arith, inner)

pub parsed_low : (text : Text) (d : Data) → json_of text ≡ Some d → depth d ≤ max_depth
parsed_low text d e =
    elim (is_utf8 text) as (λ b. (if b then read text else None) ≡ Some d → depth d ≤ max_depth) [
      | true ↦ depth-read text d
      | false ↦ (λ no. let bad : None ≡ Some d = no in absurd cc)
    ] e

-- ---- a ChordError is none of the tasks' exceptions

pub no_kind : (kind : Kind) → codes "ChordError" ≡ kind_name kind → ⊥
no_kind kind.BadCall e = let long : 10 ≡ 9 = ap (λ t. length t) e in absurd (omega (arith, long))
no_kind kind.ZeroDivision e = let long : 10 ≡ 17 = ap (λ t. length t) e in absurd (omega (arith, long))
no_kind kind.Overflow e = let long : 10 ≡ 13 = ap (λ t. length t) e in absurd (omega (arith, long))
no_kind kind.NotRegistered e = let long : 10 ≡ 13 = ap (λ t. length t) e in absurd (omega (arith, long))

some_class : codes "ChordError" ≡ [] → ⊥
some_class e = let long : 10 ≡ 0 = ap (λ t. length t) e in absurd (omega (arith, long))

pub class_there : (fault : StoredFault) → LacksClass (codes "ChordError") fault → IsRefused fault
class_there NotJson h = absurd h
class_there OtherTask h = absurd h
class_there UnknownState h = absurd h
class_there UnknownException h = absurd (some_class h)
class_there Memory h = tt

-- ---- rows of results

pub of_chord : (run : Text) (count : ℕ) (d : Data) (row : Row) → class_of d ≡ codes "ChordError"
    → ((dep : ℕ) (name : Text) → ¬ Names run count (message_of d) dep name)
    → HasClass (codes "ChordError") row → IsChordRow run count d row
of_chord run count d (Known outcome) class none h = absurd h
of_chord run count d (Value text) class none h = absurd h
of_chord run count d (Raised name) class none h = (class ∙ sym h.0, λ e. h.1 (sym h.0 ∙ e), λ kind e. no_kind kind (sym h.0 ∙ e), λ e. none)
of_chord run count d (Blamed dep name) class none h = absurd h

pub of_blame : (run : Text) (count : ℕ) (d : Data) (dep : ℕ) (name : Text) (row : Row) → class_of d ≡ codes "ChordError"
    → Names run count (message_of d) dep name
    → ((k : ℕ) (why : Why) → ¬ Blames run count (message_of d) k why) → HasBlame dep name row → IsChordRow run count d row
of_blame run count d dep name (Known outcome) class names none h = absurd h
of_blame run count d dep name (Value text) class names none h = absurd h
of_blame run count d dep name (Raised text) class names none h = absurd h
of_blame run count d dep name (Blamed k text) class names none h =
    let N : ℕ → Type 0 = λ j. Names run count (message_of d) j (string_bytes text) in
    let M : Text → Type 0 = λ t. Names run count (message_of d) dep t in (
      class,
      subst N (sym h.0) (subst M (sym h.1) names),
      λ why e. none dep why (blames_one run (message_of d) count dep name why names (sym h.1 ∙ e)),
    )

pub value_row : (run : Text) (count : ℕ) (d : Data) (row : Row) → LacksOutcome run count d lack.Number → HasJson (result_of d) row → IsRow run count d row
value_row run count d (Known outcome) refused h = absurd h
value_row run count d (Value text) refused h = (refused.0, h, refused.1)
value_row run count d (Raised name) refused h = absurd h
value_row run count d (Blamed dep name) refused h = absurd h

pub raised_row : (run : Text) (count : ℕ) (d : Data) (row : Row) → LacksOutcome run count d lack.Exception
    → HasClass (class_of (result_of d)) row → IsRow run count d row
raised_row run count d (Known outcome) refused h = absurd h
raised_row run count d (Value text) refused h = absurd h
raised_row run count d (Raised name) refused h =
    (refused.0, (sym h.0, λ e. h.1 (sym h.0 ∙ e), λ kind e. refused.1.1 kind (sym h.0 ∙ e), λ e. absurd (refused.1.0 (sym h.0 ∙ e))))
raised_row run count d (Blamed dep name) refused h = absurd h

pub chord_row : (run : Text) (count : ℕ) (d : Data) (row : Row) → LacksOutcome run count d lack.Dependency
    → IsChordRow run count (result_of d) row → IsRow run count d row
chord_row run count d (Known outcome) refused h = absurd h
chord_row run count d (Value text) refused h = absurd h
chord_row run count d (Raised name) refused h = (refused.0, h)
chord_row run count d (Blamed dep name) refused h = (refused.0, h)

-- ---- results that no row shows

pub no_json : (d : Data) (fault : StoredFault) → IsRefused fault → ResultFault d fault
no_json d NotJson h = absurd h
no_json d OtherTask h = absurd h
no_json d UnknownState h = absurd h
no_json d UnknownException h = absurd h
no_json d Memory h = tt

-- ---- the class that a message names is text

as_long : (text : Text) (place : ℕ) → length text ≤ place → place ≤ length text → length text ≡ place
as_long text place ge le = omega (arith, ge, le)

front_utf8 : (text : Text) → IsUtf8 text → IsUtf8 (before_first (λ b. b == 40) text)
front_utf8 text utf8 =
    let p = λ (b : ℕ). b == 40 in
    let place = position_or_len p text in
    IsUtf8-take text place utf8
    (⊎_elim
    (λ lt. IsCharBoundary-before_ascii text place lt (omega (arith, eqb-true (get_or text place 0) 40 (passes_at_first p text 0 lt))))
    (λ ge. subst (IsCharBoundary text) (as_long text place ge (prefix_len-le-length (λ b. not (p b)) text)) (IsCharBoundary-end text))
    (cases_lt place (length text)))

pub named_utf8 : (run message : Text) (count dep : ℕ) (name : Text) → length run ≡ 22 → IsUtf8 message → Names run count message dep name → IsUtf8 name
named_utf8 run message count dep name full utf8 (least, within, (raised, said, is)) =
    let front = codes "Dependency " ++ run_task run dep in
    let mark = codes " raised " in
    let front_long : length front ≡ 47 = length-append (codes "Dependency ") (run_task run dep) ∙ ap (λ n. 11 + n) (length-run_task run dep full) in
    let seen : message ≡ front ++ (mark ++ raised) = said ∙ sym (append_assoc (codes "Dependency ") (run_task run dep) (mark ++ raised)) in
    let long : 54 < length message =
    (let whole : length message ≡ length front + length (mark ++ raised) = ap (λ t. length t) seen ∙ length-append front (mark ++ raised) in omega arith) in
    let blank : get_or message 54 0 ≡ 32 = ap (λ t. get_or t 54 0) seen ∙ get_or-append_right front (mark ++ raised) 47 54 0 front_long (omega arith) in
    let rest_long : length (front ++ mark) ≡ 55 = length-append front mark ∙ ap (λ n. n + 8) front_long in
    let parts : message ≡ (front ++ mark) ++ raised = seen ∙ sym (append_assoc front mark raised) in
    let rest : drop 55 message ≡ raised = ap (λ t. drop 55 t) parts ∙ drop_at (front ++ mark) raised 55 rest_long in
    let after : IsUtf8 (drop 55 message) = IsUtf8-drop message 55 utf8 (IsCharBoundary-after_ascii message 54 utf8 long (omega (arith, blank))) in
    subst IsUtf8 is (front_utf8 raised (subst IsUtf8 rest after))

-- ---- a line that has no row

pub of_unread : (run : Text) (count k : ℕ) (line : Text) (fault : StoredFault) → line ≢ [] → IsUnread line fault → LineFault run count k line fault
of_unread run count k line NotJson some h = (some, h)
of_unread run count k line OtherTask some h = absurd h
of_unread run count k line UnknownState some h = absurd h
of_unread run count k line UnknownException some h = absurd h
of_unread run count k line Memory some h = tt

pub of_result : (run : Text) (count k : ℕ) (line : Text) (d : Data) (fault : StoredFault) → IsResult run k line d → ResultFault d fault
    → LineFault run count k line fault
of_result run count k line d NotJson said h = absurd h
of_result run count k line d OtherTask said h = absurd h
of_result run count k line d UnknownState said h = (d, said, h)
of_result run count k line d UnknownException said h = (d, said, h)
of_result run count k line d Memory said h = tt
