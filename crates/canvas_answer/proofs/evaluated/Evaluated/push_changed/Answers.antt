use Rattle.std.proofs.Common.{◌≡◌, ◌∙◌, ◌++◌, ◌∷◌, [], Bool, true, false, if◌then◌else◌, None, Some, map, ap, sym, append-nil, refl, string_bytes, option_to_list, slice_get, rules}
use Rattle.std.proofs.lemmas.List.{map-append}
use Rattle.std.proofs.lemmas.Slice.Eq.{bytes_eq-Decides}
use Rattle.std.specs.Str.{bytes_eq}
use Rattle.canvas_report.specs.steps.ReportRows.{line_if}
use Rattle.canvas_task.specs.Text.{Text}
use Rattle.canvas_answer.specs.Cases.{row_object, told_line, without_end}
use Rattle.canvas_answer.proofs.evaluated.Evaluated.push_changed.Goals as goal

alike : (now : Text) (b : Bool) → b ≡ true → option_to_list (if b then None else Some now) ≡ []
alike now true e = refl
alike now false e = absurd cc

changed : (now : Text) (b : Bool) → b ≡ false → option_to_list (if b then None else Some now) ≡ now ∷ []
changed now true e = absurd cc
changed now false e = refl

pub returns-then-is_alike : goal.returns-then-is_alike
returns-then-is_alike c = λ name numbered named theirs.
    let now = row_object c.args.self.now in
    let before = row_object c.args.base.now.told in
    let k = c.args.task in
    let same = c.is_alike.ensures name c.if-is_alike.true in
    let lines : told_line c.args.self.now (k, name) ≡ told_line c.args.base.now.told (k, name) =
    ap (λ n. told_line c.args.self.now (n, name)) numbered ∙ same ∙ ap (λ n. told_line c.args.base.now.told (n, name)) (sym numbered) in
    let equal : bytes_eq (before (k, name)) (now (k, name)) ≡ true = (bytes_eq-Decides (before (k, name)) (now (k, name))).1 (ap without_end (sym lines)) in
    sym (append-nil (map string_bytes c.args.found.now.items))
    ∙ ap (λ l. map string_bytes c.args.found.now.items ++ l) (sym (alike (now (k, name)) (bytes_eq (before (k, name)) (now (k, name))) equal))

pub returns-in_ok-push : goal.returns-in_ok-push
returns-in_ok-push c = λ name numbered named theirs.
    let now = row_object c.args.self.now in
    let before = row_object c.args.base.now.told in
    let k = c.args.task in
    let row : string_bytes c.in_ok-row.row ≡ now (k, name) =
    c.in_ok-row.ensures ∙ ap (λ o. without_end (line_if (told_line c.args.self.now) k o)) named in
    let found = c.is_text_at.ensures (before (k, name)) (ap (λ rows. slice_get (map string_bytes rows) c.args.place) c.deref.ensures.value ∙ theirs) in
    let text : c.deref-2.result.now ≡ string_bytes c.in_ok-row.row = search rules in
    let no : c.is_text_at.result ≡ false = search rules in
    let differs : bytes_eq (before (k, name)) (now (k, name)) ≡ false =
    ap (bytes_eq (before (k, name))) (sym row ∙ sym text) ∙ sym found ∙ no in
    ap (map string_bytes) c.in_ok-push.ensures.items ∙ map-append string_bytes c.args.found.now.items (c.in_ok-row.row ∷ [])
    ∙ ap (λ t. map string_bytes c.args.found.now.items ++ t ∷ []) row
    ∙ ap (λ l. map string_bytes c.args.found.now.items ++ l) (sym (changed (now (k, name)) (bytes_eq (before (k, name)) (now (k, name))) differs))
