use Rattle.std.proofs.Common.{◌≡◌, [], ◌∷◌, ◌++◌, ◌+◌, drop, string_bytes, String, Global, sym, ap, ◌∙◌, subst, Ok, arith, rules}
use Rattle.std.proofs.lemmas.List.{map_push}
use Rattle.canvas_task.specs.declared.arg.Arg.{Arg}
use Rattle.canvas_task.specs.Entries.{named, Ascends}
use Rattle.canvas_task.specs.Text.{Text}
use Rattle.canvas_task.proofs.Copies.{Entry}
use Rattle.canvas_sig.specs.Datum.{view, seen}
use Rattle.canvas_values.specs.Answers.{◌>>=◌, in_turn}
use Rattle.canvas_values.specs.Grammar.{named_reading}
use Rattle.canvas_sig.proofs.Each.{onto, one_more}
use Rattle.canvas_values.proofs.Written.Named.{names, AllBelow, ascends_push, still_below}
use Rattle.canvas_sig.proofs.Parsed.{Named, next_member}
use Rattle.canvas_sig.proofs.arguments.read_entries.Goals as goal

pub loop-member-preserved : goal.loop-member-preserved
loop-member-preserved c =
    let l = c.loop-member in
    let e : Named = c.member-item.result in
    let left = drop (l.member-index + 1) c.args.members.now in
    let key : string_bytes c.in_ok-name.name ≡ e.0.now = search rules in
    let arg = c.in_ok-read_argument.field-0 in
    let P : Text → Type 0 = λ k. AllBelow (names (named l.entries.items)) k in
    let below = l.invariant.1 e.0.now (c.follows.ensures (grind arith)) in
    let new = c.push.new.self.items in
    let last : named new ≡ named l.entries.items ++ (string_bytes c.in_ok-name.name, arg) ∷ [] =
    ap named c.in_ok-push.ensures.items ∙ map_push (λ (x : Entry). (string_bytes x.0, x.1)) l.entries.items (c.in_ok-name.name, arg) in
    let read : named_reading (e.0.now, view e.1) ≡ Ok (string_bytes c.in_ok-name.name, arg) =
    ap (λ r. r >>= λ a. Ok (e.0.now, a)) c.in_ok-read_argument.ensures ∙ ap (λ k. Ok (k, arg)) (sym key) in (
      l.invariant.0 ∙ ap (λ es. onto (named l.entries.items) (in_turn named_reading (seen es)))
          (next_member c.args.members.now l.member-index e _ (omega (arith, c.loop-member-test.true)) (sym c.member-item.is))
          ∙ one_more named_reading (named l.entries.items) (e.0.now, view e.1) (seen left) _ read
          ∙ ap (λ es. onto es (in_turn named_reading (seen left))) (sym last),
      λ k low. still_below l.entries.items new (string_bytes c.in_ok-name.name) arg k last (subst P (sym key) below) (rw key low),
      subst Ascends (sym last) (ascends_push (named l.entries.items) (string_bytes c.in_ok-name.name) arg l.invariant.2 (subst P (sym key) below)),
    )
