use Rattle.std.proofs.Common.{◌≡◌, ◌+◌, drop, string_bytes, sym, ap, ◌∙◌, subst, Ok, arith, rules}
use Rattle.canvas_task.specs.Entries.{named}
use Rattle.canvas_task.specs.Text.{Text}
use Rattle.canvas_sig.specs.Datum.{view, seen}
use Rattle.canvas_values.specs.Answers.{◌>>=◌, in_turn}
use Rattle.canvas_values.specs.Grammar.{named_reading}
use Rattle.canvas_sig.proofs.Each.{onto, one_more}
use Rattle.canvas_values.proofs.Written.Named.{names, AllBelow, goes_last, still_below}
use Rattle.canvas_sig.proofs.Parsed.{Named, next_member}
use Rattle.canvas_sig.proofs.arguments.read_few.Goals as goal

pub loop-member-preserved : goal.loop-member-preserved
loop-member-preserved c =
    let l = c.loop-member in
    let e : Named = c.member-item.result in
    let left = drop (l.member-index + 1) c.args.members.now in
    let key : string_bytes c.in_ok-name.name ≡ e.0.now = search rules in
    let arg = c.in_ok-read_argument.field-0 in
    let P : Text → Type 0 = λ k. AllBelow (names (named l.args.entries)) k in
    let below = l.invariant.1 e.0.now (c.follows.ensures (grind arith)) in
    let last : named c.insert.new.self.entries ≡ _ =
    ap named c.in_ok-insert.ensures.entries ∙ goes_last l.args.entries c.in_ok-name.name arg (subst P (sym key) below) in
    let read : named_reading (e.0.now, view e.1) ≡ Ok (string_bytes c.in_ok-name.name, arg) =
    ap (λ r. r >>= λ a. Ok (e.0.now, a)) c.in_ok-read_argument.ensures ∙ ap (λ k. Ok (k, arg)) (sym key) in (
      l.invariant.0 ∙ ap (λ es. onto (named l.args.entries) (in_turn named_reading (seen es)))
          (next_member c.args.members.now l.member-index e _ (omega (arith, c.loop-member-test.true)) (sym c.member-item.is))
          ∙ one_more named_reading (named l.args.entries) (e.0.now, view e.1) (seen left) _ read
          ∙ ap (λ es. onto es (in_turn named_reading (seen left))) (sym last),
      λ k low. still_below l.args.entries c.insert.new.self.entries (string_bytes c.in_ok-name.name) arg k last (subst P (sym key) below) (rw key low),
    )
