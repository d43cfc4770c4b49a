use Rattle.std.proofs.Common.{◌≡◌, ◌∙◌, ◌∷◌, ◌++◌, [], map, rules, sym, ap, append_assoc}
use Rattle.std.proofs.lemmas.List.{map-append}
use Rattle.canvas_core.specs.EnvelopeWorker.{envelope_of}
use Rattle.canvas_core.specs.declared.sealed.Sealed.{Sealed}
use Rattle.canvas_core.proofs.sealing.seal_all.Goals as goal

pub loop-message-preserved : goal.loop-message-preserved
loop-message-preserved c =
    let l = c.loop-message in
    let others = c.next.new.self.rest.items in
    let one = c.in_ok-seal.field-0 in
    let split : l.message-iterator.rest.items ≡ c.in-Some.message ∷ others = search rules in
    let sealed = map (λ (s : Sealed). s.envelope) l.all.items in
    ap (λ w. map (λ (s : Sealed). s.envelope) w ++ map envelope_of others) c.in_ok-push_back.ensures.items
    ∙ ap (λ w. w ++ map envelope_of others) (map-append (λ (s : Sealed). s.envelope) l.all.items (one ∷ []))
    ∙ append_assoc sealed (one.envelope ∷ []) (map envelope_of others)
    ∙ ap (λ e. sealed ++ e ∷ map envelope_of others) c.in_ok-seal.ensures
    ∙ ap (λ w. sealed ++ map envelope_of w) (sym split) ∙ l.invariant
