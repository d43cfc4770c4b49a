use Rattle.std.proofs.Common.{◌≡◌, ◌∙◌, List, ℕ, [], ◌∷◌, ◌++◌, flat_map, sym, ap, subst, map-id}
use Rattle.std.proofs.lemmas.Grind.{flat_map-append}
use Rattle.std.proofs.lemmas.List.{append-nil}
use Rattle.std.proofs.lemmas.Iterator.{YieldsList-from_chars}
use Rattle.std.proofs.lemmas.Iterator.Consumers.{YieldsList-end}
use Rattle.std.specs.Io.KnownBytes.{Appends}
use Rattle.canvas_answer.specs.Printing.{printed_char, printed}
use Rattle.canvas_answer.proofs.Writes.{Wrote, none_wrote, flushed, kept_more, moved, last_wrote, ok_of}
use Rattle.canvas_answer.proofs.printing.write_escaped.Goals as goal
use Rattle.canvas_answer.proofs.printing.write_escaped.Goals.{then-len+in_ok-write_all, else-len}

pub loop-c-init : goal.loop-c-init
loop-c-init g c = none_wrote _ _ c.new-kept.ensures

pub loop-c-preserved : goal.loop-c-preserved
loop-c-preserved g c =
    let first = g.W.Write.contents c.args.out.now in
    let begun = g.W.Write.contents c.loop-c.out in
    let now = g.W.Write.contents c.if-len.out in
    let texts = flat_map printed_char c.loop-c.yielded in
    let before : Wrote first now c.if-len.kept.items texts =
    elim c.if-len.branch [
      | then-len+in_ok-write_all w ↦
          (let A : List ℕ → Type 0 = λ bs. Appends begun (g.W.Write.contents w.write_all.new.self) bs in
          let all = subst A w.as_slice.ensures.value w.in_ok-write_all.ensures.bytes in
          let done = flushed first begun (g.W.Write.contents w.write_all.new.self) c.loop-c.kept.items w.clear.new.self.items
          texts all w.clear.ensures c.loop-c.invariant in
          moved first _ _ w.clear.new.self.items c.if-len.kept.items _ (ap g.W.Write.contents w.out-is) (ap (λ k. k.items) w.kept-is) done)
      | else-len w ↦
          moved first _ _ c.loop-c.kept.items c.if-len.kept.items _ (ap g.W.Write.contents w.out-is) (ap (λ k. k.items) w.kept-is) c.loop-c.invariant
    ] in
    let more : c.put_char.new.kept.items ≡ c.if-len.kept.items ++ printed_char c.in-Some.c =
    ok_of c.put_char.result _ (sym c.is_err.ensures.value ∙ c.if-is_err.false) c.put_char.ensures in
    let last = append-nil (printed_char c.in-Some.c) in
    let one = flat_map-append printed_char c.loop-c.yielded (c.in-Some.c ∷ []) ∙ ap (λ bs. texts ++ bs) last in
    let P : List ℕ → Type 0 = λ bs. Wrote first now c.put_char.new.kept.items bs in
    subst P (sym one) (kept_more first now c.if-len.kept.items c.put_char.new.kept.items texts (printed_char c.in-Some.c) more before)

pub returns : goal.returns
returns g c =
    let all = YieldsList-from_chars c.args.text.now c.utf8.text cc in
    let end = YieldsList-end all c.loop-c.yielded _ c.loop-c.yielded_by _ _ c.in-None.is c.next.ensures.steps in
    let first = g.W.Write.contents c.args.out.now in
    let same : flat_map printed_char c.loop-c.yielded ≡ printed c.args.text.now = ap (flat_map printed_char) (sym (map-id c.loop-c.yielded) ∙ end.0) in
    let P : List ℕ → Type 0 = λ bs. Wrote first (g.W.Write.contents c.loop-c.out) c.loop-c.kept.items bs in
    last_wrote c.write_all-2.result first (g.W.Write.contents c.loop-c.out) (g.W.Write.contents c.write_all-2.new.self) c.loop-c.kept.items
    c.as_slice-2.result.now (printed c.args.text.now) c.as_slice-2.ensures.value (subst P same c.loop-c.invariant) c.write_all-2.ensures.bytes
