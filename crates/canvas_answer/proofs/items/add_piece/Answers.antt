use Rattle.std.proofs.Common.{◌≢◌, ◌∙◌, ap, sym, subst, take, take_all, length, append-nil, []}
use Rattle.std.proofs.lemmas.List.Elements.{All-nil}
use Rattle.std.proofs.KnownBytes.{Consumes-nil, Consumes-kept}
use Rattle.std.proofs.BufReadLemmas.{Consumes_shown}
use Rattle.std.specs.Io.KnownBytes.{Consumes}
use Rattle.std.specs.Io.BufRead.{FillKeeps}
use Rattle.canvas_answer.specs.Items.{most_item}
use Rattle.canvas_answer.proofs.Pieces.{part_is_some}
use Rattle.canvas_answer.proofs.items.add_piece.Goals as goal

pub returns-then-eq : goal.returns-then-eq
returns-then-eq g c =
    let items = c.args.item.now.items in (
      [],
      All-nil (λ x. x ≢ c.args.end),
      sym (ap (take most_item) (append-nil items) ∙ take_all most_item items c.requires),
      Consumes-kept _ _ _ [] (Consumes-nil _) c.fill_buf.follows.holds-at-none.0,
      λ none. absurd (part_is_some none),
    )

pub returns : goal.returns
returns g c =
    let made = c.piece_of-count in
    let rested = c.fill_buf.follows.lender-at-none in
    let filled = subst (FillKeeps _ (g.B.Read.remaining rested) (g.B.BufRead.consumable_len rested)) c.in-Ok.is c.fill_buf.follows.holds-at-none in
    let moved =
    Consumes_shown _ _ _ _ c.in-Ok.bytes.now made.result.1 made.ensures.within c.in-Ok.ensures.front c.in-Ok.ensures.end filled.0 filled.1
    c.consume.ensures.bytes in (
      made.result.0.now,
      made.ensures.without,
      c.in_ok-add_bytes.ensures,
      subst (Consumes _ _) made.ensures.taken moved.0,
      λ none. let empty = made.ensures.none none in (ap length empty.0 ∙ empty.1, moved.1 empty.1),
    )
