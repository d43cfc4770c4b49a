use Rattle.std.proofs.Common.{◌≡◌, ◌≢◌, ◌∙◌, ◌++◌, ℕ, List, ap, sym, take, length, vec_len, append-nil, arith, lit<}
use Rattle.std.proofs.lemmas.List.{nil_from_length}
use Rattle.std.proofs.lemmas.List.Elements.{All-append}
use Rattle.std.proofs.KnownBytes.{Consumes-trans}
use Rattle.canvas_answer.specs.Items.{most_item}
use Rattle.canvas_answer.proofs.Pieces.{kept_more, kept_none, kept_short, kept_some, next_here, next_last, next_none, taken_last, taken_none, taken_part}
use Rattle.canvas_answer.proofs.items.next_item.Goals as goal

-- what is kept of bytes, and of more bytes after them
more : (done bs item new : List ℕ) → item ≡ take most_item done → new ≡ take most_item (item ++ bs) → new ≡ take most_item (done ++ bs)
more done bs item new kept grown = grown ∙ ap (λ l. take most_item (l ++ bs)) kept ∙ kept_more most_item done bs

none_more : (done bs item new : List ℕ) → item ≡ take most_item done → new ≡ take most_item (item ++ bs) → length bs ≡ 0 → new ≡ take most_item done
none_more done bs item new kept grown none =
    more done bs item new kept grown ∙ ap (λ l. take most_item (done ++ l)) (nil_from_length bs none) ∙ ap (take most_item) (append-nil done)

pub add_piece-requires : goal.add_piece-requires
add_piece-requires g c =
    let (done, all, kept, read) = c.loop.invariant in
    kept_short most_item done _ kept

pub returns-in-Last-clause-short : goal.returns-in-Last-clause-short
returns-in-Last-clause-short g c =
    let (bs, all, grown, read, none) = c.in_ok-add_piece.ensures in
    kept_short most_item _ _ grown

pub returns-else-is_empty-clause-short : goal.returns-else-is_empty-clause-short
returns-else-is_empty-clause-short g c =
    let (bs, all, grown, read, none) = c.in_ok-add_piece.ensures in
    kept_short most_item _ _ grown

pub returns-in-Last-clause-next : goal.returns-in-Last-clause-next
returns-in-Last-clause-next g c =
    let (done, all, kept, read) = c.loop.invariant in
    let (bs, all', grown, read', none) = c.in_ok-add_piece.ensures in
    next_here c.args.end _ _ _ done bs _ read all (taken_last c.args.end _ _ _ bs c.in-Last.is read') all' (more done bs _ _ kept grown)

pub returns-then-is_empty-clause-next : goal.returns-then-is_empty-clause-next
returns-then-is_empty-clause-next g c =
    let (done, all, kept, read) = c.loop.invariant in
    let (bs, all', grown, read', nothing) = c.in_ok-add_piece.ensures in
    let (none, at) = nothing c.in-None.is in
    let item = none_more done bs _ _ kept grown none in
    let long : vec_len c.add_piece.new.item ≡ length c.add_piece.new.item.items = omega (arith, c.add_piece.new.item.ok.0) in
    next_none c.args.end _ _ _ done read (taken_none c.args.end _ _ _ bs c.in-None.is none read') at
    (kept_none most_item _ done _ (lit< tt) item long (sym c.is_empty.ensures ∙ c.if-is_empty.true))

pub returns-else-is_empty-clause-next : goal.returns-else-is_empty-clause-next
returns-else-is_empty-clause-next g c =
    let (done, all, kept, read) = c.loop.invariant in
    let (bs, all', grown, read', nothing) = c.in_ok-add_piece.ensures in
    let (none, at) = nothing c.in-None.is in
    let item = none_more done bs _ _ kept grown none in
    let long : vec_len c.add_piece.new.item ≡ length c.add_piece.new.item.items = omega (arith, c.add_piece.new.item.ok.0) in
    next_last c.args.end _ _ _ done _ read all (taken_none c.args.end _ _ _ bs c.in-None.is none read') at
    (kept_some most_item _ done _ item long (sym c.is_empty.ensures ∙ c.if-is_empty.false)) item

pub loop-preserved : goal.loop-preserved
loop-preserved g c =
    let (done, all, kept, read) = c.loop.invariant in
    let (bs, all', grown, read', none) = c.in_ok-add_piece.ensures in (
      done ++ bs,
      All-append (λ x. x ≢ c.args.end) done bs all all',
      more done bs _ _ kept grown,
      Consumes-trans _ _ _ _ _ read (taken_part c.args.end _ _ _ bs c.in-Part.is read'),
    )
