use Rattle.std.proofs.Common.{◌≤◌, sym, subst}
use Rattle.canvas_core.proofs.Books.FirstKnown.{first_so}
use Rattle.canvas_core.proofs.known.sure.Goals as goal

pub returns-in-Some : goal.returns-in-Some
returns-in-Some g c line first =
    let most = c.in-Some.ensures.0 in
    let all = c.knows_up_to.ensures c.if-knows_up_to.true in
    first_so (g.B.Book.book c.args.book.now) c.args.unplaced.now (λ k le. all k (subst (λ n. k ≤ n) (sym most) le)) line first
