use Rattle.std.proofs.Common.{sym, subst}
use Rattle.canvas_envelope.specs.EnvelopeFaults.{Says}
use Rattle.canvas_codec.proofs.sealing.seal_followed.Goals as goal

pub returns-in_ok-letter-in-Some-clause-reads_back : goal.returns-in_ok-letter-in-Some-clause-reads_back
returns-in_ok-letter-in-Some-clause-reads_back c =
    let said = rw c.in-Some.is at c.in_ok-pieces.ensures.reads_back in
    subst (λ x. Says x.properties x.headers x.body c.args.followed) (sym c.in_ok-letter-in-Some.ensures) said
