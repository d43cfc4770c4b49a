use Rattle.std.proofs.Common.{sym, subst}
use Rattle.std.proofs.lemmas.Result.{IfOk-weaker}
use Rattle.canvas_envelope.specs.EnvelopeFaults.{Says}
use Rattle.canvas_codec.proofs.encoding.encode.Goals as goal

pub returns-clause-reads_back : goal.returns-clause-reads_back
returns-clause-reads_back c =
    IfOk-weaker c.join.result _ _
    (λ e is. subst (λ x. Says x.properties x.headers x.body c.args.message.now) (sym is) c.in_ok-pieces_of.ensures.reads_back) c.join.ensures
