use Rattle.std.proofs.Common.{◌≡◌, ◌∙◌, List, [], ◌∷◌, ◌++◌, codes, length, map, sym, refl, append_assoc}
use Rattle.canvas_task.specs.Text.{Text}
use Rattle.canvas_celery.specs.Resp.{command_bytes, words_bytes, resp}
use Rattle.canvas_celery.specs.Transaction.{sizes_between, transaction}
use Rattle.canvas_celery.specs.ExportView.{setting}
use Rattle.canvas_celery.specs.steps.Sizes.{size_view}
use Rattle.canvas_celery.proofs.Exported.Pieces.{ok_then, whole}
use Rattle.canvas_celery.proofs.commands.by_transaction.push_transaction.Goals as goal

pub returns : goal.returns
returns c =
    let t = c.args.target.now in
    let run = c.args.run.now.digits in
    let sizes = map size_view c.args.sizes.now in
    let n = length c.args.messages.now in
    let o = c.args.out.now.items in
    let m = c.push_queue.new.out.items in
    let exec = command_bytes (codes "EXEC" ∷ []) in
    let queue : List Text → List Text = λ texts. codes "LPUSH" ∷ t.queue.now ∷ texts in
    ok_then c.push_queue.result
    ((texts : List Text) → length texts ≡ n → m ++ words_bytes texts ≡ c.push_sizes_between.new.out.items ++ command_bytes (queue texts))
    ((texts : List Text) → length texts ≡ n → m ++ (words_bytes texts ++ exec) ≡ o ++ resp (transaction run (setting t) sizes texts))
    (λ written texts few.
    sym (append_assoc m (words_bytes texts) exec)
    ∙ whole o c.push_plain.new.out.items c.push_sizes_between.new.out.items (m ++ words_bytes texts) ((m ++ words_bytes texts) ++ exec)
    (codes "MULTI" ∷ []) (queue texts) (codes "EXEC" ∷ []) (sizes_between run (setting t) sizes)
    c.in_ok-push_plain.ensures c.in_ok-push_sizes_between.ensures (written texts few) refl)
    c.push_queue.ensures
