use Rattle.std.proofs.Common.{◌≡◌, ◌∙◌, refl, ap, sym, [], ◌∷◌, ◌+◌, ◌++◌, codes, length, map, List, ℕ}
use Rattle.std.specs.Prelude.{decimal}
use Rattle.canvas_task.specs.Text.{Text}
use Rattle.canvas_celery.specs.Resp.{command_bytes, word_bytes, words_bytes}
use Rattle.canvas_celery.specs.Script.{script, database_words}
use Rattle.canvas_celery.specs.Keys.{marker_key, size_key}
use Rattle.canvas_celery.specs.steps.Sizes.{size_view}
use Rattle.canvas_celery.proofs.Exported.Pieces.{maps, ok_then}
use Rattle.canvas_celery.proofs.Exported.Words.{then_words, before_texts, command_of, counted_all, in_order, length-map, three_settings}
use Rattle.canvas_celery.proofs.commands.by_script.push_script.Goals as goal

pub returns : goal.returns
returns c =
    let run = c.args.run.now.digits in
    let t = c.args.target.now in
    let sizes = c.args.sizes.now in
    let head : List Text = codes "EVAL" ∷ script ∷ decimal (length sizes + 2) ∷ marker_key run t.prefix.now ∷ t.queue.now ∷ [] in
    let keys : List Text = map (λ s. size_key run t.prefix.now (size_view s).0) sizes in
    let settings : List Text = decimal t.expires ∷ database_words t.databases in
    let counts : List Text = map (λ s. decimal (size_view s).1) sizes in
    let o = c.begin_command.new.out.items in
    let m = c.push_members.new.out.items in
    let keyed = then_words o c.push_head.new.out.items c.push_size_keys.new.out.items head keys c.in_ok-push_head.ensures c.in_ok-push_size_keys.ensures in
    let set = then_words o c.push_size_keys.new.out.items c.push_settings.new.out.items (head ++ keys) settings keyed c.in_ok-push_settings.ensures in
    let seen = map size_view sizes in
    let key : ℕ × ℕ → Text = λ z. size_key run t.prefix.now z.0 in
    let count : ℕ × ℕ → Text = λ z. decimal z.1 in
    let F : List Text → ℕ → List Text → List Text → List Text = λ texts n ks cs. codes "EVAL" ∷ script ∷ decimal (n + 2) ∷ marker_key run t.prefix.now ∷ t.queue.now ∷ (ks ++ (settings ++ (cs ++ (texts ++ codes "whole" ∷ [])))) in
    let same : (texts : List Text) → F texts (length sizes) keys counts ≡ F texts (length seen) (map key seen) (map count seen) = λ texts.
    ap (λ n. F texts n keys counts) (sym (length-map size_view sizes))
    ∙ (ap (λ ks. F texts (length seen) ks counts) (sym (maps key size_view sizes))
    ∙ ap (λ cs. F texts (length seen) (map key seen) cs) (sym (maps count size_view sizes))) in
    let long : length settings ≡ 3 = three_settings (decimal t.expires) t.databases in
    ok_then c.push_members.result (m ≡ c.push_settings.new.out.items ++ words_bytes counts)
    ((texts : List Text) → length texts ≡ length c.args.messages.now
    → m ++ (words_bytes texts ++ word_bytes (codes "whole")) ≡ c.args.out.now.items ++ command_bytes (F texts (length seen) (map key seen) (map count seen)))
    (λ written texts few.
    command_of c.args.out.now.items o (m ++ (words_bytes texts ++ word_bytes (codes "whole"))) (length sizes + length sizes + length c.args.messages.now + 9)
    (((((head ++ keys) ++ settings) ++ counts) ++ texts) ++ codes "whole" ∷ [])
    (counted_all head keys settings counts texts (codes "whole") (length sizes) (length c.args.messages.now) refl (length-map _ sizes) long (length-map _ sizes) few)
    c.in_ok-begin_command.ensures
    (before_texts o m (((head ++ keys) ++ settings) ++ counts) texts (codes "whole")
    (then_words o c.push_settings.new.out.items m ((head ++ keys) ++ settings) counts set written))
    ∙ ap (λ ws. c.args.out.now.items ++ command_bytes ws) (in_order head keys settings counts texts (codes "whole") ∙ same texts))
    c.push_members.ensures
