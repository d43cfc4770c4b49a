use Rattle.std.proofs.Common.{◌≡◌, ◌∙◌, ap, map}
use Rattle.clap.specs.Simple.{app_of, app_of_fields, new_app, new_shape}
use Rattle.clap.specs.Walk.{rule_of}
use Rattle.canvas_words.specs.Options.{command}
use Rattle.canvas_words.proofs.Added.{args_added, args_local, with_rules}
use Rattle.canvas_words.proofs.subcommand.Subcommand.as_clap.Goals as goal

pub returns-clause-shape : goal.returns-clause-shape
returns-clause-shape c =
    let plain : app_of c.about-plain.result ≡ new_app c.name.result.now = ap app_of_fields c.about-plain.ensures ∙ c.new.ensures.app in
    let all : app_of c.in_ok-args.field-0 ≡ with_rules (new_app c.name.result.now) (map rule_of c.in_ok-arguments.arguments.items) =
    args_added c.about-plain.result c.in_ok-args.field-0 c.in_ok-arguments.arguments.items c.in_ok-args.ensures c.in_ok-arguments.ensures.local
    ∙ ap (λ a. with_rules a (map rule_of c.in_ok-arguments.arguments.items)) plain in
    ap (λ a. a.top) all
    ∙ ap (λ rs. record (new_shape c.name.result.now) { rules = rs }) (c.in_ok-arguments.ensures.rules ∙ c.arguments.ensures)
    ∙ ap (λ name. record (new_shape name) { rules = (command c.args.self).rules }) c.name.ensures

pub returns-clause-local : goal.returns-clause-local
returns-clause-local c =
    args_local c.about-plain.result c.in_ok-args.field-0 c.in_ok-arguments.arguments.items c.in_ok-args.ensures c.in_ok-arguments.ensures.local
    ∙ ap (λ f. f.has_globals) c.about-plain.ensures ∙ c.new.ensures.local
