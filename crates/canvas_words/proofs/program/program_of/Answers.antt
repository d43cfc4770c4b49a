use Rattle.std.proofs.Common.{◌≡◌, ◌∙◌, ap, map, true}
use Rattle.clap.specs.Simple.{app_of, app_of_fields, on_top, shape_of}
use Rattle.canvas_words.specs.Options.{all, named_among}
use Rattle.canvas_words.proofs.Added.{commands_added, with_commands}
use Rattle.canvas_words.proofs.Simplicity.{no_commands, whole}
use Rattle.canvas_words.proofs.program.program_of.Goals as goal

pub returns : goal.returns
returns c =
    let found = c.in_ok-commands.ensures.shapes in
    let plain : app_of c.subcommand_required-plain.result ≡ no_commands =
    ap app_of_fields c.subcommand_required-plain.ensures
    ∙ ap (λ a. on_top (λ s. record s { subcommand_required = true }) a) c.in_ok-plain_program.ensures in
    commands_added c.subcommand_required-plain.result c.in_ok-subcommands.field-0 c.in_ok-commands.commands.items c.in_ok-subcommands.ensures
    c.in_ok-commands.ensures.local
    ∙ ap (λ a. with_commands a (map shape_of c.in_ok-commands.commands.items)) plain
    ∙ ap (with_commands no_commands) found ∙ whole (named_among all c.args.name.now)
