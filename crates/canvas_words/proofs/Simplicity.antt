-- The program as the parser has it.
use Rattle.std.proofs.Common.{◌≡◌, [], Option, Some, None, map, true, codes, refl}
use Rattle.clap.specs.Simple.{App, new_shape}
use Rattle.canvas_words.specs.Options.{command, offered, program}
use Rattle.canvas_words.specs.declared.subcommand.Subcommand.{Subcommand}
use Rattle.canvas_words.proofs.Added.{with_commands}

abbrev pub no_commands : App
no_commands =
    record {
      top = record (new_shape (codes "canvas")) { no_binary_name = true; has_version = true; subcommand_required = true };
      subs = [];
    }

pub whole : (one : Option Subcommand) → with_commands no_commands (map command (offered one)) ≡ program (offered one)
whole (Some c) = refl
whole None = refl
