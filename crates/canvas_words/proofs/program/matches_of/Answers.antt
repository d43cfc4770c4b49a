use Rattle.std.proofs.Common.{◌≡◌, ◌∙◌, ap, map, string_bytes}
use Rattle.clap.specs.Simple.{app_of}
use Rattle.canvas_words.specs.Options.{all, named_among, offered, program, program_for}
use Rattle.canvas_words.proofs.Parsed.{parsed, refused}
use Rattle.canvas_words.proofs.program.matches_of.Goals as goal

pub returns : goal.returns
returns c =
    let words = map string_bytes c.args.words.now in
    let its : app_of c.in_ok-program.program ≡ program_for words =
    c.in_ok-program.ensures ∙ ap (λ name. program (offered (named_among all name))) c.first_of.ensures in record {
      ok = parsed (app_of c.in_ok-program.program) words c.try_get_matches_from.result its c.try_get_matches_from.ensures.matches;
      err = refused (app_of c.in_ok-program.program) words c.try_get_matches_from.result its c.try_get_matches_from.ensures.passes;
    }
