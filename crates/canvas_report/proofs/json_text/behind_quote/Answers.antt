use Rattle.std.proofs.Common.{None, arith}
use Rattle.std.proofs.lemmas.Str.Pattern.{strip_prefix_char}
use Rattle.canvas_report.proofs.json_text.behind_quote.Goals as goal

pub returns-in-None : goal.returns-in-None
returns-in-None c rest same = absurd (strip_prefix_char 34 c.args.text.now None c.in-None.ensures.cases (omega arith) rest same)
