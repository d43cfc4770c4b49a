use Rattle.canvas_engine.specs.StepLines.{ask_text, named_text}
use Rattle.canvas_engine.proofs.StepLining.{onto}
use Rattle.canvas_engine.proofs.steps.lines.put_letter.Goals as goal

pub returns : goal.returns
returns c =
    onto c.put_named.result c.args.text.now.items c.put_named.new.text.items (ask_text c.args.ask.now) (named_text c.args.identifier.now)
    c.in_ok-put_ask.ensures c.put_named.ensures
