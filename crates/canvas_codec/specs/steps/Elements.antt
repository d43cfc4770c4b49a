-- The parts of a message, as they are read.
use Rattle.std.specs.Prelude.{List, map, reverse, Result, Ok}
use Rattle.serde_json.specs.Data.{Data}
use Rattle.canvas_sig.specs.Datum.{view}
use Rattle.canvas_values.specs.Answers.{◌>>=◌, in_turn}
use Rattle.canvas_values.specs.declared.fault.SigFault.{SigFault}
use Rattle.canvas_semantics.specs.PlacedLine.{PTask, PLine, p_stop, p_step}
use Rattle.canvas_rewrite.specs.FrozenView.{p_steps, p_task_view, p_end_view}
use Rattle.canvas_codec.specs.declared.read.made.Element.{Element}
use Rattle.canvas_codec.specs.declared.read.made.Element.TheVariants as element
use Rattle.canvas_codec.specs.declared.read.body.Parts as the_parts
use Rattle.canvas_codec.specs.declared.read.body.Given as the_given
use Rattle.canvas_codec.specs.declared.read.embed.Embed as the_embed
use Rattle.canvas_codec.specs.steps.Reading.{BodyParts, GivenParts, Embed}
use Rattle.canvas_envelope.specs.MessageView.{place_seen, rest_seen}

-- the line of one element
abbrev pub element_view : Element → PLine
element_view (element.Task t) = p_step (p_task_view t) p_stop
element_view (element.End e) = p_end_view e

-- a line, from the functions that read its last element and those before it
abbrev pub line_with : (Data → Result PTask SigFault) → (Data → Result PLine SigFault) → List Data
    → Data → Result PLine SigFault
line_with s e ds d = in_turn s ds >>= λ ts. e d >>= λ l. Ok (p_steps ts l)

-- a line, if the last element is read first, and then those before it in reverse order
abbrev pub reversed_with : (Data → Result PTask SigFault) → (Data → Result PLine SigFault) → Data
    → List Data → Result PLine SigFault
reversed_with s e d ds = e d >>= λ l. in_turn s ds >>= λ ts. Ok (p_steps (reverse ts) l)

-- ---- the parts of a body

abbrev pub parts_view : the_parts.Parts → BodyParts
parts_view p =
    record { args = view p.args.now; kwargs = view p.kwargs.now; embed = view p.embed.now }

abbrev pub given_view : the_given.Given → GivenParts
given_view g = record { args = g.args; kwargs = g.kwargs }

abbrev pub embed_view : the_embed.Embed → Embed
embed_view e =
    record {
      links = map p_task_view e.links;
      errbacks = map p_task_view e.errbacks;
      place = place_seen e.place;
      rest = rest_seen e.rest;
    }
