-- The numbers of the refusals, and their names. Both are this project's own.
use Rattle.std.specs.Prelude.{ℕ, List, codes}
use Rattle.canvas_envelope.specs.declared.fault.MessageFault.{MessageFault}
use Rattle.canvas_envelope.specs.declared.fault.MessageFault.TheVariants.{NotJson, NotVersion2, BadId, BadContentType, BadBody, BadArgs, BadEmbed, Memory}

abbrev pub code_of : MessageFault → ℕ
code_of NotJson = 1
code_of NotVersion2 = 2
code_of BadId = 3
code_of BadContentType = 4
code_of BadBody = 5
code_of BadArgs = 6
code_of BadEmbed = 7
code_of Memory = 8

-- the printed name
abbrev pub printed_name : MessageFault → List ℕ
printed_name NotJson = codes "NotJson"
printed_name NotVersion2 = codes "NotVersion2"
printed_name BadId = codes "BadId"
printed_name BadContentType = codes "BadContentType"
printed_name BadBody = codes "BadBody"
printed_name BadArgs = codes "BadArgs"
printed_name BadEmbed = codes "BadEmbed"
printed_name Memory = codes "Memory"
