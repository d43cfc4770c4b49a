-- The numbers of the refusals, and their printed names. Both are this project's own.
use Rattle.std.specs.Prelude.{ℕ, List, codes}
use Rattle.canvas_values.specs.declared.fault.SigFault.{SigFault}
use Rattle.canvas_values.specs.declared.fault.SigFault.TheVariants.{TooLarge, NotJson, NotSignature, UnknownPrimitive, BadArgs, BadNumber, OnCanvas, Frozen, EmptyChain, NestedGroup, TooDeep, TooMany, Memory}

abbrev pub code_of : SigFault → ℕ
code_of TooLarge = 1
code_of NotJson = 2
code_of NotSignature = 3
code_of UnknownPrimitive = 4
code_of BadArgs = 5
code_of BadNumber = 6
code_of OnCanvas = 7
code_of Frozen = 8
code_of EmptyChain = 9
code_of NestedGroup = 10
code_of TooDeep = 11
code_of TooMany = 12
code_of Memory = 13

abbrev pub printed_name : SigFault → List ℕ
printed_name TooLarge = codes "TooLarge"
printed_name NotJson = codes "NotJson"
printed_name NotSignature = codes "NotSignature"
printed_name UnknownPrimitive = codes "UnknownPrimitive"
printed_name BadArgs = codes "BadArgs"
printed_name BadNumber = codes "BadNumber"
printed_name OnCanvas = codes "OnCanvas"
printed_name Frozen = codes "Frozen"
printed_name EmptyChain = codes "EmptyChain"
printed_name NestedGroup = codes "NestedGroup"
printed_name TooDeep = codes "TooDeep"
printed_name TooMany = codes "TooMany"
printed_name Memory = codes "Memory"
