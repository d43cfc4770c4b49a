-- Calls that a signature may have, piece by piece: what the definition of refusals says of one whose call nothing refuses.
use Rattle.std.proofs.Common.{◌≡◌, ℕ, true, List, [], ◌∷◌, ℤ}
use Rattle.canvas_task.specs.Entries.{Ascends}
use Rattle.canvas_task.specs.Name.{name_ok}
use Rattle.canvas_task.specs.Numbers.{in_range}
use Rattle.canvas_task.specs.declared.arg.Arg.{Arg}
use Rattle.canvas_task.specs.declared.arg.Arg.TheVariants as arg
use Rattle.canvas_semantics.specs.Tree.{Call}

abbrev pub NumbersFit : List ℤ → Type 0
NumbersFit [] = Unit {0}
NumbersFit (n ∷ ns) = (in_range n ≡ true) × NumbersFit ns

abbrev pub ArgFits : Arg → Type 0
ArgFits (arg.Num n) = in_range n ≡ true
ArgFits (arg.List ns) = NumbersFit ns
ArgFits (arg.Text s) = Unit {0}

abbrev pub ArgsFit : List Arg → Type 0
ArgsFit [] = Unit {0}
ArgsFit (a ∷ args) = ArgFits a × ArgsFit args

abbrev pub KwargsFit : List (List ℕ × Arg) → Type 0
KwargsFit [] = Unit {0}
KwargsFit (e ∷ es) = ArgFits e.1 × KwargsFit es

pub record CallFits (call : Call) : Type 0 where
  pub name : name_ok call.name ≡ true
  pub args : ArgsFit call.args
  pub kwargs : KwargsFit call.kwargs
  pub ordered : Ascends call.kwargs
