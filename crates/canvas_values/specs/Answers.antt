-- Results that may be refusals, and the first of several refusals.
use Rattle.std.specs.Prelude.{◌≡◌, Bool, if◌then◌else◌, List, [], ◌∷◌, Option, Some, None, Result, Ok, Err}
use Rattle.canvas_values.specs.declared.fault.SigFault.{SigFault}
use Rattle.canvas_values.specs.declared.fault.SigFault.TheVariants.{Memory}

infixl 10 ◌>>=◌
abbrev pub ◌>>=◌ : {A B : Type 0} → Result A SigFault → (A → Result B SigFault) → Result B SigFault
(Ok x) >>= f = f x
(Err e) >>= f = Err e

-- A function returned what reading gives, seen by `view`, unless memory ran out.
abbrev pub Fails : {Y : Type 0} → SigFault → Result Y SigFault → Type 0
Fails Memory read = Unit {0}
Fails e read = read ≡ Err e

abbrev pub Gives : {X Y : Type 0} → (X → Y) → Result X SigFault → Result Y SigFault → Type 0
Gives view (Ok x) read = read ≡ Ok (view x)
Gives view (Err e) read = Fails e read

-- the first of two faults
infixr 3 ◌or_else◌
abbrev pub ◌or_else◌ : Option SigFault → Option SigFault → Option SigFault
None or_else f = f
(Some e) or_else f = Some e

abbrev pub fault_if : Bool → SigFault → Option SigFault
fault_if b e = if b then Some e else None

abbrev pub unless : {A : Type 0} → Option SigFault → Result A SigFault → Result A SigFault
unless None read = read
unless (Some e) read = Err e

-- a fault, or the value if there is none
abbrev pub judged : {A E : Type 0} → Option E → A → Result A E
judged None x = Ok x
judged (Some e) x = Err e

-- the results of the elements in order, or the first fault
abbrev pub in_turn : {A B : Type 0} → (A → Result B SigFault) → List A → Result (List B) SigFault
in_turn f [] = Ok []
in_turn f (x ∷ xs) = f x >>= λ y. in_turn f xs >>= λ ys. Ok (y ∷ ys)
