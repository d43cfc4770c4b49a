-- Items that are read, answered and printed batch by batch.
use Rattle.std.specs.Prelude.{◌≡◌, ℕ, Bool, true, false, List, [], ◌∷◌, ◌++◌, map, IfOk, IfSome, Ok, Option, None, Some, flat_map}
use Rattle.std.specs.Io.KnownBytes.{Appends}
use Rattle.canvas_adapt.specs.declared.stubs.stub.Stub.{Stub}
use Rattle.canvas_task.specs.Apply.{Behaviour}
use Rattle.canvas_task.specs.Text.{Text}
use Rattle.canvas_answer.specs.Asking.{Asking}
use Rattle.canvas_answer.specs.Items.{IsNext}
use Rattle.canvas_answer.specs.Printing.{printed}
use Rattle.canvas_command.specs.Each.{AreItems, AreSaid, IsItemSaid, any_said, lines_of}
use Rattle.canvas_command.specs.declared.batch.Slot.{Slot}
use Rattle.canvas_command.specs.declared.each.Said.{Said}

abbrev pub texts_of : List Slot → List Text
texts_of batch = map (λ slot. slot.text.items) batch

module _ (end : ℕ) (old new : Option Text) where
  -- one more item, or the end of the input
  abbrev pub IsMore : (before after : List Slot) → (was : Bool) → Type 0
  IsMore before after true =
      (slot : Slot) × (after ≡ before ++ slot ∷ [])
      × IfSome old (λ xs. IsNext end xs new (Some slot.text.items))
  IsMore before after false =
      (after ≡ before) × IfSome old (λ xs. IsNext end xs new None)

  -- these items were read
  pub record HasRead (batch : List Slot) : Type 0 where
    pub read : IfSome old (λ xs. (left : Text) × (new ≡ Some left)
        × AreItems end xs (texts_of batch) left)

  -- and there are none only at the end of the input
  pub record IsBatch (batch : List Slot) : Type 0 where
    pub read : IfSome old (λ xs. (left : Text) × (new ≡ Some left)
        × AreItems end xs (texts_of batch) left × (batch ≡ [] → left ≡ []))

-- the same item, which is answered
pub record IsAnswered (tasks : Behaviour) (stubs : List Stub) (its : Asking) (has_tasks : Bool)
    (before after : Slot) : Type 0 where
  pub text : after.text ≡ before.text
  pub said : IfOk after.said (IsItemSaid tasks stubs its has_tasks before.text.items)

-- each item has a line, and these are printed in order
pub record IsPrinted (old new : Option Text) (batch : List Slot) (failed : Bool) : Type 0 where
  pub saids : List Said
  pub are : map (λ slot. slot.said) batch ≡ map Ok saids
  pub prints : Appends old new (flat_map printed (lines_of saids))
  pub tells : failed ≡ any_said saids

-- these items were read, and their lines are printed
pub record AreDone (tasks : Behaviour) (stubs : List Stub) (its : Asking) (has_tasks : Bool)
    (end : ℕ) (input left out printed_out : Option Text) (failed : Bool) : Type 0 where
  pub items : List Text
  pub saids : List Said
  pub read : IfSome input (λ xs. (l : Text) × (left ≡ Some l) × AreItems end xs items l)
  pub said : AreSaid tasks stubs its has_tasks items saids
  pub prints : Appends out printed_out (flat_map printed (lines_of saids))
  pub tells : failed ≡ any_said saids
