-- Why a text has no plan, and why the run of a plan has no report.
use Rattle.std.specs.Prelude.{◌≡◌, Err}
use Rattle.canvas_task.specs.Text.{Text}
use Rattle.canvas_values.specs.CanvasText.{text_reading}
use Rattle.canvas_engine.specs.declared.by_turns.fault.RunFault.{RunFault}
use Rattle.canvas_engine.specs.declared.text.TextFault.{TextFault}
use Rattle.canvas_engine.specs.declared.text.TextFault.TheVariants.{Sig, Run, Memory}

abbrev pub IsReadFault : Text → TextFault → Type 0
IsReadFault bytes (Sig e) = text_reading bytes ≡ Err e
IsReadFault bytes (Run f) = ⊥
IsReadFault bytes Memory = Unit {0}

-- why a text that has a plan has no report, if `Says` holds of its run's fault
abbrev pub IsPlanFault : (RunFault → Type 0) → TextFault → Type 0
IsPlanFault Says (Sig e) = ⊥
IsPlanFault Says (Run f) = Says f
IsPlanFault Says Memory = Unit {0}
