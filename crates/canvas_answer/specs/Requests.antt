-- What a command asks for, by what is given for its options.
use Rattle.std.specs.Prelude.{◌≡◌, ◌≢◌, ℕ, Bool, true, false, if◌then◌else◌, List, Option, None, Some, codes, option_map, unwrap_or, not}
use Rattle.clap.specs.Walk.{Row, first_of}
use Rattle.canvas_adapt.specs.RenameTexts.{AreRenameTexts}
use Rattle.canvas_celery.specs.declared.run_number.Run as run_number
use Rattle.canvas_celery.specs.declared.commands.target.Target.{Target}
use Rattle.canvas_runs.specs.EntryList.{IsEntryFault, IsEntryList}
use Rattle.canvas_runs.specs.declared.entry_list.EntryFault.TheVariants.{BadAgain}
use Rattle.canvas_runs.specs.TurnList.{IsTurnList}
use Rattle.canvas_task.specs.Text.{Text}
use Rattle.canvas_words.specs.declared.subcommand.Subcommand.{Subcommand}
use Rattle.canvas_words.specs.declared.subcommand.Subcommand.TheVariants.{Run, Turns, Normal, Check, Adapt, Graph, Page, Messages, Export, Keys, Collect}
use Rattle.canvas_answer.specs.Given.{IsFlag, IsNumber, IsNumberOf, text_of, texts_of}
use Rattle.canvas_answer.specs.declared.again.Again.{Again}
use Rattle.canvas_answer.specs.declared.again.Again.TheVariants as again
use Rattle.canvas_answer.specs.declared.command_line.Request.{Request}
use Rattle.canvas_answer.specs.declared.command_line.Verb.{Verb}
use Rattle.canvas_answer.specs.declared.command_line.Verb.TheVariants as verb
use Rattle.canvas_answer.specs.declared.command_line.Action.{Action}
use Rattle.canvas_answer.specs.declared.command_line.Action.TheVariants.{One, Each}
use Rattle.canvas_answer.specs.declared.command_line.Action.TheVariants as action
use Rattle.canvas_answer.specs.declared.failures.Failures as failures
use Rattle.canvas_answer.specs.declared.celery.Collecting.{Collecting}
use Rattle.canvas_answer.specs.declared.celery.OnCelery.TheVariants as celery
use Rattle.canvas_answer.specs.declared.each.Each as each
use Rattle.canvas_answer.specs.declared.graph.States.{States}
use Rattle.canvas_answer.specs.declared.graph.States.TheVariants as states
use Rattle.canvas_answer.specs.declared.reporting.Format.{Format}
use Rattle.canvas_answer.specs.declared.reporting.Format.TheVariants.{Plain, Json, Explained}
use Rattle.canvas_answer.specs.declared.reporting.OutputOptions.{OutputOptions}

module _ (given : List Row) where
  -- ---- parts of a request

  abbrev pub IsWorkers : ℕ → Type 0
  IsWorkers n = IsNumber given (codes "workers") 1 n

  -- JSON, or else as the flag for an explanation says
  abbrev pub IsFormatWhere : (json : Bool) → Format → Type 0
  IsFormatWhere true form = form ≡ Json
  IsFormatWhere false form = (explains : Bool) × IsFlag given (codes "explain") explains
      × (form ≡ (if explains then Explained else Plain))

  abbrev pub IsFormat : Format → Type 0
  IsFormat form = (json : Bool) × IsFlag given (codes "json") json × IsFormatWhere json form

  -- with the flag that gives a failure a status of its own
  abbrev pub IsOutputOptions : Text → OutputOptions → Type 0
  IsOutputOptions flag m = IsFormat m.form × IsFlag given flag m.fails

  abbrev pub AreTurns : ℕ → List ℕ → Type 0
  AreTurns workers turns = IsTurnList workers (text_of given (codes "turns")) turns

  -- what is redelivered: a list of numbers, or another text, which may have names
  abbrev pub IsAgain : Option Text → Again → Type 0
  IsAgain None again.Nothing = Unit {0}
  IsAgain (Some list) (again.Entries es) = IsEntryList list es.items
  IsAgain (Some list) (again.Named said) = (said.now ≡ list) × IsEntryFault list BadAgain
  IsAgain list other = ⊥

  abbrev pub IsRun : Text → run_number.Run → Type 0
  IsRun option run = run.digits ≡ text_of given option

  -- what a picture shows: results if their file is given, else those of a run if that is
  abbrev pub IsShowing : Option Text → States → Type 0
  IsShowing None states.None = IsFlag given (codes "run") false
  IsShowing None (states.Run workers) = IsFlag given (codes "run") true × IsWorkers workers
  IsShowing (Some file) (states.Stored stored) =
      (stored.file.now ≡ file) × IsRun (codes "of") stored.run
      × IsFlag given (codes "complete") stored.completes
  IsShowing file other = ⊥

  abbrev pub database_or_zero : (broker backend : Option ℕ) → Option (ℕ × ℕ)
  database_or_zero None None = None
  database_or_zero broker backend = Some (unwrap_or broker 0, unwrap_or backend 0)

  abbrev pub AreDatabases : Option (ℕ × ℕ) → Type 0
  AreDatabases chosen = (broker : Option ℕ) × IsNumberOf given (codes "broker-db") broker
      × ((backend : Option ℕ) × IsNumberOf given (codes "backend-db") backend
      × (chosen ≡ database_or_zero broker backend))

  pub record IsTarget (t : Target) : Type 0 where
    pub queue : t.queue.now ≡ text_of given (codes "queue")
    pub prefix : t.prefix.now ≡ text_of given (codes "prefix")
    pub expires : IsNumber given (codes "expires") 1 t.expires
    pub databases : AreDatabases t.databases
    pub by_script : (without : Bool) × IsFlag given (codes "without-script") without
        × (t.by_script ≡ not without)

  abbrev pub IsCollecting : Collecting → Type 0
  IsCollecting c =
      IsFlag given (codes "complete") c.completes × IsFormat c.output.form
      × (c.output.fails ≡ false)

  -- ---- the requests

  abbrev pub IsVerb : Subcommand → Verb → Type 0
  IsVerb Run (verb.Run workers output) = IsWorkers workers × IsOutputOptions (codes "fail") output
  IsVerb Turns (verb.Turns workers turns again steps output) =
      IsWorkers workers × AreTurns workers turns.items
      × IsAgain (first_of (codes "again") given) again × IsFlag given (codes "steps") steps
      × IsOutputOptions (codes "fail") output
  IsVerb Normal (verb.Normal numbers) = IsFlag given (codes "numbers") numbers
  -- the work of a page that has no word for failures; but it has one, given or not
  IsVerb Page (verb.Normal numbers) = IsFlag given (codes "numbers") numbers
  IsVerb Check (verb.Check output) = IsOutputOptions (codes "strict") output
  IsVerb Adapt (verb.Adapt renames) =
      AreRenameTexts (texts_of given (codes "rename")) renames.items
  IsVerb Graph (verb.Graph states) = IsShowing (first_of (codes "results") given) states
  IsVerb Messages (verb.Messages workers turns calls) =
      IsWorkers workers × AreTurns workers turns.items × IsFlag given (codes "calls") calls
  IsVerb Export (verb.Celery run (celery.Export target values)) =
      IsRun (codes "run") run × IsTarget target
      × (option_map (λ f. f.now) values ≡ first_of (codes "values") given)
  IsVerb Keys (verb.Celery run (celery.Keys prefix)) =
      IsRun (codes "run") run × (prefix.now ≡ text_of given (codes "prefix"))
  IsVerb Collect (verb.Celery run (celery.Collect collecting)) =
      IsRun (codes "run") run × IsCollecting collecting
  IsVerb command other = ⊥

  -- each of many canvases ends with a line feed, 10, or with a zero byte
  pub record IsEach (e : each.Each) : Type 0 where
    pub workers : IsWorkers e.workers
    pub fails : IsFlag given (codes "fail") e.fails
    pub end : (null : Bool) × IsFlag given (codes "null") null
        × (e.end ≡ (if null then 0 else 10))
    pub tasks : IsFlag given (codes "with-tasks") e.has_tasks

  -- the word that each task fails with, and whether a failure has a status of its own
  abbrev pub AreFailures : (word : Option Text) → failures.Failures → Type 0
  AreFailures word f = (word ≡ Some f.word.now) × IsFlag given (codes "fail") f.fails

  -- in lines, or in a page for that command
  abbrev pub AreFailuresBy : Subcommand → (word : Option Text) → Action → Type 0
  AreFailuresBy command word (action.Failures f) = (command ≢ Page) × AreFailures word f
  AreFailuresBy command word (action.Page f) = (command ≡ Page) × AreFailures word f
  AreFailuresBy command word other = ⊥

  abbrev pub IsAction : Subcommand → Action → Type 0
  IsAction command (One v) =
      IsFlag given (codes "each") false × (first_of (codes "failures") given ≡ None)
      × IsVerb command v
  IsAction command (Each e) = IsFlag given (codes "each") true × IsEach e
  IsAction command action =
      IsFlag given (codes "each") false
      × AreFailuresBy command (first_of (codes "failures") given) action

  pub record IsRequest (command : Subcommand) (r : Request) : Type 0 where
    pub action : IsAction command r.action
    pub file : r.file.now ≡ text_of given (codes "FILE")
    pub adapts : IsFlag given (codes "adapt") r.adapts
    pub is_json : IsFlag given (codes "json") r.is_json
