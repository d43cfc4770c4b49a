-- A refusal of a part is the refusal of what is read of it.
use Rattle.std.proofs.Common.{◌≡◌, ◌∙◌, ℕ, List, Option, Some, None, Result, Ok, subst, sym, ap}
use Rattle.std.specs.Prelude.{codes}
use Rattle.serde_json.specs.Data.{Data}
use Rattle.canvas_task.specs.declared.arg.Arg.{Arg}
use Rattle.canvas_values.specs.Answers.{◌>>=◌, ◌or_else◌, Fails, unless, in_turn}
use Rattle.canvas_values.specs.Fields.{option, args, kwargs, link, link_error, listed, object_members as members, as_list}
use Rattle.canvas_values.specs.Grammar.{arg_reading, named_reading}
use Rattle.canvas_values.specs.declared.fault.SigFault.{SigFault}
use Rattle.canvas_values.specs.declared.fault.SigFault.TheVariants.{Memory}
use Rattle.canvas_semantics.specs.PlacedLine.{PTask, PLine}
use Rattle.canvas_envelope.specs.FrozenGrammar.{task_of}
use Rattle.canvas_codec.specs.steps.FrozenReading.{if_numbered, place_with, task_with}

pub refused_first : {A B : Type 0} (e : SigFault) (r : Result A SigFault) (g : A → Result B SigFault) → Fails e r → Fails e (r >>= g)
refused_first Memory r g h = tt
refused_first e r g h = ap (λ x. x >>= g) h

pub refused_behind : {A B : Type 0} (e : SigFault) (r : Result A SigFault) (x : A) (g : A → Result B SigFault) → r ≡ Ok x → Fails e (g x) → Fails e
    (r >>= g)
refused_behind e r x g is h = subst (λ y. Fails e (y >>= g)) (sym is) h

pub refused_unless : {A : Type 0} (e : SigFault) (o : Option SigFault) (r : Result A SigFault) → o ≡ None → Fails e r → Fails e (unless o r)
refused_unless e o r none h = subst (λ p. Fails e (unless p r)) (sym none) h

pub refused_at_once : {A : Type 0} (e : SigFault) (o : Option SigFault) (r : Result A SigFault) → o ≡ Some e → Fails e (unless o r)
refused_at_once Memory o r h = tt
refused_at_once e o r h = ap (λ p. unless p r) h

pub neither : (o p : Option SigFault) → o ≡ None → p ≡ None → (o or_else p) ≡ None
neither o p first second = ap (λ q. q or_else p) first ∙ second

pub refused_args : (t : Data → Result PTask SigFault) (f : Data → Result PLine SigFault) (d : Data) (e : SigFault) (k : ℕ)
    → if_numbered (task_of (option (codes "task_id") d)) ≡ Ok k
    → Fails e (in_turn arg_reading (listed (args d))) → Fails e (task_with t f d)
refused_args t f d e k hk h = refused_behind e _ k _ hk (refused_first e _ _ (refused_first e _ _ h))

pub refused_kwargs : (t : Data → Result PTask SigFault) (f : Data → Result PLine SigFault) (d : Data) (e : SigFault) (k : ℕ) (a : List Arg)
    → if_numbered (task_of (option (codes "task_id") d)) ≡ Ok k → in_turn arg_reading (listed (args d)) ≡ Ok a
    → Fails e (in_turn named_reading (members (kwargs d))) → Fails e (task_with t f d)
refused_kwargs t f d e k a hk ha h = refused_behind e _ k _ hk (refused_first e _ _ (refused_behind e _ a _ ha (refused_first e _ _ h)))

pub refused_links : (t : Data → Result PTask SigFault) (f : Data → Result PLine SigFault) (d : Data) (e : SigFault) (k : ℕ) (a : List Arg) (w : List
    (List ℕ × Arg))
    → if_numbered (task_of (option (codes "task_id") d)) ≡ Ok k → in_turn arg_reading (listed (args d)) ≡ Ok a
    → in_turn named_reading (members (kwargs d)) ≡ Ok w
    → Fails e (in_turn t (as_list (link d))) → Fails e (task_with t f d)
refused_links t f d e k a w hk ha hw h = rw (hk, ha, hw) (refused_first e _ _ h)

pub refused_errbacks : (t : Data → Result PTask SigFault) (f : Data → Result PLine SigFault) (d : Data) (e : SigFault) (k : ℕ) (a : List Arg)
    (w : List (List ℕ × Arg))
    (ls : List PTask)
    → if_numbered (task_of (option (codes "task_id") d)) ≡ Ok k → in_turn arg_reading (listed (args d)) ≡ Ok a
    → in_turn named_reading (members (kwargs d)) ≡ Ok w → in_turn t (as_list (link d)) ≡ Ok ls
    → Fails e (in_turn t (as_list (link_error d))) → Fails e (task_with t f d)
refused_errbacks t f d e k a w ls hk ha hw hl h = rw (hk, ha, hw, hl) (refused_first e _ _ h)

pub refused_place : (t : Data → Result PTask SigFault) (f : Data → Result PLine SigFault) (d : Data) (e : SigFault) (k : ℕ) (a : List Arg) (w : List
    (List ℕ × Arg))
    (ls es : List PTask)
    → if_numbered (task_of (option (codes "task_id") d)) ≡ Ok k → in_turn arg_reading (listed (args d)) ≡ Ok a
    → in_turn named_reading (members (kwargs d)) ≡ Ok w → in_turn t (as_list (link d)) ≡ Ok ls → in_turn t (as_list (link_error d)) ≡ Ok es
    → Fails e (place_with f (option (codes "group_id") d) (option (codes "chord") d)) → Fails e (task_with t f d)
refused_place t f d e k a w ls es hk ha hw hl he h = rw (hk, ha, hw, hl, he) (refused_first e _ _ h)
