-- What flows into a line gives, walk by walk.
use Rattle.std.proofs.Common.{◌≡◌, ◌∙◌, ℕ, List, [], ◌∷◌, ◌++◌, Option, Some, None, refl, sym, ap, ap₂, append-nil}
use Rattle.canvas_task.specs.declared.outcome.Fault.{Fault}
use Rattle.canvas_task.specs.declared.outcome.Outcome.{Outcome}
use Rattle.canvas_task.specs.declared.outcome.Outcome.TheVariants.{Success, Failure}
use Rattle.canvas_semantics.specs.PlacedLine.{PTask, PTasks, no_p_tasks, and_p_task, PPlace, p_nowhere, p_group, p_chord, PLine, p_stop, p_step, p_group_end, p_chord_end, PLines, no_p_lines, and_p_line}
use Rattle.canvas_rewrite.specs.FrozenView.{p_steps, p_lines_of}
use Rattle.canvas_envelope.specs.Content.{number_of, errbacks_of}
use Rattle.canvas_effects.specs.Effects.{Jobs, message, callbacks, called, part_of, enter, enter_all, fault_behind, stores_in, messages_in, part_in}
use Rattle.canvas_envelope.specs.Fits.{how_many}
use Rattle.canvas_effects.specs.Flowing.{Input, number_input, id_input, run, skips, raise}
use Rattle.canvas_effects.specs.Job.{store, publish, part}
use Rattle.canvas_effects.specs.Placing.{placed}
use Rattle.canvas_effects.specs.steps.Walks.{started, all_started, skipped, all_skipped, skipped_tasks, raised_stores, all_raised_stores, raised_messages, all_raised_messages, member_place}

-- ---- jobs one after the other

pub stores_on : (js ks : Jobs) → stores_in (js ++ ks) ≡ stores_in js ++ stores_in ks
stores_on [] ks = refl
stores_on (store k o ∷ js) ks = ap (λ xs. (k, o) ∷ xs) (stores_on js ks)
stores_on (publish m ∷ js) ks = stores_on js ks
stores_on (part g k c ∷ js) ks = stores_on js ks

pub messages_on : (js ks : Jobs) → messages_in (js ++ ks) ≡ messages_in js ++ messages_in ks
messages_on [] ks = refl
messages_on (store k o ∷ js) ks = messages_on js ks
messages_on (publish m ∷ js) ks = ap (λ xs. m ∷ xs) (messages_on js ks)
messages_on (part g k c ∷ js) ks = messages_on js ks

pub part_on : (js ks : Jobs) → part_in js ≡ None → part_in (js ++ ks) ≡ part_in ks
part_on [] ks h = refl
part_on (store k o ∷ js) ks h = part_on js ks h
part_on (publish m ∷ js) ks h = part_on js ks h
part_on (part g k c ∷ js) ks h = absurd cc

pub no_part_on : (js ks : Jobs) → part_in js ≡ None → part_in ks ≡ None → part_in (js ++ ks) ≡ None
no_part_on js ks h i = part_on js ks h ∙ i

pub no_store_on : (js ks : Jobs) → stores_in js ≡ [] → stores_in ks ≡ [] → stores_in (js ++ ks) ≡ []
no_store_on js ks h i = stores_on js ks ∙ ap₂ (λ a b. a ++ b) h i

no_message_on : (js ks : Jobs) → messages_in js ≡ [] → messages_in ks ≡ [] → messages_in (js ++ ks) ≡ []
no_message_on js ks h i = messages_on js ks ∙ ap₂ (λ a b. a ++ b) h i

-- ---- callbacks

called_stores : (ts : PTasks) (x : Input) (u : Option ℕ) → stores_in (callbacks ts x u) ≡ []
called_stores no_p_tasks x u = refl
called_stores (and_p_task t ts) x u = called_stores ts x u

pub called_part : (ts : PTasks) (x : Input) (u : Option ℕ) → part_in (callbacks ts x u) ≡ None
called_part no_p_tasks x u = refl
called_part (and_p_task t ts) x u = called_part ts x u

pub back_stores : (ls es : PTasks) (k : ℕ) (o : Outcome) → stores_in (called ls es k o) ≡ []
back_stores ls es k (Success n) = called_stores ls (number_input n) (Some k)
back_stores ls es k (Failure f) = called_stores es (id_input k) (Some k)

pub back_part : (ls es : PTasks) (k : ℕ) (o : Outcome) → part_in (called ls es k o) ≡ None
back_part ls es k (Success n) = called_part ls (number_input n) (Some k)
back_part ls es k (Failure f) = called_part es (id_input k) (Some k)

-- the failed task is the input, so the parent is known
called_same : (ts : PTasks) (k : ℕ) (u v : Option ℕ) → callbacks ts (id_input k) u ≡ callbacks ts (id_input k) v
called_same no_p_tasks k u v = refl
called_same (and_p_task t ts) k u v = ap (λ js. publish (message u t (id_input k) p_stop) ∷ js) (called_same ts k u v)

called_messages : (ts : PTasks) (k : ℕ) (u v : Option ℕ) → messages_in (callbacks ts (id_input k) u) ≡ messages_in (callbacks ts (id_input k) v)
called_messages ts k u v = ap messages_in (called_same ts k u v)

-- ---- parts

pub place_stores : (p : PPlace) (k : ℕ) → stores_in (part_of p k) ≡ []
place_stores p_nowhere k = refl
place_stores (p_group g) k = refl
place_stores (p_chord g size body) k = refl

pub place_messages : (p : PPlace) (k : ℕ) → messages_in (part_of p k) ≡ []
place_messages p_nowhere k = refl
place_messages (p_group g) k = refl
place_messages (p_chord g size body) k = refl

-- ---- lines that are skipped: what is stored doesn't depend on the place, the task before or the event

mutual
  skip_any : (l : PLine) (f : Fault) (p q : PPlace) (k j : ℕ) (u v : Option ℕ) → stores_in (enter l (skips f) p k u) ≡ stores_in (enter l (skips f) q j v)
  skip_any p_stop f p q k j u v = place_stores p k ∙ sym (place_stores q j)
  skip_any (p_step t rest) f p q k j u v = ap (λ xs. (number_of t, Failure f) ∷ xs) (skip_any rest f p q (number_of t) (number_of t) u v)
  skip_any (p_group_end g ms) f p q k j u v = skip_all_any ms f (p_group g) (p_group g) u v
  skip_any (p_chord_end g ms body) f p q k j u v =
      stores_on (enter_all ms (skips f) p_nowhere u) (enter body (skips f) p 0 u)
      ∙ ap₂ (λ a b. a ++ b) (skip_all_any ms f p_nowhere p_nowhere u v) (skip_any body f p q 0 0 u v)
      ∙ sym (stores_on (enter_all ms (skips f) p_nowhere v) (enter body (skips f) q 0 v))

  skip_all_any : (ms : PLines) (f : Fault) (p q : PPlace) (u v : Option ℕ) → stores_in (enter_all ms (skips f) p u) ≡ stores_in (enter_all ms (skips f) q v)
  skip_all_any no_p_lines f p q u v = refl
  skip_all_any (and_p_line m ms) f p q u v =
      stores_on (enter m (skips f) p 0 u) (enter_all ms (skips f) p u)
      ∙ ap₂ (λ a b. a ++ b) (skip_any m f p q 0 0 u v) (skip_all_any ms f p q u v)
      ∙ sym (stores_on (enter m (skips f) q 0 v) (enter_all ms (skips f) q v))

pub skipped_so : (l : PLine) (f : Fault) (p : PPlace) (k : ℕ) (u : Option ℕ) → stores_in (enter l (skips f) p k u) ≡ skipped f l
skipped_so l f p k u = skip_any l f p p_nowhere k 0 u None

all_skipped_so : (ls : List PLine) (f : Fault) (p : PPlace) (u : Option ℕ) → stores_in (enter_all (p_lines_of ls) (skips f) p u) ≡ all_skipped f ls
all_skipped_so [] f p u = refl
all_skipped_so (l ∷ ls) f p u =
    stores_on (enter l (skips f) p 0 u) (enter_all (p_lines_of ls) (skips f) p u) ∙ ap₂ (λ a b. a ++ b) (skipped_so l f p 0 u) (all_skipped_so ls f p u)

pub skipped_steps : (f : Fault) (ts : List PTask) (l : PLine) → skipped f (p_steps ts l) ≡ skipped_tasks f ts ++ skipped f l
skipped_steps f [] l = refl
skipped_steps f (t ∷ ts) l =
    ap (λ xs. (number_of t, Failure f) ∷ xs) (skip_any (p_steps ts l) f p_nowhere p_nowhere (number_of t) 0 None None ∙ skipped_steps f ts l)

pub skipped_group : (f : Fault) (g : ℕ) (ls : List PLine) → skipped f (p_group_end g (p_lines_of ls)) ≡ all_skipped f ls
skipped_group f g ls = all_skipped_so ls f (p_group g) None

pub skipped_chord : (f : Fault) (g : ℕ) (ls : List PLine) (body : PLine) → skipped f (p_chord_end g (p_lines_of ls) body) ≡ all_skipped f ls ++ skipped f body
skipped_chord f g ls body =
    stores_on (enter_all (p_lines_of ls) (skips f) p_nowhere None) (enter body (skips f) p_nowhere 0 None)
    ∙ ap (λ xs. xs ++ skipped f body) (all_skipped_so ls f p_nowhere None)

-- nothing is published
mutual
  pub skip_quiet : (l : PLine) (f : Fault) (p : PPlace) (k : ℕ) (u : Option ℕ) → messages_in (enter l (skips f) p k u) ≡ []
  skip_quiet p_stop f p k u = place_messages p k
  skip_quiet (p_step t rest) f p k u = skip_quiet rest f p (number_of t) u
  skip_quiet (p_group_end g ms) f p k u = skip_all_quiet ms f (p_group g) u
  skip_quiet (p_chord_end g ms body) f p k u =
      no_message_on (enter_all ms (skips f) p_nowhere u) (enter body (skips f) p 0 u) (skip_all_quiet ms f p_nowhere u) (skip_quiet body f p 0 u)

  skip_all_quiet : (ms : PLines) (f : Fault) (p : PPlace) (u : Option ℕ) → messages_in (enter_all ms (skips f) p u) ≡ []
  skip_all_quiet no_p_lines f p u = refl
  skip_all_quiet (and_p_line m ms) f p u =
      no_message_on (enter m (skips f) p 0 u) (enter_all ms (skips f) p u) (skip_quiet m f p 0 u) (skip_all_quiet ms f p u)

-- ---- lines in which an exception is raised: the same

mutual
  raise_any : (l : PLine) (f : Fault) (p q : PPlace) (k j : ℕ) (u v : Option ℕ) → stores_in (enter l (raise f) p k u) ≡ stores_in (enter l (raise f) q j v)
  raise_any p_stop f p q k j u v = place_stores p k ∙ sym (place_stores q j)
  raise_any (p_step t rest) f p q k j u v =
      ap (λ xs. (number_of t, Failure f) ∷ xs)
      (stores_on (callbacks (errbacks_of t) (id_input (number_of t)) u) (enter rest (skips f) p (number_of t) u)
      ∙ ap₂ (λ a b. a ++ b) (called_stores (errbacks_of t) (id_input (number_of t)) u ∙ sym (called_stores (errbacks_of t) (id_input (number_of t)) v))
      (skip_any rest f p q (number_of t) (number_of t) u v)
      ∙ sym (stores_on (callbacks (errbacks_of t) (id_input (number_of t)) v) (enter rest (skips f) q (number_of t) v)))
  raise_any (p_group_end g ms) f p q k j u v = raise_all_any ms f (p_group g) (p_group g) u v
  raise_any (p_chord_end g ms body) f p q k j u v =
      stores_on (enter_all ms (raise f) p_nowhere u) (enter body (raise (fault_behind ms f)) p 0 u)
      ∙ ap₂ (λ a b. a ++ b) (raise_all_any ms f p_nowhere p_nowhere u v) (raise_any body (fault_behind ms f) p q 0 0 u v)
      ∙ sym (stores_on (enter_all ms (raise f) p_nowhere v) (enter body (raise (fault_behind ms f)) q 0 v))

  raise_all_any : (ms : PLines) (f : Fault) (p q : PPlace) (u v : Option ℕ) → stores_in (enter_all ms (raise f) p u) ≡ stores_in (enter_all ms (raise f) q v)
  raise_all_any no_p_lines f p q u v = refl
  raise_all_any (and_p_line m ms) f p q u v =
      stores_on (enter m (raise f) p 0 u) (enter_all ms (raise f) p u)
      ∙ ap₂ (λ a b. a ++ b) (raise_any m f p q 0 0 u v) (raise_all_any ms f p q u v)
      ∙ sym (stores_on (enter m (raise f) q 0 v) (enter_all ms (raise f) q v))

pub raised_stores_so : (l : PLine) (f : Fault) (p : PPlace) (k : ℕ) (u : Option ℕ) → stores_in (enter l (raise f) p k u) ≡ raised_stores f l
raised_stores_so l f p k u = raise_any l f p p_nowhere k 0 u None

all_raised_stores_so : (ls : List PLine) (f : Fault) (p : PPlace) (u : Option ℕ) → stores_in (enter_all (p_lines_of ls) (raise f) p u) ≡ all_raised_stores f ls
all_raised_stores_so [] f p u = refl
all_raised_stores_so (l ∷ ls) f p u =
    stores_on (enter l (raise f) p 0 u) (enter_all (p_lines_of ls) (raise f) p u)
    ∙ ap₂ (λ a b. a ++ b) (raised_stores_so l f p 0 u) (all_raised_stores_so ls f p u)

mutual
  raise_messages_any : (l : PLine) (f : Fault) (p q : PPlace) (k j : ℕ) (u v : Option ℕ)
      → messages_in (enter l (raise f) p k u) ≡ messages_in (enter l (raise f) q j v)
  raise_messages_any p_stop f p q k j u v = place_messages p k ∙ sym (place_messages q j)
  raise_messages_any (p_step t rest) f p q k j u v =
      messages_on (callbacks (errbacks_of t) (id_input (number_of t)) u) (enter rest (skips f) p (number_of t) u)
      ∙ ap₂ (λ a b. a ++ b) (called_messages (errbacks_of t) (number_of t) u v)
      (skip_quiet rest f p (number_of t) u ∙ sym (skip_quiet rest f q (number_of t) v))
      ∙ sym (messages_on (callbacks (errbacks_of t) (id_input (number_of t)) v) (enter rest (skips f) q (number_of t) v))
  raise_messages_any (p_group_end g ms) f p q k j u v = raise_all_messages_any ms f (p_group g) (p_group g) u v
  raise_messages_any (p_chord_end g ms body) f p q k j u v =
      messages_on (enter_all ms (raise f) p_nowhere u) (enter body (raise (fault_behind ms f)) p 0 u)
      ∙ ap₂ (λ a b. a ++ b) (raise_all_messages_any ms f p_nowhere p_nowhere u v) (raise_messages_any body (fault_behind ms f) p q 0 0 u v)
      ∙ sym (messages_on (enter_all ms (raise f) p_nowhere v) (enter body (raise (fault_behind ms f)) q 0 v))

  raise_all_messages_any : (ms : PLines) (f : Fault) (p q : PPlace) (u v : Option ℕ)
      → messages_in (enter_all ms (raise f) p u) ≡ messages_in (enter_all ms (raise f) q v)
  raise_all_messages_any no_p_lines f p q u v = refl
  raise_all_messages_any (and_p_line m ms) f p q u v =
      messages_on (enter m (raise f) p 0 u) (enter_all ms (raise f) p u)
      ∙ ap₂ (λ a b. a ++ b) (raise_messages_any m f p q 0 0 u v) (raise_all_messages_any ms f p q u v)
      ∙ sym (messages_on (enter m (raise f) q 0 v) (enter_all ms (raise f) q v))

pub raised_messages_so : (l : PLine) (f : Fault) (p : PPlace) (k : ℕ) (u : Option ℕ) → messages_in (enter l (raise f) p k u) ≡ raised_messages f l
raised_messages_so l f p k u = raise_messages_any l f p p_nowhere k 0 u None

all_raised_messages_so : (ls : List PLine) (f : Fault) (p : PPlace) (u : Option ℕ)
    → messages_in (enter_all (p_lines_of ls) (raise f) p u) ≡ all_raised_messages f ls
all_raised_messages_so [] f p u = refl
all_raised_messages_so (l ∷ ls) f p u =
    messages_on (enter l (raise f) p 0 u) (enter_all (p_lines_of ls) (raise f) p u)
    ∙ ap₂ (λ a b. a ++ b) (raised_messages_so l f p 0 u) (all_raised_messages_so ls f p u)

pub raised_step : (f : Fault) (t : PTask) (ts : List PTask) (l : PLine)
    → raised_stores f (p_steps (t ∷ ts) l) ≡ (number_of t, Failure f) ∷ skipped_tasks f ts ++ skipped f l
raised_step f t ts l =
    ap (λ xs. (number_of t, Failure f) ∷ xs)
    (stores_on (callbacks (errbacks_of t) (id_input (number_of t)) None) (enter (p_steps ts l) (skips f) p_nowhere (number_of t) None)
    ∙ ap₂ (λ a b. a ++ b) (called_stores (errbacks_of t) (id_input (number_of t)) None) (skipped_so (p_steps ts l) f p_nowhere (number_of t) None
    ∙ skipped_steps f ts l))

pub raised_step_messages : (f : Fault) (t : PTask) (l : PLine)
    → raised_messages f (p_step t l) ≡ messages_in (callbacks (errbacks_of t) (id_input (number_of t)) None)
raised_step_messages f t l =
    messages_on (callbacks (errbacks_of t) (id_input (number_of t)) None) (enter l (skips f) p_nowhere (number_of t) None)
    ∙ ap (λ xs. messages_in (callbacks (errbacks_of t) (id_input (number_of t)) None) ++ xs) (skip_quiet l f p_nowhere (number_of t) None)
    ∙ append-nil (messages_in (callbacks (errbacks_of t) (id_input (number_of t)) None))

pub raised_group : (f : Fault) (g : ℕ) (ls : List PLine) → raised_stores f (p_group_end g (p_lines_of ls)) ≡ all_raised_stores f ls
raised_group f g ls = all_raised_stores_so ls f (p_group g) None

pub raised_group_messages : (f : Fault) (g : ℕ) (ls : List PLine) → raised_messages f (p_group_end g (p_lines_of ls)) ≡ all_raised_messages f ls
raised_group_messages f g ls = all_raised_messages_so ls f (p_group g) None

pub raised_chord : (f : Fault) (g : ℕ) (ls : List PLine) (body : PLine)
    → raised_stores f (p_chord_end g (p_lines_of ls) body) ≡ all_raised_stores f ls ++ raised_stores (fault_behind (p_lines_of ls) f) body
raised_chord f g ls body =
    stores_on (enter_all (p_lines_of ls) (raise f) p_nowhere None) (enter body (raise (fault_behind (p_lines_of ls) f)) p_nowhere 0 None)
    ∙ ap (λ xs. xs ++ raised_stores (fault_behind (p_lines_of ls) f) body) (all_raised_stores_so ls f p_nowhere None)

pub raised_chord_messages : (f : Fault) (g : ℕ) (ls : List PLine) (body : PLine)
    → raised_messages f (p_chord_end g (p_lines_of ls) body) ≡ all_raised_messages f ls ++ raised_messages (fault_behind (p_lines_of ls) f) body
raised_chord_messages f g ls body =
    messages_on (enter_all (p_lines_of ls) (raise f) p_nowhere None) (enter body (raise (fault_behind (p_lines_of ls) f)) p_nowhere 0 None)
    ∙ ap (λ xs. xs ++ raised_messages (fault_behind (p_lines_of ls) f) body) (all_raised_messages_so ls f p_nowhere None)

-- ---- lines that are started

pub all_started_so : (ls : List PLine) (x : Input) (p : PPlace) (u : Option ℕ) → messages_in (enter_all (p_lines_of ls) (run x) p u) ≡ all_started ls x p u
all_started_so [] x p u = refl
all_started_so (l ∷ ls) x p u =
    messages_on (enter l (run x) p 0 u) (enter_all (p_lines_of ls) (run x) p u) ∙ ap (λ xs. started l x p u ++ xs) (all_started_so ls x p u)

pub started_group : (g : ℕ) (ls : List PLine) (x : Input) (p : PPlace) (u : Option ℕ)
    → started (p_group_end g (p_lines_of ls)) x p u ≡ all_started ls x (member_place (p_group_end g (p_lines_of ls)) p) u
started_group g ls x p u = all_started_so ls x (p_group g) u

pub started_chord : (g : ℕ) (l : PLine) (ls : List PLine) (body : PLine) (x : Input) (p : PPlace) (u : Option ℕ)
    → started (p_chord_end g (p_lines_of (l ∷ ls)) body) x p u ≡ all_started (l ∷ ls) x (member_place (p_chord_end g (p_lines_of (l ∷ ls)) body) p) u
started_chord g l ls body x p u =
    ap messages_in (append-nil (enter_all (p_lines_of (l ∷ ls)) (run x) (p_chord g (how_many (p_lines_of (l ∷ ls))) (placed p body)) u))
    ∙ all_started_so (l ∷ ls) x (p_chord g (how_many (p_lines_of (l ∷ ls))) (placed p body)) u
