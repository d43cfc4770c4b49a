-- What the ends of tasks and the completions of headers do, in the order of the file and each once: the facts that a history needs, on messages with the rest of their line.
use Rattle.std.proofs.Common.{◌≡◌, ℕ, suc, ◌+◌, ◌<◌, ◌≤◌, Bool, true, false, cond, eqb, List, [], ◌∷◌, ◌++◌, length, slice_get, Some, None, refl, sym, ap, subst, ◌∙◌, ⊎_elim, arith, le_refl}
use Rattle.canvas_task.specs.Apply.{Behaviour}
use Rattle.canvas_history.specs.Lists.{In, Each, total, firsts}
use Rattle.canvas_effects.specs.Job.{store, publish, part}
use Rattle.canvas_runs.specs.Protocol.{Protocol}
use Rattle.canvas_effects.specs.Events.{Event, start, completion}
use Rattle.canvas_runs.proofs.Runs.Meaning.{Form, After, Beyond, Ordered, Evaluates, Once, KeptOnce, publishes, keeps, names, Has, IsReturned}
use Rattle.canvas_effects.specs.Flowing.{no_input, number_input, list_input, id_input, LineFlow, run, skips, raise, after_outcome}
use Rattle.canvas_task.specs.declared.outcome.Outcome.{Outcome}
use Rattle.canvas_task.specs.declared.outcome.Outcome.TheVariants.{Success, Failure}
use Rattle.canvas_runs.proofs.Plans.Messages.{nowhere, in_chord, Carried, carried, Message, header, joined_number}
use Rattle.canvas_runs.proofs.Plans.Effects.{Jobs, callbacks, called, enter, after, body_after, outcome_of, by_kind}
use Rattle.canvas_runs.proofs.Plans.Evaluation.{evaluated, DoesIn}
use Rattle.canvas_semantics.specs.FileOrder.{TasksIn}
use Rattle.canvas_runs.proofs.Plans.FileOrder.{LineIn, Formed, FormedPart}
use Rattle.canvas_runs.proofs.Lists.Words.{each_append, each_weaker, in_each}
use Rattle.canvas_runs.proofs.Plans.Trees.{AJob, AllIn, each_by_kind, enter_in, items_followed}
use Rattle.canvas_runs.proofs.Plans.Parts.{items_parted}
use Rattle.canvas_semantics.specs.Line.{Line}
use Rattle.canvas_runs.proofs.Plans.Order.{AtLeast, FlowIn, enter_after, callbacks_after, tasks_span, line_span}
use Rattle.canvas_runs.proofs.Plans.Rising.{Rises, rises_append, rises_higher, rises_lower, rises_unique, item_key, job_key, items_rise, enter_rises, callbacks_rise, sends, rising_once, by_kind_sends, keeps_of, storing_once, by_kind_keeps}

pub total-same : {X : Type 0} (w v : X → ℕ) → ((x : X) → w x ≡ v x) → (xs : List X) → total w xs ≡ total v xs
total-same w v f [] = refl
total-same w v f (x ∷ xs) = let r = total-same w v f xs in let h = f x in omega arith

-- pairs with the same first parts, and second parts that these determine
pub same_pairs : (Q : ℕ → Outcome → Type 0) → ((t : ℕ) (o q : Outcome) → Q t o → Q t q → o ≡ q) → (xs ys : List (ℕ × Outcome)) → firsts xs ≡ firsts ys
    → Each (λ f. Q f.0 f.1) xs → Each (λ f. Q f.0 f.1) ys → xs ≡ ys
same_pairs Q one [] [] e a b = refl
same_pairs Q one [] (y ∷ ys) e a b = absurd (cc)
same_pairs Q one (x ∷ xs) [] e a b = absurd (cc)
same_pairs Q one ((t, o) ∷ xs) ((u, q) ∷ ys) e a b =
    let heads : t ≡ u = cc in
    let tails : firsts xs ≡ firsts ys = cc in
    let outs : o ≡ q = one t o q a.0 (subst (λ w. Q w q) (sym heads) b.0) in
    let rest : xs ≡ ys = same_pairs Q one xs ys tails a.1 b.1 in
    let pair : ◌≡◌ {A = ℕ × Outcome} (t, o) (u, q) = λ i. (heads i, outs i) in
    λ i. pair i ∷ rest i

-- a line in the order of the file, with its groups' members
pub record Plan : Type 0 where
  pub line : Line
  pub members : ℕ → List ℕ
  -- the first number past its tasks
  pub limit : ℕ
  pub numbered : LineIn members line 1 limit

abbrev pub carried_size : Carried → ℕ
carried_size (carried n body q) = n

abbrev pub messages_of : Jobs → List Message
messages_of [] = []
messages_of (store t o ∷ js) = messages_of js
messages_of (publish m ∷ js) = m ∷ messages_of js
messages_of (part g t c ∷ js) = messages_of js

module _ (behaviour : Behaviour) where
  -- a worker that publishes the messages themselves
  abbrev pub canvas : Plan → Protocol Message
  canvas p = record {
    Message = Message;
    Carried = Carried;
    no = λ m. m.no;
    outcome = outcome_of behaviour;
    ended = after;
    completed = body_after;
    size = carried_size;
    member = λ g i. slice_get (p.members g) i;
    sealed = λ m. m;
    Back = λ m. Unit;
    opened = λ m. Some m;
  }

module _ (members : ℕ → List ℕ) where
  pub called_rises : (d : Bool) (m : Message) (o : Outcome) (a b : ℕ) → TasksIn m.links (suc m.no) a → TasksIn m.errbacks a b
      → Rises (job_key d) (suc m.no) (called m.links m.errbacks m.no o) b
  called_rises d m (Success n) a b i j =
      rises_higher (job_key d) (suc m.no) a b (callbacks m.links (number_input n) (Some m.no)) (tasks_span m.errbacks a b j)
      (callbacks_rise members d m.links (number_input n) (Some m.no) (suc m.no) a i)
  called_rises d m (Failure f) a b i j =
      rises_lower (job_key d) (suc m.no) a (callbacks m.errbacks (id_input m.no) (Some m.no)) b (tasks_span m.links (suc m.no) a i)
      (callbacks_rise members d m.errbacks (id_input m.no) (Some m.no) a b j)

module _ (behaviour : Behaviour) (p : Plan) where
  abbrev pub X : Protocol Message
  X = canvas behaviour p

  abbrev pub form : Form X
  form = record {
    members = p.members;
    first = messages_of (enter p.line (run no_input) nowhere 0 None);
    Formed = Formed p.members p.limit;
    FormedPart = FormedPart p.members p.limit;
  }

  abbrev pub Does : Event → AJob → Type 0
  Does = DoesIn behaviour p.line

  messages_each : (P : AJob → Type 0) (Q : Message → Type 0) → ((m : Message) → P (publish m) → Q m) → (js : Jobs) → Each P js → Each Q (messages_of js)
  messages_each P Q f [] a = tt
  messages_each P Q f (store t o ∷ js) a = messages_each P Q f js a.1
  messages_each P Q f (publish m ∷ js) a = (f m a.0, messages_each P Q f js a.1)
  messages_each P Q f (part g t c ∷ js) a = messages_each P Q f js a.1

  first_after : Each (AtLeast p.members p.limit 0 0) (enter p.line (run no_input) nowhere 0 None)
  first_after = enter_after p.members p.limit p.line (run no_input) nowhere 0 None false 0 0 1 p.limit (omega arith) (omega arith) (λ e. omega arith)
      (omega arith) (le_refl _) tt tt p.numbered tt tt

  called_after : (m : Message) (o : Outcome) (a b : ℕ) → 1 ≤ m.no → b ≤ p.limit → TasksIn m.links (suc m.no) a → TasksIn m.errbacks a b
      → Each (AtLeast p.members p.limit (suc m.no) m.no) (called m.links m.errbacks m.no o)
  called_after m (Success n) a b one top i j =
      let x = tasks_span m.links (suc m.no) a i in
      let y = tasks_span m.errbacks a b j in
      callbacks_after p.members p.limit m.links (number_input n) (Some m.no) (suc m.no) m.no (suc m.no) a (one, omega arith) (le_refl _) (omega arith)
      (omega arith) i
  called_after m (Failure f) a b one top i j =
      let x = tasks_span m.links (suc m.no) a i in
      let y = tasks_span m.errbacks a b j in
      callbacks_after p.members p.limit m.errbacks (id_input m.no) (Some m.no) (suc m.no) m.no a b (one, omega arith) x (omega arith) top j

  later : (j : ℕ) (x : AJob) → AtLeast p.members p.limit (suc j) j x → After X form j x
  later j (store t o) a = a
  later j (publish m) a = a
  later j (part g t c) a = a

  beyond : (g from : ℕ) (x : AJob) → Each (λ u. u < from) (p.members g) → AtLeast p.members p.limit from from x → Beyond X form g x
  beyond g from (store t o) below a = each_weaker (λ u l. omega arith) (p.members g) below
  beyond g from (publish m) below a = (each_weaker (λ u l. omega (arith, a.0)) (p.members g) below, a.1)
  beyond g from (part h t c) below a = (each_weaker (λ u l. omega (arith, a.0)) (p.members g) below, a.1)

  joined_in : (n : _) (x : LineFlow) → FlowIn p.members p.limit None x → FlowIn p.members p.limit None (joined_number n x)
  joined_in n (run no_input) h = h
  joined_in n (run (number_input i)) h = h
  joined_in n (run (list_input ns)) h = tt
  joined_in n (run (id_input k)) h = h
  joined_in n (skips f) h = h
  joined_in n (raise f) h = h

  header_in : (fs : List (ℕ × Outcome)) → FlowIn p.members p.limit None (header fs)
  header_in [] = tt
  header_in ((t, Success n) ∷ fs) = joined_in n (header fs) (header_in fs)
  header_in ((t, Failure f) ∷ fs) = tt

  completed_beyond : (g t : ℕ) (c : Carried) (fs : List (ℕ × Outcome)) → FormedPart p.members p.limit g t c → Each (Beyond X form g) (body_after c fs)
  completed_beyond g t (carried n body q) fs (i, (from, upto, l, top, below, size, inside, behind, lands)) =
      each_weaker (λ x a. beyond g from x below a) _ (each_by_kind (AtLeast p.members p.limit from from) _
      (enter_after p.members p.limit body (header fs) q 0 None false from from from upto (le_refl _) (le_refl _) (λ e. absurd (cc))
      (first_number (in_each (λ u. u < from) (p.members g) below t i)) top tt (header_in fs) inside behind lands))
    where
      first_number : {k n : ℕ} → k < n → 1 ≤ n
      first_number l = omega arith

  size_of : (g t : ℕ) (c : Carried) → FormedPart p.members p.limit g t c → carried_size c ≡ length (p.members g)
  size_of g t (carried n body q) (i, (from, upto, l, top, below, size, inside, behind, lands)) = size

  pub order : Ordered X form
  order = record {
    first = messages_each (AtLeast p.members p.limit 0 0) (Formed p.members p.limit) (λ m a. a.1) _ first_after;
    opened = λ m f b. refl;
    ended = λ m o f. each_weaker (λ x a. later m.no x a) _ (each_by_kind (AtLeast p.members p.limit (suc m.no) m.no) _ (whole m o f));
    completed = λ g t c fs f e. completed_beyond g t c fs f;
    member = λ g t c f. f.0;
    size = λ g t c f. size_of g t c f;
    place = λ g i. refl;
  }
    where
      outcome_in : {k : ℕ} (o : Outcome) → 1 ≤ k → k < p.limit → FlowIn p.members p.limit (Some k) (after_outcome o)
      outcome_in (Success n) l h = (l, h)
      outcome_in (Failure f) l h = tt

      whole : (m : Message) (o : Outcome) → Formed p.members p.limit m
          → Each (AtLeast p.members p.limit (suc m.no) m.no) (called m.links m.errbacks m.no o ++ enter m.rest (after_outcome o) m.place m.no (Some m.no))
      whole m o (a, b, c, one, top, i, j, r, q, s) =
          let x = tasks_span m.links (suc m.no) a i in
          let y = tasks_span m.errbacks a b j in
          let z = line_span p.members m.rest b c r in
          each_append (AtLeast p.members p.limit (suc m.no) m.no) (called m.links m.errbacks m.no o) _ (called_after m o a b one.0 (omega arith) i j)
          (enter_after p.members p.limit m.rest (after_outcome o) m.place m.no (Some m.no) true (suc m.no) m.no b c (omega arith) (omega arith) (λ e. le_refl _)
          (omega arith) top (one.0, omega arith) (outcome_in o one.0 (omega arith)) r q s)

  -- each task has one outcome and one message
  pub one_outcome : (t : ℕ) (o q : Outcome) → Has X Does t o → Has X Does t q → o ≡ q
  one_outcome t o q a b =
      let same : ◌≡◌ {A = Event × AJob} (a.0, store t o) (b.0, store t q) =
      rises_unique (item_key false) 1 (evaluated behaviour p.line) p.limit
      (items_rise behaviour p.members false p.line (run no_input) nowhere 0 start 1 p.limit p.numbered) (a.0, store t o)
      (b.0, store t q) t a.1 b.1 refl refl in
      let jobs : ◌≡◌ {A = AJob} (store t o) (store t q) = ap (λ x. x.1) same in
      cc

  pub completed_does : (g t : ℕ) (c : Carried) (fs : List (ℕ × Outcome)) → IsReturned X Does g t c → firsts fs ≡ p.members g → Each (λ f. Has X Does f.0 f.1) fs
      → Each (Does (completion g)) (body_after c fs)
  completed_does g t c fs (v, i) same has =
      ⊎_elim (λ e. absurd (no_place e))
      (λ k. subst (λ es. AllIn (completion g) (evaluated behaviour p.line) (body_after c es))
      (same_pairs (Has X Does) one_outcome k.0 fs (k.1 ∙ sym same) k.2 has) k.3)
      (items_parted behaviour p.members p.line (run no_input) nowhere 0 start 1 p.limit p.numbered v g t c i)
    where
      no_place : nowhere ≡ in_chord g c → ⊥
      no_place e = cc

  pub value : Evaluates X Does form
  value = record {
    first = messages_each (λ j. In (start, j) (evaluated behaviour p.line)) (λ m. Does start (publish m)) (λ m i. i) _
        (enter_in behaviour p.line (run no_input) nowhere 0 start);
    own = λ m r. (items_followed behaviour p.line (run no_input) nowhere 0 start r.0 m r.1).0;
    ended = λ m f r. (items_followed behaviour p.line (run no_input) nowhere 0 start r.0 m r.1).1;
    completed = λ g t c fs f r e all. completed_does g t c fs r e all;
  }

  publishes_sends : (k : ℕ) (x : AJob) → publishes X k x ≡ sends k x
  publishes_sends k (store t o) = refl
  publishes_sends k (publish m) = refl
  publishes_sends k (part g t c) = refl

  first_sends : (k : ℕ) (js : Jobs) → total (names X k) (messages_of js) ≡ total (sends k) js
  first_sends k [] = refl
  first_sends k (store t o ∷ js) = let r = first_sends k js in omega arith
  first_sends k (publish m ∷ js) = ap (λ n. cond (eqb m.no k) 1 0 + n) (first_sends k js)
  first_sends k (part g t c ∷ js) = let r = first_sends k js in omega arith

  kinds_once : (k low high : ℕ) (js : Jobs) → Rises (job_key true) low js high → total (publishes X k) (by_kind js) ≤ 1
  kinds_once k low high js r =
      let same = total-same (publishes X k) (sends k) (publishes_sends k) (by_kind js) in
      let kinds = by_kind_sends k js in
      omega (arith, (rising_once k low high js r).0)

  pub once : Once X Does form
  once = record {
    event = λ e f m n i j same. ap (λ x. x.0) (rises_unique (item_key true) 1 (evaluated behaviour p.line) p.limit
        (items_rise behaviour p.members true p.line (run no_input) nowhere 0 start 1 p.limit p.numbered) (e, publish m) (f, publish n) m.no i j refl
        (ap Some (sym same)));
    message = λ e f m n i j same. same_message m n (ap (λ x. x.1) (rises_unique (item_key true) 1 (evaluated behaviour p.line) p.limit
        (items_rise behaviour p.members true p.line (run no_input) nowhere 0 start 1 p.limit p.numbered) (e, publish m) (f, publish n) m.no i j refl
        (ap Some (sym same))));
    at_start = λ k. subst (λ n. n ≤ 1) (sym (first_sends k (enter p.line (run no_input) nowhere 0 None)))
        (rising_once k 1 p.limit (enter p.line (run no_input) nowhere 0 None)
        (enter_rises p.members true p.line (run no_input) nowhere 0 None 1 p.limit p.numbered)).0;
    at_end = λ k m f. ended_once k m f;
    at_completion = λ k g t c fs f same. completed_once k g t c fs f;
  }
    where
      same_message : (m n : Message) → ◌≡◌ {A = AJob} (publish m) (publish n) → m ≡ n
      same_message m n e = cc

      ended_once : (k : ℕ) (m : Message) → Formed p.members p.limit m → total (publishes X k) (after m (outcome_of behaviour m)) ≤ 1
      ended_once k m (a, b, c, one, top, i, j, r, q, s) =
          kinds_once k (suc m.no) c
          (called m.links m.errbacks m.no (outcome_of behaviour m) ++ enter m.rest (after_outcome (outcome_of behaviour m)) m.place m.no (Some m.no))
          (rises_append (job_key true) (suc m.no) b c (called m.links m.errbacks m.no (outcome_of behaviour m)) _
          (called_rises p.members true m (outcome_of behaviour m) a b i j)
          (enter_rises p.members true m.rest (after_outcome (outcome_of behaviour m)) m.place m.no (Some m.no) b c r))

      completed_once : (k g t : ℕ) (c : Carried) (fs : List (ℕ × Outcome)) → FormedPart p.members p.limit g t c → total (publishes X k) (body_after c fs) ≤ 1
      completed_once k g t (carried n body q) fs (i, (from, upto, l, top, below, size, inside, behind, lands)) =
          kinds_once k from upto (enter body (header fs) q 0 None) (enter_rises p.members true body (header fs) q 0 None from upto inside)

  keeps_same : (k : ℕ) (x : AJob) → keeps X k x ≡ keeps_of k x
  keeps_same k (store t o) = refl
  keeps_same k (publish m) = refl
  keeps_same k (part g t c) = refl

  kinds_kept_once : (k low high : ℕ) (js : Jobs) → Rises (job_key false) low js high → total (keeps X k) (by_kind js) ≤ 1
  kinds_kept_once k low high js r =
      let same = total-same (keeps X k) (keeps_of k) (keeps_same k) (by_kind js) in
      let kinds = by_kind_keeps k js in
      omega (arith, (storing_once k low high js r).0)

  pub keeping : KeptOnce X Does form
  keeping = record {
    event = λ e f t o q i j. ap (λ x. x.0) (rises_unique (item_key false) 1 (evaluated behaviour p.line) p.limit
        (items_rise behaviour p.members false p.line (run no_input) nowhere 0 start 1 p.limit p.numbered) (e, store t o) (f, store t q) t i j refl refl);
    at_end = λ k m f. ended_once k m f;
    at_completion = λ k g t c fs f same. completed_once k g t c fs f;
  }
    where
      ended_once : (k : ℕ) (m : Message) → Formed p.members p.limit m → total (keeps X k) (after m (outcome_of behaviour m)) ≤ 1
      ended_once k m (a, b, c, one, top, i, j, r, q, s) =
          kinds_kept_once k (suc m.no) c
          (called m.links m.errbacks m.no (outcome_of behaviour m) ++ enter m.rest (after_outcome (outcome_of behaviour m)) m.place m.no (Some m.no))
          (rises_append (job_key false) (suc m.no) b c (called m.links m.errbacks m.no (outcome_of behaviour m)) _
          (called_rises p.members false m (outcome_of behaviour m) a b i j)
          (enter_rises p.members false m.rest (after_outcome (outcome_of behaviour m)) m.place m.no (Some m.no) b c r))

      completed_once : (k g t : ℕ) (c : Carried) (fs : List (ℕ × Outcome)) → FormedPart p.members p.limit g t c → total (keeps X k) (body_after c fs) ≤ 1
      completed_once k g t (carried n body q) fs (i, (from, upto, l, top, below, size, inside, behind, lands)) =
          kinds_kept_once k from upto (enter body (header fs) q 0 None) (enter_rises p.members false body (header fs) q 0 None from upto inside)
