-- A backend lets a worker's seat do all that the worker has left to do.
use Rattle.std.proofs.Common.{⊎_elim, ◌≡◌, ◌≤◌, ◌<◌, ◌+◌, ◌∙◌, ℕ, suc, Bool, true, false, cond, eqb, List, [], ◌∷◌, ◌++◌, map, length, length-append, slice_get, Option, Some, None, is_some, refl, sym, ap, subst, inl, inr, arith}
use Rattle.std.specs.Prelude.{IsTrue, ◌==◌, not, if◌then◌else◌}
use Rattle.std.proofs.lemmas.Bool.{eqb-true, eqb-false, leb-true, and_parts}
use Rattle.std.proofs.lemmas.Option.{slice_get_within, get_or_from_slice_get}
use Rattle.canvas_task.specs.Apply.{Behaviour}
use Rattle.canvas_task.specs.declared.outcome.Outcome.{Outcome}
use Rattle.canvas_history.specs.History.{calls}
use Rattle.canvas_semantics.specs.Line.{Line, GroupEntry, entry_at, entry_members, entry_size}
use Rattle.canvas_rewrite.specs.FrozenView.{PCarried}
use Rattle.canvas_rewrite.specs.Planned.{IsPlan}
use Rattle.canvas_rewrite.proofs.Members.{all_known}
use Rattle.canvas_envelope.specs.Content.{Content, number_of}
use Rattle.canvas_effects.specs.Effects.{after, body_after, script}
use Rattle.canvas_effects.specs.Job.{store, publish, part}
use Rattle.canvas_envelope.specs.declared.envelope.Envelope.{Envelope}
use Rattle.canvas_history.specs.declared.stored.Stored.{Stored}
use Rattle.canvas_history.specs.declared.stored.Stored.TheVariants.{First, Again}
use Rattle.canvas_history.specs.Table as table
use Rattle.canvas_history.specs.Table.{TableCall, TableReply, IsCall, MayReturn}
use Rattle.canvas_history.specs.Roster.{Roster, roster_of, members, is_chord, is_member}
use Rattle.canvas_history.proofs.TableLaws.{first_may, still_may}
use Rattle.canvas_runs.specs.Book.{book_on, has_size, line_known, message_known}
use Rattle.canvas_runs.specs.Calls.{backend_call}
use Rattle.canvas_runs.specs.Core.{from_queue, from_table, rested, taking, resting, over, failed, owning, doing, reading, is_due, settled, opens, reads_next, answered, acking, acked}
use Rattle.canvas_runs.specs.Following.{Seat, Serves}
use Rattle.canvas_runs.specs.Worker.{opened}
use Rattle.canvas_runs.proofs.Runs.MoreAsks.{reads_cases}
use Rattle.canvas_core.specs.Asks.{Answer}
use Rattle.canvas_core.specs.EnvelopeWorker.{said, enclosed, enveloped, applied_if as kept_envelope, no_tasks}
use Rattle.canvas_core.specs.Scripts.{EnvelopeJobs}
use Rattle.canvas_core.specs.SeatRights.{Carries, InBook, MayReturnDue, Can, LetsAsk, CanAsk, CanGoOn}
use Rattle.canvas_core.specs.CoreState.{Left, asked}
use Rattle.canvas_core.proofs.Books.KnownJobs.{StoredIn, Behind, own_known, ended_jobs, body_jobs, ended_known, body_known}
use Rattle.canvas_core.proofs.Books.KnownScripts.{script_known, script_may}
use Rattle.canvas_core.proofs.Books.Opening.{opened_as}
use Rattle.canvas_core.proofs.Books.Sendable.{said_of}

module _ (plan : Roster) where
  -- ---- where the seat has made a call

  -- what it may return it still may
  abbrev Keeps : Seat → Seat → Type 0
  Keeps s t = (d : ℕ) → MayReturn plan s.seen s.name d → MayReturn plan t.seen t.name d

  still_in : (s t : Seat) (b : Stored) (js : EnvelopeJobs) → Keeps s t → MayReturnDue plan s b js → MayReturnDue plan t b js
  still_in s t b [] k h = tt
  still_in s t b (store d o ∷ js) k h = λ n. still_in s t b js k (h n)
  still_in s t b (publish e ∷ js) k h = still_in s t b js k h
  still_in s t b (part g d c ∷ js) k h = λ e. k d (h e)

  -- the store of the task whose part is due
  due_in : (s : Seat) (d : ℕ) (b : Stored) (js : EnvelopeJobs) → is_due d js ≡ true → (b ≡ First → MayReturn plan s.seen s.name d) → MayReturnDue plan s b js
  due_in s d b [] e m = tt
  due_in s d b (store u o ∷ js) e m = λ n. due_in s d b js e m
  due_in s d b (publish x ∷ js) e m = due_in s d b js e m
  due_in s d b (part g u c ∷ js) e m = subst (λ z. b ≡ First → MayReturn plan s.seen s.name z) (eqb-true d u e) m

  store_in : (s t : Seat) (d : ℕ) (a b : Stored) (js : EnvelopeJobs) → Keeps s t → (a ≡ First → MayReturn plan t.seen t.name d)
      → (is_due d js ≡ false → MayReturnDue plan s b js) → MayReturnDue plan t (cond (is_due d js) a b) js
  store_in s t d a b js k m h = go (is_due d js) refl
    where
      go : (z : Bool) → is_due d js ≡ z → MayReturnDue plan t (cond z a b) js
      go true e = due_in t d a js e m
      go false e = still_in s t b js k (h e)

  settled_can : (behaviour : Behaviour) (s : Seat) (b : Stored) (js : EnvelopeJobs) → InBook (book_on plan) js → MayReturnDue plan s b js
      → Can plan s (settled (enveloped behaviour plan) js b)
  settled_can behaviour s b [] i m = tt
  settled_can behaviour s First (store t o ∷ js) i m = (i, m, tt)
  settled_can behaviour s Again (store t o ∷ js) i m = (i, m, tt)
  settled_can behaviour s First (publish e ∷ js) i m = (i, m, tt)
  settled_can behaviour s Again (publish e ∷ js) i m = (i, m, tt)
  settled_can behaviour s First (part g t c ∷ js) i m = (i, m, refl)
  settled_can behaviour s Again (part g t c ∷ js) i m = tt

  -- the one call of a seat
  served : (s t : Seat) (c : table.TableCall) (r : table.TableReply) → IsCall plan s.name s.seen t.seen (calls s.name c r) → t.name ≡ s.name
      → ((g d : ℕ) → c ≡ table.part g d → ⊥) → Keeps s t
  served s t c r call name other d m = subst (λ n. MayReturn plan t.seen n d) (sym name) (still_may plan s.name d c r s.seen t.seen (λ g. other g d) m call)

  first_of : (s t : Seat) (d : ℕ) (o : Outcome) (a : Stored) → IsCall plan s.name s.seen t.seen (calls s.name (table.store d o) (table.was a))
      → t.name ≡ s.name → a ≡ First → MayReturn plan t.seen t.name d
  first_of s t d o First call name e = subst (λ n. MayReturn plan t.seen n d) (sym name) (first_may plan s.name d o s.seen t.seen call)
  first_of s t d o Again call name e = absurd cc

  -- ---- messages

  opened_can : (behaviour : Behaviour) (s : Seat) (e : Envelope) (o : Option Content) → opened (book_on plan) e ≡ o
      → Can plan s (opens (enveloped behaviour plan) (kept_envelope behaviour o e))
  opened_can behaviour s e None is = tt
  opened_can behaviour s e (Some c) is = is ∙ ap Some (sym (said_of e c (opened_as (book_on plan) e c is).0))

  -- ---- chords

  chord_size : (t : Option GroupEntry) (n : ℕ) → has_size n (entry_size t) ≡ true → IsTrue (is_some (entry_size t)) × (length (entry_members t) ≡ n)
  chord_size None n h = absurd cc
  chord_size (Some t) n h = go t.chord h
    where
      go : (b : Bool) → has_size n (if b then Some (length t.members) else None) ≡ true → IsTrue (is_some (if b then Some (length t.members) else None))
          × (length t.members ≡ n)
      go true e = (refl, eqb-true (length t.members) n e)
      go false e = absurd cc

  carried_size : (g : ℕ) (c : PCarried) → Carries (book_on plan) g c → IsTrue (is_chord plan g) × (length (members plan g) ≡ c.size)
  carried_size g c h = chord_size (entry_at plan.groups g) c.size h.0

  -- the next member is read
  next_can : (behaviour : Behaviour) (s : Seat) (g : ℕ) (c : PCarried) (fs : List (ℕ × Outcome)) → Carries (book_on plan) g c → length fs < c.size
      → Can plan s (reads_next (enveloped behaviour plan) g c fs)
  next_can behaviour s g c fs h low = reads_cases (enveloped behaviour plan) (Can plan s) g c fs (λ e. tt) (λ t e. (h, low, e))

  -- where a part may be the last of its header
  handed_can : (behaviour : Behaviour) (s : Seat) (g : ℕ) (c : PCarried) (n : ℕ) → Carries (book_on plan) g c
      → Can plan s (cond (eqb (suc n) c.size) (reads_next (enveloped behaviour plan) g c []) acking)
  handed_can behaviour s g c n h = go (eqb (suc n) c.size) refl
    where
      go : (z : Bool) → eqb (suc n) c.size ≡ z → Can plan s (cond z (reads_next (enveloped behaviour plan) g c []) acking)
      go true e = next_can behaviour s g c [] h (let full : suc n ≡ c.size = eqb-true (suc n) c.size e in omega (arith, full))
      go false e = tt

module _ (behaviour : Behaviour) (l : Line) (is_plan : IsPlan l) where
  abbrev plan : Roster
  plan = roster_of l

  none : (g : ℕ) → (book_on plan).is_member g 0 ≡ false
  none g = refl

  ended_can : (s : Seat) (c : Content) (o : Outcome) → message_known (book_on plan) c ≡ true → MayReturn plan s.seen s.name (number_of c.own)
      → Can plan s (settled (enveloped behaviour plan) (map enclosed (script (after c o))) First)
  ended_can s c o h m =
      let k : ℕ = number_of c.own in
      let js = ended_jobs c o in
      let known = ended_known (book_on plan) none c o h in
      settled_can plan behaviour s First (map enclosed (script (after c o))) (script_known (book_on plan) (Behind k js) js known)
      (script_may plan s First (Behind k js) js (λ d q. ⊎_elim (λ e. inr (λ t. subst (λ z. MayReturn plan s.seen s.name z) (sym e) m)) (λ y. inl y) q) known)

  completed_can : (s : Seat) (c : PCarried) (es : List (ℕ × Outcome)) → line_known (book_on plan) c.body ≡ true
      → Can plan s (settled (enveloped behaviour plan) (map enclosed (script (body_after c es))) Again)
  completed_can s c es h =
      let js = body_jobs c es in
      let known = body_known (book_on plan) none c es h in
      settled_can plan behaviour s Again (map enclosed (script (body_after c es))) (script_known (book_on plan) (StoredIn js) js known)
      (script_may plan s Again (StoredIn js) js (λ d q. inl q) known)

  member_there : (g i t : ℕ) → slice_get (members plan g) i ≡ Some t → t ≤ plan.tasks
  member_there g i t e =
      subst (λ k. k ≤ plan.tasks) (get_or_from_slice_get (members plan g) i t t e) (all_known l is_plan g i t (slice_get_within (members plan g) i t e))

  -- ---- asks

  in_plan : (t : ℕ) → IsTrue ((book_on plan).knows t) → t ≤ plan.tasks
  in_plan t h = leb-true t plan.tasks h

  asks : (s : Seat) (left : Left) → Can plan s left → LetsAsk plan s (asked left)
  asks s taking c = tt
  asks s resting c = tt
  asks s over c = tt
  asks s failed c = tt
  asks s acking c = tt
  asks s (owning m) c =
      in_plan (number_of (said m.envelope).own)
      (own_known (book_on plan) (said m.envelope) (opened_as (book_on plan) m.envelope (said m.envelope) c).1)
  asks s (doing [] b) c = tt
  asks s (doing (store t o ∷ js) b) c = in_plan t c.0.0
  asks s (doing (publish e ∷ js) b) c = tt
  asks s (doing (part g t h ∷ js) b) c = ((carried_size plan g h c.0.1).0, (and_parts (not (t == 0)) (is_member plan g t) c.0.0).1, c.1 c.2)
  asks s (reading g h t fs) c = member_there g (length fs) t c.2

  -- ---- answers

  goes_on : (s t : Seat) (left : Left) (r : Answer) → Can plan s left → Serves plan s (backend_call (asked left) r) t
      → Can plan t (answered (enveloped behaviour plan) left r)
  goes_on s t taking (from_queue None) c call = tt
  goes_on s t taking (from_queue (Some e)) c call = opened_can plan behaviour t e (opened (book_on plan) e) refl
  goes_on s t resting (rested true) c call = tt
  goes_on s t resting (rested false) c call = tt
  goes_on s t (owning m) (from_table (table.was First)) c (u, stands, same) =
      ended_can t (said m.envelope) m.outcome (opened_as (book_on plan) m.envelope (said m.envelope) c).1
      (subst (λ v. MayReturn plan v.seen v.name (number_of (said m.envelope).own)) (sym same)
      (first_of plan s u (number_of (said m.envelope).own) m.outcome First stands.4 stands.1 refl))
  goes_on s t (owning m) (from_table (table.was Again)) c call = tt
  goes_on s t (doing (store d o ∷ js) b) (from_table (table.was a)) c (u, stands, same) =
      subst (λ v. Can plan v (settled (enveloped behaviour plan) js (cond (is_due d js) a b))) (sym same)
      (settled_can plan behaviour u (cond (is_due d js) a b) js c.0.1
      (store_in plan s u d a b js (served plan s u (table.store d o) (table.was a) stands.4 stands.1 (λ g k e. absurd cc))
      (first_of plan s u d o a stands.4 stands.1) c.1))
  goes_on s t (doing (publish e ∷ js) b) (from_queue None) c same =
      subst (λ v. Can plan v (settled (enveloped behaviour plan) js b)) (sym same) (settled_can plan behaviour s b js c.0 c.1)
  goes_on s t (doing (part g d h ∷ js) b) (from_table (table.count n)) c call = handed_can plan behaviour t g h n c.0.1
  goes_on s t (reading g h d fs) (from_table (table.found (Some o))) c call = go (eqb (length (fs ++ (d, o) ∷ [])) h.size) refl
    where
      go : (z : Bool) → eqb (length (fs ++ (d, o) ∷ [])) h.size ≡ z
          → Can plan t (cond z (settled (enveloped behaviour plan) (map enclosed (script (body_after h (fs ++ (d, o) ∷ [])))) Again)
          (reads_next (enveloped behaviour plan) g h (fs ++ (d, o) ∷ [])))
      go true e = completed_can t h (fs ++ (d, o) ∷ []) c.0.1
      go false e =
          next_can plan behaviour t g h (fs ++ (d, o) ∷ []) c.0
          (let more : length (fs ++ (d, o) ∷ []) ≡ length fs + 1 = length-append fs ((d, o) ∷ []) in
          let apart = eqb-false (length (fs ++ (d, o) ∷ [])) h.size e in let before = c.1 in omega (arith, more, apart, before))
  goes_on s t (reading g h d fs) (from_table (table.found None)) c call = tt
  goes_on s t acking acked c call = tt
  goes_on s t left r c call = tt

pub can_ask : CanAsk
can_ask l is_plan s left c = asks no_tasks l is_plan s left c

pub can_go_on : CanGoOn
can_go_on behaviour l is_plan s t left r c suits call = goes_on behaviour l is_plan s t left r c call
