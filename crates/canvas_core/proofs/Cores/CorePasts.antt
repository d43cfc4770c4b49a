-- One ask and answer more, as a core takes them.
use Rattle.std.proofs.Common.{◌≡◌, ◌∙◌, ℕ, ◌+◌, min, Bool, true, false, List, [], ◌∷◌, ◌++◌, None, refl, sym, ap, subst, arith, Option, eqb, suc, length, cond, Some}
use Rattle.std.specs.Prelude.{if◌then◌else◌, is_some}
use Rattle.std.proofs.lemmas.Bool.{false≢true}
use Rattle.canvas_task.specs.Apply.{Behaviour}
use Rattle.canvas_task.specs.declared.outcome.Outcome.{Outcome}
use Rattle.canvas_rewrite.specs.FrozenView.{PCarried}
use Rattle.canvas_envelope.specs.declared.envelope.Envelope.{Envelope}
use Rattle.canvas_envelope.specs.Content.{Content}
use Rattle.canvas_history.specs.declared.stored.Stored.{Stored}
use Rattle.canvas_history.specs.declared.stored.Stored.TheVariants.{First, Again}
use Rattle.canvas_runs.specs.Worker.{opened}
use Rattle.canvas_runs.proofs.Runs.MoreAsks.{held_append, reads_cases}
use Rattle.canvas_runs.specs.Calls.{held_by, held_after}
use Rattle.canvas_effects.specs.Job.{store, publish, part}
use Rattle.canvas_runs.specs.Book.{Book}
use Rattle.canvas_history.specs.Table as table
use Rattle.canvas_runs.specs.Core.{taking, resting, owning, doing, reading, from_queue, refused, from_table, rested, answered, left_after, Suits, ReadsBack, IsCoreRun, acking, acked, settled, opens, reads_next, Jobs, is_due, is_inside}
use Rattle.canvas_core.specs.Asks.{Asked, Answer, suits, replied, FoundOf}
use Rattle.canvas_core.specs.Books.{HasMembers, no_book}
use Rattle.canvas_core.specs.Asks as asks
use Rattle.canvas_core.specs.EnvelopeWorker.{enveloped_with, enveloped_by, by_place, applied_if}
use Rattle.canvas_core.specs.CorePast.{left_by, drops_from, task_in, NoneLead, OneMoreLeads, HandedLeads, HandsOut}
use Rattle.canvas_runs.specs.Tally.{greatest_count}
use Rattle.canvas_core.specs.CoreState.{Left, located, placed, asked, next_in, taught, left_told, drops, unsent, open_of, kept_next, kept_taken, task_next}
use Rattle.canvas_core.specs.declared.ask.Reply.{Reply}
use Rattle.canvas_core.specs.declared.ask.Reply.TheVariants as R
use Rattle.canvas_core.proofs.Cores.Sound.{Sound, run_sound}
use Rattle.canvas_core.proofs.Cores.Located.{located_same, located_twice, unsent_located, located_sound, told_placed, told_located}

-- a reply that suits by kind is one that the machine's ask admits
pub suited : (s : Left) (x : Option ℕ) (r : Reply) → suits (next_in s x) r ≡ true → Suits (asked s) (replied r)
suited taking n (R.Taken x) h = tt
suited (doing (publish e ∷ js) b) n R.Published h = tt
suited (doing (publish e ∷ js) b) n (R.NotPublished f) h = tt
suited (owning m) n (R.Stored a) h = tt
suited (doing (store t o ∷ js) b) n (R.Stored a) h = tt
suited (doing (part g t c ∷ js) b) n (R.Counted m) h = tt
suited (reading g c t fs) n (R.Found u x) h = tt
suited resting n (R.Rested more) h = tt
suited acking n R.Acked h = tt
suited s n r h = absurd cc

-- ---- an envelope that was handed out

unsent_next : (x : Option ℕ) (s : Left) → next_in (unsent s) x ≡ next_in s x
unsent_next n (doing (publish e ∷ js) b) = refl
unsent_next n s = refl

unsent_answered : (behaviour : Behaviour) (book : Book) (member : ℕ → ℕ → Option ℕ) (s : Left) (r : Answer)
    → answered (enveloped_with behaviour book member) (unsent s) r ≡ answered (enveloped_with behaviour book member) s r
unsent_answered behaviour book member (doing (publish e ∷ js) b) (from_queue None) = refl
unsent_answered behaviour book member (doing (publish e ∷ js) b) r = refl
unsent_answered behaviour book member s r = refl

unsent_taught : (s : Left) (r : Reply) → taught (unsent s) r ≡ unsent (taught s r)
unsent_taught (doing (publish e ∷ js) b) r = refl
unsent_taught (reading g c t fs) (R.Found u x) = refl
unsent_taught s r = refl

pub unsent_told : (behaviour : Behaviour) (book : Book) (s : Left) (r : Reply) → left_told behaviour book (unsent s) r ≡ left_told behaviour book s r
unsent_told behaviour book s r =
    ap (λ u. answered (by_place behaviour book) u (replied r)) (unsent_taught s r) ∙ unsent_answered behaviour book (λ g i. Some 0) (taught s r) (replied r)

unsent_sound : (book : Book) (s : Left) → Sound book s → Sound book (unsent s)
unsent_sound book (doing (publish e ∷ js) b) h = h
unsent_sound book s h = h

pub unsent_drops : (book : Book) (s : Left) (r : Answer) → drops book (unsent s) r ≡ drops book s r
unsent_drops book taking r = refl
unsent_drops book (doing (publish e ∷ js) b) r = refl
unsent_drops book s r = refl

unsent_twice : (s : Left) → unsent (unsent s) ≡ unsent s
unsent_twice (doing (publish e ∷ js) b) = refl
unsent_twice s = refl

-- where nothing is published there is nothing to hand out
unsent_same : (s : Left) → is_some (asks.to_send (asked s)) ≡ false → unsent s ≡ s
unsent_same (doing (publish e ∷ js) b) h = absurd cc
unsent_same s h = refl

still_same : (s : Left) → is_some (asks.to_send (asked (unsent s))) ≡ false → unsent s ≡ s
still_same (doing (publish e ∷ js) b) h = absurd cc
still_same s h = refl

-- ---- one more

pub left_one_more : (behaviour : Behaviour) (book : Book) (s : Left) (xs : List (Asked × Answer)) (x : Asked × Answer)
    → left_after (enveloped_by behaviour book) s (xs ++ x ∷ []) ≡ answered (enveloped_by behaviour book) (left_after (enveloped_by behaviour book) s xs) x.1
left_one_more behaviour book s [] x = refl
left_one_more behaviour book s (y ∷ xs) x = left_one_more behaviour book (answered (enveloped_by behaviour book) s y.1) xs x

drops_one_more : (behaviour : Behaviour) (book : Book) (s : Left) (xs : List (Asked × Answer)) (x : Asked × Answer)
    → drops_from behaviour book s (xs ++ x ∷ []) ≡ drops_from behaviour book s xs + drops book (left_after (enveloped_by behaviour book) s xs) x.1
drops_one_more behaviour book s [] x = omega arith
drops_one_more behaviour book s (y ∷ xs) x = let more = drops_one_more behaviour book (answered (enveloped_by behaviour book) s y.1) xs x in omega (arith, more)

run_one_more : (behaviour : Behaviour) (book : Book) (s : Left) (xs : List (Asked × Answer)) (x : Asked × Answer) → IsCoreRun (enveloped_by behaviour book) s xs
    → x.0 ≡ asked (left_after (enveloped_by behaviour book) s xs)
    → Suits x.0 x.1 → ReadsBack (enveloped_by behaviour book) (left_after (enveloped_by behaviour book) s xs)
    → IsCoreRun (enveloped_by behaviour book) s (xs ++ x ∷ [])
run_one_more behaviour book s [] x run is suit back = (is, (suit, back), tt)
run_one_more behaviour book s (y ∷ xs) x run is suit back =
    (run.0, run.1, run_one_more behaviour book (answered (enveloped_by behaviour book) s y.1) xs x run.2 is suit back)

-- what a core has left by whether its envelope was handed out
abbrev standing : Left → Bool → Left
standing s out = if out then unsent s else s

next_so : (x : Option ℕ) (s : Left) (out : Bool) → next_in (standing s out) x ≡ next_in s x
next_so n s true = unsent_next n s
next_so n s false = refl

sound_so : (book : Book) (s : Left) (out : Bool) → Sound book s → Sound book (standing s out)
sound_so book s true h = unsent_sound book s h
sound_so book s false h = h

-- with its members' tasks again
located_so : (book : Book) (s : Left) (out : Bool) → Sound book s → located book (standing (placed s) out) ≡ standing s out
located_so book s true h = sym (unsent_located book (placed s)) ∙ ap unsent (located_twice book no_book s ∙ located_sound book s h)
located_so book s false h = located_twice book no_book s ∙ located_sound book s h

answered_so : (behaviour : Behaviour) (book : Book) (s : Left) (out : Bool) (r : Answer)
    → answered (enveloped_by behaviour book) (standing s out) r ≡ answered (enveloped_by behaviour book) s r
answered_so behaviour book s true r = unsent_answered behaviour book book.member s r
answered_so behaviour book s false r = refl

drops_so : (book : Book) (s : Left) (out : Bool) (r : Answer) → drops book (standing s out) r ≡ drops book s r
drops_so book s true r = unsent_drops book s r
drops_so book s false r = refl

by_unsent : (h : Option Envelope) (s : Left) (r : Answer) → held_by h (asked (unsent s)) r ≡ held_by h (asked s) r
by_unsent h (doing (publish e ∷ js) b) r = refl
by_unsent h s r = refl

by_standing : (h : Option Envelope) (s : Left) (out : Bool) (r : Answer) → held_by h (asked (standing s out)) r ≡ held_by h (asked s) r
by_standing h s true r = by_unsent h s r
by_standing h s false r = refl

open_unsent : (s : Left) (h : Option Envelope) → open_of (unsent s) h ≡ open_of s h
open_unsent (doing (publish e ∷ js) b) h = refl
open_unsent s h = refl

open_settled : (behaviour : Behaviour) (book : Book) (js : Jobs (enveloped_by behaviour book)) (b : Stored) (h : Option Envelope)
    → open_of (settled (enveloped_by behaviour book) js b) h ≡ h
open_settled behaviour book [] b h = refl
open_settled behaviour book (store t o ∷ js) First h = refl
open_settled behaviour book (store t o ∷ js) Again h = refl
open_settled behaviour book (publish e ∷ js) First h = refl
open_settled behaviour book (publish e ∷ js) Again h = refl
open_settled behaviour book (part g t c ∷ js) First h = refl
open_settled behaviour book (part g t c ∷ js) Again h = refl

open_next : (behaviour : Behaviour) (book : Book) (g : ℕ) (c : PCarried) (fs : List (ℕ × Outcome)) (h : Option Envelope)
    → open_of (reads_next (enveloped_by behaviour book) g c fs) h ≡ h
open_next behaviour book g c fs h = reads_cases (enveloped_by behaviour book) (λ s. open_of s h ≡ h) g c fs (λ e. refl) (λ t e. refl)

open_either : (b : Bool) (s t : Left) (h : Option Envelope) → open_of s h ≡ h → open_of t h ≡ h → open_of (cond b s t) h ≡ h
open_either true s t h i j = i
open_either false s t h i j = j

-- the envelope that it holds is the one that its asks and answers show
pub book_step : (behaviour : Behaviour) (book : Book) (s : Left) (h : Option Envelope) (r : Answer) → Suits (asked s) r
    → open_of (answered (enveloped_by behaviour book) s r) (kept_next book s h r) ≡ held_by (open_of s h) (asked s) r
book_step behaviour book taking h (from_queue None) u = refl
book_step behaviour book taking h (from_queue (Some e)) u = go (opened book e)
  where
    go : (x : Option Content) → open_of (opens (enveloped_by behaviour book) (applied_if behaviour x e)) (kept_taken x e h) ≡ Some e
    go None = refl
    go (Some c) = refl
book_step behaviour book resting h (rested true) u = refl
book_step behaviour book resting h (rested false) u = refl
book_step behaviour book (owning m) h (from_table (table.was First)) u =
    open_settled behaviour book ((enveloped_by behaviour book).ended m ((enveloped_by behaviour book).outcome m)) First (Some m.envelope)
book_step behaviour book (owning m) h (from_table (table.was Again)) u = refl
book_step behaviour book (doing (store t o ∷ js) b) h (from_table (table.was a)) u = open_settled behaviour book js (cond (is_due t js) a b) h
book_step behaviour book (doing (publish e ∷ js) b) h (from_queue None) u = open_settled behaviour book js b h
book_step behaviour book (doing (publish e ∷ js) b) h refused u = refl
book_step behaviour book (doing (part g t c ∷ js) b) h (from_table (table.count n)) u =
    open_either (eqb (suc n) c.size) (reads_next (enveloped_by behaviour book) g c []) acking h (open_next behaviour book g c [] h) refl
book_step behaviour book (reading g c t fs) h (from_table (table.found (Some o))) u =
    open_either (eqb (length (fs ++ (t, o) ∷ [])) c.size)
    (settled (enveloped_by behaviour book) ((enveloped_by behaviour book).completed c (fs ++ (t, o) ∷ [])) Again)
    (reads_next (enveloped_by behaviour book) g c (fs ++ (t, o) ∷ [])) h
    (open_settled behaviour book ((enveloped_by behaviour book).completed c (fs ++ (t, o) ∷ [])) Again h) (open_next behaviour book g c (fs ++ (t, o) ∷ []) h)
book_step behaviour book (reading g c t fs) h (from_table (table.found None)) u = refl
book_step behaviour book acking h acked u = refl
book_step behaviour book s h r u = elim u [ ]

-- inside a script the task that it names is that of the envelope's message
pub task_step : (behaviour : Behaviour) (book : Book) (s : Left) (h : Option Envelope) (x : Option ℕ) (r : Answer) → Suits (asked s) r
    → (is_inside s ≡ true → x ≡ task_in book (open_of s h))
    → is_inside (answered (enveloped_by behaviour book) s r) ≡ true → task_next book s x r ≡ task_in book (held_by (open_of s h) (asked s) r)
task_step behaviour book taking h x (from_queue None) u was i = absurd (false≢true i)
task_step behaviour book taking h x (from_queue (Some e)) u was i = refl
task_step behaviour book resting h x (rested true) u was i = absurd (false≢true i)
task_step behaviour book resting h x (rested false) u was i = absurd (false≢true i)
task_step behaviour book (owning m) h x (from_table (table.was b)) u was i = was refl
task_step behaviour book (doing (store t o ∷ js) b) h x (from_table (table.was a)) u was i = was refl
task_step behaviour book (doing (publish e ∷ js) b) h x (from_queue None) u was i = was refl
task_step behaviour book (doing (publish e ∷ js) b) h x refused u was i = was refl
task_step behaviour book (doing (part g t c ∷ js) b) h x (from_table (table.count n)) u was i = was refl
task_step behaviour book (reading g c t fs) h x (from_table (table.found o)) u was i = was refl
task_step behaviour book acking h x acked u was i = absurd (false≢true i)
task_step behaviour book s h x r u was i = elim u [ ]

inside_unsent : (s : Left) → is_inside (unsent s) ≡ is_inside s
inside_unsent (doing (publish e ∷ js) b) = refl
inside_unsent s = refl

pub none_lead : NoneLead
none_lead behaviour book = record { run = tt; left = refl; dropped = refl; holds = refl; task = λ i. absurd (false≢true i) }

counts : (n m d : ℕ) → d ≡ min greatest_count n → min greatest_count (d + m) ≡ min greatest_count (n + m)
counts n m d is = omega (arith, is)

-- ---- a core that was told

module _ (behaviour : Behaviour) (book : Book) (members : HasMembers book) (s : Left) (h : Option Envelope) (x : Option ℕ) (r : Reply)
    (sound : Sound book (located book s)) (suit : Suits (asked (located book s)) (replied r)) (found : FoundOf book r (next_in s x)) where
  abbrev told : located book (left_told behaviour book s r) ≡ answered (enveloped_by behaviour book) (located book s) (replied r)
  told = told_located behaviour book members s x r sound found

  -- the envelope that it holds
  pub book_told : open_of (left_told behaviour book s r) (kept_next book s h (replied r)) ≡ held_by (open_of s h) (asked (located book s)) (replied r)
  book_told =
      sym (located_same (λ u. open_of u (kept_next book s h (replied r))) (λ g c t v fs. refl) book (left_told behaviour book s r))
      ∙ ap (λ u. open_of u (kept_next book s h (replied r))) told
      ∙ ap (λ k. open_of (answered (enveloped_by behaviour book) (located book s) (replied r)) k)
      (sym (located_same (λ u. kept_next book u h (replied r)) (λ g c t v fs. refl) book s))
      ∙ book_step behaviour book (located book s) h (replied r) suit
      ∙ ap (λ k. held_by k (asked (located book s)) (replied r)) (located_same (λ u. open_of u h) (λ g c t v fs. refl) book s)

  -- and the task of that one's message
  pub task_told : (is_inside s ≡ true → x ≡ task_in book (open_of s h)) → is_inside (left_told behaviour book s r) ≡ true
      → task_next book s x (replied r) ≡ task_in book (held_by (open_of s h) (asked (located book s)) (replied r))
  task_told was i =
      let opens : open_of (located book s) h ≡ open_of s h = located_same (λ u. open_of u h) (λ g c t v fs. refl) book s in
      sym (located_same (λ u. task_next book u x (replied r)) (λ g c t v fs. refl) book s)
      ∙ task_step behaviour book (located book s) h x (replied r) suit
      (λ j. was (sym (located_same is_inside (λ g c t v fs. refl) book s) ∙ j) ∙ ap (task_in book) (sym opens))
      (ap is_inside (sym told) ∙ (located_same is_inside (λ g c t v fs. refl) book (left_told behaviour book s r) ∙ i))
      ∙ ap (λ k. task_in book (held_by k (asked (located book s)) (replied r))) opens

pub one_more_leads : OneMoreLeads
one_more_leads behaviour book members from_one xs s r leads back suit found =
    let before : Left = left_by behaviour book xs in
    let x : Asked × Answer = (asked before, replied r) in
    let sound : Sound book before = run_sound behaviour book from_one taking xs tt in
    let same : s.left ≡ standing (placed before) s.is_out = leads.left in
    let again : located book s.left ≡ standing before s.is_out = ap (located book) same ∙ located_so book before s.is_out sound in
    let here : Sound book (located book s.left) = subst (Sound book) (sym again) (sound_so book before s.is_out sound) in
    let asks : next_in s.left s.task ≡ next_in before s.task =
    ap (λ u. next_in u s.task) same ∙ (next_so s.task (placed before) s.is_out
    ∙ located_same (λ u. next_in u s.task) (λ g c t v fs. refl) no_book before) in
    let fits : Suits (asked before) (replied r) = suited before s.task r (ap (λ a. suits a r) (sym asks) ∙ suit) in
    let fits_here : Suits (asked (located book s.left)) (replied r) =
    suited (located book s.left) s.task r (ap (λ a. suits a r) (located_same (λ u. next_in u s.task) (λ g c t v fs. refl) book s.left) ∙ suit) in
    let holds : open_of (left_told behaviour book s.left r) (kept_next book s.left s.kept (replied r))
    ≡ held_by (open_of s.left s.kept) (asked (located book s.left)) (replied r) =
    book_told behaviour book members s.left s.kept s.task r here fits_here found in
    record {
      run = run_one_more behaviour book taking xs x leads.run refl fits back;
      left =
          sym (told_placed behaviour book s.left r) ∙ sym (located_twice no_book book (left_told behaviour book s.left r))
          ∙ ap placed (told_located behaviour book members s.left s.task r here found
          ∙ ap (λ u. answered (enveloped_by behaviour book) u (replied r)) again ∙ answered_so behaviour book before s.is_out (replied r)
          ∙ sym (left_one_more behaviour book taking xs x));
      dropped =
          counts (drops_from behaviour book taking xs) (drops book s.left (replied r)) s.dropped leads.dropped
          ∙ ap (λ n. min greatest_count (drops_from behaviour book taking xs + n))
          (sym (located_same (λ u. drops book u (replied r)) (λ g c t v fs. refl) book s.left) ∙ ap (λ u. drops book u (replied r)) again
          ∙ drops_so book before s.is_out (replied r))
          ∙ ap (λ n. min greatest_count n) (sym (drops_one_more behaviour book taking xs x));
      holds =
          holds ∙ (ap (λ h. held_by h (asked (located book s.left)) (replied r)) leads.holds
          ∙ (ap (λ u. held_by (held_after None xs) (asked u) (replied r)) again
          ∙ (by_standing (held_after None xs) before s.is_out (replied r) ∙ sym (held_append None xs (x ∷ [])))));
      task = λ i.
          task_told behaviour book members s.left s.kept s.task r here fits_here found leads.task i
          ∙ ap (task_in book) (sym holds);
    }

-- ---- handed out

handed_by : (before left : Left) (out : Bool) → left ≡ standing before out → (b : Bool) → is_some (asks.to_send (asked left)) ≡ b
    → unsent left ≡ standing before b
handed_by before left true same true is = ap unsent same ∙ unsent_twice before
handed_by before left false same true is = ap unsent same
handed_by before left true same false is =
    unsent_same left is ∙ same ∙ still_same before (ap (λ u. is_some (asks.to_send (asked u))) (sym same) ∙ is)
handed_by before left false same false is = unsent_same left is ∙ same

pub handed_leads : HandedLeads
handed_leads behaviour book xs s leads =
    record {
      run = leads.run;
      left = handed_by (placed (left_by behaviour book xs)) s.left s.is_out leads.left
          (is_some (asks.to_send (asked s.left))) refl;
      dropped = leads.dropped;
      holds = open_unsent s.left s.kept ∙ leads.holds;
      task =
          λ i. leads.task (sym (inside_unsent s.left) ∙ i) ∙ ap (task_in book) (sym (open_unsent s.left s.kept));
    }

pub hands_out : HandsOut
hands_out behaviour book xs s leads held =
    ap (λ b. if b then None else asks.to_send (asked s.left)) held
    ∙ (ap (λ u. asks.to_send (asked u)) (leads.left ∙ ap (λ b. standing (placed (left_by behaviour book xs)) b) held)
    ∙ located_same (λ u. asks.to_send (asked u)) (λ g c t v fs. refl) no_book (left_by behaviour book xs))
