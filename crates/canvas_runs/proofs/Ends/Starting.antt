-- Each plan has a run that is under way, with its first messages published and any number of workers.
use Rattle.std.proofs.Common.{◌≡◌, ◌≢◌, ℕ, zero, suc, ◌≤◌, ◌<◌, Bool, true, false, cond, eqb, List, [], ◌∷◌, ◌++◌, map, Option, None, refl, sym, ap, ◌∙◌, subst, inl, inr, ⊎_elim, ne_eqb, append-nil, arith}
use Rattle.std.proofs.lemmas.Bool.{cases_eq, cases_lt, cases_Bool, false≢true}
use Rattle.canvas_task.specs.Apply.{Behaviour}
use Rattle.canvas_history.specs.Answers.{answered_calls, entries_by, splits_of}
use Rattle.canvas_history.specs.History.{Entry, calls, among, live, Legal, LegalFrom}
use Rattle.canvas_history.proofs.Calls.{live_push}
use Rattle.canvas_history.proofs.Histories.{In, in_left, in_right, in_append, in_here, in_later, in_cases, legal_append}
use Rattle.canvas_semantics.specs.Line.{Line}
use Rattle.canvas_rewrite.specs.FrozenView.{PCarried}
use Rattle.canvas_rewrite.specs.Planned.{IsPlan}
use Rattle.canvas_envelope.specs.Content.{Content}
use Rattle.canvas_envelope.specs.declared.envelope.Envelope.{Envelope}
use Rattle.canvas_effects.specs.Effects.{first_messages}
use Rattle.canvas_effects.specs.Events.{start}
use Rattle.canvas_history.specs.Table as table
use Rattle.canvas_history.specs.Table.{no_results, reply_of, next_of}
use Rattle.canvas_history.specs.Roster.{roster_of}
use Rattle.canvas_history.specs.Queue as queue
use Rattle.canvas_runs.specs.Calls.{TableAnswered, makes, FollowsScripts, scripts_all, scripts_publish, takes_one}
use Rattle.canvas_runs.specs.Core.{CoreState, taking, over, failed}
use Rattle.canvas_history.specs.Lists.{by, total}
use Rattle.canvas_runs.specs.Logs.{queue_calls}
use Rattle.canvas_runs.specs.Progress.{AllReadBack, CanGoOn, AtRest, UnderWay, Start}
use Rattle.canvas_runs.specs.Run.{Run, published_all}
use Rattle.canvas_runs.specs.Worker.{sealed}
use Rattle.canvas_runs.proofs.Objects.CallsOf.{tag, calls_splits, queue_append, queue_splits, queue_entries, published_found, by_tag}
use Rattle.canvas_runs.proofs.Laws.Facts.{value}
use Rattle.canvas_runs.proofs.Ends.Ongoing.{still_live}
use Rattle.canvas_runs.proofs.Lists.Words.{each_weaker}
use Rattle.canvas_runs.proofs.Objects.Splits.{live_splits, split_more}

-- ---- the numbers 1 to n

abbrev round : ℕ → List ℕ
round zero = []
round (suc n) = round n ++ suc n ∷ []

in_round : (n p : ℕ) → In p (round n) → (1 ≤ p) × (p ≤ n)
in_round zero p h = absurd (false≢true h)
in_round (suc n) p h =
    ⊎_elim (λ i. let k = in_round n p i in (k.0, omega (arith, k.1)))
    (λ i. ⊎_elim (λ (e : suc n ≡ p). (omega (arith, e), omega (arith, e))) (λ f. absurd (false≢true f)) (in_cases p (suc n) [] i))
    (in_append p (round n) (suc n ∷ []) h)

round_has : (n p : ℕ) → 1 ≤ p → p ≤ n → In p (round n)
round_has zero p h b = absurd (omega (arith, h, b))
round_has (suc n) p h b = elim (cases_eq p (suc n)) [
  | inl e ↦ in_right p (round n) (suc n ∷ []) (subst (λ k. In p (k ∷ [])) e (in_here p []))
  | inr d ↦ in_left p (round n) (suc n ∷ []) (round_has n p h (omega (arith, b, d)))
]

-- no number past n is among them
not_past : (n : ℕ) → among (suc n) (round n) ≡ false
not_past n = ⊎_elim (λ (h : among (suc n) (round n) ≡ true). let k = in_round n (suc n) h in absurd (omega (arith, k.1)))
    (λ (h : among (suc n) (round n) ≡ false). h) (cases_Bool (among (suc n) (round n)))

module _ {C R S : Type 0} (first : S) (answer : S → C → R) (next : S → C → S) (May : List (Entry C R) → S → ℕ → C → Type 0) where
  splits_legal : (n : ℕ) → Legal first answer next May (splits_of (round n))
  splits_legal zero = tt
  splits_legal (suc n) = split_more first answer next May (round n) (suc n) (splits_legal n) (λ e. omega (arith, e)) (not_past n)

module _ (behaviour : Behaviour) (l : Line) (plan : IsPlan l) (back : AllReadBack behaviour l) (n : ℕ) where
  abbrev firsts : List Envelope
  firsts = map sealed (first_messages l)

  abbrev first_queue : List (queue.QueueEntry Envelope)
  first_queue = splits_of (round n) ++ entries_by 0 (published_all firsts)

  abbrev first_table : table.Log
  first_table = splits_of (round n)

  published_legal : (log : List (queue.QueueEntry Envelope)) (es : List Envelope) → among 0 (live log) ≡ true
      → LegalFrom [] queue.answer_of queue.next queue.May log (entries_by 0 (published_all es))
  published_legal log [] alive = tt
  published_legal log (e ∷ es) alive = (
    (alive, refl, tt),
    published_legal (log ++ calls 0 (queue.publish e) None ∷ []) es
        (subst (λ ls. among 0 ls ≡ true) (sym (live_push log (calls 0 (queue.publish e) None))) alive),
  )

  published_follows : (es : List Envelope) → FollowsScripts None [] (map makes (published_all es) ++ []) (published_all es)
  published_follows [] = scripts_all
  published_follows (e ∷ es) = scripts_publish (published_follows es)

  sent_calls : queue_calls first_queue ≡ tag 0 (published_all firsts)
  sent_calls = queue_append (splits_of (round n)) (entries_by 0 (published_all firsts))
      ∙ (ap (λ g. g ++ queue_calls (entries_by 0 (published_all firsts))) (queue_splits (round n))
      ∙ queue_entries 0 (published_all firsts) (published_found firsts))

  calls_by : (p : ℕ) → by p (queue_calls first_queue) ≡ cond (eqb 0 p) (published_all firsts) []
  calls_by p = ap (by p) sent_calls ∙ by_tag 0 p (published_all firsts)

  abbrev Begun : ℕ → Type 0
  Begun p = FollowsScripts None [] (map makes (cond (eqb p 0) (published_all firsts) []) ++ []) (cond (eqb 0 p) (published_all firsts) [])

  begun_other : (p : ℕ) → p ≢ 0 → Begun p
  begun_other p d =
      subst (λ b. FollowsScripts None [] (map makes (cond b (published_all firsts) []) ++ []) (cond (eqb 0 p) (published_all firsts) [])) (sym (ne_eqb p 0 d))
      (subst (λ b. FollowsScripts None [] [] (cond b (published_all firsts) [])) (sym (ne_eqb 0 p (λ e. d (sym e)))) scripts_all)

  follows_first : (p : ℕ) → FollowsScripts None [] (map makes (cond (eqb p 0) (published_all firsts) []) ++ []) (by p (queue_calls first_queue))
  follows_first p =
      subst (λ ls. FollowsScripts None [] (map makes (cond (eqb p 0) (published_all firsts) []) ++ []) ls) (sym (calls_by p))
      (⊎_elim (λ (e : p ≡ 0). subst Begun (sym e) (published_follows firsts)) (λ (d : p ≢ 0). begun_other p d) (cases_eq p 0))

  none_closing : (b : Bool) → ◌≡◌ {A = List TableAnswered} [] (cond b [] [])
  none_closing true = refl
  none_closing false = refl

  -- workers 0 to n are live

  queue_live : live first_queue ≡ 0 ∷ round n
  queue_live = still_live (splits_of (round n)) 0 (published_all firsts) ∙ live_splits (queue.QueueCall Envelope) (Option Envelope) (0 ∷ []) (round n)

  table_live : live first_table ≡ 0 ∷ round n
  table_live = live_splits table.TableCall table.TableReply (0 ∷ []) (round n)

  is_among : (p : ℕ) → p ≤ n → among p (0 ∷ round n) ≡ true
  is_among p b = elim (cases_eq p 0) [
    | inl e ↦ subst (λ k. In p (k ∷ round n)) e (in_here p (round n))
    | inr d ↦ in_later p 0 (round n) (round_has n p (omega (arith, d)) b)
  ]

  queue_is_legal : queue.IsLegal first_queue
  queue_is_legal =
      legal_append [] queue.answer_of queue.next queue.May [] (splits_of (round n)) (entries_by 0 (published_all firsts))
      (splits_legal [] queue.answer_of queue.next queue.May n)
      (published_legal (splits_of (round n)) firsts
      (subst (λ ls. In 0 ls) (sym (live_splits (queue.QueueCall Envelope) (Option Envelope) (0 ∷ []) (round n))) (in_here 0 (round n))))

  keeps_none : (p : ℕ) → by p (answered_calls first_table) ≡ cond (eqb p 0) [] []
  keeps_none p = ap (by p) (calls_splits (round n)) ∙ none_closing (eqb p 0)

  abbrev first_run : Run behaviour l
  first_run = record {
    queue = first_queue;
    table = first_table;
    queue_legal = queue_is_legal;
    table_legal = splits_legal no_results (reply_of (roster_of l)) next_of (table.May (roster_of l)) n;
    core = λ p. [];
    is_core = λ p. tt;
    opening = first_messages l;
    unsent = [];
    closing = [];
    opens = sym (append-nil (first_messages l));
    opens_back = each_weaker (λ c d. back c (start, d)) (first_messages l) (value behaviour l plan).first;
    closes = tt;
    follows = follows_first;
    keeps = keeps_none;
  }

  not_over : ◌≡◌ {A = CoreState Content PCarried} taking over → ⊥
  not_over e = cc

  not_failed : ◌≡◌ {A = CoreState Content PCarried} taking failed → ⊥
  not_failed e = cc

  first_goes : (p : ℕ) → p ≤ n → CanGoOn behaviour l first_run p
  first_goes p b = (ap (among p) queue_live ∙ is_among p b, ap (among p) table_live ∙ is_among p b, not_over, not_failed)

  first_rests : (p : ℕ) → n < p → AtRest behaviour l first_run p
  first_rests p h = (tt, ap (total takes_one) (calls_by p ∙ ap (λ b. cond b (published_all firsts) []) (ne_eqb 0 p (λ e. omega (arith, h, e)))))

  first_way : UnderWay behaviour l first_run
  first_way = record {
    all_sent = refl;
    none_read = refl;
    each = λ p. ⊎_elim (λ (h : n < p). inr (first_rests p h)) (λ (h : p ≤ n). inl (first_goes p h)) (cases_lt n p);
    one = 0;
    goes = first_goes 0 (omega arith);
  }

  pub starts : Start behaviour l n
  starts = record { run = first_run; under_way = first_way; can = first_goes; no_asks = λ p. refl }
