-- Items that are read, answered and printed batch by batch.
use Rattle.std.proofs.Common.{◌≡◌, ◌∙◌, ◌<◌, ◌+◌, ℕ, zero, suc, Bool, true, false, ◌||◌, List, [], ◌∷◌, ◌++◌, map, length, get_or, slice_index_or, take, drop, Option, None, Some, Ok, Err, Result, IfOk, IfSome, inl, inr, ap, ap₂, refl, sym, subst, arith, flat_map, append-nil, length-append, string_bytes, zero-lt-suc, suc-le-suc, option_map, Vec, Global, drop_of_length-le, take_all}
use Rattle.std.proofs.lemmas.Grind.{flat_map-append}
use Rattle.std.proofs.lemmas.List.{map-append}
use Rattle.std.specs.Io.BufRead.{drop_through}
use Rattle.std.specs.Io.KnownBytes.{Appends}
use Rattle.canvas_adapt.specs.Stubs.{stubs_behaviour}
use Rattle.canvas_adapt.specs.declared.stubs.stub.Stub.{Stub}
use Rattle.canvas_task.specs.Apply.{Behaviour}
use Rattle.canvas_task.specs.Text.{Text}
use Rattle.canvas_answer.specs.Answers.{AnswersAll}
use Rattle.canvas_answer.specs.Asking.{Asking, asked_of}
use Rattle.canvas_answer.specs.Items.{IsNext, before, most_item}
use Rattle.canvas_answer.specs.Printing.{printed}
use Rattle.canvas_answer.specs.Told.{report_status}
use Rattle.canvas_answer.specs.declared.answer.Answer.{Answer}
use Rattle.canvas_answer.specs.declared.each.Each.{Each}
use Rattle.canvas_answer.specs.declared.refusal.Refusal.{Refusal}
use Rattle.canvas_answer.specs.declared.stubs.Answers.{Answers}
use Rattle.canvas_command.specs.Each.{AreItems, AreSaid, IsEachAnswered, IsEachDone, IsItemSaid, IsOwnSaid, IsSaid, any_said, lines_of}
use Rattle.canvas_command.specs.steps.Batches.{AreDone, HasRead, IsAnswered, IsBatch, IsMore, IsPrinted, texts_of}
use Rattle.canvas_command.specs.declared.batch.Slot.{Slot}
use Rattle.canvas_command.specs.declared.each.Said.{Said}
use Rattle.canvas_command.proofs.Printed.{later, nothing}

-- ---- items

pub items_more : (end : ℕ) (xs : Text) (us : List Text) (ys : Text) (bs : List Text) (zs : Text) → AreItems end xs us ys → AreItems end ys bs zs
    → AreItems end xs (us ++ bs) zs
items_more end xs [] ys bs zs h next = subst (λ l. AreItems end l bs zs) h next
items_more end xs (a ∷ us) ys bs zs (some, is, h) next = (some, is, items_more end (drop_through end xs) us ys bs zs h next)

-- ---- lines

module _ (tasks : Behaviour) (stubs : List Stub) (its : Asking) (has_tasks : Bool) where
  pub said_more : (us : List Text) (ss : List Said) (bs : List Text) (ts : List Said) → AreSaid tasks stubs its has_tasks us ss
      → AreSaid tasks stubs its has_tasks bs ts → AreSaid tasks stubs its has_tasks (us ++ bs) (ss ++ ts)
  said_more [] ss bs ts h next = subst (λ l. AreSaid tasks stubs its has_tasks bs (l ++ ts)) (sym h) next
  said_more (a ∷ us) [] bs ts h next = absurd h
  said_more (a ∷ us) (s ∷ ss) bs ts (x, h) next = (x, said_more us ss bs ts h next)

  -- each item of a batch is answered
  pub answered : (us bs : List Slot) (ss : List Said) → length us ≡ length bs
      → ((i : ℕ) (d : Slot) → i < length us → IsAnswered tasks stubs its has_tasks (slice_index_or us i d) (slice_index_or bs i d))
      → map (λ slot. slot.said) bs ≡ map Ok ss → AreSaid tasks stubs its has_tasks (texts_of us) ss
  answered [] [] [] long each same = refl
  answered [] [] (s ∷ ss) long each same = let no : ⊥ = omega (arith, ap length same) in absurd no
  answered [] (b ∷ bs) ss long each same = let no : ⊥ = omega (arith, long) in absurd no
  answered (a ∷ us) [] ss long each same = let no : ⊥ = omega (arith, long) in absurd no
  answered (a ∷ us) (b ∷ bs) [] long each same = let no : ⊥ = omega (arith, ap length same) in absurd no
  answered (a ∷ us) (b ∷ bs) (s ∷ ss) long each same =
      let first : b.said ≡ Ok s = ap (λ l. get_or l 0 (Ok s)) same in
      let others : map (λ slot. slot.said) bs ≡ map Ok ss = ap (drop 1) same in
      let here = each 0 a (zero-lt-suc (length us)) in (
        subst (λ r. IfOk r (IsItemSaid tasks stubs its has_tasks a.text.items)) first here.said,
        answered us bs ss (omega (arith, long)) (λ i d within. each (suc i) d (suc-le-suc within)) others,
      )

or_assoc : (a b c : Bool) → ((a || b) || c) ≡ (a || (b || c))
or_assoc false b c = refl
or_assoc true b c = refl

or_false : (a : Bool) → (a || false) ≡ a
or_false false = refl
or_false true = refl

pub any_more : (ss ts : List Said) → any_said (ss ++ ts) ≡ (any_said ss || any_said ts)
any_more [] ts = refl
any_more (s ∷ ss) ts = ap (λ b. s.failed || b) (any_more ss ts) ∙ sym (or_assoc s.failed (any_said ss) (any_said ts))

pub lines_more : (ss ts : List Said) → lines_of (ss ++ ts) ≡ lines_of ss ++ lines_of ts
lines_more [] ts = refl
lines_more (s ∷ ss) ts = ap (λ l. lines_of (s ∷ []) ++ l) (lines_more ss ts)

pub printed_more : (o a b : Option Text) (ss ts : List Said) → Appends o a (flat_map printed (lines_of ss)) → Appends a b (flat_map printed (lines_of ts))
    → Appends o b (flat_map printed (lines_of (ss ++ ts)))
printed_more o a b ss ts first next =
    let all = sym (ap (flat_map printed) (lines_more ss ts) ∙ flat_map-append printed (lines_of ss) (lines_of ts)) in
    subst (λ xs. Appends o b xs) all (later o a b (flat_map printed (lines_of ss)) (flat_map printed (lines_of ts)) first next)

-- ---- reading

pub none_read : (end : ℕ) (old : Option Text) (batch : List Slot) → batch ≡ [] → HasRead end old old batch
none_read end None batch none = record { read = tt }
none_read end (Some xs) batch none = record { read = (xs, refl, subst (λ b. AreItems end xs (texts_of b) xs) (sym none) refl) }

one_more : (end : ℕ) (old now new : Option Text) (batch : List Slot) (slot : Slot)
    → IfSome old (λ xs. (left : Text) × (now ≡ Some left) × AreItems end xs (texts_of batch) left)
    → IfSome now (λ ys. IsNext end ys new (Some slot.text.items))
    → IfSome old (λ xs. (left : Text) × (new ≡ Some left) × AreItems end xs (texts_of (batch ++ slot ∷ [])) left)
one_more end None now new batch slot so_far next = tt
one_more end (Some xs) now new batch slot (left, is, are) next =
    let (some, kept, after) = subst (λ o. IfSome o (λ ys. IsNext end ys new (Some slot.text.items))) is next in
    let more = items_more end xs (texts_of batch) left (slot.text.items ∷ []) (drop_through end left) are (some, kept, refl) in
    (drop_through end left, after, subst (λ l. AreItems end xs l (drop_through end left)) (sym (map-append (λ s. s.text.items) batch (slot ∷ []))) more)

pub one_read : (end : ℕ) (old now new : Option Text) (batch more : List Slot) (was : Bool) → was ≡ true → HasRead end old now batch
    → IsMore end now new batch more was → HasRead end old new more
one_read end old now new batch more was is so_far h =
    let (slot, grown, next) = subst (λ b. IsMore end now new batch more b) is h in
    record {
      read =
          subst (λ l. IfSome old (λ xs. (left : Text) × (new ≡ Some left) × AreItems end xs (texts_of l) left)) (sym grown)
          (one_more end old now new batch slot so_far.read next);
    }

pub one_longer : (end : ℕ) (now new : Option Text) (batch more : List Slot) (was : Bool) (n : ℕ) → was ≡ true → IsMore end now new batch more was
    → length batch ≡ n → length more ≡ n + 1
one_longer end now new batch more was n is h long =
    let (slot, grown, next) = subst (λ b. IsMore end now new batch more b) is h in
    omega (arith, ap length grown, length-append batch (slot ∷ []), long)

some_left : (end : ℕ) (old new : Option Text) (batch : List Slot) → 0 < length batch
    → IfSome old (λ xs. (left : Text) × (new ≡ Some left) × AreItems end xs (texts_of batch) left)
    → IfSome old (λ xs. (left : Text) × (new ≡ Some left) × AreItems end xs (texts_of batch) left × (batch ≡ [] → left ≡ []))
some_left end None new batch some so_far = tt
some_left end (Some xs) new batch some (left, is, are) =
    (left, is, are, λ none. let no : ⊥ = omega (arith, some, ap length none) in absurd no)

pub some_batch : (end : ℕ) (old new : Option Text) (batch : List Slot) → 0 < length batch → HasRead end old new batch → IsBatch end old new batch
some_batch end old new batch some so_far = record { read = some_left end old new batch some so_far.read }

none_left : (end : ℕ) (old now new : Option Text) (batch : List Slot)
    → IfSome old (λ xs. (left : Text) × (now ≡ Some left) × AreItems end xs (texts_of batch) left)
    → IfSome now (λ ys. IsNext end ys new None)
    → IfSome old (λ xs. (left : Text) × (new ≡ Some left) × AreItems end xs (texts_of batch) left × (batch ≡ [] → left ≡ []))
none_left end None now new batch so_far next = tt
none_left end (Some xs) now new batch (left, is, are) next =
    let (none, after) = subst (λ o. IfSome o (λ ys. IsNext end ys new None)) is next in
    ([], after, subst (λ l. AreItems end xs (texts_of batch) l) none are, λ _. refl)

pub last_batch : (end : ℕ) (old now new : Option Text) (batch more : List Slot) (was : Bool) → was ≡ false → HasRead end old now batch
    → IsMore end now new batch more was → IsBatch end old new more
last_batch end old now new batch more was is so_far h =
    let (same, next) = subst (λ b. IsMore end now new batch more b) is h in
    record {
      read =
          subst (λ l. IfSome old (λ xs. (left : Text) × (new ≡ Some left) × AreItems end xs (texts_of l) left × (l ≡ [] → left ≡ []))) (sym same)
          (none_left end old now new batch so_far.read next);
    }

-- ---- the whole

batch_read : (end : ℕ) (old now new : Option Text) (items : List Text) (batch : List Slot)
    → IfSome old (λ xs. (left : Text) × (now ≡ Some left) × AreItems end xs items left)
    → IfSome now (λ ys. (left : Text) × (new ≡ Some left) × AreItems end ys (texts_of batch) left × (batch ≡ [] → left ≡ []))
    → IfSome old (λ xs. (left : Text) × (new ≡ Some left) × AreItems end xs (items ++ texts_of batch) left)
batch_read end None now new items batch so_far next = tt
batch_read end (Some xs) now new items batch (left, is, are) next =
    let (after, is', are', _) =
    subst (λ o. IfSome o (λ ys. (l : Text) × (new ≡ Some l) × AreItems end ys (texts_of batch) l × (batch ≡ [] → l ≡ []))) is next in
    (after, is', items_more end xs items left (texts_of batch) after are are')

all_read : (end : ℕ) (old now new : Option Text) (items : List Text) (batch : List Slot) → batch ≡ []
    → IfSome old (λ xs. (left : Text) × (now ≡ Some left) × AreItems end xs items left)
    → IfSome now (λ ys. (left : Text) × (new ≡ Some left) × AreItems end ys (texts_of batch) left × (batch ≡ [] → left ≡ []))
    → IfSome old (λ xs. AreItems end xs items [])
all_read end None now new items batch none so_far next = tt
all_read end (Some xs) now new items batch none (left, is, are) next =
    let (after, is', are', ends) =
    subst (λ o. IfSome o (λ ys. (l : Text) × (new ≡ Some l) × AreItems end ys (texts_of batch) l × (batch ≡ [] → l ≡ []))) is next in
    let same : after ≡ left = subst (λ b. AreItems end left (texts_of b) after) none are' in
    subst (λ l. AreItems end xs items l) (sym same ∙ ends none) are

begun : (end : ℕ) (input : Option Text) → IfSome input (λ xs. (l : Text) × (input ≡ Some l) × AreItems end xs [] l)
begun end None = tt
begun end (Some xs) = (xs, refl, refl)

module _ (tasks : Behaviour) (stubs : List Stub) (its : Asking) (has_tasks : Bool) (end : ℕ) where
  pub none_done : (input out : Option Text) → AreDone tasks stubs its has_tasks end input input out out false
  none_done input out = record { items = []; saids = []; read = begun end input; said = refl; prints = nothing out; tells = refl }

  pub batch_done : (input now new out o p : Option Text) (before after : List Slot) (failed f : Bool)
      → AreDone tasks stubs its has_tasks end input now out o failed → IsBatch end now new before → length before ≡ length after
      → ((i : ℕ) (d : Slot) → i < length before → IsAnswered tasks stubs its has_tasks (slice_index_or before i d) (slice_index_or after i d))
      → IsPrinted o p after f → AreDone tasks stubs its has_tasks end input new out p (failed || f)
  batch_done input now new out o p before after failed f so_far batch long each printed_now =
      let ss = so_far.saids in
      let ts = printed_now.saids in
      record {
        items = so_far.items ++ texts_of before;
        saids = ss ++ ts;
        read = batch_read end input now new so_far.items before so_far.read batch.read;
        said =
            said_more tasks stubs its has_tasks so_far.items ss (texts_of before) ts so_far.said
            (answered tasks stubs its has_tasks before after ts long each printed_now.are);
        prints = printed_more out o p ss ts so_far.prints printed_now.prints;
        tells = ap₂ (λ a b. a || b) so_far.tells printed_now.tells ∙ sym (any_more ss ts);
      }

pub all_done : (tasks : Behaviour) (stubs : List Stub) (its : Asking) (each : Each) (input now new out o : Option Text) (batch : List Slot) (failed : Bool)
    (a : Answer)
    → AreDone tasks stubs its each.has_tasks each.end input now out o failed → IsBatch each.end now new batch → batch ≡ []
    → AnswersAll [] (report_status each.fails failed) a → IsEachAnswered tasks stubs its each input out o a
all_done tasks stubs its each input now new out o batch failed a so_far read none ends =
    record {
      items = so_far.items;
      are = all_read each.end input now new so_far.items batch none so_far.read read.read;
      saids = so_far.saids;
      said = so_far.said;
      prints = so_far.prints;
      ends = subst (λ f. AnswersAll [] (report_status each.fails f) a) so_far.tells ends;
    }

-- ---- printing

-- one more line
pub printed_one : (o a b : Option Text) (done : List Slot) (slot : Slot) (said : Said) (failed : Bool) → IsPrinted o a done failed → slot.said ≡ Ok said
    → Appends a b (printed (string_bytes said.text)) → IsPrinted o b (done ++ slot ∷ []) (failed || said.failed)
printed_one o a b done slot said failed so_far is line =
    let one : Appends a b (flat_map printed (lines_of (said ∷ []))) = subst (λ xs. Appends a b xs) (sym (append-nil (printed (string_bytes said.text)))) line in
    let told : any_said (so_far.saids ++ said ∷ []) ≡ (any_said so_far.saids || said.failed) =
    any_more so_far.saids (said ∷ []) ∙ ap (λ b. any_said so_far.saids || b) (or_false said.failed) in
    record {
      saids = so_far.saids ++ said ∷ [];
      are =
          map-append (λ s. s.said) done (slot ∷ []) ∙ ap₂ (λ l r. l ++ r ∷ []) so_far.are is
          ∙ sym (map-append Ok so_far.saids (said ∷ []));
      prints = printed_more o a b so_far.saids (said ∷ []) so_far.prints one;
      tells = ap (λ b. b || said.failed) so_far.tells ∙ sym told;
    }

-- ---- an item of its own answers

pub own_of : (tasks : Behaviour) (adapts : Bool) (answers : Answers) (text : Text) (has_tasks : Bool) (r : Result Said Refusal) → has_tasks ≡ true
    → IfOk r (IsSaid (stubs_behaviour answers.stubs.items tasks) (asked_of adapts answers) has_tasks text) → IfOk r (IsOwnSaid tasks adapts)
own_of tasks adapts answers text has_tasks (Ok said) is h =
    inl (answers, text, subst (λ b. IsSaid (stubs_behaviour answers.stubs.items tasks) (asked_of adapts answers) b text said) is h)
own_of tasks adapts answers text has_tasks (Err e) is h = h

-- ---- the next item

pub more_of : (end : ℕ) (old new : Option Text) (o : Option (Vec ℕ Global)) (text : Vec ℕ Global) (slot : Slot) (before after : List Slot) → o ≡ Some text
    → slot.text ≡ text → after ≡ before ++ slot ∷ [] → IfSome old (λ xs. IsNext end xs new (option_map (λ item. item.items) o))
    → IsMore end old new before after true
more_of end old new o text slot before after is made grown next =
    let here = subst (λ p. IfSome old (λ xs. IsNext end xs new (option_map (λ item. item.items) p))) is next in
    (slot, grown, subst (λ t. IfSome old (λ xs. IsNext end xs new (Some t.items))) (sym made) here)

-- ---- the status

pub each_done : (counts failed : Bool) (a : Answer) → AnswersAll [] (report_status counts failed) a → IsEachDone counts a
each_done true true a h = inr (refl, h)
each_done true false a h = inl h
each_done false failed a h = inl h

-- ---- a list that is lent as a slice and given back

pub given_back : (len : ℕ) (new old : List Slot) → length new ≡ length old → len ≡ length old → take len (new ++ drop (length new) old) ≡ new
given_back len new old same long =
    ap (λ l. take len (new ++ l)) (drop_of_length-le old (omega (arith, same))) ∙ ap (take len) (append-nil new)
    ∙ take_all len new (omega (arith, same, long))
