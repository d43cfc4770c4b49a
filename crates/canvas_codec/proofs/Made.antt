-- Frozen tasks, lines and ends, made of what was read.
use Rattle.std.proofs.Common.{◌≡◌, ◌∙◌, ◌≢◌, ◌≤◌, ◌<◌, ◌+◌, ◌-◌, ℕ, Bool, length, get_or, take, drop, reverse, arith, List, [], ◌∷◌, ◌++◌, map, Option, Some, None, Result, Ok, Err, refl, sym, ap}
use Rattle.std.proofs.Math.Seq.{take-length}
use Rattle.std.proofs.lemmas.List.{map_push, take_more, reverse-append}
use Rattle.std.specs.Prelude.{codes}
use Rattle.serde_json.specs.Data.{Data, array}
use Rattle.serde_json.specs.View.{items_of}
use Rattle.canvas_sig.specs.Datum.{view}
use Rattle.canvas_sig.specs.declared.datum.Datum.{Datum}
use Rattle.canvas_task.specs.declared.arg.Arg.{Arg}
use Rattle.canvas_values.specs.Fields.{field, option, args, kwargs, tasks, header, body, link, link_error, listed, object_members as members, as_list, text_of, is_true}
use Rattle.canvas_values.specs.Answers.{◌>>=◌, in_turn}
use Rattle.canvas_values.specs.Grammar.{arg_reading, named_reading}
use Rattle.canvas_values.specs.declared.fault.SigFault.{SigFault}
use Rattle.canvas_semantics.specs.PlacedLine.{PTask, PLine, p_stop, p_step}
use Rattle.canvas_rewrite.specs.FrozenView.{p_steps, p_task_view, p_line_view, p_end_view}
use Rattle.canvas_rewrite.specs.declared.frozen.FrozenTask.{FrozenTask, roll-FrozenTask}
use Rattle.canvas_rewrite.specs.declared.frozen.FrozenLine.{FrozenLine, roll-FrozenLine}
use Rattle.canvas_rewrite.specs.declared.frozen.FrozenEnd.{roll-FrozenEnd}
use Rattle.canvas_rewrite.specs.declared.frozen.Place.{Place}
use Rattle.canvas_rewrite.proofs.FrozenViews.{made_line, made_group, made_chord}
use Rattle.canvas_envelope.specs.MessageView.{place_seen}
use Rattle.canvas_envelope.proofs.Seen.{task_made}
use Rattle.canvas_codec.specs.steps.Elements.{line_with, reversed_with, element_view}
use Rattle.canvas_codec.specs.steps.Reading.{parts_of, chain_reading}
use Rattle.canvas_codec.specs.declared.read.made.Element.{Element}
use Rattle.canvas_envelope.specs.FrozenGrammar.{task_of, group_of, levels}
use Rattle.canvas_codec.specs.steps.FrozenReading.{if_numbered, place_with, task_with, group_with, chord_with, elements_with, step_reading, last_reading}

-- ---- tasks

-- a task whose parts were read
pub task_read : (t : Data → Result PTask SigFault) (f : Data → Result PLine SigFault) (d : Data)
    (k : ℕ) (n : List ℕ) (a : List Arg) (w : List (List ℕ × Arg)) (i : Bool) (ls es : List FrozenTask) (p : Option Place)
    → if_numbered (task_of (option (codes "task_id") d)) ≡ Ok k
    → in_turn arg_reading (listed (args d)) ≡ Ok a
    → in_turn named_reading (members (kwargs d)) ≡ Ok w
    → in_turn t (as_list (link d)) ≡ Ok (map p_task_view ls)
    → in_turn t (as_list (link_error d)) ≡ Ok (map p_task_view es)
    → place_with f (option (codes "group_id") d) (option (codes "chord") d) ≡ Ok (place_seen p)
    → text_of (field (codes "task") d) ≡ n
    → is_true (field (codes "immutable") d) ≡ i
    → task_with t f d ≡ Ok (p_task_view
    (roll-FrozenTask (record { no = k; name = n; args = a; kwargs = w; immutable = i; links = ls; errbacks = es; place = p })))
task_read t f d k n a w i ls es p hk ha hw hl he hp hn hi = rw (hk, ha, hw, hl, he, hp, hn, hi) (ap Ok (sym (task_made k n a w i ls es p)))

-- ---- groups and chords

pub group_read : (f : Data → Result PLine SigFault) (d : Data) (g : ℕ) (ms : List FrozenLine)
    → if_numbered (group_of (option (codes "group_id") d)) ≡ Ok g → in_turn f (listed (tasks d)) ≡ Ok (map p_line_view ms)
    → group_with f d ≡ Ok (p_end_view (roll-FrozenEnd (record { group = g; members = ms; body = None })))
group_read f d g ms hg hm = rw (hg, hm) (ap Ok (sym (made_group g ms)))

pub chord_read : (f : Data → Result PLine SigFault) (d : Data) (g : ℕ) (ms : List FrozenLine) (b : FrozenLine)
    → if_numbered (group_of (option (codes "group_id") d)) ≡ Ok g → in_turn f (listed (header d)) ≡ Ok (map p_line_view ms) → f (body d) ≡ Ok (p_line_view b)
    → chord_with f d ≡ Ok (p_end_view (roll-FrozenEnd (record { group = g; members = ms; body = Some b })))
chord_read f d g ms b hg hm hb = rw (hg, hm, hb) (ap Ok (sym (made_chord g ms b)))

-- ---- lines

steps_pushed : (ts : List PTask) (t : PTask) → p_steps (ts ++ t ∷ []) p_stop ≡ p_steps ts (p_step t p_stop)
steps_pushed [] t = refl
steps_pushed (x ∷ ts) t = ap (p_step x) (steps_pushed ts t)

-- some tasks with one more at the end
pub pushed_line : (ts new : List FrozenTask) (t : FrozenTask) → new ≡ ts ++ t ∷ []
    → p_line_view (roll-FrozenLine (record { tasks = new; tail = None })) ≡ p_steps (map p_task_view ts) (p_step (p_task_view t) p_stop)
pushed_line ts new t is =
    made_line new ∙ ap (λ x. p_steps (map p_task_view x) p_stop) is ∙ ap (λ x. p_steps x p_stop) (map_push p_task_view ts t)
    ∙ steps_pushed (map p_task_view ts) (p_task_view t)

-- all but the last, and the last
alone : (r : Result PLine SigFault) → r ≡ (r >>= λ l. Ok l)
alone (Ok l) = refl
alone (Err f) = refl

module _ (s : Data → Result PTask SigFault) (e : Data → Result PLine SigFault) where
  one_more : (x : Data) (ds : List Data) (d : Data)
      → elements_with s e (x ∷ ds ++ d ∷ []) ≡ (s x >>= λ t. elements_with s e (ds ++ d ∷ []) >>= λ l. Ok (p_step t l))
  one_more x [] d = refl
  one_more x (y ∷ ds) d = refl

  regroup : (r : Result PTask SigFault) (ts : Result (List PTask) SigFault) (l : Result PLine SigFault)
      → (r >>= λ t. (ts >>= λ ts. l >>= λ l. Ok (p_steps ts l)) >>= λ l. Ok (p_step t l))
      ≡ ((r >>= λ t. ts >>= λ ts. Ok (t ∷ ts)) >>= λ ts. l >>= λ l. Ok (p_steps ts l))
  regroup (Ok t) (Ok ts) (Ok l) = refl
  regroup (Ok t) (Ok ts) (Err f) = refl
  regroup (Ok t) (Err f) l = refl
  regroup (Err f) ts l = refl

  pub last_apart : (ds : List Data) (d : Data) → elements_with s e (ds ++ d ∷ []) ≡ line_with s e ds d
  last_apart [] d = alone (e d)
  last_apart (x ∷ ds) d = one_more x ds d ∙ ap (λ r. s x >>= λ t. r >>= λ l. Ok (p_step t l)) (last_apart ds d) ∙ regroup (s x) (in_turn s ds) (e d)

pub no_line : (ds : List Data) (s : Data → Result PTask SigFault) (e : Data → Result PLine SigFault) (ts : List FrozenTask) → ds ≡ [] → ts ≡ []
    → elements_with s e ds ≡ Ok (p_line_view (roll-FrozenLine (record { tasks = ts; tail = None })))
no_line ds s e ts hd ht = rw hd (ap Ok (sym (made_line ts ∙ ap (λ x. p_steps (map p_task_view x) p_stop) ht)))

-- a list of JSON values, its last apart
pub last_item : (xs : List Datum) (x : Datum) → 1 ≤ length xs → x ≡ get_or xs (length xs - 1) x
    → map view xs ≡ map view (take (length xs - 1) xs) ++ view x ∷ []
last_item xs x some is =
    let n : ℕ = length xs - 1 in
    let up : length xs ≡ n + 1 = omega (arith, some) in
    let whole : xs ≡ take n xs ++ x ∷ [] =
    sym (take-length xs) ∙ ap (λ k. take k xs) up ∙ take_more xs n x (omega (arith, some)) ∙ ap (λ y. take n xs ++ y ∷ []) (sym is) in
    ap (map view) whole ∙ map_push view (take n xs) x

pub no_items : (xs : List Datum) → length xs < 1 → map view xs ≡ []
no_items [] few = refl
no_items (x ∷ xs) few = absurd (omega (arith, few))

map_reverse : (ts : List FrozenTask) → map p_task_view (reverse ts) ≡ reverse (map p_task_view ts)
map_reverse [] = refl
map_reverse (t ∷ ts) =
    ap (map p_task_view) (reverse-append (t ∷ []) ts) ∙ map_push p_task_view (reverse ts) t ∙ ap (λ xs. xs ++ p_task_view t ∷ []) (map_reverse ts)
    ∙ sym (reverse-append (p_task_view t ∷ []) (map p_task_view ts))

-- the line whose last element is given first
pub reversed_read : (s : Data → Result PTask SigFault) (e : Data → Result PLine SigFault) (d : Data) (ds : List Data) (x : Element) (ts new : List FrozenTask)
    (l : FrozenLine)
    → e d ≡ Ok (element_view x) → in_turn s ds ≡ Ok (map p_task_view ts) → new ≡ reverse ts
    → p_line_view l ≡ p_steps (map p_task_view new) (element_view x) → reversed_with s e d ds ≡ Ok (p_line_view l)
reversed_read s e d ds x ts new l hd hs turned made =
    rw (hd, hs) (ap Ok (ap (λ xs. p_steps xs (element_view x)) (sym (ap (map p_task_view) turned ∙ map_reverse ts)) ∙ sym made))

-- what follows on a line of at least one element
pub chain_starts : (xs : List Datum) (x : Datum) → 1 ≤ length xs → x ≡ get_or xs 0 x
    → chain_reading (map view xs) ≡ reversed_with (step_reading levels) (last_reading levels) (view x) (map view (take (length xs - 1) (drop 1 xs)))
chain_starts [] x some is = absurd (omega (arith, some))
chain_starts (y ∷ ys) x some is =
    let others : length (y ∷ ys) - 1 ≡ length ys = omega arith in
    ap (λ z. reversed_with (step_reading levels) (last_reading levels) (view z) (map view ys)) (sym is)
    ∙ ap (λ zs. reversed_with (step_reading levels) (last_reading levels) (view x) (map view zs)) (sym (ap (λ k. take k ys) others ∙ take-length ys))

-- ---- the items of a body

pub not_three : (vs : List Datum) → length vs ≢ 3 → parts_of (array (items_of (map view vs))) ≡ None
not_three [] other = refl
not_three (a ∷ []) other = refl
not_three (a ∷ b ∷ []) other = refl
not_three (a ∷ b ∷ c ∷ []) other = absurd (other refl)
not_three (a ∷ b ∷ c ∷ d ∷ vs) other = refl
