-- A start is read back from its commands.
use Rattle.std.proofs.Common.{◌≡◌, ◌∙◌, ℕ, ◌+◌, ◌-◌, ◌≤◌, ◌<◌, ◌^◌, Bool, true, false, List, [], ◌∷◌, ◌++◌, length, take, drop, map, Option, Some, None, refl, sym, ap, ap₂, arith, append_assoc, length-append}
use Rattle.std.specs.Prelude.{codes, decimal, if◌then◌else◌, ◌&&◌, not, nat_le}
use Rattle.std.specs.Str.Parse.{digits_value}
use Rattle.std.proofs.Math.Seq.{drop-append_seam, take-append_seam}
use Rattle.std.proofs.lemmas.Bool.{leb-true}
use Rattle.std.proofs.lemmas.Fmt.{decimal_is_IsNumeral}
use Rattle.std.proofs.lemmas.List.{length-map, append-nil}
use Rattle.serde_json.specs.Data.{string}
use Rattle.canvas_task.specs.Text.{Text}
use Rattle.canvas_values.proofs.ComposedLemmas.{both}
use Rattle.canvas_semantics.specs.Line.{in_group}
use Rattle.canvas_semantics.specs.PlacedLine.{PLine, p_stop, p_step, p_group_end, p_chord_end, PLines, no_p_lines, and_p_line, strip}
use Rattle.canvas_envelope.specs.Content.{Content}
use Rattle.canvas_envelope.specs.Fits.{is_task_number, how_many, line_ok, members_ok, most_members}
use Rattle.canvas_codec.proofs.RoundTrip.{chord_parts}
use Rattle.canvas_celery.specs.Run.{piece, run_group}
use Rattle.canvas_celery.specs.Keys.{size_key}
use Rattle.canvas_celery.specs.Starting.{chord_sizes, starting, all_starting}
use Rattle.canvas_celery.specs.Resp.{header_bytes, words_bytes, command_bytes, resp}
use Rattle.canvas_celery.specs.Reading.{◌>>=◌}
use Rattle.canvas_celery.specs.Setting.{Setting}
use Rattle.canvas_celery.specs.Script.{database_words, script_keys, script_arguments, script_command}
use Rattle.canvas_celery.specs.Transaction.{size_command, select_backend, select_broker, sizes_between, transaction}
use Rattle.canvas_celery.specs.Start.{commands, start}
use Rattle.canvas_celery.specs.MessageReading.{group_number, read_message}
use Rattle.canvas_celery.specs.ExportReading.{AreNamed, group_in, paired, all_but_last, script_sizes, script_texts, sizes_in, texts_in, all_sizes, all_texts, read_messages, read_commands, read_export, started}
use Rattle.canvas_celery.proofs.Exported.Named.{group_number_back, length-run_group}
use Rattle.canvas_celery.proofs.Exported.Reading.{many_bytes, read_back}

number_back : (n : ℕ) → n < 2 ^ 64 → digits_value 10 (decimal n) ≡ n
number_back n h = (decimal_is_IsNumeral n h).1

-- ---- keys of sizes

at_seam : {A : Type 0} (xs ys : List A) (k : ℕ) → k ≡ length xs → (take k (xs ++ ys) ≡ xs) × (drop k (xs ++ ys) ≡ ys)
at_seam xs ys k h = (ap (λ n. take n (xs ++ ys)) h ∙ take-append_seam xs ys, ap (λ n. drop n (xs ++ ys)) h ∙ drop-append_seam xs ys)

ends_in : (front id back : Text) → length id ≡ 36 → length back ≡ 2 → piece (length (front ++ (id ++ back)) - 38) 36 (front ++ (id ++ back)) ≡ id
ends_in front id back h k =
    let long : length (front ++ (id ++ back)) - 38 ≡ length front = omega (arith, length-append front (id ++ back), length-append id back, h, k) in
    ap (take 36) ((at_seam front (id ++ back) (length (front ++ (id ++ back)) - 38) long).1) ∙ (at_seam id back 36 (sym h)).0

pub key_back : (run prefix : Text) (g : ℕ) → length run ≡ 22 → is_task_number g ≡ true → group_in (size_key run prefix g) ≡ g
key_back run prefix g whole ok =
    let front = prefix ++ codes "celery-taskset-meta-" in
    let id = run_group run g in
    let same : size_key run prefix g ≡ front ++ (id ++ codes ".s") = sym (append_assoc prefix (codes "celery-taskset-meta-") (id ++ codes ".s")) in
    ap group_in same
    ∙ (ap (λ t. group_number (string t)) (ends_in front id (codes ".s") (length-run_group run g whole) refl) ∙ group_number_back run g whole ok)

-- ---- by a script

pairs_back : (run prefix : Text) (zs : List (ℕ × ℕ)) → length run ≡ 22 → AreNamed zs
    → paired (map (λ z. size_key run prefix z.0) zs) (map (λ z. decimal z.1) zs) ≡ zs
pairs_back run prefix [] whole h = refl
pairs_back run prefix (z ∷ zs) whole h =
    ap₂ (λ p ps. p ∷ ps) (ap₂ (λ x y. (x, y)) (key_back run prefix z.0 whole h.0) (number_back z.1 h.1)) (pairs_back run prefix zs whole h.2)

behind_databases : (d : Option (ℕ × ℕ)) (e : Text) (ws : List Text) → drop 3 (e ∷ (database_words d ++ ws)) ≡ ws
behind_databases None e ws = refl
behind_databases (Some d) e ws = refl

but_last : (ms : List Text) (w : Text) → all_but_last (ms ++ w ∷ []) ≡ ms
but_last ms w =
    let long : length (ms ++ w ∷ []) - 1 ≡ length ms = omega (arith, length-append ms (w ∷ [])) in
    (at_seam ms (w ∷ []) (length (ms ++ w ∷ []) - 1) long).0

-- the sizes and texts that a script's keys and arguments hold
script_split : (run : Text) (s : Setting) (zs : List (ℕ × ℕ)) (ms : List Text) (k : ℕ) → k ≡ length zs + 2
    → (drop 2 (take k (script_keys run s zs ++ script_arguments s zs ms)) ≡ map (λ z. size_key run s.prefix z.0) zs)
    × (take (k - 2) (drop 3 (drop k (script_keys run s zs ++ script_arguments s zs ms))) ≡ map (λ z. decimal z.1) zs)
    × (drop (k - 2) (drop 3 (drop k (script_keys run s zs ++ script_arguments s zs ms))) ≡ ms ++ codes "whole" ∷ [])
script_split run s zs ms k h =
    let ks = map (λ z. size_key run s.prefix z.0) zs in
    let vs = map (λ z. decimal z.1) zs in
    let arguments = script_arguments s zs ms in
    let first : k ≡ length (script_keys run s zs) = omega (arith, h, length-map zs (λ z. size_key run s.prefix z.0)) in
    let second : k - 2 ≡ length vs = omega (arith, h, length-map zs (λ z. decimal z.1)) in
    let cut = at_seam (script_keys run s zs) arguments k first in
    let rest : drop 3 (drop k (script_keys run s zs ++ arguments)) ≡ vs ++ (ms ++ codes "whole" ∷ []) =
    ap (drop 3) cut.1 ∙ behind_databases s.databases (decimal s.expires) (vs ++ (ms ++ codes "whole" ∷ [])) in
    let parts = at_seam vs (ms ++ codes "whole" ∷ []) (k - 2) second in
    (ap (drop 2) cut.0, ap (take (k - 2)) rest ∙ parts.0, ap (drop (k - 2)) rest ∙ parts.1)

script_back : (run : Text) (s : Setting) (zs : List (ℕ × ℕ)) (ms : List Text) → length run ≡ 22 → AreNamed zs → length zs + 2 < 2 ^ 64
    → (all_sizes (script_command run s zs ms ∷ []) ≡ zs) × (all_texts (script_command run s zs ms ∷ []) ≡ ms)
script_back run s zs ms whole h few =
    let ws = script_keys run s zs ++ script_arguments s zs ms in
    let k = digits_value 10 (decimal (length zs + 2)) in
    let parts = script_split run s zs ms k (number_back (length zs + 2) few) in (
      append-nil (script_sizes k ws) ∙ (ap₂ paired parts.0 parts.1 ∙ pairs_back run s.prefix zs whole h),
      append-nil (script_texts k ws) ∙ (ap all_but_last parts.2 ∙ but_last ms (codes "whole")),
    )

-- ---- by a transaction

sizes_both : (cs ds : List (List Text)) → all_sizes (cs ++ ds) ≡ all_sizes cs ++ all_sizes ds
sizes_both [] ds = refl
sizes_both (c ∷ cs) ds = ap (λ zs. sizes_in c ++ zs) (sizes_both cs ds) ∙ sym (append_assoc (sizes_in c) (all_sizes cs) (all_sizes ds))

texts_both : (cs ds : List (List Text)) → all_texts (cs ++ ds) ≡ all_texts cs ++ all_texts ds
texts_both [] ds = refl
texts_both (c ∷ cs) ds = ap (λ ts. texts_in c ++ ts) (texts_both cs ds) ∙ sym (append_assoc (texts_in c) (all_texts cs) (all_texts ds))

backend_nothing : (d : Option (ℕ × ℕ)) → (all_sizes (select_backend d) ≡ []) × (all_texts (select_backend d) ≡ [])
backend_nothing None = (refl, refl)
backend_nothing (Some d) = (refl, refl)

broker_nothing : (d : Option (ℕ × ℕ)) → (all_sizes (select_broker d) ≡ []) × (all_texts (select_broker d) ≡ [])
broker_nothing None = (refl, refl)
broker_nothing (Some d) = (refl, refl)

set_back : (run prefix : Text) (expires : ℕ) (zs : List (ℕ × ℕ)) → length run ≡ 22 → AreNamed zs
    → (all_sizes (map (λ z. size_command run prefix expires z) zs) ≡ zs) × (all_texts (map (λ z. size_command run prefix expires z) zs) ≡ [])
set_back run prefix expires [] whole h = (refl, refl)
set_back run prefix expires (z ∷ zs) whole h =
    let rest = set_back run prefix expires zs whole h.2 in (
      ap₂ (λ p ps. p ∷ ps) (ap₂ (λ x y. (x, y)) (key_back run prefix z.0 whole h.0) (number_back z.1 h.1)) rest.0,
      rest.1,
    )

between_back : (run : Text) (s : Setting) (zs : List (ℕ × ℕ)) → length run ≡ 22 → AreNamed zs
    → (all_sizes (sizes_between run s zs) ≡ zs) × (all_texts (sizes_between run s zs) ≡ [])
between_back run s zs whole h =
    let sets = map (λ z. size_command run s.prefix s.expires z) zs in
    let a = backend_nothing s.databases in
    let b = set_back run s.prefix s.expires zs whole h in
    let c = broker_nothing s.databases in (
      sizes_both (select_backend s.databases) (sets ++ select_broker s.databases)
          ∙ ap₂ (λ x y. x ++ y) a.0 (sizes_both sets (select_broker s.databases) ∙ ap₂ (λ x y. x ++ y) b.0 c.0 ∙ append-nil zs),
      texts_both (select_backend s.databases) (sets ++ select_broker s.databases)
          ∙ ap₂ (λ x y. x ++ y) a.1 (texts_both sets (select_broker s.databases) ∙ ap₂ (λ x y. x ++ y) b.1 c.1),
    )

transaction_back : (run : Text) (s : Setting) (zs : List (ℕ × ℕ)) (ms : List Text) → length run ≡ 22 → AreNamed zs
    → (all_sizes (transaction run s zs ms) ≡ zs) × (all_texts (transaction run s zs ms) ≡ ms)
transaction_back run s zs ms whole h =
    let end : List (List Text) = (codes "LPUSH" ∷ s.queue ∷ ms) ∷ (codes "EXEC" ∷ []) ∷ [] in
    let b = between_back run s zs whole h in (
      sizes_both (sizes_between run s zs) end ∙ ap (λ x. x ++ []) b.0 ∙ append-nil zs,
      texts_both (sizes_between run s zs) end ∙ ap₂ (λ x y. x ++ y) b.1 (append-nil ms),
    )

-- ---- either

few_sizes : (run : Text) (s : Setting) (zs : List (ℕ × ℕ)) (ms : List Text) → length (resp (script_command run s zs ms ∷ [])) < 2 ^ 64 → length zs + 2 < 2 ^ 64
few_sizes run s zs ms h =
    let c = script_command run s zs ms in
    let keys = length-map zs (λ z. size_key run s.prefix z.0) in
    let all : length (resp (c ∷ [])) ≡ length (command_bytes c) + 0 = length-append (command_bytes c) [] in
    let bytes : length (command_bytes c) ≡ length (header_bytes (codes "*") (length c)) + length (words_bytes c) =
    length-append (header_bytes (codes "*") (length c)) (words_bytes c) in
    let words : length (script_keys run s zs ++ script_arguments s zs ms) ≡ length (script_keys run s zs) + length (script_arguments s zs ms) = length-append
    (script_keys run s zs) (script_arguments s zs ms) in
    omega (arith, h, all, bytes, many_bytes c, words, keys)

either_back : (b : Bool) (run : Text) (s : Setting) (zs : List (ℕ × ℕ)) (ms : List Text) → length run ≡ 22 → AreNamed zs
    → length (resp (if b then script_command run s zs ms ∷ [] else transaction run s zs ms)) < 2 ^ 64
    → (all_sizes (if b then script_command run s zs ms ∷ [] else transaction run s zs ms) ≡ zs)
    × (all_texts (if b then script_command run s zs ms ∷ [] else transaction run s zs ms) ≡ ms)
either_back true run s zs ms whole h long = script_back run s zs ms whole h (few_sizes run s zs ms long)
either_back false run s zs ms whole h long = transaction_back run s zs ms whole h

messages_back : (ts : List Text) (cs : List Content) → map read_message ts ≡ map Some cs → read_messages ts ≡ Some cs
messages_back [] [] h = refl
messages_back [] (c ∷ cs) h = absurd cc
messages_back (t ∷ ts) [] h = absurd cc
messages_back (t ∷ ts) (c ∷ cs) h =
    let first : read_message t ≡ Some c = cc in
    let rest : map read_message ts ≡ map Some cs = cc in
    ap (λ o. o >>= λ m. read_messages ts >>= λ ms. Some (m ∷ ms)) first ∙ ap (λ o. o >>= λ ms. Some (c ∷ ms)) (messages_back ts cs rest)

pub export_back : (run : Text) → length run ≡ 22 → (s : Setting) (zs : List (ℕ × ℕ)) → AreNamed zs → (ts : List Text) (cs : List Content)
    → map read_message ts ≡ map Some cs
    → length (resp (start run s zs ts)) < 2 ^ 64 → read_export (resp (start run s zs ts)) ≡ Some (started zs cs)
export_back run whole s zs h [] [] is long = refl
export_back run whole s zs h [] (c ∷ cs) is long = absurd cc
export_back run whole s zs h (t ∷ ts) [] is long = absurd cc
export_back run whole s zs h (t ∷ ts) (c ∷ cs) is long =
    let both = either_back s.by_script run s zs (t ∷ ts) whole h long in
    ap (λ o. o >>= read_commands) (read_back (commands run s zs (t ∷ ts)) long)
    ∙ (ap₂ (λ xs ys. read_messages xs >>= λ ms. Some (ys, ms)) both.1 both.0 ∙ ap (λ o. o >>= λ ms. Some (zs, ms)) (messages_back (t ∷ ts) (c ∷ cs) is))

-- ---- the chords that start with a line that fits a message

named_both : (xs ys : List (ℕ × ℕ)) → AreNamed xs → AreNamed ys → AreNamed (xs ++ ys)
named_both [] ys h k = k
named_both (x ∷ xs) ys h k = (h.0, h.1, named_both xs ys h.2 k)

sizes_named : (g : ℕ) (ms : PLines) (h b : List (ℕ × ℕ)) → is_task_number g ≡ true → how_many ms ≤ most_members → AreNamed h → AreNamed b
    → AreNamed (chord_sizes g ms h b)
sizes_named g no_p_lines h b here few k l = l
sizes_named g (and_p_line m ms) h b here few k l = (here, omega (arith, few), k)

few_members : (g : ℕ) (ms : PLines) (b : PLine) (last : Bool) → line_ok last (p_chord_end g ms b) ≡ true → how_many ms ≤ most_members
few_members g ms b last ok =
    let p = both (is_task_number g && nat_le (how_many ms) most_members && members_ok ms) (line_ok last b) ok in
    let q = both (is_task_number g && nat_le (how_many ms) most_members) (members_ok ms) p.0 in
    leb-true (how_many ms) most_members (both (is_task_number g) (nat_le (how_many ms) most_members) q.0).1

mutual
  pub starting_named : (last : Bool) (l : PLine) → line_ok last l ≡ true → AreNamed (starting l)
  starting_named last p_stop ok = tt
  starting_named last (p_step t l) ok = tt
  starting_named last (p_group_end g ms) ok = all_named ms (both (is_task_number g) (members_ok ms) ok).1
  starting_named last (p_chord_end g ms b) ok =
      let p = chord_parts last g ms b ok in
      sizes_named g ms (all_starting ms) (starting b) p.here (few_members g ms b last ok) (all_named ms p.members) (starting_named last b p.body)

  all_named : (ms : PLines) → members_ok ms ≡ true → AreNamed (all_starting ms)
  all_named no_p_lines ok = tt
  all_named (and_p_line m ms) ok =
      let p = both (line_ok false m && not (in_group (strip m))) (members_ok ms) ok in
      named_both (starting m) (all_starting ms) (starting_named false m (both (line_ok false m) (not (in_group (strip m))) p.0).0) (all_named ms p.1)
