-- An envelope is read as what it says where no refusal holds, and else refused by the first that does.
use Rattle.std.proofs.Common.{◌≡◌, ◌≢◌, ◌∙◌, ℕ, List, [], ◌∷◌, ◌++◌, map, reverse, Bool, true, false, Option, Some, None, Result, Ok, Err, refl, sym, ap, ap₂}
use Rattle.std.proofs.Math.Bool.{or_assoc, or_comm}
use Rattle.std.proofs.lemmas.List.{reverse-append}
use Rattle.std.proofs.lemmas.List.Folds.{list_any-append}
use Rattle.std.specs.Prelude.{IfOk, IfErr, codes, not, ◌&&◌, ◌||◌, if◌then◌else◌, is_some, is_none, unwrap_or}
use Rattle.std.specs.List.{list_any}
use Rattle.std.specs.Option.{option_and_then}
use Rattle.serde_json.specs.Data.{Data, null, array, item, no_items}
use Rattle.serde_json.specs.Find.{get}
use Rattle.canvas_values.specs.CanvasText.{json_of}
use Rattle.canvas_values.specs.Refusals.{named_of}
use Rattle.canvas_task.specs.Text.{Text}
use Rattle.canvas_values.specs.Fields.{field, listed, object_members, contents, is_null, is_list, is_object, is_object_or_null, is_list_or_null}
use Rattle.canvas_values.specs.Answers.{fault_if, in_turn, judged}
use Rattle.canvas_values.specs.Grammar.{argument_of, arg_reading, named_reading, is_name, is_text}
use Rattle.canvas_values.specs.declared.fault.SigFault.{SigFault}
use Rattle.canvas_values.specs.declared.fault.SigFault.TheVariants.{BadArgs}
use Rattle.canvas_semantics.specs.PlacedLine.{PTask, PLine, p_step}
use Rattle.canvas_rewrite.specs.FrozenView.{p_steps}
use Rattle.canvas_envelope.specs.Content.{Content}
use Rattle.canvas_envelope.specs.EnvelopeContent.{task_number, place_from, line_from, task_in, last_in, line_in, args_in, kwargs_in, embed_in, content_in, content_said}
use Rattle.canvas_envelope.specs.EnvelopeFaults.{bad_place, bad_elements, bad_task, bad_last, bad_line, not_version_2, same_task, other_task, bad_id, bad_content_type, bad_body, bad_argument, bad_args, bad_members, bad_embed, first_of, refusals, envelope_fault, Says}
use Rattle.canvas_envelope.specs.Fits.{fits}
use Rattle.canvas_envelope.specs.FrozenGrammar.{task_of, group_of, levels}
use Rattle.canvas_codec.specs.steps.FrozenReading.{link_reading, step_reading, last_reading, line_reading, place_with}
use Rattle.canvas_codec.specs.steps.Reading.{Fails, Gives, ◌so◌, must, some_or, refused_as, is_version_2, is_that_task, correlates, is_group_or_null, ids_ok, id_reading, is_json, parts_of, GivenParts, given_reading, chain_reading, Embed, embed_ok, embed_reading, if_fits, content_of, message_reading, envelope_reading}
use Rattle.canvas_envelope.specs.declared.fault.MessageFault.{MessageFault}
use Rattle.canvas_envelope.specs.declared.fault.MessageFault.TheVariants.{NotJson, NotVersion2, BadId, BadContentType, BadBody, BadEmbed, Memory, BadArgs as bad_arguments}
use Rattle.canvas_codec.proofs.FrozenLaw.{seen, but_for, then_seen, made_seen, each_seen, unless_seen, argument_seen, named_seen, any_content, place_seen, level}

-- ---- the arguments

fault_if_so : (b : Bool) → is_some (fault_if b BadArgs) ≡ b
fault_if_so true = refl
fault_if_so false = refl

given_seen : (a k : Data) → seen (given_reading a k)
    ≡ but_for (not (is_list a) || not (is_object_or_null k) || list_any bad_argument (listed a) || list_any bad_argument (contents k))
    (record { args = map argument_of (listed a); kwargs = map named_of (object_members k) })
given_seen a k =
    let wrong = not (is_list a) || not (is_object_or_null k) in
    let said : GivenParts = record { args = map argument_of (listed a); kwargs = map named_of (object_members k) } in
    let first = list_any bad_argument (listed a) in
    let second = list_any bad_argument (contents k) in
    unless_seen (fault_if wrong BadArgs) _ (first || second) said
    (λ none. then_seen (in_turn arg_reading (listed a)) _ first second (map argument_of (listed a)) said
    (each_seen arg_reading bad_argument argument_of argument_seen (listed a))
    (made_seen (in_turn named_reading (object_members k)) (λ kwargs. record { args = map argument_of (listed a); kwargs = kwargs }) second
    (map named_of (object_members k))
    (each_seen named_reading (λ e. bad_argument e.1) named_of named_seen (object_members k)
    ∙ ap (λ b. but_for b (map named_of (object_members k))) (any_content (object_members k)))))
    ∙ ap (λ b. but_for b said) (ap (λ b. b || (first || second)) (fault_if_so wrong) ∙ sym (or_assoc wrong first second))

-- ---- what follows, the last element first

last_first : {A : Type 0} (x : A) (xs : List A) → reverse (x ∷ xs) ≡ reverse xs ++ x ∷ []
last_first x xs = reverse-append (x ∷ []) xs

map_end : {A B : Type 0} (f : A → B) (xs : List A) (x : A) → map f (xs ++ x ∷ []) ≡ map f xs ++ f x ∷ []
map_end f [] x = refl
map_end f (y ∷ xs) x = ap (λ ys. f y ∷ ys) (map_end f xs x)

map_reversed : {A B : Type 0} (f : A → B) (xs : List A) → reverse (map f xs) ≡ map f (reverse xs)
map_reversed f [] = refl
map_reversed f (x ∷ xs) =
    last_first (f x) (map f xs) ∙ ap (λ ys. ys ++ f x ∷ []) (map_reversed f xs) ∙ sym (map_end f (reverse xs) x) ∙ sym (ap (map f) (last_first x xs))

any_reversed : (p : Data → Bool) (ds : List Data) → list_any p (reverse ds) ≡ list_any p ds
any_reversed p [] = refl
any_reversed p (d ∷ ds) =
    ap (list_any p) (last_first d ds) ∙ list_any-append p (reverse ds) (d ∷ []) ∙ ap (λ b. b || (p d || false)) (any_reversed p ds)
    ∙ ap (λ b. list_any p ds || b) (or_comm (p d) false) ∙ or_comm (list_any p ds) (p d)

elements_apart : (s e : Data → Bool) (ds : List Data) (d : Data) → bad_elements s e (ds ++ d ∷ []) ≡ (list_any s ds || e d)
elements_apart s e [] d = refl
elements_apart s e (x ∷ []) d = ap (λ b. b || e d) (sym (or_comm (s x) false))
elements_apart s e (x ∷ y ∷ ds) d = ap (λ b. s x || b) (elements_apart s e (y ∷ ds) d) ∙ sym (or_assoc (s x) (list_any s (y ∷ ds)) (e d))

line_apart : (s : Data → PTask) (e : Data → PLine) (ds : List Data) (d : Data) → line_from s e (ds ++ d ∷ []) ≡ p_steps (map s ds) (e d)
line_apart s e [] d = refl
line_apart s e (x ∷ []) d = refl
line_apart s e (x ∷ y ∷ ds) d = ap (p_step (s x)) (line_apart s e (y ∷ ds) d)

task_is : (d : Data) → seen (link_reading levels d) ≡ but_for (bad_task d) (task_in d)
unfolding bad_task task_in
task_is d = (level levels).links d

step_is : (d : Data) → seen (step_reading levels d) ≡ but_for (bad_task d) (task_in d)
unfolding bad_task task_in
step_is d = (level levels).steps d

last_is : (d : Data) → seen (last_reading levels d) ≡ but_for (bad_last d) (last_in d)
unfolding bad_last last_in
last_is d = (level levels).lasts d

line_is : (d : Data) → seen (line_reading levels d) ≡ but_for (bad_line d) (line_in d)
unfolding bad_line line_in
line_is d = (level levels).lines d

chain_is : (ds : List Data) → seen (chain_reading ds) ≡ but_for (bad_elements bad_task bad_last (reverse ds)) (line_from task_in last_in (reverse ds))
chain_is [] = refl
chain_is (d ∷ ds) =
    let others = list_any bad_task ds in
    let said = p_steps (reverse (map task_in ds)) (last_in d) in
    then_seen (last_reading levels d) _ (bad_last d) others (last_in d) said (last_is d)
    (made_seen (in_turn (step_reading levels) ds) (λ ts. p_steps (reverse ts) (last_in d)) others (map task_in ds)
    (each_seen (step_reading levels) bad_task task_in step_is ds))
    ∙ ap₂ but_for (or_comm (bad_last d) others ∙ ap (λ b. b || bad_last d) (sym (any_reversed bad_task ds))
    ∙ sym (elements_apart bad_task bad_last (reverse ds) d)
    ∙ sym (ap (bad_elements bad_task bad_last) (last_first d ds)))
    (ap (λ ts. p_steps ts (last_in d)) (map_reversed task_in ds) ∙ sym (line_apart task_in last_in (reverse ds) d)
    ∙ sym (ap (line_from task_in last_in) (last_first d ds)))

-- ---- what goes with the call

abbrev embed_said : (group embed : Data) → Embed
embed_said group e =
    record {
      links = map task_in (listed (field (codes "callbacks") e));
      errbacks = map task_in (listed (field (codes "errbacks") e));
      place = place_from line_in group (field (codes "chord") e);
      rest = line_from task_in last_in (reverse (listed (field (codes "chain") e)));
    }

-- one test after the other, or all of them
all_four : (a b c d w x y z : Bool) → (not (a && b && c && d) || (w || (x || (y || z)))) ≡ (not a || not b || not c || not d || w || x || y || z)
all_four false b c d w x y z = refl
all_four true false c d w x y z = refl
all_four true true false d w x y z = refl
all_four true true true false w x y z = refl
all_four true true true true true x y z = refl
all_four true true true true false true y z = refl
all_four true true true true false false true z = refl
all_four true true true true false false false z = refl

embed_seen : (group e : Data) → seen (embed_reading group e) ≡ but_for (bad_members group e) (embed_said group e)
embed_seen group e =
    let callbacks = listed (field (codes "callbacks") e) in
    let errbacks = listed (field (codes "errbacks") e) in
    let chain = listed (field (codes "chain") e) in
    let linked = list_any bad_task callbacks in
    let failing = list_any bad_task errbacks in
    let placed = bad_place bad_line group (field (codes "chord") e) in
    let following = bad_elements bad_task bad_last (reverse chain) in
    let place = place_from line_in group (field (codes "chord") e) in
    unless_seen (fault_if (not (embed_ok e)) BadArgs) _ (linked || (failing || (placed || following))) (embed_said group e)
    (λ none. then_seen (in_turn (link_reading levels) callbacks) _ linked (failing || (placed || following)) (map task_in callbacks) (embed_said group e)
    (each_seen (link_reading levels) bad_task task_in task_is callbacks)
    (then_seen (in_turn (link_reading levels) errbacks) _ failing (placed || following) (map task_in errbacks) (embed_said group e)
    (each_seen (link_reading levels) bad_task task_in task_is errbacks)
    (then_seen (place_with (line_reading levels) group (field (codes "chord") e)) _ placed following place (embed_said group e)
    (place_seen (line_reading levels) bad_line line_in line_is group (field (codes "chord") e))
    (made_seen (chain_reading chain) (λ rest. record { links = map task_in callbacks; errbacks = map task_in errbacks; place = place; rest = rest }) following
    (line_from task_in last_in (reverse chain)) (chain_is chain)))))
    ∙ ap (λ b. but_for b (embed_said group e))
    (ap (λ b. b || (linked || (failing || (placed || following)))) (fault_if_so (not (embed_ok e)))
    ∙ all_four (is_object_or_null e) (is_list_or_null (field (codes "callbacks") e)) (is_list_or_null (field (codes "errbacks") e)) (is_list_or_null (field (codes "chain") e))
    linked failing placed following)

-- ---- identifiers, and the parts of a body

same_is : (k : ℕ) (o : Option ℕ) → is_that_task k o ≡ same_task o (Some k)
same_is k None = refl
same_is k (Some j) = refl

correlation_is : (k : ℕ) (o : Option Data) → other_task (Some k) o ≡ not (correlates k o)
correlation_is k None = refl
correlation_is k (Some d) = ap not (sym (same_is k (task_of d)))

ids_by : (a b c w : Bool) (k : ℕ) → w ≡ not c → (if a && b && c then Some k else None) ≡ but_for (not a || not b || w) k
ids_by true true true true k h = absurd cc
ids_by true true true false k h = refl
ids_by true true false true k h = refl
ids_by true true false false k h = absurd cc
ids_by true false c w k h = refl
ids_by false b c w k h = refl

id_by : (p h : Data) (o : Option ℕ)
    → option_and_then (λ k. if ids_ok p h k then Some k else None) o
    ≡ but_for (is_none o || not (is_null (field (codes "group") h) || is_some (group_of (field (codes "group") h))) || not (is_object p) || other_task o (get (codes "correlation_id") p)) (unwrap_or o 0)
id_by p h None = refl
id_by p h (Some k) =
    ids_by (is_group_or_null (field (codes "group") h)) (is_object p) (correlates k (get (codes "correlation_id") p)) (other_task (Some k) (get (codes "correlation_id") p)) k
    (correlation_is k (get (codes "correlation_id") p))

id_is : (p h : Data) → id_reading p h ≡ but_for (bad_id p h) (task_number (field (codes "id") h))
id_is p h = id_by p h (task_of (field (codes "id") h))

parts_are : (b : Data) → parts_of b ≡ but_for (bad_body b) (record { args = args_in b; kwargs = kwargs_in b; embed = embed_in b })
parts_are (array (item a (item k (item e no_items)))) = refl
parts_are b = refl

-- ---- one refusal after the other

row : {A B : Type 0} (b : Bool) (e : MessageFault) (rows : List (Bool × MessageFault)) (r : Result A MessageFault) (f : A → Result B MessageFault) (x : A)
    (y : B)
    → r ≡ some_or e (but_for b x) → f x ≡ judged (first_of rows) y → (r so f) ≡ judged (first_of ((b, e) ∷ rows)) y
row true e rows r f x y h k = ap (λ r. r so f) h
row false e rows r f x y h k = ap (λ r. r so f) h ∙ k

not_both : (a b : Bool) → (not a || not b) ≡ not (a && b)
not_both true b = refl
not_both false b = refl

must_row : {B : Type 0} (ok b : Bool) (e : MessageFault) (rows : List (Bool × MessageFault)) (r : Result B MessageFault) (y : B)
    → b ≡ not ok → r ≡ judged (first_of rows) y → must ok e r ≡ judged (first_of ((b, e) ∷ rows)) y
must_row true true e rows r y h k = absurd cc
must_row true false e rows r y h k = k
must_row false true e rows r y h k = refl
must_row false false e rows r y h k = absurd cc

refused_is : {A : Type 0} (e : MessageFault) (r : Result A SigFault) → refused_as e r ≡ some_or e (seen r)
refused_is e (Ok x) = refl
refused_is e (Err f) = refl

check_by : (b : Bool) (c : Content) → (if b then Ok c else Err BadEmbed) ≡ judged (first_of ((not b, BadEmbed) ∷ [])) c
check_by true c = refl
check_by false c = refl

-- the last of them: a part that is refused, or a whole that no message is
last_row : (b w : Bool) (r : Result Embed MessageFault) (f : Embed → Content) (x : Embed) (c : Content) → r ≡ some_or BadEmbed (but_for b x) → f x ≡ c
    → w ≡ not (fits c)
    → (r so λ e. if_fits (f e)) ≡ judged (first_of ((b || w, BadEmbed) ∷ [])) c
last_row true w r f x c h same off = ap (λ r. r so λ e. if_fits (f e)) h
last_row false w r f x c h same off =
    ap (λ r. r so λ e. if_fits (f e)) h ∙ ap if_fits same ∙ check_by (fits c) c ∙ ap (λ b. judged (first_of ((b, BadEmbed) ∷ [])) c) (sym off)

message_judged : (p h b : Data) → message_reading p h b ≡ judged (first_of (refusals p h b)) (content_in h b)
message_judged p h b =
    let k = task_number (field (codes "id") h) in
    let given : GivenParts = record { args = map argument_of (listed (args_in b)); kwargs = map named_of (object_members (kwargs_in b)) } in
    let group = field (codes "group") h in
    let after_args = (bad_embed h b, BadEmbed) ∷ [] in
    let after_body = (bad_args b, bad_arguments) ∷ after_args in
    let after_type = (bad_body b, BadBody) ∷ after_body in
    let after_id = (bad_content_type p, BadContentType) ∷ after_type in
    let after_version = (bad_id p h, BadId) ∷ after_id in
    must_row (is_version_2 h) (not_version_2 h) NotVersion2 after_version _ (content_in h b) (not_both (is_object h) (is_name (field (codes "task") h)))
    (row (bad_id p h) BadId after_id (some_or BadId (id_reading p h)) _ k (content_in h b) (ap (some_or BadId) (id_is p h))
    (must_row (is_json p) (bad_content_type p) BadContentType after_type _ (content_in h b)
    (not_both (is_text (codes "application/json") (field (codes "content_type") p)) (is_text (codes "utf-8") (field (codes "content_encoding") p)))
    (row (bad_body b) BadBody after_body (some_or BadBody (parts_of b)) _ (record { args = args_in b; kwargs = kwargs_in b; embed = embed_in b })
    (content_in h b)
    (ap (some_or BadBody) (parts_are b))
    (row (bad_args b) bad_arguments after_args (refused_as bad_arguments (given_reading (args_in b) (kwargs_in b))) _ given (content_in h b)
    (refused_is bad_arguments (given_reading (args_in b) (kwargs_in b)) ∙ ap (some_or bad_arguments) (given_seen (args_in b) (kwargs_in b)))
    (last_row (bad_members group (embed_in b)) (not (fits (content_in h b))) (refused_as BadEmbed (embed_reading group (embed_in b))) (content_of h k given)
    (embed_said group (embed_in b)) (content_in h b)
    (refused_is BadEmbed (embed_reading group (embed_in b)) ∙ ap (some_or BadEmbed) (embed_seen group (embed_in b))) refl refl)))))

-- ---- the three texts

texts_by : (p h b : Option Data)
    → (some_or NotJson p so λ p. some_or NotJson h so λ h. some_or NotJson b so λ b. message_reading p h b)
    ≡ judged (first_of ((is_none p || is_none h || is_none b, NotJson) ∷ refusals (unwrap_or p null) (unwrap_or h null) (unwrap_or b null)))
    (content_in (unwrap_or h null) (unwrap_or b null))
texts_by None h b = refl
texts_by (Some p) None b = refl
texts_by (Some p) (Some h) None = refl
texts_by (Some p) (Some h) (Some b) = message_judged p h b

-- the order of refusals, and what is read where there is none
pub envelope_judged : (p h b : Text) → envelope_reading p h b ≡ judged (envelope_fault p h b) (content_said h b)
unfolding envelope_fault content_said
envelope_judged p h b = texts_by (json_of p) (json_of h) (json_of b)

-- ---- from one to the other

judged_ok : {A : Type 0} (o : Option MessageFault) (x y : A) → judged o x ≡ Ok y → (o ≡ None) × (x ≡ y)
judged_ok None x y h = (refl, (let same : x ≡ y = cc in same))
judged_ok (Some e) x y h = absurd cc

judged_err : {A : Type 0} (o : Option MessageFault) (x : A) (e : MessageFault) → judged o x ≡ Err e → o ≡ Some e
judged_err None x e h = absurd cc
judged_err (Some f) x e h = let same : f ≡ e = cc in ap Some same

pub reading_says : (p h b : Text) (c : Content) → envelope_reading p h b ≡ Ok c → Says p h b c
reading_says p h b c read = judged_ok (envelope_fault p h b) (content_said h b) c (sym (envelope_judged p h b) ∙ read)

pub says_reading : (p h b : Text) (c : Content) → Says p h b c → envelope_reading p h b ≡ Ok c
says_reading p h b c says = envelope_judged p h b ∙ ap (λ o. judged o (content_said h b)) says.0 ∙ ap Ok says.1

pub reading_refused : (p h b : Text) (e : MessageFault) → envelope_reading p h b ≡ Err e → envelope_fault p h b ≡ Some e
reading_refused p h b e read = judged_err (envelope_fault p h b) (content_said h b) e (sym (envelope_judged p h b) ∙ read)

pub refused_reading : (p h b : Text) (e : MessageFault) → envelope_fault p h b ≡ Some e → envelope_reading p h b ≡ Err e
refused_reading p h b e fault = envelope_judged p h b ∙ ap (λ o. judged o (content_said h b)) fault

-- ---- what a call found

fails_is : {Y : Type 0} (e : MessageFault) (r : Result Y MessageFault) → Fails e r → e ≢ Memory → r ≡ Err e
fails_is Memory r h n = absurd (n refl)
fails_is e r h n = h

pub found_says : (r : Result Content MessageFault) (p h b : Text) → Gives (λ m. m) r (envelope_reading p h b) → IfOk r (λ m. Says p h b m)
found_says (Ok m) p h b found = reading_says p h b m found
found_says (Err e) p h b found = tt

pub found_refused : (r : Result Content MessageFault) (p h b : Text) → Gives (λ m. m) r (envelope_reading p h b)
    → IfErr r (λ e. e ≢ Memory → envelope_fault p h b ≡ Some e)
found_refused (Ok m) p h b found = tt
found_refused (Err e) p h b found = λ n. reading_refused p h b e (fails_is e (envelope_reading p h b) found n)
