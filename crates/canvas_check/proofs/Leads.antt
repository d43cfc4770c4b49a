-- The pointer to each signature of a listing leads to it (RFC 6901).
use Rattle.std.proofs.Common.{◌≡◌, ◌⊎◌, inl, inr, ℕ, zero, suc, ◌+◌, Bool, true, false, List, [], ◌∷◌, ◌++◌, map, find, Option, Some, None, option_and_then, decimal, refl, sym, ap, subst, ◌∙◌, arith, append-nil, append_assoc}
use Rattle.std.specs.Prelude.{codes, unwrap_or, ◌==◌, ◌-◌, if◌then◌else◌}
use Rattle.serde_json.specs.Data.{Data, null, boolean, number, string, array, object, Items, no_items, item, depth}
use Rattle.serde_json.specs.Find.{get, get_item, get_member, step, walk, pointer}
use Rattle.serde_json.proofs.Paths.{Lacks, walk_part, walk_last, unescape_plain}
use Rattle.canvas_task.specs.Text.{Text}
use Rattle.canvas_values.specs.Fields.{field, subtype, tasks, header, body, link, link_error, items, listed, is_null}
use Rattle.canvas_values.specs.Grammar.{primitive_of}
use Rattle.canvas_values.specs.declared.primitive.Primitive.{Primitive}
use Rattle.canvas_values.specs.declared.primitive.Primitive.TheVariants as kind
use Rattle.canvas_check.specs.FileOrder.{Sighted, behind, itself, in_each, in_kwargs, from_index, one_in, some_in, sighted_within, signatures}
use Rattle.canvas_semantics.specs.Bounds.{most_tasks, most_groups}
use Rattle.canvas_values.specs.declared.fault.SigFault.{SigFault}
use Rattle.canvas_values.specs.declared.fault.SigFault.TheVariants as fault
use Rattle.canvas_check.specs.Refused.{is_refused, first_refused}
use Rattle.canvas_check.specs.Limits.{is_nested, is_too_deep, too_deep, is_task, is_counted_group, past, place_of}
use Rattle.canvas_check.specs.Pointer.{field_text, index_text, step_text, pointer_text, IsIndex, AreIndices}
use Rattle.canvas_check.specs.declared.step.Field.{Field}
use Rattle.canvas_check.specs.declared.step.Field.TheVariants as field
use Rattle.canvas_check.specs.declared.step.Step.{Step}
use Rattle.canvas_check.proofs.Indices.{lacks, index_lacks, index_of-decimal}

-- ---- one part of a pointer

-- empty, or a part and what follows it
abbrev IsPointer : Text → Type 0
IsPointer rest = (rest ≡ []) ⊎ ((more : Text) × (rest ≡ 47 ∷ more))

over_part : (part rest : Text) (d x : Data) → Lacks 47 part → IsPointer rest → step part d ≡ Some x → pointer (47 ∷ part ++ rest) d ≡ pointer rest x
over_part part rest d x plain (inl e) is =
    ap (λ r. walk [] (part ++ r) d) e ∙ ap (λ r. walk [] r d) (append-nil part) ∙ walk_last part d plain ∙ is ∙ ap (λ r. pointer r x) (sym e)
over_part part rest d x plain (inr (more, e)) is =
    ap (λ r. walk [] (part ++ r) d) e ∙ walk_part part more d plain ∙ ap (option_and_then (walk [] more)) is ∙ ap (λ r. pointer r x) (sym e)

over_member : (k : Text) (d x : Data) → Lacks 126 k → get k d ≡ Some x → step k d ≡ Some x
over_member k (object ms) x plain is = ap (λ l. get_member l ms) (unescape_plain k plain) ∙ is
over_member k null x plain is = absurd cc
over_member k (boolean b) x plain is = absurd cc
over_member k (number n) x plain is = absurd cc
over_member k (string s) x plain is = absurd cc
over_member k (array ds) x plain is = absurd cc

there : (o : Option Data) → is_null (unwrap_or o null) ≡ false → o ≡ Some (unwrap_or o null)
there None h = absurd cc
there (Some x) h = refl

holder_there : (k : Text) (x : Data) → is_null (field k x) ≡ false → is_null x ≡ false
holder_there k null h = absurd cc
holder_there k (array ds) h = refl
holder_there k (boolean b) h = refl
holder_there k (number n) h = refl
holder_there k (string s) h = refl
holder_there k (object ms) h = refl

-- ---- a member of a member

record Plain (k : Text) : Type 0 where
  pub no_slash : Lacks 47 k
  pub no_tilde : Lacks 126 k

over_members : (l m rest : Text) (d : Data) → Plain l → Plain m → is_null (field m (field l d)) ≡ false → IsPointer rest
    → pointer (47 ∷ l ++ (47 ∷ m ++ rest)) d ≡ pointer rest (field m (field l d))
over_members l m rest d p q h r =
    over_part l (47 ∷ m ++ rest) d (field l d) p.no_slash (inr (m ++ rest, refl))
    (over_member l d (field l d) p.no_tilde (there (get l d) (holder_there m (field l d) h)))
    ∙ over_part m rest (field l d) (field m (field l d)) q.no_slash r (over_member m (field l d) (field m (field l d)) q.no_tilde (there (get m (field l d)) h))

-- the members that a field is
record Names (k : Field) (l m : Text) : Type 0 where
  pub outer : Plain l
  pub inner : Plain m
  pub spelled : (rest : Text) → field_text k ++ rest ≡ 47 ∷ l ++ (47 ∷ m ++ rest)

over_field : (k : Field) (l m rest : Text) (d x : Data) → Names k l m → field m (field l d) ≡ x → is_null x ≡ false → IsPointer rest
    → pointer (field_text k ++ rest) d ≡ pointer rest x
over_field k l m rest d x names is h r =
    ap (λ s. pointer s d) (names.spelled rest)
    ∙ over_members l m rest d names.outer names.inner (ap is_null is ∙ h) r ∙ ap (pointer rest) is

in_tasks : Names field.Elements (codes "kwargs") (codes "tasks")
in_tasks = record {
  outer = record { no_slash = lacks 47 (codes "kwargs") refl; no_tilde = lacks 126 (codes "kwargs") refl };
  inner = record { no_slash = lacks 47 (codes "tasks") refl; no_tilde = lacks 126 (codes "tasks") refl };
  spelled = λ rest. refl;
}

in_members : Names field.Members (codes "kwargs") (codes "tasks")
in_members = record { outer = in_tasks.outer; inner = in_tasks.inner; spelled = λ rest. refl }

in_header : Names field.Header (codes "kwargs") (codes "header")
in_header = record {
  outer = in_tasks.outer;
  inner = record { no_slash = lacks 47 (codes "header") refl; no_tilde = lacks 126 (codes "header") refl };
  spelled = λ rest. refl;
}

in_body : Names field.Body (codes "kwargs") (codes "body")
in_body = record {
  outer = in_tasks.outer;
  inner = record { no_slash = lacks 47 (codes "body") refl; no_tilde = lacks 126 (codes "body") refl };
  spelled = λ rest. refl;
}

in_link : Names field.Links (codes "options") (codes "link")
in_link = record {
  outer = record { no_slash = lacks 47 (codes "options") refl; no_tilde = lacks 126 (codes "options") refl };
  inner = record { no_slash = lacks 47 (codes "link") refl; no_tilde = lacks 126 (codes "link") refl };
  spelled = λ rest. refl;
}

in_link_error : Names field.Errbacks (codes "options") (codes "link_error")
in_link_error = record {
  outer = in_link.outer;
  inner = record { no_slash = lacks 47 (codes "link_error") refl; no_tilde = lacks 126 (codes "link_error") refl };
  spelled = λ rest. refl;
}

-- ---- a step leads to the value in its pair

abbrev Goes : Data → Step × Data → Type 0
Goes d e = (rest : Text) → IsPointer rest → IsIndex e.0.index → pointer (step_text e.0 ++ rest) d ≡ pointer rest e.1

abbrev AllGo : Data → List (Step × Data) → Type 0
AllGo d [] = Unit {0}
AllGo d (e ∷ es) = Goes d e × AllGo d es

goes_to_one : (k : Field) (l m : Text) (d x : Data) → Names k l m → field m (field l d) ≡ x → is_null x ≡ false → Goes d (record { field = k; index = None }, x)
goes_to_one k l m d x names is h rest r i =
    ap (λ s. pointer (s ++ rest) d) (append-nil (field_text k)) ∙ over_field k l m rest d x names is h r

goes_to_item : (k : Field) (l m : Text) (d x : Data) (all : Items) (i : ℕ) → Names k l m → field m (field l d) ≡ array all → get_item i all ≡ Some x
    → Goes d (record { field = k; index = Some i }, x)
goes_to_item k l m d x all i names is at rest r fits =
    ap (λ s. pointer s d) (append_assoc (field_text k) (47 ∷ decimal i) rest)
    ∙ over_field k l m (47 ∷ decimal i ++ rest) d (array all) names is refl (inr (decimal i ++ rest, refl))
    ∙ over_part (decimal i) rest (array all) x (index_lacks i fits) r (ap (option_and_then (λ j. get_item j all)) (index_of-decimal i fits) ∙ at)

go_to_items : (k : Field) (l m : Text) (d : Data) (all ds : Items) (i : ℕ) → Names k l m → field m (field l d) ≡ array all
    → ((j : ℕ) → get_item j ds ≡ get_item (j + i) all) → AllGo d (from_index k i (items ds))
go_to_items k l m d all no_items i names is same = tt
go_to_items k l m d all (item x ds) i names is same = (
  goes_to_item k l m d x all i names is (let e : 0 + i ≡ i = omega arith in sym (same 0 ∙ ap (λ j. get_item j all) e)),
  go_to_items k l m d all ds (suc i) names is (λ j. let e : suc j + i ≡ j + suc i = omega arith in same (suc j) ∙ ap (λ n. get_item n all) e),
)

go_to_all : (k : Field) (l m : Text) (d : Data) (all : Items) → Names k l m → field m (field l d) ≡ array all → AllGo d (from_index k 0 (items all))
go_to_all k l m d all names is = go_to_items k l m d all all 0 names is (λ j. let e : j ≡ j + 0 = omega arith in ap (λ n. get_item n all) e)

go_to_listed : (k : Field) (l m : Text) (d x : Data) → Names k l m → field m (field l d) ≡ x → AllGo d (from_index k 0 (listed x))
go_to_listed k l m d (array all) names is = go_to_all k l m d all names is
go_to_listed k l m d null names is = tt
go_to_listed k l m d (boolean b) names is = tt
go_to_listed k l m d (number n) names is = tt
go_to_listed k l m d (string s) names is = tt
go_to_listed k l m d (object ms) names is = tt

go_to_one : (k : Field) (l m : Text) (d x : Data) → Names k l m → field m (field l d) ≡ x → AllGo d (one_in k x)
go_to_one k l m d null names is = tt
go_to_one k l m d (array all) names is = (goes_to_one k l m d (array all) names is refl, tt)
go_to_one k l m d (boolean b) names is = (goes_to_one k l m d (boolean b) names is refl, tt)
go_to_one k l m d (number n) names is = (goes_to_one k l m d (number n) names is refl, tt)
go_to_one k l m d (string s) names is = (goes_to_one k l m d (string s) names is refl, tt)
go_to_one k l m d (object ms) names is = (goes_to_one k l m d (object ms) names is refl, tt)

go_to_some : (k : Field) (l m : Text) (d x : Data) → Names k l m → field m (field l d) ≡ x → AllGo d (some_in k x)
go_to_some k l m d (array all) names is = go_to_all k l m d all names is
go_to_some k l m d null names is = tt
go_to_some k l m d (boolean b) names is = (goes_to_one k l m d (boolean b) names is refl, tt)
go_to_some k l m d (number n) names is = (goes_to_one k l m d (number n) names is refl, tt)
go_to_some k l m d (string s) names is = (goes_to_one k l m d (string s) names is refl, tt)
go_to_some k l m d (object ms) names is = (goes_to_one k l m d (object ms) names is refl, tt)

all_of_both : (d : Data) (es gs : List (Step × Data)) → AllGo d es → AllGo d gs → AllGo d (es ++ gs)
all_of_both d [] gs p q = q
all_of_both d (e ∷ es) gs p q = (p.0, all_of_both d es gs p.1 q)

go_to_kwargs : (p : Option Primitive) (d : Data) → AllGo d (in_kwargs p d)
go_to_kwargs None d = tt
go_to_kwargs (Some kind.Task) d = tt
go_to_kwargs (Some kind.Chain) d = go_to_listed field.Elements (codes "kwargs") (codes "tasks") d (tasks d) in_tasks refl
go_to_kwargs (Some kind.Group) d = go_to_listed field.Members (codes "kwargs") (codes "tasks") d (tasks d) in_members refl
go_to_kwargs (Some kind.Chord) d =
    all_of_both d (some_in field.Header (header d)) (one_in field.Body (body d))
    (go_to_some field.Header (codes "kwargs") (codes "header") d (header d) in_header refl)
    (go_to_one field.Body (codes "kwargs") (codes "body") d (body d) in_body refl)

-- ---- all of a listing

abbrev Leads : Data → Sighted → Type 0
Leads d s = AreIndices s.steps → pointer (pointer_text s.steps) d ≡ Some s.signature

abbrev AllLead : Data → List Sighted → Type 0
AllLead d [] = Unit {0}
AllLead d (s ∷ ss) = Leads d s × AllLead d ss

leads_both : (d : Data) (xs ys : List Sighted) → AllLead d xs → AllLead d ys → AllLead d (xs ++ ys)
leads_both d [] ys p q = q
leads_both d (x ∷ xs) ys p q = (p.0, leads_both d xs ys p.1 q)

begins : (k : Field) (rest : Text) → (more : Text) × (field_text k ++ rest ≡ 47 ∷ more)
begins field.Elements rest = (codes "kwargs/tasks" ++ rest, refl)
begins field.Members rest = (codes "kwargs/tasks" ++ rest, refl)
begins field.Header rest = (codes "kwargs/header" ++ rest, refl)
begins field.Body rest = (codes "kwargs/body" ++ rest, refl)
begins field.Links rest = (codes "options/link" ++ rest, refl)
begins field.Errbacks rest = (codes "options/link_error" ++ rest, refl)

is_pointer : (steps : List Step) → IsPointer (pointer_text steps)
is_pointer [] = inl refl
is_pointer (s ∷ steps) =
    let b = begins s.field (index_text s.index ++ pointer_text steps) in
    inr (b.0, append_assoc (field_text s.field) (index_text s.index) (pointer_text steps) ∙ b.1)

lead_behind : (d : Data) (e : Step × Data) → Goes d e → (xs : List Sighted) → AllLead e.1 xs → AllLead d (map (behind (e.0 ∷ [])) xs)
lead_behind d e goes [] h = tt
lead_behind d e goes (x ∷ xs) h = (
  λ fit. goes (pointer_text x.steps) (is_pointer x.steps) fit.0 ∙ h.0 fit.1,
  lead_behind d e goes xs h.1,
)

lead_each : (d : Data) (f : Data → List Sighted) → ((x : Data) → AllLead x (f x)) → (es : List (Step × Data)) → AllGo d es → AllLead d (in_each f es)
lead_each d f h [] go = tt
lead_each d f h (e ∷ es) go = leads_both d (map (behind (e.0 ∷ [])) (f e.1)) (in_each f es) (lead_behind d e go.0 (f e.1) (h e.1)) (lead_each d f h es go.1)

lead_within : (n : ℕ) (linked : Bool) (d : Data) → AllLead d (sighted_within n linked d)
lead_within zero linked d = (λ fit. refl, tt)
lead_within (suc n) linked d = (
  λ fit. refl,
  leads_both d _ _ (lead_each d (sighted_within n false) (lead_within n false) (in_kwargs (primitive_of (subtype d)) d)
      (go_to_kwargs (primitive_of (subtype d)) d))
      (leads_both d _ _
      (lead_each d (sighted_within n true) (lead_within n true) (some_in field.Links (link d)) (go_to_some field.Links (codes "options") (codes "link") d (link d) in_link refl))
      (lead_each d (sighted_within n true) (lead_within n true) (some_in field.Errbacks (link_error d)) (go_to_some field.Errbacks (codes "options") (codes "link_error") d (link_error d) in_link_error refl))),
)

-- ---- the first of them

by_test : (b : Bool) (x s : Sighted) (rest : Option Sighted) (P : Sighted → Type 0) → P x → (rest ≡ Some s → P s) → (if b then Some x else rest) ≡ Some s → P s
by_test true x s rest P here later h = let same : x ≡ s = cc in subst P same here
by_test false x s rest P here later h = later h

found_leads : (d : Data) (p : Sighted → Bool) (xs : List Sighted) (s : Sighted) → AllLead d xs → find p xs ≡ Some s → Leads d s
found_leads d p [] s all h = absurd cc
found_leads d p (x ∷ xs) s all h = by_test (p x) x s (find p xs) (Leads d) all.0 (found_leads d p xs s all.1) h

either : (b c : Bool) (s : Sighted) (one other more : Option Sighted) (P : Sighted → Type 0)
    → (one ≡ Some s → P s) → (other ≡ Some s → P s) → (more ≡ Some s → P s) → (if b then one else (if c then other else more)) ≡ Some s → P s
either true c s one other more P f g k h = f h
either false true s one other more P f g k h = g h
either false false s one other more P f g k h = k h

past_leads : (d : Data) (t g : ℕ) (xs : List Sighted) (s : Sighted) → AllLead d xs → past t g xs ≡ Some s → Leads d s
past_leads d t g [] s all h = absurd cc
past_leads d t g (x ∷ xs) s all h =
    either (is_task x) (is_counted_group x) s _ _ _ (Leads d)
    (by_test (t == 0) x s (past (t - 1) g xs) (Leads d) all.0 (past_leads d (t - 1) g xs s all.1))
    (by_test (g == 0) x s (past t (g - 1) xs) (Leads d) all.0 (past_leads d t (g - 1) xs s all.1))
    (past_leads d t g xs s all.1) h

all_lead : (d : Data) → AllLead d (signatures d)
unfolding signatures
all_lead d = lead_within (depth d) false d

top_leads : (d : Data) (o : Option Sighted) (s : Sighted) → ((x : Sighted) → o ≡ Some x → Leads d x) → too_deep d o ≡ Some s → Leads d s
top_leads d None s f h = let same : itself false d ≡ s = cc in subst (Leads d) same (λ fit. refl)
top_leads d (Some x) s f h = f s h

own_leads : (d : Data) (s : Sighted) → first_refused d ≡ Some s → Leads d s
own_leads d s h = found_leads d is_refused (signatures d) s (all_lead d) h

-- the steps to a refusal's place lead to its signature
pub place_leads : (e : SigFault) (d : Data) (s : Sighted) → place_of e d ≡ Some s → AreIndices s.steps → pointer (pointer_text s.steps) d ≡ Some s.signature
place_leads fault.TooLarge d s h = absurd cc
place_leads fault.NotJson d s h = absurd cc
place_leads fault.Memory d s h = absurd cc
place_leads fault.NestedGroup d s h = found_leads d is_nested (signatures d) s (all_lead d) h
place_leads fault.TooDeep d s h = top_leads d (find is_too_deep (signatures d)) s (λ x. found_leads d is_too_deep (signatures d) x (all_lead d)) h
place_leads fault.TooMany d s h = past_leads d most_tasks most_groups (signatures d) s (all_lead d) h
place_leads fault.NotSignature d s h = own_leads d s h
place_leads fault.UnknownPrimitive d s h = own_leads d s h
place_leads fault.BadArgs d s h = own_leads d s h
place_leads fault.BadNumber d s h = own_leads d s h
place_leads fault.OnCanvas d s h = own_leads d s h
place_leads fault.Frozen d s h = own_leads d s h
place_leads fault.EmptyChain d s h = own_leads d s h
