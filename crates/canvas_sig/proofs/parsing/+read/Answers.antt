use Rattle.std.proofs.Common.{◌≡◌, ◌-◌, ◌<◌, [], ◌∷◌, ◌++◌, length, refl, Some, None, option_map, sym, ap, subst, ◌∙◌, arith}
use Rattle.std.proofs.lemmas.List.{append_assoc, append-nil}
use Rattle.std.proofs.lemmas.Result.{IfOk-weaker, err_from_is_err_and}
use Rattle.json.specs.Json.{parse_map, after_end_array, read_key, items, members, value}
use Rattle.json.specs.Reads.{token_of}
use Rattle.json.proofs.Grammar.{value_is, read_key-shorter}
use Rattle.serde_json.specs.Data.{array, object, no_members}
use Rattle.serde_json.specs.Read.{of_json, of_items, of_members, converted}
use Rattle.canvas_sig.proofs.Alone.{read_alone, refused_alone, refused_deep, list_opened, object_opened}
use Rattle.canvas_sig.proofs.Conversion.{item_read, item_refused, items_over, member_read, member_refused, key_refused, members_over, nothing_before}
use Rattle.canvas_sig.specs.Datum.{view, items_view}
use Rattle.canvas_sig.specs.steps.Source.{Item}
use Rattle.canvas_sig.specs.steps.Names.{put_all}
use Rattle.canvas_sig.proofs.Parsed.{Named, since_start, view-List, view-Object, put_pushed, items_before, all_before, one_more_item}
use Rattle.canvas_sig.proofs.parsing.+read.Goals as goal

pub read_value-returns-in-Some-clause-ok : goal.read_value-returns-in-Some-clause-ok
read_value-returns-in-Some-clause-ok t c =
    read_alone c.args.left (token_of c.args.token) c.args.reader.now (view c.in-Some.value) (sym c.in-Some.ensures)

pub read_nested-returns-then-left-eq0-clause-err : goal.read_nested-returns-then-left-eq0-clause-err
read_nested-returns-then-left-eq0-clause-err t c never =
    let none : c.args.left ≡ 0 = omega arith in
    ap (λ n. converted of_json (value n (token_of c.args.token ∷ c.args.reader.now))) none
    ∙ refused_deep (token_of c.args.token) c.args.reader.now c.requires

pub read_nested-returns-in-BeginArray-clause-ok : goal.read_nested-returns-in-BeginArray-clause-ok
read_nested-returns-in-BeginArray-clause-ok t c =
    IfOk-weaker c.read_items.result _ _
    (λ v is. list_opened c.args.left _ c.args.reader.now (ap token_of c.in-BeginArray.is) (omega arith) ∙ is) c.read_items.ensures.ok

pub read_nested-returns-in-BeginArray-clause-err : goal.read_nested-returns-in-BeginArray-clause-err
read_nested-returns-in-BeginArray-clause-err t c refused =
    list_opened c.args.left _ c.args.reader.now (ap token_of c.in-BeginArray.is) (omega arith)
    ∙ ap (parse_map array) (c.read_items.ensures.err refused)

pub read_nested-returns-in-BeginObject-clause-ok : goal.read_nested-returns-in-BeginObject-clause-ok
read_nested-returns-in-BeginObject-clause-ok t c =
    IfOk-weaker c.read_members.result _ _
    (λ v is. object_opened c.args.left _ c.args.reader.now (ap token_of c.in-BeginObject.is) (omega arith) ∙ is) c.read_members.ensures.ok

pub read_nested-returns-in-BeginObject-clause-err : goal.read_nested-returns-in-BeginObject-clause-err
read_nested-returns-in-BeginObject-clause-err t c refused =
    object_opened c.args.left _ c.args.reader.now (ap token_of c.in-BeginObject.is) (omega arith)
    ∙ ap (parse_map object) (c.read_members.ensures.err refused)

pub read_nested-returns-in_default-clause-err : goal.read_nested-returns-in_default-clause-err
read_nested-returns-in_default-clause-err t c refused =
    refused_alone c.args.left c.args.token c.args.reader.now c.requires c.in_default.not-BeginArray c.in_default.not-BeginObject

pub read_items-items-init : goal.read_items-items-init
read_items-items-init t c =
    let all = converted of_items (items (value c.args.left) (length c.args.reader.now) c.args.reader.now) in
    (length c.args.reader.now, omega arith, nothing_before all ∙ ap (λ vs. parse_map (items_before vs) all) (sym c.new-found.ensures.items), omega arith, refl)

pub read_items-returns-in_err-token-clause-err : goal.read_items-returns-in_err-token-clause-err
read_items-returns-in_err-token-clause-err t c refused =
    let p = value c.args.left in
    let l = c.items in
    let n = l.invariant.0 in
    let empty : l.reader ≡ [] = grind arith in
    l.invariant.2 ∙ ap (parse_map (items_before l.found.items))
    (item_refused p n l.reader (ap after_end_array empty) (ap (converted of_json) (ap p empty ∙ value_is c.args.left [])))

pub read_items-returns-in_err-item-clause-err : goal.read_items-returns-in_err-item-clause-err
read_items-returns-in_err-item-clause-err t c refused =
    let p = value c.args.left in
    let l = c.items in
    let n = l.invariant.0 in
    let going : (after_end_array l.reader ≡ None) × (l.reader ≡ token_of c.in-Some.token ∷ c.next_item.new.self) = grind arith in
    l.invariant.2 ∙ ap (parse_map (items_before l.found.items))
    (item_refused p n l.reader going.0 (ap (λ ts. converted of_json (p ts)) going.1 ∙ c.read_value.ensures.err (grind arith)))

pub read_items-items-preserved : goal.read_items-items-preserved
read_items-items-preserved t c =
    let p = value c.args.left in
    let l = c.items in
    let n = l.invariant.0 in
    let going : (after_end_array l.reader ≡ None) × (l.reader ≡ token_of c.in-Some.token ∷ c.next_item.new.self) = grind arith in
    let done = c.in_ok-item.ensures in
    let v = c.in_ok-item.item in
    let r = c.read_value.new.reader in
    let long = ap length going.1 in
    let less : length r < length l.reader = omega (arith, long, done.not_longer) in
    let turn = item_read p n l.reader r (view v) (omega (arith, l.invariant.1, less)) going.0 (ap (λ ts. converted of_json (p ts)) going.1 ∙ done.ok) in (
      n - 1,
      omega (arith, l.invariant.1, less),
      l.invariant.2 ∙ ap (parse_map (items_before l.found.items)) turn ∙ one_more_item l.found.items v _
          ∙ ap (λ vs. parse_map (items_before vs) (converted of_items (items p (n - 1) r))) (sym c.in_ok-push_item.ensures),
      omega (arith, l.invariant.3, less),
      done.stack ∙ l.invariant.4,
    )

pub read_items-returns-clause-ok : goal.read_items-returns-clause-ok
read_items-returns-clause-ok t c =
    let p = value c.args.left in
    let l = c.items in
    let n = l.invariant.0 in
    let r = c.next_item.new.self in
    let all = l.invariant.2 ∙ ap (parse_map (items_before l.found.items)) (items_over p n l.reader r l.invariant.1 (grind arith)) in
    ap (parse_map array) all
    ∙ ap (λ d. Some (d, r))
    (ap array (all_before l.found.items ∙ ap (λ vs. items_view vs) (sym c.into_bump_slice.ensures)) ∙ sym (view-List c.into_bump_slice.result))

pub read_members-members-init : goal.read_members-members-init
read_members-members-init t c = (length c.args.reader.now, [], omega arith, refl, omega arith, sym (append-nil c.args.stack.now.items))

pub read_members-returns-in_err-name-clause-err : goal.read_members-returns-in_err-name-clause-err
read_members-returns-in_err-name-clause-err t c refused =
    let p = value c.args.left in
    let l = c.members in
    let n = l.invariant.0 in
    let old = put_all l.invariant.1 no_members in
    l.invariant.3 ∙ key_refused old p n l.reader (c.in_err-name.ensures (grind arith))

pub read_members-returns-in_err-token-clause-err : goal.read_members-returns-in_err-token-clause-err
read_members-returns-in_err-token-clause-err t c refused =
    let p = value c.args.left in
    let l = c.members in
    let n = l.invariant.0 in
    let old = put_all l.invariant.1 no_members in
    let k = c.in-Some.name.now in
    let s = c.next_key.new.self in
    let named : read_key l.reader ≡ Some (Some k, s) = grind arith in
    let empty : s ≡ [] = grind arith in
    l.invariant.3 ∙ member_refused old p n k l.reader s named (ap (converted of_json) (ap p empty ∙ value_is c.args.left []))

pub read_members-returns-in_err-member-clause-err : goal.read_members-returns-in_err-member-clause-err
read_members-returns-in_err-member-clause-err t c refused =
    let p = value c.args.left in
    let l = c.members in
    let n = l.invariant.0 in
    let old = put_all l.invariant.1 no_members in
    let k = c.in-Some.name.now in
    let s = c.next_key.new.self in
    let named : read_key l.reader ≡ Some (Some k, s) = grind arith in
    let first : s ≡ token_of c.in_ok-token.token ∷ c.next_token.new.self = c.in_ok-token.ensures in
    l.invariant.3 ∙ member_refused old p n k l.reader s named (ap (λ ts. converted of_json (p ts)) first ∙ c.read_value.ensures.err (grind arith))

pub read_members-members-preserved : goal.read_members-members-preserved
read_members-members-preserved t c =
    let p = value c.args.left in
    let l = c.members in
    let n = l.invariant.0 in
    let found = l.invariant.1 in
    let old = put_all found no_members in
    let k = c.in-Some.name.now in
    let s = c.next_key.new.self in
    let named : read_key l.reader ≡ Some (Some k, s) = grind arith in
    let first : s ≡ token_of c.in_ok-token.token ∷ c.next_token.new.self = c.in_ok-token.ensures in
    let done = c.in_ok-member.ensures in
    let v = c.in_ok-member.member in
    let r = c.read_value.new.reader in
    let less = read_key-shorter l.reader (Some k) s named in
    let lesser = done.not_longer in
    let long = ap length first in
    let e : Named = (c.in-Some.name, v) in (
      n - 1,
      found ++ e ∷ [],
      omega (arith, l.invariant.2, less, lesser, long),
      l.invariant.3
          ∙ member_read old p n k l.reader s r (view v) (omega (arith, l.invariant.2, less)) named (ap (λ ts. converted of_json (p ts)) first ∙ done.ok)
          ∙ ap (λ ms. converted (λ js. of_members js ms) (members p (n - 1) r)) (sym (put_pushed found e no_members)),
      omega (arith, l.invariant.4, less, lesser, long),
      c.in_ok-push.ensures.items ∙ ap (λ es. es ++ e ∷ []) (done.stack ∙ l.invariant.5) ∙ append_assoc c.args.stack.now.items found (e ∷ []),
    )

-- the part of the stack pushed since the object began
pub read_members-returns-clause-ok : goal.read_members-returns-clause-ok
read_members-returns-clause-ok t c =
    let p = value c.args.left in
    let l = c.members in
    let n = l.invariant.0 in
    let found = l.invariant.1 in
    let old = put_all found no_members in
    let r = c.next_key.new.self in
    let all = l.invariant.3 ∙ members_over old p n l.reader r l.invariant.2 (grind arith) in
    let here = c.in_ok-found.ensures ∙ ap (λ es. put_all es no_members)
    (since_start c.deref.result.now c.args.stack.now.items found c.len-start.result (grind arith) (c.deref.ensures.value ∙ l.invariant.5)) in
    ap (parse_map object) all ∙ ap (λ d. Some (d, r)) (sym (ap object here) ∙ sym (view-Object c.in_ok-found.found))

pub read_items-read_value-requires : goal.read_items-read_value-requires
read_items-read_value-requires t c = (omega (arith, c.decreases), tt)

pub read_members-read_value-requires : goal.read_members-read_value-requires
read_members-read_value-requires t c = (omega (arith, c.decreases), tt)

pub read_nested-read_items-requires : goal.read_nested-read_items-requires
read_nested-read_items-requires t c = (omega (arith, c.decreases, c.if-left-eq0.false), tt)

pub read_nested-read_members-requires : goal.read_nested-read_members-requires
read_nested-read_members-requires t c = (omega (arith, c.decreases, c.if-left-eq0.false), tt)

pub read_value-read_nested-requires : goal.read_value-read_nested-requires
read_value-read_nested-requires t c = (omega (arith, c.decreases), sym c.alone.ensures ∙ ap (option_map view) c.in-None.is)

pub read_items-returns-in_err-token-clause-ok : goal.read_items-returns-in_err-token-clause-ok
read_items-returns-in_err-token-clause-ok t c = rw ((err_from_is_err_and c.from_residual.result c.from_residual.ensures.1).1) tt

pub read_items-returns-in_err-token-clause-shorter : goal.read_items-returns-in_err-token-clause-shorter
read_items-returns-in_err-token-clause-shorter t c = rw ((err_from_is_err_and c.from_residual.result c.from_residual.ensures.1).1) tt

pub read_items-returns-in_err-token-clause-stack : goal.read_items-returns-in_err-token-clause-stack
read_items-returns-in_err-token-clause-stack t c = rw ((err_from_is_err_and c.from_residual.result c.from_residual.ensures.1).1) tt

pub read_items-returns-in_err-item-clause-ok : goal.read_items-returns-in_err-item-clause-ok
read_items-returns-in_err-item-clause-ok t c = rw ((err_from_is_err_and c.from_residual-in_err-item.result c.from_residual-in_err-item.ensures.1).1) tt

pub read_items-returns-in_err-item-clause-shorter : goal.read_items-returns-in_err-item-clause-shorter
read_items-returns-in_err-item-clause-shorter t c = rw ((err_from_is_err_and c.from_residual-in_err-item.result c.from_residual-in_err-item.ensures.1).1) tt

pub read_items-returns-in_err-item-clause-stack : goal.read_items-returns-in_err-item-clause-stack
read_items-returns-in_err-item-clause-stack t c = rw ((err_from_is_err_and c.from_residual-in_err-item.result c.from_residual-in_err-item.ensures.1).1) tt

pub read_items-returns-in_err-push_item-clause-ok : goal.read_items-returns-in_err-push_item-clause-ok
read_items-returns-in_err-push_item-clause-ok t c =
    rw ((err_from_is_err_and c.from_residual-in_err-push_item.result c.from_residual-in_err-push_item.ensures.1).1) tt

pub read_items-returns-in_err-push_item-clause-shorter : goal.read_items-returns-in_err-push_item-clause-shorter
read_items-returns-in_err-push_item-clause-shorter t c =
    rw ((err_from_is_err_and c.from_residual-in_err-push_item.result c.from_residual-in_err-push_item.ensures.1).1) tt

pub read_items-returns-in_err-push_item-clause-stack : goal.read_items-returns-in_err-push_item-clause-stack
read_items-returns-in_err-push_item-clause-stack t c =
    rw ((err_from_is_err_and c.from_residual-in_err-push_item.result c.from_residual-in_err-push_item.ensures.1).1) tt

pub read_members-returns-in_err-name-clause-ok : goal.read_members-returns-in_err-name-clause-ok
read_members-returns-in_err-name-clause-ok t c = rw ((err_from_is_err_and c.from_residual.result c.from_residual.ensures.1).1) tt

pub read_members-returns-in_err-name-clause-shorter : goal.read_members-returns-in_err-name-clause-shorter
read_members-returns-in_err-name-clause-shorter t c = rw ((err_from_is_err_and c.from_residual.result c.from_residual.ensures.1).1) tt

pub read_members-returns-in_err-name-clause-stack : goal.read_members-returns-in_err-name-clause-stack
read_members-returns-in_err-name-clause-stack t c = rw ((err_from_is_err_and c.from_residual.result c.from_residual.ensures.1).1) tt

pub read_members-returns-in_err-token-clause-ok : goal.read_members-returns-in_err-token-clause-ok
read_members-returns-in_err-token-clause-ok t c = rw ((err_from_is_err_and c.from_residual-in_err-token.result c.from_residual-in_err-token.ensures.1).1) tt

pub read_members-returns-in_err-token-clause-shorter : goal.read_members-returns-in_err-token-clause-shorter
read_members-returns-in_err-token-clause-shorter t c =
    rw ((err_from_is_err_and c.from_residual-in_err-token.result c.from_residual-in_err-token.ensures.1).1) tt

pub read_members-returns-in_err-token-clause-stack : goal.read_members-returns-in_err-token-clause-stack
read_members-returns-in_err-token-clause-stack t c = rw ((err_from_is_err_and c.from_residual-in_err-token.result c.from_residual-in_err-token.ensures.1).1) tt

pub read_members-returns-in_err-member-clause-ok : goal.read_members-returns-in_err-member-clause-ok
read_members-returns-in_err-member-clause-ok t c = rw ((err_from_is_err_and c.from_residual-in_err-member.result c.from_residual-in_err-member.ensures.1).1) tt

pub read_members-returns-in_err-member-clause-shorter : goal.read_members-returns-in_err-member-clause-shorter
read_members-returns-in_err-member-clause-shorter t c =
    rw ((err_from_is_err_and c.from_residual-in_err-member.result c.from_residual-in_err-member.ensures.1).1) tt

pub read_members-returns-in_err-member-clause-stack : goal.read_members-returns-in_err-member-clause-stack
read_members-returns-in_err-member-clause-stack t c =
    rw ((err_from_is_err_and c.from_residual-in_err-member.result c.from_residual-in_err-member.ensures.1).1) tt

pub read_members-returns-in_err-push-clause-ok : goal.read_members-returns-in_err-push-clause-ok
read_members-returns-in_err-push-clause-ok t c = rw ((err_from_is_err_and c.from_residual-in_err-push.result c.from_residual-in_err-push.ensures.1).1) tt

pub read_members-returns-in_err-push-clause-shorter : goal.read_members-returns-in_err-push-clause-shorter
read_members-returns-in_err-push-clause-shorter t c = rw ((err_from_is_err_and c.from_residual-in_err-push.result c.from_residual-in_err-push.ensures.1).1) tt

pub read_members-returns-in_err-push-clause-stack : goal.read_members-returns-in_err-push-clause-stack
read_members-returns-in_err-push-clause-stack t c = rw ((err_from_is_err_and c.from_residual-in_err-push.result c.from_residual-in_err-push.ensures.1).1) tt

pub read_members-returns-in_err-found-clause-ok : goal.read_members-returns-in_err-found-clause-ok
read_members-returns-in_err-found-clause-ok t c = rw ((err_from_is_err_and c.from_residual-in_err-found.result c.from_residual-in_err-found.ensures.1).1) tt

pub read_members-returns-in_err-found-clause-shorter : goal.read_members-returns-in_err-found-clause-shorter
read_members-returns-in_err-found-clause-shorter t c =
    rw ((err_from_is_err_and c.from_residual-in_err-found.result c.from_residual-in_err-found.ensures.1).1) tt

pub read_members-returns-in_err-found-clause-stack : goal.read_members-returns-in_err-found-clause-stack
read_members-returns-in_err-found-clause-stack t c = rw ((err_from_is_err_and c.from_residual-in_err-found.result c.from_residual-in_err-found.ensures.1).1) tt

pub read_value-returns-in-None-clause-ok : goal.read_value-returns-in-None-clause-ok
read_value-returns-in-None-clause-ok t c = c.read_nested.ensures.ok

pub read_value-returns-in-None-clause-stack : goal.read_value-returns-in-None-clause-stack
read_value-returns-in-None-clause-stack t c = c.read_nested.ensures.stack

pub read_value-returns-in-None-clause-err : goal.read_value-returns-in-None-clause-err
read_value-returns-in-None-clause-err t c = c.read_nested.ensures.err

pub read_nested-returns-in-BeginArray-clause-shorter : goal.read_nested-returns-in-BeginArray-clause-shorter
read_nested-returns-in-BeginArray-clause-shorter t c = c.read_items.ensures.shorter

pub read_nested-returns-in-BeginArray-clause-stack : goal.read_nested-returns-in-BeginArray-clause-stack
read_nested-returns-in-BeginArray-clause-stack t c = c.read_items.ensures.stack

pub read_nested-returns-in-BeginObject-clause-shorter : goal.read_nested-returns-in-BeginObject-clause-shorter
read_nested-returns-in-BeginObject-clause-shorter t c = c.read_members.ensures.shorter

pub read_nested-returns-in-BeginObject-clause-stack : goal.read_nested-returns-in-BeginObject-clause-stack
read_nested-returns-in-BeginObject-clause-stack t c = c.read_members.ensures.stack

pub read_nested-returns-then-left-eq0-clause-ok : goal.read_nested-returns-then-left-eq0-clause-ok
read_nested-returns-then-left-eq0-clause-ok t c = tt

pub read_nested-returns-then-left-eq0-clause-shorter : goal.read_nested-returns-then-left-eq0-clause-shorter
read_nested-returns-then-left-eq0-clause-shorter t c = tt

pub read_nested-returns-then-left-eq0-clause-stack : goal.read_nested-returns-then-left-eq0-clause-stack
read_nested-returns-then-left-eq0-clause-stack t c = tt

pub read_items-returns-clause-stack : goal.read_items-returns-clause-stack
read_items-returns-clause-stack t c = c.items.invariant.4

pub read_value-returns-in-Some-clause-stack : goal.read_value-returns-in-Some-clause-stack
read_value-returns-in-Some-clause-stack t c = refl

pub read_items-items-smaller : goal.read_items-items-smaller
read_items-items-smaller t c =
    let going : Item c.items.reader (Some (token_of c.in-Some.token)) c.next_item.new.self =
    subst (λ r. Item c.items.reader (option_map token_of r) c.next_item.new.self) c.in-Some.is c.in_ok-token.ensures in
    omega (arith, ap length going.1, c.in_ok-item.ensures.not_longer)

pub read_members-members-smaller : goal.read_members-members-smaller
read_members-members-smaller t c =
    let named : read_key c.members.reader ≡ Some (Some c.in-Some.name.now, c.next_key.new.self) =
    c.in_ok-name.ensures ∙ ap (λ k. Some (option_map (λ s. s.now) k, c.next_key.new.self)) c.in-Some.is in
    let first : c.next_key.new.self ≡ token_of c.in_ok-token.token ∷ c.next_token.new.self = c.in_ok-token.ensures in
    omega (arith, read_key-shorter c.members.reader (Some c.in-Some.name.now) c.next_key.new.self named, ap length first, c.in_ok-member.ensures.not_longer)

pub read_members-returns-clause-shorter : goal.read_members-returns-clause-shorter
read_members-returns-clause-shorter t c =
    let closed : read_key c.members.reader ≡ Some (None, c.next_key.new.self) =
    c.in_ok-name.ensures ∙ ap (λ k. Some (option_map (λ s. s.now) k, c.next_key.new.self)) c.in_default.is in
    omega (arith, read_key-shorter c.members.reader None c.next_key.new.self closed, c.members.invariant.4)

pub read_value-returns-in-Some-clause-not_longer : goal.read_value-returns-in-Some-clause-not_longer
read_value-returns-in-Some-clause-not_longer t c =
    omega arith
