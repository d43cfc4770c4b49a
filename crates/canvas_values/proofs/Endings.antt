-- The ends of lists of nodes, from those of their elements.
use Rattle.std.proofs.Common.{◌≡◌, Bool, true, false, not, ◌||◌, ◌&&◌, if◌then◌else◌, List, [], ◌∷◌, map, Option, Some, None, Box, Global, true≢false, refl, sym, ap, ◌∙◌}
use Rattle.std.specs.List.{list_all}
use Rattle.std.specs.Option.{option_and_then}
use Rattle.canvas_semantics.specs.Tree.{Tree, chain, Trees, ends_in_group, last_in_group}
use Rattle.canvas_semantics.specs.Bounds.{nests_group, some_nests_group, some_ends_in_group}
use Rattle.canvas_values.specs.steps.Ending.{ending, last_ending, ends_in_task}
use Rattle.canvas_values.specs.SignatureView.{view, trees_of}
use Rattle.canvas_values.specs.declared.node.Node.{Node, Chain, Group, Chord}
use Rattle.canvas_values.proofs.Views.{view-Chain, view-Group, view-Chord}

abbrev pub ends_so : Node → Bool
ends_so n = ends_in_task (ending (view n))

abbrev chain_of : Bool → Trees → Option Bool
chain_of nests ts = if nests then None else Some (last_in_group ts)

some_last : (b : Bool) (t : Tree) (ts : List Tree) → last_ending b (t ∷ ts) ≡ chain_of (some_nests_group (trees_of (t ∷ ts))) (trees_of (t ∷ ts))
some_last b t [] = elim (nests_group t) as (λ n. option_and_then (λ e. last_ending e []) (if n then None else Some (ends_in_group t))
    ≡ (if (n || false) then None else Some (ends_in_group t))) [ true ↦ refl | false ↦ refl ]
some_last b t (u ∷ us) =
    let others = some_last (ends_in_group t) u us in
    elim (nests_group t) as (λ n. option_and_then (λ e. last_ending e (u ∷ us)) (if n then None else Some (ends_in_group t))
    ≡ chain_of (n || some_nests_group (trees_of (u ∷ us))) (trees_of (u ∷ us))) [ true ↦ refl | false ↦ others ]

last_of : (ts : List Tree) → last_ending false ts ≡ ending (chain (trees_of ts))
last_of [] = refl
last_of (t ∷ ts) = some_last false t ts

-- a chain's end, from its elements'
pub chain_ends : (n : Node) (ns xs : List Node) → n ≡ Chain ns → xs ≡ ns → last_ending false (map view xs) ≡ ending (view n)
chain_ends n ns xs is same =
    ap (λ ys. last_ending false (map view ys)) same ∙ last_of (map view ns) ∙ sym (ap ending (ap view is ∙ view-Chain ns))

abbrev clear : Bool → Bool → Bool
clear ends nests = not (ends || nests)

both : (n e a b : Bool) → (ends_in_task (if n then None else Some e) && clear a b) ≡ clear (e || a) (n || b)
both true true a b = refl
both true false true b = refl
both true false false b = refl
both false true a b = refl
both false false a b = refl

members_clear : (ns : List Node) → list_all ends_so ns ≡ clear (some_ends_in_group (trees_of (map view ns))) (some_nests_group (trees_of (map view ns)))
members_clear [] = refl
members_clear (n ∷ ns) =
    ap (λ x. ends_so n && x) (members_clear ns)
    ∙ both (nests_group (view n)) (ends_in_group (view n)) (some_ends_in_group (trees_of (map view ns))) (some_nests_group (trees_of (map view ns)))

not_true : (b : Bool) → not b ≡ true → b ≡ false
not_true true h = absurd (true≢false (sym h))
not_true false h = refl

not_false : (b : Bool) → not b ≡ false → b ≡ true
not_false true h = refl
not_false false h = absurd (true≢false h)

module _ (ns xs : List Node) (same : xs ≡ ns) where
  abbrev found : Bool
  found = some_ends_in_group (trees_of (map view ns)) || some_nests_group (trees_of (map view ns))

  cleared : (b : Bool) → list_all ends_so xs ≡ b → not found ≡ b
  cleared b h = sym (members_clear ns) ∙ ap (list_all ends_so) (sym same) ∙ h

  pub group_ends : (n : Node) → n ≡ Group ns → list_all ends_so xs ≡ true → Some true ≡ ending (view n)
  group_ends n is h = sym (ap ending (ap view is ∙ view-Group ns) ∙ ap (λ b. if b then None else Some true) (not_true found (cleared true h)))

  pub group_nests : (n : Node) → n ≡ Group ns → list_all ends_so xs ≡ false → None ≡ ending (view n)
  group_nests n is h = sym (ap ending (ap view is ∙ view-Group ns) ∙ ap (λ b. if b then None else Some true) (not_false found (cleared false h)))

  module _ (body : Box Node Global) where
    abbrev chord_ending : Bool → Option Bool
    chord_ending b = if (b || nests_group (view body.value)) then None else Some (ends_in_group (view body.value))

    pub chord_ends : (n : Node) → n ≡ Chord ns body → list_all ends_so xs ≡ true → ending (view body.value) ≡ ending (view n)
    chord_ends n is h = sym (ap ending (ap view is ∙ view-Chord ns body) ∙ ap chord_ending (not_true found (cleared true h)))

    pub chord_nests : (n : Node) → n ≡ Chord ns body → list_all ends_so xs ≡ false → None ≡ ending (view n)
    chord_nests n is h = sym (ap ending (ap view is ∙ view-Chord ns body) ∙ ap chord_ending (not_false found (cleared false h)))
