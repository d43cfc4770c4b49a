-- What is foreseen of a signature and of those in it, by what the signature is.
use Rattle.std.proofs.Common.{◌≡◌, ◌∙◌, ap, sym, subst, ℕ, List, [], ◌∷◌, ◌++◌, map, Box, Global, Result, OnOk, IfOk, append_assoc, true}
use Rattle.std.specs.declared.alloc.AllocError.{AllocError}
use Rattle.canvas_task.specs.Apply.{Behaviour}
use Rattle.canvas_values.specs.SignatureView.{view, task_view, trees_of}
use Rattle.canvas_values.specs.declared.task_sig.TaskSig.{TaskSig}
use Rattle.canvas_values.specs.declared.node.Node.{Node, Chain, Group, Chord}
use Rattle.canvas_values.specs.declared.node.Node as node
use Rattle.canvas_values.proofs.Views.{view-Task, view-Chain, view-Group, view-Chord}
use Rattle.canvas_check.specs.Positions.{of_elements, of_member, of_body}
use Rattle.canvas_check.specs.Foreseen.{of_chain, of_group, of_chord, task_told, told, elements_told, members_told, out_of, out_of_each, trees_count}
use Rattle.canvas_check.specs.declared.forecast.Forecast.{Forecast}
use Rattle.canvas_check.specs.declared.position.Position.{Position}
use Rattle.canvas_check.specs.declared.position.Input.{Input}
use Rattle.canvas_check.specs.declared.position.Input.TheVariants.{Number, Numbers}
use Rattle.canvas_check.proofs.Views.{two}

-- a list after one more item
behind_one : {X : Type 0} (before mid : List X) (f g : X) (xs ys : List X) → mid ≡ before ++ f ∷ [] → f ≡ g → xs ≡ ys → mid ++ xs ≡ before ++ (g ∷ ys)
behind_one before mid f g xs ys pushed is same =
    (λ i. (pushed ∙ ap (λ y. before ++ y ∷ []) is) i ++ same i) ∙ append_assoc before (g ∷ []) ys

ok_is : (r : Result Input AllocError) (i j : Input) → i ≡ j → IfOk r (λ k. k ≡ i) → IfOk r (λ k. k ≡ j)
ok_is r i j e h = subst (λ x. IfOk r (λ k. k ≡ x)) e h

ok_found : (r : Result Input AllocError) (x a b : List Forecast) → a ≡ b → OnOk r (x ≡ a) → OnOk r (x ≡ b)
ok_found r x a b e h = subst (λ y. OnOk r (x ≡ y)) e h

module _ (b : Behaviour) (n : Node) (before : List Forecast) (s : Position) where
  pub task_found : (t : TaskSig) (after : List Forecast) → n ≡ node.Task t → after ≡ before ++ task_told b (task_view t) s
      → after ≡ before ++ told b (view n) s
  task_found t after is found = found ∙ ap (λ x. before ++ told b x s) (sym (ap view is ∙ view-Task t))

  pub chain_found : (ns ms : List Node) (inner : Position) (r : Result Input AllocError) (f : Forecast) (mid after : List Forecast) → n ≡ Chain ns
      → ms ≡ ns → mid ≡ before ++ f ∷ [] → f ≡ of_chain s → inner ≡ of_elements s
      → OnOk r (after ≡ mid ++ elements_told b (trees_of (map view ms)) inner) → OnOk r (after ≡ before ++ told b (view n) s)
  chain_found ns ms inner r f mid after is same pushed first position found =
      ok_found r after _ _
      (behind_one before mid f (of_chain s) _ (elements_told b (trees_of (map view ns)) (of_elements s)) pushed first
      (λ i. elements_told b (trees_of (map view (same i))) (position i))
      ∙ ap (λ x. before ++ told b x s) (sym (ap view is ∙ view-Chain ns))) found

  pub group_found : (ns ms ms' : List Node) (k : ℕ) (inner : Position) (f : Forecast) (mid after : List Forecast) → n ≡ Group ns → ms ≡ ns → ms' ≡ ns
      → k ≡ trees_count (trees_of (map view ms)) → f ≡ of_group k s → mid ≡ before ++ f ∷ [] → inner ≡ of_member s.is_followed s
      → after ≡ mid ++ members_told b (trees_of (map view ms')) inner → after ≡ before ++ told b (view n) s
  group_found ns ms ms' k inner f mid after is same same' count first pushed position found =
      found
      ∙ behind_one before mid f _ _ (members_told b (trees_of (map view ns)) (of_member s.is_followed s)) pushed
      (first ∙ ap (λ x. of_group x s) (count ∙ ap (λ xs. trees_count (trees_of (map view xs))) same))
      (λ i. members_told b (trees_of (map view (same' i))) (position i))
      ∙ ap (λ x. before ++ told b x s) (sym (ap view is ∙ view-Group ns))

  pub chord_found : (hs ms ms' : List Node) (body : Box Node Global) (at : Node) (k : ℕ) (inner outer : Position) (r : Result Input AllocError) (f : Forecast)
      (mid found after : List Forecast) → n ≡ Chord hs body → ms ≡ hs → ms' ≡ hs → at ≡ body.value
      → k ≡ trees_count (trees_of (map view ms)) → f ≡ of_chord k s → mid ≡ before ++ f ∷ [] → inner ≡ of_member true s → outer ≡ of_body k s
      → found ≡ mid ++ members_told b (trees_of (map view ms')) inner → OnOk r (after ≡ found ++ told b (view at) outer)
      → OnOk r (after ≡ before ++ told b (view n) s)
  chord_found hs ms ms' body at k inner outer r f mid found after is same same' here count first pushed position position' members last =
      let n_of : List Node → ℕ = λ xs. trees_count (trees_of (map view xs)) in
      let counted : k ≡ n_of hs = count ∙ ap n_of same in
      let outer_is : outer ≡ of_body (n_of hs) s = position' ∙ ap (λ x. of_body x s) counted in
      ok_found r after _ _
      (two before (of_chord (n_of hs) s) _ _ (members_told b (trees_of (map view hs)) (of_member true s))
      (told b (view body.value) (of_body (n_of hs) s)) mid found
      (pushed ∙ ap (λ x. before ++ x ∷ []) (first ∙ ap (λ x. of_chord x s) counted))
      members (λ i. members_told b (trees_of (map view (same' i))) (position i)) (λ i. told b (view (here i)) (outer_is i))
      ∙ ap (λ x. before ++ told b x s) (sym (ap view is ∙ view-Chord hs body))) last

module _ (n : Node) (i : Input) where
  pub task_out : (t : TaskSig) → n ≡ node.Task t → Number ≡ out_of (view n) i
  task_out t is = ap (λ x. out_of x i) (sym (ap view is ∙ view-Task t))

  pub chain_out : (ns ms : List Node) (inner s : Position) (r : Result Input AllocError) → n ≡ Chain ns → ms ≡ ns → inner ≡ of_elements s → s.input ≡ i
      → IfOk r (λ k. k ≡ out_of_each (trees_of (map view ms)) inner.input) → IfOk r (λ k. k ≡ out_of (view n) i)
  chain_out ns ms inner s r is same position comes out =
      ok_is r _ _ ((λ j. out_of_each (trees_of (map view (same j))) (position j).input) ∙ ap (λ x. out_of_each (trees_of (map view ns)) x) comes
      ∙ ap (λ x. out_of x i) (sym (ap view is ∙ view-Chain ns))) out

  pub group_out : (ns : List Node) → n ≡ Group ns → Numbers ≡ out_of (view n) i
  group_out ns is = ap (λ x. out_of x i) (sym (ap view is ∙ view-Group ns))

  pub chord_out : (hs : List Node) (body : Box Node Global) (at : Node) (k : ℕ) (outer s : Position) (r : Result Input AllocError) → n ≡ Chord hs body
      → at ≡ body.value → outer ≡ of_body k s → IfOk r (λ k. k ≡ out_of (view at) outer.input) → IfOk r (λ k. k ≡ out_of (view n) i)
  chord_out hs body at k outer s r is here position out =
      ok_is r _ _ ((λ j. out_of (view (here j)) (position j).input) ∙ ap (λ x. out_of x i) (sym (ap view is ∙ view-Chord hs body))) out
