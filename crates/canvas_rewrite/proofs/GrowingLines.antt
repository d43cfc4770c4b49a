-- A line that grows at its front.
use Rattle.std.proofs.Common.{◌≡◌, ◌∙◌, ◌↔◌, ℕ, List, [], ◌∷◌, ◌++◌, map, length, ◌==◌, suc, reverse, Bool, true, false, true≢false, IsTrue, Option, Some, None, is_some, Box, Global, refl, sym, ap, arith, rules}
use Rattle.std.proofs.lemmas.Bool.Decides.{nat_tests}
use Rattle.std.proofs.lemmas.List.{reverse-append}
use Rattle.std.specs.Option.{option_map}
use Rattle.canvas_semantics.specs.Tree.{Tree, one, Trees, no_trees, and_tree}
use Rattle.canvas_values.specs.SignatureView.{task_view}
use Rattle.canvas_values.specs.declared.task_sig.TaskSig.{TaskSig}
use Rattle.canvas_semantics.specs.Line as Frozen
use Rattle.canvas_semantics.specs.Line.{stop, elements_of}
use Rattle.canvas_rewrite.specs.FrozenView.{steps_onto, end_of, line_of}
use Rattle.canvas_rewrite.specs.LineView.{elements, group_or_chord}
use Rattle.canvas_rewrite.specs.steps.Growing.{grown, tail_trees}
use Rattle.canvas_rewrite.specs.declared.line.Line as line
use Rattle.canvas_rewrite.specs.declared.line.Line.{Line, roll-Line}
use Rattle.canvas_rewrite.specs.declared.line.LineEnd.{LineEnd, roll-LineEnd, out-LineEnd}
use Rattle.canvas_rewrite.proofs.Lines.{end_elements, end_elements_of}

-- one more task at the end of the list is the first of the line
pub grown_push : (ts : List TaskSig) (s : TaskSig) (after : Trees) → grown (ts ++ s ∷ []) after ≡ and_tree (one (task_view s)) (grown ts after)
grown_push [] s after = refl
grown_push (t ∷ ts) s after = grown_push ts s (and_tree (one (task_view t)) after)

-- the tasks in their order
front : (ts : List TaskSig) (l : Frozen.Line) → grown ts (elements_of l) ≡ elements_of (steps_onto (map task_view (reverse ts)) l)
front [] l = refl
front (t ∷ ts) l =
    front ts (Frozen.step (task_view t) l)
    ∙ sym (ap (λ xs. elements_of (steps_onto (map task_view xs) l)) (reverse-append (t ∷ []) ts) ∙ ap elements_of (one_more (reverse ts)))
  where
    one_more : (xs : List TaskSig) → steps_onto (map task_view (xs ++ t ∷ [])) l ≡ steps_onto (map task_view xs) (Frozen.step (task_view t) l)
    one_more [] = refl
    one_more (x ∷ xs) = ap (Frozen.step (task_view x)) (one_more xs)

pub made_none : (ts : List TaskSig) → line_of (roll-Line (record { tasks = ts; tail = None })) ≡ steps_onto (map task_view ts) stop
made_none ts = search (rules, line.the_lemmas)

pub made_some : (ts : List TaskSig) (b : Box LineEnd Global)
    → line_of (roll-Line (record { tasks = ts; tail = Some b })) ≡ steps_onto (map task_view ts) (end_of b.value)
made_some ts b = search (rules, line.the_lemmas)

pub in_order : (ts xs : List TaskSig) (o : Option (Box LineEnd Global)) → xs ≡ reverse ts
    → elements (roll-Line (record { tasks = xs; tail = o })) ≡ grown ts (tail_trees o)
in_order ts xs None e = ap elements_of (made_none xs ∙ ap (λ ys. steps_onto (map task_view ys) stop) e) ∙ sym (front ts stop)
in_order ts xs (Some b) e = ap elements_of (made_some xs b ∙ ap (λ ys. steps_onto (map task_view ys) (end_of b.value)) e) ∙ sym (front ts (end_of b.value))

-- ---- when it is empty

never : (ts : List TaskSig) (t : Tree) (us : Trees) → grown ts (and_tree t us) ≡ no_trees → ⊥
never [] t us e = cc
never (x ∷ ts) t us e = never ts (one (task_view x)) (and_tree t us) e

more_than_none : (n : ℕ) → suc n == 0 ≡ false
more_than_none n = grind (arith, nat_tests)

pub some_tail : (ts : List TaskSig) (o : Option (Box LineEnd Global)) → is_some o ≡ true → grown ts (tail_trees o) ≡ no_trees → ⊥
some_tail ts None h e = absurd (true≢false (sym h))
some_tail ts (Some b) h e =
    let tail = end_elements b.value (out-LineEnd b.value).body refl in
    never ts tail.0 no_trees (sym (ap (grown ts) tail.1) ∙ e)

pub no_tail : (ts : List TaskSig) (o : Option (Box LineEnd Global)) (b : Bool) → is_some o ≡ false → b ≡ (length ts == 0)
    → IsTrue b ↔ (grown ts (tail_trees o) ≡ no_trees)
no_tail [] None b h e = (λ _. refl, λ _. e)
no_tail (t ∷ ts) None b h e =
    (λ is. absurd (true≢false (sym is ∙ e ∙ more_than_none (length ts))), λ same. absurd (never ts (one (task_view t)) no_trees same))
no_tail ts (Some x) b h e = absurd (true≢false h)

-- ---- a line of one group or chord

pub of_end_is : (ts : List TaskSig) (b : Box LineEnd Global) (ms xs : List Line) (o : Option Line) → ts ≡ [] → xs ≡ ms
    → b.value ≡ roll-LineEnd (record { members = xs; body = o })
    → grown ts (tail_trees (Some b)) ≡ and_tree (group_or_chord (map elements ms) (option_map elements o)) no_trees
of_end_is ts b ms xs o none same e =
    ap (λ us. grown us (elements_of (end_of b.value))) none ∙ ap (λ x. elements_of (end_of x)) e ∙ end_elements_of xs o
    ∙ ap (λ ys. and_tree (group_or_chord (map elements ys) (option_map elements o)) no_trees) same
