use Rattle.std.proofs.Common.{◌≡◌, ◌+◌, ◌-◌, ◌∷◌, ◌∙◌, map, drop, length, length-drop, refl, sym, ap, arith}
use Rattle.std.proofs.lemmas.List.{drop_all}
use Rattle.canvas_task.proofs.Turns.{item_first, put_on, put_all}
use Rattle.canvas_values.specs.SignatureView.{view, trees_of}
use Rattle.canvas_check.specs.Foreseen.{elements_told, members_told, out_of_each}
use Rattle.canvas_check.proofs.Nodes.{task_found, chain_found, group_found, chord_found, task_out, chain_out, group_out, chord_out}
use Rattle.canvas_check.proofs.Views.{step_told, step_out}
use Rattle.canvas_check.proofs.walk.+nodes.Goals as goal

pub push_elements-loop-node-preserved : goal.push_elements-loop-node-preserved
push_elements-loop-node-preserved g t c =
    let ns = c.args.nodes.now in
    let i = c.loop-node.node-index in
    let n = c.node-item.result in
    let now = c.loop-node.here in
    let at = c.before-in-loop-node.result in
    let next = c.behind-here.result in
    let k = c.loop-node.left - 1 in
    let o = c.in_ok-out.out in
    let here : drop i ns ≡ n ∷ drop (i + 1) ns = item_first ns i n (omega arith) c.node-item.is in
    let left : k ≡ length (drop (i + 1) ns) = omega (arith, length-drop (i + 1) ns, c.loop-node.invariant.left) in
    record {
      told = step_told (g.T.Tasks.behaviour c.args.tasks.now) c.loop-node.found.items c.push_node.new.found.items n (drop i ns) (drop (i + 1) ns) now at
          next k o here left c.before-in-loop-node.ensures c.in_ok-out.ensures.out c.behind-here.ensures c.in_ok-out.ensures.told
          ∙ c.loop-node.invariant.told;
      out = step_out n (drop i ns) (drop (i + 1) ns) now at next k o here c.before-in-loop-node.ensures c.in_ok-out.ensures.out c.behind-here.ensures
          ∙ c.loop-node.invariant.out;
      left = omega (arith, c.loop-node.invariant.left);
    }

pub push_elements-returns-clause-told : goal.push_elements-returns-clause-told
push_elements-returns-clause-told g t c =
    put_all (λ ns. elements_told (g.T.Tasks.behaviour c.args.tasks.now) (trees_of (map view ns)) c.loop-node.here)
    c.args.nodes.now c.loop-node.node-index _ _ c.loop-node-test.false refl c.loop-node.invariant.told

pub push_elements-returns-clause-out : goal.push_elements-returns-clause-out
push_elements-returns-clause-out g t c =
    let l = c.loop-node in
    ap (λ ns. out_of_each (trees_of (map view ns)) l.here.input) (sym (drop_all l.node-index c.args.nodes.now c.loop-node-test.false)) ∙ l.invariant.out

pub push_members-loop-node-preserved : goal.push_members-loop-node-preserved
push_members-loop-node-preserved g t c =
    put_on (λ ns. members_told (g.T.Tasks.behaviour c.args.tasks.now) (trees_of (map view ns)) c.args.position)
    c.args.nodes.now c.loop-node.node-index c.node-item.result _ _ _ _ c.loop-node-test.true c.node-item.is refl c.loop-node.invariant
    c.in_ok-push_node.ensures.told

pub push_members-returns : goal.push_members-returns
push_members-returns g t c =
    put_all (λ ns. members_told (g.T.Tasks.behaviour c.args.tasks.now) (trees_of (map view ns)) c.args.position)
    c.args.nodes.now c.loop-node.node-index _ _ c.loop-node-test.false refl c.loop-node.invariant

pub push_node-returns-in_ok-push_task-in-Task-clause-told : goal.push_node-returns-in_ok-push_task-in-Task-clause-told
push_node-returns-in_ok-push_task-in-Task-clause-told g t c =
    task_found (g.T.Tasks.behaviour c.args.tasks.now) c.args.node.now c.args.found.now.items c.args.position c.in-Task.sig c.push_task.new.found.items
    c.in-Task.is c.in_ok-push_task-in-Task.ensures

pub push_node-returns-in_ok-push_task-in-Task-clause-out : goal.push_node-returns-in_ok-push_task-in-Task-clause-out
push_node-returns-in_ok-push_task-in-Task-clause-out g t c = task_out c.args.node.now c.args.position.input c.in-Task.sig c.in-Task.is

pub push_node-returns-in_ok-push-in-Chain-clause-told : goal.push_node-returns-in_ok-push-in-Chain-clause-told
push_node-returns-in_ok-push-in-Chain-clause-told g t c =
    chain_found (g.T.Tasks.behaviour c.args.tasks.now) c.args.node.now c.args.found.now.items c.args.position c.in-Chain.nodes c.deref.result.now
    c.of_elements.result c.push_elements.result c.of_chain.result c.push.new.self.items c.push_elements.new.found.items c.in-Chain.is
    (c.deref.ensures.value ∙ c.get.ensures) c.in_ok-push-in-Chain.ensures.items c.of_chain.ensures c.of_elements.ensures c.push_elements.ensures.told

pub push_node-returns-in_ok-push-in-Chain-clause-out : goal.push_node-returns-in_ok-push-in-Chain-clause-out
push_node-returns-in_ok-push-in-Chain-clause-out g t c =
    chain_out c.args.node.now c.args.position.input c.in-Chain.nodes c.deref.result.now c.of_elements.result c.args.position c.push_elements.result
    c.in-Chain.is (c.deref.ensures.value ∙ c.get.ensures) c.of_elements.ensures refl c.push_elements.ensures.out

pub push_node-returns-in_ok-push_members-in-Group-clause-told : goal.push_node-returns-in_ok-push_members-in-Group-clause-told
push_node-returns-in_ok-push_members-in-Group-clause-told g t c =
    group_found (g.T.Tasks.behaviour c.args.tasks.now) c.args.node.now c.args.found.now.items c.args.position c.in-Group.nodes c.deref-in-Group.result.now
    c.deref-in-Group-2.result.now c.count.result c.of_member.result c.of_group.result c.push-in-Group.new.self.items c.push_members.new.found.items
    c.in-Group.is (c.deref-in-Group.ensures.value ∙ c.get-in-Group.ensures) (c.deref-in-Group-2.ensures.value ∙ c.get-in-Group-2.ensures)
    c.count.ensures c.of_group.ensures c.in_ok-push-in-Group.ensures.items c.of_member.ensures c.in_ok-push_members-in-Group.ensures

pub push_node-returns-in_ok-push_members-in-Group-clause-out : goal.push_node-returns-in_ok-push_members-in-Group-clause-out
push_node-returns-in_ok-push_members-in-Group-clause-out g t c = group_out c.args.node.now c.args.position.input c.in-Group.nodes c.in-Group.is

pub push_node-returns-in_ok-push_members-in-Chord-clause-told : goal.push_node-returns-in_ok-push_members-in-Chord-clause-told
push_node-returns-in_ok-push_members-in-Chord-clause-told g t c =
    chord_found (g.T.Tasks.behaviour c.args.tasks.now) c.args.node.now c.args.found.now.items c.args.position c.in-Chord.header
    c.deref-in-Chord.result.now c.deref-in-Chord-2.result.now c.in-Chord.body c.deref-in-Chord-3.result.now c.count-members.result
    c.of_member-in-Chord.result c.of_body.result c.push_node.result c.of_chord.result c.push-in-Chord.new.self.items
    c.push_members-in-Chord.new.found.items c.push_node.new.found.items
    c.in-Chord.is (c.deref-in-Chord.ensures.value ∙ c.get-in-Chord.ensures) (c.deref-in-Chord-2.ensures.value ∙ c.get-in-Chord-2.ensures)
    c.deref-in-Chord-3.ensures c.count-members.ensures c.of_chord.ensures c.in_ok-push-in-Chord.ensures.items c.of_member-in-Chord.ensures
    c.of_body.ensures c.in_ok-push_members-in-Chord.ensures c.push_node.ensures.told

pub push_node-returns-in_ok-push_members-in-Chord-clause-out : goal.push_node-returns-in_ok-push_members-in-Chord-clause-out
push_node-returns-in_ok-push_members-in-Chord-clause-out g t c =
    chord_out c.args.node.now c.args.position.input c.in-Chord.header c.in-Chord.body c.deref-in-Chord-3.result.now c.count-members.result c.of_body.result
    c.args.position c.push_node.result c.in-Chord.is c.deref-in-Chord-3.ensures c.of_body.ensures c.push_node.ensures.out
