use Rattle.canvas_surface.proofs.surface.queue.again_by_one_pass.Goals as goal

-- what a pass has just taken it may deliver again
pub comes_again-requires-clause-taken : goal.comes_again-requires-clause-taken
comes_again-requires-clause-taken g c =
    c.steps_of_workers.ensures.taken_can c.args.pass.now c.take.new.pass c.in-Some.taken c.in-Some.ensures.call
