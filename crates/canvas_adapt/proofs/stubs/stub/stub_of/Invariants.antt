use Rattle.std.proofs.Common.{◌≡◌, drop}
use Rattle.canvas_adapt.specs.Stubs.{stub_of}
use Rattle.canvas_adapt.proofs.stubs.stub.stub_of.Given as goal

-- the stubs that are left answer as all do
abbrev pub invariant-loop-stub : goal.invariant-loop-stub
invariant-loop-stub l = stub_of l.name (drop l.stub-index l.stubs) ≡ stub_of l.name l.stubs
