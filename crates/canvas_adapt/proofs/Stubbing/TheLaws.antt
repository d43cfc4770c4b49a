-- The laws of stubs.
use Rattle.std.proofs.Common.{None, refl}
use Rattle.canvas_adapt.specs.StubLaws.{StubLaws}
use Rattle.canvas_adapt.specs.Stubs.{any_name, stub_of}
use Rattle.canvas_adapt.proofs.Stubbing.Untouched.{unstubbed}
use Rattle.canvas_adapt.proofs.Stubbing.Written.{reads_back}

pub stub_laws : StubLaws
stub_laws = record {
  none = λ tasks i name args named. unstubbed None None refl refl args named (tasks name args named) i;
  others = λ stubs tasks name h k i args named. unstubbed (stub_of name stubs) (stub_of any_name stubs) h k args named
      (tasks name args named) i;
  written = reads_back;
}
