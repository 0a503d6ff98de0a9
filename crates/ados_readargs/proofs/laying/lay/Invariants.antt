use Rattle.std.proofs.Common.{◌≡◌, ◌++◌, length, drop}
use Rattle.ados_readargs.specs.Args.{args_of, args_from}
use Rattle.ados_readargs.proofs.laying.lay.Given as goal

abbrev pub invariant-loop-place : goal.invariant-loop-place
invariant-loop-place l = record {
  so_far : args_of l.options l.line l.readings ≡ l.slots ++ args_from l.options l.line l.readings l.place (drop l.place l.options);
  long : length l.slots ≡ l.place;
}
