use Rattle.std.proofs.Common.{◌≡◌, ◌++◌, ◌≤◌, drop, length}
use Rattle.ados_line.specs.Values.{visible_variables, values}
use Rattle.ados_line.proofs.values.put_values.Given as goal

abbrev pub invariant-loop-place : goal.invariant-loop-place
invariant-loop-place l =
    (let v = visible_variables l.scope in
    record {
      text : values v 0 l.letters ≡ l.text ++ values v l.taken (drop l.place l.letters);
      short : length l.text ≤ 512;
    })
