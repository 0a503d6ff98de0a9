use Rattle.std.proofs.Common.{◌≡◌, drop}
use Rattle.ados_vars.specs.Locals.{shown_pairs}
use Rattle.ados_line.specs.Globals.{asks_beyond}
use Rattle.ados_line.proofs.globals.asks_among.Given as goal

abbrev pub invariant-loop-place : goal.invariant-loop-place
invariant-loop-place l =
    (let locals = shown_pairs l.scope.locals.now l.scope.code l.scope.result2 in
    asks_beyond locals (drop l.place l.letters) ≡ asks_beyond locals l.letters)
