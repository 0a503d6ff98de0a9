use Rattle.std.proofs.Common.{◌≡◌, ◌++◌, drop}
use Rattle.ados_check.specs.Phrases.{given_among, given_options, phrase_of}
use Rattle.ados_check.proofs.phrases.Phrases.given_options.Given as goal

abbrev pub invariant-loop-place : goal.invariant-loop-place
invariant-loop-place l =
    given_options l.self.dialect l.self.command.now l.self.line.now l.words
    ≡ l.options.items ++ given_among (phrase_of l.self.dialect l.self.command.now l.self.line.now) l.further (drop l.place l.words)
