use Rattle.std.proofs.Common.{◌≡◌, drop}
use Rattle.ados_check.specs.CommandWords.{from_command, lead_of}
use Rattle.ados_check.proofs.command_words.CommandWords.from_command.Given as goal

abbrev pub invariant-loop-place : goal.invariant-loop-place
invariant-loop-place l =
    from_command (lead_of l.self.aliases.now l.self.line.now) 0 l.words
    ≡ from_command (lead_of l.self.aliases.now l.self.line.now) l.further (drop l.place l.words)
