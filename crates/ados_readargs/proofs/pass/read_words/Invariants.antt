use Rattle.std.proofs.Common.{◌≡◌, ◌+◌, ℕ}
use Rattle.ados_readargs.specs.Meanings.{read_from}
use Rattle.ados_readargs.specs.Readings.{no_readings}
use Rattle.ados_readargs.specs.Words.{line_words_of, words_from}
use Rattle.ados_readargs.specs.declared.meanings.Pending.TheVariants.{Free}
use Rattle.ados_readargs.proofs.pass.read_words.Given as goal

abbrev pub invariant-loop-step : goal.invariant-loop-step
invariant-loop-step l =
    (n : ℕ) → n + l.step ≡ l.step-end
    → read_from l.options l.line no_readings Free (line_words_of l.line) ≡ read_from l.options l.line (record { given = l.given.items; plain = l.plain.items }) l.pending (words_from n l.line l.place)
