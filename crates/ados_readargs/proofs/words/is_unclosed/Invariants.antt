use Rattle.std.proofs.Common.{◌≡◌, ◌+◌, ℕ}
use Rattle.std.specs.List.{list_any}
use Rattle.ados_readargs.specs.Words.{is_open_quote, line_words_of, words_from}
use Rattle.ados_readargs.proofs.words.is_unclosed.Given as goal

abbrev pub invariant-loop-step : goal.invariant-loop-step
invariant-loop-step l = (n : ℕ) → n + l.step ≡ l.step-end → list_any is_open_quote (line_words_of l.line) ≡ list_any is_open_quote (words_from n l.line l.place)
