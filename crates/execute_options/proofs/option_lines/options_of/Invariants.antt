use Rattle.std.proofs.Common.{◌≡◌, ◌+◌, ◌++◌, None, drop}
use Rattle.execute_options.specs.OptionLines.{first_bad_line}
use Rattle.execute_options.proofs.OptionLineLemmas.{options_from}
use Rattle.execute_options.proofs.option_lines.options_of.Given as goal

-- what was taken and what is left are all options, and what was taken is UTF-8
abbrev pub invariant-loop-place : goal.invariant-loop-place
invariant-loop-place l = record {
  all : options_from 1 l.line-items ≡ l.options.items ++ options_from (l.place + 1) (drop l.place l.line-items);
  good : first_bad_line l.options.items ≡ None;
}
