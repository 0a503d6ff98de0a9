use Rattle.std.proofs.Common.{◌≡◌, take, true}
use Rattle.std.specs.List.{list_all}
use Rattle.execute_options.specs.Names.{may_stand_in_file}
use Rattle.execute_options.proofs.config.check_names.Given as goal

abbrev pub invariant-loop-option : goal.invariant-loop-option
invariant-loop-option l = list_all (λ line. may_stand_in_file line.word) (take l.option-index l.options) ≡ true
