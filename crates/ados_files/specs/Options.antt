-- Options that were given.
use Rattle.std.specs.Prelude.{ℕ, Bool, nat_lt, List, length}
use Rattle.ados_readargs.specs.declared.args.Arg.{Arg}
use Rattle.ados_readargs.specs.Args.{option_texts}

-- the option at a place of the template was given a text
abbrev pub is_given : List Arg → ℕ → Bool
is_given args place = nat_lt 0 (length (option_texts args place))
