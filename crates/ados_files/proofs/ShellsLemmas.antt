-- The commands on files read neither what the shells are called, nor what they run from.
use Rattle.std.proofs.Common.{List, refl}
use Rattle.ados_readargs.specs.declared.args.Arg.{Arg}
use Rattle.ados_find.specs.Shared.{SharedState}
use Rattle.ados_find.specs.Views.{IgnoresShells}
use Rattle.ados_resident.specs.declared.commands.FilesCommand.{FilesCommand}
use Rattle.ados_resident.specs.declared.commands.FilesCommand.TheVariants.{Copy}
use Rattle.ados_files.specs.Rows.{row_of}

-- the last clause is checked at each other command
pub ignores : (command : FilesCommand) (shared : SharedState) (args : List Arg) → IgnoresShells (λ view. row_of command shared view args)
ignores Copy shared args = λ view names uses. refl
ignores command shared args = λ view names uses. refl
