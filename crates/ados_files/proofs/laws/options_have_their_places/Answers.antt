use Rattle.std.proofs.Common.{◌≡◌, take, length, refl}
use Rattle.ados_resident.specs.declared.commands.FilesCommand.{FilesCommand}
use Rattle.ados_resident.specs.declared.commands.FilesCommand.TheVariants as files
use Rattle.ados_files.specs.Rows.{core_template_of, full_template_of, option_names}
use Rattle.ados_files.proofs.laws.options_have_their_places.Goals as goal

-- the last clause is checked at each other command
core_comes_first : (command : FilesCommand) →
    take (length (option_names (core_template_of command))) (option_names (full_template_of command)) ≡ option_names (core_template_of command)
core_comes_first files.Copy = refl
core_comes_first command = refl

pub returns-clause-core : goal.returns-clause-core
returns-clause-core c = core_comes_first
