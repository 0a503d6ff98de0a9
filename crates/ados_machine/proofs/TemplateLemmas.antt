-- The texts of the templates are ASCII, and templates.
use Rattle.std.proofs.Common.{◌≡◌, map, refl}
use Rattle.ados_text.specs.Text.{to_ascii}
use Rattle.ados_readargs.specs.Template.{IsTemplate}
use Rattle.ados_resident.specs.declared.dialects.Dialect.{Dialect}
use Rattle.ados_resident.specs.declared.dialects.Dialect.TheVariants.{Core, Full}
use Rattle.ados_resident.specs.declared.commands.EnvCommand.TheVariants as env
use Rattle.ados_resident.specs.declared.commands.FilesCommand.TheVariants as files
use Rattle.ados_resident.specs.declared.commands.FlowCommand.TheVariants as flow
use Rattle.ados_resident.specs.declared.commands.Builtin.{Builtin}
use Rattle.ados_resident.specs.declared.commands.Builtin.TheVariants.{Env, Files, Flow}
use Rattle.ados_machine.specs.Commands.{template_of}

-- a command's template is ASCII, and a template, in a dialect
abbrev IsChecked : Builtin → Dialect → Type 0
IsChecked builtin dialect = (map to_ascii (template_of dialect builtin) ≡ template_of dialect builtin) × IsTemplate (template_of dialect builtin)

in_each : (builtin : Builtin) → IsChecked builtin Core → IsChecked builtin Full → (dialect : Dialect) → IsChecked builtin dialect
in_each builtin core full Core = core
in_each builtin core full Full = full

-- the last clause of each crate is checked at each other command
checked : (builtin : Builtin) (dialect : Dialect) → IsChecked builtin dialect
checked (Env env.Alias) = in_each (Env env.Alias) (refl, refl) (refl, refl)
checked (Env command) = in_each (Env command) (refl, refl) (refl, refl)
checked (Files files.Copy) = in_each (Files files.Copy) (refl, refl) (refl, refl)
checked (Files command) = in_each (Files command) (refl, refl) (refl, refl)
checked (Flow flow.Ask) = in_each (Flow flow.Ask) (refl, refl) (refl, refl)
checked (Flow command) = in_each (Flow command) (refl, refl) (refl, refl)

pub ascii : (dialect : Dialect) (builtin : Builtin) → map to_ascii (template_of dialect builtin) ≡ template_of dialect builtin
ascii dialect builtin = (checked builtin dialect).0

pub are_templates : (dialect : Dialect) (builtin : Builtin) → IsTemplate (template_of dialect builtin)
are_templates dialect builtin = (checked builtin dialect).1
