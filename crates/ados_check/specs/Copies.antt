-- Copies that put what is in several directories into one.
use Rattle.std.specs.Prelude.{◌&&◌, Bool, false, not, List, Result, Ok, Err, is_some}
use Rattle.std.specs.List.{list_any}
use Rattle.ados_text.specs.Text.{Text}
use Rattle.ados_files.specs.declared.options.TheConstants.{COPY_ALL, COPY_FROM}
use Rattle.ados_find.specs.declared.codes.Codes.{Codes}
use Rattle.ados_machine.specs.Commands.{template_of}
use Rattle.ados_objects.specs.Names.{pattern_of, piece_of}
use Rattle.ados_pattern.specs.Meaning.{Meaning}
use Rattle.ados_readargs.specs.Args.{has_switch, option_texts}
use Rattle.ados_readargs.specs.Fill.{fill_of}
use Rattle.ados_readargs.specs.declared.args.Arg.{Arg}
use Rattle.ados_readargs.specs.declared.errors.ArgFault.{ArgFault}
use Rattle.ados_resident.specs.declared.commands.Builtin.{Builtin}
use Rattle.ados_resident.specs.declared.commands.Builtin.TheVariants.{Files}
use Rattle.ados_resident.specs.declared.commands.FilesCommand.TheVariants.{Copy}
use Rattle.ados_resident.specs.declared.dialects.Dialect.{Dialect}

-- what was read of a text is a pattern, and not the name of one object; false if it is no pattern at all
abbrev pub says_several : Result Meaning Codes → Bool
says_several (Ok pattern) = not (is_some pattern.name)
says_several (Err codes) = false

-- an argument names objects by a pattern: by the last piece of its path
abbrev pub is_wild : Text → Bool
is_wild text = says_several (pattern_of (piece_of text))

-- A Copy with these arguments puts what is in several directories into one: with ALL, each directory that a pattern of FROM finds gives
-- all files below it, each by its path below that directory, and without the directory's own name.
abbrev pub copies_flat : List Arg → Bool
copies_flat args = has_switch args COPY_ALL && list_any is_wild (option_texts args COPY_FROM)

-- arguments of Copy, if they fill its template, put what is in several directories into one
abbrev pub flat_filled : Result (List Arg) ArgFault → Bool
flat_filled (Ok args) = copies_flat args
flat_filled (Err fault) = false

-- a command with this text of arguments is a Copy that puts what is in several directories into one, in a dialect
abbrev pub is_flat_copy : Dialect → Builtin → Text → Bool
is_flat_copy dialect (Files Copy) text = flat_filled (fill_of (template_of dialect (Files Copy)) text)
is_flat_copy dialect command text = false
