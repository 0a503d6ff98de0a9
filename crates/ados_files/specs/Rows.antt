-- The outcome of each command, given the shared state, its shell's view and its arguments.
use Rattle.std.specs.Prelude.{ℕ, List, [], codes, map, slice_get}
use Rattle.std.specs.Option.{unwrap_or}
use Rattle.ados_text.specs.Text.{Text}
use Rattle.ados_readargs.specs.declared.args.Arg.{Arg}
use Rattle.ados_readargs.specs.Template.{options_of}
use Rattle.ados_find.specs.Shared.{SharedState}
use Rattle.ados_find.specs.Views.{View}
use Rattle.ados_find.specs.Effects.{Effect}
use Rattle.ados_resident.specs.declared.commands.FilesCommand.{FilesCommand}
use Rattle.ados_resident.specs.declared.commands.FilesCommand.TheVariants as files
use Rattle.ados_resident.specs.declared.dialects.Dialect.{Dialect}
use Rattle.ados_resident.specs.declared.dialects.Dialect.TheVariants.{Core, Full}
use Rattle.ados_files.specs.MakeDir.{make_dir_row}
use Rattle.ados_files.specs.Delete.{delete_row}
use Rattle.ados_files.specs.TypeFiles.{type_row}
use Rattle.ados_files.specs.Filenote.{filenote_row}
use Rattle.ados_files.specs.Protect.{protect_row}
use Rattle.ados_files.specs.Listing.{list_row}
use Rattle.ados_files.specs.Dir.{dir_row}
use Rattle.ados_files.specs.Rename.{rename_row}
use Rattle.ados_files.specs.Join.{join_row}
use Rattle.ados_files.specs.Copy.{copy_row}
use Rattle.ados_files.specs.Search.{search_row}
use Rattle.ados_files.specs.Sort.{sort_row}

-- the text of a command's template in Core, and those of Search and Sort, which Full alone has
abbrev pub core_template_of : FilesCommand → Text
core_template_of files.Copy = codes "FROM/M,TO/A,ALL/S,QUIET/S"
core_template_of files.Delete = codes "FILE/M/A,ALL/S,QUIET/S"
core_template_of files.Dir = codes "DIR,DIRS/S,FILES/S"
core_template_of files.Filenote = codes "FILE/A,COMMENT"
core_template_of files.Join = codes "FILE/M/A,AS=TO/K/A"
core_template_of files.List = codes "DIR/M,P=PAT/K,QUICK/S,FILES/S,DIRS/S"
core_template_of files.MakeDir = codes "NAME/M"
core_template_of files.Protect = codes "FILE/A,FLAGS,ADD/S,SUB/S"
core_template_of files.Rename = codes "FROM/A,TO=AS/A"
core_template_of files.Search = codes "FROM/M,SEARCH/A,ALL/S,NONUM/S,QUIET/S,QUICK/S,FILE/S,PATTERN/S"
core_template_of files.Sort = codes "FROM/A,TO/A,COLSTART/K/N,CASE/S,NUMERIC/S"
core_template_of files.«Type» = codes "FROM/A/M"

-- the text of a command's template in Full: more options come behind those of Core
abbrev pub full_template_of : FilesCommand → Text
full_template_of files.Copy = codes "FROM/M,TO/A,ALL/S,QUIET/S,CLONE/S,COM/S,NOPRO/S,DATES/S,NOREQ/S,BUF=BUFFER/K/N"
full_template_of files.Delete = codes "FILE/M/A,ALL/S,QUIET/S,FORCE/S"
full_template_of files.Dir = codes "DIR,DIRS/S,FILES/S,ALL/S,OPT/K,INTER/S"
full_template_of files.Filenote = codes "FILE/A,COMMENT,ALL/S,QUIET/S"
full_template_of files.Protect = codes "FILE/A,FLAGS,ADD/S,SUB/S,ALL/S,QUIET/S"
full_template_of files.List = codes "DIR/M,P=PAT/K,QUICK/S,FILES/S,DIRS/S,TO/K,SUB/K,LFORMAT/K,ALL/S,KEYS/S,DATES/S,NODATES/S,BLOCK/S,NOHEAD/S,SINCE/K,UPTO/K"
full_template_of files.Rename = codes "FROM/A/M,TO=AS/A,QUIET/S"
full_template_of files.«Type» = codes "FROM/A/M,TO/K,HEX/S,NUMBER/S,OPT/K"
full_template_of command = core_template_of command

-- the text of a command's template in a dialect
abbrev pub template_of : Dialect → FilesCommand → Text
template_of Core command = core_template_of command
template_of Full command = full_template_of command

-- the names of the options of a template, in order
abbrev pub option_names : Text → List (List Text)
option_names template = map (λ option. option.names) (options_of template)

-- the names of the option at a place, from 0, in a command's template in Full
abbrev pub names_at : FilesCommand → ℕ → List Text
names_at command place = unwrap_or (slice_get (option_names (full_template_of command)) place) []

-- what a command does, given the shared state, its shell's view and its arguments
abbrev pub row_of : FilesCommand → SharedState → View → List Arg → Effect
row_of files.Copy shared view args = copy_row shared view args
row_of files.Delete shared view args = delete_row shared view args
row_of files.Dir shared view args = dir_row shared view args
row_of files.Filenote shared view args = filenote_row shared view args
row_of files.Join shared view args = join_row shared view args
row_of files.List shared view args = list_row shared view args
row_of files.MakeDir shared view args = make_dir_row shared view args
row_of files.Protect shared view args = protect_row shared view args
row_of files.Rename shared view args = rename_row shared view args
row_of files.Search shared view args = search_row shared view args
row_of files.Sort shared view args = sort_row shared view args
row_of files.«Type» shared view args = type_row shared view args
