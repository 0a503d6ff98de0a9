-- Filenote: a comment on objects, with ALL on all that is below them too.
use Rattle.std.specs.Prelude.{List}
use Rattle.ados_text.specs.Text.{Text}
use Rattle.ados_readargs.specs.declared.args.Arg.{Arg}
use Rattle.ados_readargs.specs.Args.{option_texts, option_text, has_switch}
use Rattle.ados_ram.specs.Place.{Place, key_of}
use Rattle.ados_ram.specs.FileOperations.{comment_of, comment_fault}
use Rattle.ados_find.specs.Shared.{SharedState, with_files}
use Rattle.ados_find.specs.Views.{View}
use Rattle.ados_find.specs.Effects.{Effect}
use Rattle.ados_find.specs.Done.{Done, fresh_work, refused_or, act_on_each, end_effect}
use Rattle.ados_files.specs.Texts.{text_or_empty}
use Rattle.ados_objects.specs.Acts.{at_names}
use Rattle.ados_files.specs.Below.{on_all}
use Rattle.ados_files.specs.declared.options.TheConstants.{FILENOTE_FILE, FILENOTE_COMMENT, FILENOTE_ALL}

-- the object at a place gets the comment, unless that is refused
abbrev pub note_one : Text → Done → Place → Done
note_one comment done place =
    refused_or (comment_fault done.shared.files (key_of place) comment) done
    (record done { shared = with_files done.shared (comment_of done.shared.files (key_of place) comment) })

-- the comment that Filenote sets: without COMMENT it is cleared
abbrev pub comment_given : List Arg → Text
comment_given args = text_or_empty (option_text args FILENOTE_COMMENT)

-- Filenote, given its arguments: with ALL all below the objects gets the comment too
abbrev pub filenote_row : SharedState → View → List Arg → Effect
filenote_row shared view args =
    end_effect (act_on_each (at_names (on_all (has_switch args FILENOTE_ALL) (note_one (comment_given args))) view) (fresh_work shared) (option_texts args FILENOTE_FILE))
