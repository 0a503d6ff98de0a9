-- TO: what a command prints is written to a file at the end, or discarded by NIL:.
use Rattle.std.specs.Prelude.{pos, [], Option, Some, None, Result, Ok, Err, if◌then◌else◌}
use Rattle.std.specs.Ordering.{int_eq}
use Rattle.ados_text.specs.Text.{Text}
use Rattle.ados_text.specs.declared.codes.Result2.{Result2}
use Rattle.ados_ram.specs.Place.{Place, key_of, last_name}
use Rattle.ados_ram.specs.Files.{Files}
use Rattle.ados_ram.specs.InUse.{is_output}
use Rattle.ados_ram.specs.FileOperations.{write_of, write_fault}
use Rattle.ados_find.specs.declared.codes.Codes.{Codes}
use Rattle.ados_find.specs.declared.targets.Target.{Target}
use Rattle.ados_find.specs.declared.targets.Target.TheVariants.{Nil, At}
use Rattle.ados_find.specs.Codes.{error_codes}
use Rattle.ados_find.specs.Effects.{Effect, unless_refused}
use Rattle.ados_find.specs.Shared.{limits_of, with_files}
use Rattle.ados_find.specs.Targets.{target_of}
use Rattle.ados_find.specs.Views.{View}

-- the effect of a command that prints nothing, and returns these codes
abbrev pub silent : Effect → Codes → Effect
silent effect codes = record effect { codes = codes; output = [] }

-- the effect of a command whose output is in the files after a change, unless a fault forbids that
abbrev pub output_in : Option Result2 → Files → Effect → Effect
output_in fault files effect =
    unless_refused (silent effect) fault (record (silent effect effect.codes) { shared = with_files effect.shared files })

-- the effect of a command whose output is the content of the file at a place
abbrev pub output_at : View → Effect → Place → Effect
output_at view effect place =
    output_in (write_fault (limits_of effect.shared.dialect) (is_output view.busy (key_of place)) effect.shared.files (key_of place) (last_name place) effect.output)
    (write_of effect.shared.files (key_of place) (last_name place) effect.output) effect

-- the effect of a command whose output goes to a target, or is lost since the target has a fault
abbrev pub output_by : View → Effect → Result Target Result2 → Effect
output_by view effect (Err fault) = silent effect (error_codes fault)
output_by view effect (Ok Nil) = silent effect effect.codes
output_by view effect (Ok (At place)) = output_at view effect place

-- the effect of a command whose output goes to where a text leads; one that returns a code writes nothing, and prints nothing
abbrev pub output_for : View → Text → Effect → Effect
output_for view text effect =
    if int_eq effect.codes.code.0 (pos 0) then output_by view effect (target_of effect.shared view.parts.directory text)
    else silent effect effect.codes

-- what a command does with TO, given what it does without
abbrev pub output_to : View → Option Text → Effect → Effect
output_to view None effect = effect
output_to view (Some text) effect = output_for view text effect
