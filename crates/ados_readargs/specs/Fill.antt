-- What a line gives to the options of a template, or the first fault that holds.
use Rattle.std.specs.Prelude.{List, Bool, Option, Some, None, Result, Ok, Err, IfOk, if◌then◌else◌}
use Rattle.ados_text.specs.Text.{Bytes, Text}
use Rattle.ados_readargs.specs.declared.errors.ArgFault.{ArgFault}
use Rattle.ados_readargs.specs.declared.errors.ArgFault.TheVariants as fault
use Rattle.ados_readargs.specs.declared.options.TemplateOption.{TemplateOption}
use Rattle.ados_readargs.specs.declared.args.Arg.{Arg}
use Rattle.ados_readargs.specs.Words.{line_words_of}
use Rattle.ados_readargs.specs.Meanings.{read_of}
use Rattle.ados_readargs.specs.Readings.{Readings}
use Rattle.ados_readargs.specs.Shares.{is_left, TakesAll}
use Rattle.ados_readargs.specs.Args.{args_of}
use Rattle.ados_readargs.specs.Checks.{lacks, has_bad}
use Rattle.ados_readargs.specs.Template.{template_of}

-- the arguments, if no word is left over, none is missing and numbers are numbers
abbrev pub checked_args : List TemplateOption → Bool → List Arg → Result (List Arg) ArgFault
checked_args options left args =
    if left then Err fault.TooMany else
    (if lacks options args then Err fault.ArgumentMissing else
    (if has_bad options args then Err fault.BadNumber else Ok args))

-- the arguments by what the words of the line say
abbrev pub args_of_readings : List TemplateOption → Bytes → Result Readings ArgFault → Result (List Arg) ArgFault
args_of_readings options line (Err fault) = Err fault
args_of_readings options line (Ok readings) = checked_args options (is_left options readings) (args_of options line readings)

-- the arguments that a line gives to options
abbrev pub parsed_args : List TemplateOption → Bytes → Result (List Arg) ArgFault
parsed_args options line = args_of_readings options line (read_of options line (line_words_of line))

-- the same, if there are options
abbrev pub args_for_template : Bytes → Option (List TemplateOption) → Result (List Arg) ArgFault
args_for_template line None = Err fault.BadTemplate
args_for_template line (Some options) = parsed_args options line

-- The arguments that a line gives to the options of a template's text, or the first fault that holds.
abbrev pub fill_of : Text → Bytes → Result (List Arg) ArgFault
fill_of template line = args_for_template line (template_of template)

-- each plain word of the line is taken by one option, in the order of the line
abbrev pub LosesNoWord : List TemplateOption → Bytes → Type 0
LosesNoWord options line = IfOk (read_of options line (line_words_of line)) (λ readings. TakesAll options readings)
