-- Calls: what a launcher answered, and whether it was called.
use Rattle.std.specs.Prelude.{List, [], ◌∷◌, Bool, true, false}
use Rattle.ados_machine.specs.declared.answers.Answer.{Answer}
use Rattle.ados_launcher.specs.declared.calls.Call.{Call}
use Rattle.ados_launcher.specs.declared.calls.Call.TheVariants.{Start, Read, Wait}

-- what a launcher answered to a call
abbrev pub answer_to : Call → Answer
answer_to (Start job answer) = answer
answer_to (Read k answer) = answer
answer_to (Wait k answer) = answer

-- a launcher was not called
abbrev pub is_none : List Call → Bool
is_none [] = true
is_none (call ∷ calls) = false
