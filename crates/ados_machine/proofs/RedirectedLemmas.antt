-- A file that is an open output is not opened again.
use Rattle.std.proofs.Common.{◌≡◌, List, [], Bool, true, false, Some, None, Ok, Err, refl}
use Rattle.std.specs.FinMap as finite
use Rattle.ados_line.specs.declared.lines.Line.{Line}
use Rattle.ados_line.specs.declared.lines.Redirection.{Redirection}
use Rattle.ados_text.specs.declared.codes.TheConstants.Result2.{OBJECT_IN_USE}
use Rattle.ados_ram.specs.Entry.{is_directory}
use Rattle.ados_ram.specs.FileOperations.{way_fault}
use Rattle.ados_ram.specs.Place.{Place, key_of, any_same}
use Rattle.ados_ram.specs.declared.entries.Entry.{Entry}
use Rattle.ados_find.specs.Shared.{SharedState}
use Rattle.ados_find.specs.Targets.{target_of, opened_by}
use Rattle.ados_find.specs.declared.targets.Target.TheVariants.{At}
use Rattle.ados_resident.specs.declared.commands.Builtin.{Builtin}
use Rattle.ados_machine.specs.Apply.{here_of}
use Rattle.ados_machine.specs.Completions.{Here, refusal_completion}
use Rattle.ados_machine.specs.Course.{Course, outputs_of, with_devices_used}
use Rattle.ados_machine.specs.Lines.{builtin_completion, with_search_used}
use Rattle.ados_machine.specs.Next.{frames_at, numbers, stands_for}
use Rattle.ados_machine.specs.Prompts.{query_of}
use Rattle.ados_machine.specs.Redirected.{OpenOutputsAreInUse}
use Rattle.ados_machine.specs.Step.{start, course_without_flag}
use Rattle.ados_machine.specs.Uses.{devices_named}
use Rattle.ados_machine.proofs.NextLemmas.{turns, answer-record}
use Rattle.ados_machine.proofs.PlainLemmas.{by-found}

refused : (shared : SharedState) (outputs : List Place) (append : Bool) (place : Place) (entry : Entry) →
    way_fault shared.files [] (key_of place) ≡ None → finite.get shared.files (key_of place) ≡ Some entry → is_directory entry ≡ false → any_same outputs (key_of place) ≡ true →
    opened_by shared outputs append (At place) ≡ Err OBJECT_IN_USE
refused shared outputs true place entry way there file is_open = rw (way, there, file, is_open) refl
refused shared outputs false place entry way there file is_open = rw (way, there, file, is_open) refl

-- the course in which its output is opened
abbrev input_read : Course → Course
input_read course = with_devices_used (devices_named None) course

completes : (builtin : Builtin) (line : Line) (here : Here) (course : Course) (output : Redirection) (place : Place) → line.input ≡ None → query_of course.shared.dialect builtin line.args ≡ None → line.output ≡ Some output →
    target_of course.shared course.parts.directory output.name ≡ Ok (At place) →
    opened_by course.shared (outputs_of course.seen) output.append (At place) ≡ Err OBJECT_IN_USE →
    builtin_completion builtin line here course ≡ refusal_completion line.command OBJECT_IN_USE (input_read course)
completes builtin line here course output place no_input no_prompt output_is leads in_use = rw (no_input, no_prompt, output_is, leads, in_use) refl

pub open-outputs-in-use : OpenOutputsAreInUse
open-outputs-in-use w k shell line output place entry takes is_open =
    let turn = turns w k shell _ takes.takes in
    let course : Course = with_search_used line.command (record (course_without_flag (start w shell)) { used = turn.used }) in
    let in_use = refused w.shared (outputs_of course.seen) output.append place entry is_open.way is_open.there is_open.file is_open.is_open in
    rw (
      turn.does,
      by-found (stands_for w shell line.command) takes.builtin line (here_of (frames_at shell)) course takes.is,
      completes takes.builtin line (here_of (frames_at shell)) course output place takes.no_input takes.no_prompt takes.output_is takes.leads in_use,
    )
    (answer-record w k turn.queue line.command (numbers 20 202) false (input_read course) (frames_at shell))
