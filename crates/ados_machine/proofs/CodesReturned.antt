-- What a command returns, by numbers.
use Rattle.std.proofs.Common.{[], ◌∷◌, ◌++◌, ◌≡◌, ◌∙◌, sym, ℕ, pos, List, false, Some, None, refl, arith}
use Rattle.std.proofs.lemmas.Bool.{ne_eqb, lt-ltb, le-ltb}
use Rattle.std.specs.Fmt.{decimal}
use Rattle.ados_find.specs.declared.codes.Codes.{Codes}
use Rattle.ados_machine.specs.declared.answers.Answer.{Answer as Reply}
use Rattle.ados_machine.specs.declared.answers.Answer.TheVariants.{NotFound, Denied, Memory, Other, Exit, Signal, WaitFault}
use Rattle.ados_machine.specs.declared.events.Event.TheVariants.{Turn}
use Rattle.ados_machine.specs.declared.phases.Child.{Child}
use Rattle.ados_machine.specs.declared.phases.Wait.{Wait}
use Rattle.ados_machine.specs.declared.phases.Wait.TheVariants.{ForStart, ForEnd}
use Rattle.ados_machine.specs.Answers.{answered_completion, code_of}
use Rattle.ados_machine.specs.Completions.{Answers}
use Rattle.ados_machine.specs.Course.{Course, with_no_device_used}
use Rattle.ados_machine.specs.Lines.{with_search_used}
use Rattle.ados_line.specs.Faults.{result2_of}
use Rattle.ados_find.specs.Codes.{fail_codes}
use Rattle.std.specs.Prelude.{codes}
use Rattle.ados_machine.specs.Next.{frames_at, numbers}
use Rattle.ados_machine.specs.Codes.{UnknownCommandsFail, UnknownCommandsAreTold, FaultyLinesFail, Awaits, Returns, ExitStatusesAreReturned, FaultsAreReturned, FailedStartsAreReturned}
use Rattle.ados_machine.specs.Shells.{ShellState}
use Rattle.ados_machine.specs.Sinks.{newest_sink}
use Rattle.ados_machine.specs.Step.{Accepted, turn_taken, start, course_without_flag, step_of}
use Rattle.ados_machine.specs.Apply.{turn_of_completion}
use Rattle.ados_flow.specs.Frames.{FrameState}
use Rattle.ados_machine.specs.World.{WorldState, input_of}
use Rattle.ados_machine.proofs.Loops.{runs-not-over}
use Rattle.ados_machine.proofs.NextLemmas.{turns, answer-record}

pub unknown-fail : UnknownCommandsFail
unknown-fail w k shell line takes unknown =
    let turn = turns w k shell _ takes in
    let course : Course = record (course_without_flag (start w shell)) { used = turn.used } in
    rw (turn.does, unknown) (answer-record w k turn.queue line.command (numbers 10 205) false (with_search_used line.command course) (frames_at shell))

told : (word : List ℕ) (course : Course) (frames : List FrameState) → frames ≡ [] → course.parts.limit ≡ record { 0 = pos 10 } → course.printed ≡ [] →
    (turn_of_completion (Answers word (numbers 10 205) false course) frames).course.printed
    ≡ (word ++ codes ": " ++ codes "object not found" ++ 10 ∷ []) ++ (word ++ codes " failed returncode " ++ decimal 10 ++ 10 ∷ [])
told word course frames none limit nothing = rw (none, limit, nothing) refl

pub unknown-told : UnknownCommandsAreTold
unknown-told w k shell line world out items takes unknown none limit accepted =
    let turn = turns w k shell _ takes in
    let course : Course = with_search_used line.command (record (course_without_flag (start w shell)) { used = turn.used }) in
    let t = turn_of_completion (Answers line.command (numbers 10 205) false course) (frames_at shell) in
    let does : step_of w (Turn k) ≡ turn_taken w k turn.queue t = rw (turn.does, unknown) refl in
    let same : turn_taken w k turn.queue t ≡ Accepted world out items = sym does ∙ accepted in
    let bytes : out.bytes ≡ t.course.printed = cc in
    bytes ∙ told line.command course (frames_at shell) none limit refl

pub faulty-fail : FaultyLinesFail
faulty-fail w k shell fault takes =
    let turn = turns w k shell _ takes in
    let course : Course = record (course_without_flag (start w shell)) { used = turn.used } in
    rw turn.does (answer-record w k turn.queue (codes "Shell") (fail_codes (result2_of fault)) false (with_no_device_used course) (frames_at shell))

-- an answer that ends its command
returns : (w : WorldState) (k : ℕ) (shell : ShellState) (wait : Wait) (reply : Reply) (word : List ℕ) (answered : Codes) → Awaits w k shell wait →
    answered_completion (newest_sink shell.frames) (start w shell) wait reply ≡ Some (Answers word answered false (start w shell)) →
    Returns w k shell reply answered
returns w k shell wait reply word answered awaits is =
    rw (runs-not-over w k shell awaits.runs, awaits.runs, awaits.waits, is) (answer-record w k (input_of w k).queue word answered false (start w shell) shell.frames)

exit-returns : (w : WorldState) (k : ℕ) (shell : ShellState) (child : Child) (status code : ℕ) → Awaits w k shell (ForEnd child) → child.fault ≡ None →
    code_of status ≡ record { 0 = pos code } → Returns w k shell (Exit status) (numbers code 0)
exit-returns w k shell child status code awaits none is =
    returns w k shell (ForEnd child) (Exit status) child.word (numbers code 0) awaits (rw (none, is) refl)

pub exits-return : ExitStatusesAreReturned
exits-return w k shell child awaits none = record {
  well = exit-returns w k shell child 0 0 awaits none refl;
  warns = λ status least below. exit-returns w k shell child status 5 awaits none
      (rw (ne_eqb status 0 (λ e. omega (arith, e, least)), lt-ltb status 10 below) refl);
  fails_at_10 = λ status least below. exit-returns w k shell child status 10 awaits none
      (rw (ne_eqb status 0 (λ e. omega (arith, e, least)), le-ltb status 10 least, lt-ltb status 20 below) refl);
  fails_at_20 = λ status least. exit-returns w k shell child status 20 awaits none
      (rw (ne_eqb status 0 (λ e. omega (arith, e, least)), le-ltb status 10 (omega (arith, least)), le-ltb status 20 least) refl);
}

pub faults-return : FaultsAreReturned
faults-return w k shell child fault awaits is = record {
  exits = λ status. returns w k shell (ForEnd child) (Exit status) child.word _ awaits (rw is refl);
  signals = returns w k shell (ForEnd child) Signal child.word _ awaits (rw is refl);
  lost = returns w k shell (ForEnd child) WaitFault child.word _ awaits (rw is refl);
}

pub starts-return : FailedStartsAreReturned
starts-return w k shell starting awaits = record {
  not_found = returns w k shell (ForStart starting) NotFound starting.word _ awaits refl;
  denied = returns w k shell (ForStart starting) Denied starting.word _ awaits refl;
  memory = returns w k shell (ForStart starting) Memory starting.word _ awaits refl;
  other = returns w k shell (ForStart starting) Other starting.word _ awaits refl;
}
