-- Two worlds that differ only in one shell, which looks the same, answer the events of the other shells alike.
use Rattle.std.proofs.Common.{◌≡◌, ◌≢◌, ◌∙◌, sym, ℕ, zero, suc, ◌-◌, List, [], ◌∷◌, ◌++◌, Bool, true, false, Option, Some, None, Result, Ok, Err, length, refl, ap, arith, inl, inr, not, is_some}
use Rattle.std.specs.Prelude.{nat_le, nat_lt}
use Rattle.std.specs.List.{list_any}
use Rattle.std.proofs.lemmas.Bool.{eq-eqb, ne_eqb, cases_eq, cases_Bool}
use Rattle.ados_line.specs.Cut.{line_limit}
use Rattle.ados_find.specs.declared.codes.Codes.{Codes}
use Rattle.ados_find.specs.declared.outcomes.Renamed.{Renamed}
use Rattle.ados_machine.specs.Breaks.{kind_breaks}
use Rattle.ados_machine.specs.declared.answers.Answer.{Answer as Reply}
use Rattle.ados_machine.specs.declared.events.Event.{Event}
use Rattle.ados_machine.specs.declared.events.Event.TheVariants.{Typed, EndOfInput, Turn, Answer, Break}
use Rattle.ados_machine.specs.declared.events.BreakKind.{BreakKind}
use Rattle.ados_machine.specs.declared.outs.Out.{Out}
use Rattle.ados_machine.specs.declared.refusals.Refusal.{Refusal}
use Rattle.ados_machine.specs.declared.refusals.Refusal.TheVariants.{Over, NoSuchShell, NotReady, WrongAnswer, QueueFull, LineTooLong, NoMemory}
use Rattle.ados_machine.specs.Items.{TraceItem}
use Rattle.ados_machine.specs.Shells.{ShellStart, begun_shell, ShellState}
use Rattle.ados_machine.specs.Apply.{TurnResult}
use Rattle.ados_machine.specs.Numbers.{free_number}
use Rattle.ados_machine.specs.Turning.{Turning, Refuses, Ends, Turned, flagged_turning, turning_of_answer}
use Rattle.ados_machine.specs.World.{WorldState, option_flatten, numbered_shell, is_over, seen_shells, input_of}
use Rattle.ados_machine.specs.Course.{shared_after_event}
use Rattle.ados_machine.specs.Carrying.{moved_objects, carried_shells}
use Rattle.ados_machine.specs.Step.{Response, Refused, Accepted, of_shell, begun_items, with_begun, is_done, shell_after_turn, moved_at_turn, codes_of_ended, queue_after_event, queue_limit, turn_taken, start, course_without_flag, turning_response, turn_response, answer_response, break_response, typing_response, end_of_input, event_response, step_of}
use Rattle.ados_machine.specs.Runs.{MayFailToAllocate, IsResponse, resulting_world}
use Rattle.ados_machine.specs.Quiet.{shell_of}
use Rattle.ados_machine.proofs.Shells.{shells_after}
use Rattle.ados_machine.proofs.Alike.{alike-broken, Alike, alike-get, alike-set, LooksLike, alike-seen, free-seen, any-seen, alike-carried}

abbrev pub Any : {X : Type 0} → X → X → Type 0
Any x y = Unit {0}

-- two worlds that differ only in one shell, which looks the same
pub record Twins (j : ℕ) (a b : WorldState) : Type 0 where
  pub shared : b.shared ≡ a.shared
  pub shells : Alike LooksLike j 1 a.shells b.shells
  pub ended : Alike Any j 1 a.ended b.ended
  pub queue : j ≢ 1 → b.queue ≡ a.queue
  pub input : j ≢ 1 → b.input_ended ≡ a.input_ended

-- two responses to the same event
abbrev pub Both : ℕ → Response → Response → Type 0
Both j (Refused why) (Refused other) = other ≡ why
Both j (Accepted world out items) (Accepted world' out' items') = (out' ≡ out) × (items' ≡ items) × Twins j world world'
Both j _ _ = ⊥

twins-seen : (j : ℕ) (a b : WorldState) → Twins j a b → seen_shells b.shells ≡ seen_shells a.shells
twins-seen j a b twins = alike-seen j 1 a.shells b.shells twins.shells

twins-free : (j : ℕ) (a b : WorldState) → Twins j a b → free_number b.shells ≡ free_number a.shells
twins-free j a b twins = sym (free-seen b.shells) ∙ (ap free_number (twins-seen j a b twins) ∙ free-seen a.shells)

twins-over : (j : ℕ) (a b : WorldState) → Twins j a b → is_over b ≡ is_over a
twins-over j a b twins =
    ap not (sym (any-seen b.shells) ∙ (ap (λ s. list_any is_some s) (twins-seen j a b twins) ∙ any-seen a.shells))

pub twins-found : (j : ℕ) (a b : WorldState) → Twins j a b → (k : ℕ) → k ≢ j → numbered_shell b k ≡ numbered_shell a k
twins-found j a b twins zero ne = refl
twins-found j a b twins (suc i) ne = ap option_flatten (alike-get LooksLike j 1 a.shells b.shells i twins.shells (λ e. ne (omega (arith, e))))

-- the input of another shell is the same
twins-input : (j : ℕ) (a b : WorldState) → Twins j a b → (k : ℕ) → k ≢ j → input_of b k ≡ input_of a k
twins-input j a b twins k ne =
    elim (cases_eq k 1) [
      | inl same ↦ rw (eq-eqb k 1 same, twins.queue (λ e. ne (same ∙ sym e)), twins.input (λ e. ne (same ∙ sym e))) refl
      | inr differ ↦ rw (ne_eqb k 1 differ) refl
    ]

twins-start : (j : ℕ) (a b : WorldState) → Twins j a b → (shell : ShellState) → start b shell ≡ start a shell
twins-start j a b twins shell = rw (twins.shared, twins-seen j a b twins) refl

-- the same turn of another shell in both
begun-both : (j : ℕ) (xs ys : List (Option ShellState)) (begun : Option ShellStart) (n : Option ℕ) → Alike LooksLike j 1 xs ys →
    Alike LooksLike j 1 (with_begun begun n xs) (with_begun begun n ys)
begun-both j xs ys None n alike = alike
begun-both j xs ys (Some begun) None alike = alike
begun-both j xs ys (Some begun) (Some n) alike = alike-set LooksLike j 1 xs ys (n - 1) (Some (begun_shell n begun)) alike refl

ended-both : (j : ℕ) (xs ys : List Codes) (done : Bool) (k : ℕ) (codes : Codes) → Alike Any j 1 xs ys →
    Alike Any j 1 (codes_of_ended done k codes xs) (codes_of_ended done k codes ys)
ended-both j xs ys true k codes alike = alike-set Any j 1 xs ys (k - 1) codes alike tt
ended-both j xs ys false k codes alike = alike

queue-both : (k : ℕ) (old old' now : List (List ℕ)) → (k ≢ 1 → old' ≡ old) → queue_after_event k old' now ≡ queue_after_event k old now
queue-both k old old' now same =
    elim (cases_eq k 1) [
      | inl e ↦ rw (eq-eqb k 1 e) refl
      | inr e ↦ rw (ne_eqb k 1 e) (same e)
    ]

shells-both : (j : ℕ) (xs ys : List (Option ShellState)) (k : ℕ) (moved : List Renamed) (t : TurnResult) → Alike LooksLike j 1 xs ys →
    free_number ys ≡ free_number xs → Alike LooksLike j 1 (shells_after xs k moved t) (shells_after ys k moved t)
shells-both j xs ys k moved t alike free =
    rw free (alike-set LooksLike j 1 _ _ (k - 1) (shell_after_turn k moved t)
    (alike-broken t.course.breaking j 1 (with_begun t.course.begun (free_number xs) (carried_shells moved xs)) (with_begun t.course.begun (free_number xs) (carried_shells moved ys))
    (begun-both j (carried_shells moved xs) (carried_shells moved ys) t.course.begun (free_number xs) (alike-carried moved j 1 xs ys alike))) refl)

took-both : (j : ℕ) (a b : WorldState) (k : ℕ) (queue : List (List ℕ)) (t : TurnResult) → Twins j a b → k ≢ j →
    Both j (turn_taken a k queue t) (turn_taken b k queue t)
took-both j a b k queue t twins ne =
    let moved : moved_at_turn b t ≡ moved_at_turn a t = ap (λ s. moved_objects s (shared_after_event t.course) t.course.renamed) twins.shared in (
      refl,
      ap (λ n. of_shell k t.log ++ begun_items t.course.begun n) (twins-free j a b twins),
      record {
        shared = refl;
        shells = rw moved (shells-both j a.shells b.shells k (moved_at_turn a t) t twins.shells (twins-free j a b twins));
        ended = ended-both j a.ended b.ended (is_done k t.frames) k t.course.parts.codes twins.ended;
        queue = λ other. queue-both k a.queue b.queue queue (λ e. twins.queue other);
        input = twins.input;
      },
    )

applied-both : (j : ℕ) (a b : WorldState) (k : ℕ) (codes : Codes) (turning : Turning) → Twins j a b → k ≢ j →
    Both j (turning_response a k codes turning) (turning_response b k codes turning)
applied-both j a b k codes (Refuses why) twins ne = refl
applied-both j a b k codes Ends twins ne = (
  refl,
  refl,
  record {
    shared = twins.shared;
    shells = alike-set LooksLike j 1 a.shells b.shells (k - 1) None twins.shells refl;
    ended = alike-set Any j 1 a.ended b.ended (k - 1) codes twins.ended tt;
    queue = twins.queue;
    input = twins.input;
  },
)
applied-both j a b k codes (Turned queue t) twins ne = took-both j a b k queue t twins ne

turned-both : (j : ℕ) (a b : WorldState) (k : ℕ) (o : Option ShellState) → Twins j a b → k ≢ j → Both j (turn_response a k o) (turn_response b k o)
turned-both j a b k None twins ne = refl
turned-both j a b k (Some shell) twins ne =
    rw (twins-input j a b twins k ne, ap course_without_flag (twins-start j a b twins shell))
    (applied-both j a b k shell.parts.codes (flagged_turning shell.flagged (input_of a k) shell.frames (course_without_flag (start a shell)) shell.phase) twins ne)

answered-both : (j : ℕ) (a b : WorldState) (k : ℕ) (reply : Reply) (o : Option ShellState) → Twins j a b → k ≢ j →
    Both j (answer_response a k reply o) (answer_response b k reply o)
answered-both j a b k reply None twins ne = refl
answered-both j a b k reply (Some shell) twins ne =
    rw (twins-input j a b twins k ne, twins-start j a b twins shell)
    (applied-both j a b k shell.parts.codes (turning_of_answer (input_of a k) shell.frames (start a shell) shell.phase reply) twins ne)

-- typed lines are another shell's if j is not 1
typed-both : (j : ℕ) (a b : WorldState) (line : List ℕ) → Twins j a b → 1 ≢ j → Both j (typing_response a line) (typing_response b line)
typed-both j a b line twins ne =
    let one : j ≢ 1 = λ e. ne (sym e) in
    rw (twins.queue one, twins.input one)
    (elim (cases_Bool a.input_ended) [
      | inl e ↦ rw e refl
      | inr e ↦ rw e (elim (cases_Bool (nat_le queue_limit (length a.queue))) [
        | inl f ↦ rw f refl
        | inr f ↦ rw f (elim (cases_Bool (nat_lt line_limit (length line))) [
          | inl g ↦ rw g refl
          | inr g ↦ rw g (
            refl,
            refl,
            record {
              shared = twins.shared;
              shells = twins.shells;
              ended = twins.ended;
              queue = λ other. refl;
              input = λ other. refl;
            },
          )
        ])
      ])
    ])

end-both : (j : ℕ) (a b : WorldState) → Twins j a b → 1 ≢ j → Both j (end_of_input a) (end_of_input b)
end-both j a b twins ne =
    rw (twins.input (λ e. ne (sym e)))
    (elim (cases_Bool a.input_ended) [
      | inl e ↦ rw e refl
      | inr e ↦ rw e (refl, refl, record { shared = twins.shared; shells = twins.shells; ended = twins.ended; queue = twins.queue; input = λ other. refl })
    ])

broken-both : (j : ℕ) (a b : WorldState) (k : ℕ) (kind : BreakKind) (o : Option ShellState) → Twins j a b → Both j (break_response a k kind o) (break_response b k kind o)
broken-both j a b k kind None twins = refl
broken-both j a b k kind (Some shell) twins = (
  refl,
  refl,
  record {
    shared = twins.shared;
    shells = alike-broken (Some (record { shell = k; breaks = kind_breaks kind })) j 1 a.shells b.shells twins.shells;
    ended = twins.ended;
    queue = twins.queue;
    input = twins.input;
  },
)

happened-both : (j : ℕ) (a b : WorldState) (event : Event) → Twins j a b → shell_of event ≢ j → Both j (event_response a event) (event_response b event)
happened-both j a b (Typed line) twins ne = typed-both j a b line twins ne
happened-both j a b EndOfInput twins ne = end-both j a b twins ne
happened-both j a b (Turn k) twins ne = rw (twins-found j a b twins k ne) (turned-both j a b k (numbered_shell a k) twins ne)
happened-both j a b (Answer k reply) twins ne = rw (twins-found j a b twins k ne) (answered-both j a b k reply (numbered_shell a k) twins ne)
happened-both j a b (Break k kind) twins ne = rw (twins-found j a b twins k ne) (broken-both j a b k kind (numbered_shell a k) twins)

pub step-both : (j : ℕ) (a b : WorldState) (event : Event) → Twins j a b → shell_of event ≢ j → Both j (step_of a event) (step_of b event)
step-both j a b event twins ne =
    rw (twins-over j a b twins)
    (elim (cases_Bool (is_over a)) [
      | inl e ↦ rw e refl
      | inr e ↦ rw e (happened-both j a b event twins ne)
    ])

-- `NoMemory` replaces the same acceptances in both
may-want-both : (j : ℕ) (event : Event) (a b : WorldState) (items : List (ℕ × TraceItem)) → Twins j a b → shell_of event ≢ j →
    MayFailToAllocate event a items → MayFailToAllocate event b items
may-want-both j (Typed line) a b items twins ne h = tt
may-want-both j EndOfInput a b items twins ne h = absurd h
may-want-both j (Turn k) a b [] twins ne h = rw (twins-found j a b twins k ne) h
may-want-both j (Turn k) a b (item ∷ items) twins ne h = tt
may-want-both j (Answer k reply) a b items twins ne h = tt
may-want-both j (Break k kind) a b items twins ne h = absurd h

want-both : (j : ℕ) (event : Event) (refusal : Refusal) (a b : WorldState) (out out' : Out) (items items' : List (ℕ × TraceItem)) →
    Twins j a b → shell_of event ≢ j → items' ≡ items →
    IsResponse event (Err refusal) (Accepted a out items) → IsResponse event (Err refusal) (Accepted b out' items')
want-both j event NoMemory a b out out' items items' twins ne same h = rw same (may-want-both j event a b items twins ne h)
want-both j event Over a b out out' items items' twins ne same h = h
want-both j event NoSuchShell a b out out' items items' twins ne same h = h
want-both j event NotReady a b out out' items items' twins ne same h = h
want-both j event WrongAnswer a b out out' items items' twins ne same h = h
want-both j event QueueFull a b out out' items items' twins ne same h = h
want-both j event LineTooLong a b out out' items items' twins ne same h = h

-- what was answered in the one world is an answer in the other
pub same-answer : (j : ℕ) (a b : WorldState) (event : Event) (out : Result Out Refusal) (r s : Response) → Twins j a b → shell_of event ≢ j → Both j r s → IsResponse event out r →
    IsResponse event out s × Twins j (resulting_world a out r) (resulting_world b out s)
same-answer j a b event (Ok out) (Refused why) s twins ne both answer = absurd answer
same-answer j a b event (Err refusal) (Refused why) (Refused other) twins ne both answer = (answer ∙ sym both, twins)
same-answer j a b event (Err refusal) (Refused why) (Accepted world given items) twins ne both answer = absurd both
same-answer j a b event (Ok out) (Accepted world given items) (Refused other) twins ne both answer = absurd both
same-answer j a b event (Ok out) (Accepted world given items) (Accepted world' given' items') twins ne both answer = (answer ∙ sym both.0, both.2)
same-answer j a b event (Err refusal) (Accepted world given items) (Refused other) twins ne both answer = absurd both
same-answer j a b event (Err refusal) (Accepted world given items) (Accepted world' given' items') twins ne both answer =
    (want-both j event refusal world world' given given' items items' both.2 ne both.1 answer, twins)
