-- one line more
use Rattle.std.proofs.Common.{◌≡◌, ℕ, suc, ◌+◌, ◌-◌, ◌<◌, arith, nat_le, Bool, true, false, ◌&&◌, List, [], ◌∷◌, ◌++◌, take, length, get_or, refl, sym, ◌∙◌, ap}
use Rattle.std.specs.List.{list_all}
use Rattle.std.proofs.lemmas.List.{take_more}
use Rattle.std.proofs.lemmas.List.Elements.{filter_map-append}
use Rattle.std.proofs.lemmas.List.Concat.{flat_map-append}
use Rattle.std.proofs.lemmas.List.Folds.{list_all-append}
use Rattle.ados_text.specs.Text.{Text}
use Rattle.ados_resident.specs.declared.dialects.Dialect.{Dialect}
use Rattle.ados_resident.specs.declared.hosts.HostEntry.{HostEntry}
use Rattle.ados_session.specs.Hosts.{are_free, are_hosts, host_in, host_line, parsed_hosts, is_host_line}
use Rattle.ados_session.specs.declared.recordings.Form.{Form}
use Rattle.ados_machine.specs.declared.events.BreakAt.{BreakAt}
use Rattle.ados_session.specs.Breaks.{are_rising, last_event, rise_from}
use Rattle.ados_session.specs.Recordings.{RecordedSession, are_records, answer_in, break_in, is_record, is_session, joined_sessions, record_line, session_of_lines, typed_in}
use Rattle.ados_session.specs.Recordings.{host_in as recorded_host}

and_left : (a b : Bool) → (a && b) ≡ true → a ≡ true
and_left true b h = refl
and_left false b h = h

and_right : (a b : Bool) → (a && b) ≡ true → b ≡ true
and_right true b h = h
and_right false b h = cc

and_true : (a b : Bool) → ((a && true) && b) ≡ (a && b)
and_true true b = refl
and_true false b = refl

-- if the lines before are good, all are as the last one is
all_more : (p : Text → Bool) (done : List Text) (line : Text) (free : Bool) → list_all p done ≡ true → (list_all p (done ++ line ∷ []) && free) ≡ (p line && free)
all_more p done line free h = rw (list_all-append p done (line ∷ []), h) (and_true (p line) free)

hosts_more : (done : List Text) (line : Text) → parsed_hosts (done ++ line ∷ []) ≡ parsed_hosts done ++ parsed_hosts (line ∷ [])
hosts_more done line = filter_map-append (λ line. host_in (host_line line)) done (line ∷ [])

records_more : (form : Form) (done : List Text) (line : Text) → session_of_lines form (done ++ line ∷ []) ≡ joined_sessions (session_of_lines form done) (session_of_lines form (line ∷ []))
records_more form done line = rw (
  filter_map-append (λ line. recorded_host (record_line form line)) done (line ∷ []),
  flat_map-append (λ line. typed_in (record_line form line)) done (line ∷ []),
  filter_map-append (λ line. answer_in (record_line form line)) done (line ∷ []),
  filter_map-append (λ line. break_in (record_line form line)) done (line ∷ []),
) refl

-- a line of a file of hosts is taken
pub host_taken : (dialect : Dialect) (lines : List Text) (place : ℕ) (line : Text) (old new : List HostEntry) (good : Bool) → place < length lines → line ≡ get_or lines place line
    → are_hosts dialect (take place lines) ≡ true → old ≡ parsed_hosts (take place lines)
    → new ≡ old ++ parsed_hosts (line ∷ [])
    → good ≡ (is_host_line (host_line line) && are_free dialect new)
    → (are_hosts dialect (take (place + 1) lines) ≡ good) × (new ≡ parsed_hosts (take (place + 1) lines))
host_taken dialect lines place line old new good within is_line before is_old is_new is_good =
    let done = take place lines in
    let all : new ≡ parsed_hosts (done ++ line ∷ []) = is_new ∙ ap (λ hosts. hosts ++ parsed_hosts (line ∷ [])) is_old ∙ sym (hosts_more done line) in
    let checked : are_hosts dialect (done ++ line ∷ []) ≡ good =
    all_more (λ line. is_host_line (host_line line)) done line (are_free dialect (parsed_hosts (done ++ line ∷ []))) (and_left _ _ before)
    ∙ ap (λ hosts. is_host_line (host_line line) && are_free dialect hosts) (sym all) ∙ sym is_good in
    rw (take_more lines place line within, ← is_line) (checked, all)

-- a line of a recording is taken
pub record_taken : (form : Form) (lines : List Text) (place : ℕ) (line : Text) (old new : RecordedSession) (good : Bool) → place < length lines → line ≡ get_or lines place line
    → are_records form (take place lines) ≡ true → old ≡ session_of_lines form (take place lines)
    → new ≡ joined_sessions old (session_of_lines form (line ∷ []))
    → good ≡ (is_record (record_line form line) && is_session new)
    → (are_records form (take (place + 1) lines) ≡ good) × (new ≡ session_of_lines form (take (place + 1) lines))
record_taken form lines place line old new good within is_line before is_old is_new is_good =
    let done = take place lines in
    let all : new ≡ session_of_lines form (done ++ line ∷ []) = is_new ∙ ap (λ session. joined_sessions session (session_of_lines form (line ∷ []))) is_old ∙ sym (records_more form done line) in
    let checked : are_records form (done ++ line ∷ []) ≡ good =
    all_more (λ line. is_record (record_line form line)) done line (is_session (session_of_lines form (done ++ line ∷ []))) (and_left _ _ before)
    ∙ ap (λ (session : RecordedSession). is_record (record_line form line) && is_session session) (sym all) ∙ sym is_good in
    rw (take_more lines place line within, ← is_line) (checked, all)

-- with the commands of lines that are good a world can be made
pub hosts_free : (dialect : Dialect) (lines : List Text) (hosts : List HostEntry) → are_hosts dialect lines ≡ true → hosts ≡ parsed_hosts lines → are_free dialect hosts ≡ true
hosts_free dialect lines hosts good is = rw is (and_right _ _ good)

pub records_free : (form : Form) (lines : List Text) (session : RecordedSession) → are_records form lines ≡ true → session ≡ session_of_lines form lines → are_free session.dialect session.hosts ≡ true
records_free form lines session good is = rw is (and_left _ _ (and_right _ _ good))

-- and the event numbers of their breaks do not decrease
pub records_rise : (form : Form) (lines : List Text) (session : RecordedSession) → are_records form lines ≡ true → session ≡ session_of_lines form lines → are_rising session.breaks ≡ true
records_rise form lines session good is = rw is (and_right (are_free (session_of_lines form lines).dialect (session_of_lines form lines).hosts) _ (and_right _ _ good))

and_assoc : (a b c : Bool) → (a && (b && c)) ≡ ((a && b) && c)
and_assoc true b c = refl
and_assoc false b c = refl

-- one break more
pub rise_more : (least : ℕ) (breaks : List BreakAt) (at : BreakAt) → rise_from least (breaks ++ at ∷ []) ≡ (rise_from least breaks && nat_le (last_event least breaks) at.event)
rise_more least [] at = and_last (nat_le least at.event)
  where
    and_last : (b : Bool) → (b && true) ≡ b
    and_last true = refl
    and_last false = refl
rise_more least (first ∷ breaks) at = ap (λ b. nat_le least first.event && b) (rise_more first.event breaks at) ∙ and_assoc (nat_le least first.event) (rise_from first.event breaks) (nat_le (last_event first.event breaks) at.event)

-- the last event of a list that is not empty
pub last_at : (least : ℕ) (breaks : List BreakAt) (other : BreakAt) → 0 < length breaks → last_event least breaks ≡ (get_or breaks (length breaks - 1) other).event
last_at least [] other some = absurd (omega (arith, some))
last_at least (first ∷ []) other some = refl
last_at least (first ∷ second ∷ breaks) other some =
    let one : suc (length (second ∷ breaks) - 1) ≡ length (first ∷ second ∷ breaks) - 1 = omega arith in
    last_at first.event (second ∷ breaks) other (omega arith) ∙ ap (λ m. (get_or (first ∷ second ∷ breaks) m other).event) one

pub rising_more : (breaks : List BreakAt) (at : BreakAt) (is_rising : Bool) → are_rising breaks ≡ true → is_rising ≡ nat_le (last_event 0 breaks) at.event → is_rising ≡ are_rising (breaks ++ at ∷ [])
rising_more breaks at is_rising rising is = is ∙ (ap (λ b. b && nat_le (last_event 0 breaks) at.event) (sym rising) ∙ sym (rise_more 0 breaks at))
