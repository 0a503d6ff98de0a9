-- The answers that a recording writes.
use Rattle.std.specs.Prelude.{ℕ, nat_lt, Option, Some, None, option_map, Result, Ok, Err, codes, if◌then◌else◌}
use Rattle.std.specs.Option.{option_map_or}
use Rattle.std.specs.Str.{bytes_eq}
use Rattle.hex.specs.Hex.{decode_of}
use Rattle.hex.specs.declared.error.FromHexError.{FromHexError}
use Rattle.ados_text.specs.Text.{Bytes, Text}
use Rattle.ados_machine.specs.Answers.{is_piece}
use Rattle.ados_machine.specs.declared.answers.Answer.{Answer}
use Rattle.ados_machine.specs.declared.answers.Answer.TheVariants.{Started, NotFound, Denied, Memory, Other, «Bytes» as Piece, End, PipeFault, Exit, Signal, WaitFault}
use Rattle.ados_session.specs.Parts.{split_at_space, unsigned_number}

-- the answer that a word without a value writes, if it writes one
abbrev pub plain_answer : Text → Option Answer
plain_answer word =
    if bytes_eq word (codes "started") then Some Started else
    (if bytes_eq word (codes "notfound") then Some NotFound else
    (if bytes_eq word (codes "denied") then Some Denied else
    (if bytes_eq word (codes "memory") then Some Memory else
    (if bytes_eq word (codes "other") then Some Other else
    (if bytes_eq word (codes "end") then Some End else
    (if bytes_eq word (codes "pipefault") then Some PipeFault else
    (if bytes_eq word (codes "signal") then Some Signal else
    (if bytes_eq word (codes "waitfault") then Some WaitFault else None))))))))

-- the number, if there is one and it is from 0 to 255
abbrev pub byte_in : Option ℕ → Option ℕ
byte_in (Some n) = if nat_lt n 256 then Some n else None
byte_in None = None

-- the exit status that digits write, if it is from 0 to 255
abbrev pub status_from_digits : Text → Option ℕ
status_from_digits digits = byte_in (unsigned_number digits)

-- the answer that gives these bytes, if they are 1 to 4,096
abbrev pub piece : Bytes → Option Answer
piece bytes = if is_piece bytes then Some (Piece bytes) else None

-- the answer that gives the bytes that hexadecimal digits write, by what they write
abbrev pub bytes_answer : Result Bytes FromHexError → Option Answer
bytes_answer (Ok bytes) = piece bytes
bytes_answer (Err fault) = None

-- the answer that a word and a value after it write, if they write one
abbrev pub valued_answer : Text → Text → Option Answer
valued_answer word value =
    if bytes_eq word (codes "exit") then option_map Exit (status_from_digits value) else
    (if bytes_eq word (codes "bytes") then bytes_answer (decode_of value) else None)

-- the answer that a text writes, if it writes one
abbrev pub answer_of : Text → Option Answer
answer_of text = option_map_or (λ p. valued_answer p.0 p.1) (split_at_space text) (plain_answer text)
