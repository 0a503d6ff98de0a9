-- Back-ticks, the signs of command substitution: the first two of a line without a star before them split it into the
-- text before them, the command between them and the text after them. Inside quotes a star before a back-tick is
-- removed, and the back-tick stands for itself.
use Rattle.std.specs.Prelude.{◌≡◌, ◌⊎◌, ℕ, suc, ◌+◌, ◌-◌, List, [], ◌∷◌, ◌++◌, length, take, drop, position, Bool, false, nat_le, Option, Some, None, Result, Ok, Err, if◌then◌else◌}
use Rattle.std.specs.List.{flat_map, All}
use Rattle.ados_text.specs.Text.{Text}
use Rattle.ados_line.specs.declared.faults.LineFault.{LineFault}
use Rattle.ados_line.specs.declared.faults.LineFault.TheVariants.{UnmatchedQuotes}
use Rattle.ados_line.specs.declared.letters.Letter.{Letter}
use Rattle.ados_line.specs.declared.letters.Letter.TheVariants.{Plain}
use Rattle.ados_line.specs.declared.lines.Tick.{Tick}
use Rattle.ados_line.specs.declared.ticks.Parted.{Parted}
use Rattle.ados_line.specs.declared.ticks.Parted.TheVariants.{Whole, Ticked}
use Rattle.ados_line.specs.Letters.{letter_bytes, letter_text, starless_text, letters_of}
use Rattle.ados_line.specs.Values.{is_plain}

-- a back-tick without a star before it
abbrev pub is_tick : Letter → Bool
is_tick letter = is_plain 96 letter

-- characters as text, stars included
abbrev pub text_of : List Letter → Text
text_of letters = flat_map letter_text letters

-- characters as text, without the stars before back-ticks
abbrev pub tickless_text : List Letter → Text
tickless_text letters = flat_map (starless_text 96) letters

-- a line split at a pair of back-ticks, by the characters after the first one and the place of the second among them: it ends the command,
-- and the text after it stays as it is; None: no second one, a fault
abbrev pub by_second : Text → List Letter → Option ℕ → Result Parted LineFault
by_second before rest None = Err UnmatchedQuotes
by_second before rest (Some place) =
    Ok (Ticked (record { before = before; command = tickless_text (take place rest); after = text_of (drop (place + 1) rest) }))

-- a line split at its first pair of back-ticks: these characters follow a text that is kept as it is, and the first back-tick is at this
-- place of them; None: no back-tick, so that the line stays whole
abbrev pub by_first : Text → List Letter → Option ℕ → Result Parted LineFault
by_first kept letters None = Ok (Whole (kept ++ tickless_text letters))
by_first kept letters (Some place) =
    (let rest = drop (place + 1) letters in by_second (kept ++ tickless_text (take place letters)) rest (position is_tick rest))

-- a line split at its first pair of back-ticks, by a text that is kept as it is and the characters after it
abbrev pub split_at_pair : Text → List Letter → Result Parted LineFault
split_at_pair kept letters = by_first kept letters (position is_tick letters)

-- how many of these characters, from the first on, end within `size` bytes
abbrev pub within_bytes : ℕ → List Letter → ℕ
within_bytes size [] = 0
within_bytes size (l ∷ ls) = if nat_le (length (letter_bytes l)) size then suc (within_bytes (size - length (letter_bytes l)) ls) else 0

-- a line split at the first pair of back-ticks after its first `count` characters, which are kept as they are
abbrev pub split_after_letters : ℕ → List Letter → Result Parted LineFault
split_after_letters count letters = split_at_pair (text_of (take count letters)) (drop count letters)

-- A line split at the first pair of back-ticks after its first `size` bytes, which are kept as they are. A star at their end and the byte
-- after it may be one character, which is then read.
abbrev pub split_after_bytes : ℕ → Text → Result Parted LineFault
split_after_bytes size line = (let letters = letters_of line in split_after_letters (within_bytes size letters) letters)

-- there is no back-tick without a star before it among the characters
abbrev pub HasNoTick : List Letter → Type 0
HasNoTick letters = All (λ letter. is_tick letter ≡ false) letters

-- the characters are these three lists, with a back-tick between each two, and none within the first two
pub record ArePairAt (letters before command after : List Letter) : Type 0 where
  pub joined : letters ≡ before ++ (Plain 96 ∷ (command ++ (Plain 96 ∷ after)))
  pub first : HasNoTick before
  pub second : HasNoTick command

-- A command substitution is what these characters say, after a text that is kept as it is: stars before back-ticks are removed before the
-- pair and between the two, and the text after it stays as it was.
abbrev pub IsTick : Text → List Letter → Tick → Type 0
IsTick kept letters tick =
    (before : List Letter) × (command : List Letter) × (after : List Letter) × ArePairAt letters before command after
    × (tick.before ≡ kept ++ tickless_text before) × (tick.command ≡ tickless_text command) × (tick.after ≡ text_of after)

-- `before` are the line's characters up to the end of the kept text, and `tail` those that are read: a star at that end is read with the
-- byte after it.
pub record IsSeam (kept line : Text) (before tail : List Letter) : Type 0 where
  pub joined : before ++ tail ≡ letters_of line
  pub ends : (flat_map letter_bytes before ≡ kept) ⊎ (flat_map letter_bytes before ++ 42 ∷ [] ≡ kept)
