-- A line as its pieces, in order: the text that is kept, and the redirections that are removed; after Run's own
-- redirections the rest of the line is one piece.
use Rattle.std.specs.Prelude.{◌≡◌, ℕ, ◌+◌, ◌≤◌, ◌<◌, List, [], ◌∷◌, ◌++◌, Bool, true, false, ◌||◌, Option, Some, None, length, option_to_list, if◌then◌else◌}
use Rattle.std.specs.List.{flat_map}
use Rattle.std.specs.Option.{option_or}
use Rattle.ados_text.specs.Text.{Text}
use Rattle.ados_items.specs.declared.items.Item.{Item}
use Rattle.ados_items.specs.declared.items.Item.TheVariants.{Word, Quoted, Equal, End, Unmatched}
use Rattle.ados_items.specs.Items.{item_at, value_of}
use Rattle.ados_line.specs.declared.signs.Sign.{Sign}
use Rattle.ados_line.specs.declared.signs.Sign.TheVariants.{Input, Output, Append}
use Rattle.ados_line.specs.declared.lines.Redirection.{Redirection}
use Rattle.ados_line.specs.declared.lines.Line.{Line}
use Rattle.ados_line.specs.declared.lines.Expanded.{Expanded}
use Rattle.ados_line.specs.declared.lines.Expanded.TheVariants.{Nothing, Ready, Tick}
use Rattle.ados_line.specs.Cut.{is_run}
use Rattle.ados_line.specs.Signs.{begins, is_both, sign_at, width_of}

-- A piece of a line, as it is written: bytes in which no item begins; an item with the blanks before it, and its text; a
-- redirection, by its sign, the text after the sign, and the name; or the rest of a line.
pub data Piece : Type 0 where
  Blank : Text → Piece
  Kept : Text → Text → Piece
  Redirected : Sign → Text → Text → Piece
  Rest : Text → Piece

-- the bytes of a sign
abbrev pub sign_bytes : Sign → Text
sign_bytes Input = 60 ∷ []
sign_bytes Output = 62 ∷ []
sign_bytes Append = 62 ∷ 62 ∷ []

-- the bytes of a piece
abbrev pub piece_bytes : Piece → Text
piece_bytes (Blank bytes) = bytes
piece_bytes (Kept bytes text) = bytes
piece_bytes (Redirected sign after name) = sign_bytes sign ++ after
piece_bytes (Rest bytes) = bytes

-- an item of a line ends at this place; the end of the line and a quote that is not closed have no end
abbrev pub EndsAt : ℕ → Item → Type 0
EndsAt place (Word from to) = place ≡ to
EndsAt place (Quoted from to) = place ≡ to + 1
EndsAt place (Equal at) = place ≡ at + 1
EndsAt place (End at) = ⊥
EndsAt place (Unmatched from) = ⊥

-- no item of the line begins before a place, if this is the next item: if there are no more items, the place is the line's end
abbrev pub StopsBefore : Text → ℕ → Item → Type 0
StopsBefore line place (Word from to) = place ≤ from
StopsBefore line place (Quoted from to) = place < from
StopsBefore line place (Equal at) = place ≤ at
StopsBefore line place (End at) = place ≡ length line
StopsBefore line place (Unmatched from) = place < from

-- an item of the line is a word that begins with the sign of a redirection
abbrev pub is_signed : Text → Item → Bool
is_signed line (Word from to) = begins line 60 from || begins line 62 from
is_signed line (Quoted from to) = false
is_signed line (Equal at) = false
is_signed line (End at) = false
is_signed line (Unmatched from) = false

-- What a piece at a place of the line has to be, after the command, if there is one already: no item begins in blanks; a
-- piece that is kept ends with the item there, which does not begin with a sign; a redirection is the longest sign, with
-- the item after it, whose text is the name. After Run no item is kept: blanks are only before a sign, and the text that
-- does not begin with a sign is the rest of the line.
abbrev pub IsPieceAt : Text → Option Text → ℕ → Piece → Type 0
IsPieceAt line command place (Blank bytes) =
    let item = item_at true line place in
    StopsBefore line (place + length bytes) item × (is_run command ≡ true → is_signed line item ≡ true)
IsPieceAt line command place (Kept bytes text) =
    let item = item_at true line place in
    (is_run command ≡ false) × EndsAt (place + length bytes) item × (text ≡ value_of line item) × (is_signed line item ≡ false)
IsPieceAt line command place (Redirected sign after name) =
    let item = item_at false line (place + width_of sign) in
    (sign_at line place ≡ Some sign) × (is_both line place ≡ false) × EndsAt (place + width_of sign + length after) item × (name ≡ value_of line item)
IsPieceAt line command place (Rest bytes) =
    (is_run command ≡ true) × (place + length bytes ≡ length line) × (is_signed line (item_at true line place) ≡ false)

-- the command after a piece, by the command before it, if there was one: it is the first item that is kept
abbrev pub next_command : Option Text → Piece → Option Text
next_command command (Blank bytes) = command
next_command command (Kept bytes text) = option_or command (Some text)
next_command command (Redirected sign after name) = command
next_command command (Rest bytes) = command

-- the pieces follow one another in the line from a place on, with this command before them, if there is one
abbrev pub Stand : Text → Option Text → ℕ → List Piece → Type 0
Stand line command place [] = Unit {0}
Stand line command place (piece ∷ pieces) =
    IsPieceAt line command place piece × Stand line (next_command command piece) (place + length (piece_bytes piece)) pieces

-- the pieces, in order, are the whole line, and each is a piece at its place
pub record AreLinePieces (line : Text) (pieces : List Piece) : Type 0 where
  pub joined : flat_map piece_bytes pieces ≡ line
  pub placed : Stand line None 0 pieces

-- what a piece adds to the arguments of a command: blanks before Run's redirections add nothing
abbrev pub piece_args : Text → Piece → Text
piece_args command (Blank bytes) = if is_run (Some command) then [] else bytes
piece_args command (Kept bytes text) = bytes
piece_args command (Redirected sign after name) = []
piece_args command (Rest bytes) = bytes

-- the command of a line's pieces: the first item that is kept, if there is one
abbrev pub command_of : List Piece → Option Text
command_of [] = None
command_of (Blank bytes ∷ pieces) = command_of pieces
command_of (Kept bytes text ∷ pieces) = Some text
command_of (Redirected sign after name ∷ pieces) = command_of pieces
command_of (Rest bytes ∷ pieces) = command_of pieces

-- the arguments of a line's pieces: the text kept after the command, joined unchanged
abbrev pub args_of : List Piece → Text
args_of [] = []
args_of (Blank bytes ∷ pieces) = args_of pieces
args_of (Kept bytes text ∷ pieces) = flat_map (piece_args text) pieces
args_of (Redirected sign after name ∷ pieces) = args_of pieces
args_of (Rest bytes ∷ pieces) = args_of pieces

-- the inputs that a redirection with this sign and this name gives: one or none
abbrev pub input_by : Sign → Text → List Text
input_by Input name = name ∷ []
input_by Output name = []
input_by Append name = []

-- the outputs that a redirection with this sign and this name gives: one or none
abbrev pub output_by : Sign → Text → List Redirection
output_by Input name = []
output_by Output name = record { name = name; append = false } ∷ []
output_by Append name = record { name = name; append = true } ∷ []

-- the inputs that a piece names: one or none
abbrev pub inputs : Piece → List Text
inputs (Blank bytes) = []
inputs (Kept bytes text) = []
inputs (Redirected sign after name) = input_by sign name
inputs (Rest bytes) = []

-- the outputs that a piece names: one or none
abbrev pub outputs : Piece → List Redirection
outputs (Blank bytes) = []
outputs (Kept bytes text) = []
outputs (Redirected sign after name) = output_by sign name
outputs (Rest bytes) = []

-- A line is what its pieces say: their command and arguments, and at most one input and one output.
pub record IsSaid (line : Line) (pieces : List Piece) : Type 0 where
  pub command : command_of pieces ≡ Some line.command
  pub args : args_of pieces ≡ line.args
  pub input : flat_map inputs pieces ≡ option_to_list line.input
  pub output : flat_map outputs pieces ≡ option_to_list line.output

-- What a line is read as is made of its pieces; if it is `Nothing`, no item is kept. A line that is cut is never a `Tick`.
abbrev pub IsOfPieces : Text → Expanded → Type 0
IsOfPieces line Nothing = (pieces : List Piece) × AreLinePieces line pieces × (command_of pieces ≡ None)
IsOfPieces line (Ready said) = (pieces : List Piece) × AreLinePieces line pieces × IsSaid said pieces
IsOfPieces line (Tick tick) = ⊥
