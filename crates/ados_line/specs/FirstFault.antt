-- Where the first fault of a line's cut is: after pieces without faults.
use Rattle.std.specs.Prelude.{◌≡◌, ℕ, ◌+◌, List, ◌++◌, Bool, true, false, length, Option, Some, None, is_some, option_to_list}
use Rattle.std.specs.List.{flat_map}
use Rattle.ados_text.specs.Text.{Text}
use Rattle.ados_items.specs.declared.items.Item.TheVariants.{End, Unmatched}
use Rattle.ados_items.specs.Items.{item_at}
use Rattle.ados_line.specs.declared.faults.LineFault.{LineFault}
use Rattle.ados_line.specs.declared.faults.LineFault.TheVariants.{ArgumentMissing, TooManyArguments, UnmatchedQuotes, NotImplemented}
use Rattle.ados_line.specs.declared.lines.Redirection.{Redirection}
use Rattle.ados_line.specs.declared.signs.Sign.{Sign}
use Rattle.ados_line.specs.declared.signs.Sign.TheVariants.{Input, Output, Append}
use Rattle.ados_line.specs.Cut.{is_run}
use Rattle.ados_line.specs.Pieces.{Piece, Stand, command_of, inputs, outputs, piece_bytes}
use Rattle.ados_line.specs.Signs.{is_both, sign_at, width_of}

-- a redirection of this sign's direction was named before, by the input and the output that were named so far
abbrev pub is_redirected : Option Text → Option Redirection → Sign → Bool
is_redirected input output Input = is_some input
is_redirected input output Output = is_some output
is_redirected input output Append = is_some output

-- The fault at a place of a line, after this command, if there is one already; `named` says whether the direction of a sign was named
-- before. It is: a second input or output; one without a name; `<>`; and a quote that is not closed, as the name or as an item. After Run
-- an item that is not a redirection has no fault.
pub data IsFaultAt (line : Text) (command : Option Text) (named : Sign → Bool) (place : ℕ) : LineFault → Type 0 where
  second : (sign : Sign) → sign_at line place ≡ Some sign → is_both line place ≡ false → named sign ≡ true
      → IsFaultAt line command named place TooManyArguments
  no_name : (sign : Sign) (end : ℕ) → sign_at line place ≡ Some sign → is_both line place ≡ false → named sign ≡ false
      → item_at false line (place + width_of sign) ≡ End end → IsFaultAt line command named place ArgumentMissing
  both : is_both line place ≡ true → IsFaultAt line command named place NotImplemented
  open_name : (sign : Sign) (from : ℕ) → sign_at line place ≡ Some sign → is_both line place ≡ false → named sign ≡ false
      → item_at false line (place + width_of sign) ≡ Unmatched from → IsFaultAt line command named place UnmatchedQuotes
  open_item : (from : ℕ) → is_run command ≡ false → item_at true line place ≡ Unmatched from
      → IsFaultAt line command named place UnmatchedQuotes

-- The fault is the first of the line: pieces of it lead up to a place, at most one input and one output among them, and at that place is
-- the fault.
pub record IsFirstFault (line : Text) (fault : LineFault) : Type 0 where
  pub pieces : List Piece
  pub rest : Text
  pub input : Option Text
  pub output : Option Redirection
  pub joined : flat_map piece_bytes pieces ++ rest ≡ line
  pub placed : Stand line None 0 pieces
  pub inputs_are : flat_map inputs pieces ≡ option_to_list input
  pub outputs_are : flat_map outputs pieces ≡ option_to_list output
  pub here : IsFaultAt line (command_of pieces) (is_redirected input output) (length (flat_map piece_bytes pieces)) fault
