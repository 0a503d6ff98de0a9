-- pieces one after another: what they add to a line's cut
use Rattle.std.proofs.Common.{ℕ, ◌+◌, ◌-◌, ◌≤◌, ◌≡◌, ◌∙◌, List, [], ◌∷◌, ◌++◌, true, false, Option, Some, None, length, drop, refl, ap, sym, subst, arith, append_assoc, append-nil}
use Rattle.std.specs.Option.{option_or}
use Rattle.std.specs.Prelude.{is_some, option_to_list}
use Rattle.std.specs.List.{flat_map}
use Rattle.std.proofs.lemmas.Bool.{cond-false, cond-true}
use Rattle.std.proofs.lemmas.List.{take-append-drop, drop-drop, length-drop, length-take-le, drop_all}
use Rattle.ados_items.specs.Items.{bytes_between}
use Rattle.ados_line.specs.declared.signs.Sign.{Sign}
use Rattle.ados_line.specs.declared.signs.Sign.TheVariants.{Input, Output, Append}
use Rattle.ados_line.specs.declared.cuts.Cut.{Cut}
use Rattle.ados_line.specs.Cut.{with_piece, with_blanks, with_name, is_taken, is_run, with_rest}
use Rattle.ados_line.specs.Pieces.{Piece, Blank, Kept, Redirected, Rest, sign_bytes, piece_bytes, IsPieceAt, next_command, Stand, piece_args, command_of, args_of, inputs, outputs}

-- the command and the arguments, whether a command has been read or not
abbrev pub command_from : Option (List ℕ) → List Piece → Option (List ℕ)
command_from None pieces = command_of pieces
command_from (Some command) pieces = Some command

abbrev pub args_from : Option (List ℕ) → List Piece → List ℕ
args_from None pieces = args_of pieces
args_from (Some command) pieces = flat_map (piece_args command) pieces

-- pieces that are the line from a place on up to an end, and what has been read after them by what was read before
pub record Adds (line : List ℕ) (place end : ℕ) (before after : Cut) (pieces : List Piece) : Type 0 where
  pub joined : flat_map piece_bytes pieces ++ drop end line ≡ drop place line
  pub placed : Stand line before.command place pieces
  pub command : after.command ≡ command_from before.command pieces
  pub args : after.args ≡ before.args ++ args_from before.command pieces
  pub input : option_to_list after.input ≡ option_to_list before.input ++ flat_map inputs pieces
  pub output : option_to_list after.output ≡ option_to_list before.output ++ flat_map outputs pieces

abbrev pub Parts : List ℕ → ℕ → ℕ → Cut → Cut → Type 0
Parts line place end before after = (pieces : List Piece) × Adds line place end before after pieces

-- a line continues from one place up to another, and then from there
pub between : (line : List ℕ) (from to : ℕ) → from ≤ to → drop from line ≡ bytes_between line from to ++ drop to line
between line from to h =
    let e : from + (to - from) ≡ to = omega arith in
    sym (ap (λ l. bytes_between line from to ++ l) (sym (drop-drop (to - from) from line ∙ ap (λ k. drop k line) e)) ∙ take-append-drop (to - from) (drop from line))

-- these bytes are the line from one place up to another
abbrev pub Spans : List ℕ → ℕ → ℕ → List ℕ → Type 0
Spans line place to bytes = (drop place line ≡ bytes ++ drop to line) × (place + length bytes ≡ to)

pub spans-between : (line : List ℕ) (from to : ℕ) → from ≤ to → to ≤ length line → Spans line from to (bytes_between line from to)
spans-between line from to h within =
    let left = length-drop from line in
    let long = length-take-le (to - from) (drop from line) (omega arith) in
    (between line from to h, omega (arith, long))

pub spans-rest : (line : List ℕ) (place : ℕ) → place ≤ length line → Spans line place (length line) (drop place line)
spans-rest line place within =
    let left = length-drop place line in
    (sym (append-nil (drop place line)) ∙ ap (λ l. drop place line ++ l) (sym (drop_all (length line) line (omega arith))), omega (arith, left))

-- one piece, and those after it
stand-more : (line : List ℕ) (command : Option (List ℕ)) (place to : ℕ) (piece : Piece) (pieces : List Piece) → IsPieceAt line command place piece
    → place + length (piece_bytes piece) ≡ to → Stand line (next_command command piece) to pieces → Stand line command place (piece ∷ pieces)
stand-more line command place to piece pieces here e rest =
    let P : ℕ → Type 0 = λ p. Stand line (next_command command piece) p pieces in (here, subst P (sym e) rest)

joined-more : (line bytes : List ℕ) (place to end : ℕ) (pieces : List Piece) → Spans line place to bytes → flat_map piece_bytes pieces ++ drop end line ≡ drop to line
    → (bytes ++ flat_map piece_bytes pieces) ++ drop end line ≡ drop place line
joined-more line bytes place to end pieces spans e = append_assoc bytes (flat_map piece_bytes pieces) (drop end line) ∙ ap (λ l. bytes ++ l) e ∙ sym spans.0

command-none : (command : Option (List ℕ)) → command ≡ command_from command []
command-none None = refl
command-none (Some text) = refl

args-none : (command : Option (List ℕ)) (args : List ℕ) → args ≡ args ++ args_from command []
args-none None args = sym (append-nil args)
args-none (Some text) args = sym (append-nil args)

-- no piece is needed from a place up to itself
pub none-left : (line : List ℕ) (end : ℕ) (read : Cut) → Parts line end end read read
none-left line end read = (
  [],
  record {
    joined = refl;
    placed = tt;
    command = command-none read.command;
    args = args-none read.command read.args;
    input = sym (append-nil _);
    output = sym (append-nil _);
  },
)

-- a piece after which the cut goes on with what it adds
add-piece : (line : List ℕ) (place to end : ℕ) (piece : Piece) (read next after : Cut) → Spans line place to (piece_bytes piece) → IsPieceAt line read.command place piece
    → ((pieces : List Piece) → Stand line next.command to pieces → Stand line (next_command read.command piece) to pieces)
    → ((pieces : List Piece) → command_from next.command pieces ≡ command_from read.command (piece ∷ pieces))
    → ((pieces : List Piece) → next.args ++ args_from next.command pieces ≡ read.args ++ args_from read.command (piece ∷ pieces))
    → ((pieces : List Piece) → option_to_list next.input ++ flat_map inputs pieces ≡ option_to_list read.input ++ flat_map inputs (piece ∷ pieces))
    → ((pieces : List Piece) → option_to_list next.output ++ flat_map outputs pieces ≡ option_to_list read.output ++ flat_map outputs (piece ∷ pieces))
    → Parts line to end next after → Parts line place end read after
add-piece line place to end piece read next after spans here stand command args input output (pieces, a) = (
  piece ∷ pieces,
  record {
    joined = joined-more line (piece_bytes piece) place to end pieces spans a.joined;
    placed = stand-more line read.command place to piece pieces here spans.1 (stand pieces a.placed);
    command = a.command ∙ command pieces;
    args = a.args ∙ args pieces;
    input = a.input ∙ input pieces;
    output = a.output ∙ output pieces;
  },
)

-- an item that is kept: the command, or a part of the arguments
pub kept-parts : (line : List ℕ) (place to end : ℕ) (bytes text : List ℕ) (read after : Cut) (command : Option (List ℕ)) → read.command ≡ command
    → Spans line place to bytes → IsPieceAt line read.command place (Kept bytes text) → Parts line to end (with_piece command text bytes read) after
    → Parts line place end read after
kept-parts line place to end bytes text read after None e spans here p =
    add-piece line place to end (Kept bytes text) read (with_piece None text bytes read) after spans here
    (λ ps s. subst (λ o. Stand line (option_or o (Some text)) to ps) (sym e) s) (λ ps. ap (λ o. command_from o (Kept bytes text ∷ ps)) (sym e))
    (λ ps. ap (λ o. read.args ++ args_from o (Kept bytes text ∷ ps)) (sym e)) (λ ps. refl) (λ ps. refl) p
kept-parts line place to end bytes text read after (Some command) e spans here p =
    add-piece line place to end (Kept bytes text) read (with_piece (Some command) text bytes read) after spans here
    (λ ps s. subst (λ o. Stand line (option_or o (Some text)) to ps) (sym e) (subst (λ o. Stand line o to ps) e s))
    (λ ps. ap (λ o. command_from o ps) e ∙ ap (λ o. command_from o (Kept bytes text ∷ ps)) (sym e))
    (λ ps. ap (λ o. (read.args ++ bytes) ++ args_from o ps) e ∙ append_assoc read.args bytes _ ∙ ap (λ o. read.args ++ args_from o (Kept bytes text ∷ ps)) (sym e))
    (λ ps. refl) (λ ps. refl) p

-- blanks that are not part of Run's line are kept; before the command they are dropped
blank-kept : (command bytes : List ℕ) (pieces : List Piece) → is_run (Some command) ≡ false → bytes ++ flat_map (piece_args command) pieces ≡ flat_map (piece_args command) (Blank bytes ∷ pieces)
blank-kept command bytes pieces other = ap (λ l. l ++ flat_map (piece_args command) pieces) (sym (cond-false (is_run (Some command)) [] bytes other))

pub blank-parts : (line : List ℕ) (place to end : ℕ) (bytes : List ℕ) (read after : Cut) (command : Option (List ℕ)) → read.command ≡ command → is_run command ≡ false
    → Spans line place to bytes → IsPieceAt line read.command place (Blank bytes) → Parts line to end (with_blanks command bytes read) after → Parts line place end read after
blank-parts line place to end bytes read after None e other spans here p =
    add-piece line place to end (Blank bytes) read (with_blanks None bytes read) after spans here (λ ps s. s)
    (λ ps. ap (λ o. command_from o ps) e ∙ ap (λ o. command_from o (Blank bytes ∷ ps)) (sym e))
    (λ ps. ap (λ o. read.args ++ args_from o ps) e ∙ ap (λ o. read.args ++ args_from o (Blank bytes ∷ ps)) (sym e)) (λ ps. refl) (λ ps. refl) p
blank-parts line place to end bytes read after (Some command) e other spans here p =
    add-piece line place to end (Blank bytes) read (with_blanks (Some command) bytes read) after spans here (λ ps s. s)
    (λ ps. ap (λ o. command_from o ps) e ∙ ap (λ o. command_from o (Blank bytes ∷ ps)) (sym e))
    (λ ps. ap (λ o. (read.args ++ bytes) ++ args_from o ps) e ∙ append_assoc read.args bytes _
    ∙ ap (λ l. read.args ++ l) (blank-kept command bytes ps other) ∙ ap (λ o. read.args ++ args_from o (Blank bytes ∷ ps)) (sym e)) (λ ps. refl) (λ ps. refl) p

-- blanks before Run's redirections add nothing
run-blank : (command bytes : List ℕ) (pieces : List Piece) → is_run (Some command) ≡ true → flat_map (piece_args command) pieces ≡ flat_map (piece_args command) (Blank bytes ∷ pieces)
run-blank command bytes pieces runs = ap (λ l. l ++ flat_map (piece_args command) pieces) (sym (cond-true (is_run (Some command)) [] bytes runs))

pub run-blank-parts : (line : List ℕ) (place to end : ℕ) (bytes : List ℕ) (read after : Cut) (command : Option (List ℕ)) → read.command ≡ command → is_run command ≡ true
    → Spans line place to bytes → IsPieceAt line read.command place (Blank bytes) → Parts line to end read after → Parts line place end read after
run-blank-parts line place to end bytes read after None e runs spans here p = cc
run-blank-parts line place to end bytes read after (Some command) e runs spans here p =
    add-piece line place to end (Blank bytes) read read after spans here (λ ps s. s)
    (λ ps. ap (λ o. command_from o ps) e ∙ ap (λ o. command_from o (Blank bytes ∷ ps)) (sym e))
    (λ ps. ap (λ o. read.args ++ args_from o ps) e ∙ ap (λ l. read.args ++ l) (run-blank command bytes ps runs) ∙ ap (λ o. read.args ++ args_from o (Blank bytes ∷ ps)) (sym e))
    (λ ps. refl) (λ ps. refl) p

-- the rest of Run's line
pub rest-parts : (line : List ℕ) (place end : ℕ) (bytes : List ℕ) (read after : Cut) (command : Option (List ℕ)) → read.command ≡ command → is_run command ≡ true
    → Spans line place (length line) bytes → IsPieceAt line read.command place (Rest bytes) → Parts line (length line) end (with_rest bytes read) after
    → Parts line place end read after
rest-parts line place end bytes read after None e runs spans here p = cc
rest-parts line place end bytes read after (Some command) e runs spans here p =
    add-piece line place (length line) end (Rest bytes) read (with_rest bytes read) after spans here (λ ps s. s)
    (λ ps. ap (λ o. command_from o ps) e ∙ ap (λ o. command_from o (Rest bytes ∷ ps)) (sym e))
    (λ ps. ap (λ o. (read.args ++ bytes) ++ args_from o ps) e ∙ append_assoc read.args bytes _ ∙ ap (λ o. read.args ++ args_from o (Rest bytes ∷ ps)) (sym e))
    (λ ps. refl) (λ ps. refl) p

none-listed : {A : Type 0} (o : Option A) → is_some o ≡ false → option_to_list o ≡ []
none-listed None e = refl
none-listed (Some x) e = cc

-- a redirection adds nothing to the command and the arguments
passed-command : (command : Option (List ℕ)) (sign : Sign) (tail name : List ℕ) (pieces : List Piece)
    → command_from command pieces ≡ command_from command (Redirected sign tail name ∷ pieces)
passed-command None sign tail name pieces = refl
passed-command (Some command) sign tail name pieces = refl

passed-args : (command : Option (List ℕ)) (sign : Sign) (tail name : List ℕ) (pieces : List Piece)
    → args_from command pieces ≡ args_from command (Redirected sign tail name ∷ pieces)
passed-args None sign tail name pieces = refl
passed-args (Some command) sign tail name pieces = refl

-- a redirection
pub name-parts : (line : List ℕ) (place to end : ℕ) (sign : Sign) (tail name : List ℕ) (read after : Cut) → is_taken sign read ≡ false
    → Spans line place to (sign_bytes sign ++ tail) → IsPieceAt line read.command place (Redirected sign tail name)
    → Parts line to end (with_name sign name read) after → Parts line place end read after
name-parts line place to end Input tail name read after free spans here p =
    add-piece line place to end (Redirected Input tail name) read (with_name Input name read) after spans here (λ ps s. s)
    (passed-command read.command Input tail name) (λ ps. ap (λ l. read.args ++ l) (passed-args read.command Input tail name ps))
    (λ ps. ap (λ l. l ++ (name ∷ flat_map inputs ps)) (sym (none-listed read.input free))) (λ ps. refl) p
name-parts line place to end Output tail name read after free spans here p =
    add-piece line place to end (Redirected Output tail name) read (with_name Output name read) after spans here (λ ps s. s)
    (passed-command read.command Output tail name) (λ ps. ap (λ l. read.args ++ l) (passed-args read.command Output tail name ps))
    (λ ps. refl) (λ ps. ap (λ l. l ++ (record { name = name; append = false } ∷ flat_map outputs ps)) (sym (none-listed read.output free))) p
name-parts line place to end Append tail name read after free spans here p =
    add-piece line place to end (Redirected Append tail name) read (with_name Append name read) after spans here (λ ps s. s)
    (passed-command read.command Append tail name) (λ ps. ap (λ l. read.args ++ l) (passed-args read.command Append tail name ps))
    (λ ps. refl) (λ ps. ap (λ l. l ++ (record { name = name; append = true } ∷ flat_map outputs ps)) (sym (none-listed read.output free))) p
