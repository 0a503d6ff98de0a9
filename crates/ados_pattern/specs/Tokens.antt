-- What each byte of a pattern's text is.
use Rattle.std.specs.Prelude.{ℕ, List, [], ◌∷◌, Bool, false, not, ◌&&◌, ◌==◌, if◌then◌else◌}
use Rattle.ados_text.specs.Text.{Text}
use Rattle.ados_pattern.specs.declared.tokens.Token.{Token}
use Rattle.ados_pattern.specs.declared.tokens.Token.TheVariants.{Silent, Char, Any, Nothing, Many, Other, Bar, Open, Close, ClassOpen, Negated, Member, ClassClose, Hanging}
use Rattle.ados_pattern.specs.declared.tokens.Mode.{Mode}
use Rattle.ados_pattern.specs.declared.tokens.Mode.TheVariants.{Plain, Quoted, Begun, Class, ClassQuoted, Low, Ranged, RangedQuoted}
use Rattle.ados_pattern.specs.Signs.{hash, percent, quote, open_group, close_group, dash, question, open_class, close_class, bar, tilde}

-- a quote hangs if nothing follows it
abbrev pub quote_token : Text → Token
quote_token [] = Hanging
quote_token (c ∷ rest) = Silent

-- outside of a class
abbrev pub plain_token : ℕ → Text → Token
plain_token c rest =
    if c == quote then quote_token rest else
    (if c == open_class then ClassOpen else
    (if c == question then Any else
    (if c == percent then Nothing else
    (if c == hash then Many else
    (if c == tilde then Other else
    (if c == bar then Bar else
    (if c == open_group then Open else
    (if c == close_group then Close else Char c))))))))

-- a `-` and a high end that is not the class's `]`
abbrev pub begins_range : Text → Bool
begins_range [] = false
begins_range (c ∷ []) = false
begins_range (c ∷ high ∷ rest) = (c == dash) && not (high == close_class)

-- a character of a class
abbrev pub member_token : ℕ → Text → Token
member_token c rest = if begins_range rest then Silent else Member c c

abbrev pub member_mode : ℕ → Text → Mode
member_mode c rest = if begins_range rest then Low c else Class

-- in a class
abbrev pub class_token : ℕ → Text → Token
class_token c rest = if c == close_class then ClassClose else (if c == quote then Silent else member_token c rest)

abbrev pub class_mode : ℕ → Text → Mode
class_mode c rest = if c == close_class then Plain else (if c == quote then ClassQuoted else member_mode c rest)

-- what a byte is
abbrev pub token_of : Mode → ℕ → Text → Token
token_of Plain c rest = plain_token c rest
token_of Quoted c rest = Char c
token_of Begun c rest = if c == tilde then Negated else class_token c rest
token_of Class c rest = class_token c rest
token_of ClassQuoted c rest = member_token c rest
token_of (Low low) c rest = Silent
token_of (Ranged low) c rest = if c == quote then Silent else Member low c
token_of (RangedQuoted low) c rest = Member low c

-- what comes before the rest
abbrev pub next_mode : Mode → ℕ → Text → Mode
next_mode Plain c rest = if c == quote then Quoted else (if c == open_class then Begun else Plain)
next_mode Quoted c rest = Plain
next_mode Begun c rest = if c == tilde then Class else class_mode c rest
next_mode Class c rest = class_mode c rest
next_mode ClassQuoted c rest = member_mode c rest
next_mode (Low low) c rest = Ranged low
next_mode (Ranged low) c rest = if c == quote then RangedQuoted low else Class
next_mode (RangedQuoted low) c rest = Class

-- one token for each byte
abbrev pub tokens_from : Mode → Text → List Token
tokens_from mode [] = []
tokens_from mode (c ∷ rest) = token_of mode c rest ∷ tokens_from (next_mode mode c rest) rest

-- the tokens of a pattern's text, one for each byte
abbrev pub tokens_of : Text → List Token
tokens_of text = tokens_from Plain text
