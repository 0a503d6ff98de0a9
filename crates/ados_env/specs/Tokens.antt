-- The tokens of an expression: what its text is made of.
use Rattle.std.specs.Prelude.{ℕ, pos, ◌+◌, ◌-◌, ◌^◌, ◌==◌, nat_lt, ◌&&◌, ◌||◌, Bool, false, List, [], ◌∷◌, take, drop, length, codes, Option, Some, None, if◌then◌else◌}
use Rattle.std.specs.List.{prefix_len}
use Rattle.std.specs.Char.{is_ascii_alphabetic, is_ascii_digit}
use Rattle.std.specs.Int.{w32, cast_signed}
use Rattle.ados_text.specs.Text.{Bytes, Text, fold_of, is_same}
use Rattle.ados_items.specs.Items.{is_blank}
use Rattle.ados_env.specs.declared.numerals.Base.{Base}
use Rattle.ados_env.specs.declared.numerals.Base.TheVariants.{Octal, Decimal, Hexadecimal}
use Rattle.ados_env.specs.declared.operators.Operator.{Operator}
use Rattle.ados_env.specs.declared.operators.Operator.TheVariants.{Plus, Minus, Times, Divide, Modulo, ShiftLeft, ShiftRight, And, Xor, Equal, Or}
use Rattle.ados_env.specs.declared.tokens.Token.{Token}
use Rattle.ados_env.specs.declared.tokens.Token.TheVariants.{Number, Limit, Operator as By, Complement, Open, Close, Wrong}
use Rattle.ados_env.specs.declared.tokens.Cut.{Cut}
use Rattle.ados_env.specs.Numerals.{digits_in, number_written}

-- the token of a quote and a character, given the bytes behind the quote: the character's code
abbrev pub character_cut : Bytes → Cut
character_cut [] = record { token = Wrong; length = 1 }
character_cut (character ∷ rest) = record { token = Number (pos character); length = 2 }

-- the bytes behind the first one begin with an `x`, which marks a hexadecimal number, case ignored
abbrev pub marks_hexadecimal : Bytes → Bool
marks_hexadecimal [] = false
marks_hexadecimal (mark ∷ rest) = fold_of mark == 120

-- the token of a number of 32 bits, which are those of a signed number
abbrev pub bits_token : Option ℕ → Token
bits_token None = Wrong
bits_token (Some bits) = Number (cast_signed w32 bits)

-- the token of hexadecimal or octal digits after a mark of so many bytes, given the text from the mark on
abbrev pub digits_cut : Base → ℕ → Bytes → Cut
digits_cut base mark text =
    record { token = bits_token (number_written base (digits_in base (drop mark text))); length = mark + length (digits_in base (drop mark text)) }

-- the token of a decimal number: at most 2147483647; one more is possible as the value of a `-`
abbrev pub decimal_token : Option ℕ → Token
decimal_token None = Wrong
decimal_token (Some n) = if nat_lt n (2 ^ 31) then Number (pos n) else (if n == 2 ^ 31 then Limit else Wrong)

-- the token of the decimal digits with which a text begins
abbrev pub decimal_cut : Bytes → Cut
decimal_cut text = record { token = decimal_token (number_written Decimal (digits_in Decimal text)); length = length (digits_in Decimal text) }

-- the word with which a text begins: the longest run of letters
abbrev pub letters_in : Bytes → Text
letters_in text = take (prefix_len is_ascii_alphabetic text) text

-- a word is an operator's long or short name, case ignored
abbrev pub is_either : Text → Text → Text → Bool
is_either word long short = is_same word long || is_same word short

-- the token of a word: an operator's name, or its first letter
abbrev pub word_token : Text → Token
word_token word =
    if is_either word (codes "MOD") (codes "M") then By Modulo else
    (if is_either word (codes "LSH") (codes "L") then By ShiftLeft else
    (if is_either word (codes "RSH") (codes "R") then By ShiftRight else
    (if is_either word (codes "XOR") (codes "X") then By Xor else
    (if is_either word (codes "EQV") (codes "E") then By Equal else Wrong))))

-- the token of the word with which a text begins
abbrev pub word_cut : Bytes → Cut
word_cut text = record { token = word_token (letters_in text); length = length (letters_in text) }

-- the token of `<<` or `>>`, given its first byte and the bytes behind: the same byte twice
abbrev pub shift_cut : Operator → ℕ → Bytes → Cut
shift_cut operator byte [] = record { token = Wrong; length = 1 }
shift_cut operator byte (next ∷ rest) = if next == byte then record { token = By operator; length = 2 } else record { token = Wrong; length = 1 }

-- the token of a byte: `(` `)` `~` `*` `/` `%` `+` `-` `&` `|`
abbrev pub sign_token : ℕ → Token
sign_token byte =
    if byte == 40 then Open else
    (if byte == 41 then Close else
    (if byte == 126 then Complement else
    (if byte == 42 then By Times else
    (if byte == 47 then By Divide else
    (if byte == 37 then By Modulo else
    (if byte == 43 then By Plus else
    (if byte == 45 then By Minus else
    (if byte == 38 then By And else
    (if byte == 124 then By Or else Wrong)))))))))

-- the token with which a text begins, given its first byte, the rest, and the whole text: `'` a character, `0x` and `#x` hexadecimal
-- digits, `#` and `0` octal digits, other digits a decimal number, letters a word, else a sign
abbrev pub token_cut : ℕ → Bytes → Bytes → Cut
token_cut byte rest text =
    if byte == 39 then character_cut rest else
    (if (byte == 35 || byte == 48) && marks_hexadecimal rest then digits_cut Hexadecimal 2 text else
    (if byte == 35 then digits_cut Octal 1 text else
    (if byte == 48 then digits_cut Octal 0 text else
    (if is_ascii_digit byte then decimal_cut text else
    (if is_ascii_alphabetic byte then word_cut text else
    (if byte == 60 then shift_cut ShiftLeft byte rest else
    (if byte == 62 then shift_cut ShiftRight byte rest else
    record { token = sign_token byte; length = 1 })))))))

-- the tokens of a text, of which the first `taken` bytes are those of the token before; blanks may stand between any two
abbrev pub tokens_from : ℕ → Bytes → List Token
tokens_from taken [] = []
tokens_from taken (byte ∷ rest) =
    if nat_lt 0 taken then tokens_from (taken - 1) rest else
    (if is_blank byte then tokens_from 0 rest else
    ((token_cut byte rest (byte ∷ rest)).token ∷ tokens_from ((token_cut byte rest (byte ∷ rest)).length - 1) rest))

-- the tokens of a text
abbrev pub tokens_of : Bytes → List Token
tokens_of text = tokens_from 0 text
