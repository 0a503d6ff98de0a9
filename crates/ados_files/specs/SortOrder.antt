-- The lines of a file, and the order in which Sort puts them.
use Rattle.std.specs.Prelude.{ℕ, suc, ℤ, pos, ◌+◌, Bool, not, List, [], ◌∷◌, drop, take, length, position, if◌then◌else◌}
use Rattle.std.specs.Option.{unwrap_or}
use Rattle.std.specs.Char.{is_ascii_digit}
use Rattle.std.specs.Cmp.Lexicographic.{slice_cmp}
use Rattle.std.specs.Ordering.{int_cmp, is_lt, nat_cmp, ordering_then}
use Rattle.std.specs.declared.cmp.Ordering.{Ordering}
use Rattle.ados_text.specs.Text.{Bytes, folded_text}
use Rattle.ados_text.specs.Lines.{is_newline, lines_with_byte}
use Rattle.ados_text.specs.Number.{is_negative, number_of}
use Rattle.ados_files.specs.declared.sort_order.SortOrder.{SortOrder}

-- the lines of bytes, each with its bytes as they are: a byte 10 ends each, which the last one may lack
abbrev pub plain_lines : Bytes → List Bytes
plain_lines [] = []
plain_lines (byte ∷ bytes) = if is_newline byte then [] ∷ plain_lines bytes else lines_with_byte byte (plain_lines bytes)

-- how many bytes the first line has
abbrev pub line_len : Bytes → ℕ
line_len [] = 0
line_len (byte ∷ bytes) = if is_newline byte then 0 else suc (line_len bytes)

-- the part of a line that counts: from the column on
abbrev pub part_of : SortOrder → Bytes → Bytes
part_of order line = drop order.before line

-- the byte is not a decimal digit
abbrev pub is_no_digit : ℕ → Bool
is_no_digit byte = not (is_ascii_digit byte)

-- how many digits a text begins with
abbrev pub digit_count : Bytes → ℕ
digit_count text = unwrap_or (position is_no_digit text) (length text)

-- how many bytes the sign of a number takes
abbrev pub sign_count : Bytes → ℕ
sign_count text = if is_negative text then 1 else 0

-- an optional `-` and the longest run of digits, with which a text begins
abbrev pub number_text : Bytes → Bytes
number_text text = take (sign_count text + digit_count (drop (sign_count text) text)) text

-- the number with which a text begins; 0 where there is none, or it is past i32
abbrev pub leading_number : Bytes → ℤ
leading_number text = unwrap_or (number_of (number_text text)) (pos 0)

-- the number by which NUMERIC compares a line first; 0 without NUMERIC
abbrev pub number_key : SortOrder → Bytes → ℤ
number_key order line = if order.numeric then leading_number (part_of order line) else pos 0

-- the bytes by which a line is compared: from the column on, in lower case unless CASE
abbrev pub text_key : SortOrder → Bytes → Bytes
text_key order line = if order.case then part_of order line else folded_text (part_of order line)

-- how two lines compare: by their numbers first, then by bytes
abbrev pub line_cmp : SortOrder → Bytes → Bytes → Ordering
line_cmp order a b = ordering_then (int_cmp (number_key order a) (number_key order b)) (slice_cmp nat_cmp (text_key order a) (text_key order b))

-- a line comes before another one
abbrev pub is_before : SortOrder → Bytes → Bytes → Bool
is_before order a b = is_lt (line_cmp order a b)

-- an element put in front of the first that does not come before it
abbrev pub put_in_order : {X : Type 0} → (X → X → Bool) → X → List X → List X
put_in_order before x [] = x ∷ []
put_in_order before x (y ∷ ys) = if before y x then y ∷ put_in_order before x ys else x ∷ y ∷ ys

-- the elements in order; those of which neither comes before the other stay as they stood
abbrev pub in_order : {X : Type 0} → (X → X → Bool) → List X → List X
in_order before [] = []
in_order before (x ∷ xs) = put_in_order before x (in_order before xs)

-- lines in an order
abbrev pub sorted_lines : SortOrder → List Bytes → List Bytes
sorted_lines order = in_order (is_before order)
