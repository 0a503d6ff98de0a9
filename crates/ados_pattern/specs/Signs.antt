-- The signs of patterns.
use Rattle.std.specs.Prelude.{ℕ, Bool, ◌==◌, ◌||◌}

abbrev pub hash : ℕ
hash = 35

abbrev pub percent : ℕ
percent = 37

abbrev pub quote : ℕ
quote = 39

abbrev pub open_group : ℕ
open_group = 40

abbrev pub close_group : ℕ
close_group = 41

abbrev pub dash : ℕ
dash = 45

abbrev pub question : ℕ
question = 63

abbrev pub open_class : ℕ
open_class = 91

abbrev pub close_class : ℕ
close_class = 93

abbrev pub bar : ℕ
bar = 124

abbrev pub tilde : ℕ
tilde = 126

-- the byte is not a character outside of a class, except after a quote
abbrev pub is_sign : ℕ → Bool
is_sign c = (c == quote) || ((c == open_class) || ((c == question) || ((c == percent) || ((c == hash) || ((c == tilde) || ((c == bar) || ((c == open_group) || (c == close_group))))))))

-- a quote, or a sign that begins or ends a group or a class
abbrev pub is_frame : ℕ → Bool
is_frame c = (c == quote) || ((c == open_class) || ((c == open_group) || (c == close_group)))
