-- What is in a folder of a share, by keys.
use Rattle.std.specs.Prelude.{ℕ, Bool, false, ◌&&◌, ◌||◌, ◌==◌, not, Option, Some, None, string_bytes, length, slice_get}
use Rattle.std.specs.List.{list_any, starts_with}
use Rattle.std.specs.Str.{bytes_eq}
use Rattle.ados_text.specs.Text.{Bytes}
use Rattle.ados_transfer.specs.declared.folders.Look.{Look}
use Rattle.ados_transfer.specs.declared.folders.Unread.{Unread}
use Rattle.ados_transfer.specs.LeftAlone.{is_left_out}

-- a byte is a slash
abbrev pub is_some_slash : Option ℕ → Bool
is_some_slash None = false
is_some_slash (Some c) = c == 47

-- a key is that of an object below a folder
abbrev pub is_descendant : Bytes → Bytes → Bool
is_descendant folder key = starts_with ◌==◌ key folder && (length folder == 0 || is_some_slash (slice_get key (length folder)))

-- what could not be read is the object of this key, or a folder above it
abbrev pub hides : Bytes → Unread → Bool
hides key unread = bytes_eq (string_bytes unread.key) key || is_descendant (string_bytes unread.key) key

-- nothing is left out of a look: all could be read, and what is left alone is never shared
abbrev pub is_whole : Look → Bool
is_whole look = length look.unread.items == 0 && not (list_any is_left_out look.left_alone.items)
