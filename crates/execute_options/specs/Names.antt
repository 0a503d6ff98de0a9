-- The names of options.
use Rattle.std.specs.Prelude.{List, [], ◌∷◌, Bool, Option, codes, drop, find, length, not, ◌==◌, ◌&&◌, ◌||◌}
use Rattle.std.specs.List.{before_first, list_any, starts_with}
use Rattle.std.specs.Str.{bytes_eq}
use Rattle.ados_text.specs.Text.{Bytes}

-- the options, without --
abbrev pub options : List Bytes
options =
    codes "core" ∷ codes "hosts" ∷ codes "host" ∷ codes "common" ∷ codes "bring" ∷ codes "take" ∷ codes "type" ∷ codes "share" ∷ codes "all"
    ∷ codes "part" ∷ codes "dry" ∷ codes "quote" ∷ codes "strike" ∷ codes "check" ∷ codes "ascii-marks" ∷ codes "lenient" ∷ codes "strict" ∷ codes "answer"
    ∷ codes "turns" ∷ codes "seconds" ∷ codes "error" ∷ codes "ok-below" ∷ codes "quiet" ∷ codes "trace" ∷ codes "config" ∷ codes "no-config" ∷ []

-- what stands before =
abbrev pub name_of : Bytes → Bytes
name_of word = before_first (λ byte. byte == 61) word

-- a word that has the form of an option: what stands before = is -- and more
abbrev pub has_name : Bytes → Bool
has_name word = starts_with ◌==◌ (name_of word) (codes "--") && not (length (name_of word) == 2)

-- a word is one of the options, with or without a value
abbrev pub is_option : Bytes → Bool
is_option word =
    (starts_with ◌==◌ (name_of word) (codes "--") && list_any (λ option. bytes_eq option (drop 2 (name_of word))) options)
    || bytes_eq (name_of word) (codes "--help") || bytes_eq (name_of word) (codes "--version")

-- the first option among the arguments of a script, which is the first of some words
abbrev pub late_option : List Bytes → Option Bytes
late_option words = find is_option (drop 1 words)

-- an option that only the command line may have
abbrev pub is_typed_alone : Bytes → Bool
is_typed_alone name =
    bytes_eq name (codes "--check") || bytes_eq name (codes "--config") || bytes_eq name (codes "--help")
    || bytes_eq name (codes "--no-config") || bytes_eq name (codes "--version")

-- a file of options may have a word: it is an option, and none that only the command line may have
abbrev pub may_stand_in_file : Bytes → Bool
may_stand_in_file word = has_name word && not (is_typed_alone (name_of word))
