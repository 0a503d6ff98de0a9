-- The path before the names of the objects that List shows for an argument, as the argument spells it.
use Rattle.std.specs.Prelude.{◌-◌, [], ◌∷◌, ◌++◌, take, length, cond, Option, Some, None, if◌then◌else◌}
use Rattle.ados_text.specs.Text.{Text}
use Rattle.ados_ram.specs.Entry.{is_directory}
use Rattle.ados_ram.specs.Files.{Files}
use Rattle.ados_ram.specs.declared.entries.Entry.{Entry}
use Rattle.ados_objects.specs.Bases.{entry_at}
use Rattle.ados_objects.specs.Names.{FoundPlaces, directory_part, piece_of}

-- the slash behind the path of a directory, given its last piece: none if that is empty, as in the empty path, or after a colon or a slash
abbrev pub slash_after : Text → Text
slash_after [] = []
slash_after (c ∷ cs) = 47 ∷ []

-- the path before the names of the objects in a directory: its own path, and a slash
abbrev pub path_inside : Text → Text
path_inside text = text ++ slash_after (piece_of text)

-- the path of an object without its last piece, which is the second parameter; if that is empty a slash at its end is ignored
abbrev pub path_before_piece : Text → Text → Text
path_before_piece text [] = directory_part (take (length text - 1) text)
path_before_piece text (c ∷ cs) = directory_part text

-- the path of an object without its last piece; a slash at its end is ignored
abbrev pub path_before : Text → Text
path_before text = path_before_piece text (piece_of text)

-- the path before the names that List shows for a text that is a path, by its entry: a directory stands for what is in it
abbrev pub path_of_literal : Text → Option Entry → Text
path_of_literal text None = []
path_of_literal text (Some e) = cond (is_directory e) (path_inside text) (path_before text)

-- the path before the names that List shows for a text: the matches of a pattern are in the directory before it
abbrev pub spelled_path : Files → Text → FoundPlaces → Text
spelled_path files text found = if found.literal then path_of_literal text (entry_at files found.places) else directory_part text
