-- The lines in which an assign is printed.
use Rattle.std.specs.Prelude.{List, [], ◌∷◌, ◌++◌, codes}
use Rattle.std.specs.List.{flat_map}
use Rattle.ados_text.specs.Text.{Text, Bytes}
use Rattle.ados_ram.specs.Place.{Place}
use Rattle.ados_ram.specs.Files.{Files}
use Rattle.ados_ram.specs.Written.{full_path}
use Rattle.ados_assign.specs.declared.assigns.Assign.{Assign}
use Rattle.ados_assign.specs.declared.bindings.Binding.{Binding}
use Rattle.ados_assign.specs.declared.bindings.Binding.TheVariants.{Dirs, Path, Defer}

-- the line of a directory of an assign after its first: each has a line of its own
abbrev pub further_line : Files → Place → Bytes
further_line files place = codes "+ " ++ full_path files place ++ codes "\n"

-- the lines of an assign of directories: the name and the full path of the first, then a line for each other
abbrev pub directory_lines : Files → Text → List Place → Bytes
directory_lines files name [] = []
directory_lines files name (place ∷ places) = name ++ codes ": " ++ full_path files place ++ codes "\n" ++ flat_map (further_line files) places

-- the lines of an assign, by its name and what it stands for; a text is in brackets, `[..]` with PATH, `<..>` with DEFER
abbrev pub binding_lines : Files → Text → Binding → Bytes
binding_lines files name (Dirs places) = directory_lines files name places
binding_lines files name (Path text) = name ++ codes ": [" ++ text ++ codes "]\n"
binding_lines files name (Defer text) = name ++ codes ": <" ++ text ++ codes ">\n"

-- the lines of an assign, by its name as it was first written
abbrev pub assign_lines : Files → Assign → Bytes
assign_lines files a = binding_lines files a.name a.binding
