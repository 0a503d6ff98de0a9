use Rattle.std.proofs.Common.{◌≡◌, ◌++◌, ◌+◌, ◌*◌, ◌-◌, ℕ, List, drop}
use Rattle.std.specs.Prelude.{codes}
use Rattle.std.specs.List.{flat_map}
use Rattle.ados_text.specs.Text.{Bytes}
use Rattle.ados_ram.specs.Place.{Place}
use Rattle.ados_ram.specs.Files.{Files}
use Rattle.ados_files.specs.Dir.{branch_text, level_text}
use Rattle.ados_objects.specs.Lines.{keeps}
use Rattle.ados_files.specs.declared.dir_lines.Choice.{Choice}
use Rattle.ados_files.proofs.dir_lines.Showing.+level.Given as goal

abbrev pub decreases-push_level : goal.decreases-push_level
decreases-push_level l = 2 * l.levels

abbrev pub decreases-push_branch : goal.decreases-push_branch
decreases-push_branch l = 2 * l.levels + 1

-- the text of directories with so many levels below them
abbrev branches : ℕ → Choice → Files → Bytes → List Place → Bytes
branches levels choice files blanks = flat_map (branch_text (level_text levels choice files (blanks ++ codes "    ")) (keeps choice.dirs choice.files) files blanks)

abbrev pub invariant-push_level-loop-place : goal.invariant-push_level-loop-place
invariant-push_level-loop-place l =
    l.output.items ++ branches (l.levels - 1) l.self.choice l.self.ram.now l.self.blanks.now (drop l.place-index l.places)
    ≡ l.initial.output.items ++ branches (l.levels - 1) l.self.choice l.self.ram.now l.self.blanks.now l.places
