-- Binding: what the end of an event does to assigns.
use Rattle.std.specs.Prelude.{◌≡◌, ◌⊎◌, ℕ, List, [], ◌∷◌, Option, Some, option_map, true}
use Rattle.std.specs.List.{Contains}
use Rattle.std.specs.FinMap as map
use Rattle.ados_text.specs.Text.{Text, folded_text}
use Rattle.ados_ram.specs.Place.{Place, key_of}
use Rattle.ados_ram.specs.Files.{Files, is_some_directory}
use Rattle.ados_assign.specs.Assigns.{AssignMap}
use Rattle.ados_assign.specs.Uses.{is_defer, is_used}
use Rattle.ados_assign.specs.declared.assigns.Assign.{Assign}
use Rattle.ados_assign.specs.declared.bindings.Binding.TheVariants.{Dirs}
use Rattle.ados_machine.specs.Items.{TraceItem}
use Rattle.ados_machine.specs.declared.outs.Out.{Out}
use Rattle.ados_machine.specs.Apply.{TurnResult}
use Rattle.ados_machine.specs.Step.{Accepted, turn_taken}
use Rattle.ados_machine.specs.World.{WorldState}

-- an assign of this folded name was bound, and stands now for a directory that is there: it was among those before, was a Defer, and its
-- device is among those used
pub record IsBound (used : List Text) (files : Files) (before : List Assign) (name : Text) (now : Option Assign) : Type 0 where
  pub assign : Assign
  pub was : Contains before assign
  pub name_is : folded_text assign.name ≡ name
  pub defers : is_defer assign.binding ≡ true
  pub used_is : is_used used assign.name ≡ true
  pub place : Place
  pub stands_for : option_map (λ a. a.binding) now ≡ Some (Dirs (place ∷ []))
  pub directory : is_some_directory (map.get files (key_of place)) ≡ true

-- each assign is as it was before, except for Defers among the devices used, which may have been bound to directories that are there
abbrev pub BindsOnly : List Text → Files → AssignMap → AssignMap → Type 0
BindsOnly used files before after = (name : Text) → (map.get after name ≡ map.get before name) ⊎ IsBound used files (map.values before) name (map.get after name)

-- an event of a shell changes no assign beyond what its commands did, except that it binds Defers that it used, to directories
-- that are there after it
abbrev pub EventsBindOnlyWhatTheyUsed : Type 0
EventsBindOnlyWhatTheyUsed =
    (w world : WorldState) (k : ℕ) (queue : List Text) (turned : TurnResult) (out : Out) (items : List (ℕ × TraceItem)) →
    turn_taken w k queue turned ≡ Accepted world out items →
    BindsOnly turned.course.used world.shared.files turned.course.shared.assigns world.shared.assigns
