-- A rename that is not refused moves what is at a place and below it, and nothing else.
use Rattle.std.proofs.Common.{◌≡◌, ◌∙◌, [], ◌∷◌, ◌++◌, cond, true, false, Option, Some, None, refl, sym, ap}
use Rattle.std.proofs.lemmas.List.{append-nil}
use Rattle.std.specs.Option.{option_map}
use Rattle.std.specs.FinMap as map
use Rattle.ados_text.specs.Name.{Name}
use Rattle.ados_ram.specs.declared.entries.Entry.{Entry}
use Rattle.ados_ram.specs.Place.{Key, key_suffix, is_at_or_below}
use Rattle.ados_ram.specs.Entry.{renamed_entry}
use Rattle.ados_ram.specs.Files.{Files}
use Rattle.ados_ram.specs.FileOperations.{way_fault, rename_of}
use Rattle.ados_ram.specs.Renames.{entry_with_name, RenamesMove}
use Rattle.ados_ram.proofs.FilesLemmas.{nothing, or_second}
use Rattle.ados_ram.proofs.RenameLemmas.{CanMove, Within, get-moved_in, get-moved_out}
use Rattle.ados_ram.proofs.RenamedFiles.{can_move, none_of, within_from}
use Rattle.ados_ram.proofs.StayLemmas.{rename-stays}

itself : (name : Name) (there : Option Entry) → option_map (renamed_entry name []) there ≡ option_map (entry_with_name name) there
itself name None = refl
itself name (Some e) = refl

below : (name first : Name) (way : Key) (there : Option Entry) → option_map (renamed_entry name (first ∷ way)) there ≡ there
below name first way None = refl
below name first way (Some e) = refl

gone : (files : Files) (from to : Key) (name : Name) (place : Key) → is_at_or_below from place ≡ true → is_at_or_below to place ≡ false →
    map.get (rename_of files from to name) place ≡ nothing
gone files from to name place was out =
    get-moved_out files from to name place (none_of (key_suffix to place) out) ∙ ap (λ b. cond b nothing (map.get files place)) was

pub renames-move : RenamesMove
renames-move busy files from to name are clear =
    let can : CanMove from to (map.get files to) = can_move busy from to (map.get files from) (map.get files to) (or_second (way_fault files [] to) _ clear) in
    let within : Within to from (map.entries files) = within_from files from to are can.free in
    record {
      itself =
          ap (map.get (rename_of files from to name)) (sym (append-nil to)) ∙ get-moved_in files from to name [] within
          ∙ ap (λ place. option_map (renamed_entry name []) (map.get files place)) (append-nil from) ∙ itself name (map.get files from);
      below = λ first way. get-moved_in files from to name (first ∷ way) within ∙ below name first way (map.get files (from ++ first ∷ way));
      gone = gone files from to name;
      others = rename-stays files from to name;
    }
