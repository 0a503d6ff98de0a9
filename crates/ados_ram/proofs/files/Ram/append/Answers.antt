use Rattle.std.proofs.Common.{◌≡◌, ℕ, List, true, sym, ap, ◌∙◌}
use Rattle.std.specs.FinMap as map
use Rattle.ados_ram.specs.Place.{key_of, last_name}
use Rattle.ados_ram.specs.Files.{Files}
use Rattle.ados_ram.specs.FileOperations.{is_unarchived_file}
use Rattle.ados_ram.proofs.AppendLemmas.{nothing_appended}
use Rattle.ados_ram.proofs.ChangeLemmas.{if_ok}
use Rattle.ados_ram.proofs.files.Ram.append.Goals as goal

pub returns-then-is_unarchived_file-clause-ok : goal.returns-then-is_unarchived_file-clause-ok
returns-then-is_unarchived_file-clause-ok c =
    let key = key_of c.args.place.now in
    let name = last_name c.args.place.now in
    let there = c.find-old.ensures ∙ ap (λ (k : List (List ℕ)). map.get c.self.inside.table (key_of k)) c.names.ensures ∙ ap (λ (m : Files). map.get m key) c.self.view_is in
    let kept : is_unarchived_file (map.get c.args.self.now key) ≡ true = ap is_unarchived_file (sym there) ∙ sym c.is_unarchived_file.ensures ∙ c.if-is_unarchived_file.true in
    let nothing = nothing_appended c.args.self.now key name c.args.bytes.now (sym c.if-is_empty.true ∙ c.is_empty.ensures) kept in
    if_ok c.keep.result (λ new is. is ∙ sym nothing) c.keep.ensures.ok
