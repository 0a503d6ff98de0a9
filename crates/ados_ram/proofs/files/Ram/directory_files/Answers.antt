use Rattle.std.proofs.Common.{◌≡◌, ◌∙◌, ℕ, List, ap}
use Rattle.std.specs.FinMap as map
use Rattle.ados_ram.specs.Place.{key_of}
use Rattle.ados_ram.specs.Files.{Files}
use Rattle.ados_ram.specs.Contents.{directory_files}
use Rattle.ados_ram.proofs.ChangeLemmas.{if_ok}
use Rattle.ados_ram.proofs.WalkLemmas.{files-within}
use Rattle.ados_ram.proofs.files.Ram.directory_files.Goals as goal

pub returns : goal.returns
returns c =
    let key = key_of c.args.place.now in
    let all : directory_files c.args.all (key_of c.names.result.now) c.deref.result.now ≡ directory_files c.args.all key (map.entries c.args.self.now) =
    ap (λ (k : List (List ℕ)). directory_files c.args.all (key_of k) c.deref.result.now) c.names.ensures ∙ ap (directory_files c.args.all key) (c.deref.ensures.value ∙ c.in_ok-rows.ensures)
    ∙ files-within c.args.all key (map.entries c.self.inside.table) ∙ ap (λ (m : Files). directory_files c.args.all key (map.entries m)) c.self.view_is in
    if_ok c.directory_files.result (λ places is. is ∙ all) c.directory_files.ensures
