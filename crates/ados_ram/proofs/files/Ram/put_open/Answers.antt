use Rattle.std.proofs.Common.{◌≡◌, ℕ, List, None, sym, ap, ◌∙◌, subst}
use Rattle.ados_ram.specs.Place.{key_of, last_name}
use Rattle.ados_ram.specs.Files.{AreFiles, Files}
use Rattle.ados_ram.specs.FileOperations.{put_open_of, put_open_fault}
use Rattle.ados_ram.proofs.FilesLemmas.{put_open_files}
use Rattle.ados_ram.proofs.WithinLemmas.{put-open-within, up-large}
use Rattle.ados_ram.proofs.NamedLemmas.{put-named}
use Rattle.ados_ram.proofs.files.Ram.put_open.Goals as goal

pub with_put-requires : goal.with_put-requires
with_put-requires c =
    let name = last_name c.args.place.now in
    let free : put_open_fault c.args.limits c.self.inside.table (key_of c.args.place.now) name c.args.bytes.now ≡ None =
    ap (λ (k : List (List ℕ)). put_open_fault c.args.limits c.self.inside.table (key_of k) name c.args.bytes.now) (sym c.names.ensures) ∙ sym (c.put_refusal.ensures name) ∙ c.in-None.is in
    let files : AreFiles (put_open_of c.self.inside.table (key_of c.args.place.now) name c.args.bytes.now) = record {
      tree = put_open_files (key_of c.args.place.now) name c.args.bytes.now c.self.invariant.tree;
      within = put-open-within (key_of c.args.place.now) name c.args.bytes.now (up-large c.args.limits) c.self.invariant.within free;
      named = put-named c.self.inside.table c.args.place.now c.args.bytes.now c.self.invariant.named;
    } in
    subst (λ (m : Files). AreFiles (put_open_of m (key_of c.args.place.now) name c.args.bytes.now)) c.self.view_is files
