use Rattle.std.proofs.Common.{ℕ, List, ap, ◌∙◌, subst}
use Rattle.std.specs.FinMap as map
use Rattle.ados_ram.specs.Place.{key_of, last_name}
use Rattle.ados_ram.specs.Files.{AreFiles, Files}
use Rattle.ados_ram.specs.FileOperations.{write_as_of}
use Rattle.ados_ram.proofs.FilesLemmas.{written_files}
use Rattle.ados_ram.proofs.WithinLemmas.{written-within, up-large}
use Rattle.ados_ram.proofs.InsideLemmas.{free-write, written-inside}
use Rattle.ados_ram.proofs.NamedLemmas.{write-as-named}
use Rattle.ados_ram.proofs.files.Ram.put.Goals as goal

pub with_bytes-requires-clause-files : goal.with_bytes-requires-clause-files
with_bytes-requires-clause-files c =
    let m = c.self.inside.table in
    let key = key_of c.args.place.now in
    let name = last_name c.args.place.now in
    let bytes = c.args.bytes.now in
    let is_open = c.is_output-open.result in
    let free = free-write c.args.limits is_open m c.args.place.now name bytes c.names-3.ensures (c.write_refusal.ensures name) c.in-None.is in
    let files : AreFiles (write_as_of m key name bytes c.args.bits) = record {
      tree = written_files c.args.limits is_open key name bytes c.args.bits c.self.invariant.tree free;
      within = written-within is_open key name bytes c.args.bits (up-large c.args.limits) c.self.invariant.within free;
      named = write-as-named m c.args.place.now bytes c.args.bits c.self.invariant.named;
    } in
    subst (λ (m : Files). AreFiles (write_as_of m key name bytes c.args.bits)) c.self.view_is files

pub with_bytes-requires-clause-old : goal.with_bytes-requires-clause-old
with_bytes-requires-clause-old c =
    c.find-old.ensures ∙ ap (λ (k : List (List ℕ)). map.get c.self.inside.table (key_of k)) c.names.ensures ∙ ap (λ (m : Files). map.get m (key_of c.args.place.now)) c.self.view_is

pub with_bytes-requires-clause-root : goal.with_bytes-requires-clause-root
with_bytes-requires-clause-root c =
    let m = c.self.inside.table in
    let name = last_name c.args.place.now in
    let free = free-write c.args.limits c.is_output-open.result m c.args.place.now name c.args.bytes.now c.names-3.ensures (c.write_refusal.ensures name) c.in-None.is in
    written-inside c.args.limits m c.is_output-open.result (key_of c.args.place.now) name c.args.bytes.now c.self.invariant.tree free
