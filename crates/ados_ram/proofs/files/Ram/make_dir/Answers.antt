use Rattle.std.proofs.Common.{◌≡◌, ℕ, List, None, sym, ap, ◌∙◌, subst}
use Rattle.std.specs.FinMap as map
use Rattle.ados_ram.specs.declared.entries.Entry.{Entry}
use Rattle.ados_ram.specs.Place.{key_of}
use Rattle.ados_ram.specs.Files.{AreFiles, AreNamed, Files}
use Rattle.ados_ram.specs.FileOperations.{make_dir_fault, make_dir_of}
use Rattle.ados_ram.proofs.FilesLemmas.{made_files}
use Rattle.ados_ram.proofs.WithinLemmas.{made-within, up-large}
use Rattle.ados_ram.proofs.InsideLemmas.{made-inside}
use Rattle.ados_ram.proofs.NamedLemmas.{make-dir-named}
use Rattle.ados_ram.proofs.files.Ram.make_dir.Goals as goal

pub with-requires-clause-files : goal.with-requires-clause-files
with-requires-clause-files c =
    let name = c.in_ok-last_name-in-None.field-0 in
    let free : make_dir_fault c.args.limits c.self.inside.table (key_of c.args.place.now) name ≡ None =
    ap (λ (k : List (List ℕ)). make_dir_fault c.args.limits c.self.inside.table (key_of k) name) (sym c.names.ensures) ∙ sym (c.make_dir_refusal.ensures name) ∙ c.in-None.is in
    let made : AreFiles (make_dir_of c.self.inside.table (key_of c.args.place.now) name) = record {
      tree = made_files c.args.limits (key_of c.args.place.now) name c.self.invariant.tree free;
      within = made-within (key_of c.args.place.now) name (up-large c.args.limits) c.self.invariant.within free;
      named = subst (λ (n : List ℕ). AreNamed (make_dir_of c.self.inside.table (key_of c.args.place.now) n)) (sym c.in_ok-last_name-in-None.ensures) (make-dir-named c.self.inside.table c.args.place.now c.self.invariant.named);
    } in
    let files : AreFiles (map.insert c.self.inside.table (key_of c.args.place.now) c.in_ok-entry-in-None.entry) =
    subst (λ (e : Entry). AreFiles (map.insert c.self.inside.table (key_of c.args.place.now) e)) (sym c.in_ok-entry-in-None.ensures) made in
    subst (λ (m : Files). AreFiles (map.insert m (key_of c.args.place.now) c.in_ok-entry-in-None.entry)) c.self.view_is files

pub with-requires-clause-root : goal.with-requires-clause-root
with-requires-clause-root c =
    let name = c.in_ok-last_name-in-None.field-0 in
    let free : make_dir_fault c.args.limits c.self.inside.table (key_of c.args.place.now) name ≡ None =
    ap (λ (k : List (List ℕ)). make_dir_fault c.args.limits c.self.inside.table (key_of k) name) (sym c.names.ensures) ∙ sym (c.make_dir_refusal.ensures name) ∙ c.in-None.is in
    made-inside c.args.limits c.self.inside.table (key_of c.args.place.now) name c.self.invariant.tree free
