use Rattle.std.proofs.Common.{◌≡◌, ℕ, List, sym, ap, ◌∙◌, subst}
use Rattle.ados_ram.specs.Place.{key_of, last_name}
use Rattle.ados_ram.specs.Files.{AreFiles}
use Rattle.ados_ram.specs.FileOperations.{rename_of}
use Rattle.ados_ram.proofs.RenamedFiles.{renamed_files, renamed-within}
use Rattle.ados_ram.proofs.InsideLemmas.{free-rename, may_move}
use Rattle.ados_ram.proofs.NamedLemmas.{rename-named}
use Rattle.ados_ram.specs.Tree.{MayMove}
use Rattle.ados_ram.proofs.files.Ram.rename.Goals as goal

pub invariant_of-result : goal.invariant_of-result
invariant_of-result c =
    let m = c.self.inside.table in
    let free = free-rename c.args.busy.now m c.args.from.now c.args.to.now c.names.ensures c.names-2.ensures c.rename_refusal.ensures c.in-None.is in
    let moved : c.in_ok-moved-in-None.field-0 ≡ rename_of m (key_of c.args.from.now) (key_of c.args.to.now) (last_name c.args.to.now) =
    c.in_ok-moved-in-None.ensures ∙ ap (λ (k : List (List ℕ)). rename_of m (key_of k) (key_of c.args.to.now) (last_name c.args.to.now)) c.names-in-None.ensures in
    let files : AreFiles (rename_of m (key_of c.args.from.now) (key_of c.args.to.now) (last_name c.args.to.now)) = record {
      tree = renamed_files c.args.busy.now (key_of c.args.from.now) (key_of c.args.to.now) (last_name c.args.to.now) c.self.invariant.tree free;
      within = renamed-within c.args.busy.now (key_of c.args.from.now) (key_of c.args.to.now) (last_name c.args.to.now) c.self.invariant.tree c.self.invariant.within free;
      named = rename-named c.args.busy.now m c.args.from.now c.args.to.now c.self.invariant.tree free c.self.invariant.named;
    } in
    subst AreFiles (sym moved) files

pub moved-requires : goal.moved-requires
moved-requires c =
    let m = c.self.inside.table in
    let free = free-rename c.args.busy.now m c.args.from.now c.args.to.now c.names.ensures c.names-2.ensures c.rename_refusal.ensures c.in-None.is in
    subst (λ (k : List (List ℕ)). MayMove (key_of k) (key_of c.args.to.now) m) (sym c.names-in-None.ensures) (may_move c.args.busy.now m (key_of c.args.from.now) (key_of c.args.to.now) c.self.invariant.tree free)
