use Rattle.std.proofs.Common.{◌≡◌, ℕ, List, Some, sym, ap, ◌∙◌, refl, subst}
use Rattle.std.specs.FinMap as map
use Rattle.ados_ram.specs.declared.entries.Entry.{Entry}
use Rattle.ados_ram.specs.Place.{key_of}
use Rattle.ados_ram.specs.Entry.{with_comment}
use Rattle.ados_ram.specs.Files.{AreFiles, Files}
use Rattle.ados_ram.proofs.FilesLemmas.{changed_files}
use Rattle.ados_ram.proofs.WithinLemmas.{changed-within}
use Rattle.ados_ram.proofs.NamedLemmas.{change-named}
use Rattle.ados_ram.proofs.files.Ram.comment.Goals as goal

pub with-requires-clause-files : goal.with-requires-clause-files
with-requires-clause-files c =
    let key = key_of c.args.place.now in
    let found : map.get c.self.inside.table key ≡ Some c.in-Ok.field-0.now = ap (λ (k : List (List ℕ)). map.get c.self.inside.table (key_of k)) (sym c.names.ensures) ∙ c.in-Ok.ensures.ok in
    let changed : AreFiles (map.insert c.self.inside.table key (with_comment c.args.comment.now c.in-Ok.field-0.now)) = record {
      tree = changed_files key (with_comment c.args.comment.now) c.in-Ok.field-0.now c.self.invariant.tree found refl;
      within = changed-within key (with_comment c.args.comment.now) c.in-Ok.field-0.now c.self.invariant.within found refl;
      named = change-named c.self.inside.table key (with_comment c.args.comment.now) c.in-Ok.field-0.now (λ e. refl) found c.self.invariant.named;
    } in
    let files : AreFiles (map.insert c.self.inside.table key c.in_ok-with_comment-in-Ok-2.field-0) =
    subst (λ (e : Entry). AreFiles (map.insert c.self.inside.table key e)) (sym c.in_ok-with_comment-in-Ok-2.ensures) changed in
    subst (λ (m : Files). AreFiles (map.insert m key c.in_ok-with_comment-in-Ok-2.field-0)) c.self.view_is files
