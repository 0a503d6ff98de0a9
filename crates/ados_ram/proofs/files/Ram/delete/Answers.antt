use Rattle.std.proofs.Common.{◌≡◌, ℕ, List, None, IsSome, false, sym, ap, ◌∙◌, subst}
use Rattle.std.specs.FinMap as map
use Rattle.ados_ram.specs.Place.{key_of, is_root}
use Rattle.ados_ram.specs.Files.{AreFiles}
use Rattle.ados_ram.specs.FileOperations.{has_descendants, delete_fault}
use Rattle.ados_ram.specs.Tree.{parent_key}
use Rattle.ados_ram.proofs.FilesLemmas.{deleted_files}
use Rattle.ados_ram.proofs.WithinLemmas.{removed-within}
use Rattle.ados_ram.proofs.InsideLemmas.{may_go}
use Rattle.ados_ram.proofs.NamedLemmas.{delete-named}
use Rattle.ados_ram.proofs.files.Ram.delete.Goals as goal

pub invariant_of-result : goal.invariant_of-result
invariant_of-result c =
    let m = c.self.inside.table in
    let free : delete_fault c.args.busy.now c.args.force m (key_of c.args.place.now) ≡ None = ap (λ (k : List (List ℕ)). delete_fault c.args.busy.now c.args.force m (key_of k)) (sym c.names.ensures) ∙ sym c.delete_refusal.ensures ∙ c.in-None.is in
    let left : c.in_ok-without-in-None.field-0 ≡ map.remove m (key_of c.args.place.now) = c.in_ok-without-in-None.ensures ∙ ap (λ (k : List (List ℕ)). map.remove m (key_of k)) c.names-in-None.ensures in
    let files : AreFiles (map.remove m (key_of c.args.place.now)) = record {
      tree = deleted_files c.args.busy.now c.args.force (key_of c.args.place.now) c.self.invariant.tree free;
      within = removed-within m (key_of c.args.place.now) c.self.invariant.within;
      named = delete-named m (key_of c.args.place.now) c.self.invariant.named;
    } in
    subst AreFiles (sym left) files

pub without-requires-clause-inside : goal.without-requires-clause-inside
without-requires-clause-inside c =
    let m = c.self.inside.table in
    let free : delete_fault c.args.busy.now c.args.force m (key_of c.args.place.now) ≡ None = ap (λ (k : List (List ℕ)). delete_fault c.args.busy.now c.args.force m (key_of k)) (sym c.names.ensures) ∙ sym c.delete_refusal.ensures ∙ c.in-None.is in
    subst (λ (k : List (List ℕ)). IsSome (map.get m (parent_key (key_of k)))) (sym c.names-in-None.ensures) (may_go c.args.busy.now c.args.force m (key_of c.args.place.now) c.self.invariant.tree free).inside

pub without-requires-clause-root : goal.without-requires-clause-root
without-requires-clause-root c =
    let m = c.self.inside.table in
    let free : delete_fault c.args.busy.now c.args.force m (key_of c.args.place.now) ≡ None = ap (λ (k : List (List ℕ)). delete_fault c.args.busy.now c.args.force m (key_of k)) (sym c.names.ensures) ∙ sym c.delete_refusal.ensures ∙ c.in-None.is in
    subst (λ (k : List (List ℕ)). is_root (key_of k) ≡ false) (sym c.names-in-None.ensures) (may_go c.args.busy.now c.args.force m (key_of c.args.place.now) c.self.invariant.tree free).root

pub without-requires-clause-empty : goal.without-requires-clause-empty
without-requires-clause-empty c =
    let m = c.self.inside.table in
    let free : delete_fault c.args.busy.now c.args.force m (key_of c.args.place.now) ≡ None = ap (λ (k : List (List ℕ)). delete_fault c.args.busy.now c.args.force m (key_of k)) (sym c.names.ensures) ∙ sym c.delete_refusal.ensures ∙ c.in-None.is in
    subst (λ (k : List (List ℕ)). has_descendants (key_of k) (map.entries m) ≡ false) (sym c.names-in-None.ensures) (may_go c.args.busy.now c.args.force m (key_of c.args.place.now) c.self.invariant.tree free).empty
