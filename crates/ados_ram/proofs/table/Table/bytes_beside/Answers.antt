use Rattle.ados_ram.specs.declared.entries.Entry.{Entry}
use Rattle.std.proofs.Common.{Option, ◌≡◌, ap, ◌∙◌, length, arith}
use Rattle.std.specs.FinMap as map
use Rattle.ados_ram.specs.Place.{key_of}
use Rattle.ados_ram.specs.Files.{entry_bytes, total_of}
use Rattle.ados_ram.proofs.RowsLemmas.{AreRowsOf, total-beside, bytes-within}
use Rattle.ados_ram.proofs.table.Table.bytes_beside.Goals as goal

pub overflow_sub-result : goal.overflow_sub-result
overflow_sub-result c =
    let r : AreRowsOf c.self.inside.root.1 c.args.self.now = record { is = c.self.view_is; sorted = c.self.invariant.sorted } in
    let size : c.entry_len.result ≡ length (entry_bytes (map.get c.args.self.now (key_of c.args.names.now))) = c.entry_len.ensures ∙ ap (λ (o : Option Entry). length (entry_bytes o)) c.find.ensures in
    let counted : c.self.inside.total ≡ total_of c.self.inside.root.1 = c.self.invariant.summed in
    omega (arith, bytes-within c.self.inside.root.1 (key_of c.args.names.now) r)

pub returns-clause-total : goal.returns-clause-total
returns-clause-total c new =
    let r : AreRowsOf c.self.inside.root.1 c.args.self.now = record { is = c.self.view_is; sorted = c.self.invariant.sorted } in
    let size : c.entry_len.result ≡ length (entry_bytes (map.get c.args.self.now (key_of c.args.names.now))) = c.entry_len.ensures ∙ ap (λ (o : Option Entry). length (entry_bytes o)) c.find.ensures in
    let counted : c.self.inside.total ≡ total_of c.self.inside.root.1 = c.self.invariant.summed in
    omega (arith, total-beside c.self.inside.root.1 (key_of c.args.names.now) new r)
