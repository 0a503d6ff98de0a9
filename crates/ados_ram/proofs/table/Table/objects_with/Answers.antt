use Rattle.std.proofs.Common.{sym, ap, ◌∙◌, arith}
use Rattle.std.specs.Option.{option_copied}
use Rattle.ados_ram.specs.Place.{key_of}
use Rattle.ados_ram.proofs.RowsLemmas.{len-beside_found}
use Rattle.ados_ram.proofs.table.Table.objects_with.Goals as goal

pub returns-in-None : goal.returns-in-None
returns-in-None c new =
    let found = sym c.find.ensures ∙ ap option_copied c.in-None.is in
    omega (arith, len-beside_found c.self.inside.root.1 (key_of c.args.names.now) new (record { is = c.self.view_is; sorted = c.self.invariant.sorted }) found, c.self.invariant.counted)

pub returns-in-Some : goal.returns-in-Some
returns-in-Some c new =
    let found = sym c.find.ensures ∙ ap option_copied c.in-Some.is in
    omega (arith, len-beside_found c.self.inside.root.1 (key_of c.args.names.now) new (record { is = c.self.view_is; sorted = c.self.invariant.sorted }) found, c.self.invariant.counted)
