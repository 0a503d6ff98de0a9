use Rattle.std.proofs.Common.{◌≡◌, rules}
use Rattle.ados_text.specs.Text.{is_same}
use Rattle.ados_world.proofs.shells.is_entry.Goals as goal

pub returns-in-Some : goal.returns-in-Some
returns-in-Some c =
    let same : c.eq_ignore_ascii_case.result ≡ is_same c.in-Some.entry.now c.args.name.now = search rules in
    rw c.in-Some.is same
