use Rattle.std.proofs.Common.{rules, ◌≡◌, ◌∙◌, length}
use Rattle.ados_ram.proofs.StartLemmas.{whole}
use Rattle.ados_ram.proofs.file_bytes.FileBytes.is.Goals as goal

pub returns-then-self-bytes : goal.returns-then-self-bytes
returns-then-self-bytes c =
    let size : length c.args.self.now ≡ length c.args.bytes.now = search rules in
    c.starts_with.ensures ∙ whole c.args.self.now c.args.bytes.now size
