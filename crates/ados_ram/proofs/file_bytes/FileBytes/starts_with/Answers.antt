use Rattle.std.proofs.Common.{rules, ◌∙◌, Some, None}
use Rattle.std.specs.List.{concat}
use Rattle.ados_ram.proofs.StartLemmas.{found, none-left}
use Rattle.ados_ram.proofs.file_bytes.FileBytes.starts_with.Goals as goal

pub returns-in-None : goal.returns-in-None
returns-in-None c = found None (concat c.blocks-2.result.now) c.args.self.now c.args.wanted.now c.blocks-2.ensures.bytes c.in-None.ensures

pub returns-in-Some : goal.returns-in-Some
returns-in-Some c = search rules ∙ none-left c.in-Some.rest.now ∙ found (Some c.in-Some.rest.now) (concat c.blocks-2.result.now) c.args.self.now c.args.wanted.now c.blocks-2.ensures.bytes c.in-Some.ensures
