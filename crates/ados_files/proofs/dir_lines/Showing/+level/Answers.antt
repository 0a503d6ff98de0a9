use Rattle.std.proofs.Common.{◌≡◌, ◌++◌, OnOk, subst, arith}
use Rattle.std.proofs.lemmas.Grind.{common_steps}
use Rattle.ados_text.specs.Text.{Bytes}
use Rattle.ados_files.specs.Dir.{file_text, level_text}
use Rattle.ados_objects.specs.Lines.{keeps, entry_lines}
use Rattle.ados_files.proofs.LevelLemmas.{level_further}
use Rattle.ados_files.proofs.dir_lines.Showing.+level.Goals as goal

pub push_level-returns : goal.push_level-returns
push_level-returns t c =
    let choice = c.args.self.now.choice in
    let files = c.args.self.now.ram.now in
    let blanks = c.args.self.now.blanks.now in
    let further = level_further c.args.levels choice files blanks c.args.places.now (omega (arith, c.if-levels-eq0.false)) in
    let all : c.loop-place.output.items ++ entry_lines (file_text (keeps choice.files choice.dirs) blanks) files c.args.places.now
    ≡ c.args.output.now.items ++ level_text c.args.levels choice files blanks c.args.places.now = rw further (grind (arith, common_steps)) in
    subst (λ (text : Bytes). OnOk c.push_files.result (c.push_files.new.output.items ≡ text)) all c.push_files.ensures
