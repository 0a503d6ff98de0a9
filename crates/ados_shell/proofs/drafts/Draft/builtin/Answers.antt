use Rattle.std.proofs.Common.{◌≡◌, ◌∙◌, List, Option, Some, None, ap, subst, sym}
use Rattle.ados_text.specs.Text.{Text}
use Rattle.ados_machine.specs.Lines.{asked_completion, command_completion, completion_by_query, prompt_completion}
use Rattle.ados_machine.specs.Prompts.{query_of}
use Rattle.ados_shell.specs.Drafts.{course_of, here_in}
use Rattle.ados_shell.specs.Completions.{HasEnded}
use Rattle.ados_shell.proofs.EndLemmas.{input-ends}
use Rattle.ados_shell.proofs.drafts.Draft.builtin.Goals as goal

pub returns-in-Some : goal.returns-in-Some
returns-in-Some c =
    let scene = c.args.scene.now in
    let mid = c.read_own.new.self in
    let line = c.args.line.now in
    let asks : query_of (course_of scene mid).shared.dialect c.args.builtin line.args ≡ Some c.in-Some.query =
    ap (λ dialect. query_of dialect c.args.builtin line.args) (sym c.dialect-dialect.ensures) ∙ sym c.query_of.ensures ∙ c.in-Some.is in
    let Ended = HasEnded scene mid c.prompt.new.self line.command c.prompt.result in
    let P : Option (List Text) → Type 0 = λ l. Ended (prompt_completion c.args.builtin line c.in-Some.query (here_in scene mid) (course_of scene mid) l) in
    let by = completion_by_query c.args.builtin line (here_in scene mid) c.in_ok-lines.lines (course_of scene mid) in
    input-ends scene c.args.self.now mid c.prompt.new.self line.command (asked_completion c.args.builtin line) c.in_ok-lines.lines line.input c.prompt.result c.as_ref.ensures.value c.in_ok-lines.ensures
    (subst Ended (ap by (sym asks)) (subst P (c.slice_of-input.ensures ∙ c.as_ref-2.ensures.value) c.prompt.ensures))

pub returns : goal.returns
returns c =
    let scene = c.args.scene.now in
    let mid = c.read_own.new.self in
    let line = c.args.line.now in
    let asks : query_of (course_of scene mid).shared.dialect c.args.builtin line.args ≡ None =
    ap (λ dialect. query_of dialect c.args.builtin line.args) (sym c.dialect-dialect.ensures) ∙ sym c.query_of.ensures ∙ c.in-None.is in
    let Ended = HasEnded scene mid c.command.new.self line.command c.command.result in
    let P : Option (List Text) → Type 0 = λ l. Ended (command_completion c.args.builtin line l (here_in scene mid) (course_of scene mid)) in
    let by = completion_by_query c.args.builtin line (here_in scene mid) c.in_ok-lines.lines (course_of scene mid) in
    input-ends scene c.args.self.now mid c.command.new.self line.command (asked_completion c.args.builtin line) c.in_ok-lines.lines line.input c.command.result c.as_ref.ensures.value c.in_ok-lines.ensures
    (subst Ended (ap by (sym asks)) (subst P (c.slice_of-input.ensures ∙ c.as_ref-2.ensures.value) c.command.ensures))
