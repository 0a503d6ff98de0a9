use Rattle.std.proofs.Common.{rules, refl, ◌≡◌, ◌∙◌, sym, true, false, None, position}
use Rattle.std.specs.List.{list_any}
use Rattle.ados_items.specs.Items.{bytes_between}
use Rattle.ados_readargs.specs.Meanings.{is_keyword}
use Rattle.ados_readargs.specs.Options.{is_rest}
use Rattle.ados_readargs.proofs.ReadLemmas.{plain-word}
use Rattle.ados_readargs.proofs.pass.plain_word.Goals as goal

pub returns-then-is_no_keyword : goal.returns-then-is_no_keyword
returns-then-is_no_keyword c =
    let options = c.args.options.now in
    let rest : list_any is_rest options ≡ false = sym c.with_rest.ensures ∙ c.if-with_rest.false in
    let none : position (is_keyword (bytes_between c.args.line.now c.in-Word.from c.in-Word.to) true) options ≡ None = search rules in
    plain-word options c.args.line.now c.args.place c.in-Word.from c.in-Word.to rest c.in-Word.ensures.value (c.if-is_run_over.ensures refl) none
