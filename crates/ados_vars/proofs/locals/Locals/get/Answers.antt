use Rattle.std.proofs.Common.{rules, ◌≡◌, ◌∙◌, ap, sym, Some, true, false}
use Rattle.std.specs.Fmt.{signed_decimal}
use Rattle.std.specs.Option.{option_copied}
use Rattle.ados_text.specs.Text.{is_same}
use Rattle.ados_vars.specs.Vars.{value_in}
use Rattle.ados_vars.specs.Locals.{code_name, fault_name, shown_pairs}
use Rattle.ados_vars.proofs.LocalsLemmas.{fault-value, code-value, other-value}
use Rattle.ados_vars.proofs.locals.Locals.get.Goals as goal

pub returns-then-is : goal.returns-then-is
returns-then-is c =
    let fault : is_same c.args.name.now fault_name ≡ true = ap (λ t. is_same t fault_name) (sym c.text.ensures) ∙ sym c.is.ensures ∙ c.if-is.true in
    ap Some c.in_ok-of_number.ensures
    ∙ sym (fault-value c.self.inside.vars c.args.code c.args.result2 c.args.name.now fault)
    ∙ ap (λ ps. value_in (shown_pairs ps c.args.code c.args.result2) c.args.name.now) c.self.view_is

pub returns-then-is-2 : goal.returns-then-is-2
returns-then-is-2 c =
    let fault : is_same c.args.name.now fault_name ≡ false = ap (λ t. is_same t fault_name) (sym c.text.ensures) ∙ sym c.is.ensures ∙ c.if-is.false in
    let code : is_same c.args.name.now code_name ≡ true = ap (λ t. is_same t code_name) (sym c.text-2.ensures) ∙ sym c.is-2.ensures ∙ c.if-is-2.true in
    let shown : c.in_ok-of_number-2.field-0 ≡ signed_decimal c.args.code.0 = search rules in
    ap Some shown
    ∙ sym (code-value c.self.inside.vars c.args.code c.args.result2 c.args.name.now fault code)
    ∙ ap (λ ps. value_in (shown_pairs ps c.args.code c.args.result2) c.args.name.now) c.self.view_is

pub returns-in-None : goal.returns-in-None
returns-in-None c =
    let fault : is_same c.args.name.now fault_name ≡ false = ap (λ t. is_same t fault_name) (sym c.text.ensures) ∙ sym c.is.ensures ∙ c.if-is.false in
    let code : is_same c.args.name.now code_name ≡ false = ap (λ t. is_same t code_name) (sym c.text-2.ensures) ∙ sym c.is-2.ensures ∙ c.if-is-2.false in
    sym (ap option_copied c.in-None.is) ∙ c.get.ensures
    ∙ sym (other-value c.self.inside.vars c.args.code c.args.result2 c.args.name.now fault code)
    ∙ ap (λ ps. value_in (shown_pairs ps c.args.code c.args.result2) c.args.name.now) c.self.view_is

pub returns-in_ok-copy-in-Some : goal.returns-in_ok-copy-in-Some
returns-in_ok-copy-in-Some c =
    let fault : is_same c.args.name.now fault_name ≡ false = ap (λ t. is_same t fault_name) (sym c.text.ensures) ∙ sym c.is.ensures ∙ c.if-is.false in
    let code : is_same c.args.name.now code_name ≡ false = ap (λ t. is_same t code_name) (sym c.text-2.ensures) ∙ sym c.is-2.ensures ∙ c.if-is-2.false in
    ap Some c.in_ok-copy-in-Some.ensures ∙ sym (ap option_copied c.in-Some.is) ∙ c.get.ensures
    ∙ sym (other-value c.self.inside.vars c.args.code c.args.result2 c.args.name.now fault code)
    ∙ ap (λ ps. value_in (shown_pairs ps c.args.code c.args.result2) c.args.name.now) c.self.view_is
