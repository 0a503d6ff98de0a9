use Rattle.std.proofs.Common.{◌≡◌, ◌∙◌, ◌+◌, ap, subst, sym, refl}
use Rattle.ados_check.specs.Errors.{AreSo}
use Rattle.ados_check.specs.Signs.{file_line, is_dotted, sign_of}
use Rattle.ados_check.specs.LeftOut.{is_told}
use Rattle.ados_check.proofs.ErrorLemmas.{one_so, sign_so}
use Rattle.ados_check.proofs.LeftOutLemmas.{none_told, sign_other, told_one, told_other}
use Rattle.ados_check.proofs.SignLemmas.{ToldUpTo, none_more, one_more}
use Rattle.ados_check.proofs.lines.signs_found.Goals as goal
use Rattle.ados_check.proofs.lines.signs_found.Goals.{in-None, in-Some+in_ok-push_problem-in-Some}

pub loop-place-preserved : goal.loop-place-preserved
loop-place-preserved c =
    let place = c.loop-place.place in
    let bytes = c.args.bytes.now in
    let line : c.line_at-line.result.now ≡ file_line bytes place = rw (c.line_at-line.ensures, c.deref-in-loop-place.ensures.value, c.in_ok-in_file.ensures) refl in
    let sign : sign_of (is_dotted bytes) (file_line bytes place) ≡ c.sign_in.result =
    sym (c.sign_in.ensures ∙ ap (λ d. sign_of d c.line_at-line.result.now) c.is_dotted-is_dotted.ensures ∙ ap (sign_of (is_dotted bytes)) line) in
    elim c.match-sign_in.branch [
      | in-None w ↦ (
        subst (λ f. ToldUpTo (place + 1) bytes f.items) (sym w.found-is)
            (none_more place bytes c.loop-place.found.items c.loop-place.invariant.0 (sign ∙ w.in-None.is)),
        λ world script. subst (λ f. AreSo world script f.items) (sym w.found-is) (c.loop-place.invariant.1 world script),
        λ number. ap (λ f. is_told number f.items) w.found-is ∙ c.loop-place.invariant.2 number,
      )
      | in-Some+in_ok-push_problem-in-Some w ↦
          let added = ap (λ f. f.items) w.found-is ∙ w.in_ok-push_problem-in-Some.ensures in
          let speaks = w.sign_problem-problem.ensures.told in (
            subst (ToldUpTo (place + 1) bytes) (sym added)
                (one_more place w.in-Some.byte bytes c.loop-place.found.items w.sign_problem-problem.result c.loop-place.invariant.0 (sign ∙ w.in-Some.is) speaks),
            λ world script. subst (AreSo world script) (sym added)
                (one_so world script c.loop-place.found.items (place + 1) w.sign_problem-problem.result (c.loop-place.invariant.1 world script)
                (sign_so world script (place + 1) w.in-Some.byte w.sign_problem-problem.result speaks)),
            none_told _ _ c.loop-place.invariant.2
                (told_other _ _ (place + 1) w.sign_problem-problem.result (sign_other _ w.in-Some.byte speaks) (told_one _ _ (place + 1) w.sign_problem-problem.result added)),
          )
    ]
