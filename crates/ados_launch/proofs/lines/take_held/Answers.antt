use Rattle.std.proofs.Common.{◌≡◌, ◌<◌, ◌++◌, Some, length, arith, ap, sym, ◌∙◌, take, position, length-take}
use Rattle.ados_text.specs.Lines.{is_newline}
use Rattle.ados_launch.proofs.HeldLines.{taken_held}
use Rattle.ados_launch.proofs.lines.take_held.Goals as goal

pub returns-clause-taken : goal.returns-clause-taken
returns-clause-taken c t left bytes known =
    let held = c.args.held.now in
    let length_is = c.in-Some.length in
    let at : position is_newline (take 513 held) ≡ Some length_is = sym c.short_line_length.ensures.value ∙ c.in-Some.is in
    let within : length_is < length (take 513 held) = omega (arith, length-take 513 held, c.in-Some.ensures.within, c.in-Some.ensures.short) in
    let kept : c.extend_from_slice.new.self.items ≡ take length_is held =
    c.in_ok-extend_from_slice.ensures.items ∙ (ap (λ xs. xs ++ take length_is c.bytes.result.now) c.requires ∙ ap (take length_is) c.bytes.ensures) in
    taken_held held c.extend_from_slice.new.self.items c.skip.new.self 513 length_is at within (omega arith) kept c.skip.ensures.rest left bytes known
