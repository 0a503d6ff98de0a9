use Rattle.std.proofs.Common.{[], ◌≡◌, ◌∙◌, ◌+◌, ◌-◌, ◌^◌, ◌<◌, ◌||◌, ap, arith, drop, length, min, refl, rules, subst, sym}
use Rattle.ados_text.specs.Lines.{lines_of}
use Rattle.ados_check.specs.LeftOut.{IsStruck, is_idle_in_line, is_idle_in_lines, struck}
use Rattle.ados_check.proofs.ChangeLemmas.{leaves_less, leaves_none}
use Rattle.ados_check.proofs.StrikeLemmas.{blanked_again, drop_at, drop_past, line_left, struck_again}
use Rattle.ados_check.proofs.left_out.strike.Goals as goal

pub loop-line-preserved : goal.loop-line-preserved
loop-line-preserved c =
    let lines = c.as_slice-line-items.result.now in
    let i = c.loop-line.line-index in
    let from = c.loop-line.from in
    let reader = c.new-reader.result in
    let none : reader.aliases.now ≡ [] = search rules in
    let text : c.as_bytes.result.now ≡ c.line-item.result = c.as_bytes.ensures.value in
    let end : c.saturating_add.result ≡ min (from + length c.line-item.result) (2 ^ 64 - 1) =
    c.saturating_add.ensures ∙ ap (λ bytes. min (from + length bytes) (2 ^ 64 - 1)) c.as_bytes-in-loop-line.ensures.value in (
      blanked_again _ _ _ c.loop-line.invariant.0 c.in_ok-strike_line.ensures.blanked,
      leaves_less struck struck_again (is_idle_in_line reader.commands.now reader.dialect reader.aliases.now from c.as_bytes.result.now)
          (is_idle_in_lines reader.commands.now reader.dialect c.saturating_add-from.result (drop (i + 1) lines))
          (is_idle_in_lines reader.commands.now reader.dialect from (drop i lines))
          (is_idle_in_lines reader.commands.now reader.dialect 0 lines) c.args.script.now c.loop-line.script c.strike_line.new.script
          (λ k within.
          let fits = c.well_formed in
          let short : k < 2 ^ 64 - 1 = omega (arith, within) in
          ap (λ ls. is_idle_in_lines reader.commands.now reader.dialect from ls k) (drop_at lines i c.line-item.result c.loop-line-test.true c.line-item.is)
          ∙ line_left reader.commands.now reader.dialect from c.saturating_add.result c.saturating_add-from.result k c.line-item.result (drop (i + 1) lines)
          end c.saturating_add-from.ensures short
          ∙ ap (λ bytes. is_idle_in_line reader.commands.now reader.dialect [] from bytes k
          || is_idle_in_lines reader.commands.now reader.dialect c.saturating_add-from.result (drop (i + 1) lines) k) (sym text)
          ∙ ap (λ pairs. is_idle_in_line reader.commands.now reader.dialect pairs from c.as_bytes.result.now k
          || is_idle_in_lines reader.commands.now reader.dialect c.saturating_add-from.result (drop (i + 1) lines) k) (sym none))
          c.loop-line.invariant.1 c.in_ok-strike_line.ensures.struck,
    )

pub returns-clause-struck : goal.returns-clause-struck
returns-clause-struck c =
    let lines = c.as_slice-line-items.result.now in
    let reader = c.new-reader.result in
    let old = c.args.script.now in
    let new = c.loop-line.script in
    let are : lines ≡ lines_of old = search rules in
    let past : drop c.loop-line.line-index lines ≡ [] = drop_past lines c.loop-line.line-index (omega (arith, c.loop-line-test.false)) in (
      reader.commands.now,
      c.new-reader.ensures.commands,
      subst (λ d. IsStruck (is_idle_in_lines reader.commands.now d 0 (lines_of old)) old new) c.new-reader.ensures.dialect
          (subst (λ ls. IsStruck (is_idle_in_lines reader.commands.now reader.dialect 0 ls) old new) are
          (leaves_none struck (λ c. refl) (is_idle_in_lines reader.commands.now reader.dialect c.loop-line.from (drop c.loop-line.line-index lines))
          (is_idle_in_lines reader.commands.now reader.dialect 0 lines) old new
          (λ k within. ap (λ ls. is_idle_in_lines reader.commands.now reader.dialect c.loop-line.from ls k) past) c.loop-line.invariant.1)),
    )
