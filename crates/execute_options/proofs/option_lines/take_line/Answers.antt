use Rattle.std.proofs.Common.{◌≡◌, Some, false, rules, refl}
use Rattle.std.proofs.lemmas.Bool.{both_ways}
use Rattle.std.proofs.lemmas.Str.{IsUtf8-string_bytes, is_utf8-from_IsUtf8}
use Rattle.execute_options.specs.OptionLines.{option_of, words_of_line}
use Rattle.execute_options.proofs.OptionLineLemmas.{not_utf8, one_bad, one_good}
use Rattle.execute_options.proofs.option_lines.take_line.Goals as goal

pub returns-in_default-from_utf8-clause-good : goal.returns-in_default-from_utf8-clause-good
returns-in_default-from_utf8-clause-good c =
    let says : option_of (words_of_line c.args.line.now) ≡ Some c.in-Some.word.items = search rules in
    one_bad c.args.number (option_of (words_of_line c.args.line.now)) c.in-Some.word.items says
    (not_utf8 c.in-Some.word.items (λ u. both_ways false refl (c.in_default-from_utf8.ensures.succeeds u)))

pub returns-clause-good : goal.returns-clause-good
returns-clause-good c =
    let says : option_of (words_of_line c.args.line.now) ≡ Some c.in-Ok.word.bytes.items = search rules in
    one_good c.args.number (option_of (words_of_line c.args.line.now)) c.in-Ok.word.bytes.items says
    (is_utf8-from_IsUtf8 c.in-Ok.word.bytes.items (IsUtf8-string_bytes c.in-Ok.word))
