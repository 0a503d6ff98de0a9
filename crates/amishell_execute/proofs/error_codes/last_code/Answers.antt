use Rattle.std.proofs.Common.{rules, tests}
use Rattle.std.specs.Str.{bytes_eq}
use Rattle.std.proofs.lemmas.Iterator.Adapters.{YieldsList-from_rev_slice}
use Rattle.std.proofs.lemmas.Iterator.Search.{find_from_yields_List}
use Rattle.amishell_execute.proofs.error_codes.last_code.Goals as goal

pub returns : goal.returns
returns c =
    find_from_yields_List (λ code. bytes_eq code.program c.args.program.now) _ _ c.find.result c.find.ensures.ran
    (YieldsList-from_rev_slice c.args.codes.now (search rules)) (λ x b q k. search (rules, tests))
