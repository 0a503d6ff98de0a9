use Rattle.std.proofs.Common.{rules, tests}
use Rattle.std.proofs.lemmas.Iterator.Search.{all_from_yields_List}
use Rattle.std.proofs.lemmas.Iterator.Splits.{YieldsList-from_slice_split}
use Rattle.ados_names.specs.Names.{is_slash}
use Rattle.ados_names.specs.Path.{is_path_piece}
use Rattle.ados_names.proofs.pieces.are_pieces.Goals as goal

pub returns : goal.returns
returns c =
    all_from_yields_List is_path_piece _ _ _ c.all.ensures.ran
    (YieldsList-from_slice_split _ is_slash c.args.text.now c.split.ensures.rest c.split.ensures.done c.split.ensures.closure (λ x b q k. search (rules, tests)))
    (λ x b q k. search (rules, tests))
