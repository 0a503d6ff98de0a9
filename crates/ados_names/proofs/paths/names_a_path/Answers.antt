use Rattle.std.proofs.Common.{◌∙◌, ◌+◌, ◌&&◌, Some, None, List, ℕ, drop, sym, ap, arith}
use Rattle.std.specs.List.{list_all, slice_split}
use Rattle.ados_names.specs.Names.{is_slash}
use Rattle.ados_names.specs.Path.{is_path_piece, is_step, steps_of}
use Rattle.ados_names.proofs.PieceLemmas.{steps-pieces, left}
use Rattle.ados_names.proofs.PathLemmas.{named}
use Rattle.ados_names.proofs.paths.names_a_path.Goals as goal

pub returns-in-None : goal.returns-in-None
returns-in-None c =
    let text = c.args.text.now in
    named text None c.are_pieces.result (omega arith) c.in-None.ensures.place (c.are_pieces.ensures ∙ sym (steps-pieces (slice_split is_slash text)))

pub returns-then-is_path_piece : goal.returns-then-is_path_piece
returns-then-is_path_piece c =
    let text = c.args.text.now in
    let place = c.in-Some.place in
    let rest = drop (place + 1) text in
    let pieces = c.are_pieces-then-is_path_piece.ensures
    ∙ ap (λ (t : List ℕ). list_all is_path_piece (slice_split is_slash t)) (left (place + 1) text)
    ∙ sym (steps-pieces (slice_split is_slash rest)) in
    named text (Some place) c.are_pieces-then-is_path_piece.result (omega arith) c.in-Some.ensures.place
    (pieces ∙ ap (λ b. b && list_all is_step (steps_of (slice_split is_slash rest))) c.if-is_path_piece.ensures)
