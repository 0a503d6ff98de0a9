use Rattle.std.proofs.Common.{◌∙◌, ◌++◌, ◌∷◌, [], ap, sym, subst, List, ℕ, length, length-append, arith}
use Rattle.std.specs.List.{concat}
use Rattle.ados_ram.specs.Cut.{AllOf, IsCut, piece_bytes}
use Rattle.ados_ram.proofs.ConcatLemmas.{pushed}
use Rattle.ados_ram.proofs.CutLemmas.{cut-push, all-push}
use Rattle.ados_ram.proofs.file_drafts.Draft.push_piece.Goals as goal

pub returns-clause-bytes : goal.returns-clause-bytes
returns-clause-bytes c =
    let s = c.make_room.new.self in
    pushed (concat s.blocks.items) s.pieces.items c.push.new.self.items c.args.piece c.in_ok-push.ensures.items ∙ ap (λ (t : List ℕ). t ++ c.args.piece) c.in_ok-make_room.ensures.bytes

pub returns-clause-cut : goal.returns-clause-cut
returns-clause-cut c =
    let s = c.make_room.new.self in
    record {
      blocks_full = c.in_ok-make_room.ensures.blocks;
      cut = subst (IsCut piece_bytes) (sym c.in_ok-push.ensures.items) (cut-push piece_bytes s.pieces.items c.args.piece c.in_ok-make_room.ensures.pieces c.requires.some c.requires.most);
      few = omega (arith, ap length c.in_ok-push.ensures.items, length-append s.pieces.items (c.args.piece ∷ []), c.in_ok-make_room.ensures.few);
    }

pub returns-clause-full : goal.returns-clause-full
returns-clause-full c e = subst (AllOf piece_bytes) (sym c.in_ok-push.ensures.items) (all-push piece_bytes c.make_room.new.self.pieces.items c.args.piece c.in_ok-make_room.ensures.pieces e)
