use Rattle.std.proofs.Common.{rules, ◌≡◌, ◌∙◌, ◌++◌, ◌∷◌, [], ◌+◌, ◌<◌, ◌≤◌, ap, sym, subst, length, length-append, arith}
use Rattle.std.specs.List.{concat}
use Rattle.ados_ram.specs.Cut.{AllOf, IsCut, piece_bytes}
use Rattle.ados_ram.proofs.ConcatLemmas.{filled}
use Rattle.ados_ram.proofs.CutLemmas.{cut-push, all-push, cut-pop}
use Rattle.ados_ram.proofs.file_drafts.Draft.fill.Goals as goal

pub returns-clause-bytes : goal.returns-clause-bytes
returns-clause-bytes c =
    let old = c.args.self.now in
    let popped : old.pieces.items ≡ c.pop.new.self.items ++ (c.in-Some.last ∷ []) = search rules in
    let whole : c.in_ok-piece.piece ≡ c.in-Some.last ++ c.split_at.result.0.now = search rules in
    let parts : c.split_at.result.0.now ++ c.split_at.result.1.now ≡ c.args.more.now = search rules in
    filled (concat old.blocks.items) old.pieces.items c.pop.new.self.items c.push.new.self.items c.in-Some.last c.in_ok-piece.piece c.split_at.result.0.now c.split_at.result.1.now c.args.more.now popped c.in_ok-push.ensures.items whole parts

pub returns-clause-cut : goal.returns-clause-cut
returns-clause-cut c =
    let old = c.args.self.now in
    let popped : old.pieces.items ≡ c.pop.new.self.items ++ (c.in-Some.last ∷ []) = search rules in
    let whole : c.in_ok-piece.piece ≡ c.in-Some.last ++ c.split_at.result.0.now = search rules in
    let l = cut-pop piece_bytes c.pop.new.self.items c.in-Some.last (subst (IsCut piece_bytes) popped c.requires.cut) in
    let size : length c.in_ok-piece.piece ≡ length c.in-Some.last + length c.split_at.result.0.now = ap length whole ∙ length-append c.in-Some.last c.split_at.result.0.now in
    let some : 0 < length c.in_ok-piece.piece = omega (arith, size, l.some) in
    let part : length c.split_at.result.0.now + length c.in-Some.last ≤ 4096 = omega (arith, l.some, l.most, c.split_at.ensures.front_len, c.min.ensures, c.saturating_sub-room.ensures, ap length c.as_bytes.ensures) in
    let most : length c.in_ok-piece.piece ≤ 4096 = omega (arith, size, part) in
    record {
      blocks_full = c.requires.blocks_full;
      cut = subst (IsCut piece_bytes) (sym c.in_ok-push.ensures.items) (cut-push piece_bytes c.pop.new.self.items c.in_ok-piece.piece l.full some most);
      few = omega (arith, ap length popped, ap length c.in_ok-push.ensures.items, length-append c.pop.new.self.items (c.in-Some.last ∷ []), length-append c.pop.new.self.items (c.in_ok-piece.piece ∷ []), c.requires.few);
    }

pub returns-clause-full : goal.returns-clause-full
returns-clause-full c rest =
    let old = c.args.self.now in
    let popped : old.pieces.items ≡ c.pop.new.self.items ++ (c.in-Some.last ∷ []) = search rules in
    let whole : c.in_ok-piece.piece ≡ c.in-Some.last ++ c.split_at.result.0.now = search rules in
    let l = cut-pop piece_bytes c.pop.new.self.items c.in-Some.last (subst (IsCut piece_bytes) popped c.requires.cut) in
    let size : length c.in_ok-piece.piece ≡ length c.in-Some.last + length c.split_at.result.0.now = ap length whole ∙ length-append c.in-Some.last c.split_at.result.0.now in
    let exact : length c.in_ok-piece.piece ≡ 4096 = omega (arith, rest, size, l.most, c.split_at.ensures.front_len, c.split_at.ensures.back_len, c.min.ensures, c.saturating_sub-room.ensures, ap length c.as_bytes.ensures) in
    subst (AllOf piece_bytes) (sym c.in_ok-push.ensures.items) (all-push piece_bytes c.pop.new.self.items c.in_ok-piece.piece l.full exact)
