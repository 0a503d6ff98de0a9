use Rattle.std.proofs.Common.{◌≡◌, ◌∙◌, ◌+◌, arith, length, ap}
use Rattle.ados_names.specs.Lengths.{pieces_len}
use Rattle.ados_names.specs.Path.{PathParts, text_of, path_with_name}
use Rattle.ados_names.proofs.PieceLemmas.{name-parts}
use Rattle.ados_names.proofs.PathLemmas.{path-lengths, longer-length}
use Rattle.ados_names.proofs.paths.Path.joined_len.Goals as goal

pub pieces_len-requires : goal.pieces_len-requires
pieces_len-requires c =
    let lengths = path-lengths _ c.self.invariant in
    let same : pieces_len c.deref.result.now ≡ pieces_len c.self.inside.steps.items = ap pieces_len c.deref.ensures in
    omega (arith, lengths)

pub overflow_add-result : goal.overflow_add-result
overflow_add-result c =
    let lengths = path-lengths _ c.self.invariant in
    let same : c.pieces_len.result ≡ pieces_len c.self.inside.steps.items = c.pieces_len.ensures ∙ ap pieces_len c.deref.ensures in
    omega (arith, lengths)

pub overflow_add-result-2 : goal.overflow_add-result-2
overflow_add-result-2 c =
    let lengths = path-lengths _ c.self.invariant in
    let same : c.pieces_len.result ≡ pieces_len c.self.inside.steps.items = c.pieces_len.ensures ∙ ap pieces_len c.deref.ensures in
    let name : length c.as_bytes.result.now ≡ length c.args.name.now = ap length c.as_bytes.ensures.value in
    omega (arith, lengths, (name-parts c.args.name.now c.requires).short)

pub returns : goal.returns
returns c =
    let path : PathParts = record { device = c.self.inside.device; steps = c.self.inside.steps.items } in
    let pieces : c.pieces_len.result ≡ pieces_len path.steps = c.pieces_len.ensures ∙ ap pieces_len c.deref.ensures in
    let name : length c.as_bytes.result.now ≡ length c.args.name.now = ap length c.as_bytes.ensures.value in
    let whole : c.device_len.result + c.pieces_len.result + length c.as_bytes.result.now ≡ length (text_of (path_with_name path c.args.name.now)) = omega (arith, longer-length path c.args.name.now) in
    whole ∙ ap (λ (p : PathParts). length (text_of (path_with_name p c.args.name.now))) c.self.view_is
