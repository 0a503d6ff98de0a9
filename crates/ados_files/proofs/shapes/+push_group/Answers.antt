use Rattle.std.proofs.Common.{◌≡◌, ◌∙◌, ◌++◌, ◌-◌, List, ℕ, ap, append_assoc, arith}
use Rattle.std.proofs.lemmas.Grind.{common_steps}
use Rattle.std.specs.List.{flat_map}
use Rattle.ados_objects.specs.Lines.{entry_lines}
use Rattle.ados_files.specs.Shapes.{line_by_shape, directory_lines, group_lines}
use Rattle.ados_files.proofs.ShapeLemmas.{one_deeper}
use Rattle.ados_files.proofs.shapes.+push_group.Goals as goal

pub returns : goal.returns
returns t c =
    let shape = c.args.shown.now.shape.now in
    let files = c.args.ram.now in
    let path = c.args.shown.now.path.now in
    let lines = entry_lines (line_by_shape shape path) files c.args.places.now in
    let inside = flat_map (directory_lines (group_lines shape files (c.args.depth - 1)) files path) c.args.places.now in
    let all : c.loop-place.output.items ≡ c.push_lines.new.output.items ++ inside = grind (arith, common_steps) in
    all ∙ ap (λ (out : List ℕ). out ++ inside) c.in_ok-push_lines.ensures ∙ append_assoc c.args.output.now.items lines inside
    ∙ ap (λ (more : List ℕ). c.args.output.now.items ++ more) (one_deeper shape files c.args.depth (c.args.depth - 1) path c.args.places.now (omega (arith, c.if-depth-eq0.false)))
