use Rattle.std.proofs.Common.{◌≡◌, ◌∙◌, ◌+◌, ◌<◌, length, take, drop, ap, rules, arith}
use Rattle.std.proofs.lemmas.List.{length-drop}
use Rattle.ados_text.specs.Text.{Bytes}
use Rattle.ados_files.specs.Hits.{hit_lines, hits_of, numbered_lines, with_hits}
use Rattle.ados_files.specs.SortOrder.{line_len, plain_lines}
use Rattle.ados_files.proofs.HitLemmas.{first_line_and_more}
use Rattle.ados_files.proofs.hits.search_lines.Goals as goal

pub loop-rest-preserved : goal.loop-rest-preserved
loop-rest-preserved c =
    let rest : Bytes = c.loop-rest.rest.now in
    let numbered = c.args.searching.now.numbered in
    let wanted = c.args.searching.now.wanted in
    let number = c.loop-rest.number in
    let some : 0 < length rest = search rules in
    let cut : c.without-rest.result.now ≡ drop (line_len rest + 1) rest = search rules in
    let line : c.at_most-line.result.now ≡ take (line_len rest) rest = search rules in
    let left = ap length cut ∙ length-drop (line_len rest + 1) rest in (
      ap (λ (t : Bytes). with_hits numbered (hits_of c.search_line.new.hits) (hit_lines wanted (numbered_lines (number + 1) (plain_lines t)))) cut
          ∙ (first_line_and_more numbered wanted (hits_of c.loop-rest.hits) (hits_of c.search_line.new.hits) number rest c.at_most-line.result.now some line c.in_ok-search_line.ensures
          ∙ c.loop-rest.invariant.0),
      omega (arith, some, left, c.loop-rest.invariant.1),
    )
