use Rattle.std.proofs.Common.{rules, ◌≡◌, length, ◌+◌}
use Rattle.std.proofs.lemmas.List.{length_push}
use Rattle.ados_flow.proofs.GatheringLemmas.{went_on, took_none, none_left}
use Rattle.ados_flow.proofs.gathering.gather.Goals.{in-None-1, in-Some+else-len, in-Some+then-len+else-is_some}
use Rattle.ados_flow.proofs.gathering.gather.Goals as goal

pub loop-line-preserved : goal.loop-line-preserved
loop-line-preserved c =
    let more : length c.push_front.new.commands ≡ length c.loop-line.commands + 1 = search (rules, length_push) in
    (search (rules, went_on), search (rules, more), search (rules, more))

pub returns-clause-value : goal.returns-clause-value
returns-clause-value c = elim c.match-split_first.branch [
  | in-None-1 w ↦ search (rules, none_left)
  | in-Some+else-len w ↦ search (rules, took_none)
  | in-Some+then-len+else-is_some w ↦ search (rules, took_none)
]
