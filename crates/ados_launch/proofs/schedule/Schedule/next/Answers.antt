use Rattle.std.proofs.Common.{rules, ◌+◌, ◌≡◌, Some}
use Rattle.ados_launch.specs.Rounds.{due_place}
use Rattle.ados_launch.proofs.Coming.{first_runs}
use Rattle.ados_launch.proofs.Places.{due_below, due_comes}
use Rattle.ados_launch.proofs.schedule.Schedule.next.Goals as goal

pub returns-in-Some-clause-may_come : goal.returns-in-Some-clause-may_come
returns-in-Some-clause-may_come c = first_runs (c.args.self.now.taken + 1) c.args.world.now c.args.self.now.breaks c.in-Some.at (search rules)

pub returns-in-None-clause-may_come : goal.returns-in-None-clause-may_come
returns-in-None-clause-may_come c =
    let found : Some c.in_ok-found.found.place ≡ due_place c.args.self.now.round c.args.world.now = search rules in
    (due_below c.args.self.now.round c.in_ok-found.found.place c.args.world.now c.requires.round found, due_comes c.args.self.now.round c.in_ok-found.found.place c.args.world.now found)
