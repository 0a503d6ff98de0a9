use Rattle.std.proofs.Common.{rules, ◌≡◌, Some, None}
use Rattle.ados_launch.specs.Rounds.{due_place}
use Rattle.ados_launch.proofs.Places.{due_below}
use Rattle.ados_launch.proofs.Requests.{place_none}
use Rattle.ados_launch.proofs.schedule.Schedule.place.Goals as goal

pub returns-in_err-found-clause-place : goal.returns-in_err-found-clause-place
returns-in_err-found-clause-place c =
    let none : None ≡ due_place c.args.self.now.round c.args.world.now = search rules in
    place_none c.args.self.now c.args.world.now c.from_residual.result (search rules) none

pub returns-in_default-clause-below : goal.returns-in_default-clause-below
returns-in_default-clause-below c =
    let found : Some c.in_ok-found.found.place ≡ due_place c.args.self.now.round c.args.world.now = search rules in
    due_below c.args.self.now.round c.in_ok-found.found.place c.args.world.now c.requires.round found

pub returns-in_default-2-clause-below : goal.returns-in_default-2-clause-below
returns-in_default-2-clause-below c =
    let found : Some c.in_ok-found.found.place ≡ due_place c.args.self.now.round c.args.world.now = search rules in
    due_below c.args.self.now.round c.in_ok-found.found.place c.args.world.now c.requires.round found
