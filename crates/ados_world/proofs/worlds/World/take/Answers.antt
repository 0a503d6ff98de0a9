use Rattle.std.proofs.Common.{rules, subst}
use Rattle.ados_machine.specs.FrameEnds.{IsSane}
use Rattle.ados_world.proofs.TakenLemmas.{taken-by}
use Rattle.ados_world.proofs.worlds.World.take.Goals as goal

pub invariant_of-self-2 : goal.invariant_of-self-2
invariant_of-self-2 c =
    let w = c.args.self.now in
    let draft = c.args.draft.now in
    subst IsSane
    (taken-by w c.args.number draft c.change_shells.new.shells c.break_other.new.shells c.end_done.new.shells c.end_done.new.ended
    c.self.inside.queue.items c.self.inside.input_ended c.renew.new.shared
    (search rules) (search rules) (search rules) (search rules) (search rules) (search rules) (search rules))
    c.requires.sane
