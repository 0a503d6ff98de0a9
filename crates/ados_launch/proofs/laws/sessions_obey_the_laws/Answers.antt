use Rattle.ados_launch.specs.Taken.{taken_events, taken_outs}
use Rattle.ados_launch.proofs.laws.sessions_obey_the_laws.Goals as goal

pub returns : goal.returns
returns c = record {
  limits = λ w left breaks calls is_full listed taken last s sane. c.scripts_end_where_the_rule_says.ensures w (taken_events taken) (taken_outs taken) last s.run sane;
  reports = λ w left breaks calls is_full listed taken last s. c.each_end_is_reported_once.ensures w (taken_events taken) (taken_outs taken) last s.run;
  frames = λ w left breaks calls is_full listed taken last s sane. c.each_frame_ends_once.ensures w (taken_events taken) (taken_outs taken) last s.run sane;
}
