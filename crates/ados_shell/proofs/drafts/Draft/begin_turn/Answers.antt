use Rattle.std.proofs.Common.{refl}
use Rattle.ados_shell.proofs.drafts.Draft.begin_turn.Goals as goal

pub returns : goal.returns
returns c = record {
  shell_is = c.begin_turn.ensures.unchanged;
  flagged_is = c.begin_turn.ensures.flag;
  shared_is = refl;
  renamed_is = refl;
  begun_is = refl;
  printed_is = c.clear.ensures.items;
  reports_are = c.clear-2.ensures.items;
  used_are = c.clear-3.ensures.items;
  breaking_is = refl;
}
