use Rattle.std.proofs.Common.{rules, ◌≡◌}
use Rattle.ados_shell.proofs.drafts.Draft.begin_answer.Goals as goal

pub returns : goal.returns
returns c =
    let fresh = c.begin_turn.ensures in
    let shell = fresh.shell_is in
    let flag : c.shell.inside.flagged ≡ c.args.shell.now.flagged = search rules in
    record {
      shell_is = record { frames_are = shell.frames_are; parts_are = shell.parts_are; setting_is = shell.setting_is; kept_is = shell.kept_is };
      flagged_is = flag;
      shared_is = fresh.shared_is;
      renamed_is = fresh.renamed_is;
      begun_is = fresh.begun_is;
      printed_is = fresh.printed_is;
      reports_are = fresh.reports_are;
      used_are = fresh.used_are;
      breaking_is = fresh.breaking_is;
    }
