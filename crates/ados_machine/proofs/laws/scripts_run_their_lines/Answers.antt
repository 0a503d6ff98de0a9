use Rattle.ados_machine.proofs.CalledLemmas.{scripts-begin, called-scripts-begin, frames-go-on, jumps-lead}
use Rattle.ados_machine.proofs.LinesStay.{frames-keep}
use Rattle.ados_machine.proofs.laws.scripts_run_their_lines.Goals as goal

pub returns : goal.returns
returns c = record { begin = scripts-begin; called = called-scripts-begin; next = frames-go-on; jumps = jumps-lead; kept = frames-keep }
