use Rattle.ados_vars.proofs.LocalsLemmas.{answer-seen, setting-seen, unsetting-seen, codes-begin, codes-stay}
use Rattle.ados_vars.proofs.laws.variables_show_each_answer.Goals as goal

pub returns : goal.returns
returns c = record { answer = answer-seen; set = setting-seen; unset = unsetting-seen; begin = codes-begin; places = codes-stay }
