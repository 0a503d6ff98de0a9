use Rattle.ados_files.proofs.SourceLemmas.{copied-searched}
use Rattle.ados_files.proofs.laws.searched_files_are_those_of_copy.Goals as goal

pub returns : goal.returns
returns c = copied-searched
