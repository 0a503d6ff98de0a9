use Rattle.ados_ram.proofs.ContentsLemmas.{inside-first, name-first}
use Rattle.ados_ram.proofs.ContentsLaws.{children-law, contents-law, files-law}
use Rattle.ados_ram.proofs.laws.contents_in_order.Goals as goal

pub returns : goal.returns
returns c = record { contents = contents-law; children = children-law; files = files-law; inside = inside-first; beside = name-first }
