use Rattle.std.proofs.Common.{◌≡◌, inl, inr, rules}
use Rattle.clap.specs.Values.{kind_of}
use Rattle.clap.specs.declared.error.kind.ErrorKind.TheVariants.{DisplayHelp, DisplayVersion}
use Rattle.amishell.proofs.reading.refusal.Goals as goal

pub returns-in-DisplayHelp : goal.returns-in-DisplayHelp
returns-in-DisplayHelp c =
    let is : kind_of c.args.error.now ≡ DisplayHelp = search rules in c.text_of.ensures _ (inl is)

pub returns-in-DisplayVersion : goal.returns-in-DisplayVersion
returns-in-DisplayVersion c =
    let is : kind_of c.args.error.now ≡ DisplayVersion = search rules in c.text_of-in-DisplayVersion.ensures _ (inr is)
