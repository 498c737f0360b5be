use Rattle.sv_plain.proofs.ShareLaws.{references-counted, files-counted}
use Rattle.sv_plain.proofs.laws.shares.shares_are_counted.Goals as goal

pub returns : goal.returns
returns c = record { references = references-counted; files = files-counted }
