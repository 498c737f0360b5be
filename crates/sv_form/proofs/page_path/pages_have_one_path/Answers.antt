use Rattle.sv_form.proofs.PageLemmas.{one_path}
use Rattle.sv_form.proofs.page_path.pages_have_one_path.Goals as goal

pub returns : goal.returns
returns c = one_path
