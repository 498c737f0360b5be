use Rattle.std.proofs.Common.{◌≡◌, IsSome, sym, ap, subst}
use Rattle.std.specs.FinMap as map
use Rattle.sv_plain.specs.Fs.{Fs, changed, with_page}
use Rattle.sv_plain.proofs.ClearedEntry.{still-there}
use Rattle.sv_plain.proofs.Entered.{page-and-size}
use Rattle.sv_plain.proofs.fs.Fs.put_entry.Goals as goal

pub set_size-requires : goal.set_size-requires
set_size-requires c =
    let fs : Fs = c.args.self.now in
    let page = c.args.page in
    let nodes : c.set_page.new.self.nodes ≡ changed fs.nodes c.args.d (with_page page.number page.bytes) = ap (λ (fs : Fs). fs.nodes) c.in_ok-set_page.ensures.put in
    subst (λ m. IsSome (map.get m c.args.d)) (sym nodes) (still-there fs.nodes c.args.d c.args.d (with_page page.number page.bytes) c.requires.there)

pub returns-clause-put : goal.returns-clause-put
returns-clause-put c =
    let page = c.args.page in
    page-and-size c.args.self.now c.set_page.new.self c.set_size.new.self c.args.d page.number page.size page.bytes c.in_ok-set_page.ensures.put c.set_size.ensures
