use Rattle.std.proofs.Common.{◌≡◌, ◌≢◌, ◌-◌, ◌==◌, ◌&&◌, ◌∙◌, true, not, IsSome, sym, ap, subst}
use Rattle.std.proofs.lemmas.Bool.{false≢true}
use Rattle.std.specs.FinMap as map
use Rattle.sv_plain.specs.declared.history.reply.Reply.TheVariants.{Removed}
use Rattle.sv_plain.specs.Fs.{Fs, page_of, is_full_for}
use Rattle.sv_plain.specs.Names.{is_directory, has_reference, links_of}
use Rattle.sv_plain.specs.Change.{with_links}
use Rattle.sv_plain.specs.Step.{unlink_allowed, unlink_replies, unlink_change}
use Rattle.sv_plain.proofs.Got.{and_left}
use Rattle.sv_plain.proofs.StepBounds.{child-is, the_child, reference-there}
use Rattle.sv_plain.proofs.ClearedEntry.{still-there}
use Rattle.sv_plain.proofs.RemovedNames.{unlink-steps, unlink-apart, page-still}
use Rattle.sv_plain.proofs.fs.Fs.step_unlink.Goals as goal

pub refer_with_links-requires-clause-there : goal.refer_with_links-requires-clause-there
refer_with_links-requires-clause-there c =
    let fs : Fs = c.args.self.now in
    let i = c.in-Removed.i in
    let right : unlink_replies fs c.args.d c.args.name.now (Removed i) ≡ true = cc in
    let child = child-is fs c.args.d c.args.name.now i (λ c. (c == i) && (not (is_full_for fs c) && not (is_directory fs c))) c.requires right (λ c. the_child c i _) in
    child.2

pub returns-in-Ok-refer_with_links-clause-taken : goal.returns-in-Ok-refer_with_links-clause-taken
returns-in-Ok-refer_with_links-clause-taken c =
    let fs : Fs = c.args.self.now in
    let i = c.in-Removed.i in
    let right : unlink_replies fs c.args.d c.args.name.now (Removed i) ≡ true = cc in
    let links : links_of fs i - 1 ≡ c.saturating_sub.result = sym (c.saturating_sub.ensures ∙ ap (λ n. n - 1) c.links_of-links.ensures) in
    record {
      allowed = cc;
      right = cc;
      changed =
          unlink-steps fs c.refer_with_links.new.self c.replace_page.new.self c.args.process c.args.d i c.in-Ok.page c.saturating_sub.result c.in-Ok.bytes c.args.name.now
          c.in-Ok-refer_with_links.ensures.put c.replace_page.ensures c.in-Ok.ensures.cleared links (unlink-apart fs c.args.d i c.args.name.now right)
          ∙ ap (unlink_change fs c.args.process c.args.d c.args.name.now) (sym c.in-Removed.is);
    }

pub replace_page-requires : goal.replace_page-requires
replace_page-requires c =
    let fs : Fs = c.args.self.now in
    subst (λ (s : Fs). IsSome (page_of s c.args.d c.in-Ok.page)) (sym c.in-Ok-refer_with_links.ensures.put)
    (page-still fs.nodes c.in-Removed.i c.args.d c.in-Ok.page (λ _. c.saturating_sub.result) c.in-Ok.ensures.there)
