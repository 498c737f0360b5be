use Rattle.std.proofs.Common.{◌≡◌, ◌≢◌, ◌≤◌, ℕ, ◌-◌, ◌==◌, ◌&&◌, ◌∙◌, true, not, IsSome, sym, ap, subst, arith}
use Rattle.std.proofs.lemmas.Bool.{false≢true}
use Rattle.std.specs.FinMap as map
use Rattle.sv_plain.specs.declared.history.reply.Reply.TheVariants.{Removed}
use Rattle.sv_plain.specs.Fs.{Fs, changed, page_of, with_page, with_page_of, is_full_for}
use Rattle.sv_plain.specs.Names.{is_directory, has_reference, links_of}
use Rattle.sv_plain.specs.Change.{with_links}
use Rattle.sv_plain.specs.Step.{is_in_use, is_dots, unlink_allowed, rmdir_replies, rmdir_change}
use Rattle.sv_plain.proofs.Got.{and_left, and_right, not_true}
use Rattle.sv_plain.proofs.StepBounds.{child-is, the_child, reference-there}
use Rattle.sv_plain.proofs.ClearedEntry.{still-there}
use Rattle.sv_plain.proofs.KeepsRmdir.{rmdir-apart, rmdir-links}
use Rattle.sv_plain.proofs.RemovedNames.{rmdir-steps, page-still}
use Rattle.sv_plain.proofs.fs.Fs.step_rmdir.Goals as goal

pub refer_with_links-requires-clause-there : goal.refer_with_links-requires-clause-there
refer_with_links-requires-clause-there c =
    let fs : Fs = c.args.self.now in
    let i = c.in-Removed.i in
    let right : rmdir_replies fs c.args.d c.args.name.now (Removed i) ≡ true = cc in
    let child = child-is fs c.args.d c.args.name.now i (λ c. (c == i) && (not (is_full_for fs c) && (is_directory fs c && not (is_in_use fs c)))) c.requires right (λ c. the_child c i _) in
    child.2

pub replace_page-requires : goal.replace_page-requires
replace_page-requires c =
    let fs : Fs = c.args.self.now in
    subst (λ (s : Fs). IsSome (page_of s c.args.d c.in-Ok.page)) (sym c.in-Ok-refer_with_links.ensures.put)
    (page-still fs.nodes c.in-Removed.i c.args.d c.in-Ok.page (λ _. 0) c.in-Ok.ensures.there)

pub set_links-requires : goal.set_links-requires
set_links-requires c =
    let fs : Fs = c.args.self.now in
    let i = c.in-Removed.i in
    let allowed : unlink_allowed fs c.args.process c.args.d c.args.name.now ≡ true = cc in
    let there = reference-there fs c.args.process c.args.d c.requires (and_left (has_reference fs c.args.process c.args.d) _ allowed) in
    let nodes : c.replace_page.new.self.nodes ≡ changed (changed fs.nodes i (with_links (λ _. 0))) c.args.d (with_page c.in-Ok.page c.in-Ok.bytes) =
    ap (λ (fs : Fs). fs.nodes) (c.replace_page.ensures ∙ ap (λ (fs : Fs). with_page_of fs c.args.d c.in-Ok.page c.in-Ok.bytes) c.in-Ok-refer_with_links.ensures.put) in
    subst (λ m. IsSome (map.get m c.args.d)) (sym nodes)
    (still-there (changed fs.nodes i (with_links (λ _. 0))) c.args.d c.args.d (with_page c.in-Ok.page c.in-Ok.bytes) (still-there fs.nodes i c.args.d (with_links (λ _. 0)) there))

pub unreachable-requires : goal.unreachable-requires
unreachable-requires c =
    let fs : Fs = c.args.self.now in
    let i = c.in-Removed.i in
    let allowed : unlink_allowed fs c.args.process c.args.d c.args.name.now ≡ true = cc in
    let no_dots = not_true (is_dots c.args.name.now) (and_right (has_reference fs c.args.process c.args.d) _ allowed) in
    let right : rmdir_replies fs c.args.d c.args.name.now (Removed i) ≡ true = cc in
    let two = rmdir-links fs c.args.d i c.args.name.now c.requires no_dots right in
    let is : c.links_of-links.result ≡ links_of fs c.args.d = c.links_of-links.ensures in
    false≢true (c.in_default-set_links.ensures.known (λ none. absurd (omega (arith, none, is, two))))

pub returns-in-Ok-set_links-clause-taken : goal.returns-in-Ok-set_links-clause-taken
returns-in-Ok-set_links-clause-taken c =
    let fs : Fs = c.args.self.now in
    let i = c.in-Removed.i in
    let allowed : unlink_allowed fs c.args.process c.args.d c.args.name.now ≡ true = cc in
    let no_dots = not_true (is_dots c.args.name.now) (and_right (has_reference fs c.args.process c.args.d) _ allowed) in
    let right : rmdir_replies fs c.args.d c.args.name.now (Removed i) ≡ true = cc in
    let n : ℕ = c.links_of-links.result - 1 in
    record {
      allowed = cc;
      right = cc;
      changed =
          rmdir-steps fs c.refer_with_links.new.self c.replace_page.new.self c.set_links.new.self c.args.process c.args.d i c.in-Ok.page n c.in-Ok.bytes c.args.name.now
          c.in-Ok-refer_with_links.ensures.put c.replace_page.ensures c.in-Ok-set_links.ensures.put c.in-Ok.ensures.cleared (ap (λ m. m - 1) (sym c.links_of-links.ensures))
          (rmdir-apart fs c.args.d i c.args.name.now c.requires no_dots right)
          ∙ ap (rmdir_change fs c.args.process c.args.d c.args.name.now) (sym c.in-Removed.is);
    }
