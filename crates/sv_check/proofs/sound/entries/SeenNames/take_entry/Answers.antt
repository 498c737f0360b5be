use Rattle.std.proofs.Common.{◌∙◌, ap, sym, is_some, Option}
use Rattle.sv_form.specs.declared.entry.Entry.{Entry}
use Rattle.sv_check.specs.Directories.{named_by}
use Rattle.sv_check.proofs.EntryReads.{is_filled}
use Rattle.sv_check.proofs.EntryTakes.{seen_empty, seen_new, takes_empty, takes_new, takes_nowhere, takes_unread, named_test}
use Rattle.sv_check.proofs.Flaws.{none_here}
use Rattle.sv_check.proofs.sound.entries.SeenNames.take_entry.Goals as goal

pub returns-in_default-clause-takes : goal.returns-in_default-clause-takes
returns-in_default-clause-takes c = λ g image seen is was.
    takes_unread g image seen c.args.bytes.now (c.read_entry.ensures.test ∙ ap (λ (r : Option Entry). is_some r) (none_here _ c.in_default.not-Some))

pub returns-then-entry-eq0-clause-takes : goal.returns-then-entry-eq0-clause-takes
returns-then-entry-eq0-clause-takes c = λ g image seen is was.
    takes_empty g image seen c.args.bytes.now c.in-Some.entry.inode c.in-Some.ensures.test c.in-Some.ensures.inode c.if-entry-eq0.true

pub returns-then-entry-eq0-clause-seen : goal.returns-then-entry-eq0-clause-seen
returns-then-entry-eq0-clause-seen c = λ seen was. seen_empty _ seen c.args.bytes.now c.in-Some.entry.inode c.in-Some.ensures.inode c.if-entry-eq0.true was

pub returns-then-not-is_used-clause-takes : goal.returns-then-not-is_used-clause-takes
returns-then-not-is_used-clause-takes c = λ g image seen is was.
    takes_nowhere g image seen c.args.bytes.now c.in-Some.entry.inode c.in-Some.ensures.test c.in-Some.ensures.inode c.if-entry-eq0.false
    (sym (c.is_used.ensures g image is) ∙ c.if-not-is_used.true)

pub returns-clause-takes : goal.returns-clause-takes
returns-clause-takes c = λ g image seen is was.
    let named = is_filled c.args.bytes.now c.requires (named_test (named_by c.args.bytes.now) c.in-Some.entry.inode c.in-Some.ensures.inode c.if-entry-eq0.false) c.in-Some.ensures.test in
    takes_new g image seen c.args.bytes.now c.in-Some.entry.inode c.in-Some.ensures.test c.in-Some.ensures.inode c.if-entry-eq0.false c.in_ok-is_new.is_new
    (sym (c.is_used.ensures g image is) ∙ c.if-not-is_used.false) (c.in_ok-is_new.ensures.new seen was named)

pub returns-clause-seen : goal.returns-clause-seen
returns-clause-seen c =
    let named = is_filled c.args.bytes.now c.requires (named_test (named_by c.args.bytes.now) c.in-Some.entry.inode c.in-Some.ensures.inode c.if-entry-eq0.false) c.in-Some.ensures.test in
    seen_new c.in_ok-is_new.is_new c.args.self.now c.take_name.new.self c.args.bytes.now c.in-Some.entry.inode c.in-Some.ensures.inode c.if-entry-eq0.false named c.in_ok-is_new.ensures.seen
