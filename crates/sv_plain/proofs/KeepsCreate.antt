-- A file system stays whole by each step of Create.
use Rattle.std.proofs.Common.{◌≡◌, ◌≤◌, ℕ, ◌==◌, true, false, not, ◌&&◌, List, IsSome, Some, nat_le, is_some, sym, refl, ap, subst, ◌∙◌, arith}
use Rattle.std.proofs.lemmas.Bool.{leb-true}
use Rattle.std.specs.FinMap as map
use Rattle.sv_form.specs.declared.kind.Kind.{Kind}
use Rattle.sv_form.specs.declared.kind.Kind.TheVariants.{File, Dir}
use Rattle.sv_form.specs.Name.{IsName}
use Rattle.sv_form.specs.Node.{Node}
use Rattle.sv_plain.specs.declared.history.reply.Reply.{Reply}
use Rattle.sv_plain.specs.declared.history.reply.Reply.TheVariants.{Found, Made}
use Rattle.sv_plain.specs.Fs.{Fs, changed, is_live, is_full_for, free_inodes}
use Rattle.sv_plain.specs.Totals.{at_or_0}
use Rattle.sv_plain.specs.Whole.{IsWhole}
use Rattle.sv_plain.specs.Names.{has_reference, promise_of, is_missing, is_open_to_names, is_table_full, child}
use Rattle.sv_plain.specs.Change.{with_entry, with_links, new_node, one_more, spent}
use Rattle.sv_plain.specs.Step.{create_need, create_allowed, create_replies, create_change, takes_one_more, has_many_links, has_inode, is_free, links_made}
use Rattle.sv_plain.proofs.Got.{and_left, and_right, not_true}
use Rattle.sv_plain.proofs.EntryRoom.{missing-place}
use Rattle.sv_plain.proofs.KeepsReferences.{keeps-one_more, number_within}
use Rattle.sv_plain.proofs.KeepsLinks.{referred}
use Rattle.sv_plain.proofs.KeepsNames.{child-of}
use Rattle.sv_plain.proofs.KeepsWhole.{live-of}
use Rattle.sv_plain.proofs.KeepsEntered.{enter-need}
use Rattle.sv_plain.proofs.KeepsCreated.{created-file}
use Rattle.sv_plain.proofs.KeepsCreatedDirectory.{make-need, created-directory}

-- what is known where process p makes i in directory d
pub record IsMaking (fs : Fs) (p d i : ℕ) (name : List ℕ) (kind : Kind) (mode : ℕ) : Type 0 where
  pub node : Node
  pub there : map.get fs.nodes d ≡ Some node
  pub live : is_live node ≡ true
  pub missing : is_missing fs d name ≡ true
  pub few : has_many_links fs d kind ≡ false
  pub mode_fits : mode ≤ 4095
  pub paid : create_need fs d name kind ≤ promise_of fs p
  pub free : is_free fs i ≡ true
  pub place : is_table_full fs ≡ false

pub making : (fs : Fs) (p d i : ℕ) (name : List ℕ) (kind : Kind) (mode : ℕ) → IsWhole fs → create_allowed fs p d name kind mode ≡ true → create_replies fs d name kind (Made i) ≡ true → IsMaking fs p d i name kind mode
making fs p d i name kind mode w allowed right =
    let dir = referred fs p d w (and_left (has_reference fs p d) (nat_le mode 4095 && nat_le (create_need fs d name kind) (promise_of fs p)) allowed) in
    let sizes = and_right (has_reference fs p d) (nat_le mode 4095 && nat_le (create_need fs d name kind) (promise_of fs p)) allowed in
    let inode = and_left (has_inode fs d name kind) (not (is_table_full fs) && is_free fs i) right in
    let rest = and_right (has_inode fs d name kind) (not (is_table_full fs) && is_free fs i) right in
    let more = and_left (takes_one_more fs d name kind) (not (free_inodes fs == 0)) inode in
    let missing = and_left (is_missing fs d name) (not (has_many_links fs d kind)) more in
    record {
      node = dir.0;
      there = dir.1;
      live = live-of fs d dir.0 dir.1 (and_left (is_open_to_names fs d) (not (is_some (child fs d name))) missing);
      missing = missing;
      few = not_true (has_many_links fs d kind) (and_right (is_missing fs d name) (not (has_many_links fs d kind)) more);
      mode_fits = leb-true mode 4095 (and_left (nat_le mode 4095) (nat_le (create_need fs d name kind) (promise_of fs p)) sizes);
      paid = leb-true (create_need fs d name kind) (promise_of fs p) (and_right (nat_le mode 4095) (nat_le (create_need fs d name kind) (promise_of fs p)) sizes);
      free = and_right (not (is_table_full fs)) (is_free fs i) rest;
      place = not_true (is_table_full fs) (and_left (not (is_table_full fs)) (is_free fs i) rest);
    }

made-file : (fs : Fs) (p d i : ℕ) (name : List ℕ) (mode : ℕ) → IsWhole fs → IsName name → IsMaking fs p d i name File mode → IsWhole (create_change fs p d name File mode (Made i))
made-file fs p d i name mode w is_name m =
    let need = enter-need fs d name m.node m.there m.missing in
    subst (λ (n : ℕ). IsWhole (record fs {
      nodes = map.insert (changed fs.nodes d (λ node. with_links (links_made File) (with_entry fs.block i name node))) i (new_node fs.block i d mode File);
      references = one_more fs p i;
      promises = spent fs p n;
    })) (sym need)
    (created-file fs p d i name mode m.node w m.there m.live (missing-place fs d name m.node m.there m.missing) is_name w.sized.names_fit (let paid = m.paid in omega (arith, paid, need)) m.mode_fits m.free m.place)

made-directory : (fs : Fs) (p d i : ℕ) (name : List ℕ) (mode : ℕ) → IsWhole fs → IsName name → IsMaking fs p d i name Dir mode → IsWhole (create_change fs p d name Dir mode (Made i))
made-directory fs p d i name mode w is_name m =
    let need = make-need fs d name m.node m.there m.missing in
    let few : (m.node.links == 1000) ≡ false = ap (λ o. at_or_0 (λ (n : Node). n.links) o == 1000) (sym m.there) ∙ m.few in
    subst (λ (n : ℕ). IsWhole (record fs {
      nodes = map.insert (changed fs.nodes d (λ node. with_links (links_made Dir) (with_entry fs.block i name node))) i (new_node fs.block i d mode Dir);
      references = one_more fs p i;
      promises = spent fs p n;
    })) (sym need)
    (created-directory fs p d i name mode m.node w m.there m.live (missing-place fs d name m.node m.there m.missing) is_name w.sized.some w.sized.names_fit (let paid = m.paid in omega (arith, paid, need)) few m.mode_fits m.free m.place)

made : (fs : Fs) (p d i : ℕ) (name : List ℕ) (kind : Kind) (mode : ℕ) → IsWhole fs → IsName name → IsMaking fs p d i name kind mode → IsWhole (create_change fs p d name kind mode (Made i))
made fs p d i name File mode w is_name m = made-file fs p d i name mode w is_name m
made fs p d i name Dir mode w is_name m = made-directory fs p d i name mode w is_name m

pub keeps-create : (fs : Fs) (p d : ℕ) (name : List ℕ) (kind : Kind) (mode : ℕ) (reply : Reply) → IsWhole fs → IsName name → create_allowed fs p d name kind mode ≡ true
    → create_replies fs d name kind reply ≡ true → IsWhole (create_change fs p d name kind mode reply)
keeps-create fs p d name kind mode (Found i) w is_name allowed right =
    let c = child-of fs d i name (λ c. not (is_full_for fs c)) w right in
    let there : IsSome (map.get fs.nodes i) = subst IsSome (sym c.it) refl in
    keeps-one_more fs p i w there (number_within fs i w there) (not_true (is_full_for fs i) c.passed)
keeps-create fs p d name kind mode (Made i) w is_name allowed right = made fs p d i name kind mode w is_name (making fs p d i name kind mode w allowed right)
keeps-create fs p d name kind mode _ w is_name allowed right = w
