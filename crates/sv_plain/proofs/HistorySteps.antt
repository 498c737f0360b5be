-- Histories, one entry after another: what leads somewhere is legal, also past a purge that came late, and keeps the sizes.
use Rattle.std.proofs.Common.{◌≡◌, ◌≢◌, ℕ, ◌+◌, nat_le, ◌==◌, ◌++◌, ◌⊎◌, inl, inr, Bool, true, false, cond, not, ◌&&◌, ◌||◌, List, [], ◌∷◌, length, take, Option, Some, None, is_some, sym, refl, ap, subst, ◌∙◌}
use Rattle.std.proofs.lemmas.Bool.{false≢true, eqb-true}
use Rattle.std.specs.Ordering.{nat_cmp}
use Rattle.std.specs.FinMap as map
use Rattle.std.specs.FinMap.{nat_cmp-IsAntisymmetric}
use Rattle.sv_form.specs.Node.{Node}
use Rattle.sv_form.specs.Pair.{pair_cmp}
use Rattle.sv_plain.specs.declared.history.entry.Entry.{Entry}
use Rattle.sv_plain.specs.declared.history.need.Need.{Need}
use Rattle.sv_plain.specs.declared.history.need.Need.TheVariants as need
use Rattle.sv_plain.specs.declared.history.op.Op.{Op}
use Rattle.sv_plain.specs.declared.history.op.Op.TheVariants.{Look, Drop, Create, AddLink, Enter, SubLink, Unlink, Rmdir, OpenFile, CloseFile, DupFile, Read, Write, Seek, Trunc, Stat, Promise, Forgo, Sync, Purge}
use Rattle.sv_plain.specs.declared.fs.opening.Opening.{Opening}
use Rattle.sv_plain.specs.declared.history.reply.Reply.{Reply}
use Rattle.sv_plain.specs.declared.history.reply.Reply.TheVariants.{Found, Freed, Late, LateMemory, Made, Raised, Entered, Lowered, Removed, Opened, Dupped, Got, Wrote, FaultAfter, At, Done, Granted}
use Rattle.sv_form.specs.declared.kind.Kind.{Kind}
use Rattle.sv_plain.specs.declared.fs.mode.Mode.{Mode}
use Rattle.sv_plain.specs.Change.{without_lost}
use Rattle.sv_plain.specs.Fs.{Fs}
use Rattle.sv_plain.specs.History.{IsAllowed, IsLegal, Leads, own}
use Rattle.sv_plain.specs.HistoryLaws.{HasSizesOf}
use Rattle.sv_plain.specs.Names.{has_reference, is_idle, is_lost, is_opened, some_and}
use Rattle.sv_plain.specs.Step as steps
use Rattle.sv_plain.specs.Step.{Step, HasChanged, HasPurged, HasPurgedSome, change_of, condition, has_file, has_lost, replies, written, written_at}
use Rattle.sv_plain.specs.Totals.{at_or_0, one_if, total}
use Rattle.sv_plain.specs.Unlinked.{has_no_links}
use Rattle.sv_plain.proofs.Got.{and_left, and_right}
use Rattle.sv_plain.proofs.Purged.{get-left, lost-some, lost-unlinked}
use Rattle.sv_plain.proofs.Totals.{total-empty}

-- ---- one entry more

pushed : (s t : Bool) (x e : Entry) (l m : List Entry) → l ≡ cond t (m ++ e ∷ []) m → cond s (x ∷ l) l ≡ cond t (cond s (x ∷ m) m ++ e ∷ []) (cond s (x ∷ m) m)
pushed true true x e l m is = ap (λ (r : List Entry). x ∷ r) is
pushed true false x e l m is = ap (λ (r : List Entry). x ∷ r) is
pushed false true x e l m is = is
pushed false false x e l m is = is

pub own-further : (h : List Entry) (e : Entry) (p : ℕ) → own (h ++ e ∷ []) p ≡ cond (e.process == p) (own h p ++ e ∷ []) (own h p)
own-further [] e p = refl
own-further (x ∷ h) e p = pushed (x.process == p) (e.process == p) x e (own (h ++ e ∷ []) p) (own h p) (own-further h e p)

pub leads-further : (h : List Entry) (e : Entry) (a b c : Fs) → Leads h a b → Step b e.process e.op e.reply c → Leads (h ++ e ∷ []) a c
leads-further [] e a b c is step = (c, subst (λ (x : Fs). Step x e.process e.op e.reply c) is step, refl)
leads-further (x ∷ h) e a b c is step = (is.0, is.1, leads-further h e is.0 b c is.2 step)

-- ---- sizes

look-sizes : (fs : Fs) (p : ℕ) (reply : Reply) → HasSizesOf fs (steps.look_change fs p reply)
look-sizes fs p (Found i) = record { block = refl; greatest = refl; data_blocks = refl; inodes = refl; places = refl }
look-sizes fs p other = record { block = refl; greatest = refl; data_blocks = refl; inodes = refl; places = refl }

drop-sizes : (fs : Fs) (p i : ℕ) (reply : Reply) → HasSizesOf fs (steps.drop_change fs p i reply)
drop-sizes fs p i Freed = record { block = refl; greatest = refl; data_blocks = refl; inodes = refl; places = refl }
drop-sizes fs p i other = record { block = refl; greatest = refl; data_blocks = refl; inodes = refl; places = refl }

create-sizes : (fs : Fs) (p d : ℕ) (name : List ℕ) (kind : Kind) (mode : ℕ) (reply : Reply) → HasSizesOf fs (steps.create_change fs p d name kind mode reply)
create-sizes fs p d name kind mode (Found i) = record { block = refl; greatest = refl; data_blocks = refl; inodes = refl; places = refl }
create-sizes fs p d name kind mode (Made i) = record { block = refl; greatest = refl; data_blocks = refl; inodes = refl; places = refl }
create-sizes fs p d name kind mode other = record { block = refl; greatest = refl; data_blocks = refl; inodes = refl; places = refl }

add-sizes : (fs : Fs) (p i : ℕ) (reply : Reply) → HasSizesOf fs (steps.add_link_change fs p i reply)
add-sizes fs p i Raised = record { block = refl; greatest = refl; data_blocks = refl; inodes = refl; places = refl }
add-sizes fs p i other = record { block = refl; greatest = refl; data_blocks = refl; inodes = refl; places = refl }

enter-sizes : (fs : Fs) (p d : ℕ) (name : List ℕ) (i : ℕ) (reply : Reply) → HasSizesOf fs (steps.enter_change fs p d name i reply)
enter-sizes fs p d name i Entered = record { block = refl; greatest = refl; data_blocks = refl; inodes = refl; places = refl }
enter-sizes fs p d name i other = record { block = refl; greatest = refl; data_blocks = refl; inodes = refl; places = refl }

sub-sizes : (fs : Fs) (p i : ℕ) (reply : Reply) → HasSizesOf fs (steps.sub_link_change fs p i reply)
sub-sizes fs p i Lowered = record { block = refl; greatest = refl; data_blocks = refl; inodes = refl; places = refl }
sub-sizes fs p i other = record { block = refl; greatest = refl; data_blocks = refl; inodes = refl; places = refl }

unlink-sizes : (fs : Fs) (p d : ℕ) (name : List ℕ) (reply : Reply) → HasSizesOf fs (steps.unlink_change fs p d name reply)
unlink-sizes fs p d name (Removed i) = record { block = refl; greatest = refl; data_blocks = refl; inodes = refl; places = refl }
unlink-sizes fs p d name other = record { block = refl; greatest = refl; data_blocks = refl; inodes = refl; places = refl }

rmdir-sizes : (fs : Fs) (p d : ℕ) (name : List ℕ) (reply : Reply) → HasSizesOf fs (steps.rmdir_change fs p d name reply)
rmdir-sizes fs p d name (Removed i) = record { block = refl; greatest = refl; data_blocks = refl; inodes = refl; places = refl }
rmdir-sizes fs p d name other = record { block = refl; greatest = refl; data_blocks = refl; inodes = refl; places = refl }

open-sizes : (fs : Fs) (p i : ℕ) (mode : Mode) (reply : Reply) → HasSizesOf fs (steps.open_change fs p i mode reply)
open-sizes fs p i mode (Opened f) = record { block = refl; greatest = refl; data_blocks = refl; inodes = refl; places = refl }
open-sizes fs p i mode other = record { block = refl; greatest = refl; data_blocks = refl; inodes = refl; places = refl }

close-sizes : (fs : Fs) (f : ℕ) (reply : Reply) → HasSizesOf fs (steps.close_change fs f reply)
close-sizes fs f Freed = record { block = refl; greatest = refl; data_blocks = refl; inodes = refl; places = refl }
close-sizes fs f other = record { block = refl; greatest = refl; data_blocks = refl; inodes = refl; places = refl }

dup-sizes : (fs : Fs) (f : ℕ) (reply : Reply) → HasSizesOf fs (steps.dup_change fs f reply)
dup-sizes fs f Dupped = record { block = refl; greatest = refl; data_blocks = refl; inodes = refl; places = refl }
dup-sizes fs f other = record { block = refl; greatest = refl; data_blocks = refl; inodes = refl; places = refl }

read-sizes : (fs : Fs) (f : ℕ) (reply : Reply) → HasSizesOf fs (steps.read_change fs f reply)
read-sizes fs f (Got bytes) = record { block = refl; greatest = refl; data_blocks = refl; inodes = refl; places = refl }
read-sizes fs f other = record { block = refl; greatest = refl; data_blocks = refl; inodes = refl; places = refl }

written-sizes : (fs : Fs) (p f : ℕ) (bytes : List ℕ) (o : Option Opening) → HasSizesOf fs (written_at fs p f bytes o)
written-sizes fs p f bytes None = record { block = refl; greatest = refl; data_blocks = refl; inodes = refl; places = refl }
written-sizes fs p f bytes (Some file) = record { block = refl; greatest = refl; data_blocks = refl; inodes = refl; places = refl }

write-sizes : (fs : Fs) (p f : ℕ) (bytes : List ℕ) (reply : Reply) → HasSizesOf fs (steps.write_change fs p f bytes reply)
write-sizes fs p f bytes (Wrote n) = written-sizes fs p f bytes (map.get fs.files f)
write-sizes fs p f bytes (FaultAfter k) = written-sizes fs p f (take k bytes) (map.get fs.files f)
write-sizes fs p f bytes other = record { block = refl; greatest = refl; data_blocks = refl; inodes = refl; places = refl }

seek-sizes : (fs : Fs) (f : ℕ) (reply : Reply) → HasSizesOf fs (steps.seek_change fs f reply)
seek-sizes fs f (At n) = record { block = refl; greatest = refl; data_blocks = refl; inodes = refl; places = refl }
seek-sizes fs f other = record { block = refl; greatest = refl; data_blocks = refl; inodes = refl; places = refl }

trunc-sizes : (fs : Fs) (i : ℕ) (reply : Reply) → HasSizesOf fs (steps.trunc_change fs i reply)
trunc-sizes fs i Done = record { block = refl; greatest = refl; data_blocks = refl; inodes = refl; places = refl }
trunc-sizes fs i other = record { block = refl; greatest = refl; data_blocks = refl; inodes = refl; places = refl }

promise-sizes : (fs : Fs) (p : ℕ) (reply : Reply) → HasSizesOf fs (steps.promise_change fs p reply)
promise-sizes fs p (Granted n) = record { block = refl; greatest = refl; data_blocks = refl; inodes = refl; places = refl }
promise-sizes fs p other = record { block = refl; greatest = refl; data_blocks = refl; inodes = refl; places = refl }

forgo-sizes : (fs : Fs) (p : ℕ) (reply : Reply) → HasSizesOf fs (steps.forgo_change fs p reply)
forgo-sizes fs p Done = record { block = refl; greatest = refl; data_blocks = refl; inodes = refl; places = refl }
forgo-sizes fs p other = record { block = refl; greatest = refl; data_blocks = refl; inodes = refl; places = refl }

purge-sizes : (fs : Fs) (reply : Reply) → HasSizesOf fs (steps.purge_change fs reply)
purge-sizes fs Done = record { block = refl; greatest = refl; data_blocks = refl; inodes = refl; places = refl }
purge-sizes fs other = record { block = refl; greatest = refl; data_blocks = refl; inodes = refl; places = refl }

change-sizes : (op : Op) (fs : Fs) (p : ℕ) (reply : Reply) → HasSizesOf fs (change_of fs p op reply)
change-sizes (Look dir name) fs p reply = look-sizes fs p reply
change-sizes (Drop ino) fs p reply = drop-sizes fs p ino reply
change-sizes (Create dir name kind mode) fs p reply = create-sizes fs p dir name kind mode reply
change-sizes (AddLink ino) fs p reply = add-sizes fs p ino reply
change-sizes (Enter dir name ino) fs p reply = enter-sizes fs p dir name ino reply
change-sizes (SubLink ino) fs p reply = sub-sizes fs p ino reply
change-sizes (Unlink dir name) fs p reply = unlink-sizes fs p dir name reply
change-sizes (Rmdir dir name) fs p reply = rmdir-sizes fs p dir name reply
change-sizes (OpenFile ino mode) fs p reply = open-sizes fs p ino mode reply
change-sizes (CloseFile file) fs p reply = close-sizes fs file reply
change-sizes (DupFile file) fs p reply = dup-sizes fs file reply
change-sizes (Read file count) fs p reply = read-sizes fs file reply
change-sizes (Write file bytes) fs p reply = write-sizes fs p file bytes reply
change-sizes (Seek file offset whence) fs p reply = seek-sizes fs file reply
change-sizes (Trunc ino) fs p reply = trunc-sizes fs ino reply
change-sizes (Stat ino) fs p reply = record { block = refl; greatest = refl; data_blocks = refl; inodes = refl; places = refl }
change-sizes (Promise n) fs p reply = promise-sizes fs p reply
change-sizes Forgo fs p reply = forgo-sizes fs p reply
change-sizes Sync fs p reply = record { block = refl; greatest = refl; data_blocks = refl; inodes = refl; places = refl }
change-sizes Purge fs p reply = purge-sizes fs reply

-- ---- what a step leaves: what its reply says, or, where a purge came late, some of the nodes

-- a purge that came late: the state that stays as one in which no node went, and the one that is left
record WentLate (a : Fs) (p : ℕ) (op : Op) (reply : Reply) (c : Fs) : Type 0 where
  stays : change_of a p op reply ≡ a
  idle : condition a p op ≡ true → is_idle a ≡ true
  some : HasPurgedSome a c

purge-is : (a : Fs) (p : ℕ) (reply : Reply) (c : Fs) → HasPurged a reply c → (c ≡ change_of a p Purge reply) ⊎ WentLate a p Purge reply c
purge-is a p Late c h = inr (record { stays = refl; idle = λ e. and_right (p == 0) (is_idle a) e; some = h })
purge-is a p LateMemory c h = inr (record { stays = refl; idle = λ e. and_right (p == 0) (is_idle a) e; some = h })
purge-is a p other c h = inl h

after-is : (op : Op) (a : Fs) (p : ℕ) (reply : Reply) (c : Fs) → HasChanged a p op reply c → (c ≡ change_of a p op reply) ⊎ WentLate a p op reply c
after-is Purge a p reply c h = purge-is a p reply c h
after-is other a p reply c h = inl h

sizes-by : {a c : Fs} {p : ℕ} {op : Op} {reply : Reply} → (c ≡ change_of a p op reply) ⊎ WentLate a p op reply c → HasSizesOf a c
sizes-by {a} {c} {p} {op} {reply} (inl e) = subst (λ (x : Fs). HasSizesOf a x) (sym e) (change-sizes op a p reply)
sizes-by {a} {c} {p} {op} {reply} (inr late) =
    subst (λ (x : Fs). HasSizesOf a x) (sym late.some.changed) (record { block = refl; greatest = refl; data_blocks = refl; inodes = refl; places = refl })

pub leads-sizes : (h : List Entry) (a b : Fs) → Leads h a b → HasSizesOf a b
leads-sizes [] a b is = subst (λ (x : Fs). HasSizesOf a x) (sym is) (record { block = refl; greatest = refl; data_blocks = refl; inodes = refl; places = refl })
leads-sizes (e ∷ h) a b is =
    let one = sizes-by (after-is e.op a e.process e.reply is.0 is.1.changed) in
    let rest = leads-sizes h is.0 b is.2 in
    record {
      block = rest.block ∙ one.block;
      greatest = rest.greatest ∙ one.greatest;
      data_blocks = rest.data_blocks ∙ one.data_blocks;
      inodes = rest.inodes ∙ one.inodes;
      places = rest.places ∙ one.places;
    }

-- ---- past a purge that came late: nothing is referred to, and only ops that need no reference can follow

abbrev Nodes : Type 0
Nodes = map.FinMap nat_cmp Node

-- what the first has, the second has too
abbrev Fewer : Nodes → Nodes → Type 0
Fewer m all = (i : ℕ) (node : Node) → map.get m i ≡ Some node → map.get all i ≡ Some node

abbrev pruned : Fs → Nodes → Fs
pruned a m = record a { nodes = m }

-- the step is one from the state with all nodes too, and leaves fewer nodes again
record Passes (a : Fs) (p : ℕ) (op : Op) (reply : Reply) (c : Fs) : Type 0 where
  allowed : condition a p op ≡ true
  right : replies a p op reply ≡ true
  nodes : Nodes
  is : c ≡ pruned (change_of a p op reply) nodes
  fewer : Fewer nodes (change_of a p op reply).nodes
  idle : is_idle (change_of a p op reply) ≡ true

clash : {A : Type 0} (t : Bool) → t ≡ false → t ≡ true → A
clash t e f = absurd (false≢true (sym e ∙ f))

neither : (a b : Bool) → a ≡ false → b ≡ false → (a || b) ≡ false
neither true b e f = e
neither false b e f = f

kept_node : (o : Option Node) (node : Node) → cond (not (has_no_links o)) o None ≡ Some node → (o ≡ Some node) × (has_no_links o ≡ false)
kept_node None node e = cc
kept_node (Some n) node e = by (n.links == 0) refl e
  where
    by : (t : Bool) → (n.links == 0) ≡ t → cond (not t) (Some n) None ≡ Some node → (Some n ≡ Some node) × ((n.links == 0) ≡ false)
    by true is f = cc
    by false is f = (f, is)

unlinked_some : (o : Option Node) → has_no_links o ≡ true → (node : Node) × ((o ≡ Some node) × (has_no_links (Some node) ≡ true))
unlinked_some None e = absurd (false≢true e)
unlinked_some (Some n) e = (n, (refl, e))

held_some : (t : Bool) (o : Option Node) (node : Node) → cond t o None ≡ Some node → o ≡ Some node
held_some true o node e = e
held_some false o node e = cc

module _ (a : Fs) (m : Nodes) (fewer : Fewer m a.nodes) (idle : is_idle a ≡ true) where
  no_references : a.references ≡ map.empty
  no_references = map.empty_of_len a.references (eqb-true (map.len a.references) 0 (and_left (map.len a.references == 0) (map.len a.files == 0) idle))

  no_files : a.files ≡ map.empty
  no_files = map.empty_of_len a.files (eqb-true (map.len a.files) 0 (and_right (map.len a.references == 0) (map.len a.files == 0) idle))

  unreferenced : (p i : ℕ) → has_reference a p i ≡ false
  unreferenced p i =
      ap (λ (r : map.FinMap pair_cmp ℕ). not (at_or_0 (λ (n : ℕ). n) (map.get r (p, i)) == 0)) no_references
      ∙ ap (λ (o : Option ℕ). not (at_or_0 (λ (n : ℕ). n) o == 0)) (map.get-empty pair_cmp (p, i))

  no_file : (f : ℕ) → map.get a.files f ≡ None
  no_file f = ap (λ (r : map.FinMap nat_cmp Opening). map.get r f) no_files ∙ map.get-empty nat_cmp f

  unopened : (i : ℕ) → is_opened a i ≡ false
  unopened i =
      ap (λ (r : map.FinMap nat_cmp Opening). not (total (λ _ f. one_if (f.inode == i)) r == 0)) no_files
      ∙ ap (λ (n : ℕ). not (n == 0)) (total-empty nat_cmp (λ _ f. one_if (f.inode == i)))

  -- a node that is left without a link was there before
  lost_before : (i : ℕ) → is_lost (pruned a m) i ≡ true → has_lost a ≡ true
  lost_before i lost =
      let found = unlinked_some (map.get m i) (sym (lost-unlinked (pruned a m) idle i) ∙ lost) in
      lost-some a i idle (ap has_no_links (fewer i found.0 found.1.0) ∙ found.1.1)

  purge_fewer : Fewer (without_lost (pruned a m)).nodes (without_lost a).nodes
  purge_fewer i node e =
      let left = kept_node (map.get m i) node (sym (get-left (pruned a m) idle i) ∙ e) in
      let there : map.get a.nodes i ≡ Some node = fewer i node left.0 in
      let linked : has_no_links (map.get a.nodes i) ≡ false = ap has_no_links (there ∙ sym left.0) ∙ left.1 in
      get-left a idle i ∙ ap (λ (t : Bool). cond (not t) (map.get a.nodes i) None) linked ∙ there

  late_fewer : (gone : ℕ → Bool) → Fewer (map.retain_keys m (λ i. not (gone i))) a.nodes
  late_fewer gone i node e =
      fewer i node
      (held_some (not (gone i)) (map.get m i) node
      (sym (map.get-retain_keys m (λ i. not (gone i)) i (λ x tied. ap (λ (k : ℕ). not (gone k)) (sym (nat_cmp-IsAntisymmetric i x tied)))) ∙ e))

  past_forgo : (p : ℕ) (reply : Reply) (c : Fs) → Step (pruned a m) p Forgo reply c → Passes a p Forgo reply c
  past_forgo p Done c s = record { allowed = refl; right = refl; nodes = m; is = s.changed; fewer = fewer; idle = idle }
  past_forgo p other c s = absurd (false≢true s.right)

  past_late : (p : ℕ) (c : Fs) → steps.purge_allowed a p ≡ true → HasPurgedSome (pruned a m) c → (reply : Reply) → change_of a p Purge reply ≡ a → (has_lost a ≡ true → replies a p Purge reply ≡ true) → Passes a p Purge reply c
  past_late p c allowed h reply stays right = record {
    allowed = allowed;
    right = right (lost_before h.stays.0 h.stays.1);
    nodes = map.retain_keys m (λ i. not (h.gone i));
    is = h.changed ∙ ap (λ (x : Fs). pruned x (map.retain_keys m (λ i. not (h.gone i)))) (sym stays);
    fewer = subst (λ (x : Fs). Fewer (map.retain_keys m (λ i. not (h.gone i))) x.nodes) (sym stays) (late_fewer h.gone);
    idle = ap is_idle stays ∙ idle;
  }

  past_purge : (p : ℕ) (reply : Reply) (c : Fs) → Step (pruned a m) p Purge reply c → Passes a p Purge reply c
  past_purge p Done c s = record { allowed = s.allowed; right = refl; nodes = (without_lost (pruned a m)).nodes; is = s.changed; fewer = purge_fewer; idle = idle }
  past_purge p Late c s = past_late p c s.allowed s.changed Late refl (λ e. e)
  past_purge p LateMemory c s = past_late p c s.allowed s.changed LateMemory refl (λ e. e)
  past_purge p other c s = absurd (false≢true s.right)

  past_promise : {A : Type 0} (p : ℕ) (n : Need) → condition (pruned a m) p (Promise n) ≡ true → A
  past_promise p (need.Write f count) e = clash _ (ap (λ (o : Option Opening). some_and o (λ x. steps.writes x.mode)) (no_file f)) (and_right (not (map.contains_key a.promises p)) _ e)
  past_promise p (need.Enter d name) e = clash _ (unreferenced p d) (and_right (not (map.contains_key a.promises p)) _ e)
  past_promise p (need.Make d name) e = clash _ (unreferenced p d) (and_right (not (map.contains_key a.promises p)) _ e)

  refers : {A : Type 0} (p d : ℕ) → has_reference a p d ≡ true → A
  refers p d e = clash _ (unreferenced p d) e

  has : {A : Type 0} (f : ℕ) → has_file a f ≡ true → A
  has f e = clash _ (ap is_some (no_file f)) e

  past : (op : Op) (p : ℕ) (reply : Reply) (c : Fs) → Step (pruned a m) p op reply c → Passes a p op reply c
  past (Look dir name) p reply c s = refers p dir s.allowed
  past (Drop ino) p reply c s = refers p ino s.allowed
  past (Create dir name kind mode) p reply c s = refers p dir (and_left (has_reference a p dir) _ s.allowed)
  past (AddLink ino) p reply c s = refers p ino (and_left (has_reference a p ino) _ s.allowed)
  past (Enter dir name ino) p reply c s = refers p dir (and_left (has_reference a p dir) _ s.allowed)
  past (SubLink ino) p reply c s = refers p ino (and_left (has_reference a p ino) _ s.allowed)
  past (Unlink dir name) p reply c s = refers p dir (and_left (has_reference a p dir) _ s.allowed)
  past (Rmdir dir name) p reply c s = refers p dir (and_left (has_reference a p dir) _ s.allowed)
  past (OpenFile ino mode) p reply c s = refers p ino (and_left (has_reference a p ino) _ s.allowed)
  past (CloseFile file) p reply c s = has file s.allowed
  past (DupFile file) p reply c s = has file s.allowed
  past (Read file count) p reply c s = clash _ (ap (λ (o : Option Opening). some_and o (λ x. steps.reads x.mode)) (no_file file)) s.allowed
  past (Write file bytes) p reply c s =
      clash _ (ap (λ (o : Option Opening). some_and o (λ x. steps.writes x.mode && nat_le (x.offset + length bytes) a.greatest)) (no_file file))
      (and_left (some_and (map.get a.files file) (λ x. steps.writes x.mode && nat_le (x.offset + length bytes) a.greatest)) _ s.allowed)
  past (Seek file offset whence) p reply c s = has file (and_left (has_file a file) _ s.allowed)
  past (Trunc ino) p reply c s = refers p ino s.allowed
  past (Stat ino) p reply c s = clash _ (neither (has_reference a p ino) (is_opened a ino) (unreferenced p ino) (unopened ino)) s.allowed
  past (Promise n) p reply c s = past_promise p n s.allowed
  past Forgo p reply c s = past_forgo p reply c s
  past Sync p reply c s = record { allowed = refl; right = s.right; nodes = m; is = s.changed; fewer = fewer; idle = idle }
  past Purge p reply c s = past_purge p reply c s

legal-past : (h : List Entry) (a b : Fs) (m : Nodes) → Fewer m a.nodes → is_idle a ≡ true → Leads h (pruned a m) b → IsLegal h a
legal-past [] a b m fewer idle is = tt
legal-past (e ∷ h) a b m fewer idle is =
    let next = past a m fewer idle e.op e.process e.reply is.0 is.1 in (
      record { allowed = next.allowed; right = next.right },
      legal-past h (change_of a e.process e.op e.reply) b next.nodes next.fewer next.idle (subst (λ (x : Fs). Leads h x b) next.is is.2),
    )

went-late : (a c : Fs) → HasPurgedSome a c → (m : Nodes) × ((c ≡ pruned a m) × Fewer m a.nodes)
went-late a c h = (
  map.retain_keys a.nodes (λ i. not (h.gone i)),
  (
    h.changed,
    λ i node e. held_some (not (h.gone i)) (map.get a.nodes i) node
        (sym (map.get-retain_keys a.nodes (λ i. not (h.gone i)) i (λ x tied. ap (λ (k : ℕ). not (h.gone k)) (sym (nat_cmp-IsAntisymmetric i x tied)))) ∙ e),
  ),
)

legal-from : (h : List Entry) (a c b : Fs) (p : ℕ) (op : Op) (reply : Reply) → condition a p op ≡ true → ((d : Fs) → Leads h d b → IsLegal h d) → (c ≡ change_of a p op reply) ⊎ WentLate a p op reply c → Leads h c b → IsLegal h (change_of a p op reply)
legal-from h a c b p op reply allowed on (inl e) rest = on (change_of a p op reply) (subst (λ (x : Fs). Leads h x b) e rest)
legal-from h a c b p op reply allowed on (inr late) rest =
    let left = went-late a c late.some in
    subst (λ (x : Fs). IsLegal h x) (sym late.stays) (legal-past h a b left.0 left.1.1 (late.idle allowed) (subst (λ (x : Fs). Leads h x b) left.1.0 rest))

pub leads-legal : (h : List Entry) (a b : Fs) → Leads h a b → IsLegal h a
leads-legal [] a b is = tt
leads-legal (e ∷ h) a b is = (
  record { allowed = is.1.allowed; right = is.1.right },
  legal-from h a is.0 b e.process e.op e.reply is.1.allowed (λ d more. leads-legal h d b more) (after-is e.op a e.process e.reply is.0 is.1.changed) is.2,
)
