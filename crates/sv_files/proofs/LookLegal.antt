-- What a search of a locked directory told makes a legal Look, whatever file system the pass's view allows.
use Rattle.std.proofs.Common.{◌≡◌, ◌≢◌, ◌<◌, ◌==◌, ℕ, true, false, List, [], ◌∷◌, Option, Some}
use Rattle.std.proofs.Common.{Result, Ok, Err, option_and_then, refl, sym, ap, subst, ◌∙◌, arith}
use Rattle.std.specs.FinMap as map
use Rattle.std.proofs.lemmas.Bool.Decides.{nat_tests}
use Rattle.sv_form.specs.Node.{Node, is_dir}
use Rattle.sv_form.specs.NodeNames.{child_of}
use Rattle.sv_store.specs.Held.{Origin}
use Rattle.sv_plain.specs.declared.history.op.Op.TheVariants.{Look}
use Rattle.sv_plain.specs.Fs.{Fs}
use Rattle.sv_plain.specs.Names.{child, has_reference, is_directory, is_open_to_names, links_of, references_of, some_and}
use Rattle.sv_plain.specs.Step.{Step, look_replies}
use Rattle.sv_plain.specs.Totals.{at_or_0}
use Rattle.sv_files.specs.declared.in_core.InCore.{InCore}
use Rattle.sv_files.specs.declared.search.Miss.{Miss}
use Rattle.sv_files.specs.declared.search.Miss.TheVariants as miss
use Rattle.sv_files.specs.View.{View, Mount, Proc, Seen, lock_of, lock_seen, of_one, times}
use Rattle.sv_files.specs.FileRule.{StandsAs}
use Rattle.sv_files.specs.Adding.{KeepsAll, Sees}
use Rattle.sv_files.specs.Looking.{FindsAll, Searches, miss_reply}
use Rattle.sv_files.proofs.StatLegal.{refers}

no-zero : (n : ℕ) → n ≢ 0 → (n == 0) ≡ false
no-zero n e = grind (arith, nat_tests)

yes-zero : (n : ℕ) → n ≡ 0 → (n == 0) ≡ true
yes-zero n e = grind (arith, nat_tests)

directory-is : (fs : Fs) (d : ℕ) (node : Node) → map.get fs.nodes d ≡ Some node → is_directory fs d ≡ is_dir node.kind
directory-is fs d node known = ap (λ o. some_and o (λ (n : Node). is_dir n.kind)) known

links-are : (fs : Fs) (d : ℕ) (node : Node) → map.get fs.nodes d ≡ Some node → links_of fs d ≡ node.links
links-are fs d node known = ap (at_or_0 (λ (n : Node). n.links)) known

open-is : (fs : Fs) (d : ℕ) (node : Node) → map.get fs.nodes d ≡ Some node → is_dir node.kind ≡ true → node.links ≢ 0
    → is_open_to_names fs d ≡ true
open-is fs d node known dir links =
    rw (directory-is fs d node known, links-are fs d node known, dir, no-zero node.links links) refl

child-is : (fs : Fs) (d block : ℕ) (node : Node) (name : List ℕ) → map.get fs.nodes d ≡ Some node → fs.block ≡ block
    → child fs d name ≡ child_of block node name
child-is fs d block node name known size =
    ap (option_and_then (λ n. child_of fs.block n name)) known ∙ ap (λ b. child_of b node name) size

-- what is known of the directory, in each file system that the view allows
record Directory (fs : Fs) (process d : ℕ) (name : List ℕ) (result : Result ℕ Miss) : Type 0 where
  allowed : has_reference fs process d ≡ true
  node : Node
  known : map.get fs.nodes d ≡ Some node
  told : Searches fs.block node name result

directory : (m : Mount) (p : Proc) (d process : ℕ) (core : Option InCore) (z : Seen) (name : List ℕ) (result : Result ℕ Miss)
    → lock_seen (lock_of d core z) ≡ z → p.process ≡ process → 0 < times d p.references
    → ((o : Origin) (node : Node) → StandsAs o d core z node → Searches o.sizes.block_size node name result)
    → (fs : Fs) → Sees (of_one m p (lock_of d core z ∷ [])) fs → Directory fs process d name result
directory m p d process core z name result noted mine some told fs sees = record {
  allowed = refers (references_of fs process d) (times d p.references) (subst (λ q. references_of fs q d ≡ times d p.references) mine
      (sees.references.0 d)) some;
  node = sees.locked.0.node;
  known = sees.locked.0.known;
  told = subst (λ b. Searches b sees.locked.0.node name result) (sym sees.block.0)
      (told z.origin sees.locked.0.node (subst (λ w. StandsAs z.origin d core w sees.locked.0.node) noted sees.locked.0.stands));
}

pub look-finds : (m : Mount) (p : Proc) (v : View) (d process : ℕ) (core : Option InCore) (z : Seen) (name : List ℕ) (c : ℕ)
    → v ≡ of_one m p (lock_of d core z ∷ []) → lock_seen (lock_of d core z) ≡ z → p.process ≡ process → 0 < times d p.references
    → ((o : Origin) (node : Node) → StandsAs o d core z node → Searches o.sizes.block_size node name (Ok c))
    → FindsAll v process d name c
look-finds m p v d process core z name c is noted mine some told =
    subst (λ w. FindsAll w process d name c) (sym is) (λ fs sees.
    let at = directory m p d process core z name (Ok c) noted mine some told fs sees in record {
      allowed = at.allowed;
      live = open-is fs d at.node at.known at.told.0 at.told.1;
      leads = child-is fs d fs.block at.node name at.known refl ∙ at.told.2;
    })

miss-right : (fs : Fs) (process d : ℕ) (name : List ℕ) (m : Miss) → Directory fs process d name (Err m)
    → look_replies fs d name (miss_reply m) ≡ true
miss-right fs process d name miss.NotDir at = rw (directory-is fs d at.node at.known, at.told) refl
miss-right fs process d name miss.Gone at =
    rw (directory-is fs d at.node at.known, links-are fs d at.node at.known, at.told.0, yes-zero at.node.links at.told.1) refl
miss-right fs process d name miss.NotFound at =
    rw (open-is fs d at.node at.known at.told.0 at.told.1, child-is fs d fs.block at.node name at.known refl, at.told.2) refl
miss-right fs process d name miss.Fault at = refl

miss-step : (fs : Fs) (process d : ℕ) (name : List ℕ) (m : Miss) → Directory fs process d name (Err m)
    → Step fs process (Look d name) (miss_reply m) fs
miss-step fs process d name miss.NotDir at =
    record { allowed = at.allowed; right = miss-right fs process d name miss.NotDir at; changed = refl }
miss-step fs process d name miss.Gone at =
    record { allowed = at.allowed; right = miss-right fs process d name miss.Gone at; changed = refl }
miss-step fs process d name miss.NotFound at =
    record { allowed = at.allowed; right = miss-right fs process d name miss.NotFound at; changed = refl }
miss-step fs process d name miss.Fault at =
    record { allowed = at.allowed; right = miss-right fs process d name miss.Fault at; changed = refl }

none-more : (d : ℕ) (name : List ℕ) (m : Miss) (v : View) (process : ℕ) → ((fs : Fs) → Sees v fs
    → Step fs process (Look d name) (miss_reply m) fs)
    → KeepsAll v (record { process = process; op = Look d name; reply = miss_reply m })
none-more d name miss.NotDir v process steps = record { none = λ rs. refl; steps = steps }
none-more d name miss.Gone v process steps = record { none = λ rs. refl; steps = steps }
none-more d name miss.NotFound v process steps = record { none = λ rs. refl; steps = steps }
none-more d name miss.Fault v process steps = record { none = λ rs. refl; steps = steps }

pub look-misses : (m : Mount) (p : Proc) (v : View) (d process : ℕ) (core : Option InCore) (z : Seen) (name : List ℕ) (why : Miss)
    → v ≡ of_one m p (lock_of d core z ∷ []) → lock_seen (lock_of d core z) ≡ z → p.process ≡ process → 0 < times d p.references
    → ((o : Origin) (node : Node) → StandsAs o d core z node → Searches o.sizes.block_size node name (Err why))
    → KeepsAll v (record { process = process; op = Look d name; reply = miss_reply why })
look-misses m p v d process core z name why is noted mine some told =
    subst (λ w. KeepsAll w (record { process = process; op = Look d name; reply = miss_reply why })) (sym is)
    (none-more d name why (of_one m p (lock_of d core z ∷ [])) process (λ fs sees. miss-step fs process d name why
    (directory m p d process core z name (Err why) noted mine some told fs sees)))
