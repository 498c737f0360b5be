-- A name that is entered: the page, and the steps one after another.
use Rattle.std.proofs.Common.{◌≡◌, ℕ, ◌+◌, ◌*◌, ◌/◌, List, max, Some, option_map, unwrap_or, sym, ap, ◌∙◌}
use Rattle.std.specs.FinMap as map
use Rattle.sv_form.specs.Name.{IsName}
use Rattle.sv_form.specs.Node.{Node, entry_count}
use Rattle.sv_plain.specs.Fs.{Fs, insert_some, changed, with_page, with_page_of}
use Rattle.sv_plain.specs.Names.{empty_place}
use Rattle.sv_form.specs.NodeChanges.{page_after}
use Rattle.sv_plain.specs.Change.{entry_bytes, with_entry, spent}
use Rattle.sv_plain.specs.Entered.{with_size, with_sized_page}
use Rattle.sv_plain.specs.Step.{enter_change}
use Rattle.sv_plain.specs.Needs.{enter_need}
use Rattle.sv_plain.specs.declared.history.reply.Reply.TheVariants.{Entered}
use Rattle.sv_plain.specs.Whole.{IsWhole}
use Rattle.sv_plain.proofs.ClearedEntry.{changed-twice}
use Rattle.sv_plain.proofs.EntryPut.{put-is}
use Rattle.sv_plain.proofs.KeepsEntered.{length-entry}

-- the page of directory d once the name was entered
pub page-entered : (fs : Fs) (d i : ℕ) (name : List ℕ) (node : Node) → IsWhole fs → map.get fs.nodes d ≡ Some node → IsName name
    → (let j : ℕ = unwrap_or (empty_place fs.block node) (entry_count node) in
    option_map (with_sized_page (16 * j / fs.block) (page_after fs.block node (16 * j) (entry_bytes i name) (16 * j / fs.block)) (max node.size (16 * j + 16))) (map.get fs.nodes d)
    ≡ option_map (with_entry fs.block i name) (map.get fs.nodes d))
page-entered fs d i name node w there is_name =
    let j : ℕ = unwrap_or (empty_place fs.block node) (entry_count node) in
    let f : Node → Node = with_sized_page (16 * j / fs.block) (page_after fs.block node (16 * j) (entry_bytes i name) (16 * j / fs.block)) (max node.size (16 * j + 16)) in
    ap (option_map f) there
    ∙ ap Some (sym (put-is fs.block node j (entry_bytes i name) w.sized.entries (length-entry i name is_name)))
    ∙ sym (ap (option_map (with_entry fs.block i name)) there)

-- a page is put, and the size
pub page-and-size : (fs s1 s2 : Fs) (d number size : ℕ) (bytes : List ℕ) → s1 ≡ with_page_of fs d number bytes → s2 ≡ record s1 { nodes = changed s1.nodes d (with_size size) }
    → s2 ≡ record fs { nodes = changed fs.nodes d (with_sized_page number bytes size) }
page-and-size fs s1 s2 d number size bytes e1 e2 =
    e2
    ∙ ap (λ (s : Fs). record s { nodes = changed s.nodes d (with_size size) }) e1
    ∙ ap (λ m. record fs { nodes = m }) (changed-twice fs.nodes d (with_page number bytes) (with_size size))

-- the name is entered, the promise pays for it, and nothing is pending any more
pub enter-steps : (fs s1 s2 s3 : Fs) (p d i number size need : ℕ) (bytes name : List ℕ)
    → s1 ≡ record fs { nodes = changed fs.nodes d (with_sized_page number bytes size) }
    → s2 ≡ record s1 { promises = spent s1 p need } → s3 ≡ record s2 { pending = map.remove s2.pending p }
    → option_map (with_sized_page number bytes size) (map.get fs.nodes d) ≡ option_map (with_entry fs.block i name) (map.get fs.nodes d) → need ≡ enter_need fs d name
    → s3 ≡ enter_change fs p d name i Entered
enter-steps fs s1 s2 s3 p d i number size need bytes name e1 e2 e3 same paid =
    e3
    ∙ ap (λ (s : Fs). record s { pending = map.remove s.pending p }) (e2 ∙ ap (λ (s : Fs). record s { promises = spent s p need }) e1)
    ∙ (λ k. record fs { nodes = insert_some fs.nodes d (same k); promises = spent fs p (paid k); pending = map.remove fs.pending p })
