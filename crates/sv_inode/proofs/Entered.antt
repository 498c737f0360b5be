-- The sixteen bytes of an entry are put, or none of them: they lie in one page.
use Rattle.std.proofs.Common.{◌≡◌, ◌+◌, ◌*◌, ◌%◌, inl, inr, ℕ, List, length, Result, Err, arith, refl, sym, ap, ◌∙◌, subst}
use Rattle.sv_form.specs.Node.{Node}
use Rattle.sv_form.specs.NodeChanges.{put}
use Rattle.sv_form.specs.NodeNames.{spelling, with_entry}
use Rattle.sv_form.specs.declared.inode.InodeBody.{InodeBody}
use Rattle.sv_store.specs.Held.{Held, Origin}
use Rattle.sv_super.specs.Core.{Core}
use Rattle.sv_inode.specs.Enter.{entry_place, if_entered}
use Rattle.sv_inode.specs.Frames.{KeepsRoom}
use Rattle.sv_inode.specs.StandsFor.{StandsFor}
use Rattle.sv_inode.specs.Write.{MovesBlocks, StopsAt, done_by, write_need}
use Rattle.sv_inode.specs.declared.stop.WriteStop.{WriteStop}
use Rattle.sv_inode.specs.declared.stop.WriteStop.TheVariants.{Short, NoMemory}
use Rattle.sv_inode.proofs.PutBack.{need-same, takes-none, takes-together}
use Rattle.sv_inode.proofs.WrittenNode.{put-nothing}

-- a write of an entry that stops has put nothing
pub stopped-none : (T rose : Type 0) (block place all : ℕ) (stop : WriteStop) → block ≡ 1024 → all ≡ 16
    → StopsAt block (16 * place) all rose stop → done_by {T = T} all (Err stop) ≡ 0
stopped-none T rose block place all (Short done) e many (low, (inl none, risen)) = none
stopped-none T rose block place all (Short done) e many (low, (inr end, risen)) =
    (let here : (16 * place + done) % 1024 ≡ 0 = sym (ap (λ b. (16 * place + done) % b) e) ∙ end in
    omega (arith, here, low, many))
stopped-none T rose block place all (NoMemory done) e many none = none

pub unput : {o : Origin} {h : Held} {body : InodeBody} {node : Node} (block at : ℕ) (bytes : List ℕ) → length bytes ≡ 0
    → StandsFor o h body (put block node at bytes) → StandsFor o h body node
unput {o} {h} {body} {node} block at bytes e stands =
    let P : Node → Type 0 = λ q. StandsFor o h body q in
    subst P (put-nothing block node at bytes (omega (arith, e))) stands

pub moves-since : {S : Type 0} {held : S → Held} {need need' : ℕ} {old new : Core S} {h h' k : Held} → need' ≡ need → h' ≡ h
    → MovesBlocks held need' old new h' k → MovesBlocks held need old new h k
moves-since {held = held} {need = need} {need' = need'} {old = old} {new = new} {h = h} {h' = h'} {k = k} e f moves =
    let P : ℕ → Type 0 = λ q. MovesBlocks held q old new h k in
    let Q : Held → Type 0 = λ q. MovesBlocks held need' old new q k in
    subst P e (subst Q f moves)

pub room-since : {all all' done done' old new : ℕ} → all' ≡ all → done' ≡ done → KeepsRoom all' done' old new
    → KeepsRoom all done old new
room-since e f kept = record { most = omega (arith, e, kept.most); least = omega (arith, e, f, kept.least) }

-- nothing was taken
pub moves-none : {S : Type 0} {held : S → Held} {need : ℕ} (core : Core S) {h h' : Held} → need ≡ 0 → h' ≡ h
    → MovesBlocks held need core core h h'
moves-none {held = held} core e f = record {
  takes = takes-none e (λ b. refl) (record { at = λ b l. refl }) f;
  left = omega (arith, e);
  together = takes-together {held = held} (takes-none {held = held} {first = core} {new = core} e (λ b. refl) (record { at = λ b l. refl }) f);
  others = λ b l gone. refl;
}

pub room-none : {all done spare : ℕ} → done ≡ 0 → KeepsRoom all done spare spare
room-none e = record { most = omega arith; least = omega (arith, e) }

-- the place that was found is that of the node
pub entry-need : {o o' : Origin} {h h' : Held} (a : List ℕ) (node : Node) (place count : ℕ) → o' ≡ o → h' ≡ h
    → place ≡ entry_place o.sizes.block_size node
    → write_need o'.sizes h' a (16 * place) count ≡ write_need o.sizes h a (16 * entry_place o.sizes.block_size node) count
entry-need {o} {h = h} a node place count e f at =
    need-same (16 * place) count e f refl ∙ ap (λ q. write_need o.sizes h a (16 * q) count) at

pub node-entered : {T E : Type 0} {o o' p : Origin} {h : Held} {body : InodeBody} (r : Result T E) (node : Node) (place inode : ℕ)
    (bytes name : List ℕ) → o' ≡ o → place ≡ entry_place o.sizes.block_size node → bytes ≡ spelling inode name
    → StandsFor p h body (if_entered r node (put o'.sizes.block_size node (16 * place) bytes))
    → StandsFor p h body (if_entered r node (with_entry o.sizes.block_size inode name node))
node-entered {o = o} {o' = o'} {p = p} {h = h} {body = body} r node place inode bytes name e at spelled stands =
    let P : Origin → Type 0 = λ q. StandsFor p h body (if_entered r node (put q.sizes.block_size node (16 * place) bytes)) in
    let Q : ℕ → Type 0 = λ q. StandsFor p h body (if_entered r node (put o.sizes.block_size node (16 * q) bytes)) in
    let R : List ℕ → Type 0 = λ q. StandsFor p h body
    (if_entered r node (put o.sizes.block_size node (16 * entry_place o.sizes.block_size node) q)) in
    subst R spelled (subst Q at (subst P e stands))
