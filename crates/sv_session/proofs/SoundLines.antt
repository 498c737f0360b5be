-- The line of a sound image from what its check leaves.
use Rattle.std.proofs.Common.{◌≡◌, ◌∙◌, ℕ, List, ap, length}
use Rattle.sv_form.specs.declared.geometry.Geometry.{Geometry}
use Rattle.sv_form.specs.declared.owners.Mounted.{Mounted}
use Rattle.sv_form.specs.Geometry.{inode_count}
use Rattle.sv_check.specs.Chain.{chained}
use Rattle.sv_check.specs.InodeList.{used_inodes}
use Rattle.sv_check.specs.Sound.{IsMountedFrom}
use Rattle.sv_session.specs.SoundLine.{counts_line, sound_line}

pub line_of_counts : (image : List ℕ) (m : Mounted) → IsMountedFrom image m → (free inodes used : ℕ) → free ≡ length (chained m.geometry image) → inodes ≡ inode_count m.geometry
    → used ≡ length (used_inodes m.geometry image) → counts_line m.geometry.blocks free inodes used ≡ sound_line image
unfolding sound_line
line_of_counts image m from free inodes used is_free is_inodes is_used =
    ap (λ (k : ℕ). counts_line m.geometry.blocks k inodes used) is_free ∙ ap (λ (k : ℕ). counts_line m.geometry.blocks (length (chained m.geometry image)) k used) is_inodes
    ∙ ap (λ (k : ℕ). counts_line m.geometry.blocks (length (chained m.geometry image)) (inode_count m.geometry) k) is_used
    ∙ ap (λ (g : Geometry). counts_line g.blocks (length (chained g image)) (inode_count g) (length (used_inodes g image))) from.geometry
