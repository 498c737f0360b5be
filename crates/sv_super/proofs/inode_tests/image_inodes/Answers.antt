-- The cached numbers are free, each once.
use Rattle.std.proofs.Common.{◌≡◌, Bool, true, false, List, ◌∷◌, replicate, set, ap, ◌∙◌}
use Rattle.sv_super.specs.Inodes.{is_free_inode}
use Rattle.sv_super.proofs.GivenCaches.{each-in, image-free, image-once, image_cache, once-in}
use Rattle.sv_super.proofs.inode_tests.image_inodes.Goals as goal

pub new-requires-clause-free : goal.new-requires-clause-free
new-requires-clause-free c =
    each-in (is_free_inode c.as_slice.result.now) image_cache
    (image-free c.as_slice.result.now (c.as_slice.ensures.value ∙ ap (λ q. set (set q 0 true) 1 true) c.in_ok-used.ensures))

pub new-requires-clause-once : goal.new-requires-clause-once
new-requires-clause-once c = once-in image_cache image-once
